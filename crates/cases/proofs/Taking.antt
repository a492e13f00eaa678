-- Parts that are taken one after the other are one part, and the book of a case still stands in what was taken.
-- Assumes nothing.
use mathlib.Core.Logic.{inl, inr}
use Rattle.std.proofs.Common.{◌≡◌, ℕ, ◌+◌, ◌-◌, List, length, drop, take, refl, ap, arith, length-drop}
use Rattle.std.proofs.lemmas.List.{drop-drop}
use Rattle.cases.specs.declared.parts.Parts.{Parts}
use Rattle.cases.specs.Places.{BookPlaced, CasePlaced, CaseTaken, PartTaken}

-- what is behind a number of bytes, and behind a further one
drop-two : {A : Type 0} (n m : ℕ) (xs ys zs : List A) → ys ≡ drop n xs → zs ≡ drop m ys → zs ≡ drop (n + m) xs
drop-two n m xs ys zs e e' = rw e' (rw e (drop-drop m n xs))

-- it is shorter by them
length-two : {A : Type 0} (n : ℕ) (xs ys : List A) → ys ≡ drop n xs → length ys ≡ length xs - n
length-two n xs ys e = rw e (length-drop n xs)

pub none-placed : (a : Parts) → CasePlaced a a
none-placed a = record { taken = 0; within = omega arith; rest-is = refl; book-is = inl refl }

pub part-placed : {n : ℕ} {a b : Parts} → PartTaken n a b → CasePlaced a b
part-placed {n} t = record { taken = n; within = t.within; rest-is = t.rest-is; book-is = inl t.book-is }

books : (n m : ℕ) (a b c : Parts) → b.rest.now ≡ drop n a.rest.now → BookPlaced n a b → BookPlaced m b c → BookPlaced (n + m) a c
books n m a b c rest (inl e) (inl e') = inl (rw e' e)
books n m a b c rest (inr (start, size, within, is)) (inl e') = inr (start, size, omega (arith, within), rw e' is)
books n m a b c rest before (inr (start, size, within, is)) =
    inr (n + start, size, omega (arith, within), rw is (ap (take size) (drop-two n start _ _ _ rest refl)))

pub case-case : {a b c : Parts} → CasePlaced a b → CasePlaced b c → CasePlaced a c
case-case {a} {b} {c} s t = record {
  taken = s.taken + t.taken;
  within = omega (arith, s.within, t.within, length-two s.taken a.rest.now b.rest.now s.rest-is);
  rest-is = drop-two s.taken t.taken _ _ _ s.rest-is t.rest-is;
  book-is = books s.taken t.taken a b c s.rest-is s.book-is t.book-is;
}

pub head-taken : {a b c : Parts} → PartTaken 4 a b → CasePlaced b c → CaseTaken a c
head-taken {a} {b} {c} t s = (
  case-case (part-placed t) s,
  omega (
    arith,
    t.within,
    length-two 4 a.rest.now b.rest.now t.rest-is,
    length-two s.taken b.rest.now c.rest.now s.rest-is,
  ),
)
