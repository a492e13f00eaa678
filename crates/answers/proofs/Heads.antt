-- Laws of the lesser head of two lists that read well.
--     head_read, head-bad, head-within     by the lists' names; of a refused list; the bytes that a head names are there
--     lesser_name, shown-is     the name that is shown
--     merged-shows, merged-onward     it is the first of the union, whose others come from what is passed
--     screen-shows      turn by turn the names of the union, and then nothing
-- Assumes nothing.
use Prim.Native.Nat.{ℕ, zero, suc, ◌+◌, ◌≤◌, ◌<◌, zero-le}
use native.Mathlib.Nat.{le_of_suc-le-suc, not-suc-le-zero}
use native.Mathlib.Decide.{ℕ_discrete}
use native.Mathlib.Omega.{arith}
use mathlib.Core.Path.{◌≡◌, refl, sym, ap, ap₂, ◌∙◌, subst}
use mathlib.Core.Bool.{Bool, true, false}
use mathlib.Core.List.{List, [], ◌∷◌}
use lib.Dec.{eqb}
use lib.ListN.{drop, drop_of_length-le, get_or, length, length-drop}
use lib.Seq.{drop-drop, get_or-drop}
use Rattle.words.specs.Words.{Bytes, less, pick, plain, same, word}
use Rattle.words.proofs.Words.{Ordered, equal, false≠true, greater, less-asym, less-irrefl, lesser, ordered, plain-injective, plain-sure, same_refl, same_true, word-injective, word-positive}
use Rattle.format.specs.Alone.{Reads}
use Rattle.format.specs.Merging.{merged}
use Rattle.format.specs.Records.{rising}
use Rattle.format.proofs.Merging.{merged-both, merged-first, merged-none, merged-second, rising-drop}
use Rattle.format.proofs.Records.{ReadNames, encode-fits, encode-name, read_names, rising-first}
use Rattle.answers.specs.Heads.{Head, bytes_of, head_at, head_of, lesser_head, screen}
use Rattle.answers.specs.Merging.{judge_lists}
use Rattle.answers.proofs.Merging.{both-made, judged-bad, judged-sound}

unfoldable pub lesser_name : List Bytes → List Bytes → Bytes
lesser_name [] [] = []
lesser_name (x ∷ xs) [] = x
lesser_name [] (y ∷ ys) = y
lesser_name (x ∷ xs) (y ∷ ys) = pick (less (word plain y) (word plain x)) y x

-- the list that a head stands in
abbrev pub list_of : Bytes → Bytes → Head → Bytes
list_of s t h = pick (eqb h.0 2) t s

abbrev Fits : Bytes → Bytes → Head → Type 0
Fits s t h = h.1 + h.2 ≤ length (list_of s t h)

pub head-bad : (s t : Bytes) (i j : ℕ) → ((judge_lists s t).code ≡ 0 → ⊥) → head_of s t i j ≡ (1, 0, 0)
unfolding head_of
head-bad s t i j n = judged-bad s t n (λ a. (1, 0, 0)) (λ xs ys. lesser_head (head_at 1 i xs) (head_at 2 j ys) (drop i xs) (drop j ys))

-- a list from a name on has that name at its front
record From (i : ℕ) (xs : List Bytes) (x : Bytes) : Type 0 where
  inside : i < length xs
  is : get_or xs i [] ≡ x

from : (i : ℕ) (xs : List Bytes) (x : Bytes) (others : List Bytes) → drop i xs ≡ x ∷ others → From i xs x
from i xs x others e = record {
  inside = omega (arith, ap length e, length-drop i xs);
  is = let z : i ≡ i + 0 = omega arith in ap (λ (n : ℕ). get_or xs n []) z ∙ sym (get_or-drop i xs 0 []) ∙ ap (λ (l : List Bytes). get_or l 0 []) e;
}

module _ {s t : Bytes} {xs ys : List Bytes} (p : Reads s xs) (q : Reads t ys) where
  a : ReadNames plain (length s) s xs
  a = read_names plain (length s) s xs p.names

  b : ReadNames plain (length t) t ys
  b = read_names plain (length t) t ys q.names

  pub head_read : (i j : ℕ) → head_of s t i j ≡ lesser_head (head_at 1 i xs) (head_at 2 j ys) (drop i xs) (drop j ys)
  unfolding head_of
  head_read i j = both-made p q (λ a. (1, 0, 0)) (λ xs ys. lesser_head (head_at 1 i xs) (head_at 2 j ys) (drop i xs) (drop j ys))

  -- ---- the head of either list

  first-name : (i : ℕ) (x : Bytes) → From i xs x → bytes_of s t (head_at 1 i xs) ≡ x
  first-name i x f = subst (λ (l : Bytes). bytes_of l t (head_at 1 i xs) ≡ get_or xs i []) a.bytes (encode-name xs i f.inside) ∙ f.is

  second-name : (j : ℕ) (y : Bytes) → From j ys y → bytes_of s t (head_at 2 j ys) ≡ y
  second-name j y f = subst (λ (l : Bytes). bytes_of s l (head_at 2 j ys) ≡ get_or ys j []) b.bytes (encode-name ys j f.inside) ∙ f.is

  first_fits : (i : ℕ) → i < length xs → Fits s t (head_at 1 i xs)
  first_fits i h = omega (arith, encode-fits xs i h, ap length a.bytes)

  second_fits : (j : ℕ) → j < length ys → Fits s t (head_at 2 j ys)
  second_fits j h = omega (arith, encode-fits ys j h, ap length b.bytes)

  -- what holds of the heads of lists that go on holds of the one that is shown
  shown : (P : Head → Bytes → Type 0) (i j : ℕ) → P (1, 0, 0) [] → ((x : Bytes) → From i xs x → P (head_at 1 i xs) x) → ((y : Bytes) → From j ys y → P (head_at 2 j ys) y)
      → P (head_of s t i j) (lesser_name (drop i xs) (drop j ys))
  unfolding lesser_head lesser_name
  shown P i j none one other = rw (head_read i j) (go (drop i xs) (drop j ys) refl refl)
    where
      go : (us vs : List Bytes) → drop i xs ≡ us → drop j ys ≡ vs → P (lesser_head (head_at 1 i xs) (head_at 2 j ys) us vs) (lesser_name us vs)
      go [] [] d e = none
      go (u ∷ us) [] d e = one u (from i xs u us d)
      go [] (v ∷ vs) d e = other v (from j ys v vs e)
      go (u ∷ us) (v ∷ vs) d e = chosen (less (word plain v) (word plain u))
        where
          chosen : (t : Bool) → P (pick t (head_at 2 j ys) (head_at 1 i xs)) (pick t v u)
          chosen true = other v (from j ys v vs e)
          chosen false = one u (from i xs u us d)

  pub shown-is : (i j : ℕ) → bytes_of s t (head_of s t i j) ≡ lesser_name (drop i xs) (drop j ys)
  shown-is i j = shown (λ h x. bytes_of s t h ≡ x) i j refl (first-name i) (second-name j)

  read-within : (i j : ℕ) → Fits s t (head_of s t i j)
  read-within i j = shown (λ h x. Fits s t h) i j zero-le (λ x f. first_fits i f.inside) (λ y f. second_fits j f.inside)

-- whatever the lists are
pub head-within : (s t : Bytes) (i j : ℕ) → (head_of s t i j).1 + (head_of s t i j).2 ≤ length (list_of s t (head_of s t i j))
head-within s t i j = elim (ℕ_discrete (judge_lists s t).code 0) [
  | yes e ↦ let r = judged-sound s t e in read-within r.first r.second i j
  | no n ↦ subst (λ (h : Head). Fits s t h) (sym (head-bad s t i j n)) zero-le
]

-- ---- a screen that goes on

-- a list's own head
abbrev own : List Bytes → Bytes
own xs = get_or xs 0 []

-- how many of a list's records are passed where a name is shown
abbrev passed : List Bytes → Bytes → ℕ
passed xs name = pick (same (own xs) name) 1 0

not_same : (x y : Bytes) → (x ≡ y → ⊥) → same x y ≡ false
not_same x y n = go (same x y) refl
  where
    go : (t : Bool) → same x y ≡ t → t ≡ false
    go true e = absurd (n (same_true x y e))
    go false e = refl

less-not : (x y : Bytes) → less (word plain x) (word plain y) ≡ true → x ≡ y → ⊥
less-not x y h e = false≠true (sym (less-irrefl (word plain x)) ∙ ap (λ (z : Bytes). less (word plain x) (word plain z)) e ∙ h)

-- the name that is shown is the first of the union; the others are the union of what is left
record Onward (xs ys : List Bytes) : Type 0 where
  is : own (merged plain xs ys) ≡ lesser_name xs ys
  others : drop 1 (merged plain xs ys) ≡ merged plain (drop (passed xs (lesser_name xs ys)) xs) (drop (passed ys (lesser_name xs ys)) ys)

module _ (x y : Bytes) (xs ys : List Bytes) (r : rising plain y ys ≡ true) where
  abbrev both-heads : Bytes → Type 0
  both-heads name = (own (merged plain (x ∷ xs) (y ∷ ys)) ≡ name) × (drop 1 (merged plain (x ∷ xs) (y ∷ ys)) ≡ merged plain (drop (passed (x ∷ xs) name) (x ∷ xs)) (drop (passed (y ∷ ys) name) (y ∷ ys)))

  two-heads : Ordered (word plain x) (word plain y) → both-heads (pick (less (word plain y) (word plain x)) y x)
  two-heads (lesser h) =
      let back : less (word plain y) (word plain x) ≡ false = less-asym (word plain x) (word plain y) h in
      let m = merged-first plain x y xs ys h r in
      rw back (ap own m, ap (drop 1) m ∙ rw (same_refl x, not_same y x (λ e. less-not x y h (sym e))) refl)
  two-heads (equal e) =
      let one : x ≡ y = word-injective plain plain-injective x y e in
      let back : less (word plain y) (word plain x) ≡ false = ap (λ (z : Bytes). less (word plain y) (word plain z)) one ∙ less-irrefl (word plain y) in
      let m = merged-both plain x y xs ys e r in
      let also : same y x ≡ true = ap (same y) one ∙ same_refl y in
      rw back (ap own m, ap (drop 1) m ∙ rw (same_refl x, also) refl)
  two-heads (greater h) =
      let m = merged-second plain x y xs ys h in
      rw h (ap own m, ap (drop 1) m ∙ rw (same_refl y, not_same x y (λ e. less-not y x h (sym e))) refl)

drop-none : (n : ℕ) → drop {A = Bytes} n [] ≡ []
drop-none n = drop_of_length-le [] {i = n} zero-le

onward : (xs ys : List Bytes) → rising plain [] ys ≡ true → Onward xs ys
unfolding lesser_name merged
onward [] [] r = record { is = refl; others = let none = sym (drop-none (passed [] [])) in ap₂ (merged plain) none none }
onward (x ∷ xs) [] r = record {
  is = ap own (merged-none plain (x ∷ xs));
  others = ap (drop 1) (merged-none plain (x ∷ xs)) ∙ rw (same_refl x, drop-none (passed [] x)) (sym (merged-none plain xs));
}
onward [] (y ∷ ys) r = record { is = refl; others = rw (same_refl y, drop-none (passed [] y)) refl }
onward (x ∷ xs) (y ∷ ys) r =
    let h = two-heads x y xs ys (rising-first plain [] y ys r).rest (ordered (word plain x) (word plain y) (word-positive plain plain-sure x) (word-positive plain plain-sure y)) in
    record { is = h.0; others = h.1 }

module _ {s t : Bytes} {xs ys : List Bytes} (p : Reads s xs) (q : Reads t ys) where
  -- a list's own head is shown where the other is exhausted
  first-own : (i : ℕ) → bytes_of s t (head_of s t i (length t)) ≡ own (drop i xs)
  unfolding lesser_name
  first-own i = shown-is p q i (length t) ∙ ap (lesser_name (drop i xs)) (drop_of_length-le ys {i = length t} (read_names plain (length t) t ys q.names).few) ∙ alone (drop i xs)
    where
      alone : (zs : List Bytes) → lesser_name zs [] ≡ own zs
      alone [] = refl
      alone (z ∷ zs) = refl

  second-own : (j : ℕ) → bytes_of s t (head_of s t (length s) j) ≡ own (drop j ys)
  unfolding lesser_name
  second-own j = shown-is p q (length s) j ∙ ap (λ (l : List Bytes). lesser_name l (drop j ys)) (drop_of_length-le xs {i = length s} (read_names plain (length s) s xs p.names).few) ∙ alone (drop j ys)
    where
      alone : (zs : List Bytes) → lesser_name [] zs ≡ own zs
      alone [] = refl
      alone (z ∷ zs) = refl

  next : (i j : ℕ) → Onward (drop i xs) (drop j ys)
  next i j = onward (drop i xs) (drop j ys) (rising-drop plain plain-sure j ys (read_names plain (length t) t ys q.names).rises)

  pub screen-shows : (turns i j n : ℕ) → n < turns → get_or (screen turns s t i j) n [] ≡ get_or (merged plain (drop i xs) (drop j ys)) n []
  unfolding screen
  screen-shows zero i j n h = absurd (not-suc-le-zero h)
  screen-shows (suc turns) i j zero h = shown-is p q i j ∙ sym (next i j).is
  screen-shows (suc turns) i j (suc n) h =
      screen-shows turns (i + u) (j + v) n (le_of_suc-le-suc h)
      ∙ ap (λ (l : List Bytes). get_or l n []) (ap₂ (merged plain) left right ∙ sym (next i j).others)
      ∙ behind (merged plain (drop i xs) (drop j ys)) n
    where
      name : Bytes
      name = bytes_of s t (head_of s t i j)

      u : ℕ
      u = pick (same (bytes_of s t (head_of s t i (length t))) name) 1 0

      v : ℕ
      v = pick (same (bytes_of s t (head_of s t (length s) j)) name) 1 0

      left : drop (i + u) xs ≡ drop (passed (drop i xs) (lesser_name (drop i xs) (drop j ys))) (drop i xs)
      left = sym (drop-drop u i xs) ∙ ap₂ (λ (a b : Bytes). drop (pick (same a b) 1 0) (drop i xs)) (first-own i) (shown-is p q i j)

      right : drop (j + v) ys ≡ drop (passed (drop j ys) (lesser_name (drop i xs) (drop j ys))) (drop j ys)
      right = sym (drop-drop v j ys) ∙ ap₂ (λ (a b : Bytes). drop (pick (same a b) 1 0) (drop j ys)) (second-own j) (shown-is p q i j)

      behind : (l : List Bytes) (n : ℕ) → get_or (drop 1 l) n [] ≡ get_or l (suc n) []
      behind [] n = refl
      behind (x ∷ l) n = refl
