-- What the names of a book share with a question, from one entry to the next, and on which side of it they stand.
--     less-behind           words that share c symbols stand to each other as they do behind these
--     less_two              words that share more with each other than with a third stand on the same side of it
--     counting-on, side-on  what the name of an entry shares with a question, and its side, from those of the name before it
-- Assumes nothing.
use Prim.Native.Nat.{ℕ, ◌+◌, ◌≤◌, ◌<◌}
use native.Mathlib.Omega.{arith}
use mathlib.Core.Path.{◌≡◌, refl, sym, ap, ap₂, ◌∙◌, subst}
use mathlib.Core.Logic.{◌⊎◌, inl, inr}
use mathlib.Core.Bool.{true}
use mathlib.Core.List.{List}
use lib.Dec.{ltb}
use lib.ListN.{get_or, take, drop}
use lib.Seq.{drop_at, get_or-drop, length-take-le}
use borrow.Author.Tests.{le-ltb, lt-ltb}
use Rattle.words.specs.Words.{Bytes, at, less, plain, shared, word}
use Rattle.words.proofs.Words.{apart, less_by, shared_at, shared-comm, shared-front, shared-trans, shared-two, shared-word-le}
use Rattle.streams.specs.Streams.{rest_at}
use Rattle.streams.proofs.Here.{Comes}
use Rattle.neighbours.proofs.Behind.{shared-behind, word-behind}
use Rattle.sweep.specs.Sweep.{less_on, shared_on}

pub less-behind : (x y : List ℕ) (c : ℕ) → c ≤ shared x y → less x y ≡ less (drop c x) (drop c y)
less-behind x y c h =
    let s : ℕ = shared (drop c x) (drop c y) in
    less_by x y (c + s) (shared-behind x y c h)
    ∙ ap₂ ltb (sym (get_or-drop c x s 0)) (sym (get_or-drop c y s 0)) ∙ sym (less_by (drop c x) (drop c y) s refl)

-- words that share more with each other than the first does with q stand to q alike
pub less_two : (y z q : List ℕ) → shared y q < shared y z → less z q ≡ less y q
less_two y z q h =
    let m : ℕ = shared y q in
    less_by z q m (shared-two y z q h) ∙ ap (λ (s : ℕ). ltb s (at q m)) (sym (shared_at y z m h)) ∙ sym (less_by y q m refl)

-- x is the name of the entry at o, after prev
module _ (b : Bytes) (o : ℕ) (prev x q : Bytes) (k : Comes b o prev x) where
  abbrev c : ℕ
  c = get_or b o 0

  abbrev y : List ℕ
  y = word plain prev

  abbrev z : List ℕ
  z = word plain x

  abbrev asked : List ℕ
  asked = word plain q

  both-have : c ≤ shared y z
  both-have =
      let g : c ≤ shared prev x = subst (λ (w : Bytes). c ≤ shared prev w) k.named (shared-front prev (rest_at b o) c k.stands.shares) in
      omega (arith, g, shared-word-le plain prev x)

  -- behind the count stands the rest
  rest-is : drop c z ≡ word plain (rest_at b o)
  rest-is =
      sym (word-behind plain c x)
      ∙ ap (λ (w : Bytes). word plain (drop c w)) (sym k.named)
      ∙ ap (word plain) (drop_at (take c prev) (rest_at b o) c (length-take-le c prev k.stands.shares))

  module _ (m : ℕ) (e : m ≡ shared y asked) where
    low : c ≤ m → c ≤ shared z asked
    low h = shared-trans z y asked c (omega (arith, both-have, shared-comm y z)) (omega arith)

    pub counting-on : shared_on b o q m ≡ shared z asked
    counting-on = go (apart m c)
      where
        go : (m < c) ⊎ (c ≤ m) → shared_on b o q m ≡ shared z asked
        go (inl h) = rw (lt-ltb m c h) (e ∙ sym (shared-two y z asked (omega (arith, both-have))))
        go (inr h) =
            rw (le-ltb m c h)
            (ap₂ (λ (u v : List ℕ). c + shared u v) (sym rest-is) (word-behind plain c q) ∙ sym (shared-behind z asked c (low h)))

    pub side-on : (m < c → less y asked ≡ true) → less_on b o q m ≡ less z asked
    side-on f = go (apart m c)
      where
        go : (m < c) ⊎ (c ≤ m) → less_on b o q m ≡ less z asked
        go (inl h) = rw (lt-ltb m c h) (sym (f h) ∙ sym (less_two y z asked (omega (arith, both-have))))
        go (inr h) =
            rw (le-ltb m c h)
            (ap₂ less (sym rest-is) (word-behind plain c q) ∙ sym (less-behind z asked c (low h)))
