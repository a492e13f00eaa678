-- One entry: the ways out of `step`, over the parts that they hold to each other.
--     keeps-shared, keeps-less      the name has more from the one before it than the question shares
--     goes-most, goes-shared, goes-less    its rest goes on behind its count
-- Assumes nothing.
use Prim.Native.Nat.{ℕ, ◌+◌, ◌-◌, ◌≤◌, ◌<◌}
use native.Mathlib.Omega.{arith}
use mathlib.Core.Path.{◌≡◌, refl, sym, ap, ap₂, ◌∙◌}
use mathlib.Core.Bool.{Bool, true}
use lib.ListN.{length, get_or, take, drop, length-drop, length-map, length-take}
use lib.Seq.{take_all}
use borrow.Author.Tests.{le-ltb, lt-ltb}
use Rattle.words.specs.Words.{Bytes, less, plain, shared, word}
use Rattle.words.proofs.Words.{shared-comm, shared-le}
use Rattle.streams.specs.Streams.{entry_end, rest_at}
use Rattle.sweep.specs.Sweep.{StepAsk, less_on, shared_on}

module _ (b : Bytes) (o : ℕ) (q : Bytes) (m : ℕ) (k : StepAsk b o q m) (c : ℕ) (ce : c ≡ get_or b o 0) where
  pub keeps-shared : m < c → m ≡ shared_on b o q m
  keeps-shared h = sym (rw (lt-ltb m (get_or b o 0) (omega arith)) refl)

  pub keeps-less : m < c → true ≡ less_on b o q m
  keeps-less h = sym (rw (lt-ltb m (get_or b o 0) (omega arith)) refl)

  module _ (h : c ≤ m) (end : ℕ) (ee : end ≡ entry_end b o) where
    abbrev rest : Bytes
    rest = take (end - (o + 2)) (drop (o + 2) b)

    abbrev left : Bytes
    left = take (length q - c) (drop c q)

    rest-is : rest ≡ rest_at b o
    rest-is = let z : end - (o + 2) ≡ get_or b (o + 1) 0 = omega arith in ap (λ (n : ℕ). take n (drop (o + 2) b)) z

    left_is : left ≡ drop (get_or b o 0) q
    left_is = take_all (length q - c) (drop c q) (omega (arith, length-drop c q)) ∙ ap (λ (n : ℕ). drop n q) ce

    module _ (s : ℕ) (se : s ≡ shared (word plain rest) (word plain left)) where
      pub goes-most : c + s ≤ length q
      goes-most =
          omega (
            arith,
            shared-comm (word plain rest) (word plain left),
            shared-le (word plain left) (word plain rest),
            length-map left plain,
            length-take (length q - c) (drop c q),
            k.upto,
          )

      pub goes-shared : c + s ≡ shared_on b o q m
      goes-shared =
          rw (le-ltb m (get_or b o 0) (omega arith))
          (ap₂ (λ (x y : ℕ). x + y) ce (se ∙ ap₂ (λ (u v : Bytes). shared (word plain u) (word plain v)) rest-is left_is))

    pub goes-less : (t : Bool) → t ≡ less (word plain rest) (word plain left) → t ≡ less_on b o q m
    goes-less t te =
        rw (le-ltb m (get_or b o 0) (omega arith)) (te ∙ ap₂ (λ (u v : Bytes). less (word plain u) (word plain v)) rest-is left_is)
