-- Laws of a record that is put at a place of a room.
--     record-put, not-put     what the kit's copy leaves; there is no place for it
-- Assumes nothing.
use Prim.Native.Nat.{ℕ, ◌+◌, ◌-◌, ◌≤◌, ◌<◌}
use native.Mathlib.Nat.{lt_irrefl}
use native.Mathlib.Omega.{arith}
use mathlib.Core.Path.{◌≡◌, refl, ap, ◌∙◌}
use mathlib.Core.List.{◌++◌}
use lib.ListN.{drop, length, length-append, length-drop, take}
use lib.Seq.{length-take-le}
use Rattle.words.specs.Words.{Bytes}
use Rattle.format.specs.Outcomes.{over}
use Rattle.numbers.proofs.Parts.{Copied, copied, lent-front, over-length, part_length}
use Rattle.records.specs.Putting.{RecordPut}

module _ (list : Bytes) (from size : ℕ) (room : Bytes) (at : ℕ) where
  -- it has no place
  pub not-put : length room < at + size → RecordPut list from size room room at
  not-put h = record { kept = refl; put = λ f. absurd (lt_irrefl (length room) (omega arith)) }

  pub record-put : from + size ≤ length list → at ≤ length room → size ≤ length room - at → (ys : Bytes) → Copied (take (from + size - from) (drop from list)) (take (length room - at) (drop at room)) ys
      → RecordPut list from size room (take at room ++ (ys ++ drop (length room - at) (drop at room))) at
  record-put inside a b ys y =
      let src : Bytes = take (from + size - from) (drop from list) in
      let z : from + size - from ≡ size = omega arith in
      let long : length (take size (drop from list)) ≡ size = part_length list from size inside in
      let got : ys ≡ over (take size (drop from list)) (take (length room - at) (drop at room)) = copied src (take (length room - at) (drop at room)) ys y ∙ ap (λ (n : ℕ). over (take n (drop from list)) (take (length room - at) (drop at room))) z in
      record {
        kept = simp (length-append, length-drop) (omega (arith, length-take-le at room a, ap length got, over-length (take size (drop from list)) (take (length room - at) (drop at room)) (omega (arith, part_length room at (length room - at) (omega arith))), part_length room at (length room - at) (omega arith)));
        put = λ f p xs r e k. lent-front p (take size (drop from list)) xs room ys at (length room - at) r e (omega arith) got (omega arith);
      }
