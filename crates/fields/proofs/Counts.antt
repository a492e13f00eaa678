-- The part of a book that begins with numbers of nodes.
--     counts-cut        the part behind four steps, as it is cut
--     counts-room, counts-at     a record's number of nodes stands there, at the record's own offset
-- Assumes nothing.
use Prim.Native.Nat.{ℕ, ◌+◌, ◌-◌, ◌*◌, ◌≤◌}
use native.Mathlib.Omega.{arith}
use mathlib.Core.Path.{◌≡◌, ◌∙◌, ap, ap₂, sym}
use mathlib.Core.List.{List}
use lib.ListN.{drop, get_or, length, length-drop, take}
use lib.Seq.{get_or-drop, take-length}
use Rattle.format.specs.Book.{number}
use Rattle.standing.specs.Maps.{Roomy, record_at}
use Rattle.fields.specs.Counts.{counts_in}

module _ (step : ℕ) (b : List ℕ) where
  pub counts-cut : take (length b - 4 * step) (drop (4 * step) b) ≡ counts_in step b
  counts-cut = ap (λ (n : ℕ). take n (drop (4 * step) b)) (sym (length-drop (4 * step) b)) ∙ take-length (drop (4 * step) b)

  module _ (at : ℕ) (h : Roomy step b at) where
    pub counts-room : at + 2 ≤ length (counts_in step b)
    counts-room = omega (arith, h, length-drop (4 * step) b)

    pub counts-at : number (counts_in step b) at ≡ (record_at step b at).nodes
    unfolding number
    counts-at =
        let low : 4 * step + at ≡ at + 4 * step = omega arith in
        let high : 4 * step + (at + 1) ≡ at + 4 * step + 1 = omega arith in
        ap₂ (λ (u v : ℕ). u + 256 * v) (get_or-drop (4 * step) b at 0 ∙ ap (λ (i : ℕ). get_or b i 0) low) (get_or-drop (4 * step) b (at + 1) 0 ∙ ap (λ (i : ℕ). get_or b i 0) high)
