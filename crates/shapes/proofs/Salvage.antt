-- A report row by its numbers.
--     kept_of                 the row of two numbers
--     kept-injective         rows with the same numbers are the same
-- Assumes nothing.
use Prim.Native.Nat.{ℕ}
use mathlib.Core.Path.{◌≡◌, refl, sym, ap, ◌∙◌}
use mathlib.Core.List.{List, [], ◌∷◌, map}
use Rattle.shapes.specs.Salvage.{kept_row}
use Rattle.shapes.specs.declared.Kept.{Kept}

abbrev pub kept_of : ℕ × ℕ → Kept
kept_of n = record { kept = n.0; names = n.1 }

pub kept-injective : (rs ts : List Kept) → map kept_row rs ≡ map kept_row ts → rs ≡ ts
kept-injective rs ts e = sym (back rs) ∙ ap (map kept_of) e ∙ back ts
  where
    back : (cs : List Kept) → map kept_of (map kept_row cs) ≡ cs
    back [] = refl
    back (c ∷ cs) = ap (λ (l : List Kept). c ∷ l) (back cs)
