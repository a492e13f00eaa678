-- Rows that a loop fills, one after the other. They say nothing of the crate.
--     filled, length-filled     the rows after i turns: the first i are stored, and the rest are as they were; as many as before
--     filled-more               one more is stored
--     filled-all                all are stored
-- Assumes nothing.
use Prim.Native.Nat.{ℕ, zero, suc, ◌+◌, ◌<◌, ◌≤◌}
use native.Mathlib.Nat.{eq-or-lt_of_le, le_of_suc-le-suc, not-suc-le-zero}
use native.Mathlib.Numerals.{add-one}
use native.Mathlib.Omega.{arith}
use mathlib.Core.Path.{◌≡◌, ◌∙◌, ap, ap₂, refl, subst, sym}
use mathlib.Core.List.{List}
use mathlib.Core.Logic.{⊎_elim}
use lib.ListN.{get_or, length, length-set, set}
use lib.Seq.{ext_get_or, get_or-set_other, get_or-set_same}

-- g i is what turn number i stores
module _ {A : Type 0} (g : ℕ → A) (old : List A) where
  abbrev pub filled : ℕ → List A
  filled zero = old
  filled (suc i) = set (filled i) i (g i)

  pub length-filled : (i : ℕ) → length (filled i) ≡ length old
  length-filled zero = refl
  length-filled (suc i) = length-set (filled i) i (g i) ∙ length-filled i

  pub filled-more : {i : ℕ} {now : List A} {x : A} → now ≡ filled i → x ≡ g i → set now i x ≡ filled (i + 1)
  filled-more {i} e p = ap₂ (λ (l : List A) (y : A). set l i y) e p ∙ sym (ap filled (add-one i))

  stored : (d : A) (i j : ℕ) → j < i → i ≤ length old → get_or (filled i) j d ≡ g j
  stored d zero j lt le = absurd (not-suc-le-zero lt)
  stored d (suc i) j lt le =
      ⊎_elim
      (λ (e : j ≡ i). subst (λ (m : ℕ). get_or (filled (suc i)) m d ≡ g m) (sym e) (get_or-set_same (filled i) i (g i) d (omega (arith, length-filled i))))
      (λ (less : j < i). get_or-set_other (filled i) i j (g i) d (λ e. omega arith) ∙ stored d i j less (omega arith))
      (eq-or-lt_of_le (le_of_suc-le-suc lt))

  pub filled-all : (d : A) (new : List A) → length new ≡ length old → ((i : ℕ) → i < length new → g i ≡ get_or new i d) → filled (length new) ≡ new
  filled-all d new e each =
      ext_get_or d (filled (length new)) new (length-filled (length new) ∙ sym e)
      (λ i lt. let here : i < length new = omega (arith, length-filled (length new)) in stored d (length new) i here (omega arith) ∙ each i here)
