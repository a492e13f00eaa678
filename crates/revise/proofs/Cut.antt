-- The entries of names that fill their blocks.
--     entries-cut
-- Assumes nothing.
use Prim.Native.Nat.{ℕ, zero, suc, ◌*◌, ◌≤◌}
use native.Mathlib.Nat.{not-suc-le-zero}
use native.Mathlib.Omega.{arith}
use mathlib.Core.Path.{◌≡◌, refl, sym, ap, ap₂, ◌∙◌}
use mathlib.Core.List.{List, [], ◌∷◌, ◌++◌, append_assoc}
use lib.ListN.{length, take, drop, length-drop}
use lib.Seq.{drop-append-le, take-append-le}
use Rattle.words.specs.Words.{Bytes}
use Rattle.format.specs.Book.{entry_part, joined}
use Rattle.format.specs.Entries.{blocks, blocks_from, front}
use Rattle.format.proofs.Entries.{entries-first}

-- names that fill their blocks: their entries, and then those of the names behind them
pub entries-cut : (k j : ℕ) → 1 ≤ k → (us vs : List Bytes) → length us ≡ j * k → entry_part k (us ++ vs) ≡ entry_part k us ++ entry_part k vs
unfolding entry_part blocks blocks_from joined
entries-cut k zero h [] vs e = refl
entries-cut k zero h (u ∷ us) vs e = absurd (not-suc-le-zero {n = length us} (omega (arith, e)))
entries-cut k (suc j) h [] vs e = refl
entries-cut k (suc j) h (u ∷ us) vs e =
    let whole : k ≤ length (u ∷ us) = omega (arith, e) in
    let left : length (drop k (u ∷ us)) ≡ j * k = omega (arith, e, length-drop k (u ∷ us)) in
    entries-first k u (us ++ vs) h
    ∙ ap₂ (λ (b : List Bytes) (r : List Bytes). front [] b ++ entry_part k r) (take-append-le k (u ∷ us) vs whole) (drop-append-le k (u ∷ us) vs whole)
    ∙ ap (λ (r : Bytes). front [] (take k (u ∷ us)) ++ r) (entries-cut k j h (drop k (u ∷ us)) vs left)
    ∙ sym (append_assoc (front [] (take k (u ∷ us))) (entry_part k (drop k (u ∷ us))) (entry_part k vs))
    ∙ ap (λ (r : Bytes). r ++ entry_part k vs) (sym (entries-first k u us h))
