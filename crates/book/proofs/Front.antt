-- A local array of any element type R, cut so that its first k elements can be lent as a slice, and made whole again. Nothing here is
-- about batches.
--     row_cut, row-join      a row of elements is its first k and the rest, side by side; and back
--     array-out, array-in    the cell of an array in a local, with what the array owns, is its elements' row; and back
-- Assumes `Logic`.
use mathlib.Core.Path.{◌≡◌}
use Prim.Native.Nat.{ℕ, zero, suc, ◌+◌}
use mathlib.Core.List.{List, [], ◌∷◌, ◌++◌}
use lib.ListN.{length, take, drop}
use seplogic.Ra.Ura.{Ura}
use base.Fraction.{full_share}
use mir.Syntax.{Ty, ty_array}
use mir.Val.{Val}
use base.Logic.{ent, sep}
use base.Fml.{ftrue, fsep, fat}
use types.Logic.{Logic, sem}
use types.Kit.{‵, ◌⊛◌, split, ◌$◌, ◌∵◌, !, qed, move, drop as let_go, use1, use2, fsplit, fjoin, fpick, fpack, feq_i, frame, done}
use denote.RattleType.{RattleType}
use denote.Laws.{Is, Tells, shows}
use denote.Memory.{cell_at, lone, part_at, mem, shares, part_of}
use denote.Array.{Array, array_vals, Array-Tells}
use denote.ArrayMemory.{Single, Array-apart, Array-whole}
use denote.Index.{row, place}
use denote.Steps.{nothing, only}
use denote.Struct.Steps.{spelt}
use types.Share.{arr_parts}

module _ {M : Type 1} {𝓤 : Ura M} (𝓛 : Logic 𝓤) (R : RattleType) where
  open 𝓛 use {H}

  pub row_cut : (xs : List R.Denot) (k b o : ℕ)
      → ent 𝓤 (sem 𝓛 (row R full_share xs b o)) (sep 𝓤 (sem 𝓛 (row R full_share (take k xs) b o)) (sem 𝓛 (row R full_share (drop k xs) b (place (mem R).size o k))))
  row_cut xs zero b o = qed 𝓛 (‵ (row R full_share xs b o) ∷ []) ∵ nothing ! $ done !
  row_cut [] (suc k) b o = qed 𝓛 (‵ ftrue ∷ []) ∵ nothing ! $ done !
  row_cut (x ∷ xs) (suc k) b o =
      qed 𝓛 (‵ (row R full_share (x ∷ xs) b o) ∷ []) ∵ fsplit ! $ move ! (1 ∷ []) $
      use1 𝓛 (‵ (row R full_share (take k xs) b (o + (mem R).size)) ⊛ ‵ (row R full_share (drop k xs) b (place (mem R).size (o + (mem R).size) k))) (row_cut xs k b (o + (mem R).size)) $ split ! $
      move ! (2 ∷ 0 ∷ []) $ fjoin ! $ frame ! $ done !

  pub row-join : (ys zs : List R.Denot) (b o : ℕ)
      → ent 𝓤 (sep 𝓤 (sem 𝓛 (row R full_share ys b o)) (sem 𝓛 (row R full_share zs b (place (mem R).size o (length ys))))) (sem 𝓛 (row R full_share (ys ++ zs) b o))
  row-join [] zs b o = qed 𝓛 (‵ ftrue ∷ ‵ (row R full_share zs b o) ∷ []) ∵ let_go ! $ done !
  row-join (y ∷ ys) zs b o =
      qed 𝓛 (‵ (row R full_share (y ∷ ys) b o) ∷ ‵ (row R full_share zs b (place (mem R).size o (suc (length ys)))) ∷ []) ∵ fsplit ! $ move ! (1 ∷ 2 ∷ []) $
      use2 𝓛 (‵ (row R full_share (ys ++ zs) b (o + (mem R).size))) (row-join ys zs b (o + (mem R).size)) $ move ! (1 ∷ 0 ∷ []) $ fjoin ! $ done !

  -- an array of n elements in a local
  abbrev pub array_ty : ℕ → Ty
  array_ty n = ty_array (lone R.mir) n

  pub array-out : Single R.mir → (n : ℕ) (xs : List R.Denot) (v : Val) (l : ℕ)
      → ent 𝓤 (sep 𝓤 (H.at full_share (array_ty n) l 0 v) (sem 𝓛 ((Array R n).own_val xs (v ∷ [])))) (sem 𝓛 (row R full_share xs l 0))
  unfolding part_of
  array-out s n xs v l =
      qed 𝓛 (‵ (fat full_share (array_ty n) l 0 v) ∷ ‵ ((Array R n).own_val xs (v ∷ [])) ∷ []) ∵ use1 𝓛 (‵ (cell_at full_share (Array R n).mir (v ∷ []) l 0)) (𝓛.laws.at_raw full_share (array_ty n) l 0 v) $ fjoin ! $
      fpack ! (List Val) (λ us. fsep (cell_at full_share (Array R n).mir us l 0) ((Array R n).own_val xs us)) (v ∷ []) $
      use1 𝓛 (‵ ((arr_parts (shares R) n).part full_share xs l 0)) (Array-apart 𝓛 R full_share s n xs l 0) $ fsplit ! $ let_go ! $ done !

  pub array-in : (vals : R.Denot → List Val) → Tells R (Is R) vals → (n : ℕ) (xs : List R.Denot) (l : ℕ) → length xs ≡ n
      → ent 𝓤 (sem 𝓛 (row R full_share xs l 0)) (sep 𝓤 (H.at full_share (array_ty n) l 0 (only (array_vals vals xs))) (sem 𝓛 ((Array R n).own_val xs (array_vals vals xs))))
  unfolding part_of
  array-in vals tl n xs l e =
      qed 𝓛 (‵ (row R full_share xs l 0) ∷ []) ∵ feq_i ! ℕ (length xs) n e $ fjoin ! $ use1 𝓛 (‵ (part_at (Array R n) full_share xs l 0)) (Array-whole 𝓛 R full_share n xs l 0) $ fpick ! (λ vs. fsplit ! $
      spelt ! (Array R n) (Is (Array R n)) (shows 𝓛 (Array R n)) (array_vals vals) (Array-Tells R vals tl n) full_share xs vs l 0 $
      use1 𝓛 (‵ (fat full_share (array_ty n) l 0 (only (array_vals vals xs)))) (𝓛.laws.raw_at full_share (array_ty n) l 0 (only (array_vals vals xs))) $ done !)
