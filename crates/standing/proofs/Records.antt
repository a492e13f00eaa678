-- Records that stand one after the other.
--     stands-end                         where they end
--     stands-join, stands-split          two runs of records are one
--     stands_at                          one of them, by its number
--     stands-numbers, numbers-stand      every number of theirs stands in its place; and the other way, where the last one has room
-- Assumes nothing.
use Prim.Native.Nat.{ℕ, zero, suc, pred, ◌+◌, ◌*◌, ◌≤◌, ◌<◌, suc-le-suc}
use native.Mathlib.Nat.{le_of_suc-le-suc, not-suc-le-zero}
use native.Mathlib.Omega.{arith}
use mathlib.Core.Path.{◌≡◌, refl, sym, ap, ◌∙◌, subst}
use mathlib.Core.List.{List, [], ◌∷◌, ◌++◌}
use lib.ListN.{get_or, length}
use Rattle.words.specs.Words.{Bytes}
use Rattle.format.specs.Book.{number}
use Rattle.format.specs.Columns.{column}
use Rattle.format.specs.Nodes.{Node, field_count, fields}
use Rattle.standing.specs.Maps.{Map, Roomy, record_at}
use Rattle.standing.specs.Stands.{Stands}
use Rattle.standing.proofs.Maps.{fields-are, record_is}

module _ (μ : Map) (b : Bytes) where
  pub stands-end : (rs : List Node) (o e : ℕ) → Stands μ b o rs e → e ≡ o + length rs * μ.stride
  stands-end [] o e h = omega arith
  stands-end (r ∷ rs) o e h = omega (arith, stands-end rs (o + μ.stride) e h.2)

  pub stands-join : (rs ts : List Node) (o m e : ℕ) → Stands μ b o rs m → Stands μ b m ts e → Stands μ b o (rs ++ ts) e
  stands-join [] ts o m e h k = subst (λ (x : ℕ). Stands μ b x ts e) (sym h) k
  stands-join (r ∷ rs) ts o m e h k = (h.0, h.1, stands-join rs ts (o + μ.stride) m e h.2 k)

  -- where a second run of records begins
  pub record TwoRuns (rs ts : List Node) (o e : ℕ) : Type 0 where
    pub seam : ℕ
    pub left : Stands μ b o rs seam
    pub right : Stands μ b seam ts e

  pub stands-split : (rs ts : List Node) (o e : ℕ) → Stands μ b o (rs ++ ts) e → TwoRuns rs ts o e
  stands-split [] ts o e h = record { seam = o; left = refl; right = h }
  stands-split (r ∷ rs) ts o e h =
      let p = stands-split rs ts (o + μ.stride) e h.2 in
      record { seam = p.seam; left = (h.0, h.1, p.left); right = p.right }

  -- record number v of them
  pub record Told (rs : List Node) (o v : ℕ) (r : Node) : Type 0 where
    pub room : Roomy μ.step b (o + v * μ.stride)
    pub told : record_at μ.step b (o + v * μ.stride) ≡ get_or rs v r

  pub stands_at : (rs : List Node) (o e v : ℕ) (r : Node) → Stands μ b o rs e → v < length rs → Told rs o v r
  stands_at [] o e v r h l = absurd (not-suc-le-zero l)
  stands_at (x ∷ rs) o e zero r h l =
      let z : o ≡ o + 0 * μ.stride = omega arith in
      record { room = subst (Roomy μ.step b) z h.0; told = subst (λ (a : ℕ). record_at μ.step b a ≡ x) z h.1 }
  stands_at (x ∷ rs) o e (suc v) r h l =
      let z : o + μ.stride + v * μ.stride ≡ o + suc v * μ.stride = omega arith in
      let t = stands_at rs (o + μ.stride) e v r h.2 (le_of_suc-le-suc l) in
      record { room = subst (Roomy μ.step b) z t.room; told = subst (λ (a : ℕ). record_at μ.step b a ≡ get_or rs v r) z t.told }

  -- number j of record i stands so many strides and steps behind the first
  abbrev pub NumbersAt : List Node → ℕ → Type 0
  NumbersAt rs o = (i j : ℕ) → i < length rs → j < field_count → number b (o + i * μ.stride + j * μ.step) ≡ get_or (column j rs) i 0

  pub stands-numbers : (rs : List Node) (o e : ℕ) → Stands μ b o rs e → NumbersAt rs o
  stands-numbers [] o e h i j l k = absurd (not-suc-le-zero l)
  stands-numbers (r ∷ rs) o e h zero j l k =
      let z : o + 0 * μ.stride + j * μ.step ≡ o + j * μ.step = omega arith in
      ap (number b) z ∙ fields-are μ.step b o j k ∙ ap (λ (x : Node). get_or (fields x) j 0) h.1
  stands-numbers (r ∷ rs) o e h (suc i) j l k =
      let z : o + suc i * μ.stride + j * μ.step ≡ o + μ.stride + i * μ.stride + j * μ.step = omega arith in
      ap (number b) z ∙ stands-numbers rs (o + μ.stride) e h.2 i j (le_of_suc-le-suc l) k

  pub numbers-stand : (rs : List Node) (o e : ℕ) → e ≡ o + length rs * μ.stride → e + pred field_count * μ.step + 2 ≤ length b + μ.stride → NumbersAt rs o → Stands μ b o rs e
  numbers-stand [] o e z l h = omega arith
  numbers-stand (r ∷ rs) o e z l h = (omega arith, record_is μ.step b o r first, numbers-stand rs (o + μ.stride) e (omega arith) l others)
    where
      first : (j : ℕ) → j < field_count → number b (o + j * μ.step) ≡ get_or (fields r) j 0
      first j k = let p : o + j * μ.step ≡ o + 0 * μ.stride + j * μ.step = omega arith in ap (number b) p ∙ h 0 j (omega arith) k

      others : NumbersAt rs (o + μ.stride)
      others i j k g =
          let p : o + μ.stride + i * μ.stride + j * μ.step ≡ o + suc i * μ.stride + j * μ.step = omega arith in
          ap (number b) p ∙ h (suc i) j (suc-le-suc k) g
