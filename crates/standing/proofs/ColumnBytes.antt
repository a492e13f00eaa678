-- Records that stand column by column are the bytes there, as those that stand row by row are (Bytes).
--     columns-bytes        records that stand are the bytes there
--     bytes-columns        where the bytes are those of records whose numbers fit two bytes, the records stand
-- Assumes nothing.
use Prim.Native.Nat.{ℕ, ◌+◌, ◌*◌, ◌/◌, ◌%◌, ◌≤◌, ◌<◌}
use native.Mathlib.Nat.{div-add-mod', div-lt_iff_lt-mul, mod-lt}
use native.Mathlib.Omega.{arith}
use mathlib.Core.Path.{◌≡◌, sym, ap, ◌∙◌}
use mathlib.Core.List.{List}
use lib.ListN.{get_or, length}
use lib.Seq.{length-slice, slice}
use Rattle.words.specs.Rising.{All}
use Rattle.words.specs.Words.{Bytes, InBytes}
use Rattle.words.proofs.Lists.{all-at}
use Rattle.format.specs.Book.{number, numbers}
use Rattle.format.specs.Columns.{columns}
use Rattle.format.specs.Nodes.{Node, all_fields, field_count, node_size}
use Rattle.format.proofs.Columns.{columns-all, columns-at, columns-length}
use Rattle.format.proofs.Numbers.{numbers-are, numbers-length, numbers-told}
use Rattle.standing.specs.Maps.{columns_at}
use Rattle.standing.specs.Stands.{Stands}
use Rattle.standing.proofs.Maps.{steps-within}
use Rattle.standing.proofs.Records.{NumbersAt, numbers-stand, stands-numbers}

module _ (b : Bytes) where
  pub columns-bytes : InBytes b → (rs : List Node) (o e : ℕ) → e ≡ o + length rs * node_size → e ≤ length b → Stands (columns_at 0 (length rs)) b o rs (o + length rs * 2)
      → slice o e b ≡ numbers (columns rs)
  columns-bytes bytes rs o e z l h = numbers-are b bytes (columns rs) o e (omega (arith, columns-length rs)) l there
    where
      there : (n : ℕ) → n < length (columns rs) → number b (o + 2 * n) ≡ get_or (columns rs) n 0
      there n k =
          let m : ℕ = length rs in
          let some : 0 < m = omega (arith, columns-length rs) in
          let i : ℕ = n % m in
          let j : ℕ = n / m in
          let field : j < field_count = (div-lt_iff_lt-mul some).1 (omega (arith, columns-length rs)) in
          let p : o + 2 * n ≡ o + i * 2 + j * (2 * m) = omega (arith, div-add-mod' n m) in
          ap (number b) p ∙ stands-numbers (columns_at 0 m) b rs o (o + m * 2) h i j (mod-lt n some) field
          ∙ sym (columns-at rs i j (mod-lt n some) field) ∙ ap (λ (x : ℕ). get_or (columns rs) x 0) (div-add-mod' n m)

  pub bytes-columns : (rs : List Node) (o e : ℕ) → o ≤ e → e ≤ length b → All (λ n. n < 65536) (all_fields rs) → slice o e b ≡ numbers (columns rs)
      → Stands (columns_at 0 (length rs)) b o rs (o + length rs * 2)
  bytes-columns rs o e h l small q =
      numbers-stand (columns_at 0 (length rs)) b rs o (o + length rs * 2) (omega arith)
      (omega (arith, length-slice o e b l, ap length q, numbers-length (columns rs), columns-length rs)) there
    where
      there : NumbersAt (columns_at 0 (length rs)) b rs o
      there i j k g =
          let n : ℕ = j * length rs + i in
          let p : o + i * 2 + j * (2 * length rs) ≡ o + 2 * n = omega arith in
          let s : n < length (columns rs) = omega (arith, columns-length rs, steps-within (length rs) j g) in
          ap (number b) p ∙ numbers-told b (columns rs) o e h l q n s (all-at 0 (columns rs) (columns-all rs small) n s) ∙ columns-at rs i j k g
