-- Records that stand row by row are the bytes there: standing, and the layout of the node table, say the same.
--     stands-bytes         records that stand are the bytes there
--     bytes-stand          where the bytes are those of records whose numbers fit two bytes, the records stand
-- Assumes nothing.
use Prim.Native.Nat.{ℕ, ◌+◌, ◌*◌, ◌/◌, ◌%◌, ◌≤◌, ◌<◌}
use native.Mathlib.Omega.{arith}
use mathlib.Core.Path.{◌≡◌, sym, ap, ◌∙◌}
use mathlib.Core.List.{List}
use lib.ListN.{get_or, length}
use lib.Seq.{length-slice, slice}
use Rattle.words.specs.Rising.{All}
use Rattle.words.specs.Words.{Bytes, InBytes}
use Rattle.words.proofs.Lists.{all-at}
use Rattle.format.specs.Book.{number}
use Rattle.format.specs.Spans.{node_part}
use Rattle.format.specs.Nodes.{Node, all_fields, field_count, node_size}
use Rattle.format.proofs.Book.{fields-length, nodes-length}
use Rattle.format.proofs.Columns.{column-at}
use Rattle.format.proofs.Numbers.{numbers-are, numbers-told}
use Rattle.standing.specs.Maps.{in_rows}
use Rattle.standing.specs.Stands.{Stands}
use Rattle.standing.proofs.Records.{NumbersAt, numbers-stand, stands-end, stands-numbers}

module _ (b : Bytes) where
  pub stands-bytes : InBytes b → (rs : List Node) (o e : ℕ) → e ≤ length b → Stands in_rows b o rs e → slice o e b ≡ node_part rs
  unfolding node_part
  stands-bytes bytes rs o e l h = numbers-are b bytes (all_fields rs) o e (omega (arith, stands-end in_rows b rs o e h, fields-length rs)) l there
    where
      there : (n : ℕ) → n < length (all_fields rs) → number b (o + 2 * n) ≡ get_or (all_fields rs) n 0
      there n k =
          let i : ℕ = n / field_count in
          let j : ℕ = n % field_count in
          let p : o + 2 * n ≡ o + i * node_size + j * 2 = omega arith in
          let q : field_count * i + j ≡ n = omega arith in
          ap (number b) p ∙ stands-numbers in_rows b rs o e h i j (omega (arith, fields-length rs)) (omega arith)
          ∙ column-at rs i j (omega arith) ∙ ap (λ (x : ℕ). get_or (all_fields rs) x 0) q

  pub bytes-stand : (rs : List Node) (o e : ℕ) → o ≤ e → e ≤ length b → All (λ n. n < 65536) (all_fields rs) → slice o e b ≡ node_part rs → Stands in_rows b o rs e
  unfolding node_part
  bytes-stand rs o e h l small q =
      numbers-stand in_rows b rs o e (omega (arith, length-slice o e b l, ap length q, nodes-length rs)) (omega arith) there
    where
      there : NumbersAt in_rows b rs o
      there i j k g =
          let n : ℕ = field_count * i + j in
          let p : o + i * node_size + j * 2 ≡ o + 2 * n = omega arith in
          let s : n < length (all_fields rs) = omega (arith, fields-length rs) in
          ap (number b) p ∙ numbers-told b (all_fields rs) o e h l q n s (all-at 0 (all_fields rs) small n s) ∙ sym (column-at rs i j g)
