-- Nodes that stand by the map of a form are the bytes of that form: standing and layout say the same, whatever the form.
--     form-bytes           nodes that stand are the bytes there
--     bytes-form           where the bytes are those of nodes whose numbers fit two bytes, the nodes stand
-- Assumes nothing.
use Prim.Native.Nat.{ℕ, ◌+◌, ◌*◌, ◌≤◌, ◌<◌}
use native.Mathlib.Omega.{arith}
use mathlib.Core.Path.{◌≡◌, subst}
use mathlib.Core.List.{List}
use lib.ListN.{length}
use lib.Seq.{length-slice, slice}
use Rattle.words.specs.Rising.{All}
use Rattle.words.specs.Words.{Bytes, InBytes}
use Rattle.format.specs.Book.{numbers}
use Rattle.format.specs.Forms.{Columns, Form, Rows, laid_out}
use Rattle.format.specs.Nodes.{Node, all_fields, node_size}
use Rattle.format.specs.Spans.{node_part}
use Rattle.standing.specs.Maps.{map_in}
use Rattle.standing.specs.Stands.{Stands}
use Rattle.standing.proofs.Bytes.{bytes-stand, stands-bytes}
use Rattle.standing.proofs.ColumnBytes.{bytes-columns, columns-bytes}

module _ (b : Bytes) where
  pub form-bytes : (f : Form) → InBytes b → (rs : List Node) (o e : ℕ) → e ≡ o + length rs * node_size → e ≤ length b
      → Stands (map_in f 0 (length rs)) b o rs (o + length rs * (map_in f 0 (length rs)).stride) → slice o e b ≡ numbers (laid_out f rs)
  unfolding node_part
  form-bytes Rows bytes rs o e z l h = stands-bytes b bytes rs o e l (subst (Stands (map_in Rows 0 (length rs)) b o rs) (omega arith) h)
  form-bytes Columns bytes rs o e z l h = columns-bytes b bytes rs o e z l h

  pub bytes-form : (f : Form) (rs : List Node) (o e : ℕ) → e ≡ o + length rs * node_size → e ≤ length b → All (λ n. n < 65536) (all_fields rs) → slice o e b ≡ numbers (laid_out f rs)
      → Stands (map_in f 0 (length rs)) b o rs (o + length rs * (map_in f 0 (length rs)).stride)
  unfolding node_part
  bytes-form Rows rs o e z l small q = subst (Stands (map_in Rows 0 (length rs)) b o rs) (omega arith) (bytes-stand b rs o e (omega arith) l small q)
  bytes-form Columns rs o e z l small q = bytes-columns b rs o e (omega arith) l small q
