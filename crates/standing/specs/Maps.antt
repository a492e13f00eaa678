-- Where the numbers of a node table stand in bytes, and a record that is read there.
--     Map               where the table starts, how far it is from a node to the next, and from a number of a node to its next
--     node_in, number_in  where node v stands; the number of the node at an offset
--     rows_at, in_rows    a table that starts at an offset, record behind record; the same, wherever it starts
--     columns_at         a table that starts at an offset and has so many nodes, column behind column
--     map_by             a map by its last two numbers, wherever the table starts
--     map_in, map_of      the map of a form of table, which starts at an offset and has so many nodes; the map of the table that bytes tell of
--     Paced             how far it can be from a node to the next
--     Placed            at an offset stands a node, and not in between
--     record_at          the record whose first number stands at an offset, and each other one a step behind the one before it
--     Roomy, RoomyTo    its last number stands there, too; so it does at every offset below an end
-- The laws are in proofs/Maps.antt. Assumes nothing: these are definitions.
use Rattle.std.specs.Prelude.{ℕ, pred, ◌+◌, ◌-◌, ◌*◌, ◌/◌, ◌<◌, ◌≤◌, ◌≡◌, length}
use Rattle.words.specs.Words.{Bytes}
use Rattle.format.specs.Book.{number, told}
use Rattle.format.specs.Kinds.{Columns, Form, Rows, form_of, kind_of}
use Rattle.format.specs.Nodes.{Node, field_count, node_size}

pub record Map : Type 0 where
  pub start : ℕ
  pub stride : ℕ
  pub step : ℕ

abbrev pub node_in : Map → ℕ → ℕ
node_in μ v = μ.start + v * μ.stride

abbrev pub number_in : Map → ℕ → ℕ
number_in μ o = (o - μ.start) / μ.stride

abbrev pub rows_at : ℕ → Map
rows_at start = record { start = start; stride = node_size; step = 2 }

abbrev pub columns_at : ℕ → ℕ → Map
columns_at start count = record { start = start; stride = 2; step = 2 * count }

-- what stands behind an offset does not depend on where the table starts
abbrev pub map_by : ℕ → ℕ → Map
map_by stride step = record { start = 0; stride = stride; step = step }

abbrev pub in_rows : Map
in_rows = rows_at 0

abbrev pub map_in : Form → ℕ → ℕ → Map
map_in Rows start count = rows_at start
map_in Columns start count = columns_at start count

abbrev pub map_of : Bytes → Map
map_of b = map_in (form_of (kind_of b)) (told b 3) (told b 4)

-- a node takes some bytes of its own, and no more than a whole record
pub record Paced (stride : ℕ) : Type 0 where
  pub some : 1 ≤ stride
  pub few : stride ≤ node_size

abbrev pub Placed : Map → ℕ → Type 0
Placed μ o = o ≡ node_in μ (number_in μ o)

abbrev pub record_at : ℕ → Bytes → ℕ → Node
record_at step b o = record {
  symbol = number b o;
  depth = number b (o + step);
  first = number b (o + 2 * step);
  names = number b (o + 3 * step);
  nodes = number b (o + 4 * step);
  width = number b (o + 5 * step);
}

abbrev pub Roomy : ℕ → Bytes → ℕ → Type 0
Roomy step b o = o + pred field_count * step + 2 ≤ length b

abbrev pub RoomyTo : ℕ → Bytes → ℕ → Type 0
RoomyTo step b end = (o : ℕ) → o < end → Roomy step b o
