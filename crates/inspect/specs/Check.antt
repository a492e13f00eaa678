-- What the check of a node table asks and says, over any map that has room: nodes stand `stride` bytes apart, and the numbers of a node
-- `step` bytes. It goes by the entries, and holds no name.
--     NodeAsk                      what is asked where a node that is no leaf is looked at
--     NodeStands, NodeSays         the node stands with its row; where the entry of its last name and its own record are, or 0, if it doesn't
--     TableAsk                     n names, and a part of the bytes, as long as the nodes that the trailer tells
--     is_nodes                      that part is the node table of the names, in the form of the bytes' own mark
-- The laws are in proofs/. Assumes nothing: these are definitions.
use Rattle.std.specs.Prelude.{ℕ, pred, ◌+◌, ◌*◌, ◌/◌, ◌%◌, ◌≤◌, ◌<◌, ◌≡◌, Bool, get_or, length}
use Rattle.std.proofs.Math.Seq.{slice}
use Rattle.words.specs.Words.{Bytes, same}
use Rattle.format.specs.Forms.{laid_out}
use Rattle.format.specs.Kinds.{form_of, kind_of, rule_in}
use Rattle.format.specs.Spans.{words_in}
use Rattle.format.specs.Book.{names_of, numbers, trailer_size, told}
use Rattle.format.specs.Nodes.{node_size, table}
use Rattle.streams.specs.Streams.{Here, InBlocks, Known, offset_at}
use Rattle.standing.specs.Maps.{Paced, Roomy, RoomyTo, map_by, record_at}
use Rattle.standing.specs.Stands.{NodeAt}

-- ---- nodes

-- the record at o does not tell one name, its nodes end at e, up to which there is room for records; its first name is known, and the
-- entry of that name stands at a, and has a count no greater than the depth that the record tells
pub record NodeAsk (b : Bytes) (stride step o e a : ℕ) : Type 0 where
  pub known : Known (rule_in b) b
  pub blocks : InBlocks b (told b 1) (told b 2)
  pub ended : told b 2 ≡ offset_at b (length (names_of b))
  pub long : trailer_size ≤ length b
  pub paced : Paced stride
  pub room : RoomyTo step b e
  pub own : Roomy step b o
  pub ends : e ≡ o + (record_at step b o).nodes * stride
  pub several : (record_at step b o).names ≡ 1 → ⊥
  pub some : (record_at step b o).first < length (names_of b)
  pub here : Here b (record_at step b o).first a
  pub low : get_or b a 0 ≤ (record_at step b o).depth

-- as far as the record says: its first name, its number of names, its symbol
pub record NodeStands (b : Bytes) (stride step o e : ℕ) : Type 0 where
  pub several : 2 ≤ (record_at step b o).names
  pub within : (record_at step b o).first + (record_at step b o).names ≤ length (names_of b)
  pub node : NodeAt (map_by stride step) b (words_in b) (record_at step b o).first ((record_at step b o).first + (record_at step b o).names) (record_at step b o).symbol o e

-- the node stands, and r is where the entry of its last name is, and 65,536 times its own offset; or r is 0, and it doesn't
pub record NodeSays (b : Bytes) (stride step o e r : ℕ) : Type 0 where
  pub no_way : r ≡ 0 → NodeStands b stride step o e → ⊥
  pub it-does : (r ≡ 0 → ⊥) → NodeStands b stride step o e
  pub last : (r ≡ 0 → ⊥) → Here b (pred ((record_at step b o).first + (record_at step b o).names)) (r % 65536)
  pub own : (r ≡ 0 → ⊥) → r / 65536 ≡ o

-- ---- the whole table

pub record TableAsk (b : Bytes) (start end n : ℕ) : Type 0 where
  pub known : Known (rule_in b) b
  pub blocks : InBlocks b (told b 1) (told b 2)
  pub ended : told b 2 ≡ offset_at b (length (names_of b))
  pub count : n ≡ length (names_of b)
  pub order : start ≤ end
  pub long : end + trailer_size ≤ length b
  pub counted : start + told b 4 * node_size ≡ end

-- the names are those that the entries are read as
unfoldable pub is_nodes : Bytes → ℕ → ℕ → Bool
is_nodes b start end = same (numbers (laid_out (form_of (kind_of b)) (table (words_in b)))) (slice start end b)
