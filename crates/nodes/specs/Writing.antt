-- What the writer of the node table asks and gives. Below the walk over a list nobody holds the names: what is asked is that there are
-- words of which this is so, and what is given is given for any words of which it is so.
--     PutBack           one record more stands in front of those at the end of a room
--     RecordsDone           records at the end of a room, and how many
--     NameAt            a piece of name j; Behind: the names behind j; Closing: the name, and nodes that begin with it
--     NameAsk           what is asked of a name; Passing: its leaf, and nodes in front of it; LeafPut, NamePut: none, and all of them
--     CloseAsk, NodePut  the same of the node of one frame; Onward: of those of several
--     NodesAsk          what is asked of all names; Rowing: the walk over them; NodesPut: the whole table
-- The laws are in proofs/. Assumes nothing: these are definitions.
use Rattle.std.specs.Prelude.{ℕ, suc, pred, ◌+◌, ◌*◌, ◌≤◌, ◌<◌, ◌≡◌, List, ◌∷◌, length, drop}
use Rattle.words.specs.Rising.{Rises, nth}
use Rattle.words.specs.Words.{Bytes, Rule, Words, word}
use Rattle.format.specs.Nodes.{Node, table, node_size}
use Rattle.format.specs.Spans.{node_part}
use Rattle.records.specs.Lists.{Ready, start_of, words}
use Rattle.frames.specs.Frames.{FramesStand, depth_in}
use Rattle.frames.specs.declared.Frame.{Frame}
use Rattle.frames.specs.declared.LeftOpen.{LeftOpen}
use Rattle.nodes.specs.Open.{Cur, Open, Tail}

pub record PutBack (room₀ room : Bytes) (w : ℕ) (node : Node) : Type 0 where
  pub kept : length room ≡ length room₀
  pub tail : (done : List Node) → length done ≡ w → Tail room₀ done → Tail room (node ∷ done)

-- the records `done` stand at the end of the room, as many as w
pub record RecordsDone (n j w : ℕ) (room : Bytes) (done : List Node) : Type 0 where
  pub counted : w ≡ length done
  pub tail : Tail room done
  pub few : w + 2 * j ≤ 2 * n

-- `rest` is what word j has from symbol number `skip` on, and no symbol before it leads from a shifted depth of `left` or more
pub record NameAt (ρ : Rule) (ws : Words) (rest : Bytes) (skip j left : ℕ) : Type 0 where
  pub rises : Rises ws
  pub few : length ws ≤ 2000
  pub within : j < length ws
  pub piece : drop skip (nth ws j) ≡ word ρ rest
  pub whole : length (nth ws j) ≡ skip + length rest
  pub size : skip + length rest ≤ 200
  pub skipped : skip ≤ pred left

-- The names behind j are written; the top one of the frames that hold j is number `top`.
pub record Behind (ws : Words) (j : ℕ) (frames : List Frame) (top count : ℕ) (room : Bytes) : Type 0 where
  pub done : List Node
  pub written : RecordsDone (length ws) (suc j) count room done
  pub rows : Open ws frames j top (suc j) done

-- The node of names j to an end is whole, and in front of the frames that are left.
pub record Closing (ws : Words) (j left : ℕ) (frames : List Frame) (p : LeftOpen) (room : Bytes) : Type 0 where
  pub done : List Node
  pub written : RecordsDone (length ws) j p.count room done
  pub cur : Cur ws frames j left p.top p.end p.mark p.width done

-- ---- one name

pub record NameAsk (ρ : Rule) (rest : Bytes) (skip j left : ℕ) (frames : List Frame) (top count : ℕ) (room : Bytes) : Type 0 where
  pub framed : FramesStand frames top
  pub ws : Words
  pub name : NameAt ρ ws rest skip j left
  pub behind : Behind ws j frames top count room

pub record Passing (ρ : Rule) (rest : Bytes) (skip j left : ℕ) (frames : List Frame) (top count : ℕ) (room₀ : Bytes) (p : LeftOpen) (room : Bytes) : Type 0 where
  pub kept : length room ≡ length room₀
  pub framed : FramesStand frames p.top
  pub closing : (ws : Words) → NameAt ρ ws rest skip j left → Behind ws j frames top count room₀ → Closing ws j left frames p room

-- no frame is closed yet
pub record LeafPut (ρ : Rule) (rest : Bytes) (skip j left : ℕ) (frames : List Frame) (top count : ℕ) (room₀ : Bytes) (p : LeftOpen) (room : Bytes) : Type 0 where
  pub passing : Passing ρ rest skip j left frames top count room₀ p room
  pub same : p.top ≡ top

-- no frame that is left is deeper than `left`
pub record NamePut (ρ : Rule) (rest : Bytes) (skip j left : ℕ) (frames : List Frame) (top count : ℕ) (room₀ : Bytes) (p : LeftOpen) (room : Bytes) : Type 0 where
  pub passing : Passing ρ rest skip j left frames top count room₀ p room
  pub shallow : depth_in frames p.top ≤ left

-- ---- the nodes of frames

pub record CloseAsk (ρ : Rule) (rest : Bytes) (skip j left : ℕ) (frames : List Frame) (p : LeftOpen) (room : Bytes) : Type 0 where
  pub framed : FramesStand frames p.top
  pub deeper : left < depth_in frames p.top
  pub ws : Words
  pub name : NameAt ρ ws rest skip j left
  pub closing : Closing ws j left frames p room

-- from p on to q
pub record Onward (ρ : Rule) (rest : Bytes) (skip j left : ℕ) (frames : List Frame) (p : LeftOpen) (room₀ : Bytes) (q : LeftOpen) (room : Bytes) : Type 0 where
  pub kept : length room ≡ length room₀
  pub down : q.top ≤ p.top
  pub closing : (ws : Words) → NameAt ρ ws rest skip j left → Closing ws j left frames p room₀ → Closing ws j left frames q room

pub record NodePut (ρ : Rule) (rest : Bytes) (skip j left : ℕ) (frames : List Frame) (p : LeftOpen) (room₀ : Bytes) (q : LeftOpen) (room : Bytes) : Type 0 where
  pub onward : Onward ρ rest skip j left frames p room₀ q room
  pub fewer : q.top < p.top

-- ---- all names

-- a judged list
pub record NodesAsk (ρ : Rule) (s : Bytes) (n : ℕ) (lens shares : List ℕ) : Type 0 where
  pub counts : List ℕ
  pub ready : Ready ρ s n lens counts shares

-- The names from j on are written, and the name before j ends at `end`; the frames are those of the nodes that hold it.
pub record Rowing (ρ : Rule) (s : Bytes) (n : ℕ) (room₀ room : Bytes) (frames : List Frame) (top count end j : ℕ) : Type 0 where
  pub low : j ≤ n
  pub here : end ≡ start_of s j
  pub kept : length room ≡ length room₀
  pub framed : FramesStand frames top
  pub done : List Node
  pub written : RecordsDone (length (words ρ s)) j count room done
  pub rows : 0 < j → Open (words ρ s) frames (pred j) top j done
  pub all : j ≡ 0 → done ≡ table (words ρ s)

-- r nodes; and their bytes, where the room is as long
pub record NodesPut (ρ : Rule) (s room₀ room : Bytes) (r : ℕ) : Type 0 where
  pub nodes : r ≡ length (table (words ρ s))
  pub put : length room₀ ≡ length (table (words ρ s)) * node_size → room ≡ node_part (table (words ρ s))
