-- What a look at a node's record asks and says, over any map that has room: the numbers of a node stand `step` bytes apart, and nodes
-- `stride` bytes. It goes by the entries, and holds no name.
--     LeadAsk                      an entry whose symbol is asked for
--     LedTo, LedSays               a symbol led to a record, which tells its first name; whether it is so
--     LeafAt, LeafSays             a record of one name has a leaf's depth, number of nodes and width; whether it has
--     MayBeFork, ForkSays          what is asked of a record of several names before its row is looked at; whether it holds
-- The laws are in proofs/. Assumes nothing: these are definitions.
use Rattle.std.specs.Prelude.{ℕ, suc, ◌+◌, ◌-◌, ◌*◌, ◌≤◌, ◌<◌, ◌≡◌, Bool, false, true, get_or, length}
use Rattle.words.specs.Words.{Bytes, at, word}
use Rattle.format.specs.Kinds.{rule_in}
use Rattle.format.specs.Book.{trailer_size}
use Rattle.format.specs.Records.{longest}
use Rattle.streams.specs.Streams.{entry_end, rest_at}
use Rattle.standing.specs.Maps.{record_at}

-- the entry at a stands, shares no more than d bytes, and a trailer says by which rule its name has its symbols
pub record LeadAsk (b : Bytes) (a d : ℕ) : Type 0 where
  pub fits : entry_end b a ≤ length b
  pub low : get_or b a 0 ≤ d
  pub long : trailer_size ≤ length b

-- symbol number d of the name of the entry at a, which shares no more than d bytes, led to the record at o, whose first name is number i
abbrev pub LedTo : Bytes → ℕ → ℕ → ℕ → ℕ → ℕ → Type 0
LedTo b step o i d a = ((record_at step b o).symbol ≡ at (word (rule_in b) (rest_at b a)) (d - get_or b a 0)) × ((record_at step b o).first ≡ i)

abbrev pub LedSays : Bytes → ℕ → ℕ → ℕ → ℕ → ℕ → Bool → Type 0
LedSays b step o i d a true = LedTo b step o i d a
LedSays b step o i d a false = LedTo b step o i d a → ⊥

-- a leaf's depth, of a name of len bytes, its number of nodes and its width
abbrev pub LeafAt : Bytes → ℕ → ℕ → ℕ → Type 0
LeafAt b step o len = ((record_at step b o).depth ≡ suc len) × ((record_at step b o).nodes ≡ 1) × ((record_at step b o).width ≡ len)

abbrev pub LeafSays : Bytes → ℕ → ℕ → ℕ → Bool → Type 0
LeafSays b step o len true = LeafAt b step o len
LeafSays b step o len false = LeafAt b step o len → ⊥

-- the record at o has fewer names than the one at `up`, in whose row it stands, a depth greater than the row's and less than any name's
-- length can be, and nodes that end by e
pub record MayBeFork (b : Bytes) (stride step up o e d : ℕ) : Type 0 where
  pub proper : (record_at step b o).names < (record_at step b up).names
  pub below : d < (record_at step b o).depth
  pub shallow : (record_at step b o).depth < longest
  pub ends : o + (record_at step b o).nodes * stride ≤ e

abbrev pub ForkSays : Bytes → ℕ → ℕ → ℕ → ℕ → ℕ → ℕ → Bool → Type 0
ForkSays b stride step up o e d true = MayBeFork b stride step up o e d
ForkSays b stride step up o e d false = MayBeFork b stride step up o e d → ⊥
