-- What the writers of entries and block table ask and give.
--     before            the name before name i in a block that begins with name lo: none for the first
--     block             the entries of names lo to hi as one block
--     stored_count       the count that name i stores, by what was noted
--     LengthsAre        a row with the length of each name
--     BlockAsk, BlockSize, BlockPut    one block, its size, and the block written
--     EntriesAsk        all names, in blocks of k
--     shared_to         what the first i names share, in all
--     SumsAre           how many blocks there are, and how large their entries
-- The laws are in proofs/. Assumes nothing: these are definitions.
use Rattle.std.specs.Prelude.{ℕ, zero, suc, pred, ◌+◌, ◌*◌, ◌≤◌, ◌<◌, ◌≡◌, List, [], eqb, length, get_or}
use Rattle.std.proofs.Math.Seq.{slice}
use Rattle.words.specs.Words.{Bytes, Rule, pick}
use Rattle.format.specs.Entries.{front}
use Rattle.format.specs.Book.{block_part, entry_part}
use Rattle.format.specs.Outcomes.{over}
use Rattle.records.specs.Lists.{Ready, names, start_of}

abbrev pub before : ℕ → ℕ → List Bytes → Bytes
before lo i xs = pick (eqb i lo) [] (get_or xs (pred i) [])

abbrev pub block : Bytes → ℕ → ℕ → Bytes
block s lo hi = front [] (slice lo hi (names s))

abbrev pub stored_count : ℕ → ℕ → List ℕ → ℕ
stored_count lo i counts = pick (eqb i lo) 0 (get_or counts i 0)

-- a place for each name, with its length
pub record LengthsAre (xs : List Bytes) (lens : List ℕ) : Type 0 where
  pub enough : length xs ≤ length lens
  pub sizes : (i : ℕ) → i < length xs → get_or lens i 0 ≡ length (get_or xs i [])

-- names lo to hi of a list that was judged; record lo begins at `at`
pub record BlockAsk (s : Bytes) (counts : List ℕ) (lo at hi : ℕ) : Type 0 where
  pub ρ : Rule
  pub n : ℕ
  pub lens : List ℕ
  pub shares : List ℕ
  pub ready : Ready ρ s n lens counts shares
  pub order : lo ≤ hi
  pub within : hi ≤ n
  pub here : at ≡ start_of s lo

-- the size of their entries as one block, and where the next record begins
pub record BlockSize (s : Bytes) (lo hi size next : ℕ) : Type 0 where
  pub is : size ≡ length (block s lo hi)
  pub small : size + 202 * lo ≤ 202 * hi
  pub here : next ≡ start_of s hi

-- the same, with the block at the front of the room
pub record BlockPut (s : Bytes) (lo hi : ℕ) (room₀ room : Bytes) (size next : ℕ) : Type 0 where
  pub sized : BlockSize s lo hi size next
  pub put : room ≡ over (block s lo hi) room₀

-- the entries of n names in blocks of k
pub record EntriesAsk (s : Bytes) (n : ℕ) (counts : List ℕ) (k : ℕ) : Type 0 where
  pub ρ : Rule
  pub lens : List ℕ
  pub shares : List ℕ
  pub ready : Ready ρ s n lens counts shares
  pub low : 1 ≤ k
  pub high : k ≤ 64

-- what the first i names share with the ones before them, in all
unfoldable pub shared_to : List ℕ → ℕ → ℕ
shared_to counts zero = 0
shared_to counts (suc i) = shared_to counts i + get_or counts i 0

-- how many blocks of k there are, and the size of all entries
pub record SumsAre (s : Bytes) (k count size : ℕ) : Type 0 where
  pub size_is : size ≡ length (entry_part k (names s))
  pub small : size ≤ 404000
  pub few : count ≤ 2000
  pub count-is : 2 * count ≡ length (block_part k (names s))
