-- Document 02, CR 5: what the theorems on a salvage speak of.
--     DiffersIn         two runs of bytes differ only inside the span of block j of the first
--     Apart             two salvages say and give the same of every block but number j, in the same order
--     Proper, Faithful  the names of a kept block; a salvage's rows and records are those of its blocks, each dropped or proper
--     worn              document 01's book by two with one byte of its first block changed. Assumes nothing: these are definitions.
use Rattle.std.specs.Prelude.{ℕ, suc, ◌≤◌, ◌<◌, ◌≡◌, true, List, [], ◌∷◌, ◌++◌, map, drop, get_or, length, set, take}
use Rattle.words.specs.Words.{Bytes, less, plain, word}
use Rattle.format.specs.Entries.{front}
use Rattle.format.specs.Example.{example_by2}
use Rattle.format.specs.Records.{longest}
use Rattle.format.specs.Salvage.{Block, Broken, Whole, bounds, spans}
use Rattle.answers.specs.Salvage.{Salvaged, records_in, reported, saved_records}

pub record DiffersIn (s t : Bytes) (j : ℕ) : Type 0 where
  pub there : j < length (spans s)
  pub size : length s ≡ length t
  pub before : take (get_or (bounds s) j 0) s ≡ take (get_or (bounds s) j 0) t
  pub behind : drop (get_or (bounds s) (suc j) 0) s ≡ drop (get_or (bounds s) (suc j) 0) t

-- `front` and `back` are the other blocks, kept with their names or dropped; each salvage has its own block between them
pub record Apart (j : ℕ) (a b : Salvaged) : Type 0 where
  pub front : List Block
  pub back : List Block
  pub own : Block
  pub other : Block
  pub place : length front ≡ j
  pub taken : (a.answer.code ≡ 0) × (b.answer.code ≡ 0)
  pub rows : (a.rows ≡ map reported front ++ (reported own ∷ map reported back)) × (b.rows ≡ map reported front ++ (reported other ∷ map reported back))
  pub records : (take a.answer.first a.room ≡ saved_records front ++ (records_in own ++ saved_records back))
      × (take b.answer.first b.room ≡ saved_records front ++ (records_in other ++ saved_records back))

pub record Proper (m : ℕ) (span : Bytes) (xs : List Bytes) : Type 0 where
  pub count : length xs ≡ m
  pub sizes : (i : ℕ) → i < length xs → (1 ≤ length (get_or xs i [])) × (length (get_or xs i []) ≤ longest)
  pub rises : (i j : ℕ) → i < j → j < length xs → less (word plain (get_or xs i [])) (word plain (get_or xs j [])) ≡ true
  pub entries : front [] xs ≡ span

pub record Faithful (s : Bytes) (a : Salvaged) : Type 0 where
  pub blocks : List Block
  pub many : length blocks ≡ length (spans s)
  pub rows : a.rows ≡ map reported blocks
  pub records : take a.answer.first a.room ≡ saved_records blocks
  pub proper : (i : ℕ) (xs : List Bytes) → i < length blocks → get_or blocks i Broken ≡ Whole xs → Proper (get_or (spans s) i (0, [])).0 (get_or (spans s) i (0, [])).1 xs

-- Marina's entry says that it shares 2 bytes with Mar, so its name is Maina, which is not above Mar
abbrev pub worn : Bytes
worn = set example_by2 5 2
