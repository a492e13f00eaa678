-- What putting a book together asks and gives.
--     BuildAsk          a judged list, and a block size 1 to 64, of a full book
--     RecordCount, TablePut     how many records the table has; what stands in a part that is as long
--     Sized             where the tables begin, the number of records, the length
-- The laws are in proofs/. Assumes nothing: these are definitions.
use Rattle.std.specs.Prelude.{ℕ, ◌+◌, ◌*◌, ◌≤◌, ◌≡◌, true, List, length}
use Rattle.words.specs.Words.{Bytes}
use Rattle.format.specs.Full.{is_full}
use Rattle.format.specs.Kinds.{BookKind, count_in, form_of, record_size, rule_of, table_in}
use Rattle.format.specs.Records.{Names, most_names, read_list}
use Rattle.format.specs.Book.{block_part, entry_part, numbers}
use Rattle.records.specs.Lists.{Ready, names}

pub record BuildAsk (κ : BookKind) (s : Bytes) (n : ℕ) (lens counts shares : List ℕ) (k : ℕ) : Type 0 where
  pub read : read_list (rule_of κ) most_names s ≡ Names (names s)
  pub ready : Ready (rule_of κ) s n lens counts shares
  pub low : 1 ≤ k
  pub high : k ≤ 64
  pub full : is_full κ ≡ true

-- of any list of which a judged list's notes tell that
unfoldable pub RecordCount : BookKind → ℕ → List ℕ → ℕ → Type 0
RecordCount κ n shares m = (s : Bytes) (lens counts : List ℕ) → Ready (rule_of κ) s n lens counts shares → m ≡ count_in (form_of κ) (rule_of κ) (names s)

-- of a full book
pub record TablePut (κ : BookKind) (s room after : Bytes) : Type 0 where
  pub put : is_full κ ≡ true → length room ≡ count_in (form_of κ) (rule_of κ) (names s) * record_size (form_of κ) → after ≡ numbers (table_in (form_of κ) (rule_of κ) (names s))

pub record Sized (κ : BookKind) (s : Bytes) (k blocks nodes count total : ℕ) : Type 0 where
  pub blocks_start : blocks ≡ length (entry_part k (names s))
  pub nodes-start : nodes ≡ blocks + length (block_part k (names s))
  pub number : count ≡ count_in (form_of κ) (rule_of κ) (names s)
  pub whole : total ≡ nodes + count * record_size (form_of κ) + 16
  pub few : total ≤ 1000000
