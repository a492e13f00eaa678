-- What is noted of the names of a changed book.
--     Places, RowSet    three rows have a place for name number j; it is noted there, behind the name prev, and nothing else is
--     before_of          the name before name number t of some, which stand behind prev
--     RunAsk            so many names stand behind prev, and the rows have places for them from j on
--     RunSays, RunPut   they are noted there, and what stood before j is as it was; the last of them is at hand
--     NoteSet, NoteAsk, NotePut     RowSet, RunAsk and RunPut, of rows that stand in one
-- The laws are in proofs/. Assumes nothing: these are definitions.
use Rattle.std.specs.Prelude.{ℕ, zero, suc, ◌+◌, ◌≤◌, ◌<◌, ◌≡◌, List, [], drop, get_or, length, set}
use Rattle.words.specs.Words.{Bytes, Rule, shared, word}
use Rattle.streams.specs.Streams.{Stream}
use Rattle.records.specs.Notes.{counts_of, lens_of, shares_of}
use Rattle.records.specs.declared.Note.{Note}

pub record Places (lens counts shares : List ℕ) (j : ℕ) : Type 0 where
  pub lens-room : j < length lens
  pub counts-room : j < length counts
  pub shares-room : j < length shares

pub record RowSet (ρ : Rule) (prev name : Bytes) (j len : ℕ) (lens counts shares lens' counts' shares' : List ℕ) : Type 0 where
  pub lens-are : lens' ≡ set lens j len
  pub counts-are : counts' ≡ set counts j (shared prev name)
  pub shares-are : shares' ≡ set shares j (shared (word ρ prev) (word ρ name))

abbrev pub before_of : Bytes → List Bytes → ℕ → Bytes
before_of prev zs zero = prev
before_of prev zs (suc t) = get_or zs t []

pub record RunAsk (b : Bytes) (at : ℕ) (prev : Bytes) (m j : ℕ) (lens counts shares : List ℕ) : Type 0 where
  pub names : List Bytes
  pub stream : Stream b at prev names
  pub enough : m ≤ length names
  pub lens-room : j + m ≤ length lens
  pub counts-room : j + m ≤ length counts
  pub shares-room : j + m ≤ length shares

-- one row, of which m numbers from j on are told
pub record Told (f : ℕ → ℕ) (m j : ℕ) (row row' : List ℕ) : Type 0 where
  pub size : length row' ≡ length row
  pub kept : (i : ℕ) → i < j → get_or row' i 0 ≡ get_or row i 0
  pub told : (t : ℕ) → t < m → get_or row' (j + t) 0 ≡ f t

pub record RunSays (ρ : Rule) (prev : Bytes) (zs : List Bytes) (m j : ℕ) (lens counts shares lens' counts' shares' : List ℕ) : Type 0 where
  pub lens-told : Told (λ t. length (get_or zs t [])) m j lens lens'
  pub counts-told : Told (λ t. shared (before_of prev zs t) (get_or zs t [])) m j counts counts'
  pub shares-told : Told (λ t. shared (word ρ (before_of prev zs t)) (word ρ (get_or zs t []))) m j shares shares'

-- of any names that stand there
pub record RunPut (ρ : Rule) (b : Bytes) (at : ℕ) (prev : Bytes) (m j : ℕ) (lens counts shares lens' counts' shares' : List ℕ) (next : ℕ) (name : Bytes) : Type 0 where
  pub onward : (zs : List Bytes) → Stream b at prev zs → m ≤ length zs → Stream b next name (drop m zs)
  pub named : (zs : List Bytes) → Stream b at prev zs → m ≤ length zs → name ≡ before_of prev zs m
  pub noted : (zs : List Bytes) → Stream b at prev zs → m ≤ length zs → RunSays ρ prev zs m j lens counts shares lens' counts' shares'

abbrev pub NoteSet : Rule → Bytes → Bytes → ℕ → List Note → List Note → Type 0
NoteSet ρ prev name j rows rows' =
    RowSet ρ prev name j (length name) (lens_of rows) (counts_of rows) (shares_of rows) (lens_of rows') (counts_of rows') (shares_of rows')

abbrev pub NoteAsk : Bytes → ℕ → Bytes → ℕ → ℕ → List Note → Type 0
NoteAsk b at prev m j rows = RunAsk b at prev m j (lens_of rows) (counts_of rows) (shares_of rows)

abbrev pub NotePut : Rule → Bytes → ℕ → Bytes → ℕ → ℕ → List Note → List Note → ℕ → Bytes → Type 0
NotePut ρ b at prev m j rows rows' next name =
    RunPut ρ b at prev m j (lens_of rows) (counts_of rows) (shares_of rows) (lens_of rows') (counts_of rows') (shares_of rows') next name
