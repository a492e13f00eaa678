-- A worn card's blocks, as the code asks and tells of them.
--     Table             the block table lies where the trailer says, and has a bound of number i
--     CardBlockAsk          the map makes sense, and there is a block of number i
--     names_of_block, SpanIs     how many names block i should have; where it stands
--     PlainSays         whether a kind of book is the plain one
--     WholeAsk, WholeSays     a span inside the bytes; whether its block, judged alone, is whole
--     IsWhole, KeptSays, Verdicts     block i is whole; whether it is; of every block that is noted
-- The laws are in proofs/Cards.antt. Assumes nothing: these are definitions.
use Rattle.std.specs.Prelude.{ℕ, ◌+◌, ◌-◌, ◌*◌, ◌<◌, ◌≤◌, min, ◌≡◌, Bool, false, true, List, [], drop, get_or, length, take}
use Rattle.words.specs.Words.{Bytes, pick}
use Rattle.format.specs.Book.{told, trailer_size}
use Rattle.format.specs.Entries.{decode}
use Rattle.format.specs.Kinds.{BookKind, PlainBook}
use Rattle.format.specs.Salvage.{Broken, Whole, block_count, judged_alone, mapped, spans}
use Rattle.answers.specs.Salvage.{card_blocks}
use Rattle.notes.specs.Notes.{noted}

pub record Table (s : Bytes) (i : ℕ) : Type 0 where
  pub within : told s 3 + trailer_size ≤ length s
  pub size : told s 2 + 2 * block_count (told s 0) (told s 1) ≡ told s 3
  pub upto : i ≤ block_count (told s 0) (told s 1)

pub record CardBlockAsk (s : Bytes) (i : ℕ) : Type 0 where
  pub map : mapped s ≡ true
  pub within : i < length (card_blocks s)

-- the last one has those that are left
abbrev pub names_of_block : Bytes → ℕ → ℕ
names_of_block s i = min (told s 0 - i * told s 1) (told s 1)

pub record SpanIs (s : Bytes) (i start end names : ℕ) : Type 0 where
  pub order : start ≤ end
  pub inside : end ≤ length s
  pub few : names ≤ 64
  pub is : get_or (spans s) i (0, []) ≡ (names, take (end - start) (drop start s))

pub record WholeAsk (s : Bytes) (start end : ℕ) : Type 0 where
  pub order : start ≤ end
  pub inside : end ≤ length s

abbrev pub PlainSays : BookKind → Bool → Type 0
PlainSays κ true = κ ≡ PlainBook
PlainSays κ false = κ ≡ PlainBook → ⊥

-- its names are those that its bytes tell
abbrev pub WholeSays : Bytes → ℕ → ℕ → ℕ → Bool → Type 0
WholeSays s start end names r = let span = take (end - start) (drop start s) in judged_alone names span ≡ pick r (Whole (decode span)) Broken

abbrev pub IsWhole : Bytes → ℕ → Type 0
IsWhole s i = (xs : List Bytes) × (get_or (card_blocks s) i Broken ≡ Whole xs)

abbrev pub KeptSays : Bytes → ℕ → Bool → Type 0
KeptSays s i true = IsWhole s i
KeptSays s i false = get_or (card_blocks s) i Broken ≡ Broken

pub record Verdicts (s : Bytes) (notes : List ℕ) : Type 0 where
  pub all : (i : ℕ) → i < length (card_blocks s) → KeptSays s i (noted notes i)
