-- The records of a worn card's names in a room.
--     BytesPut          bytes stand behind what is written, where they fit
--     NamesAsk, NamesPut     entries of so many names stand; their records are put, for any names that the entries are
--     RecordsTake, CardCount     how many bytes their records take; those of all whole blocks, and what is found of each block is noted
--     saved_of, saved_answer, shown_saved     what saving the names gives, for a report of so many rows; what the code gave, as document 01's numbers
-- The laws are in proofs/Saving.antt. Assumes nothing: these are definitions.
use Rattle.std.specs.Prelude.{ℕ, ◌+◌, ◌*◌, ◌≤◌, ◌≡◌, Result, Ok, Err, List, [], ◌++◌, eqb, length}
use Rattle.words.specs.Words.{Bytes, pick}
use Rattle.format.specs.Outcomes.{Answer, Written, given, over, refused, write}
use Rattle.format.specs.Records.{encode}
use Rattle.format.specs.Salvage.{mapped}
use Rattle.answers.specs.Salvage.{card_blocks, saved_records}
use Rattle.refusals.specs.Refusals.{said}
use Rattle.refusals.specs.declared.Refusal.{Refusal}
use Rattle.streams.specs.Streams.{Stream}
use Rattle.cards.specs.Cards.{Verdicts}
use Rattle.salvage.specs.declared.Saved.{Saved}

-- behind the first `at` bytes, and then they end at `end`
pub record BytesPut (out room₀ room : Bytes) (at end : ℕ) : Type 0 where
  pub kept : length room ≡ length room₀
  pub size : end ≡ at + length out
  pub put : end ≤ length room₀ → (p xs : Bytes) → room₀ ≡ over p xs → length p ≡ at → length xs ≡ length room₀ → room ≡ over (p ++ out) xs

pub record NamesAsk (s : Bytes) (start m : ℕ) : Type 0 where
  pub names : List Bytes
  pub stream : Stream s start [] names
  pub count : length names ≡ m

pub record NamesPut (s : Bytes) (start m : ℕ) (room₀ room : Bytes) (at end : ℕ) : Type 0 where
  pub kept : length room ≡ length room₀
  pub bounded : end ≤ at + 201 * m
  pub all : (xs : List Bytes) → Stream s start [] xs → length xs ≡ m → BytesPut (encode xs) room₀ room at end

pub record RecordsTake (s : Bytes) (start m size : ℕ) : Type 0 where
  pub bounded : size ≤ 201 * m
  pub all : (xs : List Bytes) → Stream s start [] xs → length xs ≡ m → size ≡ length (encode xs)

pub record CardCount (s notes : Bytes) (size : ℕ) : Type 0 where
  pub is : size ≡ length (saved_records (card_blocks s))
  pub verdicts : Verdicts s notes

unfoldable pub saved_of : Bytes → ℕ → Bytes → Written
saved_of s rows room =
    let bs = card_blocks s in
    pick (mapped s)
    (pick (eqb rows (length bs)) (write (saved_records bs) room) (record { answer = refused 12; room = room }))
    (record { answer = refused 13; room = room })

abbrev pub saved_answer : Result Saved Refusal → Answer
saved_answer (Ok r) = given r.size 0
saved_answer (Err e) = said e

abbrev pub shown_saved : Result Saved Refusal → Bytes → Written
shown_saved r room = record { answer = saved_answer r; room = room }
