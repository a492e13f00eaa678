-- A list that is read: its names, and what is noted of them on the way.
--     verdict_numbers    document 01's numbers for each verdict: so many names, or a refusal
--     reading_of         what the reading of a list gives: how many names, or 5, 6, 7 and the record's number
--     names, words      the names of a list, whatever rule it is read by, and their words
--     Noted             each name's length, and how many bytes and how many symbols it shares with the name before
--     Judged            what judging a list gives
--     Ready, start_of    a list that reads well, with what was noted; where its records begin
-- The laws are in proofs/. Assumes nothing: these are definitions.
use Rattle.std.specs.Prelude.{ℕ, zero, suc, ◌≤◌, ◌<◌, ◌≡◌, Result, Ok, Err, List, [], ◌∷◌, map, true, length, get_or, take}
use Rattle.words.specs.Words.{Bytes, Rule, Words, word, shared}
use Rattle.words.specs.Rising.{Sure}
use Rattle.format.specs.Records.{Names, Reading, Refused, encode, read_list, sound}
use Rattle.format.specs.Outcomes.{Answer, given, numbered}
use Rattle.refusals.specs.Refusals.{code_of, said}
use Rattle.refusals.specs.declared.Refusal.{Refusal}

abbrev pub verdict_numbers : Result ℕ Refusal → Answer
verdict_numbers (Ok n) = given n 0
verdict_numbers (Err e) = said e

-- the first bad record ends the reading
unfoldable pub reading_of : Reading → Answer
reading_of (Names xs) = given (length xs) 0
reading_of (Refused code i) = numbered code i

abbrev pub names_in : Reading → List Bytes
names_in (Names xs) = xs
names_in (Refused code i) = []

-- behind each length byte as many bytes as it says; the first `skip` bytes belong to the record before
unfoldable pub listed_from : ℕ → Bytes → List Bytes
listed_from zero [] = []
listed_from zero (n ∷ rest) = take n rest ∷ listed_from n rest
listed_from (suc skip) [] = []
listed_from (suc skip) (b ∷ rest) = listed_from skip rest

unfoldable pub names : Bytes → List Bytes
names s = listed_from 0 s

unfoldable pub words : Rule → Bytes → Words
words ρ s = map (word ρ) (names s)

-- the counts are of bytes, the shares of symbols
pub record Noted (ρ : Rule) (xs : List Bytes) (lens counts shares : List ℕ) : Type 0 where
  pub lens-room : length xs ≤ length lens
  pub counts-room : length xs ≤ length counts
  pub shares-room : length xs ≤ length shares
  pub sizes : (i : ℕ) → i < length xs → get_or lens i 0 ≡ length (get_or xs i [])
  pub first : 0 < length xs → get_or counts 0 0 ≡ 0
  pub common : (i : ℕ) → suc i < length xs → get_or counts (suc i) 0 ≡ shared (get_or xs i []) (get_or xs (suc i) [])
  pub alike : (i : ℕ) → suc i < length xs → get_or shares (suc i) 0 ≡ shared (word ρ (get_or xs i [])) (word ρ (get_or xs (suc i) []))

-- a list may have at most so many names; they are noted where the rows have a place for as many
pub record Judged (ρ : Rule) (s : Bytes) (most : ℕ) (lens counts shares : List ℕ) (r : Result ℕ Refusal) : Type 0 where
  pub verdict : verdict_numbers r ≡ reading_of (read_list ρ most s)
  pub refuses : (e : Refusal) → r ≡ Err e → 5 ≤ code_of e
  pub noted : most ≤ length lens → Noted ρ (names_in (read_list ρ most s)) lens counts shares

-- a list of n names has been judged
pub record Ready (ρ : Rule) (s : Bytes) (n : ℕ) (lens counts shares : List ℕ) : Type 0 where
  pub lawful : Sure ρ
  pub bytes : encode (names s) ≡ s
  pub total : n ≡ length (names s)
  pub few : n ≤ 2000
  pub sound : sound ρ (names s) ≡ true
  pub noted : Noted ρ (names s) lens counts shares

-- where record number i begins
abbrev pub start_of : Bytes → ℕ → ℕ
start_of s i = length (encode (take i (names s)))
