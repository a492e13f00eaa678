-- Document 01, 'A list is a run of records': one length byte, then that many bytes; names strictly rise, and the first bad record
-- ends the reading with refusal 5, 6 or 7 and the record's number.
--     longest, most_names, good_length    1 to 200 bytes; 2,000 names
--     read_list, encode, sound           the names of a list, if they are no more than allowed, or the refusal; the records of names; names that a list can have
-- The laws are in proofs/Records.antt. Assumes nothing: these are definitions.
use Rattle.std.specs.Prelude.{ℕ, zero, suc, Bool, true, List, [], ◌∷◌, ◌++◌, leb, ltb, length, take}
use Rattle.words.specs.Words.{Bytes, Rule, pick, both, word, less}

abbrev pub longest : ℕ
longest = 200

abbrev pub most_names : ℕ
most_names = 2000

abbrev pub good_length : ℕ → Bool
good_length n = both (ltb 0 n) (leb n longest)

pub data Reading : Type 0 where
  Names : List Bytes → Reading
  Refused : ℕ → ℕ → Reading

abbrev pub after : Bytes → Reading → Reading
after x (Names xs) = Names (x ∷ xs)
after x (Refused code record-number) = Refused code record-number

-- From number i on, after the name prev; the first `skip` bytes belong to the record before. A record is asked 5, then 6, then 7.
unfoldable pub read_from : Rule → ℕ → ℕ → Bytes → ℕ → Bytes → Reading
read_from ρ most i prev zero [] = Names []
read_from ρ most i prev zero (n ∷ rest) =
    let x = take n rest in
    let more = after x (read_from ρ most (suc i) x n rest) in
    pick (both (good_length n) (leb n (length rest)))
    (pick (less (word ρ prev) (word ρ x)) (pick (ltb i most) more (Refused 7 i)) (Refused 6 i))
    (Refused 5 i)
read_from ρ most i prev (suc skip) [] = Names []
read_from ρ most i prev (suc skip) (b ∷ rest) = read_from ρ most i prev skip rest

-- the empty word is below every name, so the first record is no case of its own
unfoldable pub read_list : Rule → ℕ → Bytes → Reading
read_list ρ most s = read_from ρ most 0 [] 0 s

unfoldable pub encode : List Bytes → Bytes
encode [] = []
encode (x ∷ xs) = length x ∷ x ++ encode xs

-- strictly rising from prev on, 1 to 200 bytes each
unfoldable pub rising : Rule → Bytes → List Bytes → Bool
rising ρ prev [] = true
rising ρ prev (x ∷ xs) = both (good_length (length x)) (both (less (word ρ prev) (word ρ x)) (rising ρ x xs))

unfoldable pub sound : Rule → List Bytes → Bool
sound ρ xs = both (leb (length xs) most_names) (rising ρ [] xs)
