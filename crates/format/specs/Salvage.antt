-- Document 02, CR 5, 'Books from a worn card': what of damaged bytes is looked at, and one block judged alone.
--     block_count, bounds     how many blocks there are; where each of them begins, and behind them where the entries end
--     mapped, spans     trailer and block table make sense, and no node record is looked at; each block's number of names and span's bytes
--     Block, judged_alone     a block's names, by these two and nothing else; or that it is broken. Assumes nothing: these are definitions.
use Rattle.std.specs.Prelude.{ℕ, zero, suc, ◌+◌, ◌-◌, ◌*◌, ◌/◌, min, Bool, false, true, List, [], ◌∷◌, eqb, leb, ltb, drop, length, take}
use Rattle.words.specs.Words.{Bytes, both, pick, plain, same}
use Rattle.format.specs.Book.{good_block, number, told, trailer_size}
use Rattle.format.specs.Entries.{decode, front}
use Rattle.format.specs.Kinds.{PlainBook, mark_of}
use Rattle.format.specs.Records.{most_names, rising}
use Rattle.format.specs.Nodes.{node_size}

-- k names in each, 1 to k in the last
abbrev pub block_count : ℕ → ℕ → ℕ
block_count n k = (n + (k - 1)) / k

-- from an offset in the block table on, so many
unfoldable pub bounds_from : Bytes → ℕ → ℕ → List ℕ
bounds_from s at zero = told s 2 ∷ []
bounds_from s at (suc more) = number s at ∷ bounds_from s (at + 2) more

abbrev pub bounds : Bytes → List ℕ
bounds s = bounds_from s (told s 2) (block_count (told s 0) (told s 1))

unfoldable pub climbs : ℕ → List ℕ → Bool
climbs a [] = true
climbs a (b ∷ l) = both (ltb a b) (climbs b l)

-- strictly rising from 0: so every start is inside the entries, and without names there are none
abbrev pub from_zero : List ℕ → Bool
from_zero [] = false
from_zero (a ∷ l) = both (eqb a 0) (climbs a l)

unfoldable pub mapped : Bytes → Bool
mapped s =
    both (leb trailer_size (length s)) (both (leb (told s 0) most_names) (both (good_block (told s 1))
    (both (eqb (told s 2 + 2 * block_count (told s 0) (told s 1)) (told s 3)) (both (eqb (told s 3 + node_size * told s 4 + trailer_size) (length s))
    (both (eqb (told s 5) (length s)) (both (same (drop (length s - 4) s) (mark_of PlainBook)) (from_zero (bounds s))))))))

unfoldable pub spans_from : Bytes → ℕ → ℕ → List ℕ → List (ℕ × Bytes)
spans_from s k left [] = []
spans_from s k left (a ∷ []) = []
spans_from s k left (a ∷ b ∷ l) = (min left k, take (b - a) (drop a s)) ∷ spans_from s k (left - k) (b ∷ l)

abbrev pub spans : Bytes → List (ℕ × Bytes)
spans s = spans_from s (told s 1) (told s 0) (bounds s)

pub data Block : Type 0 where
  Whole : List Bytes → Block
  Broken : Block

-- names of 1 to 200 bytes, strictly rising, in the proper number, whose entries, with greatest shared counts, fill the span exactly
unfoldable pub judged_alone : ℕ → Bytes → Block
judged_alone m span =
    let xs = decode span in
    pick (both (eqb (length xs) m) (both (rising plain [] xs) (same (front [] xs) span))) (Whole xs) Broken
