-- The union of Mar and Marina, Marina and Market Square, Mar and Zoo, computed: in both orders of two, in both groupings of three, and of one
-- with itself; how many distinct names they have; worn cards that have a map, and those whose trailer or block table is wrong in one number; blocks of one
-- that are judged alone; the symbols of bytes around the letters in a folded book; and the four nodes of Mar, Marina and Market Square as columns. What
-- another definition would give shows here, name by name and symbol by symbol.
--     edges-computed, columns-computed, union-computed, union-commutes, union-associates, union-of-itself, distinct-computed, distinct-counted, maps-computed, no-maps-computed, no-map-of-2001, no-maps-of-cards, alone-computed
-- Assumes nothing.
use mathlib.Core.Path.{◌≡◌, refl}
use Prim.Native.Nat.{ℕ, zero, suc, ◌+◌, ◌*◌}
use mathlib.Core.Bool.{false, true}
use mathlib.Core.List.{List, [], ◌∷◌, ◌++◌, map}
use lib.ListN.{drop, length, replicate, set, take}
use Rattle.words.specs.Words.{Bytes, begins, less, plain, same, shared}
use Rattle.format.specs.Book.{number, numbers}
use Rattle.format.specs.Columns.{columns}
use Rattle.format.specs.Distinct.{distinct}
use Rattle.format.specs.Example.{example_by2, example_by4, text}
use Rattle.format.specs.Entries.{decode, decode_from, entry, front}
use Rattle.format.specs.Folded.{folded}
use Rattle.format.specs.Merging.{kept, merged}
use Rattle.format.specs.Nodes.{Node}
use Rattle.format.specs.Records.{rising}
use Rattle.format.specs.Salvage.{Broken, Whole, bounds_from, climbs, judged_alone, mapped}

-- A to Z, 65 to 90, have the symbols of a to z; the bytes beside them keep their own
pub edges-computed : map folded (64 ∷ 65 ∷ 90 ∷ 91 ∷ 96 ∷ 97 ∷ 122 ∷ 123 ∷ []) ≡ 65 ∷ 98 ∷ 123 ∷ 92 ∷ 97 ∷ 98 ∷ 123 ∷ 124 ∷ []
edges-computed = refl

abbrev node_from : ℕ → ℕ → ℕ → ℕ → ℕ → ℕ → Node
node_from symbol depth first names nodes width = record { symbol = symbol; depth = depth; first = first; names = names; nodes = nodes; width = width }

-- document 01's four nodes: their symbols, depths, first names, numbers of names, numbers of nodes, widths
pub columns-computed : columns (node_from 0 3 0 3 4 13 ∷ node_from 0 4 0 1 1 3 ∷ node_from 106 7 1 1 1 6 ∷ node_from 108 14 2 1 1 13 ∷ [])
    ≡ 0 ∷ 0 ∷ 106 ∷ 108 ∷ 3 ∷ 4 ∷ 7 ∷ 14 ∷ 0 ∷ 0 ∷ 1 ∷ 2 ∷ 3 ∷ 1 ∷ 1 ∷ 1 ∷ 4 ∷ 1 ∷ 1 ∷ 1 ∷ 13 ∷ 3 ∷ 6 ∷ 13 ∷ []
unfolding columns
columns-computed = refl

abbrev one : List Bytes
one = text "Mar" ∷ text "Marina" ∷ []

abbrev two : List Bytes
two = text "Marina" ∷ text "Market Square" ∷ []

abbrev three : List Bytes
three = text "Mar" ∷ text "Zoo" ∷ []

pub union-computed : merged plain one two ≡ text "Mar" ∷ text "Marina" ∷ text "Market Square" ∷ []
unfolding shared less kept merged
union-computed = refl

pub union-commutes : merged plain two one ≡ merged plain one two
unfolding shared less kept merged
union-commutes = refl

pub union-associates : merged plain (merged plain one two) three ≡ merged plain one (merged plain two three)
unfolding shared less kept merged
union-associates = refl

pub union-of-itself : merged plain one one ≡ one
unfolding shared less kept merged
union-of-itself = refl

-- six names of the three lists, of which Mar and Marina stand twice
pub distinct-computed : distinct (one ++ (two ++ three)) ≡ text "Mar" ∷ text "Marina" ∷ text "Market Square" ∷ text "Zoo" ∷ []
unfolding shared begins same kept distinct
distinct-computed = refl

pub distinct-counted : length (distinct (one ++ (two ++ three))) ≡ 4
unfolding shared begins same kept distinct
distinct-counted = refl

-- numbers from 0 on, so many
unfoldable pub up_to : ℕ → ℕ → List ℕ
up_to i zero = []
up_to i (suc n) = i ∷ up_to (suc i) n

-- a card of so many names in blocks of so many, with these starts, so many entry bytes and so many nodes
abbrev pub card : ℕ → ℕ → List ℕ → ℕ → ℕ → Bytes
card n k starts entryBytes m =
    let nodes_at = entryBytes + 2 * length starts in
    replicate entryBytes 7 ++ (numbers starts ++ (replicate (12 * m) 7 ++ (numbers (n ∷ k ∷ entryBytes ∷ nodes_at ∷ m ∷ (nodes_at + 12 * m + 16) ∷ []) ++ (0x4E ∷ 0x42 ∷ 0x4B ∷ 0x32 ∷ []))))

-- document 01's two books, with four names, with any node records; without names, also with nodes; 2,000 names in 32 blocks; blocks of 1 and of 64; starts that rise up to the last entry byte
pub maps-computed : map mapped (example_by2 ∷ example_by4 ∷ set example_by2 77 4 ∷ set example_by2 30 9 ∷ card 0 1 [] 0 0 ∷ card 0 64 [] 0 3 ∷ card 2000 64 (up_to 0 32) 32 0 ∷ card 2 1 (0 ∷ 8 ∷ []) 9 7 ∷ card 1 64 (0 ∷ []) 1 1 ∷ [])
    ≡ replicate 9 true
unfolding shared begins same number numbers bounds_from climbs mapped up_to
maps-computed = refl

-- Of document 01's book by two: each number of the trailer off by one, but for a fourth name, which has its place in the second block; each byte of the mark; the second block's start
-- at 0, at the block table and behind it; the first one's at 1; a byte more in front or behind, or less; too few bytes for a trailer.
pub no-maps-computed : map mapped (set example_by2 77 2 ∷ set example_by2 79 1 ∷ set example_by2 79 3 ∷ set example_by2 81 24 ∷ set example_by2 81 26 ∷ set example_by2 83 28 ∷ set example_by2 83 30 ∷ set example_by2 85 3 ∷ set example_by2 85 5
    ∷ set example_by2 87 92 ∷ set example_by2 87 94 ∷ set example_by2 89 0x4F ∷ set example_by2 90 0x43 ∷ set example_by2 91 0x46 ∷ set example_by2 92 0x31
    ∷ set example_by2 27 0 ∷ set example_by2 27 25 ∷ set example_by2 27 26 ∷ set example_by2 25 1 ∷ (0 ∷ example_by2) ∷ (example_by2 ++ (0 ∷ [])) ∷ drop 1 example_by2 ∷ take 92 example_by2 ∷ [] ∷ drop 1 (card 0 1 [] 0 0) ∷ [])
    ≡ replicate 25 false
unfolding shared begins same number numbers bounds_from climbs mapped up_to
no-maps-computed = refl

-- 2,001 names, in blocks of 64
pub no-map-of-2001 : mapped (card 2001 64 (up_to 0 32) 32 0) ≡ false
unfolding shared begins same number numbers bounds_from climbs mapped up_to
no-map-of-2001 = refl

-- blocks of 0 and of 65; entry bytes without names, and names without entry bytes; a start too few, and one too many
pub no-maps-of-cards : map mapped (card 0 0 [] 0 0 ∷ card 0 65 [] 0 0 ∷ card 1 65 (0 ∷ []) 1 1 ∷ card 0 1 [] 1 0 ∷ card 1 1 (0 ∷ []) 0 1 ∷ card 2 1 (0 ∷ []) 1 1 ∷ card 1 1 (0 ∷ 1 ∷ []) 2 1 ∷ []) ≡ replicate 7 false
unfolding shared begins same number numbers bounds_from climbs mapped up_to
no-maps-of-cards = refl

-- Mar and Marina; then with a byte left over, a smaller count, a first count that is not 0, and another number of names
pub alone-computed : judged_alone 2 (0 ∷ 3 ∷ text "Mar" ++ (3 ∷ 3 ∷ text "ina")) ∷ judged_alone 2 (0 ∷ 3 ∷ text "Mar" ++ (3 ∷ 3 ∷ text "ina" ++ (0 ∷ []))) ∷ judged_alone 2 (0 ∷ 3 ∷ text "Mar" ++ (2 ∷ 4 ∷ text "rina"))
    ∷ judged_alone 2 (1 ∷ 3 ∷ text "Mar" ++ (3 ∷ 3 ∷ text "ina")) ∷ judged_alone 3 (0 ∷ 3 ∷ text "Mar" ++ (3 ∷ 3 ∷ text "ina")) ∷ []
    ≡ Whole one ∷ Broken ∷ Broken ∷ Broken ∷ Broken ∷ []
unfolding shared less same begins decode decode_from entry front rising judged_alone
alone-computed = refl
