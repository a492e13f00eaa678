-- The entries of a book as they stand in its bytes, one after the other from the front on.
--     name_at            the name of the entry at an offset, after a name
--     EntryAt, Stream   an entry stands there; the entries of names stand there, after a name
--     rest_at, length_at  what the entry at an offset adds to the name before it; its name's length
--     offset_at, Here    where entry number i stands; the entry of name i stands there
--     prev_of            the name before name i, and none before the first
--     Known             what a walk over the entries has shown of them
--     InBlocks          they stand in blocks, each from its offset in the block table on, its first name whole and every other with what
--                       it shares with the name before it as its count
-- The laws are in proofs/Streams.antt, proofs/Places.antt, proofs/InBlocks.antt and proofs/Rereading.antt. Assumes nothing: these are definitions.
use Rattle.std.specs.Prelude.{ℕ, zero, suc, ◌+◌, ◌*◌, ◌<◌, ◌≤◌, ◌≡◌, List, [], ◌++◌, ◌∷◌, drop, get_or, length, take}
use Rattle.words.specs.Rising.{Rises}
use Rattle.words.specs.Words.{Bytes, Rule, shared}
use Rattle.format.specs.Spans.{words_of}
use Rattle.format.specs.Book.{longest_book, names_of, number}
use Rattle.format.specs.Records.{longest, most_names}

abbrev pub name_at : Bytes → ℕ → Bytes → Bytes
name_at b o prev = take (get_or b o 0) prev ++ take (get_or b (o + 1) 0) (drop (o + 2) b)

-- what the entry at an offset adds to the name before it; its name's length
abbrev pub rest_at : Bytes → ℕ → Bytes
rest_at b o = take (get_or b (o + 1) 0) (drop (o + 2) b)

abbrev pub length_at : Bytes → ℕ → ℕ
length_at b o = get_or b o 0 + get_or b (o + 1) 0

-- where the entry ends that stands at an offset
abbrev pub entry_end : Bytes → ℕ → ℕ
entry_end b o = o + 2 + get_or b (o + 1) 0

-- an entry stands at o, and shares no more than the n bytes before it
pub record EntryAt (b : Bytes) (o n : ℕ) : Type 0 where
  pub fits : entry_end b o ≤ length b
  pub shares : get_or b o 0 ≤ n
  pub short : get_or b o 0 + get_or b (o + 1) 0 ≤ longest

pub data Stream (b : Bytes) : ℕ → Bytes → List Bytes → Type 0 where
  done : {o : ℕ} {prev : Bytes} → Stream b o prev []
  entry : {o : ℕ} {prev x : Bytes} {xs : List Bytes} → EntryAt b o (length prev) → name_at b o prev ≡ x
      → Stream b (entry_end b o) x xs → Stream b o prev (x ∷ xs)

-- entry number i after the one at o
unfoldable pub offset_from : Bytes → ℕ → ℕ → ℕ
offset_from b o zero = o
offset_from b o (suc i) = offset_from b (entry_end b o) i

abbrev pub offset_at : Bytes → ℕ → ℕ
offset_at b i = offset_from b 0 i

-- the entry of name i stands at a
abbrev pub Here : Bytes → ℕ → ℕ → Type 0
Here b i a = a ≡ offset_at b i

abbrev pub prev_of : List Bytes → ℕ → Bytes
prev_of xs zero = []
prev_of xs (suc i) = get_or xs i []

pub record Known (ρ : Rule) (b : Bytes) : Type 0 where
  pub short : length b ≤ longest_book
  pub few : length (names_of b) ≤ most_names
  pub rises : Rises (words_of ρ b)
  pub stream : Stream b 0 [] (names_of b)

-- blocks of k names, whose offsets stand from s on
pub record InBlocks (b : Bytes) (k s : ℕ) : Type 0 where
  pub one : 1 ≤ k
  pub room : (j : ℕ) → j * k < length (names_of b) → s + 2 * j + 2 ≤ length b
  pub place : (j : ℕ) → j * k < length (names_of b) → number b (s + 2 * j) ≡ offset_at b (j * k)
  pub first : (j : ℕ) → j * k < length (names_of b) → get_or b (offset_at b (j * k)) 0 ≡ 0
  pub inner : (j q : ℕ) → suc q < k → j * k + suc q < length (names_of b)
      → get_or b (offset_at b (j * k + suc q)) 0 ≡ shared (get_or (names_of b) (j * k + q) []) (get_or (names_of b) (j * k + suc q) [])
