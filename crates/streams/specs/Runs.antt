-- The entries of a block, and of a book, as local tests judge them.
--     Step              an entry stands at an offset, ends by e, and passes the tests after the name prev
--     Run, RunTo        from o to e stand the entries of names after prev; of m names, the last of them l
--     Rest, Has         from o to s stand the entries of names in blocks of k, from t to u the blocks' offsets; of m names
--     Frame             what is asked of the trailer's numbers k, s and u
-- The laws are in proofs/Fronts.antt, proofs/Blocks.antt and proofs/Walks.antt. Assumes nothing: these are definitions.
use Rattle.std.specs.Prelude.{ℕ, ◌+◌, ◌<◌, ◌≤◌, ◌≡◌, true, List, [], ◌++◌, ◌∷◌, leb, drop, get_or, length}
use Rattle.words.specs.Words.{Bytes, Rule, less, pick, word}
use Rattle.format.specs.Book.{entry_part, longest_book, number, numbers}
use Rattle.format.specs.Entries.{blocks, offsets}
use Rattle.format.specs.Records.{longest, rising}
use Rattle.format.specs.Spans.{last_of}
use Rattle.streams.specs.Streams.{entry_end, name_at}

-- `differ`: the count is the greatest possible, by bytes; `above`: the name is above the one before, by symbols
pub record Step (ρ : Rule) (b : Bytes) (o e : ℕ) (prev : Bytes) : Type 0 where
  pub fits : entry_end b o ≤ e
  pub some : 1 ≤ get_or b (o + 1) 0
  pub shares : get_or b o 0 ≤ length prev
  pub short : get_or b o 0 + get_or b (o + 1) 0 ≤ longest
  pub differ : get_or b o 0 < length prev → get_or prev (get_or b o 0) 0 ≡ get_or b (o + 2) 0 → ⊥
  pub above : less (word ρ prev) (word ρ (name_at b o prev)) ≡ true

pub data Run (ρ : Rule) (b : Bytes) (e : ℕ) : ℕ → Bytes → List Bytes → Type 0 where
  done : {o : ℕ} {prev : Bytes} → o ≡ e → Run ρ b e o prev []
  more : {o : ℕ} {prev x : Bytes} {xs : List Bytes} → Step ρ b o e prev → name_at b o prev ≡ x → Run ρ b e (entry_end b o) x xs
      → Run ρ b e o prev (x ∷ xs)

pub record RunTo (ρ : Rule) (b : Bytes) (e o : ℕ) (prev : Bytes) (m : ℕ) (l : Bytes) : Type 0 where
  pub names : List Bytes
  pub count : length names ≡ m
  pub run : Run ρ b e o prev names
  pub last : last_of prev names ≡ l

-- the names are above prev
pub record Rest (ρ : Rule) (b : Bytes) (k s u t o : ℕ) (prev : Bytes) (xs : List Bytes) : Type 0 where
  pub rises : rising ρ prev xs ≡ true
  pub entries : drop o b ≡ entry_part k xs ++ drop s b
  pub places : drop t b ≡ numbers (offsets o (blocks k xs)) ++ drop u b

pub record Has (ρ : Rule) (b : Bytes) (k s u m t o : ℕ) (prev : Bytes) : Type 0 where
  pub names : List Bytes
  pub count : length names ≡ m
  pub rest : Rest ρ b k s u t o prev names

-- the trailer's numbers lie within the bytes
pub record Frame (b : Bytes) (k s u : ℕ) : Type 0 where
  pub one : 1 ≤ k
  pub small : length b ≤ longest_book
  pub order : s ≤ u
  pub room : u + 2 ≤ length b

-- where the block ends whose offset stands at t: at the next offset, or, as the last one, at s
abbrev pub end_of : Bytes → ℕ → ℕ → ℕ → ℕ → ℕ
end_of b k s t left = pick (leb left k) s (number b (t + 2))
