-- Document 02, CR 10: a node table in its other form. Its numbers, two bytes each, are taken row by row from where they stand.
--     gather            a row of numbers, each so many bytes behind the one before
--     turned            so many such rows, each beginning so many bytes behind the one before
--     GatherAsk, TurnAsk     what the writer of a row and the writer of all rows ask
-- The laws are in proofs/: Turning.antt, and for tables Tables.antt. Assumes nothing: these are definitions.
use Rattle.std.specs.Prelude.{ℕ, zero, suc, ◌+◌, ◌*◌, ◌≤◌, ◌≡◌, [], ◌∷◌, ◌++◌, length, get_or}
use Rattle.words.specs.Words.{Bytes}
use Rattle.format.specs.Book.{longest_book}

-- n numbers, the first at `from`
unfoldable pub gather : Bytes → ℕ → ℕ → ℕ → Bytes
gather b from step zero = []
gather b from step (suc n) = get_or b from 0 ∷ get_or b (from + 1) 0 ∷ gather b (from + step) step n

-- rows of `inner` numbers, the first at `from`
unfoldable pub turned : Bytes → ℕ → ℕ → ℕ → ℕ → ℕ → Bytes
turned b from zero far inner step = []
turned b from (suc rows) far inner step = gather b from step inner ++ turned b (from + far) rows far inner step

-- A row whose last number ends inside b: this is said of the place one step further on, so that nothing is subtracted. The row fills the
-- part. Two bounds keep every offset small.
pub record GatherAsk (b : Bytes) (from step count : ℕ) (part : Bytes) : Type 0 where
  pub inside : from + count * step + 2 ≤ length b + step
  pub short : length b ≤ longest_book
  pub near : step ≤ longest_book
  pub fits : length part ≡ 2 * count

-- the same of all rows, whose last number is that of the last row
pub record TurnAsk (b : Bytes) (from rows far inner step : ℕ) (part : Bytes) : Type 0 where
  pub inside : from + rows * far + inner * step + 2 ≤ length b + far + step
  pub short : length b ≤ longest_book
  pub near : step ≤ longest_book
  pub apart : far ≤ longest_book
  pub fits : length part ≡ rows * (2 * inner)
