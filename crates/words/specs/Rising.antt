-- Lists of words that rise, for contracts and laws; no public statement cites them.
--     nth               one word of a list
--     Positive          no symbol of a word is the end symbol
--     Sure              a lawful rule that gives every other number a symbol, too
--     span              the words from one position up to another
--     All               every element has a property
--     Rises             words without the end symbol in them, each below all that follow
-- The laws are in proofs/Rising.antt and proofs/Lists.antt. Assumes nothing: these are definitions.
use Rattle.std.specs.Prelude.{ℕ, ◌≤◌, ◌<◌, ◌≡◌, true, List, [], ◌∷◌, get_or}
use Rattle.std.proofs.Math.Seq.{slice}
use Rattle.words.specs.Words.{Rule, Words, less}

abbrev pub nth : Words → ℕ → List ℕ
nth ws i = get_or ws i []

-- no symbol is the end symbol
abbrev pub Positive : List ℕ → Type 0
Positive [] = Unit {0}
Positive (a ∷ x) = (0 < a) × Positive x

-- a lawful rule that gives every other number a symbol, too, as each kind's does
pub record Sure (ρ : Rule) : Type 0 where
  pub low : (b : ℕ) → 0 < ρ b
  pub high : (b : ℕ) → b < 256 → ρ b ≤ 256

-- from lo up to, not including, hi
abbrev pub span : Words → ℕ → ℕ → Words
span ws lo hi = slice lo hi ws

-- every element has the property
pub data All {A : Type 0} (P : A → Type 0) : List A → Type 0 where
  nil : All P []
  cons : {a : A} {l : List A} → P a → All P l → All P (a ∷ l)

pub data Rises : Words → Type 0 where
  start : Rises []
  rise : {w : List ℕ} {ws : Words} → Positive w → All (λ v. less w v ≡ true) ws → Rises ws → Rises (w ∷ ws)
