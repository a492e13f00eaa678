-- Document 01, 'Names, symbols and order': a name is a run of bytes, each byte has a symbol, after the last one stands the end
-- symbol 0, and order is by the first differing symbol. A rule gives the bytes their symbols; it enters once, in `word`.
--     Rule, Lawful, plain        a symbol for each byte; from 1 to 256; document 01's own
--     word, at                   a name's symbols, without the end symbol; symbol number d
--     shared, less, begins, same how many leading elements are the same; order, beginning and equality
-- The laws are in proofs/Words.antt. Assumes nothing: these are definitions.
use Rattle.std.specs.Prelude.{ℕ, suc, ◌≤◌, ◌<◌, Bool, true, false, List, [], ◌∷◌, map, ltb, eqb, length, get_or}

abbrev pub Bytes : Type 0
Bytes = List ℕ

abbrev pub Words : Type 0
Words = List (List ℕ)

-- each element is 0 to 255
abbrev pub InBytes : Bytes → Type 0
InBytes s = (i : ℕ) → get_or s i 0 < 256

abbrev pub pick {ℓ} : {X : Type ℓ} → Bool → X → X → X
pick true x y = x
pick false x y = y

abbrev pub both : Bool → Bool → Bool
both true b = b
both false b = false

abbrev pub Rule : Type 0
Rule = ℕ → ℕ

pub record Lawful (ρ : Rule) : Type 0 where
  pub low : (b : ℕ) → b < 256 → 0 < ρ b
  pub high : (b : ℕ) → b < 256 → ρ b ≤ 256

-- the symbol of b is b + 1
abbrev pub plain : Rule
plain b = suc b

abbrev pub word : Rule → Bytes → List ℕ
word ρ s = map ρ s

-- counted from 0; past the last symbol stands the end symbol 0
abbrev pub at : List ℕ → ℕ → ℕ
at w d = get_or w d 0

unfoldable pub shared : List ℕ → List ℕ → ℕ
shared [] y = 0
shared (a ∷ x) [] = 0
shared (a ∷ x) (b ∷ y) = pick (eqb a b) (suc (shared x y)) 0

-- by the first differing symbol
unfoldable pub less : List ℕ → List ℕ → Bool
less x y = ltb (at x (shared x y)) (at y (shared x y))

-- x begins with q
unfoldable pub begins : List ℕ → List ℕ → Bool
begins q x = eqb (shared q x) (length q)

unfoldable pub same : List ℕ → List ℕ → Bool
same x y = both (eqb (length x) (length y)) (begins x y)
