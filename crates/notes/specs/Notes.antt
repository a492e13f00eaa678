-- Yes or no for each of up to 2,000 numbers, a bit each, in 250 bytes. Numbers are noted in rising order.
--     noted             whether yes is noted for number i
--     Noting            nothing is noted from number i on
--     NoteMade          what noting number i leaves
-- The laws are in proofs/Noting.antt. Assumes nothing: these are definitions.
use Rattle.std.specs.Prelude.{ℕ, ◌+◌, ◌/◌, ◌%◌, ◌^◌, ◌<◌, ◌≡◌, Bool, true, List, eqb, get_or}

-- bit i % 8 of byte i / 8
unfoldable pub noted : List ℕ → ℕ → Bool
noted notes i = eqb (get_or notes (i / 8) 0 / 2 ^ (i % 8) % 2) 1

-- number i and all above it are no
pub record Noting (notes : List ℕ) (i : ℕ) : Type 0 where
  pub low : get_or notes (i / 8) 0 < 2 ^ (i % 8)
  pub behind : (g : ℕ) → i / 8 < g → get_or notes g 0 ≡ 0

-- number i is yes, those above it are no, and those below it are what they were
pub record NoteMade (notes new : List ℕ) (i : ℕ) : Type 0 where
  pub next : Noting new (i + 1)
  pub here : noted new i ≡ true
  pub others : (j : ℕ) → j < i → noted new j ≡ noted notes j
