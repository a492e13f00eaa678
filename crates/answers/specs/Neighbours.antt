-- Document 02, CR 12, 'Neighbours tell it all': a number of a book's names that a question gets, told by the names beside its place.
--     ByNeighbours      of so many names, of which each would give a number, what is got is the greater of those that the names at place less 1 and at place would give,
--                       whichever of these exist
-- The laws are in proofs/Neighbours.antt. Assumes nothing: these are definitions.
use Rattle.std.specs.Prelude.{ℕ, ◌-◌, ◌≤◌, ◌<◌, max, ◌≡◌}

pub record ByNeighbours (number : ℕ → ℕ) (names place got : ℕ) : Type 0 where
  pub within : place ≤ names
  -- both exist; only the one before; only the one behind; never none
  pub both : 0 < place → place < names → got ≡ max (number (place - 1)) (number place)
  pub before : 0 < place → place ≡ names → got ≡ number (place - 1)
  pub behind : place ≡ 0 → place < names → got ≡ number place
  pub never : place ≡ 0 → place ≡ names → ⊥
