-- Document 02, CR 9: what the theorems on the announcer speak of.
--     Equals, Begins    the name at a position is the text, by symbols; it begins with the text
--     ClipOf            a clip is that of a name that is the text, or of the only name that begins with it
--     RouteSays         what a route leaves
-- Assumes nothing: these are definitions.
use Rattle.std.specs.Prelude.{ℕ, ◌*◌, ◌≤◌, ◌<◌, ◌≡◌, ◌⊎◌, true, List, [], drop, get_or, length}
use Rattle.words.specs.Words.{Bytes, Rule, begins, word}
use Rattle.format.specs.Outcomes.{given, numbered}
use Rattle.answers.specs.Announcing.{Clips}
use Rattle.answers.specs.Calls.{check}
use Rattle.answers.specs.Routes.{Routed}

abbrev pub Equals : Rule → List Bytes → Bytes → ℕ → Type 0
Equals ρ xs text i = word ρ (get_or xs i []) ≡ word ρ text

abbrev pub Begins : Rule → List Bytes → Bytes → ℕ → Type 0
Begins ρ xs text i = begins (word ρ text) (word ρ (get_or xs i [])) ≡ true

pub record ClipOf (ρ : Rule) (xs : List Bytes) (clips : Clips) (text : Bytes) (clip : ℕ) : Type 0 where
  pub position : ℕ
  pub within : position < length xs
  pub is : clip ≡ get_or clips position 0
  pub named : Equals ρ xs text position ⊎ (Begins ρ xs text position × ((i : ℕ) → i < length xs → Begins ρ xs text i → i ≡ position))

-- what a route leaves, by its answer: refused, nothing is written, and beside 3 stands the index of the first position that no name has; accepted, row i
-- is the clip of position i, and behind the rows nothing has changed
pub record RouteSays (s : Bytes) (clips : Clips) (positions : List ℕ) (room : Clips) (r : Routed) : Type 0 where
  pub kept : (r.answer.code ≡ 0 → ⊥) → r.room ≡ room
  pub size : r.answer.code ≡ 0 → r.answer ≡ given (2 * length positions) 0
  pub rows : r.answer.code ≡ 0 → (i : ℕ) → i < length positions → (get_or positions i 0 < length clips) × (get_or r.room i 0 ≡ get_or clips (get_or positions i 0) 0)
  pub behind : r.answer.code ≡ 0 → drop (length positions) r.room ≡ drop (length positions) room
  pub first : (i : ℕ) → r.answer ≡ numbered 3 i → (i < length positions) × ((check s).first ≤ get_or positions i 0) × ((j : ℕ) → j < i → get_or positions j 0 < (check s).first)
