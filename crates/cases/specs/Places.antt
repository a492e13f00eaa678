-- What is left of a file of cases, from which parts are cut off one by one.
--     PartTaken         the next n bytes were taken, and the book of the case before is kept
--     BookPlaced        the book is the one before, or stands in the first n bytes of what was left
--     CasePlaced        a case took some of what was left, and its book is the one before or stands in that: so it stands in the file before
--                       the next case, and that in the file or at its end
--     CaseTaken         the same, and the case took at least a byte
-- Assumes nothing: these are definitions.
use Rattle.std.specs.Prelude.{ℕ, ◌≡◌, ◌+◌, ◌≤◌, ◌<◌, ◌⊎◌, length, drop, take}
use Rattle.cases.specs.declared.parts.Parts.{Parts}

pub record PartTaken (n : ℕ) (before after : Parts) : Type 0 where
  pub within : n ≤ length before.rest.now
  pub rest-is : after.rest.now ≡ drop n before.rest.now
  pub book-is : after.book.now ≡ before.book.now

abbrev pub BookPlaced : ℕ → Parts → Parts → Type 0
BookPlaced n before after =
    (after.book.now ≡ before.book.now)
    ⊎ ((start : ℕ) × (size : ℕ) × (start + size ≤ n) × (after.book.now ≡ take size (drop start before.rest.now)))

pub record CasePlaced (before after : Parts) : Type 0 where
  pub taken : ℕ
  pub within : taken ≤ length before.rest.now
  pub rest-is : after.rest.now ≡ drop taken before.rest.now
  pub book-is : BookPlaced taken before after

abbrev pub CaseTaken : Parts → Parts → Type 0
CaseTaken before after = CasePlaced before after × (length after.rest.now < length before.rest.now)
