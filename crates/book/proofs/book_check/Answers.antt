-- The check says what the trailer tells, or that the bytes are no book.
use Rattle.std.proofs.Common.{◌∙◌, ap₂}
use Rattle.format.specs.Outcomes.{given}
use Rattle.book.proofs.Reading.{check-told}
use Rattle.book.proofs.book_check.Goals as goal

pub returns-in_default : goal.returns-in_default
returns-in_default c = check-told _ (c.from.ensures ∙ c.in_default.ensures.0)

pub returns : goal.returns
returns c = check-told _ (ap₂ given c.from-2.ensures c.from-3.ensures ∙ c.in-Some.ensures.0)
