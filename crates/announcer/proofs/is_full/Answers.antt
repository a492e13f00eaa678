-- `announcer::is_full`: a book has a trailer, and the third byte of its mark tells the kind.
-- Assumes nothing.
use Rattle.std.proofs.Common.{arith}
use Rattle.answers.proofs.Announcing.{check-long, full-other}
use Rattle.announcer.proofs.is_full.Goals as goal

pub overflow_sub-third : goal.overflow_sub-third
overflow_sub-third c = omega (arith, check-long _ c.requires)

pub bounds-book-book : goal.bounds-book-book
bounds-book-book c = omega (arith, check-long _ c.requires)

pub returns-else-third-eq75 : goal.returns-else-third-eq75
returns-else-third-eq75 c = full-other _ c.requires c.if-third-eq75.false
