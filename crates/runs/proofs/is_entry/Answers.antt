-- What the search leaves of `runs::is_entry`: the ways out behind the last tests but two.
-- Assumes nothing.
use native.Mathlib.Omega.{arith}
use Rattle.symbols.specs.Rules.{rule_by}
use Rattle.symbols.proofs.Symbols.{rule-sure}
use Rattle.runs.proofs.Judging.{entry_whole, fitting-by, judged-folded, judged-plain}
use Rattle.runs.proofs.is_entry.Goals as goal

-- prev ends where the count does
pub returns-then-prev-c-2 : goal.returns-then-prev-c-2
returns-then-prev-c-2 c =
    let a = c.args in
    let fitting = fitting-by a.book.now a.prev.now a.at a.end _ _ c.requires c.from-c.ensures c.from-n.ensures c.if-end-lt2.false c.if-end-at.false
    c.if-end-at-2.false c.if-n-eq0.false c.if-prev-c.false c.if-c-n-gt200.false in
    entry_whole (rule_by a.rule) a.book.now a.prev.now a.at a.end fitting (rule-sure a.rule) (omega arith)

-- the last test by the plain rule
pub returns-in-Plain : goal.returns-in-Plain
returns-in-Plain c =
    let a = c.args in
    let fitting = fitting-by a.book.now a.prev.now a.at a.end _ _ c.requires c.from-c.ensures c.from-n.ensures c.if-end-lt2.false c.if-end-at.false
    c.if-end-at-2.false c.if-n-eq0.false c.if-prev-c.false c.if-c-n-gt200.false in
    judged-plain a.rule a.book.now a.prev.now a.at a.end fitting _ c.from-c.ensures c.if-prev-c-3.false c.in-Plain.is (omega arith)

-- and by the folded one
pub returns-in-Folded : goal.returns-in-Folded
returns-in-Folded c =
    let a = c.args in
    let fitting = fitting-by a.book.now a.prev.now a.at a.end _ _ c.requires c.from-c.ensures c.from-n.ensures c.if-end-lt2.false c.if-end-at.false
    c.if-end-at-2.false c.if-n-eq0.false c.if-prev-c.false c.if-c-n-gt200.false in
    judged-folded a.rule a.book.now a.prev.now a.at a.end fitting _ c.from-c.ensures c.if-prev-c-3.false _ c.from-n.ensures c.in-Folded.is _ c.is_less.ensures
