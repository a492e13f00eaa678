-- The rule is named, so that a wrong one shows.
use native.Mathlib.Omega.{arith}
use Rattle.looks.proofs.Entry.{lead-in, lead-past}
use Rattle.looks.proofs.leads.Goals as goal

pub returns-then-skip-from : goal.returns-then-skip-from
returns-then-skip-from c =
    let a = c.args in
    lead-in a.book.now a.a a.d a.s _ _ c.requires c.from.ensures c.from-2.ensures c.if-skip-from.true c.rule.result c.rule.ensures c.has_symbol.result c.has_symbol.ensures

pub returns : goal.returns
returns c =
    let a = c.args in
    lead-past a.book.now a.a a.d a.s _ _ c.requires c.from.ensures c.from-2.ensures (omega arith)
