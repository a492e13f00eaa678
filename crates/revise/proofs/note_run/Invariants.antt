-- `revise::note_run`: `RunTo` carries the loop.
use Rattle.symbols.specs.Rules.{rule_by}
use Rattle.revise.proofs.Running.{RunTo}
use Rattle.revise.proofs.note_run.Given as goal

abbrev pub invariant-loop-t : goal.invariant-loop-t
invariant-loop-t l = RunTo (rule_by l.rule) l.book l.fn.from.at l.fn.name l.m l.j l.fn.notes l.name l.notes l.cur.at l.t
