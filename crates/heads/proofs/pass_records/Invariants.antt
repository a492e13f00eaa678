use Rattle.heads.proofs.Passing.{PassesOn}
use Rattle.heads.proofs.pass_records.Given as goal

abbrev pub invariant-loop : goal.invariant-loop
invariant-loop l = PassesOn l.list l.count l.at l.counter
