-- `sweep::widen`: `Widening` carries the loop.
use Rattle.sweep.proofs.Widening.{Widening}
use Rattle.sweep.proofs.widen.Given as goal

abbrev pub invariant-loop-i : goal.invariant-loop-i
invariant-loop-i l = Widening l.book l.n l.question l.place l.at l.widest l.i
