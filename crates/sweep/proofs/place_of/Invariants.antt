-- `sweep::place_of`: `Placing` carries the loop.
use Rattle.sweep.proofs.Placing.{Placing}
use Rattle.sweep.proofs.place_of.Given as goal

abbrev pub invariant-loop-i : goal.invariant-loop-i
invariant-loop-i l = Placing l.book l.n l.question l.at l.m l.i
