-- What the loop of `turning::gather_numbers` keeps: what is written, and that what is left of the row stands in the bytes.
-- Assumes nothing.
use Rattle.std.proofs.Common.{◌*◌, ◌-◌}
use Rattle.turning.proofs.Turning.{Gathering}
use Rattle.turning.proofs.gather_numbers.Given as goal

abbrev pub invariant-loop-i : goal.invariant-loop-i
invariant-loop-i l = Gathering l.book l.from l.step l.count l.part l.place (2 * l.i) (l.count - l.i)
