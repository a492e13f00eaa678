-- What the loop of `turning::turn_table` keeps: what is written, and that what is left of the rows stands in the bytes.
-- Assumes nothing.
use Rattle.std.proofs.Common.{◌-◌}
use Rattle.turning.proofs.Turning.{Turning}
use Rattle.turning.proofs.turn_table.Given as goal

abbrev pub invariant-loop : goal.invariant-loop
invariant-loop l = Turning l.book l.from l.rows l.far l.inner l.step l.part l.place l.at (l.rows - l.counter)
