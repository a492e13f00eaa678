-- From the end of the path on, each node but the last is deep enough.
use Rattle.std.proofs.Common.{◌-◌}
use Rattle.paths.proofs.Climbing.{Upwards}
use Rattle.paths.proofs.highest.Given as goal

abbrev pub invariant-loop-j : goal.invariant-loop-j
invariant-loop-j l = Upwards l.table.book.now l.table.step l.path l.fn.way.len l.shared (l.j - 1)
