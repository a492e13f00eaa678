use Rattle.announcer.proofs.Putting.{Putting}
use Rattle.announcer.proofs.put_clips.Given as goal

abbrev pub invariant-loop-stop : goal.invariant-loop-stop
invariant-loop-stop l = Putting l.clips l.positions l.fn.room l.room l.stop
