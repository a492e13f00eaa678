-- The loop keeps `Putting`.
use Rattle.announcer.proofs.Putting.{putting-more}
use Rattle.announcer.proofs.put_clips.Goals as goal

pub loop-stop-preserved : goal.loop-stop-preserved
loop-stop-preserved c = putting-more c.requires c.loop-stop.invariant c.loop-stop-test.true
