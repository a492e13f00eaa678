-- What the search does not find for `nodes::write_name`.
-- Assumes nothing.
use Rattle.std.proofs.Common.{ap, ◌∙◌}
use Rattle.frames.specs.declared.Frame.{Frame}
use Rattle.nodes.proofs.Writing.{passing-done, passing-on}
use Rattle.nodes.proofs.write_name.Goals as goal

pub returns : goal.returns
returns c =
    passing-done (passing-on c.put_leaf-p.ensures.passing c.loop-room.invariant) _ (c.from.ensures ∙ ap (λ (f : Frame). f.depth) c.frame.ensures)
    c.loop-room-test.false
