-- What the search does not find for `nodes::close_node`: the bounds and the record in front are laws of the open nodes.
-- Assumes nothing.
use Rattle.std.proofs.Common.{ap, refl, ◌∙◌}
use Rattle.frames.specs.declared.Frame.{Frame}
use Rattle.nodes.proofs.Writing.{node-mark, node-put}
use Rattle.nodes.proofs.close_node.Goals as goal

pub overflow_sub-node-3 : goal.overflow_sub-node-3
overflow_sub-node-3 c = node-mark c.requires _ (c.from-mark.ensures ∙ ap (λ (f : Frame). f.mark) c.frame-frame.ensures)

pub returns : goal.returns
returns c =
    node-put c.requires c.put_back.ensures refl _ _ _
    (c.from-3.ensures ∙ ap (λ (f : Frame). f.depth) c.frame-frame.ensures)
    (c.from-end.ensures ∙ ap (λ (f : Frame). f.end) c.frame-frame.ensures)
    (c.from-mark.ensures ∙ ap (λ (f : Frame). f.mark) c.frame-frame.ensures)
    (c.from.ensures ∙ ap (λ (f : Frame). f.width) c.frame-frame.ensures)
    c.max-width.ensures
    (c.from-2.ensures ∙ ap (λ (f : Frame). f.depth) c.frame-parent.ensures)
    c.max-q.ensures
    c.symbol_of.ensures
