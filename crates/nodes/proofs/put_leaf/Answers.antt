-- What the search does not find for `nodes::put_leaf`: one law says what the record in front leaves.
-- Assumes nothing.
use Rattle.std.proofs.Common.{ap, ◌∙◌}
use Rattle.frames.specs.declared.Frame.{Frame}
use Rattle.nodes.proofs.Writing.{leaf-put}
use Rattle.nodes.proofs.put_leaf.Goals as goal

pub returns : goal.returns
returns c =
    leaf-put c.put_back.ensures c.requires _ _ (c.from.ensures ∙ ap (λ (f : Frame). f.depth) c.frame.ensures) c.max-p.ensures c.symbol_of.ensures
