-- A merge's case: what an accepted merge counts stands in the room, by `merge-within`.
-- Assumes nothing.
use Rattle.answers.proofs.Merging.{merge-within}
use Rattle.cases.proofs.merging.MergingCase.print.Goals as goal

pub new-merged-requires : goal.new-merged-requires
new-merged-requires g c = merge-within _ _ _ _ c.list_merge.ensures
