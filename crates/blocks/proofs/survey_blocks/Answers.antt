-- `blocks::survey_blocks` meets its contract: each way is a law of proofs/Walk.antt. The last step may lead past the names. Assumes nothing.
use Rattle.std.proofs.Common.{◌∙◌, arith}
use Rattle.std.proofs.lemmas.List.{length-take}
use Rattle.blocks.proofs.Writing.{shared-taken}
use Rattle.blocks.proofs.Walk.{noted-places, noted_count, surveying-all, surveying-enough, surveying-left, surveying-more, surveying-start}
use Rattle.blocks.proofs.survey_blocks.Goals as goal
use Rattle.blocks.proofs.survey_blocks.Goals.{else-loop-lo-test, then-loop-lo-test+else-k-n}

pub slice_bounds-sum_of-end : goal.slice_bounds-sum_of-end
slice_bounds-sum_of-end c = omega (arith, length-take c.args.n c.args.notes.now, noted-places c.args.notes.now c.requires)

pub loop-lo-init : goal.loop-lo-init
loop-lo-init c = surveying-start c.requires _ (c.sum_of-shared.ensures ∙ shared-taken _ _ (noted-places _ c.requires))

pub bounds-notes-lo : goal.bounds-notes-lo
bounds-notes-lo c = omega (arith, noted-places c.args.notes.now c.requires)

pub overflow_sub-shared : goal.overflow_sub-shared
overflow_sub-shared c =
    surveying-enough c.requires c.loop-lo.invariant c.loop-lo-test.true _ (c.from-shared.ensures ∙ noted_count _ c.requires _ _ c.loop-lo-test.true)

pub loop-lo-preserved : goal.loop-lo-preserved
loop-lo-preserved c =
    surveying-more c.requires c.loop-lo.invariant c.loop-lo-test.true _ (c.from-shared.ensures ∙ noted_count _ c.requires _ _ c.loop-lo-test.true)

pub overflow_sub-result : goal.overflow_sub-result
overflow_sub-result c = elim c.loop-lo-test.branch [
  | else-loop-lo-test w ↦ omega (arith, surveying-left c.requires c.loop-lo.invariant w.loop-lo-test.false)
  | then-loop-lo-test+else-k-n w ↦
      let last =
      surveying-more c.requires c.loop-lo.invariant w.loop-lo-test.true _ (w.from-shared.ensures ∙ noted_count _ c.requires _ _ w.loop-lo-test.true) in
      omega (arith, surveying-left c.requires last (omega arith))
]

pub returns : goal.returns
returns c = elim c.loop-lo-test.branch [
  | else-loop-lo-test w ↦ rw (w.shared-is, w.count-is) (surveying-all c.requires c.loop-lo.invariant w.loop-lo-test.false)
  | then-loop-lo-test+else-k-n w ↦
      let last =
      surveying-more c.requires c.loop-lo.invariant w.loop-lo-test.true _ (w.from-shared.ensures ∙ noted_count _ c.requires _ _ w.loop-lo-test.true) in
      rw (w.shared-is, w.count-is) (surveying-all c.requires last (omega arith))
]
