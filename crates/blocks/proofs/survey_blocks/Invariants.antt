-- What `blocks::survey_blocks` keeps from turn to turn: the blocks before lo are counted. Assumes nothing.
use Rattle.records.specs.Notes.{counts_of}
use Rattle.blocks.proofs.Walk.{Surveying}
use Rattle.blocks.proofs.survey_blocks.Given as goal

abbrev pub invariant-loop-lo : goal.invariant-loop-lo
invariant-loop-lo l = Surveying l.list l.n (counts_of l.notes) l.k l.shared l.count l.lo
