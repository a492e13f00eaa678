-- `neighbours::shared_along`: by the plain rule, and by the folded one.
use Rattle.neighbours.proofs.Meeting.{meet-before, meet-counted, meet-reads, meet-starts}
use Rattle.neighbours.proofs.shared_along.Goals as goal

pub whole_before-start-requires : goal.whole_before-start-requires
whole_before-start-requires c = let m = c.requires.meet in (meet-starts _ _ _ _ m, meet-before _ _ _ _ m)

pub bounds-book-a : goal.bounds-book-a
bounds-book-a c = meet-reads _ _ _ _ c.requires.meet

pub returns-in-Plain-clause-count : goal.returns-in-Plain-clause-count
returns-in-Plain-clause-count c = meet-counted _ _ _ _ c.requires.meet _ _ c.rule.ensures c.in-Plain.is _ c.counted_along.ensures

pub returns-in-Folded-clause-count : goal.returns-in-Folded-clause-count
returns-in-Folded-clause-count c = meet-counted _ _ _ _ c.requires.meet _ _ c.rule.ensures c.in-Folded.is _ c.counted_along-in-Folded.ensures
