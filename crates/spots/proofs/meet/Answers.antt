-- The name at the end of the way down is the one that is reached.
use mathlib.Core.Path.{◌∙◌}
use Rattle.paths.proofs.Ways.{here-room}
use Rattle.spots.proofs.Spots.{end-here, end-reached, end-visits, looked, name-ask, near}
use Rattle.spots.proofs.meet.Goals as goal

pub first-requires : goal.first-requires
first-requires c = here-room (end-here _ _ c.requires.searchable c.descend-way.ensures)

pub compare-requires : goal.compare-requires
compare-requires c = name-ask _ c.requires (end-reached _ _ c.requires.searchable c.descend-way.ensures c.first.ensures.0)

pub returns : goal.returns
returns c =
    let there = end-reached _ _ c.requires.searchable c.descend-way.ensures c.first.ensures.0 in
    let says = c.compare.ensures in
    record {
      near_says = rw says.kept.0 (near says.met_says there);
      looked = looked there (says.kept.1 ∙ end-visits _ _ c.requires.searchable c.descend-way.ensures) says.entries_value;
    }
