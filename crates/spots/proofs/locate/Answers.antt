-- The highest node of the path that is deep enough has the names that share most.
use borrow.Author.Rules.{rules}
use mathlib.Core.Path.{◌∙◌}
use Rattle.paths.proofs.Ways.{here-room}
use Rattle.spots.proofs.Spots.{end-here, end-path, end-reached, end-visits, looked, name-ask, spot}
use Rattle.spots.proofs.locate.Goals as goal

pub first-requires : goal.first-requires
first-requires c = here-room (end-here _ _ c.requires.searchable c.descend-way.ensures)

pub compare-met-requires : goal.compare-met-requires
compare-met-requires c = name-ask _ c.requires (end-reached _ _ c.requires.searchable c.descend-way.ensures c.first.ensures.0)

pub highest-requires : goal.highest-requires
highest-requires c = end-path _ _ c.requires.searchable c.descend-way.ensures

pub returns : goal.returns
returns c =
    let way = c.descend-way.ensures in
    let says = c.compare-met.ensures in
    record {
      spot_says = spot _ _ c.requires.searchable way c.first.ensures.0 says.met_says (search rules) c.highest.ensures;
      looked = looked (end-reached _ _ c.requires.searchable way c.first.ensures.0) (says.kept.1 ∙ end-visits _ _ c.requires.searchable way) says.entries_value;
    }
