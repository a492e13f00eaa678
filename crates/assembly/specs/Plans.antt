-- What putting a book together asks of a plan.
--     PlanAsk           its list has been judged, and the book is one that can be built. Assumes nothing: this is a definition.
use Rattle.kinds.specs.Known.{kind_by}
use Rattle.records.specs.Notes.{counts_of, lens_of, shares_of}
use Rattle.assembly.specs.Whole.{BuildAsk}
use Rattle.assembly.specs.declared.Plan.{Plan}

abbrev pub PlanAsk : Plan → Type 0
PlanAsk p = BuildAsk (kind_by p.kind) p.list.now p.names (lens_of p.notes.now) (counts_of p.notes.now) (shares_of p.notes.now) p.block
