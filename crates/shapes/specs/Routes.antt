-- Document 02, CR 9: what a route leaves, as the call of the code has it.
--     routed            an answer with the room that was left. Assumes nothing: these are definitions.
use Rattle.answers.specs.Announcing.{Clips}
use Rattle.answers.specs.Routes.{Routed}
use Rattle.shapes.specs.Shapes.{answered}
use Rattle.shapes.specs.declared.Answer.{Answer}

abbrev pub routed : Answer → Clips → Routed
routed r room = record { answer = answered r; room = room }
