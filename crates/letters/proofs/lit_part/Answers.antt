-- What the search does not find for `letters::lit_part`.
-- Assumes nothing.
use Rattle.std.proofs.Common.{arith, sym}
use Rattle.answers.proofs.Lit.{lit-past}
use Rattle.letters.proofs.Back.{back-here, back_more, back_none, back_start}
use Rattle.letters.proofs.lit_part.Goals as goal

pub returns-then-question-count : goal.returns-then-question-count
returns-then-question-count c = sym (lit-past _ _ c.if-question-count.true)

pub loop-place-init : goal.loop-place-init
loop-place-init c = back_start _ _ c.if-question-count.false

pub returns-then-not-in_character : goal.returns-then-not-in_character
returns-then-not-in_character c = back-here c.loop-place.invariant _ c.in_character.ensures c.if-not-in_character.true

pub loop-place-preserved : goal.loop-place-preserved
loop-place-preserved c = back_more c.loop-place.invariant _ c.in_character.ensures c.if-not-in_character.false

pub returns : goal.returns
returns c = back_none c.loop-place.invariant (omega arith)
