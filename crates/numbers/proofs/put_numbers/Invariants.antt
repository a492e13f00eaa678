-- `numbers::put_numbers`: the first i numbers are written.
-- Assumes nothing.
use Rattle.numbers.proofs.Parts.{Numbered}
use Rattle.numbers.proofs.put_numbers.Given as goal

abbrev pub invariant-loop-i : goal.invariant-loop-i
invariant-loop-i l = Numbered l.ns l.initial.part l.part l.i
