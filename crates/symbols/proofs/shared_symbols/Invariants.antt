-- `symbols::shared_symbols`: the first i symbols are the same.
-- Assumes nothing.
use Rattle.symbols.proofs.Symbols.{Sharing}
use Rattle.symbols.proofs.shared_symbols.Given as goal

abbrev pub invariant-loop-i : goal.invariant-loop-i
invariant-loop-i l = Sharing l.rule l.a l.b l.i
