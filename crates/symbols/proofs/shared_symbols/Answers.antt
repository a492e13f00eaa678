-- `symbols::shared_symbols`: the first symbols that differ end it; else one of the names.
-- Assumes nothing.
use Rattle.std.proofs.Common.{rules}
use Rattle.symbols.proofs.Symbols.{sharing-left, sharing-more, sharing-other, sharing-right}
use Rattle.symbols.proofs.shared_symbols.Goals as goal

pub returns-then-not-is_alike : goal.returns-then-not-is_alike
returns-then-not-is_alike c = search (rules, sharing-other)

pub loop-i-preserved : goal.loop-i-preserved
loop-i-preserved c = search (rules, sharing-more)

pub returns : goal.returns
returns c = search (rules, sharing-left, sharing-right)
