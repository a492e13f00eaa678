-- A name that is neither below nor above another is that name.
use Rattle.std.proofs.Common.{◌∙◌}
use Rattle.words.proofs.Words.{shared-comm}
use Rattle.heads.proofs.Heads.{both-same}
use Rattle.heads.proofs.order_of.Goals as goal

pub is_above-requires-2 : goal.is_above-requires-2
is_above-requires-2 c = c.shared_symbols-shares.ensures ∙ shared-comm _ _

pub returns : goal.returns
returns c = both-same c.args.x.now c.args.y.now _ _ c.is_above.ensures c.if-is_above.false c.is_above-2.ensures c.if-is_above-2.false
