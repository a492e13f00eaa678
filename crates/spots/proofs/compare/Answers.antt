-- What was read is the name at the position. The question is named, so that a wrong rule shows.
use Rattle.std.proofs.Common.{◌∙◌}
use Rattle.names.proofs.Rebuilding.{place-ask}
use Rattle.spots.proofs.Spots.{met, next}
use Rattle.spots.proofs.compare.Goals as goal

pub read_at-entry-requires : goal.read_at-entry-requires
read_at-entry-requires g c = place-ask c.requires c.block-k.ensures.0 c.blocks_at.ensures.0

pub returns-then-this-ne0-clause-met_says : goal.returns-then-this-ne0-clause-met_says
returns-then-this-ne0-clause-met_says g c =
    let named = c.read_at-entry.ensures.named in
    met _ _ c.rule-rule.result c.rule-rule.ensures c.args.question.now (c.bytes-name.ensures.0 ∙ named.name-is) c.shared_symbols-shared.ensures

pub returns-then-this-ne0-clause-next : goal.returns-then-this-ne0-clause-next
returns-then-this-ne0-clause-next g c said =
    let named = c.read_at-entry.ensures.named in
    next _ _ c.rule-rule.result c.rule-rule.ensures c.args.question.now (c.bytes-name.ensures.0 ∙ named.name-is) c.shared_symbols-shared.ensures c.symbol_at-symbol.ensures

pub returns-else-this-ne0-clause-met_says : goal.returns-else-this-ne0-clause-met_says
returns-else-this-ne0-clause-met_says g c =
    let named = c.read_at-entry.ensures.named in
    met _ _ c.rule-rule.result c.rule-rule.ensures c.args.question.now (c.bytes-name.ensures.0 ∙ named.name-is) c.shared_symbols-shared.ensures
