-- A law for each way out.
use Rattle.announcer.proofs.Speaking.{refuse-kind, refuse-none, refuse-table}
use Rattle.announcer.proofs.serve.Goals as goal
use Rattle.std.proofs.lemmas.Bool.{not_from_false, not_from_true}

pub returns-then-not-is_full : goal.returns-then-not-is_full
returns-then-not-is_full c = refuse-kind _ c.requires c.is_full.result c.is_full.ensures (not_from_false _ c.if-not-is_full.true)

pub returns-then-clips-names : goal.returns-then-clips-names
returns-then-clips-names c = refuse-table _ c.requires c.is_full.result c.is_full.ensures (not_from_true _ c.if-not-is_full.false) c.if-clips-names.true

pub returns : goal.returns
returns c = refuse-none _ c.requires c.is_full.result c.is_full.ensures (not_from_true _ c.if-not-is_full.false) c.if-clips-names.false
