-- `thin::RightEdge::is_deepest`: by the last open fork.
use Rattle.std.proofs.Common.{◌∙◌, arith, sym}
use Rattle.thin.proofs.Forks.{depths-at}
use Rattle.thin.proofs.Growing.{top-says}
use Rattle.thin.proofs.RightEdge.is_deepest.Goals as goal

pub returns : goal.returns
returns c =
    let e = c.args.self.now in
    top-says _ _ _ c.if-self-eq0.false _ (c.from.ensures ∙ sym (depths-at e.forks _ _ (omega (arith, c.requires))))
