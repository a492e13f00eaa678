-- `thin::RightEdge::close`: what `Closing` gives at each place.
use Rattle.std.proofs.Common.{◌∙◌, ◌-◌, ◌<◌, arith, length, sym}
use Rattle.thin.proofs.Forks.{depths-at, depths-length, firsts-at, reaches-at}
use Rattle.thin.proofs.Frames.{closing-first, closing-left, closing-none, closing-on}
use Rattle.thin.proofs.RightEdge.close.Goals as goal

pub loop-top-init : goal.loop-top-init
loop-top-init c = closing-first c.requires

pub returns-then-d-limit : goal.returns-then-d-limit
returns-then-d-limit c =
    let rows = c.args.self.now.forks in
    let s = c.requires.standing in
    let l : c.loop-top.top - 1 < length rows = omega (arith, c.loop-top.invariant.fewer, s.few, s.rows.depths, depths-length rows) in
    closing-left c.requires c.loop-top.invariant {top = c.loop-top.top - 1} (omega arith) (c.from-d.ensures ∙ sym (depths-at rows _ _ l)) c.if-d-limit.true

pub loop-top-preserved : goal.loop-top-preserved
loop-top-preserved c =
    let rows = c.args.self.now.forks in
    let s = c.requires.standing in
    let l : c.loop-top.top - 1 < length rows = omega (arith, c.loop-top.invariant.fewer, s.few, s.rows.depths, depths-length rows) in
    closing-on c.requires c.loop-top.invariant {top = c.loop-top.top - 1} (omega arith) (c.from-d.ensures ∙ sym (depths-at rows _ _ l)) c.if-d-limit.false
    (sym (firsts-at rows _ _ l)) (sym (reaches-at rows _ _ l)) c.ends-reach.ensures

pub returns : goal.returns
returns c = closing-none c.requires c.loop-top.invariant (omega arith)
