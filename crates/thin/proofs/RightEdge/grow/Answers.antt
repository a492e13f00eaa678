-- `thin::RightEdge::grow`: the deepest fork gets a child, or a fork opens.
use Rattle.std.proofs.Common.{◌-◌, ◌<◌, arith, length, refl, sym}
use Rattle.thin.proofs.Forks.{depths-length, grown-child, grown-fork, reaches-at}
use Rattle.thin.proofs.Growing.{grow-child, grow-close, grow-push, grow-room, top-is}
use Rattle.thin.proofs.RightEdge.grow.Goals as goal

pub close-ended-requires : goal.close-ended-requires
close-ended-requires c = grow-close c.requires

pub returns-then-is_deepest : goal.returns-then-is_deepest
returns-then-is_deepest c =
    let rows = c.args.self.now.forks in
    let deepest = top-is _ _ _ c.if-is_deepest.ensures in
    let s = c.requires.standing in
    let l : c.close-ended.result.forks - 1 < length rows = omega (arith, c.close-ended.ensures.fewer, s.few, s.rows.depths, depths-length rows, deepest.0) in
    grown-child rows _ _ _ refl refl
    (grow-child c.requires c.close-ended.ensures {top = c.close-ended.result.forks - 1} (omega (arith, deepest.0)) deepest.1 (sym (reaches-at rows _ _ l)) c.ends.ensures)

pub bounds-self-ended : goal.bounds-self-ended
bounds-self-ended c = grow-room c.requires c.close-ended.ensures c.if-is_deepest.ensures

pub returns : goal.returns
returns c =
    let rows = c.args.self.now.forks in
    grown-fork rows _ _ (grow-push c.requires c.close-ended.ensures c.if-is_deepest.ensures c.ends-2.ensures)
