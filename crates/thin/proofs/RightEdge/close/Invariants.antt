-- `thin::RightEdge::close`: what has ended so far is one subtree under the forks that are left.
use Rattle.thin.specs.Forks.{depths_of, firsts_of, reaches_of}
use Rattle.thin.proofs.Frames.{Closing}
use Rattle.thin.proofs.RightEdge.close.Given as goal

abbrev pub invariant-loop-top : goal.invariant-loop-top
invariant-loop-top l =
    let rows = l.self.forks in
    Closing l.book l.question (depths_of rows) (firsts_of rows) (reaches_of rows) l.self.count l.last l.limit l.top l.first l.reach
