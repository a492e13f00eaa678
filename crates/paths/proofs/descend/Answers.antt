-- The root's record stands in the book, and where the question goes down, the path has room.
use native.Mathlib.Omega.{arith}
use mathlib.Core.Path.{refl}
use Rattle.paths.proofs.Ways.{go-halt, go_on, go-room, go-start, here-room, root-here}
use Rattle.paths.proofs.descend.Goals as goal

pub part-counts-requires : goal.part-counts-requires
part-counts-requires c = omega (arith, here-room (root-here c.requires refl))

pub loop-c-init : goal.loop-c-init
loop-c-init c = go-start c.requires c.nodes_at-start.ensures.0 refl (omega arith)

pub offset_bounds-path-n : goal.offset_bounds-path-n
offset_bounds-path-n c = omega (arith, go-room c.loop-c.invariant c.in-Some.is c.child.ensures)

pub bounds-path-n : goal.bounds-path-n
bounds-path-n c = go-room c.loop-c.invariant c.in-Some.is c.child.ensures

pub overflow_add-n : goal.overflow_add-n
overflow_add-n c = omega (arith, go-room c.loop-c.invariant c.in-Some.is c.child.ensures)

pub loop-c-smaller : goal.loop-c-smaller
loop-c-smaller c = omega (arith, go-room c.loop-c.invariant c.in-Some.is c.child.ensures)

pub loop-c-preserved : goal.loop-c-preserved
loop-c-preserved c = go_on c.loop-c.invariant c.in-Some.is c.child.ensures

pub returns : goal.returns
returns c = search go-halt
