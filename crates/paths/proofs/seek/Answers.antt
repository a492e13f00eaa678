-- A law for each way: the child's symbol is not below s, the row goes on behind the child's own nodes, the row has ended.
use native.Mathlib.Omega.{arith}
use mathlib.Core.Path.{refl}
use Rattle.paths.proofs.Ways.{here-room, row_here, seek-first, seek-here, seek-less, seek-next, seek-none}
use Rattle.paths.proofs.seek.Goals as goal

pub loop-c-init : goal.loop-c-init
loop-c-init c = seek-first c.requires.fork

pub symbol-requires : goal.symbol-requires
symbol-requires c = here-room (row_here c.requires.fork.at-node refl c.loop-c.invariant.placed (omega (arith, c.requires.ends)))

pub returns-then-s-symbol : goal.returns-then-s-symbol
returns-then-s-symbol c = seek-here c.requires.fork.at-node refl c.loop-c.invariant (omega (arith, c.requires.ends)) c.symbol.ensures.0 c.if-s-symbol.true

pub nodes_in-requires : goal.nodes_in-requires
nodes_in-requires c = (here-room (row_here c.requires.fork.at-node refl c.loop-c.invariant.placed (omega (arith, c.requires.ends))), c.requires.part)

pub loop-c-smaller : goal.loop-c-smaller
loop-c-smaller c =
    omega (arith, c.requires.ends, seek-less c.requires.fork.at-node refl c.loop-c.invariant (omega (arith, c.requires.ends)) c.nodes_in.ensures.0)

pub loop-c-preserved : goal.loop-c-preserved
loop-c-preserved c =
    seek-next c.requires.fork.at-node refl c.loop-c.invariant (omega (arith, c.requires.ends)) c.nodes_in.ensures.0 c.symbol.ensures.0 (omega (arith, c.if-s-symbol))

pub returns : goal.returns
returns c = seek-none c.requires.fork.at-node refl c.loop-c.invariant (omega (arith, c.requires.ends, c.loop-c-test.false))
