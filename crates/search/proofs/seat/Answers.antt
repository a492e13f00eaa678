-- A law for each way out, given its places, so that a wrong rule shows.
use Prim.Native.Nat.{ℕ, ◌+◌, ◌*◌, ◌<◌}
use native.Mathlib.Omega.{arith}
use mathlib.Core.Path.{ap}
use Rattle.paths.proofs.Ways.{at_here, here-room, row_here}
use Rattle.search.proofs.Seats.{seat-after, seat-before, seat-child, seat-end, seat-fork, seat-node}
use Rattle.search.proofs.seat.Goals as goal

pub returns-then-spot-s : goal.returns-then-spot-s
returns-then-spot-s c =
    let below : c.args.spot.met.symbol < c.symbol_at-s.result = omega arith in
    seat-before c.requires c.depth.ensures.0 c.rule.result c.rule.ensures c.symbol_at-s.ensures c.first-first.ensures.0
    c.names.ensures.0 c.if-shared-depth.true below

pub returns-then-shared-depth : goal.returns-then-shared-depth
returns-then-shared-depth c =
    seat-after c.requires c.depth.ensures.0 c.rule.result c.rule.ensures c.symbol_at-s.ensures c.first-first.ensures.0
    c.if-shared-depth.true (omega arith)

pub returns-then-c-end : goal.returns-then-c-end
returns-then-c-end c =
    seat-child c.requires c.depth.ensures.0 c.rule.result c.rule.ensures c.symbol_at-s.ensures c.if-shared-depth.false
    c.seek-c.ensures c.nodes.ensures.0 c.first.ensures.0 c.if-c-end.true

pub returns : goal.returns
returns c =
    seat-end c.requires c.depth.ensures.0 c.rule.result c.rule.ensures c.symbol_at-s.ensures c.if-shared-depth.false
    c.seek-c.ensures c.nodes.ensures.0 c.first-first.ensures.0 c.names.ensures.0 c.if-c-end.false

pub first-first-requires : goal.first-first-requires
first-first-requires c = here-room (at_here (seat-node c.requires))

pub part-requires : goal.part-requires
part-requires c = omega (arith, here-room (at_here (seat-node c.requires)))

pub seek-c-requires : goal.seek-c-requires
seek-c-requires c = record {
  fork = seat-fork c.requires c.depth.ensures.0 c.if-shared-depth.false;
  part = c.part.ensures;
  ends = ap (λ (x : ℕ). c.args.spot.node + x * c.args.table.stride) c.nodes.ensures.0;
}

pub first-requires : goal.first-requires
first-requires c = here-room (row_here (seat-node c.requires) c.nodes.ensures.0 c.seek-c.ensures.placed c.if-c-end.true)
