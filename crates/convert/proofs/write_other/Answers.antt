-- One law puts the three parts together.
use Rattle.std.proofs.Common.{arith, rules}
use Rattle.numbers.proofs.Parts.{part_length}
use Rattle.convert.proofs.Other.{other-lent, other-total, table-asks}
use Rattle.convert.proofs.write_other.Goals as goal

pub overflow_sub-end : goal.overflow_sub-end
overflow_sub-end c = omega (arith, other-total c.requires.0)

pub slice_bounds-copy-end : goal.slice_bounds-copy-end
slice_bounds-copy-end c = search (rules, other-total c.requires.0)

pub slice_bounds-turn_table-count : goal.slice_bounds-turn_table-count
slice_bounds-turn_table-count c = omega (arith, other-total c.requires.0, c.from-nodes.ensures)

pub slice_bounds-turn_table-start : goal.slice_bounds-turn_table-start
slice_bounds-turn_table-start c = search (rules, other-total c.requires.0)

pub turn_table-requires : goal.turn_table-requires
turn_table-requires c =
    table-asks c.requires.0 c.from-nodes.ensures c.from-m.ensures c.turn_to-turn.ensures _ (search (rules, part_length, other-total c.requires.0))

pub put_trailer-requires : goal.put_trailer-requires
put_trailer-requires c = search (rules, part_length, other-total c.requires.0)

pub returns : goal.returns
returns c =
    other-lent c.requires.0 c.from-nodes.ensures c.from-m.ensures c.turn_to-turn.ensures _ _ _ _
    c.from.ensures c.from-2.ensures c.from-3.ensures c.requires.1
    c.copy.ensures.1 c.turn_table.ensures c.put_trailer.ensures
