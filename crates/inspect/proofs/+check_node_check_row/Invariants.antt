-- A node's names and depth are those of its row, and a fork in it has fewer names and a greater depth, so the lesser of the names and of the
-- depths that are left falls: twice that, and one more for a node, is the measure (proofs/Nesting.antt). Both loops over a row have the
-- invariant `Pending`, and the names behind the one at hand are their measure; the inner one has not gone back.
use Rattle.std.proofs.Common.{◌+◌, ◌-◌, ◌*◌, ◌≤◌, length}
use Rattle.format.specs.Book.{names_of}
use Rattle.standing.specs.Maps.{record_at}
use Rattle.inspect.proofs.Nesting.{levels_left}
use Rattle.inspect.proofs.Rows.{Pending}
use Rattle.inspect.proofs.+check_node_check_row.Given as goal

abbrev pub decreases-check_node : goal.decreases-check_node
decreases-check_node l = 2 * levels_left (record_at l.step l.book.now l.o).names (record_at l.step l.book.now l.o).depth + 1

abbrev pub decreases-check_row : goal.decreases-check_row
decreases-check_row l = 2 * levels_left (record_at l.step l.book.now l.o).names l.d

abbrev pub invariant-check_row-loop-table-2 : goal.invariant-check_row-loop-table-2
invariant-check_row-loop-table-2 l = record {
  onward : l.initial.first ≤ l.first;
  pending : Pending l.book l.stride l.step l.o l.end l.lo l.d l.a l.child l.first l.entry l.greatest;
}

abbrev pub decreases-check_row-loop-table-2 : goal.decreases-check_row-loop-table-2
decreases-check_row-loop-table-2 l = length (names_of l.book) - l.first

abbrev pub invariant-check_row-loop-table : goal.invariant-check_row-loop-table
invariant-check_row-loop-table l = Pending l.book l.stride l.step l.o l.end l.lo l.d l.a l.child l.first l.entry l.greatest

abbrev pub decreases-check_row-loop-table : goal.decreases-check_row-loop-table
decreases-check_row-loop-table l = length (names_of l.book) - l.first
