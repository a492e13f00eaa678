-- The whole table: no name, the root's record, one name, several names. The reasoning is in proofs/Table.antt. What the table tells is told of
-- the book that it was made of.
use native.Mathlib.Omega.{arith}
use Rattle.inspect.proofs.Table as law
use Rattle.inspect.proofs.check_table.Goals as goal

pub returns-then-n-eq0 : goal.returns-then-n-eq0
returns-then-n-eq0 c = law.table-nothing _ _ _ _ c.type_inv.book c.requires c.if-n-eq0.true

pub returns-then-end-start-lt-SIZE : goal.returns-then-end-start-lt-SIZE
returns-then-end-start-lt-SIZE c = law.table-short _ _ _ _ c.type_inv.book c.requires c.if-n-eq0.false c.if-end-start-lt-SIZE.true

pub returns-then-symbol-ne0 : goal.returns-then-symbol-ne0
returns-then-symbol-ne0 c =
    let m = c.table_of-table.ensures.map_told in let own = c.table_of-table.ensures.book_same in
    law.table-symbol _ _ _ _ c.type_inv.book c.requires c.if-n-eq0.false c.if-end-start-lt-SIZE.false _ _ m.0 m.1 _ (rw own at c.symbol.ensures.0) c.if-symbol-ne0.true

pub returns-then-first-ne0 : goal.returns-then-first-ne0
returns-then-first-ne0 c =
    let m = c.table_of-table.ensures.map_told in let own = c.table_of-table.ensures.book_same in
    law.table-first _ _ _ _ c.type_inv.book c.requires c.if-n-eq0.false c.if-end-start-lt-SIZE.false _ _ m.0 m.1 _ (rw own at c.first.ensures.0) c.if-first-ne0.true

pub returns-then-names-n : goal.returns-then-names-n
returns-then-names-n c =
    let m = c.table_of-table.ensures.map_told in let own = c.table_of-table.ensures.book_same in
    law.table-names _ _ _ _ c.type_inv.book c.requires c.if-n-eq0.false c.if-end-start-lt-SIZE.false _ _ m.0 m.1 _ (rw own at c.names.ensures.0) c.if-names-n.true

pub returns-then-start-nodes : goal.returns-then-start-nodes
returns-then-start-nodes c =
    let m = c.table_of-table.ensures.map_told in let own = c.table_of-table.ensures.book_same in
    law.table-nodes _ _ _ _ c.type_inv.book c.requires c.if-n-eq0.false c.if-end-start-lt-SIZE.false _ _ m.0 m.1 _ (rw own at c.nodes-nodes.ensures.0) (omega (arith, c.if-start-nodes))

pub returns-then-n-eq1 : goal.returns-then-n-eq1
returns-then-n-eq1 c =
    let m = c.table_of-table.ensures.map_told in let own = c.table_of-table.ensures.book_same in
    law.table-leaf _ _ _ _ c.type_inv.book c.requires c.if-n-eq0.false c.if-end-start-lt-SIZE.false _ _ m.0 m.1
    _ _ _ _ (rw own at c.symbol.ensures.0) c.if-symbol-ne0.false (rw own at c.first.ensures.0) c.if-first-ne0.false (rw own at c.names.ensures.0) c.if-names-n.false (rw own at c.nodes-nodes.ensures.0) c.if-start-nodes.false c.if-n-eq1.true c.is_leaf.result (rw own at c.is_leaf.ensures)

pub check_node-requires : goal.check_node-requires
check_node-requires c =
    let m = c.table_of-table.ensures.map_told in let own = c.table_of-table.ensures.book_same in
    law.table-asks _ _ _ _ c.type_inv.book c.requires c.if-n-eq0.false c.if-end-start-lt-SIZE.false _ _ m.0 m.1
    _ _ _ _ (rw own at c.symbol.ensures.0) c.if-symbol-ne0.false (rw own at c.first.ensures.0) c.if-first-ne0.false (rw own at c.names.ensures.0) c.if-names-n.false (rw own at c.nodes-nodes.ensures.0) c.if-start-nodes.false c.if-n-eq1.false

pub returns : goal.returns
returns c =
    let m = c.table_of-table.ensures.map_told in let own = c.table_of-table.ensures.book_same in
    law.table-said _ _ _ _ c.type_inv.book c.requires c.if-n-eq0.false c.if-end-start-lt-SIZE.false _ _ m.0 m.1
    _ _ _ _ (rw own at c.symbol.ensures.0) c.if-symbol-ne0.false (rw own at c.first.ensures.0) c.if-first-ne0.false (rw own at c.names.ensures.0) c.if-names-n.false (rw own at c.nodes-nodes.ensures.0) c.if-start-nodes.false c.if-n-eq1.false _ c.check_node.ensures
