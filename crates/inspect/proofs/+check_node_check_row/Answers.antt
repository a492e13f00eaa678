-- Each way through the row is a law of proofs/Rows.antt.
use Prim.Native.Nat.{ℕ, ◌/◌, max}
use native.Mathlib.Omega.{arith}
use Rattle.std.specs.Ordering.{nat_cmp, ord_max}
use Rattle.std.proofs.lemmas.Bool.Decides.{nat_tests}
use mathlib.Core.Bool.{false, true}
use mathlib.Core.Path.{◌≡◌, ◌∙◌, refl}
use Rattle.standing.specs.Maps.{Roomy}
use Rattle.inspect.proofs.Nesting.{fork-falls}
use Rattle.inspect.proofs.Nodes.{Asked}
use Rattle.inspect.proofs.Rows as law
use Rattle.inspect.proofs.Rows.{RowGoesOn, Turn, WalkedForAny}
use Rattle.inspect.proofs.+check_node_check_row.Goals as goal
use Rattle.inspect.proofs.+check_node_check_row.Goals.{check_row-Start, check_row-Else-not-is_led_to, check_row-Else-found-eq0, check_row-Joined-names-eq1, check_row-Else-blocks_at-entry}
use Rattle.inspect.proofs.+check_node_check_row.Goals.{check_row-then-names-eq1+else-not-is_leaf, check_row-else-names-eq1+else-not-may_be_fork+else-found-eq0}

-- the greater of two widths
greater : (x a b : ℕ) → x ≡ ord_max nat_cmp a b → x ≡ max a b
greater x a b e = grind (arith, nat_tests)

-- what is asked
asked : (t : ℕ) (c : check_row-Start t) → let a = c.args in Asked a.book.now a.stride a.step a.o a.end a.lo a.d a.a
asked t c = record { ask = c.requires.0; first = c.requires.1; depth = c.requires.2 }

-- the entry's symbol led to the record at hand
walked : (t : ℕ) (c : check_row-Else-not-is_led_to t)
    → let a = c.args in let l = c.loop-table-2 in
    WalkedForAny a.book.now a.stride a.step a.o a.end a.lo a.d a.a l.child l.first l.entry l.greatest
walked t c = law.pending-led c.loop-table-2.invariant.pending c.if-not-is_led_to.ensures

-- where the fork's own record stands: there is room for it
own : (t : ℕ) (c : check_row-Else-found-eq0 t) → let a = c.args in Roomy a.step a.book.now (c.check_node-found.result / 65536)
own t c =
    law.rows-own (law.pending-led c.loop-table-2.invariant.pending c.if-not-is_led_to.ensures) c.if-not-is_led_to.ensures _ c.names.ensures.0 c.if-names-eq1.false c.if-not-may_be_fork.ensures
    c.nodes.result c.nodes.ensures.0 c.check_node-found.result c.check_node-found.ensures c.if-found-eq0.false

-- the child at hand stands, whether it is a leaf or not
turn : (t : ℕ) (c : check_row-Joined-names-eq1 t)
    → let a = c.args in let l = c.loop-table-2 in let n = c.if-names-eq1 in
    Turn a.book.now a.stride a.step a.o a.end a.lo a.d a.a l.child l.first l.entry l.greatest n.first n.child n.entry n.led
turn t c =
    let w = law.pending-led c.loop-table-2.invariant.pending c.if-not-is_led_to.ensures in
    elim c.if-names-eq1.branch [
      | check_row-then-names-eq1+else-not-is_leaf v ↦
          rw (v.first-is, v.child-is, v.entry-is, v.led-is)
          (law.rows-leaf w c.if-not-is_led_to.ensures _ c.names.ensures.0 v.if-names-eq1.true true v.if-not-is_leaf.ensures refl _ c.symbol-led.ensures.0)
      | check_row-else-names-eq1+else-not-may_be_fork+else-found-eq0 v ↦
          rw (v.first-is, v.child-is, v.entry-is, v.led-is)
          (law.rows-fork w c.if-not-is_led_to.ensures _ c.names.ensures.0 v.if-names-eq1.false v.if-not-may_be_fork.ensures
          v.nodes.result v.nodes.ensures.0 v.check_node-found.result v.check_node-found.ensures v.if-found-eq0.false
          _ v.nodes-else-names-eq1.ensures.0 _ _ _ v.first.ensures.0 v.names-else-names-eq1.ensures.0 v.symbol-led-else-names-eq1.ensures.0)
    ]

-- another record starts behind it, and another entry
onward : (t : ℕ) (c : check_row-Else-blocks_at-entry t)
    → let a = c.args in let l = c.loop-table-2 in let n = c.if-names-eq1 in
    Turn a.book.now a.stride a.step a.o a.end a.lo a.d a.a l.child l.first l.entry l.greatest n.first n.child n.entry n.led
    → RowGoesOn a.book.now a.stride a.step a.o a.end a.lo a.d a.a l.child l.first l.entry l.greatest n.first n.child n.entry n.led c.next_entry-entry.result
onward t c k = law.rows-onward k c.if-end-child-2.false _ c.symbol.ensures.0 c.if-symbol-led.false _ _ c.next_entry-entry.ensures c.blocks_at.ensures.0 c.if-blocks_at-entry.false

pub check_row-returns-then-end-child : goal.check_row-returns-then-end-child
check_row-returns-then-end-child t c =
    law.rows_none (asked t (goal.at.check_row-returns-then-end-child t c).Start) c.if-end-child.true

pub check_row-loop-table-init : goal.check_row-loop-table-init
check_row-loop-table-init t c =
    law.pending-start (asked t (goal.at.check_row-loop-table-init t c).Start) c.if-end-child.false

pub check_row-is_led_to-requires : goal.check_row-is_led_to-requires
check_row-is_led_to-requires t c =
    let inv = c.loop-table-2.invariant.pending.rows in
    (law.rows-room inv, record { fits = inv.fits; low = inv.low; long = inv.asked.ask.long })

pub check_row-returns-then-not-is_led_to : goal.check_row-returns-then-not-is_led_to
check_row-returns-then-not-is_led_to t c =
    law.pending-other c.loop-table-2.invariant.pending false c.if-not-is_led_to.ensures refl

pub check_row-symbol-led-requires : goal.check_row-symbol-led-requires
check_row-symbol-led-requires t c =
    law.rows-room c.loop-table-2.invariant.pending.rows

pub check_row-width-requires : goal.check_row-width-requires
check_row-width-requires t c =
    law.rows-room c.loop-table-2.invariant.pending.rows

pub check_row-names-requires : goal.check_row-names-requires
check_row-names-requires t c =
    law.rows-room c.loop-table-2.invariant.pending.rows

pub check_row-nodes-requires : goal.check_row-nodes-requires
check_row-nodes-requires t c =
    law.rows-room c.loop-table-2.invariant.pending.rows

pub check_row-is_leaf-requires : goal.check_row-is_leaf-requires
check_row-is_leaf-requires t c =
    let inv = c.loop-table-2.invariant.pending.rows in
    (law.rows-room inv, omega (arith, inv.fits))

pub check_row-returns-then-not-is_leaf : goal.check_row-returns-then-not-is_leaf
check_row-returns-then-not-is_leaf t c =
    law.rows-no-leaf (walked t (goal.at.check_row-returns-then-not-is_leaf t c).Else-not-is_led_to) c.if-not-is_led_to.ensures _ c.names.ensures.0 c.if-names-eq1.true false c.if-not-is_leaf.ensures refl

pub check_row-overflow_add-child-then-names-eq1 : goal.check_row-overflow_add-child-then-names-eq1
check_row-overflow_add-child-then-names-eq1 t c =
    let inv = c.loop-table-2.invariant.pending.rows in
    omega (arith, law.rows-room inv, inv.asked.ask.known.short, inv.asked.ask.paced)

pub check_row-may_be_fork-requires : goal.check_row-may_be_fork-requires
check_row-may_be_fork-requires t c =
    let inv = c.loop-table-2.invariant.pending.rows in
    (inv.asked.ask.own, law.rows-room inv, inv.asked.ask.paced.few)

pub check_row-returns-then-not-may_be_fork : goal.check_row-returns-then-not-may_be_fork
check_row-returns-then-not-may_be_fork t c =
    law.rows-no-fork (walked t (goal.at.check_row-returns-then-not-may_be_fork t c).Else-not-is_led_to) c.if-not-is_led_to.ensures _ c.names.ensures.0 c.if-names-eq1.false false c.if-not-may_be_fork.ensures refl

pub check_row-check_node-found-requires : goal.check_row-check_node-found-requires
check_row-check_node-found-requires t c =
    let w = walked t (goal.at.check_row-check_node-found-requires t c).Else-not-is_led_to in
    (fork-falls c.if-not-may_be_fork.ensures c.decreases, law.rows-asks w c.if-not-is_led_to.ensures _ c.names.ensures.0 c.if-names-eq1.false c.if-not-may_be_fork.ensures _ c.nodes.ensures.0)

pub check_row-returns-then-found-eq0 : goal.check_row-returns-then-found-eq0
check_row-returns-then-found-eq0 t c =
    let w = walked t (goal.at.check_row-returns-then-found-eq0 t c).Else-not-is_led_to in
    law.rows-node w c.if-not-is_led_to.ensures _ c.names.ensures.0 c.if-names-eq1.false c.if-not-may_be_fork.ensures c.nodes.result c.nodes.ensures.0 c.check_node-found.result c.check_node-found.ensures c.if-found-eq0.true

pub check_row-symbol-led-requires-else-names-eq1 : goal.check_row-symbol-led-requires-else-names-eq1
check_row-symbol-led-requires-else-names-eq1 t c =
    own t (goal.at.check_row-symbol-led-requires-else-names-eq1 t c).Else-found-eq0

pub check_row-first-requires : goal.check_row-first-requires
check_row-first-requires t c =
    own t (goal.at.check_row-first-requires t c).Else-found-eq0

pub check_row-names-requires-else-names-eq1 : goal.check_row-names-requires-else-names-eq1
check_row-names-requires-else-names-eq1 t c =
    own t (goal.at.check_row-names-requires-else-names-eq1 t c).Else-found-eq0

pub check_row-nodes-requires-else-names-eq1 : goal.check_row-nodes-requires-else-names-eq1
check_row-nodes-requires-else-names-eq1 t c =
    own t (goal.at.check_row-nodes-requires-else-names-eq1 t c).Else-found-eq0

pub check_row-returns-then-first-names : goal.check_row-returns-then-first-names
check_row-returns-then-first-names t c =
    law.rows-unused (turn t (goal.at.check_row-returns-then-first-names t c).Joined-names-eq1) c.if-end-child-2.true _ _ c.first-then-end-child-2.ensures.0 c.names-then-end-child-2.ensures.0 (omega (arith, c.if-first-names))

pub check_row-returns-then-greatest-width : goal.check_row-returns-then-greatest-width
check_row-returns-then-greatest-width t c =
    law.rows-narrow (turn t (goal.at.check_row-returns-then-greatest-width t c).Joined-names-eq1) c.if-end-child-2.true _ _ c.first-then-end-child-2.ensures.0 c.names-then-end-child-2.ensures.0 _ _ _ c.width.ensures.0 (greater _ _ _ c.max-greatest.ensures) c.width-then-end-child-2.ensures.0 (omega (arith, c.if-greatest-width))

pub check_row-returns-then-end-child-2 : goal.check_row-returns-then-end-child-2
check_row-returns-then-end-child-2 t c =
    law.rows-done (turn t (goal.at.check_row-returns-then-end-child-2 t c).Joined-names-eq1) c.if-end-child-2.true _ _ c.first-then-end-child-2.ensures.0 c.names-then-end-child-2.ensures.0 _ _ _ c.width.ensures.0 (greater _ _ _ c.max-greatest.ensures) c.width-then-end-child-2.ensures.0 c.if-first-names.false c.if-greatest-width.false

pub check_row-symbol-requires : goal.check_row-symbol-requires
check_row-symbol-requires t c =
    law.rows_next (turn t (goal.at.check_row-symbol-requires t c).Joined-names-eq1) c.if-end-child-2.false

pub check_row-returns-then-symbol-led : goal.check_row-returns-then-symbol-led
check_row-returns-then-symbol-led t c =
    law.rows_same (turn t (goal.at.check_row-returns-then-symbol-led t c).Joined-names-eq1) c.if-end-child-2.false _ c.symbol.ensures.0 (omega (arith, c.if-symbol-led))

pub check_row-next_entry-entry-requires : goal.check_row-next_entry-entry-requires
check_row-next_entry-entry-requires t c =
    (turn t (goal.at.check_row-next_entry-entry-requires t c).Joined-names-eq1).fits

pub check_row-returns-then-blocks_at-entry : goal.check_row-returns-then-blocks_at-entry
check_row-returns-then-blocks_at-entry t c =
    law.rows-ended (turn t (goal.at.check_row-returns-then-blocks_at-entry t c).Joined-names-eq1) c.if-end-child-2.false _ c.symbol.ensures.0 c.if-symbol-led.false _ _ c.next_entry-entry.ensures c.blocks_at.ensures.0 (omega (arith, c.if-blocks_at-entry))

pub check_row-bounds-book-entry : goal.check_row-bounds-book-entry
check_row-bounds-book-entry t c =
    let on = onward t (goal.at.check_row-bounds-book-entry t c).Else-blocks_at-entry (turn t (goal.at.check_row-bounds-book-entry t c).Joined-names-eq1) in
    omega (arith, on.fits)

pub check_row-loop-table-2-preserved : goal.check_row-loop-table-2-preserved
check_row-loop-table-2-preserved t c =
    let on = onward t (goal.at.check_row-loop-table-2-preserved t c).Else-blocks_at-entry (turn t (goal.at.check_row-loop-table-2-preserved t c).Joined-names-eq1) in
    record {
      onward = omega (arith, on.turn.some, c.loop-table-2.invariant.onward);
      pending = law.rows-level on _ _ c.width.ensures.0 (greater _ _ _ c.max-greatest.ensures) _ c.from.ensures c.if-from-d.false;
    }

pub check_row-part_at-entry-requires : goal.check_row-part_at-entry-requires
check_row-part_at-entry-requires t c =
    let on = onward t (goal.at.check_row-part_at-entry-requires t c).Else-blocks_at-entry (turn t (goal.at.check_row-part_at-entry-requires t c).Joined-names-eq1) in
    (law.rows-meets on, λ e. c.if-from-d.true (c.from.ensures ∙ e))

pub check_row-returns-then-entry-eq0 : goal.check_row-returns-then-entry-eq0
check_row-returns-then-entry-eq0 t c =
    law.rows-parted (onward t (goal.at.check_row-returns-then-entry-eq0 t c).Else-blocks_at-entry (turn t (goal.at.check_row-returns-then-entry-eq0 t c).Joined-names-eq1)) _ c.part_at-entry.ensures c.if-entry-eq0.true

pub check_row-loop-table-preserved : goal.check_row-loop-table-preserved
check_row-loop-table-preserved t c =
    law.rows-parts (onward t (goal.at.check_row-loop-table-preserved t c).Else-blocks_at-entry (turn t (goal.at.check_row-loop-table-preserved t c).Joined-names-eq1)) _ _ c.width.ensures.0 (greater _ _ _ c.max-greatest.ensures) _ c.part_at-entry.ensures c.if-entry-eq0.false
