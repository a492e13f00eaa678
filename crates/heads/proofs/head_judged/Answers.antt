-- Both lists have ended, or the lesser head is the one that is shown.
use Rattle.std.proofs.Common.{arith}
use Rattle.heads.proofs.Showing.{behind-ask, first-ask, head-some, passed-within, second-ask, showing-next, showing-none, start_fits}
use Rattle.heads.proofs.head_judged.Goals as goal

pub pass_records-i-requires : goal.pass_records-i-requires
pass_records-i-requires c = first-ask c.requires

pub pass_records-j-requires : goal.pass_records-j-requires
pass_records-j-requires c = second-ask c.requires

pub overflow_add-i : goal.overflow_add-i
overflow_add-i c = omega (arith, passed-within c.requires c.pass_records-i.ensures c.pass_records-j.ensures)

pub returns-then-i-j : goal.returns-then-i-j
returns-then-i-j c = showing-none c.requires c.pass_records-i.ensures c.pass_records-j.ensures c.if-i-j.true c.no_head.ensures

pub next_head-next-requires : goal.next_head-next-requires
next_head-next-requires c = behind-ask c.requires c.pass_records-i.ensures c.pass_records-j.ensures c.if-i-j.false

pub overflow_add-start : goal.overflow_add-start
overflow_add-start c =
    start_fits c.requires c.pass_records-i.ensures c.pass_records-j.ensures c.if-i-j.false c.next_head-next.ensures _ (omega arith) (omega arith)

pub overflow_sub-length : goal.overflow_sub-length
overflow_sub-length c = head-some c.requires c.pass_records-i.ensures c.pass_records-j.ensures c.if-i-j.false c.next_head-next.ensures _ (omega arith)

pub returns : goal.returns
returns c = rw c.number.ensures (showing-next c.requires c.pass_records-i.ensures c.pass_records-j.ensures c.if-i-j.false c.next_head-next.ensures)
