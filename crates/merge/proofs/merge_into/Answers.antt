-- The loop keeps `Joins`: one name more in each turn, whichever list it stands in.
use Rattle.std.proofs.Common.{arith}
use Rattle.merge.proofs.Joining.{head-inside, in-first, in-second, joins-all, joins-ask, joins-bytes, joins-less, joins-more, joins-start, joins-within}
use Rattle.merge.proofs.merge_into.Goals as goal
use Rattle.merge.proofs.merge_into.Goals.{in-First, in-Second}

pub loop-i-init : goal.loop-i-init
loop-i-init c = joins-start _ _ _

pub next_head-next-requires : goal.next_head-next-requires
next_head-next-requires c = joins-ask c.loop-i.invariant c.requires c.loop-i-test.true

pub put_record-requires : goal.put_record-requires
put_record-requires c = head-inside c.loop-i.invariant c.requires c.loop-i-test.true c.next_head-next.ensures _ (in-first _ _ c.in-First.is)

pub put_record-requires-in-Second : goal.put_record-requires-in-Second
put_record-requires-in-Second c = head-inside c.loop-i.invariant c.requires c.loop-i-test.true c.next_head-next.ensures _ (in-second _ _ c.in-Second.is)

pub overflow_add-bytes : goal.overflow_add-bytes
overflow_add-bytes c = omega (
  arith,
  joins-bytes c.loop-i.invariant c.requires c.loop-i-test.true c.next_head-next.ensures,
  joins-within c.loop-i.invariant c.requires c.loop-i-test.true c.next_head-next.ensures,
)

pub loop-i-smaller : goal.loop-i-smaller
loop-i-smaller c = omega (
  arith,
  joins-less c.loop-i.invariant c.requires c.loop-i-test.true c.next_head-next.ensures,
  joins-within c.loop-i.invariant c.requires c.loop-i-test.true c.next_head-next.ensures,
)

pub loop-i-preserved : goal.loop-i-preserved
loop-i-preserved c =
    elim c.match-next.branch [
      | in-First w ↦ rw w.room-is (joins-more c.loop-i.invariant c.requires c.loop-i-test.true c.next_head-next.ensures _ (in-first _ _ w.in-First.is) w.put_record.ensures)
      | in-Second w ↦ rw w.room-is (joins-more c.loop-i.invariant c.requires c.loop-i-test.true c.next_head-next.ensures _ (in-second _ _ w.in-Second.is) w.put_record-in-Second.ensures)
    ]

pub returns : goal.returns
returns c = joins-all c.loop-i.invariant c.loop-i-test.false
