-- One list has ended, or the order of both heads tells which is the lesser.
use Rattle.heads.proofs.Heads.{alone-first, alone-second, ask-fits, ask-other-fits, lesser-both, lesser-first, lesser-second, second-left}
use Rattle.heads.proofs.next_head.Goals as goal

pub record_size-size-requires : goal.record_size-size-requires
record_size-size-requires c = second-left c.requires c.if-i-first.true

pub returns-then-i-first : goal.returns-then-i-first
returns-then-i-first c = λ xs ys a b some. rw c.head_in.ensures (alone-second a b c.if-i-first.true some _ c.record_size-size.ensures)

pub returns-then-j-second : goal.returns-then-j-second
returns-then-j-second c = λ xs ys a b some.
    rw c.head_in-then-j-second.ensures (alone-first a b c.if-i-first.false _ c.record_size-size-2.ensures c.if-j-second.true)

pub slice_bounds-order_of-end : goal.slice_bounds-order_of-end
slice_bounds-order_of-end c = ask-fits c.requires _ c.if-i-first.false c.record_size-size-2.ensures

pub slice_bounds-order_of-end-2 : goal.slice_bounds-order_of-end-2
slice_bounds-order_of-end-2 c = ask-other-fits c.requires _ c.if-j-second.false c.record_size-other.ensures

pub returns-in-Less : goal.returns-in-Less
returns-in-Less c = λ xs ys a b some.
    rw c.head_in-in-Less.ensures (lesser-first a b c.if-i-first.false _ c.record_size-size-2.ensures c.if-j-second.false _ c.record_size-other.ensures c.order_of.ensures c.in-Less.is)

pub returns-in-Greater : goal.returns-in-Greater
returns-in-Greater c = λ xs ys a b some.
    rw c.head_in-in-Greater.ensures (lesser-second a b c.if-i-first.false _ c.record_size-size-2.ensures c.if-j-second.false _ c.record_size-other.ensures c.order_of.ensures c.in-Greater.is)

pub returns-in-Equal : goal.returns-in-Equal
returns-in-Equal c = λ xs ys a b some.
    rw c.head_in-in-Equal.ensures (lesser-both a b c.if-i-first.false _ c.record_size-size-2.ensures c.if-j-second.false _ c.record_size-other.ensures c.order_of.ensures c.in-Equal.is)
