-- A law for each way out.
use Rattle.std.proofs.Common.{◌≡◌, rules}
use Rattle.convert.proofs.Conversion.{turn-ask, turn-other, turn-short, turn-unsound, turn-written}
use Rattle.convert.proofs.convert.Goals as goal

pub returns-in_default : goal.returns-in_default
returns-in_default c = turn-unsound c.args.book.now c.args.room.now c.args.from c.args.to c.in_default.ensures.1

pub returns-then-ne : goal.returns-then-ne
returns-then-ne c =
    turn-other c.args.book.now c.args.room.now c.args.from c.args.to c.in-Some.t c.type_inv.book c.in-Some.ensures.1 (search rules)

pub returns-then-room-book : goal.returns-then-room-book
returns-then-room-book c =
    let same : c.in-Some.t.kind ≡ c.args.from = search rules in
    turn-short c.args.book.now c.args.room.now c.args.from c.args.to c.in-Some.t c.type_inv.book c.in-Some.ensures.1 same c.requires c.if-room-book.true

pub write_other-requires : goal.write_other-requires
write_other-requires c =
    let same : c.in-Some.t.kind ≡ c.args.from = search rules in
    (turn-ask c.args.book.now c.args.room.now c.args.from c.args.to c.in-Some.t c.type_inv.book c.in-Some.ensures.1 same c.requires, c.if-room-book.false)

pub returns : goal.returns
returns c =
    let same : c.in-Some.t.kind ≡ c.args.from = search rules in
    turn-written c.args.book.now c.args.room.now c.args.from c.args.to c.in-Some.t c.type_inv.book c.in-Some.ensures.1 same c.requires c.if-room-book.false
    _ c.write_other.ensures
