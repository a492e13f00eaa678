-- A law for each way out, from what the check told and how the book is served.
use Rattle.std.proofs.Common.{◌≡◌, Err, rules}
use Rattle.announcer.proofs.Speaking.{checked, route-inside, sent, sent-bad, sent-long, sent-no, sent-nothing, sent-short}
use Rattle.announcer.proofs.put_route.Goals as goal

pub returns-then-checked-ne0 : goal.returns-then-checked-ne0
returns-then-checked-ne0 c = sent-nothing _ _ _ _ c.book_check-checked.result c.book_check-checked.ensures c.if-checked-ne0.true

pub serve-requires : goal.serve-requires
serve-requires c = checked c.book_check-checked.result c.book_check-checked.ensures c.if-checked-ne0.false

pub returns-in_err-serve : goal.returns-in_err-serve
returns-in_err-serve c =
    let told : c.from_residual.result ≡ Err c.in_err-serve.field-0.0 = search rules in
    rw told (sent-no _ _ _ _ c.in_err-serve.field-0.0 c.in_err-serve.ensures)

pub returns-then-positions-gt120 : goal.returns-then-positions-gt120
returns-then-positions-gt120 c = sent-long _ _ _ _ c.in_ok-serve.ensures c.if-positions-gt120.true

pub returns-in-Some : goal.returns-in-Some
returns-in-Some c =
    sent-bad _ _ _ _ c.in_ok-serve.ensures c.if-positions-gt120.false (checked c.book_check-checked.result c.book_check-checked.ensures c.if-checked-ne0.false) _ c.in-Some.ensures

pub returns-then-room-positions : goal.returns-then-room-positions
returns-then-room-positions c =
    sent-short _ _ _ _ c.in_ok-serve.ensures c.if-positions-gt120.false (checked c.book_check-checked.result c.book_check-checked.ensures c.if-checked-ne0.false) c.in_default.ensures c.if-room-positions.true

pub put_clips-requires : goal.put_clips-requires
put_clips-requires c =
    route-inside c.args.book.now _ _ _ c.in_ok-serve.ensures c.if-positions-gt120.false (checked c.book_check-checked.result c.book_check-checked.ensures c.if-checked-ne0.false) c.in_default.ensures c.if-room-positions.false

pub returns : goal.returns
returns c =
    sent _ _ _ _ c.in_ok-serve.ensures c.if-positions-gt120.false (checked c.book_check-checked.result c.book_check-checked.ensures c.if-checked-ne0.false) c.in_default.ensures c.if-room-positions.false
    _ c.put_clips.ensures
