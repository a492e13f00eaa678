-- Behind the last test all tests have shown every part of `Trail`. How many bytes a record has is that of the kind which the third byte of
-- the mark tells, and so is the mark.
use Rattle.std.proofs.Common.{◌≡◌, ◌*◌, ap₂, rules, arith}
use Rattle.format.specs.Book.{told}
use Rattle.format.specs.Kinds.{form_of, kind_of, record_size}
use Rattle.kinds.specs.Known.{mark_back}
use Rattle.trailer.specs.Trailer.{Trail}
use Rattle.trailer.proofs.Telling.{size_is, trail-marked}
use Rattle.trailer.proofs.is_trailer.Goals as goal

pub returns : goal.returns
returns c =
    let b = c.args.book.now in
    let counted : c.number.result * c.record_size-size.result ≡ told b 4 * record_size (form_of (kind_of b)) =
    ap₂ ◌*◌ c.number.ensures.0 (size_is b _ c.form.result _ c.kind.ensures c.form.ensures c.record_size-size.ensures.0) in
    let fitting : told b 7 ≡ mark_back (kind_of b) → Trail b = λ back. record {
      long = omega arith;
      short = omega arith;
      few = omega arith;
      low = search rules;
      high = search rules;
      order = omega arith;
      total = omega arith;
      whole = omega arith;
      front = omega arith;
      back = back;
    } in
    rw c.is_some.ensures
    (trail-marked b (omega arith) (search rules) _ c.with_mark.result c.number-4.ensures.0 c.with_mark.ensures fitting)
