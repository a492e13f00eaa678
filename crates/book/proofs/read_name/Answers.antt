-- A law for each way out.
use Rattle.std.proofs.Common.{arith, refl}
use Rattle.names.proofs.Rebuilding.{position-ask}
use Rattle.book.proofs.Reading.{read_past, read-put, read_short, read-unsound}
use Rattle.book.proofs.read_name.Goals as goal

pub returns-in_default : goal.returns-in_default
returns-in_default c = read-unsound _ _ _ c.in_default.ensures.1

pub returns-then-from-position : goal.returns-then-from-position
returns-then-from-position c = read_past _ _ _ c.in-Some.t c.type_inv.book c.in-Some.ensures.1 (omega arith)

pub put_name-requires : goal.put_name-requires
put_name-requires c = position-ask _ _ _ c.type_inv.book _ c.in-Some.ensures.1 refl _ refl (omega arith)

pub returns-in_default-put_name : goal.returns-in_default-put_name
returns-in_default-put_name c = read_short _ _ _ c.in-Some.t c.type_inv.book c.in-Some.ensures.1 (omega arith) _ c.in_default-put_name.ensures

pub returns : goal.returns
returns c = read-put _ _ _ c.in-Some.t c.type_inv.book c.in-Some.ensures.1 (omega arith) _ _ c.in-Some-put_name.ensures
