-- `build::build_judged` meets its contract: each way out is one law. Assumes nothing.
use Rattle.std.proofs.Common.{arith}
use Rattle.build.proofs.Ends.{ends-nine, ends-four, ends-done}
use Rattle.build.proofs.build_judged.Goals as goal

pub returns-then-total-gt65535 : goal.returns-then-total-gt65535
returns-then-total-gt65535 c = ends-nine c.requires c.sizes-s.ensures _ (omega arith)

pub returns-then-room-total : goal.returns-then-room-total
returns-then-room-total c = ends-four c.requires c.sizes-s.ensures _ (omega arith) (omega arith)

pub returns : goal.returns
returns c = ends-done c.requires c.sizes-s.ensures _ _ (omega arith) (omega arith) c.write_book.ensures
