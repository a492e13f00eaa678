-- The tests say that the row is good, or that it is not.
use Rattle.std.proofs.Common.{◌≡◌, arith}
use Rattle.search.specs.Asks.{number_of}
use Rattle.shapes.specs.Shapes.{row_of}
use Rattle.questions.proofs.Asking.{kind-high, kind-low}
use Rattle.batches.proofs.Rows.{row-answered, row-refused}
use Rattle.batches.proofs.answer_row.Goals as goal

pub returns-in_default : goal.returns-in_default
returns-in_default c =
    let a = c.args in row-refused a.book.now a.questions.now (row_of a.row) (λ good. omega (arith, good.low, good.high, c.in_default.ensures))

pub returns-then-questions-row : goal.returns-then-questions-row
returns-then-questions-row c = let a = c.args in row-refused a.book.now a.questions.now (row_of a.row) (λ good. omega (arith, good.within))

pub returns-then-questions-row-2 : goal.returns-then-questions-row-2
returns-then-questions-row-2 c = let a = c.args in row-refused a.book.now a.questions.now (row_of a.row) (λ good. omega (arith, good.within))

pub returns : goal.returns
returns c =
    let a = c.args in
    let told : number_of c.in-Some.kind ≡ a.row.kind = c.in-Some.ensures in
    row-answered a.book.now a.questions.now (row_of a.row)
    (record { low = omega (arith, told, kind-low c.in-Some.kind); high = omega (arith, told, kind-high c.in-Some.kind); within = omega arith })
    (rw told at c.ask.ensures)
