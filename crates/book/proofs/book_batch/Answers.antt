-- The opening refuses, or each turn stores what its row's question gets.
use Rattle.std.proofs.Common.{◌∙◌, ap, arith}
use native.Mathlib.Nat.{le_antisymm}
use Rattle.shapes.specs.Shapes.{batched}
use Rattle.shapes.specs.Endings.{outcome}
use Rattle.book.proofs.Filling.{filled}
use Rattle.book.proofs.Batching.{said-accepts, said-answered, said-refused, turned}
use Rattle.book.proofs.book_batch.Goals as goal

pub returns-in-Err : goal.returns-in-Err
returns-in-Err c = said-refused c.args.book.now c.args.questions.now c.args.rows.now c.args.answers.now _ c.in-Err.ensures c.from.ensures

pub answer_row-requires : goal.answer_row-requires
answer_row-requires c = (said-accepts c.args.book.now c.args.questions.now c.args.rows.now c.args.answers.now c.in_default.ensures).0

-- there are as many answer rows as question rows
pub bounds-answers-i : goal.bounds-answers-i
bounds-answers-i c = omega (arith, (said-accepts c.args.book.now c.args.questions.now c.args.rows.now c.args.answers.now c.in_default.ensures).1)

pub returns : goal.returns
returns c =
    ap (batched c.from-2.result)
    (c.loop-i.invariant ∙ ap (filled (turned c.args.book.now c.args.questions.now c.args.rows.now) c.args.answers.now) (le_antisymm c.loop-i.auto.i-end (omega arith)))
    ∙ said-answered c.args.book.now c.args.questions.now c.args.rows.now c.args.answers.now c.in_default.ensures (c.from-2.ensures ∙ ap outcome c.in_default.is)
