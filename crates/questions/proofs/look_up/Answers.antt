-- An accepted book with names can be searched.
use Rattle.questions.proofs.Asking.{askable}
use Rattle.questions.proofs.look_up.Goals as goal

pub answer-requires : goal.answer-requires
answer-requires c = askable c.args.book.now c.type_inv.book c.requires
