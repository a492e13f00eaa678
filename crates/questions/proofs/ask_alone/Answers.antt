-- The check, and then the question.
use Rattle.search.specs.Asks.{number_of}
use Rattle.questions.proofs.Asking.{ask-unsound}
use Rattle.questions.proofs.ask_alone.Goals as goal

pub returns-in_default : goal.returns-in_default
returns-in_default c = ask-unsound (number_of c.args.kind) c.args.book.now c.args.question.now c.in_default.ensures.1
