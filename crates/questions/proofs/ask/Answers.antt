-- A law for each way out, given its places, so that another test or number shows.
use Rattle.std.proofs.Common.{◌≡◌, ◌∙◌, subst, sym, rules}
use Rattle.format.specs.Book.{told}
use Rattle.format.specs.Spans.{words_in}
use Rattle.answers.specs.Questions.{ask as answer_of}
use Rattle.descent.specs.Vocabulary.{asked_in}
use Rattle.search.specs.Asks.{number_of, pair_of}
use Rattle.search.specs.declared.Asked.{Asked}
use Rattle.search.specs.declared.Asked.TheVariants.{Nearest}
use Rattle.questions.proofs.Asking.{ask-lit, ask-long, ask-none, ask-some, ask-trailed, nearest-none}
use Rattle.questions.proofs.ask.Goals as goal

-- the question is too long
pub returns-then-question-gt200 : goal.returns-then-question-gt200
returns-then-question-gt200 c =
    let a = c.args in ask-long a.book.now a.question.now a.kind c.type_inv.book c.requires c.if-question-gt200.true

pub names-requires : goal.names-requires
names-requires c = let a = c.args in ask-trailed a.book.now a.question.now a.kind c.type_inv.book c.requires

-- nearest is asked of a book without names
pub returns-then-eq : goal.returns-then-eq
returns-then-eq c =
    let a = c.args in
    let near : a.kind ≡ Nearest = search rules in
    nearest-none a.book.now a.question.now a.kind c.type_inv.book c.requires c.if-question-gt200.false (sym c.names.ensures.0 ∙ c.if-names-eq0.true) near

-- another kind is asked of a book without names
pub returns-then-names-eq0 : goal.returns-then-names-eq0
returns-then-names-eq0 c =
    let a = c.args in
    let other : a.kind ≡ Nearest → ⊥ = search rules in
    ask-none a.book.now a.question.now a.kind c.type_inv.book c.requires c.if-question-gt200.false (sym c.names.ensures.0 ∙ c.if-names-eq0.true) other

-- nearest is answered
pub returns-then-eq-2 : goal.returns-then-eq-2
returns-then-eq-2 c =
    let a = c.args in
    let near : a.kind ≡ Nearest = search rules in
    let some : told a.book.now 0 ≡ 0 → ⊥ = λ z. c.if-names-eq0.false (c.names.ensures.0 ∙ z) in
    let g = subst (λ (k : Asked). pair_of c.look_up-near.result ≡ answer_of (number_of k) (asked_in a.book.now a.question.now) (words_in a.book.now)) (sym near) c.look_up-near.ensures.result_value in
    ask-lit a.book.now a.question.now a.kind c.type_inv.book c.requires c.if-question-gt200.false some c.look_up-near.ensures.looked g near c.lit_part.ensures

-- another kind is
pub returns : goal.returns
returns c =
    let a = c.args in
    let other : a.kind ≡ Nearest → ⊥ = search rules in
    let some : told a.book.now 0 ≡ 0 → ⊥ = λ z. c.if-names-eq0.false (c.names.ensures.0 ∙ z) in
    ask-some a.book.now a.question.now a.kind c.type_inv.book c.requires c.if-question-gt200.false some c.look_up.ensures.looked c.look_up.ensures.result_value other
