-- An answer by its numbers.
--     answer_of               the answer of three numbers
--     answered-injective     answers with the same numbers are the same
--     answers-injective      and so are rows of answers
--     counted-injective      and answers of single questions, with how far they looked
-- Assumes nothing.
use mathlib.Core.Path.{◌≡◌, refl, sym, ap, ◌∙◌}
use mathlib.Core.List.{List, [], ◌∷◌, map}
use Rattle.format.specs.Outcomes.{Answer as Numbers}
use Rattle.answers.specs.Counts.{Counted as Looked}
use Rattle.shapes.specs.Shapes.{answered, counted}
use Rattle.shapes.specs.declared.Answer.{Answer}
use Rattle.shapes.specs.declared.Counted.{Counted}

abbrev pub answer_of : Numbers → Answer
answer_of a = record { code = a.code; first = a.first; second = a.second }

pub answered-injective : (a b : Answer) → answered a ≡ answered b → a ≡ b
answered-injective a b e = ap answer_of e

pub answers-injective : (rs ts : List Answer) → map answered rs ≡ map answered ts → rs ≡ ts
answers-injective rs ts e = sym (back rs) ∙ ap (map answer_of) e ∙ back ts
  where
    back : (cs : List Answer) → map answer_of (map answered cs) ≡ cs
    back [] = refl
    back (c ∷ cs) = ap (λ (l : List Answer). c ∷ l) (back cs)

pub counted-injective : (a b : Counted) → counted a ≡ counted b → a ≡ b
counted-injective a b e = ap back e
  where
    back : Looked → Counted
    back x = record { code = x.answer.code; first = x.answer.first; second = x.answer.second; visits = x.visits; entries = x.entries }
