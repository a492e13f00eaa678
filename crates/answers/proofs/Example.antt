-- Document 01, 'Checked on that book': the twelve rows marked P, as one table under one equation.
--     all-marked         that is what the questions over the plain list give
-- Assumes nothing.
use Prim.Native.Nat.{ℕ}
use Prim.Native.String.{String}
use mathlib.Core.Path.{◌≡◌, refl}
use mathlib.Core.List.{map}
use Rattle.words.specs.Words.{begins, less, plain, same, shared}
use Rattle.format.specs.Nodes.{depth, glue, groups}
use Rattle.format.specs.Example.{example, text, marked}
use Rattle.answers.specs.Lit.{lit, may_end}
use Rattle.answers.specs.Questions.{Pair, answer, ask, child_of, count, exact, exact_from, nearest, place, range, reach_within, reached}

abbrev pub got : ℕ × String × (ℕ × ℕ) → Pair
got a = answer plain a.0 (text a.1) example

pub all-marked : map got marked ≡ map (λ (a : ℕ × String × (ℕ × ℕ)). a.2) marked
unfolding shared less begins same depth glue groups child_of reach_within reached count exact_from exact place range nearest ask may_end lit answer
all-marked = refl
