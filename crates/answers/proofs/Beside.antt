-- Nearest by the names beside a question's place, and ranges inside each other, computed on Café, Mar, Marina and Market Square. What another
-- definition would give shows here.
--     neighbours-computed, ranges-computed
-- Assumes nothing.
use Prim.Native.Nat.{ℕ, ◌+◌, ◌-◌, max}
use mathlib.Core.Path.{◌≡◌, refl}
use mathlib.Core.Bool.{Bool, true}
use mathlib.Core.List.{List, [], ◌∷◌, ◌++◌, map}
use lib.Dec.{leb, ltb}
use lib.ListN.{get_or, replicate, take}
use Rattle.words.specs.Words.{Bytes, begins, both, less, pick, plain, shared, word}
use Rattle.format.specs.Example.{example, text}
use Rattle.format.specs.Nodes.{depth, glue, groups}
use Rattle.answers.specs.Lit.{lit, may_end}
use Rattle.answers.specs.Questions.{answer, ask, child_of, count, nearest, place, range, reach_within, reached}

abbrev stops : List Bytes
stops = (text "Caf" ++ (0xC3 ∷ 0xA9 ∷ [])) ∷ example

-- nearest's number, and the greater of those that the names beside the place would give
abbrev told : Bytes → ℕ
told q = (answer plain 4 q stops).1

abbrev gives : Bytes → ℕ → ℕ
gives q i = lit q (shared (word plain q) (word plain (get_or stops i [])))

abbrev beside : Bytes → ℕ
beside q = let p : ℕ = (answer plain 2 q stops).0 in max (pick (ltb 0 p) (gives q (p - 1)) 0) (pick (ltb p 4) (gives q p) 0)

-- before all names, a name, between two, behind all; one that parts from a name inside é, and one that ends there
abbrev questions : List Bytes
questions = text "" ∷ text "A" ∷ text "Mar" ∷ text "Mari" ∷ text "Maxim" ∷ text "Zoo" ∷ (text "Caf" ++ (0xC3 ∷ 0xA8 ∷ [])) ∷ (text "Caf" ++ (0xC3 ∷ [])) ∷ []

pub neighbours-computed : map told questions ≡ map beside questions
unfolding shared less depth glue groups child_of reach_within reached count place nearest ask may_end lit answer
neighbours-computed = refl

-- whether position i is in a question's range
abbrev in_range : Bytes → ℕ → Bool
in_range q i = let r = answer plain 3 q stops in both (leb r.0 i) (ltb i (r.0 + r.1))

-- where it is, its name begins with the question, and it is in the range of the question's first byte
abbrev nested : Bytes → ℕ → Bool
nested q i = pick (in_range q i) (both (begins q (get_or stops i [])) (in_range (take 1 q) i)) true

pub ranges-computed : map (λ q. map (nested q) (0 ∷ 1 ∷ 2 ∷ 3 ∷ 4 ∷ [])) (text "Mar" ∷ text "Mark" ∷ text "Mas" ∷ text "Caf" ∷ []) ≡ replicate 4 (replicate 5 true)
unfolding shared less begins count place range ask answer
ranges-computed = refl
