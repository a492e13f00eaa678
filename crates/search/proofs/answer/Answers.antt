-- One kind of question for each number.
use mathlib.Core.Path.{◌≡◌, ◌∙◌, ap, refl, sym}
use mathlib.Core.Logic.{◌⊎◌, inl, inr}
use Rattle.words.proofs.Words.{false≠true}
use Rattle.search.specs.Asks.{number_of}
use Rattle.search.specs.declared.Asked.{Asked}
use Rattle.search.specs.declared.Asked.TheVariants.{Exact, Nearest, Place, Range, Width}
use Rattle.search.proofs.Seats.{by-exact, by-nearest, by_place, by-range, by_width}
use Rattle.search.proofs.answer.Goals as goal
use Rattle.search.proofs.answer.Goals.{in-Exact, in_default}

-- of the first two kinds the second; of all the last
second : (k : Asked) → (k ≡ Exact) ⊎ (k ≡ Place) → (k ≡ Exact → ⊥) → number_of k ≡ 2
second k (inl e) n = absurd (n e)
second k (inr e) n = ap number_of e

last : (k : Asked) → (k ≡ Exact → ⊥) → (k ≡ Place → ⊥) → (k ≡ Range → ⊥) → (k ≡ Nearest → ⊥) → number_of k ≡ 5
last Exact a b c d = absurd (a refl)
last Place a b c d = absurd (b refl)
last Range a b c d = absurd (c refl)
last Nearest a b c d = absurd (d refl)
last Width a b c d = refl

pub returns-in-Exact-kind-clause-result_value : goal.returns-in-Exact-kind-clause-result_value
returns-in-Exact-kind-clause-result_value c =
    by-exact _ _ _ (ap number_of c.in-Exact-kind.is) c.ask_exact.ensures.result_value

pub returns-in_default-kind : goal.returns-in_default-kind
returns-in_default-kind c =
    record {
      result_value = by_place _ _ _ (elim c.match-matches.branch [
        | in-Exact w ↦ second _ w.in-Exact.is c.in_default-kind.not-Exact
        | in_default w ↦ absurd (false≠true (sym w.matches-is ∙ c.if-matches.true))
      ]) c.ask_place.ensures.result_value;
      looked = c.ask_place.ensures.looked;
    }

pub returns-in-Range-clause-result_value : goal.returns-in-Range-clause-result_value
returns-in-Range-clause-result_value c =
    by-range _ _ _ (ap number_of c.in-Range.is) c.ask_range.ensures.result_value

pub returns-in-Nearest-clause-result_value : goal.returns-in-Nearest-clause-result_value
returns-in-Nearest-clause-result_value c =
    by-nearest _ _ _ (ap number_of c.in-Nearest.is) c.ask_nearest.ensures.result_value

pub returns-in_default-kind-2 : goal.returns-in_default-kind-2
returns-in_default-kind-2 c =
    record {
      result_value = by_width _ _ _ (elim c.match-matches.branch [
        | in-Exact w ↦ absurd (false≠true (sym c.if-matches.false ∙ w.matches-is))
        | in_default w ↦ last _ w.in_default.not-Exact w.in_default.not-Place c.in_default-kind-2.not-Range c.in_default-kind-2.not-Nearest
      ]) c.ask_width.ensures.result_value;
      looked = c.ask_width.ensures.looked;
    }
