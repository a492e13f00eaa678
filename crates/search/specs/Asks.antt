-- What the five questions ask, and how a reply is read.
--     number_of             the number of a kind of question
--     AnswerAsk             an accepted book with names
--     reply_of              two numbers, with how far the search looked that met a name
--     pair_of                an answer's two numbers
-- Assumes nothing: these are definitions.
use Rattle.std.specs.Prelude.{ℕ}
use Rattle.words.specs.Words.{Bytes}
use Rattle.answers.specs.Questions.{Pair as Numbers}
use Rattle.format.specs.Kinds.{rule_in}
use Rattle.standing.specs.Maps.{map_of}
use Rattle.descent.specs.Vocabulary.{Searchable}
use Rattle.accept.specs.Parts.{Parts}
use Rattle.spots.specs.declared.Met.{Met}
use Rattle.search.specs.declared.Asked.{Asked}
use Rattle.search.specs.declared.Asked.TheVariants.{Exact, Nearest, Place, Range, Width}
use Rattle.search.specs.declared.Reply.{Reply}

abbrev pub number_of : Asked → ℕ
number_of Exact = 1
number_of Place = 2
number_of Range = 3
number_of Nearest = 4
number_of Width = 5

pub record AnswerAsk (b : Bytes) : Type 0 where
  pub parts : Parts b
  pub searchable : Searchable (rule_in b) b (map_of b)

abbrev pub reply_of : Met → ℕ → ℕ → Reply
reply_of met first second = record { first = first; second = second; visits = met.visits; entries = met.entries }

abbrev pub pair_of : Reply → Numbers
pair_of r = (r.first, r.second)
