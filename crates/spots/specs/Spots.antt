-- What finding a question's place in the node table asks and gives. The way down is `Paths.antt` of `paths`.
--     NameAsk               the name at a position can be read
--     MetSays, NextSays     how a name stands to a question; its next symbol
--     NearSays              the name that a question reaches, what they share, and its length
--     SpotSays, AtSpot      the node whose names share most with a question
--     Askable               what an accepted book with names is to a search, by the map of its node table
--     Looked                how far the search for a question looked
-- Assumes nothing: these are definitions.
use Rattle.std.specs.Prelude.{ℕ, ◌≡◌, List, length}
use Rattle.words.specs.Words.{Bytes, Words, at, shared}
use Rattle.words.specs.Rising.{nth}
use Rattle.format.specs.Kinds.{rule_in}
use Rattle.answers.specs.Questions.{reached}
use Rattle.answers.specs.Counts.{visits}
use Rattle.descent.specs.Vocabulary.{Located, Reached, Searchable, asked_in}
use Rattle.format.specs.Spans.{words_in}
use Rattle.format.specs.Book.{told}
use Rattle.standing.specs.Maps.{Map, Placed, number_in}
use Rattle.accept.specs.Parts.{Parts}
use Rattle.names.specs.Names.{PlaceAsk, entries_to}
use Rattle.paths.specs.Paths.{table_map}

-- ---- the name that is reached

abbrev pub NameAsk : Bytes → ℕ → Type 0
NameAsk b position = PlaceAsk b (told b 1) (told b 2) position

-- the name at a position has len symbols, and it shares m with q; s is its symbol behind m
pub record MetSays (ws : Words) (q : List ℕ) (position len m : ℕ) : Type 0 where
  pub size : len ≡ length (nth ws position)
  pub shares : m ≡ shared q (nth ws position)

abbrev pub NextSays : Words → ℕ → ℕ → ℕ → Type 0
NextSays ws position m s = s ≡ at (nth ws position) m

-- the name at a position is the one that q reaches; they share m symbols, and it has len of them
pub record NearSays (ws : Words) (q : List ℕ) (position m len : ℕ) : Type 0 where
  pub there : Reached ws q position
  pub shares : m ≡ shared q (nth ws position)
  pub size : len ≡ length (nth ws position)

-- the node at o has the names that share most with q, m symbols; in the one that is reached then comes s
pub record SpotSays (b : Bytes) (μ : Map) (q : List ℕ) (o m s : ℕ) : Type 0 where
  pub placed : Placed μ o
  pub located : Located (words_in b) q m (number_in μ o)
  pub next : s ≡ at (nth (words_in b) (reached q (words_in b))) m

pub record AtSpot (b : Bytes) (μ : Map) (q : Bytes) (o m s : ℕ) : Type 0 where
  pub searchable : Searchable (rule_in b) b μ
  pub spot : SpotSays b μ (asked_in b q) o m s

-- ---- the questions

pub record Askable (b : Bytes) (stride step : ℕ) : Type 0 where
  pub parts : Parts b
  pub searchable : Searchable (rule_in b) b (table_map b stride step)

-- the nodes on its way down, and the entries up to the name that it reached
pub record Looked (b q : Bytes) (seen read : ℕ) : Type 0 where
  pub nodes : seen ≡ visits (asked_in b q) (words_in b)
  pub name : read ≡ entries_to (told b 1) (reached (asked_in b q) (words_in b))
