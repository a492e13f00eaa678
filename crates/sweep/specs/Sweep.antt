-- A question and the names of a book, by the plain rule: what is told entry by entry, without a rebuilt name.
--     SweepAsk              what a walk over the entries asks: they are judged, and n is how many names there are
--     StepAsk               an entry stands at o, and m is no more than the question has
--     shared_on, less_on      what the name at o shares with the question, where the name before it shares m; whether it is less, where the
--                           name before it is
--     FoundSays             the name at a place: its entry, what it shares with the question, and its length
--     SeatSays              the question's place, and the name there
--     WidenAsk              .., and that name begins with the question
--     RangeSays             the question's place, how many names begin with it, and the greatest length of these
-- The laws are in proofs/. Assumes nothing: these are definitions.
use Rattle.std.specs.Prelude.{ℕ, ◌+◌, ◌≤◌, ◌<◌, ◌≡◌, Bool, true, ltb, drop, get_or, length, MatchOption}
use Rattle.words.specs.Rising.{nth}
use Rattle.words.specs.Words.{Bytes, begins, less, pick, plain, shared, word}
use Rattle.format.specs.Spans.{words_of}
use Rattle.format.specs.Book.{longest_book, names_of}
use Rattle.answers.specs.Questions.{count, place}
use Rattle.answers.specs.Widths.{width}
use Rattle.streams.specs.Streams.{Here, Known, entry_end, rest_at}
use Rattle.sweep.specs.declared.Found.{Found}
use Rattle.sweep.specs.declared.Seat.{Seat}

pub record SweepAsk (b : Bytes) (n : ℕ) : Type 0 where
  pub known : Known plain b
  pub count : n ≡ length (names_of b)

pub record StepAsk (b : Bytes) (o : ℕ) (q : Bytes) (m : ℕ) : Type 0 where
  pub fits : entry_end b o ≤ length b
  pub small : length b ≤ longest_book
  pub upto : m ≤ length q

-- where the name has more from the one before it than the question shares, it shares as much; else its rest goes on behind its count
abbrev pub shared_on : Bytes → ℕ → Bytes → ℕ → ℕ
shared_on b o q m = pick (ltb m (get_or b o 0)) m (get_or b o 0 + shared (word plain (rest_at b o)) (word plain (drop (get_or b o 0) q)))

abbrev pub less_on : Bytes → ℕ → Bytes → ℕ → Bool
less_on b o q m = pick (ltb m (get_or b o 0)) true (less (word plain (rest_at b o)) (word plain (drop (get_or b o 0) q)))

-- name number p
pub record FoundSays (b q : Bytes) (p : ℕ) (f : Found) : Type 0 where
  pub inside : p < length (names_of b)
  pub here : Here b p f.at
  pub shares : f.shared ≡ shared (nth (words_of plain b) p) (word plain q)
  pub long : f.len ≡ length (nth (words_of plain b) p)

-- where entry number s.place stands, or where the entries end; where the place is no name's, all names are less
pub record SeatSays (b q : Bytes) (s : Seat) : Type 0 where
  pub is : s.place ≡ place (word plain q) (words_of plain b)
  pub here : Here b s.place s.at
  pub name : MatchOption s.name (length (names_of b) ≤ s.place) (FoundSays b q s.place)

-- the name at the question's place, p, begins with the question
pub record WidenAsk (b : Bytes) (n : ℕ) (q : Bytes) (p : ℕ) (f : Found) : Type 0 where
  pub ask : SweepAsk b n
  pub is : p ≡ place (word plain q) (words_of plain b)
  pub name : FoundSays b q p f
  pub whole : f.shared ≡ length q

pub record RangeSays (b q : Bytes) (p names widest : ℕ) : Type 0 where
  pub is : p ≡ place (word plain q) (words_of plain b)
  pub many : names ≡ count (begins (word plain q)) (words_of plain b)
  pub wide : widest ≡ width (word plain q) (words_of plain b)
