-- The trailer as the code has it at hand, and what is asked of it.
--     trailer_in         the numbers that the trailer of some bytes tells
--     Trail, TrailSays  what is asked of the trailer alone; whether it holds
-- Assumes nothing: these are definitions.
use Rattle.std.specs.Prelude.{◌*◌, ◌+◌, ◌≤◌, ◌≡◌, Bool, false, true, length}
use Rattle.words.specs.Words.{Bytes}
use Rattle.format.specs.Book.{longest_book, told, trailer_size}
use Rattle.format.specs.Records.{most_names}
use Rattle.format.specs.Kinds.{form_of, kind_of, record_size}
use Rattle.kinds.specs.Known.{kind_for, mark_back, mark_front}
use Rattle.trailer.specs.declared.Trailer.{Trailer}

abbrev pub trailer_in : Bytes → Trailer
trailer_in b = record { names = told b 0; block = told b 1; blocks_at = told b 2; nodes_at = told b 3; nodes = told b 4; kind = kind_for (kind_of b) }

-- one field for each test of the code
pub record Trail (b : Bytes) : Type 0 where
  pub long : trailer_size ≤ length b
  pub short : length b ≤ longest_book
  pub few : told b 0 ≤ most_names
  pub low : 1 ≤ told b 1
  pub high : told b 1 ≤ 64
  pub order : told b 2 ≤ told b 3
  pub total : told b 3 + told b 4 * record_size (form_of (kind_of b)) + trailer_size ≡ length b
  pub whole : told b 5 ≡ length b
  pub front : told b 6 ≡ mark_front
  pub back : told b 7 ≡ mark_back (kind_of b)

abbrev pub TrailSays : Bytes → Bool → Type 0
TrailSays b true = Trail b
TrailSays b false = Trail b → ⊥
