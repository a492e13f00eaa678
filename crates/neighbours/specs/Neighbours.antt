-- What a name shares with the one before it, as it is read from the entries.
--     RestAsk, shared_parts  two parts of the bytes
--     EndAsk, end_by         up to where a rest is held to another one
--     NextAsk, shared_next   one entry further along a block
--     AlongAsk, AlongSays   entries from a block's start on up to the one at a; what the name there shares with the one before
--     StartAsk, block_start     where the block of a name starts
--     whole_before           an entry that stores a name whole, from which the names up to number i can be gone along
--     shared_before          what a name shares with the one before it
--     MeetAsk, Meets, PartSays     name i is not the first, its entry stands at a, and that of the name before at p; they can part at d; the
--                           entry of name i where they can, or 0 where they don't
--     AlongCountAsk              that, where what they share has to be counted
-- The laws are in proofs/. Assumes nothing: these are definitions.
use Rattle.std.specs.Prelude.{ℕ, max, min, pred, ◌+◌, ◌-◌, ◌*◌, ◌/◌, ◌≤◌, ◌<◌, ◌≡◌, [], eqb, ltb, drop, get_or, length, take}
use Rattle.words.specs.Rising.{nth}
use Rattle.words.specs.Words.{Bytes, Rule, pick, shared, word}
use Rattle.format.specs.Kinds.{kind_of, rule_in}
use Rattle.format.specs.Spans.{words_in}
use Rattle.format.specs.Book.{trailer_size, longest_book, names_of, told}
use Rattle.format.specs.Records.{longest, most_names}
use Rattle.symbols.specs.Rules.{by_kind, rule_by}
use Rattle.symbols.specs.declared.Rule.{Rule as ByRule}
use Rattle.symbols.specs.declared.Rule.TheVariants.{Folded, Plain}
use Rattle.streams.specs.Streams.{Here, InBlocks, Known, entry_end, length_at, offset_at, rest_at}

-- what the bytes from own to end share with those from other on
abbrev pub shared_parts : Rule → Bytes → ℕ → ℕ → ℕ → ℕ
shared_parts ρ b own end other = shared (word ρ (take (end - own) (drop own b))) (word ρ (drop other b))

pub record RestAsk (ρ : Rule) (b : Bytes) (own end other : ℕ) : Type 0 where
  pub small : length b ≤ longest_book
  pub within : end ≤ length b
  pub goes_on : (x : ℕ) → own + x < end → x ≤ shared_parts ρ b own end other → other + x < length b

-- both entries stand, own is near the first, and other no further than the end of the second
pub record EndAsk (b : Bytes) (at own a other : ℕ) : Type 0 where
  pub here : entry_end b at ≤ length b
  pub there : entry_end b a ≤ length b
  pub inside : other ≤ entry_end b a
  pub near : own ≤ at + 2 + longest
  pub small : length b ≤ longest_book

abbrev pub end_by : ByRule → Bytes → ℕ → ℕ → ℕ → ℕ → ℕ
end_by Plain b at own a other = entry_end b at
end_by Folded b at own a other = min (entry_end b at) (own + (entry_end b a - other))

-- what two rests share behind a byte of the names, with all before it
abbrev pub shared_from : Rule → Bytes → ℕ → ℕ → ℕ → ℕ
shared_from ρ b at a from = from + shared (word ρ (drop (from - get_or b at 0) (rest_at b at))) (word ρ (drop (from - get_or b a 0) (rest_at b a)))

-- behind the greater of the two counts
abbrev pub shared_next : Rule → Bytes → ℕ → ℕ → ℕ → ℕ
shared_next ρ b at a x = pick (ltb x (get_or b at 0)) x (shared_from ρ b at a (max (get_or b at 0) (get_or b a 0)))

-- both entries stand, and c is the count of the second; by the plain rule its name goes on where the first one's parts from it
pub record NextAsk (t : ByRule) (b : Bytes) (at a c x : ℕ) : Type 0 where
  pub here : entry_end b at ≤ length b
  pub there : entry_end b a ≤ length b
  pub count : c ≡ get_or b a 0
  pub short : length_at b a ≤ longest
  pub upto : x ≤ length_at b a
  pub small : length b ≤ longest_book
  pub goes_on : t ≡ Plain → shared_next (rule_by t) b at a x < length_at b a

-- name p, whose entry stands at start and stores 0, is before name i, whose entry stands at a and stores c, by the plain rule 0
pub record AlongAsk (t : ByRule) (b : Bytes) (start a c : ℕ) : Type 0 where
  pub known : Known (rule_by t) b
  pub p : ℕ
  pub i : ℕ
  pub order : p < i
  pub within : i < length (names_of b)
  pub first : Here b p start
  pub there : Here b i a
  pub fresh : get_or b start 0 ≡ 0
  pub count : c ≡ get_or b a 0
  pub whole : t ≡ Plain → c ≡ 0

abbrev pub AlongSays : Rule → Bytes → ℕ → ℕ → Type 0
AlongSays ρ b a r = (i : ℕ) → 0 < i → i < length (names_of b) → Here b i a
    → r ≡ shared (word ρ (get_or (names_of b) (pred i) [])) (word ρ (get_or (names_of b) i []))

pub record StartAsk (b : Bytes) (i : ℕ) : Type 0 where
  pub long : trailer_size ≤ length b
  pub blocks : InBlocks b (told b 1) (told b 2)
  pub within : i < length (names_of b)
  pub few : length (names_of b) ≤ most_names

abbrev pub block_start : Bytes → ℕ → ℕ
block_start b i = offset_at b (i / told b 1 * told b 1)

-- the name at p is stored whole, or else its block's first name is
abbrev pub whole_before : Bytes → ℕ → ℕ → ℕ
whole_before b p i = pick (eqb (get_or b p 0) 0) p (block_start b i)

-- what name i shares with the one before it, in symbols
abbrev pub shared_before : Bytes → ℕ → ℕ
shared_before b i = shared (nth (words_in b) (pred i)) (nth (words_in b) i)

pub record MeetAsk (b : Bytes) (p a i : ℕ) : Type 0 where
  pub known : Known (rule_in b) b
  pub long : trailer_size ≤ length b
  pub blocks : InBlocks b (told b 1) (told b 2)
  pub some : 0 < i
  pub within : i < length (names_of b)
  pub before : Here b (pred i) p
  pub here : Here b i a

-- by the plain rule a count says it, but for 0
pub record AlongCountAsk (b : Bytes) (p a i : ℕ) : Type 0 where
  pub meet : MeetAsk b p a i
  pub whole : by_kind (kind_of b) ≡ Plain → get_or b a 0 ≡ 0

-- they share d symbols at least, and no more than d bytes are stored as shared
pub record Meets (b : Bytes) (a i d : ℕ) : Type 0 where
  pub low : get_or b a 0 ≤ d
  pub shares : d ≤ shared_before b i

-- 0: they don't share just d symbols
pub record PartSays (b : Bytes) (a i d r : ℕ) : Type 0 where
  pub no_way : r ≡ 0 → shared_before b i ≡ d → ⊥
  pub it-does : (r ≡ 0 → ⊥) → (r ≡ a) × Meets b a i d
