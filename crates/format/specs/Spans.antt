-- Nodes in bytes, and groups of words as spans of a list, for contracts and laws; no public statement cites them.
--     node_part          nodes' records as bytes
--     is_table           a part of some bytes is the table of the names that they tell
--     node_table         a node's record, and then its row's
--     last_of            the last of some names, and prev where there are none
--     words_of, words_in  the words of the names that bytes would be the book of; by the rule of their own mark
--     deep              the depth of the words from lo up to hi
--     row_table          the tables of a row of children, one after the other
--     Climbs, Ranked    symbols number d never fall from word to word; the words of a row
-- The laws are in proofs/Groups.antt and proofs/Spans.antt. Assumes nothing: these are definitions.
use Rattle.std.specs.Prelude.{ℕ, pred, ◌≤◌, Bool, List, [], ◌∷◌, map, length}
use Rattle.std.proofs.Math.Seq.{slice}
use Rattle.words.specs.Words.{Bytes, Rule, Words, at, same, shared, word}
use Rattle.words.specs.Rising.{All, Rises, nth}
use Rattle.format.specs.Nodes.{Node, all_fields, groups, row_by, table_within}
use Rattle.format.specs.Book.{names_of, numbers}
use Rattle.format.specs.Kinds.{form_of, kind_of, rule_in, table_in}

unfoldable pub node_part : List Node → Bytes
node_part rs = numbers (all_fields rs)

-- by the form of the kind that the bytes are marked as
unfoldable pub is_table : Bytes → ℕ → ℕ → Bool
is_table b start end = same (numbers (table_in (form_of (kind_of b)) (rule_in b) (names_of b))) (slice start end b)

unfoldable pub node_table : ℕ → ℕ → Words → List Node
node_table i s ws = table_within (length ws) i s ws

unfoldable pub last_of : Bytes → List Bytes → Bytes
last_of prev [] = prev
last_of prev (x ∷ xs) = last_of x xs

unfoldable pub words_of : Rule → Bytes → Words
words_of ρ s = map (word ρ) (names_of s)

abbrev pub words_in : Bytes → Words
words_in s = words_of (rule_in s) s

unfoldable pub deep : Words → ℕ → ℕ → ℕ
deep ws lo hi = shared (nth ws lo) (nth ws (pred hi))

unfoldable pub row_table : ℕ → ℕ → Words → List Node
row_table i d ws = row_by (λ j t g. table_within (length ws) j t g) i d (groups d ws)

pub data Climbs (d : ℕ) : Words → Type 0 where
  flat : Climbs d []
  climb : {w : List ℕ} {ws : Words} → All (λ v. at w d ≤ at v d) ws → Climbs d ws → Climbs d (w ∷ ws)

-- the words of a row: they rise, and never fall at d
pub record Ranked (d : ℕ) (ws : Words) : Type 0 where
  pub rises : Rises ws
  pub climbs : Climbs d ws
