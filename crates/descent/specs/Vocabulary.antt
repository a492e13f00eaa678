-- The words of a blind search over the flat node table. A node is a number; its record alone says its span of names.
--     node, from, upto     record number v of the table; its names stand from `from` up to, not including, `upto`
--     In, Sits             a name of node v; v is the number of a node
--     reach_in, onward      where q ends that has come down to the names from lo up to hi, and the nodes it visits from there on; with n nodes before them
--     RowFrom, Seeking, Sought    a place in a node's row of children; the first child whose symbol is not below s
--     Cut                  names parted at r by their symbols at d
--     ChildStep, Taken, Halts   from a node to the child with q's symbol; q goes no further
--     Passed, Descended      the nodes passed so far, the last one v; the whole descent
--     Highest, Found       the highest node of a path that is deep enough; it holds the names that share most with q
--     Group                the names from lo up to hi are those that share most with q, n symbols
--     asked, asked_in       the word of a question, shut, so that it can be inferred; by the rule of some bytes' own mark
--     NodesAt, Searchable  bytes hold the records of a table; what every step of a search asks of its book
-- Laws: Cuts, Reach, Rows, Paths, Bytes. Assumes nothing: these are definitions.
use Rattle.std.specs.Prelude.{ℕ, ◌+◌, ◌*◌, ◌≤◌, ◌<◌, suc, pred, ◌≡◌, ◌⊎◌, List, ◌++◌, length, get_or, drop}
use Rattle.words.specs.Rising.{Rises, span, nth}
use Rattle.words.specs.Words.{Bytes, Rule, Words, at, shared, word}
use Rattle.format.specs.Kinds.{rule_in}
use Rattle.format.specs.Book.{longest_book, trailer_size}
use Rattle.format.specs.Spans.{row_table, words_of, Ranked, node_table}
use Rattle.format.specs.Nodes.{Node, table}
use Rattle.format.specs.Records.{longest, most_names}
use Rattle.standing.specs.Maps.{Map, Paced, Roomy, node_in, record_at}
use Rattle.answers.specs.Stops.{Stop, stop_at, visited}
use Rattle.answers.specs.Questions.{reach_within, reached}

-- past the table's end
abbrev pub no_node : Node
no_node = record { symbol = 0; depth = 0; first = 0; names = 0; nodes = 0; width = 0 }

unfoldable pub node : Words → ℕ → Node
node ws v = get_or (table ws) v no_node

abbrev pub from : Words → ℕ → ℕ
from ws v = (node ws v).first

abbrev pub upto : Words → ℕ → ℕ
upto ws v = (node ws v).first + (node ws v).names

-- number i is one of node v's names
pub record In (ws : Words) (v i : ℕ) : Type 0 where
  pub low : from ws v ≤ i
  pub high : i < upto ws v

-- v is the number of a node, which ends within the table: from it on the table is that of the node's span
pub record Sits (ws : Words) (v : ℕ) : Type 0 where
  pub some : from ws v < upto ws v
  pub within : upto ws v ≤ length ws
  pub inside : v < length (table ws)
  pub ends : v + (node ws v).nodes ≤ length (table ws)
  pub behind : List Node
  pub stands : drop v (table ws) ≡ node_table (from ws v) (node ws v).symbol (span ws (from ws v) (upto ws v)) ++ behind

unfoldable pub reach_node : List ℕ → ℕ → Words → Stop
reach_node q i ws = reach_within (length ws) q i ws

unfoldable pub reach_in : List ℕ → Words → ℕ → ℕ → Stop
reach_in q ws lo hi = reach_node q lo (span ws lo hi)

abbrev pub onward : ℕ → Stop → Stop
onward n t = record { position = t.position; visits = n + t.visits }

-- ---- rows

-- at record c begins the row of the names from mid up to hi, which part at d; it ends before record stop
pub record RowFrom (ws : Words) (d c mid hi stop : ℕ) : Type 0 where
  pub order : mid ≤ hi
  pub within : hi ≤ length ws
  pub limit : stop ≤ length (table ws)
  pub row : Ranked d (span ws mid hi)
  pub climbs : (i k : ℕ) → mid ≤ i → i ≤ k → k < hi → at (nth ws i) d ≤ at (nth ws k) d
  pub behind : List Node
  pub stands : drop c (table ws) ≡ row_table mid d (span ws mid hi) ++ behind
  pub size : c + length (row_table mid d (span ws mid hi)) ≡ stop

-- of node v's names those before mid have symbols below s at its depth, and its row goes on at c with mid
pub record Seeking (ws : Words) (v s c : ℕ) : Type 0 where
  pub mid : ℕ
  pub low : from ws v ≤ mid
  pub below : (i : ℕ) → from ws v ≤ i → i < mid → at (nth ws i) (node ws v).depth < s
  pub row : RowFrom ws (node ws v).depth c mid (upto ws v) (v + (node ws v).nodes)

-- names lo up to hi are cut at r: before it the symbols at d are below s, from it on they are not
pub record Cut (ws : Words) (d s lo hi r : ℕ) : Type 0 where
  pub low : lo ≤ r
  pub high : r ≤ hi
  pub below : (i : ℕ) → lo ≤ i → i < r → at (nth ws i) d < s
  pub above : (i : ℕ) → r ≤ i → i < hi → s ≤ at (nth ws i) d

-- c is the first child of v whose symbol is not below s, or the end of its row
pub record Sought (ws : Words) (v s c : ℕ) : Type 0 where
  pub mid : ℕ
  pub cut : Cut ws (node ws v).depth s (from ws v) (upto ws v) mid
  pub row : RowFrom ws (node ws v).depth c mid (upto ws v) (v + (node ws v).nodes)

-- ---- the path

pub record ChildStep (ws : Words) (q : List ℕ) (u v : ℕ) : Type 0 where
  pub low : from ws u ≤ from ws v
  pub high : upto ws v ≤ upto ws u
  pub deeper : (node ws u).depth < (node ws v).depth
  pub parts : (i : ℕ) → In ws u i → (In ws v i → ⊥) → at (nth ws i) (node ws u).depth ≡ at q (node ws u).depth → ⊥

-- q goes from v to its child c
pub record Taken (ws : Words) (q : List ℕ) (v c : ℕ) : Type 0 where
  pub sits : Sits ws c
  pub step : ChildStep ws q v c
  pub on : reach_in q ws (from ws v) (upto ws v) ≡ visited (reach_in q ws (from ws c) (upto ws c))

-- q goes no further than v: its first name is the one reached, and if a name is q itself, it is that one
pub record Halts (ws : Words) (q : List ℕ) (v : ℕ) : Type 0 where
  pub here : reach_in q ws (from ws v) (upto ws v) ≡ visited (stop_at (from ws v))
  pub shallow : shared q (nth ws (from ws v)) ≤ (node ws v).depth
  pub alone : (i : ℕ) → In ws v i → nth ws i ≡ q → i ≡ from ws v

-- the first n numbers of p are the nodes from the root down to v that q passes
pub record Passed (ws : Words) (q : List ℕ) (p : List ℕ) (n v : ℕ) : Type 0 where
  pub long : length p ≡ 202
  pub some : 0 < n
  pub count : n ≤ suc (node ws v).depth
  pub last : get_or p (pred n) 0 ≡ v
  pub root : get_or p 0 0 ≡ 0
  pub sits : (j : ℕ) → j < n → Sits ws (get_or p j 0)
  pub around : (j : ℕ) → j < n → (from ws (get_or p j 0) ≤ from ws v) × (upto ws v ≤ upto ws (get_or p j 0))
  pub step : (j : ℕ) → suc j < n → ChildStep ws q (get_or p j 0) (get_or p (suc j) 0)
  pub left : reach_node q 0 ws ≡ onward (pred n) (reach_in q ws (from ws v) (upto ws v))
  pub kept : (i : ℕ) → i < length ws → nth ws i ≡ q → In ws v i

-- the whole descent, which ends at v
pub record Descended (ws : Words) (q : List ℕ) (p : List ℕ) (n v : ℕ) : Type 0 where
  pub few : n ≤ 202
  pub path : Passed ws q p n v
  pub halts : Halts ws q v

-- r is the highest of the first n nodes of p whose depth is at least m, or the last of them
pub record Highest (ws : Words) (p : List ℕ) (n m r : ℕ) : Type 0 where
  pub index : ℕ
  pub within : index < n
  pub is : r ≡ get_or p index 0
  pub above : (j : ℕ) → j < index → (node ws (get_or p j 0)).depth < m
  pub deep : (m ≤ (node ws r).depth) ⊎ (suc index ≡ n)

-- ---- the group that shares most

pub record Group (ws : Words) (q : List ℕ) (n lo hi : ℕ) : Type 0 where
  pub some : lo < hi
  pub within : hi ≤ length ws
  pub inside : (i : ℕ) → lo ≤ i → i < hi → shared q (nth ws i) ≡ n
  pub outside : (i : ℕ) → i < length ws → (i < lo) ⊎ (hi ≤ i) → shared q (nth ws i) < n

-- r is the position that q reaches, and a name that is q itself stands there
pub record Reached (ws : Words) (q : List ℕ) (r : ℕ) : Type 0 where
  pub is : r ≡ reached q ws
  pub within : r < length ws
  pub only : (i : ℕ) → i < length ws → nth ws i ≡ q → i ≡ r

-- node v's names are that group
pub record Found (ws : Words) (q : List ℕ) (n v : ℕ) : Type 0 where
  pub sits : Sits ws v
  pub deep : n ≤ (node ws v).depth
  pub holds : In ws v (reached q ws)
  pub group : Group ws q n (from ws v) (upto ws v)

-- .. and n is what the reached name shares with q
pub record Located (ws : Words) (q : List ℕ) (n v : ℕ) : Type 0 where
  pub shares : n ≡ shared q (nth ws (reached q ws))
  pub found : Found ws q n v

-- ---- the bytes

unfoldable pub asked : Rule → Bytes → List ℕ
asked ρ q = word ρ q

abbrev pub asked_in : Bytes → Bytes → List ℕ
asked_in s q = asked (rule_in s) q

-- each node's record stands where the map says
pub record NodesAt (μ : Map) (s : Bytes) (ws : Words) : Type 0 where
  pub room : (v : ℕ) → v < length (table ws) → Roomy μ.step s (node_in μ v)
  pub told : (v : ℕ) → v < length (table ws) → record_at μ.step s (node_in μ v) ≡ node ws v

-- a book with names, its node table by that map
pub record Searchable (ρ : Rule) (s : Bytes) (μ : Map) : Type 0 where
  pub long : trailer_size ≤ length s
  pub held : length s ≤ longest_book
  pub paced : Paced μ.stride
  pub rises : Rises (words_of ρ s)
  pub some : 0 < length (words_of ρ s)
  pub few : length (words_of ρ s) ≤ most_names
  pub small : length (table (words_of ρ s)) < 2 * most_names
  pub short : (i : ℕ) → length (nth (words_of ρ s) i) ≤ longest
  pub table : NodesAt μ s (words_of ρ s)
