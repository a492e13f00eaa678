-- What the functions of the way down ask and give. A node is told by its offset; which number it has is the map's to say.
--     table_map, own_map    the map of the node table, which starts where the trailer tells, by its other two numbers; by the struct that has them
--     AtNode, AtFork        a node; a node of several names
--     AtRow                 the row of such a node, up to its end, and the part of the book that tells numbers of nodes
--     SoughtAt              the child that a symbol leads to, or the end of the row
--     WayOf                 where a question goes from a node
--     DescentSays           the nodes that a question passes, by their offsets
--     OnPath, HighestAt     offsets of nodes, each deeper than the one before; the highest of them that is deep enough
-- Assumes nothing: these are definitions.
use Rattle.std.specs.Prelude.{ℕ, suc, ◌+◌, ◌*◌, ◌<◌, ◌≤◌, ◌≡◌, List, map, ◌⊎◌, Option, None, Some, get_or, length}
use Rattle.words.specs.Words.{Bytes}
use Rattle.format.specs.Kinds.{rule_in}
use Rattle.descent.specs.Vocabulary.{Descended, Halts, Searchable, Sits, Sought, Taken, node}
use Rattle.format.specs.Spans.{words_in}
use Rattle.format.specs.Book.{told}
use Rattle.standing.specs.Maps.{Map, Placed, Roomy, number_in, record_at}
use Rattle.fields.specs.Counts.{counts_in}
use Rattle.fields.specs.declared.Table.{Table}

abbrev pub table_map : Bytes → ℕ → ℕ → Map
table_map b stride step = record { start = told b 3; stride = stride; step = step }

abbrev pub own_map : Table → Map
own_map t = table_map t.book.now t.stride t.step

-- ---- nodes, by their offsets

pub record AtNode (b : Bytes) (μ : Map) (o : ℕ) : Type 0 where
  pub searchable : Searchable (rule_in b) b μ
  pub placed : Placed μ o
  pub sits : Sits (words_in b) (number_in μ o)

pub record AtFork (b : Bytes) (μ : Map) (o : ℕ) : Type 0 where
  pub at-node : AtNode b μ o
  pub several : (node (words_in b) (number_in μ o)).names ≡ 1 → ⊥

pub record AtRow (b : Bytes) (μ : Map) (counts : Bytes) (o end : ℕ) : Type 0 where
  pub fork : AtFork b μ o
  pub part : counts ≡ counts_in μ.step b
  pub ends : end ≡ o + (record_at μ.step b o).nodes * μ.stride

-- the first child of the node at o whose symbol is not below s stands at c, or its row ends there
pub record SoughtAt (b : Bytes) (μ : Map) (o s c : ℕ) : Type 0 where
  pub placed : Placed μ c
  pub sought : Sought (words_in b) (number_in μ o) s (number_in μ c)

-- ---- the descent

-- to a child, or no further
abbrev pub WayOf : Bytes → Map → List ℕ → ℕ → Option ℕ → Type 0
WayOf b μ q o (Some c) = Placed μ c × Taken (words_in b) q (number_in μ o) (number_in μ c)
WayOf b μ q o None = Halts (words_in b) q (number_in μ o)

-- the first n offsets of p are those of the nodes that q passes, and the last one's is `last`
pub record DescentSays (b : Bytes) (μ : Map) (q p : List ℕ) (n last : ℕ) : Type 0 where
  pub placed : (j : ℕ) → j < n → Placed μ (get_or p j 0)
  pub ended : Placed μ last
  pub way : Descended (words_in b) q (map (number_in μ) p) n (number_in μ last)

-- at the first n offsets of p stand records, and their depths rise
pub record OnPath (b : Bytes) (step : ℕ) (p : List ℕ) (n : ℕ) : Type 0 where
  pub long : length p ≡ 202
  pub some : 0 < n
  pub few : n ≤ 202
  pub room : (j : ℕ) → j < n → Roomy step b (get_or p j 0)
  pub deepens : (i j : ℕ) → i < j → j < n → (record_at step b (get_or p i 0)).depth < (record_at step b (get_or p j 0)).depth

-- r is the first of them whose depth is at least m, or the last
pub record HighestAt (b : Bytes) (step : ℕ) (p : List ℕ) (n m r : ℕ) : Type 0 where
  pub index : ℕ
  pub within : index < n
  pub is : r ≡ get_or p index 0
  pub above : (j : ℕ) → j < index → (record_at step b (get_or p j 0)).depth < m
  pub deep : (m ≤ (record_at step b r).depth) ⊎ (suc index ≡ n)
