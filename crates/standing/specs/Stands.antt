-- A node table as it stands in bytes by a map: records one after the other, from one offset to another.
--     Stands            from o up to e stand the records rs
--     NodeAt            a node with its row
--     RowAt, GroupAt    the row of words that share at least d symbols; of a whole group, whose depth is d
--     Child             a node in the row of a node of depth d
-- The laws are in proofs/Records.antt, proofs/Children.antt, proofs/Walk.antt and proofs/Bytes.antt.
-- Assumes nothing: these are definitions.
use Rattle.std.specs.Prelude.{ℕ, suc, ◌+◌, ◌≤◌, ◌<◌, ◌≡◌, List, [], ◌∷◌}
use Rattle.words.specs.Rising.{span, nth}
use Rattle.words.specs.Words.{Bytes, Words, at}
use Rattle.format.specs.Spans.{deep, row_table, node_table}
use Rattle.format.specs.Nodes.{Node}
use Rattle.standing.specs.Maps.{Map, Roomy, record_at}

abbrev pub Stands : Map → Bytes → ℕ → List Node → ℕ → Type 0
Stands μ b o [] e = o ≡ e
Stands μ b o (r ∷ rs) e = Roomy μ.step b o × (record_at μ.step b o ≡ r) × Stands μ b (o + μ.stride) rs e

-- the node of the words from lo to hi, to which s led, with its row
pub record NodeAt (μ : Map) (b : Bytes) (ws : Words) (lo hi s o e : ℕ) : Type 0 where
  pub stands : Stands μ b o (node_table lo s (span ws lo hi)) e

-- the row of the words from lo to hi, which share at least d symbols
pub record RowAt (μ : Map) (b : Bytes) (ws : Words) (lo hi d o e : ℕ) : Type 0 where
  pub share : d ≤ deep ws lo hi
  pub stands : Stands μ b o (row_table lo d (span ws lo hi)) e

-- the row of the words from lo to hi, which share just d symbols
pub record GroupAt (μ : Map) (b : Bytes) (ws : Words) (lo hi d o e : ℕ) : Type 0 where
  pub share : d ≡ deep ws lo hi
  pub stands : Stands μ b o (row_table lo d (span ws lo hi)) e

-- the words from lo to mid are a child in the row of a node of depth d, and stand from o to m
pub record Child (μ : Map) (b : Bytes) (ws : Words) (d lo mid o m : ℕ) : Type 0 where
  pub some : lo < mid
  pub node : NodeAt μ b ws lo mid (at (nth ws lo) d) o m
  pub below : suc lo < mid → d < deep ws lo mid
