-- Document 01, 'Layout of a book', part 3: the node table. A node is a group of words that stand together in the list.
--     depth, groups     the count of leading symbols that a group shares; one group for each symbol that follows there
--     Node, field_count, node_size a record; how many numbers it has, and how many bytes they take
--     fields, all_fields          its numbers; those of several, one after the other
--     leaf, fork, table          that of one word; that of several; the whole
-- The laws are in proofs/Groups.antt and proofs/Spans.antt. Assumes nothing: these are definitions.
use Rattle.std.specs.Prelude.{ℕ, zero, suc, ◌+◌, ◌*◌, min, List, [], ◌∷◌, ◌++◌, eqb, length}
use Rattle.words.specs.Words.{Words, pick, at, shared}
use Rattle.format.specs.Widths.{widest}

abbrev pub first : Words → List ℕ
first [] = []
first (w ∷ ws) = w

-- what w and all of vs share
unfoldable pub depth : List ℕ → Words → ℕ
depth w [] = length w
depth w (v ∷ vs) = min (shared w v) (depth w vs)

-- w before groups of words that agree in symbol number d
unfoldable pub glue : ℕ → List ℕ → List Words → List Words
glue d w [] = (w ∷ []) ∷ []
glue d w (g ∷ gs) = pick (eqb (at w d) (at (first g) d)) ((w ∷ g) ∷ gs) ((w ∷ []) ∷ g ∷ gs)

unfoldable pub groups : ℕ → Words → List Words
groups d [] = []
groups d (w ∷ ws) = glue d w (groups d ws)

-- symbol, depth, first name, number of names, number of nodes, counted with the node itself; the greatest length of its names (CR 1)
pub record Node : Type 0 where
  pub symbol : ℕ
  pub depth : ℕ
  pub first : ℕ
  pub names : ℕ
  pub nodes : ℕ
  pub width : ℕ

abbrev pub field_count : ℕ
field_count = 6

-- two bytes for each of them
abbrev pub node_size : ℕ
node_size = 2 * field_count

-- a node's numbers, in their order
abbrev pub fields : Node → List ℕ
fields r = r.symbol ∷ r.depth ∷ r.first ∷ r.names ∷ r.nodes ∷ r.width ∷ []

unfoldable pub all_fields : List Node → List ℕ
all_fields [] = []
all_fields (r ∷ rs) = fields r ++ all_fields rs

-- the node of one word, number i, to which the symbol s led
abbrev pub leaf : ℕ → ℕ → List ℕ → Node
leaf i s w = record { symbol = s; depth = suc (length w); first = i; names = 1; nodes = 1; width = length w }

-- the node of several words, the first number i, with the records of its children
abbrev pub fork : ℕ → ℕ → ℕ → Words → List Node → Node
fork i s d ws row = record { symbol = s; depth = d; first = i; names = length ws; nodes = suc (length row); width = widest ws }

unfoldable pub row_by : (ℕ → ℕ → Words → List Node) → ℕ → ℕ → List Words → List Node
row_by node i d [] = []
row_by node i d (g ∷ gs) = node i (at (first g) d) g ++ row_by node (i + length g) d gs

-- A node's record, and then its row's. A child is smaller than its group, so a count of the group's words is enough to count down.
unfoldable pub table_within : ℕ → ℕ → ℕ → Words → List Node
table_within zero i s ws = []
table_within (suc n) i s [] = []
table_within (suc n) i s (w ∷ []) = leaf i s w ∷ []
table_within (suc n) i s (w ∷ v ∷ vs) =
    let d = depth w (v ∷ vs) in
    let row = row_by (λ j t g. table_within n j t g) i d (groups d (w ∷ v ∷ vs)) in
    fork i s d (w ∷ v ∷ vs) row ∷ row

-- the root's symbol is written 0
unfoldable pub table : Words → List Node
table ws = table_within (length ws) 0 0 ws
