-- The nodes that are open while the node table is written from its end. Going back over the names, the nodes that hold the name at
-- hand and are not yet written form a stack, deepest on top: the frames of `frames`.
--     shares_at, left_of          what a word shares with the one before it; the same shifted, 0 for the first word
--     symbol_of                  the symbol that leads to a node from a parent whose shifted depth is p; 0 for the root
--     Open                      the frames of the nodes that hold name j; from name c on the rows that they have so far
--     Cur                       a whole node of names j to c stands in front of those rows
--     Tail                      records at the end of a room, where they fit
-- The laws are in proofs/. Assumes nothing: these are definitions.
use Rattle.std.specs.Prelude.{ℕ, zero, suc, pred, ◌-◌, ◌*◌, ◌≤◌, ◌<◌, max, ◌≡◌, List, [], ◌++◌, length, drop}
use Rattle.words.specs.Rising.{span, nth}
use Rattle.words.specs.Words.{Bytes, Words, at, shared}
use Rattle.format.specs.Spans.{deep, row_table, node_table, node_part}
use Rattle.format.specs.Nodes.{Node, node_size}
use Rattle.format.specs.Widths.{widest}
use Rattle.frames.specs.declared.Frame.{Frame}
use Rattle.frames.specs.Frames.{depth_in, end_in, mark_in, width_in}

abbrev pub shares_at : Words → ℕ → ℕ
shares_at ws c = shared (nth ws (pred c)) (nth ws c)

-- one more than what word j shares with the one before it; 0 for the first word
abbrev pub left_of : Words → ℕ → ℕ
left_of ws zero = 0
left_of ws (suc i) = suc (shares_at ws (suc i))

abbrev pub symbol_of : ℕ → List ℕ → ℕ
symbol_of zero w = 0
symbol_of (suc p) w = at w p

-- ---- the nodes

pub data Open (ws : Words) (frames : List Frame) (j : ℕ) : ℕ → ℕ → List Node → Type 0 where
  none : {c : ℕ} → c ≡ length ws → Open ws frames j zero c []
  more : {t c d e : ℕ} {rest : List Node} → depth_in frames (suc t) ≡ suc d → width_in frames (suc t) ≡ widest (span ws c e) → end_in frames (suc t) ≡ e → mark_in frames (suc t) ≡ length rest
      → depth_in frames t < suc d → c < e → e ≤ length ws → shares_at ws c ≡ d → deep ws j e ≡ d → Open ws frames j t e rest
      → Open ws frames j (suc t) c (row_table c d (span ws c e) ++ rest)

-- top is the number of the top frame, left the shifted depth at which name j parts from the name before it
pub record Cur (ws : Words) (frames : List Frame) (j left top c mark width : ℕ) (done : List Node) : Type 0 where
  pub rest : List Node
  pub open-rows : Open ws frames j top c rest
  pub some : j < c
  pub is : done ≡ node_table j (symbol_of (max left (depth_in frames top)) (nth ws j)) (span ws j c) ++ rest
  pub behind : mark ≡ length rest
  pub wide : width ≡ widest (span ws j c)
  pub below : suc j < c → max left (depth_in frames top) ≤ deep ws j c

abbrev pub Tail : Bytes → List Node → Type 0
Tail room done = length done * node_size ≤ length room → drop (length room - length done * node_size) room ≡ node_part done
