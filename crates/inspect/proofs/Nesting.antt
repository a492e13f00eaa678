-- How far nodes nest, whatever the bytes: the measure of the cycle of `check_node` and `check_row`.
--     levels_left        the lesser of the names that are left and of the depths that are left
--     levels-fall       from a row to a child's node both fall, and so does the lesser
--     levels-most       at first there are at most 199
--     fork-falls        the same of a record that may be a fork's, where t is the row's measure
-- A node has the measure 2 * levels_left + 1 and its row 2 * levels_left: at most 399, and from a node to one inside it by 2 less. So
-- at most 200 nodes, and their 200 rows, are open at a time.
-- Assumes nothing.
use Prim.Native.Nat.{ℕ, min, ◌-◌, ◌*◌, ◌+◌, ◌≤◌, ◌<◌}
use native.Mathlib.Omega.{arith}
use mathlib.Core.Path.{◌≡◌}
use Rattle.words.specs.Words.{Bytes}
use Rattle.standing.specs.Maps.{record_at}
use Rattle.looks.specs.Looks.{MayBeFork}

-- of a node, or its row, of n names and of depth d
abbrev pub levels_left : ℕ → ℕ → ℕ
levels_left n d = min n (199 - d)

-- a child of fewer names and of a greater depth, below 200
pub levels-fall : (n d x y : ℕ) → x < n → d < y → y < 200 → 2 * levels_left x y + 1 < 2 * levels_left n d
levels-fall n d x y fewer deeper low = omega arith

pub levels-most : (n d : ℕ) → 2 * levels_left n d + 1 ≤ 399
levels-most n d = omega arith

pub fork-falls : {b : Bytes} {stride step up o e d t : ℕ} → MayBeFork b stride step up o e d → 2 * levels_left (record_at step b up).names d ≡ t
    → 2 * levels_left (record_at step b o).names (record_at step b o).depth + 1 < t
fork-falls {b} {stride} {step} {up} {o} {e} {d} k te = omega (arith, levels-fall (record_at step b up).names d (record_at step b o).names (record_at step b o).depth k.proper k.below k.shallow)
