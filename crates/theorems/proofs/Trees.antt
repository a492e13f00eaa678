-- The node table of a sound list: its equations, its size, and its paths.
--     table-leaf, table-fork, table-row    a node of one name, of several, and a row of children, as document 01 puts them
--     nodes-few         m is at most 2 n - 1
--     path-rises        depths rise along a path
--     path-few          so a path has at most 202 nodes
--     path-reached      and some path has 201
-- Assumes nothing.
use Prim.Native.Nat.{ℕ, zero, suc, ◌+◌, ◌-◌, ◌*◌, ◌≤◌, ◌<◌, zero-le, suc-le-suc}
use native.Mathlib.Nat.{le_of_suc-le-suc, not-suc-le-zero, lt_irrefl}
use native.Mathlib.Omega.{arith}
use mathlib.Core.Path.{◌≡◌, sym, subst}
use mathlib.Core.Bool.{true}
use mathlib.Core.List.{List, [], ◌∷◌, ◌++◌, map}
use lib.ListN.{length, get_or, length-map}
use Rattle.words.specs.Rising.{All, Rises, cons, nil}
use Rattle.words.specs.Words.{Bytes, Rule, Words, at, shared, word}
use Rattle.words.proofs.Lists.{all_head, all_left, all_map, all_right, all_tail}
use Rattle.words.proofs.Rising.{rises-left, rises-right}
use Rattle.words.proofs.Words.{shared-le}
use Rattle.format.specs.Spans.{row_table, node_table}
use Rattle.format.specs.Nodes.{depth, fork, groups, leaf, table}
use Rattle.format.specs.Records.{longest, sound}
use Rattle.format.proofs.Groups.{PartedGroups, Same, Share, children, deeper, depth-length, depth-share, joined_groups, node-more, node-one, part, row-run, whole}
use Rattle.format.proofs.Records.{rising-sizes, sound-rising, symbols-rises}
use Rattle.format.proofs.Spans.{table-few}
use Rattle.theorems.specs.Demands.{Climbing, Path, down, node_depth, stop}
use Rattle.theorems.specs.Layouts.{AllLettered}
use Rattle.theorems.proofs.Lettered.{names-symbols}

-- ---- the equations

pub table-leaf : (i s : ℕ) (w : List ℕ) → node_table i s (w ∷ []) ≡ leaf i s w ∷ []
table-leaf i s w = node-one i s w

pub table-fork : (i s : ℕ) (w v : List ℕ) (vs : Words) → Rises (w ∷ v ∷ vs)
    → let d = depth w (v ∷ vs) in
    node_table i s (w ∷ v ∷ vs) ≡ fork i s d (w ∷ v ∷ vs) (row_table i d (w ∷ v ∷ vs)) ∷ row_table i d (w ∷ v ∷ vs)
table-fork i s w v vs r = node-more i s w v vs r

-- the words w and g have one symbol at d, and those of rest greater ones
pub table-row : (i d : ℕ) (w : List ℕ) (g rest : Words) → Rises (w ∷ g ++ rest) → All (λ y. at y d ≡ at w d) g → All (λ y. at w d < at y d) rest
    → row_table i d (w ∷ g ++ rest) ≡ node_table i (at w d) (w ∷ g) ++ row_table (i + length (w ∷ g)) d rest
table-row i d w g rest r s a = row-run i d w g rest r s a

-- ---- how many

pub nodes-few : (ρ : Rule) (xs : List Bytes) → AllLettered ρ xs → sound ρ xs ≡ true → 1 ≤ length xs → length (table (map (word ρ) xs)) ≤ 2 * length xs - 1
nodes-few ρ xs a h l = omega (arith, table-few (map (word ρ) xs) (symbols-rises ρ xs (names-symbols ρ xs a) (sound-rising ρ xs h)) (omega (arith, length-map xs (word ρ))), length-map xs (word ρ))

-- ---- paths

-- a child of a node of depth d
record Branch (d : ℕ) (g : Words) : Type 0 where
  rises : Rises g
  deep : d < node_depth g
  short : All (λ w. length w ≤ longest) g

child-of : (d : ℕ) (gs : List Words) → PartedGroups d gs → Rises (joined_groups gs) → Share d (joined_groups gs) → All (λ w. length w ≤ longest) (joined_groups gs)
    → (j : ℕ) → j < length gs → Branch d (get_or gs j [])
unfolding node_depth
child-of d gs whole r s a j l = absurd (not-suc-le-zero l)
child-of d gs (part {w = w} {g = g} {gs = hs} m u p) r s a zero l =
    let own : Rises (w ∷ g) = rises-left (w ∷ g) (joined_groups hs) r in
    let with-w : All (λ z. d ≤ shared w z) (w ∷ g) = all_left (w ∷ g) (joined_groups hs) (all_head s) in
    record { rises = own; deep = inner g own with-w m; short = all_left (w ∷ g) (joined_groups hs) a }
  where
    inner : (h : Words) → Rises (w ∷ h) → All (λ z. d ≤ shared w z) (w ∷ h) → Same d w h → d < node_depth (w ∷ h)
    inner [] o k e = omega (arith, all_head k, shared-le w w)
    inner (v ∷ vs) o k e = deeper d w v vs o (all_tail k) e
child-of d gs (part {w = w} {g = g} {gs = hs} m u p) r s a (suc j) l =
    child-of d hs p (rises-right (w ∷ g) (joined_groups hs) r)
    (all_map (λ y k. all_right (w ∷ g) (joined_groups hs) k) (all_right (w ∷ g) (joined_groups hs) s))
    (all_right (w ∷ g) (joined_groups hs) a) j (le_of_suc-le-suc l)

child : (ws : Words) → Rises ws → All (λ w. length w ≤ longest) ws → 1 < length ws → (j : ℕ) → j < length (groups (node_depth ws) ws)
    → Branch (node_depth ws) (get_or (groups (node_depth ws) ws) j [])
unfolding node_depth
child [] r a m j l = absurd (not-suc-le-zero m)
child (w ∷ []) r a m j l = absurd (lt_irrefl 1 m)
child (w ∷ v ∷ vs) r a m j l =
    let d : ℕ = depth w (v ∷ vs) in
    let c = children w v vs r in
    child-of d (groups d (w ∷ v ∷ vs)) c.parted c.rises (subst (Share d) (sym c.all) (depth-share w (v ∷ vs)))
    (subst (All (λ x. length x ≤ longest)) (sym c.all) a) j l

-- a node's depth is at most 201
depth_low : (ws : Words) → All (λ w. length w ≤ longest) ws → node_depth ws ≤ suc longest
unfolding node_depth
depth_low [] a = zero-le
depth_low (w ∷ []) (cons h a) = suc-le-suc h
depth_low (w ∷ v ∷ vs) (cons h a) = omega (arith, depth-length w (v ∷ vs))

-- what a path from a node is
record Tells (ws : Words) (ds : List ℕ) : Type 0 where
  head : get_or ds 0 0 ≡ node_depth ws
  some : 0 < length ds
  climbs : Climbing ds
  few : length ds + node_depth ws ≤ suc (suc longest)

tells : (ws : Words) (ds : List ℕ) → Rises ws → All (λ w. length w ≤ longest) ws → Path ws ds → Tells ws ds
tells ws ds r a (stop {d = d} e) = record {
  head = e;
  some = suc-le-suc zero-le;
  climbs = λ i h. absurd (not-suc-le-zero (le_of_suc-le-suc h));
  few = omega (arith, depth_low ws a);
}
tells ws ds r a (down {d = d} {ds = es} e m j l p) =
    let f : j < length (groups (node_depth ws) ws) = subst (λ (n : ℕ). j < length (groups n ws)) e l in
    let c : Branch d (get_or (groups d ws) j []) = subst (λ (n : ℕ). Branch n (get_or (groups n ws) j [])) (sym e) (child ws r a m j f) in
    let t = tells (get_or (groups d ws) j []) es c.rises c.short p in
    record {
      head = e;
      some = suc-le-suc zero-le;
      climbs = λ i h. on t c.deep i h;
      few = omega (arith, t.few, c.deep);
    }
  where
    on : {g : Words} → Tells g es → d < node_depth g → Climbing (d ∷ es)
    on t k zero h = omega (arith, t.head)
    on t k (suc i) h = t.climbs i (le_of_suc-le-suc h)

module _ (ρ : Rule) (xs : List Bytes) (letters : AllLettered ρ xs) (is : sound ρ xs ≡ true) where
  word-sizes : (ys : List Bytes) → All (λ x. (1 ≤ length x) × (length x ≤ longest)) ys → All (λ w. length w ≤ longest) (map (word ρ) ys)
  word-sizes [] a = nil
  word-sizes (y ∷ ys) (cons h a) = cons {a = word ρ y} (omega (arith, length-map y ρ, h.1)) (word-sizes ys a)

  all_told : (ds : List ℕ) → Path (map (word ρ) xs) ds → Tells (map (word ρ) xs) ds
  all_told ds p = tells (map (word ρ) xs) ds (symbols-rises ρ xs (names-symbols ρ xs letters) (sound-rising ρ xs is)) (word-sizes xs (rising-sizes ρ [] xs (sound-rising ρ xs is))) p

  pub path-rises : (ds : List ℕ) → Path (map (word ρ) xs) ds → Climbing ds
  path-rises ds p = (all_told ds p).climbs

  pub path-few : (ds : List ℕ) → Path (map (word ρ) xs) ds → length ds ≤ 202
  path-few ds p = omega (arith, (all_told ds p).few)
