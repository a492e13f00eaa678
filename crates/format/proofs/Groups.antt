-- Groups of a rising list of words, and the equations of the node table. Nothing after them looks at what counts down.
--     depth-share, depth-last                the depth of a group, in two ways
--     ranked-group, ranked-right                 the words of a row: they rise, and their symbols at the depth never fall
--     children                               a node's groups: not empty, in rising order, smaller than the node
--     node-one, node-more, row-none, row-run the table's equations
--     deeper                                 a node's depth exceeds its parent's
--     node-few, row-few                      at most 2 n - 1 nodes
-- Assumes nothing.
use Prim.Native.Nat.{ℕ, zero, suc, ◌+◌, ◌*◌, ◌≤◌, ◌<◌}
use native.Mathlib.Nat.{le_of_suc-le-suc, not-suc-le-zero, lt_irrefl, eq-or-lt_of_le}
use native.Mathlib.Decide.{dec_le}
use native.Mathlib.Omega.{arith}
use mathlib.Core.Path.{◌≡◌, refl, sym, ap, ap₂, ◌∙◌, subst}
use mathlib.Core.Logic.{◌⊎◌, inl, inr}
use mathlib.Core.Bool.{Bool, true, false}
use mathlib.Core.List.{List, [], ◌∷◌, ◌++◌, append-nil}
use lib.Dec.{eqb}
use lib.ListN.{length, length-append}
use borrow.Author.Tests.{eqb-true, eqb-false, eq-eqb, ne_eqb}
use Rattle.words.specs.Rising.{All, Rises, cons, nil, rise}
use Rattle.words.specs.Words.{Words, at, less, pick, shared}
use Rattle.words.proofs.Lists.{all_append, all_head, all_map, all_right, all_tail}
use Rattle.words.proofs.Rising.{Above, rises-left, rises-right}
use Rattle.words.proofs.Words.{between, further, less-at, less-parts, shared-comm, shared-le, shared-self, shared-trans}
use Rattle.format.specs.Spans.{Climbs, Ranked, climb, flat, row_table, node_table}
use Rattle.format.specs.Nodes.{Node, depth, first, fork, glue, groups, leaf, row_by, table, table_within}

-- ---- the depth of a group

pub depth_le : (w : List ℕ) (vs : Words) → All (λ v. depth w vs ≤ shared w v) vs
unfolding depth
depth_le w [] = nil
depth_le w (v ∷ vs) = cons {a = v} (omega arith) (all_map (λ y h. omega arith) (depth_le w vs))

pub depth-length : (w : List ℕ) (vs : Words) → depth w vs ≤ length w
unfolding depth
depth-length w [] = omega arith
depth-length w (v ∷ vs) = omega (arith, depth-length w vs)

-- any two words of a list share d symbols
abbrev pub Share : ℕ → Words → Type 0
Share d ws = All (λ y. All (λ z. d ≤ shared y z) ws) ws

pub depth-share : (w : List ℕ) (vs : Words) → Share (depth w vs) (w ∷ vs)
depth-share w vs =
    let d : ℕ = depth w vs in
    let whole : All (λ z. d ≤ shared w z) (w ∷ vs) = cons {a = w} (omega (arith, shared-self w, depth-length w vs)) (depth_le w vs) in
    all_map (λ y h. all_map (λ z k. shared-trans y w z d (omega (arith, shared-comm y w)) k) whole) whole

-- the words agree with w in symbol number d
abbrev pub Same : ℕ → List ℕ → Words → Type 0
Same d w ws = All (λ y. at y d ≡ at w d) ws

-- not all words of a group agree at its depth
pub depth-parts : (w v : List ℕ) (vs : Words) → Rises (w ∷ v ∷ vs) → Same (depth w (v ∷ vs)) w (v ∷ vs) → ⊥
unfolding depth
depth-parts w v [] (rise p (cons h a) (rise q b r)) (cons e s) =
    less-parts w v p q h (subst (λ (d : ℕ). at v d ≡ at w d) (omega (arith, shared-le w v)) e)
depth-parts w v (u ∷ vs) (rise p (cons h a) (rise q b r)) (cons e s) = go (dec_le (shared w v) (depth w (u ∷ vs))) (depth-parts w u vs)
  where
    go : Dec (shared w v ≤ depth w (u ∷ vs)) → (Rises (w ∷ u ∷ vs) → Same (depth w (u ∷ vs)) w (u ∷ vs) → ⊥) → ⊥
    go (yes l) ih = less-parts w v p q h (subst (λ (d : ℕ). at v d ≡ at w d) (omega arith) e)
    go (no n) ih = ih (rise p a r) (subst (λ (d : ℕ). Same d w (u ∷ vs)) (omega arith) s)

abbrev pub last : List ℕ → Words → List ℕ
last v [] = v
last v (u ∷ us) = last u us

above-last : (w v : List ℕ) (vs : Words) → Above w (v ∷ vs) → less w (last v vs) ≡ true
above-last w v [] (cons h a) = h
above-last w v (u ∷ us) (cons h a) = above-last w u us a

-- the depth of a group is what its first and its last word share
pub depth-last : (w v : List ℕ) (vs : Words) → Rises (w ∷ v ∷ vs) → depth w (v ∷ vs) ≡ shared w (last v vs)
unfolding depth
depth-last w v [] r = omega (arith, shared-le w v)
depth-last w v (u ∷ us) (rise p (cons h a) (rise q b r)) =
    omega (arith, depth-last w u us (rise p a r), between w v (last u us) h (above-last v u us b))

-- ---- symbols number d never fall from word to word

pub climbs-right : {d : ℕ} (xs ys : Words) → Climbs d (xs ++ ys) → Climbs d ys
climbs-right [] ys c = c
climbs-right (x ∷ xs) ys (climb a c) = climbs-right xs ys c

above_at : (w : List ℕ) (vs : Words) (d : ℕ) → Above w vs → All (λ v. d ≤ shared w v) vs → All (λ v. at w d ≤ at v d) vs
above_at w [] d a s = nil
above_at w (v ∷ vs) d (cons h a) (cons k s) = cons (less-at w v d h k) (above_at w vs d a s)

pub share-climbs : (ws : Words) (d : ℕ) → Rises ws → Share d ws → Climbs d ws
share-climbs [] d r s = flat
share-climbs (w ∷ ws) d (rise p a r) (cons h s) = climb (above_at w ws d a (all_tail h)) (share-climbs ws d r (all_map (λ y k. all_tail k) s))

pub ranked-group : (w v : List ℕ) (vs : Words) → Rises (w ∷ v ∷ vs) → Ranked (depth w (v ∷ vs)) (w ∷ v ∷ vs)
ranked-group w v vs r = record { rises = r; climbs = share-climbs (w ∷ v ∷ vs) (depth w (v ∷ vs)) r (depth-share w (v ∷ vs)) }

pub ranked-right : (d : ℕ) (xs ys : Words) → Ranked d (xs ++ ys) → Ranked d ys
ranked-right d xs ys r = record { rises = rises-right xs ys r.rises; climbs = climbs-right xs ys r.climbs }

-- up to a word with the first one's symbol all have it
pub run-same : (d : ℕ) (w z : List ℕ) (g rest : Words) → Climbs d (w ∷ g ++ (z ∷ rest)) → at z d ≡ at w d → Same d w g
run-same d w z [] rest c e = nil
run-same d w z (v ∷ g) rest (climb (cons h a) (climb b c)) e =
    cons {a = v} (omega (arith, all_head (all_right g (z ∷ rest) b))) (run-same d w z g rest (climb a c) e)

-- from a word with another symbol on, all have greater ones
pub run_end : (d : ℕ) (w u : List ℕ) (g rest : Words) → Climbs d (w ∷ g ++ (u ∷ rest)) → (at u d ≡ at w d → ⊥) → All (λ y. at w d < at y d) (u ∷ rest)
run_end d w u g rest (climb a c) n = go (eq-or-lt_of_le (all_head (all_right g (u ∷ rest) a))) (climbs-right g (u ∷ rest) c)
  where
    go : (at w d ≡ at u d) ⊎ (at w d < at u d) → Climbs d (u ∷ rest) → All (λ y. at w d < at y d) (u ∷ rest)
    go (inl e) k = absurd (n (sym e))
    go (inr l) (climb b k) = cons l (all_map (λ y h. omega arith) b)

-- ---- groups

abbrev pub joined_groups : List Words → Words
joined_groups [] = []
joined_groups (g ∷ gs) = g ++ joined_groups gs

pub joined-groups : (d : ℕ) (ws : Words) → joined_groups (groups d ws) ≡ ws
unfolding groups glue
joined-groups d [] = refl
joined-groups d (w ∷ ws) = go (groups d ws) (joined-groups d ws)
  where
    cut : (t : Bool) (g : Words) (gs : List Words) → joined_groups (pick t ((w ∷ g) ∷ gs) ((w ∷ []) ∷ g ∷ gs)) ≡ w ∷ g ++ joined_groups gs
    cut true g gs = refl
    cut false g gs = refl

    go : (gs : List Words) → joined_groups gs ≡ ws → joined_groups (glue d w gs) ≡ w ∷ ws
    go [] e = ap (λ (r : Words). w ∷ r) e
    go (g ∷ gs) e = cut (eqb (at w d) (at (first g) d)) g gs ∙ ap (λ (r : Words). w ∷ r) e

-- no group is empty, all words of one agree at d, and those after it have greater symbols there
pub data PartedGroups (d : ℕ) : List Words → Type 0 where
  whole : PartedGroups d []
  part : {w : List ℕ} {g : Words} {gs : List Words} → Same d w g → All (λ y. at w d < at y d) (joined_groups gs) → PartedGroups d gs → PartedGroups d ((w ∷ g) ∷ gs)

glue-parted : (d : ℕ) (w : List ℕ) (gs : List Words) → All (λ v. at w d ≤ at v d) (joined_groups gs) → PartedGroups d gs → PartedGroups d (glue d w gs)
unfolding glue
glue-parted d w gs c whole = part nil nil whole
glue-parted d w gs c (part {w = v} {g = g} {gs = hs} s u p) = go (eqb (at w d) (at v d)) refl (eq-or-lt_of_le (all_head c))
  where
    go : (t : Bool) → eqb (at w d) (at v d) ≡ t → (at w d ≡ at v d) ⊎ (at w d < at v d) → PartedGroups d (pick t ((w ∷ v ∷ g) ∷ hs) ((w ∷ []) ∷ (v ∷ g) ∷ hs))
    go true e l =
        let k : at w d ≡ at v d = eqb-true (at w d) (at v d) e in
        part {w = w} (cons (sym k) (all_map (λ y h. h ∙ sym k) s)) (all_map (λ y h. omega arith) u) p
    go false e (inl k) = absurd (eqb-false (at w d) (at v d) e k)
    go false e (inr l) = part {w = w} nil (cons l (all_append (all_map (λ y h. omega arith) s) (all_map (λ y h. omega arith) u))) (part s u p)

pub groups-parted : (d : ℕ) (ws : Words) → Climbs d ws → PartedGroups d (groups d ws)
unfolding groups
groups-parted d [] c = whole
groups-parted d (w ∷ ws) (climb a c) =
    glue-parted d w (groups d ws) (subst (λ (vs : Words). All (λ v. at w d ≤ at v d) vs) (sym (joined-groups d ws)) a) (groups-parted d ws c)

-- ---- the children of a node

abbrev pub Short : ℕ → List Words → Type 0
Short n gs = All (λ h. length h ≤ n) gs

short : (n : ℕ) (gs : List Words) → length (joined_groups gs) ≤ n → Short n gs
short n [] l = nil
short n (g ∷ gs) l = cons {a = g} (omega (arith, length-append g (joined_groups gs))) (short n gs (omega (arith, length-append g (joined_groups gs))))

pub shorter : {m n : ℕ} (gs : List Words) → m ≤ n → Short m gs → Short n gs
shorter gs l a = all_map (λ h k. omega arith) a

smaller : (d : ℕ) (w : List ℕ) (ws : Words) (gs : List Words) → PartedGroups d gs → joined_groups gs ≡ w ∷ ws → (Same d w ws → ⊥) → Short (length ws) gs
smaller d w ws gs whole e n = nil
smaller d w ws gs (part {w = u} {g = h} s a whole) e n =
    let f : u ∷ h ≡ w ∷ ws = sym (append-nil (u ∷ h)) ∙ e in
    let hd : u ≡ w = cc in
    let tl : h ≡ ws = cc in
    absurd (n (subst (λ (x : List ℕ). Same d x ws) hd (subst (λ (vs : Words). Same d u vs) tl s)))
smaller d w ws gs (part {w = u} {g = h} s a (part {w = x} {g = k} {gs = hs} t b p)) e n =
    let l : length (u ∷ h) + length (x ∷ k ++ joined_groups hs) ≡ suc (length ws) = sym (length-append (u ∷ h) (x ∷ k ++ joined_groups hs)) ∙ ap length e in
    cons {a = u ∷ h} (omega arith) (short (length ws) ((x ∷ k) ∷ hs) (omega arith))

pub record Children (d : ℕ) (w v : List ℕ) (vs : Words) : Type 0 where
  pub parted : PartedGroups d (groups d (w ∷ v ∷ vs))
  pub all : joined_groups (groups d (w ∷ v ∷ vs)) ≡ w ∷ v ∷ vs
  pub small : Short (length (v ∷ vs)) (groups d (w ∷ v ∷ vs))
  pub rises : Rises (joined_groups (groups d (w ∷ v ∷ vs)))

pub children : (w v : List ℕ) (vs : Words) → Rises (w ∷ v ∷ vs) → Children (depth w (v ∷ vs)) w v vs
children w v vs r =
    let d : ℕ = depth w (v ∷ vs) in
    let p = groups-parted d (w ∷ v ∷ vs) (ranked-group w v vs r).climbs in
    let e = joined-groups d (w ∷ v ∷ vs) in
    record { parted = p; all = e; small = smaller d w (v ∷ vs) (groups d (w ∷ v ∷ vs)) p e (depth-parts w v vs r); rises = subst Rises (sym e) r }

-- ---- any count that is large enough gives the same table

abbrev SameTable : ℕ → ℕ → Type 0
SameTable f e = (i s : ℕ) (g : Words) → Rises g → length g ≤ f → length g ≤ e → table_within f i s g ≡ table_within e i s g

abbrev pub row_within : ℕ → ℕ → ℕ → List Words → List Node
row_within f i d gs = row_by (λ j t g. table_within f j t g) i d gs

row_same : (f e : ℕ) → SameTable f e → (i d : ℕ) (gs : List Words) → Rises (joined_groups gs) → Short f gs → Short e gs → row_within f i d gs ≡ row_within e i d gs
unfolding row_by
row_same f e same i d [] r a b = refl
row_same f e same i d (h ∷ gs) r (cons l a) (cons m b) =
    ap₂ (λ (x y : List Node). x ++ y) (same i (at (first h) d) h (rises-left h (joined_groups gs) r) l m)
    (row_same f e same (i + length h) d gs (rises-right h (joined_groups gs) r) a b)

within_same : (f e : ℕ) → SameTable f e
unfolding table_within
within_same zero zero i s g r a b = refl
within_same zero (suc e) i s [] r a b = refl
within_same zero (suc e) i s (w ∷ g) r a b = absurd (not-suc-le-zero a)
within_same (suc f) zero i s [] r a b = refl
within_same (suc f) zero i s (w ∷ g) r a b = absurd (not-suc-le-zero b)
within_same (suc f) (suc e) i s [] r a b = refl
within_same (suc f) (suc e) i s (w ∷ []) r a b = refl
within_same (suc f) (suc e) i s (w ∷ v ∷ vs) r a b =
    let d : ℕ = depth w (v ∷ vs) in
    let c = children w v vs r in
    ap (λ (row : List Node). fork i s d (w ∷ v ∷ vs) row ∷ row)
    (row_same f e (within_same f e) i d (groups d (w ∷ v ∷ vs)) c.rises
    (shorter _ (le_of_suc-le-suc a) c.small) (shorter _ (le_of_suc-le-suc b) c.small))

-- ---- the equations

pub table-root : (ws : Words) → table ws ≡ node_table 0 0 ws
unfolding table node_table
table-root ws = refl

pub table_empty : (ws : Words) → length ws ≡ 0 → table ws ≡ []
unfolding table node_table table_within
table_empty [] e = refl
table_empty (w ∷ ws) e = absurd (omega arith)

pub node-one : (i s : ℕ) (w : List ℕ) → node_table i s (w ∷ []) ≡ leaf i s w ∷ []
unfolding node_table table_within
node-one i s w = refl

pub node-more : (i s : ℕ) (w v : List ℕ) (vs : Words) → Rises (w ∷ v ∷ vs)
    → node_table i s (w ∷ v ∷ vs)
    ≡ fork i s (depth w (v ∷ vs)) (w ∷ v ∷ vs) (row_table i (depth w (v ∷ vs)) (w ∷ v ∷ vs)) ∷ row_table i (depth w (v ∷ vs)) (w ∷ v ∷ vs)
unfolding node_table row_table table_within
node-more i s w v vs r =
    let d : ℕ = depth w (v ∷ vs) in
    let n : ℕ = length (v ∷ vs) in
    let c = children w v vs r in
    ap (λ (row : List Node). fork i s d (w ∷ v ∷ vs) row ∷ row)
    (row_same n (suc n) (within_same n (suc n)) i d (groups d (w ∷ v ∷ vs)) c.rises c.small (shorter _ (omega arith) c.small))

pub row-none : (i d : ℕ) → row_table i d [] ≡ []
unfolding row_table row_by groups
row-none i d = refl

-- a run of words with one symbol is one group
pub groups-run : (d : ℕ) (w : List ℕ) (g rest : Words) → Same d w g → All (λ y. at w d < at y d) rest → groups d (w ∷ g ++ rest) ≡ (w ∷ g) ∷ groups d rest
unfolding groups glue
groups-run d w [] [] s a = refl
groups-run d w [] (u ∷ rest) s (cons l a) = go (groups d rest)
  where
    differ : (g : Words) (gs : List Words) → glue d w ((u ∷ g) ∷ gs) ≡ (w ∷ []) ∷ (u ∷ g) ∷ gs
    differ g gs = rw (ne_eqb (at w d) (at u d) (λ e. lt_irrefl (at w d) (omega arith)))

    put : (t : Bool) (h : Words) (gs : List Words) → glue d w (pick t ((u ∷ h) ∷ gs) ((u ∷ []) ∷ h ∷ gs)) ≡ (w ∷ []) ∷ pick t ((u ∷ h) ∷ gs) ((u ∷ []) ∷ h ∷ gs)
    put true h gs = differ h gs
    put false h gs = differ [] (h ∷ gs)

    go : (gs : List Words) → glue d w (glue d u gs) ≡ (w ∷ []) ∷ glue d u gs
    go [] = differ [] []
    go (h ∷ gs) = put (eqb (at u d) (at (first h) d)) h gs
groups-run d w (v ∷ g) rest (cons e s) a =
    ap (glue d w) (groups-run d v g rest (all_map (λ y h. h ∙ sym e) s) (all_map (λ y h. omega arith) a)) ∙ rw (eq-eqb (at w d) (at v d) (sym e))

-- a row: the node of the words with its first symbol, and then the row of the others
pub row-run : (i d : ℕ) (w : List ℕ) (g rest : Words) → Rises (w ∷ g ++ rest) → Same d w g → All (λ y. at w d < at y d) rest
    → row_table i d (w ∷ g ++ rest) ≡ node_table i (at w d) (w ∷ g) ++ row_table (i + length (w ∷ g)) d rest
unfolding node_table row_table row_by
row-run i d w g rest r s a =
    let n : ℕ = length (w ∷ g ++ rest) in
    let l : n ≡ length (w ∷ g) + length rest = length-append (w ∷ g) rest in
    let e : joined_groups (groups d rest) ≡ rest = joined-groups d rest in
    ap (row_within n i d) (groups-run d w g rest s a)
    ∙ ap₂ (λ (x y : List Node). x ++ y)
    (within_same n (length (w ∷ g)) i (at w d) (w ∷ g) (rises-left (w ∷ g) rest r) (omega arith) (omega arith))
    (row_same n (length rest) (within_same n (length rest)) (i + length (w ∷ g)) d (groups d rest) (subst Rises (sym e) (rises-right (w ∷ g) rest r))
    (short n (groups d rest) (omega (arith, ap length e))) (short (length rest) (groups d rest) (omega (arith, ap length e))))

-- ---- bounds

-- a node's depth exceeds its parent's
pub deeper : (d : ℕ) (w v : List ℕ) (vs : Words) → Rises (w ∷ v ∷ vs) → All (λ y. d ≤ shared w y) (v ∷ vs) → Same d w (v ∷ vs) → d < depth w (v ∷ vs)
unfolding depth
deeper d w v [] (rise p (cons h a) (rise q b r)) (cons l c) (cons e s) = omega (arith, further w v d p q h l e, shared-le w v)
deeper d w v (u ∷ vs) (rise p (cons h a) (rise q b r)) (cons l c) (cons e s) =
    omega (arith, further w v d p q h l e, deeper d w u vs (rise p a r) c s)

-- at most 2 n - 1 nodes
abbrev pub Few : ℕ → Type 0
Few f = (i s : ℕ) (w : List ℕ) (g : Words) → Rises (w ∷ g) → length (w ∷ g) ≤ f → suc (length (table_within f i s (w ∷ g))) ≤ 2 * length (w ∷ g)

rows_few : (f : ℕ) → Few f → (d i : ℕ) (gs : List Words) → PartedGroups d gs → Rises (joined_groups gs) → Short f gs
    → length (row_within f i d gs) + length gs ≤ 2 * length (joined_groups gs)
unfolding row_by
rows_few f few d i gs whole r a = omega arith
rows_few f few d i gs (part {w = w} {g = g} {gs = hs} s u p) r (cons l a) =
    omega (
      arith,
      few i (at w d) w g (rises-left (w ∷ g) (joined_groups hs) r) l,
      rows_few f few d (i + length (w ∷ g)) hs p (rises-right (w ∷ g) (joined_groups hs) r) a,
      length-append (table_within f i (at w d) (w ∷ g)) (row_within f (i + length (w ∷ g)) d hs),
      length-append (w ∷ g) (joined_groups hs),
    )

-- a node has two-groups children at least
two-groups : (d : ℕ) (w v : List ℕ) (vs : Words) (gs : List Words) → PartedGroups d gs → joined_groups gs ≡ w ∷ v ∷ vs → Short (length (v ∷ vs)) gs → 2 ≤ length gs
two-groups d w v vs gs whole e a = absurd (lt_irrefl 0 (omega (arith, ap length e)))
two-groups d w v vs gs (part {w = u} {g = h} s b whole) e (cons l a) = absurd (lt_irrefl 0 (omega (arith, ap length (sym (append-nil (u ∷ h)) ∙ e))))
two-groups d w v vs gs (part s b (part t c p)) e a = omega arith

pub within-few : (f : ℕ) → Few f
unfolding table_within
within-few zero i s w g r l = absurd (not-suc-le-zero l)
within-few (suc f) i s w [] r l = omega arith
within-few (suc f) i s w (v ∷ vs) r l =
    let d : ℕ = depth w (v ∷ vs) in
    let c = children w v vs r in
    omega (
      arith,
      rows_few f (within-few f) d i (groups d (w ∷ v ∷ vs)) c.parted c.rises (shorter _ (le_of_suc-le-suc l) c.small),
      two-groups d w v vs (groups d (w ∷ v ∷ vs)) c.parted c.all c.small,
      ap length c.all,
    )

pub node-few : (i s : ℕ) (w : List ℕ) (ws : Words) → Rises (w ∷ ws) → suc (length (node_table i s (w ∷ ws))) ≤ 2 * length (w ∷ ws)
unfolding node_table
node-few i s w ws r = within-few (length (w ∷ ws)) i s w ws r (omega arith)

pub row-few : (i d : ℕ) (ws : Words) → Ranked d ws → length (row_table i d ws) ≤ 2 * length ws
unfolding row_table
row-few i d ws r =
    let e : joined_groups (groups d ws) ≡ ws = joined-groups d ws in
    omega (
      arith,
      rows_few (length ws) (within-few (length ws)) d i (groups d ws) (groups-parted d ws r.climbs) (subst Rises (sym e) r.rises)
          (short (length ws) (groups d ws) (omega (arith, ap length e))),
      ap length e,
    )
