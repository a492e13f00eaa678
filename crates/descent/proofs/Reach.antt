-- The descent over spans of names: `reach_in q ws lo hi` is where q ends that has come down to the names from lo up to hi, and how many nodes
-- it visits from there on.
--     reach-root      the whole list
--     reach-leaf      one name
--     reach-short     q ends above the span's depth
--     reach-none      no name has q's symbol at the depth
--     reach-child     the names that have it are the child, and there q goes on
-- Assumes nothing.
use Prim.Native.Nat.{ℕ, zero, suc, ◌+◌, ◌-◌, ◌≤◌, ◌<◌}
use native.Mathlib.Nat.{le_of_suc-le-suc, not-suc-le-zero}
use native.Mathlib.Omega.{arith}
use mathlib.Core.Path.{◌≡◌, refl, sym, ap, ap₂, ◌∙◌, subst}
use mathlib.Core.Bool.{Bool, true, false}
use mathlib.Core.List.{List, [], ◌∷◌, ◌++◌, append-nil}
use lib.Dec.{ltb, eqb}
use lib.ListN.{length}
use lib.Seq.{take-length, slice-cons}
use borrow.Author.Tests.{eqb-true, eq-eqb, ne_eqb, lt-ltb, le-ltb}
use Rattle.words.specs.Rising.{All, Rises, cons, span, nth}
use Rattle.words.specs.Words.{Words, at, pick}
use Rattle.words.proofs.Rising.{rises-left, rises-right, span-all, span-length, span-one, span-rises, span-split, span-two}
use Rattle.format.specs.Spans.{deep}
use Rattle.format.specs.Nodes.{depth, first, glue, groups}
use Rattle.format.proofs.Groups.{Same, Short, children, groups-run, joined_groups, shorter}
use Rattle.format.proofs.Spans.{deep_is}
use Rattle.answers.specs.Stops.{Stop, stop_at, visited}
use Rattle.answers.specs.Questions.{child_of, reach_within}
use Rattle.descent.specs.Vocabulary.{reach_in, reach_node}

-- ---- any count that is large enough will do

abbrev SameReach : List ℕ → ℕ → ℕ → Type 0
SameReach q f e = (i : ℕ) (g : Words) → Rises g → length g ≤ f → length g ≤ e → reach_within f q i g ≡ reach_within e q i g

child-same : (q : List ℕ) (f e : ℕ) → SameReach q f e → (d s : ℕ) (stay : Stop) (i : ℕ) (gs : List Words) → Rises (joined_groups gs) → Short f gs → Short e gs
    → child_of (λ j g. reach_within f q j g) d s stay i gs ≡ child_of (λ j g. reach_within e q j g) d s stay i gs
unfolding child_of
child-same q f e ih d s stay i [] r a b = refl
child-same q f e ih d s stay i (h ∷ gs) r (cons l a) (cons m b) =
    ap₂ (λ (x y : Stop). pick (eqb s (at (first h) d)) x y) (ih i h (rises-left h (joined_groups gs) r) l m)
    (child-same q f e ih d s stay (i + length h) gs (rises-right h (joined_groups gs) r) a b)

reach-same : (q : List ℕ) (f e : ℕ) → SameReach q f e
unfolding reach_within
reach-same q zero zero i g r a b = refl
reach-same q zero (suc e) i [] r a b = refl
reach-same q zero (suc e) i (w ∷ g) r a b = absurd (not-suc-le-zero a)
reach-same q (suc f) zero i [] r a b = refl
reach-same q (suc f) zero i (w ∷ g) r a b = absurd (not-suc-le-zero b)
reach-same q (suc f) (suc e) i [] r a b = refl
reach-same q (suc f) (suc e) i (w ∷ []) r a b = refl
reach-same q (suc f) (suc e) i (w ∷ v ∷ vs) r a b =
    let d : ℕ = depth w (v ∷ vs) in
    let c = children w v vs r in
    ap (λ (x : Stop). visited (pick (ltb (length q) d) (stop_at i) x))
    (child-same q f e (reach-same q f e) d (at q d) (stop_at i) i (groups d (w ∷ v ∷ vs)) c.rises
    (shorter _ (le_of_suc-le-suc a) c.small) (shorter _ (le_of_suc-le-suc b) c.small))

-- ---- along the children

-- words without the symbol s at d are passed
child-skip : (down : ℕ → Words → Stop) (d s : ℕ) (stay : Stop) (i : ℕ) (xs ys : Words) → All (λ y. at y d ≡ s → ⊥) xs
    → child_of down d s stay i (groups d (xs ++ ys)) ≡ child_of down d s stay (i + length xs) (groups d ys)
unfolding groups glue child_of
child-skip down d s stay i [] ys a = ap (λ (j : ℕ). child_of down d s stay j (groups d ys)) (omega arith)
child-skip down d s stay i (x ∷ xs) ys (cons n a) =
    one (groups d (xs ++ ys)) ∙ child-skip down d s stay (suc i) xs ys a
    ∙ ap (λ (j : ℕ). child_of down d s stay j (groups d ys)) (omega arith)
  where
    off : eqb s (at x d) ≡ false
    off = ne_eqb s (at x d) (λ e. n (sym e))

    put : (t : Bool) (g : Words) (gs : List Words) → eqb (at x d) (at (first g) d) ≡ t
        → child_of down d s stay i (pick t ((x ∷ g) ∷ gs) ((x ∷ []) ∷ g ∷ gs)) ≡ child_of down d s stay (suc i) (g ∷ gs)
    put true g gs e =
        let z : eqb s (at (first g) d) ≡ false = subst (λ (m : ℕ). eqb s m ≡ false) (eqb-true (at x d) (at (first g) d) e) off in
        let j : i + suc (length g) ≡ suc i + length g = omega arith in
        rw (off, z, j)
    put false g gs e = let j : i + 1 ≡ suc i = omega arith in rw (off, j)

    one : (gs : List Words) → child_of down d s stay i (glue d x gs) ≡ child_of down d s stay (suc i) gs
    one [] = rw off
    one (g ∷ gs) = put (eqb (at x d) (at (first g) d)) g gs refl

-- the words with it are gone down into
child-hit : (down : ℕ → Words → Stop) (d s : ℕ) (stay : Stop) (i : ℕ) (w : List ℕ) (g rest : Words) → at w d ≡ s → Same d w g → All (λ y. at w d < at y d) rest
    → child_of down d s stay i (groups d (w ∷ g ++ rest)) ≡ down i (w ∷ g)
unfolding child_of
child-hit down d s stay i w g rest e m u =
    ap (child_of down d s stay i) (groups-run d w g rest m u) ∙ rw (eq-eqb s (at w d) (sym e))

-- ---- spans

module _ (q : List ℕ) (ws : Words) where
  pub reach-root : reach_node q 0 ws ≡ reach_in q ws 0 (length ws)
  unfolding reach_in reach_node
  reach-root = ap (reach_node q 0) (sym (take-length ws))

  pub reach-leaf : (lo : ℕ) → lo < length ws → reach_in q ws lo (suc lo) ≡ visited (stop_at lo)
  unfolding reach_in reach_node reach_within
  reach-leaf lo h = ap (reach_node q lo) (span-one ws lo h)

  module _ (lo hi d : ℕ) (r : Rises ws) (a : suc lo < hi) (b : hi ≤ length ws) (is : d ≡ deep ws lo hi) where
    abbrev fuel : ℕ
    fuel = length (nth ws (suc lo) ∷ span ws (suc (suc lo)) hi)

    -- one step
    step : reach_in q ws lo hi ≡ visited (pick (ltb (length q) d) (stop_at lo) (child_of (λ j g. reach_within fuel q j g) d (at q d) (stop_at lo) lo (groups d (span ws lo hi))))
    unfolding reach_in reach_node reach_within
    step =
        let vs : Words = span ws (suc (suc lo)) hi in
        let t : span ws lo hi ≡ nth ws lo ∷ nth ws (suc lo) ∷ vs = span-two ws lo hi a b in
        ap (reach_node q lo) t
        ∙ ap₂ (λ (e : ℕ) (g : Words). visited (pick (ltb (length q) e) (stop_at lo) (child_of (λ j g. reach_within fuel q j g) e (at q e) (stop_at lo) lo (groups e g)))) (deep_is ws lo hi r a b ∙ sym is) (sym t)

    pub reach-short : length q < d → reach_in q ws lo hi ≡ visited (stop_at lo)
    reach-short h = step ∙ rw (lt-ltb (length q) d h)

    pub reach-none : d ≤ length q → ((i : ℕ) → lo ≤ i → i < hi → at (nth ws i) d ≡ at q d → ⊥) → reach_in q ws lo hi ≡ visited (stop_at lo)
    unfolding child_of groups
    reach-none h n =
        step ∙ rw (le-ltb (length q) d h)
        (ap visited (ap (λ (g : Words). child_of (λ j g. reach_within fuel q j g) d (at q d) (stop_at lo) lo (groups d g)) (sym (append-nil (span ws lo hi)))
        ∙ child-skip (λ j g. reach_within fuel q j g) d (at q d) (stop_at lo) lo (span ws lo hi) [] (span-all ws lo hi (omega arith) b n)))

    pub reach-child : (mid next : ℕ) → lo ≤ mid → mid < next → next ≤ hi → d ≤ length q
        → ((i : ℕ) → lo ≤ i → i < mid → at (nth ws i) d ≡ at q d → ⊥)
        → ((i : ℕ) → mid ≤ i → i < next → at (nth ws i) d ≡ at q d)
        → ((i : ℕ) → next ≤ i → i < hi → at q d < at (nth ws i) d)
        → (next - mid < hi - lo)
        → reach_in q ws lo hi ≡ visited (reach_in q ws mid next)
    unfolding reach_in reach_node
    reach-child mid next l m k h low here high few =
        let s : ℕ = at q d in
        let w : List ℕ = nth ws mid in
        let g : Words = span ws (suc mid) next in
        let t : span ws mid next ≡ w ∷ g = slice-cons mid next ws [] m (omega arith) in
        let e : span ws lo hi ≡ span ws lo mid ++ (w ∷ g ++ span ws next hi) =
        span-split ws lo mid hi l (omega arith) b
        ∙ ap (λ (x : Words). span ws lo mid ++ x) (span-split ws mid next hi (omega arith) k b ∙ ap (λ (x : Words). x ++ span ws next hi) t) in
        let f : lo + length (span ws lo mid) ≡ mid = omega (arith, span-length ws lo mid (omega arith)) in
        let z : at w d ≡ s = here mid (omega arith) m in
        let size : length (w ∷ g) ≡ next - mid = ap length (sym t) ∙ span-length ws mid next (omega arith) in
        let big : suc fuel ≡ hi - lo = ap length (sym (span-two ws lo hi a b)) ∙ span-length ws lo hi b in
        step ∙ rw (le-ltb (length q) d h)
        (ap visited (ap (λ (x : Words). child_of (λ j g. reach_within fuel q j g) d s (stop_at lo) lo (groups d x)) e
        ∙ child-skip (λ j g. reach_within fuel q j g) d s (stop_at lo) lo (span ws lo mid) (w ∷ g ++ span ws next hi) (span-all ws lo mid l (omega arith) low)
        ∙ ap (λ (j : ℕ). child_of (λ j g. reach_within fuel q j g) d s (stop_at lo) j (groups d (w ∷ g ++ span ws next hi))) f
        ∙ child-hit (λ j g. reach_within fuel q j g) d s (stop_at lo) mid w g (span ws next hi) z
        (span-all ws (suc mid) next m (omega arith) (λ i x y. here i (omega arith) y ∙ sym z))
        (span-all ws next hi k b (λ i x y. subst (λ (n : ℕ). n < at (nth ws i) d) (sym z) (high i x y)))
        ∙ reach-same q fuel (length (w ∷ g)) mid (w ∷ g) (subst Rises t (span-rises ws mid next r)) (omega arith) (omega arith)
        ∙ ap (reach_node q mid) (sym t)))
