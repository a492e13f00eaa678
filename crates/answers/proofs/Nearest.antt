-- Blind search: the word that the descent reaches shares with the question as much as any word does.
--     Best, reached-best    the word at a position shares most with q
--     nearest-most          so nearest's number is the greatest over all words
--     reached-within        and the position is one of the list
-- Assumes nothing.
use Prim.Native.Nat.{ℕ, zero, suc, ◌+◌, ◌≤◌, ◌<◌}
use native.Mathlib.Nat.{le_of_suc-le-suc, not-suc-le-zero, lt_irrefl}
use native.Mathlib.Decide.{ℕ_discrete}
use native.Mathlib.Omega.{arith}
use mathlib.Core.Path.{◌≡◌, refl, sym, ap, ◌∙◌, subst}
use mathlib.Core.Bool.{Bool, true, false}
use mathlib.Core.List.{List, [], ◌∷◌, ◌++◌}
use lib.Dec.{ltb, eqb}
use lib.ListN.{length, length-append}
use borrow.Author.Tests.{ltb-true, eqb-true, eqb-false}
use Rattle.words.specs.Rising.{All, Rises, cons, nil, nth}
use Rattle.words.specs.Words.{Words, at, pick, shared}
use Rattle.words.proofs.Lists.{Within, all_append, all-at, all_map, all-map₂, all-within, within-at, within-left, within-right}
use Rattle.words.proofs.Rising.{rises-left, rises-right}
use Rattle.words.proofs.Words.{blind, leaves, shared-le}
use Rattle.format.specs.Nodes.{depth, groups}
use Rattle.format.proofs.Groups.{PartedGroups, Short, children, depth-share, joined_groups, part, shorter, whole}
use Rattle.answers.specs.Stops.{Stop, stop_at}
use Rattle.answers.specs.Questions.{child_of, nearest, reach_within, reached}

-- the word at j, counted from the first of ws, shares with q as much as any word of ws does
pub record Best (q : List ℕ) (ws : Words) (j : ℕ) : Type 0 where
  pub word : List ℕ
  pub within : Within ws word j
  pub most : All (λ y. shared q y ≤ shared q word) ws

-- Where a walk along the children, the first word at position i, ends that looks for the symbol s at d.
pub data Out (q : List ℕ) (d s i stay r : ℕ) (ws : Words) : Type 0 where
  missed : r ≡ stay → All (λ y. at y d ≡ s → ⊥) ws → Out q d s i stay r ws
  hit : (j : ℕ) (z : List ℕ) → r ≡ i + j → Within ws z j → All (λ y. at y d ≡ s → shared q y ≤ shared q z) ws → Out q d s i stay r ws

-- it passes over the words xs, of which none has the symbol
pass : (q : List ℕ) (d s i stay r : ℕ) (xs ys : Words) → All (λ y. at y d ≡ s → ⊥) xs → Out q d s (i + length xs) stay r ys → Out q d s i stay r (xs ++ ys)
pass q d s i stay r xs ys a (missed e b) = missed e (all_append a b)
pass q d s i stay r xs ys a (hit j z e m b) =
    hit (length xs + j) z (omega arith) (within-right xs ys m) (all_append (all_map (λ y n h. absurd (n h)) a) b)

-- it stops in the words xs, at their best, before words ys of which none has the symbol
stop : (q : List ℕ) (d s i stay j : ℕ) (xs ys : Words) → All (λ y. at y d ≡ s) xs → All (λ y. s < at y d) ys → Best q xs j → Out q d s i stay (i + j) (xs ++ ys)
stop q d s i stay j xs ys a b best =
    hit j best.word refl (within-left xs ys best.within)
    (all_append (all_map (λ y h k. h) best.most) (all_map (λ y h k. absurd (lt_irrefl s (omega arith))) b))

-- from a node's children to the node
node-best : (q w v : List ℕ) (vs : Words) (i r : ℕ) → Out q (depth w (v ∷ vs)) (at q (depth w (v ∷ vs))) i i r (w ∷ v ∷ vs)
    → (j : ℕ) × (pick (ltb (length q) (depth w (v ∷ vs))) i r ≡ i + j) × Best q (w ∷ v ∷ vs) j
node-best q w v vs i r o = go (ltb (length q) d) refl o
  where
    d : ℕ
    d = depth w (v ∷ vs)

    ws : Words
    ws = w ∷ v ∷ vs

    here : Within ws w 0
    here = record { before = []; behind = v ∷ vs; split = refl; size = refl }

    -- a word z does best where it does so among the words that agree with q at d, and q leaves all others there
    best : (j : ℕ) (z : List ℕ) → Within ws z j → All (λ y. at y d ≡ at q d → shared q y ≤ shared q z) ws → Best q ws j
    best j z m a = record {
      word = z;
      within = m;
      most = all-map₂
          (λ y p h. elim (ℕ_discrete (at y d) (at q d)) [ yes f ↦ h f | no n ↦ blind q y z d (leaves q y d n) (all-within m p) ])
          (depth-share w (v ∷ vs)) a;
    }

    go : (t : Bool) → ltb (length q) d ≡ t → Out q d (at q d) i i r ws → (j : ℕ) × (pick t i r ≡ i + j) × Best q ws j
    go true h o' = (
      0,
      omega arith,
      record {
        word = w;
        within = here;
        most = all_map (λ y p. blind q y w d (omega (arith, ltb-true (length q) d h, shared-le q y)) (all-within here p)) (depth-share w (v ∷ vs));
      },
    )
    go false h (missed f a) = (0, omega arith, best 0 w here (all_map (λ y n k. absurd (n k)) a))
    go false h (hit j z f m a) = (j, f, best j z m a)

picked : (t : Bool) (a b : Stop) → (pick t a b).position ≡ pick t a.position b.position
picked true a b = refl
picked false a b = refl

abbrev Reaches : ℕ → List ℕ → Type 0
Reaches f q = (i : ℕ) (w : List ℕ) (g : Words) → Rises (w ∷ g) → length (w ∷ g) ≤ f → (j : ℕ) × ((reach_within f q i (w ∷ g)).position ≡ i + j) × Best q (w ∷ g) j

child-out : (f : ℕ) (q : List ℕ) → Reaches f q → (d s : ℕ) (stay : Stop) (i : ℕ) (gs : List Words) → PartedGroups d gs → Rises (joined_groups gs) → Short f gs
    → Out q d s i stay.position (child_of (λ j g. reach_within f q j g) d s stay i gs).position (joined_groups gs)
unfolding child_of
child-out f q ih d s stay i gs whole r a = missed refl nil
child-out f q ih d s stay i gs (part {w = w} {g = h} {gs = hs} same u p) r (cons l a) =
    go (eqb s (at w d)) refl (child-out f q ih d s stay (i + length (w ∷ h)) hs p (rises-right (w ∷ h) (joined_groups hs) r) a)
  where
    more : Stop
    more = child_of (λ j k. reach_within f q j k) d s stay (i + length (w ∷ h)) hs

    go : (t : Bool) → eqb s (at w d) ≡ t → Out q d s (i + length (w ∷ h)) stay.position more.position (joined_groups hs)
        → Out q d s i stay.position (pick t (reach_within f q i (w ∷ h)) more).position (w ∷ h ++ joined_groups hs)
    go true e o =
        let k : s ≡ at w d = eqb-true s (at w d) e in
        let b = ih i w h (rises-left (w ∷ h) (joined_groups hs) r) l in
        subst (λ (n : ℕ). Out q d s i stay.position n (w ∷ h ++ joined_groups hs)) (sym b.1)
        (stop q d s i stay.position b.0 (w ∷ h) (joined_groups hs) (cons (sym k) (all_map (λ y m. m ∙ sym k) same)) (all_map (λ y m. omega arith) u) b.2)
    go false e o =
        let n : at w d ≡ s → ⊥ = λ m. eqb-false s (at w d) e (sym m) in
        pass q d s i stay.position more.position (w ∷ h) (joined_groups hs) (cons n (all_map (λ y m k. n (sym m ∙ k)) same)) o

reaches : (f : ℕ) (q : List ℕ) → Reaches f q
unfolding reach_within
reaches zero q i w g r l = absurd (not-suc-le-zero l)
reaches (suc f) q i w [] r l =
    (0, omega arith, record { word = w; within = record { before = []; behind = []; split = refl; size = refl }; most = cons {a = w} (omega arith) nil })
reaches (suc f) q i w (v ∷ vs) r l =
    let d : ℕ = depth w (v ∷ vs) in
    let c = children w v vs r in
    let down : Stop = child_of (λ j g. reach_within f q j g) d (at q d) (stop_at i) i (groups d (w ∷ v ∷ vs)) in
    let n = node-best q w v vs i down.position
    (subst (λ (ws : Words). Out q d (at q d) i i down.position ws) c.all
    (child-out f q (reaches f q) d (at q d) (stop_at i) i (groups d (w ∷ v ∷ vs)) c.parted c.rises (shorter _ (le_of_suc-le-suc l) c.small))) in
    (n.0, picked (ltb (length q) d) (stop_at i) down ∙ n.1, n.2)

pub reached-best : (q w : List ℕ) (ws : Words) → Rises (w ∷ ws) → Best q (w ∷ ws) (reached q (w ∷ ws))
unfolding reached
reached-best q w ws r =
    let b = reaches (length (w ∷ ws)) q 0 w ws r (omega arith) in
    subst (Best q (w ∷ ws)) (sym (b.1 ∙ omega arith)) b.2

-- nearest's number is the greatest over all names
pub nearest-most : (q w : List ℕ) (ws : Words) → Rises (w ∷ ws) → All (λ y. shared q y ≤ (nearest q (w ∷ ws)).1) (w ∷ ws)
unfolding nearest
nearest-most q w ws r =
    let b = reached-best q w ws r in
    rw (within-at [] b.within) b.most

-- ---- by position

pub reached-within : (q : List ℕ) (ws : Words) → Rises ws → 0 < length ws → reached q ws < length ws
reached-within q [] r h = absurd (not-suc-le-zero h)
reached-within q (w ∷ ws) r h =
    let m = (reached-best q w ws r).within in
    omega (arith, m.size, ap length m.split, length-append m.before ((reached-best q w ws r).word ∷ m.behind))

pub reached-most : (q : List ℕ) (ws : Words) → Rises ws → (i : ℕ) → i < length ws → shared q (nth ws i) ≤ shared q (nth ws (reached q ws))
unfolding nearest
reached-most q [] r i h = absurd (not-suc-le-zero h)
reached-most q (w ∷ ws) r i h = all-at [] (w ∷ ws) (nearest-most q w ws r) i h
