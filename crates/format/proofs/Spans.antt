-- The equations of the node table by positions: a node or a row is a span of one list of words, and what its first and last words
-- say is enough. So code goes by it.
--     deep_is, first-share, span-share, at-rises   the depth of a span, and symbols at it
--     table-one, table_more                        a node
--     table_none, table-run                        a row
--     ranked-span, ranked-within, ranked-rest, first-proper
--     span-few, table-few                          how many nodes
-- Assumes nothing.
use Prim.Native.Nat.{ℕ, suc, ◌+◌, ◌-◌, ◌*◌, pred, ◌≤◌, ◌<◌}
use native.Mathlib.Nat.{eq-or-lt_of_le}
use native.Mathlib.Omega.{arith}
use mathlib.Core.Path.{◌≡◌, sym, ap, ap₂, ◌∙◌, subst}
use mathlib.Core.Logic.{◌⊎◌, inl, inr}
use mathlib.Core.List.{List, [], ◌∷◌, ◌++◌, append_assoc}
use lib.ListN.{length}
use lib.Seq.{take-length, slice_empty, length-slice}
use Rattle.words.specs.Rising.{All, Rises, cons, nil, span, nth}
use Rattle.words.specs.Words.{Words, at, shared}
use Rattle.words.proofs.Lists.{all_append}
use Rattle.words.proofs.Rising.{nth-less, nth-positive, span-all, span-cons, span-length, span-one, span-rises, span-split, span-two}
use Rattle.words.proofs.Words.{apart, between, less-at, less-parts, shared-comm, shared-le, shared-self, shared-trans}
use Rattle.format.specs.Spans.{deep, row_table, Climbs, Ranked, node_table}
use Rattle.format.specs.Nodes.{depth, fork, leaf, table}
use Rattle.format.proofs.Groups.{Same, Share, depth-last, last, node-few, node-more, node-one, ranked-group, ranked-right, row-none, row-run, run_end, run-same, share-climbs, table-root}

module _ (ws : Words) where
  last_snoc : (v : List ℕ) (vs us : Words) (z : List ℕ) → v ∷ vs ≡ us ++ (z ∷ []) → last v vs ≡ z
  last_snoc v [] [] z e = cc
  last_snoc v [] (u ∷ []) z e = let k : ◌≡◌ {A = Words} [] (z ∷ []) = cc in let n : ◌≡◌ {A = ℕ} 0 1 = cc in absurd (omega arith)
  last_snoc v [] (u ∷ t ∷ us) z e = let k : ◌≡◌ {A = Words} [] (t ∷ us ++ (z ∷ [])) = cc in let n : ◌≡◌ {A = ℕ} 0 1 = cc in absurd (omega arith)
  last_snoc v (x ∷ vs) [] z e = let k : ◌≡◌ {A = Words} (x ∷ vs) [] = cc in let n : ◌≡◌ {A = ℕ} 0 1 = cc in absurd (omega arith)
  last_snoc v (x ∷ vs) (u ∷ us) z e = let k : x ∷ vs ≡ us ++ (z ∷ []) = cc in last_snoc x vs us z k

  pub deep_is : (lo hi : ℕ) → Rises ws → suc lo < hi → hi ≤ length ws → depth (nth ws lo) (nth ws (suc lo) ∷ span ws (suc (suc lo)) hi) ≡ deep ws lo hi
  unfolding deep
  deep_is lo hi r a b =
      let p : suc (pred hi) ≡ hi = omega arith in
      let e : nth ws (suc lo) ∷ span ws (suc (suc lo)) hi ≡ span ws (suc lo) (pred hi) ++ (nth ws (pred hi) ∷ []) =
      sym (span-cons ws (suc lo) hi a b) ∙ span-split ws (suc lo) (pred hi) hi (omega arith) (omega arith) b
      ∙ ap (λ (r : Words). span ws (suc lo) (pred hi) ++ r) (ap (span ws (pred hi)) (sym p) ∙ span-one ws (pred hi) (omega arith)) in
      depth-last (nth ws lo) (nth ws (suc lo)) (span ws (suc (suc lo)) hi) (subst Rises (span-two ws lo hi a b) (span-rises ws lo hi r))
      ∙ ap (shared (nth ws lo)) (last_snoc (nth ws (suc lo)) (span ws (suc (suc lo)) hi) (span ws (suc lo) (pred hi)) (nth ws (pred hi)) e)

  -- ---- the equations

  pub table-one : (s lo : ℕ) → lo < length ws → node_table lo s (span ws lo (suc lo)) ≡ leaf lo s (nth ws lo) ∷ []
  table-one s lo a = ap (node_table lo s) (span-one ws lo a) ∙ node-one lo s (nth ws lo)

  pub table_more : (s lo hi : ℕ) → Rises ws → suc lo < hi → hi ≤ length ws
      → node_table lo s (span ws lo hi) ≡ fork lo s (deep ws lo hi) (span ws lo hi) (row_table lo (deep ws lo hi) (span ws lo hi)) ∷ row_table lo (deep ws lo hi) (span ws lo hi)
  table_more s lo hi r a b =
      let vs : Words = span ws (suc (suc lo)) hi in
      let t : span ws lo hi ≡ nth ws lo ∷ nth ws (suc lo) ∷ vs = span-two ws lo hi a b in
      ap (node_table lo s) t
      ∙ node-more lo s (nth ws lo) (nth ws (suc lo)) vs (subst Rises t (span-rises ws lo hi r))
      ∙ ap₂ (λ (d : ℕ) (g : Words). fork lo s d g (row_table lo d g) ∷ row_table lo d g) (deep_is lo hi r a b) (sym t)

  pub ranked-span : (lo hi : ℕ) → Rises ws → suc lo < hi → hi ≤ length ws → Ranked (deep ws lo hi) (span ws lo hi)
  ranked-span lo hi r a b =
      let vs : Words = span ws (suc (suc lo)) hi in
      let t : span ws lo hi ≡ nth ws lo ∷ nth ws (suc lo) ∷ vs = span-two ws lo hi a b in
      subst (λ (d : ℕ). Ranked d (span ws lo hi)) (deep_is lo hi r a b)
      (subst (Ranked (depth (nth ws lo) (nth ws (suc lo) ∷ vs))) (sym t) (ranked-group (nth ws lo) (nth ws (suc lo)) vs (subst Rises t (span-rises ws lo hi r))))

  pub table_none : (d lo : ℕ) → row_table lo d (span ws lo lo) ≡ []
  table_none d lo = ap (row_table lo d) (slice_empty lo ws) ∙ row-none lo d

  pub ranked-rest : (d lo mid hi : ℕ) → lo ≤ mid → mid ≤ hi → hi ≤ length ws → Ranked d (span ws lo hi) → Ranked d (span ws mid hi)
  ranked-rest d lo mid hi a b c r = ranked-right d (span ws lo mid) (span ws mid hi) (subst (Ranked d) (span-split ws lo mid hi a b c) r)

  -- a row: the node of the words that have its first symbol, and the row after it
  pub table-run : (d lo mid hi : ℕ) → lo < mid → mid ≤ hi → hi ≤ length ws → Ranked d (span ws lo hi)
      → at (nth ws (pred mid)) d ≡ at (nth ws lo) d → (mid < hi → at (nth ws mid) d ≡ at (nth ws lo) d → ⊥)
      → row_table lo d (span ws lo hi) ≡ node_table lo (at (nth ws lo) d) (span ws lo mid) ++ row_table mid d (span ws mid hi)
  table-run d lo mid hi a b c r e n =
      let w : List ℕ = nth ws lo in
      let g : Words = span ws (suc lo) mid in
      let t : span ws lo mid ≡ w ∷ g = span-cons ws lo mid a (omega arith) in
      let u : span ws lo hi ≡ w ∷ g ++ span ws mid hi = span-split ws lo mid hi (omega arith) b c ∙ ap (λ (x : Words). x ++ span ws mid hi) t in
      let f : lo + length (w ∷ g) ≡ mid = omega (arith, ap length t, length-slice lo mid ws (omega arith)) in
      ap (row_table lo d) u
      ∙ row-run lo d w g (span ws mid hi) (subst Rises u r.rises) (alike u (eq-or-lt_of_le a)) (beyond u (eq-or-lt_of_le b))
      ∙ ap₂ (λ (x : Words) (j : ℕ). node_table lo (at w d) x ++ row_table j d (span ws mid hi)) (sym t) f
    where
      alike : span ws lo hi ≡ nth ws lo ∷ span ws (suc lo) mid ++ span ws mid hi → (suc lo ≡ mid) ⊎ (suc lo < mid) → Same d (nth ws lo) (span ws (suc lo) mid)
      alike u (inl m) = subst (λ (k : ℕ). Same d (nth ws lo) (span ws (suc lo) k)) m (subst (Same d (nth ws lo)) (sym (slice_empty (suc lo) ws)) nil)
      alike u (inr m) =
          let g : Words = span ws (suc lo) (pred mid) in
          let z : List ℕ = nth ws (pred mid) in
          let p : suc (pred mid) ≡ mid = omega arith in
          let v : span ws (suc lo) mid ≡ g ++ (z ∷ []) =
          span-split ws (suc lo) (pred mid) mid (omega arith) (omega arith) (omega arith)
          ∙ ap (λ (x : Words). g ++ x) (ap (span ws (pred mid)) (sym p) ∙ span-one ws (pred mid) (omega arith)) in
          let whole : span ws lo hi ≡ nth ws lo ∷ g ++ (z ∷ span ws mid hi) =
          u ∙ ap (λ (x : Words). nth ws lo ∷ x ++ span ws mid hi) v ∙ ap (λ (x : Words). nth ws lo ∷ x) (append_assoc g (z ∷ []) (span ws mid hi)) in
          subst (Same d (nth ws lo)) (sym v)
          (all_append (run-same d (nth ws lo) z g (span ws mid hi) (subst (Climbs d) whole r.climbs) e) (cons e nil))

      beyond : span ws lo hi ≡ nth ws lo ∷ span ws (suc lo) mid ++ span ws mid hi → (mid ≡ hi) ⊎ (mid < hi) → All (λ y. at (nth ws lo) d < at y d) (span ws mid hi)
      beyond u (inl m) = subst (λ (k : ℕ). All (λ y. at (nth ws lo) d < at y d) (span ws mid k)) m (subst (All (λ y. at (nth ws lo) d < at y d)) (sym (slice_empty mid ws)) nil)
      beyond u (inr m) =
          let v : span ws mid hi ≡ nth ws mid ∷ span ws (suc mid) hi = span-cons ws mid hi m c in
          subst (All (λ y. at (nth ws lo) d < at y d)) (sym v)
          (run_end d (nth ws lo) (nth ws mid) (span ws (suc lo) mid) (span ws (suc mid) hi)
          (subst (Climbs d) (u ∙ ap (λ (x : Words). nth ws lo ∷ span ws (suc lo) mid ++ x) v) r.climbs) (n m))

  -- the first child of a node is not all of it
  pub first-proper : (lo hi : ℕ) → Rises ws → suc lo < hi → hi ≤ length ws → at (nth ws (pred hi)) (deep ws lo hi) ≡ at (nth ws lo) (deep ws lo hi) → ⊥
  unfolding deep
  first-proper lo hi r a b e =
      less-parts (nth ws lo) (nth ws (pred hi)) (nth-positive ws lo r) (nth-positive ws (pred hi) r) (nth-less ws lo (pred hi) r (omega arith) (omega arith)) e

  -- ---- bounds

  pub span-few : (s lo hi : ℕ) → Rises ws → lo < hi → hi ≤ length ws → suc (length (node_table lo s (span ws lo hi))) ≤ 2 * (hi - lo)
  span-few s lo hi r a b =
      let t : span ws lo hi ≡ nth ws lo ∷ span ws (suc lo) hi = span-cons ws lo hi a b in
      omega (arith, ap (λ (g : Words). length (node_table lo s g)) t, node-few lo s (nth ws lo) (span ws (suc lo) hi) (subst Rises t (span-rises ws lo hi r)), ap length t, span-length ws lo hi b)

  pub table-few : Rises ws → 0 < length ws → length (table ws) < 2 * length ws
  table-few r h = omega (arith, ap length (table-root ws ∙ ap (node_table 0 0) (sym (take-length ws))), span-few 0 0 (length ws) r h (omega arith))

  -- ---- symbols at a span's depth

  module _ (r : Rises ws) where
    -- the depth of a span is shared by any of its words and the first
    pub first-share : (lo hi i : ℕ) → hi ≤ length ws → lo ≤ i → i < hi → deep ws lo hi ≤ shared (nth ws lo) (nth ws i)
    unfolding deep
    first-share lo hi i b l m = go (eq-or-lt_of_le l) (apart i (pred hi))
      where
        w : List ℕ
        w = nth ws lo

        go : (lo ≡ i) ⊎ (lo < i) → (i < pred hi) ⊎ (pred hi ≤ i) → shared w (nth ws (pred hi)) ≤ shared w (nth ws i)
        go (inl e) o = omega (arith, ap (λ (j : ℕ). shared w (nth ws j)) (sym e) ∙ shared-self w, shared-le w (nth ws (pred hi)))
        go (inr k) (inl h) = between w (nth ws i) (nth ws (pred hi)) (nth-less ws lo i r k (omega arith)) (nth-less ws i (pred hi) r h (omega arith))
        go (inr k) (inr h) = let e : pred hi ≡ i = omega arith in omega (arith, ap (λ (j : ℕ). shared w (nth ws j)) e)

    -- so any two of its words share it
    pub span-share : (lo hi i k : ℕ) → hi ≤ length ws → lo ≤ i → i < hi → lo ≤ k → k < hi → deep ws lo hi ≤ shared (nth ws i) (nth ws k)
    span-share lo hi i k b l m p o =
        shared-trans (nth ws i) (nth ws lo) (nth ws k) (deep ws lo hi)
        (omega (arith, first-share lo hi i b l m, shared-comm (nth ws i) (nth ws lo))) (first-share lo hi k b p o)

    -- where they share d, symbols number d never fall
    pub at-rises : (d i k : ℕ) → i ≤ k → k < length ws → d ≤ shared (nth ws i) (nth ws k) → at (nth ws i) d ≤ at (nth ws k) d
    at-rises d i k l m s = go (eq-or-lt_of_le l)
      where
        go : (i ≡ k) ⊎ (i < k) → at (nth ws i) d ≤ at (nth ws k) d
        go (inl e) = omega (arith, ap (λ (j : ℕ). at (nth ws j) d) e)
        go (inr h) = less-at (nth ws i) (nth ws k) d (nth-less ws i k r h m) s

    -- a span whose names share d is a row at d
    pub ranked-within : (d lo hi : ℕ) → lo < hi → hi ≤ length ws → d ≤ deep ws lo hi → Ranked d (span ws lo hi)
    ranked-within d lo hi a b h =
        let share : Share d (span ws lo hi) = span-all ws lo hi (omega arith) b (λ i l m.
        span-all ws lo hi (omega arith) b (λ k x y. omega (arith, span-share lo hi i k b l m x y))) in
        record { rises = span-rises ws lo hi r; climbs = share-climbs (span ws lo hi) d (span-rises ws lo hi r) share }
