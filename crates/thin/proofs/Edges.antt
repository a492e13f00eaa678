-- The right edge of the tree of some names, one name further.
--     kids-none                 a fork that opens: no child is finished
--     kids-fit, kids-pass       the open child ends, and the name behind it begins the next one: it is the question's, or not
--     close-fit, close-pass     the fork ends with its open child, in both ways
--     under-out                 the names of a fork that has ended stand in one child of the fork above it
--     leaf-under, open-leaf     the last name, as a leaf
--     open-wide, close-in, close-by     the deepest fork ends with the names gone through
--     more-in, more_by, push-in, push-by     the next name begins another child of the deepest fork; it opens a fork of its own
--     open-root                 where no fork is open, the question has ended
--     edge_few                  there are no more open forks than depths
-- Assumes nothing.
use Prim.Native.Nat.{ℕ, pred, suc, ◌≤◌, ◌<◌}
use native.Mathlib.Nat.{lt_irrefl}
use native.Mathlib.Omega.{arith}
use mathlib.Core.Path.{◌≡◌, ◌∙◌, ap, refl, sym, subst}
use mathlib.Core.Logic.{◌⊎◌, inl, inr}
use mathlib.Core.List.{List, [], ◌∷◌}
use lib.ListN.{length}
use borrow.Author.Tests.{ltb-true}
use Rattle.words.specs.Words.{Words, at, shared}
use Rattle.words.specs.Rising.{Rises, nth}
use Rattle.words.proofs.Words.{apart, less_by, part_at, shared_at, shared-self, shared-trans}
use Rattle.words.proofs.Rising.{nth-less}
use Rattle.format.specs.Spans.{deep}
use Rattle.answers.specs.Stops.{Stop}
use Rattle.descent.specs.Vocabulary.{reach_in}
use Rattle.descent.proofs.Reach.{reach-child, reach-leaf, reach-none, reach-short}
use Rattle.thin.specs.Edges.{Chosen, Edge, Fits, Frame, Inside, Kids, Lower, Open, Under, hit, none, over, root, short}

module _ (q : List ℕ) (ws : Words) (r : Rises ws) where
  -- a name of the open child has the first one's symbol there
  under_same : {d c hi : ℕ} → Under ws d c hi → (j : ℕ) → c ≤ j → j < hi → at (nth ws j) d ≡ at (nth ws c) d
  under_same u j l m = (u j l m).1

  pub kids-none : {d c : ℕ} → d ≤ length (nth ws c) → Kids q ws d c c c
  kids-none {d} {c} h = record {
    order = omega arith;
    share = λ j l m. let e : c ≡ j = omega arith in subst (λ (i : ℕ). d ≤ shared (nth ws c) (nth ws i)) e (omega (arith, shared-self (nth ws c)));
    below = λ j l m. absurd (lt_irrefl c (omega arith));
    chosen = go (apart (length q) d);
  }
    where
      go : (length q < d) ⊎ (d ≤ length q) → Chosen q ws d c c c
      go (inl l) = short l refl
      go (inr m) = none m (λ j l k. absurd (lt_irrefl c (omega arith))) refl

  -- ---- the open child, from c up to hi

  module _ {d a c p hi : ℕ} (k : Kids q ws d a c p) (l : c < hi) (u : Under ws d c hi) where
    -- all names of the fork so far share d symbols with its first
    fork-share : (j : ℕ) → a ≤ j → j < hi → d ≤ shared (nth ws a) (nth ws j)
    fork-share j x y = go (apart c j)
      where
        go : (c < j) ⊎ (j ≤ c) → d ≤ shared (nth ws a) (nth ws j)
        go (inl m) = shared-trans (nth ws a) (nth ws c) (nth ws j) d (k.share c k.order (omega arith)) (u j (omega arith) y).0
        go (inr m) = k.share j x m

    -- no name before the open child has its symbol
    fork-below : (j : ℕ) → a ≤ j → j < c → (i : ℕ) → c ≤ i → i < hi → at (nth ws j) d < at (nth ws i) d
    fork-below j x y i m n = omega (arith, k.below j x y, under_same u i m n)

    -- ---- the next name parts from the last at d

    module _ (within : hi < length ws) (parts : shared (nth ws (pred hi)) (nth ws hi) ≡ d) where
      rises-there : at (nth ws (pred hi)) d < at (nth ws hi) d
      rises-there =
          ltb-true (at (nth ws (pred hi)) d) (at (nth ws hi) d)
          (sym (less_by (nth ws (pred hi)) (nth ws hi) d parts) ∙ nth-less ws (pred hi) hi r (omega arith) within)

      next-share : (j : ℕ) → a ≤ j → j ≤ hi → d ≤ shared (nth ws a) (nth ws j)
      next-share j x y = go (apart j hi)
        where
          go : (j < hi) ⊎ (hi ≤ j) → d ≤ shared (nth ws a) (nth ws j)
          go (inl m) = fork-share j x m
          go (inr m) =
              let e : hi ≡ j = omega arith in
              subst (λ (i : ℕ). d ≤ shared (nth ws a) (nth ws i)) e
              (shared-trans (nth ws a) (nth ws (pred hi)) (nth ws hi) d (fork-share (pred hi) (omega (arith, k.order)) (omega arith)) (omega (arith, parts)))

      next-below : (j : ℕ) → a ≤ j → j < hi → at (nth ws j) d < at (nth ws hi) d
      next-below j x y = go (apart j c)
        where
          last : at (nth ws (pred hi)) d ≡ at (nth ws c) d
          last = under_same u (pred hi) (omega arith) (omega arith)

          go : (j < c) ⊎ (c ≤ j) → at (nth ws j) d < at (nth ws hi) d
          go (inl m) = omega (arith, k.below j x m, last, rises-there)
          go (inr m) = omega (arith, under_same u j m y, last, rises-there)

      more : {p' : ℕ} → Chosen q ws d a hi p' → Kids q ws d a hi p'
      more h = record { order = omega (arith, k.order); share = next-share; below = next-below; chosen = h }

      -- the child that ends is the question's
      pub kids-fit : {e : ℕ} → Fits q (nth ws c) d → e ≡ (reach_in q ws c hi).position → Kids q ws d a hi e
      kids-fit f e = more
          (hit c hi k.order l (omega arith) f.long (λ j x y z. lt_irrefl (at q d) (omega (arith, k.below j x y, f.same)))
          (λ j x y. under_same u j x y ∙ f.same) (λ j x y. absurd (lt_irrefl j (omega arith))) e)

      -- it is not
      pub kids-pass : (Fits q (nth ws c) d → ⊥) → Kids q ws d a hi p
      kids-pass f = more (go k.chosen)
        where
          go : Chosen q ws d a c p → Chosen q ws d a hi p
          go (short s e) = short s e
          go (none s n e) = none s (λ j x y z. cases j x y z (apart j c)) e
            where
              cases : (j : ℕ) → a ≤ j → j < hi → at (nth ws j) d ≡ at q d → (j < c) ⊎ (c ≤ j) → ⊥
              cases j x y z (inl m) = n j x m z
              cases j x y z (inr m) = f (record { long = s; same = sym (under_same u j m y) ∙ z })
          go (hit mid next o m b s low here high e) = hit mid next o m (omega arith) s low here (λ j x y. cases j x y (apart j c)) e
            where
              cases : (j : ℕ) → next ≤ j → j < hi → (j < c) ⊎ (c ≤ j) → at q d < at (nth ws j) d
              cases j x y (inl n) = high j x n
              cases j x y (inr n) = omega (arith, here mid (omega arith) m, fork-below mid o (omega arith) j n y)

    -- ---- the fork ends at hi

    module _ (some : a < c) (within : hi ≤ length ws) where
      deep_is : d ≡ deep ws a hi
      unfolding deep
      deep_is =
          sym (part_at (nth ws a) (nth ws (pred hi)) d (fork-share (pred hi) (omega (arith, k.order)) (omega arith))
          (λ e. lt_irrefl (at (nth ws a) d) (omega (arith, fork-below a (omega arith) some (pred hi) (omega arith) (omega arith)))))

      pub close-fit : {e : ℕ} → Fits q (nth ws c) d → e ≡ (reach_in q ws c hi).position → e ≡ (reach_in q ws a hi).position
      close-fit f e =
          e ∙ sym (ap (λ (s : Stop). s.position)
          (reach-child q ws a hi d r (omega arith) within deep_is c hi (omega arith) l (omega arith) f.long
          (λ j x y z. lt_irrefl (at q d) (omega (arith, k.below j x y, f.same))) (λ j x y. under_same u j x y ∙ f.same) (λ j x y. absurd (lt_irrefl j (omega arith))) (omega arith)))

      pub close-pass : (Fits q (nth ws c) d → ⊥) → p ≡ (reach_in q ws a hi).position
      close-pass f = go k.chosen
        where
          go : Chosen q ws d a c p → p ≡ (reach_in q ws a hi).position
          go (short s e) = e ∙ sym (ap (λ (s : Stop). s.position) (reach-short q ws a hi d r (omega arith) within deep_is s))
          go (none s n e) = e ∙ sym (ap (λ (s : Stop). s.position) (reach-none q ws a hi d r (omega arith) within deep_is s (λ j x y z. cases j x y z (apart j c))))
            where
              cases : (j : ℕ) → a ≤ j → j < hi → at (nth ws j) d ≡ at q d → (j < c) ⊎ (c ≤ j) → ⊥
              cases j x y z (inl m) = n j x m z
              cases j x y z (inr m) = f (record { long = s; same = sym (under_same u j m y) ∙ z })
          go (hit mid next o m b s low here high e) =
              e ∙ sym (ap (λ (s : Stop). s.position) (reach-child q ws a hi d r (omega arith) within deep_is mid next o m (omega arith) s low here (λ j x y. cases j x y (apart j c)) (omega arith)))
            where
              cases : (j : ℕ) → next ≤ j → j < hi → (j < c) ⊎ (c ≤ j) → at q d < at (nth ws j) d
              cases j x y (inl n) = high j x n
              cases j x y (inr n) = omega (arith, here mid (omega arith) m, fork-below mid o (omega arith) j n y)

      -- the names of the fork stand in one child of a fork above it
      pub under-out : {e : ℕ} → e < d → Under ws e a hi
      under-out {e} h j x y = (omega (arith, fork-share j x y), sym (shared_at (nth ws a) (nth ws j) e (omega (arith, fork-share j x y))))

  -- ---- all open forks

  -- the last name stands in one child of the deepest fork, where it is long enough
  pub leaf-under : {d c : ℕ} → d ≤ length (nth ws c) → Under ws d c (suc c)
  leaf-under {d} {c} h j x y =
      let e : c ≡ j = omega arith in
      subst (λ (i : ℕ). (d ≤ shared (nth ws c) (nth ws i)) × (at (nth ws i) d ≡ at (nth ws c) d)) e (omega (arith, shared-self (nth ws c)), refl)

  pub open-leaf : {fs : List Frame} {c : ℕ} → Edge q ws fs c → Inside ws fs c (suc c) → c < length ws → Open q ws fs c (suc c) c
  open-leaf {fs} {c} e i h = record { edge = e; some = omega arith; within = omega arith; inside = i; ends = sym (ap (λ (s : Stop). s.position) (reach-leaf q ws c h)) }

  module _ {f : Frame} {fs : List Frame} {c hi e : ℕ} (o : Open q ws (f ∷ fs) c hi e) where
    kids : Edge q ws (f ∷ fs) c → Kids q ws f.depth f.first c f.reach
    kids (over k s l g) = k

    some-kids : Edge q ws (f ∷ fs) c → f.first < c
    some-kids (over k s l g) = s

    lower : Edge q ws (f ∷ fs) c → Lower fs f.depth
    lower (over k s l g) = l

    above : Edge q ws (f ∷ fs) c → Edge q ws fs f.first
    above (over k s l g) = g

    -- the names of the fork stand inside the one above it, and under every depth below its own
    pub open-wide : {d : ℕ} → d < f.depth → Under ws d f.first hi
    open-wide h = under-out (kids o.edge) o.some o.inside (some-kids o.edge) o.within h

    outside : (gs : List Frame) → Lower gs f.depth → Inside ws gs f.first hi
    outside [] h = tt
    outside (g ∷ gs) h = open-wide h

    closed : {p : ℕ} → p ≡ (reach_in q ws f.first hi).position → Open q ws fs f.first hi p
    closed p = record {
      edge = above o.edge;
      some = omega (arith, some-kids o.edge, o.some);
      within = o.within;
      inside = outside fs (lower o.edge);
      ends = p;
    }

    pub close-in : Fits q (nth ws c) f.depth → Open q ws fs f.first hi e
    close-in h = closed (close-fit (kids o.edge) o.some o.inside (some-kids o.edge) o.within h o.ends)

    pub close-by : (Fits q (nth ws c) f.depth → ⊥) → Open q ws fs f.first hi f.reach
    close-by h = closed (close-pass (kids o.edge) o.some o.inside (some-kids o.edge) o.within h)

    -- the next name parts from the last at the fork's depth
    module _ (within : hi < length ws) (parts : shared (nth ws (pred hi)) (nth ws hi) ≡ f.depth) where
      abbrev frame : ℕ → Frame
      frame p = record { depth = f.depth; first = f.first; reach = p }

      next : {p : ℕ} → Kids q ws f.depth f.first hi p → Edge q ws (frame p ∷ fs) hi
      next k = over k (omega (arith, some-kids o.edge, o.some)) (lower o.edge) (above o.edge)

      pub more-in : Fits q (nth ws c) f.depth → Edge q ws (record { depth = f.depth; first = f.first; reach = e } ∷ fs) hi
      more-in h = next (kids-fit (kids o.edge) o.some o.inside within parts h o.ends)

      pub more_by : (Fits q (nth ws c) f.depth → ⊥) → Edge q ws (record { depth = f.depth; first = f.first; reach = f.reach } ∷ fs) hi
      more_by h = next (kids-pass (kids o.edge) o.some o.inside within parts h)

  -- the next name parts from the last below every open fork
  module _ {fs : List Frame} {c hi e d : ℕ} (o : Open q ws fs c hi e) (within : hi < length ws) (parts : shared (nth ws (pred hi)) (nth ws hi) ≡ d) (l : Lower fs d) (u : Under ws d c hi) where
    start : Kids q ws d c c c
    start = kids-none (omega (arith, (u c (omega arith) o.some).0, shared-self (nth ws c)))

    pub push-in : Fits q (nth ws c) d → Edge q ws (record { depth = d; first = c; reach = e } ∷ fs) hi
    push-in h = over (kids-fit start o.some u within parts h o.ends) o.some l o.edge

    pub push-by : (Fits q (nth ws c) d → ⊥) → Edge q ws (record { depth = d; first = c; reach = c } ∷ fs) hi
    push-by h = over (kids-pass start o.some u within parts h) o.some l o.edge

  -- no fork is open: the names gone through are the whole tree
  pub open-root : {c hi e : ℕ} → Open q ws [] c hi e → e ≡ (reach_in q ws 0 hi).position
  open-root {c} {hi} {e} o = go o.edge o.ends
    where
      go : {x : ℕ} → Edge q ws [] x → e ≡ (reach_in q ws x hi).position → e ≡ (reach_in q ws 0 hi).position
      go root h = h

  -- depths rise, so there are no more open forks than depths
  pub edge_few : {f : Frame} {fs : List Frame} {c : ℕ} → Edge q ws (f ∷ fs) c → length fs ≤ f.depth
  edge_few (over {fs = []} k s l g) = omega arith
  edge_few (over {fs = h ∷ fs} k s l g) = omega (arith, edge_few g, l)
