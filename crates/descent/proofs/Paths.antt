-- The descent as a path of nodes, and what is concluded on it.
--     halt-leaf, halt-short, halt-end, halt-other, taken     the ways that q can take at a node
--     passed_start, passed-room, passed_on, passed-few               the path as it grows
--     passed-deepens   its depths rise
--     found            the highest node whose depth is at least what the reached name shares: it holds the names that share most
--     edge-.., fork-.. the place there
-- Assumes nothing.
use Prim.Native.Nat.{ℕ, zero, suc, pred, ◌+◌, ◌-◌, ◌≤◌, ◌<◌}
use native.Mathlib.Nat.{lt_irrefl, eq-or-lt_of_le}
use native.Mathlib.Omega.{arith}
use mathlib.Core.Path.{◌≡◌, sym, ap, ◌∙◌, subst}
use mathlib.Core.Logic.{◌⊎◌, inl, inr}
use mathlib.Core.List.{List}
use lib.ListN.{length, get_or, set, length-set}
use lib.Seq.{get_or-set_same, get_or-set_other}
use Rattle.words.specs.Rising.{Rises, nth}
use Rattle.words.specs.Words.{Words, at, shared}
use Rattle.words.proofs.Rising.{nth-less, nth-positive}
use Rattle.words.proofs.Words.{apart, further, leaves, shared_at, shared-comm, shared-le, shared-trans}
use Rattle.format.specs.Spans.{deep}
use Rattle.format.proofs.Spans.{first-proper, span-share}
use Rattle.answers.specs.Stops.{Stop, visited}
use Rattle.answers.specs.Questions.{place, reached}
use Rattle.answers.specs.Counts.{visits}
use Rattle.answers.proofs.Nearest.{reached-most}
use Rattle.descent.proofs.Cuts.{group-place}
use Rattle.descent.proofs.Reach.{reach-child, reach-leaf, reach-none, reach-root, reach-short}
use Rattle.descent.proofs.Rows.{Kid, root-sits, row-end, row-kid, several, sits-told}
use Rattle.descent.specs.Vocabulary.{Cut, Descended, Found, Halts, Highest, In, Passed, Sits, Sought, ChildStep, Taken, from, node, onward, reach_in, reach_node, upto}

module _ (ws : Words) where
  in-or-out : (v i : ℕ) → In ws v i ⊎ ((i < from ws v) ⊎ (upto ws v ≤ i))
  in-or-out v i = go (apart i (from ws v)) (apart i (upto ws v))
    where
      go : (i < from ws v) ⊎ (from ws v ≤ i) → (i < upto ws v) ⊎ (upto ws v ≤ i) → In ws v i ⊎ ((i < from ws v) ⊎ (upto ws v ≤ i))
      go (inl h) k = inr (inl h)
      go (inr h) (inl k) = inl (record { low = h; high = k })
      go (inr h) (inr k) = inr (inr k)

  not_in : (v i : ℕ) → (i < from ws v) ⊎ (upto ws v ≤ i) → In ws v i → ⊥
  not_in v i (inl h) k = lt_irrefl i (omega (arith, k.low))
  not_in v i (inr h) k = lt_irrefl i (omega (arith, k.high))

  module _ (r : Rises ws) where
    -- ---- a node's depth

    -- names of a node that is no leaf share its depth
    pub node-share : {v : ℕ} → Sits ws v → suc (from ws v) < upto ws v → (i k : ℕ) → In ws v i → In ws v k → (node ws v).depth ≤ shared (nth ws i) (nth ws k)
    node-share {v} z a i k m n =
        omega (arith, (sits-told ws r z).fork a, span-share ws r (from ws v) (upto ws v) i k z.within m.low m.high n.low n.high)

    -- one name or several
    lone : {v : ℕ} → Sits ws v → (suc (from ws v) ≡ upto ws v) ⊎ (suc (from ws v) < upto ws v)
    lone z = eq-or-lt_of_le z.some

    -- where symbol number m stands before a node's depth, all its names have the same
    pub one_symbol : {v m : ℕ} → Sits ws v → m < (node ws v).depth → (i k : ℕ) → In ws v i → In ws v k → at (nth ws i) m ≡ at (nth ws k) m
    one_symbol {v} {m} z h i k x y = go (lone z)
      where
        go : (suc (from ws v) ≡ upto ws v) ⊎ (suc (from ws v) < upto ws v) → at (nth ws i) m ≡ at (nth ws k) m
        go (inl e) = let j : i ≡ k = omega (arith, x.low, x.high, y.low, y.high) in ap (λ (n : ℕ). at (nth ws n) m) j
        go (inr a) = shared_at (nth ws i) (nth ws k) m (omega (arith, node-share z a i k x y))

    -- what q shares with one name of a node, up to its depth, it shares with all
    pub all_share : {v m : ℕ} (q : List ℕ) → Sits ws v → m ≤ (node ws v).depth → (i k : ℕ) → In ws v i → In ws v k → m ≤ shared q (nth ws k) → m ≤ shared q (nth ws i)
    all_share {v} {m} q z h i k x y s = go (lone z)
      where
        go : (suc (from ws v) ≡ upto ws v) ⊎ (suc (from ws v) < upto ws v) → m ≤ shared q (nth ws i)
        go (inl e) = let j : k ≡ i = omega (arith, x.low, x.high, y.low, y.high) in subst (λ (n : ℕ). m ≤ shared q (nth ws n)) j s
        go (inr a) = shared-trans q (nth ws k) (nth ws i) m s (omega (arith, node-share z a k i y x))

    pub depth-few : {v : ℕ} → Sits ws v → ((i : ℕ) → length (nth ws i) ≤ 200) → (node ws v).depth ≤ 201
    depth-few {v} z short = go (lone z)
      where
        go : (suc (from ws v) ≡ upto ws v) ⊎ (suc (from ws v) < upto ws v) → (node ws v).depth ≤ 201
        go (inl e) = omega (arith, (sits-told ws r z).leaf e, short (from ws v))
        go (inr a) =
            let x : In ws v (from ws v) = record { low = omega arith; high = z.some } in
            omega (arith, node-share z a (from ws v) (from ws v) x x, shared-le (nth ws (from ws v)) (nth ws (from ws v)), short (from ws v))

    -- ---- the ways at a node

    module _ (q : List ℕ) {v : ℕ} (z : Sits ws v) where
      abbrev d : ℕ
      d = (node ws v).depth

      first-in : In ws v (from ws v)
      first-in = record { low = omega arith; high = z.some }

      pub halt-leaf : (node ws v).names ≡ 1 → Halts ws q v
      halt-leaf e =
          let u : suc (from ws v) ≡ upto ws v = omega arith in
          record {
            here = ap (reach_in q ws (from ws v)) (sym u) ∙ reach-leaf q ws (from ws v) (omega (arith, z.within));
            shallow = omega (arith, (sits-told ws r z).leaf u, shared-le (nth ws (from ws v)) q, shared-comm q (nth ws (from ws v)));
            alone = λ i m f. omega (arith, m.low, m.high);
          }

      module _ (more : (node ws v).names ≡ 1 → ⊥) where
        wide : suc (from ws v) < upto ws v
        wide = several ws r z more

        deep_is : (node ws v).depth ≡ deep ws (from ws v) (upto ws v)
        deep_is = (sits-told ws r z).fork wide

        pub halt-short : length q < (node ws v).depth → Halts ws q v
        halt-short h = record {
          here = reach-short q ws (from ws v) (upto ws v) d r wide z.within deep_is h;
          shallow = omega (arith, shared-le q (nth ws (from ws v)));
          alone = λ i m e. absurd (lt_irrefl d (omega (arith, node-share z wide i i m m, shared-le (nth ws i) (nth ws i), ap length e)));
        }

        module _ (h : (node ws v).depth ≤ length q) where
          halt-none : ((i : ℕ) → In ws v i → at (nth ws i) d ≡ at q d → ⊥) → Halts ws q v
          halt-none n = record {
            here = reach-none q ws (from ws v) (upto ws v) d r wide z.within deep_is h (λ i x y. n i (record { low = x; high = y }));
            shallow = leaves q (nth ws (from ws v)) d (n (from ws v) first-in);
            alone = λ i m e. absurd (n i m (ap (λ (y : List ℕ). at y d) e));
          }

          module _ {c : ℕ} (k : Sought ws v (at q (node ws v).depth) c) where
            pub halt-end : v + (node ws v).nodes ≤ c → Halts ws q v
            halt-end g =
                let e : k.mid ≡ upto ws v = row-end ws r k.row g in
                halt-none (λ i m f. lt_irrefl (at q d) (omega (arith, k.cut.below i m.low (omega (arith, m.high)))))

            module _ (g : c < v + (node ws v).nodes) where
              kid : Kid ws r d c k.mid (upto ws v) (v + (node ws v).nodes)
              kid = row-kid ws r k.row g

              pub halt-other : ((node ws c).symbol ≡ at q (node ws v).depth → ⊥) → Halts ws q v
              halt-other n = halt-none (λ i m f. go i m f (apart i k.mid))
                where
                  go : (i : ℕ) → In ws v i → at (nth ws i) d ≡ at q d → (i < k.mid) ⊎ (k.mid ≤ i) → ⊥
                  go i m f (inl x) = lt_irrefl (at q d) (omega (arith, k.cut.below i m.low x))
                  go i m f (inr x) =
                      let lo : at q d ≤ at (nth ws k.mid) d = k.cut.above k.mid (omega arith) (omega (arith, m.high)) in
                      n (kid.led ∙ omega (arith, k.row.climbs k.mid i (omega arith) x m.high))

              module _ (e : (node ws c).symbol ≡ at q (node ws v).depth) where
                hits : at (nth ws k.mid) d ≡ at q d
                hits = sym kid.led ∙ e

                within-v : (i : ℕ) → In ws c i → In ws v i
                within-v i m = record { low = omega (arith, k.cut.low, kid.low, m.low); high = omega (arith, kid.high, m.high) }

                deeper : d < (node ws c).depth
                unfolding deep
                deeper = go (lone kid.sits)
                  where
                    f : In ws c (from ws c)
                    f = record { low = omega arith; high = kid.sits.some }

                    go : (suc (from ws c) ≡ upto ws c) ⊎ (suc (from ws c) < upto ws c) → d < (node ws c).depth
                    go (inl u) =
                        let x : In ws v (from ws c) = within-v (from ws c) f in
                        omega (arith, (sits-told ws r kid.sits).leaf u, node-share z wide (from ws c) (from ws c) x x, shared-le (nth ws (from ws c)) (nth ws (from ws c)))
                    go (inr u) =
                        let lo : ℕ = from ws c in
                        let hi : ℕ = pred (upto ws c) in
                        let end : In ws c hi = record { low = omega arith; high = omega arith } in
                        omega (
                          arith,
                          (sits-told ws r kid.sits).fork u,
                          further (nth ws lo) (nth ws hi) d (nth-positive ws lo r) (nth-positive ws hi r)
                              (nth-less ws lo hi r (omega arith) (omega (arith, kid.sits.within)))
                              (node-share z wide lo hi (within-v lo f) (within-v hi end))
                              (kid.run hi (omega (arith, kid.low)) (omega arith) ∙ sym (kid.run lo (omega (arith, kid.low)) (omega arith))),
                        )

                pub taken : Taken ws q v c
                taken = record {
                  sits = kid.sits;
                  step = record {
                    low = omega (arith, k.cut.low, kid.low);
                    high = kid.high;
                    deeper = deeper;
                    parts = λ i m n f. out i m f n (in-or-out c i);
                  };
                  on = subst (λ (t : ℕ). reach_in q ws (from ws v) (upto ws v) ≡ visited (reach_in q ws t (upto ws c))) (sym kid.low) on;
                }
                  where
                    out : (i : ℕ) → In ws v i → at (nth ws i) d ≡ at q d → (In ws c i → ⊥) → In ws c i ⊎ ((i < from ws c) ⊎ (upto ws c ≤ i)) → ⊥
                    out i m f n (inl x) = n x
                    out i m f n (inr (inl x)) = lt_irrefl (at q d) (omega (arith, k.cut.below i m.low (omega (arith, kid.low))))
                    out i m f n (inr (inr x)) = lt_irrefl (at q d) (omega (arith, hits, kid.beyond i x m.high))

                    proper : (upto ws c - k.mid < upto ws v - from ws v) ⊎ (upto ws v - from ws v ≤ upto ws c - k.mid) → upto ws c - k.mid < upto ws v - from ws v
                    proper (inl l) = l
                    proper (inr l) =
                        let a : k.mid ≡ from ws v = omega (arith, k.cut.low, kid.high, kid.low, z.some) in
                        let b : upto ws c ≡ upto ws v = omega (arith, k.cut.low, kid.high, kid.low, z.some) in
                        absurd (first-proper ws (from ws v) (upto ws v) r wide z.within
                        (subst (λ (e : ℕ). at (nth ws (pred (upto ws v))) e ≡ at (nth ws (from ws v)) e) deep_is
                        (kid.run (pred (upto ws v)) (omega (arith, z.some)) (omega (arith, z.some)) ∙ ap (λ (j : ℕ). at (nth ws j) d) a)))

                    on : reach_in q ws (from ws v) (upto ws v) ≡ visited (reach_in q ws k.mid (upto ws c))
                    on = reach-child q ws (from ws v) (upto ws v) d r wide z.within deep_is k.mid (upto ws c) k.cut.low (omega (arith, kid.low, kid.sits.some))
                        kid.high h (λ i x y f. lt_irrefl (at q d) (omega (arith, k.cut.below i x y))) (λ i x y. kid.run i x y ∙ hits)
                        (λ i x y. omega (arith, hits, kid.beyond i x y)) (proper (apart (upto ws c - k.mid) (upto ws v - from ws v)))

    -- ---- the path

    pub passed_start : (q p : List ℕ) → 0 < length ws → length p ≡ 202 → get_or p 0 0 ≡ 0 → Passed ws q p 1 0
    passed_start q p h l e =
        let s = root-sits ws r h in
        record {
          long = l;
          some = omega arith;
          count = omega arith;
          last = e;
          root = e;
          sits = λ j k. subst (Sits ws) (sym (at-root j k)) s.sits;
          around = λ j k. subst (λ (u : ℕ). (from ws u ≤ from ws 0) × (upto ws 0 ≤ upto ws u)) (sym (at-root j k)) (omega arith, omega arith);
          step = λ j k. absurd (lt_irrefl j (omega arith));
          left = reach-root q ws ∙ rw (s.high, s.low) (ap (λ (m : ℕ). record { position = (reach_in q ws 0 (length ws)).position; visits = m }) (omega arith));
          kept = λ i k f. record { low = omega (arith, s.low); high = omega (arith, s.high) };
        }
      where
        at-root : (j : ℕ) → j < 1 → get_or p j 0 ≡ 0
        at-root j k = let z : j ≡ 0 = omega arith in ap (λ (m : ℕ). get_or p m 0) z ∙ e

    module _ {q p : List ℕ} {n v : ℕ} (t : Passed ws q p n v) (short : (i : ℕ) → length (nth ws i) ≤ 200) where
      pub passed-sits : Sits ws v
      passed-sits = subst (Sits ws) t.last (t.sits (pred n) (omega (arith, t.some)))

      pub passed-few : n ≤ 202
      passed-few = omega (arith, t.count, depth-few passed-sits short)

      -- depths rise along the path
      pub passed-deepens : (i j : ℕ) → i < j → j < n → (node ws (get_or p i 0)).depth < (node ws (get_or p j 0)).depth
      passed-deepens i zero h k = absurd (lt_irrefl i (omega arith))
      passed-deepens i (suc j) h k = go (λ x. passed-deepens i j x (omega arith)) (apart i j)
        where
          go : (i < j → (node ws (get_or p i 0)).depth < (node ws (get_or p j 0)).depth) → (i < j) ⊎ (j ≤ i)
              → (node ws (get_or p i 0)).depth < (node ws (get_or p (suc j) 0)).depth
          go ih (inl x) = omega (arith, ih x, (t.step j k).deeper)
          go ih (inr x) =
              let e : j ≡ i = omega arith in
              subst (λ (a : ℕ). (node ws (get_or p a 0)).depth < (node ws (get_or p (suc j) 0)).depth) e (t.step j k).deeper

      module _ {c : ℕ} (k : Taken ws q v c) where
        pub passed-room : n < 202
        passed-room = omega (arith, t.count, k.step.deeper, depth-few k.sits short)

        pub passed_on : Passed ws q (set p n c) (n + 1) c
        passed_on = record {
          long = length-set p n c ∙ t.long;
          some = omega arith;
          count = omega (arith, t.count, k.step.deeper);
          last = ap (λ (j : ℕ). get_or (set p n c) j 0) {y = n} (omega arith) ∙ new;
          root = old 0 t.some ∙ t.root;
          sits = λ j h. go j (λ u. Sits ws u) (λ m. t.sits j m) k.sits (apart j n) h;
          around = λ j h. go j (λ u. (from ws u ≤ from ws c) × (upto ws c ≤ upto ws u))
              (λ m. (omega (arith, (t.around j m).0, k.step.low), omega (arith, (t.around j m).1, k.step.high))) (omega arith, omega arith) (apart j n) h;
          step = λ j h. steps j h (apart (suc j) n);
          left = t.left ∙ ap (onward (pred n)) k.on ∙ ap (λ (m : ℕ). record { position = (reach_in q ws (from ws c) (upto ws c)).position; visits = m }) (omega (arith, t.some));
          kept = λ i h e. keep i h e (t.kept i h e) (in-or-out c i);
        }
          where
            old : (j : ℕ) → j < n → get_or (set p n c) j 0 ≡ get_or p j 0
            old j h = get_or-set_other p n j c 0 (λ e. lt_irrefl n (omega arith))

            new : get_or (set p n c) n 0 ≡ c
            new = get_or-set_same p n c 0 (omega (arith, t.long, passed-room))

            go : (j : ℕ) (P : ℕ → Type 0) → (j < n → P (get_or p j 0)) → P c → (j < n) ⊎ (n ≤ j) → j < n + 1 → P (get_or (set p n c) j 0)
            go j P a b (inl m) h = subst P (sym (old j m)) (a m)
            go j P a b (inr m) h = let e : n ≡ j = omega arith in subst P (sym new ∙ ap (λ (i : ℕ). get_or (set p n c) i 0) e) b

            steps : (j : ℕ) → suc j < n + 1 → (suc j < n) ⊎ (n ≤ suc j) → ChildStep ws q (get_or (set p n c) j 0) (get_or (set p n c) (suc j) 0)
            steps j h (inl m) = rw (old j (omega arith), old (suc j) m) (t.step j m)
            steps j h (inr m) =
                let e : n ≡ suc j = omega arith in
                let f : pred n ≡ j = omega arith in
                let u : get_or (set p n c) j 0 ≡ v = old j (omega arith) ∙ ap (λ (i : ℕ). get_or p i 0) (sym f) ∙ t.last in
                let w : get_or (set p n c) (suc j) 0 ≡ c = ap (λ (i : ℕ). get_or (set p n c) i 0) (sym e) ∙ new in
                rw (u, w) k.step

            keep : (i : ℕ) → i < length ws → nth ws i ≡ q → In ws v i → In ws c i ⊎ ((i < from ws c) ⊎ (upto ws c ≤ i)) → In ws c i
            keep i h e m (inl x) = x
            keep i h e m (inr x) = absurd (k.step.parts i m (not_in c i x) (ap (λ (y : List ℕ). at y (node ws v).depth) e))

    -- ---- what the path tells

    module _ {q p : List ℕ} {n v : ℕ} (t : Descended ws q p n v) where
      -- the reached name is the first of the last node
      pub reached-is : reached q ws ≡ from ws v
      unfolding reached reach_node
      reached-is = ap (λ (s : Stop). s.position) (t.path.left ∙ ap (onward (pred n)) t.halts.here)

      -- every node of the path was visited, and no other
      pub visits-are : visits q ws ≡ n
      unfolding visits reach_node
      visits-are = ap (λ (s : Stop). s.visits) (t.path.left ∙ ap (onward (pred n)) t.halts.here) ∙ omega (arith, t.path.some)

      -- a name that is q is the reached one
      pub only-reached : (i : ℕ) → i < length ws → nth ws i ≡ q → i ≡ reached q ws
      only-reached i h e = t.halts.alone i (t.path.kept i h e) e ∙ sym reached-is

      outs : (m : ℕ) → 0 < length ws → (j : ℕ) → j < n → ((i : ℕ) → i < j → (node ws (get_or p i 0)).depth < m)
          → (i : ℕ) → i < length ws → (In ws (get_or p j 0) i → ⊥) → shared q (nth ws i) < m
      outs m s zero h above i l o =
          let k = root-sits ws r s in
          absurd (o (subst (λ (u : ℕ). In ws u i) (sym t.path.root) (record { low = omega (arith, k.low); high = omega (arith, k.high) })))
      outs m s (suc j) h above i l o = go (λ a o'. outs m s j (omega arith) a i l o') (in-or-out (get_or p j 0) i)
        where
          go : (((i : ℕ) → i < j → (node ws (get_or p i 0)).depth < m) → (In ws (get_or p j 0) i → ⊥) → shared q (nth ws i) < m)
              → In ws (get_or p j 0) i ⊎ ((i < from ws (get_or p j 0)) ⊎ (upto ws (get_or p j 0) ≤ i)) → shared q (nth ws i) < m
          go ih (inl x) = omega (arith, leaves q (nth ws i) (node ws (get_or p j 0)).depth ((t.path.step j h).parts i x o), above j (omega arith))
          go ih (inr x) = ih (λ k y. above k (omega arith)) (not_in (get_or p j 0) i x)

      pub found : {m u : ℕ} → m ≡ shared q (nth ws (reached q ws)) → Highest ws p n m u → Found ws q m u
      found {m} {u} e g =
          let sits : Sits ws u = subst (Sits ws) (sym g.is) (t.path.sits g.index g.within) in
          let last : Sits ws v = subst (Sits ws) t.path.last (t.path.sits (pred n) (omega (arith, t.path.some))) in
          let wide : (from ws u ≤ from ws v) × (upto ws v ≤ upto ws u) =
          subst (λ (w : ℕ). (from ws w ≤ from ws v) × (upto ws v ≤ upto ws w)) (sym g.is) (t.path.around g.index g.within) in
          let holds : In ws u (reached q ws) = record { low = omega (arith, wide.0, reached-is); high = omega (arith, wide.1, reached-is, last.some) } in
          let low : m ≤ (node ws u).depth = enough g.deep in
          record {
            sits = sits;
            deep = low;
            holds = holds;
            group = record {
              some = sits.some;
              within = sits.within;
              inside = λ i x y. omega (arith, reached-most q ws r i (omega (arith, sits.within)), all_share q sits low i (reached q ws) (record { low = x; high = y }) holds (omega arith));
              outside = λ i h o. outs m (omega arith) g.index g.within g.above i h (λ k. not_in u i o (subst (λ (w : ℕ). In ws w i) (sym g.is) k));
            };
          }
        where
          enough : (m ≤ (node ws u).depth) ⊎ (suc g.index ≡ n) → m ≤ (node ws u).depth
          enough (inl h) = h
          enough (inr h) =
              let k : g.index ≡ pred n = omega arith in
              let f : u ≡ v = g.is ∙ ap (λ (j : ℕ). get_or p j 0) k ∙ t.path.last in
              rw f (omega (arith, t.halts.shallow, ap (λ (j : ℕ). shared q (nth ws j)) reached-is))

    -- ---- the place, at the node found

    module _ {q : List ℕ} {m u : ℕ} (f : Found ws q m u) where
      edge : m < (node ws u).depth → (i : ℕ) → from ws u ≤ i → i < upto ws u → at (nth ws i) m ≡ at (nth ws (reached q ws)) m
      edge h i x y = one_symbol f.sits h i (reached q ws) (record { low = x; high = y }) f.holds

      -- inside the edge: the whole group lies before q, or after it
      pub edge-before : m < (node ws u).depth → at (nth ws (reached q ws)) m < at q m → upto ws u ≡ place q ws
      edge-before h l = group-place ws q r m (from ws u) (upto ws u) f.group (upto ws u) (record {
        low = omega (arith, f.sits.some);
        high = omega arith;
        below = λ i x y. omega (arith, edge h i x y);
        above = λ i x y. absurd (lt_irrefl i (omega arith));
      })

      pub edge-after : m < (node ws u).depth → at q m ≤ at (nth ws (reached q ws)) m → from ws u ≡ place q ws
      edge-after h l = group-place ws q r m (from ws u) (upto ws u) f.group (from ws u) (record {
        low = omega arith;
        high = omega (arith, f.sits.some);
        below = λ i x y. absurd (lt_irrefl i (omega arith));
        above = λ i x y. omega (arith, edge h i x y);
      })

      module _ (h : (node ws u).depth ≤ m) where
        -- a fork has several names: a leaf is deeper than what is shared with its name
        pub fork-wide : (node ws u).names ≡ 1 → ⊥
        fork-wide e =
            let k : suc (from ws u) ≡ upto ws u = omega arith in
            lt_irrefl m (omega (
              arith,
              (sits-told ws r f.sits).leaf k,
              f.group.inside (from ws u) (omega arith) f.sits.some,
              shared-le (nth ws (from ws u)) q,
              shared-comm q (nth ws (from ws u)),
            ))

        module _ {c : ℕ} (k : Sought ws u (at q m) c) where
          cut : k.mid ≡ place q ws
          cut =
              let e : (node ws u).depth ≡ m = omega (arith, f.deep) in
              group-place ws q r m (from ws u) (upto ws u) f.group k.mid (subst (λ (j : ℕ). Cut ws j (at q m) (from ws u) (upto ws u) k.mid) e k.cut)

          pub fork-child : c < u + (node ws u).nodes → from ws c ≡ place q ws
          fork-child g = (row-kid ws r k.row g).low ∙ cut

          pub fork-end : u + (node ws u).nodes ≤ c → upto ws u ≡ place q ws
          fork-end g = sym (row-end ws r k.row g) ∙ cut
