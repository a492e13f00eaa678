-- The node table of a rising list of words, as a check goes by it that takes a node's depth from its record and has of the words no
-- more than what neighbours share: each two neighbours are compared once, where two children of one node meet.
--     row-child                     a row that stands begins with a child, and after it stands the row of the others
--     row_last, row_more            a child, and after it the row of the others, are a row that stands
--     node-leaf, leaf-node          the node of one word is its record
--     node-split, node-join         the node of several words is its record and the row of the whole group
-- Assumes nothing.
use Prim.Native.Nat.{ℕ, zero, suc, ◌+◌, ◌-◌, ◌*◌, pred, ◌≤◌, ◌<◌}
use native.Mathlib.Nat.{not-suc-le-zero, lt_irrefl, eq-or-lt_of_le}
use native.Mathlib.Decide.{ℕ_discrete}
use native.Mathlib.Omega.{arith}
use mathlib.Core.Path.{◌≡◌, refl, sym, ap, ◌∙◌, subst}
use mathlib.Core.Logic.{inl, inr}
use mathlib.Core.List.{List, [], ◌∷◌, ◌++◌}
use lib.ListN.{length}
use Rattle.words.specs.Rising.{Rises, span, nth}
use Rattle.words.specs.Words.{Bytes, Words, at, shared}
use Rattle.words.proofs.Rising.{nth-less, nth-positive, span-length}
use Rattle.words.proofs.Words.{further, less-parts, part_at, shared_at, shared-le, shared-self, shared-trans}
use Rattle.format.specs.Spans.{deep, row_table, node_table}
use Rattle.format.specs.Nodes.{Node, fork, leaf}
use Rattle.format.specs.Widths.{widest}
use Rattle.format.proofs.Spans.{ranked-within, span-share, table_more, table_none, table-one, table-run}
use Rattle.standing.specs.Maps.{Map, Roomy, record_at}
use Rattle.standing.specs.Stands.{Child, GroupAt, NodeAt, RowAt, Stands}
use Rattle.standing.proofs.Maps.{strides-differ}
use Rattle.standing.proofs.Records.{TwoRuns, stands-end, stands-join, stands-split}

module _ (ws : Words) (r : Rises ws) where
  -- ---- what words of a span share

  deep-rest : (lo mid hi : ℕ) → lo ≤ mid → mid < hi → hi ≤ length ws → deep ws lo hi ≤ deep ws mid hi
  unfolding deep
  deep-rest lo mid hi h k l = span-share ws r lo hi mid (pred hi) l h k (omega arith) (omega arith)

  -- two spans that meet, and what the words there share
  deep-join : (d lo mid hi : ℕ) → lo < mid → mid < hi → d ≤ deep ws lo mid → d ≤ shared (nth ws (pred mid)) (nth ws mid) → d ≤ deep ws mid hi → d ≤ deep ws lo hi
  unfolding deep
  deep-join d lo mid hi a b p q s =
      shared-trans (nth ws lo) (nth ws mid) (nth ws (pred hi)) d (shared-trans (nth ws lo) (nth ws (pred mid)) (nth ws mid) d p q) s

  deep_one : (lo : ℕ) → deep ws lo (suc lo) ≡ length (nth ws lo)
  unfolding deep
  deep_one lo = shared-self (nth ws lo)

  -- ---- where a run of words with one symbol ends

  record SameSymbol (d lo hi mid : ℕ) : Type 0 where
    some : lo < mid
    upto : mid ≤ hi
    same : at (nth ws (pred mid)) d ≡ at (nth ws lo) d
    other : mid < hi → at (nth ws mid) d ≡ at (nth ws lo) d → ⊥

  record Stop (d lo hi : ℕ) : Type 0 where
    mid : ℕ
    run : SameSymbol d lo hi mid

  run-stop : (d lo hi : ℕ) → lo < hi → Stop d lo hi
  run-stop d lo hi a = go (hi - lo) (suc lo) (omega arith) (omega arith) a refl
    where
      go : (f mid : ℕ) → hi - mid < f → lo < mid → mid ≤ hi → at (nth ws (pred mid)) d ≡ at (nth ws lo) d → Stop d lo hi
      go zero mid l b c e = absurd (not-suc-le-zero l)
      go (suc f) mid l b c e = elim (eq-or-lt_of_le c) [
        | inl m ↦ record { mid = mid; run = record { some = b; upto = c; same = e; other = λ n. absurd (lt_irrefl mid (omega arith)) } }
        | inr m ↦ elim (ℕ_discrete (at (nth ws mid) d) (at (nth ws lo) d)) [
          | yes s ↦ go f (suc mid) (omega arith) (omega arith) m s
          | no n ↦ record { mid = mid; run = record { some = b; upto = c; same = e; other = λ k. n } }
        ]
      ]

  module _ (d lo mid hi : ℕ) (b : hi ≤ length ws) where
    -- a run of two words or more has a greater depth, and the next word parts from it just at d
    run-below : d ≤ deep ws lo hi → SameSymbol d lo hi mid → suc lo < mid → d < deep ws lo mid
    unfolding deep
    run-below h u l =
        further (nth ws lo) (nth ws (pred mid)) d (nth-positive ws lo r) (nth-positive ws (pred mid) r)
        (nth-less ws lo (pred mid) r (omega arith) (omega (arith, u.upto)))
        (omega (arith, span-share ws r lo hi lo (pred mid) b (omega arith) (omega (arith, u.upto)) (omega arith) (omega (arith, u.upto)))) u.same

    run-edge : d ≤ deep ws lo hi → SameSymbol d lo hi mid → mid < hi → shared (nth ws (pred mid)) (nth ws mid) ≡ d
    run-edge h u l =
        part_at (nth ws (pred mid)) (nth ws mid) d
        (omega (arith, span-share ws r lo hi (pred mid) mid b (omega (arith, u.some)) (omega arith) (omega (arith, u.some)) l))
        (λ e. u.other l (sym e ∙ u.same))

    -- a child's words are a run, where the next word parts from them just at d
    run_of : lo < mid → mid ≤ hi → (suc lo < mid → d < deep ws lo mid) → (mid < hi → shared (nth ws (pred mid)) (nth ws mid) ≡ d) → SameSymbol d lo hi mid
    unfolding deep
    run_of a c h k = record { some = a; upto = c; same = same; other = other }
      where
        same : at (nth ws (pred mid)) d ≡ at (nth ws lo) d
        same = elim (eq-or-lt_of_le a) [
          | inl e ↦ subst (λ (x : ℕ). at (nth ws (pred x)) d ≡ at (nth ws lo) d) e refl
          | inr l ↦ sym (shared_at (nth ws lo) (nth ws (pred mid)) d (h l))
        ]

        other : mid < hi → at (nth ws mid) d ≡ at (nth ws lo) d → ⊥
        other l e =
            let s : shared (nth ws (pred mid)) (nth ws mid) ≡ d = k l in
            less-parts (nth ws (pred mid)) (nth ws mid) (nth-positive ws (pred mid) r) (nth-positive ws mid r)
            (nth-less ws (pred mid) mid r (omega arith) (omega arith))
            (subst (λ (x : ℕ). at (nth ws mid) x ≡ at (nth ws (pred mid)) x) (sym s) (e ∙ sym same))

  -- ---- a row, child by child
  module _ (μ : Map) (b : Bytes) where
    -- the words' row is the child's node and the row of the others
    run_row : (d lo mid hi : ℕ) → hi ≤ length ws → d ≤ deep ws lo hi → SameSymbol d lo hi mid
        → row_table lo d (span ws lo hi) ≡ node_table lo (at (nth ws lo) d) (span ws lo mid) ++ row_table mid d (span ws mid hi)
    run_row d lo mid hi l h u =
        table-run ws d lo mid hi u.some u.upto l (ranked-within ws r d lo hi (omega (arith, u.some, u.upto)) l h) u.same u.other

    -- the last child is the whole row
    pub row_last : (d lo hi o e : ℕ) → hi ≤ length ws → d ≤ length (nth ws lo) → Child μ b ws d lo hi o e → RowAt μ b ws lo hi d o e
    row_last d lo hi o e l q c = record {
      share = h;
      stands = subst (λ (rs : List Node). Stands μ b o rs e) (sym (run_row d lo hi hi l h u)) (stands-join μ b (node_table lo (at (nth ws lo) d) (span ws lo hi)) (row_table hi d (span ws hi hi)) o e e c.node.stands
          (subst (λ (rs : List Node). Stands μ b e rs e) (sym (table_none ws d hi)) refl));
    }
      where
        h : d ≤ deep ws lo hi
        h = elim (eq-or-lt_of_le c.some) [
          | inl k ↦ subst (λ (x : ℕ). d ≤ deep ws lo x) k (omega (arith, deep_one lo))
          | inr k ↦ omega (arith, c.below k)
        ]

        u : SameSymbol d lo hi hi
        u = run_of d lo hi hi l c.some (omega arith) c.below (λ n. absurd (lt_irrefl hi n))

    -- a child, and the row of the others
    pub row_more : (d lo mid hi o m e : ℕ) → hi ≤ length ws → mid < hi → Child μ b ws d lo mid o m → shared (nth ws (pred mid)) (nth ws mid) ≡ d
        → RowAt μ b ws mid hi d m e → RowAt μ b ws lo hi d o e
    row_more d lo mid hi o m e l n c q t = record {
      share = h;
      stands = subst (λ (rs : List Node). Stands μ b o rs e) (sym (run_row d lo mid hi l h u))
          (stands-join μ b (node_table lo (at (nth ws lo) d) (span ws lo mid)) (row_table mid d (span ws mid hi)) o m e c.node.stands t.stands);
    }
      where
        first : d ≤ deep ws lo mid
        first = elim (eq-or-lt_of_le c.some) [
          | inl k ↦ subst (λ (x : ℕ). d ≤ deep ws lo x) k
              (omega (arith, deep_one lo, subst (λ (x : ℕ). shared (nth ws (pred x)) (nth ws x) ≡ d) (sym k) q, shared-le (nth ws lo) (nth ws (suc lo))))
          | inr k ↦ omega (arith, c.below k)
        ]

        h : d ≤ deep ws lo hi
        h = deep-join d lo mid hi c.some n first (omega arith) t.share

        u : SameSymbol d lo hi mid
        u = run_of d lo mid hi l c.some (omega arith) c.below (λ k. q)

    -- what stands after the first child of a row
    pub data Others (d mid hi m e : ℕ) : Type 0 where
      ended : mid ≡ hi → m ≡ e → Others d mid hi m e
      going : mid < hi → shared (nth ws (pred mid)) (nth ws mid) ≡ d → RowAt μ b ws mid hi d m e → Others d mid hi m e

    pub record Lead (d lo hi o e : ℕ) : Type 0 where
      pub mid : ℕ
      pub end : ℕ
      pub upto : mid ≤ hi
      pub child : Child μ b ws d lo mid o end
      pub others : Others d mid hi end e

    pub row-child : (d lo hi o e : ℕ) → lo < hi → hi ≤ length ws → RowAt μ b ws lo hi d o e → Lead d lo hi o e
    row-child d lo hi o e a l t = record {
      mid = mid;
      end = p.seam;
      upto = u.upto;
      child = record { some = u.some; node = record { stands = p.left }; below = run-below d lo mid hi l t.share u };
      others = elim (eq-or-lt_of_le u.upto) [
        | inl k ↦ ended k (subst (λ (rs : List Node). Stands μ b p.seam rs e) (ap (λ (x : ℕ). row_table mid d (span ws mid x)) (sym k) ∙ table_none ws d mid) p.right)
        | inr k ↦ going k (run-edge d lo mid hi l t.share u k) (record { share = rest k; stands = p.right })
      ];
    }
      where
        mid : ℕ
        mid = (run-stop d lo hi a).mid

        u : SameSymbol d lo hi mid
        u = (run-stop d lo hi a).run

        p : TwoRuns μ b (node_table lo (at (nth ws lo) d) (span ws lo mid)) (row_table mid d (span ws mid hi)) o e
        p = stands-split μ b (node_table lo (at (nth ws lo) d) (span ws lo mid)) (row_table mid d (span ws mid hi)) o e
            (subst (λ (rs : List Node). Stands μ b o rs e) (run_row d lo mid hi l t.share u) t.stands)

        rest : mid < hi → d ≤ deep ws mid hi
        rest k = omega (arith, t.share, deep-rest lo mid hi (omega (arith, u.some)) k l)

    -- ---- a node

    -- a leaf's record
    pub leaf-node : (s lo o : ℕ) → lo < length ws → Roomy μ.step b o → record_at μ.step b o ≡ leaf lo s (nth ws lo) → NodeAt μ b ws lo (suc lo) s o (o + μ.stride)
    leaf-node s lo o l f e = record { stands = subst (λ (rs : List Node). Stands μ b o rs (o + μ.stride)) (sym (table-one ws s lo l)) (f, e, refl) }

    pub record Leaf (s lo o e : ℕ) : Type 0 where
      pub room : Roomy μ.step b o
      pub told : record_at μ.step b o ≡ leaf lo s (nth ws lo)
      pub end : o + μ.stride ≡ e

    pub node-leaf : (s lo o e : ℕ) → lo < length ws → NodeAt μ b ws lo (suc lo) s o e → Leaf s lo o e
    node-leaf s lo o e l n =
        let h : Stands μ b o (leaf lo s (nth ws lo) ∷ []) e = subst (λ (rs : List Node). Stands μ b o rs e) (table-one ws s lo l) n.stands in
        record { room = h.0; told = h.1; end = h.2 }

    -- the record of a node of several words, and its row
    pub record Fork (s lo hi o e : ℕ) : Type 0 where
      pub room : Roomy μ.step b o
      pub symbol : (record_at μ.step b o).symbol ≡ s
      pub first : (record_at μ.step b o).first ≡ lo
      pub names : (record_at μ.step b o).names ≡ hi - lo
      pub width : (record_at μ.step b o).width ≡ widest (span ws lo hi)
      pub nodes : o + (record_at μ.step b o).nodes * μ.stride ≡ e
      pub group : GroupAt μ b ws lo hi (record_at μ.step b o).depth (o + μ.stride) e

    module _ (s lo hi o e : ℕ) (a : suc lo < hi) (l : hi ≤ length ws) where
      d : ℕ
      d = deep ws lo hi

      row : List Node
      row = row_table lo d (span ws lo hi)

      pub node-split : NodeAt μ b ws lo hi s o e → Fork s lo hi o e
      unfolding d row
      node-split n =
          let h : Stands μ b o (fork lo s d (span ws lo hi) row ∷ row) e = subst (λ (rs : List Node). Stands μ b o rs e) (table_more ws s lo hi r a l) n.stands in
          let t : (record_at μ.step b o).depth ≡ d = ap (λ (x : Node). x.depth) h.1 in
          let m : (record_at μ.step b o).nodes ≡ suc (length row) = ap (λ (x : Node). x.nodes) h.1 in
          record {
            room = h.0;
            symbol = ap (λ (x : Node). x.symbol) h.1;
            first = ap (λ (x : Node). x.first) h.1;
            names = ap (λ (x : Node). x.names) h.1 ∙ span-length ws lo hi l;
            width = ap (λ (x : Node). x.width) h.1;
            nodes = omega (arith, stands-end μ b row (o + μ.stride) e h.2, ap (λ (x : ℕ). x * μ.stride) m);
            group = record { share = t; stands = subst (λ (x : ℕ). Stands μ b (o + μ.stride) (row_table lo x (span ws lo hi)) e) (sym t) h.2 };
          }

      pub node-join : 1 ≤ μ.stride → Fork s lo hi o e → NodeAt μ b ws lo hi s o e
      unfolding d row
      node-join wide f =
          let t : (record_at μ.step b o).depth ≡ d = f.group.share in
          let g : Stands μ b (o + μ.stride) row e = subst (λ (x : ℕ). Stands μ b (o + μ.stride) (row_table lo x (span ws lo hi)) e) t f.group.stands in
          let m : (record_at μ.step b o).nodes ≡ suc (length row) = strides-differ μ.stride wide (record_at μ.step b o).nodes (suc (length row)) (omega (arith, stands-end μ b row (o + μ.stride) e g, f.nodes)) in
          let told : record_at μ.step b o ≡ fork lo s d (span ws lo hi) row =
          rw (f.symbol, t, f.first, f.names ∙ sym (span-length ws lo hi l), m, f.width) refl in
          record { stands = subst (λ (rs : List Node). Stands μ b o rs e) (sym (table_more ws s lo hi r a l)) (f.room, told, g) }
