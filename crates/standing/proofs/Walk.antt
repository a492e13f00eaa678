-- The walk over a row, child by child, that judges whether the row of a whole group stands from o₀ on.
--     NodeHead, node-head      what a node's record says of its words
--     Walk                 so far it may: the group's row stands just where the row from lo on stands from o on
--     walk_start           at the group's first word
--     walk_more            one child more, where the words that meet there share just d symbols
--     walk-done            the last child, which is not the whole group: the group's row stands
--     Expected, walk-next      what has to stand at o if the group's row stands: each test of the code is one of its fields
--     group-end            a row ends at one place
--     deep-short           several words share less than their greatest length
-- Assumes nothing.
use Prim.Native.Nat.{ℕ, suc, ◌+◌, ◌-◌, ◌*◌, pred, ◌≤◌, ◌<◌}
use native.Mathlib.Nat.{lt_irrefl, eq-or-lt_of_le}
use native.Mathlib.Omega.{arith}
use mathlib.Core.Path.{◌≡◌, refl, sym, ap, ◌∙◌, subst}
use mathlib.Core.Logic.{◌⊎◌, inl, inr}
use lib.ListN.{length}
use Rattle.words.specs.Rising.{Rises, span, nth}
use Rattle.words.specs.Words.{Bytes, Words, at, shared}
use Rattle.words.proofs.Rising.{nth-less}
use Rattle.words.proofs.Words.{less-short, shared-comm, shared-le}
use Rattle.format.specs.Spans.{deep, row_table, node_table}
use Rattle.format.specs.Nodes.{Node}
use Rattle.format.specs.Widths.{widest}
use Rattle.format.proofs.Spans.{span-share}
use Rattle.format.proofs.Widths.{widest-one}
use Rattle.standing.specs.Maps.{Map, Roomy, record_at}
use Rattle.standing.specs.Stands.{Child, GroupAt, NodeAt, RowAt}
use Rattle.standing.proofs.Records.{stands-end}
use Rattle.standing.proofs.Children as child

-- what a node's record says of its words; s led to it, and it ends at e
pub record NodeHead (μ : Map) (b : Bytes) (ws : Words) (s lo hi o e : ℕ) : Type 0 where
  pub room : Roomy μ.step b o
  pub past : o + μ.stride ≤ e
  pub symbol : (record_at μ.step b o).symbol ≡ s
  pub first : (record_at μ.step b o).first ≡ lo
  pub nodes : o + (record_at μ.step b o).nodes * μ.stride ≡ e
  pub names : (record_at μ.step b o).names ≡ hi - lo
  pub width : (record_at μ.step b o).width ≡ widest (span ws lo hi)
  pub depth : suc lo < hi → (record_at μ.step b o).depth ≡ deep ws lo hi

-- the row of the group from lo₀ to hi, of depth d, stands from o₀ on just where the row of its words from lo on stands from o on
pub record Walk (μ : Map) (b : Bytes) (ws : Words) (lo₀ hi d o₀ lo o : ℕ) : Type 0 where
  pub from : lo₀ ≤ lo
  pub some : lo < hi
  pub edge : lo₀ < lo → shared (nth ws (pred lo)) (nth ws lo) ≡ d
  pub forth : (e : ℕ) → GroupAt μ b ws lo₀ hi d o₀ e → RowAt μ b ws lo hi d o e
  pub back : (e : ℕ) → RowAt μ b ws lo hi d o e → RowAt μ b ws lo₀ hi d o₀ e

-- what stands at o, if the group's row stands up to e
pub record Expected (μ : Map) (b : Bytes) (ws : Words) (lo₀ hi d lo o e : ℕ) : Type 0 where
  pub room : Roomy μ.step b o
  pub past : o + μ.stride ≤ e
  pub symbol : (record_at μ.step b o).symbol ≡ at (nth ws lo) d
  pub first : (record_at μ.step b o).first ≡ lo
  pub some : 0 < (record_at μ.step b o).names
  pub upto : (record_at μ.step b o).names ≤ hi - lo
  pub proper : (record_at μ.step b o).names < hi - lo₀
  pub ends : o + (record_at μ.step b o).nodes * μ.stride ≤ e
  pub node : NodeAt μ b ws lo (lo + (record_at μ.step b o).names) (at (nth ws lo) d) o (o + (record_at μ.step b o).nodes * μ.stride)
  pub below : 1 < (record_at μ.step b o).names → d < (record_at μ.step b o).depth
  pub edge : lo + (record_at μ.step b o).names < hi → shared (nth ws (pred (lo + (record_at μ.step b o).names))) (nth ws (lo + (record_at μ.step b o).names)) ≡ d

-- a row ends at one place
pub group-end : (μ : Map) (b : Bytes) (ws : Words) (lo hi d o e f : ℕ) → GroupAt μ b ws lo hi d o e → GroupAt μ b ws lo hi d o f → e ≡ f
group-end μ b ws lo hi d o e f g h = stands-end μ b (row_table lo d (span ws lo hi)) o e g.stands ∙ sym (stands-end μ b (row_table lo d (span ws lo hi)) o f h.stands)

pub deep-short : (ws : Words) → Rises ws → (lo hi n : ℕ) → suc lo < hi → hi ≤ length ws → length (nth ws (pred hi)) ≤ n → deep ws lo hi < n
unfolding deep
deep-short ws r lo hi n a l h = omega (arith, less-short (nth ws lo) (nth ws (pred hi)) (nth-less ws lo (pred hi) r (omega arith) (omega arith)))

module _ (μ : Map) (b : Bytes) (ws : Words) (r : Rises ws) where
  pub node-head : (s lo hi o e : ℕ) → lo < hi → hi ≤ length ws → NodeAt μ b ws lo hi s o e → NodeHead μ b ws s lo hi o e
  node-head s lo hi o e a l n = go (eq-or-lt_of_le a)
    where
      go : (suc lo ≡ hi) ⊎ (suc lo < hi) → NodeHead μ b ws s lo hi o e
      go (inl k) =
          let f = child.node-leaf ws r μ b s lo o e (omega arith) (subst (λ (x : ℕ). NodeAt μ b ws lo x s o e) (sym k) n) in
          let m : (record_at μ.step b o).names ≡ 1 = ap (λ (x : Node). x.names) f.told in
          let n : (record_at μ.step b o).nodes ≡ 1 = ap (λ (x : Node). x.nodes) f.told in
          record {
            room = f.room;
            past = omega (arith, f.end);
            symbol = ap (λ (x : Node). x.symbol) f.told;
            first = ap (λ (x : Node). x.first) f.told;
            nodes = omega (arith, f.end, ap (λ (x : ℕ). x * μ.stride) n);
            names = omega arith;
            width = ap (λ (x : Node). x.width) f.told ∙ sym (widest-one ws lo (omega arith)) ∙ ap (λ (x : ℕ). widest (span ws lo x)) k;
            depth = λ q. absurd (lt_irrefl hi (omega arith));
          }
      go (inr k) =
          let f = child.node-split ws r μ b s lo hi o e k l n in
          record {
            room = f.room;
            past = omega (arith, stands-end μ b (row_table lo (record_at μ.step b o).depth (span ws lo hi)) (o + μ.stride) e f.group.stands);
            symbol = f.symbol;
            first = f.first;
            nodes = f.nodes;
            names = f.names;
            width = f.width;
            depth = λ q. f.group.share;
          }

  module _ (lo₀ hi d o₀ : ℕ) (two : suc lo₀ < hi) (l : hi ≤ length ws) where
    pub walk_start : Walk μ b ws lo₀ hi d o₀ lo₀ o₀
    walk_start = record {
      from = omega arith;
      some = omega arith;
      edge = λ n. absurd (lt_irrefl lo₀ n);
      forth = λ e g. record { share = omega (arith, g.share); stands = g.stands };
      back = λ e t. t;
    }

    -- ---- what has to stand next

    module _ (lo o : ℕ) (w : Walk μ b ws lo₀ hi d o₀ lo o) where
      first : (e : ℕ) → GroupAt μ b ws lo₀ hi d o₀ e → child.Lead ws r μ b d lo hi o e
      first e g = child.row-child ws r μ b d lo hi o e w.some l (w.forth e g)

      -- the first child's end is where its record says
      mid-is : (e mid m : ℕ) (c : Child μ b ws d lo mid o m) → mid ≤ hi → mid ≡ lo + (record_at μ.step b o).names
      mid-is e mid m c u = omega (arith, (node-head _ lo mid o m c.some (omega arith) c.node).names, c.some)

      pub walk-next : (e : ℕ) → GroupAt μ b ws lo₀ hi d o₀ e → Expected μ b ws lo₀ hi d lo o e
      walk-next e g =
          let f = first e g in
          let c = f.child in
          let h = node-head _ lo f.mid o f.end c.some (omega (arith, f.upto)) c.node in
          let k : f.mid ≡ lo + (record_at μ.step b o).names = mid-is e f.mid f.end c f.upto in
          record {
            room = h.room;
            past = omega (arith, h.past, behind f.others);
            symbol = h.symbol;
            first = h.first;
            ends = omega (arith, h.nodes, behind f.others);
            some = omega (arith, c.some);
            upto = omega (arith, f.upto);
            proper = proper f k;
            node = subst (λ (x : ℕ). NodeAt μ b ws lo x (at (nth ws lo) d) o (o + (record_at μ.step b o).nodes * μ.stride)) k (subst (NodeAt μ b ws lo f.mid (at (nth ws lo) d) o) (sym h.nodes) c.node);
            below = λ q. omega (arith, c.below (omega arith), h.depth (omega arith));
            edge = λ q. subst (λ (x : ℕ). shared (nth ws (pred x)) (nth ws x) ≡ d) k (meet f.others (omega arith));
          }
        where
          behind : {mid m : ℕ} → child.Others ws r μ b d mid hi m e → m ≤ e
          behind (child.ended p q) = omega arith
          behind {mid} {m} (child.going p q t) = omega (arith, stands-end μ b (row_table mid d (span ws mid hi)) m e t.stands)

          meet : {mid m : ℕ} → child.Others ws r μ b d mid hi m e → mid < hi → shared (nth ws (pred mid)) (nth ws mid) ≡ d
          meet (child.ended p q) h = absurd (lt_irrefl hi (omega arith))
          meet (child.going p q t) h = q

          proper : (f : child.Lead ws r μ b d lo hi o e) → f.mid ≡ lo + (record_at μ.step b o).names → (record_at μ.step b o).names < hi - lo₀
          proper f k = elim (eq-or-lt_of_le w.from) [
            | inr q ↦ omega (arith, f.upto, w.some)
            | inl q ↦ elim (eq-or-lt_of_le f.upto) [
              | inr p ↦ omega arith
              | inl p ↦ absurd (whole p q)
            ]
          ]
            where
              -- one child would be the whole group, whose words part at d
              whole : f.mid ≡ hi → lo₀ ≡ lo → ⊥
              whole p q = elim (eq-or-lt_of_le f.child.some) [
                | inl s ↦ lt_irrefl hi (omega arith)
                | inr s ↦ lt_irrefl d (omega (arith, f.child.below s, g.share, subst (λ (x : ℕ). deep ws lo f.mid ≡ deep ws lo x) p refl, subst (λ (x : ℕ). deep ws lo₀ hi ≡ deep ws x hi) q refl))
              ]

      -- ---- one child more, and the last

      pub walk_more : (mid m : ℕ) → Child μ b ws d lo mid o m → mid < hi → shared (nth ws (pred mid)) (nth ws mid) ≡ d → Walk μ b ws lo₀ hi d o₀ mid m
      walk_more mid m c n q = record {
        from = omega (arith, w.from, c.some);
        some = n;
        edge = λ k. q;
        forth = λ e g. rest e (first e g);
        back = λ e t. w.back e (child.row_more ws r μ b d lo mid hi o m e l n c q t);
      }
        where
          rest : (e : ℕ) → child.Lead ws r μ b d lo hi o e → RowAt μ b ws mid hi d m e
          rest e f = go f.others
            where
              k : f.mid ≡ mid
              k = mid-is e f.mid f.end f.child f.upto ∙ sym (mid-is e mid m c (omega arith))

              j : f.end ≡ m
              j =
                  stands-end μ b (node_table lo (at (nth ws lo) d) (span ws lo f.mid)) o f.end f.child.node.stands
                  ∙ ap (λ (x : ℕ). o + length (node_table lo (at (nth ws lo) d) (span ws lo x)) * μ.stride) k
                  ∙ sym (stands-end μ b (node_table lo (at (nth ws lo) d) (span ws lo mid)) o m c.node.stands)

              go : child.Others ws r μ b d f.mid hi f.end e → RowAt μ b ws mid hi d m e
              go (child.ended p x) = absurd (lt_irrefl hi (omega (arith, k)))
              go (child.going p x t) = subst (λ (y : ℕ). RowAt μ b ws y hi d m e) k (subst (λ (y : ℕ). RowAt μ b ws f.mid hi d y e) j t)

      pub walk-done : (m : ℕ) → Child μ b ws d lo hi o m → hi - lo < hi - lo₀ → GroupAt μ b ws lo₀ hi d o₀ m
      walk-done m c n =
          let q : shared (nth ws (pred lo)) (nth ws lo) ≡ d = w.edge (omega arith) in
          let short : d ≤ length (nth ws lo) = omega (arith, shared-le (nth ws lo) (nth ws (pred lo)), shared-comm (nth ws lo) (nth ws (pred lo))) in
          let t = w.back m (child.row_last ws r μ b d lo hi o m l short c) in
          let u : deep ws lo₀ hi ≤ d = omega (arith, span-share ws r lo₀ hi (pred lo) lo l (omega arith) (omega (arith, w.some)) w.from w.some) in
          record { share = omega (arith, t.share); stands = t.stands }
