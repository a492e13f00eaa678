-- Nodes and rows of the flat table.
--     NodeTold, told       what the record says where the table of a span stands
--     seated           that is then a node
--     root-sits        the root
--     sits-..          a node's depth, its number, its size
--     kids             a node of several names: after it stands its row
--     Kid, row-kid     the next child of a row, by its record; row-end: there is none
--     one-node, one_name_lem    a leaf by its names and by its nodes
--     seek-..          the walk along a row to the first symbol that is not below s
-- Assumes nothing.
use Prim.Native.Nat.{ℕ, zero, suc, pred, ◌+◌, ◌-◌, ◌≤◌, ◌<◌}
use native.Mathlib.Nat.{lt_irrefl, eq-or-lt_of_le}
use native.Mathlib.Decide.{ℕ_discrete}
use native.Mathlib.Numerals.{add-one}
use native.Mathlib.Omega.{arith}
use mathlib.Core.Path.{◌≡◌, refl, sym, ap, ◌∙◌}
use mathlib.Core.Logic.{◌⊎◌, inl, inr}
use mathlib.Core.List.{List, [], ◌∷◌, ◌++◌, append_assoc, append-nil}
use lib.ListN.{length, get_or, drop, length-append, length-drop}
use lib.Seq.{take-length, drop-drop, drop_at}
use Rattle.words.specs.Rising.{Rises, span, nth}
use Rattle.words.specs.Words.{Words, at}
use Rattle.words.proofs.Rising.{span-length}
use Rattle.words.proofs.Words.{apart}
use Rattle.format.specs.Spans.{deep, row_table, node_table}
use Rattle.format.specs.Nodes.{Node, fork, leaf, table}
use Rattle.format.proofs.Groups.{table-root}
use Rattle.format.specs.Widths.{widest}
use Rattle.format.proofs.Widths.{widest-one}
use Rattle.format.proofs.Spans.{at-rises, ranked-rest, ranked-span, span-share, table_more, table_none, table-one, table-run}
use Rattle.descent.specs.Vocabulary.{RowFrom, Seeking, Sits, Sought, from, no_node, node, upto}

-- ---- the record at the front of what stands from v on

record RowHead (t : List Node) (v : ℕ) (x : Node) (rest : List Node) : Type 0 where
  is : get_or t v no_node ≡ x
  inside : v < length t
  tail : drop (suc v) t ≡ rest

headed : (t : List Node) (v : ℕ) (x : Node) (rest : List Node) → drop v t ≡ x ∷ rest → RowHead t v x rest
headed [] zero x rest e = absurd (let z : ◌≡◌ {A = ℕ} 0 1 = cc in omega arith)
headed [] (suc v) x rest e = absurd (let z : ◌≡◌ {A = ℕ} 0 1 = cc in omega arith)
headed (y ∷ t) zero x rest e = record { is = cc; inside = omega arith; tail = cc }
headed (y ∷ t) (suc v) x rest e =
    let h = headed t v x rest e in
    record { is = h.is; inside = omega (arith, h.inside); tail = h.tail }

module _ (ws : Words) where
  -- the record of a node of the names from lo up to hi, with what stands behind it
  pub record NodeTold (v lo hi led : ℕ) (behind : List Node) : Type 0 where
    pub inside : v < length (table ws)
    pub first : (node ws v).first ≡ lo
    pub names : (node ws v).names ≡ hi - lo
    pub symbol : (node ws v).symbol ≡ led
    pub nodes : (node ws v).nodes ≡ length (node_table lo led (span ws lo hi))
    pub width : (node ws v).width ≡ widest (span ws lo hi)
    pub leaf : suc lo ≡ hi → (node ws v).depth ≡ suc (length (nth ws lo))
    pub lone : suc lo ≡ hi → (node ws v).nodes ≡ 1
    pub fork : suc lo < hi → (node ws v).depth ≡ deep ws lo hi
    pub row : suc lo < hi → drop (v + 1) (table ws) ≡ row_table lo (deep ws lo hi) (span ws lo hi) ++ behind
    pub size : suc lo < hi → v + 1 + length (row_table lo (deep ws lo hi) (span ws lo hi)) ≡ v + (node ws v).nodes

  pub told : (v lo hi led : ℕ) (behind : List Node) → Rises ws → lo < hi → hi ≤ length ws
      → drop v (table ws) ≡ node_table lo led (span ws lo hi) ++ behind → NodeTold v lo hi led behind
  unfolding node
  told v lo hi led behind r a b e = go (eq-or-lt_of_le a)
    where
      go : (suc lo ≡ hi) ⊎ (suc lo < hi) → NodeTold v lo hi led behind
      go (inl k) =
          let t : node_table lo led (span ws lo hi) ≡ leaf lo led (nth ws lo) ∷ [] =
          ap (λ (j : ℕ). node_table lo led (span ws lo j)) (sym k) ∙ table-one ws led lo (omega arith) in
          let h = headed (table ws) v (leaf lo led (nth ws lo)) behind (e ∙ ap (λ (x : List Node). x ++ behind) t) in
          record {
            inside = h.inside;
            first = ap (λ (x : Node). x.first) h.is;
            names = ap (λ (x : Node). x.names) h.is ∙ omega arith;
            symbol = ap (λ (x : Node). x.symbol) h.is;
            nodes = ap (λ (x : Node). x.nodes) h.is ∙ sym (ap length t);
            width = ap (λ (x : Node). x.width) h.is ∙ sym (widest-one ws lo (omega arith)) ∙ ap (λ (j : ℕ). widest (span ws lo j)) k;
            leaf = λ _. ap (λ (x : Node). x.depth) h.is;
            lone = λ _. ap (λ (x : Node). x.nodes) h.is;
            fork = λ m. absurd (lt_irrefl hi (omega arith));
            row = λ m. absurd (lt_irrefl hi (omega arith));
            size = λ m. absurd (lt_irrefl hi (omega arith));
          }
      go (inr k) =
          let d : ℕ = deep ws lo hi in
          let kids : List Node = row_table lo d (span ws lo hi) in
          let t : node_table lo led (span ws lo hi) ≡ fork lo led d (span ws lo hi) kids ∷ kids = table_more ws led lo hi r k b in
          let h = headed (table ws) v (fork lo led d (span ws lo hi) kids) (kids ++ behind) (e ∙ ap (λ (x : List Node). x ++ behind) t) in
          let n : (node ws v).nodes ≡ suc (length kids) = ap (λ (x : Node). x.nodes) h.is in
          record {
            inside = h.inside;
            first = ap (λ (x : Node). x.first) h.is;
            names = ap (λ (x : Node). x.names) h.is ∙ span-length ws lo hi b;
            symbol = ap (λ (x : Node). x.symbol) h.is;
            nodes = n ∙ sym (ap length t);
            width = ap (λ (x : Node). x.width) h.is;
            leaf = λ m. absurd (lt_irrefl hi (omega arith));
            lone = λ m. absurd (lt_irrefl hi (omega arith));
            fork = λ _. ap (λ (x : Node). x.depth) h.is;
            row = λ _. rw add-one h.tail;
            size = λ _. omega arith;
          }

  pub record Seated (v lo hi led : ℕ) : Type 0 where
    pub sits : Sits ws v
    pub low : from ws v ≡ lo
    pub high : upto ws v ≡ hi
    pub symbol : (node ws v).symbol ≡ led
    pub nodes : (node ws v).nodes ≡ length (node_table lo led (span ws lo hi))

  pub seated : (v lo hi led : ℕ) (behind : List Node) → Rises ws → lo < hi → hi ≤ length ws
      → drop v (table ws) ≡ node_table lo led (span ws lo hi) ++ behind → Seated v lo hi led
  seated v lo hi led behind r a b e =
      let t = told v lo hi led behind r a b e in
      let f : from ws v ≡ lo = t.first in
      let u : upto ws v ≡ hi = omega (arith, t.first, t.names) in
      let s : (node ws v).symbol ≡ led = t.symbol in
      record {
        sits = record {
          some = omega arith;
          within = omega arith;
          inside = t.inside;
          ends = omega (arith, t.inside, t.nodes, ap length e, length-append (node_table lo led (span ws lo hi)) behind, length-drop v (table ws));
          behind = behind;
          stands = rw (s, u, f) e;
        };
        low = f;
        high = u;
        symbol = s;
        nodes = t.nodes;
      }

  pub root-sits : Rises ws → 0 < length ws → Seated 0 0 (length ws) 0
  root-sits r h =
      seated 0 0 (length ws) 0 [] r h (omega arith)
      (table-root ws ∙ ap (node_table 0 0) (sym (take-length ws)) ∙ sym (append-nil (node_table 0 0 (span ws 0 (length ws)))))

  module _ (r : Rises ws) where
    pub sits-told : {v : ℕ} → (s : Sits ws v) → NodeTold v (from ws v) (upto ws v) (node ws v).symbol s.behind
    sits-told {v} s = told v (from ws v) (upto ws v) (node ws v).symbol s.behind r s.some s.within s.stands

    -- a node whose record does not say one name has several
    pub several : {v : ℕ} → Sits ws v → ((node ws v).names ≡ 1 → ⊥) → suc (from ws v) < upto ws v
    several {v} s n = go (eq-or-lt_of_le s.some)
      where
        go : (suc (from ws v) ≡ upto ws v) ⊎ (suc (from ws v) < upto ws v) → suc (from ws v) < upto ws v
        go (inl e) = absurd (n (omega arith))
        go (inr h) = h

    -- ---- rows

    pub kids : {v : ℕ} → Sits ws v → suc (from ws v) < upto ws v → RowFrom ws (node ws v).depth (v + 1) (from ws v) (upto ws v) (v + (node ws v).nodes)
    kids {v} s a =
        let t = sits-told s in
        let lo : ℕ = from ws v in
        let hi : ℕ = upto ws v in
        rw (t.fork a) (record {
          order = omega arith;
          within = s.within;
          limit = s.ends;
          row = ranked-span ws lo hi r a s.within;
          climbs = λ i k l m h. at-rises ws r (deep ws lo hi) i k m (omega (arith, s.within)) (span-share ws r lo hi i k s.within l (omega arith) (omega arith) h);
          behind = s.behind;
          stands = t.row a;
          size = t.size a;
        })

    -- where the run of names from lo on with one symbol at d ends
    record RowRun (d lo hi m : ℕ) : Type 0 where
      past : lo < m
      upon : m ≤ hi
      same : at (nth ws (pred m)) d ≡ at (nth ws lo) d
      other : m < hi → at (nth ws m) d ≡ at (nth ws lo) d → ⊥

    run-to : (d lo hi k m : ℕ) → m + k ≡ hi → lo < m → at (nth ws (pred m)) d ≡ at (nth ws lo) d → (n : ℕ) × RowRun d lo hi n
    run-to d lo hi zero m e l s = (m, record { past = l; upon = omega arith; same = s; other = λ h. absurd (lt_irrefl m (omega arith)) })
    run-to d lo hi (suc k) m e l s = elim (ℕ_discrete (at (nth ws m) d) (at (nth ws lo) d)) [
      | yes f ↦ run-to d lo hi k (suc m) (omega arith) (omega arith) f
      | no n ↦ (m, record { past = l; upon = omega arith; same = s; other = λ h. n })
    ]

    -- the child at record c: the names of the row that have its first symbol
    pub record Kid (d c mid hi stop : ℕ) : Type 0 where
      pub sits : Sits ws c
      pub low : from ws c ≡ mid
      pub high : upto ws c ≤ hi
      pub led : (node ws c).symbol ≡ at (nth ws mid) d
      pub run : (i : ℕ) → mid ≤ i → i < upto ws c → at (nth ws i) d ≡ at (nth ws mid) d
      pub beyond : (i : ℕ) → upto ws c ≤ i → i < hi → at (nth ws mid) d < at (nth ws i) d
      pub some : 0 < (node ws c).nodes
      pub rest : RowFrom ws d (c + (node ws c).nodes) (upto ws c) hi stop

    -- a node's table is not empty
    table-some : (s lo hi : ℕ) → lo < hi → hi ≤ length ws → 0 < length (node_table lo s (span ws lo hi))
    table-some s lo hi a b = go (eq-or-lt_of_le a)
      where
        go : (suc lo ≡ hi) ⊎ (suc lo < hi) → 0 < length (node_table lo s (span ws lo hi))
        go (inl e) = omega (arith, ap length (ap (λ (j : ℕ). node_table lo s (span ws lo j)) (sym e) ∙ table-one ws s lo (omega arith)))
        go (inr k) = omega (arith, ap length (table_more ws s lo hi r k b))

    pub row-end : {d c mid hi stop : ℕ} → RowFrom ws d c mid hi stop → stop ≤ c → mid ≡ hi
    row-end {d} {c} {mid} {hi} {stop} f h = go (eq-or-lt_of_le f.order)
      where
        go : (mid ≡ hi) ⊎ (mid < hi) → mid ≡ hi
        go (inl e) = e
        go (inr l) =
            let n = run-to d mid hi (hi - suc mid) (suc mid) (omega arith) (omega arith) refl in
            let t : row_table mid d (span ws mid hi) ≡ node_table mid (at (nth ws mid) d) (span ws mid n.0) ++ row_table n.0 d (span ws n.0 hi) = table-run ws d mid n.0 hi n.1.past n.1.upon f.within f.row n.1.same n.1.other in
            absurd (lt_irrefl stop (omega (
              arith,
              f.size,
              ap length t,
              length-append (node_table mid (at (nth ws mid) d) (span ws mid n.0)) (row_table n.0 d (span ws n.0 hi)),
              table-some (at (nth ws mid) d) mid n.0 n.1.past (omega (arith, n.1.upon, f.within)),
            )))

    -- a leaf is the node of one name, and a node alone
    pub one-node : {v : ℕ} → Sits ws v → (node ws v).names ≡ 1 → (node ws v).nodes ≡ 1
    one-node s e = (sits-told s).lone (omega arith)

    pub one_name_lem : {v : ℕ} → Sits ws v → (node ws v).nodes < 2 → (node ws v).names ≡ 1
    one_name_lem {v} s h = go (eq-or-lt_of_le s.some)
      where
        go : (suc (from ws v) ≡ upto ws v) ⊎ (suc (from ws v) < upto ws v) → (node ws v).names ≡ 1
        go (inl e) = omega arith
        go (inr a) = absurd (lt_irrefl (upto ws v) (omega (arith, row-end (kids s a) (omega arith))))

    pub row-kid : {d c mid hi stop : ℕ} → RowFrom ws d c mid hi stop → c < stop → Kid d c mid hi stop
    row-kid {d} {c} {mid} {hi} {stop} f h = go (eq-or-lt_of_le f.order)
      where
        go : (mid ≡ hi) ⊎ (mid < hi) → Kid d c mid hi stop
        go (inl e) = absurd (lt_irrefl c (omega (arith, f.size, ap length (ap (λ (j : ℕ). row_table mid d (span ws mid j)) (sym e) ∙ table_none ws d mid))))
        go (inr l) = kid (run-to d mid hi (hi - suc mid) (suc mid) (omega arith) (omega arith) refl)
          where
            greater : (x : ℕ) → (x ≡ at (nth ws mid) d → ⊥) → at (nth ws mid) d ≤ x → at (nth ws mid) d < x
            greater x no_eq le = elim (ℕ_discrete x (at (nth ws mid) d)) [ yes e ↦ absurd (no_eq e) | no n ↦ omega arith ]

            kid : (n : ℕ) × RowRun d mid hi n → Kid d c mid hi stop
            kid (n, g) =
                let s : ℕ = at (nth ws mid) d in
                let own : List Node = node_table mid s (span ws mid n) in
                let more : List Node = row_table n d (span ws n hi) in
                let past : mid < n = g.past in
                let upon : n ≤ hi = g.upon in
                let in_all : hi ≤ length ws = f.within in
                let t : row_table mid d (span ws mid hi) ≡ own ++ more = table-run ws d mid n hi past upon in_all f.row g.same g.other in
                let e : drop c (table ws) ≡ own ++ (more ++ f.behind) = f.stands ∙ ap (λ (x : List Node). x ++ f.behind) t ∙ append_assoc own more f.behind in
                let a = told c mid n s (more ++ f.behind) r past (omega arith) e in
                let b = seated c mid n s (more ++ f.behind) r past (omega arith) e in
                let u : upto ws c ≡ n = b.high in
                let k : (node ws c).nodes ≡ length own = a.nodes in
                record {
                  sits = b.sits;
                  low = b.low;
                  high = omega arith;
                  led = b.symbol;
                  run = λ i x y. omega (arith, f.climbs mid i (omega arith) x (omega arith), f.climbs i (pred n) x (omega arith) (omega arith), g.same);
                  beyond = λ i x y. omega (arith, greater (at (nth ws n) d) (g.other (omega arith)) (f.climbs mid n (omega arith) (omega arith) (omega arith)), f.climbs n i (omega arith) (omega arith) y);
                  some = omega (arith, table-some s mid n past (omega arith));
                  rest = record {
                    order = omega arith;
                    within = in_all;
                    limit = f.limit;
                    row = ranked-rest ws d mid (upto ws c) hi (omega arith) (omega arith) in_all f.row;
                    climbs = λ i j x y z. f.climbs i j (omega arith) y z;
                    behind = f.behind;
                    stands = rw u (rw k (sym (drop-drop (length own) c (table ws)) ∙ ap (drop (length own)) e ∙ drop_at own (more ++ f.behind) (length own) refl));
                    size = rw u (omega (arith, f.size, ap length t, length-append own more));
                  };
                }

    -- ---- the walk along a row

    module _ {v s : ℕ} where
      pub seek-start : Sits ws v → ((node ws v).names ≡ 1 → ⊥) → Seeking ws v s (v + 1)
      seek-start z n = record { mid = from ws v; low = omega arith; below = λ i l h. absurd (lt_irrefl i (omega arith)); row = kids z (several z n) }

      module _ {c : ℕ} (k : Seeking ws v s c) where
        pub seek-end : v + (node ws v).nodes ≤ c → Sought ws v s c
        seek-end h =
            let e : k.mid ≡ upto ws v = row-end k.row h in
            record {
              mid = k.mid;
              cut = record { low = k.low; high = omega arith; below = k.below; above = λ i l m. absurd (lt_irrefl i (omega arith)) };
              row = k.row;
            }

        module _ (h : c < v + (node ws v).nodes) where
          pub seek-some : 0 < (node ws c).nodes
          seek-some = (row-kid k.row h).some

          pub seek_stop : c + (node ws c).nodes ≤ v + (node ws v).nodes
          seek_stop = omega (arith, (row-kid k.row h).rest.size)

          pub seek_found : s ≤ (node ws c).symbol → Sought ws v s c
          seek_found g =
              let j = row-kid k.row h in
              record {
                mid = k.mid;
                cut = record {
                  low = k.low;
                  high = k.row.order;
                  below = k.below;
                  above = λ i l m. omega (arith, j.led, k.row.climbs k.mid i (omega arith) l m);
                };
                row = k.row;
              }

          pub seek-more : (node ws c).symbol < s → {y : ℕ} → y ≡ (node ws c).nodes → Seeking ws v s (c + y)
          seek-more g e =
              let j = row-kid k.row h in
              record {
                mid = upto ws c;
                low = omega (arith, k.low, j.low);
                below = λ i l m. passed j i l m (apart i k.mid);
                row = rw e j.rest;
              }
            where
              passed : Kid (node ws v).depth c k.mid (upto ws v) (v + (node ws v).nodes) → (i : ℕ) → from ws v ≤ i → i < upto ws c
                  → (i < k.mid) ⊎ (k.mid ≤ i) → at (nth ws i) (node ws v).depth < s
              passed j i l m (inl x) = k.below i l x
              passed j i l m (inr x) = omega (arith, j.run i x m, j.led)
