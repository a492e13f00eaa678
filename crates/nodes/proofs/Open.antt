-- Laws of the open nodes.
--     node_by            a record by its numbers
--     deep-down         the depth of a span that begins one name earlier
--     shares-part       two neighbours differ where they part
--     open-depth, open-within, open-few    bounds
--     cur-leaf          a name by itself
--     cur-close         the top frame is a whole node, with its record in front
--     cur-push, cur-keep, cur-all    on to the name before, or to the whole table
-- Assumes nothing.
use Prim.Native.Nat.{ℕ, suc, pred, ◌+◌, ◌*◌, ◌≤◌, ◌<◌, zero-le, min, ◌-◌, max}
use native.Mathlib.Nat.{eq-or-lt_of_le, lt_irrefl}
use native.Mathlib.Omega.{arith}
use mathlib.Core.Path.{◌≡◌, refl, sym, ap, ap₂, ◌∙◌, subst}
use mathlib.Core.Logic.{◌⊎◌, inl, inr}
use mathlib.Core.List.{List, ◌++◌, append_assoc, ◌∷◌, [], append-nil}
use lib.ListN.{length, length-append}
use lib.Seq.{take-length}
use Rattle.words.specs.Rising.{Rises, span, nth}
use Rattle.words.specs.Words.{Words, at, shared}
use Rattle.words.proofs.Rising.{nth-less, nth-positive, span-length}
use Rattle.words.proofs.Words.{between, less-parts, less-short, shared_at, shared-comm, shared-le, shared-self, shared-trans}
use Rattle.format.specs.Spans.{deep, row_table, Ranked, node_table}
use Rattle.format.specs.Nodes.{Node, fork, leaf, table}
use Rattle.format.specs.Widths.{widest}
use Rattle.format.proofs.Groups.{row-few, table-root}
use Rattle.format.proofs.Widths.{widest-one, widest-span}
use Rattle.format.proofs.Spans.{ranked-rest, ranked-span, ranked-within, span-few, table_more, table_none, table-one, table-run}
use Rattle.frames.specs.declared.Frame.{Frame}
use Rattle.frames.specs.Frames.{depth_in, end_in, mark_in, raised, width_in, with_frame}
use Rattle.frames.proofs.Frames.{SameFrame, frame_below, frame-raised, width-below, width-other, width-raised, with-depth, with-end, with-mark, with-width}
use Rattle.nodes.specs.Open.{Cur, Open, more, none, shares_at, symbol_of}

-- a record by its numbers
abbrev pub node_by : ℕ → ℕ → ℕ → ℕ → ℕ → ℕ → Node
node_by s d f n m w = record { symbol = s; depth = d; first = f; names = n; nodes = m; width = w }

-- ---- words

module _ (ws : Words) (r : Rises ws) where
  -- the depth of a span that begins one name earlier
  pub deep-down : (j e : ℕ) → suc j < e → e ≤ length ws → deep ws j e ≡ min (shares_at ws (suc j)) (deep ws (suc j) e)
  unfolding deep
  deep-down j e h l = go (eq-or-lt_of_le h)
    where
      x : List ℕ
      x = nth ws j

      y : List ℕ
      y = nth ws (suc j)

      go : (suc (suc j) ≡ e) ⊎ (suc (suc j) < e) → shared (nth ws j) (nth ws (pred e)) ≡ min (shared (nth ws j) (nth ws (suc j))) (shared (nth ws (suc j)) (nth ws (pred e)))
      go (inl f) =
          let p : pred e ≡ suc j = omega arith in
          rw p (omega (arith, shared-self (nth ws (suc j)), shared-comm (nth ws j) (nth ws (suc j)), shared-le (nth ws (suc j)) (nth ws j)))
      go (inr k) =
          let z : List ℕ = nth ws (pred e) in
          let a : List ℕ = nth ws j in
          let b : List ℕ = nth ws (suc j) in
          let low : shared a z ≤ shared a b = between a b z (nth-less ws j (suc j) r (omega arith) (omega arith)) (nth-less ws (suc j) (pred e) r (omega arith) (omega arith)) in
          let up : shared a z ≤ shared b z = shared-trans b a z (shared a z) (omega (arith, shared-comm b a)) (omega arith) in
          let back : min (shared a b) (shared b z) ≤ shared a z = shared-trans a b z (min (shared a b) (shared b z)) (omega arith) (omega arith) in
          omega arith

  -- neighbours differ where they part
  pub shares-part : (c : ℕ) → 0 < c → c < length ws → at (nth ws c) (shares_at ws c) ≡ at (nth ws (pred c)) (shares_at ws c) → ⊥
  shares-part c a b e =
      less-parts (nth ws (pred c)) (nth ws c) (nth-positive ws (pred c) r) (nth-positive ws c r) (nth-less ws (pred c) c r (omega arith) b) e

  -- the words of a span agree in the symbols before its depth
  same-symbol : (j c d : ℕ) → j < c → c ≤ length ws → (suc j < c → d < deep ws j c) → at (nth ws (pred c)) d ≡ at (nth ws j) d
  unfolding deep
  same-symbol j c d a b h = go (eq-or-lt_of_le a)
    where
      go : (suc j ≡ c) ⊎ (suc j < c) → at (nth ws (pred c)) d ≡ at (nth ws j) d
      go (inl e) = let p : pred c ≡ j = omega arith in ap (λ (i : ℕ). at (nth ws i) d) p
      go (inr k) = sym (shared_at (nth ws j) (nth ws (pred c)) d (h k))

  -- what a name shares with the one before is less than what the names of its node share
  deep-beyond : (j c : ℕ) → 0 < j → j < c → c ≤ length ws → (suc j < c → shares_at ws j < deep ws j c) → shares_at ws j < deep ws j c
  unfolding deep
  deep-beyond j c h a b l = go (eq-or-lt_of_le a)
    where
      go : (suc j ≡ c) ⊎ (suc j < c) → shares_at ws j < shared (nth ws j) (nth ws (pred c))
      go (inl e) =
          let p : pred c ≡ j = omega arith in
          rw p (omega (arith, shared-self (nth ws j), less-short (nth ws (pred j)) (nth ws j) (nth-less ws (pred j) j r (omega arith) (omega arith))))
      go (inr k) = l k

  module _ (frames : List Frame) where
    -- a row from j on whose first child is the node of names j to c, and then those from c on
    join : (j c d e : ℕ) (rest : List Node) → j < c → c ≤ e → e ≤ length ws → Ranked d (span ws j e) → (suc j < c → d < deep ws j c) → (c < e → shares_at ws c ≡ d)
        → node_table j (at (nth ws j) d) (span ws j c) ++ (row_table c d (span ws c e) ++ rest) ≡ row_table j d (span ws j e) ++ rest
    join j c d e rest a b l k h s =
        let same : at (nth ws (pred c)) d ≡ at (nth ws j) d = same-symbol j c d a (omega arith) h in
        sym (append_assoc (node_table j (at (nth ws j) d) (span ws j c)) (row_table c d (span ws c e)) rest)
        ∙ ap (λ (x : List Node). x ++ rest) (sym (table-run ws d j c e a b l k same other))
      where
        other : c < e → at (nth ws c) d ≡ at (nth ws j) d → ⊥
        other m f =
            let g : shares_at ws c ≡ d = s m in
            shares-part c (omega arith) (omega arith)
            (subst (λ (x : ℕ). at (nth ws c) x ≡ at (nth ws (pred c)) x) (sym g) (f ∙ sym (same-symbol j c d a (omega arith) h)))

    -- ---- bounds

    pub open-depth : depth_in frames 0 ≡ 0 → {j t c : ℕ} {rest : List Node} → Open ws frames j t c rest → t ≤ depth_in frames t
    open-depth z (none e) = zero-le
    open-depth z (more d v e m l a b s g o) = omega (arith, open-depth z o)

    pub open-within : {j t c : ℕ} {rest : List Node} → Open ws frames j t c rest → c ≤ length ws
    open-within (none e) = omega arith
    open-within (more d v e m l a b s g o) = omega arith

    -- as many records as twice the names, at most
    pub open-few : {j t c : ℕ} {rest : List Node} → Open ws frames j t c rest → j < c → length rest + 2 * c ≤ 2 * length ws
    open-few (none e) h = omega arith
    open-few {j = j} {c = c} (more {d = d} {e = e} {rest = rest} p v q m l a b s g o) h =
        let k : Ranked d (span ws j e) = subst (λ (x : ℕ). Ranked x (span ws j e)) g (ranked-span ws j e r (omega arith) b) in
        omega (
          arith,
          open-few o (omega arith),
          length-append (row_table c d (span ws c e)) rest,
          row-few c d (span ws c e) (ranked-rest ws d j c e (omega arith) (omega arith) b k),
          span-length ws c e b,
        )

    -- ---- to the name before

    -- frames that are no deeper than where name j parts from the one before hold that one too
    open-down : (j : ℕ) → 0 < j → {t c : ℕ} {rest : List Node} → Open ws frames j t c rest → j < c → depth_in frames t ≤ suc (shares_at ws j)
        → Open ws frames (pred j) t c rest
    open-down j z (none e) h l = none e
    open-down j z (more {t = t} {d = d} {e = e} p v q m k a b s g o) h l =
        let f : suc (pred j) ≡ j = omega arith in
        let down : deep ws (pred j) e ≡ d =
        deep-down (pred j) e (omega arith) b ∙ ap (λ (i : ℕ). min (shares_at ws i) (deep ws i e)) f ∙ omega arith in
        more p v q m k a b s down (open-down j z o (omega arith) (omega arith))

    -- what is stored in frames from number i on does not touch those below
    open-other : (others : List Frame) (i : ℕ) → ((t : ℕ) → t < i → SameFrame frames others t) → ((t : ℕ) → t < i → width_in others t ≡ width_in frames t)
        → {j t c : ℕ} {rest : List Node} → Open ws frames j t c rest → t < i → Open ws others j t c rest
    open-other others i same wide (none e) l = none e
    open-other others i same wide (more {t = t} p v q m k a b s g o) l =
        let f = same (suc t) l in
        more (f.depth ∙ p) (wide (suc t) l ∙ v) (f.end ∙ q) (f.mark ∙ m) (omega (arith, (same t (omega arith)).depth)) a b s g (open-other others i same wide o (omega arith))

    -- ---- the node at hand

    -- a name by itself
    pub cur-leaf : {j top : ℕ} {rest : List Node} (left : ℕ) → Open ws frames j top (suc j) rest
        → Cur ws frames j left top (suc j) (length rest) (length (nth ws j)) (leaf j (symbol_of (max left (depth_in frames top)) (nth ws j)) (nth ws j) ∷ rest)
    cur-leaf {j} {top} {rest} left o = record {
      rest = rest;
      open-rows = o;
      some = omega arith;
      is = ap (λ (x : List Node). x ++ rest) (sym (table-one ws (symbol_of (max left (depth_in frames top)) (nth ws j)) j (open-within o)));
      behind = refl;
      wide = sym (widest-one ws j (open-within o));
      below = λ h. absurd (lt_irrefl (suc j) h);
    }

    module _ {j left top c mark width : ℕ} {done : List Node} (k : Cur ws frames j left top c mark width done) where
      pub cur-few : length done + 2 * j < 2 * length ws
      cur-few =
          let node : List Node = node_table j (symbol_of (max left (depth_in frames top)) (nth ws j)) (span ws j c) in
          omega (
            arith,
            ap length k.is,
            length-append node k.rest,
            span-few ws (symbol_of (max left (depth_in frames top)) (nth ws j)) j c r k.some (open-within k.open-rows),
            open-few k.open-rows k.some,
          )

      -- in front of the top frame's rows it is the first of its row
      row_of : (d e : ℕ) (rest : List Node) → depth_in frames top ≡ suc d → left ≤ suc d
          → done ≡ node_table j (symbol_of (max left (depth_in frames top)) (nth ws j)) (span ws j c) ++ (row_table c d (span ws c e) ++ rest)
          → c < e → e ≤ length ws → shares_at ws c ≡ d → deep ws j e ≡ d → done ≡ row_table j d (span ws j e) ++ rest
      row_of d e rest p l i a b s g =
          let q : max left (depth_in frames top) ≡ suc d = omega arith in
          let some : j < c = k.some in
          i ∙ ap (λ (x : ℕ). node_table j (symbol_of x (nth ws j)) (span ws j c) ++ (row_table c d (span ws c e) ++ rest)) q
          ∙ join j c d e rest some (omega arith) b (subst (λ (x : ℕ). Ranked x (span ws j e)) g (ranked-span ws j e r (omega arith) b))
          (λ h. omega (arith, k.below h)) (λ h. s)

      -- the greatest length of the node's names with those of the top frame's rows
      wider : (e : ℕ) → width_in frames top ≡ widest (span ws c e) → c < e → e ≤ length ws → max width (width_in frames top) ≡ widest (span ws j e)
      wider e v a b = let some : j < c = k.some in omega (arith, k.wide, widest-span ws j c e (omega arith) (omega arith) b)

      -- what the top frame's numbers are where it is deeper than left
      pub record Closes : Type 0 where
        pub some : 0 < top
        pub end-behind : c < end_in frames top
        pub end-within : end_in frames top ≤ length ws
        pub mark-behind : mark_in frames top ≤ length done
        pub next : Cur ws frames j left (top - 1) (end_in frames top) (mark_in frames top) (max width (width_in frames top))
            (node_by (symbol_of (max left (depth_in frames (top - 1))) (nth ws j)) (depth_in frames top - 1) j (end_in frames top - j) (length done - mark_in frames top + 1)
            (max width (width_in frames top)) ∷ done)

      pub cur-close : depth_in frames 0 ≡ 0 → left < depth_in frames top → Closes
      cur-close z h = go top refl k.open-rows k.is
        where
          go : (n : ℕ) {rest : List Node} → n ≡ top → Open ws frames j n c rest
              → done ≡ node_table j (symbol_of (max left (depth_in frames top)) (nth ws j)) (span ws j c) ++ rest → Closes
          go n e (none f) i = absurd (lt_irrefl left (omega (arith, ap (λ (x : ℕ). depth_in frames x) e)))
          go n e (more {t = t} {d = d} {e = f} {rest = rest} p v q m l a b s g o) i =
              let p' : depth_in frames top ≡ suc d = ap (λ (x : ℕ). depth_in frames x) (sym e) ∙ p in
              let q' : end_in frames top ≡ f = ap (λ (x : ℕ). end_in frames x) (sym e) ∙ q in
              let m' : mark_in frames top ≡ length rest = ap (λ (x : ℕ). mark_in frames x) (sym e) ∙ m in
              let t' : top - 1 ≡ t = omega arith in
              let some : j < c = k.some in
              let w' : max width (width_in frames top) ≡ widest (span ws j f) = wider f (ap (λ (x : ℕ). width_in frames x) (sym e) ∙ v) (omega arith) b in
              let row : List Node = row_table j d (span ws j f) in
              let whole : done ≡ row ++ rest = row_of d f rest p' (omega arith) i a b s g in
              let sym-of : ℕ = symbol_of (max left (depth_in frames t)) (nth ws j) in
              let size : length done ≡ length row + length rest = ap length whole ∙ length-append row rest in
              let tab : node_table j sym-of (span ws j f) ≡ fork j sym-of d (span ws j f) row ∷ row =
              table_more ws sym-of j f r (omega arith) b ∙ ap (λ (x : ℕ). fork j sym-of x (span ws j f) (row_table j x (span ws j f)) ∷ row_table j x (span ws j f)) g in
              let rec : Node = node_by sym-of d j (f - j) (suc (length row)) (widest (span ws j f)) in
              let is-fork : ◌≡◌ {A = Node} rec (fork j sym-of d (span ws j f) row) = ap (λ (x : ℕ). node_by sym-of d j x (suc (length row)) (widest (span ws j f))) (sym (span-length ws j f b)) in
              let fields : node_by (symbol_of (max left (depth_in frames (top - 1))) (nth ws j)) (depth_in frames top - 1) j (end_in frames top - j) (length done - mark_in frames top + 1) (max width (width_in frames top)) ≡ rec =
              same_numbers (ap (λ (x : ℕ). symbol_of (max left (depth_in frames x)) (nth ws j)) t') (omega arith) (omega arith) (omega arith) w' in
              record {
                some = omega arith;
                end-behind = omega arith;
                end-within = omega arith;
                mark-behind = omega arith;
                next = rw (t', q', m') (record {
                  rest = rest;
                  open-rows = o;
                  some = omega arith;
                  is = cc;
                  behind = refl;
                  wide = w';
                  below = λ y. omega arith;
                });
              }
            where
              same_numbers : {a b c d e f g h u v : ℕ} → a ≡ b → c ≡ d → e ≡ f → g ≡ h → u ≡ v → node_by a c j e g u ≡ node_by b d j f h v
              same_numbers x y z w q = rw (x, y, z, w, q) refl

      -- on to the name before: a new frame, for a node that name j shares with it and with no frame yet
      pub cur-push : 0 < j → left ≡ suc (shares_at ws j) → depth_in frames top < left → suc top < length frames
          → Open ws (with_frame frames (suc top) left width c mark) (pred j) (suc top) j done
      cur-push h e l x =
          let d : ℕ = shares_at ws j in
          let some : j < c = k.some in
          let within : c ≤ length ws = open-within k.open-rows in
          let f : suc (pred j) ≡ j = omega arith in
          let q : max left (depth_in frames top) ≡ suc d = omega arith in
          let beyond : d < deep ws j c = deep-beyond j c h some within (λ m. omega (arith, k.below m)) in
          let down : deep ws (pred j) c ≡ d =
          deep-down (pred j) c (omega arith) within ∙ ap (λ (i : ℕ). min (shares_at ws i) (deep ws i c)) f ∙ omega (arith, beyond) in
          let whole : done ≡ row_table j d (span ws j c) ++ k.rest =
          k.is ∙ ap (λ (i : ℕ). node_table j (symbol_of i (nth ws j)) (span ws j c) ++ k.rest) q
          ∙ ap (λ (i : List Node). node_table j (at (nth ws j) d) (span ws j c) ++ (i ++ k.rest)) (sym (table_none ws d c))
          ∙ join j c d c k.rest some (omega arith) within (ranked-within ws r d j c some within (omega (arith, beyond))) (λ m. omega (arith, k.below m)) (λ m. absurd (lt_irrefl c m)) in
          let pushed : List Frame = with_frame frames (suc top) left width c mark in
          subst (Open ws pushed (pred j) (suc top) j) (sym whole)
          (more (with-depth frames (suc top) left width c mark x ∙ e) (with-width frames (suc top) left width c mark x ∙ k.wide) (with-end frames (suc top) left width c mark x)
          (with-mark frames (suc top) left width c mark x ∙ k.behind) (omega (arith, (frame_below frames (suc top) left width c mark top (omega arith)).depth)) some within refl down
          (open-other pushed (suc top) (λ i l. frame_below frames (suc top) left width c mark i l) (λ i l. width-below frames (suc top) left width c mark i l)
          (open-down j h k.open-rows some (omega arith)) (omega arith)))

      -- on to the name before, which the top frame's node holds too
      pub cur-keep : depth_in frames 0 ≡ 0 → 0 < j → left ≡ suc (shares_at ws j) → depth_in frames top ≡ left → top < length frames
          → Open ws (raised frames top width) (pred j) top j done
      cur-keep z h e l room = go top refl k.open-rows k.is
        where
          go : (n : ℕ) {rest : List Node} → n ≡ top → Open ws frames j n c rest
              → done ≡ node_table j (symbol_of (max left (depth_in frames top)) (nth ws j)) (span ws j c) ++ rest → Open ws (raised frames top width) (pred j) top j done
          go n f (none g) i = absurd (lt_irrefl 0 (omega (arith, z, ap (λ (x : ℕ). depth_in frames x) f)))
          go n f (more {t = t} {d = d} {e = x} {rest = rest} p v q m u a b s g o) i =
              let p' : depth_in frames top ≡ suc d = ap (λ (y : ℕ). depth_in frames y) (sym f) ∙ p in
              let some : j < c = k.some in
              let back : suc (pred j) ≡ j = omega arith in
              let step : shares_at ws j ≡ d = omega arith in
              let down : deep ws (pred j) x ≡ d =
              deep-down (pred j) x (omega arith) b ∙ ap (λ (y : ℕ). min (shares_at ws y) (deep ws y x)) back ∙ omega arith in
              let whole : done ≡ row_table j d (span ws j x) ++ rest = row_of d x rest p' (omega arith) i a b s g in
              let grown : List Frame = raised frames top width in
              let same = frame-raised frames top width in
              let wide : width_in grown (suc t) ≡ widest (span ws j x) =
              ap (width_in grown) f ∙ width-raised frames top width room ∙ wider x (ap (λ (y : ℕ). width_in frames y) (sym f) ∙ v) (omega arith) b in
              subst (λ (y : ℕ). Open ws grown (pred j) y j done) f
              (subst (Open ws grown (pred j) (suc t) j) (sym whole)
              (more ((same (suc t)).depth ∙ p) wide ((same (suc t)).end ∙ q) ((same (suc t)).mark ∙ m) (omega (arith, (same t).depth)) (omega arith) b step down
              (open-other grown (suc t) (λ i y. same i) (λ i y. width-other frames top width i (omega arith)) (open-down j h o (omega arith) (omega arith)) (omega arith))))

      -- the first name: the whole table
      pub cur-all : depth_in frames 0 ≡ 0 → j ≡ 0 → left ≡ 0 → depth_in frames top ≤ left → done ≡ table ws
      cur-all z h e l = go top refl k.open-rows k.is
        where
          go : (n : ℕ) {rest : List Node} → n ≡ top → Open ws frames j n c rest
              → done ≡ node_table j (symbol_of (max left (depth_in frames top)) (nth ws j)) (span ws j c) ++ rest → done ≡ table ws
          go n f (none g) i =
              let q : max left (depth_in frames top) ≡ 0 = omega arith in
              i ∙ ap (λ (x : ℕ). node_table j (symbol_of x (nth ws j)) (span ws j c) ++ []) q ∙ append-nil (node_table j 0 (span ws j c))
              ∙ ap₂ (λ (x y : ℕ). node_table x 0 (span ws x y)) h g ∙ ap (node_table 0 0) (take-length ws) ∙ sym (table-root ws)
          go n f (more {t = t} p v q m u a b s g o) i = absurd (lt_irrefl 0 (omega (arith, ap (λ (x : ℕ). depth_in frames x) f)))
