-- The whole table: the answer at the root as an equation about bytes.
--     stream-modest                         names out of bytes are short, and their symbols small
--     table-nothing, table-short            no names; no room for a record
--     table-span                            how far it is over so many nodes
--     table-room                            there is room for the root's record
--     table-symbol, table-first, table-names, table-nodes     the root's record is another
--     table-leaf, table-asks, table-said    one name; several
-- Assumes nothing.
use Prim.Native.Nat.{ℕ, pred, ◌+◌, ◌-◌, ◌*◌, ◌≤◌, ◌<◌}
use native.Mathlib.Nat.{lt_irrefl}
use native.Mathlib.Omega.{arith}
use mathlib.Core.Path.{◌≡◌, refl, sym, ap, ap₂, ◌∙◌, subst}
use mathlib.Core.Bool.{Bool, true, false, not}
use mathlib.Core.List.{List, [], ◌∷◌, map}
use lib.Dec.{eqb}
use lib.ListN.{length, get_or, take, drop, length-append, length-take, length-drop, length-map, take-append-drop}
use lib.Seq.{slice, slice_empty, length-slice, take-length}
use borrow.Author.Tests.{eqb-true, eqb-false, eq-eqb}
use Rattle.words.specs.Rising.{All, cons, nil, span, Sure}
use Rattle.words.specs.Words.{Bytes, InBytes, Rule, Words, same, word}
use Rattle.words.proofs.Lists.{all_append, all_right}
use Rattle.words.proofs.Words.{false≠true, same_refl, same_true, sure-lawful}
use Rattle.format.specs.Columns.{columns}
use Rattle.format.specs.Forms.{laid_out}
use Rattle.format.specs.Kinds.{Columns, Form, Rows, form_of, kind_of, rule_in}
use Rattle.format.specs.Spans.{words_in, words_of, node_table}
use Rattle.format.specs.Book.{names_of, numbers, told}
use Rattle.format.specs.Nodes.{Node, all_fields, field_count, node_size, table, table_within}
use Rattle.format.specs.Records.{longest}
use Rattle.format.proofs.Book.{laid-length}
use Rattle.format.proofs.BookKinds.{kind-sure}
use Rattle.format.proofs.Groups.{table-root}
use Rattle.format.proofs.Numbers.{bytes-all, take-bytes, word-high}
use Rattle.format.proofs.Small.{Modest, table-small}
use Rattle.numbers.proofs.Parts.{Held, held_bytes}
use Rattle.streams.specs.Streams.{Here, Stream, done, entry, length_at, offset_from}
use Rattle.streams.proofs.Here.{first-low, words_count}
use Rattle.standing.specs.Maps.{Map, Paced, Roomy, map_by, map_in, map_of, record_at}
use Rattle.standing.specs.Stands.{NodeAt, Stands}
use Rattle.standing.proofs.FormBytes.{bytes-form, form-bytes}
use Rattle.standing.proofs.Maps.{strides-differ, strides-most}
use Rattle.standing.proofs.Records.{stands-end}
use Rattle.standing.proofs.Walk.{NodeHead, node-head}
use Rattle.looks.specs.Looks.{LeafSays}
use Rattle.inspect.specs.Check.{NodeAsk, NodeSays, TableAsk, is_nodes}
use Rattle.inspect.proofs.Nodes.{leaf-not, leaf-stands}

-- ---- names out of bytes are modest

abbrev OnlyBytes : Bytes → Type 0
OnlyBytes x = All (λ c. c < 256) x

drop-bytes : (n : ℕ) (s : Bytes) → OnlyBytes s → OnlyBytes (drop n s)
drop-bytes n s a = all_right (take n s) (drop n s) (subst OnlyBytes (sym (take-append-drop n s)) a)

pub stream-modest : (ρ : Rule) → Sure ρ → {b prev : Bytes} {o : ℕ} {xs : List Bytes} → OnlyBytes b → OnlyBytes prev → Stream b o prev xs → All Modest (map (word ρ) xs)
stream-modest ρ lw hb hp done = nil
stream-modest ρ lw {b} {prev} {o} hb hp (entry {x = x} a e t) =
    let hx : OnlyBytes x = subst OnlyBytes e (all_append (take-bytes (get_or b o 0) prev hp) (take-bytes (get_or b (o + 1) 0) (drop (o + 2) b) (drop-bytes (o + 2) b hb))) in
    let l : length x ≤ longest = subst (λ (y : Bytes). length y ≤ longest) e (simp (length-append, length-take, length-drop) (omega (arith, a.short))) in
    cons {a = word ρ x} (record { short = omega (arith, length-map x ρ); symbols = λ d. word-high ρ (sure-lawful lw) x hx d }) (stream-modest ρ lw hb hx t)

-- ---- the equation

nil-of : (l : Words) → length l ≡ 0 → l ≡ []
nil-of [] h = refl
nil-of (x ∷ l) h = absurd (lt_irrefl 0 (omega arith))

no-nodes : (f : Form) → numbers (laid_out f (table [])) ≡ []
unfolding all_fields columns numbers table node_table table_within
no-nodes Rows = refl
no-nodes Columns = refl

said : (x y : Bytes) (t : Bool) → (t ≡ true → x ≡ y) → (x ≡ y → t ≡ true) → t ≡ same x y
said x y true p q = sym (subst (λ (z : Bytes). same x z ≡ true) (p refl) (same_refl x))
said x y false p q = go (same x y) refl
  where
    go : (u : Bool) → same x y ≡ u → false ≡ same x y
    go false e = sym e
    go true e = absurd (false≠true (q (same_true x y e)))

-- ---- a form's map

-- a node takes some bytes, and no more than a record; its last number stands before the table's end
form-some : (f : Form) (m : ℕ) → 1 ≤ (map_in f 0 m).stride
form-some Rows m = omega arith
form-some Columns m = omega arith

form-few : (f : Form) (m : ℕ) → (map_in f 0 m).stride ≤ node_size
form-few Rows m = omega arith
form-few Columns m = omega arith

-- it is told by its other two numbers
form-map : (f : Form) (m : ℕ) → map_in f 0 m ≡ map_by (map_in f 0 m).stride (map_in f 0 m).step
form-map Rows m = refl
form-map Columns m = refl

form-room : (f : Form) (m o : ℕ) → 1 ≤ m → o + pred field_count * (map_in f 0 m).step + 2 ≤ o + m * node_size
form-room Rows m o h = omega arith
form-room Columns m o h = omega arith

form-rooms : (f : Form) (m start o : ℕ) → o < start + m * (map_in f 0 m).stride → o + pred field_count * (map_in f 0 m).step + 2 ≤ start + m * node_size + node_size
form-rooms Rows m start o h = omega arith
form-rooms Columns m start o h = omega arith

-- ---- the equation at the root

-- the root of n names, by a map
abbrev Root : ℕ → ℕ → Bytes → ℕ → ℕ → ℕ → Type 0
Root stride step b n start end = NodeAt (map_by stride step) b (words_in b) 0 (0 + n) 0 start end

module _ (b : Bytes) (start end n : ℕ) (held : Held b) (a : TableAsk b start end n) where
  bytes : InBytes b
  bytes = held_bytes b held

  within : end ≤ length b
  within = omega (arith, a.long)

  -- the form of the bytes' own mark, and how far its nodes and their numbers stand apart
  abbrev form : Form
  form = form_of (kind_of b)

  abbrev pace : ℕ
  pace = (map_in form 0 (told b 4)).stride

  abbrev piece : ℕ
  piece = (map_in form 0 (told b 4)).step

  -- where the last node's first number would end
  abbrev past : ℕ
  past = start + told b 4 * pace

  small : All (λ n. n < 65536) (all_fields (table (words_in b)))
  unfolding words_of
  small = table-small (words_in b) a.known.rises (stream-modest (rule_in b) (kind-sure (kind_of b)) (bytes-all b bytes) nil a.known.stream) (omega (arith, words_count (rule_in b) b, a.known.few))

  root_is : node_table 0 0 (span (words_in b) 0 (0 + n)) ≡ table (words_in b)
  root_is =
      ap (node_table 0 0) (let k : 0 + n ≡ length (words_in b) = omega (arith, a.count, words_count (rule_in b) b) in ap (λ (j : ℕ). take j (words_in b)) k ∙ take-length (words_in b)) ∙ sym (table-root (words_in b))

  node_of : numbers (laid_out form (table (words_in b))) ≡ slice start end b → Root pace piece b n start past
  node_of q =
      let rs : List Node = table (words_in b) in
      let many : length rs ≡ told b 4 = omega (arith, ap length q, laid-length form rs, length-slice start end b within, a.counted) in
      record {
        stands = subst (λ (μ : Map). Stands μ b start (node_table 0 0 (span (words_in b) 0 (0 + n))) past) (form-map form (told b 4))
            (subst (λ (ns : List Node). Stands (map_in form 0 (told b 4)) b start ns past) (sym root_is)
            (subst (λ (m : ℕ). Stands (map_in form 0 m) b start rs (start + m * (map_in form 0 m).stride)) many
            (bytes-form b form rs start end (omega (arith, a.counted, many)) within small (sym q))));
      }

  table-not : (Root pace piece b n start past → ⊥) → false ≡ is_nodes b start end
  unfolding is_nodes
  table-not h = said _ _ false (λ e. absurd (false≠true e)) (λ e. absurd (h (node_of e)))

  table_is : Root pace piece b n start past → true ≡ is_nodes b start end
  unfolding is_nodes
  table_is g =
      let rs : List Node = table (words_in b) in
      let stands : Stands (map_in form 0 (told b 4)) b start rs past = subst (λ (ns : List Node). Stands (map_in form 0 (told b 4)) b start ns past) root_is (subst (λ (μ : Map). Stands μ b start (node_table 0 0 (span (words_in b) 0 (0 + n))) past) (sym (form-map form (told b 4))) g.stands) in
      let many : told b 4 ≡ length rs = strides-differ pace (form-some form (told b 4)) (told b 4) (length rs) (omega (arith, stands-end (map_in form 0 (told b 4)) b rs start past stands)) in
      said _ _ true (λ t. sym (form-bytes b form bytes rs start end (omega (arith, a.counted, many)) within
      (subst (λ (m : ℕ). Stands (map_in form 0 m) b start rs (start + m * (map_in form 0 m).stride)) many stands))) (λ q. refl)

  pub table-nothing : n ≡ 0 → eqb start end ≡ is_nodes b start end
  unfolding is_nodes
  table-nothing z = said _ _ (eqb start end)
      (λ t. none ∙ sym (subst (λ (x : ℕ). slice x end b ≡ []) (sym (eqb-true start end t)) (slice_empty end b)))
      (λ q. eq-eqb start end (omega (arith, ap length (sym none ∙ q), length-slice start end b within, a.order)))
    where
      none : numbers (laid_out form (table (words_in b))) ≡ []
      none = ap (λ (vs : Words). numbers (laid_out form (table vs))) (nil-of (words_in b) (omega (arith, words_count (rule_in b) b, a.count))) ∙ no-nodes form

  -- ---- some names

  module _ (z : n ≡ 0 → ⊥) where
    some : 0 < n
    some = omega arith

    head : (stride step e : ℕ) → Root stride step b n start e → NodeHead (map_by stride step) b (words_in b) 0 0 (0 + n) start e
    head stride step e g = node-head (map_by stride step) b (words_in b) a.known.rises 0 0 (0 + n) start e (omega (arith, some)) (omega (arith, words_count (rule_in b) b, a.count)) g

    pub table-short : end - start < node_size → false ≡ is_nodes b start end
    table-short h =
        let none : told b 4 ≡ 0 = omega (arith, a.counted) in
        let at : past ≡ start = omega (arith, ap (λ (m : ℕ). m * pace) none) in
        table-not (λ g. lt_irrefl past (omega (arith, at, (head pace piece past g).past, form-some form (told b 4))))

    -- ---- by the map that the trailer tells

    module _ (room : node_size ≤ end - start) (stride step : ℕ) (se : stride ≡ (map_of b).stride) (pe : step ≡ (map_of b).step) where
      stride-is : stride ≡ pace
      stride-is = se ∙ go form
        where
          go : (f : Form) → (map_in f (told b 3) (told b 4)).stride ≡ (map_in f 0 (told b 4)).stride
          go Rows = refl
          go Columns = refl

      step_is : step ≡ piece
      step_is = pe ∙ go form
        where
          go : (f : Form) → (map_in f (told b 3) (told b 4)).step ≡ (map_in f 0 (told b 4)).step
          go Rows = refl
          go Columns = refl

      paced : Paced stride
      paced = record { some = omega (arith, stride-is, form-some form (told b 4)); few = omega (arith, stride-is, form-few form (told b 4)) }

      -- where the nodes end, by that map
      abbrev upto : ℕ
      upto = start + told b 4 * stride

      same_end : upto ≡ past
      same_end = ap (λ (s : ℕ). start + told b 4 * s) stride-is

      pub table-span : (m : ℕ) → m * stride ≤ m * node_size
      table-span m = strides-most stride node_size m paced.few

      pub table-room : Roomy step b start
      table-room = omega (arith, ap (λ (s : ℕ). pred field_count * s) step_is, form-room form (told b 4) start (omega (arith, a.counted)), a.counted, a.long)

      same-root : Root stride step b n start upto ≡ Root pace piece b n start past
      same-root = ap₂ (λ (s t : ℕ). Root s t b n start (start + told b 4 * s)) stride-is step_is

      other : (Root stride step b n start upto → ⊥) → false ≡ is_nodes b start end
      other h = table-not (λ g. h (subst (λ (T : Type 0). T) (sym same-root) g))

      it-is : Root stride step b n start upto → true ≡ is_nodes b start end
      it-is g = table_is (subst (λ (T : Type 0). T) same-root g)

      -- x is what the root's record tells there
      module _ (x : ℕ) where
        pub table-symbol : x ≡ (record_at step b start).symbol → (x ≡ 0 → ⊥) → false ≡ is_nodes b start end
        table-symbol e h = other (λ g. h (e ∙ (head stride step upto g).symbol))

        pub table-first : x ≡ (record_at step b start).first → (x ≡ 0 → ⊥) → false ≡ is_nodes b start end
        table-first e h = other (λ g. h (e ∙ (head stride step upto g).first))

        pub table-names : x ≡ (record_at step b start).names → (x ≡ n → ⊥) → false ≡ is_nodes b start end
        table-names e h = other (λ g. h (omega (arith, (head stride step upto g).names)))

        pub table-nodes : x ≡ (record_at step b start).nodes → (start + x * node_size ≡ end → ⊥) → false ≡ is_nodes b start end
        table-nodes e h = other (λ g. h (omega (arith, a.counted, strides-differ stride paced.some x (told b 4) (omega (arith, (head stride step upto g).nodes, ap (λ (m : ℕ). m * stride) e)))))

      -- all four are as they should be
      module _ (s f x m : ℕ) (ss : s ≡ (record_at step b start).symbol) (sz : s ≡ 0) (fe : f ≡ (record_at step b start).first) (fz : f ≡ 0) (xe : x ≡ (record_at step b start).names) (xn : x ≡ n)
          (me : m ≡ (record_at step b start).nodes) (ends : start + m * node_size ≡ end) where
        many : m ≡ told b 4
        many = omega (arith, a.counted)

        whole : start + m * stride ≡ upto
        whole = ap (λ (i : ℕ). start + i * stride) many

        here : Here b 0 0
        unfolding offset_from
        here = refl

        there : 0 < length (names_of b)
        there = omega (arith, some, a.count)

        -- one name
        pub table-leaf : n ≡ 1 → (v : Bool) → LeafSays b step start (length_at b 0) v → v ≡ is_nodes b start end
        table-leaf one false never = other (λ g. leaf-not b stride step 0 0 start 0 a.known here there never upto (subst (λ (k : ℕ). Root stride step b k start upto) one g))
        table-leaf one true sure =
            let alone : m ≡ 1 = me ∙ sure.1 in
            let e : start + stride ≡ upto = omega (arith, whole, ap (λ (i : ℕ). i * stride) alone) in
            it-is (subst (λ (k : ℕ). Root stride step b k start upto) (sym one)
            (subst (Root stride step b 1 start) e (leaf-stands b stride step 0 0 start 0 a.known here there table-room (sym ss ∙ sz) (sym fe ∙ fz) (sym xe ∙ xn ∙ one) sure)))

        -- several names
        module _ (more : n ≡ 1 → ⊥) where
          pub table-asks : NodeAsk b stride step start (start + m * stride) 0
          table-asks = record {
            known = a.known;
            blocks = a.blocks;
            ended = a.ended;
            long = omega (arith, a.long);
            paced = paced;
            room = λ o h. omega (arith, ap (λ (s : ℕ). pred field_count * s) step_is, form-rooms form (told b 4) start o (omega (arith, whole, same_end)), a.counted, a.long);
            own = table-room;
            ends = ap (λ (i : ℕ). start + i * stride) me;
            several = λ q. more (sym xn ∙ xe ∙ q);
            some = omega (arith, fe, there);
            here = subst (λ (i : ℕ). Here b i 0) (sym fz ∙ fe) here;
            low = omega (arith, first-low (rule_in b) b a.known there);
          }

          root : Root stride step b n start upto
              ≡ NodeAt (map_by stride step) b (words_in b) (record_at step b start).first ((record_at step b start).first + (record_at step b start).names) (record_at step b start).symbol start (start + m * stride)
          root = rw (sym fe ∙ fz, sym xe ∙ xn, sym ss ∙ sz, whole) refl

          pub table-said : (r : ℕ) → NodeSays b stride step start (start + m * stride) r → not (eqb r 0) ≡ is_nodes b start end
          table-said r says = go (eqb r 0) refl
            where
              go : (t : Bool) → eqb r 0 ≡ t → not t ≡ is_nodes b start end
              go true q = other (λ g. says.no_way (eqb-true r 0 q) (record {
                several = several n z more xn;
                within = omega (arith, a.count);
                node = subst (λ (T : Type 0). T) root g;
              }))
                where
                  several : (k : ℕ) → (k ≡ 0 → ⊥) → (k ≡ 1 → ⊥) → x ≡ k → 2 ≤ (record_at step b start).names
                  several k none one e = omega arith
              go false q = it-is (subst (λ (T : Type 0). T) (sym root) (says.it-does (eqb-false r 0 q)).node)
