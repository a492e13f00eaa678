-- The way down: what the functions of the descent keep, and how each of their ways ends.
--     AtOffset, here-.., at_here    a node by its offset: its record, by the node's number
--     row-.., end_fits          a row of children, by offsets and by numbers
--     none_below, some_below    a node whose nodes end where its row would begin has none below it; one that ends further on has some
--     own-rule                  the rule that the trailer tells is the bytes' own
--     asked-length, asked-at    a question has as many symbols as bytes; its symbol at a depth
--     SeekingAt, seek-..        the loop of `seek`
--     stay-.., go-down, fork_at     the ways out of `child`
--     path-at                   the nodes of a path by their numbers
--     root-here, Going, go-..   the loop of `descend`
-- Assumes nothing.
use Prim.Native.Nat.{ℕ, ◌+◌, ◌-◌, ◌*◌, ◌≤◌, ◌<◌}
use native.Mathlib.Nat.{le_refl, lt_irrefl, mul-le-mul, mul-pos}
use native.Mathlib.Omega.{arith}
use mathlib.Core.Path.{◌≡◌, ◌∙◌, ap, ap₂, subst, sym}
use mathlib.Core.Logic.{◌⊎◌, inl, inr}
use mathlib.Core.List.{List, map}
use lib.ListN.{get_or-map, get_or, length, length-map, set}
use lib.Seq.{get_or-set_other, get_or-set_same}
use mir.Val.{Fits}
use mir.Syntax.{w16, w64}
use Rattle.words.specs.Words.{Bytes, Rule, at, word}
use Rattle.words.proofs.Lists.{map-set}
use Rattle.words.proofs.Words.{apart}
use Rattle.format.specs.Kinds.{kind_of, rule_in}
use Rattle.symbols.specs.Rules.{by_kind, rule_by}
use Rattle.symbols.specs.declared.Rule.{Rule as ByRule}
use Rattle.symbols.proofs.Symbols.{rule-by}
use Rattle.format.specs.Spans.{words_in}
use Rattle.format.specs.Nodes.{Node, node_size, table}
use Rattle.descent.specs.Vocabulary.{Halts, Passed, Searchable, Seeking, Sought, Taken, asked, asked_in, node}
use Rattle.standing.specs.Maps.{Map, Paced, Placed, Roomy, number_in, record_at}
use Rattle.standing.proofs.Maps.{number-before, number-first, number-on, number_past, placed_on}
use Rattle.descent.proofs.Paths.{halt-end, halt-leaf, halt-other, halt-short, passed-few, passed_on, passed-room, passed-sits, passed_start, taken}
use Rattle.descent.proofs.Rows.{one_name_lem, one-node, root-sits, seek-end, seek_found, seek-more, seek-some, seek-start}
use Rattle.paths.specs.Paths.{AtFork, AtNode, DescentSays, SoughtAt, WayOf}
use Rattle.std.specs.Prelude.{Option, None, Some}

-- ---- a node by its offset

-- at o stands the record of a node
pub record AtOffset (b : Bytes) (μ : Map) (o : ℕ) : Type 0 where
  pub searchable : Searchable (rule_in b) b μ
  pub placed : Placed μ o
  pub inside : number_in μ o < length (table (words_in b))

-- so many strides are not far
strides-few : {stride x : ℕ} → Paced stride → x < 65536 → x * stride ≤ 65535 * node_size
strides-few p h = mul-le-mul {n₂ = 65535} (omega arith) p.few

pub row_fits : {b : Bytes} {μ : Map} {x : ℕ} → Searchable (rule_in b) b μ → x < 65536 → Fits w64 (x * μ.stride)
row_fits s h = omega (arith, strides-few s.paced h)

module _ {b : Bytes} {μ : Map} {x : ℕ} (s : Searchable (rule_in b) b μ) (o : ℕ) where
  pub none_below : o + x * μ.stride ≤ o + μ.stride → x < 2
  none_below h = go (apart x 2)
    where
      go : (x < 2) ⊎ (2 ≤ x) → x < 2
      go (inl l) = l
      go (inr m) = omega (arith, s.paced.some, mul-le-mul m (le_refl μ.stride))

  pub some_below : o + μ.stride < o + x * μ.stride → 2 ≤ x
  some_below h = go (apart x 2)
    where
      go : (x < 2) ⊎ (2 ≤ x) → 2 ≤ x
      go (inl l) = let few : x ≤ 1 = omega arith in omega (arith, mul-le-mul few (le_refl μ.stride))
      go (inr m) = m

module _ {b : Bytes} {μ : Map} {o : ℕ} (h : AtOffset b μ o) where
  pub here-room : Roomy μ.step b o
  here-room = subst (λ (x : ℕ). Roomy μ.step b x) (sym h.placed) (h.searchable.table.room (number_in μ o) h.inside)

  pub here-told : record_at μ.step b o ≡ node (words_in b) (number_in μ o)
  here-told = ap (record_at μ.step b) h.placed ∙ h.searchable.table.told (number_in μ o) h.inside

  pub here-small : Fits w16 o
  here-small = omega (arith, here-room, h.searchable.held)

  pub end_fits : {x : ℕ} → x < 65536 → Fits w64 (o + x * μ.stride)
  end_fits k = omega (arith, here-small, strides-few h.searchable.paced k)

pub at_here : {b : Bytes} {μ : Map} {o : ℕ} → AtNode b μ o → AtOffset b μ o
at_here a = record { searchable = a.searchable; placed = a.placed; inside = a.sits.inside }

-- x is how many nodes the one at o has, and c the offset of another
module _ {b : Bytes} {μ : Map} {o : ℕ} (a : AtNode b μ o) {x : ℕ} (xe : x ≡ (record_at μ.step b o).nodes) where
  nodes-are : x ≡ (node (words_in b) (number_in μ o)).nodes
  nodes-are = xe ∙ ap (λ (n : Node). n.nodes) (here-told (at_here a))

  module _ {c : ℕ} (p : Placed μ c) where
    pub row_before : c < o + x * μ.stride → number_in μ c < number_in μ o + (node (words_in b) (number_in μ o)).nodes
    row_before h = omega (arith, nodes-are, number-before μ a.searchable.paced.some a.placed x p h)

    pub row-past : o + x * μ.stride ≤ c → number_in μ o + (node (words_in b) (number_in μ o)).nodes ≤ number_in μ c
    row-past h = omega (arith, nodes-are, number_past μ a.searchable.paced.some a.placed x p h)

    -- in the row stands a child
    pub row_here : c < o + x * μ.stride → AtOffset b μ c
    row_here h = record { searchable = a.searchable; placed = p; inside = omega (arith, row_before h, a.sits.ends) }

-- ---- symbols by the bytes' own rule

pub own-rule : (b : Bytes) (rule : ByRule) → rule ≡ by_kind (kind_of b) → rule_by rule ≡ rule_in b
own-rule b rule own = ap rule_by own ∙ rule-by (kind_of b)

pub asked-length : (b s : Bytes) → length (asked_in b s) ≡ length s
unfolding asked
asked-length b s = length-map s (rule_in b)

-- t is the symbol of a question, none of whose bytes is skipped
pub asked-at : (b s : Bytes) (d : ℕ) {t : ℕ} (rule : ByRule) → rule ≡ by_kind (kind_of b) → t ≡ at (word (rule_by rule) s) (d - 0) → t ≡ at (asked_in b s) d
unfolding asked
asked-at b s d rule own e =
    let z : d - 0 ≡ d = omega arith in
    e ∙ ap₂ (λ (ρ : Rule) (i : ℕ). at (word ρ s) i) (own-rule b rule own) z

-- ---- `seek`

-- the names before the child at c have symbols below s
pub record SeekingAt (b : Bytes) (μ : Map) (o s c : ℕ) : Type 0 where
  pub placed : Placed μ c
  pub seeking : Seeking (words_in b) (number_in μ o) s (number_in μ c)

pub seek-first : {b : Bytes} {μ : Map} {o s : ℕ} → AtFork b μ o → SeekingAt b μ o s (o + μ.stride)
seek-first {b} {μ} {o} {s} a =
    let one : o + 1 * μ.stride ≡ o + μ.stride = omega arith in
    let some : 1 ≤ μ.stride = a.at-node.searchable.paced.some in
    subst (λ (c : ℕ). SeekingAt b μ o s c) one (record {
      placed = placed_on μ some a.at-node.placed 1;
      seeking = subst (λ (v : ℕ). Seeking (words_in b) (number_in μ o) s v) (sym (number-on μ some a.at-node.placed 1))
          (seek-start (words_in b) a.at-node.searchable.rises a.at-node.sits a.several);
    })

-- x is how many nodes the one at o has; the child at c has the symbol t, and y nodes
module _ {b : Bytes} {μ : Map} {o s c : ℕ} (a : AtNode b μ o) {x : ℕ} (xe : x ≡ (record_at μ.step b o).nodes) (k : SeekingAt b μ o s c) where
  pub seek-none : o + x * μ.stride ≤ c → SoughtAt b μ o s c
  seek-none h = record { placed = k.placed; sought = seek-end (words_in b) a.searchable.rises k.seeking (row-past a xe k.placed h) }

  module _ (h : c < o + x * μ.stride) where
    inside : number_in μ c < number_in μ o + (node (words_in b) (number_in μ o)).nodes
    inside = row_before a xe k.placed h

    there : record_at μ.step b c ≡ node (words_in b) (number_in μ c)
    there = here-told (row_here a xe k.placed h)

    pub seek-here : {t : ℕ} → t ≡ (record_at μ.step b c).symbol → s ≤ t → SoughtAt b μ o s c
    seek-here te l = record {
      placed = k.placed;
      sought = seek_found (words_in b) a.searchable.rises k.seeking inside (omega (arith, ap (λ (n : Node). n.symbol) there));
    }

    module _ {y : ℕ} (ye : y ≡ (record_at μ.step b c).nodes) where
      some-nodes : y ≡ (node (words_in b) (number_in μ c)).nodes
      some-nodes = ye ∙ ap (λ (n : Node). n.nodes) there

      pub seek-less : o + x * μ.stride - (c + y * μ.stride) < o + x * μ.stride - c
      seek-less =
          let some : 0 < y = omega (arith, some-nodes, seek-some (words_in b) a.searchable.rises k.seeking inside) in
          omega (arith, mul-pos some a.searchable.paced.some)

      pub seek-next : {t : ℕ} → t ≡ (record_at μ.step b c).symbol → t < s → SeekingAt b μ o s (c + y * μ.stride)
      seek-next te l = record {
        placed = placed_on μ a.searchable.paced.some k.placed y;
        seeking = subst (λ (v : ℕ). Seeking (words_in b) (number_in μ o) s v) (sym (number-on μ a.searchable.paced.some k.placed y))
            (seek-more (words_in b) a.searchable.rises k.seeking inside (omega (arith, ap (λ (n : Node). n.symbol) there)) some-nodes);
      }

-- ---- `child`

-- x is the node's number of nodes, d its depth, t the question's symbol there, c the child that was sought, u that one's symbol
module _ {b : Bytes} {μ : Map} {o : ℕ} (a : AtNode b μ o) {x : ℕ} (xe : x ≡ (record_at μ.step b o).nodes) where
  pub stay-leaf : (q : Bytes) → x < 2 → Halts (words_in b) (asked_in b q) (number_in μ o)
  stay-leaf q h =
      halt-leaf (words_in b) a.searchable.rises (asked_in b q) a.sits (one_name_lem (words_in b) a.searchable.rises a.sits (omega (arith, nodes-are a xe)))

  module _ (n : 2 ≤ x) where
    several : (node (words_in b) (number_in μ o)).names ≡ 1 → ⊥
    several i = lt_irrefl x (omega (arith, nodes-are a xe, one-node (words_in b) a.searchable.rises a.sits i))

    pub fork_at : AtFork b μ o
    fork_at = record { at-node = a; several = several }

    module _ (q : Bytes) {d : ℕ} (de : d ≡ (record_at μ.step b o).depth) where
      depth_is : d ≡ (node (words_in b) (number_in μ o)).depth
      depth_is = de ∙ ap (λ (n : Node). n.depth) (here-told (at_here a))

      pub stay-short : length q < d → Halts (words_in b) (asked_in b q) (number_in μ o)
      stay-short h = halt-short (words_in b) a.searchable.rises (asked_in b q) a.sits several (omega (arith, depth_is, asked-length b q))

      module _ (h : d ≤ length q) {t c : ℕ} (rule : ByRule) (own : rule ≡ by_kind (kind_of b)) (e : t ≡ at (word (rule_by rule) q) (d - 0)) (k : SoughtAt b μ o t c) where
        symbol : t ≡ at (asked_in b q) (node (words_in b) (number_in μ o)).depth
        symbol = asked-at b q d rule own e ∙ ap (at (asked_in b q)) depth_is

        long : (node (words_in b) (number_in μ o)).depth ≤ length (asked_in b q)
        long = omega (arith, depth_is, asked-length b q)

        sought : Sought (words_in b) (number_in μ o) (at (asked_in b q) (node (words_in b) (number_in μ o)).depth) (number_in μ c)
        sought = subst (λ (i : ℕ). Sought (words_in b) (number_in μ o) i (number_in μ c)) symbol k.sought

        pub stay-end : o + x * μ.stride ≤ c → Halts (words_in b) (asked_in b q) (number_in μ o)
        stay-end g = halt-end (words_in b) a.searchable.rises (asked_in b q) a.sits several long sought (row-past a xe k.placed g)

        module _ (g : c < o + x * μ.stride) {u : ℕ} (ue : u ≡ (record_at μ.step b c).symbol) where
          child-symbol : u ≡ (node (words_in b) (number_in μ c)).symbol
          child-symbol = ue ∙ ap (λ (n : Node). n.symbol) (here-told (row_here a xe k.placed g))

          pub stay-other : (u ≡ t → ⊥) → Halts (words_in b) (asked_in b q) (number_in μ o)
          stay-other f =
              halt-other (words_in b) a.searchable.rises (asked_in b q) a.sits several long sought (row_before a xe k.placed g) (λ j. f (child-symbol ∙ j ∙ sym symbol))

          pub go-down : u ≡ t → Placed μ c × Taken (words_in b) (asked_in b q) (number_in μ o) (number_in μ c)
          go-down f = (
            k.placed,
            taken (words_in b) a.searchable.rises (asked_in b q) a.sits several long sought (row_before a xe k.placed g) (sym child-symbol ∙ f ∙ symbol),
          )

-- ---- `descend`

-- past the end of a path stands 0, and the number of that is 0
pub path-at : (μ : Map) (p : List ℕ) (j : ℕ) → get_or (map (number_in μ) p) j 0 ≡ number_in μ (get_or p j 0)
path-at μ p j = ap (λ (d : ℕ). get_or (map (number_in μ) p) j d) (sym (number-first μ 0 (omega arith))) ∙ get_or-map (number_in μ) p j 0

-- the path so far, from the root to the node at hand
pub record Going (b : Bytes) (μ : Map) (q : Bytes) (p : List ℕ) (n o : ℕ) : Type 0 where
  pub searchable : Searchable (rule_in b) b μ
  pub each : (j : ℕ) → j < n → Placed μ (get_or p j 0)
  pub placed : Placed μ o
  pub path : Passed (words_in b) (asked_in b q) (map (number_in μ) p) n (number_in μ o)

-- the root stands where the table starts
module _ {b : Bytes} {μ : Map} {start : ℕ} (s : Searchable (rule_in b) b μ) (e : start ≡ μ.start) where
  none : number_in μ start ≡ 0
  none = number-first μ start (omega arith)

  pub root-here : AtOffset b μ start
  root-here = record {
    searchable = s;
    placed = omega (arith, ap (λ (x : ℕ). x * μ.stride) none);
    inside = subst (λ (v : ℕ). v < length (table (words_in b))) (sym none) (root-sits (words_in b) s.rises s.some).sits.inside;
  }

  pub go-start : {q p : Bytes} → length p ≡ 202 → get_or p 0 0 ≡ start → Going b μ q p 1 start
  go-start {q} {p} l f = record {
    searchable = s;
    each = λ j h. let z : 0 ≡ j = omega arith in subst (λ (x : ℕ). Placed μ x) (sym f ∙ ap (λ (i : ℕ). get_or p i 0) z) root-here.placed;
    placed = root-here.placed;
    path = subst (λ (v : ℕ). Passed (words_in b) (asked_in b q) (map (number_in μ) p) 1 v) (sym none)
        (passed_start (words_in b) s.rises (asked_in b q) (map (number_in μ) p) s.some (length-map p (number_in μ) ∙ l) (path-at μ p 0 ∙ ap (number_in μ) f ∙ none));
  }

-- r is the way that was found at the node at hand
module _ {b : Bytes} {μ : Map} {q : Bytes} {p : List ℕ} {n o : ℕ} (g : Going b μ q p n o) where
  pub go-at : AtNode b μ o
  go-at = record { searchable = g.searchable; placed = g.placed; sits = passed-sits (words_in b) g.searchable.rises g.path g.searchable.short }

  pub go-halt : {r : Option ℕ} → r ≡ None → WayOf b μ (asked_in b q) o r → DescentSays b μ (asked_in b q) p n o
  go-halt e w = record {
    placed = g.each;
    ended = g.placed;
    way = record { few = passed-few (words_in b) g.searchable.rises g.path g.searchable.short; path = g.path; halts = rw e at w };
  }

  module _ {c : ℕ} {r : Option ℕ} (e : r ≡ Some c) (w : WayOf b μ (asked_in b q) o r) where
    down : Placed μ c × Taken (words_in b) (asked_in b q) (number_in μ o) (number_in μ c)
    down = rw e at w

    pub go-room : n < 202
    go-room = passed-room (words_in b) g.searchable.rises g.path g.searchable.short down.1

    pub go-small : Fits w16 c
    go-small = here-small (record { searchable = g.searchable; placed = down.0; inside = down.1.sits.inside })

    pub go_on : Going b μ q (set p n c) (n + 1) c
    go_on = record {
      searchable = g.searchable;
      each = λ j h. go j h (apart j n);
      placed = down.0;
      path = subst (λ (l : List ℕ). Passed (words_in b) (asked_in b q) l (n + 1) (number_in μ c)) (sym (map-set (number_in μ) p n c))
          (passed_on (words_in b) g.searchable.rises g.path g.searchable.short down.1);
    }
      where
        go : (j : ℕ) → j < n + 1 → (j < n) ⊎ (n ≤ j) → Placed μ (get_or (set p n c) j 0)
        go j h (inl m) = subst (λ (x : ℕ). Placed μ x) (sym (get_or-set_other p n j c 0 (λ e. lt_irrefl n (omega arith)))) (g.each j m)
        go j h (inr m) =
            let e : n ≡ j = omega arith in
            let new : get_or (set p n c) n 0 ≡ c = get_or-set_same p n c 0 (omega (arith, go-room, length-map p (number_in μ), g.path.long)) in
            subst (λ (x : ℕ). Placed μ x) (sym new ∙ ap (λ (i : ℕ). get_or (set p n c) i 0) e) down.0
