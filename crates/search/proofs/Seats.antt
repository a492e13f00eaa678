-- The answers at the node that is found.
--     seat-..              the place there: before or after the edge, a child, the end of the row
--     range-.., width-.., nearest-is, exact-..   the other answers
--     by-..                an answer by the number of its kind
--     told-askable         the table that was made of an accepted book can be searched
-- Assumes nothing.
use Prim.Native.Nat.{ℕ, ◌+◌, ◌-◌, ◌*◌, ◌≤◌, ◌<◌}
use native.Mathlib.Omega.{arith}
use mathlib.Core.Path.{◌≡◌, ◌∙◌, ap, ap₂, subst, sym}
use mathlib.Core.List.{List}
use lib.ListN.{length}
use Rattle.words.specs.Rising.{Positive, nth}
use Rattle.words.specs.Words.{Bytes, Words, at, begins, shared, word}
use Rattle.words.proofs.Rising.{nth-positive}
use Rattle.words.proofs.Words.{at-past, shared-le, shared-parts, shared-self, word-positive}
use Rattle.format.proofs.BookKinds.{kind-sure}
use Rattle.format.specs.Kinds.{kind_of, rule_in}
use Rattle.symbols.specs.Rules.{by_kind, rule_by}
use Rattle.symbols.specs.declared.Rule.{Rule as ByRule}
use Rattle.format.specs.Nodes.{Node}
use Rattle.answers.specs.Questions.{Pair as Numbers, ask, count, exact, nearest, place, range, reached}
use Rattle.answers.specs.Widths.{width}
use Rattle.answers.proofs.Nearest.{reached-most}
use Rattle.answers.proofs.Widths.{ask-width}
use Rattle.descent.specs.Vocabulary.{Searchable, Sought, asked, asked_in, from, node, upto}
use Rattle.standing.specs.Maps.{Map, map_of, number_in, record_at}
use Rattle.descent.proofs.Cuts.{exact-here, exact-nowhere, none-wide, range_none, whole-range, whole-width}
use Rattle.descent.proofs.Rows.{sits-told}
use Rattle.descent.proofs.Paths.{edge-after, edge-before, fork-child, fork-end, fork-wide}
use Rattle.format.specs.Spans.{words_in}
use Rattle.paths.specs.Paths.{AtFork, AtNode, SoughtAt}
use Rattle.paths.proofs.Ways.{AtOffset, asked-at, asked-length, at_here, here-told, row_before, row_here, row-past}
use Rattle.spots.specs.Spots.{AtSpot, Askable, NearSays, SpotSays}
use Rattle.spots.proofs.Spots.{own-askable}
use Rattle.search.specs.Asks.{AnswerAsk}

-- ---- `seat`

-- d is the node's depth, f its first name, n how many it has, y its number of nodes, t the question's symbol, c the child that was sought
module _ {b q : Bytes} {μ : Map} {o m s : ℕ} (a : AtSpot b μ q o m s) where
  pub seat-node : AtNode b μ o
  seat-node = record { searchable = a.searchable; placed = a.spot.placed; sits = a.spot.located.found.sits }

  told-there : record_at μ.step b o ≡ node (words_in b) (number_in μ o)
  told-there = here-told (at_here seat-node)

  first-is : {f : ℕ} → f ≡ (record_at μ.step b o).first → f ≡ (node (words_in b) (number_in μ o)).first
  first-is e = e ∙ ap (λ (x : Node). x.first) told-there

  names-is : {n : ℕ} → n ≡ (record_at μ.step b o).names → n ≡ (node (words_in b) (number_in μ o)).names
  names-is e = e ∙ ap (λ (x : Node). x.names) told-there

  module _ {d : ℕ} (de : d ≡ (record_at μ.step b o).depth) where
    deep_is : d ≡ (node (words_in b) (number_in μ o)).depth
    deep_is = de ∙ ap (λ (x : Node). x.depth) told-there

    pub seat-fork : d ≤ m → AtFork b μ o
    seat-fork h = record {
      at-node = seat-node;
      several = fork-wide (words_in b) a.searchable.rises a.spot.located.found (omega (arith, deep_is));
    }

    module _ (rule : ByRule) (own : rule ≡ by_kind (kind_of b)) {t : ℕ} (e : t ≡ at (word (rule_by rule) q) (m - 0)) where
      symbol-is : t ≡ at (asked_in b q) m
      symbol-is = asked-at b q m rule own e

      pub seat-before : {f n : ℕ} → f ≡ (record_at μ.step b o).first → n ≡ (record_at μ.step b o).names → m < d → s < t → f + n ≡ place (asked_in b q) (words_in b)
      seat-before fe ne h l = omega (
        arith,
        first-is fe,
        names-is ne,
        edge-before (words_in b) a.searchable.rises a.spot.located.found (omega (arith, deep_is)) (omega (arith, a.spot.next, symbol-is)),
      )

      pub seat-after : {f : ℕ} → f ≡ (record_at μ.step b o).first → m < d → t ≤ s → f ≡ place (asked_in b q) (words_in b)
      seat-after fe h l =
          first-is fe ∙ edge-after (words_in b) a.searchable.rises a.spot.located.found (omega (arith, deep_is)) (omega (arith, a.spot.next, symbol-is))

      module _ (h : d ≤ m) {c y : ℕ} (k : SoughtAt b μ o t c) (ye : y ≡ (record_at μ.step b o).nodes) where
        deep : (node (words_in b) (number_in μ o)).depth ≤ m
        deep = omega (arith, deep_is)

        sought : Sought (words_in b) (number_in μ o) (at (asked_in b q) m) (number_in μ c)
        sought = subst (λ (i : ℕ). Sought (words_in b) (number_in μ o) i (number_in μ c)) symbol-is k.sought

        pub seat-child : {f : ℕ} → f ≡ (record_at μ.step b c).first → c < o + y * μ.stride → f ≡ place (asked_in b q) (words_in b)
        seat-child fe g =
            fe ∙ ap (λ (x : Node). x.first) (here-told (row_here seat-node ye k.placed g))
            ∙ fork-child (words_in b) a.searchable.rises a.spot.located.found deep sought (row_before seat-node ye k.placed g)

        pub seat-end : {f n : ℕ} → f ≡ (record_at μ.step b o).first → n ≡ (record_at μ.step b o).names → o + y * μ.stride ≤ c → f + n ≡ place (asked_in b q) (words_in b)
        seat-end fe ne g = omega (
          arith,
          first-is fe,
          names-is ne,
          fork-end (words_in b) a.searchable.rises a.spot.located.found deep sought (row-past seat-node ye k.placed g),
        )

-- ---- the answers

abbrev pair : ℕ → ℕ → Numbers
pair y z = (y, z)

module _ {b : Bytes} {μ : Map} (q : Bytes) (o : Searchable (rule_in b) b μ) where
  -- u is where the node stands
  module _ {u m s : ℕ} (a : SpotSays b μ (asked_in b q) u m s) where
    pub range-short : m < length q → {r : ℕ} → r ≡ place (asked_in b q) (words_in b) → (r, 0) ≡ range (asked_in b q) (words_in b)
    unfolding range
    range-short h e =
        ap₂ pair e
        (range_none (words_in b) (asked_in b q) o.rises m
        (λ i k. omega (arith, reached-most (asked_in b q) (words_in b) o.rises i k, a.located.shares)) (omega (arith, asked-length b q)))

    pub width-short : (m ≡ length q → ⊥) → ◌≡◌ {A = Numbers} (0, 0) (width (asked_in b q) (words_in b), 0)
    width-short h =
        let few = shared-le (asked_in b q) (nth (words_in b) (reached (asked_in b q) (words_in b))) in
        ap (λ (n : ℕ). pair n 0)
        (none-wide (words_in b) (asked_in b q) o.rises m
        (λ i k. omega (arith, reached-most (asked_in b q) (words_in b) o.rises i k, a.located.shares)) (omega (arith, asked-length b q, a.located.shares, few)))

    -- all of the question is shared
    all-shared : length q ≤ m → m ≡ length (asked_in b q)
    all-shared h = omega (
      arith,
      a.located.shares,
      asked-length b q,
      shared-le (asked_in b q) (nth (words_in b) (reached (asked_in b q) (words_in b))),
    )

    spot-here : AtOffset b μ u
    spot-here = record { searchable = o; placed = a.placed; inside = a.located.found.sits.inside }

    pub width-all : m ≡ length q → {n : ℕ} → n ≡ (record_at μ.step b u).width → ◌≡◌ {A = Numbers} (n, 0) (width (asked_in b q) (words_in b), 0)
    width-all h e =
        ap (λ (n : ℕ). pair n 0)
        (e ∙ ap (λ (x : Node). x.width) (here-told spot-here) ∙ (sits-told (words_in b) o.rises a.located.found.sits).width
        ∙ whole-width (words_in b) (asked_in b q) o.rises m (from (words_in b) (number_in μ u)) (upto (words_in b) (number_in μ u)) a.located.found.group (all-shared (omega arith)))

    pub range_all : length q ≤ m → {r n : ℕ} → r ≡ place (asked_in b q) (words_in b) → n ≡ (record_at μ.step b u).names
        → (r, n) ≡ range (asked_in b q) (words_in b)
    unfolding range
    range_all h {r} {n} e f =
        let k : n ≡ count (begins (asked_in b q)) (words_in b) =
        omega (arith, ap (λ (x : Node). x.names) (here-told spot-here), whole-range (words_in b) (asked_in b q) o.rises m (from (words_in b) (number_in μ u)) (upto (words_in b) (number_in μ u)) a.located.found.group (all-shared h)) in
        ap₂ pair e k

  module _ {r m l : ℕ} (e : NearSays (words_in b) (asked_in b q) r m l) where
    pub nearest-is : (r, m) ≡ nearest (asked_in b q) (words_in b)
    unfolding nearest
    nearest-is = ap₂ pair e.there.is (e.shares ∙ ap (λ (i : ℕ). shared (asked_in b q) (nth (words_in b) i)) e.there.is)

    positive : Positive (asked_in b q)
    unfolding asked
    positive = word-positive (rule_in b) (kind-sure (kind_of b)) q

    -- a name that is q is the one that is reached
    not_there : (nth (words_in b) r ≡ asked_in b q → ⊥) → (0, 0) ≡ exact (asked_in b q) (words_in b)
    not_there n = sym (exact-nowhere (words_in b) (asked_in b q) o.rises positive (λ i h f. n (ap (nth (words_in b)) (sym (e.there.only i h f)) ∙ f)))

    pub exact-short : (m ≡ length q → ⊥) → (0, 0) ≡ exact (asked_in b q) (words_in b)
    exact-short h = not_there (λ f. h (e.shares ∙ ap (shared (asked_in b q)) f ∙ shared-self (asked_in b q) ∙ asked-length b q))

    pub exact-longer : m ≡ length q → (m ≡ l → ⊥) → (0, 0) ≡ exact (asked_in b q) (words_in b)
    exact-longer h g = not_there (λ f. g (h ∙ sym (asked-length b q) ∙ sym (ap length f) ∙ sym e.size))

    pub exact-found : m ≡ length q → m ≡ l → (r, 1) ≡ exact (asked_in b q) (words_in b)
    exact-found h g =
        let x : List ℕ = nth (words_in b) r in
        let ends : at (asked_in b q) m ≡ at x m = at-past (asked_in b q) m (omega (arith, asked-length b q)) ∙ sym (at-past x m (omega (arith, e.size))) in
        let same : asked_in b q ≡ x = shared-parts (asked_in b q) x positive (nth-positive (words_in b) r o.rises)
        (subst (λ (i : ℕ). at (asked_in b q) i ≡ at x i) e.shares ends) in
        sym (exact-here (words_in b) (asked_in b q) o.rises positive r e.there.within (sym same))

-- ---- by the number of the kind

module _ (q : List ℕ) (ws : Words) {p : Numbers} (kind : ℕ) where
  by-kind : (j : ℕ) → kind ≡ j → p ≡ ask j q ws → p ≡ ask kind q ws
  by-kind j e f = subst (λ (i : ℕ). p ≡ ask i q ws) (sym e) f

  pub by-exact : kind ≡ 1 → p ≡ exact q ws → p ≡ ask kind q ws
  unfolding ask
  by-exact e f = by-kind 1 e f

  pub by_place : kind ≡ 2 → p ≡ (place q ws, 0) → p ≡ ask kind q ws
  unfolding ask
  by_place e f = by-kind 2 e f

  pub by-range : kind ≡ 3 → p ≡ range q ws → p ≡ ask kind q ws
  unfolding ask
  by-range e f = by-kind 3 e f

  pub by-nearest : kind ≡ 4 → p ≡ nearest q ws → p ≡ ask kind q ws
  unfolding ask
  by-nearest e f = by-kind 4 e f

  pub by_width : kind ≡ 5 → p ≡ (width q ws, 0) → p ≡ ask kind q ws
  by_width e f = by-kind 5 e (f ∙ sym (ask-width q ws))

-- ---- the table that was made of the book

pub told-askable : {t b : Bytes} {x y : ℕ} → t ≡ b → (x ≡ (map_of b).stride) × (y ≡ (map_of b).step) → AnswerAsk b → Askable t x y
told-askable {t} {b} {x} {y} same told a = subst (λ (z : Bytes). Askable z x y) (sym same) (own-askable a.parts a.searchable told.0 told.1)
