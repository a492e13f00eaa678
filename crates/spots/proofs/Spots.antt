-- The name that is reached, and the node whose names share most.
--     met, next, near      how the name at a position stands to the question; its next symbol; the same of the name that is reached
--     end-..               the last node of the path; the name that is reached; how many nodes were visited
--     spot                 the highest node that is deep enough is the one with the names that share most
--     looked               how far the search looked
--     name-ask             the name that is reached can be read
--     spot-at              the node that was found, to go on from
--     own-askable          an accepted book, by the map that its trailer tells of
-- Assumes nothing.
use Prim.Native.Nat.{ℕ, suc, ◌-◌, ◌≤◌, ◌<◌}
use native.Mathlib.Omega.{arith}
use mathlib.Core.Path.{◌≡◌, ◌∙◌, ap, ap₂, refl, subst, sym}
use mathlib.Core.Logic.{◌⊎◌}
use mathlib.Core.List.{List, [], map}
use lib.ListN.{get_or, length, length-map}
use Rattle.words.specs.Rising.{nth}
use Rattle.words.specs.Words.{Bytes, Rule, Words, at, shared, word}
use Rattle.words.proofs.Rising.{nth-word}
use Rattle.format.specs.Kinds.{form_of, kind_of, rule_in}
use Rattle.symbols.specs.Rules.{by_kind, rule_by}
use Rattle.symbols.specs.declared.Rule.{Rule as ByRule}
use Rattle.format.specs.Nodes.{Node, table}
use Rattle.answers.specs.Questions.{reached}
use Rattle.answers.specs.Counts.{visits}
use Rattle.descent.specs.Vocabulary.{Highest, Reached, Searchable, Sits, asked, asked_in, node}
use Rattle.standing.specs.Maps.{Map, Placed, map_of, number_in, record_at}
use Rattle.descent.proofs.Paths.{found, only-reached, passed-deepens, passed-sits, reached-is, visits-are}
use Rattle.format.specs.Spans.{words_in, words_of}
use Rattle.format.specs.Book.{names_of, told}
use Rattle.names.specs.Names.{entries_to}
use Rattle.accept.specs.Parts.{Parts}
use Rattle.standing.proofs.Maps.{map-starts}
use Rattle.paths.specs.Paths.{DescentSays, HighestAt, OnPath, table_map}
use Rattle.paths.proofs.Ways.{AtOffset, here-room, here-told, own-rule, path-at}
use Rattle.spots.specs.Spots.{Askable, AtSpot, Looked, MetSays, NameAsk, NearSays, NextSays, SpotSays}

-- ---- `compare`

-- what was read is the name at the position; m symbols of it are the question's
module _ (b : Bytes) (position : ℕ) (rule : ByRule) (own : rule ≡ by_kind (kind_of b)) (q : Bytes) {name : Bytes} (is : name ≡ get_or (names_of b) position []) where
  name-is : word (rule_by rule) name ≡ nth (words_in b) position
  unfolding words_of
  name-is = ap₂ word (own-rule b rule own) is ∙ sym (nth-word (rule_in b) (names_of b) position)

  name-size : length name ≡ length (nth (words_in b) position)
  name-size = sym (length-map name (rule_by rule)) ∙ ap length name-is

  module _ {m : ℕ} (e : m ≡ shared (word (rule_by rule) q) (word (rule_by rule) name)) where
    both-share : m ≡ shared (asked_in b q) (nth (words_in b) position)
    unfolding asked
    both-share = e ∙ ap₂ shared (ap (λ (ρ : Rule). word ρ q) (own-rule b rule own)) name-is

    pub met : MetSays (words_in b) (asked_in b q) position (length name) m
    met = record { size = name-size; shares = both-share }

    pub next : {s : ℕ} → s ≡ at (word (rule_by rule) name) (m - 0) → NextSays (words_in b) position m s
    next f = let z : m - 0 ≡ m = omega arith in f ∙ ap₂ at name-is z

-- it is the name that is reached
pub near : {ws : Words} {q : List ℕ} {position len m : ℕ} → MetSays ws q position len m → Reached ws q position → NearSays ws q position m len
near k t = record { there = t; shares = k.shares; size = k.size }

-- ---- `meet` and `locate`

module _ (b q : Bytes) {μ : Map} (s : Searchable (rule_in b) b μ) {p : List ℕ} {n last : ℕ} (t : DescentSays b μ (asked_in b q) p n last) where
  ends : Sits (words_in b) (number_in μ last)
  ends = passed-sits (words_in b) s.rises t.way.path s.short

  pub end-here : AtOffset b μ last
  end-here = record { searchable = s; placed = t.ended; inside = ends.inside }

  -- node number j of the path
  passed_here : (j : ℕ) → j < n → AtOffset b μ (get_or p j 0)
  passed_here j h = record {
    searchable = s;
    placed = t.placed j h;
    inside = subst (λ (v : ℕ). v < length (table (words_in b))) (path-at μ p j) (t.way.path.sits j h).inside;
  }

  depth-at : (j : ℕ) → j < n → (record_at μ.step b (get_or p j 0)).depth ≡ (node (words_in b) (get_or (map (number_in μ) p) j 0)).depth
  depth-at j h = ap (λ (x : Node). x.depth) (here-told (passed_here j h)) ∙ ap (λ (v : ℕ). (node (words_in b) v).depth) (sym (path-at μ p j))

  pub end-path : OnPath b μ.step p n
  end-path = record {
    long = sym (length-map p (number_in μ)) ∙ t.way.path.long;
    some = t.way.path.some;
    few = t.way.few;
    room = λ j h. here-room (passed_here j h);
    deepens = λ i j h k. omega (arith, depth-at i (omega arith), depth-at j k, passed-deepens (words_in b) s.rises t.way.path s.short i j h k);
  }

  -- by numbers
  highest : {m r : ℕ} → HighestAt b μ.step p n m r → Highest (words_in b) (map (number_in μ) p) n m (number_in μ r)
  highest {m} {r} h =
      let here : AtOffset b μ r = subst (λ (o : ℕ). AtOffset b μ o) (sym h.is) (passed_here h.index h.within) in
      record {
        index = h.index;
        within = h.within;
        is = ap (number_in μ) h.is ∙ sym (path-at μ p h.index);
        above = λ j k. omega (arith, h.above j k, depth-at j (omega (arith, h.within)));
        deep = subst (λ (d : ℕ). (m ≤ d) ⊎ (suc h.index ≡ n)) (ap (λ (x : Node). x.depth) (here-told here)) h.deep;
      }

  pub end-visits : n ≡ visits (asked_in b q) (words_in b)
  end-visits = sym (visits-are (words_in b) s.rises t.way)

  module _ {r : ℕ} (f : r ≡ (record_at μ.step b last).first) where
    is : r ≡ reached (asked_in b q) (words_in b)
    is = f ∙ ap (λ (x : Node). x.first) (here-told end-here) ∙ sym (reached-is (words_in b) s.rises t.way)

    pub end-reached : Reached (words_in b) (asked_in b q) r
    end-reached = record {
      is = is;
      within = omega (arith, ap (λ (x : Node). x.first) (here-told end-here), ends.some, ends.within);
      only = λ i h k. only-reached (words_in b) s.rises t.way i h k ∙ sym is;
    }

    pub spot : {l m c o : ℕ} → MetSays (words_in b) (asked_in b q) r l m → NextSays (words_in b) r m c → HighestAt b μ.step p n m o → SpotSays b μ (asked_in b q) o m c
    spot {l} {m} e behind h =
        let g : m ≡ shared (asked_in b q) (nth (words_in b) (reached (asked_in b q) (words_in b))) =
        e.shares ∙ ap (λ (i : ℕ). shared (asked_in b q) (nth (words_in b) i)) is in
        record {
          placed = subst (λ (x : ℕ). Placed μ x) (sym h.is) (t.placed h.index h.within);
          located = record { shares = g; found = found (words_in b) s.rises t.way g (highest h) };
          next = behind ∙ ap (λ (i : ℕ). at (nth (words_in b) i) m) is;
        }

-- the nodes of the way were visited, and the entries up to the name that is reached were read
pub looked : {b q : Bytes} {r seen read : ℕ} → Reached (words_in b) (asked_in b q) r → seen ≡ visits (asked_in b q) (words_in b) → read ≡ entries_to (told b 1) r → Looked b q seen read
looked {b} o e f = record { nodes = e; name = f ∙ ap (entries_to (told b 1)) o.is }

-- the name that is reached can be read
pub name-ask : {b : Bytes} {stride step r : ℕ} (q : List ℕ) → Askable b stride step → Reached (words_in b) q r → NameAsk b r
unfolding words_of
name-ask {b} q a o = record { framed = a.parts.framed; block = refl; blocks = refl; within = omega (arith, o.within, length-map (names_of b) (word (rule_in b))) }

pub spot-at : {b q : Bytes} {stride step o m s : ℕ} → Askable b stride step → SpotSays b (table_map b stride step) (asked_in b q) o m s → AtSpot b (table_map b stride step) q o m s
spot-at a p = record { searchable = a.searchable; spot = p }

-- the map of the node table is the one that the trailer tells of: x bytes from a node to the next, y from a number of a node to its next
pub own-askable : {b : Bytes} {x y : ℕ} → Parts b → Searchable (rule_in b) b (map_of b) → x ≡ (map_of b).stride → y ≡ (map_of b).step → Askable b x y
own-askable {b} {x} {y} p s xe ye = record { parts = p; searchable = subst (λ (μ : Map). Searchable (rule_in b) b μ) own-map s }
  where
    at-start : ℕ → Map
    at-start u = record { start = u; stride = (map_of b).stride; step = (map_of b).step }

    own-map : map_of b ≡ table_map b x y
    own-map = ap at-start (map-starts (form_of (kind_of b)) (told b 3) (told b 4)) ∙ ap₂ (λ (u v : ℕ). table_map b u v) (sym xe) (sym ye)
