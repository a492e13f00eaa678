-- What the look at a leaf says, and the check of a node by that of its row.
--     leaf-stands, leaf-not    the record of one name
--     Asked                    what is asked of a node, with its first name and its depth as its row has them
--     RowStands                the row of a node stands, and no name is longer than the width that its record tells, but one is as long
--     row_of, node_of          where the node stands its row does, and the other way
--     says-no, says-yes        the two answers
-- Assumes nothing.
use Prim.Native.Nat.{ℕ, suc, pred, ◌+◌, ◌*◌, ◌≤◌, ◌<◌}
use native.Mathlib.Nat.{lt_irrefl}
use native.Mathlib.Omega.{arith}
use mathlib.Core.Path.{◌≡◌, refl, sym, ap, ◌∙◌, subst}
use lib.ListN.{length}
use Rattle.words.specs.Words.{Bytes}
use Rattle.words.specs.Rising.{nth, span}
use Rattle.format.specs.Kinds.{rule_in}
use Rattle.format.specs.Spans.{words_in}
use Rattle.format.specs.Book.{names_of}
use Rattle.format.specs.Nodes.{Node, leaf}
use Rattle.format.specs.Widths.{widest}
use Rattle.numbers.proofs.Parts.{packed-high, packed-low}
use Rattle.streams.specs.Streams.{Here, Known, length_at}
use Rattle.streams.proofs.Here.{here-length, words_count}
use Rattle.standing.specs.Maps.{Roomy, map_by, record_at}
use Rattle.standing.specs.Stands.{GroupAt, NodeAt}
use Rattle.standing.proofs.Children as child
use Rattle.looks.specs.Looks.{LeafAt}
use Rattle.inspect.specs.Check.{NodeAsk, NodeSays, NodeStands}

-- ---- one name

module _ (b : Bytes) (stride step lo s o a : ℕ) (known : Known (rule_in b) b) (here : Here b lo a) (some : lo < length (names_of b)) where
  lone : lo < length (words_in b)
  lone = omega (arith, some, words_count (rule_in b) b)

  size : length_at b a ≡ length (nth (words_in b) lo)
  size = here-length (rule_in b) b lo a known here some

  next : suc lo ≡ lo + 1
  next = omega arith

  pub leaf-stands : Roomy step b o → (record_at step b o).symbol ≡ s → (record_at step b o).first ≡ lo → (record_at step b o).names ≡ 1 → LeafAt b step o (length_at b a)
      → NodeAt (map_by stride step) b (words_in b) lo (lo + 1) s o (o + stride)
  leaf-stands room symbol first names k =
      let depth : (record_at step b o).depth ≡ suc (length (nth (words_in b) lo)) = k.0 ∙ ap suc size in
      let told : record_at step b o ≡ leaf lo s (nth (words_in b) lo) = rw (symbol, depth, first, names, k.1, k.2 ∙ size) refl in
      subst (λ (m : ℕ). NodeAt (map_by stride step) b (words_in b) lo m s o (o + stride)) next (child.leaf-node (words_in b) known.rises (map_by stride step) b s lo o lone room told)

  pub leaf-not : (LeafAt b step o (length_at b a) → ⊥) → (e : ℕ) → NodeAt (map_by stride step) b (words_in b) lo (lo + 1) s o e → ⊥
  leaf-not n e g =
      let f = child.node-leaf (words_in b) known.rises (map_by stride step) b s lo o e lone (subst (λ (m : ℕ). NodeAt (map_by stride step) b (words_in b) lo m s o e) (sym next) g) in
      n (ap (λ (r : Node). r.depth) f.told ∙ ap suc (sym size), ap (λ (r : Node). r.nodes) f.told, ap (λ (r : Node). r.width) f.told ∙ sym size)

-- ---- several names

pub record Asked (b : Bytes) (stride step o e lo d a : ℕ) : Type 0 where
  pub ask : NodeAsk b stride step o e a
  pub first : lo ≡ (record_at step b o).first
  pub depth : d ≡ (record_at step b o).depth

pub record RowStands (b : Bytes) (stride step o e lo d : ℕ) : Type 0 where
  pub several : 2 ≤ (record_at step b o).names
  pub within : lo + (record_at step b o).names ≤ length (names_of b)
  pub group : GroupAt (map_by stride step) b (words_in b) lo (lo + (record_at step b o).names) d (o + stride) e
  pub wide : (record_at step b o).width ≡ widest (span (words_in b) lo (lo + (record_at step b o).names))

module _ {b : Bytes} {stride step o e lo d a : ℕ} (q : Asked b stride step o e lo d a) where
  first : ℕ
  first = (record_at step b o).first

  names : ℕ
  names = (record_at step b o).names

  two : 2 ≤ names → suc first < first + names
  two h = omega arith

  few : first + names ≤ length (names_of b) → first + names ≤ length (words_in b)
  few h = omega (arith, words_count (rule_in b) b)

  pub row_of : NodeStands b stride step o e → RowStands b stride step o e lo d
  unfolding first names
  row_of s =
      let f = child.node-split (words_in b) q.ask.known.rises (map_by stride step) b (record_at step b o).symbol first (first + names) o e (two s.several) (few s.within) s.node in
      rw (q.first, q.depth) (record { several = s.several; within = s.within; group = f.group; wide = f.width })

  pub node_of : RowStands b stride step o e lo d → NodeStands b stride step o e
  unfolding first names
  node_of s =
      let t : RowStands b stride step o e (record_at step b o).first (record_at step b o).depth = rw (← q.first, ← q.depth) s in
      record {
        several = t.several;
        within = t.within;
        node = child.node-join (words_in b) q.ask.known.rises (map_by stride step) b (record_at step b o).symbol first (first + names) o e (two t.several) (few t.within) q.ask.paced.some (record {
          room = q.ask.own;
          symbol = refl;
          first = refl;
          names = omega arith;
          nodes = sym q.ask.ends;
          width = t.wide;
          group = t.group;
        });
      }

-- ---- the answers

pub says-no : {b : Bytes} {stride step o e : ℕ} → (NodeStands b stride step o e → ⊥) → NodeSays b stride step o e 0
says-no n = record { no_way = λ z. n; it-does = λ z. absurd (z refl); last = λ z. absurd (z refl); own = λ z. absurd (z refl) }

-- the entry of the last name stands at c
pub says-yes : {b : Bytes} {stride step o e c : ℕ} → NodeStands b stride step o e → Here b (pred ((record_at step b o).first + (record_at step b o).names)) c → 0 < c → c < 65536
    → NodeSays b stride step o e (c + 65536 * o)
says-yes {b} {stride} {step} {o} {e} {c} s h some few = record {
  no_way = λ z. absurd (lt_irrefl 0 (omega arith));
  it-does = λ z. s;
  last = λ z. subst (Here b (pred ((record_at step b o).first + (record_at step b o).names))) (sym (packed-low c o few)) h;
  own = λ z. packed-high c o few;
}
