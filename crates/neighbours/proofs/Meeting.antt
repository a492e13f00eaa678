-- What a name shares with the one before it: by its count, or along the block of the one before.
--     rule-is                                     the rule that the code took is the book's
--     start-..                                    where a block starts
--     meet-reads, meet-before                     the entries' bytes
--     meet_low                                    the count is never more than what they share
--     meet-most                                   what they share is never more than a name has
--     meet-level, meet-less                       a count that is d, or more, says it
--     meet-stored                                 by the plain rule each count does, but for 0
--     meet-just, meet-other, meet-least, meet-fewer     what they share is counted
--     meet-starts, meet-asks, meet-counted                  along the block, from a name that is stored whole
--     whole-own, whole-first                      which name that is
-- Assumes nothing.
use Prim.Native.Nat.{ℕ, zero, suc, pred, ◌+◌, ◌-◌, ◌*◌, ◌/◌, ◌%◌, ◌≤◌, ◌<◌}
use native.Mathlib.Nat.{div-add-mod', div-le_self, lt_irrefl, mod-lt}
use native.Mathlib.Omega.{arith}
use mathlib.Core.Path.{◌≡◌, refl, sym, ap, ap₂, ◌∙◌, subst}
use mathlib.Core.Bool.{Bool, true, false}
use mathlib.Core.List.{List, []}
use lib.Dec.{eqb}
use lib.ListN.{length, get_or}
use borrow.Author.Tests.{eq-eqb, eqb-true, ne_eqb}
use mir.Val.{Fits}
use mir.Syntax.{w64}
use Rattle.words.specs.Words.{Bytes, Rule, pick, plain, shared, word}
use Rattle.words.specs.Rising.{nth}
use Rattle.words.proofs.Words.{plain-injective, shared-front, shared-le, shared-word, shared-word-le}
use Rattle.format.specs.Kinds.{BookKind, kind_of, rule_in, rule_of}
use Rattle.format.specs.Spans.{words_in}
use Rattle.format.specs.Records.{longest}
use Rattle.format.specs.Book.{number, names_of, told}
use Rattle.symbols.specs.Rules.{by_kind, rule_by}
use Rattle.symbols.specs.declared.Rule.{Rule as ByRule}
use Rattle.symbols.specs.declared.Rule.TheVariants.{Plain}
use Rattle.symbols.proofs.Symbols.{rule-by}
use Rattle.streams.specs.Streams.{Here, Known, offset_at, offset_from, rest_at}
use Rattle.streams.proofs.Here.{Comes, comes, here-fits, here-rises, name-short, words-nth}
use Rattle.neighbours.specs.Neighbours.{AlongAsk, AlongSays, MeetAsk, Meets, PartSays, StartAsk, shared_before, block_start, whole_before}
use Rattle.neighbours.proofs.Along.{before-is}

-- t is what the book told, and r the way that was taken
rule-is : (κ : BookKind) (t r : ByRule) → t ≡ by_kind κ → t ≡ r → rule_of κ ≡ rule_by r
rule-is κ t r te e = sym (rule-by κ) ∙ ap rule_by (sym te ∙ e)

-- ---- where a block starts

module _ (b : Bytes) (i : ℕ) (ask : StartAsk b i) (k s : ℕ) (ke : k ≡ told b 1) (se : s ≡ told b 2) where
  within : i / told b 1 * told b 1 < length (names_of b)
  within = omega (arith, div-add-mod' i (told b 1), ask.within)

  same : i / k ≡ i / told b 1
  same = ap (λ (n : ℕ). i / n) ke

  room : told b 2 + 2 * (i / told b 1) + 2 ≤ length b
  room = ask.blocks.room (i / told b 1) within

  pub start-few : Fits w64 (2 * (i / k))
  start-few = omega (arith, div-le_self i k, ask.within, ask.few)

  pub start-place : s + 2 * (i / k) + 2 ≤ length b
  start-place = omega (arith, room, same, se)

  pub start-sum : s < 65536 → Fits w64 (s + 2 * (i / k))
  start-sum h = omega (arith, div-le_self i k, ask.within, ask.few)

  pub start-told : (r : ℕ) → r ≡ number b (s + 2 * (i / k)) → r ≡ block_start b i
  start-told r e = e ∙ ap₂ (λ (n m : ℕ). number b (n + 2 * m)) se same ∙ ask.blocks.place (i / told b 1) within

-- ---- the two names

module _ (b : Bytes) (p a i : ℕ) (m : MeetAsk b p a i) where
  abbrev prev : Bytes
  prev = get_or (names_of b) (pred i) []

  abbrev name : Bytes
  name = get_or (names_of b) i []

  meet-is : shared_before b i ≡ shared (word (rule_in b) prev) (word (rule_in b) name)
  meet-is = ap₂ (λ (x y : List ℕ). shared x y) (words-nth (rule_in b) b (pred i)) (words-nth (rule_in b) b i)

  come : Comes b a prev name
  come = subst (λ (y : Bytes). Comes b a y name) (before-is b 0 i m.some) (comes (rule_in b) b i a m.known m.here m.within)

  -- a stored count is never more
  pub meet_low : get_or b a 0 ≤ shared_before b i
  meet_low =
      omega (
        arith,
        meet-is,
        subst (λ (y : Bytes). get_or b a 0 ≤ shared prev y) come.named (shared-front prev (rest_at b a) (get_or b a 0) come.stands.shares),
        shared-word-le (rule_in b) prev name,
      )

  pub meet-reads : a < length b
  meet-reads = omega (arith, come.stands.fits)

  pub meet-before : p < length b
  meet-before = omega (arith, here-fits (rule_in b) b (pred i) p m.known m.before (omega (arith, m.within)))

  -- ---- the two answers

  no_part : (d : ℕ) → (shared_before b i ≡ d → ⊥) → PartSays b a i d 0
  no_part d n = record { no_way = λ z. n; it-does = λ z. absurd (z refl) }

  -- the entry of a name that is not the first does not stand at 0
  behind : 0 < a
  unfolding offset_from
  behind = omega (arith, here-rises b 0 i m.some, m.here)

  a-part : (d : ℕ) {r : ℕ} → r ≡ a → Meets b a i d → PartSays b a i d r
  a-part d e k = record { no_way = λ z. absurd (lt_irrefl 0 (omega (arith, behind))); it-does = λ z. (e, k) }

  -- two names share no more than one has
  pub meet-most : shared_before b i ≤ longest
  meet-most = omega (arith, shared-le (nth (words_in b) (pred i)) (nth (words_in b) i), name-short (rule_in b) b (pred i) m.known (omega (arith, m.within)))

  module _ (c : ℕ) (ce : c ≡ get_or b a 0) where
    -- ---- the count says it

    here-count : c ≡ get_or b (offset_at b i) 0
    here-count = ce ∙ ap (λ (o : ℕ). get_or b o 0) m.here

    split : i / told b 1 * told b 1 + i % told b 1 ≡ i
    split = div-add-mod' i (told b 1)

    first : i % told b 1 ≡ 0 → c ≡ 0
    first z =
        let e : i / told b 1 * told b 1 ≡ i = omega (arith, split) in
        here-count ∙ subst (λ (n : ℕ). get_or b (offset_at b n) 0 ≡ 0) e (m.blocks.first (i / told b 1) (omega (arith, e, m.within)))

    inner : (q : ℕ) → i % told b 1 ≡ suc q → c ≡ shared prev name
    inner q z =
        let e : i / told b 1 * told b 1 + suc q ≡ i = omega (arith, split) in
        let p : i / told b 1 * told b 1 + q ≡ pred i = omega (arith, split) in
        let l : suc q < told b 1 = omega (arith, mod-lt i m.blocks.one) in
        here-count ∙ ap (λ (n : ℕ). get_or b (offset_at b n) 0) (sym e) ∙ m.blocks.inner (i / told b 1) q l (omega (arith, e, m.within))
        ∙ ap₂ (λ (x y : ℕ). shared (get_or (names_of b) x []) (get_or (names_of b) y [])) p e

    -- one that is not 0 is no block's first name's
    by_bytes : (q : ℕ) → i % told b 1 ≡ q → 0 < c → c ≡ shared prev name
    by_bytes zero z h = absurd (lt_irrefl 0 (omega (arith, first z)))
    by_bytes (suc q) z h = inner q z

    stored : (t : ByRule) → t ≡ by_kind (kind_of b) → t ≡ Plain → 0 < c → c ≡ shared_before b i
    stored t te e h =
        by_bytes (i % told b 1) refl h ∙ sym (shared-word plain plain-injective prev name)
        ∙ ap (λ (ρ : Rule). shared (word ρ prev) (word ρ name)) (sym (rule-is (kind_of b) t Plain te e)) ∙ sym meet-is

    module _ (d : ℕ) where
      pub meet-level : c ≡ d → Meets b a i d
      meet-level e = record { low = omega arith; shares = omega (arith, meet_low) }

      pub meet-less : d < c → PartSays b a i d 0
      meet-less h = no_part d (λ e. lt_irrefl d (omega (arith, meet_low)))

      pub meet-stored : (t : ByRule) → t ≡ by_kind (kind_of b) → t ≡ Plain → (c ≡ 0 → ⊥) → (get_or b a 0 ≡ d → ⊥) → PartSays b a i d 0
      meet-stored t te e some other = no_part d (λ q. other (sym ce ∙ stored t te e (omega arith) ∙ q))

      -- ---- or it is counted: x is what they share, and r the place that comes back

      module _ (x : ℕ) (xe : x ≡ shared_before b i) where
        pub meet-just : {r : ℕ} → r ≡ a → c ≡ 0 → x ≡ d → PartSays b a i d r
        meet-just re z q = a-part d re (record { low = omega arith; shares = omega arith })

        pub meet-other : (x ≡ d → ⊥) → PartSays b a i d 0
        meet-other q = no_part d (λ e. q (xe ∙ e))

        pub meet-least : {r : ℕ} → r ≡ a → c ≤ d → d ≤ x → PartSays b a i d r
        meet-least re l q = a-part d re (record { low = omega arith; shares = omega arith })

        pub meet-fewer : x < d → PartSays b a i d 0
        meet-fewer q = no_part d (λ e. lt_irrefl d (omega (arith, xe, e)))

  -- ---- the names of a block

  pub meet-starts : StartAsk b (i - 1)
  meet-starts = record { long = m.long; blocks = m.blocks; within = omega (arith, m.within); few = m.known.few }

  -- from a name that is stored whole, t and r as above
  pub meet-asks : (t r : ByRule) → t ≡ by_kind (kind_of b) → t ≡ r → (c : ℕ) → c ≡ get_or b a 0 → (r ≡ Plain → c ≡ 0) → (start : ℕ) → start ≡ whole_before b p (i - 1) → AlongAsk r b start a c
  meet-asks t r te e c ce w start st = go (eqb (get_or b p 0) 0) refl st
    where
      asks : (q : ℕ) → q < i → Here b q start → get_or b start 0 ≡ 0 → AlongAsk r b start a c
      asks q order first fresh = record {
        known = subst (λ (ρ : Rule). Known ρ b) (rule-is (kind_of b) t r te e) m.known;
        p = q;
        i = i;
        order = order;
        within = m.within;
        first = first;
        there = m.here;
        fresh = fresh;
        count = ce;
        whole = w;
      }

      go : (v : Bool) → eqb (get_or b p 0) 0 ≡ v → start ≡ pick v p (block_start b (i - 1)) → AlongAsk r b start a c
      go true q at_p = asks (pred i) (omega (arith, m.some)) (at_p ∙ m.before) (ap (λ (o : ℕ). get_or b o 0) at_p ∙ eqb-true (get_or b p 0) 0 q)
      go false q at_first =
          let l : (i - 1) / told b 1 * told b 1 + (i - 1) % told b 1 ≡ i - 1 = div-add-mod' (i - 1) (told b 1) in
          asks ((i - 1) / told b 1 * told b 1) (omega (arith, l, m.some)) at_first
          (ap (λ (o : ℕ). get_or b o 0) at_first ∙ m.blocks.first ((i - 1) / told b 1) (omega (arith, l, m.within)))

  -- x is what was counted
  module _ (t r : ByRule) (te : t ≡ by_kind (kind_of b)) (e : t ≡ r) (x : ℕ) (says : AlongSays (rule_by r) b a x) where
    pub meet-counted : x ≡ shared_before b i
    meet-counted = says i m.some m.within m.here ∙ ap (λ (ρ : Rule). shared (word ρ prev) (word ρ name)) (sym (rule-is (kind_of b) t r te e)) ∙ sym meet-is

-- ---- which entry is gone along from

module _ (b : Bytes) (p i : ℕ) where
  pub whole-own : get_or b p 0 ≡ 0 → p ≡ whole_before b p i
  whole-own z = ap (λ (v : Bool). pick v p (block_start b i)) (sym (eq-eqb (get_or b p 0) 0 z))

  pub whole-first : (get_or b p 0 ≡ 0 → ⊥) → (r : ℕ) → r ≡ block_start b i → r ≡ whole_before b p i
  whole-first n r e = e ∙ ap (λ (v : Bool). pick v p (block_start b i)) (sym (ne_eqb (get_or b p 0) 0 n))
