-- The walk along a block to the name at a.
--     Along                 what is counted so far: c, and what the last name that was passed shares with the name at a from there on
--     along-start, along-fits, along-asks, along-more, along-done     the loop
-- Names that were passed need not begin as the name at a does up to c; the last one before it does.
-- Assumes nothing.
use Prim.Native.Nat.{ℕ, suc, pred, ◌+◌, ◌≤◌, ◌<◌}
use native.Mathlib.Nat.{lt_irrefl}
use native.Mathlib.Omega.{arith}
use mathlib.Core.Path.{◌≡◌, sym, ap, ap₂, ◌∙◌, subst}
use mathlib.Core.Logic.{◌⊎◌, inl, inr}
use mathlib.Core.Bool.{true}
use mathlib.Core.List.{List, [], ◌++◌}
use lib.ListN.{length, get_or, take, drop, length-map, length-take}
use lib.Seq.{drop_at, length-take-le}
use borrow.Author.Tests.{le-ltb, lt-ltb}
use Rattle.words.specs.Words.{Bytes, Words, less, shared, word}
use Rattle.words.specs.Rising.{nth}
use Rattle.words.proofs.Rising.{nth-less}
use Rattle.words.proofs.Words.{Sides, apart, before, behind, less-short, level, shared-comm, shared-front, shared-le, shared-word-le, sides}
use Rattle.format.specs.Spans.{words_of}
use Rattle.format.specs.Book.{names_of}
use Rattle.symbols.specs.Rules.{rule_by}
use Rattle.symbols.specs.declared.Rule.{Rule as ByRule}
use Rattle.symbols.specs.declared.Rule.TheVariants.{Plain}
use Rattle.streams.specs.Streams.{Here, Known, entry_end, length_at, offset_at, prev_of, rest_at}
use Rattle.streams.proofs.Here.{Comes, comes, here-length, here-next, here-only, here-rises, words_count, words-nth}
use Rattle.neighbours.specs.Neighbours.{AlongAsk, AlongSays, NextAsk, shared_next}
use Rattle.neighbours.proofs.Behind.{shared-behind, step-rest, step_same, word-behind}

-- name j is next, at `at`; i is the name at a, and p the block's first
pub record Along (t : ByRule) (b : Bytes) (a c at x : ℕ) : Type 0 where
  pub known : Known (rule_by t) b
  pub p : ℕ
  pub j : ℕ
  pub i : ℕ
  pub order : p < i
  pub from : p ≤ j
  pub upto : j ≤ i
  pub within : i < length (names_of b)
  pub there : Here b i a
  pub here : Here b j at
  pub fresh : get_or b (offset_at b p) 0 ≡ 0
  pub count : c ≡ get_or b a 0
  pub whole : t ≡ Plain → c ≡ 0
  pub low : c ≤ x
  pub most : x ≤ length_at b a
  pub shares : p < j → x ≡ c + shared (word (rule_by t) (drop c (get_or (names_of b) (pred j) []))) (word (rule_by t) (rest_at b a))

pub along-start : (t : ByRule) (b : Bytes) (start a c : ℕ) → AlongAsk t b start a c → Along t b a c start c
along-start t b start a c k = record {
  known = k.known;
  p = k.p;
  j = k.p;
  i = k.i;
  order = k.order;
  from = omega arith;
  upto = omega (arith, k.order);
  within = k.within;
  there = k.there;
  here = k.first;
  fresh = subst (λ (o : ℕ). get_or b o 0 ≡ 0) k.first k.fresh;
  count = k.count;
  whole = k.whole;
  low = omega arith;
  most = omega (arith, k.count);
  shares = λ h. absurd (lt_irrefl k.p h);
}

-- the name before one that is not the first
pub before-is : (b : Bytes) (p j : ℕ) → p < j → prev_of (names_of b) j ≡ get_or (names_of b) (pred j) []
before-is b p j h = let e : suc (pred j) ≡ j = omega arith in ap (prev_of (names_of b)) (sym e)

module _ (t : ByRule) (b : Bytes) (a c at x : ℕ) (w : Along t b a c at x) where
  -- where the walk has come to the name at a, it has come to its entry
  short : at < a → w.j < w.i
  short h = go (apart w.j w.i)
    where
      go : (w.j < w.i) ⊎ (w.i ≤ w.j) → w.j < w.i
      go (inl l) = l
      go (inr l) =
          let e : w.j ≡ w.i = omega (arith, w.upto) in
          absurd (lt_irrefl a (omega (arith, w.here ∙ ap (offset_at b) e ∙ sym w.there)))

  ended : a ≤ at → w.j ≡ w.i
  ended h = go (apart w.j w.i)
    where
      go : (w.j < w.i) ⊎ (w.i ≤ w.j) → w.j ≡ w.i
      go (inl l) = absurd (lt_irrefl at (omega (arith, here-rises b w.j w.i l, w.here, w.there)))
      go (inr l) = omega (arith, w.upto)

  -- the name at a, and the one before it
  abbrev name : Bytes
  name = get_or (names_of b) w.i []

  abbrev last : Bytes
  last = get_or (names_of b) (pred w.i) []

  named : Comes b a last name
  named = subst (λ (y : Bytes). Comes b a y name) (before-is b w.p w.i w.order) (comes (rule_by t) b w.i a w.known w.there w.within)

  rest-most : (y : Bytes) → c + shared (word (rule_by t) y) (word (rule_by t) (rest_at b a)) ≤ length_at b a
  rest-most y =
      omega (
        arith,
        w.count,
        shared-le (word (rule_by t) (rest_at b a)) (word (rule_by t) y),
        shared-comm (word (rule_by t) y) (word (rule_by t) (rest_at b a)),
        length-map (rest_at b a) (rule_by t),
        length-take (get_or b (a + 1) 0) (drop (a + 2) b),
      )

  -- both begin with c bytes, so they share those, and what they share behind
  whole : shared (word (rule_by t) last) (word (rule_by t) name) ≡ c + shared (word (rule_by t) (drop c last)) (word (rule_by t) (rest_at b a))
  whole =
      let l : c ≤ length last = omega (arith, w.count, named.stands.shares) in
      let is : take c last ++ rest_at b a ≡ name = ap (λ (n : ℕ). take n last ++ rest_at b a) w.count ∙ named.named in
      let g : c ≤ shared last name = subst (λ (y : Bytes). c ≤ shared last y) is (shared-front last (rest_at b a) c l) in
      let f : drop c name ≡ rest_at b a = ap (drop c) (sym is) ∙ drop_at (take c last) (rest_at b a) c (length-take-le c last l) in
      shared-behind (word (rule_by t) last) (word (rule_by t) name) c (omega (arith, g, shared-word-le (rule_by t) last name))
      ∙ ap₂ (λ (u v : List ℕ). c + shared u v) (sym (word-behind (rule_by t) c last)) (sym (word-behind (rule_by t) c name) ∙ ap (word (rule_by t)) f)

  pub along-done : a ≤ at → AlongSays (rule_by t) b a x
  along-done h i some l there =
      let e : w.j ≡ w.i = ended h in
      let f : w.i ≡ i = here-only b w.i i a w.there there in
      w.shares (omega (arith, w.order))
      ∙ ap (λ (m : ℕ). c + shared (word (rule_by t) (drop c (get_or (names_of b) (pred m) []))) (word (rule_by t) (rest_at b a))) e ∙ sym whole
      ∙ ap (λ (n : ℕ). shared (word (rule_by t) (get_or (names_of b) (pred n) [])) (word (rule_by t) (get_or (names_of b) n []))) f

  module _ (h : at < a) where
    inside : w.j < length (names_of b)
    inside = omega (arith, short h, w.within)

    -- the name at hand, the one before it, and the count
    abbrev mine : Bytes
    mine = get_or (names_of b) w.j []

    abbrev prev : Bytes
    prev = prev_of (names_of b) w.j

    abbrev e : ℕ
    e = get_or b at 0

    come : Comes b at prev mine
    come = comes (rule_by t) b w.j at w.known w.here inside

    -- a count that is not 0 is no block's first
    later : 0 < e → w.p < w.j
    later s = go (sides w.p w.j)
      where
        go : Sides w.p w.j → w.p < w.j
        go (before l) = l
        go (level q) = absurd (lt_irrefl 0 (omega (arith, w.fresh, ap (λ (o : ℕ). get_or b o 0) (w.here ∙ ap (offset_at b) (sym q)))))
        go (behind l) = absurd (lt_irrefl w.p (omega (arith, w.from)))

    before-shares : c < e → x ≡ c + shared (word (rule_by t) (drop c prev)) (word (rule_by t) (rest_at b a))
    before-shares s =
        let l : w.p < w.j = later (omega arith) in
        w.shares l ∙ ap (λ (y : Bytes). c + shared (word (rule_by t) (drop c y)) (word (rule_by t) (rest_at b a))) (sym (before-is b w.p w.j l))

    next-shares : shared_next (rule_by t) b at a x ≡ c + shared (word (rule_by t) (drop c mine)) (word (rule_by t) (rest_at b a))
    next-shares = go (apart x e) ∙ ap (λ (y : Bytes). c + shared (word (rule_by t) (drop c y)) (word (rule_by t) (rest_at b a))) come.named
      where
        go : (x < e) ⊎ (e ≤ x) → shared_next (rule_by t) b at a x ≡ c + shared (word (rule_by t) (drop c (take e prev ++ rest_at b at))) (word (rule_by t) (rest_at b a))
        go (inl l) =
            let q = before-shares (omega (arith, w.low)) in
            rw (lt-ltb x e l) (q ∙ ap (λ (n : ℕ). c + n) (sym (step_same (rule_by t) c e prev (rest_at b at) (rest_at b a) come.stands.shares (omega (arith, q)))))
        go (inr l) =
            rw (le-ltb x e l, ← w.count) (sym (step-rest (rule_by t) c e prev (rest_at b at) (rest_at b a) come.stands.shares (λ s. omega (arith, before-shares s))))

    -- a whole name is above this one, and goes on where they part
    goes_on : t ≡ Plain → shared_next (rule_by t) b at a x < length_at b a
    goes_on z =
        let ws : Words = words_of (rule_by t) b in
        let l : less (nth ws w.j) (nth ws w.i) ≡ true =
        nth-less ws w.j w.i w.known.rises (short h) (omega (arith, words_count (rule_by t) b, w.within)) in
        let is : rest_at b a ≡ name = ap (λ (n : ℕ). take n last ++ rest_at b a) (sym (w.whole z) ∙ w.count) ∙ named.named in
        let s : shared (word (rule_by t) (drop c mine)) (word (rule_by t) (rest_at b a)) ≡ shared (nth ws w.j) (nth ws w.i) =
        ap₂ (λ (u v : List ℕ). shared u v) (ap (λ (n : ℕ). word (rule_by t) (drop n mine)) (w.whole z) ∙ sym (words-nth (rule_by t) b w.j))
        (ap (word (rule_by t)) is ∙ sym (words-nth (rule_by t) b w.i)) in
        omega (
          arith,
          next-shares,
          s,
          w.whole z,
          less-short (nth ws w.j) (nth ws w.i) l,
          here-length (rule_by t) b w.i a w.known w.there w.within,
        )

    pub along-fits : entry_end b at ≤ length b
    along-fits = come.stands.fits

    pub along-asks : NextAsk t b at a c x
    along-asks = record { here = come.stands.fits; there = named.stands.fits; count = w.count; short = named.stands.short; upto = w.most; small = w.known.short; goes_on = goes_on }

    pub along-more : (next y : ℕ) → y ≡ shared_next (rule_by t) b at a x → next ≡ entry_end b at → Along t b a c next y
    along-more next y ye ne = record {
      known = w.known;
      p = w.p;
      j = suc w.j;
      i = w.i;
      order = w.order;
      from = omega (arith, w.from);
      upto = short h;
      within = w.within;
      there = w.there;
      here = ne ∙ here-next b w.j at w.here;
      fresh = w.fresh;
      count = w.count;
      whole = w.whole;
      low = omega (arith, ye, next-shares);
      most = omega (arith, ye, next-shares, rest-most (drop c mine));
      shares = λ l. ye ∙ next-shares;
    }
