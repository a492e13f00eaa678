-- The loop over what two parts of the bytes share, and one entry further.
--     Equal, equal-..       the invariant; its start, a turn, and the ways out
--     end-plain, end-folded      the ways out of `end_of`
--     next-ask, next_small, next_more, next-rest      what `shared_next` asks, and its ways out
-- Assumes nothing.
use Prim.Native.Nat.{ℕ, max, min, ◌+◌, ◌-◌, ◌≤◌, ◌<◌}
use native.Mathlib.Omega.{arith}
use mathlib.Core.Path.{◌≡◌, refl, sym, ap, ap₂, ◌∙◌}
use mathlib.Core.Bool.{Bool, true, false}
use mathlib.Core.List.{List}
use lib.Dec.{eqb}
use lib.ListN.{length, get_or, take, drop, length-take, length-drop, length-map}
use lib.Seq.{drop-drop, get_or-take, get_or-drop, length-take-le}
use mir.Val.{Fits}
use mir.Syntax.{w64}
use borrow.Author.Tests.{eq-eqb, eqb-true, le-ltb, lt-ltb}
use Rattle.words.specs.Words.{Bytes, Rule, at, shared, word}
use Rattle.words.proofs.Lists.{drop-take}
use Rattle.words.proofs.Words.{false≠true, part_at, shared-le, shared-more, word_at, word-front}
use Rattle.symbols.specs.Rules.{rule_by}
use Rattle.symbols.specs.declared.Rule.{Rule as ByRule}
use Rattle.symbols.specs.declared.Rule.TheVariants.{Folded, Plain}
use Rattle.streams.specs.Streams.{entry_end, rest_at}
use Rattle.neighbours.specs.Neighbours.{NextAsk, RestAsk, end_by, shared_next, shared_parts}
use Rattle.neighbours.proofs.Behind.{shared-cut, shared-cut-one}

-- the first x symbols are the same
pub record Equal (ρ : Rule) (b : Bytes) (own end other x : ℕ) : Type 0 where
  pub ask : RestAsk ρ b own end other
  pub within : end ≤ length b
  pub upto : x ≤ end - own
  pub so_far : x ≤ shared_parts ρ b own end other

module _ (ρ : Rule) (b : Bytes) (own end other : ℕ) where
  abbrev part : Bytes
  part = take (end - own) (drop own b)

  pub equal-start : RestAsk ρ b own end other → Equal ρ b own end other 0
  equal-start k = record { ask = k; within = k.within; upto = omega arith; so_far = omega arith }

  module _ (x : ℕ) (e : Equal ρ b own end other x) where
    pub equal-goes : x < end - own → other + x < length b
    equal-goes h = e.ask.goes_on x (omega arith) e.so_far

    part_length : x < end - own → length part ≡ end - own
    part_length h = length-take-le (end - own) (drop own b) (omega (arith, length-drop own b, e.within))

    own-symbol : x < end - own → at (word ρ part) x ≡ ρ (get_or b (own + x) 0)
    own-symbol h = word_at ρ part x (omega (arith, part_length h)) ∙ ap ρ (get_or-take (end - own) (drop own b) x 0 (omega arith) ∙ get_or-drop own b x 0)

    other-symbol : x < end - own → at (word ρ (drop other b)) x ≡ ρ (get_or b (other + x) 0)
    other-symbol h = word_at ρ (drop other b) x (omega (arith, length-drop other b, equal-goes h)) ∙ ap ρ (get_or-drop other b x 0)

    module _ (h : x < end - own) (v : Bool) (ve : v ≡ eqb (ρ (get_or b (own + x) 0)) (ρ (get_or b (other + x) 0))) where
      pub equal-more : v ≡ true → Equal ρ b own end other (x + 1)
      equal-more n =
          let same : at (word ρ part) x ≡ at (word ρ (drop other b)) x = own-symbol h ∙ eqb-true _ _ (sym ve ∙ n) ∙ sym (other-symbol h) in
          let more = shared-more (word ρ part) (word ρ (drop other b)) x e.so_far (omega (arith, length-map part ρ, part_length h))
          (omega (arith, length-map (drop other b) ρ, length-drop other b, equal-goes h)) same in
          record { ask = e.ask; within = e.within; upto = omega arith; so_far = omega (arith, more) }

      pub equal-parts : v ≡ false → x ≡ shared_parts ρ b own end other
      equal-parts n =
          sym (part_at (word ρ part) (word ρ (drop other b)) x e.so_far (λ q. false≠true (sym n ∙ ve ∙ eq-eqb _ _ (sym (own-symbol h) ∙ q ∙ other-symbol h))))

    pub equal-ends : end - own ≤ x → x ≡ shared_parts ρ b own end other
    equal-ends h =
        omega (arith, e.so_far, e.upto, shared-le (word ρ part) (word ρ (drop other b)), length-map part ρ, length-take (end - own) (drop own b))

-- ---- up to where

module _ (t : ByRule) (b : Bytes) (at own a other z : ℕ) (ze : z ≡ entry_end b at) where
  pub end-plain : t ≡ Plain → z ≡ end_by t b at own a other
  end-plain e = rw e ze

  pub end-folded : t ≡ Folded → (y r : ℕ) → y ≡ entry_end b a → r ≡ min z (own + (y - other)) → r ≡ end_by t b at own a other
  end-folded e y r ye re = rw e (re ∙ ap₂ (λ (m n : ℕ). min m (own + (n - other))) ze ye)

-- ---- one entry further

-- what the entry at o adds, behind m bytes of it
rest_part : (b : Bytes) (o m : ℕ) → drop m (rest_at b o) ≡ take (get_or b (o + 1) 0 - m) (drop (o + 2 + m) b)
rest_part b o m = drop-take m (get_or b (o + 1) 0) (drop (o + 2) b) ∙ ap (take (get_or b (o + 1) 0 - m)) (drop-drop m (o + 2) b)

-- the numbers: p bytes of one rest and q of the other are left, of which all bytes from there on share s
module _ (p q s n r : ℕ) (ne : n ≡ min p s) (re : r ≡ min (min p q) s) where
  uncut : r < q → n ≡ r
  uncut h = omega arith

folded-end : (at l m q : ℕ) → min (at + 2 + l) (at + 2 + m + q) - (at + 2 + m) ≡ min (l - m) q
folded-end at l m q = omega arith

module _ (t : ByRule) (b : Bytes) (at a c x e : ℕ) (ask : NextAsk t b at a c x) (ee : e ≡ get_or b at 0) where
  pub next_more : x < e → x ≡ shared_next (rule_by t) b at a x
  next_more h = sym (rw (lt-ltb x (get_or b at 0) (omega arith)) refl)

  -- f is where the two go on
  module _ (h : e ≤ x) (f : ℕ) (fe : f ≡ max e c) where
    abbrev ρ : Rule
    ρ = rule_by t

    abbrev own : ℕ
    own = at + 2 + (f - e)

    abbrev other : ℕ
    other = a + 2 + (f - c)

    -- what is left of the two rests, and what all bytes from there on share
    abbrev p : ℕ
    p = get_or b (at + 1) 0 - (f - e)

    abbrev q : ℕ
    q = get_or b (a + 1) 0 - (f - c)

    abbrev s : ℕ
    s = shared (word ρ (drop own b)) (word ρ (drop other b))

    -- what the two rests share
    abbrev r : ℕ
    r = shared (word ρ (drop (f - e) (rest_at b at))) (word ρ (drop (f - c) (rest_at b a)))

    near : f - c ≤ get_or b (a + 1) 0
    near = omega (arith, ask.upto, ask.count)

    parts : (z : ℕ) → shared_parts ρ b own z other ≡ min (z - own) s
    parts z = ap (λ (w : List ℕ). shared w (word ρ (drop other b))) (word-front ρ (z - own) (drop own b)) ∙ shared-cut-one (z - own) (word ρ (drop own b)) (word ρ (drop other b))

    rests : r ≡ min (min p q) s
    rests =
        ap₂ (λ (u v : List ℕ). shared u v) (ap (word ρ) (rest_part b at (f - e)) ∙ word-front ρ p (drop own b)) (ap (word ρ) (rest_part b a (f - c)) ∙ word-front ρ q (drop other b))
        ∙ shared-cut p q (word ρ (drop own b)) (word ρ (drop other b))

    counted : f + r ≡ shared_next ρ b at a x
    counted =
        let is : f ≡ max (get_or b at 0) (get_or b a 0) = fe ∙ ap₂ max ee ask.count in
        rw (le-ltb x (get_or b at 0) (omega arith), ← is, ← ee, ← ask.count) refl

    -- ---- by the rule, z is where the part ends

    goes : t ≡ Plain → r < q
    goes te = omega (arith, ask.goes_on te, counted, ask.count)

    same : (z : ℕ) (k : ByRule) → t ≡ k → z ≡ end_by k b at own a other → shared_parts ρ b own z other ≡ r
    same z Plain te ze =
        let size : z - own ≡ p = ap (λ (n : ℕ). n - own) ze ∙ omega arith in
        uncut p q s (shared_parts ρ b own z other) r (parts z ∙ ap (λ (n : ℕ). min n s) size) rests (goes te)
    same z Folded te ze =
        let left : entry_end b a - other ≡ q = omega arith in
        let size : z - own ≡ min p q =
        ap (λ (n : ℕ). n - own) ze ∙ ap (λ (n : ℕ). min (entry_end b at) (own + n) - own) left ∙ folded-end at (get_or b (at + 1) 0) (f - e) q in
        parts z ∙ ap (λ (n : ℕ). min n s) size ∙ sym rests

    bounded : (z : ℕ) (k : ByRule) → t ≡ k → z ≡ end_by k b at own a other → (y : ℕ) → own + y < z → y ≤ shared_parts ρ b own z other → other + y < length b
    bounded z Plain te ze y l g = omega (arith, ask.there, goes te, same z Plain te ze, near)
    bounded z Folded te ze y l g = omega (arith, ask.there, near)

    upto : (z : ℕ) (k : ByRule) → z ≡ end_by k b at own a other → z ≤ length b
    upto z Plain ze = omega (arith, ask.here)
    upto z Folded ze = omega (arith, ask.here)

    module _ (z : ℕ) (ze : z ≡ end_by t b at own a other) where
      pub next-ask : RestAsk ρ b own z other
      next-ask = record { small = ask.small; within = upto z t ze; goes_on = bounded z t refl ze }

      pub next_small : (n : ℕ) → n ≤ z - own → Fits w64 (f + n)
      next_small n l = omega (arith, upto z t ze, ask.small, ask.upto, ask.short, ask.count)

      pub next-rest : (n : ℕ) → n ≡ shared_parts ρ b own z other → f + n ≡ shared_next ρ b at a x
      next-rest n ne = ap (λ (i : ℕ). f + i) (ne ∙ same z t refl ze) ∙ counted
