-- What is known of a question where the group of names that share most with it is known.
--     place-cut       names before r lie below q and those from r on do not: r is the place
--     group-place     a group cut at q's symbol: the cut is the place
--     whole-place, whole-range, whole-width    a group that shares all of q: the place is its start, it is the range, and its greatest length the width
--     range_none, none-wide       no name begins with a question of which less is shared
--     exact-here, exact-nowhere
-- Assumes nothing.
use Prim.Native.Nat.{ℕ, ◌-◌, ◌≤◌, ◌<◌, zero-le}
use native.Mathlib.Nat.{lt_irrefl, eq-or-lt_of_le}
use native.Mathlib.Omega.{arith}
use mathlib.Core.Path.{◌≡◌, refl, sym, ap, ◌∙◌, subst}
use mathlib.Core.Logic.{◌⊎◌, inl, inr}
use mathlib.Core.Bool.{Bool, true, false}
use mathlib.Core.List.{List, [], ◌++◌}
use lib.Dec.{ltb}
use lib.ListN.{length, get_or-eq_default}
use lib.Seq.{take-length}
use borrow.Author.Tests.{ltb-true, lt-ltb, le-ltb, eq-eqb}
use Rattle.words.specs.Rising.{All, Positive, Rises, span, nth}
use Rattle.words.specs.Words.{Words, at, begins, both, less, pick, same, shared}
use Rattle.words.proofs.Lists.{all_from}
use Rattle.words.proofs.Rising.{nth-less, span-all, span-length, span-split}
use Rattle.words.proofs.Words.{Sides, apart, before, behind, both_true, false≠true, less-asym, less_by, less-irrefl, level, same_refl, same-side, same_true, shared-comm, short-no, sides}
use Rattle.format.specs.Widths.{widest}
use Rattle.answers.specs.Questions.{Pair, count, exact, place}
use Rattle.answers.specs.Widths.{width}
use Rattle.answers.proofs.Places.{begins-none, count-all, count-append, count_none, exact-place, place_at, place-le}
use Rattle.answers.proofs.Widths.{width-all, width-append, width-none}
use Rattle.descent.specs.Vocabulary.{Cut, Group}

module _ (ws : Words) (q : List ℕ) (r : Rises ws) where
  -- the place, by a cut
  pub place-cut : (p : ℕ) → p ≤ length ws → ((i : ℕ) → i < p → less (nth ws i) q ≡ true)
      → ((i : ℕ) → p ≤ i → i < length ws → less (nth ws i) q ≡ false) → p ≡ place q ws
  place-cut p h below above = go (sides p (place q ws))
    where
      go : Sides p (place q ws) → p ≡ place q ws
      go (level e) = e
      go (before l) =
          let k : p < length ws = omega (arith, place-le q ws) in
          absurd (false≠true (sym (above p (omega arith) k) ∙ place_at q ws r p k ∙ lt-ltb p (place q ws) l))
      go (behind l) =
          let o : ℕ = place q ws in
          absurd (false≠true (sym (le-ltb o o (omega arith)) ∙ sym (place_at q ws r o (omega arith)) ∙ below o l))

  module _ (n lo hi : ℕ) (g : Group ws q n lo hi) where
    before-group : (i : ℕ) → i < lo → less (nth ws i) q ≡ true
    before-group i h =
        let w : hi ≤ length ws = g.within in
        let s : lo < hi = g.some in
        same-side (nth ws lo) (nth ws i) q
        (omega (arith, g.outside i (omega arith) (inl h), g.inside lo (omega arith) s, shared-comm (nth ws lo) q, shared-comm (nth ws i) q))
        ∙ nth-less ws i lo r h (omega arith)

    after-group : (i : ℕ) → hi ≤ i → i < length ws → less (nth ws i) q ≡ false
    after-group i h k =
        let s : lo < hi = g.some in
        same-side (nth ws lo) (nth ws i) q
        (omega (arith, g.outside i k (inr h), g.inside lo (omega arith) s, shared-comm (nth ws lo) q, shared-comm (nth ws i) q))
        ∙ less-asym (nth ws lo) (nth ws i) (nth-less ws lo i r (omega arith) k)

    in_group : (i : ℕ) → lo ≤ i → i < hi → less (nth ws i) q ≡ ltb (at (nth ws i) n) (at q n)
    in_group i l h = less_by (nth ws i) q n (shared-comm (nth ws i) q ∙ g.inside i l h)

    pub group-place : (p : ℕ) → Cut ws n (at q n) lo hi p → p ≡ place q ws
    group-place p c = place-cut p (omega (arith, g.within, c.high)) low high
      where
        low : (i : ℕ) → i < p → less (nth ws i) q ≡ true
        low i h = go (apart i lo)
          where
            go : (i < lo) ⊎ (lo ≤ i) → less (nth ws i) q ≡ true
            go (inl k) = before-group i k
            go (inr k) = in_group i k (omega (arith, c.high)) ∙ lt-ltb (at (nth ws i) n) (at q n) (c.below i k h)

        high : (i : ℕ) → p ≤ i → i < length ws → less (nth ws i) q ≡ false
        high i h m = go (apart i hi)
          where
            go : (i < hi) ⊎ (hi ≤ i) → less (nth ws i) q ≡ false
            go (inl k) = in_group i (omega (arith, c.low)) k ∙ le-ltb (at (nth ws i) n) (at q n) (c.above i h k)
            go (inr k) = after-group i k m

    -- all of q is shared
    pub whole-place : n ≡ length q → lo ≡ place q ws
    whole-place e =
        let s : lo < hi = g.some in
        let z : at q n ≡ 0 = get_or-eq_default q 0 (omega arith) in
        group-place lo (record { low = omega arith; high = omega arith; below = λ i l h. absurd (lt_irrefl i (omega arith)); above = λ i l h. omega arith })

    -- the words before the group, those of it and those behind it
    three : ws ≡ span ws 0 lo ++ (span ws lo hi ++ span ws hi (length ws))
    three =
        let s : lo < hi = g.some in
        let w : hi ≤ length ws = g.within in
        sym (take-length ws) ∙ span-split ws 0 lo (length ws) zero-le (omega arith) (omega arith)
        ∙ ap (λ (x : Words). span ws 0 lo ++ x) (span-split ws lo hi (length ws) (omega arith) w (omega arith))

    module _ (e : n ≡ length q) where
      off : (i : ℕ) → i < length ws → (i < lo) ⊎ (hi ≤ i) → begins q (nth ws i) ≡ false
      off i h o = short-no q (nth ws i) (omega (arith, g.outside i h o))

      none_before : All (λ y. begins q y ≡ false) (span ws 0 lo)
      none_before = let s : lo < hi = g.some in let w : hi ≤ length ws = g.within in span-all ws 0 lo zero-le (omega arith) (λ i l h. off i (omega arith) (inl h))

      none-behind : All (λ y. begins q y ≡ false) (span ws hi (length ws))
      none-behind = span-all ws hi (length ws) g.within (omega arith) (λ i l h. off i h (inr l))

      all-within : All (λ y. begins q y ≡ true) (span ws lo hi)
      unfolding begins
      all-within =
          let s : lo < hi = g.some in
          span-all ws lo hi (omega arith) g.within (λ i l h. eq-eqb (shared q (nth ws i)) (length q) (g.inside i l h ∙ e))

      pub whole-range : hi - lo ≡ count (begins q) ws
      whole-range =
          let f : List ℕ → Bool = begins q in
          omega (
            arith,
            count_none f (span ws 0 lo) none_before,
            count-all f (span ws lo hi) all-within,
            count_none f (span ws hi (length ws)) none-behind,
            span-length ws lo hi g.within,
            ap (count f) three,
            count-append f (span ws 0 lo) (span ws lo hi ++ span ws hi (length ws)),
            count-append f (span ws lo hi) (span ws hi (length ws)),
          )

      pub whole-width : widest (span ws lo hi) ≡ width q ws
      whole-width =
          omega (
            arith,
            width-none q (span ws 0 lo) none_before,
            width-all q (span ws lo hi) all-within,
            width-none q (span ws hi (length ws)) none-behind,
            ap (width q) three,
            width-append q (span ws 0 lo) (span ws lo hi ++ span ws hi (length ws)),
            width-append q (span ws lo hi) (span ws hi (length ws)),
          )

  -- ---- the range's count where less is shared, and exact

  pub range_none : (n : ℕ) → ((i : ℕ) → i < length ws → shared q (nth ws i) ≤ n) → n < length q → 0 ≡ count (begins q) ws
  range_none n most h = sym (begins-none q n ws (all_from [] ws most) h)

  pub none-wide : (n : ℕ) → ((i : ℕ) → i < length ws → shared q (nth ws i) ≤ n) → n < length q → 0 ≡ width q ws
  none-wide n most h = sym (width-none q ws (all_from [] ws (λ i l. short-no q (nth ws i) (omega (arith, most i l)))))

  module _ (p : Positive q) where
    pub exact-here : (i : ℕ) → i < length ws → nth ws i ≡ q → exact q ws ≡ (i, 1)
    exact-here i h e =
        let k : i ≡ place q ws = place-cut i (omega arith)
        (λ j l. subst (λ (y : List ℕ). less (nth ws j) y ≡ true) e (nth-less ws j i r l h))
        (λ j l m. subst (λ (y : List ℕ). less (nth ws j) y ≡ false) e (later j m (eq-or-lt_of_le l))) in
        exact-place q ws p r ∙ rw (← k, lt-ltb i (length ws) h, e, same_refl q)
      where
        later : (j : ℕ) → j < length ws → (i ≡ j) ⊎ (i < j) → less (nth ws j) (nth ws i) ≡ false
        later j m (inl d) = subst (λ (k : ℕ). less (nth ws k) (nth ws i) ≡ false) d (less-irrefl (nth ws i))
        later j m (inr l) = less-asym (nth ws i) (nth ws j) (nth-less ws i j r l m)

    pub exact-nowhere : ((i : ℕ) → i < length ws → nth ws i ≡ q → ⊥) → exact q ws ≡ (0, 0)
    exact-nowhere never = exact-place q ws p r ∙ go (both (ltb o (length ws)) (same (nth ws o) q)) refl
      where
        o : ℕ
        o = place q ws

        go : (t : Bool) → both (ltb o (length ws)) (same (nth ws o) q) ≡ t → ◌≡◌ {A = Pair} (pick t (o, 1) (0, 0)) (0, 0)
        go false e = refl
        go true e =
            let b = both_true (ltb o (length ws)) (same (nth ws o) q) e in
            absurd (never o (ltb-true o (length ws) b.0) (same_true (nth ws o) q b.1))
