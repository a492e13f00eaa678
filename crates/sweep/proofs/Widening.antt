-- The walk over the names that begin with the question.
--     Widening              the names from p, the question's place, up to name i, which is next, at `at`, begin with it, and the greatest
--                           length of these is `widest`
--     first_fits, first-few, widening-start, widening-fits, widening-asks, widening-found, widening-more, widening-done     the loop
-- Assumes nothing.
use Prim.Native.Nat.{ℕ, suc, pred, max, ◌+◌, ◌-◌, ◌≤◌, ◌<◌}
use native.Mathlib.Omega.{arith}
use mathlib.Core.Path.{◌≡◌, refl, sym, ap, ap₂, ◌∙◌, subst}
use mathlib.Core.Logic.{◌⊎◌, inl, inr}
use mathlib.Core.Bool.{Bool, true, false}
use mathlib.Core.List.{List, []}
use lib.Dec.{eqb, leb, ltb}
use lib.ListN.{length, get_or, length-map}
use borrow.Author.Tests.{eq-eqb, eqb-true, le-leb, leb-true, lt-ltb, ltb-false, ltb-true}
use Rattle.words.specs.Rising.{nth}
use Rattle.words.specs.Words.{Bytes, Words, begins, both, plain, shared, word}
use Rattle.words.proofs.Words.{apart, both_true, shared-comm}
use Rattle.format.specs.Spans.{words_of}
use Rattle.format.specs.Book.{names_of}
use Rattle.format.specs.Records.{most_names}
use Rattle.answers.specs.Questions.{count, place}
use Rattle.answers.specs.Widths.{width}
use Rattle.answers.proofs.Places.{range_at, range-le}
use Rattle.answers.proofs.Widths.{Wide, width-at, width_some}
use Rattle.streams.specs.Streams.{Here, entry_end, length_at, prev_of}
use Rattle.streams.proofs.Here.{Comes, comes, here-fits, here-length, here-next, words_count, words-nth}
use Rattle.sweep.specs.Sweep.{RangeSays, StepAsk, SweepAsk, WidenAsk, shared_on}
use Rattle.sweep.specs.declared.Found.{Found}
use Rattle.sweep.proofs.Counting.{counting-on}

-- word i begins with the question just where it is from the place on and before the range's end
module _ (b q : Bytes) (n : ℕ) (k : SweepAsk b n) where
  abbrev ws : Words
  ws = words_of plain b

  abbrev asked : List ℕ
  asked = word plain q

  abbrev end : ℕ
  end = place asked ws + count (begins asked) ws

  by-range : (i : ℕ) → i < n → begins asked (nth ws i) ≡ both (leb (place asked ws) i) (ltb i end)
  by-range i h = range_at asked ws k.known.rises i (omega (arith, words_count plain b, k.count))

  pub in-range : (i : ℕ) → i < n → begins asked (nth ws i) ≡ true → (place asked ws ≤ i) × (i < end)
  in-range i h e =
      let t = both_true (leb (place asked ws) i) (ltb i end) (sym (by-range i h) ∙ e) in
      (leb-true (place asked ws) i t.0, ltb-true i end t.1)

  pub begins-in : (i : ℕ) → i < n → place asked ws ≤ i → i < end → begins asked (nth ws i) ≡ true
  begins-in i h l u = by-range i h ∙ rw (le-leb (place asked ws) i l, lt-ltb i end u) refl

  range-ends : (i : ℕ) → i < n → place asked ws ≤ i → begins asked (nth ws i) ≡ false → end ≤ i
  range-ends i h l e = ltb-false i end (sym (ap (λ (t : Bool). both t (ltb i end)) (le-leb (place asked ws) i l)) ∙ sym (by-range i h) ∙ e)

pub record Widening (b : Bytes) (n : ℕ) (q : Bytes) (p at widest i : ℕ) : Type 0 where
  pub ask : SweepAsk b n
  pub is : p ≡ place (word plain q) (words_of plain b)
  pub from : p < i
  pub upto : i ≤ n
  pub here : Here b i at
  pub high : i ≤ place (word plain q) (words_of plain b) + count (begins (word plain q)) (words_of plain b)
  pub low : widest ≤ width (word plain q) (words_of plain b)
  pub top : (j : ℕ) → p ≤ j → j < i → length (nth (words_of plain b) j) ≤ widest

-- ---- the start

module _ (b : Bytes) (n : ℕ) (q : Bytes) (p : ℕ) (f : Found) (k : WidenAsk b n q p f) where
  first-inside : p < n
  first-inside = omega (arith, k.name.inside, k.ask.count)

  pub first_fits : entry_end b f.at ≤ length b
  first_fits = here-fits plain b p f.at k.ask.known k.name.here k.name.inside

  pub first-few : p < most_names
  first-few = omega (arith, k.name.inside, k.ask.known.few)

  first-begins : begins (word plain q) (nth (words_of plain b) p) ≡ true
  unfolding begins
  first-begins =
      eq-eqb (shared (word plain q) (nth (words_of plain b) p)) (length (word plain q))
      (omega (arith, shared-comm (word plain q) (nth (words_of plain b) p), k.name.shares, k.whole, length-map q plain))

  pub widening-start : (next : ℕ) → next ≡ entry_end b f.at → Widening b n q p next f.len (p + 1)
  widening-start next ne =
      let one : suc p ≡ p + 1 = omega arith in
      subst (Widening b n q p next f.len) one (record {
        ask = k.ask;
        is = k.is;
        from = omega arith;
        upto = first-inside;
        here = ne ∙ here-next b p f.at k.name.here;
        high = (in-range b q n k.ask p first-inside first-begins).1;
        low = omega (arith, k.name.long, width-at (word plain q) (words_of plain b) p (omega (arith, words_count plain b, k.name.inside)) first-begins);
        top = λ j l h. let e : j ≡ p = omega arith in omega (arith, k.name.long, ap (λ (x : ℕ). length (nth (words_of plain b) x)) e);
      })

-- ---- a turn

module _ (b : Bytes) (n : ℕ) (q : Bytes) (p at widest i : ℕ) (w : Widening b n q p at widest i) where
  -- no name from i on begins with the question
  ended : place (word plain q) (words_of plain b) + count (begins (word plain q)) (words_of plain b) ≤ i → RangeSays b q p (i - p) widest
  ended h = record {
    is = w.is;
    many = omega (arith, w.is, w.high);
    wide = omega (arith, w.low, most (apart 0 (width (word plain q) (words_of plain b))));
  }
    where
      most : (0 < width (word plain q) (words_of plain b)) ⊎ (width (word plain q) (words_of plain b) ≤ 0) → width (word plain q) (words_of plain b) ≤ widest
      most (inr z) = omega arith
      most (inl s) =
          let x : Wide (word plain q) (words_of plain b) = width_some (word plain q) (words_of plain b) s in
          let l : x.index < n = omega (arith, x.within, words_count plain b, w.ask.count) in
          let r = in-range b q n w.ask x.index l x.begun in
          omega (arith, x.is, w.top x.index (omega (arith, w.is, r.0)) (omega (arith, r.1)))

  pub widening-done : n ≤ i → RangeSays b q p (n - p) widest
  widening-done h =
      let e : i - p ≡ n - p = omega (arith, w.upto) in
      subst (λ (m : ℕ). RangeSays b q p m widest) e (ended (omega (arith, range-le (word plain q) (words_of plain b), words_count plain b, w.ask.count)))

  module _ (h : i < n) where
    inside : i < length (names_of b)
    inside = omega (arith, w.ask.count)

    come : Comes b at (prev_of (names_of b) i) (get_or (names_of b) i [])
    come = comes plain b i at w.ask.known w.here inside

    pub widening-fits : entry_end b at ≤ length b
    widening-fits = come.stands.fits

    pub widening-asks : StepAsk b at q (length q)
    widening-asks = record { fits = widening-fits; small = w.ask.known.short; upto = omega arith }

    -- the name before begins with the question
    before-shares : length q ≡ shared (word plain (prev_of (names_of b) i)) (word plain q)
    unfolding begins
    before-shares =
        let j : ℕ = pred i in
        let e : suc j ≡ i = omega (arith, w.from) in
        let x : List ℕ = nth (words_of plain b) j in
        let t : begins (word plain q) x ≡ true = begins-in b q n w.ask j (omega arith) (omega (arith, w.is, w.from)) (omega (arith, w.high)) in
        let is : word plain (prev_of (names_of b) i) ≡ x = ap (λ (y : ℕ). word plain (prev_of (names_of b) y)) (sym e) ∙ sym (words-nth plain b j) in
        omega (
          arith,
          ap (λ (y : List ℕ). shared y (word plain q)) is,
          shared-comm x (word plain q),
          eqb-true (shared (word plain q) x) (length (word plain q)) t,
          length-map q plain,
        )

    module _ (t : Bool) (te : t ≡ eqb (shared_on b at q (length q)) (length q)) where
      begun : t ≡ begins (word plain q) (nth (words_of plain b) i)
      unfolding begins
      begun =
          let s : shared_on b at q (length q) ≡ shared (word plain q) (nth (words_of plain b) i) =
          counting-on b at (prev_of (names_of b) i) (get_or (names_of b) i []) q come (length q) before-shares
          ∙ shared-comm (word plain (get_or (names_of b) i [])) (word plain q) ∙ ap (shared (word plain q)) (sym (words-nth plain b i)) in
          te ∙ ap₂ eqb s (sym (length-map q plain))

      pub widening-found : t ≡ false → RangeSays b q p (i - p) widest
      widening-found f = ended (range-ends b q n w.ask i h (omega (arith, w.is, w.from)) (sym begun ∙ f))

      pub widening-more : t ≡ true → (len : ℕ) → len ≡ length_at b at → (v : ℕ) → v ≡ max widest len
          → (next : ℕ) → next ≡ entry_end b at → Widening b n q p next v (i + 1)
      widening-more f len le v ve next ne =
          let one : suc i ≡ i + 1 = omega arith in
          let g : begins (word plain q) (nth (words_of plain b) i) ≡ true = sym begun ∙ f in
          let long : len ≡ length (nth (words_of plain b) i) = le ∙ here-length plain b i at w.ask.known w.here inside in
          subst (Widening b n q p next v) one (record {
            ask = w.ask;
            is = w.is;
            from = omega (arith, w.from);
            upto = h;
            here = ne ∙ here-next b i at w.here;
            high = (in-range b q n w.ask i h g).1;
            low = omega (arith, w.low, long, width-at (word plain q) (words_of plain b) i (omega (arith, words_count plain b, inside)) g);
            top = λ j l u. elim (apart j i) [
              | inl s ↦ omega (arith, w.top j l s)
              | inr s ↦ let e : j ≡ i = omega arith in omega (arith, long, ap (λ (x : ℕ). length (nth (words_of plain b) x)) e)
            ];
          })
