-- From the question's place to the answers: the ways out of `range_of` and of the questions.
--     range-past, range-short, range-goes       the range, by the name at the place
--     exact_past, exact-short, exact-longer, exact-found
--     place_is, range-is, width_is
-- Assumes nothing.
use Prim.Native.Nat.{ℕ, ◌≤◌, ◌<◌}
use native.Mathlib.Nat.{lt_irrefl}
use native.Mathlib.Omega.{arith}
use mathlib.Core.Path.{◌≡◌, refl, sym, ap, ap₂, ◌∙◌}
use mathlib.Core.Logic.{◌⊎◌, inl, inr}
use mathlib.Core.Bool.{Bool, true, false}
use mathlib.Core.List.{List}
use lib.Dec.{ltb}
use lib.ListN.{length, length-map}
use lib.Seq.{take_all}
use borrow.Author.Tests.{eqb-true, lt-ltb, ltb-true}
use Rattle.words.specs.Rising.{nth}
use Rattle.words.specs.Words.{Bytes, Words, begins, both, pick, plain, same, shared, word}
use Rattle.words.proofs.Words.{apart, both_true, plain-sure, same_refl, same_true, shared-comm, shared-self, take-shared, word-positive}
use Rattle.format.specs.Book.{names_of}
use Rattle.format.specs.Spans.{words_of}
use Rattle.answers.specs.Questions.{Pair, count, exact, place, range}
use Rattle.answers.specs.Widths.{width}
use Rattle.answers.proofs.Places.{exact-place, range-le}
use Rattle.answers.proofs.Widths.{Wide, width_some}
use Rattle.streams.proofs.Here.{words_count}
use Rattle.sweep.specs.Sweep.{FoundSays, RangeSays, SeatSays, SweepAsk, WidenAsk}
use Rattle.sweep.specs.declared.Found.{Found}
use Rattle.sweep.specs.declared.Seat.{Seat}
use Rattle.sweep.proofs.Widening.{begins-in, in-range}

module _ (b : Bytes) (n : ℕ) (q : Bytes) (k : SweepAsk b n) (p : ℕ) (is : p ≡ place (word plain q) (words_of plain b)) where
  abbrev ws : Words
  ws = words_of plain b

  abbrev asked : List ℕ
  asked = word plain q

  size : length ws ≡ n
  size = words_count plain b ∙ sym k.count

  -- ---- the range

  -- where no name begins with the question, none of them is wide
  none : count (begins asked) ws ≤ 0 → RangeSays b q p 0 0
  none z = record { is = is; many = omega arith; wide = go (apart 0 (width asked ws)) }
    where
      go : (0 < width asked ws) ⊎ (width asked ws ≤ 0) → 0 ≡ width asked ws
      go (inr h) = omega arith
      go (inl h) =
          let x : Wide asked ws = width_some asked ws h in
          let r = in-range b q n k x.index (omega (arith, x.within, size)) x.begun in
          absurd (lt_irrefl x.index (omega (arith, r.0, r.1)))

  pub range-past : length (names_of b) ≤ p → RangeSays b q p 0 0
  range-past h = none (omega (arith, range-le asked ws, size, is, k.count))

  pub range-short : (f : Found) → FoundSays b q p f → (f.shared ≡ length q → ⊥) → RangeSays b q p 0 0
  unfolding begins
  range-short f s other = go (apart 0 (count (begins asked) ws))
    where
      go : (0 < count (begins asked) ws) ⊎ (count (begins asked) ws ≤ 0) → RangeSays b q p 0 0
      go (inr z) = none z
      go (inl z) =
          let t : begins asked (nth ws p) ≡ true = begins-in b q n k p (omega (arith, s.inside, k.count)) (omega (arith, is)) (omega (arith, is)) in
          absurd (other (omega (arith, s.shares, shared-comm asked (nth ws p), eqb-true (shared asked (nth ws p)) (length asked) t, length-map q plain)))

  pub range-goes : (f : Found) → FoundSays b q p f → f.shared ≡ length q → WidenAsk b n q p f
  range-goes f s e = record { ask = k; is = is; name = s; whole = e }

  -- ---- exact

  by_place : exact asked ws ≡ pick (both (ltb p (length ws)) (same (nth ws p) asked)) (p, 1) (0, 0)
  by_place =
      exact-place asked ws (word-positive plain plain-sure q) k.known.rises
      ∙ ap (λ (x : ℕ). pick (both (ltb x (length ws)) (same (nth ws x) asked)) (x, 1) (0, 0)) (sym is)

  missed : (p < n → nth ws p ≡ asked → ⊥) → ◌≡◌ {A = Pair} (0, 0) (exact asked ws)
  missed never = sym (by_place ∙ go (both (ltb p (length ws)) (same (nth ws p) asked)) refl)
    where
      go : (t : Bool) → both (ltb p (length ws)) (same (nth ws p) asked) ≡ t → ◌≡◌ {A = Pair} (pick t (p, 1) (0, 0)) (0, 0)
      go false e = refl
      go true e =
          let w = both_true (ltb p (length ws)) (same (nth ws p) asked) e in
          absurd (never (omega (arith, ltb-true p (length ws) w.0, size)) (same_true (nth ws p) asked w.1))

  pub exact_past : length (names_of b) ≤ p → ◌≡◌ {A = Pair} (0, 0) (exact asked ws)
  exact_past h = missed (λ l e. lt_irrefl p (omega (arith, k.count)))

  module _ (f : Found) (s : FoundSays b q p f) where
    pub exact-short : (f.shared ≡ length q → ⊥) → ◌≡◌ {A = Pair} (0, 0) (exact asked ws)
    exact-short other =
        missed (λ l e. other (omega (arith, s.shares, ap (λ (x : List ℕ). shared x asked) e, shared-self asked, length-map q plain)))

    pub exact-longer : (f.len ≡ length q → ⊥) → ◌≡◌ {A = Pair} (0, 0) (exact asked ws)
    exact-longer other = missed (λ l e. other (omega (arith, s.long, ap (λ (x : List ℕ). length x) e, length-map q plain)))

    pub exact-found : f.shared ≡ length q → f.len ≡ length q → ◌≡◌ {A = Pair} (p, 1) (exact asked ws)
    exact-found e g =
        let x : List ℕ = nth ws p in
        let all : ℕ = shared x asked in
        let same_word : x ≡ asked =
        sym (take_all all x (omega (arith, s.shares, s.long)))
        ∙ take-shared x asked ∙ take_all all asked (omega (arith, s.shares, length-map q plain)) in
        sym (by_place ∙ rw (lt-ltb p (length ws) (omega (arith, size, s.inside, k.count)), same_word, same_refl asked) refl)

-- ---- by the place and the range

pub place_is : (b q : Bytes) (s : Seat) → SeatSays b q s → ◌≡◌ {A = Pair} (s.place, 0) (place (word plain q) (words_of plain b), 0)
place_is b q s k = ap (λ (x : ℕ). (x, 0)) k.is

module _ (b q : Bytes) (p names widest : ℕ) (r : RangeSays b q p names widest) where
  pub range-is : (p, names) ≡ range (word plain q) (words_of plain b)
  unfolding range
  range-is = ap₂ (λ (x y : ℕ). (x, y)) r.is r.many

  pub width_is : ◌≡◌ {A = Pair} (widest, 0) (width (word plain q) (words_of plain b), 0)
  width_is = ap (λ (x : ℕ). (x, 0)) r.wide
