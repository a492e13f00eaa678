-- Laws of numbers that are taken row by row, and of the two loops that write them.
--     one-less, times-less     a count above 0, and its product, by the count that is one less
--     gather-length, turned-length     how many bytes a row has, and all rows
--     Filled            a part is written up to `at`, and n bytes are to come: with them it is the whole
--     filled-start, filled-long, filled_more, filled-done     nothing is written; the part's length; some bytes more; all of them
--     Gathering         the loop over a row's numbers: what is left of the row is to come, and stands in the bytes
--     gathering-start, gathering-long, gathering-place, gathering-more, gathering-done
--     Turning           the loop over the rows, in the same way
--     turning-start, turning-long, turning-place, turning-room, turning-ask, turning-more, turning-done
-- Assumes nothing.
use Prim.Native.Nat.{ℕ, zero, suc, ◌+◌, ◌-◌, ◌*◌, ◌≤◌, ◌<◌}
use native.Mathlib.Numerals.{add-one}
use native.Mathlib.Omega.{arith}
use mathlib.Core.Path.{◌≡◌, refl, sym, ap, ap₂, ◌∙◌}
use mathlib.Core.List.{[], ◌∷◌, ◌++◌, append_assoc, append-nil}
use lib.ListN.{drop, get_or, length, length-append, length-drop, set, take}
use lib.Seq.{drop-drop, length-take-le, sets-eq, take_all, take_at}
use Rattle.words.specs.Words.{Bytes}
use Rattle.numbers.proofs.Parts.{part_length}
use Rattle.turning.specs.Turning.{GatherAsk, TurnAsk, gather, turned}

-- ---- one less

one_less : (n : ℕ) → 0 < n → n ≡ suc (n - 1)
one_less n h = omega arith

times-less : (n s : ℕ) → 0 < n → n * s ≡ s + (n - 1) * s
times-less n s h = omega (arith, ap (λ (k : ℕ). k * s) (one_less n h))

-- ---- lengths

pub gather-length : (b : Bytes) (from step n : ℕ) → length (gather b from step n) ≡ 2 * n
unfolding gather
gather-length b from step zero = refl
gather-length b from step (suc n) = omega (arith, gather-length b (from + step) step n)

pub turned-length : (b : Bytes) (from rows far inner step : ℕ) → length (turned b from rows far inner step) ≡ rows * (2 * inner)
unfolding turned
turned-length b from zero far inner step = omega arith
turned-length b from (suc rows) far inner step =
    let others : Bytes = turned b (from + far) rows far inner step in
    length-append (gather b from step inner) others ∙ omega (arith, gather-length b from step inner, turned-length b (from + far) rows far inner step)

-- ---- a part that is filled from its front on

pub record Filled (whole rest part : Bytes) (at n : ℕ) : Type 0 where
  pub many : length rest ≡ n
  pub room : at + n ≡ length part
  pub so_far : take at part ++ rest ≡ whole

filled-start : (whole part : Bytes) (n : ℕ) → length whole ≡ n → length part ≡ n → Filled whole whole part 0 n
filled-start whole part n e l = record { many = e; room = omega arith; so_far = refl }

module _ {whole rest part : Bytes} {at n : ℕ} (f : Filled whole rest part at n) where
  front : length (take at part) ≡ at
  front = length-take-le at part (omega (arith, f.room))

  filled-long : length part ≡ length whole
  filled-long = omega (arith, f.room, f.many, front, length-append (take at part) rest, ap length f.so_far)

  -- ys, of k bytes, comes next, and was put behind what is written
  filled_more : (ys others : Bytes) (k m end : ℕ) → rest ≡ ys ++ others → length ys ≡ k → k + m ≡ n → at + k ≡ end
      → Filled whole others (take at part ++ (ys ++ drop k (drop at part))) end m
  filled_more ys others k m end e size less sum =
      let behind : Bytes = drop k (drop at part) in
      let both : length (take at part ++ ys) ≡ end = length-append (take at part) ys ∙ omega (arith, front) in
      let seam : take end (take at part ++ (ys ++ behind)) ≡ take at part ++ ys =
      ap (take end) (sym (append_assoc (take at part) ys behind)) ∙ take_at (take at part ++ ys) behind end both in
      record {
        many = omega (arith, f.many, ap length e, length-append ys others);
        room =
            omega (
              arith,
              f.room,
              front,
              length-append (take at part) (ys ++ behind),
              length-append ys behind,
              length-drop k (drop at part),
              length-drop at part,
            );
        so_far = ap (λ (x : Bytes). x ++ others) seam ∙ append_assoc (take at part) ys others ∙ ap (λ (x : Bytes). take at part ++ x) (sym e) ∙ f.so_far;
      }

  filled-done : rest ≡ [] → part ≡ whole
  filled-done e =
      let all : length part ≤ at = omega (arith, f.room, f.many, ap length e) in
      sym (take_all at part all) ∙ sym (append-nil (take at part)) ∙ ap (λ (x : Bytes). take at part ++ x) (sym e) ∙ f.so_far

-- two bytes that are stored, as a part that came back
two-put : (part : Bytes) (at x y : ℕ) → at + 2 ≤ length part → set (set part at x) (at + 1) y ≡ take at part ++ ((x ∷ y ∷ []) ++ drop 2 (drop at part))
two-put part at x y h =
    let pair : Bytes = x ∷ y ∷ [] in
    ap (λ (n : ℕ). set (set part at x) n y) (add-one at)
    ∙ sets-eq pair part at h
    ∙ append_assoc (take at part) pair (drop (at + 2) part)
    ∙ ap (λ (r : Bytes). take at part ++ (pair ++ r)) (sym (drop-drop 2 at part))

-- ---- one row

pub record Gathering (b : Bytes) (from step count : ℕ) (part : Bytes) (place at left : ℕ) : Type 0 where
  pub inside : place + left * step + 2 ≤ length b + step
  pub filled : Filled (gather b from step count) (gather b place step left) part at (2 * left)

pub gathering-start : {b : Bytes} {from step count : ℕ} {part : Bytes} → GatherAsk b from step count part → Gathering b from step count part from 0 count
gathering-start {b} {from} {step} {count} {part} a = record {
  inside = a.inside;
  filled = filled-start (gather b from step count) part (2 * count) (gather-length b from step count) a.fits;
}

module _ {b : Bytes} {from step count : ℕ} {part : Bytes} {place at left : ℕ} (g : Gathering b from step count part place at left) where
  pub gathering-long : length part ≡ 2 * count
  gathering-long = filled-long g.filled ∙ gather-length b from step count

  pub gathering-done : left ≤ 0 → part ≡ gather b from step count
  unfolding gather
  gathering-done h = filled-done g.filled (ap (gather b place step) {x = left} {y = 0} (omega arith))

  module _ (h : 0 < left) where
    pub gathering-place : place + 2 ≤ length b
    gathering-place = omega (arith, g.inside, times-less left step h)

    pub gathering-more : (low high onto fewer : ℕ) → low ≡ get_or b place 0 → high ≡ get_or b (place + 1) 0 → onto ≡ at + 2 → fewer ≡ left - 1
        → Gathering b from step count (set (set part at low) (at + 1) high) (place + step) onto fewer
    unfolding gather
    gathering-more low high onto fewer l u o w =
        let next : Bytes = gather b (place + step) step (left - 1) in
        let number : gather b place step left ≡ low ∷ high ∷ next = ap (gather b place step) (one_less left h) ∙ ap₂ (λ (x y : ℕ). x ∷ y ∷ next) (sym l) (sym u) in
        rw (o, w) (record {
          inside = omega (arith, g.inside, times-less left step h);
          filled =
              rw (two-put part at low high (omega (arith, g.filled.room)))
              (filled_more g.filled (low ∷ high ∷ []) next 2 (2 * (left - 1)) (at + 2) number refl (omega arith) refl);
        })

-- ---- all rows

pub record Turning (b : Bytes) (from rows far inner step : ℕ) (part : Bytes) (place at left : ℕ) : Type 0 where
  pub inside : place + left * far + inner * step + 2 ≤ length b + far + step
  pub filled : Filled (turned b from rows far inner step) (turned b place left far inner step) part at (left * (2 * inner))

pub turning-start : {b : Bytes} {from rows far inner step : ℕ} {part : Bytes} → TurnAsk b from rows far inner step part → Turning b from rows far inner step part from 0 rows
turning-start {b} {from} {rows} {far} {inner} {step} {part} a = record {
  inside = a.inside;
  filled = filled-start (turned b from rows far inner step) part (rows * (2 * inner)) (turned-length b from rows far inner step) a.fits;
}

module _ {b : Bytes} {from rows far inner step : ℕ} {part : Bytes} {place at left : ℕ} (t : Turning b from rows far inner step part place at left) where
  pub turning-long : length part ≡ rows * (2 * inner)
  turning-long = filled-long t.filled ∙ turned-length b from rows far inner step

  pub turning-done : left ≤ 0 → part ≡ turned b from rows far inner step
  unfolding turned
  turning-done h = filled-done t.filled (ap (λ (n : ℕ). turned b place n far inner step) {x = left} {y = 0} (omega arith))

  module _ (h : 0 < left) where
    pub turning-place : place ≤ length b + step
    turning-place = omega (arith, t.inside, times-less left far h)

    pub turning-room : at + 2 * inner ≤ length part
    turning-room = omega (arith, t.filled.room, times-less left (2 * inner) h)

    pub turning-ask : {part₀ : Bytes} → TurnAsk b from rows far inner step part₀ → GatherAsk b place step inner (take (at + 2 * inner - at) (drop at part))
    turning-ask a = record {
      inside = omega (arith, t.inside, times-less left far h);
      short = a.short;
      near = a.near;
      fits = part_length part at (at + 2 * inner - at) (omega (arith, turning-room)) ∙ omega arith;
    }

    pub turning-more : (ys : Bytes) (fewer : ℕ) → ys ≡ gather b place step inner → fewer ≡ left - 1
        → Turning b from rows far inner step (take at part ++ (ys ++ drop (at + 2 * inner - at) (drop at part))) (place + far) (at + 2 * inner) fewer
    unfolding turned
    turning-more ys fewer e w =
        let others : Bytes = turned b (place + far) (left - 1) far inner step in
        let row : turned b place left far inner step ≡ ys ++ others =
        ap (λ (n : ℕ). turned b place n far inner step) (one_less left h) ∙ ap (λ (x : Bytes). x ++ others) (sym e) in
        rw w (record {
          inside = omega (arith, t.inside, times-less left far h);
          filled =
              filled_more t.filled ys others (at + 2 * inner - at) ((left - 1) * (2 * inner)) (at + 2 * inner)
              row (ap length e ∙ gather-length b place step inner ∙ omega arith) (omega (arith, times-less left (2 * inner) h)) (omega arith);
        })
