-- The walk to the question's place.
--     Placing               name i is next, at `at`; all before it are less, and the last of them shares m with the question
--     placing-start, placing-fits, placing-asks, placing-found, placing-more, placing-done     the loop
-- Assumes nothing.
use Prim.Native.Nat.{ℕ, zero, suc, ◌+◌, ◌≤◌, ◌<◌}
use native.Mathlib.Nat.{not-suc-le-zero}
use native.Mathlib.Omega.{arith}
use mathlib.Core.Path.{◌≡◌, refl, sym, ap, ◌∙◌, subst}
use mathlib.Core.Bool.{Bool, not, true, false}
use mathlib.Core.List.{List, []}
use lib.Dec.{ltb}
use lib.ListN.{length, get_or, length-map}
use Rattle.std.specs.declared.option.Option.TheVariants.{None, Some}
use borrow.Author.Tests.{lt-ltb, ltb-false, ltb-true, not-false, not-true}
use Rattle.words.specs.Rising.{nth}
use Rattle.words.specs.Words.{Bytes, Words, less, plain, shared, word}
use Rattle.words.proofs.Words.{shared-comm, shared-le}
use Rattle.format.specs.Spans.{words_of}
use Rattle.format.specs.Book.{names_of}
use Rattle.answers.specs.Questions.{place}
use Rattle.answers.proofs.Places.{place_at, place-le}
use Rattle.streams.specs.Streams.{Here, entry_end, length_at, offset_from, prev_of}
use Rattle.streams.proofs.Here.{Comes, comes, here-length, here-next, words_count, words-nth}
use Rattle.sweep.specs.Sweep.{SeatSays, StepAsk, SweepAsk, less_on, shared_on}
use Rattle.sweep.proofs.Counting.{counting-on, side-on}

pub record Placing (b : Bytes) (n : ℕ) (q : Bytes) (at m i : ℕ) : Type 0 where
  pub ask : SweepAsk b n
  pub upto : i ≤ n
  pub here : Here b i at
  pub low : i ≤ place (word plain q) (words_of plain b)
  pub shares : m ≡ shared (word plain (prev_of (names_of b) i)) (word plain q)

pub placing-start : (b : Bytes) (n : ℕ) (q : Bytes) → SweepAsk b n → Placing b n q 0 0 0
unfolding offset_from shared
placing-start b n q k = record { ask = k; upto = omega arith; here = refl; low = omega arith; shares = refl }

-- the name before name i is less, if there is one
module _ (b : Bytes) (n : ℕ) (q : Bytes) (k : SweepAsk b n) where
  prev-less : (i : ℕ) → i ≤ place (word plain q) (words_of plain b) → i ≤ n → 0 < length (prev_of (names_of b) i)
      → less (word plain (prev_of (names_of b) i)) (word plain q) ≡ true
  prev-less zero l u h = absurd (not-suc-le-zero h)
  prev-less (suc i) l u h =
      ap (λ (w : List ℕ). less w (word plain q)) (sym (words-nth plain b i))
      ∙ place_at (word plain q) (words_of plain b) k.known.rises i (omega (arith, words_count plain b, k.count))
      ∙ lt-ltb i (place (word plain q) (words_of plain b)) l

module _ (b : Bytes) (n : ℕ) (q : Bytes) (at m i : ℕ) (w : Placing b n q at m i) where
  abbrev ws : Words
  ws = words_of plain b

  abbrev asked : List ℕ
  asked = word plain q

  pub placing-done : n ≤ i → SeatSays b q (record { place = n; at = at; name = None })
  placing-done h =
      let last : i ≡ n = omega (arith, w.upto) in
      record {
        is = omega (arith, w.low, w.upto, place-le asked ws, words_count plain b, w.ask.count);
        here = subst (λ (j : ℕ). Here b j at) last w.here;
        name = omega (arith, w.ask.count);
      }

  module _ (h : i < n) where
    inside : i < length (names_of b)
    inside = omega (arith, w.ask.count)

    come : Comes b at (prev_of (names_of b) i) (get_or (names_of b) i [])
    come = comes plain b i at w.ask.known w.here inside

    pub placing-fits : entry_end b at ≤ length b
    placing-fits = come.stands.fits

    pub placing-asks : StepAsk b at q m
    placing-asks = record {
      fits = placing-fits;
      small = w.ask.known.short;
      upto = omega (
        arith,
        w.shares,
        shared-comm (word plain (prev_of (names_of b) i)) asked,
        shared-le asked (word plain (prev_of (names_of b) i)),
        length-map q plain,
      );
    }

    module _ (s : ℕ) (t : Bool) (se : s ≡ shared_on b at q m) (te : t ≡ less_on b at q m) where
      shares-now : s ≡ shared (nth ws i) asked
      shares-now =
          se ∙ counting-on b at (prev_of (names_of b) i) (get_or (names_of b) i []) q come m w.shares
          ∙ ap (λ (y : List ℕ). shared y asked) (sym (words-nth plain b i))

      less-now : t ≡ less (nth ws i) asked
      less-now =
          te
          ∙ side-on b at (prev_of (names_of b) i) (get_or (names_of b) i []) q come m w.shares
          (λ l. prev-less b n q w.ask i w.low w.upto (omega (arith, come.stands.shares)))
          ∙ ap (λ (y : List ℕ). less y asked) (sym (words-nth plain b i))

      by_place : less (nth ws i) asked ≡ ltb i (place asked ws)
      by_place = place_at asked ws w.ask.known.rises i (omega (arith, words_count plain b, inside))

      pub placing-found : not t ≡ true → (len : ℕ) → len ≡ length_at b at → SeatSays b q (record { place = i; at = at; name = Some (record { at = at; shared = s; len = len }) })
      placing-found f len le = record {
        is = omega (arith, w.low, ltb-false i (place asked ws) (sym by_place ∙ sym less-now ∙ not-true t f));
        here = w.here;
        name = record { inside = inside; here = w.here; shares = shares-now; long = le ∙ here-length plain b i at w.ask.known w.here inside };
      }

      pub placing-more : not t ≡ false → (next : ℕ) → next ≡ entry_end b at → Placing b n q next s (i + 1)
      placing-more f next ne =
          let one : suc i ≡ i + 1 = omega arith in
          subst (Placing b n q next s) one (record {
            ask = w.ask;
            upto = h;
            here = ne ∙ here-next b i at w.here;
            low = ltb-true i (place asked ws) (sym by_place ∙ sym less-now ∙ not-false t f);
            shares = shares-now ∙ ap (λ (y : List ℕ). shared y asked) (words-nth plain b i);
          })
