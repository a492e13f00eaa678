-- Document 02, CR 1: what a width says of names, of any call that answers as they do: range is kind 3, width 5. The public call on an accepted book is
-- one (book-answers in Ranges).
--     width-given       an accepted book and a question that is not too long get an answer, also where there is no name
--     width-most        no name of the range is longer
--     width-least       where the range has names, one of them is as long
--     width-none        where it has none, the width is 0
--     width-whole       the width of the empty question is the greatest length of all names
--     width-settles     two results that the call's statement allows coincide
-- Assumes nothing.
use Prim.Native.Nat.{ℕ, ◌+◌, ◌≤◌, ◌<◌}
use native.Mathlib.Nat.{lt_irrefl}
use native.Mathlib.Omega.{arith}
use mathlib.Core.Path.{◌≡◌, sym, ap, ◌∙◌}
use mathlib.Core.Logic.{inl, inr}
use mathlib.Core.Bool.{true}
use mathlib.Core.List.{List, [], map}
use lib.ListN.{length, get_or, length-map}
use Rattle.words.specs.Rising.{nth}
use Rattle.words.specs.Words.{Bytes, Rule, Words, begins, word}
use Rattle.words.proofs.Rising.{nth-word}
use Rattle.words.proofs.Words.{apart, begins-nil}
use Rattle.words.proofs.Lists.{all_from}
use Rattle.format.specs.Records.{longest}
use Rattle.format.specs.Outcomes.{Answer, given}
use Rattle.format.specs.Widths.{widest}
use Rattle.answers.specs.Questions.{answer, ask, range}
use Rattle.answers.specs.Widths.{width}
use Rattle.answers.specs.Calls.{question}
use Rattle.answers.proofs.Places.{count-found}
use Rattle.answers.proofs.Widths.{width-all, width-at, width-found, width_some}
use Rattle.theorems.specs.Layouts.{Answers}
use Rattle.theorems.specs.Widths.{AsLong}
use Rattle.theorems.proofs.Calls.{question-settles}
use Rattle.theorems.proofs.Ranges.{InRange, asks, begun, count-is, in-range, range-names}

module _ {ρ : Rule} {xs : List Bytes} {call : ℕ → Bytes → Answer} (a : Answers ρ xs call) where
  -- the words of the names
  abbrev ws : Words
  ws = map (word ρ) xs

  word-length : (i : ℕ) → length (nth (map (word ρ) xs) i) ≡ length (get_or xs i [])
  word-length i = ap length (nth-word ρ xs i) ∙ length-map (get_or xs i []) ρ

  module _ (q : Bytes) (short : length q ≤ longest) where
    pub width-given : call 5 q ≡ given (width (word ρ q) (map (word ρ) xs)) 0
    unfolding answer ask
    width-given = asks a q short 5 (λ e. lt_irrefl 4 (omega arith))

    width_is : (call 5 q).first ≡ width (word ρ q) (map (word ρ) xs)
    width_is = ap (λ (b : Answer). b.first) width-given

    -- the range's laws, of this book and question; by the words of the names
    abbrev Within : ℕ → Type 0
    Within i = InRange a q short i

    begun-word : (i : ℕ) → Within i → begins (word ρ q) (nth (map (word ρ) xs) i) ≡ true
    begun-word i r = ap (begins (word ρ q)) (nth-word ρ xs i) ∙ begun a q short i r

    within : (i : ℕ) → i < length ws → begins (word ρ q) (nth (map (word ρ) xs) i) ≡ true → Within i
    within i l h = in-range a q short i (omega (arith, length-map xs (word ρ))) (ap (begins (word ρ q)) (sym (nth-word ρ xs i)) ∙ h)

    pub width-most : (i : ℕ) → (call 3 q).first ≤ i → i < (call 3 q).first + (call 3 q).second → length (get_or xs i []) ≤ (call 5 q).first
    width-most i low high =
        let r : Within i = record { low = low; high = high } in
        omega (arith, width_is, word-length i, width-at (word ρ q) (map (word ρ) xs) i (omega (arith, range-names a q short i r, length-map xs (word ρ))) (begun-word i r))

    pub width-least : 0 < (call 3 q).second → AsLong xs (call 3 q).first (call 3 q).second (call 5 q).first
    unfolding answer ask range
    width-least h =
        let p = count-found (begins (word ρ q)) (map (word ρ) xs) (omega (arith, count-is a q short)) in
        let w = width-found (word ρ q) (map (word ρ) xs) p.index p.within p.passes in
        let r = within w.index w.within w.begun in
        record { index = w.index; low = r.low; high = r.high; is = sym (word-length w.index) ∙ w.is ∙ sym width_is }

    pub width-none : (call 3 q).second ≡ 0 → call 5 q ≡ given 0 0
    width-none z = width-given ∙ ap (λ (n : ℕ). given n 0) (elim (apart 0 (width (word ρ q) (map (word ρ) xs))) [
      | inl some ↦ let w = width_some (word ρ q) (map (word ρ) xs) some in let r = within w.index w.within w.begun in absurd (lt_irrefl w.index (omega (arith, r.low, r.high)))
      | inr none ↦ omega arith
    ])

  pub width-whole : call 5 [] ≡ given (widest (map (word ρ) xs)) 0
  width-whole = width-given [] (omega arith) ∙ ap (λ (n : ℕ). given n 0) (width-all [] (map (word ρ) xs) (all_from [] (map (word ρ) xs) (λ i l. begins-nil (nth (map (word ρ) xs) i))))

pub width-settles : (s q : Bytes) (a b : Answer) → a ≡ question 5 s q → b ≡ question 5 s q → a ≡ b
width-settles = question-settles 5
