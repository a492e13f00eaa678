-- Document 02, CR 12: testers check nearest by eye against the sorted sheet. Of any call that answers as some names do (place is kind 2, range 3,
-- nearest 4), and a question that is not refused; the public call on an accepted book is one (book-answers in Ranges).
--     neighbours-tell   nearest's number is the greater of those that the names at place less 1 and at place would give, whichever of these exist
--     range-nested      the names in the range of a longer question all lie in the range of any beginning of it
--     typed-on          one byte more never brings back a stop that was out
-- Assumes nothing.
use Prim.Native.Nat.{ℕ, ◌+◌, ◌-◌, ◌≤◌, ◌<◌}
use native.Mathlib.Nat.{lt_irrefl}
use native.Mathlib.Omega.{arith}
use mathlib.Core.Path.{◌≡◌, sym, ap, ◌∙◌, subst}
use mathlib.Core.Bool.{true}
use mathlib.Core.List.{List, [], ◌∷◌, ◌++◌, map}
use lib.ListN.{get_or, length, length-map, length-take, take}
use lib.Seq.{take-append_seam}
use Rattle.words.specs.Rising.{nth}
use Rattle.words.specs.Words.{Bytes, Rule, begins, shared, word}
use Rattle.words.proofs.Rising.{nth-word}
use Rattle.words.proofs.Words.{begins-front, word-front}
use Rattle.format.specs.Outcomes.{Answer}
use Rattle.format.specs.Records.{longest}
use Rattle.format.proofs.Records.{sound-rising, symbols-rises}
use Rattle.answers.specs.Lit.{lit}
use Rattle.answers.specs.Neighbours.{ByNeighbours}
use Rattle.answers.specs.Questions.{answer, ask, place, reached}
use Rattle.answers.proofs.Neighbours.{Peak, peak-lit, peak-told, shared-peak}
use Rattle.theorems.specs.Layouts.{Answers, Lettered}
use Rattle.theorems.proofs.Lettered.{lettered-positive, names-symbols}
use Rattle.theorems.proofs.Letters.{nearest-number}
use Rattle.theorems.proofs.Ranges.{InRange, asks, begun, in-range, range-names}

module _ {ρ : Rule} {xs : List Bytes} {call : ℕ → Bytes → Answer} (a : Answers ρ xs call) where
  -- ---- nearest by the names beside the place

  module _ (some : 0 < length xs) (q : Bytes) (own : Lettered ρ q) (short : length q ≤ longest) where
    -- the number that name i would give
    abbrev gives : ℕ → ℕ
    gives i = lit q (shared (word ρ q) (word ρ (get_or xs i [])))

    place_is : (call 2 q).first ≡ place (word ρ q) (map (word ρ) xs)
    unfolding answer ask
    place_is = ap (λ (b : Answer). b.first) (asks a q short 2 (λ e. lt_irrefl 2 (omega arith)))

    -- by names, where the laws have words
    by_names : Peak (λ i. shared (word ρ q) (word ρ (get_or xs i []))) (length xs) (place (word ρ q) (map (word ρ) xs)) (shared (word ρ q) (word ρ (get_or xs (reached (word ρ q) (map (word ρ) xs)) [])))
    by_names =
        let p = shared-peak (word ρ q) (map (word ρ) xs) (symbols-rises ρ xs (names-symbols ρ xs a.letters) (sound-rising ρ xs a.sound)) (lettered-positive ρ q own) (omega (arith, length-map xs (word ρ))) in
        record {
          within = omega (arith, p.within, length-map xs (word ρ));
          at = p.at;
          inside = omega (arith, p.inside, length-map xs (word ρ));
          is = sym (same (reached (word ρ q) (map (word ρ) xs))) ∙ p.is ∙ same p.at;
          most = λ i l. omega (arith, p.most i (omega (arith, length-map xs (word ρ))), same i, same (reached (word ρ q) (map (word ρ) xs)));
          up = λ i l. omega (arith, p.up i l, same i, same (place (word ρ q) (map (word ρ) xs) - 1));
          down = λ i l h. omega (arith, p.down i l (omega (arith, length-map xs (word ρ))), same i, same (place (word ρ q) (map (word ρ) xs)));
        }
      where
        same : (i : ℕ) → shared (word ρ q) (nth (map (word ρ) xs) i) ≡ shared (word ρ q) (word ρ (get_or xs i []))
        same i = ap (shared (word ρ q)) (nth-word ρ xs i)

    pub neighbours-tell : ByNeighbours (λ i. lit q (shared (word ρ q) (word ρ (get_or xs i [])))) (length xs) (call 2 q).first (call 4 q).second
    neighbours-tell =
        subst (λ (n : ℕ). ByNeighbours gives (length xs) n (call 4 q).second) (sym place_is)
        (subst (λ (n : ℕ). ByNeighbours gives (length xs) (place (word ρ q) (map (word ρ) xs)) n) (sym (nearest-number a some q short)) (peak-told (peak-lit q by_names)))

  -- ---- ranges inside each other

  module _ (q : Bytes) (short : length q ≤ longest) where
    -- position i is a name's, which begins with q; and it lies in the range of the first m bytes of q
    pub range-nested : (m i : ℕ) → (call 3 q).first ≤ i → i < (call 3 q).first + (call 3 q).second
        → (i < length xs) × (begins (word ρ q) (word ρ (get_or xs i [])) ≡ true) × ((call 3 (take m q)).first ≤ i) × (i < (call 3 (take m q)).first + (call 3 (take m q)).second)
    range-nested m i low high =
        let r : InRange a q short i = record { low = low; high = high } in
        let less : length (take m q) ≤ longest = omega (arith, length-take m q) in
        let b : begins (word ρ (take m q)) (word ρ (get_or xs i [])) ≡ true =
        subst (λ (w : List ℕ). begins w (word ρ (get_or xs i [])) ≡ true) (sym (word-front ρ m q)) (begins-front (word ρ q) (word ρ (get_or xs i [])) m (begun a q short i r)) in
        let t = in-range a (take m q) less i (range-names a q short i r) b in
        (range-names a q short i r, begun a q short i r, t.low, t.high)

  -- a panel: what was out stays out
  pub typed-on : (q : Bytes) (b i : ℕ) → length (q ++ (b ∷ [])) ≤ longest → ((call 3 q).first ≤ i → i < (call 3 q).first + (call 3 q).second → ⊥)
      → (call 3 (q ++ (b ∷ []))).first ≤ i → i < (call 3 (q ++ (b ∷ []))).first + (call 3 (q ++ (b ∷ []))).second → ⊥
  typed-on q b i short out low high =
      let r = range-nested (q ++ (b ∷ [])) short (length q) i low high in
      let same : take (length q) (q ++ (b ∷ [])) ≡ q = take-append_seam q (b ∷ []) in
      out (subst (λ (x : Bytes). (call 3 x).first ≤ i) same r.2) (subst (λ (x : Bytes). i < (call 3 x).first + (call 3 x).second) same r.3)
