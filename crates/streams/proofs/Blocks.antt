-- Blocks joined are the entry part, and their offsets the block table.
--     rising-after, -alone, -left, -right, -join    rising names in two parts
--     less-empty             every name is above the empty one
--     FirstBlock, rest-first what stands from o on is a block, and then the rest
--     rest-join              a block, and then the rest
--     rest-none, none_rest   where no names are left, both parts end
-- Assumes nothing.
use Prim.Native.Nat.{ℕ, zero, suc, ◌+◌, ◌/◌, ◌%◌, ◌≤◌, ◌<◌}
use native.Mathlib.Nat.{not-suc-le-zero}
use native.Mathlib.Omega.{arith}
use mathlib.Core.Path.{◌≡◌, refl, sym, ap, ap₂, ◌∙◌, subst}
use mathlib.Core.Bool.{true}
use mathlib.Core.List.{List, [], ◌∷◌, ◌++◌, map, append_assoc}
use lib.ListN.{length, get_or, take, drop, length-append, length-drop, take-append-drop}
use lib.Seq.{drop-drop, drop-append_seam, get_or-drop}
use borrow.Author.Tests.{lt-ltb}
use Rattle.words.specs.Words.{Bytes, Rule, less, word}
use Rattle.words.specs.Rising.{Sure}
use Rattle.words.proofs.Words.{less-start}
use Rattle.format.specs.Book.{entry_part, joined, longest_book, number, numbers}
use Rattle.format.specs.Entries.{blocks, blocks_from, front, offsets}
use Rattle.format.specs.Records.{rising}
use Rattle.format.specs.Spans.{last_of}
use Rattle.format.proofs.Entries.{blocks-first, entries-first}
use Rattle.format.proofs.Numbers.{high_byte, low_byte}
use Rattle.streams.specs.Runs.{Rest, Run}
use Rattle.streams.proofs.Fronts.{FrontHead, both-are, front-run, rising-headed, is-good, run-front, two}

-- ---- rising in two parts

raised : (ρ : Rule) (prev x : Bytes) (xs : List Bytes) → FrontHead ρ prev x xs → rising ρ prev (x ∷ xs) ≡ true
unfolding rising
raised ρ prev x xs h = both-are _ _ (is-good (length x) h.some h.short) (both-are _ _ h.rises h.others)

pub less-empty : (ρ : Rule) (lw : Sure ρ) (x : Bytes) → 1 ≤ length x → less (word ρ []) (word ρ x) ≡ true
less-empty ρ lw [] h = absurd (not-suc-le-zero h)
less-empty ρ lw (a ∷ x) h = less-start (ρ a) (word ρ x) ∙ lt-ltb 0 (ρ a) (lw.low a)

-- only the first name looks at the one before
pub rising-after : (ρ : Rule) (prev p x : Bytes) (xs : List Bytes) → less (word ρ p) (word ρ x) ≡ true → rising ρ prev (x ∷ xs) ≡ true → rising ρ p (x ∷ xs) ≡ true
rising-after ρ prev p x xs l h =
    let d = rising-headed ρ prev x xs h in
    raised ρ p x xs (record { some = d.some; short = d.short; rises = l; others = d.others })

pub rising-alone : (ρ : Rule) (lw : Sure ρ) (prev x : Bytes) (xs : List Bytes) → rising ρ prev (x ∷ xs) ≡ true → rising ρ [] (x ∷ xs) ≡ true
rising-alone ρ lw prev x xs h = rising-after ρ prev [] x xs (less-empty ρ lw x (rising-headed ρ prev x xs h).some) h

pub rising-left : (ρ : Rule) (prev : Bytes) (xs zs : List Bytes) → rising ρ prev (xs ++ zs) ≡ true → rising ρ prev xs ≡ true
unfolding rising
rising-left ρ prev [] zs h = refl
rising-left ρ prev (x ∷ xs) zs h =
    let d = rising-headed ρ prev x (xs ++ zs) h in
    raised ρ prev x xs (record { some = d.some; short = d.short; rises = d.rises; others = rising-left ρ x xs zs d.others })

pub rising-right : (ρ : Rule) (prev : Bytes) (xs zs : List Bytes) → rising ρ prev (xs ++ zs) ≡ true → rising ρ (last_of prev xs) zs ≡ true
unfolding last_of
rising-right ρ prev [] zs h = h
rising-right ρ prev (x ∷ xs) zs h = rising-right ρ x xs zs (rising-headed ρ prev x (xs ++ zs) h).others

pub rising-join : (ρ : Rule) (prev : Bytes) (xs zs : List Bytes) → rising ρ prev xs ≡ true → rising ρ (last_of prev xs) zs ≡ true → rising ρ prev (xs ++ zs) ≡ true
unfolding last_of
rising-join ρ prev [] zs h g = g
rising-join ρ prev (x ∷ xs) zs h g =
    let d = rising-headed ρ prev x xs h in
    raised ρ prev x (xs ++ zs) (record { some = d.some; short = d.short; rises = d.rises; others = rising-join ρ x xs zs d.others g })

-- ---- the first block

places-first : (o k : ℕ) (x : Bytes) (xs : List Bytes) → 1 ≤ k
    → offsets o (blocks k (x ∷ xs)) ≡ o ∷ offsets (o + length (front [] (take k (x ∷ xs)))) (blocks k (drop k (x ∷ xs)))
unfolding blocks offsets
places-first o k x xs h = ap (λ (bs : List (List Bytes)). offsets o (map (front []) bs)) (blocks-first k x xs h)

numbers-cons : (n : ℕ) (ns : List ℕ) (t : Bytes) → numbers (n ∷ ns) ++ t ≡ n % 256 ∷ n / 256 % 256 ∷ (numbers ns ++ t)
unfolding numbers
numbers-cons n ns t = refl

pub record FirstBlock (ρ : Rule) (b : Bytes) (k s u t o : ℕ) (prev x : Bytes) (xs : List Bytes) (e : ℕ) : Type 0 where
  pub room : t + 2 ≤ u
  pub place : number b t ≡ o
  pub below : less (word ρ prev) (word ρ x) ≡ true
  pub run : Run ρ b e o [] (take k (x ∷ xs))
  pub upto : e ≤ s
  pub others : Rest ρ b k s u (t + 2) e (last_of [] (take k (x ∷ xs))) (drop k (x ∷ xs))

last-same : (prev p : Bytes) (k : ℕ) (x : Bytes) (xs : List Bytes) → 1 ≤ k → last_of prev (take k (x ∷ xs)) ≡ last_of p (take k (x ∷ xs))
unfolding last_of
last-same prev p zero x xs h = absurd (not-suc-le-zero h)
last-same prev p (suc k) x xs h = refl

head-rising : (ρ : Rule) (lw : Sure ρ) (prev : Bytes) (k : ℕ) (x : Bytes) (xs : List Bytes) → 1 ≤ k → rising ρ prev (take k (x ∷ xs)) ≡ true → rising ρ [] (take k (x ∷ xs)) ≡ true
head-rising ρ lw prev zero x xs h r = absurd (not-suc-le-zero h)
head-rising ρ lw prev (suc k) x xs h r = rising-alone ρ lw prev x (take k xs) r

head-after : (ρ : Rule) (prev : Bytes) (k : ℕ) (x : Bytes) (xs : List Bytes) → 1 ≤ k → less (word ρ prev) (word ρ x) ≡ true → rising ρ [] (take k (x ∷ xs)) ≡ true → rising ρ prev (take k (x ∷ xs)) ≡ true
head-after ρ prev zero x xs h l r = absurd (not-suc-le-zero h)
head-after ρ prev (suc k) x xs h l r = rising-after ρ [] prev x (take k xs) l r

module _ (ρ : Rule) (lw : Sure ρ) (b : Bytes) (k s u t o : ℕ) (prev x : Bytes) (xs : List Bytes) (one : 1 ≤ k) (small : length b ≤ longest_book) (ho : o ≤ length b) (hs : s ≤ length b)
    (ht : t ≤ length b) (hu : u ≤ length b) where
  pub rest-first : Rest ρ b k s u t o prev (x ∷ xs) → FirstBlock ρ b k s u t o prev x xs (o + length (front [] (take k (x ∷ xs))))
  unfolding number
  rest-first h =
      let f : Bytes = front [] (take k (x ∷ xs)) in
      let es : Bytes = entry_part k (drop k (x ∷ xs)) in
      let ns : List ℕ = offsets (o + length f) (blocks k (drop k (x ∷ xs))) in
      let q : drop o b ≡ f ++ (es ++ drop s b) = h.entries ∙ ap (λ (z : Bytes). z ++ drop s b) (entries-first k x xs one) ∙ append_assoc f es (drop s b) in
      let p : drop t b ≡ o % 256 ∷ o / 256 % 256 ∷ (numbers ns ++ drop u b) = h.places ∙ ap (λ (z : List ℕ). numbers z ++ drop u b) (places-first o k x xs one) ∙ numbers-cons o ns (drop u b) in
      let z : t + 0 ≡ t = omega arith in
      let low : get_or b t 0 ≡ o % 256 = ap (λ (n : ℕ). get_or b n 0) (sym z) ∙ sym (get_or-drop t b 0 0) ∙ ap (λ (y : Bytes). get_or y 0 0) p in
      let high : get_or b (t + 1) 0 ≡ o / 256 % 256 = sym (get_or-drop t b 1 0) ∙ ap (λ (y : Bytes). get_or y 1 0) p in
      let r : rising ρ prev (take k (x ∷ xs) ++ drop k (x ∷ xs)) ≡ true = ap (rising ρ prev) (take-append-drop k (x ∷ xs)) ∙ h.rises in
      let behind : drop (o + length f) b ≡ es ++ drop s b = sym (drop-drop (length f) o b) ∙ ap (drop (length f)) q ∙ drop-append_seam f (es ++ drop s b) in
      let lens : o + length f + length es ≡ s = lengths (length f) (length es) (ap length q ∙ length-append f (es ++ drop s b) ∙ ap (λ (n : ℕ). length f + n) (length-append es (drop s b))) in
      record {
        room = omega (arith, ap length p, length-drop t b, length-append (numbers ns) (drop u b), length-drop u b);
        place = omega (arith, low, high);
        below = (rising-headed ρ prev x xs h.rises).rises;
        run = front-run ρ b (o + length f) o [] (take k (x ∷ xs)) ho (omega arith)
            (q ∙ ap (λ (y : Bytes). f ++ y) (sym behind)) (head-rising ρ lw prev k x xs one (rising-left ρ prev (take k (x ∷ xs)) (drop k (x ∷ xs)) r));
        upto = omega arith;
        others = record {
          rises = subst (λ (y : Bytes). rising ρ y (drop k (x ∷ xs)) ≡ true) (last-same prev [] k x xs one) (rising-right ρ prev (take k (x ∷ xs)) (drop k (x ∷ xs)) r);
          entries = behind;
          places = sym (drop-drop 2 t b) ∙ ap (drop 2) p;
        };
      }
    where
      lengths : (n m : ℕ) → length (drop o b) ≡ n + (m + length (drop s b)) → o + n + m ≡ s
      lengths n m g = omega (arith, length-drop o b, length-drop s b)

  pub rest-join : (e : ℕ) → ((i : ℕ) → get_or b i 0 < 256) → t + 2 ≤ length b → e ≤ length b → number b t ≡ o → less (word ρ prev) (word ρ x) ≡ true → Run ρ b e o [] (take k (x ∷ xs))
      → Rest ρ b k s u (t + 2) e (last_of [] (take k (x ∷ xs))) (drop k (x ∷ xs)) → Rest ρ b k s u t o prev (x ∷ xs)
  unfolding number
  rest-join e bytes h2 he pl bl run h =
      let f : Bytes = front [] (take k (x ∷ xs)) in
      let es : Bytes = entry_part k (drop k (x ∷ xs)) in
      let fr = run-front ρ b e o [] (take k (x ∷ xs)) he run in
      let ends : e ≡ o + length f = omega (arith, fr.upto, ap length fr.entries, length-append f (drop e b), length-drop o b, length-drop e b) in
      let ns : List ℕ = offsets (o + length f) (blocks k (drop k (x ∷ xs))) in
      let low : get_or b t 0 ≡ o % 256 = low_byte (get_or b t 0) (get_or b (t + 1) 0) o (bytes t) pl in
      let high : get_or b (t + 1) 0 ≡ o / 256 % 256 = high_byte (get_or b t 0) (get_or b (t + 1) 0) o (bytes t) (bytes (t + 1)) pl in
      record {
        rises = sym (ap (rising ρ prev) (take-append-drop k (x ∷ xs)))
            ∙ rising-join ρ prev (take k (x ∷ xs)) (drop k (x ∷ xs)) (head-after ρ prev k x xs one bl fr.rises)
            (subst (λ (y : Bytes). rising ρ y (drop k (x ∷ xs)) ≡ true) (last-same [] prev k x xs one) h.rises);
        entries = fr.entries ∙ ap (λ (y : Bytes). f ++ y) h.entries ∙ sym (append_assoc f es (drop s b)) ∙ ap (λ (z : Bytes). z ++ drop s b) (sym (entries-first k x xs one));
        places = two b t h2 ∙ ap₂ (λ (n m : ℕ). n ∷ m ∷ drop (t + 2) b) low high
            ∙ ap (λ (y : Bytes). o % 256 ∷ o / 256 % 256 ∷ y) (h.places ∙ ap (λ (n : ℕ). numbers (offsets n (blocks k (drop k (x ∷ xs)))) ++ drop u b) ends)
            ∙ sym (ap (λ (z : List ℕ). numbers z ++ drop u b) (places-first o k x xs one) ∙ numbers-cons o ns (drop u b));
      }

pub rest-none : (ρ : Rule) (b : Bytes) (k s u t o : ℕ) (prev : Bytes) → o ≤ length b → s ≤ length b → t ≤ length b → u ≤ length b → Rest ρ b k s u t o prev [] → (o ≡ s) × (t ≡ u)
unfolding entry_part blocks blocks_from joined offsets numbers
rest-none ρ b k s u t o prev ho hs ht hu h = (
  omega (arith, ap length h.entries, length-drop o b, length-drop s b),
  omega (arith, ap length h.places, length-drop t b, length-drop u b),
)

pub none_rest : (ρ : Rule) (b : Bytes) (k s u : ℕ) (prev : Bytes) → Rest ρ b k s u u s prev []
unfolding entry_part blocks blocks_from joined offsets numbers rising
none_rest ρ b k s u prev = record { rises = refl; entries = refl; places = refl }
