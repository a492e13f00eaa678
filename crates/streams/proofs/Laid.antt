-- The entries and the block table of a book, as they stand in its bytes; and the same as a worn card's blocks.
--     book-stands       the names of a book stand there, in blocks of k
--     Stood, rest-stood     the bounds of names that stand in blocks climb, and each span's block, judged alone, is whole
-- Assumes nothing.
use Prim.Native.Nat.{ℕ, zero, suc, ◌+◌, ◌-◌, ◌*◌, ◌≤◌, ◌<◌, min}
use native.Mathlib.Nat.{not-suc-le-zero}
use native.Mathlib.Omega.{arith}
use mathlib.Core.Path.{◌≡◌, refl, sym, ap, ap₂, ◌∙◌}
use mathlib.Core.Bool.{true}
use mathlib.Core.List.{List, [], ◌∷◌, ◌++◌, map}
use lib.ListN.{drop, length, length-drop, length-take, take}
use borrow.Author.Tests.{lt-ltb}
use Rattle.words.specs.Words.{Bytes, Rule, both, plain}
use Rattle.words.proofs.Words.{plain-sure}
use Rattle.format.specs.Kinds.{Form}
use Rattle.format.specs.Layout.{Layout}
use Rattle.format.specs.Book.{block_part, book_by, entry_part, longest_book, told}
use Rattle.format.specs.Entries.{blocks_from, entry, front}
use Rattle.format.specs.Salvage.{Block, Whole, bounds_from, climbs, judged_alone, spans_from}
use Rattle.format.proofs.Book.{FitsBy, blocks_at, book-parts, from-blocks, from-nodes, nodes_at}
use Rattle.format.proofs.Entries.{blocks-first, by_blocks}
use Rattle.format.proofs.Records.{sound-rising}
use Rattle.streams.specs.Runs.{Rest}
use Rattle.streams.proofs.Alone.{run_alone}
use Rattle.streams.proofs.Blocks.{rest-first, rest-none}

pub book-stands : {ρ : Rule} {f : Form} {mark : Bytes} (y : Layout ρ f mark) (k : ℕ) (xs : List Bytes) → FitsBy ρ f mark k xs → Rest ρ (book_by ρ f mark k xs) k (blocks_at y k xs) (nodes_at y k xs) (blocks_at y k xs) 0 [] xs
unfolding block_part
book-stands {ρ} y k xs h = record {
  rises = sound-rising ρ xs h.sound;
  entries = book-parts y k xs ∙ ap (λ (s : Bytes). entry_part k xs ++ s) (sym (from-blocks y k xs));
  places = from-blocks y k xs ∙ ap (λ (s : Bytes). block_part k xs ++ s) (sym (from-nodes y k xs));
}

-- ---- as a worn card's blocks

abbrev pub verdicts : List (ℕ × Bytes) → List Block
verdicts l = map (λ (b : ℕ × Bytes). judged_alone b.0 b.1) l

-- from the slot t on there are `more` bounds, the first of them o, before the one where the entries end
pub record Stood (b : Bytes) (k u t o : ℕ) (xs : List Bytes) : Type 0 where
  pub more : ℕ
  pub others : List ℕ
  pub ends : t + 2 * more ≡ u
  pub are : bounds_from b t more ≡ o ∷ others
  pub climb : climbs o others ≡ true
  pub whole : verdicts (spans_from b k (length xs) (o ∷ others)) ≡ map Whole (blocks_from k 0 xs)

front-some : (k : ℕ) (x : Bytes) (xs : List Bytes) → 1 ≤ k → 0 < length (front [] (take k (x ∷ xs)))
unfolding front entry
front-some zero x xs h = absurd (not-suc-le-zero h)
front-some (suc k) x xs h = omega arith

module _ (b : Bytes) (k s u : ℕ) (one : 1 ≤ k) (small : length b ≤ longest_book) (hs : s ≤ length b) (hu : u ≤ length b) (se : told b 2 ≡ s) where
  abbrev Stands : List Bytes → Type 0
  Stands xs = (t o : ℕ) (prev : Bytes) → o ≤ length b → t ≤ length b → Rest plain b k s u t o prev xs → Stood b k u t o xs

  none : Stands []
  unfolding bounds_from climbs spans_from blocks_from
  none t o prev ho ht r =
      let z = rest-none plain b k s u t o prev ho hs ht hu r in
      record { more = 0; others = []; ends = omega (arith, z.1); are = ap (λ (n : ℕ). n ∷ []) (se ∙ sym z.0); climb = refl; whole = refl }

  one_more : (x : Bytes) (xs : List Bytes) → Stands (drop k (x ∷ xs)) → Stands (x ∷ xs)
  unfolding bounds_from climbs spans_from
  one_more x xs ih t o prev ho ht r =
      let f = rest-first plain plain-sure b k s u t o prev x xs one small ho hs ht hu r in
      let e : ℕ = o + length (front [] (take k (x ∷ xs))) in
      let g = ih (t + 2) e _ (omega (arith, f.upto)) (omega (arith, f.room)) f.others in
      let up : o < e = omega (arith, front-some k x xs one) in
      let many : length (take k (x ∷ xs)) ≡ min (length (x ∷ xs)) k = omega (arith, length-take k (x ∷ xs)) in
      let first : judged_alone (min (length (x ∷ xs)) k) (take (e - o) (drop o b)) ≡ Whole (take k (x ∷ xs)) =
      run_alone b o e (min (length (x ∷ xs)) k) (omega (arith, f.upto)) _ (record { names = take k (x ∷ xs); count = many; run = f.run; last = refl }) in
      let left : length (drop k (x ∷ xs)) ≡ length (x ∷ xs) - k = length-drop k (x ∷ xs) in
      record {
        more = suc g.more;
        others = e ∷ g.others;
        ends = omega (arith, g.ends);
        are = ap₂ (λ (n : ℕ) (l : List ℕ). n ∷ l) f.place g.are;
        climb = ap₂ both (lt-ltb o e up) g.climb;
        whole = ap₂ (λ (c : Block) (l : List Block). c ∷ l) first (ap (λ (n : ℕ). verdicts (spans_from b k n (e ∷ g.others))) (sym left) ∙ g.whole) ∙ ap (map Whole) (sym (blocks-first k x xs one));
      }

  pub rest-stood : (xs : List Bytes) → Stands xs
  rest-stood xs = by_blocks k one Stands none one_more xs
