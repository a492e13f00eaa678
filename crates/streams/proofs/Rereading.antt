-- Where a block's names are read from.
--     BlockFrom, block-from     the offsets in the block table are where the blocks' names stream from
-- Assumes nothing.
use Prim.Native.Nat.{ℕ, zero, suc, ◌*◌, ◌+◌, ◌-◌, ◌<◌, ◌≤◌}
use native.Mathlib.Nat.{not-suc-le-zero}
use native.Mathlib.Omega.{arith}
use mathlib.Core.Path.{◌≡◌, ◌∙◌, ap, subst, sym}
use mathlib.Core.List.{List, [], ◌∷◌}
use lib.ListN.{drop, length, length-drop}
use lib.Seq.{drop-drop}
use Rattle.words.specs.Words.{Bytes, Rule}
use Rattle.words.specs.Rising.{Sure}
use Rattle.words.proofs.Lists.{all_map}
use Rattle.format.specs.Book.{longest_book, number}
use Rattle.format.proofs.Records.{rising-sizes}
use Rattle.streams.specs.Runs.{Rest}
use Rattle.streams.specs.Streams.{Stream}
use Rattle.streams.proofs.Blocks.{rest-first}
use Rattle.streams.proofs.Streams.{stream-part}

module _ (ρ : Rule) (lw : Sure ρ) (b : Bytes) (k s u : ℕ) (one : 1 ≤ k) (small : length b ≤ longest_book) (hs : s ≤ length b) (hu : u ≤ length b) where
  -- block number j of those from t on, whose first name is number p: its offset stands in the table, and its names stream from there
  pub record BlockFrom (j p t : ℕ) (xs : List Bytes) : Type 0 where
    pub room : t + 2 * j + 2 ≤ u
    pub stream : Stream b (number b (t + 2 * j)) [] (drop p xs)

  abbrev BlocksFrom : ℕ → Type 0
  BlocksFrom j = (p t o : ℕ) (prev : Bytes) (xs : List Bytes) → o ≤ length b → t ≤ length b → Rest ρ b k s u t o prev xs → p ≡ j * k → p < length xs
      → BlockFrom j p t xs

  first_block : BlocksFrom 0
  first_block p t o prev [] ho ht r e h = absurd (not-suc-le-zero h)
  first_block p t o prev (x ∷ xs) ho ht r e h =
      let z : 0 ≡ p = omega arith in
      let f = rest-first ρ lw b k s u t o prev x xs one small ho hs ht hu r in
      let w : t ≡ t + 2 * 0 = omega arith in
      let g : Stream b o [] (x ∷ xs) = stream-part b o [] k (x ∷ xs) (drop s b) one (all_map (λ x g. g.1) (rising-sizes ρ prev (x ∷ xs) r.rises)) r.entries in
      record {
        room = omega (arith, f.room);
        stream = subst (λ (n : ℕ). Stream b (number b (t + 2 * 0)) [] (drop n (x ∷ xs))) z (subst (λ (n : ℕ). Stream b n [] (x ∷ xs)) (sym f.place ∙ ap (number b) w) g);
      }

  next-block : (j : ℕ) → BlocksFrom j → BlocksFrom (suc j)
  next-block j more p t o prev [] ho ht r e h = absurd (not-suc-le-zero h)
  next-block j more p t o prev (x ∷ xs) ho ht r e h =
      let f = rest-first ρ lw b k s u t o prev x xs one small ho hs ht hu r in
      let z : k + (p - k) ≡ p = omega arith in
      let w : t + 2 + 2 * j ≡ t + 2 * suc j = omega arith in
      let g = more (p - k) (t + 2) _ _ (drop k (x ∷ xs)) (omega (arith, f.upto)) (omega (arith, f.room)) f.others (omega arith)
      (omega (arith, length-drop k (x ∷ xs))) in
      record {
        room = omega (arith, g.room);
        stream = subst (λ (n : ℕ). Stream b (number b n) [] (drop p (x ∷ xs))) w
            (subst (λ (ys : List Bytes). Stream b (number b (t + 2 + 2 * j)) [] ys) (drop-drop (p - k) k (x ∷ xs) ∙ ap (λ (n : ℕ). drop n (x ∷ xs)) z) g.stream);
      }

  pub block-from : (j : ℕ) → BlocksFrom j
  block-from zero = first_block
  block-from (suc j) = next-block j (block-from j)
