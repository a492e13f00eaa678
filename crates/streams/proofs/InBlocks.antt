-- Entries that a walk has passed stand in blocks.
--     BlockRun, blocks-run      block number j, by itself: where it stands, and what its entries are
--     has-blocks                all of them: `InBlocks`
--     blocks_end, has_end       where they end
-- Assumes nothing.
use Prim.Native.Nat.{ℕ, zero, suc, ◌*◌, ◌+◌, ◌-◌, ◌<◌, ◌≤◌}
use native.Mathlib.Nat.{not-suc-le-zero}
use native.Mathlib.Omega.{arith}
use mathlib.Core.Path.{◌≡◌, ◌∙◌, ap, ap₂, refl, subst, sym}
use mathlib.Core.List.{List, [], ◌∷◌}
use lib.ListN.{drop, get_or, length, length-drop, length-take, take}
use lib.Seq.{drop-drop, get_or-drop, get_or-take, length-take-le}
use Rattle.words.specs.Words.{Bytes, Rule, shared}
use Rattle.words.specs.Rising.{Sure}
use Rattle.format.specs.Book.{longest_book, number, names_of, told}
use Rattle.format.specs.Entries.{front}
use Rattle.streams.specs.Runs.{Frame, Has, Rest, Run, more}
use Rattle.streams.specs.Streams.{InBlocks, offset_at, offset_from}
use Rattle.streams.proofs.Blocks.{rest-first, rest-none}
use Rattle.streams.proofs.Places.{offset-add, run-stops, run-next-count}
use Rattle.streams.proofs.Walks.{has-names}

module _ (ρ : Rule) (lw : Sure ρ) (b : Bytes) (k s u : ℕ) (one : 1 ≤ k) (small : length b ≤ longest_book) (hs : s ≤ length b) (hu : u ≤ length b) where
  -- block number j of those from t on, whose first name is number p, and the first entry of all stands at o
  pub record BlockRun (j p t o : ℕ) (xs : List Bytes) : Type 0 where
    pub end : ℕ
    pub within : end ≤ length b
    pub room : t + 2 * j + 2 ≤ u
    pub place : number b (t + 2 * j) ≡ offset_from b o p
    pub run : Run ρ b end (offset_from b o p) [] (take k (drop p xs))

  abbrev BlocksRun : ℕ → Type 0
  BlocksRun j = (p t o : ℕ) (prev : Bytes) (xs : List Bytes) → o ≤ length b → t ≤ length b → Rest ρ b k s u t o prev xs → p ≡ j * k → p < length xs
      → BlockRun j p t o xs

  first_run : BlocksRun 0
  unfolding offset_from
  first_run p t o prev [] ho ht r e h = absurd (not-suc-le-zero h)
  first_run p t o prev (x ∷ xs) ho ht r e h =
      let z : 0 ≡ p = omega arith in
      let f = rest-first ρ lw b k s u t o prev x xs one small ho hs ht hu r in
      let w : t + 2 * 0 ≡ t = omega arith in
      subst (λ (n : ℕ). BlockRun 0 n t o (x ∷ xs)) z
      (record { end = _; within = omega (arith, f.upto); room = omega (arith, f.room); place = ap (number b) w ∙ f.place; run = f.run })

  next-run : (j : ℕ) → BlocksRun j → BlocksRun (suc j)
  next-run j others p t o prev [] ho ht r e h = absurd (not-suc-le-zero h)
  next-run j others p t o prev (x ∷ xs) ho ht r e h =
      let f = rest-first ρ lw b k s u t o prev x xs one small ho hs ht hu r in
      let z : k + (p - k) ≡ p = omega arith in
      let w : t + 2 + 2 * j ≡ t + 2 * suc j = omega arith in
      let g = others (p - k) (t + 2) _ _ (drop k (x ∷ xs)) (omega (arith, f.upto)) (omega (arith, f.room)) f.others (omega arith)
      (omega (arith, length-drop k (x ∷ xs))) in
      let size : length (take k (x ∷ xs)) ≡ k = length-take-le k (x ∷ xs) (omega arith) in
      let here : offset_from b (o + length (front [] (take k (x ∷ xs)))) (p - k) ≡ offset_from b o p =
      ap (λ (n : ℕ). offset_from b n (p - k)) (sym (run-stops ρ b (o + length (front [] (take k (x ∷ xs)))) o [] (take k (x ∷ xs)) f.run) ∙ ap (offset_from b o) size) ∙ sym (offset-add b o k (p - k))
      ∙ ap (offset_from b o) z in
      record {
        end = g.end;
        within = g.within;
        room = omega (arith, g.room);
        place = sym (ap (number b) w) ∙ g.place ∙ here;
        run = subst (λ (n : ℕ). Run ρ b g.end n [] (take k (drop p (x ∷ xs)))) here
            (subst (λ (ys : List Bytes). Run ρ b g.end (offset_from b (o + length (front [] (take k (x ∷ xs)))) (p - k)) [] (take k ys)) (drop-drop (p - k) k (x ∷ xs) ∙ ap (λ (n : ℕ). drop n (x ∷ xs)) z) g.run);
      }

  pub blocks-run : (j : ℕ) → BlocksRun j
  blocks-run zero = first_run
  blocks-run (suc j) = next-run j (blocks-run j)

  -- n blocks, or fewer: from the first entry on, as many entries as there are names end at s
  abbrev BlocksEnd : ℕ → Type 0
  BlocksEnd n = (t o : ℕ) (prev : Bytes) (xs : List Bytes) → o ≤ length b → t ≤ length b → Rest ρ b k s u t o prev xs → length xs ≤ n → offset_from b o (length xs) ≡ s

  none_end : (t o : ℕ) (prev : Bytes) → o ≤ length b → t ≤ length b → Rest ρ b k s u t o prev [] → offset_from b o 0 ≡ s
  unfolding offset_from
  none_end t o prev ho ht r = (rest-none ρ b k s u t o prev ho hs ht hu r).0

  next-end : (n : ℕ) → BlocksEnd n → BlocksEnd (suc n)
  next-end n others t o prev [] ho ht r h = none_end t o prev ho ht r
  next-end n others t o prev (x ∷ xs) ho ht r h =
      let f = rest-first ρ lw b k s u t o prev x xs one small ho hs ht hu r in
      let end : ℕ = o + length (front [] (take k (x ∷ xs))) in
      let g = others (t + 2) end _ (drop k (x ∷ xs)) (omega (arith, f.upto)) (omega (arith, f.room)) f.others (omega (arith, length-drop k (x ∷ xs))) in
      let both : length (x ∷ xs) ≡ length (take k (x ∷ xs)) + length (drop k (x ∷ xs)) = omega (arith, length-take k (x ∷ xs), length-drop k (x ∷ xs)) in
      ap (offset_from b o) both ∙ offset-add b o (length (take k (x ∷ xs))) (length (drop k (x ∷ xs)))
      ∙ ap (λ (i : ℕ). offset_from b i (length (drop k (x ∷ xs)))) (run-stops ρ b end o [] (take k (x ∷ xs)) f.run) ∙ g

  first-end : BlocksEnd 0
  first-end t o prev [] ho ht r h = none_end t o prev ho ht r
  first-end t o prev (x ∷ xs) ho ht r h = absurd (not-suc-le-zero h)

  pub blocks_end : (n : ℕ) → BlocksEnd n
  blocks_end zero = first-end
  blocks_end (suc n) = next-end n (blocks_end n)

-- the count of a run's first entry is 0, where no name is before it
run-zero : (ρ : Rule) (b : Bytes) (e o : ℕ) (xs : List Bytes) → 0 < length xs → Run ρ b e o [] xs → get_or b o 0 ≡ 0
run-zero ρ b e o [] h r = absurd (not-suc-le-zero h)
run-zero ρ b e o (x ∷ xs) h (more k q r) = omega (arith, k.shares)

module _ (ρ : Rule) (lw : Sure ρ) (b : Bytes) (k s u n : ℕ) (ask : Frame b k s u) (h : Has ρ b k s u n s 0 []) (says : told b 2 ≡ s) where
  names-here : names_of b ≡ h.names
  names-here = has-names ρ b k s u n (omega (arith, ask)) h ask.one says

  stands : Rest ρ b k s u s 0 [] (names_of b)
  stands = subst (Rest ρ b k s u s 0 []) (sym names-here) h.rest

  pub has_end : offset_at b (length (names_of b)) ≡ s
  has_end = blocks_end ρ lw b k s u ask.one ask.small (omega (arith, ask)) (omega (arith, ask)) (length (names_of b)) s 0 [] (names_of b) (omega arith) (omega (arith, ask)) stands (omega arith)

  -- block number j, whose first name is number j * k
  block : (j : ℕ) → j * k < length (names_of b) → BlockRun ρ lw b k s u ask.one ask.small (omega (arith, ask)) (omega (arith, ask)) j (j * k) s 0 (names_of b)
  block j l =
      blocks-run ρ lw b k s u ask.one ask.small (omega (arith, ask)) (omega (arith, ask)) j (j * k) s 0 [] (names_of b) (omega arith) (omega (arith, ask))
      stands refl l

  -- its names
  block-name : (j q : ℕ) → q < k → get_or (take k (drop (j * k) (names_of b))) q [] ≡ get_or (names_of b) (j * k + q) []
  block-name j q l = get_or-take k (drop (j * k) (names_of b)) q [] l ∙ get_or-drop (j * k) (names_of b) q []

  block_size : (j q : ℕ) → q < k → j * k + q < length (names_of b) → q < length (take k (drop (j * k) (names_of b)))
  block_size j q l m = omega (arith, length-take k (drop (j * k) (names_of b)), length-drop (j * k) (names_of b))

  pub has-blocks : InBlocks b k s
  has-blocks = record {
    one = ask.one;
    room = λ j l. omega (arith, (block j l).room, ask);
    place = λ j l. (block j l).place;
    first = λ j l. run-zero ρ b (block j l).end (offset_at b (j * k)) (take k (drop (j * k) (names_of b))) (block_size j 0 ask.one (omega arith)) (block j l).run;
    inner = λ j q l m.
        let r = block j (omega arith) in
        ap (λ (o : ℕ). get_or b o 0) (offset-add b 0 (j * k) (suc q))
        ∙ run-next-count ρ b r.end (offset_at b (j * k)) [] (take k (drop (j * k) (names_of b))) q r.within r.run (block_size j (suc q) l m)
        ∙ ap₂ (λ (x y : Bytes). shared x y) (block-name j q (omega arith)) (block-name j (suc q) l);
  }
