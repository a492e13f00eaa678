-- The parts that the check tests are just the books.
--     parts-opened      bytes whose parts pass are a book: of the names and the block size that are read from them
--     opened-parts      a book's parts pass
-- Assumes nothing.
use Prim.Native.Nat.{ℕ, zero, suc, ◌*◌, ◌+◌, ◌-◌, ◌<◌, ◌≤◌}
use native.Mathlib.Omega.{arith}
use mathlib.Core.Path.{◌≡◌, ◌∙◌, ap, ap₂, refl, subst, sym}
use mathlib.Core.List.{List, [], ◌++◌, ◌∷◌}
use lib.ListN.{drop, get_or, length, length-append, take, take-append-drop}
use lib.Seq.{drop-append-le, get_or-drop, length-take-le, slice, take_at, take-length}
use Rattle.words.specs.Words.{Bytes, InBytes, Rule, same}
use Rattle.words.proofs.Words.{same_refl, same_true}
use Rattle.format.specs.Spans.{is_table}
use Rattle.format.specs.Kinds.{BookKind, ColumnBook, FoldedBook, PlainBook, count_in, form_of, kind_of, mark_of, record_size, rule_in, rule_of, table_in}
use Rattle.format.specs.Layout.{Layout}
use Rattle.format.specs.Book.{Book, block_part, book, entry_part, number, numbers, opened, trailer, trailer_size, names_of, told}
use Rattle.format.proofs.Book.{Fits, blocks_at, book-length, book-opened, fits-parts, from-nodes, from-trailer, kind-of-book, nodes_at, opened-book, parts-fits, read-field, table-count, table-length, trailer_at, trailer_numbers}
use Rattle.format.proofs.BookKinds.{kind-layout}
use Rattle.format.proofs.Book as layout
use Rattle.format.proofs.Records.{sound-few}
use Rattle.format.proofs.Numbers.{numbers-are}
use Rattle.kinds.specs.Known.{mark_back, mark_front}
use Rattle.trailer.specs.Trailer.{Trail}
use Rattle.trailer.proofs.Telling.{trailer-is as numbers-trailer}
use Rattle.streams.specs.Runs.{Has}
use Rattle.streams.proofs.Laid.{book-stands}
use Rattle.streams.proofs.Walks.{ends_at, has-length, has-names, has-sound}
use Rattle.accept.specs.Parts.{Parts}

slice-drop : (b : Bytes) (u e : ℕ) → u ≤ e → e ≤ length b → drop u b ≡ slice u e b ++ drop e b
slice-drop b u e h k =
    ap (drop u) (sym (take-append-drop e b)) ∙ drop-append-le u (take e b) (drop e b) (omega (arith, length-take-le e b k))

-- ---- the trailer's bytes out of its numbers

-- the mark is two numbers more
trailer-is : (b : Bytes) → InBytes b → (n k s u m t : ℕ) → Trail b → told b 0 ≡ n → told b 1 ≡ k → told b 2 ≡ s → told b 3 ≡ u → told b 4 ≡ m → told b 5 ≡ t
    → drop (length b - trailer_size) b ≡ trailer (mark_of (kind_of b)) n k s u m t
trailer-is b bytes n k s u m t h en ek es eu em et =
    ap (drop (length b - trailer_size)) (sym (take-length b))
    ∙ numbers-trailer (kind_of b) _ n k s u m t _ refl
    (numbers-are b bytes (n ∷ k ∷ s ∷ u ∷ m ∷ t ∷ mark_front ∷ mark_back (kind_of b) ∷ []) (length b - trailer_size) (length b) (omega (arith, h.long)) (omega arith) at)
  where
    at : (j : ℕ) → j < 8 → told b j ≡ get_or (n ∷ k ∷ s ∷ u ∷ m ∷ t ∷ mark_front ∷ mark_back (kind_of b) ∷ []) j 0
    at zero l = en
    at (suc zero) l = ek
    at (suc (suc zero)) l = es
    at (suc (suc (suc zero))) l = eu
    at (suc (suc (suc (suc zero)))) l = em
    at (suc (suc (suc (suc (suc zero))))) l = et
    at (suc (suc (suc (suc (suc (suc zero)))))) l = h.front
    at (suc (suc (suc (suc (suc (suc (suc zero))))))) l = h.back
    at (suc (suc (suc (suc (suc (suc (suc (suc j)))))))) l = absurd (omega arith)

-- ---- parts that pass

module _ (b : Bytes) (bytes : InBytes b) (p : Parts b) where
  abbrev trail : Trail b
  trail = p.framed.trail

  abbrev stand : Has (rule_in b) b (told b 1) (told b 2) (told b 3) (told b 0) (told b 2) 0 []
  stand = p.framed.entries

  y : Layout (rule_in b) (form_of (kind_of b)) (mark_of (kind_of b))
  y = kind-layout (kind_of b)

  abbrev k : ℕ
  k = told b 1

  abbrev xs : List Bytes
  xs = p.framed.entries.names

  abbrev ns : Bytes
  ns = numbers (table_in (form_of (kind_of b)) (rule_in b) xs)

  abbrev inside : told b 2 ≤ length b
  inside = omega (arith, p.framed.trail.total, p.framed.trail.order)

  names-here : names_of b ≡ xs
  names-here = has-names (rule_in b) b k (told b 2) (told b 3) (told b 0) inside p.framed.entries p.framed.trail.low refl

  nodes-are : ns ≡ slice (told b 3) (length b - trailer_size) b
  unfolding is_table
  nodes-are =
      ap (λ (zs : List Bytes). numbers (table_in (form_of (kind_of b)) (rule_in b) zs)) (sym names-here)
      ∙ same_true (numbers (table_in (form_of (kind_of b)) (rule_in b) (names_of b))) (slice (told b 3) (length b - trailer_size) b) p.nodes

  table_is : drop (told b 3) b ≡ ns ++ drop (length b - trailer_size) b
  table_is =
      slice-drop b (told b 3) (length b - trailer_size) (omega (arith, p.framed.trail.total)) (omega arith)
      ∙ ap (λ (z : Bytes). z ++ drop (length b - trailer_size) b) (sym nodes-are)

  pub parts-book : book (kind_of b) k xs ≡ b
  unfolding block_part trailer
  parts-book =
      let l1 : blocks_at y k xs ≡ told b 2 = has-length (rule_in b) b k (told b 2) (told b 3) (told b 0) inside stand in
      let l2 : told b 2 + length (block_part k xs) ≡ told b 3 =
      ends_at b (block_part k xs) (told b 2) (told b 3) inside (omega (arith, trail.total)) stand.rest.places in
      let l3 : told b 3 + length ns ≡ length b - trailer_size =
      ends_at b ns (told b 3) (length b - trailer_size) (omega (arith, trail.total)) (omega arith) table_is in
      let count : told b 4 ≡ count_in (form_of (kind_of b)) (rule_in b) xs = table-count (form_of (kind_of b)) (rule_in b) xs (told b 4) (omega (arith, trail.total)) in
      let t : drop (length b - trailer_size) b ≡ numbers (trailer_numbers y k xs) ++ mark_of (kind_of b) =
      trailer-is b bytes (length xs) k (blocks_at y k xs) (nodes_at y k xs) (count_in (form_of (kind_of b)) (rule_in b) xs) (trailer_at y k xs + trailer_size) trail
      (sym stand.count) refl (sym l1) (omega arith) count
      (omega (arith, trail.whole, trail.long)) in
      layout.book-parts y k xs
      ∙ sym (stand.rest.entries ∙ ap (λ (z : Bytes). entry_part k xs ++ z) (stand.rest.places
      ∙ ap (λ (z : Bytes). block_part k xs ++ z) (table_is ∙ ap (λ (z : Bytes). ns ++ z) t)))

  pub parts-opened : opened b ≡ Book (kind_of b) k (names_of b)
  parts-opened =
      let f : Fits (kind_of b) k xs = record {
        low = trail.low;
        high = trail.high;
        sound = has-sound (rule_in b) b k (told b 2) (told b 3) (told b 0) inside stand trail.few;
        short = omega (arith, ap length parts-book, trail.short);
      } in
      ap opened (sym parts-book) ∙ opened-book (kind_of b) k xs (parts-fits k xs f) ∙ ap (Book (kind_of b) k) (sym names-here)

-- ---- a book's parts

pub has-at : (ρ : Rule) (b : Bytes) (k j s r u v n m : ℕ) → k ≡ j → s ≡ r → u ≡ v → n ≡ m → Has ρ b k s u n s 0 [] → Has ρ b j r v m r 0 []
has-at ρ b k j s r u v n m p q x y h =
    subst (λ (z : ℕ). Has ρ b z r v m r 0 []) p
    (subst (λ (z : ℕ). Has ρ b k z v m z 0 []) q (subst (λ (z : ℕ). Has ρ b k s z m s 0 []) x (subst (λ (z : ℕ). Has ρ b k s u z s 0 []) y h)))

cut-slice : (b p t : Bytes) (u e : ℕ) → u ≤ e → e ≤ length b → drop u b ≡ p ++ t → drop e b ≡ t → slice u e b ≡ p
cut-slice b p t u e h k d g =
    let a : slice u e b ++ t ≡ p ++ t = sym (slice-drop b u e h k ∙ ap (λ (y : Bytes). slice u e b ++ y) g) ∙ d in
    let n : length p ≡ length (slice u e b) = omega (arith, ap length a, length-append p t, length-append (slice u e b) t) in
    sym (take_at (slice u e b) t (length (slice u e b)) refl) ∙ ap (take (length (slice u e b))) a ∙ take_at p t (length (slice u e b)) n

number_at : (b : Bytes) (e i : ℕ) → number b (e + i) ≡ number (drop e b) i
unfolding number
number_at b e i =
    let z : e + i + 1 ≡ e + (i + 1) = omega arith in
    ap₂ (λ (x y : ℕ). x + 256 * y) (sym (get_or-drop e b i 0)) (ap (λ (n : ℕ). get_or b n 0) z ∙ sym (get_or-drop e b (i + 1) 0))

-- the mark as two numbers
mark-numbers : (κ : BookKind) (n k s u m t : ℕ)
    → let b = numbers (n ∷ k ∷ s ∷ u ∷ m ∷ t ∷ []) ++ mark_of κ in (number b (2 * 6) ≡ mark_front) × (number b (2 * 7) ≡ mark_back κ)
unfolding number numbers
mark-numbers PlainBook n k s u m t = (refl, refl)
mark-numbers FoldedBook n k s u m t = (refl, refl)
mark-numbers ColumnBook n k s u m t = (refl, refl)

module _ (κ : BookKind) (k : ℕ) (xs : List Bytes) (f : Fits κ k xs) where
  z : Layout (rule_of κ) (form_of κ) (mark_of κ)
  z = kind-layout κ

  abbrev B : Bytes
  B = book κ k xs

  abbrev table : Bytes
  table = numbers (table_in (form_of κ) (rule_of κ) xs)

  abbrev end : Bytes
  end = numbers (trailer_numbers z k xs) ++ mark_of κ

  at-end : length B - trailer_size ≡ trailer_at z k xs
  at-end = omega (arith, book-length z k xs)

  -- number j of the trailer, the mark's two among them
  marked : (j : ℕ) → told B j ≡ number end (2 * j)
  marked j = number_at B (length B - trailer_size) (2 * j) ∙ ap (λ (s : Bytes). number s (2 * j)) (ap (λ (x : ℕ). drop x B) at-end ∙ from-trailer z k xs)

  here : Has (rule_of κ) B k (blocks_at z k xs) (nodes_at z k xs) (length xs) (blocks_at z k xs) 0 []
  here = record { names = xs; count = refl; rest = book-stands z k xs f }

  pub book-passes : Parts B
  unfolding is_table here
  book-passes =
      let own : kind_of B ≡ κ = kind-of-book κ k xs in
      let marks = mark-numbers κ (length xs) k (blocks_at z k xs) (nodes_at z k xs) (count_in (form_of κ) (rule_of κ) xs) (trailer_at z k xs + trailer_size) in
      let tn : told B 0 ≡ length xs = read-field z k xs f 0 (omega arith) in
      let tk : told B 1 ≡ k = read-field z k xs f 1 (omega arith) in
      let ts : told B 2 ≡ blocks_at z k xs = read-field z k xs f 2 (omega arith) in
      let tu : told B 3 ≡ nodes_at z k xs = read-field z k xs f 3 (omega arith) in
      let tm : told B 4 ≡ count_in (form_of κ) (rule_of κ) xs = read-field z k xs f 4 (omega arith) in
      let tt : told B 5 ≡ trailer_at z k xs + trailer_size = read-field z k xs f 5 (omega arith) in
      let l : length B ≡ trailer_at z k xs + trailer_size = book-length z k xs in
      let size : told B 4 * record_size (form_of (kind_of B)) ≡ count_in (form_of κ) (rule_of κ) xs * record_size (form_of κ) = ap₂ (λ (m : ℕ) (μ : BookKind). m * record_size (form_of μ)) tm own in
      let nm : names_of B ≡ xs = has-names (rule_of κ) B k (blocks_at z k xs) (nodes_at z k xs) (length xs) (omega arith) here f.low ts in
      record {
        framed = record {
          trail = record {
            long = omega arith;
            short = f.short;
            few = omega (arith, tn, sound-few (rule_of κ) xs f.sound);
            low = omega (arith, tk, f.low);
            high = omega (arith, tk, f.high);
            order = omega (arith, ts, tu);
            total = omega (arith, tu, size, l, table-length (form_of κ) (rule_of κ) xs);
            whole = omega (arith, tt, l);
            front = marked 6 ∙ marks.0;
            back = marked 7 ∙ marks.1 ∙ ap mark_back (sym own);
          };
          entries = subst (λ (μ : BookKind). Has (rule_of μ) B (told B 1) (told B 2) (told B 3) (told B 0) (told B 2) 0 []) (sym own)
              (has-at (rule_of κ) B k (told B 1) (blocks_at z k xs) (told B 2) (nodes_at z k xs) (told B 3) (length xs) (told B 0) (sym tk) (sym ts) (sym tu) (sym tn) here);
        };
        nodes =
            ap₂ (λ (v w : Bytes). same v w) (ap₂ (λ (μ : BookKind) (ys : List Bytes). numbers (table_in (form_of μ) (rule_of μ) ys)) own nm)
            (ap (λ (x : ℕ). slice x (length B - trailer_size) B) tu
            ∙ cut-slice B table end (nodes_at z k xs) (length B - trailer_size) (omega arith) (omega arith) (from-nodes z k xs) (ap (λ (x : ℕ). drop x B) at-end ∙ from-trailer z k xs))
            ∙ same_refl table;
      }

pub opened-parts : (κ : BookKind) (b : Bytes) (k : ℕ) (xs : List Bytes) → opened b ≡ Book κ k xs → Parts b
opened-parts κ b k xs e = let o = book-opened κ b k xs e in subst Parts o.1 (book-passes κ k xs (fits-parts k xs o.0))
