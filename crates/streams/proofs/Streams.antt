-- The entries of a book are a stream of its names, one after the other from the front on.
--     EntryCut, cut          what stands at an offset, taken apart: the count, the length, the rest, and what is behind
--     AllShort          names of at most 200 bytes
--     stream-part       the entries of such names stream them, wherever they stand
--     stream-entries    bytes that begin with the entries of such names stream these names
--     names-are         the names that the entries are read as
--     known             bytes that begin with the entries of a sound list, where the trailer says that they end
-- Assumes nothing.
use Prim.Native.Nat.{ℕ, suc, ◌+◌, ◌-◌, ◌≤◌}
use native.Mathlib.Omega.{arith}
use mathlib.Core.Path.{◌≡◌, refl, sym, ap, ap₂, ◌∙◌, subst}
use mathlib.Core.Bool.{true}
use mathlib.Core.List.{List, [], ◌∷◌, ◌++◌, map, append_assoc}
use lib.ListN.{length, get_or, take, drop, length-append, length-drop, take-append-drop}
use lib.Seq.{get_or-drop, drop-drop, take_at, drop_at, take-append_seam}
use Rattle.words.specs.Rising.{All, Rises, cons, Sure}
use Rattle.words.specs.Words.{Bytes, Rule, shared, word}
use Rattle.words.proofs.Lists.{all_left, all_map, all_right}
use Rattle.words.proofs.Words.{shared-comm, shared-le, take-shared}
use Rattle.format.specs.Spans.{words_of}
use Rattle.format.specs.Book.{entry_part, joined, longest_book, names_of, told}
use Rattle.format.specs.Entries as format
use Rattle.format.specs.Entries.{blocks, blocks_from, decode, front}
use Rattle.format.specs.Records.{longest, most_names, sound}
use Rattle.format.proofs.Entries.{decode-entries, joined-blocks, joined_names}
use Rattle.format.proofs.Records.{rising-sizes, sound-few, sound-rises, sound-rising}
use Rattle.streams.specs.Streams.{EntryAt, Known, Stream, done, entry}

-- what stands at an offset, taken apart
pub record EntryCut (b : Bytes) (o c : ℕ) (r t : Bytes) : Type 0 where
  pub count : get_or b o 0 ≡ c
  pub size : get_or b (o + 1) 0 ≡ length r
  pub rest : take (length r) (drop (o + 2) b) ≡ r
  pub behind : drop (o + 2 + length r) b ≡ t
  pub fits : o + 2 + length r ≤ length b

pub cut : (b : Bytes) (o c : ℕ) (r t : Bytes) → drop o b ≡ c ∷ length r ∷ (r ++ t) → EntryCut b o c r t
cut b o c r t e = record {
  count = let z : o ≡ o + 0 = omega arith in ap (λ (x : ℕ). get_or b x 0) z ∙ sym (get_or-drop o b 0 0) ∙ ap (λ (s : Bytes). get_or s 0 0) e;
  size = sym (get_or-drop o b 1 0) ∙ ap (λ (s : Bytes). get_or s 1 0) e;
  rest = ap (take (length r)) two ∙ take_at r t (length r) refl;
  behind = sym (drop-drop (length r) (o + 2) b) ∙ ap (drop (length r)) two ∙ drop_at r t (length r) refl;
  fits = fit (length b) (length (drop o b)) (length-drop o b) (ap length e ∙ ap (λ (n : ℕ). suc (suc n)) (length-append r t));
}
  where
    two : drop (o + 2) b ≡ r ++ t
    two = sym (drop-drop 2 o b) ∙ ap (drop 2) e

    fit : (n m : ℕ) → m ≡ n - o → m ≡ suc (suc (length r + length t)) → o + 2 + length r ≤ n
    fit n m p q = omega arith

-- the entry of x after p, read after prev, which shares with x what p does
stream-entry : (b : Bytes) (o : ℕ) (prev p x : Bytes) (t : Bytes) (xs : List Bytes) → length x ≤ longest
    → shared p x ≤ length prev → take (shared p x) prev ≡ take (shared p x) x → drop o b ≡ format.entry p x ++ t
    → ((u : ℕ) → drop u b ≡ t → Stream b u x xs) → Stream b o prev (x ∷ xs)
unfolding format.entry
stream-entry b o prev p x t xs l h k e more =
    let at : EntryAt b o (length prev) = record {
      fits = omega (arith, c.fits, c.size);
      shares = omega (arith, c.count);
      short = omega (arith, c.count, c.size, length-drop (shared p x) x, shared-le x p, shared-comm p x);
    } in
    entry at
    (ap₂ (λ (n m : ℕ). take n prev ++ take m (drop (o + 2) b)) c.count c.size ∙ ap₂ (λ (u v : Bytes). u ++ v) k c.rest ∙ take-append-drop (shared p x) x)
    (more (o + 2 + get_or b (o + 1) 0) (ap (λ (n : ℕ). drop (o + 2 + n) b) c.size ∙ c.behind))
  where
    c : EntryCut b o (shared p x) (drop (shared p x) x) t
    c = cut b o (shared p x) (drop (shared p x) x) t e

abbrev pub AllShort : List Bytes → Type 0
AllShort xs = All (λ x. length x ≤ longest) xs

stream-front : (b : Bytes) (o : ℕ) (prev : Bytes) (xs : List Bytes) (t : Bytes) (after : List Bytes) → AllShort xs → drop o b ≡ front prev xs ++ t
    → ((u : ℕ) (p : Bytes) → drop u b ≡ t → Stream b u p after) → Stream b o prev (xs ++ after)
unfolding front
stream-front b o prev [] t after s e more = more o prev e
stream-front b o prev (x ∷ xs) t after (cons l s) e more =
    stream-entry b o prev prev x (front x xs ++ t) (xs ++ after) l (shared-le prev x) (take-shared prev x) (e ∙ append_assoc (format.entry prev x) (front x xs) t)
    (λ u q. stream-front b u x xs t after s q more)

stream-block : (b : Bytes) (o : ℕ) (prev : Bytes) (xs : List Bytes) (t : Bytes) (after : List Bytes) → AllShort xs → drop o b ≡ front [] xs ++ t
    → ((u : ℕ) (p : Bytes) → drop u b ≡ t → Stream b u p after) → Stream b o prev (xs ++ after)
unfolding front shared
stream-block b o prev [] t after s e more = more o prev e
stream-block b o prev (x ∷ xs) t after (cons l s) e more =
    stream-entry b o prev [] x (front x xs ++ t) (xs ++ after) l (omega arith) refl (e ∙ append_assoc (format.entry [] x) (front x xs) t)
    (λ u q. stream-front b u x xs t after s q more)

stream-blocks : (b : Bytes) (o : ℕ) (prev : Bytes) (bs : List (List Bytes)) (t : Bytes) → AllShort (joined_names bs) → drop o b ≡ joined (map (front []) bs) ++ t → Stream b o prev (joined_names bs)
unfolding joined
stream-blocks b o prev [] t s e = done
stream-blocks b o prev (xs ∷ bs) t s e =
    stream-block b o prev xs (joined (map (front []) bs) ++ t) (joined_names bs) (all_left xs (joined_names bs) s) (e ∙ append_assoc (front [] xs) (joined (map (front []) bs)) t)
    (λ u p q. stream-blocks b u p bs t (all_right xs (joined_names bs) s) q)

pub stream-part : (b : Bytes) (o : ℕ) (prev : Bytes) (k : ℕ) (xs : List Bytes) (t : Bytes) → 1 ≤ k → AllShort xs → drop o b ≡ entry_part k xs ++ t
    → Stream b o prev xs
unfolding entry_part blocks
stream-part b o prev k xs t h s e =
    let j : joined_names (blocks_from k 0 xs) ≡ xs = joined-blocks k xs h in
    subst (Stream b o prev) j (stream-blocks b o prev (blocks_from k 0 xs) t (subst AllShort (sym j) s) e)

pub stream-entries : (b : Bytes) (k : ℕ) (xs : List Bytes) (t : Bytes) → 1 ≤ k → AllShort xs → b ≡ entry_part k xs ++ t → Stream b 0 [] xs
stream-entries b k xs t h s e = stream-part b 0 [] k xs t h s e

-- ---- what a check of the nodes asks

module _ (b : Bytes) (k : ℕ) (xs : List Bytes) (t : Bytes) (one : 1 ≤ k) (e : b ≡ entry_part k xs ++ t)
    (ends : told b 2 ≡ length (entry_part k xs)) where
  pub names-are : names_of b ≡ xs
  unfolding names_of
  names-are =
      ap (λ (n : ℕ). decode (take n b)) ends
      ∙ ap (λ (s : Bytes). decode (take (length (entry_part k xs)) s)) e
      ∙ ap decode (take-append_seam (entry_part k xs) t) ∙ decode-entries k xs one

  pub known : (ρ : Rule) → Sure ρ → sound ρ xs ≡ true → length b ≤ longest_book → Known ρ b
  unfolding words_of
  known ρ lw h l = record {
    short = l;
    few = subst (λ (ys : List Bytes). length ys ≤ most_names) (sym names-are) (sound-few ρ xs h);
    rises = subst (λ (ys : List Bytes). Rises (map (word ρ) ys)) (sym names-are) (sound-rises ρ lw xs h);
    stream = subst (Stream b 0 []) (sym names-are) (stream-entries b k xs t one (all_map (λ x g. g.1) (rising-sizes ρ [] xs (sound-rising ρ xs h))) e);
  }
