-- A run of entries that pass the local tests is a block's front coding of names that rise, and the other way round.
--     two                    two bytes at an offset, and what is behind
--     Entered, entered       what one entry that passes the tests is
--     is-good, both-are      two tests at once
--     Fronts, run-front      a run gives the bytes, and that the names rise
--     FrontHead, rising-headed         names that rise, taken apart
--     front-run              the bytes, and that the names rise, give a run
--     run-unique             the names of a run are determined by the bytes and by how many they are
-- Assumes nothing.
use Prim.Native.Nat.{ℕ, suc, ◌+◌, ◌≤◌}
use native.Mathlib.Omega.{arith}
use mathlib.Core.Path.{◌≡◌, refl, sym, ap, ap₂, ◌∙◌, subst}
use mathlib.Core.Bool.{Bool, true}
use mathlib.Core.List.{List, [], ◌∷◌, ◌++◌, append_assoc}
use lib.ListN.{length, get_or, take, drop, length-append, length-take, length-drop, take-append-drop}
use lib.Seq.{drop-cons, drop-drop, drop_at, get_or-drop, get_or-take, length-take-le}
use borrow.Author.Tests.{lt-ltb, le-leb}
use Rattle.words.specs.Words.{Bytes, Rule, both, less, shared, word}
use Rattle.words.proofs.Words.{shared-comm, shared-le, take-shared}
use Rattle.format.specs.Entries.{entry, front}
use Rattle.format.specs.Records.{good_length, longest, rising}
use Rattle.format.proofs.Records.{good_length_lem, rising-first}
use Rattle.streams.specs.Runs.{Run, Step, done, more}
use Rattle.streams.specs.Streams.{entry_end, name_at}
use Rattle.streams.proofs.Steps.{Local, greatest, rising-local}
use Rattle.streams.proofs.Streams.{EntryCut, cut}

pub record Fronts (ρ : Rule) (b : Bytes) (e o : ℕ) (prev : Bytes) (xs : List Bytes) : Type 0 where
  pub upto : o ≤ e
  pub entries : drop o b ≡ front prev xs ++ drop e b
  pub rises : rising ρ prev xs ≡ true

pub two : (b : Bytes) (o : ℕ) → o + 2 ≤ length b → drop o b ≡ get_or b o 0 ∷ get_or b (o + 1) 0 ∷ drop (o + 2) b
two b o h =
    let p : suc o ≡ o + 1 = omega arith in
    let q : suc (o + 1) ≡ o + 2 = omega arith in
    drop-cons b o 0 (omega arith)
    ∙ ap (λ (t : Bytes). get_or b o 0 ∷ t) (ap (λ (n : ℕ). drop n b) p ∙ drop-cons b (o + 1) 0 (omega arith) ∙ ap (λ (n : ℕ). get_or b (o + 1) 0 ∷ drop n b) q)

-- ---- from the tests to the bytes

pub record Entered (ρ : Rule) (b : Bytes) (o : ℕ) (prev x : Bytes) : Type 0 where
  pub bytes : drop o b ≡ entry prev x ++ drop (entry_end b o) b
  pub size : length x ≡ get_or b o 0 + get_or b (o + 1) 0
  pub count : shared prev x ≡ get_or b o 0
  pub rises : less (word ρ prev) (word ρ x) ≡ true

module _ (ρ : Rule) (b : Bytes) (e o : ℕ) (prev : Bytes) (within : e ≤ length b) (k : Step ρ b o e prev) where
  c : ℕ
  c = get_or b o 0

  l : ℕ
  l = get_or b (o + 1) 0

  r : Bytes
  r = take l (drop (o + 2) b)

  r-length : length r ≡ l
  unfolding r l
  r-length = rw (length-take, length-drop) (omega (arith, k.fits))

  r-first : get_or r 0 0 ≡ get_or b (o + 2) 0
  unfolding r l
  r-first = let z : o + 2 + 0 ≡ o + 2 = omega arith in
      get_or-take (get_or b (o + 1) 0) (drop (o + 2) b) 0 0 k.some ∙ get_or-drop (o + 2) b 0 0 ∙ ap (λ (n : ℕ). get_or b n 0) z

  counted : shared prev (take c prev ++ r) ≡ c
  unfolding c l
  counted = greatest prev r c k.shares (λ h e. k.differ h (e ∙ r-first))

  pub entered : Entered ρ b o prev (name_at b o prev)
  unfolding c l r entry
  entered =
      let front_length : length (take c prev) ≡ c = length-take-le c prev k.shares in
      let d : drop c (take c prev ++ r) ≡ r = drop_at (take c prev) r c front_length in
      record {
        bytes = two b o (omega (arith, k.fits))
            ∙ ap (λ (t : Bytes). c ∷ l ∷ t) (sym (take-append-drop l (drop (o + 2) b)) ∙ ap (λ (t : Bytes). r ++ t) (drop-drop l (o + 2) b))
            ∙ sym (ap (λ (n : ℕ). n ∷ length (drop n (take c prev ++ r)) ∷ (drop n (take c prev ++ r) ++ drop (o + 2 + l) b)) counted
            ∙ ap (λ (t : Bytes). c ∷ length t ∷ (t ++ drop (o + 2 + l) b)) d
            ∙ ap (λ (n : ℕ). c ∷ n ∷ (r ++ drop (o + 2 + l) b)) r-length);
        size = length-append (take c prev) r ∙ ap₂ (λ (n m : ℕ). n + m) front_length r-length;
        count = counted;
        rises = k.above;
      }

pub is-good : (n : ℕ) → 1 ≤ n → n ≤ longest → good_length n ≡ true
is-good n h k = rw (lt-ltb 0 n h, le-leb n longest k) refl

pub both-are : (a b : Bool) → a ≡ true → b ≡ true → both a b ≡ true
both-are a b p q = rw (p, q) refl

pub run-front : (ρ : Rule) (b : Bytes) (e o : ℕ) (prev : Bytes) (xs : List Bytes) → e ≤ length b → Run ρ b e o prev xs → Fronts ρ b e o prev xs
unfolding front rising
run-front ρ b e o prev [] w (done q) = record { upto = omega arith; entries = ap (λ (n : ℕ). drop n b) q; rises = refl }
run-front ρ b e o prev (x ∷ xs) w (more k q h) =
    let n = subst (Entered ρ b o prev) q (entered ρ b e o prev w k) in
    let ih = run-front ρ b e (entry_end b o) x xs w h in
    record {
      upto = omega (arith, ih.upto);
      entries = n.bytes ∙ ap (λ (t : Bytes). entry prev x ++ t) ih.entries ∙ sym (append_assoc (entry prev x) (front x xs) (drop e b));
      rises = both-are _ _ (is-good (length x) (omega (arith, n.size, k.some)) (omega (arith, n.size, k.short))) (both-are _ _ n.rises ih.rises);
    }

-- ---- from the bytes to the tests

pub record FrontHead (ρ : Rule) (prev x : Bytes) (xs : List Bytes) : Type 0 where
  pub some : 1 ≤ length x
  pub short : length x ≤ longest
  pub rises : less (word ρ prev) (word ρ x) ≡ true
  pub others : rising ρ x xs ≡ true

pub rising-headed : (ρ : Rule) (prev x : Bytes) (xs : List Bytes) → rising ρ prev (x ∷ xs) ≡ true → FrontHead ρ prev x xs
rising-headed ρ prev x xs h =
    let f = rising-first ρ prev x xs h in
    let g = good_length_lem (length x) f.size in
    record { some = g.0; short = g.1; rises = f.above; others = f.rest }

pub front-run : (ρ : Rule) (b : Bytes) (e o : ℕ) (prev : Bytes) (xs : List Bytes) → o ≤ length b → e ≤ length b
    → drop o b ≡ front prev xs ++ drop e b → rising ρ prev xs ≡ true → Run ρ b e o prev xs
unfolding front entry
front-run ρ b e o prev [] ho w q h = done {o = o} (omega (arith, ap length q, length-drop o b, length-drop e b))
front-run ρ b e o prev (x ∷ xs) ho w q h =
    let hd = rising-headed ρ prev x xs h in
    let lc = rising-local ρ prev x hd.rises in
    let t : Bytes = front x xs ++ drop e b in
    let d : Bytes = drop (shared prev x) x in
    let cu : EntryCut b o (shared prev x) d t = cut b o (shared prev x) d t (q ∙ append_assoc (entry prev x) (front x xs) (drop e b)) in
    more (stepped hd lc cu) (named cu)
    (front-run ρ b e (entry_end b o) x xs (omega (arith, cu.fits, cu.size)) w (ap (λ (n : ℕ). drop (o + 2 + n) b) cu.size ∙ cu.behind) hd.others)
  where
    named : EntryCut b o (shared prev x) (drop (shared prev x) x) (front x xs ++ drop e b) → name_at b o prev ≡ x
    named cu =
        ap₂ (λ (n m : ℕ). take n prev ++ take m (drop (o + 2) b)) cu.count cu.size
        ∙ ap₂ (λ (u v : Bytes). u ++ v) (take-shared prev x) cu.rest ∙ take-append-drop (shared prev x) x

    stepped : FrontHead ρ prev x xs → Local prev x (shared prev x) → EntryCut b o (shared prev x) (drop (shared prev x) x) (front x xs ++ drop e b) → Step ρ b o e prev
    stepped hd lc cu =
        let z : o + 2 + 0 ≡ o + 2 = omega arith in
        let first : get_or (drop (shared prev x) x) 0 0 ≡ get_or b (o + 2) 0 =
        sym (ap (λ (t : Bytes). get_or t 0 0) cu.rest) ∙ get_or-take (length (drop (shared prev x) x)) (drop (o + 2) b) 0 0 lc.some ∙ get_or-drop (o + 2) b 0 0 ∙ ap (λ (n : ℕ). get_or b n 0) z in
        record {
          fits = omega (arith, cu.size, cu.fits, ap length cu.behind, length-drop (o + 2 + length (drop (shared prev x) x)) b, length-append (front x xs) (drop e b), length-drop e b);
          some = omega (arith, cu.size, lc.some);
          shares = omega (arith, cu.count, shared-le prev x);
          short = omega (arith, cu.count, cu.size, length-drop (shared prev x) x, shared-le x prev, shared-comm prev x, hd.short);
          differ = λ g e. lc.differ (omega (arith, cu.count)) (ap (λ (n : ℕ). get_or prev n 0) (sym cu.count) ∙ e ∙ sym first);
          above = subst (λ (y : Bytes). less (word ρ prev) (word ρ y) ≡ true) (sym (named cu)) hd.rises;
        }

pub run-unique : (ρ : Rule) (b : Bytes) (e o : ℕ) (prev : Bytes) (xs ys : List Bytes) → length xs ≡ length ys → Run ρ b e o prev xs → Run ρ b e o prev ys → xs ≡ ys
run-unique ρ b e o prev [] [] n h g = refl
run-unique ρ b e o prev [] (y ∷ ys) n h g = absurd (omega arith)
run-unique ρ b e o prev (x ∷ xs) [] n h g = absurd (omega arith)
run-unique ρ b e o prev (x ∷ xs) (y ∷ ys) n (more k q h) (more j p g) =
    let s : x ≡ y = sym q ∙ p in
    ap₂ (λ (z : Bytes) (zs : List Bytes). z ∷ zs) s (run-unique ρ b e (entry_end b o) y xs ys (omega arith) (subst (λ (z : Bytes). Run ρ b e (entry_end b o) z xs) s h) g)
