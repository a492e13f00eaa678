-- The walk over the entries: one entry, the loop over a block, the order of two names, the loop over the blocks.
--     step_is, step-on           one entry, from what was read of it; what it says of that
--     run-first, -more, -none, none-run    the names of a run, one by one
--     Blocked, blocked-..        what a whole block asks, the rest of it asks, and the other way round
--     below-..                   the order of two names, from how many symbols they share
--     first-name                 the first name of a block
--     end-last, end-next         where a block ends
--     HasFirst, has_first, has_join    names in blocks are a block, and then names in blocks; the other way round
--     same-last                  a block has one last name
--     Walked, walked-..          what the whole asks, the blocks left ask, and the other way round
--     has-entries, has-length, has-sound, has-names, has-known    what the walk's yes says of the book
-- Assumes nothing.
use Prim.Native.Nat.{ℕ, zero, suc, ◌+◌, ◌-◌, ◌≤◌, ◌<◌, min}
use native.Mathlib.Nat.{not-suc-le-zero, le_of_suc-le-suc}
use native.Mathlib.Omega.{arith}
use native.Mathlib.Decide.{dec_le}
use mathlib.Core.Path.{◌≡◌, refl, sym, ap, ap₂, ◌∙◌, subst}
use mathlib.Core.Bool.{true}
use mathlib.Core.List.{List, [], ◌∷◌, ◌++◌}
use lib.ListN.{length, get_or, take, drop, length-take, length-drop, length-append}
use lib.Seq.{take_at, drop_at, take-nil}
use borrow.Author.Tests.{le-leb, lt-leb}
use Rattle.words.specs.Words.{Bytes, InBytes, Rule, at, less, word}
use Rattle.words.specs.Rising.{Sure}
use Rattle.format.specs.Book.{entry_part, longest_book, number, names_of, told}
use Rattle.format.specs.Entries.{front}
use Rattle.format.specs.Records.{longest, most_names, sound}
use Rattle.format.specs.Spans.{last_of}
use Rattle.streams.specs.Runs.{Frame, Has, Rest, Run, RunTo, Step, done, end_of, more}
use Rattle.streams.specs.Streams.{EntryAt, Known, entry_end, name_at}
use Rattle.streams.proofs.Blocks.{FirstBlock, none_rest, rest-first, rest-join, rest-none}
use Rattle.streams.proofs.Fronts.{both-are, run-unique}
use Rattle.streams.proofs.Steps.{less-on}
use Rattle.streams.proofs.Streams.{known, names-are}

-- ---- one entry

-- c and n are what was read
pub step_is : (ρ : Rule) (b prev : Bytes) (o e c n : ℕ) → c ≡ get_or b o 0 → n ≡ get_or b (o + 1) 0 → o + 2 + n ≤ e → 1 ≤ n → c ≤ length prev → c + n ≤ longest
    → (c < length prev → get_or prev c 0 ≡ get_or b (o + 2) 0 → ⊥) → less (word ρ (drop c prev)) (word ρ (take n (drop (o + 2) b))) ≡ true → Step ρ b o e prev
step_is ρ b prev o e c n ce ne fit some sh short differ up = record {
  fits = omega arith;
  some = omega arith;
  shares = omega arith;
  short = omega arith;
  differ = λ h q. differ (omega arith) (ap (λ (x : ℕ). get_or prev x 0) ce ∙ q);
  above = ap₂ (λ (x y : ℕ). less (word ρ prev) (word ρ (take x prev ++ take y (drop (o + 2) b)))) (sym ce) (sym ne) ∙ less-on ρ prev (take n (drop (o + 2) b)) c sh ∙ up;
}

-- what a step says of what was read
pub step-on : (ρ : Rule) (b prev : Bytes) (o e c n : ℕ) → c ≡ get_or b o 0 → n ≡ get_or b (o + 1) 0 → Step ρ b o e prev
    → less (word ρ (drop c prev)) (word ρ (take n (drop (o + 2) b))) ≡ true
step-on ρ b prev o e c n ce ne k =
    sym (less-on ρ prev (take n (drop (o + 2) b)) c (omega (arith, k.shares)))
    ∙ ap₂ (λ (x y : ℕ). less (word ρ prev) (word ρ (take x prev ++ take y (drop (o + 2) b)))) ce ne ∙ k.above

-- ---- a block

module _ (ρ : Rule) (b : Bytes) (e : ℕ) where
  pub run-first : (o : ℕ) (prev : Bytes) (m : ℕ) (l : Bytes) → 0 < m → RunTo ρ b e o prev m l
      → Step ρ b o e prev × RunTo ρ b e (entry_end b o) (name_at b o prev) (m - 1) l
  unfolding last_of
  run-first o prev m l h k = go k.names k.count k.run k.last
    where
      go : (xs : List Bytes) → length xs ≡ m → Run ρ b e o prev xs → last_of prev xs ≡ l → Step ρ b o e prev × RunTo ρ b e (entry_end b o) (name_at b o prev) (m - 1) l
      go [] n r q = absurd (omega arith)
      go (x ∷ xs) n (more s p r) q = (
        s,
        record {
          names = xs;
          count = omega arith;
          run = subst (λ (z : Bytes). Run ρ b e (entry_end b o) z xs) (sym p) r;
          last = ap (λ (z : Bytes). last_of z xs) p ∙ q;
        },
      )

  pub run_more : (o : ℕ) (prev : Bytes) (m : ℕ) (l : Bytes) → 0 < m → Step ρ b o e prev → RunTo ρ b e (entry_end b o) (name_at b o prev) (m - 1) l → RunTo ρ b e o prev m l
  unfolding last_of
  run_more o prev m l h s k = record { names = name_at b o prev ∷ k.names; count = omega (arith, k.count); run = more s refl k.run; last = k.last }

  pub run_none : (o : ℕ) (prev l : Bytes) → RunTo ρ b e o prev 0 l → o ≡ e
  run_none o prev l k = go k.names k.count k.run
    where
      go : (xs : List Bytes) → length xs ≡ 0 → Run ρ b e o prev xs → o ≡ e
      go [] n (done q) = q
      go (x ∷ xs) n r = absurd (omega arith)

  pub none-run : (o : ℕ) (prev : Bytes) → o ≡ e → RunTo ρ b e o prev 0 prev
  unfolding last_of
  none-run o prev h = record { names = []; count = refl; run = done h; last = refl }

-- what the whole block asks, the rest of it asks, and the other way round
pub record Blocked (ρ : Rule) (b : Bytes) (e o₀ m o : ℕ) (prev : Bytes) (left : ℕ) : Type 0 where
  pub within : e ≤ length b
  pub forth : (l : Bytes) → RunTo ρ b e o₀ [] m l → RunTo ρ b e o prev left l
  pub back : (l : Bytes) → RunTo ρ b e o prev left l → RunTo ρ b e o₀ [] m l

module _ (ρ : Rule) (b : Bytes) (e o₀ m : ℕ) where
  pub blocked-start : e ≤ length b → Blocked ρ b e o₀ m o₀ [] m
  blocked-start h = record { within = h; forth = λ l k. k; back = λ l k. k }

  module _ (o : ℕ) (prev : Bytes) (left : ℕ) (w : Blocked ρ b e o₀ m o prev left) where
    pub blocked-entry : (len : ℕ) → length prev ≡ len → Step ρ b o e prev → EntryAt b o len
    blocked-entry len n s = record { fits = omega (arith, s.fits, w.within); shares = omega (arith, s.shares); short = s.short }

    pub blocked-more : (next : ℕ) (name : Bytes) → 0 < left → Step ρ b o e prev → name ≡ name_at b o prev → next ≡ entry_end b o
        → Blocked ρ b e o₀ m next name (left - 1)
    blocked-more next name h s p q = record {
      within = w.within;
      forth = λ l k. there l (run-first ρ b e o prev left l h (w.forth l k)).1;
      back = λ l k. w.back l (run_more ρ b e o prev left l h s (here l k));
    }
      where
        there : (l : Bytes) → RunTo ρ b e (entry_end b o) (name_at b o prev) (left - 1) l → RunTo ρ b e next name (left - 1) l
        there l k = subst (λ (x : ℕ). RunTo ρ b e x name (left - 1) l) (sym q) (subst (λ (x : Bytes). RunTo ρ b e (entry_end b o) x (left - 1) l) (sym p) k)

        here : (l : Bytes) → RunTo ρ b e next name (left - 1) l → RunTo ρ b e (entry_end b o) (name_at b o prev) (left - 1) l
        here l k = subst (λ (x : ℕ). RunTo ρ b e x (name_at b o prev) (left - 1) l) q (subst (λ (x : Bytes). RunTo ρ b e next x (left - 1) l) p k)

    pub blocked-bad : 0 < left → (Step ρ b o e prev → ⊥) → (l : Bytes) → RunTo ρ b e o₀ [] m l → ⊥
    blocked-bad h n l k = n (run-first ρ b e o prev left l h (w.forth l k)).0

    pub blocked-apart : left ≤ 0 → (o ≡ e → ⊥) → (l : Bytes) → RunTo ρ b e o₀ [] m l → ⊥
    blocked-apart h n l k =
        let z : left ≡ 0 = omega arith in
        n (run_none ρ b e o prev l (subst (λ (x : ℕ). RunTo ρ b e o prev x l) z (w.forth l k)))

    pub blocked-done : left ≤ 0 → o ≡ e → RunTo ρ b e o₀ [] m prev
    blocked-done h q =
        let z : 0 ≡ left = omega arith in
        w.back prev (subst (λ (x : ℕ). RunTo ρ b e o prev x prev) z (none-run ρ b e o prev q))

-- ---- where a block ends

pub end-last : (b : Bytes) (k s t left : ℕ) → left ≤ k → end_of b k s t left ≡ s
end-last b k s t left h = rw (le-leb left k h) refl

pub end-next : (b : Bytes) (k s t left : ℕ) → k < left → end_of b k s t left ≡ number b (t + 2)
end-next b k s t left h = rw (lt-leb left k h) refl

-- ---- a block and the name before it

pub first-name : (b : Bytes) (o n : ℕ) → n ≡ get_or b (o + 1) 0 → name_at b o [] ≡ take (o + 2 + n - (o + 2)) (drop (o + 2) b)
first-name b o n e =
    let z : get_or b (o + 1) 0 ≡ o + 2 + n - (o + 2) = omega arith in
    ap₂ (λ (u v : Bytes). u ++ v) (take-nil (get_or b o 0)) (ap (λ (x : ℕ). take x (drop (o + 2) b)) z)

-- ---- names in blocks

pub record HasFirst (ρ : Rule) (b : Bytes) (k s u left t o : ℕ) (prev : Bytes) : Type 0 where
  pub room : t + 2 ≤ u
  pub place : number b t ≡ o
  pub upto : end_of b k s t left ≤ s
  pub below : less (word ρ prev) (word ρ (name_at b o [])) ≡ true
  pub last : Bytes
  pub run : RunTo ρ b (end_of b k s t left) o [] (min left k) last
  pub others : Has ρ b k s u (left - min left k) (t + 2) (end_of b k s t left) last

head-name : (ρ : Rule) (b : Bytes) (e o k : ℕ) (x : Bytes) (xs : List Bytes) → 1 ≤ k → Run ρ b e o [] (take k (x ∷ xs)) → name_at b o [] ≡ x
head-name ρ b e o zero x xs h r = absurd (not-suc-le-zero h)
head-name ρ b e o (suc k) x xs h (more s p r) = p

run-name : (ρ : Rule) (b : Bytes) (e o : ℕ) (x : Bytes) (xs : List Bytes) → Run ρ b e o [] (x ∷ xs) → name_at b o [] ≡ x
run-name ρ b e o x xs (more s p r) = p

front_length : (k left : ℕ) (ys : List Bytes) → length ys ≡ left → length (take k ys) ≡ min left k
front_length k left ys e = omega (arith, length-take k ys)

-- the names cut after k
record CutAt (k : ℕ) (zs ws : List Bytes) : Type 0 where
  front-is : take k (zs ++ ws) ≡ zs
  rest-is : drop k (zs ++ ws) ≡ ws

cut_short : (k : ℕ) (zs ws : List Bytes) → length zs ≤ k → length ws ≡ 0 → CutAt k zs ws
cut_short zero [] [] h e = record { front-is = refl; rest-is = refl }
cut_short (suc k) [] [] h e = record { front-is = refl; rest-is = refl }
cut_short zero [] (w ∷ ws) h e = absurd (omega arith)
cut_short (suc k) [] (w ∷ ws) h e = absurd (omega arith)
cut_short zero (z ∷ zs) ws h e = absurd (not-suc-le-zero h)
cut_short (suc k) (z ∷ zs) ws h e =
    let ih = cut_short k zs ws (le_of_suc-le-suc h) e in
    record { front-is = ap (λ (ys : List Bytes). z ∷ ys) ih.front-is; rest-is = ih.rest-is }

cut_at : (k left : ℕ) (zs ws : List Bytes) → length zs ≡ min left k → length ws ≡ left - min left k → CutAt k zs ws
cut_at k left zs ws p q = elim (dec_le left k) [
  | yes h ↦ cut_short k zs ws (omega arith) (omega arith)
  | no n ↦
      let e : length zs ≡ k = omega arith in
      record { front-is = take_at zs ws k e; rest-is = drop_at zs ws k e }
]

module _ (ρ : Rule) (lw : Sure ρ) (b : Bytes) (k s u left t o : ℕ) (prev : Bytes) (ask : Frame b k s u) (lo : o ≤ s) (lt : t ≤ u) (some : 0 < left) where
  -- where the first block ends
  end_is : (x : Bytes) (xs : List Bytes) (e : ℕ) → length (x ∷ xs) ≡ left → FirstBlock ρ b k s u t o prev x xs e → end_of b k s t left ≡ e
  end_is x xs e n f = elim (dec_le left k) [
    | yes h ↦ end-last b k s t left h ∙ sym (none (drop k (x ∷ xs)) (omega (arith, length-drop k (x ∷ xs))) f.others)
    | no h ↦ end-next b k s t left (omega arith) ∙ next (drop k (x ∷ xs)) (omega (arith, length-drop k (x ∷ xs))) f.others
  ]
    where
      none : (ys : List Bytes) → length ys ≡ 0 → Rest ρ b k s u (t + 2) e (last_of [] (take k (x ∷ xs))) ys → e ≡ s
      none [] z r = (rest-none ρ b k s u (t + 2) e (last_of [] (take k (x ∷ xs))) (omega (arith, ask, f.upto)) (omega (arith, ask)) (omega (arith, ask, f.room)) (omega (arith, ask)) r).0
      none (y ∷ ys) z r = absurd (omega arith)

      next : (ys : List Bytes) → 0 < length ys → Rest ρ b k s u (t + 2) e (last_of [] (take k (x ∷ xs))) ys → number b (t + 2) ≡ e
      next [] z r = absurd (omega arith)
      next (y ∷ ys) z r =
          (rest-first ρ lw b k s u (t + 2) e (last_of [] (take k (x ∷ xs))) y ys ask.one ask.small (omega (arith, ask, f.upto)) (omega (arith, ask)) (omega (arith, ask, f.room)) (omega (arith, ask)) r).place

  pub has_first : Has ρ b k s u left t o prev → HasFirst ρ b k s u left t o prev
  has_first h = go h.names h.count h.rest
    where
      go : (ys : List Bytes) → length ys ≡ left → Rest ρ b k s u t o prev ys → HasFirst ρ b k s u left t o prev
      go [] n r = absurd (omega arith)
      go (x ∷ xs) n r =
          let e : ℕ = o + length (front [] (take k (x ∷ xs))) in
          let f = rest-first ρ lw b k s u t o prev x xs ask.one ask.small (omega (arith, ask)) (omega (arith, ask)) (omega (arith, ask)) (omega (arith, ask)) r in
          let q : end_of b k s t left ≡ e = end_is x xs e n f in
          record {
            room = f.room;
            place = f.place;
            upto = subst (λ (z : ℕ). z ≤ s) (sym q) f.upto;
            below = ap (λ (z : Bytes). less (word ρ prev) (word ρ z)) (head-name ρ b e o k x xs ask.one f.run) ∙ f.below;
            last = last_of [] (take k (x ∷ xs));
            run = record {
              names = take k (x ∷ xs);
              count = front_length k left (x ∷ xs) n;
              run = subst (λ (z : ℕ). Run ρ b z o [] (take k (x ∷ xs))) (sym q) f.run;
              last = refl;
            };
            others = record {
              names = drop k (x ∷ xs);
              count = dropped (x ∷ xs) n;
              rest = subst (λ (z : ℕ). Rest ρ b k s u (t + 2) z (last_of [] (take k (x ∷ xs))) (drop k (x ∷ xs))) (sym q) f.others;
            };
          }
        where
          dropped : (ys : List Bytes) → length ys ≡ left → length (drop k ys) ≡ left - min left k
          dropped ys m = omega (arith, length-drop k ys, front_length k left ys m, length-take k ys)

  pub has_join : (e : ℕ) (l : Bytes) → InBytes b → t + 2 ≤ u → number b t ≡ o → e ≤ s → RunTo ρ b e o [] (min left k) l
      → less (word ρ prev) (word ρ (name_at b o [])) ≡ true → Has ρ b k s u (left - min left k) (t + 2) e l → Has ρ b k s u left t o prev
  has_join e l bytes room place he r bl h = go r.names r.count r.run r.last
    where
      go : (zs : List Bytes) → length zs ≡ min left k → Run ρ b e o [] zs → last_of [] zs ≡ l → Has ρ b k s u left t o prev
      go [] n q z = absurd (omega (arith, ask.one))
      go (x ∷ xs) n q z =
          let c = cut_at k left (x ∷ xs) h.names n h.count in
          let named : name_at b o [] ≡ x = run-name ρ b e o x xs q in
          record {
            names = (x ∷ xs) ++ h.names;
            count = length-append (x ∷ xs) h.names ∙ omega (arith, n, h.count);
            rest = rest-join ρ lw b k s u t o prev x (xs ++ h.names) ask.one ask.small (omega (arith, ask)) (omega (arith, ask)) (omega (arith, ask)) (omega (arith, ask))
                e bytes (omega (arith, ask)) (omega (arith, ask)) place (sym (ap (λ (y : Bytes). less (word ρ prev) (word ρ y)) named) ∙ bl)
                (subst (Run ρ b e o []) (sym c.front-is) q)
                (subst (λ (ys : List Bytes). Rest ρ b k s u (t + 2) e (last_of [] ys) (drop k ((x ∷ xs) ++ h.names))) (sym c.front-is)
                (subst (Rest ρ b k s u (t + 2) e (last_of [] (x ∷ xs))) (sym c.rest-is)
                (subst (λ (y : Bytes). Rest ρ b k s u (t + 2) e y h.names) (sym z) h.rest)));
          }

pub same-last : (ρ : Rule) (b : Bytes) (e o m : ℕ) (l j : Bytes) → RunTo ρ b e o [] m l → RunTo ρ b e o [] m j → l ≡ j
same-last ρ b e o m l j h g = sym h.last ∙ ap (last_of []) (run-unique ρ b e o [] h.names g.names (h.count ∙ sym g.count) h.run g.run) ∙ g.last

-- ---- the loop over the blocks

-- what the whole asks, the blocks left ask, and the other way round
pub record Walked (ρ : Rule) (b : Bytes) (k s u n t o : ℕ) (prev : Bytes) (left : ℕ) : Type 0 where
  pub ask : Frame b k s u
  pub bytes : InBytes b
  pub entries-in : o ≤ s
  pub table-in : t ≤ u
  pub forth : Has ρ b k s u n s 0 [] → Has ρ b k s u left t o prev
  pub back : Has ρ b k s u left t o prev → Has ρ b k s u n s 0 []

module _ (ρ : Rule) (lw : Sure ρ) (b : Bytes) (k s u n : ℕ) where
  pub walked_start : Frame b k s u → InBytes b → Walked ρ b k s u n s 0 [] n
  walked_start a bytes = record { ask = a; bytes = bytes; entries-in = omega arith; table-in = a.order; forth = λ h. h; back = λ h. h }

  module _ (t o : ℕ) (prev : Bytes) (left : ℕ) (w : Walked ρ b k s u n t o prev left) where
    pub walked-first : 0 < left → Has ρ b k s u n s 0 [] → HasFirst ρ b k s u left t o prev
    walked-first some h = has_first ρ lw b k s u left t o prev w.ask w.entries-in w.table-in some (w.forth h)

    pub walked-room : 0 < left → u - t < 2 → Has ρ b k s u n s 0 [] → ⊥
    walked-room some h g = omega (arith, (walked-first some g).room)

    pub walked-place : 0 < left → (x : ℕ) → x ≡ number b t → (x ≡ o → ⊥) → Has ρ b k s u n s 0 [] → ⊥
    walked-place some x e h g = h (e ∙ (walked-first some g).place)

    pub walked-past : 0 < left → (e : ℕ) → e ≡ end_of b k s t left → s < e → Has ρ b k s u n s 0 [] → ⊥
    walked-past some e q h g = omega (arith, (walked-first some g).upto)

    module _ (e m : ℕ) (eq : e ≡ end_of b k s t left) (mq : m ≡ min left k) (some : 0 < left) where
      run-here : (f : HasFirst ρ b k s u left t o prev) → RunTo ρ b e o [] m f.last
      run-here f = rw (eq, mq) f.run

      pub walked-bad : ((l : Bytes) → RunTo ρ b e o [] m l → less (word ρ prev) (word ρ (name_at b o [])) ≡ true → ⊥) → Has ρ b k s u n s 0 [] → ⊥
      walked-bad says g = let f = walked-first some g in says f.last (run-here f) f.below

      pub walked_more : (last : Bytes) → RunTo ρ b e o [] m last → less (word ρ prev) (word ρ (name_at b o [])) ≡ true → t + 2 ≤ u → number b t ≡ o → e ≤ s
          → Walked ρ b k s u n (t + 2) e last (left - m)
      walked_more last run below room at-o upto = record {
        ask = w.ask;
        bytes = w.bytes;
        entries-in = upto;
        table-in = room;
        forth = λ g. let f = walked-first some g in rw (← same-last ρ b e o m f.last last (run-here f) run, eq, mq) f.others;
        back = λ g. w.back (has_join ρ lw b k s u left t o prev w.ask w.entries-in w.table-in some e last w.bytes room at-o upto
            (rw mq at run) below (rw mq at g));
      }

    ended : left ≤ 0 → Has ρ b k s u n s 0 [] → (o ≡ s) × (t ≡ u)
    ended h g = go (w.forth g).names (omega (arith, (w.forth g).count)) (w.forth g).rest
      where
        go : (xs : List Bytes) → length xs ≡ 0 → Rest ρ b k s u t o prev xs → (o ≡ s) × (t ≡ u)
        go [] z r = rest-none ρ b k s u t o prev (omega (arith, w.ask, w.entries-in)) (omega (arith, w.ask)) (omega (arith, w.ask, w.table-in)) (omega (arith, w.ask)) r
        go (x ∷ xs) z r = absurd (omega arith)

    pub walked-short : left ≤ 0 → (o ≡ s → ⊥) → Has ρ b k s u n s 0 [] → ⊥
    walked-short h q g = q (ended h g).0

    pub walked-table : left ≤ 0 → (t ≡ u → ⊥) → Has ρ b k s u n s 0 [] → ⊥
    walked-table h q g = q (ended h g).1

    pub walked-done : left ≤ 0 → o ≡ s → t ≡ u → Has ρ b k s u n s 0 []
    walked-done h p q = w.back (record {
      names = [];
      count = omega arith;
      rest = subst (λ (x : ℕ). Rest ρ b k s u x o prev []) (sym q) (subst (λ (x : ℕ). Rest ρ b k s u u x prev []) (sym p) (none_rest ρ b k s u prev));
    })

-- ---- lengths out of an equation of bytes

pub ends_at : (b p : Bytes) (o s : ℕ) → o ≤ length b → s ≤ length b → drop o b ≡ p ++ drop s b → o + length p ≡ s
ends_at b p o s ho hs e = omega (arith, ap length e, length-drop o b, length-append p (drop s b), length-drop s b)

-- ---- what the node check asks

module _ (ρ : Rule) (b : Bytes) (k s u n : ℕ) (hs : s ≤ length b) (h : Has ρ b k s u n s 0 []) where
  pub has-entries : b ≡ entry_part k h.names ++ drop s b
  has-entries = h.rest.entries

  pub has-length : length (entry_part k h.names) ≡ s
  has-length = omega (arith, ends_at b (entry_part k h.names) 0 s (omega arith) hs h.rest.entries)

  pub has-sound : n ≤ most_names → sound ρ h.names ≡ true
  unfolding sound
  has-sound f = both-are _ _ (le-leb (length h.names) most_names (omega (arith, h.count))) h.rest.rises

  module _ (one : 1 ≤ k) (says : told b 2 ≡ s) where
    pub has-names : names_of b ≡ h.names
    has-names = names-are b k h.names (drop s b) one has-entries (says ∙ sym has-length)

    pub has-known : Sure ρ → n ≤ most_names → length b ≤ longest_book → Known ρ b
    has-known lw f l = known b k h.names (drop s b) one has-entries (says ∙ sym has-length) ρ lw (has-sound f) l
