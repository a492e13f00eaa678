-- Laws of the writers of entries.
--     stored_same, stored_other     the count that a name stores
--     entry_here                    an entry, by bytes of the list
--     Sizing: sizing-start, sizing-record .. sizing-fits, sizing-count, sizing-more, sizing-all     a block, name by name
--     Filling: filling-start, filling-fits, filling-count .. filling-part (what an entry asks), filling-more, filling-all     the same, written
--     shared-next, shared-grows, shared-taken, shared-summed     what names share, in all
--     count_low, shared-small       it is not much
--     BlockSums: block-sums         a block's size, by what its names share
-- Assumes nothing.
use Prim.Native.Nat.{ℕ, zero, suc, pred, ◌+◌, ◌-◌, ◌≤◌, ◌<◌, ◌*◌}
use native.Mathlib.Nat.{lt_irrefl}
use native.Mathlib.Decide.{ℕ_discrete}
use native.Mathlib.Numerals.{add-one}
use native.Mathlib.Omega.{arith}
use mathlib.Core.Path.{◌≡◌, refl, sym, ap, ◌∙◌, ap₂, subst}
use mathlib.Core.List.{List, [], ◌∷◌, ◌++◌, append_assoc, append-nil}
use lib.Dec.{eqb}
use lib.ListN.{length, get_or, take, drop, length-append}
use lib.Seq.{slice, slice_empty, slice-cons, take-suc, drop-append-le, get_or-take, length-take-le, take-add, take_all, drop_at, drop-drop}
use borrow.Author.Tests.{eq-eqb, ne_eqb}
use Rattle.std.proofs.Common.{sum_by}
use Rattle.std.proofs.lemmas.List.{take-map}
use Rattle.std.proofs.lemmas.List.Sums.{sum_by_more}
use Rattle.words.specs.Words.{Bytes, Rule, pick, shared}
use Rattle.words.proofs.Words.{shared-comm, shared-le}
use Rattle.format.specs.Entries.{entry, front}
use Rattle.format.specs.Outcomes.{over}
use Rattle.format.specs.Spans.{last_of}
use Rattle.numbers.proofs.Parts.{lent, over-length, part_length}
use Rattle.records.specs.declared.Note.{Note}
use Rattle.records.specs.Lists.{Ready, names, start_of}
use Rattle.records.specs.Notes.{counts_of, lens_of}
use Rattle.records.proofs.Notes.{counts-at, lens-at, lens-length}
use Rattle.records.proofs.Starts.{ready-size, start-byte, start_fits, start-name, start-next, start-within}
use Rattle.blocks.specs.Writing.{BlockAsk, BlockPut, BlockSize, LengthsAre, before, block, shared_to, stored_count}

-- ---- the count that a name stores

pub stored_same : (lo i : ℕ) (counts : List ℕ) → i ≡ lo → 0 ≡ stored_count lo i counts
stored_same lo i counts e = rw (eq-eqb i lo e) refl

pub stored_other : (lo i c : ℕ) (counts : List ℕ) → (i ≡ lo → ⊥) → c ≡ get_or counts i 0 → c ≡ stored_count lo i counts
stored_other lo i c counts n e = rw (ne_eqb i lo n) e

-- ---- blocks of names

front-append : (p : Bytes) (xs ys : List Bytes) → front p (xs ++ ys) ≡ front p xs ++ front (last_of p xs) ys
unfolding front last_of
front-append p [] ys = refl
front-append p (x ∷ xs) ys = ap (λ (r : Bytes). entry p x ++ r) (front-append x xs ys) ∙ sym (append_assoc (entry p x) (front x xs) (front (last_of x xs) ys))

front-one : (p x : Bytes) → front p (x ∷ []) ≡ entry p x
unfolding front
front-one p x = append-nil (entry p x)

last-slice : (p : Bytes) (xs : List Bytes) (lo i : ℕ) → lo ≤ i → i ≤ length xs → last_of p (slice lo i xs) ≡ pick (eqb i lo) p (get_or xs (pred i) [])
unfolding last_of
last-slice p xs lo i a b = go p (i - lo) lo (omega arith)
  where
    go : (q : Bytes) (m l : ℕ) → l + m ≡ i → last_of q (slice l i xs) ≡ pick (eqb i l) q (get_or xs (pred i) [])
    go q zero l e =
        let f : i ≡ l = omega arith in
        rw (eq-eqb i l f) (ap (last_of q) (ap (λ (k : ℕ). slice l k xs) f ∙ slice_empty l xs))
    go q (suc m) l e =
        let n : i ≡ l → ⊥ = λ f. lt_irrefl l (omega arith) in
        ap (last_of q) (slice-cons l i xs [] (omega arith) b) ∙ go (get_or xs l []) m (suc l) (omega arith) ∙ rw (ne_eqb i l n) (rest m e)
      where
        rest : (k : ℕ) → l + suc k ≡ i → pick (eqb i (suc l)) (get_or xs l []) (get_or xs (pred i) []) ≡ get_or xs (pred i) []
        rest zero g = let h : i ≡ suc l = omega arith in rw (eq-eqb i (suc l) h) (ap (λ (k : ℕ). get_or xs k []) {x = l} {y = pred i} (omega arith))
        rest (suc k) g = rw (ne_eqb i (suc l) (λ f. lt_irrefl l (omega arith))) refl

slice-more : (xs : List Bytes) (lo i : ℕ) → lo ≤ i → i < length xs → slice lo (suc i) xs ≡ slice lo i xs ++ (get_or xs i [] ∷ [])
slice-more xs lo i a b =
    ap (drop lo) (take-suc xs i [] b) ∙ drop-append-le lo (take i xs) (get_or xs i [] ∷ []) (omega (arith, length-take-le i xs (omega arith)))

module _ (s : Bytes) (lo : ℕ) where
  pub block_none : block s lo lo ≡ []
  unfolding front
  block_none = ap (front []) (slice_empty lo (names s))

  pub block_more : (i : ℕ) → lo ≤ i → i < length (names s) → block s lo (suc i) ≡ block s lo i ++ entry (before lo i (names s)) (get_or (names s) i [])
  block_more i a b =
      ap (front []) (slice-more (names s) lo i a b) ∙ front-append [] (slice lo i (names s)) (get_or (names s) i [] ∷ [])
      ∙ ap (λ (p : Bytes). block s lo i ++ front p (get_or (names s) i [] ∷ [])) (last-slice [] (names s) lo i a (omega arith))
      ∙ ap (λ (r : Bytes). block s lo i ++ r) (front-one (before lo i (names s)) (get_or (names s) i []))

  -- a block only grows
  pub block-grows : (i hi : ℕ) → lo ≤ i → i ≤ hi → hi ≤ length (names s) → length (block s lo i) ≤ length (block s lo hi)
  block-grows i hi a b c = go (hi - i) hi (omega arith) c
    where
      go : (m h : ℕ) → i + m ≡ h → h ≤ length (names s) → length (block s lo i) ≤ length (block s lo h)
      go zero h e l = let f : i ≡ h = omega arith in omega (arith, ap (λ (k : ℕ). length (block s lo k)) f)
      go (suc m) h e l =
          let f : suc (i + m) ≡ h = omega arith in
          omega (
            arith,
            go m (i + m) refl (omega arith),
            ap (λ (k : ℕ). length (block s lo k)) f,
            ap length (block_more (i + m) (omega arith) (omega arith)),
            length-append (block s lo (i + m)) (entry (before lo (i + m) (names s)) (get_or (names s) (i + m) [])),
          )

-- ---- a block, name by name

pub record Sizing (s : Bytes) (lo hi i next size : ℕ) : Type 0 where
  pub low : lo ≤ i
  pub high : i ≤ hi
  pub here : next ≡ start_of s i
  pub within : next ≤ length s
  pub is : size ≡ length (block s lo i)
  pub small : size + 202 * lo ≤ 202 * i

module _ {s : Bytes} {counts : List ℕ} {lo at hi : ℕ} (a : BlockAsk s counts lo at hi) where
  pub sizing-start : Sizing s lo hi lo at 0
  sizing-start = record { low = omega arith; high = a.order; here = a.here; within = omega (arith, a.here, start-within a.ready lo); is = sym (ap length (block_none s lo)); small = omega arith }

  module _ {i next size : ℕ} (z : Sizing s lo hi i next size) where
    pub sizing-all : hi ≤ i → BlockSize s lo hi size next
    sizing-all h =
        let e : i ≡ hi = omega (arith, z.high) in
        record { is = z.is ∙ ap (λ (k : ℕ). length (block s lo k)) e; small = omega (arith, z.small); here = z.here ∙ ap (start_of s) e }

    module _ (h : i < hi) where
      in_list : i < a.n
      in_list = omega (arith, a.within)

      in-names : i < length (names s)
      in-names = omega (arith, a.within, a.ready.total)

      pub sizing-record : next < length s
      sizing-record = omega (arith, z.here, start_fits a.ready i in_list)

      module _ (len : ℕ) (e : len ≡ get_or s next 0) where
        len_is : len ≡ length (get_or (names s) i [])
        len_is = e ∙ ap (λ (k : ℕ). get_or s k 0) z.here ∙ start-byte a.ready i in_list

        pub sizing-low : len ≤ 200
        sizing-low = omega (arith, len_is, (ready-size a.ready i in_list).1)

        pub sizing-fits : next + 1 + len ≤ length s
        sizing-fits = omega (arith, z.here, len_is, start_fits a.ready i in_list)

        module _ (c : ℕ) (f : c ≡ stored_count lo i counts) where
          count-is : c ≡ shared (before lo i (names s)) (get_or (names s) i [])
          unfolding shared
          count-is = f ∙ elim (ℕ_discrete i lo) [
            | yes g ↦ rw (eq-eqb i lo g) refl
            | no g ↦ rw (ne_eqb i lo g) (noted i (omega (arith, z.low)) in-names)
          ]
            where
              noted : (k : ℕ) → 0 < k → k < length (names s) → get_or counts k 0 ≡ shared (get_or (names s) (pred k) []) (get_or (names s) k [])
              noted zero m l = absurd (lt_irrefl 0 m)
              noted (suc k) m l = a.ready.noted.common k l

          pub sizing-count : c ≤ len
          sizing-count =
              omega (arith, count-is, len_is, shared-comm (before lo i (names s)) (get_or (names s) i []), shared-le (get_or (names s) i []) (before lo i (names s)))

          pub entry_here : entry (before lo i (names s)) (get_or (names s) i []) ≡ c ∷ (len - c) ∷ take (len - c) (drop (next + 1 + c) s)
          unfolding entry
          entry_here =
              let x : Bytes = get_or (names s) i [] in
              let split : c + (len - c) ≡ length x = omega (arith, sizing-count, len_is) in
              let whole : x ≡ take (c + (len - c)) (drop (next + 1) s) =
              sym (start-name a.ready i in_list) ∙ ap₂ (λ (n o : ℕ). take n (drop (o + 1) s)) (sym split) (sym z.here) in
              let front-part : length (take c (drop (next + 1) s)) ≡ c = part_length s (next + 1) c (omega (arith, sizing-fits, sizing-count)) in
              let rest : drop c x ≡ take (len - c) (drop (next + 1 + c) s) =
              ap (drop c) (whole ∙ take-add c (len - c) (drop (next + 1) s)) ∙ drop_at (take c (drop (next + 1) s)) (take (len - c) (drop c (drop (next + 1) s))) c front-part
              ∙ ap (take (len - c)) (drop-drop c (next + 1) s) in
              ap (λ (n : ℕ). n ∷ length (drop n x) ∷ drop n x) (sym count-is)
              ∙ ap (λ (y : Bytes). c ∷ length y ∷ y) rest
              ∙ ap (λ (n : ℕ). c ∷ n ∷ take (len - c) (drop (next + 1 + c) s)) (part_length s (next + 1 + c) (len - c) (omega (arith, sizing-fits, sizing-count)))

          -- the block with one name more
          grown : block s lo (i + 1) ≡ block s lo i ++ (c ∷ (len - c) ∷ take (len - c) (drop (next + 1 + c) s))
          grown = ap (block s lo) (add-one i) ∙ block_more s lo i z.low in-names ∙ ap (λ (r : Bytes). block s lo i ++ r) entry_here

          pub sizing-more : Sizing s lo hi (i + 1) (next + (1 + len)) (size + (2 + len - c))
          sizing-more = record {
            low = omega (arith, z.low);
            high = omega arith;
            here = omega (arith, z.here, len_is, start-next a.ready i in_list, ap (start_of s) (add-one i));
            within = omega (arith, sizing-fits);
            is =
                sym (ap length grown ∙ length-append (block s lo i) (c ∷ (len - c) ∷ take (len - c) (drop (next + 1 + c) s))
                ∙ omega (arith, z.is, sizing-count, part_length s (next + 1 + c) (len - c) (omega (arith, sizing-fits, sizing-count))));
            small = omega (arith, z.small, sizing-low);
          }

-- the names before i are written at the front of the room
pub record Filling (s : Bytes) (lo hi : ℕ) (room₀ room : Bytes) (i next size : ℕ) : Type 0 where
  pub sizing : Sizing s lo hi i next size
  pub kept : length room ≡ length room₀
  pub written : room ≡ over (block s lo i) room₀

module _ {s : Bytes} (rows : List Note) {lo at hi : ℕ} (a : BlockAsk s (counts_of rows) lo at hi) (l : LengthsAre (names s) (lens_of rows)) (room₀ : Bytes) (big : length (block s lo hi) ≤ length room₀) where
  pub filling-start : Filling s lo hi room₀ room₀ lo at 0
  filling-start = record { sizing = sizing-start a; kept = refl; written = ap (λ (b : Bytes). over b room₀) (sym (block_none s lo)) }

  module _ {room : Bytes} {i next size : ℕ} (z : Filling s lo hi room₀ room i next size) where
    pub filling-all : hi ≤ i → BlockPut s lo hi room₀ room size next
    filling-all h =
        let e : i ≡ hi = omega (arith, z.sizing.high) in
        record { sized = sizing-all a z.sizing h; put = z.written ∙ ap (λ (k : ℕ). over (block s lo k) room₀) e }

    pub filling-place : i < hi → i < length rows
    filling-place h = omega (arith, l.enough, in-names a z.sizing h, lens-length rows)

    module _ (h : i < hi) (d : Note) (len : ℕ) (noted : len ≡ (get_or rows i d).len) (c : ℕ) (f : c ≡ stored_count lo i (counts_of rows)) where
      -- what was noted is the record's length byte
      byte : len ≡ get_or s next 0
      byte =
          noted ∙ sym (lens-at rows i d (filling-place h)) ∙ l.sizes i (in-names a z.sizing h)
          ∙ sym (ap (λ (k : ℕ). get_or s k 0) z.sizing.here ∙ start-byte a.ready i (in_list a z.sizing h))

      pub filling-less : c ≤ len
      filling-less = sizing-count a z.sizing h len byte c f

      next-size : size + (2 + len - c) ≡ length (block s lo (i + 1))
      next-size = (sizing-more a z.sizing h len byte c f).is

      pub filling-fits : size + 2 + (len - c) ≤ length room
      filling-fits =
          omega (
            arith,
            next-size,
            z.kept,
            sizing-count a z.sizing h len byte c f,
            block-grows s lo (i + 1) hi (omega (arith, z.sizing.low)) (omega arith) (omega (arith, a.within, a.ready.total)),
          )

      pub filling-count : c < 256
      filling-count = omega (arith, sizing-low a z.sizing h len byte, sizing-count a z.sizing h len byte c f)

      pub filling-source : next + 1 + c + (len - c) ≤ length s
      filling-source = omega (arith, sizing-fits a z.sizing h len byte, sizing-count a z.sizing h len byte c f)

      -- the rest as it is lent
      rest-is : take (next + 1 + c + (len - c) - (next + 1 + c)) (drop (next + 1 + c) s) ≡ take (len - c) (drop (next + 1 + c) s)
      rest-is = let z : next + 1 + c + (len - c) - (next + 1 + c) ≡ len - c = omega arith in ap (λ (n : ℕ). take n (drop (next + 1 + c) s)) z

      rest-length : length (take (next + 1 + c + (len - c) - (next + 1 + c)) (drop (next + 1 + c) s)) ≡ len - c
      rest-length = ap length rest-is ∙ part_length s (next + 1 + c) (len - c) filling-source

      pub filling-rest : length (take (next + 1 + c + (len - c) - (next + 1 + c)) (drop (next + 1 + c) s)) < 256
      filling-rest = omega (arith, rest-length, sizing-low a z.sizing h len byte)

      pub filling-part : length (take (size + 2 + (len - c) - size) (drop size room)) ≡ length (take (next + 1 + c + (len - c) - (next + 1 + c)) (drop (next + 1 + c) s)) + 2
      filling-part = omega (arith, rest-length, part_length room size (size + 2 + (len - c) - size) (omega (arith, filling-fits)))

      pub filling-more : (ys : Bytes) → ys ≡ c ∷ length (take (next + 1 + c + (len - c) - (next + 1 + c)) (drop (next + 1 + c) s)) ∷ take (next + 1 + c + (len - c) - (next + 1 + c)) (drop (next + 1 + c) s)
          → Filling s lo hi room₀ (take size room ++ (ys ++ drop (size + 2 + (len - c) - size) (drop size room))) (i + 1) (next + (1 + len)) (size + 2 + (len - c))
      filling-more ys y₀ =
          let y : ys ≡ c ∷ (len - c) ∷ take (len - c) (drop (next + 1 + c) s) = y₀ ∙ ap₂ (λ (n : ℕ) (r : Bytes). c ∷ n ∷ r) rest-length rest-is in
          let end : size + (2 + len - c) ≡ size + 2 + (len - c) = omega (arith, sizing-count a z.sizing h len byte c f) in
          let long : length ys ≡ size + 2 + (len - c) - size =
          ap length y ∙ omega (arith, part_length s (next + 1 + c) (len - c) (omega (arith, sizing-fits a z.sizing h len byte, sizing-count a z.sizing h len byte c f))) in
          let now-is : take size room ++ (ys ++ drop (size + 2 + (len - c) - size) (drop size room)) ≡ over (block s lo (i + 1)) room₀ =
          lent (block s lo i) room₀ room ys size (size + 2 + (len - c) - size) z.written (sym z.sizing.is) (omega (arith, filling-fits, z.kept)) long
          ∙ ap (λ (b : Bytes). over b room₀) (ap (λ (b : Bytes). block s lo i ++ b) y ∙ sym (grown a z.sizing h len byte c f)) in
          record {
            sizing = subst (Sizing s lo hi (i + 1) (next + (1 + len))) end (sizing-more a z.sizing h len byte c f);
            kept = ap length now-is ∙ over-length (block s lo (i + 1)) room₀ (omega (arith, sym next-size, filling-fits, z.kept, sizing-count a z.sizing h len byte c f));
            written = now-is;
          }

-- ---- a block's size, by what its names share

pub shared-next : (counts : List ℕ) (i : ℕ) → shared_to counts (i + 1) ≡ shared_to counts i + get_or counts i 0
unfolding shared_to
shared-next counts i = ap (shared_to counts) (add-one i)

pub shared-grows : (counts : List ℕ) (i m : ℕ) → shared_to counts i ≤ shared_to counts (i + m)
shared-grows counts i zero = let e : i ≡ i + 0 = omega arith in omega (arith, ap (shared_to counts) e)
shared-grows counts i (suc m) =
    let e : i + m + 1 ≡ i + suc m = omega arith in
    omega (arith, shared-grows counts i m, shared-next counts (i + m), ap (shared_to counts) e)

-- those of the first n notes alone
shared-front : (counts : List ℕ) (n i : ℕ) → i ≤ n → shared_to (take n counts) i ≡ shared_to counts i
unfolding shared_to
shared-front counts n zero h = refl
shared-front counts n (suc i) h = ap₂ (λ (a b : ℕ). a + b) (shared-front counts n i (omega arith)) (get_or-take n counts i 0 h)

pub shared-taken : (rows : List Note) (n : ℕ) → n ≤ length rows → shared_to (counts_of (take n rows)) (length (take n rows)) ≡ shared_to (counts_of rows) n
unfolding counts_of
shared-taken rows n h =
    rw (length-take-le n rows h) (ap (λ (xs : List ℕ). shared_to xs n) (sym (take-map (λ (r : Note). r.count) n rows)) ∙ shared-front (counts_of rows) n n (omega arith))

-- the sum of them
pub shared-summed : (rows : List Note) → sum_by (λ (r : Note). r.count) rows ≡ shared_to (counts_of rows) (length rows)
unfolding shared_to
shared-summed rows = ap (sum_by (λ (r : Note). r.count)) (sym (take_all (length rows) rows (omega arith))) ∙ go (length rows) (omega arith)
  where
    go : (i : ℕ) → i ≤ length rows → sum_by (λ (r : Note). r.count) (take i rows) ≡ shared_to (counts_of rows) i
    go zero h = refl
    go (suc i) h =
        let d : Note = record { len = 0; count = 0; share = 0 } in
        ap (λ (n : ℕ). sum_by (λ (r : Note). r.count) (take n rows)) (sym (add-one i)) ∙ sum_by_more (λ (r : Note). r.count) rows i d h
        ∙ ap₂ (λ (a b : ℕ). a + b) (go i (omega arith)) (sym (counts-at rows i d h))

-- a name shares no more than its length
module _ {ρ : Rule} {s : Bytes} {n : ℕ} {lens counts shares : List ℕ} (a : Ready ρ s n lens counts shares) where
  count_low : (i : ℕ) → i < n → get_or counts i 0 ≤ 200
  count_low zero h = omega (arith, a.noted.first (omega (arith, a.total)))
  count_low (suc i) h =
      let x : Bytes = get_or (names s) i [] in
      let y : Bytes = get_or (names s) (suc i) [] in
      omega (arith, a.noted.common i (omega (arith, a.total)), shared-comm x y, shared-le y x, (ready-size a (suc i) h).1)

  pub shared-small : (i : ℕ) → i ≤ n → shared_to counts i ≤ 200 * i
  unfolding shared_to
  shared-small zero h = omega arith
  shared-small (suc i) h = omega (arith, shared-small i (omega arith), count_low i h)

-- The size of names lo to i as one block, and what they share: each but the first stores two bytes and what it does not share, and its
-- record has a length byte and all of it.
pub record BlockSums (s : Bytes) (counts : List ℕ) (lo at hi i : ℕ) : Type 0 where
  pub next : ℕ
  pub size : ℕ
  pub sizing : Sizing s lo hi i next size
  pub sums : size + shared_to counts i + at + lo ≡ next + i + shared_to counts (lo + 1)

module _ {s : Bytes} {counts : List ℕ} {lo at hi : ℕ} (a : BlockAsk s counts lo at hi) where
  sums-to : (m : ℕ) → lo + 1 + m ≤ hi → BlockSums s counts lo at hi (lo + 1 + m)
  sums-to zero h =
      let z : Sizing s lo hi lo at 0 = sizing-start a in
      let one : lo + 1 ≡ lo + 1 + 0 = omega arith in
      subst (BlockSums s counts lo at hi) one (record {
        next = _;
        size = _;
        sizing = sizing-more a z (omega arith) _ refl _ refl;
        sums = omega (arith, stored_same lo lo counts refl);
      })
  sums-to (suc m) h =
      let i : ℕ = lo + 1 + m in
      let b : BlockSums s counts lo at hi (lo + 1 + m) = sums-to m (omega arith) in
      let len : ℕ = get_or s b.next 0 in
      let c : ℕ = stored_count lo i counts in
      let one : i + 1 ≡ lo + 1 + suc m = omega arith in
      let stored : get_or counts i 0 ≡ c = stored_other lo i (get_or counts i 0) counts (λ e. lt_irrefl lo (omega arith)) refl in
      subst (BlockSums s counts lo at hi) one (record {
        next = _;
        size = _;
        sizing = sizing-more a b.sizing (omega arith) len refl c refl;
        sums = omega (arith, b.sums, stored, shared-next counts i, sizing-count a b.sizing (omega arith) len refl c refl);
      })

  pub block-sums : lo < hi → BlockSums s counts lo at hi hi
  block-sums h =
      let e : lo + 1 + (hi - (lo + 1)) ≡ hi = omega arith in
      subst (BlockSums s counts lo at hi) e (sums-to (hi - (lo + 1)) (omega arith))
