-- Laws of the walk over blocks, which the writer of entries and block table and the survey share.
--     BlocksDone: blocked-start, blocked-ask, blocked-more, blocked-end, blocked-sums     the blocks before lo are done
--     lent-behind, lent-before                                           a room of two parts, of which one was lent in part
--     BlocksPut: put-start, put-size, put-row, put_two, put-table, put-part, put-more, put_all     they are written, and where they begin
--     noted-places, noted_count, put_here, put_along     what is noted has its places; steps of k, the last of which may lead past the names
--     Surveying: surveying-start, surveying-enough, surveying-more, surveying-fits .. surveying-all     they are counted, by sums
-- Assumes nothing.
use Prim.Native.Nat.{ℕ, suc, ◌+◌, ◌-◌, ◌*◌, ◌≤◌, ◌<◌, zero-le, min}
use native.Mathlib.Decide.{dec_le}
use native.Mathlib.Omega.{arith}
use mathlib.Core.Path.{◌≡◌, refl, sym, ap, ap₂, ◌∙◌, subst}
use mathlib.Core.List.{List, [], ◌∷◌, ◌++◌, map, append_assoc, append-nil}
use lib.ListN.{length, get_or, take, drop, length-append, length-drop, length-take, drop_of_length-le, take-append-drop}
use lib.Seq.{slice, take-add, take_all, take-append-add, take-append-le, drop-append-add, drop-append-le, drop_at, drop-drop, drop-cons, length-take-le}
use mir.Val.{Fits}
use mir.Syntax.{w64}
use Rattle.words.specs.Words.{Bytes}
use Rattle.format.specs.Book.{block_part, entry_part, joined, numbers}
use Rattle.format.specs.Entries.{blocks, blocks_from, front, offsets}
use Rattle.format.proofs.Entries.{blocks-first}
use Rattle.format.proofs.Numbers.{numbers-append, numbers-length}
use Rattle.format.specs.Outcomes.{over}
use Rattle.numbers.proofs.Parts.{lent, lent-front, over-all, over-length, part_length}
use Rattle.records.specs.declared.Note.{Note}
use Rattle.records.specs.Lists.{names, start_of}
use Rattle.records.specs.Notes.{counts_of}
use Rattle.records.proofs.Notes.{counts-at, counts-length}
use Rattle.records.proofs.Starts.{start-all, start_none}
use Rattle.blocks.specs.Writing.{BlockAsk, BlockPut, BlockSize, EntriesAsk, SumsAre, block, shared_to}
use Rattle.blocks.proofs.Writing.{BlockSums, block-sums, shared-grows, shared-next, shared-small, sizing-all}

-- ---- a block is a span of names

module _ (xs : List Bytes) (lo k hi : ℕ) (h : lo < length xs) (e : hi ≡ min (lo + k) (length xs)) where
  span-names : take k (drop lo xs) ≡ slice lo hi xs
  span-names = elim (dec_le (lo + k) (length xs)) [
    | yes l ↦
        let f : hi ≡ lo + k = omega arith in
        sym (ap (λ (n : ℕ). drop lo (take n xs)) f ∙ ap (drop lo) (take-add lo k xs) ∙ drop_at (take lo xs) (take k (drop lo xs)) lo (length-take-le lo xs (omega arith)))
    | no l ↦
        let f : hi ≡ length xs = omega arith in
        take_all k (drop lo xs) (rw length-drop (omega arith)) ∙ sym (ap (drop lo) (take_all hi xs (omega arith)))
  ]

  span_rest : drop k (drop lo xs) ≡ drop hi xs
  span_rest = drop-drop k lo xs ∙ elim (dec_le (lo + k) (length xs)) [
    | yes l ↦ let f : lo + k ≡ hi = omega arith in ap (λ (n : ℕ). drop n xs) f
    | no l ↦ drop_of_length-le xs {i = lo + k} (omega arith) ∙ sym (drop_of_length-le xs {i = hi} (omega arith))
  ]

  blocks_step : 1 ≤ k → blocks k (drop lo xs) ≡ front [] (slice lo hi xs) ∷ blocks k (drop hi xs)
  unfolding blocks
  blocks_step one =
      let c : drop lo xs ≡ get_or xs lo [] ∷ drop (suc lo) xs = drop-cons xs lo [] h in
      ap (λ (l : List Bytes). map (front []) (blocks_from k 0 l)) c
      ∙ ap (map (front [])) (blocks-first k (get_or xs lo []) (drop (suc lo) xs) one)
      ∙ ap (λ (l : List Bytes). front [] (take k l) ∷ map (front []) (blocks_from k 0 (drop k l))) (sym c)
      ∙ ap₂ (λ (a b : List Bytes). front [] a ∷ map (front []) (blocks_from k 0 b)) span-names span_rest

blocks-none : (k : ℕ) → blocks k [] ≡ []
unfolding blocks blocks_from
blocks-none k = refl

joined-append : (xs ys : List Bytes) → joined (xs ++ ys) ≡ joined xs ++ joined ys
unfolding joined
joined-append [] ys = refl
joined-append (x ∷ xs) ys = ap (λ (l : Bytes). x ++ l) (joined-append xs ys) ∙ sym (append_assoc x (joined xs) (joined ys))

joined-one : (x : Bytes) → joined (x ∷ []) ≡ x
unfolding joined
joined-one x = append-nil x

offsets-more : (o : ℕ) (xs : List Bytes) (y : Bytes) → offsets o (xs ++ (y ∷ [])) ≡ offsets o xs ++ ((o + length (joined xs)) ∷ [])
unfolding offsets joined
offsets-more o [] y = let e : o ≡ o + 0 = omega arith in ap (λ (n : ℕ). n ∷ []) e
offsets-more o (x ∷ xs) y =
    let e : o + length x + length (joined xs) ≡ o + length (x ++ joined xs) = omega (arith, length-append x (joined xs)) in
    ap (λ (l : List ℕ). o ∷ l) (offsets-more (o + length x) xs y ∙ ap (λ (n : ℕ). offsets (o + length x) xs ++ (n ∷ [])) e)

offsets-length : (o : ℕ) (xs : List Bytes) → length (offsets o xs) ≡ length xs
unfolding offsets
offsets-length o [] = refl
offsets-length o (x ∷ xs) = ap suc (offsets-length (o + length x) xs)

-- ---- the walk

pub record BlocksDone (s : Bytes) (n k lo at size : ℕ) : Type 0 where
  pub high : lo ≤ n
  pub here : at ≡ start_of s lo
  pub done : List Bytes
  pub so_far : blocks k (names s) ≡ done ++ blocks k (drop lo (names s))
  pub counted : size ≡ length (joined done)
  pub small : size ≤ 202 * lo
  pub few : length done ≤ lo

module _ {s : Bytes} {n : ℕ} {counts : List ℕ} {k : ℕ} (a : EntriesAsk s n counts k) where
  blocked-start : BlocksDone s n k 0 0 0
  unfolding joined
  blocked-start = record {
    high = zero-le;
    here = sym (start_none a.ready);
    done = [];
    so_far = refl;
    counted = refl;
    small = zero-le;
    few = zero-le;
  }

  module _ {lo at size : ℕ} (b : BlocksDone s n k lo at size) where
    blocked-end : n ≤ lo → blocks k (names s) ≡ b.done
    blocked-end h =
        b.so_far
        ∙ ap (λ (l : List Bytes). b.done ++ l) (ap (blocks k) (drop_of_length-le (names s) {i = lo} (omega (arith, a.ready.total))) ∙ blocks-none k)
        ∙ append-nil b.done

    pub blocked-small : size ≤ 404000
    blocked-small = omega (arith, b.small, b.high, a.ready.few)

    blocked-sums : n ≤ lo → {count : ℕ} → count ≡ length b.done → SumsAre s k count size
    unfolding entry_part block_part
    blocked-sums h c =
        let e : b.done ≡ blocks k (names s) = sym (blocked-end h) in
        record {
          size_is = b.counted ∙ ap (λ (x : List Bytes). length (joined x)) e;
          small = blocked-small;
          few = omega (arith, b.few, b.high, a.ready.few);
          count-is = sym (numbers-length (offsets 0 (blocks k (names s))) ∙ omega (arith, offsets-length 0 (blocks k (names s)), ap length e));
        }

    module _ (h : lo < n) (hi : ℕ) (e : hi ≡ min (lo + k) n) where
      pub blocked-ask : BlockAsk s counts lo at hi
      blocked-ask = record {
        ρ = a.ρ;
        n = n;
        lens = a.lens;
        shares = a.shares;
        ready = a.ready;
        order = omega (arith, a.low);
        within = omega arith;
        here = b.here;
      }

      step : blocks k (names s) ≡ (b.done ++ (block s lo hi ∷ [])) ++ blocks k (drop hi (names s))
      step =
          b.so_far
          ∙ ap (λ (l : List Bytes). b.done ++ l) (blocks_step (names s) lo k hi (omega (arith, a.ready.total)) (omega (arith, a.ready.total)) a.low)
          ∙ sym (append_assoc b.done (block s lo hi ∷ []) (blocks k (drop hi (names s))))

      more : joined (b.done ++ (block s lo hi ∷ [])) ≡ joined b.done ++ block s lo hi
      more = joined-append b.done (block s lo hi ∷ []) ∙ ap (λ (l : Bytes). joined b.done ++ l) (joined-one (block s lo hi))

      -- what is done and this block are not more than all entries
      blocked-within : length (joined b.done) + length (block s lo hi) ≤ length (entry_part k (names s))
      unfolding entry_part
      blocked-within =
          omega (
            arith,
            ap (λ (x : List Bytes). length (joined x)) step,
            ap length (joined-append (b.done ++ (block s lo hi ∷ [])) (blocks k (drop hi (names s)))),
            length-append (joined (b.done ++ (block s lo hi ∷ []))) (joined (blocks k (drop hi (names s)))),
            ap length more,
            length-append (joined b.done) (block s lo hi),
          )

      blocked-more : (r next : ℕ) → BlockSize s lo hi r next → BlocksDone s n k hi next (size + r)
      blocked-more r next z = record {
        high = omega arith;
        here = z.here;
        done = b.done ++ (block s lo hi ∷ []);
        so_far = step;
        counted = omega (arith, b.counted, z.is, ap length more, length-append (joined b.done) (block s lo hi));
        small = omega (arith, b.small, z.small);
        few = omega (arith, b.few, a.low, length-append b.done (block s lo hi ∷ []));
      }

-- ---- entries and block table

-- a room of which a part was lent is as long as it was
lent_length : (room out : Bytes) (a k : ℕ) → a + k ≤ length room → length out ≡ k → length (take a room ++ (out ++ drop k (drop a room))) ≡ length room
lent_length room out a k h e = simp (length-append, length-take, length-drop, e) (omega arith)

-- a room of two parts, of which a part was lent: out of the one behind, out of the one in front
module _ (xs ys out : Bytes) where
  lent-behind : (i k a : ℕ) → length xs + i ≡ a → take a (xs ++ ys) ++ (out ++ drop k (drop a (xs ++ ys))) ≡ xs ++ (take i ys ++ (out ++ drop k (drop i ys)))
  lent-behind i k a e =
      ap (λ (m : ℕ). take m (xs ++ ys) ++ (out ++ drop k (drop m (xs ++ ys)))) (sym e)
      ∙ ap₂ (λ (f g : Bytes). f ++ (out ++ drop k g)) (take-append-add xs ys i) (drop-append-add xs ys i)
      ∙ append_assoc xs (take i ys) (out ++ drop k (drop i ys))

  lent-before : (a k : ℕ) → a + k ≤ length xs → take a (xs ++ ys) ++ (out ++ drop k (drop a (xs ++ ys))) ≡ (take a xs ++ (out ++ drop k (drop a xs))) ++ ys
  lent-before a k h =
      let behind : drop k (drop a (xs ++ ys)) ≡ drop k (drop a xs) ++ ys =
      ap (drop k) (drop-append-le a xs ys (omega arith)) ∙ drop-append-le k (drop a xs) ys (omega (arith, length-drop a xs)) in
      let grouped : take a xs ++ (out ++ (drop k (drop a xs) ++ ys)) ≡ (take a xs ++ (out ++ drop k (drop a xs))) ++ ys = simp append_assoc in
      ap₂ (λ (f g : Bytes). f ++ (out ++ g)) (take-append-le a xs ys (omega arith)) behind ∙ grouped

-- the blocks before lo are written, and where they begin; `row` is where the next one's beginning goes
pub record BlocksPut (s : Bytes) (n k table : ℕ) (room₀ room : Bytes) (lo at size row : ℕ) : Type 0 where
  pub walk : BlocksDone s n k lo at size
  pub here : row ≡ table + 2 * length walk.done
  pub kept : length room ≡ length room₀
  pub entries : Bytes
  pub starts : Bytes
  pub parts : room ≡ entries ++ starts
  pub entered : entries ≡ over (joined walk.done) (take table room₀)
  pub noted : starts ≡ over (numbers (offsets 0 walk.done)) (drop table room₀)

module _ {s : Bytes} {n : ℕ} {counts : List ℕ} {k : ℕ} (a : EntriesAsk s n counts k) (room₀ : Bytes) {table : ℕ}
    (front-size : table ≡ length (entry_part k (names s))) (whole : length room₀ ≡ table + length (block_part k (names s))) where
  front_long : length (take table room₀) ≡ table
  front_long = length-take-le table room₀ (omega (arith, whole))

  pub put-start : BlocksPut s n k table room₀ room₀ 0 0 0 table
  unfolding blocked-start joined offsets numbers
  put-start = record {
    walk = blocked-start a;
    here = omega arith;
    kept = refl;
    entries = take table room₀;
    starts = drop table room₀;
    parts = sym (take-append-drop table room₀);
    entered = refl;
    noted = refl;
  }

  module _ {room : Bytes} {lo at size row : ℕ} (b : BlocksPut s n k table room₀ room lo at size row) where
    pub put_all : n ≤ lo → room ≡ entry_part k (names s) ++ block_part k (names s)
    unfolding entry_part block_part
    put_all h =
        let e : b.walk.done ≡ blocks k (names s) = sym (blocked-end a b.walk h) in
        b.parts
        ∙ ap₂ (λ (f g : Bytes). f ++ g)
        (b.entered ∙ ap (λ (x : List Bytes). over (joined x) (take table room₀)) e ∙ over-all (joined (blocks k (names s))) (take table room₀) (omega (arith, front_long, front-size)))
        (b.noted ∙ ap (λ (x : List Bytes). over (numbers (offsets 0 x)) (drop table room₀)) e
        ∙ over-all (numbers (offsets 0 (blocks k (names s)))) (drop table room₀) (omega (arith, length-drop table room₀, whole)))

    module _ (h : lo < n) (hi : ℕ) (e : hi ≡ min (lo + k) n) where
      abbrev d : ℕ
      d = length b.walk.done

      put-within : size + length (block s lo hi) ≤ table
      put-within = omega (arith, blocked-within a b.walk h hi e, b.walk.counted, front-size)

      pub put-size : size ≤ table
      put-size = omega (arith, put-within)

      entries-long : length b.entries ≡ table
      entries-long = ap length b.entered ∙ over-length (joined b.walk.done) (take table room₀) (omega (arith, put-within, b.walk.counted, front_long)) ∙ front_long

      -- this block has a number in the table, too
      starts_more : 2 * d + 2 ≤ length (block_part k (names s))
      unfolding block_part
      starts_more =
          omega (
            arith,
            ap length (step a b.walk h hi e),
            length-append (b.walk.done ++ (block s lo hi ∷ [])) (blocks k (drop hi (names s))),
            length-append b.walk.done (block s lo hi ∷ []),
            numbers-length (offsets 0 (blocks k (names s))),
            offsets-length 0 (blocks k (names s)),
          )

      numbers-long : length (numbers (offsets 0 b.walk.done)) ≡ 2 * d
      numbers-long = numbers-length (offsets 0 b.walk.done) ∙ omega (arith, offsets-length 0 b.walk.done)

      back_long : length (drop table room₀) ≡ length (block_part k (names s))
      back_long = length-drop table room₀ ∙ omega (arith, whole)

      pub put-row : row + 2 ≤ length room
      put-row = omega (arith, b.kept, whole, starts_more, b.here)

      pub put_two : length (take (row + 2 - row) (drop row room)) ≡ 2
      put_two = part_length room row (row + 2 - row) (omega (arith, put-row)) ∙ omega arith

      abbrev room₁ : Bytes → Bytes
      room₁ out = take row room ++ (out ++ drop (row + 2 - row) (drop row room))

      -- a number goes there, whichever it is
      module _ (out : Bytes) (v : ℕ) (o : out ≡ numbers (v ∷ [])) where
        two : length out ≡ row + 2 - row
        two = ap length o ∙ numbers-length (v ∷ []) ∙ omega arith

        kept₁ : length (room₁ out) ≡ length room₀
        kept₁ = lent_length room out row (row + 2 - row) (omega (arith, put-row)) two ∙ b.kept

        pub put-table : table ≤ length (room₁ out)
        put-table = omega (arith, kept₁, whole)

        pub put-part : length (block s lo hi) ≤ length (take (table - size) (drop size (room₁ out)))
        put-part = omega (arith, part_length (room₁ out) size (table - size) (omega (arith, put-table, put-within)), put-within)

      -- where it begins is noted
      module _ (out : Bytes) (o : out ≡ numbers (size ∷ [])) where
        abbrev starts₁ : Bytes
        starts₁ = take (2 * d) b.starts ++ (out ++ drop (row + 2 - row) (drop (2 * d) b.starts))

        parts₁ : room₁ out ≡ b.entries ++ starts₁
        parts₁ =
            ap (λ (r : Bytes). take row r ++ (out ++ drop (row + 2 - row) (drop row r))) b.parts
            ∙ lent-behind b.entries b.starts out (2 * d) (row + 2 - row) row (omega (arith, entries-long, b.here))

        noted₁ : starts₁ ≡ over (numbers (offsets 0 (b.walk.done ++ (block s lo hi ∷ [])))) (drop table room₀)
        noted₁ =
            let begins : size ≡ 0 + length (joined b.walk.done) = omega (arith, b.walk.counted) in
            lent (numbers (offsets 0 b.walk.done)) (drop table room₀) b.starts out (2 * d) (row + 2 - row) b.noted numbers-long (omega (arith, back_long, starts_more)) (two out size o)
            ∙ ap (λ (x : Bytes). over x (drop table room₀))
            (ap (λ (x : Bytes). numbers (offsets 0 b.walk.done) ++ x) o
            ∙ sym (numbers-append (offsets 0 b.walk.done) (size ∷ []))
            ∙ ap numbers (ap (λ (m : ℕ). offsets 0 b.walk.done ++ (m ∷ [])) begins ∙ sym (offsets-more 0 b.walk.done (block s lo hi))))

        -- and the block is written
        pub put-more : (r next : ℕ) (ys : Bytes) → BlockPut s lo hi (take (table - size) (drop size (room₁ out))) ys r next
            → BlocksPut s n k table room₀ (take size (room₁ out) ++ (ys ++ drop (table - size) (drop size (room₁ out)))) hi next (size + r) (row + 2)
        unfolding blocked-more
        put-more r next ys p =
            let long : length (drop size b.entries) ≡ table - size = length-drop size b.entries ∙ omega (arith, entries-long) in
            let lent_is : take (table - size) (drop size (room₁ out)) ≡ take (table - size) (drop size b.entries) =
            ap (λ (x : Bytes). take (table - size) (drop size x)) parts₁
            ∙ ap (take (table - size)) (drop-append-le size b.entries starts₁ (omega (arith, entries-long, put-within)))
            ∙ take-append-le (table - size) (drop size b.entries) starts₁ (omega (arith, long)) in
            record {
              walk = blocked-more a b.walk h hi e r next p.sized;
              here = omega (arith, b.here, length-append b.walk.done (block s lo hi ∷ []));
              kept =
                  lent_length (room₁ out) ys size (table - size) (omega (arith, put-table out size o, put-within))
                  (ap length p.put ∙ over-length (block s lo hi) (take (table - size) (drop size (room₁ out))) (put-part out size o) ∙ part_length (room₁ out) size (table - size) (omega (arith, put-table out size o, put-within)))
                  ∙ kept₁ out size o;
              entries = take size b.entries ++ (ys ++ drop (table - size) (drop size b.entries));
              starts = starts₁;
              parts =
                  ap (λ (x : Bytes). take size x ++ (ys ++ drop (table - size) (drop size x))) parts₁
                  ∙ lent-before b.entries starts₁ ys size (table - size) (omega (arith, entries-long, put-within));
              entered =
                  lent-front (joined b.walk.done) (block s lo hi) (take table room₀) b.entries ys size (table - size)
                  b.entered (sym b.walk.counted) (omega (arith, put-within, front_long)) (p.put ∙ ap (over (block s lo hi)) lent_is) (omega (arith, put-within))
                  ∙ ap (λ (x : Bytes). over x (take table room₀)) (sym (more a b.walk h hi e));
              noted = noted₁;
            }

-- ---- by sums

-- the blocks before lo are counted; what their first names share is taken off `shared`
pub record Surveying (s : Bytes) (n : ℕ) (counts : List ℕ) (k shared count lo : ℕ) : Type 0 where
  pub reached : ℕ
  pub is : reached ≡ min lo n
  pub start : ℕ
  pub size : ℕ
  pub walk : BlocksDone s n k reached start size
  pub number : count ≡ length walk.done
  pub sums : size + shared_to counts reached + shared ≡ start + reached + shared_to counts n
  pub enough : shared_to counts n ≤ shared + shared_to counts reached
  pub small : shared ≤ 510000

module _ {s : Bytes} {n : ℕ} {counts : List ℕ} {k : ℕ} (a : EntriesAsk s n counts k) where
  pub surveying-start : (r : ℕ) → r ≡ shared_to counts n → Surveying s n counts k r 0 0
  unfolding blocked-start shared_to
  surveying-start r e = record {
    reached = 0;
    is = omega arith;
    start = 0;
    size = 0;
    walk = blocked-start a;
    number = refl;
    sums = omega (arith, e);
    enough = omega (arith, e);
    small = omega (arith, e, shared-small a.ready n (omega arith), a.ready.few);
  }

  module _ {shared count lo : ℕ} (b : Surveying s n counts k shared count lo) where
    module _ (h : lo < n) (x : ℕ) (e : x ≡ get_or counts lo 0) where
      abbrev m : ℕ
      m = b.reached

      m-is : m ≡ lo
      m-is = omega (arith, b.is)

      first : shared_to counts (m + 1) ≡ shared_to counts m + x
      first = shared-next counts m ∙ omega (arith, ap (λ (i : ℕ). get_or counts i 0) m-is)

      grows : (i : ℕ) → m + 1 ≤ i → shared_to counts (m + 1) ≤ shared_to counts i
      grows i l =
          let f : m + 1 + (i - (m + 1)) ≡ i = omega arith in
          omega (arith, shared-grows counts (m + 1) (i - (m + 1)), ap (shared_to counts) f)

      pub surveying-enough : x ≤ shared
      surveying-enough = omega (arith, b.enough, first, grows n (omega (arith, m-is)))

      pub surveying-more : Surveying s n counts k (shared - x) (count + 1) (lo + k)
      unfolding blocked-more
      surveying-more =
          let hi : ℕ = min (m + k) n in
          let l : m < n = omega (arith, m-is) in
          let ask : BlockAsk s counts m b.start hi = blocked-ask a b.walk l hi refl in
          let z : BlockSums s counts m b.start hi hi = block-sums ask (omega (arith, a.low)) in
          record {
            reached = hi;
            is = omega (arith, m-is);
            start = z.next;
            size = b.size + z.size;
            walk = blocked-more a b.walk l hi refl z.size z.next (sizing-all ask z.sizing (omega arith));
            number = omega (arith, b.number, length-append b.walk.done (block s m hi ∷ []));
            sums = omega (arith, b.sums, z.sums, first, surveying-enough);
            enough = omega (arith, b.enough, first, surveying-enough, grows hi (omega (arith, a.low)));
            small = omega (arith, b.small);
          }

    module _ (h : n ≤ lo) where
      at-end : b.reached ≡ n
      at-end = omega (arith, b.is)

      whole : b.size + shared ≡ length s + n
      whole =
          omega (
            arith,
            b.sums,
            at-end,
            ap (shared_to counts) at-end,
            b.walk.here ∙ ap (start_of s) at-end ∙ start-all a.ready,
          )

      pub surveying-fits : Fits w64 (length s + n)
      surveying-fits = omega (arith, whole, b.small, blocked-small a b.walk)

      pub surveying-left : shared ≤ length s + n
      surveying-left = omega (arith, whole)

      pub surveying-all : SumsAre s k count (length s + n - shared)
      surveying-all =
          let e : b.size ≡ length s + n - shared = omega (arith, whole) in
          subst (SumsAre s k count) e (blocked-sums a b.walk (omega (arith, at-end)) b.number)

-- what is noted, in the rows
module _ {s : Bytes} {n : ℕ} (rows : List Note) {k : ℕ} (a : EntriesAsk s n (counts_of rows) k) where
  pub noted-places : n ≤ length rows
  noted-places = omega (arith, a.ready.total, a.ready.noted.counts-room, counts-length rows)

  pub noted_count : (lo : ℕ) (d : Note) → lo < n → (get_or rows lo d).count ≡ get_or (counts_of rows) lo 0
  noted_count lo d h = sym (counts-at rows lo d (omega (arith, noted-places)))

-- the walk goes by steps of k, and the last may lead past n
module _ {s : Bytes} {n : ℕ} {k table : ℕ} {room₀ room : Bytes} {at size row : ℕ} where
  pub put_here : (lo : ℕ) → lo < n → BlocksPut s n k table room₀ room (min lo n) at size row → BlocksPut s n k table room₀ room lo at size row
  put_here lo h b = let e : min lo n ≡ lo = omega arith in subst (λ (i : ℕ). BlocksPut s n k table room₀ room i at size row) e b

  -- as far as it has come, told in another way
  pub put_along : {i j : ℕ} → i ≡ j → BlocksPut s n k table room₀ room i at size row → BlocksPut s n k table room₀ room j at size row
  put_along e b = subst (λ (i : ℕ). BlocksPut s n k table room₀ room i at size row) e b
