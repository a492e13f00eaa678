-- Laws of the records of a worn card's names in a room.
--     put-none, put-more        nothing is put; one after the other
--     record-put, record-none   one record
--     Saving: saving-start, saving-entry, saving-more, saving-done     the loop over a block's names
--     block-put, block-left     a block that is whole, and one that is broken
--     Measuring: measuring-start .. measuring-done     the loop that counts a block's bytes
--     CountingBlocks: counting-start, counting-ask, counting-whole, counting-broken, counting-done     the loop that judges all blocks
--     Blocks: blocks_start, blocks-ask, blocks_more, blocks-done     the loop that puts them
--     save-..                   the ways out
-- Assumes nothing.
use Prim.Native.Nat.{ℕ, suc, ◌+◌, ◌-◌, ◌*◌, ◌≤◌, ◌<◌}
use native.Mathlib.Nat.{lt_irrefl}
use native.Mathlib.Numerals.{add-one}
use native.Mathlib.Omega.{arith}
use mathlib.Core.Path.{◌≡◌, refl, sym, ap, ap₂, ◌∙◌, subst}
use mathlib.Core.Bool.{Bool, true, false}
use mathlib.Core.Logic.{◌⊎◌, inl, inr}
use mathlib.Core.List.{List, [], ◌∷◌, ◌++◌, append_assoc, append-nil}
use lib.Dec.{eqb, leb}
use lib.ListN.{drop, get_or, length, length-append, length-drop, length-set, length-take, set, take}
use lib.Seq.{drop-drop, get_or-drop, take_all, take-suc}
use borrow.Author.Tests.{eq-eqb, le-leb, lt-leb, ne_eqb}
use Rattle.std.proofs.lemmas.List.{set_split}
use Rattle.words.specs.Words.{Bytes, pick}
use Rattle.words.proofs.Words.{apart}
use Rattle.format.specs.Book.{joined}
use Rattle.format.specs.Entries.{decode}
use Rattle.format.specs.Outcomes.{Written, given, over, refused}
use Rattle.format.specs.Records.{encode}
use Rattle.format.specs.Salvage.{Block, Broken, Whole, mapped}
use Rattle.format.proofs.Records.{encode-append}
use Rattle.format.proofs.Salvage.{whole-alone}
use Rattle.answers.specs.Salvage.{card_blocks, records_in, saved_records}
use Rattle.answers.proofs.Salvage.{saved-more}
use Rattle.numbers.proofs.Parts.{Copied, copied, lent, lent-front, over-length, part_length}
use Rattle.streams.proofs.Alone.{alone-stream}
use Rattle.streams.specs.Streams.{EntryAt, Stream, entry_end, name_at}
use Rattle.entries.specs.Reading.{NextIs}
use Rattle.entries.proofs.Reading.{stream-next}
use Rattle.notes.specs.Notes.{NoteMade, Noting, noted}
use Rattle.notes.proofs.Noting.{noting-skip}
use Rattle.cards.specs.Cards.{CardBlockAsk, IsWhole, KeptSays, SpanIs}
use Rattle.cards.proofs.Cards.{block-is, mapped-is, whole_by}
use Rattle.salvage.specs.Saving.{BytesPut, CardCount, NamesAsk, NamesPut, RecordsTake, saved_of}

-- ---- bytes in a room

pub put-none : (room : Bytes) (at : ℕ) → BytesPut [] room room at at
put-none room at = record { kept = refl; size = omega arith; put = λ f p xs r e l. r ∙ ap (λ (z : Bytes). over z xs) (sym (append-nil p)) }

pub put-more : {out out' room₀ room room' : Bytes} {at mid end : ℕ} → BytesPut out room₀ room at mid → BytesPut out' room room' mid end → BytesPut (out ++ out') room₀ room' at end
put-more {out} {out'} {room₀} {room} {room'} {at} {mid} {end} a b = record {
  kept = b.kept ∙ a.kept;
  size = omega (arith, a.size, b.size, length-append out out');
  put = λ f p xs r e l. b.put (omega (arith, a.kept)) (p ++ out) xs (a.put (omega (arith, b.size)) p xs r e l) (omega (arith, length-append p out, a.size)) (l ∙ sym a.kept) ∙ ap (λ (z : Bytes). over z xs) (append_assoc p out out');
}

-- a name's record, its length byte first: r is the room with that byte set, of which all behind it was lent and came back as ys
module _ (x room ys : Bytes) (at : ℕ) (fits : at + 1 + length x ≤ length room) where
  abbrev led : Bytes
  led = set room at (length x)

  led-is : (p xs : Bytes) → room ≡ over p xs → length p ≡ at → length xs ≡ length room → led ≡ over (p ++ (length x ∷ [])) xs
  led-is p xs e l k =
      let next : drop (suc at) room ≡ drop 1 (drop at room) = ap (λ (n : ℕ). drop n room) (sym (add-one at)) ∙ sym (drop-drop 1 at room) in
      set_split room at (length x) (omega arith) ∙ ap (λ (z : Bytes). take at room ++ (length x ∷ z)) next
      ∙ lent p xs room (length x ∷ []) at 1 e l (omega arith) refl

  led-length : length led ≡ length room
  led-length = length-set room at (length x)

  module _ (y : Copied x (take (length led - (at + 1)) (drop (at + 1) led)) ys) where
    abbrev after : Bytes
    after = take (at + 1) led ++ (ys ++ drop (length led - (at + 1)) (drop (at + 1) led))

    part-size : length (take (length led - (at + 1)) (drop (at + 1) led)) ≡ length led - (at + 1)
    part-size = part_length led (at + 1) (length led - (at + 1)) (omega (arith, led-length))

    come-back : length ys ≡ length led - (at + 1)
    come-back = ap length (copied x _ ys y) ∙ over-length x _ (omega (arith, part-size, led-length)) ∙ part-size

    pub record-put : BytesPut (encode (x ∷ [])) room after at (at + 1 + length x)
    unfolding encode
    record-put = record {
      kept = kept-length;
      size = omega (arith, length-append x []);
      put = λ f p xs e l k.
          lent-front (p ++ (length x ∷ [])) x xs led ys (at + 1) (length led - (at + 1)) (led-is p xs e l k) (length-append p (length x ∷ []) ∙ omega arith)
          (omega (arith, led-length)) (copied x _ ys y) (omega (arith, led-length))
          ∙ ap (λ (z : Bytes). over z xs) (append_assoc p (length x ∷ []) x ∙ ap (λ (z : Bytes). p ++ (length x ∷ z)) (sym (append-nil x)));
    }
      where
        kept-length : length after ≡ length room
        kept-length =
            length-append (take (at + 1) led) (ys ++ drop (length led - (at + 1)) (drop (at + 1) led))
            ∙ omega (
              arith,
              length-append ys (drop (length led - (at + 1)) (drop (at + 1) led)),
              come-back,
              led-length,
              length-take (at + 1) led,
              length-drop (at + 1) led,
              length-drop (length led - (at + 1)) (drop (at + 1) led),
            )

-- where there is no room for it, nothing is put
pub record-none : (x room : Bytes) (at : ℕ) → length room < at + 1 + length x → BytesPut (encode (x ∷ [])) room room at (at + 1 + length x)
unfolding encode
record-none x room at h = record { kept = refl; size = omega (arith, length-append x []); put = λ f p xs e l k. absurd (lt_irrefl (length room) (omega arith)) }

-- ---- a block's names

-- i names are saved, the last of them is at hand, and the cursor stands at the next entry
pub record Saving (s : Bytes) (start m at : ℕ) (room₀ room : Bytes) (o : ℕ) (name : Bytes) (end i : ℕ) : Type 0 where
  pub ask : NamesAsk s start m
  pub upto : i ≤ m
  pub bounded : end ≤ at + 201 * i
  pub kept : length room ≡ length room₀
  pub others : (xs : List Bytes) → Stream s start [] xs → length xs ≡ m → Stream s o name (drop i xs)
  pub put : (xs : List Bytes) → Stream s start [] xs → length xs ≡ m → BytesPut (encode (take i xs)) room₀ room at end

pub saving-start : {s : Bytes} {start m at : ℕ} {room : Bytes} → NamesAsk s start m → Saving s start m at room room start [] at 0
unfolding encode
saving-start {s} {start} {m} {at} {room} ask = record {
  ask = ask;
  upto = omega arith;
  bounded = omega arith;
  kept = refl;
  others = λ xs t e. t;
  put = λ xs t e. put-none room at;
}

module _ {s : Bytes} {start m at : ℕ} {room₀ room : Bytes} {o : ℕ} {name : Bytes} {end i : ℕ} (w : Saving s start m at room₀ room o name end i) (h : i < m) where
  next_of : (xs : List Bytes) → Stream s start [] xs → length xs ≡ m
      → EntryAt s o (length name) × (name_at s o name ≡ get_or (drop i xs) 0 []) × Stream s (entry_end s o) (name_at s o name) (drop 1 (drop i xs))
  next_of xs t e = stream-next s o name (drop i xs) (omega (arith, length-drop i xs)) (w.others xs t e)

  pub saving-entry : EntryAt s o (length name)
  saving-entry = (next_of w.ask.names w.ask.stream w.ask.count).0

  module _ {next : ℕ} {name' : Bytes} (r : NextIs s o name next name') where
    named : (xs : List Bytes) → Stream s start [] xs → length xs ≡ m → name' ≡ get_or xs i []
    named xs t e = let number : i + 0 ≡ i = omega arith in r.name-is ∙ (next_of xs t e).1 ∙ get_or-drop i xs 0 [] ∙ ap (λ (j : ℕ). get_or xs j []) number

    -- `lent` is the name at hand, as it was lent
    pub saving-more : {room' lent : Bytes} {to : ℕ} → lent ≡ name' → BytesPut (encode (lent ∷ [])) room room' end to → Saving s start m at room₀ room' next name' to (i + 1)
    unfolding encode
    saving-more {room'} {lent} {to} is k = record {
      ask = w.ask;
      upto = omega arith;
      bounded = omega (arith, w.bounded, k.size, length-append lent [], ap length is, r.room);
      kept = k.kept ∙ w.kept;
      others = λ xs t e. rw (r.name-is, r.next-is, ← drop-drop 1 i xs) (next_of xs t e).2;
      put = λ xs t e. one_more xs t e;
    }
      where
        one_more : (xs : List Bytes) → Stream s start [] xs → length xs ≡ m → BytesPut (encode (take (i + 1) xs)) room₀ room' at to
        one_more xs t e =
            let all : encode (take i xs) ++ encode (get_or xs i [] ∷ []) ≡ encode (take (i + 1) xs) =
            sym (encode-append (take i xs) (get_or xs i [] ∷ [])) ∙ ap encode (sym (take-suc xs i [] (omega arith)) ∙ ap (λ (n : ℕ). take n xs) (sym (add-one i))) in
            let one : BytesPut (encode (get_or xs i [] ∷ [])) room room' end to = subst (λ (x : Bytes). BytesPut (encode (x ∷ [])) room room' end to) (is ∙ named xs t e) k in
            subst (λ (l : Bytes). BytesPut l room₀ room' at to) all (put-more (w.put xs t e) one)

pub saving-done : {s : Bytes} {start m at : ℕ} {room₀ room : Bytes} {o : ℕ} {name : Bytes} {end i : ℕ} → Saving s start m at room₀ room o name end i → m ≤ i → NamesPut s start m room₀ room at end
saving-done {s} {start} {m} {at} {room₀} {room} {o} {name} {end} {i} w h = record {
  kept = w.kept;
  bounded = omega (arith, w.bounded, w.upto);
  all = λ xs t e. subst (λ (l : List Bytes). BytesPut (encode l) room₀ room at end) (take_all i xs (omega arith)) (w.put xs t e);
}

-- ---- the blocks

-- a broken block has no records
pub block-left : (s : Bytes) (i : ℕ) → get_or (card_blocks s) i Broken ≡ Broken → (room : Bytes) (at : ℕ) → BytesPut (records_in (get_or (card_blocks s) i Broken)) room room at at
block-left s i e room at = subst (λ (l : Bytes). BytesPut l room room at at) (sym (ap records_in e)) (put-none room at)

module _ {s : Bytes} {i start end names : ℕ} (ask : CardBlockAsk s i) (k : SpanIs s i start end names) (w : IsWhole s i) where
  abbrev held : List Bytes
  held = decode (take (end - start) (drop start s))

  stands : Stream s start [] held
  stands = alone-stream s start end names k.inside k.order _ (whole_by ask k w)

  count-is : length held ≡ names
  count-is = (whole-alone names (take (end - start) (drop start s)) _ (whole_by ask k w)).count

  block-kept : get_or (card_blocks s) i Broken ≡ Whole held
  block-kept = block-is ask k ∙ whole_by ask k w

  pub names-ask : NamesAsk s start names
  names-ask = record { names = held; stream = stands; count = count-is }

  pub block-put : {room₀ room : Bytes} {at to : ℕ} → NamesPut s start names room₀ room at to → BytesPut (records_in (get_or (card_blocks s) i Broken)) room₀ room at to
  block-put {room₀} {room} {at} {to} p = subst (λ (b : Block). BytesPut (records_in b) room₀ room at to) (sym block-kept) (p.all held stands count-is)

-- ---- the bytes of a block's records

-- i names are counted, and the entry of the next one stands at o
pub record Measuring (s : Bytes) (start m o size i : ℕ) : Type 0 where
  pub ask : NamesAsk s start m
  pub upto : i ≤ m
  pub bounded : size ≤ 201 * i
  pub all : (xs : List Bytes) → Stream s start [] xs → length xs ≡ m → (p : Bytes) × Stream s o p (drop i xs) × (size ≡ length (encode (take i xs)))

pub measuring-start : {s : Bytes} {start m : ℕ} → NamesAsk s start m → Measuring s start m start 0 0
unfolding encode
measuring-start ask = record { ask = ask; upto = omega arith; bounded = omega arith; all = λ xs t e. ([], t, refl) }

module _ {s : Bytes} {start m o size i : ℕ} (w : Measuring s start m o size i) (h : i < m) where
  next-in : (xs : List Bytes) (t : Stream s start [] xs) (e : length xs ≡ m) → let p = (w.all xs t e).0 in
      EntryAt s o (length p) × (name_at s o p ≡ get_or (drop i xs) 0 []) × Stream s (entry_end s o) (name_at s o p) (drop 1 (drop i xs))
  next-in xs t e = stream-next s o (w.all xs t e).0 (drop i xs) (omega (arith, length-drop i xs)) (w.all xs t e).1

  first_entry : EntryAt s o (length (w.all w.ask.names w.ask.stream w.ask.count).0)
  first_entry = (next-in w.ask.names w.ask.stream w.ask.count).0

  pub measuring-fits : entry_end s o ≤ length s
  measuring-fits = first_entry.fits

  pub measuring-more : (c n : ℕ) → c ≡ get_or s o 0 → n ≡ get_or s (o + 1) 0 → Measuring s start m (o + (2 + n)) (size + (c + n + 1)) (i + 1)
  unfolding encode
  measuring-more c n ce ne = record {
    ask = w.ask;
    upto = omega arith;
    bounded = omega (arith, w.bounded, first_entry.short);
    all = λ xs t e. one_more xs t e;
  }
    where
      one_more : (xs : List Bytes) → Stream s start [] xs → length xs ≡ m → (p : Bytes) × Stream s (o + (2 + n)) p (drop (i + 1) xs) × (size + (c + n + 1) ≡ length (encode (take (i + 1) xs)))
      one_more xs t e =
          let p = (w.all xs t e).0 in
          let next = next-in xs t e in
          let behind : entry_end s o ≡ o + (2 + n) = omega arith in
          let left : drop 1 (drop i xs) ≡ drop (i + 1) xs = drop-drop 1 i xs in
          let number : i + 0 ≡ i = omega arith in
          let x : Bytes = get_or xs i [] in
          let named : name_at s o p ≡ x = next.1 ∙ get_or-drop i xs 0 [] ∙ ap (λ (j : ℕ). get_or xs j []) number in
          let rest : length (take (get_or s (o + 1) 0) (drop (o + 2) s)) ≡ n = omega (arith, length-take (get_or s (o + 1) 0) (drop (o + 2) s), length-drop (o + 2) s, next.0.fits) in
          let long : length x ≡ c + n = sym (ap length named) ∙ length-append (take (get_or s o 0) p) (take (get_or s (o + 1) 0) (drop (o + 2) s)) ∙ omega (arith, rest, length-take (get_or s o 0) p, next.0.shares) in
          let front : take (i + 1) xs ≡ take i xs ++ (x ∷ []) = ap (λ (j : ℕ). take j xs) (add-one i) ∙ take-suc xs i [] (omega arith) in
          let bytes : length (encode (take (i + 1) xs)) ≡ length (encode (take i xs)) + length (encode (x ∷ [])) =
          ap (λ (l : List Bytes). length (encode l)) front ∙ ap length (encode-append (take i xs) (x ∷ [])) ∙ length-append (encode (take i xs)) (encode (x ∷ [])) in
          let one : length (encode (x ∷ [])) ≡ suc (length x) = ap suc (length-append x [] ∙ omega arith) in (
            name_at s o p,
            subst (λ (a : ℕ). Stream s a (name_at s o p) (drop (i + 1) xs)) behind (subst (λ (l : List Bytes). Stream s (entry_end s o) (name_at s o p) l) left next.2),
            omega (arith, (w.all xs t e).2, bytes, one, long),
          )

pub measuring-done : {s : Bytes} {start m o size i : ℕ} → Measuring s start m o size i → m ≤ i → RecordsTake s start m size
measuring-done {s} {start} {m} {o} {size} {i} w h = record {
  bounded = omega (arith, w.bounded, w.upto);
  all = λ xs t e. (w.all xs t e).2 ∙ ap (λ (l : List Bytes). length (encode l)) (take_all i xs (omega arith));
}

-- ---- all blocks, counted

-- i blocks are judged, and noted
pub record CountingBlocks (s notes : Bytes) (count i size : ℕ) : Type 0 where
  pub within : i ≤ count
  pub many : count ≡ length (card_blocks s)
  pub few : count ≤ 2000
  pub bounded : size ≤ 12864 * i
  pub is : size ≡ length (saved_records (take i (card_blocks s)))
  pub next : Noting notes i
  pub found : (j : ℕ) → j < i → KeptSays s j (noted notes j)

pub counting-start : {s notes : Bytes} {count : ℕ} → count ≡ length (card_blocks s) → count ≤ 2000 → Noting notes 0 → CountingBlocks s notes count 0 0
unfolding joined
counting-start e f n = record { within = omega arith; many = e; few = f; bounded = omega arith; is = refl; next = n; found = λ j h. absurd (omega arith) }

module _ {s notes : Bytes} {count i size : ℕ} (w : CountingBlocks s notes count i size) where
  pub counting-ask : mapped s ≡ true → i < count → CardBlockAsk s i
  counting-ask e h = record { map = e; within = omega (arith, w.many) }

  one_block : i < count → length (saved_records (take (i + 1) (card_blocks s))) ≡ size + length (records_in (get_or (card_blocks s) i Broken))
  one_block h =
      sym (ap length (saved-more (card_blocks s) i (omega (arith, w.many)) ∙ ap (λ (n : ℕ). saved_records (take n (card_blocks s))) (sym (add-one i))))
      ∙ length-append (saved_records (take i (card_blocks s))) (records_in (get_or (card_blocks s) i Broken)) ∙ omega (arith, w.is)

  -- all that was found before, and of block i
  found-more : (new : Bytes) → ((j : ℕ) → j < i → noted new j ≡ noted notes j) → KeptSays s i (noted new i) → (j : ℕ) → j < i + 1 → KeptSays s j (noted new j)
  found-more new others here j l = on (apart j i)
    where
      on : (j < i) ⊎ (i ≤ j) → KeptSays s j (noted new j)
      on (inl k) = subst (KeptSays s j) (sym (others j k)) (w.found j k)
      on (inr k) = let is : i ≡ j = omega arith in subst (λ (n : ℕ). KeptSays s n (noted new n)) is here

  module _ {start end names : ℕ} (ask : CardBlockAsk s i) (k : SpanIs s i start end names) (h : i < count) where
    pub counting-whole : IsWhole s i → {new : Bytes} → NoteMade notes new i → {more : ℕ} → RecordsTake s start names more → CountingBlocks s new count (i + 1) (size + more)
    counting-whole whole {new} n {more} take-up = record {
      within = omega arith;
      many = w.many;
      few = w.few;
      bounded = omega (arith, w.bounded, take-up.bounded, k.few);
      is = sym (one_block h ∙ omega (arith, ap (λ (b : Block). length (records_in b)) (block-kept ask k whole), take-up.all _ (stands ask k whole) (count-is ask k whole)));
      next = n.next;
      found = found-more new n.others (subst (KeptSays s i) (sym n.here) whole);
    }

    pub counting-broken : get_or (card_blocks s) i Broken ≡ Broken → CountingBlocks s notes count (i + 1) size
    counting-broken broken = record {
      within = omega arith;
      many = w.many;
      few = w.few;
      bounded = omega (arith, w.bounded);
      is = sym (one_block h ∙ omega (arith, ap (λ (b : Block). length (records_in b)) broken));
      next = (noting-skip w.next).0;
      found = found-more notes (λ j l. refl) (subst (KeptSays s i) (sym (noting-skip w.next).1) broken);
    }

  pub counting-done : count ≤ i → CardCount s notes size
  counting-done h = record {
    is = w.is ∙ ap (λ (l : List Block). length (saved_records l)) (take_all i (card_blocks s) (omega (arith, w.many)));
    verdicts = record { all = λ j l. w.found j (omega (arith, w.many)) };
  }

-- ---- all blocks, written

-- the records of i blocks are put
pub record Blocks (s room₀ room : Bytes) (count i end : ℕ) : Type 0 where
  pub upto : i ≤ count
  pub many : count ≡ length (card_blocks s)
  pub few : count ≤ 2000
  pub bounded : end ≤ 12864 * i
  pub put : BytesPut (saved_records (take i (card_blocks s))) room₀ room 0 end

pub blocks_start : {s : Bytes} {count : ℕ} (room : Bytes) → count ≡ length (card_blocks s) → count ≤ 2000 → Blocks s room room count 0 0
unfolding joined
blocks_start room e f = record { upto = omega arith; many = e; few = f; bounded = omega arith; put = put-none room 0 }

module _ {s room₀ room : Bytes} {count i end : ℕ} (w : Blocks s room₀ room count i end) where
  pub blocks-ask : mapped s ≡ true → i < count → CardBlockAsk s i
  blocks-ask e h = record { map = e; within = omega (arith, w.many) }

  pub blocks_more : i < count → {room' : Bytes} {to : ℕ} → BytesPut (records_in (get_or (card_blocks s) i Broken)) room room' end to → to ≤ 12864 * (i + 1) → Blocks s room₀ room' count (i + 1) to
  blocks_more h {room'} {to} p b = record {
    upto = omega arith;
    many = w.many;
    few = w.few;
    bounded = b;
    put = subst (λ (l : Bytes). BytesPut l room₀ room' 0 to) (saved-more (card_blocks s) i (omega (arith, w.many)) ∙ ap (λ (n : ℕ). saved_records (take n (card_blocks s))) (sym (add-one i))) (put-more w.put p);
  }

  pub blocks-done : count ≤ i → BytesPut (saved_records (card_blocks s)) room₀ room 0 end
  blocks-done h = subst (λ (l : List Block). BytesPut (saved_records l) room₀ room 0 end) (take_all i (card_blocks s) (omega (arith, w.many))) w.put

-- ---- ways out of `save_names`

module _ (s : Bytes) (rows : ℕ) (room : Bytes) where
  pub save-unmapped : {m : Bool} → m ≡ mapped s → m ≡ false → record { answer = refused 13; room = room } ≡ saved_of s rows room
  unfolding saved_of
  save-unmapped {m} e h = rw (sym e ∙ h) refl

  module _ {m : Bool} (e : m ≡ mapped s) (h : m ≡ true) {count : ℕ} (c : count ≡ length (card_blocks s)) where
    -- by what the two tests say
    abbrev tested : Bool → Bool → Written
    tested same fits =
        pick same (pick fits (record { answer = given (length (saved_records (card_blocks s))) 0; room = over (saved_records (card_blocks s)) room }) (record { answer = refused 4; room = room })) (record { answer = refused 12; room = room })

    saved-is : (same fits : Bool) → eqb rows (length (card_blocks s)) ≡ same → leb (length (saved_records (card_blocks s))) (length room) ≡ fits → saved_of s rows room ≡ tested same fits
    unfolding saved_of
    saved-is same fits p q = rw (mapped-is s e h, p, q) refl

    pub save-rows : (rows ≡ count → ⊥) → record { answer = refused 12; room = room } ≡ saved_of s rows room
    save-rows away = sym (saved-is false _ (ne_eqb rows (length (card_blocks s)) (λ z. away (z ∙ sym c))) refl)

    module _ (same : rows ≡ count) {notes : Bytes} {size : ℕ} (k : CardCount s notes size) where
      is_same : eqb rows (length (card_blocks s)) ≡ true
      is_same = eq-eqb rows (length (card_blocks s)) (same ∙ c)

      pub save-short : length room < size → record { answer = refused 4; room = room } ≡ saved_of s rows room
      save-short f = sym (saved-is true false is_same (lt-leb (length (saved_records (card_blocks s))) (length room) (omega (arith, k.is))))

      pub save-put : size ≤ length room → {new : Bytes} {end : ℕ} → BytesPut (saved_records (card_blocks s)) room new 0 end → record { answer = given end 0; room = new } ≡ saved_of s rows room
      save-put f {new} {end} w =
          ap₂ (λ (n : ℕ) (l : Bytes). record { answer = given n 0; room = l }) (omega (arith, w.size)) (w.put (omega (arith, w.size, k.is)) [] room refl (omega arith) refl)
          ∙ sym (saved-is true true is_same (le-leb (length (saved_records (card_blocks s))) (length room) (omega (arith, k.is))))
