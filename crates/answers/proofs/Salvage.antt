-- Laws of a salvage: what of damaged bytes does not depend on a block's own.
--     Mapped, mapped-parts, parts-mapped     a map that makes sense, test by test
--     blocks-many, block_at     how many blocks; block number i is its span's verdict
--     saved-more, saved-append, saved-whole     the records of one block more, of others behind them, of blocks that are all whole
--     salvage-by, salvage-gives, salvage-taken, salvage-kept     the call by what its tests say; what it gives, and where it does; what it leaves alone
--     nodes-mapped, nodes-blocks     bytes that differ only in the node table have the same map and the same blocks
--     mapped-same       bytes that differ only inside a block's span have the same map
--     Isolated, isolated     and the same blocks, in the same order, but for that one
-- Assumes nothing.
use Prim.Native.Nat.{ℕ, zero, suc, ◌+◌, ◌-◌, ◌*◌, ◌≤◌, ◌<◌}
use native.Mathlib.Nat.{le_of_suc-le-suc, lt_irrefl, not-suc-le-zero}
use native.Mathlib.Omega.{arith}
use mathlib.Core.Path.{◌≡◌, refl, sym, ap, ap₂, ◌∙◌}
use mathlib.Core.Bool.{Bool, false, true}
use mathlib.Core.List.{List, [], ◌∷◌, ◌++◌, append_assoc, append-nil, map}
use lib.Dec.{eqb, leb}
use lib.ListN.{get_or-map, drop, get_or, length, length-drop, length-map, take}
use lib.Seq.{ext_get_or, get_or-drop, get_or-take, length-take-le, split_at}
use borrow.Author.Tests.{eq-eqb, eqb-true, le-leb, leb-true}
use Rattle.words.specs.Words.{Bytes, pick, same}
use Rattle.words.proofs.Words.{both_true}
use Rattle.format.specs.Kinds.{PlainBook, mark_of}
use Rattle.format.specs.Book.{good_block, joined, told, trailer_size}
use Rattle.format.specs.Outcomes.{Answer, given, over, refused}
use Rattle.format.specs.Records.{encode, most_names}
use Rattle.format.specs.Salvage.{Block, Broken, Whole, block_count, bounds, bounds_from, from_zero, judged_alone, mapped, spans, spans_from}
use Rattle.format.specs.Nodes.{node_size}
use Rattle.format.proofs.Entries.{joined_names}
use Rattle.format.proofs.Records.{encode-append}
use Rattle.format.proofs.Salvage.{Outside, bounds-before, bounds-last, bounds-long, bounds-rise, bounds-same, no_span, spans-before, spans-isolated, spans-long, tail-behind, told_same}
use Rattle.answers.specs.Salvage.{Salvaged, card_blocks, records_in, reported, salvage, salvage_from, saved_records}

pub record Mapped (s : Bytes) : Type 0 where
  pub sized : trailer_size ≤ length s
  pub few : told s 0 ≤ most_names
  pub block : good_block (told s 1) ≡ true
  pub table : told s 2 + 2 * block_count (told s 0) (told s 1) ≡ told s 3
  pub nodes : told s 3 + node_size * told s 4 + trailer_size ≡ length s
  pub long : told s 5 ≡ length s
  pub marked : same (drop (length s - 4) s) (mark_of PlainBook) ≡ true
  pub starts : from_zero (bounds s) ≡ true

pub mapped-parts : (s : Bytes) → mapped s ≡ true → Mapped s
unfolding mapped
mapped-parts s e =
    let a = both_true _ _ e in
    let b = both_true _ _ a.1 in
    let c = both_true _ _ b.1 in
    let d = both_true _ _ c.1 in
    let f = both_true _ _ d.1 in
    let g = both_true _ _ f.1 in
    let h = both_true _ _ g.1 in
    record {
      sized = leb-true trailer_size (length s) a.0;
      few = leb-true (told s 0) most_names b.0;
      block = c.0;
      table = eqb-true _ _ d.0;
      nodes = eqb-true _ _ f.0;
      long = eqb-true _ _ g.0;
      marked = h.0;
      starts = h.1;
    }

pub parts-mapped : (s : Bytes) → Mapped s → mapped s ≡ true
unfolding mapped
parts-mapped s m =
    rw (le-leb trailer_size (length s) m.sized, le-leb (told s 0) most_names m.few, m.block, eq-eqb (told s 2 + 2 * block_count (told s 0) (told s 1)) (told s 3) m.table, eq-eqb (told s 3 + node_size * told s 4 + trailer_size) (length s) m.nodes, eq-eqb (told s 5) (length s) m.long, m.marked)
    m.starts

-- ---- blocks by their number

-- a block's verdict, by its number of names and its span
abbrev verdict : ℕ × Bytes → Block
verdict b = judged_alone b.0 b.1

many : (s : Bytes) → length (card_blocks s) ≡ length (bounds s) - 1
many s = length-map (spans s) verdict ∙ spans-long s (told s 1) (told s 0) (bounds s)

pub blocks-many : (s : Bytes) → length (card_blocks s) ≡ block_count (told s 0) (told s 1)
blocks-many s = omega (arith, many s, bounds-long s (told s 2) (block_count (told s 0) (told s 1)))

verdict-at : (l : List (ℕ × Bytes)) (i : ℕ) → i < length l → get_or (map verdict l) i Broken ≡ verdict (get_or l i no_span)
verdict-at [] i h = absurd (not-suc-le-zero h)
verdict-at (b ∷ l) zero h = refl
verdict-at (b ∷ l) (suc i) h = verdict-at l i (le_of_suc-le-suc h)

pub block_at : (s : Bytes) (i : ℕ) → i < length (card_blocks s) → get_or (card_blocks s) i Broken ≡ judged_alone (get_or (spans s) i no_span).0 (get_or (spans s) i no_span).1
block_at s i h = verdict-at (spans s) i (omega (arith, length-map (spans s) verdict))

-- one block more
pub saved-more : (bs : List Block) (i : ℕ) → i < length bs → saved_records (take i bs) ++ records_in (get_or bs i Broken) ≡ saved_records (take (suc i) bs)
unfolding joined
saved-more [] i h = absurd (not-suc-le-zero h)
saved-more (b ∷ bs) zero h = sym (append-nil (records_in b))
saved-more (b ∷ bs) (suc i) h =
    append_assoc (records_in b) (saved_records (take i bs)) (records_in (get_or bs i Broken)) ∙ ap (λ (l : Bytes). records_in b ++ l) (saved-more bs i (le_of_suc-le-suc h))

pub saved-append : (bs cs : List Block) → saved_records (bs ++ cs) ≡ saved_records bs ++ saved_records cs
unfolding joined
saved-append [] cs = refl
saved-append (b ∷ bs) cs = ap (λ (l : Bytes). records_in b ++ l) (saved-append bs cs) ∙ sym (append_assoc (records_in b) (saved_records bs) (saved_records cs))

-- blocks that are all whole: the records of all their names
pub saved-whole : (l : List (List Bytes)) → saved_records (map Whole l) ≡ encode (joined_names l)
unfolding joined encode
saved-whole [] = refl
saved-whole (xs ∷ l) = ap (λ (z : Bytes). encode xs ++ z) (saved-whole l) ∙ sym (encode-append xs (joined_names l))

-- ---- the call

-- what is left where nothing is refused
abbrev pub saved_as : List Block → Bytes → Salvaged
saved_as bs room = record { answer = given (length (saved_records bs)) 0; room = over (saved_records bs) room; rows = map reported bs }

module _ (s room : Bytes) (rows : List (ℕ × ℕ)) where
  abbrev as_it_was : Answer → Salvaged
  as_it_was a = record { answer = a; room = room; rows = rows }

  -- by what the three tests say
  abbrev pub salvage_by : Bool → Bool → Bool → Salvaged
  salvage_by m e f = pick m (pick e (pick f (saved_as (card_blocks s) room) (as_it_was (refused 4))) (as_it_was (refused 12))) (as_it_was (refused 13))

  pub salvage-by : (m e f : Bool) → mapped s ≡ m → eqb (length rows) (length (card_blocks s)) ≡ e → leb (length (saved_records (card_blocks s))) (length room) ≡ f → salvage s room rows ≡ salvage_by m e f
  unfolding salvage salvage_from
  salvage-by m e f p q r = rw (p, q, r) refl

  pub salvage-gives : mapped s ≡ true → length rows ≡ length (card_blocks s) → length (saved_records (card_blocks s)) ≤ length room → salvage s room rows ≡ saved_as (card_blocks s) room
  salvage-gives p q r = salvage-by true true true p (eq-eqb (length rows) (length (card_blocks s)) q) (le-leb (length (saved_records (card_blocks s))) (length room) r)

  pub record Taken : Type 0 where
    pub makes-sense : mapped s ≡ true
    pub many : length rows ≡ length (card_blocks s)
    pub fits : length (saved_records (card_blocks s)) ≤ length room

  pub salvage-taken : (salvage s room rows).answer.code ≡ 0 → Taken
  salvage-taken z = go (mapped s) (eqb (length rows) (length (card_blocks s))) (leb (length (saved_records (card_blocks s))) (length room)) refl refl refl
    where
      code : (m e f : Bool) → mapped s ≡ m → eqb (length rows) (length (card_blocks s)) ≡ e → leb (length (saved_records (card_blocks s))) (length room) ≡ f → (salvage_by m e f).answer.code ≡ 0
      code m e f p q r = sym (ap (λ (a : Salvaged). a.answer.code) (salvage-by m e f p q r)) ∙ z

      go : (m e f : Bool) → mapped s ≡ m → eqb (length rows) (length (card_blocks s)) ≡ e → leb (length (saved_records (card_blocks s))) (length room) ≡ f → Taken
      go false e f p q r = absurd (omega (arith, code false e f p q r))
      go true false f p q r = absurd (omega (arith, code true false f p q r))
      go true true false p q r = absurd (omega (arith, code true true false p q r))
      go true true true p q r = record { makes-sense = p; many = eqb-true (length rows) (length (card_blocks s)) q; fits = leb-true (length (saved_records (card_blocks s))) (length room) r }

  -- a refused call leaves the room and the rows as they were
  pub salvage-kept : ((salvage s room rows).answer.code ≡ 0 → ⊥) → ((salvage s room rows).room ≡ room) × ((salvage s room rows).rows ≡ rows)
  salvage-kept ne = go (mapped s) (eqb (length rows) (length (card_blocks s))) (leb (length (saved_records (card_blocks s))) (length room)) refl refl refl
    where
      left : {a : Answer} → salvage s room rows ≡ as_it_was a → ((salvage s room rows).room ≡ room) × ((salvage s room rows).rows ≡ rows)
      left e = (ap (λ (w : Salvaged). w.room) e, ap (λ (w : Salvaged). w.rows) e)

      go : (m e f : Bool) → mapped s ≡ m → eqb (length rows) (length (card_blocks s)) ≡ e → leb (length (saved_records (card_blocks s))) (length room) ≡ f → ((salvage s room rows).room ≡ room) × ((salvage s room rows).rows ≡ rows)
      go false e f p q r = left (salvage-by false e f p q r)
      go true false f p q r = left (salvage-by true false f p q r)
      go true true false p q r = left (salvage-by true true false p q r)
      go true true true p q r = absurd (ne (ap (λ (w : Salvaged). w.answer.code) (salvage-by true true true p q r)))

-- ---- two runs of bytes that differ only inside span number j

-- the same blocks before it and behind it, each with its own in its place
-- trailer and block table tell the same, and so the map is
told-mapped : (s t : Bytes) → Mapped s → {lo hi : ℕ} → Outside lo hi s t → hi + trailer_size ≤ length s → bounds s ≡ bounds t → mapped t ≡ true
told-mapped s t m u within same-bounds = parts-mapped t (record {
  sized = omega (arith, m.sized, u.size);
  few = omega (arith, m.few, told-are 0);
  block = ap good_block (sym (told-are 1)) ∙ m.block;
  table = ap₂ (λ (a n : ℕ). a + 2 * n) (sym (told-are 2)) (ap₂ block_count (sym (told-are 0)) (sym (told-are 1))) ∙ m.table ∙ told-are 3;
  nodes = ap₂ (λ (a n : ℕ). a + node_size * n + trailer_size) (sym (told-are 3)) (sym (told-are 4)) ∙ m.nodes ∙ u.size;
  long = sym (told-are 5) ∙ m.long ∙ u.size;
  marked = ap (λ (l : Bytes). same l (mark_of PlainBook)) (sym (tail-behind u (length s - 4) (omega (arith, within)) ∙ ap (λ (n : ℕ). drop (n - 4) t) u.size)) ∙ m.marked;
  starts = ap from_zero (sym same-bounds) ∙ m.starts;
})
  where
    told-are : (i : ℕ) → told s i ≡ told t i
    told-are = told_same u within

-- ---- bytes that differ only in the node table

module _ (s t : Bytes) (is : mapped s ≡ true) (u : Outside (told s 3) (length s - trailer_size) s t) where
  around : length s - trailer_size + trailer_size ≤ length s
  around = omega (arith, (mapped-parts s is).sized)

  starts-are : bounds s ≡ bounds t
  starts-are =
      bounds-before u around (told s 2) (block_count (told s 0) (told s 1)) (omega (arith, (mapped-parts s is).table))
      ∙ ap₂ (λ (a n : ℕ). bounds_from t a n) (told_same u around 2) (ap₂ block_count (told_same u around 0) (told_same u around 1))

  pub nodes-mapped : mapped t ≡ true
  nodes-mapped = told-mapped s t (mapped-parts s is) u around starts-are

  -- every bound is at most where the entries end
  entered : (i : ℕ) → i < length (bounds s) → get_or (bounds s) i 0 ≤ told s 3
  entered i h =
      let long = bounds-long s (told s 2) (block_count (told s 0) (told s 1)) in
      omega (
        arith,
        bounds-rise (bounds s) (mapped-parts s is).starts i (block_count (told s 0) (told s 1)) (omega (arith, long)) (omega (arith, long)),
        bounds-last s (told s 2) (block_count (told s 0) (told s 1)),
        (mapped-parts s is).table,
      )

  pub nodes-blocks : card_blocks s ≡ card_blocks t
  nodes-blocks =
      ap (map verdict)
      (spans-before u (told s 1) (told s 0) (bounds s) entered ∙ ap (spans_from t (told s 1) (told s 0)) starts-are
      ∙ ap₂ (λ (k left : ℕ). spans_from t k left (bounds t)) (told_same u around 1) (told_same u around 0))

-- ---- a block by itself

pub record Isolated (s t : Bytes) (j : ℕ) : Type 0 where
  pub front : List Block
  pub back : List Block
  pub own : Block
  pub other : Block
  pub place : length front ≡ j
  pub first : card_blocks s ≡ front ++ (own ∷ back)
  pub second : card_blocks t ≡ front ++ (other ∷ back)

module _ (s t : Bytes) (is : mapped s ≡ true) (j : ℕ) (hj : suc j < length (bounds s)) (u : Outside (get_or (bounds s) j 0) (get_or (bounds s) (suc j) 0) s t) where
  m : Mapped s
  m = mapped-parts s is

  count : ℕ
  count = block_count (told s 0) (told s 1)

  -- the span ends with the entries, at the latest
  ends : get_or (bounds s) (suc j) 0 ≤ told s 2
  ends =
      omega (
        arith,
        bounds-rise (bounds s) m.starts (suc j) (block_count (told s 0) (told s 1)) (omega (arith, bounds-long s (told s 2) (block_count (told s 0) (told s 1)))) (omega (arith, bounds-long s (told s 2) (block_count (told s 0) (told s 1)))),
        bounds-last s (told s 2) (block_count (told s 0) (told s 1)),
      )

  within : get_or (bounds s) (suc j) 0 + trailer_size ≤ length s
  within = omega (arith, ends, m.table, m.nodes)

  told-are : (i : ℕ) → told s i ≡ told t i
  told-are = told_same u within

  pub bounds-are : bounds s ≡ bounds t
  bounds-are =
      bounds-same u within (told s 2) (block_count (told s 0) (told s 1)) ends
      ∙ ap₂ (λ (a n : ℕ). bounds_from t a n) (told-are 2) (ap₂ block_count (told-are 0) (told-are 1))

  -- the map is the same: nothing of a block's own is looked at
  pub mapped-same : mapped t ≡ true
  mapped-same = told-mapped s t m u within bounds-are

  spans-are : (i : ℕ) → suc i < length (bounds s) → (i ≡ j → ⊥) → get_or (spans s) i no_span ≡ get_or (spans t) i no_span
  spans-are i h n =
      spans-isolated (bounds s) m.starts j hj u (told s 1) (told s 0) i h n
      ∙ ap (λ (bs : List ℕ). get_or (spans_from t (told s 1) (told s 0) bs) i no_span) bounds-are
      ∙ ap₂ (λ (k left : ℕ). get_or (spans_from t k left (bounds t)) i no_span) (told-are 1) (told-are 0)

  many-same : length (card_blocks s) ≡ length (card_blocks t)
  many-same = omega (arith, many s, many t, ap length bounds-are)

  blocks-are : (i : ℕ) → suc i < length (bounds s) → (i ≡ j → ⊥) → get_or (card_blocks s) i (verdict no_span) ≡ get_or (card_blocks t) i (verdict no_span)
  blocks-are i h n = get_or-map verdict (spans s) i no_span ∙ ap verdict (spans-are i h n) ∙ sym (get_or-map verdict (spans t) i no_span)

  front-are : take j (card_blocks s) ≡ take j (card_blocks t)
  front-are =
      let few : j ≤ length (card_blocks s) = omega (arith, many s) in
      let few' : j ≤ length (card_blocks t) = omega (arith, many s, many-same) in
      ext_get_or (verdict no_span) (take j (card_blocks s)) (take j (card_blocks t)) (length-take-le j (card_blocks s) few ∙ sym (length-take-le j (card_blocks t) few')) (λ i h. here i (omega (arith, length-take-le j (card_blocks s) few)))
    where
      here : (i : ℕ) → i < j → get_or (take j (card_blocks s)) i (verdict no_span) ≡ get_or (take j (card_blocks t)) i (verdict no_span)
      here i h = get_or-take j (card_blocks s) i (verdict no_span) h ∙ blocks-are i (omega arith) (λ e. lt_irrefl j (omega arith)) ∙ sym (get_or-take j (card_blocks t) i (verdict no_span) h)

  back-are : drop (suc j) (card_blocks s) ≡ drop (suc j) (card_blocks t)
  back-are =
      ext_get_or (verdict no_span) (drop (suc j) (card_blocks s)) (drop (suc j) (card_blocks t)) (omega (arith, length-drop (suc j) (card_blocks s), length-drop (suc j) (card_blocks t), many-same)) (λ i h. there i (omega (arith, length-drop (suc j) (card_blocks s), many s)))
    where
      there : (i : ℕ) → suc (suc j + i) < length (bounds s) → get_or (drop (suc j) (card_blocks s)) i (verdict no_span) ≡ get_or (drop (suc j) (card_blocks t)) i (verdict no_span)
      there i h = get_or-drop (suc j) (card_blocks s) i (verdict no_span) ∙ blocks-are (suc j + i) h (λ e. lt_irrefl j (omega arith)) ∙ sym (get_or-drop (suc j) (card_blocks t) i (verdict no_span))

  pub isolated : Isolated s t j
  isolated = record {
    front = take j (card_blocks s);
    back = drop (suc j) (card_blocks s);
    own = get_or (card_blocks s) j Broken;
    other = get_or (card_blocks t) j Broken;
    place = length-take-le j (card_blocks s) (omega (arith, many s));
    first = split_at (card_blocks s) j Broken (omega (arith, many s));
    second = split_at (card_blocks t) j Broken (omega (arith, many s, many-same)) ∙ ap₂ (λ (a b : List Block). a ++ (get_or (card_blocks t) j Broken ∷ b)) (sym front-are) (sym back-are);
  }
