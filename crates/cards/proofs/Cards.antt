-- Laws of a worn card's map and of its blocks.
--     mark-told, told-mark      the mark as bytes, and as two numbers
--     mapped-trail              a map that makes sense has a trailer that passes
--     mapped-kind, not_plain, is_plain     it is a plain book's
--     not-trailed, trailed, MapRead, map_read, not-met, map-climbs, mapped-is     whether a map makes sense, by the code's tests
--     mapped-long, mapped-few, mapped-low, mapped-high, mapped-table     what it shows
--     bound-inner, bound-last   a bound, where the code reads it
--     StartsClimb: climbing-start, climbing-more, climbing-falls, climbing-done     the loop over the starts
--     span-is                   a block's span
--     whole_says                whether it is whole, by what the check of a block says
--     kept_by, whole_by         block number i then, and back
--     noted-says                by what was noted of it
--     is-kept, is-dropped, row_kept     what is found of it, and its report row
-- Assumes nothing.
use Prim.Native.Nat.{ℕ, zero, suc, ◌+◌, ◌-◌, ◌*◌, ◌<◌, ◌≤◌}
use native.Mathlib.Nat.{lt_irrefl}
use native.Mathlib.Omega.{arith}
use mathlib.Core.Path.{◌≡◌, refl, sym, ap, ap₂, ◌∙◌, subst}
use mathlib.Core.Logic.{◌⊎◌, inl, inr}
use mathlib.Core.Bool.{Bool, true, false}
use mathlib.Core.List.{List, [], ◌∷◌}
use lib.Dec.{eqb, leb, ltb}
use lib.ListN.{drop, get_or, length, take}
use lib.Seq.{take-length}
use borrow.Author.Tests.{eq-eqb, le-leb, leb-true, lt-ltb, ltb-true}
use Rattle.words.specs.Words.{Bytes, InBytes, both, plain, same}
use Rattle.words.proofs.Words.{apart, both_true, false≠true, same_refl, same_true}
use Rattle.format.specs.Book.{number, numbers, told, trailer_size}
use Rattle.format.specs.Kinds.{BookKind, PlainBook, form_of, kind_of, mark_of, record_size}
use Rattle.format.specs.Nodes.{node_size}
use Rattle.format.specs.Salvage.{Block, Broken, Whole, block_count, bounds, climbs, from_zero, judged_alone, mapped, spans}
use Rattle.format.proofs.Numbers.{numbers-are, numbers-told}
use Rattle.format.proofs.Salvage.{bounds-inner, bounds-last, bounds-long, bounds-rise, climbs-end, climbs-next, count-few, count-starts, from_first, span-at, whole-alone, whole_tells}
use Rattle.answers.specs.Salvage.{card_blocks, reported}
use Rattle.answers.proofs.Salvage.{Mapped, block_at, blocks-many, mapped-parts}
use Rattle.numbers.proofs.Parts.{Held, held_bytes}
use Rattle.kinds.specs.Known.{kind_by, mark_back, mark_front}
use Rattle.kinds.proofs.Telling.{kind-told}
use Rattle.trailer.proofs.Telling.{mark-kind}
use Rattle.trailer.specs.Trailer.{Trail, TrailSays, trailer_in}
use Rattle.trailer.specs.declared.Trailer.{Trailer}
use Rattle.streams.proofs.Alone.{alone-run, run_alone}
use Rattle.runs.specs.Judging.{BlockSays}
use Rattle.cards.specs.Cards.{CardBlockAsk, IsWhole, KeptSays, PlainSays, SpanIs, Table, Verdicts, WholeSays, names_of_block}
use Rattle.notes.specs.Notes.{noted}

-- ---- the trailer

module _ (s : Bytes) (long : trailer_size ≤ length s) where
  abbrev end : ℕ
  end = length s - 4

  -- the mark's numbers are the trailer's last two
  place : (i : ℕ) → number s (length s - trailer_size + 2 * (6 + i)) ≡ number s (end + 2 * i)
  place i = let there : length s - trailer_size + 2 * (6 + i) ≡ end + 2 * i = omega arith in ap (number s) there

  pub told-mark : InBytes s → told s 6 ≡ mark_front → told s 7 ≡ mark_back PlainBook → same (drop end s) (mark_of PlainBook) ≡ true
  unfolding numbers
  told-mark bytes front back =
      let are : drop end s ≡ mark_of PlainBook = ap (drop end) (sym (take-length s)) ∙ numbers-are s bytes (mark_front ∷ mark_back PlainBook ∷ []) end (length s) (omega arith) (omega arith) at in
      rw are (same_refl (mark_of PlainBook))
    where
      at : (i : ℕ) → i < 2 → number s (end + 2 * i) ≡ get_or (mark_front ∷ mark_back PlainBook ∷ []) i 0
      at zero h = sym (place 0) ∙ front
      at (suc zero) h = sym (place 1) ∙ back
      at (suc (suc i)) h = absurd (omega arith)

  pub mark-told : same (drop end s) (mark_of PlainBook) ≡ true → (told s 6 ≡ mark_front) × (told s 7 ≡ mark_back PlainBook)
  unfolding numbers
  mark-told e =
      let are : drop end (take (length s) s) ≡ numbers (mark_front ∷ mark_back PlainBook ∷ []) = ap (drop end) (take-length s) ∙ same_true (drop end s) (mark_of PlainBook) e in
      let at : (i : ℕ) → i < 2 → get_or (mark_front ∷ mark_back PlainBook ∷ []) i 0 < 65536 → number s (end + 2 * i) ≡ get_or (mark_front ∷ mark_back PlainBook ∷ []) i 0 =
      numbers-told s (mark_front ∷ mark_back PlainBook ∷ []) end (length s) (omega arith) (omega arith) are in
      (place 0 ∙ at 0 (omega arith) (omega arith), place 1 ∙ at 1 (omega arith) (omega arith))

number_fits : (s : Bytes) → InBytes s → (o : ℕ) → number s o < 65536
unfolding number
number_fits s bytes o = omega (arith, bytes o, bytes (o + 1))

pub mapped-kind : {s : Bytes} → InBytes s → Mapped s → kind_of s ≡ PlainBook
mapped-kind {s} bytes m = mark-kind s m.sized bytes PlainBook (mark-told s m.sized m.marked).1

-- the records of a plain book's table
records-plain : (s : Bytes) → kind_of s ≡ PlainBook → told s 4 * record_size (form_of (kind_of s)) ≡ told s 4 * node_size
records-plain s e = ap (λ (κ : BookKind). told s 4 * record_size (form_of κ)) e

pub mapped-trail : {s : Bytes} → InBytes s → Mapped s → Trail s
mapped-trail {s} bytes m =
    let size = both_true (leb 1 (told s 1)) (leb (told s 1) 64) m.block in
    let marks = mark-told s m.sized m.marked in
    record {
      long = m.sized;
      short = omega (arith, number_fits s bytes (length s - trailer_size + 2 * 5), m.long);
      few = m.few;
      low = leb-true 1 (told s 1) size.0;
      high = leb-true (told s 1) 64 size.1;
      order = omega (arith, m.table);
      total = omega (arith, m.nodes, records-plain s (mapped-kind bytes m));
      whole = m.long;
      front = marks.0;
      back = marks.1 ∙ ap mark_back (sym (mapped-kind bytes m));
    }

-- a Boolean that cannot be true
no-map : (t : Bool) → (t ≡ true → ⊥) → false ≡ t
no-map true h = absurd (h refl)
no-map false h = refl

pub not-trailed : (s : Bytes) → Held s → (r : Bool) → TrailSays s r → r ≡ false → false ≡ mapped s
not-trailed s held true says h = absurd (false≠true (sym h))
not-trailed s held false says h = no-map (mapped s) (λ e. says (mapped-trail (held_bytes s held) (mapped-parts s e)))

pub trailed : (s : Bytes) (r : Bool) → TrailSays s r → r ≡ true → Trail s
trailed s true says h = says
trailed s false says h = absurd (false≠true h)

-- the mark is not a plain book's
pub not_plain : (s : Bytes) (t : Trailer) → Held s → t ≡ trailer_in s → (r : Bool) → PlainSays (kind_by t.kind) r → r ≡ false → false ≡ mapped s
not_plain s t held e true says h = absurd (false≠true (sym h))
not_plain s t held e false says h =
    no-map (mapped s) (λ m. says (ap (λ (x : Trailer). kind_by x.kind) e ∙ kind-told (kind_of s) ∙ mapped-kind (held_bytes s held) (mapped-parts s m)))

pub is_plain : (s : Bytes) (t : Trailer) → t ≡ trailer_in s → (r : Bool) → PlainSays (kind_by t.kind) r → r ≡ true → kind_of s ≡ PlainBook
is_plain s t e true says h = sym (ap (λ (x : Trailer). kind_by x.kind) e ∙ kind-told (kind_of s)) ∙ says
is_plain s t e false says h = absurd (false≠true h)

-- the numbers that the code has read
pub record MapRead (s : Bytes) (table count nodes : ℕ) : Type 0 where
  pub trail : Trail s
  pub plain : kind_of s ≡ PlainBook
  pub table_is : table ≡ told s 2
  pub count-is : count ≡ block_count (told s 0) (told s 1)
  pub nodes-is : nodes ≡ told s 3

pub map_read : {s : Bytes} {t : Trailer} {n k table count nodes : ℕ} → Trail s → kind_of s ≡ PlainBook → t ≡ trailer_in s → n ≡ t.names → k ≡ t.block → table ≡ t.blocks_at → nodes ≡ t.nodes_at → count ≡ block_count n k → MapRead s table count nodes
map_read trail plain e ne ke te ue ce = record {
  trail = trail;
  plain = plain;
  table_is = te ∙ ap (λ (t : Trailer). t.blocks_at) e;
  count-is = ce ∙ ap₂ block_count (ne ∙ ap (λ (t : Trailer). t.names) e) (ke ∙ ap (λ (t : Trailer). t.block) e);
  nodes-is = ue ∙ ap (λ (t : Trailer). t.nodes_at) e;
}

module _ {s : Bytes} {table count nodes : ℕ} (w : MapRead s table count nodes) where
  pub not-met : (table + 2 * count ≡ nodes → ⊥) → false ≡ mapped s
  not-met away = no-map (mapped s) (λ e. away (omega (arith, (mapped-parts s e).table, w.table_is, w.count-is, w.nodes-is)))

  module _ (met : table + 2 * count ≡ nodes) where
    size : told s 2 + 2 * block_count (told s 0) (told s 1) ≡ told s 3
    size = omega (arith, w.table_is, w.count-is, w.nodes-is)

    pub map-climbs : Held s → {r : Bool} → r ≡ from_zero (bounds s) → r ≡ mapped s
    unfolding mapped
    map-climbs held e =
        let t = w.trail in
        rw (le-leb trailer_size (length s) t.long, le-leb (told s 0) 2000 t.few, le-leb 1 (told s 1) t.low, le-leb (told s 1) 64 t.high, eq-eqb (told s 2 + 2 * block_count (told s 0) (told s 1)) (told s 3) size, eq-eqb (told s 3 + 12 * told s 4 + trailer_size) (length s) (omega (arith, t.total, records-plain s w.plain)), eq-eqb (told s 5) (length s) t.whole, told-mark s t.long (held_bytes s held) t.front (t.back ∙ ap mark_back w.plain))
        e

pub mapped-is : (s : Bytes) {m : Bool} → m ≡ mapped s → m ≡ true → mapped s ≡ true
mapped-is s {m} e h = sym e ∙ h

-- ---- what a map that makes sense shows

module _ (s : Bytes) (e : mapped s ≡ true) where
  m : Mapped s
  m = mapped-parts s e

  pub mapped-long : trailer_size ≤ length s
  mapped-long = m.sized

  pub mapped-few : told s 0 ≤ 2000
  mapped-few = m.few

  pub mapped-low : 1 ≤ told s 1
  mapped-low = leb-true 1 (told s 1) (both_true (leb 1 (told s 1)) (leb (told s 1) 64) m.block).0

  pub mapped-high : told s 1 ≤ 64
  mapped-high = leb-true (told s 1) 64 (both_true (leb 1 (told s 1)) (leb (told s 1) 64) m.block).1

  pub mapped-table : (i : ℕ) → i ≤ block_count (told s 0) (told s 1) → Table s i
  mapped-table i h = record { within = omega (arith, m.nodes); size = m.table; upto = h }

-- ---- bounds

module _ {s : Bytes} {i table nodes : ℕ} (t : Table s i) (te : table ≡ told s 2) (ne : nodes ≡ told s 3) where
  abbrev count : ℕ
  count = block_count (told s 0) (told s 1)

  pub bound-last : table + 2 * i ≡ nodes → table ≡ get_or (bounds s) i 0
  bound-last e =
      let same : block_count (told s 0) (told s 1) ≡ i = omega (arith, t.size) in
      te ∙ sym (bounds-last s (told s 2) count) ∙ ap (λ (n : ℕ). get_or (bounds s) n 0) same

  pub bound-inner : {r : ℕ} → (table + 2 * i ≡ nodes → ⊥) → r ≡ number s (table + 2 * i) → r ≡ get_or (bounds s) i 0
  bound-inner away re = re ∙ ap (λ (o : ℕ). number s (o + 2 * i)) te ∙ sym (bounds-inner s (told s 2) count i (before (apart i count)))
    where
      before : (i < block_count (told s 0) (told s 1)) ⊎ (block_count (told s 0) (told s 1) ≤ i) → i < block_count (told s 0) (told s 1)
      before (inl h) = h
      before (inr h) = absurd (away (omega (arith, t.upto, t.size)))

-- i bounds are passed, the last of them `at`; whether all climb is told by the others
pub record StartsClimb (s : Bytes) (count i at : ℕ) : Type 0 where
  pub upto : i ≤ count
  pub many : length (bounds s) ≡ suc count
  pub others : from_zero (bounds s) ≡ climbs at (drop (suc i) (bounds s))

module _ (s : Bytes) {count : ℕ} (ce : count ≡ block_count (told s 0) (told s 1)) where
  all-bounds : length (bounds s) ≡ suc count
  all-bounds = bounds-long s (told s 2) (block_count (told s 0) (told s 1)) ∙ ap suc (sym ce)

  first-is : {at : ℕ} → at ≡ get_or (bounds s) 0 0 → from_zero (bounds s) ≡ both (eqb at 0) (climbs at (drop 1 (bounds s)))
  first-is {at} e = from_first (bounds s) (omega (arith, all-bounds)) ∙ ap (λ (a : ℕ). both (eqb a 0) (climbs a (drop 1 (bounds s)))) (sym e)

  pub climbing-start : {at : ℕ} → at ≡ get_or (bounds s) 0 0 → at ≡ 0 → StartsClimb s count 0 at
  climbing-start {at} e z = record { upto = omega arith; many = all-bounds; others = first-is e ∙ ap (λ (t : Bool). both t (climbs at (drop 1 (bounds s)))) (eq-eqb at 0 z) }

module _ {s : Bytes} {count i at next : ℕ} (w : StartsClimb s count i at) (h : i < count) (e : next ≡ get_or (bounds s) (i + 1) 0) where
  one_more : from_zero (bounds s) ≡ both (ltb at next) (climbs next (drop (suc (i + 1)) (bounds s)))
  one_more =
      let number_is : suc i ≡ i + 1 = omega arith in
      w.others ∙ ap (λ (j : ℕ). climbs at (drop j (bounds s))) number_is ∙ climbs-next at (bounds s) (i + 1) (omega (arith, w.many))
      ∙ ap (λ (b : ℕ). both (ltb at b) (climbs b (drop (suc (i + 1)) (bounds s)))) (sym e)

  pub climbing-falls : next ≤ at → false ≡ from_zero (bounds s)
  climbing-falls l = no-map (from_zero (bounds s)) (λ t. lt_irrefl at (omega (arith, ltb-true at next (both_true (ltb at next) (climbs next (drop (suc (i + 1)) (bounds s))) (sym one_more ∙ t)).0)))

  pub climbing-more : at < next → StartsClimb s count (i + 1) next
  climbing-more l = record { upto = omega arith; many = w.many; others = one_more ∙ ap (λ (t : Bool). both t (climbs next (drop (suc (i + 1)) (bounds s)))) (lt-ltb at next l) }

pub climbing-done : {s : Bytes} {count i at : ℕ} → StartsClimb s count i at → count ≤ i → true ≡ from_zero (bounds s)
climbing-done {s} {count} {i} {at} w h = sym (w.others ∙ climbs-end at (bounds s) (suc i) (omega (arith, w.many)))

-- ---- a block

module _ {s : Bytes} {i : ℕ} (ask : CardBlockAsk s i) where
  here : i < block_count (told s 0) (told s 1)
  here = omega (arith, ask.within, blocks-many s)

  pub span-within : i ≤ block_count (told s 0) (told s 1)
  span-within = omega (arith, here)

  pub span-few : i < 2000
  span-few = omega (arith, here, count-few (told s 0) (told s 1) (mapped-low s ask.map), mapped-few s ask.map)

  pub span-first : Table s i
  span-first = mapped-table s ask.map i span-within

  pub span-behind : Table s (i + 1)
  span-behind = mapped-table s ask.map (i + 1) (omega (arith, here))

  pub span-names : {t : Trailer} {n k : ℕ} → t ≡ trailer_in s → n ≡ t.names → k ≡ t.block → i * k < n
  span-names {t} {n} {k} e ne ke =
      let block : told s 1 ≡ k = sym (ke ∙ ap (λ (t : Trailer). t.block) e) in
      let names : told s 0 ≡ n = sym (ne ∙ ap (λ (t : Trailer). t.names) e) in
      subst (λ (x : ℕ). i * x < n) block (subst (λ (x : ℕ). i * told s 1 < x) names (count-starts (told s 0) (told s 1) (mapped-low s ask.map) i here))

  pub span-is : {start end names : ℕ} → start ≡ get_or (bounds s) i 0 → end ≡ get_or (bounds s) (i + 1) 0 → names ≡ names_of_block s i → SpanIs s i start end names
  span-is {start} {end} {names} se ee ne =
      let p : Mapped s = mapped-parts s ask.map in
      let count = block_count (told s 0) (told s 1) in
      let many : length (bounds s) ≡ suc count = bounds-long s (told s 2) count in
      let last : get_or (bounds s) (suc i) 0 ≤ get_or (bounds s) count 0 = bounds-rise (bounds s) p.starts (suc i) count (omega (arith, here)) (omega (arith, many)) in
      let next : i + 1 ≡ suc i = omega arith in
      let ee' : end ≡ get_or (bounds s) (suc i) 0 = ee ∙ ap (λ (j : ℕ). get_or (bounds s) j 0) next in
      record {
        order = omega (arith, se, ee', bounds-rise (bounds s) p.starts i (suc i) (omega arith) (omega (arith, many, here)));
        inside = omega (arith, ee', last, bounds-last s (told s 2) count, p.table, p.nodes);
        few = omega (arith, ne, mapped-high s ask.map);
        is = span-at s (told s 1) (told s 0) (bounds s) i (omega (arith, many, here)) ∙ ap₂ (λ (n : ℕ) (l : Bytes). (n, l)) (sym ne) (ap₂ (λ (a b : ℕ). take (b - a) (drop a s)) (sym se) (sym ee'));
      }

  pub block-is : {start end names : ℕ} → SpanIs s i start end names → get_or (card_blocks s) i Broken ≡ judged_alone names (take (end - start) (drop start s))
  block-is {start} {end} {names} k = block_at s i ask.within ∙ ap (λ (b : ℕ × Bytes). judged_alone b.0 b.1) k.is

-- whether a block is whole, by what the check of it says
pub whole_says : (s : Bytes) (start end names : ℕ) → start ≤ end → end ≤ length s → (r : Bool) (name : Bytes) → BlockSays plain s start end names r name → WholeSays s start end names r
whole_says s start end names o h true name says = whole_tells names (take (end - start) (drop start s)) _ (run_alone s start end names h _ says)
whole_says s start end names o h false name says = broken (judged_alone names (take (end - start) (drop start s))) refl
  where
    broken : (b : Block) → judged_alone names (take (end - start) (drop start s)) ≡ b → b ≡ Broken
    broken (Whole xs) e = absurd (says _ (alone-run s start end names h o xs e))
    broken Broken e = refl

-- ---- whether a block is kept, and its report row

module _ {s : Bytes} {i : ℕ} (ask : CardBlockAsk s i) where
  -- by what the code found of its span
  module _ {start end names : ℕ} (k : SpanIs s i start end names) where
    pub kept_by : (r : Bool) → WholeSays s start end names r → KeptSays s i r
    kept_by true says = (_, block-is ask k ∙ says)
    kept_by false says = block-is ask k ∙ says

    pub whole_by : IsWhole s i → WholeSays s start end names true
    whole_by t = whole_tells names (take (end - start) (drop start s)) t.0 (sym (block-is ask k) ∙ t.1)

  -- by what was noted of it
  pub noted-says : {notes : List ℕ} → Verdicts s notes → (r : Bool) → r ≡ noted notes i → KeptSays s i r
  noted-says v r e = subst (KeptSays s i) (sym e) (v.all i ask.within)

  module _ (r : Bool) (says : KeptSays s i r) where
    pub is-dropped : r ≡ false → get_or (card_blocks s) i Broken ≡ Broken
    is-dropped h = go r says h
      where
        go : (t : Bool) → KeptSays s i t → t ≡ false → get_or (card_blocks s) i Broken ≡ Broken
        go true k e = absurd (false≠true (sym e))
        go false k e = k

    pub is-kept : r ≡ true → IsWhole s i
    is-kept h = go r says h
      where
        go : (t : Bool) → KeptSays s i t → t ≡ true → IsWhole s i
        go true k e = k
        go false k e = absurd (false≠true e)

    pub row_kept : r ≡ true → {n : ℕ} → n ≡ names_of_block s i → (1, n) ≡ reported (get_or (card_blocks s) i Broken)
    row_kept h {n} ne =
        let whole = is-kept h in
        let span : get_or (spans s) i (0, []) ≡ (names_of_block s i, _) = span-at s (told s 1) (told s 0) (bounds s) i (omega (arith, here ask, bounds-long s (told s 2) (block_count (told s 0) (told s 1)))) in
        let alone : judged_alone (names_of_block s i) _ ≡ Whole whole.0 = sym (block_at s i ask.within ∙ ap (λ (b : ℕ × Bytes). judged_alone b.0 b.1) span) ∙ whole.1 in
        sym (ap reported whole.1 ∙ ap (λ (m : ℕ). (1, m)) ((whole-alone (names_of_block s i) _ whole.0 alone).count ∙ sym ne))
