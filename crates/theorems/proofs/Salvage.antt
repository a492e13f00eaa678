-- Document 02, CR 5: what a salvage gives of a worn card, over the public call's own function.
--     salvage-isolated  two inputs that differ only inside one block's span, and room for both outputs: every other block has the same row
--                       and the same records, in the same order
--     salvage-nodes     no node record is looked at: two cards that agree outside their node tables give the same
--     salvage-whole     of a sound book everything is kept, and what is written is the list again
--     salvage-faithful  nothing is made up: a kept block's names are 1 to 200 bytes long, rise, are as many as they should be, and its
--                       span is their entries
--     salvage-refuses   no bytes are taken that have the mark of another kind than the plain one, whatever else they are
--     salvage-settles, kept-settle     two results that the statement allows coincide, in the answer, in every byte and in every row
--     example-worn, example-sound, example-differs, example-apart     document 01's book by two, with one byte of its first block changed
-- Assumes nothing.
use Prim.Native.Nat.{ℕ, suc, ◌+◌, ◌-◌, ◌≤◌, ◌<◌, zero-le}
use native.Mathlib.Omega.{arith}
use mathlib.Core.Path.{◌≡◌, refl, sym, ap, ap₂, ◌∙◌, subst}
use mathlib.Core.Bool.{Bool, false, true}
use mathlib.Core.List.{List, [], ◌∷◌, ◌++◌, map, map-append, map-map}
use lib.ListN.{drop, get_or, length, length-map, replicate, take}
use lib.Seq.{get_or-drop, take-append_seam}
use borrow.Author.Tests.{le-leb, leb-true}
use Rattle.words.specs.Words.{Bytes, begins, both, less, pick, plain, same, shared}
use Rattle.words.proofs.Lists.{all-at}
use Rattle.words.proofs.Words.{false≠true, plain-sure, same_refl, same_true}
use Rattle.format.specs.Kinds.{PlainBook, Rows, all_kinds, kind_of, mark_of, marked_as}
use Rattle.format.specs.Layout.{Layout}
use Rattle.format.specs.Book.{book, joined, number, told, trailer_size}
use Rattle.format.specs.Entries.{blocks_from, decode, decode_from, entry, front}
use Rattle.format.specs.Example.{example_by2, text}
use Rattle.format.specs.Outcomes.{given, over, refused}
use Rattle.format.specs.Records.{encode, rising}
use Rattle.format.specs.Salvage.{Block, Whole, block_count, bounds, bounds_from, climbs, from_zero, judged_alone, mapped, spans, spans_from}
use Rattle.format.proofs.Book.{Fits, blocks_at, book-length, book-opened, fits-parts, from-mark, nodes_at, read-field, table-length}
use Rattle.format.proofs.BookKinds.{kind-layout}
use Rattle.format.proofs.Entries.{joined-blocks}
use Rattle.format.proofs.Records.{rising-less, rising-sizes, sound-few, sure-symbols}
use Rattle.format.proofs.Salvage.{Outside, blocks-count, bounds-long, bounds-rise, spans-long, told_same, whole-alone}
use Rattle.streams.proofs.Laid.{Stood, book-stands, rest-stood, verdicts}
use Rattle.answers.specs.Salvage.{Salvaged, card_blocks, records_in, reported, salvage, salvage_from, saved_records}
use Rattle.answers.proofs.Salvage.{block_at, isolated, mapped-parts, mapped-same, nodes-blocks, nodes-mapped, parts-mapped, salvage-gives, salvage-taken, saved-append, saved-whole, saved_as}
use Rattle.shapes.specs.Salvage.{kept_row}
use Rattle.shapes.specs.declared.Kept.{Kept}
use Rattle.shapes.proofs.Salvage.{kept-injective}
use Rattle.theorems.specs.Demands.{BookOf}
use Rattle.theorems.specs.Salvage.{Apart, DiffersIn, Faithful, Proper, worn}
use Rattle.theorems.proofs.Books.{accepted-iff}

-- the front of the room is what was written
front-is : (bs : List Block) (room : Bytes) → take (length (saved_records bs)) (over (saved_records bs) room) ≡ saved_records bs
front-is bs room = take-append_seam (saved_records bs) (drop (length (saved_records bs)) room)

-- ---- a block by itself

module _ (s t : Bytes) (j : ℕ) (is : mapped s ≡ true) (d : DiffersIn s t j) where
  many : length (spans s) ≡ length (bounds s) - 1
  many = spans-long s (told s 1) (told s 0) (bounds s)

  inside : suc j < length (bounds s)
  inside = omega (arith, d.there, many)

  outside : Outside (get_or (bounds s) j 0) (get_or (bounds s) (suc j) 0) s t
  outside = record { order = bounds-rise (bounds s) (mapped-parts s is).starts j (suc j) (omega arith) inside; size = d.size; front = d.before; back = d.behind }

  pub salvage-isolated : (room room' : Bytes) (rows rows' : List (ℕ × ℕ)) → length rows ≡ length (card_blocks s) → length rows' ≡ length (card_blocks s)
      → length (saved_records (card_blocks s)) ≤ length room → length (saved_records (card_blocks t)) ≤ length room' → Apart j (salvage s room rows) (salvage t room' rows')
  unfolding joined
  salvage-isolated room room' rows rows' n n' f f' =
      let i = isolated s t is j inside outside in
      let as_many : length (card_blocks s) ≡ length (card_blocks t) = ap length i.first ∙ same_length i.front i.own i.other i.back ∙ sym (ap length i.second) in
      let a : salvage s room rows ≡ saved_as (card_blocks s) room = salvage-gives s room rows is n f in
      let b : salvage t room' rows' ≡ saved_as (card_blocks t) room' = salvage-gives t room' rows' (mapped-same s t is j inside outside) (n' ∙ as_many) f' in
      record {
        front = i.front;
        back = i.back;
        own = i.own;
        other = i.other;
        place = i.place;
        taken = (ap (λ (w : Salvaged). w.answer.code) a, ap (λ (w : Salvaged). w.answer.code) b);
        rows = (ap (λ (w : Salvaged). w.rows) a ∙ rows_are i.front i.own i.back i.first, ap (λ (w : Salvaged). w.rows) b ∙ rows_are i.front i.other i.back i.second);
        records = (
          ap (λ (w : Salvaged). take w.answer.first w.room) a ∙ front-is (card_blocks s) room ∙ records-are i.front i.own i.back i.first,
          ap (λ (w : Salvaged). take w.answer.first w.room) b ∙ front-is (card_blocks t) room' ∙ records-are i.front i.other i.back i.second,
        );
      }
    where
      same_length : (front : List Block) (x y : Block) (back : List Block) → length (front ++ (x ∷ back)) ≡ length (front ++ (y ∷ back))
      same_length [] x y back = refl
      same_length (z ∷ front) x y back = ap suc (same_length front x y back)

      rows_are : (front : List Block) (x : Block) (back : List Block) {bs : List Block} → bs ≡ front ++ (x ∷ back) → map reported bs ≡ map reported front ++ (reported x ∷ map reported back)
      rows_are front x back e = ap (map reported) e ∙ map-append reported front (x ∷ back)

      records-are : (front : List Block) (x : Block) (back : List Block) {bs : List Block} → bs ≡ front ++ (x ∷ back) → saved_records bs ≡ saved_records front ++ (records_in x ++ saved_records back)
      records-are front x back e = ap saved_records e ∙ saved-append front (x ∷ back)

-- ---- the node table

-- two cards of one length that agree before the node table and in the trailer: no node record is looked at
pub salvage-nodes : (s t : Bytes) → length s ≡ length t → take (told s 3) s ≡ take (told s 3) t → drop (length s - trailer_size) s ≡ drop (length s - trailer_size) t
    → (room : Bytes) (rows : List (ℕ × ℕ)) → salvage s room rows ≡ salvage t room rows
unfolding salvage
salvage-nodes s t size front back room rows = go (mapped s) (mapped t) refl refl
  where
    refusal : Salvaged
    refusal = record { answer = refused 13; room = room; rows = rows }

    outside : mapped s ≡ true → Outside (told s 3) (length s - trailer_size) s t
    outside e = record { order = omega (arith, (mapped-parts s e).nodes); size = size; front = front; back = back }

    -- the trailers are the same bytes, and so the cards can change places
    other : mapped t ≡ true → Outside (told t 3) (length t - trailer_size) t s
    other e =
        let behind : drop (length t - trailer_size) t ≡ drop (length t - trailer_size) s = subst (λ (n : ℕ). drop (n - trailer_size) t ≡ drop (n - trailer_size) s) size (sym back) in
        let trailers : Outside 0 (length t - trailer_size) t s = record { order = zero-le; size = sym size; front = refl; back = behind } in
        let there : told t 3 ≡ told s 3 = told_same trailers (omega (arith, (mapped-parts t e).sized)) 3 in
        record { order = omega (arith, (mapped-parts t e).nodes); size = sym size; front = subst (λ (n : ℕ). take n t ≡ take n s) (sym there) (sym front); back = behind }

    go : (m n : Bool) → mapped s ≡ m → mapped t ≡ n → pick m (salvage_from (card_blocks s) room rows) refusal ≡ pick n (salvage_from (card_blocks t) room rows) refusal
    go true true e f = ap (λ (bs : List Block). salvage_from bs room rows) (nodes-blocks s t e (outside e))
    go true false e f = absurd (false≠true (sym f ∙ nodes-mapped s t e (outside e)))
    go false true e f = absurd (false≠true (sym e ∙ nodes-mapped t s f (other f)))
    go false false e f = refl

-- ---- a sound book

module _ {k : ℕ} {xs : List Bytes} (f : Fits PlainBook k xs) where
  y : Layout plain Rows (mark_of PlainBook)
  y = kind-layout PlainBook

  abbrev B : Bytes
  B = book PlainBook k xs

  names : told B 0 ≡ length xs
  names = read-field y k xs f 0 (omega arith)

  size : told B 1 ≡ k
  size = read-field y k xs f 1 (omega arith)

  table : told B 2 ≡ blocks_at y k xs
  table = read-field y k xs f 2 (omega arith)

  nodes : told B 3 ≡ nodes_at y k xs
  nodes = read-field y k xs f 3 (omega arith)

  stood : Stood B k (nodes_at y k xs) (blocks_at y k xs) 0 xs
  stood =
      let l = book-length y k xs in
      rest-stood B k (blocks_at y k xs) (nodes_at y k xs) f.low f.short (omega (arith, l)) (omega (arith, l)) table xs (blocks_at y k xs) 0 [] (omega arith) (omega (arith, l)) (book-stands y k xs f)

  -- as many bounds as the trailer's numbers say
  count : stood.more ≡ block_count (told B 0) (told B 1)
  count =
      let all : length (verdicts (spans_from B k (length xs) (0 ∷ stood.others))) ≡ length (blocks_from k 0 xs) = ap length stood.whole ∙ length-map (blocks_from k 0 xs) Whole in
      let spans-are : length (verdicts (spans_from B k (length xs) (0 ∷ stood.others))) ≡ length (0 ∷ stood.others) - 1 = length-map (spans_from B k (length xs) (0 ∷ stood.others)) _ ∙ spans-long B k (length xs) (0 ∷ stood.others) in
      let long : length (0 ∷ stood.others) ≡ suc stood.more = sym (ap length stood.are) ∙ bounds-long B (blocks_at y k xs) stood.more in
      let same : stood.more ≡ length (blocks_from k 0 xs) = omega (arith, all, spans-are, long) in
      same ∙ blocks-count k f.low xs ∙ sym (ap₂ block_count names size)

  bounds-are : bounds B ≡ 0 ∷ stood.others
  bounds-are = ap₂ (bounds_from B) table (sym count) ∙ stood.are

  pub book-mapped : mapped B ≡ true
  book-mapped =
      let l = book-length y k xs in
      parts-mapped B (record {
        sized = omega (arith, l);
        few = omega (arith, names, sound-few plain xs f.sound);
        block = ap₂ both (le-leb 1 (told B 1) (omega (arith, size, f.low))) (le-leb (told B 1) 64 (omega (arith, size, f.high)));
        table = omega (arith, table, nodes, count, stood.ends);
        nodes = omega (arith, nodes, read-field y k xs f 4 (omega arith), l, table-length Rows plain xs);
        long = read-field y k xs f 5 (omega arith) ∙ sym l;
        marked = rw (from-mark y k xs) (same_refl (mark_of PlainBook));
        starts = ap from_zero bounds-are ∙ ap (both true) stood.climb;
      })

  pub book-blocks : card_blocks B ≡ map Whole (blocks_from k 0 xs)
  book-blocks = ap₂ (λ (m n : ℕ). verdicts (spans_from B m n (bounds B))) size names ∙ ap (λ (bs : List ℕ). verdicts (spans_from B k (length xs) bs)) bounds-are ∙ stood.whole

pub salvage-whole : (s : Bytes) (k : ℕ) (xs : List Bytes) → BookOf PlainBook s k xs → (room : Bytes) (rows : List (ℕ × ℕ)) → length rows ≡ block_count (length xs) k → length (encode xs) ≤ length room
    → salvage s room rows ≡ record { answer = given (length (encode xs)) 0; room = over (encode xs) room; rows = map (λ (b : List Bytes). (1, length b)) (blocks_from k 0 xs) }
salvage-whole s k xs b room rows n h =
    let o = book-opened PlainBook s k xs ((accepted-iff PlainBook s k xs).1 b).1 in
    let f = fits-parts k xs o.0 in
    let blocks = book-blocks f in
    let list : saved_records (card_blocks (book PlainBook k xs)) ≡ encode xs = ap saved_records blocks ∙ saved-whole (blocks_from k 0 xs) ∙ ap encode (joined-blocks k xs f.low) in
    let many : length rows ≡ length (card_blocks (book PlainBook k xs)) = n ∙ sym (ap length blocks ∙ length-map (blocks_from k 0 xs) Whole ∙ blocks-count k f.low xs) in
    ap (λ (t : Bytes). salvage t room rows) (sym o.1)
    ∙ salvage-gives (book PlainBook k xs) room rows (book-mapped f) many (omega (arith, ap length list))
    ∙ ap₂ (λ (out : Bytes) (r : List (ℕ × ℕ)). record { answer = given (length out) 0; room = over out room; rows = r }) list (ap (map reported) blocks ∙ map-map reported Whole (blocks_from k 0 xs))

-- ---- nothing is made up

pub salvage-faithful : (s room : Bytes) (rows : List (ℕ × ℕ)) → (salvage s room rows).answer.code ≡ 0 → Faithful s (salvage s room rows)
salvage-faithful s room rows z =
    let t = salvage-taken s room rows z in
    let e = salvage-gives s room rows t.makes-sense t.many t.fits in
    record {
      blocks = card_blocks s;
      many = length-map (spans s) _;
      rows = ap (λ (w : Salvaged). w.rows) e;
      records = ap (λ (w : Salvaged). take w.answer.first w.room) e ∙ front-is (card_blocks s) room;
      proper = λ i xs h w. alone i xs (sym (block_at s i h) ∙ w);
    }
  where
    alone : (i : ℕ) (xs : List Bytes) → judged_alone (get_or (spans s) i (0, [])).0 (get_or (spans s) i (0, [])).1 ≡ Whole xs → Proper (get_or (spans s) i (0, [])).0 (get_or (spans s) i (0, [])).1 xs
    alone i xs e =
        let a = whole-alone _ _ xs e in
        record { count = a.count; sizes = all-at [] xs (rising-sizes plain [] xs a.rises); rises = rising-less plain xs (sure-symbols plain plain-sure xs) a.rises; entries = a.entries }

-- ---- the mark

pub salvage-refuses : (s : Bytes) → (kind_of s ≡ PlainBook → ⊥) → (room : Bytes) (rows : List (ℕ × ℕ)) → salvage s room rows ≡ record { answer = refused 13; room = room; rows = rows }
unfolding salvage
salvage-refuses s other room rows = go (mapped s) refl
  where
    -- where the map makes sense, the mark's third byte is the plain one
    third : mapped s ≡ true → get_or s (length s - 2) 0 ≡ 0x4B
    third e =
        let m = mapped-parts s e in
        let there : length s - 2 ≡ length s - 4 + 2 = omega (arith, m.sized) in
        ap (λ (i : ℕ). get_or s i 0) there ∙ sym (get_or-drop (length s - 4) s 2 0) ∙ ap (λ (t : Bytes). get_or t 2 0) (same_true (drop (length s - 4) s) (mark_of PlainBook) m.marked)

    go : (t : Bool) → mapped s ≡ t → pick t (salvage_from (card_blocks s) room rows) (record { answer = refused 13; room = room; rows = rows }) ≡ record { answer = refused 13; room = room; rows = rows }
    go false e = refl
    go true e = absurd (other (ap (λ (b : ℕ). marked_as b all_kinds) (third e)))

-- ---- two results that the statement allows

pub salvage-settles : (s room : Bytes) (rows : List (ℕ × ℕ)) (a b : Salvaged) → a ≡ salvage s room rows → b ≡ salvage s room rows → (a.answer ≡ b.answer) × (a.room ≡ b.room) × (a.rows ≡ b.rows)
salvage-settles s room rows a b e f =
    let g : a ≡ b = e ∙ sym f in
    (ap (λ (w : Salvaged). w.answer) g, ap (λ (w : Salvaged). w.room) g, ap (λ (w : Salvaged). w.rows) g)

pub kept-settle : (ns : List (ℕ × ℕ)) (rs ts : List Kept) → map kept_row rs ≡ ns → map kept_row ts ≡ ns → rs ≡ ts
kept-settle ns rs ts e f = kept-injective rs ts (e ∙ sym f)

-- ---- a worn card

-- two blocks; the first is dropped, the second kept with its name
pub example-worn : salvage worn (replicate 15 7) ((5, 5) ∷ (5, 5) ∷ []) ≡ record { answer = given 14 0; room = 13 ∷ text "Market Square" ++ (7 ∷ []); rows = (0, 0) ∷ (1, 1) ∷ [] }
unfolding shared less joined encode decode decode_from entry front rising bounds_from climbs spans_from mapped judged_alone salvage salvage_from number same begins
example-worn = refl

pub example-sound : salvage example_by2 (replicate 26 7) ((5, 5) ∷ (5, 5) ∷ []) ≡ record { answer = given 25 0; room = 3 ∷ text "Mar" ++ (6 ∷ text "Marina" ++ (13 ∷ text "Market Square" ++ (7 ∷ []))); rows = (1, 2) ∷ (1, 1) ∷ [] }
unfolding shared less joined encode decode decode_from entry front rising bounds_from climbs spans_from mapped judged_alone salvage salvage_from number same begins
example-sound = refl

pub example-differs : DiffersIn example_by2 worn 0
unfolding bounds_from spans_from number
example-differs = record { there = leb-true 1 (length (spans example_by2)) refl; size = refl; before = refl; behind = refl }

pub example-apart : Apart 0 (salvage example_by2 (replicate 26 7) ((5, 5) ∷ (5, 5) ∷ [])) (salvage worn (replicate 15 7) ((5, 5) ∷ (5, 5) ∷ []))
unfolding shared less joined encode decode decode_from entry front rising bounds_from climbs spans_from mapped judged_alone number same begins
example-apart = salvage-isolated example_by2 worn 0 refl example-differs (replicate 26 7) (replicate 15 7) ((5, 5) ∷ (5, 5) ∷ []) ((5, 5) ∷ (5, 5) ∷ []) refl refl (leb-true (length (saved_records (card_blocks example_by2))) 26 refl) (leb-true (length (saved_records (card_blocks worn))) 15 refl)
