-- Lists of names and runs of bytes: the round trips, over any lawful rule and either kind of book.
--     list_read, list_written    a sound list is read from its records, and what is read is sound and those records
--     entries-read, block_read   entries decode to the names, also from any block's start on and after any name
--     layout-writes, layout-trip     by any rule, form of table and mark of four bytes: building writes the book of a list; from the code 0 of a build the list is told again
--     build-writes, book-reads   by a kind of book: building writes the book of a list, and reading back gives each of its names
--     round_trip                 both at once, from the code 0 of a build: the list is given again, as the bytes' own mark reads it
--     rest_some                  the rest of an entry is never empty
-- Assumes nothing.
use Prim.Native.Nat.{ℕ, ◌*◌, ◌≤◌, ◌<◌}
use native.Mathlib.Omega.{arith}
use mathlib.Core.Path.{◌≡◌, refl, sym, ap, ◌∙◌, subst}
use mathlib.Core.Bool.{Bool, false, true}
use mathlib.Core.List.{List, [], map}
use lib.Dec.{leb}
use lib.ListN.{length, get_or, drop, take, length-drop, length-map}
use lib.Seq.{take-append_seam}
use borrow.Author.Tests.{le-leb, leb-true, lt-ltb}
use Rattle.words.specs.Words.{Bytes, Rule, less, pick, shared, word}
use Rattle.words.proofs.Lists.{all-at}
use Rattle.words.proofs.Rising.{nth-less, nth-word}
use Rattle.words.proofs.Words.{both_true, less-short, shared-word-le}
use Rattle.format.specs.Kinds.{BookKind, Form}
use Rattle.format.specs.Layout.{Layout}
use Rattle.format.specs.Book.{book, book_by, entry_part, fits, fits_by, good_block, is_book_by, longest_book, names_of, told}
use Rattle.format.specs.Entries.{blocks, decode, decode_from, offsets}
use Rattle.format.specs.Records.{Names, Reading, Refused, encode, most_names, read_list, sound}
use Rattle.format.proofs.Book.{book-is, fits-parts, is-book, opened-book, parts-fits, read-field, read_names}
use Rattle.format.proofs.BookKinds.{kind-layout}
use Rattle.format.proofs.Entries.{decode-at, decode-entries}
use Rattle.format.proofs.Records.{read-encode, read-refused, read-sound, rising-sizes, sound-few, sound-rising, symbols-rises}
use Rattle.format.specs.Outcomes.{Written, check_of, given, over, refused, write}
use Rattle.answers.specs.Calls.{build, build_by, built_from, check, read_back, read_back_of}
use Rattle.theorems.specs.Demands.{RoundTrip}
use Rattle.theorems.specs.Layouts.{AllLettered, BuiltBy}
use Rattle.theorems.proofs.Lettered.{names-symbols}

module _ (ρ : Rule) where
  pub list_read : (xs : List Bytes) → sound ρ xs ≡ true → read_list ρ most_names (encode xs) ≡ Names xs
  list_read xs h = read-encode ρ most_names xs (sound-few ρ xs h) (sound-rising ρ xs h)

  pub list_written : (s : Bytes) (xs : List Bytes) → read_list ρ most_names s ≡ Names xs → (encode xs ≡ s) × (sound ρ xs ≡ true)
  list_written s xs e = read-sound ρ s xs e

module _ (k : ℕ) (xs : List Bytes) where
  pub entries-read : 1 ≤ k → decode (entry_part k xs) ≡ xs
  entries-read h = decode-entries k xs h

  pub block_read : (j : ℕ) (prev : Bytes) → 1 ≤ k → j * k < length xs → decode_from prev 0 (drop (get_or (offsets 0 (blocks k xs)) j 0) (entry_part k xs)) ≡ drop (j * k) xs
  block_read j prev h l = decode-at k j prev xs h l

-- ---- by any rule, form of table and mark

module _ {ρ : Rule} {f : Form} {mark : Bytes} (y : Layout ρ f mark) where
  pub layout-writes : (k : ℕ) (xs : List Bytes) → fits_by ρ f mark k xs ≡ true → (room : Bytes) → length (book_by ρ f mark k xs) ≤ length room
      → build_by ρ f mark (encode xs) k room ≡ record { answer = given (length (book_by ρ f mark k xs)) 0; room = over (book_by ρ f mark k xs) room }
  unfolding build_by built_from
  layout-writes k xs h room l =
      let b = fits-parts k xs h in
      rw (le-leb 1 k b.low, le-leb k 64 b.high, list_read ρ xs b.sound, le-leb (length (book_by ρ f mark k xs)) longest_book b.short, le-leb (length (book_by ρ f mark k xs)) (length room) l) refl

  module _ (list : Bytes) (k : ℕ) (room : Bytes) where
    abbrev Trip : Written → Type 0
    Trip w = w.answer.code ≡ 0 → BuiltBy ρ f mark list k room w

    -- the book of a list that fits, written into a room that holds it
    module _ (xs : List Bytes) (listed : encode xs ≡ list) (fit : fits_by ρ f mark k xs ≡ true) where
      trip : BuiltBy ρ f mark list k room (record { answer = given (length (book_by ρ f mark k xs)) 0; room = over (book_by ρ f mark k xs) room })
      trip = record {
        names = xs;
        listed = listed;
        wrote = refl;
        is = ap (is_book_by ρ f mark) front ∙ book-is k xs y fit;
        block = ap (λ (s : Bytes). told s 1) front ∙ read-field y k xs (fits-parts k xs fit) 1 (omega arith);
        again = ap names_of front ∙ read_names y k xs (fits-parts k xs fit);
      }
        where
          front : take (length (book_by ρ f mark k xs)) (over (book_by ρ f mark k xs) room) ≡ book_by ρ f mark k xs
          front = take-append_seam (book_by ρ f mark k xs) (drop (length (book_by ρ f mark k xs)) room)

    trip-from : good_block k ≡ true → (r : Reading) → read_list ρ most_names list ≡ r → Trip (built_from ρ f mark k room r)
    unfolding built_from
    trip-from good (Refused code i) p e = absurd (omega (arith, read-refused ρ most_names list code i p))
    trip-from good (Names xs) p e = short (leb (length (book_by ρ f mark k xs)) longest_book) refl e
      where
        a : (encode xs ≡ list) × (sound ρ xs ≡ true)
        a = read-sound ρ list xs p

        g : (leb 1 k ≡ true) × (leb k 64 ≡ true)
        g = both_true (leb 1 k) (leb k 64) good

        fit : leb (length (book_by ρ f mark k xs)) longest_book ≡ true → fits_by ρ f mark k xs ≡ true
        fit h = parts-fits k xs (record { low = leb-true 1 k g.0; high = leb-true k 64 g.1; sound = a.1; short = leb-true (length (book_by ρ f mark k xs)) longest_book h })

        put : leb (length (book_by ρ f mark k xs)) longest_book ≡ true → (t : Bool)
            → Trip (pick t (record { answer = given (length (book_by ρ f mark k xs)) 0; room = over (book_by ρ f mark k xs) room }) (record { answer = refused 4; room = room }))
        put h true e = trip xs a.0 (fit h)
        put h false e = absurd (omega (arith, e))

        short : (t : Bool) → leb (length (book_by ρ f mark k xs)) longest_book ≡ t → Trip (pick t (write (book_by ρ f mark k xs) room) (record { answer = refused 9; room = room }))
        short true h e = put h (leb (length (book_by ρ f mark k xs)) (length room)) e
        short false h e = absurd (omega (arith, e))

    pub layout-trip : (build_by ρ f mark list k room).answer.code ≡ 0 → BuiltBy ρ f mark list k room (build_by ρ f mark list k room)
    unfolding build_by
    layout-trip = go (good_block k) refl
      where
        go : (t : Bool) → good_block k ≡ t → Trip (pick t (built_from ρ f mark k room (read_list ρ most_names list)) (record { answer = refused 8; room = room }))
        go true h e = trip-from h (read_list ρ most_names list) refl e
        go false h e = absurd (omega (arith, e))

-- ---- by a kind of book, as the public calls go

module _ (κ : BookKind) (k : ℕ) (xs : List Bytes) (fit : fits κ k xs ≡ true) where
  pub build-writes : (room : Bytes) → length (book κ k xs) ≤ length room
      → build κ (encode xs) k room ≡ record { answer = given (length (book κ k xs)) 0; room = over (book κ k xs) room }
  build-writes room h = layout-writes (kind-layout κ) k xs fit room h

  pub book-reads : (i : ℕ) (room : Bytes) → i < length xs → length (get_or xs i []) ≤ length room
      → read_back (book κ k xs) i room ≡ record { answer = given (length (get_or xs i [])) 0; room = over (get_or xs i []) room }
  unfolding read_back read_back_of
  book-reads i room l h = rw (opened-book κ k xs fit, lt-ltb i (length xs) l, le-leb (length (get_or xs i [])) (length room) h) refl

pub round_trip : (κ : BookKind) (list : Bytes) (k : ℕ) (room : Bytes) → (build κ list k room).answer.code ≡ 0 → RoundTrip κ list k room (build κ list k room)
unfolding check check_of
round_trip κ list k room e =
    let w = build κ list k room in
    let t = layout-trip (kind-layout κ) list k room e in
    let s : Bytes = take w.answer.first w.room in
    let b = is-book (kind-layout κ) s t.is in
    let fit : fits κ k t.names ≡ true = subst (λ (xs : List Bytes). fits κ k xs ≡ true) t.again (subst (λ (j : ℕ). fits κ j (names_of s) ≡ true) t.block b.0) in
    let whole : book κ k t.names ≡ s = subst (λ (xs : List Bytes). book κ k xs ≡ s) t.again (subst (λ (j : ℕ). book κ j (names_of s) ≡ s) t.block b.1) in
    record {
      names = t.names;
      listed = t.listed;
      wrote = t.wrote;
      checked = ap check (sym whole) ∙ ap check_of (opened-book κ k t.names fit);
      reads = λ i lent l h. ap (λ (x : Bytes). read_back x i lent) (sym whole) ∙ book-reads κ k t.names fit i lent l h;
    }

-- ---- what an entry adds

-- after no name, as at a block's start, and after any name before it
pub rest_some : (ρ : Rule) (xs : List Bytes) → AllLettered ρ xs → sound ρ xs ≡ true → (i : ℕ) → i < length xs
    → (0 < length (drop (shared [] (get_or xs i [])) (get_or xs i []))) × ((j : ℕ) → j < i → 0 < length (drop (shared (get_or xs j []) (get_or xs i [])) (get_or xs i [])))
unfolding shared
rest_some ρ xs letters is i h = (omega (arith, size), λ j l. omega (arith, length-drop (shared (get_or xs j []) (get_or xs i [])) (get_or xs i []), fewer j l))
  where
    size : 1 ≤ length (get_or xs i [])
    size = (all-at [] xs (rising-sizes ρ [] xs (sound-rising ρ xs is)) i h).0

    below : (j : ℕ) → j < i → less (word ρ (get_or xs j [])) (word ρ (get_or xs i [])) ≡ true
    below j l = rw (← nth-word ρ xs j, ← nth-word ρ xs i) (nth-less (map (word ρ) xs) j i (symbols-rises ρ xs (names-symbols ρ xs letters) (sound-rising ρ xs is)) l (omega (arith, length-map xs (word ρ))))

    fewer : (j : ℕ) → j < i → shared (get_or xs j []) (get_or xs i []) < length (get_or xs i [])
    fewer j l =
        omega (arith, shared-word-le ρ (get_or xs j []) (get_or xs i []), length-map (get_or xs i []) ρ, less-short (word ρ (get_or xs j [])) (word ρ (get_or xs i [])) (below j l))
