-- A book tells its parts, its block size and its names; and `opened` says just what bytes are a book.
-- All but the last part holds over any rule, form and mark of four bytes; the kinds are instances.
--     table-length, count_low, table-count     the table's bytes are so many records
--     laid-length                nodes laid out in any form take as many bytes
--     node-table, node-number, node-length, node-size     where the records are nodes: their numbers, how many there are, how many bytes they and each take
--     full-nodes                 of a full book they stand record behind record
--     FitsBy, Fits, fits-parts, parts-fits     what `fits` asks
--     book-parts, book-split, book-three, book-length      a book is its parts, its body and its trailer; how long it is
--     from-blocks, from-nodes, from-trailer, from-mark     what stands from each part on
--     book-front, book-table     what stands before the table, and the table
--     read-field                 what the trailer says: names, block size, starts, nodes, length
--     read_names                 the names, out of a book's bytes
--     book-is, is-book           the book of what fits is a book, and a book is that of the block size and the names that it tells
--     third-of-book, kind-of-book    a book's mark tells its kind, by the third byte
--     opened-book, book-opened, opened-kind    `opened` gives κ, k and xs just where those fit and the bytes are their book
--     opened-third, opened-long      such bytes have that third byte, and a whole trailer
-- Assumes nothing.
use Prim.Native.Nat.{ℕ, ◌+◌, ◌-◌, ◌*◌, ◌≤◌, ◌<◌}
use native.Mathlib.Omega.{arith}
use mathlib.Core.Path.{◌≡◌, refl, sym, ap, ap₂, ◌∙◌, subst}
use mathlib.Core.Bool.{Bool, true, false}
use mathlib.Core.List.{List, [], ◌∷◌, ◌++◌, map, append_assoc}
use lib.Dec.{leb}
use lib.ListN.{length, get_or, take, drop, length-append}
use lib.Seq.{drop-append_seam, drop_at, drop-drop, get_or-drop, slice, take-append_seam, take_at}
use borrow.Author.Tests.{leb-true, le-leb}
use Rattle.words.specs.Rising.{All, cons, nil}
use Rattle.words.specs.Words.{Bytes, Rule, both, pick, same, word}
use Rattle.words.proofs.Lists.{all-at}
use Rattle.words.proofs.Words.{both_true, same_refl, same_true}
use Rattle.format.specs.Columns.{columns}
use Rattle.format.specs.Forms.{laid_out}
use Rattle.format.specs.Full.{is_full}
use Rattle.format.specs.Kinds.{BookKind, Columns, Form, Rows, all_kinds, count_in, form_of, kind_of, mark_of, marked_as, record_size, rule_of, table_in}
use Rattle.format.specs.Layout.{Layout}
use Rattle.format.specs.Book.{Book, NoBook, block_part, book, book_by, entry_part, fits, fits_by, good_block, is_book, is_book_by, longest_book, names_of, number, numbers, opened, told, trailer, trailer_size}
use Rattle.format.specs.Spans.{node_part}
use Rattle.format.specs.Entries.{decode}
use Rattle.format.specs.Nodes.{Node, all_fields, field_count, node_size, table}
use Rattle.format.specs.Records.{sound}
use Rattle.format.proofs.Columns.{columns-length}
use Rattle.format.proofs.Entries.{decode-entries}
use Rattle.format.proofs.BookKinds.{full-rows, kind-layout, third-tells}
use Rattle.format.proofs.Numbers.{number_past, numbers-at, numbers-length}
use Rattle.format.proofs.Records.{sound-few}

pub fields-length : (rs : List Node) → length (all_fields rs) ≡ field_count * length rs
unfolding all_fields
fields-length [] = refl
fields-length (r ∷ rs) = omega (arith, fields-length rs)

pub nodes-length : (rs : List Node) → length (node_part rs) ≡ node_size * length rs
unfolding node_part
nodes-length rs = omega (arith, numbers-length (all_fields rs), fields-length rs)

-- nodes laid out in any form take as many bytes
pub laid-length : (f : Form) (rs : List Node) → length (numbers (laid_out f rs)) ≡ length rs * node_size
laid-length Rows rs = omega (arith, numbers-length (all_fields rs), fields-length rs)
laid-length Columns rs = omega (arith, numbers-length (columns rs), columns-length rs)

-- the table's bytes are so many records
pub table-length : (f : Form) (ρ : Rule) (xs : List Bytes) → length (numbers (table_in f ρ xs)) ≡ count_in f ρ xs * record_size f
table-length Rows ρ xs = laid-length Rows (table (map (word ρ) xs))
table-length Columns ρ xs = laid-length Columns (table (map (word ρ) xs))

pub count_low : (f : Form) (ρ : Rule) (xs : List Bytes) → count_in f ρ xs ≤ length (numbers (table_in f ρ xs))
count_low Rows ρ xs = omega (arith, table-length Rows ρ xs)
count_low Columns ρ xs = omega (arith, table-length Columns ρ xs)

-- so they tell how many there are
pub table-count : (f : Form) (ρ : Rule) (xs : List Bytes) (m : ℕ) → m * record_size f ≡ length (numbers (table_in f ρ xs)) → m ≡ count_in f ρ xs
table-count Rows ρ xs m e = omega (arith, table-length Rows ρ xs)
table-count Columns ρ xs m e = omega (arith, table-length Columns ρ xs)

-- where the records are nodes: their numbers, how many there are, how many bytes they take
pub node-table : (f : Form) (ρ : Rule) (xs : List Bytes) → table_in f ρ xs ≡ laid_out f (table (map (word ρ) xs))
node-table Rows ρ xs = refl
node-table Columns ρ xs = refl

pub node-number : (f : Form) (ρ : Rule) (xs : List Bytes) → count_in f ρ xs ≡ length (table (map (word ρ) xs))
node-number Rows ρ xs = refl
node-number Columns ρ xs = refl

pub node-length : (f : Form) (ρ : Rule) (xs : List Bytes) → length (numbers (table_in f ρ xs)) ≡ count_in f ρ xs * node_size
node-length Rows ρ xs = table-length Rows ρ xs
node-length Columns ρ xs = table-length Columns ρ xs

pub node-size : (f : Form) → record_size f ≡ node_size
node-size Rows = refl
node-size Columns = refl

-- of a full book, record behind record
pub full-nodes : (κ : BookKind) → is_full κ ≡ true → (ρ : Rule) (xs : List Bytes) → numbers (table_in (form_of κ) ρ xs) ≡ node_part (table (map (word ρ) xs))
unfolding node_part
full-nodes κ full ρ xs = ap (λ (f : Form). numbers (table_in f ρ xs)) (full-rows κ full)

-- what `fits` asks
pub record FitsBy (ρ : Rule) (f : Form) (mark : Bytes) (k : ℕ) (xs : List Bytes) : Type 0 where
  pub low : 1 ≤ k
  pub high : k ≤ 64
  pub sound : sound ρ xs ≡ true
  pub short : length (book_by ρ f mark k xs) ≤ longest_book

abbrev pub Fits : BookKind → ℕ → List Bytes → Type 0
Fits κ k xs = FitsBy (rule_of κ) (form_of κ) (mark_of κ) k xs

module _ {ρ : Rule} {f : Form} {mark : Bytes} (k : ℕ) (xs : List Bytes) where
  pub fits-parts : fits_by ρ f mark k xs ≡ true → FitsBy ρ f mark k xs
  unfolding fits_by
  fits-parts h =
      let a = both_true (good_block k) (both (sound ρ xs) (leb (length (book_by ρ f mark k xs)) longest_book)) h in
      let b = both_true (sound ρ xs) (leb (length (book_by ρ f mark k xs)) longest_book) a.1 in
      let c = both_true (leb 1 k) (leb k 64) a.0 in
      record { low = leb-true 1 k c.0; high = leb-true k 64 c.1; sound = b.0; short = leb-true (length (book_by ρ f mark k xs)) longest_book b.1 }

  pub parts-fits : FitsBy ρ f mark k xs → fits_by ρ f mark k xs ≡ true
  unfolding fits_by
  parts-fits h = rw (le-leb 1 k h.low, le-leb k 64 h.high, h.sound, le-leb (length (book_by ρ f mark k xs)) longest_book h.short) refl

module _ {ρ : Rule} {f : Form} {mark : Bytes} (y : Layout ρ f mark) (k : ℕ) (xs : List Bytes) where
  -- the table's bytes
  abbrev pub table_part : Bytes
  table_part = numbers (table_in f ρ xs)

  -- where the block table, the node table and the trailer start
  abbrev pub blocks_at : ℕ
  blocks_at = length (entry_part k xs)

  abbrev pub nodes_at : ℕ
  nodes_at = blocks_at + length (block_part k xs)

  abbrev pub trailer_at : ℕ
  trailer_at = nodes_at + length table_part

  abbrev pub trailer_numbers : List ℕ
  trailer_numbers = length xs ∷ k ∷ blocks_at ∷ nodes_at ∷ count_in f ρ xs ∷ (trailer_at + trailer_size) ∷ []

  -- all but the trailer
  abbrev pub body : Bytes
  body = entry_part k xs ++ (block_part k xs ++ table_part)

  pub book-parts : book_by ρ f mark k xs ≡ entry_part k xs ++ (block_part k xs ++ (table_part ++ (numbers trailer_numbers ++ mark)))
  unfolding book_by trailer
  book-parts = refl

  pub book-split : book_by ρ f mark k xs ≡ body ++ (numbers trailer_numbers ++ mark)
  book-split = book-parts ∙ simp append_assoc

  -- what stands before the table, the table, and the trailer
  pub book-three : book_by ρ f mark k xs ≡ ((entry_part k xs ++ block_part k xs) ++ table_part) ++ (numbers trailer_numbers ++ mark)
  book-three = book-parts ∙ simp append_assoc

  body-length : length body ≡ trailer_at
  body-length = omega (arith, length-append (entry_part k xs) (block_part k xs ++ table_part), length-append (block_part k xs) table_part)

  pub book-length : length (book_by ρ f mark k xs) ≡ trailer_at + trailer_size
  book-length =
      ap length book-split ∙ length-append body (numbers trailer_numbers ++ mark)
      ∙ omega (arith, body-length, length-append (numbers trailer_numbers) mark, y.four, numbers-length trailer_numbers)

  -- what stands from each part on
  pub from-blocks : drop blocks_at (book_by ρ f mark k xs) ≡ block_part k xs ++ (table_part ++ (numbers trailer_numbers ++ mark))
  from-blocks = ap (drop blocks_at) book-parts ∙ drop-append_seam (entry_part k xs) _

  pub from-nodes : drop nodes_at (book_by ρ f mark k xs) ≡ table_part ++ (numbers trailer_numbers ++ mark)
  from-nodes = sym (drop-drop (length (block_part k xs)) blocks_at (book_by ρ f mark k xs)) ∙ ap (drop (length (block_part k xs))) from-blocks ∙ drop-append_seam (block_part k xs) _

  pub from-trailer : drop trailer_at (book_by ρ f mark k xs) ≡ numbers trailer_numbers ++ mark
  from-trailer = sym (drop-drop (length table_part) nodes_at (book_by ρ f mark k xs)) ∙ ap (drop (length table_part)) from-nodes ∙ drop-append_seam table_part (numbers trailer_numbers ++ mark)

  -- what stands before the table, and the table
  pub book-front : take nodes_at (book_by ρ f mark k xs) ≡ entry_part k xs ++ block_part k xs
  book-front =
      let grouped : entry_part k xs ++ (block_part k xs ++ (table_part ++ (numbers trailer_numbers ++ mark))) ≡ (entry_part k xs ++ block_part k xs) ++ (table_part ++ (numbers trailer_numbers ++ mark)) = simp append_assoc in
      ap (take nodes_at) (book-parts ∙ grouped) ∙ take_at (entry_part k xs ++ block_part k xs) (table_part ++ (numbers trailer_numbers ++ mark)) nodes_at (length-append (entry_part k xs) (block_part k xs))

  pub book-table : slice nodes_at trailer_at (book_by ρ f mark k xs) ≡ table_part
  book-table =
      let front : Bytes = entry_part k xs ++ block_part k xs in
      let end : Bytes = numbers trailer_numbers ++ mark in
      ap (λ (s : Bytes). drop nodes_at (take trailer_at s)) book-three
      ∙ ap (drop nodes_at) (take_at (front ++ table_part) end trailer_at (length-append front table_part ∙ ap (λ (n : ℕ). n + length table_part) (length-append (entry_part k xs) (block_part k xs))))
      ∙ drop_at front table_part nodes_at (length-append (entry_part k xs) (block_part k xs))

  pub from-mark : drop (length (book_by ρ f mark k xs) - 4) (book_by ρ f mark k xs) ≡ mark
  from-mark =
      let there : length (book_by ρ f mark k xs) - 4 ≡ trailer_at + length (numbers trailer_numbers) = omega (arith, book-length, numbers-length trailer_numbers) in
      ap (λ (n : ℕ). drop n (book_by ρ f mark k xs)) there ∙ sym (drop-drop (length (numbers trailer_numbers)) trailer_at (book_by ρ f mark k xs)) ∙ ap (drop (length (numbers trailer_numbers))) from-trailer ∙ drop-append_seam (numbers trailer_numbers) mark

  module _ (h : FitsBy ρ f mark k xs) where
    numbers-few : All (λ n. n < 65536) trailer_numbers
    numbers-few =
        cons {a = length xs} (omega (arith, sound-few ρ xs h.sound))
        (cons {a = k} (omega (arith, h.high))
        (cons {a = blocks_at} (omega (arith, book-length, h.short))
        (cons {a = nodes_at} (omega (arith, book-length, h.short))
        (cons {a = count_in f ρ xs} (omega (arith, book-length, h.short, count_low f ρ xs))
        (cons {a = trailer_at + trailer_size} (omega (arith, book-length, h.short)) nil)))))

    -- number j of the trailer
    pub read-field : (j : ℕ) → j < 6 → told (book_by ρ f mark k xs) j ≡ get_or trailer_numbers j 0
    read-field j l =
        let o : length (book_by ρ f mark k xs) - trailer_size + 2 * j ≡ length body + 2 * j = omega (arith, book-length, body-length) in
        ap₂ number book-split o ∙ number_past body (numbers trailer_numbers ++ mark) (2 * j)
        ∙ numbers-at trailer_numbers mark j l (all-at 0 trailer_numbers numbers-few j l)

    -- the names, out of the bytes before the block table
    pub read_names : names_of (book_by ρ f mark k xs) ≡ xs
    unfolding names_of book_by
    read_names =
        ap (λ (n : ℕ). decode (take n (book_by ρ f mark k xs))) (read-field 2 (omega arith))
        ∙ ap decode (take-append_seam (entry_part k xs) _) ∙ decode-entries k xs h.low

-- ---- what bytes are a book

module _ {ρ : Rule} {f : Form} {mark : Bytes} (k : ℕ) (xs : List Bytes) where
  -- the book of a block size and names that fit
  pub book-is : Layout ρ f mark → fits_by ρ f mark k xs ≡ true → is_book_by ρ f mark (book_by ρ f mark k xs) ≡ true
  unfolding is_book_by
  book-is y h =
      let fit = fits-parts k xs h in
      ap₂ (λ (j : ℕ) (ys : List Bytes). both (fits_by ρ f mark j ys) (same (book_by ρ f mark j ys) (book_by ρ f mark k xs))) (read-field y k xs fit 1 (omega arith)) (read_names y k xs fit)
      ∙ rw (h, same_refl (book_by ρ f mark k xs)) refl

-- and no others
pub is-book : {ρ : Rule} {f : Form} {mark : Bytes} → Layout ρ f mark → (s : Bytes) → is_book_by ρ f mark s ≡ true → (fits_by ρ f mark (told s 1) (names_of s) ≡ true) × (book_by ρ f mark (told s 1) (names_of s) ≡ s)
unfolding is_book_by
is-book {ρ} {f} {mark} y s e =
    let b = both_true (fits_by ρ f mark (told s 1) (names_of s)) (same (book_by ρ f mark (told s 1) (names_of s)) s) e in
    (b.0, same_true (book_by ρ f mark (told s 1) (names_of s)) s b.1)

-- ---- the mark

-- its third byte
pub third-of-book : (κ : BookKind) (k : ℕ) (xs : List Bytes) → get_or (book κ k xs) (length (book κ k xs) - 2) 0 ≡ get_or (mark_of κ) 2 0
third-of-book κ k xs =
    let y : Layout (rule_of κ) (form_of κ) (mark_of κ) = kind-layout κ in
    let there : length (book κ k xs) - 2 ≡ length (book κ k xs) - 4 + 2 = omega (arith, book-length y k xs) in
    ap (λ (i : ℕ). get_or (book κ k xs) i 0) there ∙ sym (get_or-drop (length (book κ k xs) - 4) (book κ k xs) 2 0) ∙ ap (λ (s : Bytes). get_or s 2 0) (from-mark y k xs)

pub kind-of-book : (κ : BookKind) (k : ℕ) (xs : List Bytes) → kind_of (book κ k xs) ≡ κ
kind-of-book κ k xs = ap (λ (b : ℕ). marked_as b all_kinds) (third-of-book κ k xs) ∙ third-tells κ

-- ---- by the bytes' own mark

pub opened-book : (κ : BookKind) (k : ℕ) (xs : List Bytes) → fits κ k xs ≡ true → opened (book κ k xs) ≡ Book κ k xs
unfolding opened
opened-book κ k xs h =
    let fit = fits-parts k xs h in
    ap (λ (μ : BookKind). pick (is_book μ (book κ k xs)) (Book μ (told (book κ k xs) 1) (names_of (book κ k xs))) NoBook) (kind-of-book κ k xs)
    ∙ ap (λ (t : Bool). pick t (Book κ (told (book κ k xs) 1) (names_of (book κ k xs))) NoBook) (book-is k xs (kind-layout κ) h)
    ∙ ap₂ (λ (j : ℕ) (ys : List Bytes). Book κ j ys) (read-field (kind-layout κ) k xs fit 1 (omega arith)) (read_names (kind-layout κ) k xs fit)

pub book-opened : (κ : BookKind) (s : Bytes) (k : ℕ) (xs : List Bytes) → opened s ≡ Book κ k xs → (fits κ k xs ≡ true) × (book κ k xs ≡ s)
unfolding opened
book-opened κ s k xs e = go (is_book (kind_of s) s) refl e
  where
    go : (t : Bool) → is_book (kind_of s) s ≡ t → pick t (Book (kind_of s) (told s 1) (names_of s)) NoBook ≡ Book κ k xs → (fits κ k xs ≡ true) × (book κ k xs ≡ s)
    go true p q =
        let mark : kind_of s ≡ κ = cc in
        let jk : told s 1 ≡ k = cc in
        let yx : names_of s ≡ xs = cc in
        subst (λ (ys : List Bytes). (fits κ k ys ≡ true) × (book κ k ys ≡ s)) yx
        (subst (λ (j : ℕ). (fits κ j (names_of s) ≡ true) × (book κ j (names_of s) ≡ s)) jk
        (subst (λ (μ : BookKind). (fits μ (told s 1) (names_of s) ≡ true) × (book μ (told s 1) (names_of s) ≡ s)) mark (is-book (kind-layout (kind_of s)) s p)))
    go false p q = let z : ◌≡◌ {A = ℕ} 0 1 = cc in absurd (omega arith)

-- a book opens as the kind that its mark tells
pub opened-kind : (κ : BookKind) (s : Bytes) (k : ℕ) (xs : List Bytes) → opened s ≡ Book κ k xs → kind_of s ≡ κ
opened-kind κ s k xs e = subst (λ (t : Bytes). kind_of t ≡ κ) (book-opened κ s k xs e).1 (kind-of-book κ k xs)

-- so the third byte of the mark stands in its place, and the trailer before it
pub opened-third : (κ : BookKind) (s : Bytes) (k : ℕ) (xs : List Bytes) → opened s ≡ Book κ k xs → get_or s (length s - 2) 0 ≡ get_or (mark_of κ) 2 0
opened-third κ s k xs e = subst (λ (t : Bytes). get_or t (length t - 2) 0 ≡ get_or (mark_of κ) 2 0) (book-opened κ s k xs e).1 (third-of-book κ k xs)

pub opened-long : (κ : BookKind) (s : Bytes) (k : ℕ) (xs : List Bytes) → opened s ≡ Book κ k xs → trailer_size ≤ length s
opened-long κ s k xs e = omega (arith, ap length (book-opened κ s k xs e).1, book-length (kind-layout κ) k xs)
