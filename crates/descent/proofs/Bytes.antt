-- Every book with names meets what a search asks: opening it gives `Searchable`.
--     book-searchable, opened-searchable
-- Assumes nothing.
use Prim.Native.Nat.{ℕ, ◌+◌, ◌*◌, ◌≤◌, ◌<◌}
use native.Mathlib.Omega.{arith}
use mathlib.Core.Path.{◌≡◌, sym, ap, ◌∙◌, subst}
use mathlib.Core.Bool.{true}
use mathlib.Core.List.{List, [], ◌∷◌, map}
use lib.ListN.{length, length-map}
use lib.Seq.{slice}
use Rattle.words.specs.Rising.{All, Rises, cons, nil, nth}
use Rattle.words.specs.Words.{Bytes, InBytes, Lawful, Rule, Words, word}
use Rattle.format.specs.Forms.{laid_out}
use Rattle.format.specs.Kinds.{BookKind, Columns, Form, Rows, form_of, rule_of}
use Rattle.format.specs.Layout.{Layout}
use Rattle.format.specs.Spans.{words_of}
use Rattle.format.specs.Book.{Book, book_by, fits_by, numbers, opened, told}
use Rattle.format.specs.Nodes.{Node, all_fields, node_size, table}
use Rattle.format.specs.Records.{longest, most_names, sound}
use Rattle.format.proofs.Book.{FitsBy, book-length, book-opened, book-table, fits-parts, node-length, node-number, node-table, nodes_at, read-field, read_names, trailer_at}
use Rattle.format.proofs.BookKinds.{kind-layout}
use Rattle.format.proofs.Numbers.{word-high}
use Rattle.format.proofs.Records.{lawful-symbols, rising-sizes, sound-few, sound-rising, symbols-rises, word-short}
use Rattle.format.proofs.Small.{Modest, names-bytes, table-small}
use Rattle.format.proofs.Spans.{table-few}
use Rattle.standing.specs.Maps.{Map, Paced, map_in}
use Rattle.standing.specs.Stands.{Stands}
use Rattle.standing.proofs.FormBytes.{bytes-form}
use Rattle.standing.proofs.Records.{Told, stands_at}
use Rattle.descent.specs.Vocabulary.{NodesAt, Searchable, no_node, node}

-- names of bytes give words of small symbols
modest : (ρ : Rule) → Lawful ρ → (xs : List Bytes) → All (λ x. (1 ≤ length x) × (length x ≤ longest)) xs → All (λ x. All (λ b. b < 256) x) xs
    → All Modest (map (word ρ) xs)
modest ρ ok [] nil nil = nil
modest ρ ok (x ∷ xs) (cons h a) (cons k b) =
    cons {a = word ρ x} (record { short = omega (arith, length-map x ρ, h.1); symbols = word-high ρ ok x k }) (modest ρ ok xs a b)

-- how far nodes stand apart in a form, wherever their table starts
form-paced : (f : Form) (start m : ℕ) → Paced (map_in f start m).stride
form-paced Rows start m = record { some = omega arith; few = omega arith }
form-paced Columns start m = record { some = omega arith; few = omega arith }

-- records that stand are a table's nodes, which starts there
module _ {b : Bytes} {ws : Words} where
  nodes-at : (μ : Map) (start e : ℕ) → Stands μ b start (table ws) e → NodesAt (record { start = start; stride = μ.stride; step = μ.step }) b ws
  unfolding node
  nodes-at μ start e h = record { room = λ v l. (at v l).room; told = λ v l. (at v l).told }
    where
      at : (v : ℕ) → v < length (table ws) → Told μ b (table ws) start v no_node
      at v l = stands_at μ b (table ws) start e v no_node h l

-- a book whose table has nodes, in any form
module _ {ρ : Rule} {f : Form} {mark : Bytes} (y : Layout ρ f mark) (k : ℕ) (xs : List Bytes) (fit : fits_by ρ f mark k xs ≡ true) (bytes : InBytes (book_by ρ f mark k xs)) (some : 0 < length xs) where
  abbrev b : Bytes
  b = book_by ρ f mark k xs

  fits : FitsBy ρ f mark k xs
  fits = fits-parts k xs fit

  ok : Lawful ρ
  ok = y.lawful

  abbrev records : List Node
  records = table (map (word ρ) xs)

  letters : All (λ x. All (λ c. c < 256) x) xs
  letters = subst (All (λ x. All (λ c. c < 256) x)) (read_names y k xs fits) (names-bytes b bytes)

  up : Rises (map (word ρ) xs)
  up = symbols-rises ρ xs (lawful-symbols ρ ok xs letters) (sound-rising ρ xs fits.sound)

  count : length (map (word ρ) xs) ≡ length xs
  count = length-map xs (word ρ)

  small : All Modest (map (word ρ) xs)
  small = modest ρ ok xs (rising-sizes ρ [] xs (sound-rising ρ xs fits.sound)) letters

  -- the node table's bytes, by the layout
  part : slice (nodes_at y k xs) (trailer_at y k xs) b ≡ numbers (laid_out f records)
  part = book-table y k xs ∙ ap numbers (node-table f ρ xs)

  stood : Stands (map_in f 0 (length records)) b (nodes_at y k xs) records (nodes_at y k xs + length records * (map_in f 0 (length records)).stride)
  stood =
      let low : All (λ n. n < 65536) (all_fields records) = table-small (map (word ρ) xs) up small (omega (arith, count, sound-few ρ xs fits.sound)) in
      bytes-form b f records (nodes_at y k xs) (trailer_at y k xs) (omega (arith, node-length f ρ xs, ap (λ (m : ℕ). m * node_size) (node-number f ρ xs))) (omega (arith, book-length y k xs)) low part

  table_at : NodesAt (map_in f (nodes_at y k xs) (length records)) b (map (word ρ) xs)
  table_at = go f stood
    where
      go : (g : Form) → Stands (map_in g 0 (length records)) b (nodes_at y k xs) records (nodes_at y k xs + length records * (map_in g 0 (length records)).stride)
          → NodesAt (map_in g (nodes_at y k xs) (length records)) b (map (word ρ) xs)
      go Rows h = nodes-at (map_in Rows 0 (length records)) (nodes_at y k xs) _ h
      go Columns h = nodes-at (map_in Columns 0 (length records)) (nodes_at y k xs) _ h

  pub book-searchable : Searchable ρ b (map_in f (told b 3) (told b 4))
  unfolding words_of
  book-searchable =
      let names : words_of ρ b ≡ map (word ρ) xs = ap (map (word ρ)) (read_names y k xs fits) in
      let size : length (words_of ρ b) ≡ length xs = ap length names ∙ count in
      let few : length xs ≤ most_names = sound-few ρ xs fits.sound in
      let here : told b 3 ≡ nodes_at y k xs = read-field y k xs fits 3 (omega arith) in
      let many : told b 4 ≡ length records = read-field y k xs fits 4 (omega arith) ∙ node-number f ρ xs in
      record {
        long = omega (arith, book-length y k xs);
        held = fits.short;
        paced = form-paced f (told b 3) (told b 4);
        rises = subst Rises (sym names) up;
        some = omega arith;
        few = omega arith;
        small = omega (arith, ap (λ (vs : Words). length (table vs)) names, table-few (map (word ρ) xs) up (omega (arith, count)), count);
        short = subst (λ (vs : Words). (i : ℕ) → length (nth vs i) ≤ longest) (sym names) (word-short ρ xs fits.sound);
        table = subst (λ (vs : Words). NodesAt (map_in f (told b 3) (told b 4)) b vs) (sym names) (rw (here, many) table_at);
      }

-- bytes that open as a book with names, of every kind
pub opened-searchable : (κ : BookKind) (s : Bytes) (k : ℕ) (xs : List Bytes) → opened s ≡ Book κ k xs → InBytes s → 0 < length xs → Searchable (rule_of κ) s (map_in (form_of κ) (told s 3) (told s 4))
opened-searchable κ s k xs e bytes some =
    let o = book-opened κ s k xs e in
    subst (λ (t : Bytes). Searchable (rule_of κ) t (map_in (form_of κ) (told t 3) (told t 4))) o.1 (book-searchable (kind-layout κ) k xs o.0 (subst InBytes (sym o.1) bytes) some)
