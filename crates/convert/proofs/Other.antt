-- A book turned into one of another kind, part by part.
--     other-parts       two forms of one list's table make books that differ in the table and the mark alone
--     OtherBook, other-book     what an accepted book tells of the other kind's
-- Assumes nothing.
use Prim.Native.Nat.{ℕ, ◌+◌, ◌-◌, ◌*◌, ◌≤◌, ◌<◌}
use native.Mathlib.Omega.{arith}
use mathlib.Core.Path.{◌≡◌, refl, sym, ap, ap₂, ◌∙◌, subst}
use mathlib.Core.Bool.{true}
use mathlib.Core.List.{List, [], ◌∷◌, ◌++◌, map}
use lib.ListN.{get_or, length, length-append, take}
use lib.Seq.{slice}
use Rattle.words.specs.Words.{Bytes, plain, word}
use Rattle.format.specs.Forms.{Form, laid_out}
use Rattle.format.specs.Kinds.{BookKind, ColumnBook, FoldedBook, PlainBook, count_in, form_of, kind_of, mark_of, table_in}
use Rattle.format.specs.Layout.{Layout}
use Rattle.format.specs.Nodes.{Node, node_size, table}
use Rattle.format.specs.Book.{block_part, book, book_by, entry_part, fits, longest_book, names_of, numbers, told, trailer}
use Rattle.format.specs.Outcomes.{over}
use Rattle.format.proofs.Book.{FitsBy, book-front, book-length, book-opened, book-table, book-three, fits-parts, node-length, node-number, node-table, nodes_at, read-field, trailer_at, trailer_numbers}
use Rattle.format.proofs.BookKinds.{kind-layout}
use Rattle.format.proofs.Numbers.{numbers-length}
use Rattle.numbers.proofs.Parts.{Copied, copied, parts-put, put}
use Rattle.trailer.specs.Trailer.{trailer_in}
use Rattle.trailer.specs.declared.Trailer.{Trailer}
use Rattle.turning.specs.Turning.{TurnAsk, turned}
use Rattle.turning.proofs.Tables.{to-columns as rows-turned, to-rows as columns-turned}
use Rattle.convert.specs.declared.Turn.{Turn}
use Rattle.convert.specs.Turns.{OtherAsk, Turns, to-columns, to-rows, turn_for}

-- two forms of one list's table
module _ {f g : Form} {mark other : Bytes} (y : Layout plain f mark) (z : Layout plain g other) (k : ℕ) (xs : List Bytes) where
  many : count_in f plain xs ≡ count_in g plain xs
  many = node-number f plain xs ∙ sym (node-number g plain xs)

  pub same_end : trailer_at y k xs ≡ trailer_at z k xs
  same_end = omega (arith, node-length f plain xs, node-length g plain xs, ap (λ (m : ℕ). m * node_size) many)

  same_numbers : trailer_numbers y k xs ≡ trailer_numbers z k xs
  same_numbers = ap₂ (λ (m e : ℕ). length xs ∷ k ∷ length (entry_part k xs) ∷ nodes_at y k xs ∷ m ∷ e ∷ []) many (ap (λ (e : ℕ). e + 16) same_end)

  module _ (room r₁ w v : Bytes) (big : trailer_at y k xs + 16 ≤ length room) (front : r₁ ≡ over (take (nodes_at y k xs) (book_by plain f mark k xs)) room)
      (w-is : w ≡ numbers (table_in g plain xs)) (v-is : v ≡ numbers (trailer_numbers y k xs) ++ other) where
    abbrev n : ℕ
    n = nodes_at y k xs

    abbrev e : ℕ
    e = trailer_at y k xs

    x-is : take n (book_by plain f mark k xs) ≡ entry_part k xs ++ block_part k xs
    x-is = book-front y k xs

    p₁ : r₁ ≡ over (entry_part k xs ++ block_part k xs) room
    p₁ = front ∙ ap (λ (x : Bytes). over x room) x-is

    l₁ : length (entry_part k xs ++ block_part k xs) ≡ n
    l₁ = length-append (entry_part k xs) (block_part k xs)

    l₂ : length w ≡ e - n
    l₂ = ap length w-is ∙ omega (arith, same_end)

    l₃ : length v ≡ 16
    l₃ = ap length v-is ∙ length-append (numbers (trailer_numbers y k xs)) other ∙ omega (arith, numbers-length (trailer_numbers y k xs), z.four)

    parts : ((entry_part k xs ++ block_part k xs) ++ w) ++ v ≡ book_by plain g other k xs
    parts =
        ap₂ (λ (i j : Bytes). ((entry_part k xs ++ block_part k xs) ++ i) ++ j) w-is (v-is ∙ ap (λ (l : List ℕ). numbers l ++ other) same_numbers) ∙ sym (book-three z k xs)

    pub other-parts : put (put r₁ n e w) e (e + 16) v ≡ over (book_by plain g other k xs) room
    other-parts =
        parts-put (entry_part k xs ++ block_part k xs) room r₁ w v n e (e + 16) p₁ l₁ (omega (arith, l₂)) (omega (arith, l₃)) big ∙ ap (λ (i : Bytes). over i room) parts

-- ---- how a table is turned

-- numbers of a table that stands by one form, taken as the other form asks, are the table in that form
turned-other : {κ μ : BookKind} → Turns κ μ → (b : Bytes) (o : ℕ) (rs : List Node) (m : ℕ) → length rs ≡ m → slice o (o + 12 * m) b ≡ numbers (laid_out (form_of κ) rs)
    → turned b o (turn_for μ m).rows 2 (turn_for μ m).inner (turn_for μ m).step ≡ numbers (laid_out (form_of μ) rs)
turned-other to-columns b o rs m e h = rows-turned b o rs m e h
turned-other to-rows b o rs m e h = columns-turned b o rs m e h

turn-asks : {κ μ : BookKind} → Turns κ μ → (b : Bytes) (o m : ℕ) (part : Bytes) → o + 12 * m ≤ length b → length b ≤ longest_book → length part ≡ 12 * m
    → TurnAsk b o (turn_for μ m).rows 2 (turn_for μ m).inner (turn_for μ m).step part
turn-asks to-columns b o m part within short size = record { inside = omega arith; short = short; near = omega arith; apart = omega arith; fits = omega arith }
turn-asks to-rows b o m part within short size = record { inside = omega arith; short = short; near = omega arith; apart = omega arith; fits = omega arith }

-- ---- a book that is turned

pub record OtherBook (b : Bytes) (t : Trailer) (μ : BookKind) : Type 0 where
  pub total : t.nodes_at + 12 * t.nodes + 16 ≡ length b
  pub short : length b ≤ longest_book
  pub asks : (part : Bytes) → length part ≡ 12 * t.nodes → TurnAsk b t.nodes_at (turn_for μ t.nodes).rows 2 (turn_for μ t.nodes).inner (turn_for μ t.nodes).step part
  pub whole : (room r₁ w v : Bytes) → length b ≤ length room → r₁ ≡ over (take t.nodes_at b) room
      → w ≡ turned b t.nodes_at (turn_for μ t.nodes).rows 2 (turn_for μ t.nodes).inner (turn_for μ t.nodes).step
      → v ≡ trailer (mark_of μ) t.names t.block t.blocks_at t.nodes_at t.nodes (length b)
      → put (put r₁ t.nodes_at (length b - 16) w) (length b - 16) (length b) v ≡ over (book μ t.block (names_of b)) room
  pub size : length (book μ t.block (names_of b)) ≡ length b

-- a list's nodes, by the plain rule
abbrev table_of : List Bytes → List Node
table_of xs = table (map (word plain) xs)

six : {k a₁ a₂ b₁ b₂ c₁ c₂ d₁ d₂ e₁ e₂ : ℕ} → a₁ ≡ a₂ → b₁ ≡ b₂ → c₁ ≡ c₂ → d₁ ≡ d₂ → e₁ ≡ e₂
    → ◌≡◌ {A = List ℕ} (a₁ ∷ k ∷ b₁ ∷ c₁ ∷ d₁ ∷ e₁ ∷ []) (a₂ ∷ k ∷ b₂ ∷ c₂ ∷ d₂ ∷ e₂ ∷ [])
six p q r t u = cc

-- by the forms of both kinds
module _ {κ μ : BookKind} (turns : Turns κ μ) (y : Layout plain (form_of κ) (mark_of κ)) (z : Layout plain (form_of μ) (mark_of μ)) (b : Bytes) (t : Trailer) (told_is : t ≡ trailer_in b)
    (fit : FitsBy plain (form_of κ) (mark_of κ) t.block (names_of b)) (is : book_by plain (form_of κ) (mark_of κ) t.block (names_of b) ≡ b) where
  abbrev k : ℕ
  k = t.block

  abbrev xs : List Bytes
  xs = names_of b

  field : (j : ℕ) → j < 6 → told b j ≡ get_or (trailer_numbers y k xs) j 0
  field j h = subst (λ (s : Bytes). told s j ≡ get_or (trailer_numbers y k xs) j 0) is (read-field y k xs fit j h)

  names-are : t.names ≡ length xs
  names-are = ap (λ (x : Trailer). x.names) told_is ∙ field 0 (omega arith)

  blocks-are : t.blocks_at ≡ length (entry_part k xs)
  blocks-are = ap (λ (x : Trailer). x.blocks_at) told_is ∙ field 2 (omega arith)

  nodes-are : t.nodes_at ≡ nodes_at y k xs
  nodes-are = ap (λ (x : Trailer). x.nodes_at) told_is ∙ field 3 (omega arith)

  count-is : t.nodes ≡ count_in (form_of κ) plain xs
  count-is = ap (λ (x : Trailer). x.nodes) told_is ∙ field 4 (omega arith)

  size_is : length b ≡ trailer_at y k xs + 16
  size_is = ap length (sym is) ∙ book-length y k xs

  end_is : trailer_at y k xs ≡ t.nodes_at + 12 * t.nodes
  end_is = omega (arith, nodes-are, node-length (form_of κ) plain xs, ap (λ (m : ℕ). m * node_size) count-is)

  table-there : slice t.nodes_at (t.nodes_at + 12 * t.nodes) b ≡ numbers (laid_out (form_of κ) (table (map (word plain) xs)))
  table-there =
      ap₂ (λ (o e : ℕ). slice o e b) nodes-are (sym end_is) ∙ ap (slice (nodes_at y k xs) (trailer_at y k xs)) (sym is) ∙ book-table y k xs ∙ ap numbers (node-table (form_of κ) plain xs)

  pub by-forms-whole : (room r₁ w v : Bytes) → length b ≤ length room → r₁ ≡ over (take t.nodes_at b) room
      → w ≡ turned b t.nodes_at (turn_for μ t.nodes).rows 2 (turn_for μ t.nodes).inner (turn_for μ t.nodes).step
      → v ≡ trailer (mark_of μ) t.names k t.blocks_at t.nodes_at t.nodes (length b)
      → put (put r₁ t.nodes_at (length b - 16) w) (length b - 16) (length b) v ≡ over (book_by plain (form_of μ) (mark_of μ) k xs) room
  unfolding trailer
  by-forms-whole room r₁ w v big front w-is v-is =
      let at : length b - 16 ≡ trailer_at y k xs = omega (arith, size_is) in
      ap₂ (λ (o e : ℕ). put (put r₁ o e w) e (length b) v) nodes-are at ∙ ap (λ (l : ℕ). put (put r₁ (nodes_at y k xs) (trailer_at y k xs) w) (trailer_at y k xs) l v) size_is
      ∙ other-parts y z k xs room r₁ w v (omega (arith, size_is)) (front ∙ ap₂ (λ (o : ℕ) (s : Bytes). over (take o s) room) nodes-are (sym is)) table v-numbers
    where
      table : w ≡ numbers (table_in (form_of μ) plain xs)
      table =
          w-is ∙ turned-other turns b t.nodes_at (table_of xs) t.nodes (sym (count-is ∙ node-number (form_of κ) plain xs)) table-there
          ∙ sym (ap numbers (node-table (form_of μ) plain xs))

      v-numbers : v ≡ numbers (trailer_numbers y k xs) ++ mark_of μ
      v-numbers = v-is ∙ ap (λ (l : List ℕ). numbers l ++ mark_of μ) (six names-are blocks-are nodes-are count-is size_is)

-- of a kind and the one that it is turned into
module _ {κ μ : BookKind} (turns : Turns κ μ) (y : Layout plain (form_of κ) (mark_of κ)) (z : Layout plain (form_of μ) (mark_of μ)) (b : Bytes) (t : Trailer) (told_is : t ≡ trailer_in b)
    (fit : FitsBy plain (form_of κ) (mark_of κ) t.block (names_of b)) (is : book_by plain (form_of κ) (mark_of κ) t.block (names_of b) ≡ b)
    (to : book_by plain (form_of μ) (mark_of μ) t.block (names_of b) ≡ book μ t.block (names_of b)) where
  all_there : t.nodes_at + 12 * t.nodes + 16 ≡ length b
  all_there = omega (arith, end_is turns y z b t told_is fit is, size_is turns y z b t told_is fit is)

  not-long : length b ≤ longest_book
  not-long = omega (arith, fit.short, ap length is)

  pub by-forms : OtherBook b t μ
  by-forms = record {
    total = all_there;
    short = not-long;
    asks = λ part e. turn-asks turns b t.nodes_at t.nodes part (omega (arith, all_there)) not-long e;
    whole = λ room r₁ w v big front w-is v-is. by-forms-whole turns y z b t told_is fit is room r₁ w v big front w-is v-is ∙ ap (λ (x : Bytes). over x room) to;
    size = ap length (sym to) ∙ book-length z t.block (names_of b) ∙ omega (arith, same_end y z t.block (names_of b), size_is turns y z b t told_is fit is);
  }

other-book : {b : Bytes} {t : Trailer} {μ : BookKind} → OtherAsk b t μ → OtherBook b t μ
other-book {b} {t} {μ} a = go (kind_of b) μ a.turns (book-opened (kind_of b) b t.block (names_of b) a.book)
  where
    go : (κ μ : BookKind) → Turns κ μ → (fits κ t.block (names_of b) ≡ true) × (book κ t.block (names_of b) ≡ b) → OtherBook b t μ
    go PlainBook PlainBook x o = elim x [ ]
    go PlainBook FoldedBook x o = elim x [ ]
    go FoldedBook _ x o = elim x [ ]
    go ColumnBook FoldedBook x o = elim x [ ]
    go ColumnBook ColumnBook x o = elim x [ ]
    go PlainBook ColumnBook to-columns o = by-forms to-columns (kind-layout PlainBook) (kind-layout ColumnBook) b t a.told (fits-parts t.block (names_of b) o.0) o.1 refl
    go ColumnBook PlainBook to-rows o = by-forms to-rows (kind-layout ColumnBook) (kind-layout PlainBook) b t a.told (fits-parts t.block (names_of b) o.0) o.1 refl

pub other-total : {b : Bytes} {t : Trailer} {μ : BookKind} → OtherAsk b t μ → t.nodes_at + 12 * t.nodes + 16 ≡ length b
other-total a = (other-book a).total

-- ---- the same, by what the code has read

module _ {b : Bytes} {t : Trailer} {μ : BookKind} (a : OtherAsk b t μ) {o m : ℕ} {turn : Turn} (at : o ≡ t.nodes_at) (many : m ≡ t.nodes) (turning : turn ≡ turn_for μ m) where
  own : OtherBook b t μ
  own = other-book a

  ends : o + 12 * m + 16 ≡ length b
  ends = omega (arith, own.total, at, many)

  turn_is : turn ≡ turn_for μ t.nodes
  turn_is = turning ∙ ap (turn_for μ) many

  pub table-asks : (part : Bytes) → length part ≡ length b - 16 - o → TurnAsk b o turn.rows 2 turn.inner turn.step part
  table-asks part h =
      subst (λ (x : Turn). TurnAsk b o x.rows 2 x.inner x.step part) (sym turn_is)
      (subst (λ (i : ℕ). TurnAsk b i (turn_for μ t.nodes).rows 2 (turn_for μ t.nodes).inner (turn_for μ t.nodes).step part) (sym at) (own.asks part (omega (arith, h, ends, many))))

  pub other-lent : {names block blocks : ℕ} (room r₁ w v : Bytes) → names ≡ t.names → block ≡ t.block → blocks ≡ t.blocks_at → length b ≤ length room
      → Copied (take (o - 0) b) room r₁ → w ≡ turned b o turn.rows 2 turn.inner turn.step → v ≡ trailer (mark_of μ) names block blocks o m (length b)
      → put (put r₁ o (length b - 16) w) (length b - 16) (length b) v ≡ over (book μ t.block (names_of b)) room
  other-lent {names} {block} {blocks} room r₁ w v n k s big front w-is v-is =
      ap (λ (i : ℕ). put (put r₁ i (length b - 16) w) (length b - 16) (length b) v) at
      ∙ own.whole room r₁ w v big (copied (take (o - 0) b) room r₁ front ∙ ap (λ (i : ℕ). over (take i b) room) o_is)
      (w-is ∙ ap (λ (x : Turn). turned b o x.rows 2 x.inner x.step) turn_is ∙ ap (λ (i : ℕ). turned b i (turn_for μ t.nodes).rows 2 (turn_for μ t.nodes).inner (turn_for μ t.nodes).step) at)
      (v-is ∙ five n k s at many)
    where
      o_is : o - 0 ≡ t.nodes_at
      o_is = omega (arith, at)

      five : {a₁ a₂ b₁ b₂ c₁ c₂ d₁ d₂ e₁ e₂ : ℕ} → a₁ ≡ a₂ → b₁ ≡ b₂ → c₁ ≡ c₂ → d₁ ≡ d₂ → e₁ ≡ e₂ → trailer (mark_of μ) a₁ b₁ c₁ d₁ e₁ (length b) ≡ trailer (mark_of μ) a₂ b₂ c₂ d₂ e₂ (length b)
      five p q r u w = cc

pub other-size : {b : Bytes} {t : Trailer} {μ : BookKind} → OtherAsk b t μ → length (book μ t.block (names_of b)) ≡ length b
other-size a = (other-book a).size
