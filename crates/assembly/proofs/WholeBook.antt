-- Laws of the whole book.
--     nodes-counted                   what both arms count
--     rows-put, rows-ask              the arm for node rows: what it writes, what it asks
--     columns-put                     the arm for columns, which no full book has
--     lengths-are                     the lengths that were noted
--     sizes-are, table_fits, ..       the sizes, by counting
--     trailer-is                      the trailer as eight numbers
--     book-size                       the length, by the sizes
--     blocks-part, table-part, book-lent      three parts, each from where the one before ended, are the book
-- Assumes nothing.
use Prim.Native.Nat.{ℕ, zero, suc, ◌+◌, ◌-◌, ◌*◌, ◌≤◌}
use native.Mathlib.Nat.{mul-le-mul}
use native.Mathlib.Omega.{arith}
use mathlib.Core.Path.{◌≡◌, refl, sym, ap, ap₂, ◌∙◌, subst}
use mathlib.Core.List.{List, [], ◌∷◌, ◌++◌, map}
use lib.ListN.{length, take, drop, length-append}
use mir.Val.{Fits}
use mir.Syntax.{w64}
use Rattle.words.specs.Words.{Bytes, Rule, Words, word}
use Rattle.words.proofs.Words.{false≠true}
use Rattle.format.specs.Full.{by_rows}
use Rattle.format.specs.Kinds.{BookKind, count_in, form_of, mark_of, record_size, rule_of, table_in}
use Rattle.format.specs.Book.{block_part, book, entry_part, numbers, trailer}
use Rattle.format.specs.Spans.{node_part}
use Rattle.format.specs.Nodes.{table, node_size}
use Rattle.format.proofs.BookKinds.{kind-layout, mark-length}
use Rattle.format.proofs.Book.{book-length, book-three, full-nodes, node-length, node-number, table-length, trailer_at, trailer_numbers}
use Rattle.format.proofs.Numbers.{numbers-length}
use Rattle.format.proofs.Groups.{table_empty}
use Rattle.format.proofs.Spans.{table-few}
use Rattle.format.specs.Outcomes.{over}
use Rattle.numbers.proofs.Parts.{lent, over-length, part_length, parts-put, put}
use Rattle.records.specs.Lists.{names, words}
use Rattle.records.proofs.Starts.{ready-rises, words-length}
use Rattle.symbols.specs.Rules.{rule_by}
use Rattle.symbols.specs.declared.Rule.{Rule as ByRule}
use Rattle.kinds.specs.Known.{form_by}
use Rattle.kinds.specs.declared.Form.{Form as CodeForm}
use Rattle.kinds.specs.declared.Form.TheVariants.{Columns as InColumns}
use Rattle.nodes.specs.Writing.{NodesAsk, NodesPut}
use Rattle.counting.specs.Counting.{NodeCount}
use Rattle.blocks.specs.Writing.{LengthsAre, SumsAre}
use Rattle.assembly.specs.Whole.{BuildAsk, RecordCount, Sized, TablePut}

-- ---- the table by its form

-- the words of a list's names, by a kind's rule
names-words : (κ : BookKind) (s : Bytes) → map (word (rule_of κ)) (names s) ≡ words (rule_of κ) s
unfolding words
names-words κ s = refl

pub nodes-counted : (κ : BookKind) (n : ℕ) (shares : List ℕ) (m : ℕ) → NodeCount n shares m → RecordCount κ n shares m
unfolding NodeCount RecordCount
nodes-counted κ n shares m p s lens counts ready = p (rule_of κ) s lens counts ready ∙ ap (λ (ws : Words). length (table ws)) (sym (names-words κ s)) ∙ sym (node-number (form_of κ) (rule_of κ) (names s))

pub rows-put : (κ : BookKind) (rule : ByRule) {s room after : Bytes} {m : ℕ} → rule_by rule ≡ rule_of κ → NodesPut (rule_by rule) s room after m → TablePut κ s room after
rows-put κ rule {s} {room} {after} {m} e p = record {
  put = λ full h.
      own.put (h ∙ sym (full_size (names s)) ∙ node-length (form_of κ) (rule_of κ) (names s) ∙ ap (λ (x : ℕ). x * node_size) (node-number (form_of κ) (rule_of κ) (names s) ∙ ap (λ (ws : Words). length (table ws)) (names-words κ s)))
      ∙ ap (λ (ws : Words). node_part (table ws)) (sym (names-words κ s)) ∙ sym (full-nodes κ full (rule_of κ) (names s));
}
  where
    own : NodesPut (rule_of κ) s room after m
    own = subst (λ (ρ : Rule). NodesPut ρ s room after m) e p

    full_size : (xs : List Bytes) → length (numbers (table_in (form_of κ) (rule_of κ) xs)) ≡ count_in (form_of κ) (rule_of κ) xs * record_size (form_of κ)
    full_size xs = table-length (form_of κ) (rule_of κ) xs

-- columns are no full book's table
pub columns-put : (κ : BookKind) (form : CodeForm) {s room after : Bytes} → form_by form ≡ form_of κ → form ≡ InColumns → TablePut κ s room after
columns-put κ form e is = record { put = λ full h. absurd (false≠true (ap (λ (f : CodeForm). by_rows (form_by f)) (sym is) ∙ ap by_rows e ∙ full)) }

-- the rule that is handed on is the kind's
pub rows-ask : (κ : BookKind) (rule : ByRule) {s : Bytes} {n : ℕ} {lens shares : List ℕ} → rule_by rule ≡ rule_of κ → NodesAsk (rule_of κ) s n lens shares → NodesAsk (rule_by rule) s n lens shares
rows-ask κ rule {s} {n} {lens} {shares} e a = subst (λ (ρ : Rule). NodesAsk ρ s n lens shares) (sym e) a

module _ {κ : BookKind} {s : Bytes} {n : ℕ} {lens counts shares : List ℕ} {k : ℕ} (a : BuildAsk κ s n lens counts shares k) where
  pub lengths-are : LengthsAre (names s) lens
  lengths-are = record { enough = a.ready.noted.lens-room; sizes = a.ready.noted.sizes }

  -- size is that of a record
  module _ (m : ℕ) (p : RecordCount κ n shares m) {size : ℕ} (se : size ≡ record_size (form_of κ)) (small : size ≤ node_size) where
    records-are : m ≡ count_in (form_of κ) (rule_of κ) (names s)
    unfolding RecordCount
    records-are = p s lens counts a.ready

    nodes-are : m ≡ length (table (words (rule_of κ) s))
    nodes-are = records-are ∙ node-number (form_of κ) (rule_of κ) (names s) ∙ ap (λ (ws : Words). length (table ws)) (names-words κ s)

    records-few : m ≤ 4000
    records-few = go n refl
      where
        go : (i : ℕ) → i ≡ n → m ≤ 4000
        go zero e = omega (arith, nodes-are, ap length (table_empty (words (rule_of κ) s) (omega (arith, words-length (rule_of κ) s, a.ready.total))))
        go (suc i) e = omega (arith, nodes-are, table-few (words (rule_of κ) s) (ready-rises a.ready) (omega (arith, words-length (rule_of κ) s, a.ready.total)), words-length (rule_of κ) s, a.ready.total, a.ready.few)

    short : m * size ≤ 4000 * node_size
    short = mul-le-mul records-few small

    pub table_fits : Fits w64 (m * size)
    table_fits = omega (arith, short)

    module _ {c e : ℕ} (t : SumsAre s k c e) where
      pub sizes-are : Sized κ s k e (e + 2 * c) m (e + 2 * c + m * size + 16)
      sizes-are = record {
        blocks_start = t.size_is;
        nodes-start = omega (arith, t.count-is);
        number = records-are;
        whole = ap (λ (x : ℕ). e + 2 * c + m * x + 16) se;
        few = omega (arith, t.small, t.few, short);
      }

      pub tables-fit : Fits w64 (e + 2 * c + m * size)
      tables-fit = omega (arith, sizes-are.few)

      pub book-fits : Fits w64 (e + 2 * c + m * size + 16)
      book-fits = omega (arith, sizes-are.few)

  module _ {blocks nodes count total : ℕ} (z : Sized κ s k blocks nodes count total) where
    trailer-at : trailer_at (kind-layout κ) k (names s) ≡ total - 16
    trailer-at =
        omega (arith, z.blocks_start, z.nodes-start, z.whole, table-length (form_of κ) (rule_of κ) (names s), ap (λ (m : ℕ). m * record_size (form_of κ)) z.number)

    pub book-size : length (book κ k (names s)) ≡ total
    book-size = book-length (kind-layout κ) k (names s) ∙ omega (arith, trailer-at, z.whole)

    trailer-is : trailer (mark_of κ) n k blocks nodes count total ≡ numbers (trailer_numbers (kind-layout κ) k (names s)) ++ mark_of κ
    unfolding trailer
    trailer-is =
        ap (λ (l : List ℕ). numbers l ++ mark_of κ)
        (six a.ready.total z.blocks_start (omega (arith, z.nodes-start, z.blocks_start))
        z.number (omega (arith, trailer-at, z.whole)))
      where
        six : {a₁ a₂ b₁ b₂ c₁ c₂ d₁ d₂ e₁ e₂ : ℕ} → a₁ ≡ a₂ → b₁ ≡ b₂ → c₁ ≡ c₂ → d₁ ≡ d₂ → e₁ ≡ e₂
            → ◌≡◌ {A = List ℕ} (a₁ ∷ k ∷ b₁ ∷ c₁ ∷ d₁ ∷ e₁ ∷ []) (a₂ ∷ k ∷ b₂ ∷ c₂ ∷ d₂ ∷ e₂ ∷ [])
        six p q r t u = cc

    -- entries and block table are lent as one part
    pub blocks-part : (room : Bytes) → total ≤ length room → length (take (nodes - 0) (drop 0 room)) ≡ blocks + length (block_part k (names s))
    blocks-part room big = part_length room 0 (nodes - 0) (omega (arith, z.whole)) ∙ omega (arith, z.nodes-start)

    -- three parts, each from where the one before ended
    module _ (room x : Bytes) (big : total ≤ length room) (x-is : x ≡ entry_part k (names s) ++ block_part k (names s)) where
      abbrev r₁ : Bytes
      r₁ = put room 0 nodes x

      l₁ : length x ≡ nodes
      l₁ = ap length x-is ∙ length-append (entry_part k (names s)) (block_part k (names s)) ∙ omega (arith, z.blocks_start, z.nodes-start)

      p₁ : r₁ ≡ over x room
      p₁ = lent [] room room x 0 (nodes - 0) refl refl (omega (arith, z.whole)) (omega (arith, l₁))

      table-part : length (take (total - 16 - nodes) (drop nodes (put room 0 nodes x))) ≡ count * record_size (form_of κ)
      table-part =
          part_length r₁ nodes (total - 16 - nodes) (omega (arith, ap length p₁ ∙ over-length x room (omega (arith, l₁, z.whole)), z.whole)) ∙ omega (arith, z.whole)

      module _ (w v : Bytes) (q : TablePut κ s (take (total - 16 - nodes) (drop nodes (put room 0 nodes x))) w) (v-is : v ≡ trailer (mark_of κ) n k blocks nodes count total) where
        w-is : w ≡ numbers (table_in (form_of κ) (rule_of κ) (names s))
        w-is = q.put a.full (table-part ∙ ap (λ (i : ℕ). i * record_size (form_of κ)) z.number)

        l₂ : length w ≡ total - 16 - nodes
        l₂ = ap length w-is ∙ omega (arith, table-length (form_of κ) (rule_of κ) (names s), ap (λ (i : ℕ). i * record_size (form_of κ)) z.number, z.whole)

        l₃ : length v ≡ 16
        l₃ =
            ap length (v-is ∙ trailer-is) ∙ length-append (numbers (trailer_numbers (kind-layout κ) k (names s))) (mark_of κ)
            ∙ omega (arith, numbers-length (trailer_numbers (kind-layout κ) k (names s)), mark-length κ)

        parts : (x ++ w) ++ v ≡ book κ k (names s)
        parts =
            let front : Bytes = entry_part k (names s) ++ block_part k (names s) in
            let end : Bytes = numbers (trailer_numbers (kind-layout κ) k (names s)) ++ mark_of κ in
            ap₂ (λ (i j : Bytes). (i ++ w) ++ j) x-is (v-is ∙ trailer-is) ∙ ap (λ (i : Bytes). (front ++ i) ++ end) w-is ∙ sym (book-three (kind-layout κ) k (names s))

        pub book-lent : put (put (put room 0 nodes x) nodes (total - 16) w) (total - 16) total v ≡ over (book κ k (names s)) room
        book-lent =
            parts-put x room r₁ w v nodes (total - 16) total p₁ l₁ (omega (arith, l₂, z.whole)) (omega (arith, l₃, z.whole)) big ∙ ap (λ (i : Bytes). over i room) parts
