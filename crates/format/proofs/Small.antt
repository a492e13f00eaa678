-- Every number of a book fits its place: counts and lengths a byte, numbers of the node table two bytes.
--     Modest            a word of at most 200 symbols, each at most 256
--     table-small       the numbers of a node table
--     decode-bytes, names-bytes, book-bytes    names of bytes, books of bytes
-- Assumes nothing.
use Prim.Native.Nat.{ℕ, zero, suc, ◌+◌, ◌-◌, ◌≤◌, ◌<◌}
use native.Mathlib.Nat.{le_of_suc-le-suc}
use native.Mathlib.Omega.{arith}
use mathlib.Core.Path.{◌≡◌, refl, sym, ap, subst}
use mathlib.Core.List.{List, [], ◌∷◌, ◌++◌}
use lib.ListN.{length, take, drop, length-append, length-drop, take-append-drop}
use Rattle.words.specs.Rising.{All, Rises, cons, nil}
use Rattle.words.specs.Words.{Bytes, InBytes, Rule, Words, at, shared}
use Rattle.words.proofs.Lists.{all_append, all_head, all_left, all_map, all_right}
use Rattle.words.proofs.Rising.{rises-left, rises-right}
use Rattle.words.proofs.Words.{shared-comm, shared-le}
use Rattle.format.specs.Kinds.{Form}
use Rattle.format.specs.Layout.{Layout}
use Rattle.format.specs.Book.{block_part, book_by, entry_part, joined, names_of, number, trailer, trailer_size}
use Rattle.format.specs.Entries.{blocks, blocks_from, decode, decode_from, entry, front}
use Rattle.format.specs.Nodes.{Node, all_fields, depth, fields, groups, row_by, table, table_within}
use Rattle.format.specs.Spans.{node_table}
use Rattle.format.specs.Widths.{widest}
use Rattle.format.specs.Records.{longest}
use Rattle.format.proofs.Entries.{by_blocks, entries-first}
use Rattle.format.proofs.Groups.{PartedGroups, Short, children, depth-length, joined_groups, part, row_within, shorter, whole, within-few}
use Rattle.format.proofs.Numbers.{bytes-all, numbers-bytes, take-bytes}
use Rattle.format.proofs.Widths.{widest-low}

-- a word that is short, and whose symbols are small
pub record Modest (w : List ℕ) : Type 0 where
  pub short : length w ≤ longest
  pub symbols : (d : ℕ) → at w d ≤ 256

abbrev Two : List ℕ → Type 0
Two ns = All (λ n. n < 65536) ns

abbrev SmallTable : ℕ → Type 0
SmallTable f = (i s : ℕ) (ws : Words) → Rises ws → All Modest ws → length ws ≤ f → i + length ws ≤ 2000 → s ≤ 256 → Two (all_fields (table_within f i s ws))

fields-append : (rs ss : List Node) → all_fields (rs ++ ss) ≡ all_fields rs ++ all_fields ss
unfolding all_fields
fields-append [] ss = refl
fields-append (r ∷ rs) ss = ap (λ (l : List ℕ). fields r ++ l) (fields-append rs ss)

row_small : (f : ℕ) → SmallTable f → (d i : ℕ) (gs : List Words) → PartedGroups d gs → Rises (joined_groups gs) → All Modest (joined_groups gs) → Short f gs
    → i + length (joined_groups gs) ≤ 2000 → Two (all_fields (row_within f i d gs))
unfolding row_by all_fields
row_small f small d i gs whole r a t n = nil
row_small f small d i gs (part {w = w} {g = g} {gs = hs} e u p) r a (cons l t) n =
    subst Two (sym (fields-append (table_within f i (at w d) (w ∷ g)) (row_within f (i + length (w ∷ g)) d hs)))
    (all_append
    (small i (at w d) (w ∷ g) (rises-left (w ∷ g) (joined_groups hs) r) (all_left (w ∷ g) (joined_groups hs) a) l
    (omega (arith, length-append (w ∷ g) (joined_groups hs))) ((all_head a).symbols d))
    (row_small f small d (i + length (w ∷ g)) hs p (rises-right (w ∷ g) (joined_groups hs) r) (all_right (w ∷ g) (joined_groups hs) a) t
    (omega (arith, length-append (w ∷ g) (joined_groups hs)))))

within-small : (f : ℕ) → SmallTable f
unfolding table_within all_fields
within-small zero i s ws r a l n h = nil
within-small (suc f) i s [] r a l n h = nil
within-small (suc f) i s (w ∷ []) r (cons m a) l n h =
    cons {a = s} (omega arith) (cons {a = suc (length w)} (omega (arith, m.short)) (cons {a = i} (omega arith) (cons {a = 1} (omega arith) (cons {a = 1} (omega arith)
    (cons {a = length w} (omega (arith, m.short)) nil)))))
within-small (suc f) i s (w ∷ v ∷ vs) r (cons m a) l n h =
    let d : ℕ = depth w (v ∷ vs) in
    let c = children w v vs r in
    let few = within-few (suc f) i s w (v ∷ vs) r l in
    let row : List Node = row_within f i d (groups d (w ∷ v ∷ vs)) in
    cons {a = s} (omega arith)
    (cons {a = d} (omega (arith, m.short, depth-length w (v ∷ vs)))
    (cons {a = i} (omega arith)
    (cons {a = length (w ∷ v ∷ vs)} (omega arith)
    (cons {a = suc (length row)} (omega arith)
    (cons {a = widest (w ∷ v ∷ vs)} (omega (arith, widest-low longest (all_map (λ x k. k.short) (cons m a))))
    (row_small f (within-small f) d i (groups d (w ∷ v ∷ vs)) c.parted c.rises (subst (All Modest) (sym c.all) (cons m a))
    (shorter _ (le_of_suc-le-suc l) c.small) (omega (arith, ap length c.all))))))))

pub table-small : (ws : Words) → Rises ws → All Modest ws → length ws ≤ 2000 → Two (all_fields (table ws))
unfolding table node_table
table-small ws r a n = within-small (length ws) 0 0 ws r a (omega arith) (omega arith) (omega arith)

-- ---- names of bytes

abbrev Small : Bytes → Type 0
Small s = All (λ b. b < 256) s

pub decode-bytes : (prev : Bytes) (n : ℕ) (s : Bytes) → Small prev → Small s → All Small (decode_from prev n s)
unfolding decode_from
decode-bytes prev zero [] p a = nil
decode-bytes prev zero (c ∷ []) p a = nil
decode-bytes prev zero (c ∷ l ∷ rest) p (cons h (cons k a)) =
    let x : Small (take c prev ++ take l rest) = all_append (take-bytes c prev p) (take-bytes l rest a) in
    cons x (decode-bytes (take c prev ++ take l rest) l rest x a)
decode-bytes prev (suc n) [] p a = nil
decode-bytes prev (suc n) (b ∷ rest) p (cons h a) = decode-bytes prev n rest p a

-- the names that bytes tell
pub names-bytes : (s : Bytes) → InBytes s → All Small (names_of s)
unfolding decode names_of
names-bytes s h = let n : ℕ = number s (length s - trailer_size + 4) in decode-bytes [] 0 (take n s) nil (take-bytes n s (bytes-all s h))

-- ---- a book is bytes

-- names of at most 200 bytes, each 0 to 255
abbrev Lettered : List Bytes → Type 0
Lettered xs = All (λ x. (length x ≤ longest) × Small x) xs

front_bytes : (prev : Bytes) (xs : List Bytes) → Lettered xs → Small (front prev xs)
unfolding front entry
front_bytes prev [] a = nil
front_bytes prev (x ∷ xs) (cons h a) =
    let c : ℕ = shared prev x in
    let rest : Bytes = drop c x in
    cons {a = c} (omega (arith, h.0, shared-comm prev x, shared-le x prev))
    (cons {a = length rest} (omega (arith, h.0, length-drop c x))
    (all_append (all_right (take c x) rest (subst Small (sym (take-append-drop c x)) h.1)) (front_bytes x xs a)))

entries-bytes : (k : ℕ) (xs : List Bytes) → 1 ≤ k → Lettered xs → Small (entry_part k xs)
unfolding entry_part blocks joined blocks_from
entries-bytes k xs h = by_blocks k h (λ (ys : List Bytes). Lettered ys → Small (entry_part k ys)) (λ a. nil) (λ y ys ih a.
    let whole : Lettered (take k (y ∷ ys) ++ drop k (y ∷ ys)) = subst Lettered (sym (take-append-drop k (y ∷ ys))) a in
    subst Small (sym (entries-first k y ys h))
    (all_append (front_bytes [] (take k (y ∷ ys)) (all_left (take k (y ∷ ys)) (drop k (y ∷ ys)) whole)) (ih (all_right (take k (y ∷ ys)) (drop k (y ∷ ys)) whole)))) xs

pub book-bytes : {ρ : Rule} {f : Form} {mark : Bytes} → Layout ρ f mark → (k : ℕ) (xs : List Bytes) → 1 ≤ k → Lettered xs → Small (book_by ρ f mark k xs)
unfolding book_by block_part trailer
book-bytes {mark = mark} y k xs h a =
    all_append (entries-bytes k xs h a)
    (all_append (numbers-bytes _) (all_append (numbers-bytes _) (all_append (numbers-bytes _)
    (bytes-all mark y.bytes))))
