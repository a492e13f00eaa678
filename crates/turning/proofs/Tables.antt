-- A node table that is turned: from rows to columns, and back.
--     gather-is, turned-is     what is gathered: numbers that stand so far apart, and rows of them
--     joined_at         a number in rows of one length, which stand one behind the other
--     Across            two tables, of which number i of row j in the one is number j of row i in the other; across-back: the other way
--     turned-table      a table that stands in some bytes is turned into the one across
--     to-columns, to-rows      a node table: into columns, and into rows
-- Assumes nothing.
use Prim.Native.Nat.{ℕ, zero, suc, ◌+◌, ◌*◌, ◌≤◌, ◌<◌}
use native.Mathlib.Nat.{le_of_suc-le-suc, not-suc-le-zero}
use native.Mathlib.Omega.{arith}
use mathlib.Core.Path.{◌≡◌, refl, sym, ap, ap₂, ◌∙◌}
use mathlib.Core.List.{List, [], ◌∷◌, ◌++◌, append-nil, map}
use lib.Arith.{digits_lt}
use lib.ListN.{get_or-append, get_or, length, length-map, take}
use lib.Seq.{get_or-append-add, get_or-drop, get_or-take, slice}
use Rattle.words.specs.Words.{Bytes}
use Rattle.format.specs.Book.{joined, numbers}
use Rattle.format.specs.Columns.{column, columns}
use Rattle.format.specs.Nodes.{Node, all_fields, fields, field_count}
use Rattle.format.proofs.Numbers.{numbers-append}
use Rattle.turning.specs.Turning.{gather, turned}

-- ---- one number, as its two bytes

abbrev two : Bytes → ℕ → Bytes
two b o = get_or b o 0 ∷ get_or b (o + 1) 0 ∷ []

numbers-two : (ns : List ℕ) (k : ℕ) → two (numbers ns) (2 * k) ≡ numbers (get_or ns k 0 ∷ [])
unfolding numbers
numbers-two [] k = refl
numbers-two (n ∷ ns) zero = refl
numbers-two (n ∷ ns) (suc k) =
    let low : 2 * suc k ≡ suc (suc (2 * k)) = omega arith in
    let high : 2 * suc k + 1 ≡ suc (suc (2 * k + 1)) = omega arith in
    let s : Bytes = numbers (n ∷ ns) in
    ap₂ (λ (x y : ℕ). get_or s x 0 ∷ get_or s y 0 ∷ []) low high ∙ numbers-two ns k

-- number k of a row of numbers, where the row stands in some bytes
two-told : (b : Bytes) (ns : List ℕ) (o e : ℕ) → slice o e b ≡ numbers ns → (k : ℕ) → o + 2 * k + 2 ≤ e → two b (o + 2 * k) ≡ numbers (get_or ns k 0 ∷ [])
two-told b ns o e q k h =
    let next : o + 2 * k + 1 ≡ o + (2 * k + 1) = omega arith in
    ap₂ (λ (x y : ℕ). x ∷ y ∷ []) (byte (2 * k) (omega arith)) (ap (λ (i : ℕ). get_or b i 0) next ∙ byte (2 * k + 1) (omega arith)) ∙ numbers-two ns k
  where
    byte : (i : ℕ) → o + i < e → get_or b (o + i) 0 ≡ get_or (numbers ns) i 0
    byte i l = sym (get_or-take e b (o + i) 0 l) ∙ sym (get_or-drop o (take e b) i 0) ∙ ap (λ (s : Bytes). get_or s i 0) q

-- ---- rows

gather-is : (b : Bytes) (ns : List ℕ) (from step : ℕ) → ((i : ℕ) → i < length ns → two b (from + i * step) ≡ numbers (get_or ns i 0 ∷ []))
    → gather b from step (length ns) ≡ numbers ns
unfolding gather numbers
gather-is b [] from step h = refl
gather-is b (n ∷ ns) from step h =
    let first : from ≡ from + 0 * step = omega arith in
    let behind : (i : ℕ) → from + step + i * step ≡ from + suc i * step = λ i. omega arith in
    ap₂ (λ (x y : Bytes). x ++ y) (ap (two b) first ∙ h 0 (omega arith)) (gather-is b ns (from + step) step (λ i l. ap (two b) (behind i) ∙ h (suc i) (omega arith)))

turned-is : (b : Bytes) (rows : List (List ℕ)) (from far inner step : ℕ) → ((j : ℕ) → j < length rows → gather b (from + j * far) step inner ≡ numbers (get_or rows j []))
    → turned b from (length rows) far inner step ≡ numbers (joined rows)
unfolding turned joined numbers
turned-is b [] from far inner step h = refl
turned-is b (r ∷ rows) from far inner step h =
    let row : ℕ → Bytes = λ at. gather b at step inner in
    let first : from ≡ from + 0 * far = omega arith in
    let behind : (j : ℕ) → from + far + j * far ≡ from + suc j * far = λ j. omega arith in
    ap₂ (λ (x y : Bytes). x ++ y) (ap row first ∙ h 0 (omega arith)) (turned-is b rows (from + far) far inner step (λ j l. ap row (behind j) ∙ h (suc j) (omega arith)))
    ∙ sym (numbers-append r (joined rows))

joined_at : (n : ℕ) (rows : List (List ℕ)) → ((i : ℕ) → i < length rows → length (get_or rows i []) ≡ n)
    → (i j : ℕ) → i < length rows → j < n → get_or (joined rows) (i * n + j) 0 ≡ get_or (get_or rows i []) j 0
unfolding joined
joined_at n [] long i j h l = absurd (not-suc-le-zero h)
joined_at n (r ∷ rows) long zero j h l =
    let first : 0 * n + j ≡ j = omega arith in
    ap (λ (x : ℕ). get_or (r ++ joined rows) x 0) first ∙ get_or-append r (joined rows) 0 j (omega (arith, long 0 h))
joined_at n (r ∷ rows) long (suc i) j h l =
    let behind : suc i * n + j ≡ length r + (i * n + j) = omega (arith, long 0 (omega arith)) in
    ap (λ (x : ℕ). get_or (r ++ joined rows) x 0) behind ∙ get_or-append-add r (joined rows) (i * n + j) 0
    ∙ joined_at n rows (λ k m. long (suc k) (omega arith)) i j (le_of_suc-le-suc h) l

-- ---- tables

-- a table of q rows with p numbers each, and one of p rows with q
record Across (old new : List (List ℕ)) (q p : ℕ) : Type 0 where
  rows : length old ≡ q
  others : length new ≡ p
  long : (i : ℕ) → i < q → length (get_or old i []) ≡ p
  wide : (j : ℕ) → j < p → length (get_or new j []) ≡ q
  same : (i j : ℕ) → i < q → j < p → get_or (get_or old i []) j 0 ≡ get_or (get_or new j []) i 0

across-back : {old new : List (List ℕ)} {q p : ℕ} → Across old new q p → Across new old p q
across-back a = record { rows = a.others; others = a.rows; long = a.wide; wide = a.long; same = λ i j h l. sym (a.same j i l h) }

turned-table : (b : Bytes) (o : ℕ) {old new : List (List ℕ)} {q p : ℕ} → Across old new q p → slice o (o + 2 * (q * p)) b ≡ numbers (joined old)
    → turned b o p 2 q (2 * p) ≡ numbers (joined new)
turned-table b o {old} {new} {q} {p} a stands =
    ap (λ (n : ℕ). turned b o n 2 q (2 * p)) (sym a.others) ∙ turned-is b new o 2 q (2 * p) (λ j h. row j (omega (arith, a.others)))
  where
    number : (i j : ℕ) → i < q → j < p → two b (o + j * 2 + i * (2 * p)) ≡ numbers (get_or (get_or new j []) i 0 ∷ [])
    number i j h l =
        let place : o + j * 2 + i * (2 * p) ≡ o + 2 * (i * p + j) = omega arith in
        ap (two b) place
        ∙ two-told b (joined old) o (o + 2 * (q * p)) stands (i * p + j) (omega (arith, digits_lt h l))
        ∙ ap (λ (n : ℕ). numbers (n ∷ [])) (joined_at p old (λ k m. a.long k (omega (arith, a.rows))) i j (omega (arith, a.rows)) l ∙ a.same i j h l)

    row : (j : ℕ) → j < p → gather b (o + j * 2) (2 * p) q ≡ numbers (get_or new j [])
    row j l =
        ap (gather b (o + j * 2) (2 * p)) (sym (a.wide j l))
        ∙ gather-is b (get_or new j []) (o + j * 2) (2 * p) (λ i h. number i j (omega (arith, a.wide j l)) l)

-- ---- a node table

-- n columns, from number j on
abbrev columns_from : ℕ → ℕ → List Node → List (List ℕ)
columns_from j zero rs = []
columns_from j (suc n) rs = column j rs ∷ columns_from (suc j) n rs

column-at : (j n : ℕ) (rs : List Node) (i k : ℕ) → i < n → j + i ≡ k → get_or (columns_from j n rs) i [] ≡ column k rs
column-at j zero rs i k h e = absurd (not-suc-le-zero h)
column-at j (suc n) rs zero k h e = ap (λ (x : ℕ). column x rs) {x = j} {y = k} (omega arith)
column-at j (suc n) rs (suc i) k h e = column-at (suc j) n rs i k (le_of_suc-le-suc h) (omega arith)

columns-joined : (rs : List Node) → joined (columns_from 0 field_count rs) ≡ columns rs
unfolding joined columns
columns-joined rs = ap (λ (c : List ℕ). column 0 rs ++ (column 1 rs ++ (column 2 rs ++ (column 3 rs ++ (column 4 rs ++ c))))) (append-nil (column 5 rs))

fields-joined : (rs : List Node) → joined (map fields rs) ≡ all_fields rs
unfolding joined all_fields
fields-joined [] = refl
fields-joined (r ∷ rs) = ap (λ (x : List ℕ). fields r ++ x) (fields-joined rs)

-- field j of node i, in its record and in column j
field_at : (rs : List Node) (i j : ℕ) → get_or (get_or (map fields rs) i []) j 0 ≡ get_or (column j rs) i 0
field_at [] i j = refl
field_at (r ∷ rs) zero j = refl
field_at (r ∷ rs) (suc i) j = field_at rs i j

fields-long : (rs : List Node) (i : ℕ) → i < length rs → length (get_or (map fields rs) i []) ≡ field_count
fields-long [] i h = absurd (not-suc-le-zero h)
fields-long (r ∷ rs) zero h = refl
fields-long (r ∷ rs) (suc i) h = fields-long rs i (le_of_suc-le-suc h)

nodes-across : (rs : List Node) (m : ℕ) → length rs ≡ m → Across (map fields rs) (columns_from 0 field_count rs) m field_count
nodes-across rs m e = record {
  rows = length-map rs fields ∙ e;
  others = refl;
  long = λ i h. fields-long rs i (omega arith);
  wide = λ j h. ap length (at j h) ∙ length-map rs (λ r. get_or (fields r) j 0) ∙ e;
  same = λ i j h l. field_at rs i j ∙ ap (λ (c : List ℕ). get_or c i 0) (sym (at j l));
}
  where
    at : (j : ℕ) → j < field_count → get_or (columns_from 0 field_count rs) j [] ≡ column j rs
    at j h = column-at 0 field_count rs j j h (omega arith)

module _ (b : Bytes) (o : ℕ) (rs : List Node) (m : ℕ) (e : length rs ≡ m) where
  pub to-columns : slice o (o + 12 * m) b ≡ numbers (all_fields rs) → turned b o 6 2 m 12 ≡ numbers (columns rs)
  to-columns stands =
      let size : o + 2 * (m * 6) ≡ o + 12 * m = omega arith in
      turned-table b o (nodes-across rs m e) (ap (λ (n : ℕ). slice o n b) size ∙ stands ∙ ap numbers (sym (fields-joined rs))) ∙ ap numbers (columns-joined rs)

  pub to-rows : slice o (o + 12 * m) b ≡ numbers (columns rs) → turned b o m 2 6 (2 * m) ≡ numbers (all_fields rs)
  to-rows stands =
      let size : o + 2 * (6 * m) ≡ o + 12 * m = omega arith in
      turned-table b o (across-back (nodes-across rs m e)) (ap (λ (n : ℕ). slice o n b) size ∙ stands ∙ ap numbers (sym (columns-joined rs))) ∙ ap numbers (fields-joined rs)
