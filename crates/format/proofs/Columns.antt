-- Laws of a node table as columns.
--     column-at         place i of column j has number j of record i
--     columns-length    the columns have six numbers for each record
--     columns-at        column j stands behind j whole columns
--     columns-all       what holds of all numbers of the records holds of those of the columns
-- Assumes nothing.
use Prim.Native.Nat.{ℕ, zero, suc, pred, ◌+◌, ◌*◌, ◌≤◌, ◌<◌, suc-le-suc, zero-le}
use native.Mathlib.Nat.{le_of_suc-le-suc, not-suc-le-zero}
use native.Mathlib.Omega.{arith}
use mathlib.Core.Path.{◌≡◌, refl, sym, ap, ◌∙◌}
use mathlib.Core.List.{List, [], ◌∷◌, ◌++◌}
use lib.ListN.{get_or-append, get_or, length, length-append, length-map}
use lib.Seq.{get_or-append-add}
use Rattle.words.specs.Rising.{All, cons, nil}
use Rattle.words.proofs.Lists.{all_append, all-at, all_left, all_right}
use Rattle.format.specs.Columns.{column, columns}
use Rattle.format.specs.Nodes.{Node, all_fields, field_count, fields}

-- ---- one column

column-length : (rs : List Node) (j : ℕ) → length (column j rs) ≡ length rs
column-length rs j = length-map rs (λ r. get_or (fields r) j 0)

pub column-at : (rs : List Node) (i j : ℕ) → j < field_count → get_or (column j rs) i 0 ≡ get_or (all_fields rs) (field_count * i + j) 0
unfolding all_fields
column-at [] i j h = refl
column-at (r ∷ rs) zero j h =
    let z : j ≡ field_count * 0 + j = omega arith in
    sym (get_or-append (fields r) (all_fields rs) 0 j h) ∙ ap (λ (n : ℕ). get_or (fields r ++ all_fields rs) n 0) z
column-at (r ∷ rs) (suc i) j h =
    let z : field_count + (field_count * i + j) ≡ field_count * suc i + j = omega arith in
    column-at rs i j h ∙ sym (get_or-append-add (fields r) (all_fields rs) (field_count * i + j) 0) ∙ ap (λ (n : ℕ). get_or (fields r ++ all_fields rs) n 0) z

column-all : {P : ℕ → Type 0} (rs : List Node) (j : ℕ) → j < field_count → All P (all_fields rs) → All P (column j rs)
unfolding all_fields
column-all [] j h a = nil
column-all (r ∷ rs) j h a = cons (all-at 0 (fields r) (all_left (fields r) (all_fields rs) a) j h) (column-all rs j h (all_right (fields r) (all_fields rs) a))

-- ---- all of them, over any parts

-- part 0 to part n
unfoldable parts : (ℕ → List ℕ) → ℕ → List ℕ
parts f zero = f 0
parts f (suc n) = f 0 ++ parts (λ j. f (suc j)) n

parts_all : {P : ℕ → Type 0} (f : ℕ → List ℕ) (n : ℕ) → ((j : ℕ) → j ≤ n → All P (f j)) → All P (parts f n)
unfolding parts
parts_all f zero a = a 0 zero-le
parts_all f (suc n) a = all_append (a 0 zero-le) (parts_all (λ j. f (suc j)) n (λ j h. a (suc j) (suc-le-suc h)))

-- of one length m
module _ (m : ℕ) where
  parts-length : (f : ℕ → List ℕ) → ((j : ℕ) → length (f j) ≡ m) → (n : ℕ) → length (parts f n) ≡ suc n * m
  unfolding parts
  parts-length f e zero = omega (arith, e 0)
  parts-length f e (suc n) = omega (arith, length-append (f 0) (parts (λ j. f (suc j)) n), e 0, parts-length (λ j. f (suc j)) (λ j. e (suc j)) n)

  parts_at : (f : ℕ → List ℕ) → ((j : ℕ) → length (f j) ≡ m) → (n i j : ℕ) → i < m → j ≤ n → get_or (parts f n) (j * m + i) 0 ≡ get_or (f j) i 0
  unfolding parts
  parts_at f e zero i zero l h = let z : 0 * m + i ≡ i = omega arith in ap (λ (k : ℕ). get_or (f 0) k 0) z
  parts_at f e zero i (suc j) l h = absurd (not-suc-le-zero h)
  parts_at f e (suc n) i zero l h =
      let z : 0 * m + i ≡ i = omega arith in
      ap (λ (k : ℕ). get_or (parts f (suc n)) k 0) z ∙ get_or-append (f 0) (parts (λ j. f (suc j)) n) 0 i (omega (arith, e 0))
  parts_at f e (suc n) i (suc j) l h =
      let z : suc j * m + i ≡ length (f 0) + (j * m + i) = omega (arith, e 0) in
      ap (λ (k : ℕ). get_or (parts f (suc n)) k 0) z ∙ get_or-append-add (f 0) (parts (λ j. f (suc j)) n) (j * m + i) 0
      ∙ parts_at (λ j. f (suc j)) (λ j. e (suc j)) n i j l (le_of_suc-le-suc h)

module _ (rs : List Node) where
  pub columns-length : length (columns rs) ≡ field_count * length rs
  unfolding columns parts
  columns-length = parts-length (length rs) (λ j. column j rs) (column-length rs) (pred field_count)

  pub columns-at : (i j : ℕ) → i < length rs → j < field_count → get_or (columns rs) (j * length rs + i) 0 ≡ get_or (column j rs) i 0
  unfolding columns parts
  columns-at i j l h = parts_at (length rs) (λ j. column j rs) (column-length rs) (pred field_count) i j l (le_of_suc-le-suc h)

  pub columns-all : {P : ℕ → Type 0} → All P (all_fields rs) → All P (columns rs)
  unfolding columns parts
  columns-all a = parts_all (λ j. column j rs) (pred field_count) (λ j h. column-all rs j (suc-le-suc h) a)
