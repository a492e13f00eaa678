-- A record by its fields, and fields by their places.
--     fields-are, record_is     a record's fields are the numbers that stand at their places; and the other way
--     map-starts                the map of a form's table starts where the table does
--     steps-within              no field stands further behind the first than the last one
--     strides-differ            different numbers of nodes are different ways, where nodes have some extent
--     strides-left              of a way over nodes, what is left behind a shorter one
--     strides-most              no way is longer than the one over nodes of a greater extent
--     number-in                 the node at the offset of node v is number v
--     number-first              the first node is number 0
--     number-on, placed_on      so many strides behind a node stands a node, whose number is as many more
--     number-before, number_past     offsets of nodes come as their numbers do
-- Assumes nothing.
use Prim.Native.Nat.{ℕ, zero, suc, pred, ◌+◌, ◌-◌, ◌*◌, ◌/◌, ◌≤◌, ◌<◌}
use native.Mathlib.Nat.{add-mul, le_of_mul-le-mul_right, lt_of_mul-lt-mul_right, mul-div_cancel, zero-div}
use native.Mathlib.Omega.{arith}
use mathlib.Core.Path.{◌≡◌, refl, sym, ap, ◌∙◌}
use lib.ListN.{get_or}
use Rattle.words.specs.Words.{Bytes}
use Rattle.format.specs.Book.{number}
use Rattle.format.specs.Kinds.{Columns, Form, Rows}
use Rattle.format.specs.Nodes.{Node, field_count, fields}
use Rattle.standing.specs.Maps.{Map, Placed, map_in, node_in, number_in, record_at}

module _ (step : ℕ) (b : Bytes) (o : ℕ) where
  pub fields-are : (j : ℕ) → j < field_count → number b (o + j * step) ≡ get_or (fields (record_at step b o)) j 0
  fields-are zero h = ap (number b) (omega arith)
  fields-are (suc zero) h = ap (number b) (omega arith)
  fields-are (suc (suc zero)) h = refl
  fields-are (suc (suc (suc zero))) h = refl
  fields-are (suc (suc (suc (suc zero)))) h = refl
  fields-are (suc (suc (suc (suc (suc zero))))) h = refl
  fields-are (suc (suc (suc (suc (suc (suc j)))))) h = absurd (omega arith)

  pub record_is : (r : Node) → ((j : ℕ) → j < field_count → number b (o + j * step) ≡ get_or (fields r) j 0) → record_at step b o ≡ r
  record_is r h = rw (field 0 (omega arith), field 1 (omega arith), field 2 (omega arith), field 3 (omega arith), field 4 (omega arith), field 5 (omega arith)) refl
    where
      field : (j : ℕ) → j < field_count → get_or (fields (record_at step b o)) j 0 ≡ get_or (fields r) j 0
      field j l = sym (fields-are j l) ∙ h j l

-- the map of a form's table starts where the table does
pub map-starts : (f : Form) (start count : ℕ) → (map_in f start count).start ≡ start
map-starts Rows start count = refl
map-starts Columns start count = refl

pub steps-within : (step j : ℕ) → j < field_count → j * step ≤ pred field_count * step
steps-within step zero h = omega arith
steps-within step (suc zero) h = omega arith
steps-within step (suc (suc zero)) h = omega arith
steps-within step (suc (suc (suc zero))) h = omega arith
steps-within step (suc (suc (suc (suc zero)))) h = omega arith
steps-within step (suc (suc (suc (suc (suc zero))))) h = omega arith
steps-within step (suc (suc (suc (suc (suc (suc j)))))) h = absurd (omega arith)

pub strides-differ : (s : ℕ) → 1 ≤ s → (m n : ℕ) → m * s ≡ n * s → m ≡ n
strides-differ s h zero zero e = refl
strides-differ s h zero (suc n) e = absurd (omega arith)
strides-differ s h (suc m) zero e = absurd (omega arith)
strides-differ s h (suc m) (suc n) e = ap suc (strides-differ s h m n (omega arith))

pub strides-left : (s : ℕ) → 1 ≤ s → (m n : ℕ) → m * s ≤ n * s → n * s ≡ m * s + (n - m) * s
strides-left s h zero n l = let z : n - 0 ≡ n = omega arith in omega (arith, ap (λ (k : ℕ). k * s) z)
strides-left s h (suc m) zero l = absurd (omega arith)
strides-left s h (suc m) (suc n) l = let z : suc n - suc m ≡ n - m = omega arith in omega (arith, strides-left s h m n (omega arith), ap (λ (k : ℕ). k * s) z)

pub strides-most : (s t n : ℕ) → s ≤ t → n * s ≤ n * t
strides-most s t zero h = omega arith
strides-most s t (suc n) h = omega (arith, strides-most s t n h)

pub number-in : (μ : Map) → 1 ≤ μ.stride → (v : ℕ) → number_in μ (node_in μ v) ≡ v
number-in μ h v =
    let z : μ.start + v * μ.stride - μ.start ≡ v * μ.stride = omega arith in
    ap (λ (x : ℕ). x / μ.stride) z ∙ mul-div_cancel v h

-- .. and no offset before it has another number
pub number-first : (μ : Map) (o : ℕ) → o ≤ μ.start → number_in μ o ≡ 0
number-first μ o h = let z : o - μ.start ≡ 0 = omega arith in ap (λ (x : ℕ). x / μ.stride) z ∙ zero-div μ.stride

module _ (μ : Map) (some : 1 ≤ μ.stride) {o : ℕ} (p : Placed μ o) (x : ℕ) where
  on-is : o + x * μ.stride ≡ node_in μ (number_in μ o + x)
  on-is = omega (arith, p, add-mul (number_in μ o) x μ.stride)

  pub number-on : number_in μ (o + x * μ.stride) ≡ number_in μ o + x
  number-on = ap (number_in μ) on-is ∙ number-in μ some (number_in μ o + x)

  pub placed_on : Placed μ (o + x * μ.stride)
  placed_on = on-is ∙ ap (node_in μ) (sym number-on)

  module _ {c : ℕ} (q : Placed μ c) where
    pub number-before : c < o + x * μ.stride → number_in μ c < number_in μ o + x
    number-before h = lt_of_mul-lt-mul_right μ.stride (omega (arith, q, on-is))

    pub number_past : o + x * μ.stride ≤ c → number_in μ o + x ≤ number_in μ c
    number_past h = le_of_mul-le-mul_right (omega (arith, q, on-is)) some
