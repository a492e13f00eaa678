-- Every question has its descent, so that what is concluded from one is never empty talk.
--     seek-exists       a row has a first child whose symbol is not below s, or ends
--     descent-exists    from the root, a path that halts
-- Assumes nothing.
use Prim.Native.Nat.{ℕ, zero, suc, ◌+◌, ◌≤◌, ◌<◌}
use native.Mathlib.Nat.{lt_irrefl}
use native.Mathlib.Decide.{ℕ_discrete}
use native.Mathlib.Omega.{arith}
use mathlib.Core.Path.{◌≡◌, refl}
use mathlib.Core.Logic.{◌⊎◌, inl, inr}
use mathlib.Core.List.{List}
use lib.ListN.{length, set, replicate}
use Rattle.words.specs.Rising.{Rises, nth}
use Rattle.words.specs.Words.{Words, at}
use Rattle.words.proofs.Words.{apart}
use Rattle.descent.proofs.Paths.{halt-end, halt-leaf, halt-other, halt-short, passed-few, passed_on, passed-room, passed-sits, passed_start, taken}
use Rattle.descent.proofs.Rows.{seek-end, seek_found, seek-more, seek-some, seek-start}
use Rattle.descent.specs.Vocabulary.{Descended, Halts, Passed, Seeking, Sits, Sought, Taken, node}

module _ (ws : Words) (r : Rises ws) where
  seek-on : (n v s c : ℕ) → v + (node ws v).nodes ≤ c + n → Seeking ws v s c → (e : ℕ) × Sought ws v s e
  seek-on zero v s c l k = (c, seek-end ws r k (omega arith))
  seek-on (suc n) v s c l k = go (λ d m j. seek-on n v s d m j) (apart c (v + (node ws v).nodes)) (apart (node ws c).symbol s)
    where
      go : ((d : ℕ) → v + (node ws v).nodes ≤ d + n → Seeking ws v s d → (e : ℕ) × Sought ws v s e)
          → (c < v + (node ws v).nodes) ⊎ (v + (node ws v).nodes ≤ c) → ((node ws c).symbol < s) ⊎ (s ≤ (node ws c).symbol) → (e : ℕ) × Sought ws v s e
      go ih (inr h) o = (c, seek-end ws r k h)
      go ih (inl h) (inr g) = (c, seek_found ws r k h g)
      go ih (inl h) (inl g) = ih (c + (node ws c).nodes) (omega (arith, seek-some ws r k h)) (seek-more ws r k h g refl)

  pub seek-exists : (v s : ℕ) → Seeking ws v s (v + 1) → (e : ℕ) × Sought ws v s e
  seek-exists v s k = seek-on (node ws v).nodes v s (v + 1) (omega arith) k

  module _ (q : List ℕ) (short : (i : ℕ) → length (nth ws i) ≤ 200) where
    -- a descent, however its path is kept
    pub record WholeWay : Type 0 where
      pub passed : List ℕ
      pub count : ℕ
      pub last : ℕ
      pub whole : Descended ws q passed count last

    -- at a node q halts, or goes on to a child
    way : (v : ℕ) → Sits ws v → Halts ws q v ⊎ ((c : ℕ) × Taken ws q v c)
    way v z = elim (ℕ_discrete (node ws v).names 1) [
      | yes e ↦ inl (halt-leaf ws r q z e)
      | no n ↦ inner n (apart (length q) (node ws v).depth) (seek-exists v (at q (node ws v).depth) (seek-start ws r z n))
    ]
      where
        inner : ((node ws v).names ≡ 1 → ⊥) → (length q < (node ws v).depth) ⊎ ((node ws v).depth ≤ length q) → (e : ℕ) × Sought ws v (at q (node ws v).depth) e
            → Halts ws q v ⊎ ((c : ℕ) × Taken ws q v c)
        inner n (inl h) k = inl (halt-short ws r q z n h)
        inner n (inr h) (c, k) = child (apart c (v + (node ws v).nodes)) (ℕ_discrete (node ws c).symbol (at q (node ws v).depth))
          where
            child : (c < v + (node ws v).nodes) ⊎ (v + (node ws v).nodes ≤ c) → Dec ((node ws c).symbol ≡ at q (node ws v).depth) → Halts ws q v ⊎ ((c : ℕ) × Taken ws q v c)
            child (inr g) o = inl (halt-end ws r q z n h k g)
            child (inl g) (yes e) = inr (c, taken ws r q z n h k g e)
            child (inl g) (no e) = inl (halt-other ws r q z n h k g e)

    go-down : (f : ℕ) (p : List ℕ) (n v : ℕ) → Passed ws q p n v → 202 ≤ n + f → WholeWay
    go-down zero p n v t l = on (way v (passed-sits ws r t short))
      where
        on : Halts ws q v ⊎ ((c : ℕ) × Taken ws q v c) → WholeWay
        on (inl h) = record { passed = p; count = n; last = v; whole = record { few = passed-few ws r t short; path = t; halts = h } }
        on (inr (c, k)) = absurd (lt_irrefl n (omega (arith, passed-room ws r t short k)))
    go-down (suc f) p n v t l = on (λ p n v t l. go-down f p n v t l) (way v (passed-sits ws r t short))
      where
        on : ((p : List ℕ) (n v : ℕ) → Passed ws q p n v → 202 ≤ n + f → WholeWay) → Halts ws q v ⊎ ((c : ℕ) × Taken ws q v c) → WholeWay
        on ih (inl h) = record { passed = p; count = n; last = v; whole = record { few = passed-few ws r t short; path = t; halts = h } }
        on ih (inr (c, k)) = ih (set p n c) (n + 1) c (passed_on ws r t short k) (omega arith)

    pub descent-exists : 0 < length ws → WholeWay
    descent-exists h = go-down 201 (replicate 202 0) 1 0 (passed_start ws r q (replicate 202 0) h refl refl) (omega arith)
