-- The way back up: the loop of `highest`, from the end of the path.
--     Upwards              from the end of the path to a place no node but the last is less deep than is asked
--     climb-..             where the loop starts, goes on, and ends
-- Assumes nothing.
use Prim.Native.Nat.{ℕ, suc, ◌-◌, ◌≤◌, ◌<◌}
use native.Mathlib.Nat.{lt_irrefl}
use native.Mathlib.Omega.{arith}
use mathlib.Core.Path.{◌≡◌, ◌∙◌, ap, subst, sym}
use mathlib.Core.Logic.{◌⊎◌, inl, inr}
use mathlib.Core.List.{List}
use lib.ListN.{get_or}
use Rattle.words.specs.Words.{Bytes}
use Rattle.words.proofs.Words.{apart}
use Rattle.standing.specs.Maps.{Roomy, record_at}
use Rattle.paths.specs.Paths.{HighestAt, OnPath}

-- from the end of the path to j no node but the last is less deep than m
pub record Upwards (b : Bytes) (step : ℕ) (p : List ℕ) (n m j : ℕ) : Type 0 where
  pub nodes : OnPath b step p n
  pub within : j < n
  pub deep : (m ≤ (record_at step b (get_or p j 0)).depth) ⊎ (suc j ≡ n)

pub climb-start : {b : Bytes} {step : ℕ} {p : List ℕ} {n m : ℕ} → OnPath b step p n → Upwards b step p n m (n - 1)
climb-start t = record { nodes = t; within = omega (arith, t.some); deep = inr (omega (arith, t.some)) }

module _ {b : Bytes} {step : ℕ} {p : List ℕ} {n m j : ℕ} (k : Upwards b step p n m j) where
  -- node number j of the path is the highest, if those above it are less deep
  climbed : {r : ℕ} → r ≡ get_or p j 0 → ((i : ℕ) → i < j → (record_at step b (get_or p i 0)).depth < m) → HighestAt b step p n m r
  climbed {r} e a = record {
    index = j;
    within = k.within;
    is = e;
    above = a;
    deep = subst (λ (u : ℕ). (m ≤ (record_at step b u).depth) ⊎ (suc j ≡ n)) (sym e) k.deep;
  }

  pub climb-end : j ≤ 0 → {r : ℕ} → r ≡ get_or p 0 0 → HighestAt b step p n m r
  climb-end h e =
      let z : 0 ≡ j = omega arith in
      climbed (e ∙ ap (λ (i : ℕ). get_or p i 0) z) (λ i x. absurd (lt_irrefl i (omega arith)))

  -- at o stands the node before, d is its depth
  module _ (h : 0 < j) {o : ℕ} (e : o ≡ get_or p (j - 1) 0) where
    pub climb-room : Roomy step b o
    climb-room = subst (λ (u : ℕ). Roomy step b u) (sym e) (k.nodes.room (j - 1) (omega (arith, k.within)))

    module _ {d : ℕ} (de : d ≡ (record_at step b o).depth) where
      depth_is : d ≡ (record_at step b (get_or p (j - 1) 0)).depth
      depth_is = de ∙ ap (λ (u : ℕ). (record_at step b u).depth) e

      pub climb-more : m ≤ d → Upwards b step p n m (j - 1)
      climb-more l = record { nodes = k.nodes; within = omega (arith, k.within); deep = inl (omega (arith, depth_is)) }

      pub climb-found : d < m → {r : ℕ} → r ≡ get_or p j 0 → HighestAt b step p n m r
      climb-found l f = climbed f (λ i x. go i x (apart i (j - 1)))
        where
          go : (i : ℕ) → i < j → (i < j - 1) ⊎ (j - 1 ≤ i) → (record_at step b (get_or p i 0)).depth < m
          go i x (inl y) = omega (arith, depth_is, k.nodes.deepens i (j - 1) y (omega (arith, k.within)))
          go i x (inr y) =
              let g : j - 1 ≡ i = omega arith in
              subst (λ (a : ℕ). (record_at step b (get_or p a 0)).depth < m) g (omega (arith, depth_is))
