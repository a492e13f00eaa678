-- What the local tests of an entry say of its name and the one before: that the count is the greatest possible, by bytes, and that the
-- name is above, by symbols. Bytes that are equal have equal symbols under every rule, so both look only from the count on.
--     greatest               where the bytes behind the count differ, names share just the count
--     Local, rising-local    names that rise differ there, and the second goes on
--     less-on                the order of two names that begin alike is that of what is left of them
--     plain-first            under the plain rule the first bytes, where they differ, tell the order
-- Assumes nothing.
use Prim.Native.Nat.{ℕ, zero, suc, ◌≤◌, ◌<◌}
use native.Mathlib.Nat.{not-suc-le-zero, le_of_suc-le-suc}
use native.Mathlib.Decide.{ℕ_discrete}
use native.Mathlib.Omega.{arith}
use mathlib.Core.Path.{◌≡◌, refl, sym, ap, ◌∙◌, subst}
use mathlib.Core.Bool.{Bool, true, false}
use mathlib.Core.List.{[], ◌∷◌, ◌++◌}
use lib.Dec.{ltb}
use lib.ListN.{length, get_or, take, drop}
use borrow.Author.Tests.{le-ltb, lt-ltb, ltb-false, ltb-true}
use Rattle.words.specs.Words.{Bytes, Rule, less, plain, shared, word}
use Rattle.words.proofs.Words.{false≠true, less-nil, less_other, less-same, shared-other, shared_same}

pub greatest : (prev r : Bytes) (c : ℕ) → c ≤ length prev → (c < length prev → get_or prev c 0 ≡ get_or r 0 0 → ⊥) → shared prev (take c prev ++ r) ≡ c
unfolding shared
greatest [] r zero h differ = refl
greatest [] r (suc c) h differ = absurd (not-suc-le-zero h)
greatest (p ∷ prev) [] zero h differ = refl
greatest (p ∷ prev) (a ∷ r) zero h differ = shared-other p a prev r (differ (omega arith))
greatest (p ∷ prev) r (suc c) h differ =
    shared_same p p prev (take c prev ++ r) refl ∙ ap suc (greatest prev r c (le_of_suc-le-suc h) (λ l. differ (omega arith)))

pub record Local (prev x : Bytes) (c : ℕ) : Type 0 where
  pub some : 1 ≤ length (drop c x)
  pub differ : c < length prev → get_or prev c 0 ≡ get_or (drop c x) 0 0 → ⊥

pub rising-local : (ρ : Rule) (prev x : Bytes) → less (word ρ prev) (word ρ x) ≡ true → Local prev x (shared prev x)
unfolding shared
rising-local ρ prev [] h = absurd (false≠true (sym (less-nil (word ρ prev)) ∙ h))
rising-local ρ [] (a ∷ x) h = record { some = omega arith; differ = λ l. absurd (not-suc-le-zero l) }
rising-local ρ (p ∷ prev) (a ∷ x) h = elim (ℕ_discrete p a) [
  | yes e ↦
      let g : less (word ρ prev) (word ρ x) ≡ true = sym (less-same (ρ p) (ρ a) (word ρ prev) (word ρ x) (ap ρ e)) ∙ h in
      subst (Local (p ∷ prev) (a ∷ x)) (sym (shared_same p a prev x e)) (deeper (rising-local ρ prev x g))
  | no n ↦ subst (Local (p ∷ prev) (a ∷ x)) (sym (shared-other p a prev x n)) (record { some = omega arith; differ = λ l q. n q })
]
  where
    deeper : {c : ℕ} → Local prev x c → Local (p ∷ prev) (a ∷ x) (suc c)
    deeper k = record { some = k.some; differ = λ l. k.differ (omega arith) }

-- ---- the order, from the count on

pub less-on : (ρ : Rule) (prev r : Bytes) (c : ℕ) → c ≤ length prev → less (word ρ prev) (word ρ (take c prev ++ r)) ≡ less (word ρ (drop c prev)) (word ρ r)
less-on ρ prev r zero h = refl
less-on ρ [] r (suc c) h = absurd (not-suc-le-zero h)
less-on ρ (p ∷ prev) r (suc c) h =
    less-same (ρ p) (ρ p) (word ρ prev) (word ρ (take c prev ++ r)) refl ∙ less-on ρ prev r c (le_of_suc-le-suc h)

pub plain-first : (prev r : Bytes) → 0 < length prev → 0 < length r → (get_or prev 0 0 ≡ get_or r 0 0 → ⊥) → ltb (get_or prev 0 0) (get_or r 0 0) ≡ less (word plain prev) (word plain r)
plain-first [] r h some n = absurd (not-suc-le-zero h)
plain-first (p ∷ prev) [] h some n = absurd (not-suc-le-zero some)
plain-first (p ∷ prev) (a ∷ r) h some n = sym (less_other (suc p) (suc a) (word plain prev) (word plain r) (λ e. n (omega arith)) ∙ next (ltb p a) refl)
  where
    next : (t : Bool) → ltb p a ≡ t → ltb (suc p) (suc a) ≡ ltb p a
    next true e = lt-ltb (suc p) (suc a) (omega (arith, ltb-true p a e)) ∙ sym e
    next false e = le-ltb (suc p) (suc a) (omega (arith, ltb-false p a e)) ∙ sym e
