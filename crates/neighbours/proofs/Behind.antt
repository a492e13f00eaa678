-- What words share behind their first c symbols, and how that goes on from a name to the next, which has its first e bytes from it.
--     word-behind                       a name without its first bytes
--     shared-behind                     words that share c symbols share these, and what they share behind them
--     shared-cut, shared-cut-one        what is shared of two words, or one, that are cut
--     step_same, step-rest              the next name shares as much; or what its rest shares
-- Assumes nothing.
use Prim.Native.Nat.{ℕ, zero, suc, max, min, ◌+◌, ◌-◌, ◌≤◌, ◌<◌}
use native.Mathlib.Decide.{ℕ_discrete}
use native.Mathlib.Omega.{arith}
use mathlib.Core.Path.{◌≡◌, refl, sym, ap, ap₂, ◌∙◌, subst}
use mathlib.Core.Logic.{◌⊎◌, inl, inr}
use mathlib.Core.List.{List, [], ◌++◌, ◌∷◌}
use lib.ListN.{length, take, drop, length-drop, take-append-drop}
use lib.Seq.{drop-append-add, drop-append-le, drop_at, drop-drop, length-take-le, take-length}
use Rattle.words.specs.Words.{Bytes, Rule, shared, word}
use Rattle.words.proofs.Lists.{drop-take}
use Rattle.words.proofs.Words.{apart, shared-append, shared-comm, shared-front, shared-le, shared-other, shared_same, shared-trans, shared-two, shared-word-le}

pub word-behind : (ρ : Rule) (m : ℕ) (s : Bytes) → word ρ (drop m s) ≡ drop m (word ρ s)
word-behind ρ zero s = refl
word-behind ρ (suc m) [] = refl
word-behind ρ (suc m) (b ∷ s) = word-behind ρ m s

pub shared-behind : (x y : List ℕ) (c : ℕ) → c ≤ shared x y → shared x y ≡ c + shared (drop c x) (drop c y)
shared-behind x y c h =
    let size : length (take c x) ≡ c = length-take-le c x (omega (arith, shared-le x y)) in
    let whole : take c x ++ drop c x ≡ x = take-append-drop c x in
    let e : shared (take c x ++ drop c x) y ≡ shared x y = ap (λ (w : List ℕ). shared w y) whole in
    sym e ∙ shared-append (take c x) (drop c x) y (omega (arith, size, e)) ∙ ap (λ (n : ℕ). n + shared (drop c x) (drop n y)) size

pub shared-cut : (p q : ℕ) (x y : List ℕ) → shared (take p x) (take q y) ≡ min (min p q) (shared x y)
unfolding shared
shared-cut zero q x y = omega arith
shared-cut (suc p) q [] y = omega arith
shared-cut (suc p) zero (a ∷ x) y = omega arith
shared-cut (suc p) (suc q) (a ∷ x) [] = omega arith
shared-cut (suc p) (suc q) (a ∷ x) (b ∷ y) = elim (ℕ_discrete a b) [
  | yes e ↦ omega (arith, shared_same a b (take p x) (take q y) e, shared_same a b x y e, shared-cut p q x y)
  | no d ↦ omega (arith, shared-other a b (take p x) (take q y) d, shared-other a b x y d)
]

pub shared-cut-one : (p : ℕ) (x y : List ℕ) → shared (take p x) y ≡ min p (shared x y)
shared-cut-one p x y =
    ap (shared (take p x)) (sym (take-length y)) ∙ omega (arith, shared-cut p (length y) x y, shared-le y x, shared-comm x y)

-- y is a name, r the rest of the next one, t what they are held to from c on
module _ (ρ : Rule) (c e : ℕ) (y r t : Bytes) (h : e ≤ length y) where
  size : length (take e y) ≡ e
  size = length-take-le e y h

  -- symbols that the two have from c on
  both-have : c ≤ e → e - c ≤ shared (word ρ (drop c y)) (word ρ (drop c (take e y ++ r)))
  both-have l =
      let cut : drop c (take e y ++ r) ≡ take (e - c) (drop c y) ++ r =
      drop-append-le c (take e y) r (omega (arith, size)) ∙ ap (λ (z : Bytes). z ++ r) (drop-take c e y) in
      omega (
        arith,
        subst (λ (z : Bytes). e - c ≤ shared (drop c y) z) (sym cut) (shared-front (drop c y) r (e - c) (omega (arith, length-drop c y))),
        shared-word-le ρ (drop c y) (drop c (take e y ++ r)),
      )

  pub step_same : c + shared (word ρ (drop c y)) (word ρ t) < e → shared (word ρ (drop c (take e y ++ r))) (word ρ t) ≡ shared (word ρ (drop c y)) (word ρ t)
  step_same l = shared-two (word ρ (drop c y)) (word ρ (drop c (take e y ++ r))) (word ρ t) (omega (arith, both-have (omega arith)))

  -- the name goes on behind c, or behind e
  low : e ≤ c → drop c (take e y ++ r) ≡ drop (c - e) r
  low l = let z : c ≡ length (take e y) + (c - e) = omega (arith, size) in ap (λ (n : ℕ). drop n (take e y ++ r)) z ∙ drop-append-add (take e y) r (c - e)

  on : c ≤ e → e ≤ c + shared (word ρ (drop c y)) (word ρ t) → c + shared (word ρ (drop c (take e y ++ r))) (word ρ t) ≡ e + shared (word ρ r) (word ρ (drop (e - c) t))
  on l k =
      let z : Bytes = drop c (take e y ++ r) in
      let g : e - c ≤ shared (word ρ z) (word ρ t) =
      shared-trans (word ρ z) (word ρ (drop c y)) (word ρ t) (e - c) (omega (arith, both-have l, shared-comm (word ρ (drop c y)) (word ρ z))) (omega arith) in
      let q : c + (e - c) ≡ e = omega arith in
      let f : drop (e - c) z ≡ r = drop-drop (e - c) c (take e y ++ r) ∙ ap (λ (n : ℕ). drop n (take e y ++ r)) q ∙ drop_at (take e y) r e size in
      let s : shared (word ρ z) (word ρ t) ≡ e - c + shared (word ρ r) (word ρ (drop (e - c) t)) =
      shared-behind (word ρ z) (word ρ t) (e - c) g
      ∙ ap₂ (λ (u v : List ℕ). e - c + shared u v) (sym (word-behind ρ (e - c) z) ∙ ap (word ρ) f) (sym (word-behind ρ (e - c) t)) in
      omega arith

  -- from the greater of the two on
  pub step-rest : (c < e → e ≤ c + shared (word ρ (drop c y)) (word ρ t))
      → c + shared (word ρ (drop c (take e y ++ r))) (word ρ t) ≡ max e c + shared (word ρ (drop (max e c - e) r)) (word ρ (drop (max e c - c) t))
  step-rest k = go (apart c e)
    where
      go : (c < e) ⊎ (e ≤ c) → c + shared (word ρ (drop c (take e y ++ r))) (word ρ t) ≡ max e c + shared (word ρ (drop (max e c - e) r)) (word ρ (drop (max e c - c) t))
      go (inl l) =
          let m : e ≡ max e c = omega arith in
          let z : 0 ≡ e - e = omega arith in
          on (omega arith) (k l) ∙ ap (λ (n : ℕ). e + shared (word ρ (drop n r)) (word ρ (drop (e - c) t))) z
          ∙ ap (λ (n : ℕ). n + shared (word ρ (drop (n - e) r)) (word ρ (drop (n - c) t))) m
      go (inr l) =
          let m : c ≡ max e c = omega arith in
          let z : 0 ≡ c - c = omega arith in
          ap (λ (x : Bytes). c + shared (word ρ x) (word ρ t)) (low l) ∙ ap (λ (n : ℕ). c + shared (word ρ (drop (c - e) r)) (word ρ (drop n t))) z
          ∙ ap (λ (n : ℕ). n + shared (word ρ (drop (n - e) r)) (word ρ (drop (n - c) t))) m
