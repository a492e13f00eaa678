-- Lists whose keys rise: two with the same members are one list.
--     unique-by
-- Assumes nothing.
use Prim.Native.Nat.{ℕ}
use mathlib.Core.Path.{◌≡◌, ap, ap₂, refl, sym, ◌∙◌}
use mathlib.Core.Bool.{true}
use mathlib.Core.List.Memᴰ
use mathlib.Core.List.Memᴰ.{head as here}
use mathlib.Core.List.Memᴰ.{tail as there}
use mathlib.Core.List.{List, Memᴰ as Among, [], ◌∷◌, map}
use Rattle.words.specs.Rising.{All, Rises, rise}
use Rattle.words.specs.Words.{less}
use Rattle.words.proofs.Members.{all-member, among-map}
use Rattle.words.proofs.Words.{false≠true, less-asym, less-irrefl}

-- a word is not below itself, nor below a word that is below it
not-both : (u v : List ℕ) → less u v ≡ true → less v u ≡ true → ⊥
not-both u v h k = false≠true (sym (less-asym u v h) ∙ k)

not-self : (u v : List ℕ) → less u v ≡ true → u ≡ v → ⊥
not-self u v h e = false≠true (sym (less-irrefl u) ∙ ap (less u) e ∙ h)

module _ {A : Type 0} (key : A → List ℕ) where
  abbrev Within : List A → List A → Type 0
  Within us vs = (z : A) → Among z us → Among z vs

  abbrev Over : A → List A → Type 0
  Over u us = All (λ w. less (key u) w ≡ true) (map key us)

  -- the first elements are one: each stands in the other list, and would else be above the other
  same_first : {u v : A} {us vs : List A} → Over u us → Over v vs → Among u (v ∷ vs) → Among v (u ∷ us) → u ≡ v
  same_first a b (here e) n = e
  same_first a b (there m) (here f) = sym f
  same_first {u} {v} a b (there m) (there n) = absurd (not-both (key u) (key v) (all-member a (among-map key n)) (all-member b (among-map key m)))

  -- what stands behind the first element of one list stands behind that of the other
  behind : {u v : A} {us vs : List A} → u ≡ v → Over u us → Within (u ∷ us) (v ∷ vs) → Within us vs
  behind {u} {v} {us} {vs} e a within w m = go (within w (there m))
    where
      go : Among w (v ∷ vs) → Among w vs
      go (here f) = absurd (not-self (key u) (key w) (all-member a (among-map key m)) (ap key (e ∙ sym f)))
      go (there n) = n

  pub unique-by : (us vs : List A) → Rises (map key us) → Rises (map key vs) → Within us vs → Within vs us → us ≡ vs
  unique-by [] [] r t f g = refl
  unique-by [] (v ∷ vs) r t f g = absurd (Memᴰ.not-nil (g v (here refl)))
  unique-by (u ∷ us) [] r t f g = absurd (Memᴰ.not-nil (f u (here refl)))
  unique-by (u ∷ us) (v ∷ vs) (rise p a r) (rise q b t) f g =
      let e : u ≡ v = same_first a b (f u (here refl)) (g v (here refl)) in
      ap₂ (λ (w : A) (ws : List A). w ∷ ws) e (unique-by us vs r t (behind e a f) (behind (sym e) b g))
