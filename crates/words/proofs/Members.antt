-- Lists by their members.
--     all-member        what holds of all elements holds of a member
--     rising-unique     two rising lists of words with the same members are one list
--     Distinct, rising-distinct, distinct-few     no element stands twice; so it is with rising words; as many as some list has members, at most
--     among-map, From, unmapped, map_injective     the members of a list that is among-map
-- Assumes nothing.
use Prim.Native.Nat.{ℕ, suc, ◌≤◌, zero-le}
use native.Mathlib.Omega.{arith}
use mathlib.Core.Path.{◌≡◌, refl, sym, ap, ap₂, ◌∙◌, subst}
use mathlib.Core.Logic.{◌⊎◌, inl, inr}
use mathlib.Core.Bool.{true}
use mathlib.Core.List.Memᴰ
use mathlib.Core.List.Memᴰ.{head as here}
use mathlib.Core.List.Memᴰ.{tail as there}
use mathlib.Core.List.{List, Memᴰ as Among, [], ◌∷◌, ◌++◌, map}
use lib.ListN.{length, length-append}
use Rattle.words.specs.Rising.{All, Rises, cons, nil, rise, start}
use Rattle.words.specs.Words.{Words, less}
use Rattle.words.proofs.Words.{false≠true, less-asym, less-irrefl}

pub all-member : {A : Type 0} {P : A → Type 0} {z : A} {l : List A} → All P l → Among z l → P z
all-member {P = P} (cons p a) (here e) = subst P (sym e) p
all-member (cons p a) (there m) = all-member a m
all-member nil m = absurd (Memᴰ.not-nil m)

-- ---- rising words

abbrev Within : Words → Words → Type 0
Within us vs = (w : List ℕ) → Among w us → Among w vs

-- a word is not below itself, nor below a word that is below it
not-both : (u v : List ℕ) → less u v ≡ true → less v u ≡ true → ⊥
not-both u v h k = false≠true (sym (less-asym u v h) ∙ k)

not-self : (u v : List ℕ) → less u v ≡ true → u ≡ v → ⊥
not-self u v h e = false≠true (sym (less-irrefl u) ∙ ap (less u) e ∙ h)

-- the first words are one: each stands in the other list, and would else be above the other
same_first : {u v : List ℕ} {us vs : Words} → All (λ w. less u w ≡ true) us → All (λ w. less v w ≡ true) vs → Among u (v ∷ vs) → Among v (u ∷ us) → u ≡ v
same_first a b (here e) n = e
same_first a b (there m) (here f) = sym f
same_first {u} {v} a b (there m) (there n) = absurd (not-both u v (all-member a n) (all-member b m))

-- what stands behind the first word of one list stands behind that of the other
behind : {u v : List ℕ} {us vs : Words} → u ≡ v → All (λ w. less u w ≡ true) us → Within (u ∷ us) (v ∷ vs) → Within us vs
behind {u} {v} {us} {vs} e a within w m = go (within w (there m))
  where
    go : Among w (v ∷ vs) → Among w vs
    go (here f) = absurd (not-self u w (all-member a m) (e ∙ sym f))
    go (there n) = n

pub rising-unique : (us vs : Words) → Rises us → Rises vs → Within us vs → Within vs us → us ≡ vs
rising-unique [] [] r t f g = refl
rising-unique [] (v ∷ vs) r t f g = absurd (Memᴰ.not-nil (g v (here refl)))
rising-unique (u ∷ us) [] r t f g = absurd (Memᴰ.not-nil (f u (here refl)))
rising-unique (u ∷ us) (v ∷ vs) (rise p a r) (rise q b t) f g =
    let e : u ≡ v = same_first a b (f u (here refl)) (g v (here refl)) in
    ap₂ (λ (w : List ℕ) (ws : Words). w ∷ ws) e (rising-unique us vs r t (behind e a f) (behind (sym e) b g))

-- ---- how many

pub data Distinct {A : Type 0} : List A → Type 0 where
  none : Distinct []
  more : {x : A} {xs : List A} → (Among x xs → ⊥) → Distinct xs → Distinct (x ∷ xs)

-- a member, and what stands before and behind it
record Apart {A : Type 0} (z : A) (l : List A) : Type 0 where
  front : List A
  back : List A
  is : l ≡ front ++ (z ∷ back)

parted : {A : Type 0} {z : A} {l : List A} → Among z l → Apart z l
parted {A} (here {xs = l} e) = record { front = []; back = l; is = ap (λ (y : A). y ∷ l) (sym e) }
parted {A} (there {x = x} m) = let p = parted m in record { front = x ∷ p.front; back = p.back; is = ap (λ (k : List A). x ∷ k) p.is }

pub distinct-few : {A : Type 0} (us vs : List A) → Distinct us → ((z : A) → Among z us → Among z vs) → length us ≤ length vs
distinct-few [] vs d f = zero-le
distinct-few {A} (u ∷ us) vs (more n d) f =
    let p = parted (f u (here refl)) in
    let few : length us ≤ length (p.front ++ p.back) = distinct-few us (p.front ++ p.back) d (λ z m. rest p z m) in
    omega (arith, ap length p.is, length-append p.front (u ∷ p.back), length-append p.front p.back)
  where
    rest : (p : Apart u vs) (z : A) → Among z us → Among z (p.front ++ p.back)
    rest p z m = go (Memᴰ.append_cases p.front (subst (Among z) p.is (f z (there m))))
      where
        go : Among z p.front ⊎ Among z (u ∷ p.back) → Among z (p.front ++ p.back)
        go (inl k) = Memᴰ.append_left p.back k
        go (inr (here e)) = absurd (n (Memᴰ.cast (sym e) m))
        go (inr (there k)) = Memᴰ.append_right p.front k

pub rising-distinct : {ws : Words} → Rises ws → Distinct ws
rising-distinct start = none
rising-distinct (rise {w = w} p a r) = more (λ m. not-self w w (all-member a m) refl) (rising-distinct r)

-- ---- the members of a list that is among-map

pub among-map : {A B : Type 0} (f : A → B) {z : A} {l : List A} → Among z l → Among (f z) (map f l)
among-map f (here e) = here (ap f e)
among-map f (there m) = there (among-map f m)

pub record From {A B : Type 0} (f : A → B) (w : B) (l : List A) : Type 0 where
  pub source : A
  pub member : Among source l
  pub is : w ≡ f source

pub unmapped : {A B : Type 0} (f : A → B) {w : B} (l : List A) → Among w (map f l) → From f w l
unmapped f [] m = absurd (Memᴰ.not-nil m)
unmapped f (x ∷ l) (here e) = record { source = x; member = here refl; is = e }
unmapped f (x ∷ l) (there m) = let s = unmapped f l m in record { source = s.source; member = there s.member; is = s.is }

pub map_injective : {A B : Type 0} (f : A → B) → ((a b : A) → f a ≡ f b → a ≡ b) → (xs ys : List A) → map f xs ≡ map f ys → xs ≡ ys
map_injective f one [] [] e = refl
map_injective f one [] (y ∷ ys) e = absurd (let z : 0 ≡ suc (length (map f ys)) = ap length e in omega arith)
map_injective f one (x ∷ xs) [] e = absurd (let z : suc (length (map f xs)) ≡ 0 = ap length e in omega arith)
map_injective {A} f one (x ∷ xs) (y ∷ ys) e =
    let first : f x ≡ f y = cc in
    let rest : map f xs ≡ map f ys = cc in
    ap₂ (λ (a : A) (l : List A). a ∷ l) (one x y first) (map_injective f one xs ys rest)
