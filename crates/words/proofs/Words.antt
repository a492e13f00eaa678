-- Laws of words: what two words share, and their order. They hold of any lists of numbers, and where `Positive` is asked, of those
-- without the end symbol in them, as every rule's words are.
--     sides, apart              how two numbers stand to each other
--     word-positive, letters-positive, sure-lawful, shared-word, shared-word-le, word-front, word-injective; plain-sure, plain-injective
--     shared-self, -comm, -le, -at, -trans, -more, -parts, -append, -front, -two; take-shared
--     word_at                   a byte's symbol
--     at-past, at-end           past the last symbol stands the end symbol, and nowhere else
--     less-irrefl, -trans, -asym, -at, -parts, -short, -extends; ordered
--     part_at, leaves, further  where two words part
--     between, blind, same-side what words that stand near each other have in common
--     begins-..., same-...
-- Assumes nothing.
use Prim.Native.Nat.{ℕ, zero, suc, ◌+◌, ◌≤◌, ◌<◌, zero-le, suc-le-suc}
use native.Mathlib.Nat.{le_of_suc-le-suc, not-suc-le-zero, lt_irrefl, eq-or-lt_of_le}
use native.Mathlib.Decide.{dec_le, dec_lt, ℕ_discrete}
use native.Mathlib.Omega.{arith}
use mathlib.Core.Path.{◌≡◌, refl, sym, ap, ap₂, ◌∙◌, subst}
use mathlib.Core.Logic.{◌⊎◌, inl, inr}
use mathlib.Core.Bool.{Bool, true, false}
use mathlib.Core.List.{List, [], ◌∷◌, ◌++◌}
use lib.Dec.{ltb, eqb}
use lib.ListN.{drop, get_or, length, take}
use borrow.Author.Tests.{ltb-true, eqb-true, lt-ltb, le-ltb, eq-eqb, ne_eqb}
use Rattle.words.specs.Rising.{All, Positive, Sure, cons, nil}
use Rattle.words.specs.Words.{Bytes, Lawful, Rule, at, begins, both, less, plain, same, shared, word}

-- the three ways that two numbers stand to each other
pub data Sides (a b : ℕ) : Type 0 where
  before : a < b → Sides a b
  level : a ≡ b → Sides a b
  behind : b < a → Sides a b

pub sides : (a b : ℕ) → Sides a b
sides a b = elim (ℕ_discrete a b) [ yes e ↦ level e | no n ↦ elim (dec_lt a b) [ yes h ↦ before h | no m ↦ behind (omega arith) ] ]

pub apart : (i j : ℕ) → (i < j) ⊎ (j ≤ i)
apart i j = elim (dec_lt i j) [ yes h ↦ inl h | no n ↦ inr (omega arith) ]

-- ---- symbols

pub word-positive : (ρ : Rule) → Sure ρ → (s : Bytes) → Positive (word ρ s)
word-positive ρ h [] = tt
word-positive ρ h (b ∷ s) = (h.low b, word-positive ρ h s)

-- of bytes, by a lawful rule
pub letters-positive : (ρ : Rule) → Lawful ρ → (s : Bytes) → All (λ b. b < 256) s → Positive (word ρ s)
letters-positive ρ h [] nil = tt
letters-positive ρ h (b ∷ s) (cons l a) = (h.low b l, letters-positive ρ h s a)

pub sure-lawful : {ρ : Rule} → Sure ρ → Lawful ρ
sure-lawful h = record { low = λ b l. h.low b; high = h.high }

pub plain-sure : Sure plain
plain-sure = record { low = λ b. omega arith; high = λ b h. h }

-- ---- the clauses of `shared` and `less`

pub shared_same : (a b : ℕ) (x y : List ℕ) → a ≡ b → shared (a ∷ x) (b ∷ y) ≡ suc (shared x y)
unfolding shared
shared_same a b x y e = rw (eq-eqb a b e)

pub shared-other : (a b : ℕ) (x y : List ℕ) → (a ≡ b → ⊥) → shared (a ∷ x) (b ∷ y) ≡ 0
unfolding shared
shared-other a b x y n = rw (ne_eqb a b n)

pub less-same : (a b : ℕ) (x y : List ℕ) → a ≡ b → less (a ∷ x) (b ∷ y) ≡ less x y
unfolding less
less-same a b x y e = rw (shared_same a b x y e)

-- no word is less than itself
pub less-irrefl : (x : List ℕ) → less x x ≡ false
unfolding less shared
less-irrefl [] = refl
less-irrefl (a ∷ x) = less-same a a x x refl ∙ less-irrefl x

pub less_other : (a b : ℕ) (x y : List ℕ) → (a ≡ b → ⊥) → less (a ∷ x) (b ∷ y) ≡ ltb a b
unfolding less
less_other a b x y n = rw (shared-other a b x y n)

-- ---- shared

pub shared-self : (x : List ℕ) → shared x x ≡ length x
unfolding shared
shared-self [] = refl
shared-self (a ∷ x) = shared_same a a x x refl ∙ ap suc (shared-self x)

pub shared-comm : (x y : List ℕ) → shared x y ≡ shared y x
unfolding shared
shared-comm [] [] = refl
shared-comm [] (b ∷ y) = refl
shared-comm (a ∷ x) [] = refl
shared-comm (a ∷ x) (b ∷ y) = elim (ℕ_discrete a b) [
  | yes e ↦ shared_same a b x y e ∙ ap suc (shared-comm x y) ∙ sym (shared_same b a y x (sym e))
  | no n ↦ shared-other a b x y n ∙ sym (shared-other b a y x (λ e. n (sym e)))
]

pub shared-le : (x y : List ℕ) → shared x y ≤ length x
unfolding shared
shared-le [] y = zero-le
shared-le (a ∷ x) [] = zero-le
shared-le (a ∷ x) (b ∷ y) = elim (ℕ_discrete a b) [
  | yes e ↦ rw (shared_same a b x y e) (suc-le-suc (shared-le x y))
  | no n ↦ rw (shared-other a b x y n) zero-le
]

-- what is shared agrees
pub shared_at : (x y : List ℕ) (i : ℕ) → i < shared x y → at x i ≡ at y i
unfolding shared
shared_at [] y i h = absurd (not-suc-le-zero h)
shared_at (a ∷ x) [] i h = absurd (not-suc-le-zero h)
shared_at (a ∷ x) (b ∷ y) zero h = elim (ℕ_discrete a b) [
  | yes e ↦ e
  | no n ↦ absurd (not-suc-le-zero (rw (shared-other a b x y n) at h))
]
shared_at (a ∷ x) (b ∷ y) (suc i) h = elim (ℕ_discrete a b) [
  | yes e ↦ shared_at x y i (le_of_suc-le-suc (rw (shared_same a b x y e) at h))
  | no n ↦ absurd (not-suc-le-zero (rw (shared-other a b x y n) at h))
]

-- of three words, what the first two and the last two share is shared by the first and the last
pub shared-trans : (x y z : List ℕ) (d : ℕ) → d ≤ shared x y → d ≤ shared y z → d ≤ shared x z
unfolding shared
shared-trans x y z zero h k = zero-le
shared-trans [] y z (suc d) h k = h
shared-trans (a ∷ x) [] z (suc d) h k = absurd (not-suc-le-zero h)
shared-trans (a ∷ x) (b ∷ y) [] (suc d) h k = k
shared-trans (a ∷ x) (b ∷ y) (c ∷ z) (suc d) h k = elim (ℕ_discrete a b) [
  | yes e ↦ elim (ℕ_discrete b c) [
    | yes f ↦ rw (shared_same a c x z (e ∙ f)) (suc-le-suc (shared-trans x y z d
        (le_of_suc-le-suc (rw (shared_same a b x y e) at h)) (le_of_suc-le-suc (rw (shared_same b c y z f) at k))))
    | no n ↦ absurd (not-suc-le-zero (rw (shared-other b c y z n) at k))
  ]
  | no n ↦ absurd (not-suc-le-zero (rw (shared-other a b x y n) at h))
]

-- words that share d symbols and agree in the next, which is no end, share one more
pub shared-more : (x y : List ℕ) (d : ℕ) → d ≤ shared x y → d < length x → d < length y → at x d ≡ at y d → d < shared x y
unfolding shared
shared-more [] y d h p q e = absurd (not-suc-le-zero p)
shared-more (a ∷ x) [] d h p q e = absurd (not-suc-le-zero q)
shared-more (a ∷ x) (b ∷ y) zero h p q e = rw (shared_same a b x y e) (suc-le-suc zero-le)
shared-more (a ∷ x) (b ∷ y) (suc d) h p q e = elim (ℕ_discrete a b) [
  | yes f ↦ rw (shared_same a b x y f) (suc-le-suc (shared-more x y d (le_of_suc-le-suc (rw (shared_same a b x y f) at h)) (le_of_suc-le-suc p) (le_of_suc-le-suc q) e))
  | no n ↦ absurd (not-suc-le-zero (rw (shared-other a b x y n) at h))
]

-- words that agree where they part are equal
pub shared-parts : (x y : List ℕ) → Positive x → Positive y → at x (shared x y) ≡ at y (shared x y) → x ≡ y
unfolding shared
shared-parts [] [] p q e = refl
shared-parts [] (b ∷ y) p q e = absurd (lt_irrefl 0 (omega (arith, q.0)))
shared-parts (a ∷ x) [] p q e = absurd (lt_irrefl 0 (omega (arith, p.0)))
shared-parts (a ∷ x) (b ∷ y) p q e = elim (ℕ_discrete a b) [
  | yes f ↦ ap₂ (λ (c : ℕ) (z : List ℕ). c ∷ z) f (shared-parts x y p.1 q.1 (rw (shared_same a b x y f) at e))
  | no n ↦ absurd (n (rw (shared-other a b x y n) at e))
]

-- what is shared is the same front of both
-- what a word that is put together shares, as it goes on behind its first part
pub shared-append : (p r y : List ℕ) → length p ≤ shared (p ++ r) y → shared (p ++ r) y ≡ length p + shared r (drop (length p) y)
unfolding shared
shared-append [] r y h = omega arith
shared-append (a ∷ p) r [] h = absurd (not-suc-le-zero h)
shared-append (a ∷ p) r (b ∷ y) h = elim (ℕ_discrete a b) [
  | yes e ↦
      let s : shared (a ∷ p ++ r) (b ∷ y) ≡ suc (shared (p ++ r) y) = shared_same a b (p ++ r) y e in
      s ∙ ap suc (shared-append p r y (omega (arith, s))) ∙ omega arith
  | no n ↦ absurd (not-suc-le-zero (subst (λ (m : ℕ). suc (length p) ≤ m) (shared-other a b (p ++ r) y n) h))
]

pub shared-front : (y r : List ℕ) (c : ℕ) → c ≤ length y → c ≤ shared y (take c y ++ r)
unfolding shared
shared-front y r zero h = zero-le
shared-front [] r (suc c) h = absurd (not-suc-le-zero h)
shared-front (a ∷ y) r (suc c) h = omega (arith, shared_same a a y (take c y ++ r) refl, shared-front y r c (le_of_suc-le-suc h))

-- of three words two pairs share the same, where the third shares more
pub shared-two : (y z q : List ℕ) → shared y q < shared y z → shared z q ≡ shared y q
shared-two y z q h = go (sides (shared z q) (shared y q))
  where
    less-no : (d : ℕ) → d ≤ shared z q → d ≤ shared y z → d ≤ shared y q
    less-no d a b = shared-trans y z q d b a

    go : Sides (shared z q) (shared y q) → shared z q ≡ shared y q
    go (before l) =
        absurd (lt_irrefl (shared z q) (omega (arith, shared-trans z y q (shared y q) (omega (arith, shared-comm z y)) (omega arith))))
    go (level e) = e
    go (behind l) = absurd (lt_irrefl (shared y q) (less-no (suc (shared y q)) l h))

pub take-shared : (x y : Bytes) → take (shared x y) x ≡ take (shared x y) y
unfolding shared
take-shared [] y = refl
take-shared (a ∷ x) [] = refl
take-shared (a ∷ x) (b ∷ y) = elim (ℕ_discrete a b) [
  | yes e ↦ rw (shared_same a b x y e) (ap₂ (λ (c : ℕ) (z : Bytes). c ∷ z) e (take-shared x y))
  | no n ↦ rw (shared-other a b x y n) refl
]

-- ---- a symbol by its number

pub word_at : (ρ : Rule) (x : Bytes) (d : ℕ) → d < length x → at (word ρ x) d ≡ ρ (get_or x d 0)
word_at ρ [] d h = absurd (not-suc-le-zero h)
word_at ρ (b ∷ x) zero h = refl
word_at ρ (b ∷ x) (suc d) h = word_at ρ x d (le_of_suc-le-suc h)

pub at-end : (w : List ℕ) (d : ℕ) → Positive w → at w d ≡ 0 → length w ≤ d
at-end [] d p e = zero-le
at-end (a ∷ w) zero p e = absurd (lt_irrefl 0 (omega (arith, p.0)))
at-end (a ∷ w) (suc d) p e = suc-le-suc (at-end w d p.1 e)

pub at-past : (w : List ℕ) (d : ℕ) → length w ≤ d → at w d ≡ 0
at-past [] d l = refl
at-past (a ∷ w) zero l = absurd (not-suc-le-zero l)
at-past (a ∷ w) (suc d) l = at-past w d (le_of_suc-le-suc l)

-- ---- order

pub false≠true : ◌≡◌ {A = Bool} false true → ⊥
false≠true e = let z : ◌≡◌ {A = ℕ} 0 1 = cc in omega arith

pub both_true : (a b : Bool) → both a b ≡ true → (a ≡ true) × (b ≡ true)
both_true true b e = (refl, e)
both_true false b e = absurd (false≠true e)

pub less-nil : (x : List ℕ) → less x [] ≡ false
unfolding less
less-nil x = le-ltb (at x (shared x [])) 0 zero-le

pub less-head : (a b : ℕ) (x y : List ℕ) → a < b → less (a ∷ x) (b ∷ y) ≡ true
less-head a b x y h = less_other a b x y (λ e. lt_irrefl a (omega arith)) ∙ lt-ltb a b h

-- the two ways to be less
pub less-cases : (a b : ℕ) (x y : List ℕ) → less (a ∷ x) (b ∷ y) ≡ true → (a < b) ⊎ ((a ≡ b) × (less x y ≡ true))
less-cases a b x y h = elim (ℕ_discrete a b) [
  | yes e ↦ inr (e, rw (less-same a b x y e) at h)
  | no n ↦ inl (ltb-true a b (rw (less_other a b x y n) at h))
]

pub less-start : (b : ℕ) (y : List ℕ) → less [] (b ∷ y) ≡ ltb 0 b
unfolding less shared
less-start b y = refl

pub less-trans : (x y z : List ℕ) → less x y ≡ true → less y z ≡ true → less x z ≡ true
less-trans [] [] z h k = k
less-trans (a ∷ x) [] z h k = absurd (false≠true (sym (less-nil (a ∷ x)) ∙ h))
less-trans [] (b ∷ y) [] h k = absurd (false≠true (sym (less-nil (b ∷ y)) ∙ k))
less-trans (a ∷ x) (b ∷ y) [] h k = absurd (false≠true (sym (less-nil (b ∷ y)) ∙ k))
less-trans [] (b ∷ y) (c ∷ z) h k = less-start c z ∙ lt-ltb 0 c (go (less-cases b c y z k))
  where
    go : (b < c) ⊎ ((b ≡ c) × (less y z ≡ true)) → 0 < c
    go (inl p) = omega arith
    go (inr e) = rw e.0 at (ltb-true 0 b (sym (less-start b y) ∙ h))
less-trans (a ∷ x) (b ∷ y) (c ∷ z) h k = go (less-cases a b x y h) (less-cases b c y z k) (less-trans x y z)
  where
    go : (a < b) ⊎ ((a ≡ b) × (less x y ≡ true)) → (b < c) ⊎ ((b ≡ c) × (less y z ≡ true))
        → (less x y ≡ true → less y z ≡ true → less x z ≡ true) → less (a ∷ x) (c ∷ z) ≡ true
    go (inl p) (inl q) ih = less-head a c x z (omega arith)
    go (inl p) (inr e) ih = less-head a c x z (omega (arith, e.0))
    go (inr e) (inl q) ih = less-head a c x z (omega (arith, e.0))
    go (inr e) (inr f) ih = less-same a c x z (e.0 ∙ f.0) ∙ ih e.1 f.1

pub less-asym : (x y : List ℕ) → less x y ≡ true → less y x ≡ false
less-asym x y h = go (less y x) refl
  where
    go : (t : Bool) → less y x ≡ t → less y x ≡ false
    go false e = e
    go true e = absurd (false≠true (sym (less-irrefl x) ∙ less-trans x y x h e))

-- of two words one is less, or they are the same word
pub data Ordered (x y : List ℕ) : Type 0 where
  lesser : less x y ≡ true → Ordered x y
  equal : x ≡ y → Ordered x y
  greater : less y x ≡ true → Ordered x y

pub ordered : (x y : List ℕ) → Positive x → Positive y → Ordered x y
ordered [] [] p q = equal refl
ordered [] (b ∷ y) p q = lesser (less-start b y ∙ lt-ltb 0 b q.0)
ordered (a ∷ x) [] p q = greater (less-start a x ∙ lt-ltb 0 a p.0)
ordered (a ∷ x) (b ∷ y) p q = go (sides a b) (ordered x y p.1 q.1)
  where
    go : Sides a b → Ordered x y → Ordered (a ∷ x) (b ∷ y)
    go (before h) o = lesser (less-head a b x y h)
    go (behind h) o = greater (less-head b a y x h)
    go (level e) (lesser h) = lesser (less-same a b x y e ∙ h)
    go (level e) (equal f) = equal (ap₂ (λ (c : ℕ) (z : List ℕ). c ∷ z) e f)
    go (level e) (greater h) = greater (less-same b a y x (sym e) ∙ h)

-- a word comes before its own extensions
pub less-extends : (x y : List ℕ) → Positive y → 0 < length y → less x (x ++ y) ≡ true
less-extends [] [] p h = absurd (not-suc-le-zero h)
less-extends [] (b ∷ y) p h = less-start b y ∙ lt-ltb 0 b p.0
less-extends (a ∷ x) y p h = less-same a a x (x ++ y) refl ∙ less-extends x y p h

-- under a rule that gives different bytes different symbols two names share as many bytes as their words do symbols
pub shared-word : (ρ : Rule) → ((a b : ℕ) → ρ a ≡ ρ b → a ≡ b) → (s t : Bytes) → shared (word ρ s) (word ρ t) ≡ shared s t
unfolding shared
shared-word ρ inj [] t = refl
shared-word ρ inj (a ∷ s) [] = refl
shared-word ρ inj (a ∷ s) (b ∷ t) = elim (ℕ_discrete a b) [
  | yes e ↦ shared_same (ρ a) (ρ b) (word ρ s) (word ρ t) (ap ρ e) ∙ ap suc (shared-word ρ inj s t) ∙ sym (shared_same a b s t e)
  | no n ↦ shared-other (ρ a) (ρ b) (word ρ s) (word ρ t) (λ e. n (inj a b e)) ∙ sym (shared-other a b s t n)
]

-- equal bytes have equal symbols under every rule
pub shared-word-le : (ρ : Rule) (s t : Bytes) → shared s t ≤ shared (word ρ s) (word ρ t)
unfolding shared
shared-word-le ρ [] t = zero-le
shared-word-le ρ (a ∷ s) [] = zero-le
shared-word-le ρ (a ∷ s) (b ∷ t) = elim (ℕ_discrete a b) [
  | yes e ↦ omega (arith, shared_same a b s t e, shared_same (ρ a) (ρ b) (word ρ s) (word ρ t) (ap ρ e), shared-word-le ρ s t)
  | no n ↦ omega (arith, shared-other a b s t n)
]

-- and names whose words are equal are equal
pub word-front : (ρ : Rule) (m : ℕ) (s : Bytes) → word ρ (take m s) ≡ take m (word ρ s)
word-front ρ zero s = refl
word-front ρ (suc m) [] = refl
word-front ρ (suc m) (b ∷ s) = ap (λ (w : List ℕ). ρ b ∷ w) (word-front ρ m s)

pub word-injective : (ρ : Rule) → ((a b : ℕ) → ρ a ≡ ρ b → a ≡ b) → (s t : Bytes) → word ρ s ≡ word ρ t → s ≡ t
word-injective ρ inj [] [] e = refl
word-injective ρ inj [] (b ∷ t) e = absurd (let z : 0 ≡ suc (length (word ρ t)) = ap length e in omega arith)
word-injective ρ inj (a ∷ s) [] e = absurd (let z : suc (length (word ρ s)) ≡ 0 = ap length e in omega arith)
word-injective ρ inj (a ∷ s) (b ∷ t) e =
    let h : ρ a ≡ ρ b = ap (λ (w : List ℕ). at w 0) e in
    let r : word ρ s ≡ word ρ t = ap (λ (w : List ℕ). drop 1 w) e in
    ap₂ (λ (c : ℕ) (z : Bytes). c ∷ z) (inj a b h) (word-injective ρ inj s t r)

pub plain-injective : (a b : ℕ) → plain a ≡ plain b → a ≡ b
plain-injective a b e = omega arith

-- ---- beginnings

pub begins-cons : (c b : ℕ) (q y : List ℕ) → begins (c ∷ q) (b ∷ y) ≡ true → (c ≡ b) × (begins q y ≡ true)
unfolding begins
begins-cons c b q y h = elim (ℕ_discrete c b) [
  | yes e ↦ (e, eq-eqb (shared q y) (length q) (omega (arith, eqb-true (suc (shared q y)) (suc (length q)) (rw (shared_same c b q y e) at h))))
  | no n ↦ absurd (lt_irrefl 0 (omega (arith, eqb-true 0 (suc (length q)) (rw (shared-other c b q y n) at h))))
]

pub begins-same : (c b : ℕ) (q y : List ℕ) → c ≡ b → begins q y ≡ true → begins (c ∷ q) (b ∷ y) ≡ true
unfolding begins
begins-same c b q y e h = rw (shared_same c b q y e) (eq-eqb _ _ (ap suc (eqb-true (shared q y) (length q) h)))

pub begins-nil : (x : List ℕ) → begins [] x ≡ true
unfolding begins shared
begins-nil x = refl

pub begins-nothing : (c : ℕ) (q : List ℕ) → begins (c ∷ q) [] ≡ false
unfolding begins shared
begins-nothing c q = ne_eqb 0 (suc (length q)) (λ e. lt_irrefl 0 (omega arith))

-- a word that begins with q begins with any beginning of q
pub begins-front : (q x : List ℕ) (m : ℕ) → begins q x ≡ true → begins (take m q) x ≡ true
begins-front q x zero h = begins-nil x
begins-front [] x (suc m) h = begins-nil x
begins-front (c ∷ q) [] (suc m) h = absurd (false≠true (sym (begins-nothing c q) ∙ h))
begins-front (c ∷ q) (b ∷ x) (suc m) h = let p = begins-cons c b q x h in begins-same c b (take m q) x p.0 (begins-front q x m p.1)

-- a word that begins with q is not below q
pub begins-not-less : (q x : List ℕ) → begins q x ≡ true → less x q ≡ false
begins-not-less [] x h = less-nil x
begins-not-less (c ∷ q) [] h = absurd (false≠true (sym (begins-nothing c q) ∙ h))
begins-not-less (c ∷ q) (b ∷ x) h =
    let p = begins-cons c b q x h in
    less-same b c x q (sym p.0) ∙ begins-not-less q x p.1

-- what lies below a word that begins with q lies below q or begins with it too
pub begins-below : (q x y : List ℕ) → less x y ≡ true → begins q y ≡ true → (less x q ≡ true) ⊎ (begins q x ≡ true)
begins-below [] x y h k = inr (begins-nil x)
begins-below (c ∷ q) x [] h k = absurd (false≠true (sym (begins-nothing c q) ∙ k))
begins-below (c ∷ q) [] (b ∷ y) h k =
    inl (less-start c q ∙ lt-ltb 0 c (rw (← (begins-cons c b q y k).0) at (ltb-true 0 b (sym (less-start b y) ∙ h))))
begins-below (c ∷ q) (a ∷ x) (b ∷ y) h k = go (less-cases a b x y h) (begins-cons c b q y k) (begins-below q x y)
  where
    down : (a ≡ c) → (less x q ≡ true) ⊎ (begins q x ≡ true) → (less (a ∷ x) (c ∷ q) ≡ true) ⊎ (begins (c ∷ q) (a ∷ x) ≡ true)
    down e (inl l) = inl (less-same a c x q e ∙ l)
    down e (inr l) = inr (begins-same c a q x (sym e) l)

    go : (a < b) ⊎ ((a ≡ b) × (less x y ≡ true)) → (c ≡ b) × (begins q y ≡ true)
        → (less x y ≡ true → begins q y ≡ true → (less x q ≡ true) ⊎ (begins q x ≡ true))
        → (less (a ∷ x) (c ∷ q) ≡ true) ⊎ (begins (c ∷ q) (a ∷ x) ≡ true)
    go (inl p) e ih = inl (less-head a c x q (omega (arith, e.0)))
    go (inr p) e ih = down (p.0 ∙ sym e.0) (ih p.1 e.1)

-- a word that shares less than q with q does not begin with it
pub short-no : (q y : List ℕ) → shared q y < length q → begins q y ≡ false
unfolding begins
short-no q y h = ne_eqb (shared q y) (length q) (λ e. lt_irrefl (length q) (omega arith))

-- ---- where two words part

-- words that share d symbols and differ in the next share just d
pub part_at : (x y : List ℕ) (d : ℕ) → d ≤ shared x y → (at x d ≡ at y d → ⊥) → shared x y ≡ d
part_at x y d h n = go (eq-or-lt_of_le h)
  where
    go : (d ≡ shared x y) ⊎ (d < shared x y) → shared x y ≡ d
    go (inl e) = sym e
    go (inr l) = absurd (n (shared_at x y d l))

pub less_by : (x y : List ℕ) (d : ℕ) → shared x y ≡ d → less x y ≡ ltb (at x d) (at y d)
unfolding less
less_by x y d e = ap (λ (n : ℕ). ltb (at x n) (at y n)) e

-- where two words share d symbols, the lesser has no greater one there
pub less-at : (w v : List ℕ) (d : ℕ) → less w v ≡ true → d ≤ shared w v → at w d ≤ at v d
unfolding less
less-at w v d h k = go (eq-or-lt_of_le k)
  where
    go : (d ≡ shared w v) ⊎ (d < shared w v) → at w d ≤ at v d
    go (inl e) = subst (λ (n : ℕ). at w n ≤ at v n) (sym e) (omega (arith, ltb-true (at w (shared w v)) (at v (shared w v)) h))
    go (inr l) = omega (arith, shared_at w v d l)

-- what a word shares with a lesser one is less than its length
pub less-short : (x y : List ℕ) → less x y ≡ true → shared x y < length y
unfolding less
less-short x y h = go (apart (shared x y) (length y))
  where
    go : (shared x y < length y) ⊎ (length y ≤ shared x y) → shared x y < length y
    go (inl l) = l
    go (inr l) = absurd (not-suc-le-zero (subst (λ (n : ℕ). at x (shared x y) < n) (at-past y (shared x y) l) (ltb-true (at x (shared x y)) (at y (shared x y)) h)))

-- a word that lies below another differs from it where the two part
pub less-parts : (w v : List ℕ) → Positive w → Positive v → less w v ≡ true → at v (shared w v) ≡ at w (shared w v) → ⊥
less-parts w v p q h e =
    false≠true (sym (less-irrefl v) ∙ subst (λ (x : List ℕ). less x v ≡ true) (shared-parts w v p q (sym e)) h)

-- what the first and the last of three rising words share, the first and the middle one share
pub between : (x y z : List ℕ) → less x y ≡ true → less y z ≡ true → shared x z ≤ shared x y
unfolding less
between x y z h k = elim (dec_le (shared x z) (shared x y)) [ yes l ↦ l | no n ↦ absurd (go (omega arith)) ]
  where
    l : ℕ
    l = shared x y

    go : l < shared x z → ⊥
    go m =
        let xy : at x l < at y l = ltb-true (at x l) (at y l) h in
        let xz : at x l ≡ at z l = shared_at x z l m in
        let p : l ≤ shared y z = shared-trans y x z l (omega (arith, shared-comm y x)) (omega arith) in
        let e : shared y z ≡ l = part_at y z l p (λ f. lt_irrefl (at x l) (omega arith)) in
        let yz : at y l < at z l = ltb-true (at y l) (at z l) (sym (less_by y z l e) ∙ k) in
        lt_irrefl (at x l) (omega arith)

pub further : (w v : List ℕ) (d : ℕ) → Positive w → Positive v → less w v ≡ true → d ≤ shared w v → at v d ≡ at w d → d < shared w v
further w v d p q h l e = go (dec_le (length w) d)
  where
    go : Dec (length w ≤ d) → d < shared w v
    go (yes k) =
        -- both end at d, and so are one word
        let z : at w d ≡ 0 = at-past w d k in
        let m : length v ≤ d = at-end v d q (e ∙ z) in
        let n : shared w v ≡ d = omega (arith, shared-le w v) in
        absurd (less-parts w v p q h (subst (λ (j : ℕ). at v j ≡ at w j) (sym n) e))
    go (no k) = elim (dec_le (length v) d) [
      | yes m ↦ absurd (k (at-end w d p (sym e ∙ at-past v d m)))
      | no m ↦ shared-more w v d l (omega arith) (omega arith) (sym e)
    ]

-- q leaves a word at d or before where the two differ in symbol number d
pub leaves : (q y : List ℕ) (d : ℕ) → (at y d ≡ at q d → ⊥) → shared q y ≤ d
leaves q y d n = elim (dec_le (shared q y) d) [ yes h ↦ h | no m ↦ absurd (n (sym (shared_at q y d (omega arith)))) ]

-- a word that q leaves at d or before shares no more with q than a word that agrees with it up to d
pub blind : (q y z : List ℕ) (d : ℕ) → shared q y ≤ d → d ≤ shared y z → shared q y ≤ shared q z
blind q y z d h k = shared-trans q y z (shared q y) (omega arith) (omega arith)

-- a word y that shares less with q than x does stands to q as it does to x
pub same-side : (x y q : List ℕ) → shared y q < shared x q → less y q ≡ less y x
same-side x y q h =
    let l : ℕ = shared y q in
    let up : l ≤ shared y x = shared-trans y q x l (omega arith) (omega (arith, shared-comm q x)) in
    let e : at x l ≡ at q l = shared_at x q l h in
    less_by y q l refl ∙ ap (ltb (at y l)) (sym e) ∙ sym (less_by y x l (even (eq-or-lt_of_le up)))
  where
    even : (shared y q ≡ shared y x) ⊎ (shared y q < shared y x) → shared y x ≡ shared y q
    even (inl e) = sym e
    even (inr k) = absurd (lt_irrefl (shared y q) (shared-trans y x q (suc (shared y q)) k h))

-- ---- equal lists

pub same_true : (x y : List ℕ) → same x y ≡ true → x ≡ y
unfolding same
same_true [] [] h = refl
same_true [] (b ∷ y) h = absurd (lt_irrefl 0 (omega (arith, eqb-true 0 (suc (length y)) (both_true _ _ h).0)))
same_true (a ∷ x) [] h = absurd (lt_irrefl 0 (omega (arith, eqb-true (suc (length x)) 0 (both_true _ _ h).0)))
same_true (a ∷ x) (b ∷ y) h =
    let p = both_true (eqb (suc (length x)) (suc (length y))) (begins (a ∷ x) (b ∷ y)) h in
    let q = begins-cons a b x y p.1 in
    ap₂ (λ (c : ℕ) (z : List ℕ). c ∷ z) q.0
    (same_true x y (rw (eq-eqb (length x) (length y) (omega (arith, eqb-true (suc (length x)) (suc (length y)) p.0))) q.1))

pub same_refl : (x : List ℕ) → same x x ≡ true
unfolding same begins
same_refl x = rw (eq-eqb (length x) (length x) refl) (eq-eqb (shared x x) (length x) (shared-self x))
