-- Laws of a property of every element of a list, and of an element at a place.
--     all_head, all_tail, all_append, all_left, all_right, all_map, all-map₂
--     all_from, all-at        what holds at every position holds of all, and back
--     Within                  z stands at j: within-left, within-right, all-within, within-at
--     drop-take               taking and passing over, in either order
--     map-set                 a function of every element, where one of them is set
-- Assumes nothing.
use Prim.Native.Nat.{ℕ, zero, suc, ◌+◌, ◌-◌, ◌<◌, suc-le-suc, zero-le}
use native.Mathlib.Nat.{le_of_suc-le-suc, not-suc-le-zero}
use native.Mathlib.Omega.{arith}
use mathlib.Core.Path.{◌≡◌, refl, ap, ◌∙◌, sym, subst}
use mathlib.Core.List.{List, [], ◌∷◌, ◌++◌, map, append_assoc}
use lib.ListN.{drop, length, get_or, length-append, set, take}
use lib.Seq.{get_or_at, take-nil}
use Rattle.words.specs.Rising.{All, cons, nil}

module _ {A : Type 0} {P : A → Type 0} where
  pub all_head : {a : A} {l : List A} → All P (a ∷ l) → P a
  all_head (cons h t) = h

  pub all_tail : {a : A} {l : List A} → All P (a ∷ l) → All P l
  all_tail (cons h t) = t

  pub all_append : {k l : List A} → All P k → All P l → All P (k ++ l)
  all_append nil b = b
  all_append (cons h t) b = cons h (all_append t b)

  pub all_left : (k l : List A) → All P (k ++ l) → All P k
  all_left [] l a = nil
  all_left (x ∷ k) l (cons h t) = cons h (all_left k l t)

  pub all_right : (k l : List A) → All P (k ++ l) → All P l
  all_right [] l a = a
  all_right (x ∷ k) l (cons h t) = all_right k l t

  pub all_map : {Q : A → Type 0} {l : List A} → ((a : A) → P a → Q a) → All P l → All Q l
  all_map f nil = nil
  all_map f (cons {a = a} h t) = cons (f a h) (all_map f t)

  pub all-map₂ : {Q R : A → Type 0} {l : List A} → ((a : A) → P a → Q a → R a) → All P l → All Q l → All R l
  all-map₂ f nil nil = nil
  all-map₂ f (cons {a = a} h t) (cons k u) = cons (f a h k) (all-map₂ f t u)

  pub all_from : (d : A) (l : List A) → ((i : ℕ) → i < length l → P (get_or l i d)) → All P l
  all_from d [] h = nil
  all_from d (x ∷ l) h = cons (h 0 (suc-le-suc zero-le)) (all_from d l (λ i k. h (suc i) (suc-le-suc k)))

  pub all-at : (d : A) (l : List A) → All P l → (i : ℕ) → i < length l → P (get_or l i d)
  all-at d [] a i h = absurd (not-suc-le-zero h)
  all-at d (x ∷ l) (cons h a) zero k = h
  all-at d (x ∷ l) (cons h a) (suc i) k = all-at d l a i (le_of_suc-le-suc k)

-- z stands at j in the list
pub record Within {A : Type 0} (l : List A) (z : A) (j : ℕ) : Type 0 where
  pub before : List A
  pub behind : List A
  pub split : l ≡ before ++ (z ∷ behind)
  pub size : length before ≡ j

module _ {A : Type 0} {z : A} {j : ℕ} where
  pub within-left : (k l : List A) → Within k z j → Within (k ++ l) z j
  within-left k l m = record {
    before = m.before;
    behind = m.behind ++ l;
    split = ap (λ (r : List A). r ++ l) m.split ∙ append_assoc m.before (z ∷ m.behind) l;
    size = m.size;
  }

  pub within-right : (k l : List A) → Within l z j → Within (k ++ l) z (length k + j)
  within-right k l m = record {
    before = k ++ m.before;
    behind = m.behind;
    split = ap (λ (r : List A). k ++ r) m.split ∙ sym (append_assoc k m.before (z ∷ m.behind));
    size = length-append k m.before ∙ ap (λ (n : ℕ). length k + n) m.size;
  }

  pub all-within : {P : A → Type 0} {l : List A} → Within l z j → All P l → P z
  all-within {P = P} m a = all_head (all_right m.before (z ∷ m.behind) (subst (λ (r : List A). All P r) m.split a))

  pub within-at : {l : List A} (d : A) → Within l z j → get_or l j d ≡ z
  within-at d m = ap (λ (r : List A). get_or r j d) m.split ∙ get_or_at m.before z m.behind d j m.size

-- what is taken and then passed over is passed over and then taken
pub drop-take : {A : Type 0} (n m : ℕ) (l : List A) → drop n (take m l) ≡ take (m - n) (drop n l)
drop-take zero m l = let same : m ≡ m - 0 = omega arith in ap (λ (k : ℕ). take k l) same
drop-take (suc n) zero l = let same : 0 ≡ 0 - suc n = omega arith in ap (λ (k : ℕ). take k (drop (suc n) l)) same
drop-take (suc n) (suc m) [] = sym (take-nil (suc m - suc n))
drop-take (suc n) (suc m) (x ∷ l) = let same : m - n ≡ suc m - suc n = omega arith in drop-take n m l ∙ ap (λ (k : ℕ). take k (drop n l)) same

pub map-set : {A B : Type 0} (f : A → B) (l : List A) (i : ℕ) (y : A) → map f (set l i y) ≡ set (map f l) i (f y)
map-set f [] i y = refl
map-set f (x ∷ l) zero y = refl
map-set {B = B} f (x ∷ l) (suc i) y = ap (λ (r : List B). f x ∷ r) (map-set f l i y)
