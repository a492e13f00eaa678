-- Laws of symbols by the rule that the code takes along, and of the comparison of names.
--     capital-below, capital-within     whether a byte is a capital letter, by the two tests of the code
--     symbol-plain, -small, -capital    a byte's symbol, way by way
--     pair-..                   a byte and a greater one, by the folded rule
--     alike-.., higher-.., has-..   two bytes and their symbols; a byte and a symbol
--     rule-by, rules-differ, rule-sure     the code's rules are the kinds' rules, two of them, and lawful
--     symbol-in-.., symbol-past     a name's symbol; past the last byte stands the end symbol
--     Sharing, sharing-..       the loop over what two names share
--     parted-..                 names that part at their first bytes
--     below-..                  which of two names is above, by what they share
-- Assumes nothing.
use Prim.Native.Nat.{ℕ, suc, ◌+◌, ◌-◌, ◌≤◌, ◌<◌}
use native.Mathlib.Nat.{lt_irrefl}
use native.Mathlib.Omega.{arith}
use mathlib.Core.Path.{◌≡◌, refl, sym, ap, ap₂, ◌∙◌}
use mathlib.Core.Bool.{Bool, true, false, not}
use mathlib.Core.List.{[], ◌∷◌}
use lib.Dec.{eqb, leb, ltb}
use borrow.Author.Tests.{eq-eqb, eqb-false, eqb-true, le-leb, leb-false, leb-true, le-ltb, lt-leb, lt-ltb, ltb-false, ltb-true, ne_eqb, not-false, not-true}
use lib.ListN.{length, get_or, length-map}
use Rattle.words.specs.Words.{Bytes, at, less, pick, plain, shared, word}
use Rattle.words.specs.Rising.{Sure}
use Rattle.words.proofs.Words.{at-past, false≠true, less_by, part_at, shared-comm, shared-le, shared-more, shared-other, word_at}
use Rattle.format.specs.Folded.{capital}
use Rattle.format.specs.Kinds.{BookKind, ColumnBook, FoldedBook, PlainBook, rule_of}
use Rattle.format.proofs.BookKinds.{capital-bounds, kind-sure, small-rule}
use Rattle.symbols.specs.Parting.{Parted}
use Rattle.symbols.specs.Rules.{by_kind, rule_by}
use Rattle.symbols.specs.declared.Rule.{Rule as ByRule}
use Rattle.symbols.specs.declared.Rule.TheVariants.{Folded, Plain}

-- ---- a byte's symbol

pub capital-below : (x : ℕ) → x < 65 → false ≡ capital x
capital-below x h = rw (lt-leb 65 x h) refl

pub capital-within : (x : ℕ) → 65 ≤ x → leb x 90 ≡ capital x
capital-within x g = rw (le-leb 65 x g) refl

small_by : (r : ByRule) (x : ℕ) → capital x ≡ false → rule_by r x ≡ suc x
small_by Plain x e = small-rule PlainBook x e
small_by Folded x e = small-rule FoldedBook x e

-- t is the byte, wider; v is whether it is a capital letter
module _ (r : ByRule) (x t : ℕ) where
  pub symbol-plain : r ≡ Plain → t ≡ x → t < 256 → (t + 1 ≡ rule_by r x) × (t + 1 < 257)
  symbol-plain e w h = rw e (omega arith, omega arith)

  pub symbol-small : (v : Bool) → v ≡ capital x → v ≡ false → t ≡ x → t < 256 → (t + 1 ≡ rule_by r x) × (t + 1 < 257)
  symbol-small v e n w h = (omega (arith, small_by r x (sym e ∙ n)), omega arith)

  pub symbol-capital : (v : Bool) → v ≡ capital x → v ≡ true → r ≡ Folded → t ≡ x → (t + 1 + 32 ≡ rule_by r x) × (t + 1 + 32 < 257)
  symbol-capital v e is q w =
      let c : capital x ≡ true = sym e ∙ is in
      rw (q, c) (omega arith, omega (arith, capital-bounds x c))

-- two tests that say the same
same-eqb : (a b c d : ℕ) → (a ≡ b → c ≡ d) → (c ≡ d → a ≡ b) → eqb a b ≡ eqb c d
same-eqb a b c d to from = go (eqb a b) refl
  where
    go : (v : Bool) → eqb a b ≡ v → eqb a b ≡ eqb c d
    go true q = q ∙ sym (eq-eqb c d (to (eqb-true a b q)))
    go false q = q ∙ sym (ne_eqb c d (λ e. eqb-false a b q (from e)))

folded-high : (x : ℕ) → 90 < x → rule_by Folded x ≡ x + 1
folded-high x h = rw (le-leb 65 x (omega arith), lt-leb x 90 h) (omega arith)

folded-least : (x : ℕ) → x < rule_by Folded x
folded-least x = go (capital x)
  where
    go : (v : Bool) → x < pick v (plain (x + 32)) (plain x)
    go true = omega arith
    go false = omega arith

folded-capital : (x : ℕ) → 65 ≤ x → x ≤ 90 → rule_by Folded x ≡ x + 33
folded-capital x g l = rw (le-leb 65 x g, le-leb x 90 l) (omega arith)

-- x is less than y
module _ (x y : ℕ) (lower : x < y) where
  -- what is no capital letter has the next number for its symbol
  pub pair_small : (v : Bool) → v ≡ capital x → not v ≡ true → false ≡ eqb (rule_by Folded x) (rule_by Folded y)
  pair_small v e n =
      let s : rule_by Folded x ≡ suc x = small-rule FoldedBook x (sym e ∙ not-true v n) in
      sym (ne_eqb (rule_by Folded x) (rule_by Folded y) (λ q. lt_irrefl x (omega (arith, q, s, folded-least y))))

  pub pair_fits : (v : Bool) → v ≡ capital x → not v ≡ false → x + 32 < 256
  pair_fits v e n = omega (arith, capital-bounds x (sym e ∙ not-false v n))

  pub pair-capital : (v : Bool) → v ≡ capital x → not v ≡ false → eqb (x + 32) y ≡ eqb (rule_by Folded x) (rule_by Folded y)
  pair-capital v e n = go (leb y 90) refl
    where
      g : 65 ≤ x
      g = (capital-bounds x (sym e ∙ not-false v n)).0

      l : x ≤ 90
      l = (capital-bounds x (sym e ∙ not-false v n)).1

      go : (v : Bool) → leb y 90 ≡ v → eqb (x + 32) y ≡ eqb (rule_by Folded x) (rule_by Folded y)
      go true q = ne_eqb (x + 32) y (λ e. lt_irrefl y (omega (arith, g, leb-true y 90 q))) ∙ sym (ne_eqb (rule_by Folded x) (rule_by Folded y)
          (λ e. lt_irrefl x (omega (arith, e, folded-capital x g l, folded-capital y (omega (arith, g)) (leb-true y 90 q)))))
      go false q = same-eqb (x + 32) y (rule_by Folded x) (rule_by Folded y)
          (λ e. omega (arith, folded-capital x g l, folded-high y (leb-false y 90 q))) (λ e. omega (arith, folded-capital x g l, folded-high y (leb-false y 90 q)))

module _ (r : ByRule) (x y : ℕ) where
  pub alike_same : x ≡ y → true ≡ eqb (rule_by r x) (rule_by r y)
  alike_same e = sym (eq-eqb (rule_by r x) (rule_by r y) (ap (rule_by r) e))

  pub alike-not : r ≡ Plain → (x ≡ y → ⊥) → false ≡ eqb (rule_by r x) (rule_by r y)
  alike-not e n = rw e (sym (ne_eqb (suc x) (suc y) (λ q. n (omega arith))))

  -- v says it of the lesser byte and the greater
  pub alike-upward : (v : Bool) → r ≡ Folded → v ≡ eqb (rule_by Folded x) (rule_by Folded y) → v ≡ eqb (rule_by r x) (rule_by r y)
  alike-upward v e q = rw e q

  pub alike-downward : (v : Bool) → r ≡ Folded → v ≡ eqb (rule_by Folded y) (rule_by Folded x) → v ≡ eqb (rule_by r x) (rule_by r y)
  alike-downward v e q = rw e (q ∙ same-eqb (rule_by Folded y) (rule_by Folded x) (rule_by Folded x) (rule_by Folded y) sym sym)

  pub higher-plain : r ≡ Plain → ltb x y ≡ ltb (rule_by r x) (rule_by r y)
  higher-plain e = rw e (go (ltb x y) refl)
    where
      go : (t : Bool) → ltb x y ≡ t → ltb x y ≡ ltb (suc x) (suc y)
      go true q = q ∙ sym (lt-ltb (suc x) (suc y) (omega (arith, ltb-true x y q)))
      go false q = q ∙ sym (le-ltb (suc x) (suc y) (omega (arith, ltb-false x y q)))

  pub higher-folded : (s t : ℕ) → r ≡ Folded → s ≡ rule_by Folded x → t ≡ rule_by Folded y → ltb s t ≡ ltb (rule_by r x) (rule_by r y)
  higher-folded s t e p q = rw e (ap₂ ltb p q)

pub has-plain : (r : ByRule) (x s t : ℕ) → r ≡ Plain → t ≡ x → eqb s (t + 1) ≡ eqb s (rule_by r x)
has-plain r x s t e w = let z : t + 1 ≡ suc x = omega arith in rw e (ap (eqb s) z)

pub has-folded : (r : ByRule) (x s t : ℕ) → r ≡ Folded → t ≡ rule_by Folded x → eqb s t ≡ eqb s (rule_by r x)
has-folded r x s t e p = rw e (ap (eqb s) p)

pub rule-by : (κ : BookKind) → rule_by (by_kind κ) ≡ rule_of κ
rule-by PlainBook = refl
rule-by FoldedBook = refl
rule-by ColumnBook = refl

-- the two rules are two: byte 65 tells them apart
pub rules-differ : ◌≡◌ {A = ByRule} Folded Plain → ⊥
rules-differ e = lt_irrefl 0 (omega (arith, ap (λ (r : ByRule). rule_by r 65) e))

pub rule-sure : (r : ByRule) → Sure (rule_by r)
rule-sure Plain = kind-sure PlainBook
rule-sure Folded = kind-sure FoldedBook

-- ---- a name's symbol

-- i is how far symbol number d stands in what is lent
symbol-in : (r : ByRule) (s : Bytes) (skip d t : ℕ) → d - skip < length s → t ≡ rule_by r (get_or s (d - skip) 0) → t ≡ at (word (rule_by r) s) (d - skip)
symbol-in r s skip d t h e = e ∙ sym (word_at (rule_by r) s (d - skip) h)

pub symbol-in-plain : (r : ByRule) (s : Bytes) (skip d t : ℕ) → d - skip < length s → r ≡ Plain → t ≡ get_or s (d - skip) 0 → t + 1 ≡ at (word (rule_by r) s) (d - skip)
symbol-in-plain r s skip d t h e w = symbol-in r s skip d (t + 1) h (rw e (omega arith))

pub symbol-in-folded : (r : ByRule) (s : Bytes) (skip d t : ℕ) → d - skip < length s → r ≡ Folded → t ≡ rule_by Folded (get_or s (d - skip) 0) → t ≡ at (word (rule_by r) s) (d - skip)
symbol-in-folded r s skip d t h e w = symbol-in r s skip d t h (rw e w)

pub symbol-past : (r : ByRule) (s : Bytes) (skip d : ℕ) → length s ≤ d - skip → 0 ≡ at (word (rule_by r) s) (d - skip)
symbol-past r s skip d h = sym (at-past (word (rule_by r) s) (d - skip) (omega (arith, length-map s (rule_by r))))

-- ---- what two names share

pub record Sharing (r : ByRule) (a c : Bytes) (i : ℕ) : Type 0 where
  pub low : i ≤ length a
  pub shares : i ≤ shared (word (rule_by r) a) (word (rule_by r) c)

module _ (r : ByRule) (a c : Bytes) where
  module _ (i : ℕ) (k : Sharing r a c i) where
    alike : i < length a → i < length c → rule_by r (get_or a i 0) ≡ rule_by r (get_or c i 0) → at (word (rule_by r) a) i ≡ at (word (rule_by r) c) i
    alike h g e = word_at (rule_by r) a i h ∙ e ∙ sym (word_at (rule_by r) c i g)

    unlike : i < length a → i < length c → at (word (rule_by r) a) i ≡ at (word (rule_by r) c) i → rule_by r (get_or a i 0) ≡ rule_by r (get_or c i 0)
    unlike h g e = sym (word_at (rule_by r) a i h) ∙ e ∙ word_at (rule_by r) c i g

    pub sharing-more : i < length a → i < length c → (v : Bool) → v ≡ eqb (rule_by r (get_or a i 0)) (rule_by r (get_or c i 0)) → not v ≡ false → Sharing r a c (i + 1)
    sharing-more h g v e n =
        let m = shared-more (word (rule_by r) a) (word (rule_by r) c) i k.shares (omega (arith, length-map a (rule_by r))) (omega (arith, length-map c (rule_by r))) (alike h g (eqb-true _ _ (sym e ∙ not-false v n))) in
        record { low = omega arith; shares = omega (arith, m) }

    pub sharing-other : i < length a → i < length c → (v : Bool) → v ≡ eqb (rule_by r (get_or a i 0)) (rule_by r (get_or c i 0)) → not v ≡ true → i ≡ shared (word (rule_by r) a) (word (rule_by r) c)
    sharing-other h g v e n =
        sym (part_at (word (rule_by r) a) (word (rule_by r) c) i k.shares (λ q. false≠true (sym (not-true v n) ∙ e ∙ eq-eqb _ _ (unlike h g q))))

    pub sharing-left : length a ≤ i → i ≡ shared (word (rule_by r) a) (word (rule_by r) c)
    sharing-left h = omega (arith, k.shares, shared-le (word (rule_by r) a) (word (rule_by r) c), length-map a (rule_by r))

    pub sharing-right : length c ≤ i → i ≡ shared (word (rule_by r) a) (word (rule_by r) c)
    sharing-right h =
        omega (arith, k.shares, shared-le (word (rule_by r) c) (word (rule_by r) a), shared-comm (word (rule_by r) a) (word (rule_by r) c), length-map c (rule_by r))

none-shared : (a c : Bytes) → Parted a c → 0 ≡ shared (word plain a) (word plain c)
unfolding shared
none-shared [] c h = refl
none-shared (x ∷ a) [] h = refl
none-shared (x ∷ a) (y ∷ c) h = sym (shared-other (suc x) (suc y) (word plain a) (word plain c) (λ e. h.differ (omega arith) (omega arith) (omega arith)))

pub parted-none : (r : ByRule) (a c : Bytes) → r ≡ Plain → Parted a c → 0 ≡ shared (word (rule_by r) a) (word (rule_by r) c)
parted-none r a c e h = rw e (none-shared a c h)

pub parted-folded : (r : ByRule) (a c : Bytes) (t : ℕ) → r ≡ Folded → t ≡ shared (word (rule_by Folded) a) (word (rule_by Folded) c) → t ≡ shared (word (rule_by r) a) (word (rule_by r) c)
parted-folded r a c t e p = rw e p

-- ---- the order of two names

past : (r : ByRule) (x : Bytes) (i : ℕ) → length x ≤ i → at (word (rule_by r) x) i ≡ 0
past r x i h = at-past (word (rule_by r) x) i (omega (arith, length-map x (rule_by r)))

module _ (r : ByRule) (a c : Bytes) (i : ℕ) (e : i ≡ shared (word (rule_by r) a) (word (rule_by r) c)) where
  by : less (word (rule_by r) a) (word (rule_by r) c) ≡ ltb (at (word (rule_by r) a) i) (at (word (rule_by r) c) i)
  by = less_by (word (rule_by r) a) (word (rule_by r) c) i (sym e)

  pub below-no : length c ≤ i → false ≡ less (word (rule_by r) a) (word (rule_by r) c)
  below-no h = sym (by ∙ le-ltb (at (word (rule_by r) a) i) (at (word (rule_by r) c) i) (omega (arith, past r c i h)))

  pub below_end : i < length c → length a ≤ i → true ≡ less (word (rule_by r) a) (word (rule_by r) c)
  below_end h g =
      sym (by ∙ lt-ltb (at (word (rule_by r) a) i) (at (word (rule_by r) c) i) (omega (arith, past r a i g, word_at (rule_by r) c i h, (rule-sure r).low (get_or c i 0))))

  pub below_by : i < length c → i < length a → (t : Bool) → t ≡ ltb (rule_by r (get_or a i 0)) (rule_by r (get_or c i 0)) → t ≡ less (word (rule_by r) a) (word (rule_by r) c)
  below_by h g t q = q ∙ sym (by ∙ ap₂ ltb (word_at (rule_by r) a i g) (word_at (rule_by r) c i h))
