-- Two names, and whether the second is above the first.
--     part-byte, lent-part       a byte of a part of a list; a part as code lends it
--     in_both                    what they share is in both
--     rests_part                 behind the bytes that they share they part
--     symbols_alike, symbols-inside     how many symbols they share, by the bytes that they share and what is the same behind those
--     is_above, is_not           what it shows that the second is above, or is not
--     longer-above, shorter-not, symbol-above, symbol-not     one law for each way that the code goes
--     above-not, above-less, above-shares, above-short     what is told by what `shared_above` gives
-- Assumes nothing.
use Rattle.std.proofs.Common.{◌≡◌, ℕ, ◌+◌, ◌-◌, ◌≤◌, ◌<◌, min, Bool, true, false, Option, Some, None, length, get_or, take, drop, refl, sym, ap, ap₂, ◌∙◌, arith}
use Rattle.std.proofs.Math.ListN.{length-map}
use lib.Seq.{get_or-take, get_or-drop}
use Rattle.words.specs.Words.{Bytes, Rule, less, pick, shared, word}
use Rattle.words.proofs.Lists.{drop-take}
use Rattle.words.proofs.Words.{less-short}
use Rattle.symbols.specs.Parting.{Parted}
use Rattle.symbols.specs.Rules.{rule_by}
use Rattle.symbols.specs.declared.Rule.{Rule as ByRule}
use Rattle.symbols.proofs.Symbols.{below_by, below_end, below-no}
use lib.Dec.{ltb}
use Rattle.records.specs.Above.{part, shared_above}
use Rattle.records.proofs.Alike.{alike-on, parted-behind, shared-both}

pub part-byte : (s : Bytes) (from size i : ℕ) → i < size → get_or (part s from size) i 0 ≡ get_or s (from + i) 0
part-byte s from size i h = rw (get_or-take, get_or-drop)

pub lent-part : (s : Bytes) (from size : ℕ) → take (from + size - from) (drop from s) ≡ part s from size
lent-part s from size = let z : from + size - from ≡ size = omega arith in ap (λ (n : ℕ). take n (drop from s)) z

module _ (x y : Bytes) {i : ℕ} (q : i ≡ shared x y) where
  pub in_both : i ≤ min (length y) (length x)
  in_both = omega (arith, q, shared-both x y)

  -- what is left of either name is compared up to the end of the shorter
  module _ {most : ℕ} (least : most ≡ min (length y) (length x)) where
    pub rests_part : Parted (take (most - i) (drop i x)) (take (most - i) (drop i y))
    rests_part = rw (← drop-take i most x, ← drop-take i most y) (parted-behind x y i most q)

    pub symbols_alike : (ρ : Rule) {t : ℕ} → t ≡ shared (word ρ (take (most - i) (drop i x))) (word ρ (take (most - i) (drop i y))) → i + t ≡ shared (word ρ x) (word ρ y)
    symbols_alike ρ {t} e =
        ap (λ (c : ℕ). i + c) (e ∙ ap₂ (λ (a b : Bytes). shared (word ρ a) (word ρ b)) (sym (drop-take i most x)) (sym (drop-take i most y)))
        ∙ sym (alike-on ρ x y i most (omega (arith, q)) (omega (arith, in_both)) (omega arith))

    pub symbols-inside : (ρ : Rule) {t : ℕ} → t ≡ shared (word ρ (take (most - i) (drop i x))) (word ρ (take (most - i) (drop i y))) → i + t ≤ min (length y) (length x)
    symbols-inside ρ e = omega (arith, symbols_alike ρ e, shared-both (word ρ x) (word ρ y), length-map x ρ, length-map y ρ)

-- what is given, by the order of the two
abbrev picked : Rule → Bytes → Bytes → Bool → Option ℕ
picked ρ x y b = pick b (Some (shared (word ρ x) (word ρ y))) None

module _ (ρ : Rule) (x y : Bytes) where
  pub is_above : {j : ℕ} {b : Bool} → b ≡ less (word ρ x) (word ρ y) → b ≡ true → j ≡ shared (word ρ x) (word ρ y) → Some j ≡ shared_above ρ x y
  is_above e h is = ap Some is ∙ ap (picked ρ x y) (sym h ∙ e)

  pub is_not : {b : Bool} → b ≡ less (word ρ x) (word ρ y) → b ≡ false → None ≡ shared_above ρ x y
  is_not e h = ap (picked ρ x y) (sym h ∙ e)

  pub above-not : None ≡ shared_above ρ x y → less (word ρ x) (word ρ y) ≡ false
  above-not e = go (less (word ρ x) (word ρ y)) refl
    where
      go : (b : Bool) → less (word ρ x) (word ρ y) ≡ b → less (word ρ x) (word ρ y) ≡ false
      go true q = let z : None ≡ picked ρ x y true = e ∙ ap (picked ρ x y) q in cc
      go false q = q

  module _ {j : ℕ} (e : Some j ≡ shared_above ρ x y) where
    pub above-less : less (word ρ x) (word ρ y) ≡ true
    above-less = go (less (word ρ x) (word ρ y)) refl
      where
        go : (b : Bool) → less (word ρ x) (word ρ y) ≡ b → less (word ρ x) (word ρ y) ≡ true
        go true q = q
        go false q = let z : Some j ≡ picked ρ x y false = e ∙ ap (picked ρ x y) q in cc

    pub above-shares : j ≡ shared (word ρ x) (word ρ y)
    above-shares = let z : Some j ≡ picked ρ x y true = e ∙ ap (picked ρ x y) above-less in cc

    -- a name that is above another shares less than its length
    pub above-short : j < length y
    above-short = omega (arith, above-shares, less-short (word ρ x) (word ρ y) above-less, length-map y ρ)

-- where they part, or one of them ends
module _ (rule : ByRule) (x y : Bytes) {j : ℕ} (common : j ≡ shared (word (rule_by rule) x) (word (rule_by rule) y)) where
  pub longer-above : length x ≤ j → j < length y → Some j ≡ shared_above (rule_by rule) x y
  longer-above e l = is_above (rule_by rule) x y (below_end rule x y j common l e) refl common

  pub shorter-not : length y ≤ j → None ≡ shared_above (rule_by rule) x y
  shorter-not l = is_not (rule_by rule) x y (below-no rule x y j common l) refl

  -- v says whether the symbol of the second is higher
  module _ (in-x : j < length x) (in-y : j < length y) (v : Bool) (e : v ≡ ltb (rule_by rule (get_or x j 0)) (rule_by rule (get_or y j 0))) where
    pub symbol-above : v ≡ true → Some j ≡ shared_above (rule_by rule) x y
    symbol-above h = is_above (rule_by rule) x y (below_by rule x y j common in-y in-x v e) h common

    pub symbol-not : v ≡ false → None ≡ shared_above (rule_by rule) x y
    symbol-not h = is_not (rule_by rule) x y (below_by rule x y j common in-y in-x v e) h
