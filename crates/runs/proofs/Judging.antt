-- Laws of the code that judges one block, one for each way through it.
--     Fitting, entry-.., judged-..     the last tests of an entry, by any rule and by each
--     held-..                   the loop over a block
-- Assumes nothing.
use Prim.Native.Nat.{ℕ, ◌+◌, ◌-◌, ◌≤◌, ◌<◌}
use native.Mathlib.Nat.{lt_irrefl}
use native.Mathlib.Omega.{arith}
use mathlib.Core.Path.{◌≡◌, refl, sym, ap, ap₂, ◌∙◌, subst}
use mathlib.Core.Bool.{Bool, true, false}
use mathlib.Core.List.{[]}
use lib.Dec.{eqb, ltb}
use lib.ListN.{length, get_or, take, drop, length-take, length-drop, drop_of_length-le}
use borrow.Author.Tests.{eqb-false, eqb-true}
use lib.Seq.{get_or-drop, get_or-take, take_all}
use Rattle.words.specs.Words.{Bytes, Rule, less, plain, word}
use Rattle.words.specs.Rising.{Sure}
use Rattle.words.proofs.Words.{false≠true}
use Rattle.format.specs.Folded.{folded}
use Rattle.symbols.specs.Rules.{rule_by}
use Rattle.symbols.specs.declared.Rule.{Rule as ByRule}
use Rattle.symbols.specs.declared.Rule.TheVariants.{Folded, Plain}
use Rattle.streams.specs.Streams.{EntryAt, entry_end}
use Rattle.streams.specs.Runs.{Step}
use Rattle.streams.proofs.Blocks.{less-empty}
use Rattle.streams.proofs.Steps.{plain-first}
use Rattle.streams.proofs.Walks.{Blocked, blocked-apart, blocked-bad, blocked-done, blocked-entry, blocked-more, step_is, step-on}
use Rattle.entries.specs.Reading.{NextIs}
use Rattle.runs.specs.Judging.{BlockSays, EntrySays}

-- ---- one entry

-- every test but the last has passed
pub record Fitting (b prev : Bytes) (o e : ℕ) : Type 0 where
  pub fits : entry_end b o ≤ e
  pub within : e ≤ length b
  pub some : 1 ≤ get_or b (o + 1) 0
  pub shares : get_or b o 0 ≤ length prev
  pub short : get_or b o 0 + get_or b (o + 1) 0 ≤ 200

-- by the tests themselves
pub fitting-by : (b prev : Bytes) (o e c n : ℕ) → e ≤ length b → c ≡ get_or b o 0 → n ≡ get_or b (o + 1) 0 → 2 ≤ e → o ≤ e - 2 → n ≤ e - 2 - o
    → (n ≡ 0 → ⊥) → c ≤ length prev → c + n ≤ 200 → Fitting b prev o e
fitting-by b prev o e c n h ce ne two start end some shares short = record {
  fits = omega arith;
  within = h;
  some = omega arith;
  shares = omega arith;
  short = omega arith;
}

module _ (ρ : Rule) (b prev : Bytes) (o e : ℕ) (k : Fitting b prev o e) where
  pub entry_whole : Sure ρ → length prev ≡ get_or b o 0 → Step ρ b o e prev
  entry_whole lw end =
      let none : drop (get_or b o 0) prev ≡ [] = drop_of_length-le prev {i = get_or b o 0} (omega arith) in
      step_is ρ b prev o e (get_or b o 0) (get_or b (o + 1) 0) refl refl k.fits k.some k.shares k.short (λ l. absurd (lt_irrefl (length prev) (omega arith)))
      (ap (λ (x : Bytes). less (word ρ x) (word ρ (take (get_or b (o + 1) 0) (drop (o + 2) b)))) none
      ∙ less-empty ρ lw (take (get_or b (o + 1) 0) (drop (o + 2) b)) (omega (arith, length-take (get_or b (o + 1) 0) (drop (o + 2) b), length-drop (o + 2) b, k)))

  -- v is what the last test gave; c and n are what was read
  pub entry-judged : (c n : ℕ) → c ≡ get_or b o 0 → n ≡ get_or b (o + 1) 0 → (get_or prev c 0 ≡ get_or b (o + 2) 0 → ⊥)
      → (v : Bool) → v ≡ less (word ρ (drop c prev)) (word ρ (take n (drop (o + 2) b))) → EntrySays ρ b o e prev v
  entry-judged c n ce ne differ true h =
      step_is ρ b prev o e c n ce ne (omega (arith, k.fits)) (omega (arith, k.some)) (omega (arith, k.shares)) (omega (arith, k.short)) (λ l. differ) (sym h)
  entry-judged c n ce ne differ false h = λ j. false≠true (h ∙ step-on ρ b prev o e c n ce ne j)

-- the parts `&prev[c..]` and `&book[from..to]`
pub rests-are : (ρ : Rule) (b prev : Bytes) (o c n : ℕ)
    → less (word ρ (take (length prev - c) (drop c prev))) (word ρ (take (o + 2 + n - (o + 2)) (drop (o + 2) b))) ≡ less (word ρ (drop c prev)) (word ρ (take n (drop (o + 2) b)))
rests-are ρ b prev o c n =
    let z : o + 2 + n - (o + 2) ≡ n = omega arith in
    ap₂ (λ (x : Bytes) (i : ℕ). less (word ρ x) (word ρ (take i (drop (o + 2) b)))) (take_all (length prev - c) (drop c prev) (omega (arith, length-drop c prev))) z

pub entry-same : (ρ : Rule) (b prev : Bytes) (o e c : ℕ) → Step ρ b o e prev → c ≡ get_or b o 0 → c ≤ length prev → (length prev ≡ c → ⊥) → get_or prev c 0 ≡ get_or b (o + 2) 0 → ⊥
entry-same ρ b prev o e c k ce sh apart h = k.differ (omega arith) (ap (λ (x : ℕ). get_or prev x 0) (sym ce) ∙ h)

-- by the plain rule, the bytes behind the count
pub plain-rises : (b prev : Bytes) (o c n : ℕ) → c < length prev → 1 ≤ n → o + 2 + n ≤ length b → (get_or prev c 0 ≡ get_or b (o + 2) 0 → ⊥)
    → ltb (get_or prev c 0) (get_or b (o + 2) 0) ≡ less (word plain (drop c prev)) (word plain (take n (drop (o + 2) b)))
plain-rises b prev o c n l some fits differ =
    let z : o + 2 + 0 ≡ o + 2 = omega arith in
    let y : c + 0 ≡ c = omega arith in
    let p : get_or prev c 0 ≡ get_or (drop c prev) 0 0 = sym (get_or-drop c prev 0 0 ∙ ap (λ (x : ℕ). get_or prev x 0) y) in
    let q : get_or b (o + 2) 0 ≡ get_or (take n (drop (o + 2) b)) 0 0 = sym (get_or-take n (drop (o + 2) b) 0 0 some ∙ get_or-drop (o + 2) b 0 0 ∙ ap (λ (x : ℕ). get_or b x 0) z) in
    ap₂ ltb p q ∙ plain-first (drop c prev) (take n (drop (o + 2) b)) (omega (arith, length-drop c prev)) (omega (arith, length-take n (drop (o + 2) b), length-drop (o + 2) b)) (λ h. differ (p ∙ h ∙ sym q))

-- the last test by each rule
module _ (r : ByRule) (b prev : Bytes) (o e : ℕ) (k : Fitting b prev o e) (c : ℕ) (ce : c ≡ get_or b o 0) (differ : get_or prev c 0 ≡ get_or b (o + 2) 0 → ⊥) where
  pub judged-plain : r ≡ Plain → c < length prev → EntrySays (rule_by r) b o e prev (ltb (get_or prev c 0) (get_or b (o + 2) 0))
  judged-plain q l =
      rw q (entry-judged plain b prev o e k c (get_or b (o + 1) 0) ce refl differ _ (plain-rises b prev o c (get_or b (o + 1) 0) l k.some (omega (arith, k)) differ))

  pub judged-folded : (n : ℕ) → n ≡ get_or b (o + 1) 0 → r ≡ Folded
      → (v : Bool) → v ≡ less (word folded (take (length prev - c) (drop c prev))) (word folded (take (o + 2 + n - (o + 2)) (drop (o + 2) b))) → EntrySays (rule_by r) b o e prev v
  judged-folded n ne q v h = rw q (entry-judged folded b prev o e k c n ce ne differ v (h ∙ rests-are folded b prev o c n))

-- ---- a block

-- the rule that the code asked for is known, and the bytes that it took are the name at hand
pub says-of : (x y : ByRule) (b prev name : Bytes) (o e : ℕ) (r : Bool) → x ≡ y → prev ≡ name → EntrySays (rule_by x) b o e prev r → EntrySays (rule_by y) b o e name r
says-of x y b prev name o e r p q k = subst (λ (z : ByRule). EntrySays (rule_by z) b o e name r) p (subst (λ (z : Bytes). EntrySays (rule_by x) b o e z r) q k)

module _ (ρ : Rule) (b : Bytes) (e o₀ m o : ℕ) (name : Bytes) (left : ℕ) (w : Blocked ρ b e o₀ m o name left) (r : Bool) (says : EntrySays ρ b o e name r) where
  step-of : r ≡ true → Step ρ b o e name
  step-of h = let k : EntrySays ρ b o e name true = subst (EntrySays ρ b o e name) h says in k

  pub held-entry : r ≡ true → EntryAt b o (length name)
  held-entry h = blocked-entry ρ b e o₀ m o name left w (length name) refl (step-of h)

  pub held-more : (next : ℕ) (name' : Bytes) (left' : ℕ) → r ≡ true → left ≡ left' + 1 → NextIs b o name next name' → Blocked ρ b e o₀ m next name' left'
  held-more next name' left' h one k =
      let z : left - 1 ≡ left' = omega arith in
      subst (Blocked ρ b e o₀ m next name') z (blocked-more ρ b e o₀ m o name left w next name' (omega arith) (step-of h) k.name-is k.next-is)

  pub held-bad : r ≡ false → 0 < left → BlockSays ρ b o₀ e m false name
  held-bad h some = let k : EntrySays ρ b o e name false = subst (EntrySays ρ b o e name) h says in blocked-bad ρ b e o₀ m o name left w some k

-- t is what the code found of the place behind the last entry
pub held-end : (ρ : Rule) (b : Bytes) (e o₀ m o : ℕ) (name : Bytes) (left : ℕ) → Blocked ρ b e o₀ m o name left → left ≤ 0 → BlockSays ρ b o₀ e m (eqb o e) name
held-end ρ b e o₀ m o name left w h = go (eqb o e) refl
  where
    go : (t : Bool) → t ≡ eqb o e → BlockSays ρ b o₀ e m t name
    go true q = blocked-done ρ b e o₀ m o name left w h (eqb-true o e (sym q))
    go false q = blocked-apart ρ b e o₀ m o name left w h (eqb-false o e (sym q))
