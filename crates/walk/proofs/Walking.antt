-- Laws of the walk over the blocks, one for each way through it.
--     next-..                   a block and the name before it
--     walking-start, -more      the loop over the blocks begins, and goes on
--     walking-room, -place, ..  the answer of each way out
-- Assumes nothing.
use Prim.Native.Nat.{ℕ, ◌+◌, ◌-◌, ◌≤◌, ◌<◌, min}
use native.Mathlib.Omega.{arith}
use mathlib.Core.Path.{◌≡◌, refl, sym, ap₂, ◌∙◌, subst}
use mathlib.Core.Bool.{Bool, true, false}
use mathlib.Core.List.{[]}
use lib.Dec.{eqb}
use lib.ListN.{get_or, take, drop}
use borrow.Author.Tests.{eqb-false, eqb-true}
use Rattle.words.specs.Words.{Bytes, Rule, less, word}
use Rattle.format.specs.Book.{number}
use Rattle.numbers.proofs.Parts.{Held, held_bytes}
use Rattle.symbols.specs.Rules.{rule_by}
use Rattle.symbols.specs.declared.Rule.{Rule as ByRule}
use Rattle.symbols.proofs.Symbols.{rule-sure}
use Rattle.streams.specs.Streams.{name_at}
use Rattle.streams.specs.Runs.{Frame, end_of}
use Rattle.streams.proofs.Walks.{Walked, first-name, walked-bad, walked-done, walked_more, walked-past, walked-place, walked-room, walked-short, walked_start, walked-table}
use Rattle.runs.specs.Judging.{BlockSays}
use Rattle.walk.specs.Walking.{NextSays, WalkSays}

-- ---- a block and the name before it

module _ (ρ : Rule) (b : Bytes) (o e m : ℕ) where
  -- n is the length that the first entry tells, and r is what the code found of the name before, as it was lent, and of `&book[from..to]`, which is the first name
  module _ (prev lent : Bytes) (n : ℕ) (r : Bool) (le : lent ≡ prev) (ne : n ≡ get_or b (o + 1) 0)
      (re : r ≡ less (word ρ lent) (word ρ (take (o + 2 + n - (o + 2)) (drop (o + 2) b)))) where
    found : r ≡ less (word ρ prev) (word ρ (name_at b o []))
    found = re ∙ ap₂ (λ (p x : Bytes). less (word ρ p) (word ρ x)) le (sym (first-name b o n ne))

    pub next-judged : (out : Bytes) (t : Bool) → r ≡ true → BlockSays ρ b o e m t out → NextSays ρ b o e m prev t out
    next-judged out true h k = (k, sym found ∙ h)
    next-judged out false h k = λ l run up. k l run

-- ---- the loop over the blocks

-- it begins, with all of n names left
pub walking-start : (r : ByRule) (b : Bytes) (k s u n : ℕ) → Frame b k s u → Held b → Walked (rule_by r) b k s u n s 0 [] n
walking-start r b k s u n a held = walked_start (rule_by r) (rule-sure r) b k s u n a (held_bytes b held)

-- what its turn over a block and its ways out say
module _ (r : ByRule) {b : Bytes} {k s u n t o : ℕ} {name : Bytes} {left : ℕ} (w : Walked (rule_by r) b k s u n t o name left) where
  pub walking-room : 0 < left → u - t < 2 → WalkSays (rule_by r) b k s u n false
  walking-room h g = walked-room (rule_by r) (rule-sure r) b k s u n t o name left w h g

  pub walking-place : 0 < left → (x : ℕ) → x ≡ number b t → (x ≡ o → ⊥) → WalkSays (rule_by r) b k s u n false
  walking-place h x e g = walked-place (rule_by r) (rule-sure r) b k s u n t o name left w h x e g

  pub walking-past : 0 < left → (e : ℕ) → e ≡ end_of b k s t left → s < e → WalkSays (rule_by r) b k s u n false
  walking-past h e q g = walked-past (rule_by r) (rule-sure r) b k s u n t o name left w h e q g

  module _ {e m : ℕ} (eq : e ≡ end_of b k s t left) (mq : m ≡ min left k) (some : 0 < left) (name' : Bytes) (v : Bool) (says : NextSays (rule_by r) b o e m name v name') where
    pub walking-bad : v ≡ false → WalkSays (rule_by r) b k s u n false
    walking-bad h =
        let k' : NextSays (rule_by r) b o e m name false name' = subst (λ (z : Bool). NextSays (rule_by r) b o e m name z name') h says in
        walked-bad (rule_by r) (rule-sure r) b k s u n t o name left w e m eq mq some k'

    pub walking-more : v ≡ true → 2 ≤ u - t → (x : ℕ) → x ≡ number b t → x ≡ o → e ≤ s
        → Walked (rule_by r) b k s u n (t + 2) e name' (left - m)
    walking-more h here x xe same es =
        let k' : NextSays (rule_by r) b o e m name true name' = subst (λ (z : Bool). NextSays (rule_by r) b o e m name z name') h says in
        walked_more (rule_by r) (rule-sure r) b k s u n t o name left w e m eq mq some name' k'.0 k'.1 (omega (arith, w)) (omega arith) es

  pub walking-apart : left ≤ 0 → (o ≡ s → ⊥) → WalkSays (rule_by r) b k s u n false
  walking-apart h q = walked-short (rule_by r) (rule-sure r) b k s u n t o name left w h q

  pub walking-end : left ≤ 0 → o ≡ s → WalkSays (rule_by r) b k s u n (eqb t u)
  walking-end h p = go (eqb t u) refl
    where
      go : (v : Bool) → v ≡ eqb t u → WalkSays (rule_by r) b k s u n v
      go true q = walked-done (rule_by r) (rule-sure r) b k s u n t o name left w h p (eqb-true t u (sym q))
      go false q = walked-table (rule_by r) (rule-sure r) b k s u n t o name left w h (eqb-false t u (sym q))
