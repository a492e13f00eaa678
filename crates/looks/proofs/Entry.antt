-- The symbol that the entry at hand tells.
--     lead-in, lead-past       ways out of `leads`: a byte of the entry has the symbol; the name has ended
-- Assumes nothing.
use Prim.Native.Nat.{ℕ, ◌+◌, ◌-◌, ◌≤◌, ◌<◌}
use native.Mathlib.Omega.{arith}
use mathlib.Core.Path.{◌≡◌, sym, ap, ◌∙◌}
use mathlib.Core.Bool.{Bool}
use lib.Dec.{eqb}
use lib.ListN.{get_or, length, drop, length-drop, length-map, length-take}
use lib.Seq.{get_or-drop, get_or-take}
use Rattle.words.specs.Words.{Bytes, Rule, at, word}
use Rattle.words.proofs.Words.{at-past, word_at}
use Rattle.format.specs.Kinds.{kind_of, rule_in}
use Rattle.symbols.specs.Rules.{by_kind, rule_by}
use Rattle.symbols.specs.declared.Rule.{Rule as ByRule}
use Rattle.symbols.proofs.Symbols.{rule-by}
use Rattle.streams.specs.Streams.{rest_at}
use Rattle.looks.specs.Looks.{LeadAsk}

-- c and l are what the code read at a and after it
module _ (b : Bytes) (a d s c l : ℕ) (ask : LeadAsk b a d) (ce : c ≡ get_or b a 0) (le : l ≡ get_or b (a + 1) 0) where
  size : length (rest_at b a) ≡ l
  size = omega (arith, ask.fits, length-take (get_or b (a + 1) 0) (drop (a + 2) b), length-drop (a + 2) b)

  -- t is the book's rule, and v says whether the byte there has the symbol by it
  pub lead-in : d - c < l → (t : ByRule) → t ≡ by_kind (kind_of b) → (v : Bool) → v ≡ eqb s (rule_by t (get_or b (a + 2 + (d - c)) 0)) → v ≡ eqb s (at (word (rule_in b) (rest_at b a)) (d - get_or b a 0))
  lead-in h t te v ve =
      ve
      ∙ ap (λ (ρ : Rule). eqb s (ρ (get_or b (a + 2 + (d - c)) 0))) (ap rule_by te ∙ rule-by (kind_of b))
      ∙ ap (eqb s) (sym (word_at (rule_in b) (rest_at b a) (d - c) (omega (arith, size)) ∙ ap (rule_in b) (get_or-take (get_or b (a + 1) 0) (drop (a + 2) b) (d - c) 0 (omega arith) ∙ get_or-drop (a + 2) b (d - c) 0))
      ∙ ap (λ (n : ℕ). at (word (rule_in b) (rest_at b a)) (d - n)) ce)

  pub lead-past : l ≤ d - c → eqb s 0 ≡ eqb s (at (word (rule_in b) (rest_at b a)) (d - get_or b a 0))
  lead-past h =
      ap (eqb s) (sym (at-past (word (rule_in b) (rest_at b a)) (d - c) (omega (arith, size, length-map (rest_at b a) (rule_in b))))
      ∙ ap (λ (n : ℕ). at (word (rule_in b) (rest_at b a)) (d - n)) ce)
