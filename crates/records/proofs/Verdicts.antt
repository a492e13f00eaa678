-- What a verdict says of the list that was read.
--     verdict-read      the list reads well, and has so many names
--     verdict-refused   it is refused with that number, at that record
-- Assumes nothing.
use Rattle.std.proofs.Common.{◌≡◌, ℕ, List, Ok, Err, length, refl, ap, arith}
use Rattle.words.specs.Words.{Bytes, Rule}
use Rattle.format.specs.Outcomes.{Answer as Numbers, given}
use Rattle.format.specs.Records.{Names, Reading, Refused, read_list}
use Rattle.format.proofs.Records.{read-refused}
use Rattle.refusals.specs.Refusals.{beside, code_of, said}
use Rattle.refusals.specs.declared.Refusal.{Refusal}
use Rattle.refusals.proofs.Codes.{refusal-some}
use Rattle.records.specs.Lists.{reading_of, verdict_numbers}

module _ (ρ : Rule) (most : ℕ) (s : Bytes) where
  pub record ReadsWell (n : ℕ) : Type 0 where
    pub names : List Bytes
    pub is : read_list ρ most s ≡ Names names
    pub counted : n ≡ length names

  pub verdict-read : {n : ℕ} → verdict_numbers (Ok n) ≡ reading_of (read_list ρ most s) → ReadsWell n
  unfolding reading_of
  verdict-read {n} e = go (read_list ρ most s) refl e
    where
      go : (x : Reading) → read_list ρ most s ≡ x → given n 0 ≡ reading_of x → ReadsWell n
      go (Names xs) p q = record { names = xs; is = p; counted = ap (λ (a : Numbers). a.first) q }
      go (Refused code i) p q = absurd (let z : 0 ≡ code = ap (λ (a : Numbers). a.code) q in omega (arith, read-refused ρ most s code i p))

  pub verdict-refused : (e : Refusal) → verdict_numbers (Err e) ≡ reading_of (read_list ρ most s) → read_list ρ most s ≡ Refused (code_of e) (beside e)
  unfolding reading_of
  verdict-refused e v = go (read_list ρ most s) refl v
    where
      go : (x : Reading) → read_list ρ most s ≡ x → said e ≡ reading_of x → read_list ρ most s ≡ Refused (code_of e) (beside e)
      go (Names xs) p q = absurd (let z : code_of e ≡ 0 = ap (λ (a : Numbers). a.code) q in omega (arith, refusal-some e))
      go (Refused code i) p q = let c : code_of e ≡ code = ap (λ (a : Numbers). a.code) q in let b : beside e ≡ i = ap (λ (a : Numbers). a.first) q in cc
