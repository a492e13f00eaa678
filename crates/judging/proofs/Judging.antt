-- Two lists that are judged.
--     Named, named-bad, named-good     what `map_err` makes of a verdict
--     judging-first, judging-second, judging-sound     ways out of `judge_both`
-- Assumes nothing.
use Rattle.std.proofs.Common.{◌≡◌, ℕ, Result, Ok, Err, length, sym, ap, ◌∙◌, refl}
use Rattle.std.specs.Result.{IsErrAnd, MatchResult}
use Rattle.words.specs.Words.{Bytes, plain}
use Rattle.format.specs.Alone.{read_alone}
use Rattle.format.specs.Outcomes.{given}
use Rattle.answers.specs.Merging.{judge_lists}
use Rattle.answers.proofs.Merging.{judge-one, judge-other, judge-read}
use Rattle.refusals.specs.Refusals.{beside, code_of}
use Rattle.refusals.specs.declared.Refusal.{Refusal}
use Rattle.records.specs.Lists.{reading_of, verdict_numbers}
use Rattle.records.proofs.Verdicts.{ReadsWell, verdict-read, verdict-refused}
use Rattle.judging.specs.Ends.{bad_list}
use Rattle.judging.specs.declared.Unread.{Unread}
use Rattle.judging.specs.declared.Unread.TheVariants.{First, Second}

-- a refusal brings its list
abbrev pub Named : (Refusal → Unread) → Result ℕ Refusal → Result ℕ Unread → Type 0
Named list v w = MatchResult v (λ x. w ≡ Ok x) (λ e. IsErrAnd w (λ u. u ≡ list e))

record Bad (list : Refusal → Unread) (v : Result ℕ Refusal) (u : Unread) : Type 0 where
  why : Refusal
  was : v ≡ Err why
  is : u ≡ list why

named-bad : (list : Refusal → Unread) (v : Result ℕ Refusal) (w : Result ℕ Unread) (u : Unread) → Named list v w → w ≡ Err u → Bad list v u
named-bad list (Ok x) w u n e = cc
named-bad list (Err d) (Ok x) u n e = absurd n
named-bad list (Err d) (Err f) u n e = let same : f ≡ u = cc in record { why = d; was = refl; is = sym same ∙ n }

named-good : (list : Refusal → Unread) (v : Result ℕ Refusal) (w : Result ℕ Unread) (x : ℕ) → Named list v w → w ≡ Ok x → v ≡ Ok x
named-good list (Ok y) w x n e = let same : y ≡ x = let z : ◌≡◌ {A = Result ℕ Unread} (Ok y) (Ok x) = sym n ∙ e in cc in ap Ok same
named-good list (Err d) (Ok y) x n e = absurd n
named-good list (Err d) (Err f) x n e = cc

module _ (s t : Bytes) (v : Result ℕ Refusal) (w : Result ℕ Unread) (p : verdict_numbers v ≡ reading_of (read_alone s)) (n : Named First v w) where
  pub judging-first : (u : Unread) → w ≡ Err u → bad_list u ≡ judge_lists s t
  judging-first u e =
      let b = named-bad First v w u n e in
      ap bad_list b.is ∙ sym (judge-one s t (code_of b.why) (beside b.why) (verdict-refused plain (length s) s b.why (ap verdict_numbers (sym b.was) ∙ p)))

  module _ (x : ℕ) (e : w ≡ Ok x) (v' : Result ℕ Refusal) (w' : Result ℕ Unread) (p' : verdict_numbers v' ≡ reading_of (read_alone t)) (n' : Named Second v' w') where
    first : ReadsWell plain (length s) s x
    first = verdict-read plain (length s) s (ap verdict_numbers (sym (named-good First v w x n e)) ∙ p)

    pub judging-second : (u : Unread) → w' ≡ Err u → bad_list u ≡ judge_lists s t
    judging-second u f =
        let b = named-bad Second v' w' u n' f in
        ap bad_list b.is ∙ sym (judge-other s t first.names (code_of b.why) (beside b.why) first.is (verdict-refused plain (length t) t b.why (ap verdict_numbers (sym b.was) ∙ p')))

    pub judging-sound : (y : ℕ) → w' ≡ Ok y → given 0 0 ≡ judge_lists s t
    judging-sound y f =
        let second : ReadsWell plain (length t) t y = verdict-read plain (length t) t (ap verdict_numbers (sym (named-good Second v' w' y n' f)) ∙ p') in
        sym (judge-read {xs = first.names} {ys = second.names} (record { names = first.is }) (record { names = second.is }))
