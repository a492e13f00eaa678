-- How the calls over two lists end, by the ways that they go.
--     judged-read       judging has shown that both lists read well
--     bad-some, merge-refused, head-refused     it has refused one of them, which has a number
--     step-second, step-first, step-within, step-fits     the part that a head names: in the second list, in the first; it is there
-- Assumes nothing.
use Prim.Native.Nat.{ℕ, ◌+◌, ◌-◌, ◌^◌, ◌≤◌, ◌<◌}
use native.Mathlib.Omega.{arith}
use mathlib.Core.Path.{◌≡◌, refl, sym, ap, ◌∙◌, subst}
use mathlib.Core.Bool.{Bool, true, false}
use lib.Dec.{eqb}
use lib.ListN.{drop, length, take}
use borrow.Author.Tests.{eq-eqb, ne_eqb}
use denote.Ref.{Bor}
use mir.Syntax.{w64}
use mir.Val.{Fits}
use Rattle.words.specs.Words.{Bytes, pick, plain}
use Rattle.format.specs.Alone.{BothRead}
use Rattle.format.specs.Merging.{merged}
use native.Mathlib.Nat.{lt_irrefl}
use Rattle.format.specs.Outcomes.{Answer as Numbers, given}
use Rattle.judging.specs.Ends.{bad_list}
use Rattle.judging.specs.declared.Unread.{Unread}
use Rattle.judging.specs.declared.Unread.TheVariants.{First as InFirst, Second as InSecond}
use Rattle.refusals.proofs.Codes.{refusal-some}
use Rattle.answers.specs.Heads.{Head as Place, head_of, part_of}
use Rattle.answers.specs.Merging.{judge_lists, merge_lists, put_names}
use Rattle.answers.proofs.Heads.{head-bad, head-within, list_of}
use Rattle.answers.proofs.Merging.{judged-bad, judged-sound}
use Rattle.shapes.specs.Heads.{headed}
use Rattle.shapes.specs.Shapes.{answered, written}
use Rattle.shapes.specs.declared.Answer.{Answer}
use Rattle.shapes.specs.declared.Head.{Head}

-- what `judge_both` says of a list that is refused
bad-some : (u : Unread) → (bad_list u).code ≡ 0 → ⊥
bad-some (InFirst e) z = lt_irrefl 0 (omega (arith, refusal-some e))
bad-some (InSecond e) z = lt_irrefl 0 (omega (arith, refusal-some e))

module _ (s t : Bytes) where
  pub judged-read : given 0 0 ≡ judge_lists s t → BothRead s t
  judged-read e = judged-sound s t (sym (ap (λ (a : Numbers). a.code) e))

  module _ (u : Unread) (e : bad_list u ≡ judge_lists s t) where
    refused : (judge_lists s t).code ≡ 0 → ⊥
    refused z = bad-some u (ap (λ (a : Numbers). a.code) e ∙ z)

    pub merge-refused : (room : Bytes) {r : Answer} → answered r ≡ bad_list u → written r room ≡ merge_lists s t room
    unfolding merge_lists
    merge-refused room f =
        ap (λ (a : Numbers). record { answer = a; room = room }) (f ∙ e)
        ∙ sym (judged-bad s t refused (λ a. record { answer = a; room = room }) (λ xs ys. put_names room (merged plain xs ys)))

    pub head-refused : (i j : ℕ) {h : Place} → h ≡ (1, 0, 0) → h ≡ head_of s t i j
    head-refused i j f = f ∙ sym (head-bad s t i j refused)

-- ---- the part that a head names

module _ (first second : Bor Bytes) (i j : ℕ) {h : Head} (e : headed h ≡ head_of first.now second.now i j) where
  inside : h.start + h.length ≤ length (pick (eqb h.list 2) second.now first.now)
  inside = subst (λ (k : Place). k.1 + k.2 ≤ length (list_of first.now second.now k)) (sym e) (head-within first.now second.now i j)

  abbrev Shown : Bor Bytes → Type 0
  Shown list = ((list.ref_ptr.0, h.start + list.ref_ptr.1), take (h.start + h.length - h.start) (drop h.start list.now)) ≡ part_of first second (head_of first.now second.now i j)

  long : h.start + h.length - h.start ≡ h.length
  long = omega arith

  pub in-second : h.list ≡ 2 → h.start + h.length ≤ length second.now
  in-second z = rw (eq-eqb h.list 2 z) at inside

  pub in-first : (h.list ≡ 2 → ⊥) → h.start + h.length ≤ length first.now
  in-first z = rw (ne_eqb h.list 2 z) at inside

  pub step-second : h.list ≡ 2 → Shown second
  step-second z = subst (λ (k : Place). ((second.ref_ptr.0, h.start + second.ref_ptr.1), take (h.start + h.length - h.start) (drop h.start second.now)) ≡ part_of first second k) e (rw (eq-eqb h.list 2 z, long) refl)

  pub step-first : (h.list ≡ 2 → ⊥) → Shown first
  step-first z = subst (λ (k : Place). ((first.ref_ptr.0, h.start + first.ref_ptr.1), take (h.start + h.length - h.start) (drop h.start first.now)) ≡ part_of first second k) e (rw (ne_eqb h.list 2 z, long) refl)

  pub end_fits : length first.now < 2 ^ 64 → length second.now < 2 ^ 64 → Fits w64 (h.start + h.length)
  end_fits a b = go (eqb h.list 2) inside
    where
      go : (v : Bool) → h.start + h.length ≤ length (pick v second.now first.now) → Fits w64 (h.start + h.length)
      go true k = omega arith
      go false k = omega arith
