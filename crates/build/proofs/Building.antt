-- How the build of a list ends, by the ways that the code goes.
--     build-low, build-high, build-bad     block size 0; above 64; a bad record
--     build-judged      what building a judged list gave
--     judged-asks       a judged list is ready to be built
-- Assumes nothing.
use Rattle.std.proofs.Common.{◌≡◌, ℕ, ◌≤◌, ◌<◌, Bool, true, false, List, Ok, Err, length, refl, sym, ap, ◌∙◌, subst, arith}
use borrow.Author.Tests.{le-leb, lt-leb}
use Rattle.words.specs.Words.{Bytes, Rule, pick}
use Rattle.format.specs.Full.{is_full}
use Rattle.format.specs.Kinds.{BookKind, rule_of}
use Rattle.format.proofs.BookKinds.{kind-sure}
use Rattle.format.specs.Book.{good_block}
use Rattle.format.specs.Records.{Names, Refused, most_names, read_list}
use Rattle.format.proofs.Records.{read-sound, sound-few}
use Rattle.format.specs.Outcomes.{Written, refused}
use Rattle.answers.specs.Calls.{build, build_by, built_from}
use Rattle.refusals.specs.Refusals.{beside, code_of}
use Rattle.refusals.specs.declared.Refusal.{Refusal}
use Rattle.refusals.specs.declared.Refusal.TheVariants.{BadBlockSize}
use Rattle.symbols.specs.Rules.{rule_by}
use Rattle.symbols.specs.declared.Rule.{Rule as ByRule}
use Rattle.records.specs.Lists.{Judged, Noted, names, names_in}
use Rattle.records.proofs.Names.{names-are}
use Rattle.records.proofs.Verdicts.{verdict-read, verdict-refused}
use Rattle.assembly.specs.Whole.{BuildAsk}
use Rattle.shapes.specs.Endings.{wrote}
use Rattle.build.specs.Ends.{built_of}

module _ (κ : BookKind) (s : Bytes) (k : ℕ) (room : Bytes) where
  gate : (t : Bool) → good_block k ≡ t → build κ s k room ≡ pick t (built_of κ k room (read_list (rule_of κ) most_names s)) (record { answer = refused 8; room = room })
  unfolding build_by
  gate t p = rw p refl

  pub build-low : k ≡ 0 → wrote (Err BadBlockSize) room ≡ build κ s k room
  build-low h = sym (gate false (rw (lt-leb 1 k (omega arith)) refl))

  pub build-high : 64 < k → wrote (Err BadBlockSize) room ≡ build κ s k room
  build-high h = sym (gate false (rw (le-leb 1 k (omega arith), lt-leb k 64 h) refl))

  module _ (z : k ≡ 0 → ⊥) (h : k ≤ 64) where
    -- what building a judged list gave, as the call's own answer
    pub build-judged : (w : Written) → w ≡ built_of κ k room (read_list (rule_of κ) most_names s) → w ≡ build κ s k room
    build-judged w p = p ∙ sym (gate true (rw (le-leb 1 k (omega arith), le-leb k 64 h) refl))

    module _ (rule : ByRule) (re : rule_by rule ≡ rule_of κ) (lens counts shares : List ℕ) where
      pub build-bad : (e : Refusal) → Judged (rule_by rule) s most_names lens counts shares (Err e) → wrote (Err e) room ≡ build κ s k room
      unfolding built_from
      build-bad e j =
          let read : read_list (rule_of κ) most_names s ≡ Refused (code_of e) (beside e) =
          ap (λ (ρ : Rule). read_list ρ most_names s) (sym re) ∙ verdict-refused (rule_by rule) most_names s e j.verdict in
          build-judged (wrote (Err e) room) (sym (ap (built_of κ k room) read))

      pub judged-asks : (n : ℕ) → Judged (rule_by rule) s most_names lens counts shares (Ok n) → length lens ≡ most_names → is_full κ ≡ true → BuildAsk κ s n lens counts shares k
      judged-asks n by-rule places full =
          let ρ : Rule = rule_of κ in
          let j : Judged ρ s most_names lens counts shares (Ok n) = subst (λ (σ : Rule). Judged σ s most_names lens counts shares (Ok n)) re by-rule in
          let w = verdict-read ρ most_names s j.verdict in
          let all : names s ≡ w.names = names-are ρ most_names s w.names w.is in
          let read : read_list ρ most_names s ≡ Names (names s) = w.is ∙ ap Names (sym all) in
          let b = read-sound ρ s (names s) read in
          let size : n ≡ length (names s) = w.counted ∙ ap length (sym all) in
          record {
            read = read;
            ready = record {
              lawful = kind-sure κ;
              bytes = b.0;
              total = size;
              few = omega (arith, sound-few ρ (names s) b.1);
              sound = b.1;
              noted = subst (λ (ys : List Bytes). Noted ρ ys lens counts shares) (ap names_in read) (j.noted (omega arith));
            };
            low = omega arith;
            high = h;
            full = full;
          }
