-- `build::build_list` meets its contract: each way out is one law. Assumes nothing.
use Rattle.std.proofs.Common.{arith}
use Rattle.std.proofs.lemmas.Result.{err_from_is_err_and}
use Rattle.kinds.specs.Known.{kind_by}
use Rattle.kinds.proofs.Telling.{rule_told}
use Rattle.records.proofs.Notes.{lens-length}
use Rattle.build.proofs.Building.{build-bad, build-high, build-judged, build-low, judged-asks}
use Rattle.build.proofs.build_list.Goals as goal
use Rattle.build.proofs.build_list.Goals.{then-block-eq0-via-then-block-eq0, then-block-eq0-via-else-block-eq0+then-block-gt64}

pub returns-then-block-eq0 : goal.returns-then-block-eq0
returns-then-block-eq0 c = elim c.then-block-eq0.branch [
  | then-block-eq0-via-then-block-eq0 w ↦ build-low (kind_by c.args.kind) _ _ _ w.if-block-eq0.true
  | then-block-eq0-via-else-block-eq0+then-block-gt64 w ↦ build-high (kind_by c.args.kind) _ _ _ w.if-block-gt64.true
]

-- the list is judged by the kind's rule
pub returns-in_err-names : goal.returns-in_err-names
returns-in_err-names c =
    let p = err_from_is_err_and c.from_residual.result c.from_residual.ensures.1 in
    rw (p.1, p.2)
    (build-bad (kind_by c.args.kind) _ _ _ c.if-block-eq0.false c.if-block-gt64.false c.rule-rule.result (rule_told c.args.kind _ c.rule-rule.ensures)
    _ _ _ _ c.in_err-names.ensures)

pub build_judged-requires : goal.build_judged-requires
build_judged-requires c =
    judged-asks (kind_by c.args.kind) _ _ c.args.room.now c.if-block-eq0.false c.if-block-gt64.false c.rule-rule.result (rule_told c.args.kind _ c.rule-rule.ensures)
    _ _ _ _ c.in_ok-names.ensures (omega (arith, lens-length c.judge_by.new.notes)) c.requires

pub returns : goal.returns
returns c = build-judged (kind_by c.args.kind) _ _ _ c.if-block-eq0.false c.if-block-gt64.false _ c.build_judged.ensures
