-- `records::judge` meets its contract: each way that the code goes is a law of proofs/Reading.antt. Assumes nothing.
use Rattle.std.proofs.Common.{sym, ap, ◌∙◌, arith}
use Rattle.symbols.proofs.Symbols.{rule-sure}
use Rattle.records.specs.Notes.{counts_of, lens_of, shares_of}
use Rattle.records.proofs.Notes.{counts-length, counts-set, lens-length, lens-set, shares-length, shares-set}
use Rattle.records.proofs.Reading as law
use Rattle.records.proofs.judge.Goals as goal
use Rattle.records.proofs.judge.Goals.{then-i-most, else-i-most+then-list-prev, then-n-notes, else-n-notes}

pub records-init : goal.records-init
records-init g c =
    let rows = c.args.notes.now in
    law.reads-start _ (rule-sure g.R.KnownRule.rule) _ _ _ _ _ (lens-length rows ∙ sym (counts-length rows)) (lens-length rows ∙ sym (shares-length rows))

pub bytes-preserved : goal.bytes-preserved
bytes-preserved g c = law.byte-same c.bytes.invariant c.min-most.ensures c.if-i-most.false c.if-list-prev.false

-- the comparison was left by either `break 'bytes`
pub shared_above-requires : goal.shared_above-requires
shared_above-requires g c = law.lent_apart c.bytes.invariant (elim c.if-i-most.branch [
  | then-i-most w ↦ law.one-ends c.bytes.invariant c.min-most.ensures w.if-i-most.true
  | else-i-most+then-list-prev w ↦ law.bytes-differ c.bytes.invariant c.min-most.ensures w.if-i-most.false w.if-list-prev.true
])

pub overflow_cast-notes-then-n-notes-2 : goal.overflow_cast-notes-then-n-notes-2
overflow_cast-notes-then-n-notes-2 g c = omega (arith, law.new-above c.bytes.invariant (rw c.rule.ensures at c.in-Some.ensures))

-- the name is noted, or there is no place for it
pub records-preserved : goal.records-preserved
records-preserved g c =
    let kept = c.records.invariant in
    let above = law.new-above c.bytes.invariant (rw c.rule.ensures at c.in-Some.ensures) in
    let parted : law.ComesApart c.bytes.invariant = elim c.if-i-most.branch [
      | then-i-most w ↦ law.one-ends c.bytes.invariant c.min-most.ensures w.if-i-most.true
      | else-i-most+then-list-prev w ↦ law.bytes-differ c.bytes.invariant c.min-most.ensures w.if-i-most.false w.if-list-prev.true
    ] in
    elim c.if-n-notes.branch [
      | then-n-notes w ↦ law.reads-noted above kept.lens-kept kept.counts-kept kept.shares-kept c.if-limit-n.false parted
          (omega (arith, lens-length c.records.notes)) (ap lens_of w.notes-is ∙ lens-set _ _ _) (ap counts_of w.notes-is ∙ counts-set _ _ _) (ap shares_of w.notes-is ∙ shares-set _ _ _)
      | else-n-notes w ↦ law.reads-passed above kept.lens-kept kept.counts-kept kept.shares-kept c.if-limit-n.false
          (omega (arith, lens-length c.records.notes)) (ap lens_of w.notes-is) (ap counts_of w.notes-is) (ap shares_of w.notes-is)
    ]

pub returns-then-at-list : goal.returns-then-at-list
returns-then-at-list g c = law.good-list c.records.invariant.read c.if-at-list.true

pub returns-then-len-eq0 : goal.returns-then-len-eq0
returns-then-len-eq0 g c = law.no_name c.records.invariant.read c.if-at-list.false c.from-len.ensures c.if-len-eq0.true

pub returns-then-len-gt200 : goal.returns-then-len-gt200
returns-then-len-gt200 g c = law.long-name c.records.invariant.read c.if-at-list.false c.from-len.ensures c.if-len-gt200.true

pub returns-then-list-start : goal.returns-then-list-start
returns-then-list-start g c = law.cut-name c.records.invariant.read c.if-at-list.false c.from-len.ensures c.if-len-eq0.false c.if-len-gt200.false c.if-list-start.true

pub returns-in_default : goal.returns-in_default
returns-in_default g c = law.not-above c.bytes.invariant (rw c.rule.ensures at c.in_default.ensures)

pub returns-then-limit-n : goal.returns-then-limit-n
returns-then-limit-n g c = law.too_many (law.new-above c.bytes.invariant (rw c.rule.ensures at c.in-Some.ensures)) c.if-limit-n.true
