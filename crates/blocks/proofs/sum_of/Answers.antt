-- `blocks::sum_of` meets its contract. Assumes nothing.
use Rattle.std.proofs.Common.{◌≡◌, rules, sum_by, ◌∙◌}
use Rattle.records.specs.declared.Note.{Note}
use Rattle.blocks.proofs.Writing.{shared-summed}
use Rattle.blocks.proofs.sum_of.Goals as goal

pub returns : goal.returns
returns c =
    let e : c.sum.result ≡ sum_by (λ (r : Note). r.count) c.args.notes.now = search rules in
    e ∙ shared-summed c.args.notes.now
