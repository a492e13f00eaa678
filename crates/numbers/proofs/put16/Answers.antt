-- `numbers::put16`: the two bytes that were stored are the number's.
-- Assumes nothing.
use Rattle.std.proofs.Common.{arith, rules, ◌∙◌, ℕ, ap, ap₂, slice_index_or, slice_set}
use Rattle.numbers.proofs.Parts.{two-stored}
use Rattle.numbers.proofs.put16.Goals as goal

pub returns : goal.returns
returns c =
    let v = c.args.v in
    let bytes = c.to_le_bytes-bytes.ensures in
    ap₂ (λ (x y : ℕ). slice_set (slice_set c.args.part.now 0 x) 1 y)
    (ap (λ b. slice_index_or b 0 0) bytes ∙ omega arith)
    (ap (λ b. slice_index_or b 1 0) bytes ∙ omega arith)
    ∙ two-stored c.args.part.now v (search rules)
