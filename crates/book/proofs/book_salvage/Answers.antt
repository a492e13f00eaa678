-- Saving the names refuses, or each turn stores what a block's row tells.
use Rattle.std.proofs.Common.{◌∙◌, ap, arith}
use native.Mathlib.Nat.{le_antisymm}
use Rattle.shapes.specs.Salvage.{salvaged}
use Rattle.book.proofs.Filling.{filled}
use Rattle.book.proofs.Salvaging.{salvage-asks, salvage-done, salvage-refused, turned_block}
use Rattle.book.proofs.book_salvage.Goals as goal

pub returns-in-Err : goal.returns-in-Err
returns-in-Err c = salvage-refused _ _ _ _ c.in-Err.ensures.saved c.from.ensures

pub row_of-requires : goal.row_of-requires
row_of-requires c = (salvage-asks _ _ _ c.in-Ok.saved c.in-Ok.ensures.saved _ (omega arith), c.in-Ok.ensures.verdicts)

pub returns : goal.returns
returns c =
    ap (salvaged (record { code = 0; first = c.in-Ok.saved.size; second = 0 }) c.save_names.new.room)
    (c.loop-i.invariant ∙ ap (filled (turned_block c.args.data.now) c.args.report.now) (le_antisymm c.loop-i.auto.i-end (omega arith)))
    ∙ salvage-done _ _ _ c.in-Ok.saved c.in-Ok.ensures.saved
