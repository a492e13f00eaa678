-- The trailer is eight numbers, the last two of which are the mark.
use Rattle.kinds.specs.Known.{kind_by}
use Rattle.trailer.proofs.Telling.{trailer-is}
use Rattle.trailer.proofs.put_trailer.Goals as goal

pub returns : goal.returns
returns c =
    let a = c.args in
    trailer-is (kind_by a.kind) _ a.names a.block a.blocks a.nodes a.count a.total _ c.mark_back-back.ensures c.put_numbers.ensures
