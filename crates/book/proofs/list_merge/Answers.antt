-- A list is refused, or both are merged.
use Rattle.book.proofs.Merging.{judged-read, merge-refused}
use Rattle.book.proofs.list_merge.Goals as goal

pub returns-in-Err : goal.returns-in-Err
returns-in-Err c = merge-refused c.args.first.now c.args.second.now _ c.in-Err.ensures _ c.unread_answer.ensures

pub merge_judged-requires : goal.merge_judged-requires
merge_judged-requires c = judged-read c.args.first.now c.args.second.now c.in_default.ensures
