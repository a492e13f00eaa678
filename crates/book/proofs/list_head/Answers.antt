-- A list is refused, or the lesser head is shown. The lists are named, so that one in the other's place shows.
use Rattle.book.proofs.Merging.{head-refused, judged-read}
use Rattle.book.proofs.list_head.Goals as goal

pub returns-in_default : goal.returns-in_default
returns-in_default c = head-refused c.args.first.now c.args.second.now _ c.in_default.ensures _ _ c.no_head.ensures

pub head_judged-requires : goal.head_judged-requires
head_judged-requires c = judged-read c.args.first.now c.args.second.now c.in-Ok.ensures
