-- One batch of three rows tells all.
use Rattle.announcer.proofs.Hearing.{hears, hears-nothing}
use Rattle.announcer.proofs.hear.Goals as goal

pub returns-then-asked-ne0 : goal.returns-then-asked-ne0
returns-then-asked-ne0 c = hears-nothing c.args.book.now c.args.text.now c.book_batch-asked.result c.book_batch-asked.new.answers c.book_batch-asked.ensures c.if-asked-ne0.true

pub returns : goal.returns
returns c = hears c.args.book.now c.args.text.now c.book_batch-asked.result c.book_batch-asked.new.answers c.book_batch-asked.ensures c.if-asked-ne0.false
