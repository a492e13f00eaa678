-- A law for each way out, from what was heard and how the book is served.
use Rattle.std.proofs.Common.{refl}
use Rattle.announcer.proofs.Speaking.{exact-clip, range-clip, said-count, said-exact, said-long, said-no, said-nothing, said-range}
use Rattle.announcer.proofs.announce_clip.Goals as goal

pub returns-in_default : goal.returns-in_default
returns-in_default c = said-nothing _ _ _ c.in_default.ensures _ c.from.ensures

pub returns-in-Err : goal.returns-in-Err
returns-in-Err c = said-no _ c.args.text.now _ c.in-Err.refused c.in-Err.ensures _ c.from-in-Err.ensures

pub returns-then-text-gt200 : goal.returns-then-text-gt200
returns-then-text-gt200 c = said-long c.in-Some.ensures _ c.in_default-serve.ensures _ c.if-text-gt200.true c.from-then-text-gt200.ensures

pub speak-requires : goal.speak-requires
speak-requires c = exact-clip c.in-Some.ensures _ c.in_default-serve.ensures c.if-heard-eq1.true

-- the name that equals the text
pub returns-then-heard-eq1 : goal.returns-then-heard-eq1
returns-then-heard-eq1 c = said-exact c.in-Some.ensures _ c.in_default-serve.ensures c.if-text-gt200.false _ c.if-heard-eq1.true c.speak.ensures

pub speak-requires-then-heard-eq1-2 : goal.speak-requires-then-heard-eq1-2
speak-requires-then-heard-eq1-2 c = range-clip c.in-Some.ensures _ c.in_default-serve.ensures c.if-heard-eq1-2.true

-- the only name that begins with it
pub returns-then-heard-eq1-2 : goal.returns-then-heard-eq1-2
returns-then-heard-eq1-2 c =
    said-range c.in-Some.ensures _ c.in_default-serve.ensures c.if-text-gt200.false c.if-heard-eq1.false _ c.if-heard-eq1-2.true c.speak-then-heard-eq1-2.ensures

-- none, or several
pub returns : goal.returns
returns c = said-count c.in-Some.ensures _ c.in_default-serve.ensures c.if-text-gt200.false c.if-heard-eq1.false _ c.if-heard-eq1-2.false refl
