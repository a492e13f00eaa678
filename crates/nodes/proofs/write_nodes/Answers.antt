-- What the search does not find for `nodes::write_nodes`: what a turn of the loop asks and leaves is laws of the walk.
-- Assumes nothing.
use Rattle.std.proofs.Common.{ap, refl, arith, get_or, length, rules, ◌-◌, ◌≡◌, ◌≤◌, ◌∙◌}
use Rattle.frames.specs.declared.Frame.{Frame}
use Rattle.records.specs.Notes.{lens_of}
use Rattle.nodes.proofs.Writing.{noted-room, noted_size, rowing-back, rowing-keep, rowing-name, rowing-name-fits, rowing_push, rowing-room, rowing_start, rowing-wide, rowing-within}
use Rattle.nodes.proofs.write_nodes.Goals as goal
use Rattle.nodes.proofs.write_nodes.Goals.{After-from}

-- the name's length is the one that is noted
size : (c : After-from) → c.from.result ≡ get_or (lens_of c.args.notes.now) (c.loop-j.j - 1) 0
size c = noted_size _ c.requires.ready (c.loop-j.j - 1) (omega arith) _ c.from.ensures

pub loop-j-init : goal.loop-j-init
loop-j-init c = rw c.new-stack.ensures (rowing_start c.requires.ready c.args.room.now)

pub bounds-notes-j : goal.bounds-notes-j
bounds-notes-j c = omega (arith, noted-room c.args.notes.now c.requires.ready)

pub overflow_sub-from : goal.overflow_sub-from
overflow_sub-from c = rowing-name-fits c.requires.ready c.loop-j.invariant c.loop-j-test.true _ (size c)

pub slice_bounds-name-end : goal.slice_bounds-name-end
slice_bounds-name-end c =
    let within : c.loop-j.end ≤ length c.args.list.now = rowing-within c.requires.ready c.loop-j.invariant c.loop-j-test.true _ (size c) in
    search rules

pub left_of-requires : goal.left_of-requires
left_of-requires c = omega (arith, noted-room c.args.notes.now c.requires.ready)

pub write_name-p-requires : goal.write_name-p-requires
write_name-p-requires c =
    rowing-name c.requires.ready c.loop-j.invariant c.loop-j-test.true _ (size (goal.at.write_name-p-requires c).After-from)
    _ c.left_of.ensures.0 c.left_of.ensures.1

pub overflow_sub-end : goal.overflow_sub-end
overflow_sub-end c = rowing-back c.requires.ready c.loop-j.invariant c.loop-j-test.true _ (size (goal.at.overflow_sub-end c).After-from)

pub push-requires : goal.push-requires
push-requires c =
    rowing-room c.requires.ready c.loop-j.invariant c.loop-j-test.true _ (size (goal.at.push-requires c).After-from)
    _ c.left_of.ensures.0 c.left_of.ensures.1 c.write_name-p.ensures
    _ (c.from-in-loop-j.ensures ∙ ap (λ (f : Frame). f.depth) c.frame.ensures) c.if-from-name.true

pub loop-j-preserved-then-from-name : goal.loop-j-preserved-then-from-name
loop-j-preserved-then-from-name c =
    rowing_push c.requires.ready c.loop-j.invariant c.loop-j-test.true _ (size (goal.at.loop-j-preserved-then-from-name c).After-from)
    _ c.left_of.ensures.0 c.left_of.ensures.1 c.write_name-p.ensures
    _ (c.from-in-loop-j.ensures ∙ ap (λ (f : Frame). f.depth) c.frame.ensures) c.if-from-name.true _ _ c.push.ensures refl

pub raise-requires : goal.raise-requires
raise-requires c =
    rowing-wide c.requires.ready c.loop-j.invariant c.loop-j-test.true _ (size (goal.at.raise-requires c).After-from)
    _ c.left_of.ensures.0 c.left_of.ensures.1 c.write_name-p.ensures

pub loop-j-preserved : goal.loop-j-preserved
loop-j-preserved c =
    rowing-keep c.requires.ready c.loop-j.invariant c.loop-j-test.true _ (size (goal.at.loop-j-preserved c).After-from)
    _ c.left_of.ensures.0 c.left_of.ensures.1 c.write_name-p.ensures
    _ (c.from-in-loop-j.ensures ∙ ap (λ (f : Frame). f.depth) c.frame.ensures) c.if-from-name.false _ _ c.raise.ensures refl
