-- A law for each way out: a leaf, the question has ended, the row has ended, the child has another symbol, the child has the question's symbol.
-- Each is given its places, and the question is named, so that a wrong rule shows.
use Prim.Native.Nat.{ℕ, ◌+◌, ◌*◌, ◌≤◌}
use native.Mathlib.Omega.{arith}
use mathlib.Core.Path.{◌≡◌, ap}
use Rattle.paths.proofs.Ways.{fork_at, go-down, here-room, none_below, row_here, some_below, stay-end, stay-leaf, stay-other, stay-short}
use Rattle.paths.proofs.child.Goals as goal

pub returns-then-end-o : goal.returns-then-end-o
returns-then-end-o c = stay-leaf c.requires.0 c.nodes_in.ensures.0 c.args.question.now (none_below c.requires.0.searchable c.args.o c.if-end-o.true)

pub returns-then-question-d : goal.returns-then-question-d
returns-then-question-d c =
    let several : 2 ≤ c.nodes_in.result = some_below c.requires.0.searchable c.args.o c.if-end-o.false in
    stay-short c.requires.0 c.nodes_in.ensures.0 several c.args.question.now c.depth-d.ensures.0 c.if-question-d.true

pub seek-c-requires : goal.seek-c-requires
seek-c-requires c =
    let several : 2 ≤ c.nodes_in.result = some_below c.requires.0.searchable c.args.o c.if-end-o.false in
    record {
      fork = fork_at c.requires.0 c.nodes_in.ensures.0 several;
      part = c.requires.1;
      ends = ap (λ (x : ℕ). c.args.o + x * c.args.table.stride) c.nodes_in.ensures.0;
    }

pub returns-then-end-c : goal.returns-then-end-c
returns-then-end-c c =
    let several : 2 ≤ c.nodes_in.result = some_below c.requires.0.searchable c.args.o c.if-end-o.false in
    stay-end c.requires.0 c.nodes_in.ensures.0 several c.args.question.now c.depth-d.ensures.0 c.if-question-d.false
    c.rule.result c.rule.ensures c.symbol_at-s.ensures c.seek-c.ensures c.if-end-c.true

pub symbol-requires : goal.symbol-requires
symbol-requires c = here-room (row_here c.requires.0 c.nodes_in.ensures.0 c.seek-c.ensures.placed c.if-end-c.false)

pub returns-then-symbol-s : goal.returns-then-symbol-s
returns-then-symbol-s c =
    let several : 2 ≤ c.nodes_in.result = some_below c.requires.0.searchable c.args.o c.if-end-o.false in
    stay-other c.requires.0 c.nodes_in.ensures.0 several c.args.question.now c.depth-d.ensures.0 c.if-question-d.false
    c.rule.result c.rule.ensures c.symbol_at-s.ensures c.seek-c.ensures c.if-end-c.false c.symbol.ensures.0 c.if-symbol-s.true

pub returns : goal.returns
returns c =
    let several : 2 ≤ c.nodes_in.result = some_below c.requires.0.searchable c.args.o c.if-end-o.false in
    let fits : c.symbol.result ≡ c.symbol_at-s.result = omega arith in
    go-down c.requires.0 c.nodes_in.ensures.0 several c.args.question.now c.depth-d.ensures.0 c.if-question-d.false
    c.rule.result c.rule.ensures c.symbol_at-s.ensures c.seek-c.ensures c.if-end-c.false c.symbol.ensures.0 fits
