-- `records::shared_above` meets its contract: symbols are compared behind the bytes that are the same. Assumes nothing.
use Rattle.std.proofs.Common.{arith}
use Rattle.symbols.specs.Rules.{rule_by}
use Rattle.records.proofs.Above.{in_both, longer-above, rests_part, shorter-not, symbol-above, symbol-not, symbols-inside, symbols_alike}
use Rattle.records.proofs.shared_above.Goals as goal

pub slice_bounds-shared_on-count : goal.slice_bounds-shared_on-count
slice_bounds-shared_on-count c = omega (arith, in_both c.args.last.now c.args.name.now c.requires)

pub slice_bounds-shared_on-start : goal.slice_bounds-shared_on-start
slice_bounds-shared_on-start c = omega (arith, in_both c.args.last.now c.args.name.now c.requires)

pub slice_bounds-shared_on-count-2 : goal.slice_bounds-shared_on-count-2
slice_bounds-shared_on-count-2 c = omega (arith, in_both c.args.last.now c.args.name.now c.requires)

pub slice_bounds-shared_on-start-2 : goal.slice_bounds-shared_on-start-2
slice_bounds-shared_on-start-2 c = omega (arith, in_both c.args.last.now c.args.name.now c.requires)

pub shared_on-requires : goal.shared_on-requires
shared_on-requires c = rests_part _ _ c.requires c.min-most.ensures

pub overflow_add-j : goal.overflow_add-j
overflow_add-j c = omega (arith, symbols-inside c.args.last.now c.args.name.now c.requires c.min-most.ensures (rule_by c.args.rule) c.shared_on.ensures)

pub returns-then-last-name : goal.returns-then-last-name
returns-then-last-name c =
    let alike = symbols_alike c.args.last.now c.args.name.now c.requires c.min-most.ensures (rule_by c.args.rule) c.shared_on.ensures in
    longer-above c.args.rule _ _ alike (omega arith) (omega arith)

pub returns-else-last-name : goal.returns-else-last-name
returns-else-last-name c =
    let alike = symbols_alike c.args.last.now c.args.name.now c.requires c.min-most.ensures (rule_by c.args.rule) c.shared_on.ensures in
    shorter-not c.args.rule _ _ alike (omega arith)

pub bounds-last-j : goal.bounds-last-j
bounds-last-j c = omega (arith, symbols-inside c.args.last.now c.args.name.now c.requires c.min-most.ensures (rule_by c.args.rule) c.shared_on.ensures)

pub bounds-name-j : goal.bounds-name-j
bounds-name-j c = omega (arith, symbols-inside c.args.last.now c.args.name.now c.requires c.min-most.ensures (rule_by c.args.rule) c.shared_on.ensures)

pub returns-then-is_higher : goal.returns-then-is_higher
returns-then-is_higher c =
    let inside = symbols-inside c.args.last.now c.args.name.now c.requires c.min-most.ensures (rule_by c.args.rule) c.shared_on.ensures in
    let alike = symbols_alike c.args.last.now c.args.name.now c.requires c.min-most.ensures (rule_by c.args.rule) c.shared_on.ensures in
    symbol-above c.args.rule _ _ alike (omega arith) (omega arith) _ c.is_higher.ensures c.if-is_higher.true

pub returns-else-is_higher : goal.returns-else-is_higher
returns-else-is_higher c =
    let inside = symbols-inside c.args.last.now c.args.name.now c.requires c.min-most.ensures (rule_by c.args.rule) c.shared_on.ensures in
    let alike = symbols_alike c.args.last.now c.args.name.now c.requires c.min-most.ensures (rule_by c.args.rule) c.shared_on.ensures in
    symbol-not c.args.rule _ _ alike (omega arith) (omega arith) _ c.is_higher.ensures c.if-is_higher.false
