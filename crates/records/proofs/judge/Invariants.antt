-- What `records::judge` keeps from turn to turn: the records before `at` are read and noted, and of the one that begins there so many bytes
-- agree with the last name's. The measures are what is left of the list and of the shorter name. Assumes nothing.
use Rattle.std.proofs.Common.{length, ◌-◌}
use Rattle.symbols.specs.Rules.{rule_by}
use Rattle.records.specs.Notes.{counts_of, lens_of, shares_of}
use Rattle.records.proofs.Reading.{Comparing, ReadsOn}
use Rattle.records.proofs.judge.Given as goal

abbrev pub invariant-bytes : goal.invariant-bytes
invariant-bytes g l =
    Comparing (rule_by g.R.KnownRule.rule) l.list l.limit (lens_of l.notes) (counts_of l.notes) (shares_of l.notes) l.at l.prev l.before l.n l.len l.i

abbrev pub decreases-bytes : goal.decreases-bytes
decreases-bytes g l = l.most - l.i

abbrev pub invariant-records : goal.invariant-records
invariant-records g l =
    ReadsOn (rule_by g.R.KnownRule.rule) l.list l.limit (lens_of l.fn.notes) (counts_of l.fn.notes) (shares_of l.fn.notes) (lens_of l.notes) (counts_of l.notes) (shares_of l.notes) l.at l.prev l.before l.n

abbrev pub decreases-records : goal.decreases-records
decreases-records g l = length l.list - l.at
