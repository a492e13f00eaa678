-- The rule that the code takes along, as the definitions have it.
--     rule_by            the rule itself
--     by_kind            the one that a kind of book has
-- Assumes nothing: these are definitions.
use Rattle.words.specs.Words.{Rule, plain}
use Rattle.format.specs.Folded.{folded}
use Rattle.format.specs.Kinds.{BookKind, ColumnBook, FoldedBook, PlainBook}
use Rattle.symbols.specs.declared.Rule.{Rule as ByRule}
use Rattle.symbols.specs.declared.Rule.TheVariants.{Folded, Plain}

abbrev pub rule_by : ByRule → Rule
rule_by Plain = plain
rule_by Folded = folded

abbrev pub by_kind : BookKind → ByRule
by_kind PlainBook = Plain
by_kind FoldedBook = Folded
by_kind ColumnBook = Plain
