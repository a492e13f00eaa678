-- How the building of a list ends.
--     built_of           what a list that was read comes to
-- The laws are in proofs/. Assumes nothing: this is a definition.
use Rattle.std.specs.Prelude.{ℕ}
use Rattle.words.specs.Words.{Bytes}
use Rattle.format.specs.Kinds.{BookKind, form_of, mark_of, rule_of}
use Rattle.format.specs.Records.{Reading}
use Rattle.format.specs.Outcomes.{Written}
use Rattle.answers.specs.Calls.{built_from}

-- what a list that was read comes to, by a kind of book
abbrev pub built_of : BookKind → ℕ → Bytes → Reading → Written
built_of κ k room r = built_from (rule_of κ) (form_of κ) (mark_of κ) k room r
