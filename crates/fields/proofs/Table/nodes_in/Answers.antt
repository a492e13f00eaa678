-- A node's number of nodes stands in that part at the node's own offset.
use Prim.Native.Nat.{ℕ}
use mathlib.Core.Path.{◌∙◌, ap}
use mathlib.Core.List.{List}
use Rattle.format.specs.Book.{number}
use Rattle.fields.proofs.Counts.{counts-at}
use Rattle.fields.proofs.Table.nodes_in.Goals as goal

pub returns : goal.returns
returns c =
    let a = c.args in
    let t = a.self in (
      c.number_at.ensures.0 ∙ ap (λ (part : List ℕ). number part a.at) c.requires.1 ∙ counts-at t.step t.book.now a.at c.requires.0,
      c.number_at.ensures.1,
    )
