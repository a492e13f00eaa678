-- What is read in the part behind the first step stands so much further on in the whole.
use Prim.Native.Nat.{◌+◌, ◌-◌, ◌*◌, ◌≤◌, suc}
use native.Mathlib.Omega.{arith}
use mathlib.Core.Path.{◌≡◌, ◌∙◌, ap}
use lib.ListN.{length}
use Rattle.format.specs.Book.{number}
use Rattle.standing.proofs.Maps.{fields-are, steps-within}
use Rattle.numbers.proofs.Parts.{number_behind}
use Rattle.fields.proofs.Table.field_on.Goals as goal

pub returns : goal.returns
returns c =
    let a = c.args in
    let t = a.self in
    let on : a.at + t.step + a.j * t.step ≡ a.at + suc a.j * t.step = omega arith in
    let fits : a.j * t.step + 2 ≤ length t.book.now - (a.at + t.step) = omega (arith, steps-within t.step (suc a.j) c.requires.1) in (
      c.number_at.ensures.0 ∙ number_behind t.book.now (a.at + t.step) _ (a.j * t.step) fits ∙ ap (number t.book.now) on
          ∙ fields-are t.step t.book.now a.at (suc a.j) c.requires.1,
      c.number_at.ensures.1,
    )
