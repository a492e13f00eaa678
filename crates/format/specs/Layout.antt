-- Document 02, CR 7, 'any rule that gives each byte a symbol from 1 to 256': what a kind of book is made of.
--     Layout            a lawful rule, a form of table and a mark of four bytes
-- That each kind is one: kind-layout in proofs/BookKinds.antt. Assumes nothing: this is a definition.
use Rattle.std.specs.Prelude.{◌≡◌, length}
use Rattle.words.specs.Words.{Bytes, InBytes, Lawful, Rule}
use Rattle.format.specs.Kinds.{Form}

pub record Layout (ρ : Rule) (f : Form) (mark : Bytes) : Type 0 where
  pub lawful : Lawful ρ
  pub four : length mark ≡ 4
  pub bytes : InBytes mark
