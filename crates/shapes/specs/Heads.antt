-- Document 02, CR 2: a head and a part of a lent list, as the calls of the code give them.
--     headed            a head's three numbers
--     lent_part          where a part is lent, and its bytes. Assumes nothing: these are definitions.
use Rattle.std.specs.Prelude.{ℕ}
use Rattle.std.specs.Borrow.{Bor}
use Rattle.words.specs.Words.{Bytes}
use Rattle.answers.specs.Heads.{Head as Numbers}
use Rattle.shapes.specs.declared.Head.{Head}

abbrev pub headed : Head → Numbers
headed r = (r.list, r.start, r.length)

abbrev pub lent_part : Bor Bytes → (ℕ × ℕ) × Bytes
lent_part r = (r.ref_ptr, r.now)
