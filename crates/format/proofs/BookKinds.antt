-- Laws of the kinds of book.
--     capital-bounds, small-rule     65 to 90; every other byte has one symbol by all rules
--     kind-sure, kind-layout     each kind's rule gives every byte a symbol from 1 to 256; with its form and its mark it is a layout
--     mark-length, mark-bytes     a mark has four bytes
--     third-tells       the third byte of a kind's mark tells the kind
--     full-rows         the form of a full book
-- Assumes nothing.
use Prim.Native.Nat.{ℕ, suc, ◌+◌, ◌≤◌, ◌<◌}
use native.Mathlib.Omega.{arith}
use mathlib.Core.Path.{◌≡◌, refl}
use mathlib.Core.Bool.{Bool, true, false}
use lib.Dec.{leb}
use lib.ListN.{get_or, length}
use borrow.Author.Tests.{leb-true}
use Rattle.words.specs.Words.{pick, plain}
use Rattle.words.specs.Rising.{All, cons, nil, Sure}
use Rattle.words.proofs.Words.{both_true, false≠true, plain-sure, sure-lawful}
use Rattle.format.specs.Folded.{capital, folded}
use Rattle.format.specs.Full.{is_full}
use Rattle.format.specs.Kinds.{BookKind, ColumnBook, FoldedBook, PlainBook, Rows, all_kinds, form_of, mark_of, marked_as, rule_of}
use Rattle.format.specs.Layout.{Layout}
use Rattle.format.proofs.Numbers.{all-bytes}

-- ---- the letters

pub capital-bounds : (b : ℕ) → capital b ≡ true → (65 ≤ b) × (b ≤ 90)
capital-bounds b e = let k = both_true (leb 65 b) (leb b 90) e in (leb-true 65 b k.0, leb-true b 90 k.1)

-- what is no capital letter has one symbol by the rule of every kind
pub small-rule : (κ : BookKind) (b : ℕ) → capital b ≡ false → rule_of κ b ≡ suc b
small-rule PlainBook b e = refl
small-rule FoldedBook b e = rw e refl
small-rule ColumnBook b e = refl

folded_low : (b : ℕ) → 0 < folded b
folded_low b = go (capital b)
  where
    go : (t : Bool) → 0 < pick t (plain (b + 32)) (plain b)
    go true = omega arith
    go false = omega arith

folded-high : (b : ℕ) → b < 256 → folded b ≤ 256
folded-high b h = go (capital b) refl
  where
    go : (t : Bool) → capital b ≡ t → pick t (plain (b + 32)) (plain b) ≤ 256
    go true e = omega (arith, capital-bounds b e)
    go false e = omega arith

pub kind-sure : (κ : BookKind) → Sure (rule_of κ)
kind-sure PlainBook = plain-sure
kind-sure FoldedBook = record { low = folded_low; high = folded-high }
kind-sure ColumnBook = plain-sure

pub mark-length : (κ : BookKind) → length (mark_of κ) ≡ 4
mark-length PlainBook = refl
mark-length FoldedBook = refl
mark-length ColumnBook = refl

pub mark-bytes : (κ : BookKind) → All (λ b. b < 256) (mark_of κ)
mark-bytes PlainBook = cons {a = 0x4E} (omega arith) (cons {a = 0x42} (omega arith) (cons {a = 0x4B} (omega arith) (cons {a = 0x32} (omega arith) nil)))
mark-bytes FoldedBook = cons {a = 0x4E} (omega arith) (cons {a = 0x42} (omega arith) (cons {a = 0x46} (omega arith) (cons {a = 0x32} (omega arith) nil)))
mark-bytes ColumnBook = cons {a = 0x4E} (omega arith) (cons {a = 0x42} (omega arith) (cons {a = 0x43} (omega arith) (cons {a = 0x32} (omega arith) nil)))

pub kind-layout : (κ : BookKind) → Layout (rule_of κ) (form_of κ) (mark_of κ)
kind-layout κ = record { lawful = sure-lawful (kind-sure κ); four = mark-length κ; bytes = all-bytes (mark_of κ) (mark-bytes κ) }

pub third-tells : (κ : BookKind) → marked_as (get_or (mark_of κ) 2 0) all_kinds ≡ κ
third-tells PlainBook = refl
third-tells FoldedBook = refl
third-tells ColumnBook = refl

pub full-rows : (κ : BookKind) → is_full κ ≡ true → form_of κ ≡ Rows
full-rows PlainBook e = refl
full-rows FoldedBook e = refl
full-rows ColumnBook e = absurd (false≠true e)
