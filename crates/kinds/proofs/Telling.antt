-- What a kind of book, a form of table and a mark tell, as the code has them.
--     marked-folded, marked-columns, marked-plain     the third byte of a mark tells the kind
--     kind-told, kind-kept     a kind of book, told by the code's kind for it; and the other way round
--     back-tells, same-backs     the back of a mark tells its kind; one back is one kind's
--     rule_told         the rule of a kind
--     nodes-size        a record of a table is a node's, in every form
-- Assumes nothing.
use Prim.Native.Nat.{ℕ, ◌%◌}
use mathlib.Core.Path.{◌≡◌, refl, sym, ap, ◌∙◌}
use mathlib.Core.Bool.{Bool, true, false}
use lib.Dec.{eqb}
use borrow.Author.Tests.{ne_eqb}
use Rattle.words.specs.Words.{pick}
use Rattle.format.specs.Kinds.{BookKind, ColumnBook, FoldedBook, PlainBook, all_kinds, marked_as, record_size, rule_of}
use Rattle.symbols.specs.Rules.{by_kind, rule_by}
use Rattle.symbols.specs.declared.Rule.{Rule}
use Rattle.symbols.proofs.Symbols.{rule-by}
use Rattle.kinds.specs.Known.{form_by, kind_by, kind_for, mark_back}
use Rattle.kinds.specs.declared.Form.{Form}
use Rattle.kinds.specs.declared.Form.TheVariants.{Columns as InColumns, Rows}
use Rattle.kinds.specs.declared.Kind.{Kind}
use Rattle.kinds.specs.declared.Kind.TheVariants.{Columns, Folded, Plain}

pub marked-folded : (third : ℕ) → third ≡ 0x46 → Folded ≡ kind_for (marked_as third all_kinds)
marked-folded third e = ap (λ (x : ℕ). kind_for (marked_as x all_kinds)) (sym e)

pub marked-columns : (third : ℕ) → third ≡ 0x43 → Columns ≡ kind_for (marked_as third all_kinds)
marked-columns third e = ap (λ (x : ℕ). kind_for (marked_as x all_kinds)) (sym e)

pub marked-plain : (third : ℕ) → (third ≡ 0x46 → ⊥) → (third ≡ 0x43 → ⊥) → Plain ≡ kind_for (marked_as third all_kinds)
marked-plain third n m = rw (ne_eqb third 0x46 n, ne_eqb third 0x43 m) (go (eqb third 0x4B))
  where
    go : (t : Bool) → Plain ≡ kind_for (pick t PlainBook PlainBook)
    go true = refl
    go false = refl

pub kind-told : (κ : BookKind) → kind_by (kind_for κ) ≡ κ
kind-told PlainBook = refl
kind-told FoldedBook = refl
kind-told ColumnBook = refl

pub kind-kept : (kind : Kind) → kind_for (kind_by kind) ≡ kind
kind-kept Plain = refl
kind-kept Folded = refl
kind-kept Columns = refl

-- the back of a mark tells its kind
back-tells : (κ : BookKind) → marked_as (mark_back κ % 256) all_kinds ≡ κ
back-tells PlainBook = refl
back-tells FoldedBook = refl
back-tells ColumnBook = refl

pub same-backs : (κ μ : BookKind) → mark_back κ ≡ mark_back μ → κ ≡ μ
same-backs κ μ e = sym (back-tells κ) ∙ ap (λ (n : ℕ). marked_as (n % 256) all_kinds) e ∙ back-tells μ

-- the rule of a kind, as the definitions have it
pub rule_told : (kind : Kind) (rule : Rule) → rule ≡ by_kind (kind_by kind) → rule_by rule ≡ rule_of (kind_by kind)
rule_told kind rule e = ap rule_by e ∙ rule-by (kind_by kind)

pub nodes-size : (form : Form) → 12 ≡ record_size (form_by form)
nodes-size Rows = refl
nodes-size InColumns = refl
