-- Laws of kinds, forms and lines that the code of earlier versions was proved by, and that the contracts of today say by themselves.
--     plain-full        a full book by the plain rule is a plain one (`cards::is_mapped` asks for the kind)
--     full-told         whether a kind is a full book, where its form's arm was taken (`Kind::is_full`)
--     told-turn         how a table is turned, where its form's arm was taken (`convert`)
--     new-long          a line of 201 bytes keeps its length, whatever name is rebuilt in it and whatever its length byte is set to
-- Assumes nothing.
use Prim.Native.Nat.{ℕ, suc, ◌-◌}
use native.Mathlib.Omega.{arith}
use mathlib.Core.Path.{◌≡◌, ◌∙◌, refl, sym, ap}
use mathlib.Core.Bool.{Bool}
use mathlib.Core.List.{[], ◌∷◌, ◌++◌, append-nil}
use lib.ListN.{drop, length, set, take}
use lib.Seq.{drop-length}
use Rattle.words.specs.Words.{Bytes}
use Rattle.words.proofs.Words.{false≠true}
use Rattle.format.specs.Forms.{Form}
use Rattle.format.specs.Full.{by_rows, is_full}
use Rattle.format.specs.Kinds.{BookKind, ColumnBook, FoldedBook, PlainBook, form_of}
use Rattle.symbols.specs.Rules.{by_kind}
use Rattle.symbols.specs.declared.Rule.{Rule as ByRule}
use Rattle.symbols.specs.declared.Rule.TheVariants.{Plain}
use Rattle.symbols.proofs.Symbols.{rules-differ}
use Rattle.kinds.specs.Known.{form_by, kind_by}
use Rattle.kinds.specs.declared.Form.{Form as CodeForm}
use Rattle.kinds.specs.declared.Kind.{Kind}
use Rattle.cards.specs.Cards.{PlainSays}
use Rattle.convert.specs.Turns.{turn_for, turn_in}

pub plain-full : (κ : BookKind) (r : ByRule) (full : Bool) → r ≡ by_kind κ → r ≡ Plain → full ≡ is_full κ → PlainSays κ full
plain-full PlainBook r full e h f = rw f refl
plain-full FoldedBook r full e h f = absurd (rules-differ (sym e ∙ h))
plain-full ColumnBook r full e h f = rw f (λ same. false≠true (ap is_full same))

pub full-told : (kind : Kind) (form arm : CodeForm) → form_by form ≡ form_of (kind_by kind) → form ≡ arm → by_rows (form_by arm) ≡ is_full (kind_by kind)
full-told kind form arm e is = ap (λ (f : CodeForm). by_rows (form_by f)) (sym is) ∙ ap by_rows e

pub told-turn : (kind : Kind) (m : ℕ) (form arm : CodeForm) → form_by form ≡ form_of (kind_by kind) → form ≡ arm → turn_in (form_by arm) m ≡ turn_for (kind_by kind) m
told-turn kind m form arm e is = ap (λ (f : CodeForm). turn_in (form_by f) m) (sym is) ∙ ap (λ (f : Form). turn_in f m) e

-- the part behind the length byte came back as ys, and the length byte is set
line-is : (line ys : Bytes) (x : ℕ) → length line ≡ 201 → set (take 1 line ++ (ys ++ drop (length line - 1) (drop 1 line))) 0 x ≡ x ∷ ys
line-is [] ys x h = absurd (omega arith)
line-is (a ∷ l) ys x h =
    let whole : suc (length l) - 1 ≡ length l = omega arith in
    ap (λ (z : Bytes). x ∷ (ys ++ z)) (ap (λ (k : ℕ). drop k l) whole ∙ drop-length l) ∙ ap (λ (z : Bytes). x ∷ z) (append-nil ys)

pub new-long : (line ys : Bytes) (x : ℕ) → length line ≡ 201 → length ys ≡ 200 → length (set (take 1 line ++ (ys ++ drop (length line - 1) (drop 1 line))) 0 x) ≡ 201
new-long line ys x h size = ap length (line-is line ys x h) ∙ omega (arith, size)
