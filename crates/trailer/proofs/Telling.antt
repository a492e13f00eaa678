-- The trailer, number by number.
--     trailer-told      the numbers that were read are those that the trailer tells
--     map-told          where the numbers of a node stand, by the form whose arm was taken
--     rule-folded, rule-plain     the third byte of the mark tells the rule
--     mark-kind         the back of the mark tells the kind
--     size_is           the size of a record, by the kind that the third byte tells
--     trail-marked      the test of the mark's back, behind all others
--     records-few       how many bytes records take at the most
--     trailer-is        eight numbers, the last two of which are the mark
-- Assumes nothing.
use Prim.Native.Nat.{ℕ, ◌+◌, ◌-◌, ◌*◌, ◌<◌, ◌≤◌}
use native.Mathlib.Nat.{mul-le-mul}
use native.Mathlib.Omega.{arith}
use mathlib.Core.Path.{◌≡◌, refl, sym, ap, ap₂, ◌∙◌}
use mathlib.Core.Bool.{Bool, false, true}
use Rattle.std.proofs.Common.{Option, Some, None, is_some}
use mathlib.Core.List.{[], ◌∷◌}
use lib.ListN.{get_or, length}
use lib.Dec.{eqb}
use borrow.Author.Tests.{ne_eqb}
use Rattle.words.specs.Words.{Bytes, InBytes, pick}
use Rattle.format.specs.Book.{number, numbers, told, trailer, trailer_size}
use Rattle.format.specs.Kinds.{BookKind, ColumnBook, FoldedBook, Form as TableForm, PlainBook, all_kinds, form_of, kind_of, mark_of, marked_as, record_size}
use Rattle.format.specs.Nodes.{node_size}
use Rattle.format.proofs.BookKinds.{third-tells}
use Rattle.standing.specs.Maps.{map_in, map_of}
use Rattle.numbers.proofs.Parts.{Held, held_bytes}
use Rattle.symbols.specs.Rules.{by_kind}
use Rattle.symbols.specs.declared.Rule.TheVariants.{Folded, Plain}
use Rattle.kinds.specs.Known.{MarkTells, form_by, kind_by, kind_for, mark_back, mark_front}
use Rattle.kinds.specs.declared.Form.{Form}
use Rattle.kinds.specs.declared.Kind.{Kind}
use Rattle.kinds.proofs.Telling.{kind-told}
use Rattle.trailer.specs.Trailer.{Trail, TrailSays, trailer_in}

pub trailer-told : (b : Bytes) (n k s u m : ℕ) (κ : Kind) → n ≡ told b 0 → k ≡ told b 1 → s ≡ told b 2 → u ≡ told b 3 → m ≡ told b 4 → κ ≡ kind_for (kind_of b)
    → record { names = n; block = k; blocks_at = s; nodes_at = u; nodes = m; kind = κ } ≡ trailer_in b
trailer-told b n k s u m κ ne ke se ue me κe = rw (ne, ke, se, ue, me, κe) refl

pub rule-folded : (b : Bytes) → get_or b (length b - 2) 0 ≡ 0x46 → Folded ≡ by_kind (kind_of b)
rule-folded b e = ap (λ (x : ℕ). by_kind (marked_as x all_kinds)) (sym e)

pub rule-plain : (b : Bytes) → (get_or b (length b - 2) 0 ≡ 0x46 → ⊥) → Plain ≡ by_kind (kind_of b)
rule-plain b n = rw (ne_eqb (get_or b (length b - 2) 0) 0x46 n) (go (eqb (get_or b (length b - 2) 0) 0x4B) (eqb (get_or b (length b - 2) 0) 0x43))
  where
    go : (t u : Bool) → Plain ≡ by_kind (pick t PlainBook (pick u ColumnBook PlainBook))
    go true u = refl
    go false true = refl
    go false false = refl

-- the form of the table whose map is asked for, where its arm was taken
module _ (b : Bytes) (kind : Kind) (form arm : Form) (k : kind ≡ kind_for (kind_of b)) (e : form_by form ≡ form_of (kind_by kind)) (is : form ≡ arm) where
  form-told : form_by arm ≡ form_of (kind_of b)
  form-told = ap form_by (sym is) ∙ e ∙ ap (λ (x : Kind). form_of (kind_by x)) k ∙ ap form_of (kind-told (kind_of b))

  pub map-told : map_in (form_by arm) (told b 3) (told b 4) ≡ map_of b
  map-told = ap (λ (f : TableForm). map_in f (told b 3) (told b 4)) form-told

-- ---- the mark

-- the third byte of a mark that stands
third : (b : Bytes) → trailer_size ≤ length b → InBytes b → (n : ℕ) → told b 7 ≡ n → get_or b (length b - 2) 0 + 256 * get_or b (length b - 1) 0 ≡ n
unfolding number
third b long bytes n e =
    let p : length b - trailer_size + 2 * 7 ≡ length b - 2 = omega arith in
    let q : length b - trailer_size + 2 * 7 + 1 ≡ length b - 1 = omega arith in
    sym (ap₂ (λ (x y : ℕ). get_or b x 0 + 256 * get_or b y 0) p q) ∙ e

pub mark-kind : (b : Bytes) → trailer_size ≤ length b → InBytes b → (κ : BookKind) → told b 7 ≡ mark_back κ → kind_of b ≡ κ
mark-kind b long bytes κ e = ap (λ (x : ℕ). marked_as x all_kinds) (is κ e) ∙ third-tells κ
  where
    is : (μ : BookKind) → told b 7 ≡ mark_back μ → get_or b (length b - 2) 0 ≡ get_or (mark_of μ) 2 0
    is PlainBook h = omega (arith, third b long bytes 0x324B h, bytes (length b - 2), bytes (length b - 1))
    is FoldedBook h = omega (arith, third b long bytes 0x3246 h, bytes (length b - 2), bytes (length b - 1))
    is ColumnBook h = omega (arith, third b long bytes 0x3243 h, bytes (length b - 2), bytes (length b - 1))

-- the size of a record in the table of that kind
pub size_is : (b : Bytes) (kind : Kind) (form : Form) (size : ℕ) → kind ≡ kind_for (kind_of b) → form_by form ≡ form_of (kind_by kind) → size ≡ record_size (form_by form)
    → size ≡ record_size (form_of (kind_of b))
size_is b kind form size e f h = h ∙ ap record_size (f ∙ ap (λ (x : Kind). form_of (kind_by x)) e ∙ ap form_of (kind-told (kind_of b)))

-- the back of the mark is asked for last
pub trail-marked : (b : Bytes) → trailer_size ≤ length b → Held b → (x : ℕ) (kind : Option Kind) → x ≡ told b 7 → MarkTells x kind → (told b 7 ≡ mark_back (kind_of b) → Trail b) → TrailSays b (is_some kind)
trail-marked b long held x (Some kind) e mark fits =
    let is : told b 7 ≡ mark_back (kind_by kind) = sym e ∙ mark in
    fits (is ∙ ap mark_back (sym (mark-kind b long (held_bytes b held) (kind_by kind) is)))
trail-marked b long held x None e never fits = λ t. never (kind_of b) (e ∙ t.back)

-- so many records are no more bytes than nodes would be
pub records-few : (n size : ℕ) → n < 65536 → size ≤ node_size → n * size ≤ 65536 * node_size
records-few n size h k = let few : n ≤ 65536 = omega arith in mul-le-mul few k

pub trailer-is : (κ : BookKind) (part : Bytes) (n k s u m total back : ℕ) → back ≡ mark_back κ
    → part ≡ numbers (n ∷ k ∷ s ∷ u ∷ m ∷ total ∷ mark_front ∷ back ∷ []) → part ≡ trailer (mark_of κ) n k s u m total
unfolding trailer numbers
trailer-is PlainBook part n k s u m total back e h = h ∙ ap (λ (x : ℕ). numbers (n ∷ k ∷ s ∷ u ∷ m ∷ total ∷ mark_front ∷ x ∷ [])) e
trailer-is FoldedBook part n k s u m total back e h = h ∙ ap (λ (x : ℕ). numbers (n ∷ k ∷ s ∷ u ∷ m ∷ total ∷ mark_front ∷ x ∷ [])) e
trailer-is ColumnBook part n k s u m total back e h = h ∙ ap (λ (x : ℕ). numbers (n ∷ k ∷ s ∷ u ∷ m ∷ total ∷ mark_front ∷ x ∷ [])) e
