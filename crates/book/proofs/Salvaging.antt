-- How a salvage goes, by the ways that its parts go. How names are saved is in the crate salvage, and what a block's row is, in cards.
--     turned_block                    what turn number i stores
--     salvage-refused, salvage-accepts, salvage-done     the call's equation, where saving refuses; what has been shown where it doesn't; the equation then
-- Assumes nothing.
use Prim.Native.Nat.{ℕ, ◌<◌}
use native.Mathlib.Omega.{arith}
use mathlib.Core.Path.{◌≡◌, ◌∙◌, ap, refl, sym}
use mathlib.Core.Bool.{Bool, false, true}
use mathlib.Core.List.{List, map, map-map}
use lib.Dec.{eqb, leb}
use lib.ListN.{get_or-map, get_or, length, length-map}
use borrow.Author.Tests.{eq-eqb, eqb-true}
use Rattle.words.specs.Words.{Bytes, pick}
use Rattle.format.specs.Outcomes.{Answer as Numbers, Written, given, over, refused}
use Rattle.format.specs.Salvage.{Block, Broken, mapped}
use Rattle.answers.specs.Salvage.{Salvaged, card_blocks, reported, salvage, saved_records}
use Rattle.answers.proofs.Salvage.{salvage-by, salvage_by}
use native.Mathlib.Nat.{lt_irrefl}
use Rattle.std.proofs.Common.{Ok, Err}
use Rattle.refusals.specs.Refusals.{said}
use Rattle.refusals.specs.declared.Refusal.{Refusal}
use Rattle.refusals.proofs.Codes.{refusal-some}
use Rattle.shapes.specs.Shapes.{answered}
use Rattle.shapes.specs.Salvage.{kept_row, salvaged}
use Rattle.shapes.proofs.Salvage.{kept_of}
use Rattle.shapes.specs.declared.Answer.{Answer}
use Rattle.shapes.specs.declared.Kept.{Kept}
use Rattle.cards.specs.Cards.{CardBlockAsk}
use Rattle.salvage.specs.Saving.{saved_of, shown_saved}
use Rattle.salvage.specs.declared.Saved.{Saved}
use Rattle.book.proofs.Filling.{filled, filled-all}

abbrev pub turned_block : Bytes → ℕ → Kept
turned_block s i = kept_of (reported (get_or (card_blocks s) i Broken))

module _ (s room : Bytes) (old : List Kept) where
  abbrev out : Bytes
  out = saved_records (card_blocks s)

  -- by what the three tests say
  abbrev saves : Bool → Bool → Bool → Written
  saves m e f =
      pick m (pick e (pick f (record { answer = given (length out) 0; room = over out room }) (record { answer = refused 4; room = room })) (record { answer = refused 12; room = room })) (record { answer = refused 13; room = room })

  abbrev leaves : Written → List (ℕ × ℕ) → Salvaged
  leaves w rows = record { answer = w.answer; room = w.room; rows = rows }

  abbrev as_many : Bool
  as_many = eqb (length old) (length (card_blocks s))

  abbrev fits : Bool
  fits = leb (length out) (length room)

  outcome-is : (m e f : Bool) → mapped s ≡ m → as_many ≡ e → fits ≡ f → salvage s room (map kept_row old) ≡ salvage_by s room (map kept_row old) m e f
  outcome-is m e f p q r = salvage-by s room (map kept_row old) m e f p (ap (λ (n : ℕ). eqb n (length (card_blocks s))) (length-map old kept_row) ∙ q) r

  saved-is : (m e f : Bool) → mapped s ≡ m → as_many ≡ e → fits ≡ f → saved_of s (length old) room ≡ saves m e f
  unfolding saved_of
  saved-is m e f p q r = rw (p, q, r) refl

  module _ {w : Written} (said-so : w ≡ saved_of s (length old) room) where
    had : (m e f : Bool) → mapped s ≡ m → as_many ≡ e → fits ≡ f → w ≡ saves m e f
    had m e f p q r = said-so ∙ saved-is m e f p q r

    refused-so : (w.answer.code ≡ 0 → ⊥) → leaves w (map kept_row old) ≡ salvage s room (map kept_row old)
    refused-so ne = go (mapped s) as_many fits refl refl refl
      where
        go : (m e f : Bool) → mapped s ≡ m → as_many ≡ e → fits ≡ f → leaves w (map kept_row old) ≡ salvage s room (map kept_row old)
        go false e f p q r = ap (λ (w : Written). leaves w (map kept_row old)) (had false e f p q r) ∙ sym (outcome-is false e f p q r)
        go true false f p q r = ap (λ (w : Written). leaves w (map kept_row old)) (had true false f p q r) ∙ sym (outcome-is true false f p q r)
        go true true false p q r = ap (λ (w : Written). leaves w (map kept_row old)) (had true true false p q r) ∙ sym (outcome-is true true false p q r)
        go true true true p q r = absurd (ne (ap (λ (w : Written). w.answer.code) (had true true true p q r)))

  pub salvage-refused : (e : Refusal) {after : Bytes} → shown_saved (Err e) after ≡ saved_of s (length old) room → {a : Answer} → answered a ≡ said e
      → salvaged a after old ≡ salvage s room (map kept_row old)
  salvage-refused e {after} is f =
      ap (λ (x : Numbers). record { answer = x; room = after; rows = map kept_row old }) f ∙ refused-so is (λ z. lt_irrefl 0 (omega (arith, refusal-some e)))

  module _ (saved : Saved) {after : Bytes} (is : shown_saved (Ok saved) after ≡ saved_of s (length old) room) where
    -- a refusal has another code
    nonzero : (w : Written) → shown_saved (Ok saved) after ≡ w → (w.answer.code ≡ 0 → ⊥) → ⊥
    nonzero w e h = h (sym (ap (λ (v : Written). v.answer.code) e))

    pub salvage-accepts : (mapped s ≡ true) × (length old ≡ length (card_blocks s)) × (fits ≡ true)
    salvage-accepts = go (mapped s) as_many fits refl refl refl
      where
        go : (m e f : Bool) → mapped s ≡ m → as_many ≡ e → fits ≡ f → (mapped s ≡ true) × (length old ≡ length (card_blocks s)) × (fits ≡ true)
        go false e f p q r = absurd (nonzero _ (had is false e f p q r) (λ h. omega arith))
        go true false f p q r = absurd (nonzero _ (had is true false f p q r) (λ h. omega arith))
        go true true false p q r = absurd (nonzero _ (had is true true false p q r) (λ h. omega arith))
        go true true true p q r = (p, eqb-true (length old) (length (card_blocks s)) q, r)

    pub salvage-asks : (i : ℕ) → i < length old → CardBlockAsk s i
    salvage-asks i h = record { map = salvage-accepts.0; within = omega (arith, salvage-accepts.1) }

    rows_are : filled (turned_block s) old (length old) ≡ map (λ (b : Block). kept_of (reported b)) (card_blocks s)
    rows_are =
        let new : List Kept = map (λ (b : Block). kept_of (reported b)) (card_blocks s) in
        let long : length new ≡ length old = length-map (card_blocks s) (λ (b : Block). kept_of (reported b)) ∙ sym salvage-accepts.1 in
        ap (filled (turned_block s) old) (sym long) ∙ filled-all (turned_block s) old (kept_of (reported Broken)) new long (λ i lt. sym (get_or-map (λ (b : Block). kept_of (reported b)) (card_blocks s) i Broken))

    pub salvage-done : salvaged (record { code = 0; first = saved.size; second = 0 }) after (filled (turned_block s) old (length old)) ≡ salvage s room (map kept_row old)
    salvage-done =
        let p = salvage-accepts.0 in
        let q : as_many ≡ true = eq-eqb (length old) (length (card_blocks s)) salvage-accepts.1 in
        let r = salvage-accepts.2 in
        ap (λ (w : Written). leaves w (map kept_row (filled (turned_block s) old (length old)))) (had is true true true p q r)
        ∙ ap (leaves (saves true true true)) (ap (map kept_row) rows_are ∙ map-map kept_row (λ (b : Block). kept_of (reported b)) (card_blocks s))
        ∙ sym (outcome-is true true true p q r)
