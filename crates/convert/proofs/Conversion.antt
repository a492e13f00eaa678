-- The conversion, way by way.
--     turn-unsound, turn-other, turn-short     bytes that are no book; a book of another kind; too little room
--     turn-ask, turn-written     where nothing refuses: what the writing asks; what it leaves
-- Assumes nothing.
use Prim.Native.Nat.{ℕ, ◌≤◌, ◌<◌}
use native.Mathlib.Omega.{arith}
use mathlib.Core.Path.{◌≡◌, ◌∙◌, ap, ap₂, subst, sym}
use lib.ListN.{length}
use Rattle.std.proofs.Common.{Some, None, Ok, Err, refl}
use Rattle.words.specs.Words.{Bytes}
use Rattle.format.specs.Kinds.{BookKind, kind_of}
use Rattle.format.specs.Book.{book, names_of, opened}
use Rattle.format.specs.Outcomes.{over}
use Rattle.answers.specs.Converting.{converted}
use Rattle.answers.proofs.Converting.{convert-other, convert-short, convert-unsound, convert-written}
use Rattle.numbers.proofs.Parts.{Held, held_bytes}
use Rattle.kinds.specs.Known.{kind_by, kind_for}
use Rattle.kinds.specs.declared.Kind.{Kind}
use Rattle.kinds.proofs.Telling.{kind-kept, kind-told}
use Rattle.trailer.specs.declared.Trailer.{Trailer}
use Rattle.accept.specs.Parts.{check_on}
use Rattle.accept.proofs.Judging.{SoundBook, checked-sound, no-book}
use Rattle.refusals.specs.declared.Refusal.TheVariants.{NoBook, RoomTooShort}
use Rattle.shapes.specs.Endings.{wrote}
use Rattle.convert.specs.Turns.{OtherAsk, Turns}
use Rattle.convert.proofs.Other.{other-size}

module _ (b room : Bytes) (from to : Kind) where
  pub turn-unsound : None ≡ check_on b (opened b) → wrote (Err NoBook) room ≡ converted (kind_by from) (kind_by to) b room
  turn-unsound s = convert-unsound (kind_by from) (kind_by to) b room (no-book b None s refl)

  module _ (t : Trailer) (held : Held b) (s : Some t ≡ check_on b (opened b)) where
    shown : SoundBook b t
    shown = checked-sound b t held (Some t) s refl

    pub turn-other : (t.kind ≡ from → ⊥) → wrote (Err NoBook) room ≡ converted (kind_by from) (kind_by to) b room
    turn-other other = convert-other (kind_by from) (kind_by to) b room (kind_of b) t.block (names_of b) shown.book (λ e. other (ap (λ (x : Trailer). x.kind) shown.told ∙ ap kind_for e ∙ kind-kept from))

    -- a book of the kind that is turned
    module _ (one : t.kind ≡ from) where
      own-kind : kind_of b ≡ kind_by from
      own-kind = sym (kind-told (kind_of b)) ∙ ap (λ (x : Trailer). kind_by x.kind) (sym shown.told) ∙ ap kind_by one

      module _ (turns : Turns (kind_by from) (kind_by to)) where
        pub turn-ask : OtherAsk b t (kind_by to)
        turn-ask = record { bytes = held_bytes b held; told = shown.told; book = shown.book; turns = subst (λ (κ : BookKind). Turns κ (kind_by to)) (sym own-kind) turns }

        size : length (book (kind_by to) t.block (names_of b)) ≡ length b
        size = other-size turn-ask

        pub turn-short : length room < length b → wrote (Err RoomTooShort) room ≡ converted (kind_by from) (kind_by to) b room
        turn-short h = convert-short (kind_by from) (kind_by to) b room (kind_of b) t.block (names_of b) shown.book own-kind (omega (arith, size))

        pub turn-written : length b ≤ length room → (after : Bytes) → after ≡ over (book (kind_by to) t.block (names_of b)) room
            → wrote (Ok (length b)) after ≡ converted (kind_by from) (kind_by to) b room
        turn-written h after e =
            ap₂ (λ (n : ℕ) (m : Bytes). wrote (Ok n) m) (sym size) e
            ∙ convert-written (kind_by from) (kind_by to) b room (kind_of b) t.block (names_of b) shown.book own-kind (omega (arith, size))
