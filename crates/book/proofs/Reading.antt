-- How a check and a read end, by the ways that the calls go.
--     check-told        what the check of the bytes says
--     read-unsound, read_past               no book; no name at the position
--     read_short, read-put                  the room is too short; the name stands at its front
-- Assumes nothing.
use Prim.Native.Nat.{ℕ, ◌<◌, ◌≤◌}
use native.Mathlib.Omega.{arith}
use mathlib.Core.Path.{◌≡◌, ◌∙◌, ap, ap₂, refl, sym}
use mathlib.Core.Bool.{Bool, false, true}
use mathlib.Core.List.{[]}
use lib.Dec.{leb}
use lib.ListN.{get_or, length}
use Rattle.std.proofs.Common.{Some, None, Ok, Err}
use borrow.Author.Tests.{le-ltb, lt-ltb}
use Rattle.words.specs.Words.{Bytes}
use Rattle.format.specs.Kinds.{kind_of}
use Rattle.format.specs.Book.{Book, names_of, opened}
use Rattle.format.specs.Outcomes.{Answer as Numbers, check_of, over, write}
use Rattle.answers.specs.Calls.{check, read_back, read_back_of}
use Rattle.numbers.proofs.Parts.{Held}
use Rattle.trailer.specs.declared.Trailer.{Trailer}
use Rattle.accept.specs.Parts.{check_on}
use Rattle.accept.proofs.Judging.{SoundBook, checked-sound, no-book}
use Rattle.names.specs.Names.{Put}
use Rattle.refusals.specs.declared.Refusal.TheVariants.{NoBook as NoBookHere, NoSuchPosition, RoomTooShort}
use Rattle.shapes.specs.Endings.{wrote}

-- ---- the check

module _ (b : Bytes) where
  -- what `check_book` says is the check's
  pub check-told : {a : Numbers} → a ≡ check_of (opened b) → a ≡ check b
  unfolding check
  check-told e = e

-- ---- the read

pub read-unsound : (b room : Bytes) (i : ℕ) → None ≡ check_on b (opened b) → wrote (Err NoBookHere) room ≡ read_back b i room
unfolding read_back read_back_of
read-unsound b room i s = sym (ap (read_back_of i room) (no-book b None s refl))

module _ (b room : Bytes) (i : ℕ) (t : Trailer) (held : Held b) (s : Some t ≡ check_on b (opened b)) where
  shown : SoundBook b t
  shown = checked-sound b t held (Some t) s refl

  abbrev name : Bytes
  name = get_or (names_of b) i []

  asked : read_back b i room ≡ read_back_of i room (Book (kind_of b) t.block (names_of b))
  unfolding read_back
  asked = ap (read_back_of i room) shown.book

  pub read_past : t.names ≤ i → wrote (Err (NoSuchPosition 0)) room ≡ read_back b i room
  unfolding read_back_of
  read_past h = sym (asked ∙ rw (le-ltb i (length (names_of b)) (omega (arith, shown.count))) refl)

  module _ (h : i < t.names) where
    within : i < length (names_of b)
    within = omega (arith, shown.count)

    writes : read_back b i room ≡ write name room
    unfolding read_back_of
    writes = asked ∙ rw (lt-ltb i (length (names_of b)) within) refl

    module _ (after : Bytes) where
      pub read_short : Put name room None after → wrote (Err RoomTooShort) after ≡ read_back b i room
      read_short p = go (leb (length name) (length room)) refl
        where
          go : (x : Bool) → leb (length name) (length room) ≡ x → wrote (Err RoomTooShort) after ≡ read_back b i room
          go true q = let none : None ≡ Some (length name) = p.answer ∙ rw q refl in cc
          go false q =
              let kept : after ≡ room = p.bytes ∙ rw q refl in
              ap (wrote (Err RoomTooShort)) kept ∙ sym (writes ∙ rw q refl)

      pub read-put : (len : ℕ) → Put name room (Some len) after → wrote (Ok len) after ≡ read_back b i room
      read-put len p = go (leb (length name) (length room)) refl
        where
          go : (x : Bool) → leb (length name) (length room) ≡ x → wrote (Ok len) after ≡ read_back b i room
          go true q =
              let told : Some len ≡ Some (length name) = p.answer ∙ rw q refl in
              let size : len ≡ length name = cc in
              let put : after ≡ over name room = p.bytes ∙ rw q refl in
              ap₂ (λ (x : ℕ) (m : Bytes). wrote (Ok x) m) size put ∙ sym (writes ∙ rw q refl)
          go false q = let some : Some len ≡ None = p.answer ∙ rw q refl in cc
