-- How the building of a judged list ends.
--     ends-nine, ends-four, ends-done     too long for a book; too long for the room; written
-- Assumes nothing.
use Prim.Native.Nat.{ℕ, ◌≤◌, ◌<◌}
use native.Mathlib.Omega.{arith}
use mathlib.Core.Path.{◌≡◌, refl, sym, ap, ap₂, ◌∙◌}
use mathlib.Core.Bool.{Bool, true, false}
use mathlib.Core.List.{List}
use Rattle.std.proofs.Common.{Ok, Err}
use lib.Dec.{leb}
use lib.ListN.{length}
use borrow.Author.Tests.{le-leb, lt-leb}
use Rattle.words.specs.Words.{Bytes, pick}
use Rattle.format.specs.Kinds.{BookKind, rule_of}
use Rattle.format.specs.Book.{book, longest_book}
use Rattle.format.specs.Records.{most_names, read_list}
use Rattle.format.specs.Outcomes.{given, over, refused}
use Rattle.answers.specs.Calls.{built_from}
use Rattle.records.specs.Lists.{names}
use Rattle.assembly.specs.Whole.{BuildAsk, Sized}
use Rattle.assembly.proofs.WholeBook.{book-size}
use Rattle.refusals.specs.declared.Refusal.TheVariants.{BookTooLong, RoomTooShort}
use Rattle.shapes.specs.Endings.{wrote}
use Rattle.build.specs.Ends.{built_of}

module _ {κ : BookKind} {s : Bytes} {n : ℕ} {lens counts shares : List ℕ} {k : ℕ} (a : BuildAsk κ s n lens counts shares k) {blocks nodes count total : ℕ} (z : Sized κ s k blocks nodes count total) (room : Bytes) where
  chosen : (f d : Bool) → leb (length (book κ k (names s))) longest_book ≡ f → leb (length (book κ k (names s))) (length room) ≡ d
      → built_of κ k room (read_list (rule_of κ) most_names s)
      ≡ pick f (pick d (record { answer = given (length (book κ k (names s))) 0; room = over (book κ k (names s)) room }) (record { answer = refused 4; room = room }))
      (record { answer = refused 9; room = room })
  unfolding built_from
  chosen f d p q = ap (built_of κ k room) a.read ∙ rw (p, q) refl

  pub ends-nine : 65535 < total → wrote (Err BookTooLong) room ≡ built_of κ k room (read_list (rule_of κ) most_names s)
  ends-nine h = sym (chosen false _ (lt-leb (length (book κ k (names s))) longest_book (omega (arith, book-size a z))) refl)

  pub ends-four : total ≤ 65535 → length room < total → wrote (Err RoomTooShort) room ≡ built_of κ k room (read_list (rule_of κ) most_names s)
  ends-four h l =
      sym (chosen true false (le-leb (length (book κ k (names s))) longest_book (omega (arith, book-size a z))) (lt-leb (length (book κ k (names s))) (length room) (omega (arith, book-size a z))))

  pub ends-done : (new : Bytes) → total ≤ 65535 → total ≤ length room → new ≡ over (book κ k (names s)) room
      → wrote (Ok total) new ≡ built_of κ k room (read_list (rule_of κ) most_names s)
  ends-done new h l w =
      ap₂ (λ (i : ℕ) (r : Bytes). record { answer = given i 0; room = r }) (sym (book-size a z)) w
      ∙ sym (chosen true true (le-leb (length (book κ k (names s))) longest_book (omega (arith, book-size a z))) (le-leb (length (book κ k (names s))) (length room) (omega (arith, book-size a z))))
