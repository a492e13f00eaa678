-- Laws of the conversion, way by way.
--     one-kind, marks-same, marks-differ     a mark is one kind's
--     convert-unsound, convert-other     bytes that are no book; a book of another kind
--     convert-short, convert-written     too little room; the book of the other kind
--     convert-kept      a refused conversion changes nothing; another one nothing behind the bytes that it counts
-- Assumes nothing.
use Prim.Native.Nat.{ℕ, ◌≤◌, ◌<◌}
use mathlib.Core.Path.{◌≡◌, refl, sym, ap, ◌∙◌}
use mathlib.Core.Logic.{◌⊎◌, inl, inr}
use mathlib.Core.Bool.{Bool, true, false}
use mathlib.Core.List.{List}
use lib.ListN.{get_or, length}
use borrow.Author.Tests.{le-leb, lt-leb}
use Rattle.words.specs.Words.{Bytes, pick, same}
use Rattle.words.proofs.Words.{false≠true, same_refl, same_true}
use Rattle.format.specs.Kinds.{BookKind, all_kinds, mark_of, marked_as}
use Rattle.format.specs.Book.{Book, NoBook, Opened, book, opened}
use Rattle.format.specs.Outcomes.{given, over, refused, write}
use Rattle.format.proofs.BookKinds.{third-tells}
use Rattle.format.proofs.Outcomes.{Kept, picked, same_kept, write_kept}
use Rattle.answers.specs.Converting.{converted, converted_of}

pub marks-same : (κ μ : BookKind) → κ ≡ μ → same (mark_of κ) (mark_of μ) ≡ true
marks-same κ μ e = ap (λ (ν : BookKind). same (mark_of κ) (mark_of ν)) (sym e) ∙ same_refl (mark_of κ)

-- a mark is one kind's
pub one-kind : (κ μ : BookKind) → (κ ≡ μ) ⊎ ((κ ≡ μ → ⊥) × (same (mark_of κ) (mark_of μ) ≡ false))
one-kind κ μ = go (same (mark_of κ) (mark_of μ)) refl
  where
    go : (t : Bool) → same (mark_of κ) (mark_of μ) ≡ t → (κ ≡ μ) ⊎ ((κ ≡ μ → ⊥) × (same (mark_of κ) (mark_of μ) ≡ false))
    go true e = inl (sym (third-tells κ) ∙ ap (λ (m : Bytes). marked_as (get_or m 2 0) all_kinds) (same_true (mark_of κ) (mark_of μ) e) ∙ third-tells μ)
    go false e = inr (λ q. false≠true (sym e ∙ marks-same κ μ q), e)

pub marks-differ : (κ μ : BookKind) → (κ ≡ μ → ⊥) → same (mark_of κ) (mark_of μ) ≡ false
marks-differ κ μ n = elim (one-kind κ μ) [ inl e ↦ absurd (n e) | inr d ↦ d.1 ]

module _ (from to : BookKind) (s room : Bytes) where
  pub convert-unsound : opened s ≡ NoBook → record { answer = refused 2; room = room } ≡ converted from to s room
  unfolding converted converted_of
  convert-unsound e = sym (ap (converted_of from to room) e)

  module _ (κ : BookKind) (k : ℕ) (xs : List Bytes) (opens : opened s ≡ Book κ k xs) where
    pub convert-other : (κ ≡ from → ⊥) → record { answer = refused 2; room = room } ≡ converted from to s room
    unfolding converted converted_of
    convert-other n = sym (ap (converted_of from to room) opens ∙ ap (λ (t : Bool). pick t (write (book to k xs) room) (record { answer = refused 2; room = room })) (marks-differ κ from n))

    module _ (own : κ ≡ from) where
      taken : write (book to k xs) room ≡ converted from to s room
      unfolding converted converted_of
      taken = sym (ap (converted_of from to room) opens ∙ ap (λ (t : Bool). pick t (write (book to k xs) room) (record { answer = refused 2; room = room })) (marks-same κ from own))

      pub convert-short : length room < length (book to k xs) → record { answer = refused 4; room = room } ≡ converted from to s room
      convert-short h = sym (ap (λ (t : Bool). pick t (record { answer = given (length (book to k xs)) 0; room = over (book to k xs) room }) (record { answer = refused 4; room = room })) (lt-leb (length (book to k xs)) (length room) h)) ∙ taken

      pub convert-written : length (book to k xs) ≤ length room → record { answer = given (length (book to k xs)) 0; room = over (book to k xs) room } ≡ converted from to s room
      convert-written h = sym (ap (λ (t : Bool). pick t (record { answer = given (length (book to k xs)) 0; room = over (book to k xs) room }) (record { answer = refused 4; room = room })) (le-leb (length (book to k xs)) (length room) h)) ∙ taken

-- ---- what is left as it was

module _ (from to : BookKind) (room : Bytes) where
  of-kept : (o : Opened) → Kept room (converted_of from to room o)
  unfolding converted_of
  of-kept NoBook = same_kept room (refused 2)
  of-kept (Book κ k xs) = picked (Kept room) (same (mark_of κ) (mark_of from)) (write_kept room (book to k xs)) (same_kept room (refused 2))

  pub convert-kept : (s : Bytes) → Kept room (converted from to s room)
  unfolding converted
  convert-kept s = of-kept (opened s)
