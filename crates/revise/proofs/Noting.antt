-- What two names share, in bytes and in symbols.
--     most, most-behind     no more than either of them has
--     note-set              a name is noted in one row
-- Assumes nothing.
use Prim.Native.Nat.{ℕ, ◌≤◌}
use native.Mathlib.Omega.{arith}
use mathlib.Core.Path.{◌≡◌, ◌∙◌, ap}
use mathlib.Core.List.{List}
use lib.ListN.{length, length-map, set}
use Rattle.words.specs.Words.{Bytes, Rule, plain, shared, word}
use Rattle.words.proofs.Words.{plain-injective, shared-comm, shared-le, shared-word}
use Rattle.records.specs.Notes.{counts_of, lens_of, shares_of}
use Rattle.records.specs.declared.Note.{Note}
use Rattle.records.proofs.Notes.{counts-set, lens-set, shares-set}
use Rattle.revise.specs.Noting.{NoteSet}

-- no more than the name before has
pub most : (ρ : Rule) (prev name : Bytes) → {r : ℕ} → r ≡ shared (word ρ prev) (word ρ name) → r ≤ length prev
most ρ prev name e = omega (arith, e, shared-le (word ρ prev) (word ρ name), length-map prev ρ)

-- .. nor than the second
pub most-behind : (ρ : Rule) (prev name : Bytes) → {r : ℕ} → r ≡ shared (word ρ prev) (word ρ name) → r ≤ length name
most-behind ρ prev name e =
    omega (arith, e, shared-comm (word ρ prev) (word ρ name), shared-le (word ρ name) (word ρ prev), length-map name ρ)

-- bytes are symbols of the plain rule
pub note-set : {ρ : Rule} {prev name : Bytes} {j : ℕ} (rows : List Note) (r : Note) → r.len ≡ length name
    → r.count ≡ shared (word plain prev) (word plain name) → r.share ≡ shared (word ρ prev) (word ρ name) → NoteSet ρ prev name j rows (set rows j r)
note-set {ρ} {prev} {name} {j} rows r le ce se = record {
  lens-are = lens-set rows j r ∙ ap (set (lens_of rows) j) le;
  counts-are = counts-set rows j r ∙ ap (set (counts_of rows) j) (ce ∙ shared-word plain plain-injective prev name);
  shares-are = shares-set rows j r ∙ ap (set (shares_of rows) j) se;
}
