-- The names of a list are those that every reading of it gives.
--     names-encode      the names of the records of some names
--     names-are         the names of a list that reads well
-- Assumes nothing.
use Prim.Native.Nat.{ℕ, zero, suc}
use mathlib.Core.Path.{◌≡◌, refl, sym, ap, ap₂, ◌∙◌}
use mathlib.Core.List.{List, [], ◌∷◌, ◌++◌}
use lib.ListN.{length, drop}
use lib.Seq.{drop-append_seam, take-append_seam}
use Rattle.words.specs.Words.{Bytes, Rule}
use Rattle.format.specs.Records.{Names, encode, read_list}
use Rattle.format.proofs.Records.{read_names}
use Rattle.records.specs.Lists.{listed_from, names}

-- what was skipped does not count
listed-skip : (n : ℕ) (s : Bytes) → listed_from n s ≡ listed_from 0 (drop n s)
unfolding listed_from
listed-skip zero s = refl
listed-skip (suc n) [] = refl
listed-skip (suc n) (b ∷ s) = listed-skip n s

pub names-encode : (xs : List Bytes) → names (encode xs) ≡ xs
unfolding names listed_from encode
names-encode [] = refl
names-encode (x ∷ xs) =
    ap₂ (λ (y : Bytes) (ys : List Bytes). y ∷ ys) (take-append_seam x (encode xs))
    (listed-skip (length x) (x ++ encode xs) ∙ ap (listed_from 0) (drop-append_seam x (encode xs)) ∙ names-encode xs)

pub names-are : (ρ : Rule) (most : ℕ) (s : Bytes) (xs : List Bytes) → read_list ρ most s ≡ Names xs → names s ≡ xs
names-are ρ most s xs e = ap names (sym (read_names ρ most s xs e).bytes) ∙ names-encode xs
