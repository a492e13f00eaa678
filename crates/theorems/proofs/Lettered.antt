-- Names whose bytes all have a symbol above 0: what any lawful rule gives names of bytes, and each kind's rule gives all.
--     lawful-lettered, lawful-names     by a lawful rule, of bytes
--     kind-lettered, kind-names         by a kind's rule
--     lettered-positive, names-symbols  no symbol of them is the end symbol
-- Assumes nothing.
use Prim.Native.Nat.{ℕ, suc, ◌<◌}
use native.Mathlib.Omega.{arith}
use mathlib.Core.List.{List, [], ◌∷◌}
use lib.ListN.{get_or, length}
use Rattle.words.specs.Rising.{Positive}
use Rattle.words.specs.Words.{Bytes, InBytes, Lawful, Rule, word}
use Rattle.words.proofs.Lists.{all_from}
use Rattle.format.specs.Kinds.{BookKind, rule_of}
use Rattle.format.proofs.BookKinds.{kind-sure}
use Rattle.format.proofs.Records.{Symbols}
use Rattle.theorems.specs.Layouts.{AllLettered, Lettered}

pub lawful-lettered : (ρ : Rule) → Lawful ρ → (x : Bytes) → InBytes x → Lettered ρ x
lawful-lettered ρ ok x h d l = ok.low (get_or x d 0) (h d)

pub lawful-names : (ρ : Rule) → Lawful ρ → (xs : List Bytes) → ((i : ℕ) → i < length xs → InBytes (get_or xs i [])) → AllLettered ρ xs
lawful-names ρ ok xs h i l = lawful-lettered ρ ok (get_or xs i []) (h i l)

pub kind-lettered : (κ : BookKind) (x : Bytes) → Lettered (rule_of κ) x
kind-lettered κ x d l = (kind-sure κ).low (get_or x d 0)

pub kind-names : (κ : BookKind) (xs : List Bytes) → AllLettered (rule_of κ) xs
kind-names κ xs i l = kind-lettered κ (get_or xs i [])

pub lettered-positive : (ρ : Rule) (x : Bytes) → Lettered ρ x → Positive (word ρ x)
lettered-positive ρ [] h = tt
lettered-positive ρ (b ∷ x) h = (h 0 (omega arith), lettered-positive ρ x (λ d l. h (suc d) (omega arith)))

pub names-symbols : (ρ : Rule) (xs : List Bytes) → AllLettered ρ xs → Symbols ρ xs
names-symbols ρ xs h = all_from [] xs (λ i l. lettered-positive ρ (get_or xs i []) (h i l))
