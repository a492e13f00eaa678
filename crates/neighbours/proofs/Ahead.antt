-- What a name shares with the name of the next entry: what that entry counts, and what its rest goes on with.
--     lists-ahead       of any lists of numbers
--     bytes-ahead, symbols-ahead     in bytes; in symbols, by any rule
--     ahead-is          the same, as the code cuts the name at hand and the entry
-- Assumes nothing.
use Prim.Native.Nat.{ℕ, ◌+◌, ◌-◌, ◌≤◌}
use native.Mathlib.Omega.{arith}
use mathlib.Core.Path.{◌≡◌, sym, ap, ap₂, ◌∙◌}
use mathlib.Core.List.{List, ◌++◌, map-append}
use lib.ListN.{drop, get_or, length, length-drop, length-map, take}
use lib.Seq.{length-take-le, take-length}
use Rattle.words.specs.Words.{Bytes, Rule, shared, word}
use Rattle.words.proofs.Words.{shared-append, shared-comm, shared-front, shared-le, word-front}
use Rattle.streams.specs.Streams.{EntryAt, entry_end, name_at, rest_at}
use Rattle.neighbours.proofs.Behind.{word-behind}

pub lists-ahead : (y r : List ℕ) (c : ℕ) → c ≤ length y → shared y (take c y ++ r) ≡ c + shared (drop c y) r
lists-ahead y r c h =
    let front : length (take c y) ≡ c = length-take-le c y h in
    let long : c ≤ shared y (take c y ++ r) = shared-front y r c h in
    shared-comm y (take c y ++ r) ∙ shared-append (take c y) r y (omega (arith, long, front, shared-comm y (take c y ++ r)))
    ∙ ap₂ (λ (m n : ℕ). m + n) front (ap (λ (m : ℕ). shared r (drop m y)) front ∙ shared-comm r (drop c y))

module _ (b name : Bytes) (o : ℕ) (k : EntryAt b o (length name)) where
  pub bytes-ahead : shared name (name_at b o name) ≡ get_or b o 0 + shared (drop (get_or b o 0) name) (rest_at b o)
  bytes-ahead = lists-ahead name (rest_at b o) (get_or b o 0) k.shares

  pub symbols-ahead : (ρ : Rule) → shared (word ρ name) (word ρ (name_at b o name)) ≡ get_or b o 0 + shared (word ρ (drop (get_or b o 0) name)) (word ρ (rest_at b o))
  symbols-ahead ρ =
      let c = get_or b o 0 in
      let parts : word ρ (name_at b o name) ≡ take c (word ρ name) ++ word ρ (rest_at b o) =
      map-append ρ (take c name) (rest_at b o) ∙ ap (λ (w : List ℕ). w ++ word ρ (rest_at b o)) (word-front ρ c name) in
      ap (shared (word ρ name)) parts ∙ lists-ahead (word ρ name) (word ρ (rest_at b o)) c (omega (arith, k.shares, length-map name ρ))
      ∙ ap (λ (w : List ℕ). c + shared w (word ρ (rest_at b o))) (sym (word-behind ρ c name))

  module _ (ρ : Rule) (c end r : ℕ) (ce : c ≡ get_or b o 0) (ee : end ≡ entry_end b o)
      (re : r ≡ shared (word ρ (take (length name - c) (drop c name))) (word ρ (take (end - (o + 2)) (drop (o + 2) b)))) where
    left : take (length name - c) (drop c name) ≡ drop (get_or b o 0) name
    left = ap (λ (i : ℕ). take i (drop c name)) (sym (length-drop c name)) ∙ take-length (drop c name) ∙ ap (λ (i : ℕ). drop i name) ce

    rest : take (end - (o + 2)) (drop (o + 2) b) ≡ rest_at b o
    rest = let z : end - (o + 2) ≡ get_or b (o + 1) 0 = omega arith in ap (λ (i : ℕ). take i (drop (o + 2) b)) z

    pub ahead-is : c + r ≡ shared (word ρ name) (word ρ (name_at b o name))
    ahead-is = ap₂ (λ (i j : ℕ). i + j) ce (re ∙ ap₂ (λ (x y : Bytes). shared (word ρ x) (word ρ y)) left rest) ∙ sym (symbols-ahead ρ)

    pub ahead-most : c + r ≤ length name
    ahead-most = omega (arith, ahead-is, shared-le (word ρ name) (word ρ (name_at b o name)), length-map name ρ)
