-- Where the entries stand, one after the other.
--     offset-add, offset-next     entry number i + j is entry number j after entry number i
--     stream_at                 a stream from entry number i on
--     run-stops, run-first-count, run-next-count    a run ends where its last entry does; inside it the stored count is what is shared
-- Assumes nothing.
use Prim.Native.Nat.{ℕ, zero, suc, ◌+◌, ◌≤◌, ◌<◌}
use native.Mathlib.Nat.{not-suc-le-zero, le_of_suc-le-suc}
use native.Mathlib.Omega.{arith}
use mathlib.Core.Path.{◌≡◌, refl, sym, ap, ◌∙◌, subst}
use mathlib.Core.List.{List, [], ◌∷◌}
use lib.ListN.{length, get_or, drop}
use Rattle.words.specs.Words.{Bytes, Rule, shared}
use Rattle.streams.specs.Runs.{Run, done, more}
use Rattle.streams.specs.Streams.{Stream, entry, entry_end, offset_at, offset_from, prev_of}
use Rattle.streams.proofs.Fronts.{Entered, entered}

pub offset-add : (b : Bytes) (o i j : ℕ) → offset_from b o (i + j) ≡ offset_from b (offset_from b o i) j
unfolding offset_from
offset-add b o zero j = let z : 0 + j ≡ j = omega arith in ap (offset_from b o) z
offset-add b o (suc i) j = let z : suc i + j ≡ suc (i + j) = omega arith in ap (offset_from b o) z ∙ offset-add b (entry_end b o) i j

offset-one : (b : Bytes) (o : ℕ) → offset_from b o 1 ≡ entry_end b o
unfolding offset_from
offset-one b o = refl

pub offset-next : (b : Bytes) (i : ℕ) → offset_at b (suc i) ≡ entry_end b (offset_at b i)
offset-next b i = let z : suc i ≡ i + 1 = omega arith in ap (offset_from b 0) z ∙ offset-add b 0 i 1 ∙ offset-one b (offset_at b i)

-- ---- a stream from the middle on

-- the name before name i, and prev before the first
abbrev pub before_from : Bytes → List Bytes → ℕ → Bytes
before_from prev xs zero = prev
before_from prev xs (suc i) = get_or xs i []

before-next : (prev x : Bytes) (xs : List Bytes) (i : ℕ) → before_from x xs i ≡ before_from prev (x ∷ xs) (suc i)
before-next prev x xs zero = refl
before-next prev x xs (suc i) = refl

stream-from : (b : Bytes) (o : ℕ) (prev : Bytes) (xs : List Bytes) (i : ℕ) → i ≤ length xs → Stream b o prev xs → Stream b (offset_from b o i) (before_from prev xs i) (drop i xs)
unfolding offset_from
stream-from b o prev xs zero h s = s
stream-from b o prev [] (suc i) h s = absurd (not-suc-le-zero h)
stream-from b o prev (x ∷ xs) (suc i) h (entry a q s) =
    subst (λ (p : Bytes). Stream b (offset_from b (entry_end b o) i) p (drop i xs)) (before-next prev x xs i)
    (stream-from b (entry_end b o) x xs i (le_of_suc-le-suc h) s)

before-is : (xs : List Bytes) (i : ℕ) → before_from [] xs i ≡ prev_of xs i
before-is xs zero = refl
before-is xs (suc i) = refl

pub stream_at : (b : Bytes) (xs : List Bytes) (i : ℕ) → Stream b 0 [] xs → i ≤ length xs → Stream b (offset_at b i) (prev_of xs i) (drop i xs)
stream_at b xs i s h = subst (λ (p : Bytes). Stream b (offset_at b i) p (drop i xs)) (before-is xs i) (stream-from b 0 [] xs i h s)

-- ---- a run

pub run-stops : (ρ : Rule) (b : Bytes) (e o : ℕ) (prev : Bytes) (xs : List Bytes) → Run ρ b e o prev xs → offset_from b o (length xs) ≡ e
unfolding offset_from
run-stops ρ b e o prev [] (done q) = q
run-stops ρ b e o prev (x ∷ xs) (more k q r) = run-stops ρ b e (entry_end b o) x xs r

pub run-first-count : (ρ : Rule) (b : Bytes) (e o : ℕ) (prev : Bytes) (xs : List Bytes) → e ≤ length b → Run ρ b e o prev xs → 0 < length xs
    → get_or b o 0 ≡ shared prev (get_or xs 0 [])
run-first-count ρ b e o prev [] w r h = absurd (not-suc-le-zero h)
run-first-count ρ b e o prev (x ∷ xs) w (more k q r) h = sym (subst (Entered ρ b o prev) q (entered ρ b e o prev w k)).count

pub run-next-count : (ρ : Rule) (b : Bytes) (e o : ℕ) (prev : Bytes) (xs : List Bytes) (j : ℕ) → e ≤ length b → Run ρ b e o prev xs → suc j < length xs
    → get_or b (offset_from b o (suc j)) 0 ≡ shared (get_or xs j []) (get_or xs (suc j) [])
unfolding offset_from
run-next-count ρ b e o prev [] j w r h = absurd (not-suc-le-zero h)
run-next-count ρ b e o prev (x ∷ xs) zero w (more k q r) h = run-first-count ρ b e (entry_end b o) x xs w r (le_of_suc-le-suc h)
run-next-count ρ b e o prev (x ∷ xs) (suc j) w (more k q r) h = run-next-count ρ b e (entry_end b o) x xs j w r (le_of_suc-le-suc h)
