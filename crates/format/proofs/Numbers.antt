-- Numbers of two bytes, low byte first, and lists of bytes.
--     two_bytes                  a number below 65,536 is told by its two bytes
--     low_byte, high_byte        the two bytes that tell a number
--     numbers-length, numbers-append, numbers-at
--     number_past                what stands after other bytes
--     numbers-are, numbers-told  numbers that stand in a row are the bytes there; and the other way
--     all-bytes, bytes-all       InBytes, by every element
--     numbers-bytes, word-high
-- Assumes nothing.
use Prim.Native.Nat.{ℕ, zero, suc, ◌+◌, ◌*◌, ◌/◌, ◌%◌, ◌≤◌, ◌<◌, zero-le}
use native.Mathlib.Nat.{le_of_suc-le-suc, not-suc-le-zero}
use native.Mathlib.Omega.{arith}
use mathlib.Core.Path.{◌≡◌, refl, sym, ap, ap₂, ◌∙◌, subst}
use mathlib.Core.List.{List, [], ◌∷◌, ◌++◌}
use lib.ListN.{length, get_or, take, drop, take-append-drop}
use lib.Seq.{drop-append-le, get_or-append-add, length-take-le, slice, slice-cons, slice_empty}
use Rattle.words.specs.Rising.{All, cons, nil}
use Rattle.words.specs.Words.{Bytes, InBytes, Lawful, Rule, at, word}
use Rattle.words.proofs.Lists.{all_from, all_left}
use Rattle.format.specs.Book.{number, numbers}

pub two_bytes : (n : ℕ) → n < 65536 → n % 256 + 256 * (n / 256 % 256) ≡ n
two_bytes n h = omega arith

pub low_byte : (a c n : ℕ) → a < 256 → a + 256 * c ≡ n → a ≡ n % 256
low_byte a c n h e = omega arith

pub high_byte : (a c n : ℕ) → a < 256 → c < 256 → a + 256 * c ≡ n → c ≡ n / 256 % 256
high_byte a c n h g e = omega arith

pub numbers-length : (ns : List ℕ) → length (numbers ns) ≡ 2 * length ns
unfolding numbers
numbers-length [] = refl
numbers-length (n ∷ ns) = omega (arith, numbers-length ns)

pub numbers-append : (ns ms : List ℕ) → numbers (ns ++ ms) ≡ numbers ns ++ numbers ms
unfolding numbers
numbers-append [] ms = refl
numbers-append (n ∷ ns) ms = ap (λ (s : Bytes). n % 256 ∷ n / 256 % 256 ∷ s) (numbers-append ns ms)

pub number_past : (s t : Bytes) (o : ℕ) → number (s ++ t) (length s + o) ≡ number t o
unfolding number
number_past s t o =
    let e : length s + o + 1 ≡ length s + (o + 1) = omega arith in
    ap₂ (λ (a b : ℕ). a + 256 * b) (get_or-append-add s t o 0) (ap (λ (n : ℕ). get_or (s ++ t) n 0) e ∙ get_or-append-add s t (o + 1) 0)

-- number j of a row of numbers, whatever stands behind them
pub numbers-at : (ns : List ℕ) (t : Bytes) (j : ℕ) → j < length ns → get_or ns j 0 < 65536 → number (numbers ns ++ t) (2 * j) ≡ get_or ns j 0
unfolding numbers number
numbers-at [] t j h l = absurd (not-suc-le-zero h)
numbers-at (n ∷ ns) t zero h l = two_bytes n l
numbers-at (n ∷ ns) t (suc j) h l =
    let e : 2 * suc j ≡ 2 + 2 * j = omega arith in
    ap (number (numbers (n ∷ ns) ++ t)) e
    ∙ number_past (n % 256 ∷ n / 256 % 256 ∷ []) (numbers ns ++ t) (2 * j)
    ∙ numbers-at ns t j (le_of_suc-le-suc h) l

-- ---- numbers and the bytes where they stand, one law each way

pub numbers-are : (b : Bytes) → InBytes b → (ns : List ℕ) (o e : ℕ) → e ≡ o + 2 * length ns → e ≤ length b → ((i : ℕ) → i < length ns → number b (o + 2 * i) ≡ get_or ns i 0)
    → slice o e b ≡ numbers ns
unfolding numbers number
numbers-are b bytes [] o e z l h =
    let q : o ≡ e = omega arith in
    subst (λ (x : ℕ). slice x e b ≡ []) (sym q) (slice_empty e b)
numbers-are b bytes (n ∷ ns) o e z l h =
    let here : number b o ≡ n = ap (number b) (omega arith) ∙ h 0 (omega arith) in
    let next : (i : ℕ) → i < length ns → number b (o + 2 + 2 * i) ≡ get_or ns i 0 = λ i k.
    let s : o + 2 + 2 * i ≡ o + 2 * suc i = omega arith in
    ap (number b) s ∙ h (suc i) (omega arith) in
    let second : suc o ≡ o + 1 = omega arith in
    let third : suc (suc o) ≡ o + 2 = omega arith in
    slice-cons o e b 0 (omega arith) l
    ∙ ap₂ (λ (x : ℕ) (s : Bytes). x ∷ s) (low_byte (get_or b o 0) (get_or b (o + 1) 0) n (bytes o) here)
    (slice-cons (suc o) e b 0 (omega arith) l
    ∙ ap₂ (λ (x : ℕ) (s : Bytes). x ∷ s)
    (ap (λ (x : ℕ). get_or b x 0) second ∙ high_byte (get_or b o 0) (get_or b (o + 1) 0) n (bytes o) (bytes (o + 1)) here)
    (ap (λ (x : ℕ). slice x e b) third ∙ numbers-are b bytes ns (o + 2) e (omega arith) l next))

pub numbers-told : (b : Bytes) (ns : List ℕ) (o e : ℕ) → o ≤ e → e ≤ length b → slice o e b ≡ numbers ns → (i : ℕ) → i < length ns → get_or ns i 0 < 65536
    → number b (o + 2 * i) ≡ get_or ns i 0
numbers-told b ns o e h l q i k small =
    let front : length (take o b) ≡ o = length-take-le o b (omega arith) in
    let rest : drop o b ≡ numbers ns ++ drop e b =
    ap (drop o) (sym (take-append-drop e b)) ∙ drop-append-le o (take e b) (drop e b) (omega (arith, length-take-le e b l)) ∙ ap (λ (s : Bytes). s ++ drop e b) q in
    let whole : b ≡ take o b ++ (numbers ns ++ drop e b) = sym (take-append-drop o b) ∙ ap (λ (s : Bytes). take o b ++ s) rest in
    let there : o + 2 * i ≡ length (take o b) + 2 * i = omega arith in
    ap₂ number whole there ∙ number_past (take o b) (numbers ns ++ drop e b) (2 * i) ∙ numbers-at ns (drop e b) i k small

-- ---- bytes

pub all-bytes : (s : Bytes) → All (λ b. b < 256) s → InBytes s
all-bytes [] a i = omega arith
all-bytes (b ∷ s) (cons h a) zero = h
all-bytes (b ∷ s) (cons h a) (suc i) = all-bytes s a i

pub bytes-all : (s : Bytes) → InBytes s → All (λ b. b < 256) s
bytes-all s h = all_from 0 s (λ i l. h i)

pub numbers-bytes : (ns : List ℕ) → All (λ b. b < 256) (numbers ns)
unfolding numbers
numbers-bytes [] = nil
numbers-bytes (n ∷ ns) = cons {a = n % 256} (omega arith) (cons {a = n / 256 % 256} (omega arith) (numbers-bytes ns))

pub take-bytes : (n : ℕ) (s : Bytes) → All (λ b. b < 256) s → All (λ b. b < 256) (take n s)
take-bytes n s a = all_left (take n s) (drop n s) (subst (All (λ b. b < 256)) (sym (take-append-drop n s)) a)

-- a symbol is at most 256
pub word-high : (ρ : Rule) → Lawful ρ → (x : Bytes) → All (λ b. b < 256) x → (d : ℕ) → at (word ρ x) d ≤ 256
word-high ρ ok [] a d = zero-le
word-high ρ ok (b ∷ x) (cons h a) zero = ok.high b h
word-high ρ ok (b ∷ x) (cons h a) (suc d) = word-high ρ ok x a d
