-- Laws of notes: a row of bits that are set in rising order.
--     bit-fits, bit_below, bit-here, bit-others     one bit more, above all that are set in a byte: it is still a byte; none is set above
--                     the bit; it is set; those below it are as they were
--     noting-start, noting-zeros     nothing is noted in a row of zeros
--     noting-skip     number i stays no
--     noting-fits, noting-noted     number i becomes yes
-- Assumes nothing.
use Prim.Native.Nat.{ℕ, zero, suc, ◌+◌, ◌-◌, ◌*◌, ◌/◌, ◌%◌, ◌^◌, ◌≤◌, ◌<◌}
use native.Mathlib.Nat.{div-eq_of_lt, mod-lt, pow-suc}
use native.Mathlib.Omega.{arith}
use mathlib.Core.Path.{◌≡◌, refl, sym, ap, ◌∙◌}
use mathlib.Core.Bool.{Bool, true, false}
use mathlib.Core.List.{List}
use lib.Arith.{digits_lt}
use lib.Dec.{ltb}
use lib.ListN.{get_or, length, replicate, set}
use lib.Pow.{field, high, low, mod-mod-pow, mod-pow-add, pow-add, pow_mono, pow_pos, shl_exact, shl-shr}
use lib.Seq.{get_or-set_other, get_or-set_same}
use borrow.Author.Tests.{ltb-true, ltb-false}
use Rattle.notes.specs.Notes.{NoteMade, Noting, noted}

-- ---- one byte: its k low bits are used, and the bit above them is 0

module _ (x k : ℕ) (h : x < 2 ^ k) where
  -- whichever bits above those k are added
  bit-fits : (a : ℕ) → k ≤ 8 → x + a * 2 ^ k % 2 ^ 8 < 2 ^ 8
  bit-fits a l =
      let sum : 8 - k + k ≡ 8 = omega arith in
      let none : a * 2 ^ k % 2 ^ k ≡ 0 = ap (λ (n : ℕ). n % 2 ^ k) (omega arith) ∙ low a k (pow_pos k) in
      let digits : a * 2 ^ k % 2 ^ 8 ≡ (a % 2 ^ (8 - k)) * 2 ^ k + 0 =
      ap (λ (n : ℕ). a * 2 ^ k % 2 ^ n) (sym sum) ∙ mod-pow-add (a * 2 ^ k) (8 - k) k
      ∙ ap (λ (n : ℕ). (n % 2 ^ (8 - k)) * 2 ^ k + a * 2 ^ k % 2 ^ k) (shl-shr a k) ∙ ap (λ (n : ℕ). (a % 2 ^ (8 - k)) * 2 ^ k + n) none in
      let size : 2 ^ (8 - k) * 2 ^ k ≡ 2 ^ 8 = sym (pow-add 2 (8 - k) k) ∙ ap (λ (n : ℕ). 2 ^ n) sum in
      omega (arith, digits_lt (mod-lt a (pow_pos (8 - k))) h)

  bit_below : x + 2 ^ k < 2 ^ suc k
  bit_below = omega (arith, pow-suc 2 k)

  bit-here : (x + 2 ^ k) / 2 ^ k ≡ 1
  bit-here = let swapped : x + 2 ^ k ≡ 1 * 2 ^ k + x = omega arith in ap (λ (n : ℕ). n / 2 ^ k) swapped ∙ high 1 k h

  bit-others : (m : ℕ) → m < k → (x + 2 ^ k) / 2 ^ m % 2 ≡ x / 2 ^ m % 2
  bit-others m l =
      let swapped : x + 2 ^ k ≡ 1 * 2 ^ k + x = omega arith in
      let lower : (x + 2 ^ k) % 2 ^ k ≡ x = ap (λ (n : ℕ). n % 2 ^ k) swapped ∙ low 1 k h in
      let sum : k - (1 + m) + (1 + m) ≡ k = omega arith in
      let upto : (x + 2 ^ k) % 2 ^ (1 + m) ≡ x % 2 ^ (1 + m) =
      sym (mod-mod-pow (x + 2 ^ k) (k - (1 + m)) (1 + m)) ∙ ap (λ (n : ℕ). (x + 2 ^ k) % 2 ^ n % 2 ^ (1 + m)) sum ∙ ap (λ (n : ℕ). n % 2 ^ (1 + m)) lower in
      sym (field (x + 2 ^ k) 1 m) ∙ ap (λ (n : ℕ). n / 2 ^ m) upto ∙ field x 1 m

-- ---- a row

pub noting-start : (notes : List ℕ) → ((g : ℕ) → get_or notes g 0 ≡ 0) → Noting notes 0
noting-start notes z = record { low = omega (arith, z 0); behind = λ g l. z g }

same_at : (n g a : ℕ) → get_or (replicate n a) g a ≡ a
same_at zero g a = refl
same_at (suc n) zero a = refl
same_at (suc n) (suc g) a = same_at n g a

-- as `[0; 250]` is denoted
pub noting-zeros : Noting (replicate 250 0) 0
noting-zeros = noting-start (replicate 250 0) (λ g. same_at 250 g 0)

-- The byte of number i has no bit above that number's own. So nothing is noted from the next number on, be it in this byte or in the next.
onward : (new : List ℕ) (i : ℕ) → get_or new (i / 8) 0 < 2 ^ suc (i % 8) → ((g : ℕ) → i / 8 < g → get_or new g 0 ≡ 0) → Noting new (i + 1)
onward new i l z = record { low = go (ltb (i % 8) 7) refl; behind = λ g m. z g (omega arith) }
  where
    go : (t : Bool) → ltb (i % 8) 7 ≡ t → get_or new ((i + 1) / 8) 0 < 2 ^ ((i + 1) % 8)
    go true e =
        let below : i % 8 < 7 = ltb-true (i % 8) 7 e in
        let byte : (i + 1) / 8 ≡ i / 8 = omega arith in
        let bit : (i + 1) % 8 ≡ suc (i % 8) = omega arith in
        rw (byte, bit) l
    go false e =
        let last : 7 ≤ i % 8 = ltb-false (i % 8) 7 e in
        rw (z ((i + 1) / 8) (omega arith)) (pow_pos ((i + 1) % 8))

module _ {notes : List ℕ} {i : ℕ} (n : Noting notes i) where
  pub noting-skip : Noting notes (i + 1) × (noted notes i ≡ false)
  unfolding noted
  noting-skip =
      let wider : 2 ^ (i % 8) ≤ 2 ^ suc (i % 8) = pow_mono (omega arith) in
      (onward notes i (omega (arith, n.low)) n.behind, rw (div-eq_of_lt n.low) refl)

  -- whatever is kept of the byte, and whichever bits are added
  pub noting-fits : (x a : ℕ) → x ≤ get_or notes (i / 8) 0 → x + a * 2 ^ (i % 8) % 2 ^ 8 < 2 ^ 8
  noting-fits x a h = bit-fits x (i % 8) (omega (arith, n.low)) a (omega arith)

  module _ (long : length notes ≡ 250) (l : i < 2000) where
    abbrev byte : ℕ
    byte = get_or notes (i / 8) 0

    abbrev new : List ℕ
    new = set notes (i / 8) (byte + 2 ^ (i % 8))

    byte-here : get_or new (i / 8) 0 ≡ byte + 2 ^ (i % 8)
    byte-here = get_or-set_same notes (i / 8) (byte + 2 ^ (i % 8)) 0 (omega (arith, long))

    byte-there : (g : ℕ) → (g ≡ i / 8 → ⊥) → get_or new g 0 ≡ get_or notes g 0
    byte-there g d = get_or-set_other notes (i / 8) g (byte + 2 ^ (i % 8)) 0 d

    new-next : Noting new (i + 1)
    new-next =
        onward new i
        (rw byte-here (bit_below byte (i % 8) n.low))
        (λ g m. byte-there g (λ e. omega arith) ∙ n.behind g m)

    new-here : noted new i ≡ true
    unfolding noted
    new-here = rw (byte-here, bit-here byte (i % 8) n.low) refl

    new_others : (j : ℕ) → j < i → noted new j ≡ noted notes j
    unfolding noted
    new_others j m = go (ltb (j / 8) (i / 8)) refl
      where
        go : (t : Bool) → ltb (j / 8) (i / 8) ≡ t → noted new j ≡ noted notes j
        go true e =
            let before : j / 8 < i / 8 = ltb-true (j / 8) (i / 8) e in
            rw (byte-there (j / 8) (λ q. omega arith)) refl
        go false e =
            let behind : i / 8 ≤ j / 8 = ltb-false (j / 8) (i / 8) e in
            let same : j / 8 ≡ i / 8 = omega arith in
            rw (same, byte-here, bit-others byte (i % 8) n.low (j % 8) (omega arith)) refl

-- as `bytes[i / 8] + (1 << (i % 8))` is denoted, of the notes' own bytes
pub noting-noted : {bytes notes : List ℕ} {i : ℕ} → bytes ≡ notes → Noting notes i → length bytes ≡ 250 → i < 2000
    → NoteMade notes (set bytes (i / 8) (get_or bytes (i / 8) 0 + 1 * 2 ^ (i % 8) % 256)) i
noting-noted {bytes} {notes} {i} is n long l =
    let bit : 1 * 2 ^ (i % 8) % 256 ≡ 2 ^ (i % 8) = shl_exact 1 (i % 8) 8 (omega arith) (omega arith) ∙ omega arith in
    let size : length notes ≡ 250 = ap length (sym is) ∙ long in
    rw (is, bit) (record { next = new-next n size l; here = new-here n size l; others = new_others n size l })
