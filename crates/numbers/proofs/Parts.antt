-- Laws of what writers leave: bytes at the front of a room, and parts of it that are lent and come back; and of what is read.
--     Held, held_bytes          bytes that a machine holds are bytes
--     part_length               a part of a run of bytes
--     over-length, over-all     a room that is written over
--     lent, lent-front, none_lent     a part behind what is written comes back with more, whole or at its front; an empty part changes nothing
--     put, parts-put            a room with a part of it lent and filled; two such parts, one behind the other
--     Copied, copied, copied_behind     what the kit's `bytes::copy` leaves: in a room, and in one of which the front was not lent
--     number_is, number_small   a number out of its two bytes
--     packed-low, packed-high   two numbers in one, the lower of two bytes
--     number_behind             a number in a part, where it stands in the whole
--     two-stored                two bytes, one by one
--     Numbered: numbered-none, numbered_more, numbered-all     numbers in a row
-- Assumes nothing.
use Prim.Native.Nat.{ℕ, ◌+◌, ◌-◌, ◌*◌, ◌/◌, ◌%◌, ◌≤◌, ◌<◌, zero-le}
use native.Mathlib.Numerals.{add-one}
use native.Mathlib.Omega.{arith}
use mathlib.Core.Path.{◌≡◌, refl, sym, ap, ap₂, ◌∙◌}
use mathlib.Core.List.{List, [], ◌∷◌, ◌++◌, append_assoc, append-nil}
use lib.ListN.{length, get_or, set, take, drop, length-append, length-take, length-drop, take-append-drop}
use lib.Seq.{get_or-drop, get_or-take, take_at, drop_at, drop-drop, take-suc, take_all, drop-length, length-take-le}
use mir.Syntax.{w8}
use mir.Val.{Fits}
use Rattle.words.specs.Words.{Bytes, InBytes}
use Rattle.format.specs.Book.{number, numbers}
use Rattle.format.proofs.Numbers.{numbers-append, numbers-length}
use Rattle.format.specs.Outcomes.{over}

-- what is known of a slice that is lent
abbrev pub Held : Bytes → Type 0
Held b = (i : ℕ) → Fits w8 (get_or b i 0)

pub held_bytes : (b : Bytes) → Held b → InBytes b
held_bytes b h i = omega (arith, h i)

pub number_is : (b : Bytes) (o x y : ℕ) → x ≡ get_or b o 0 → y ≡ get_or b (o + 1) 0 → x + 256 * y ≡ number b o
unfolding number
number_is b o x y p q = ap₂ (λ (u v : ℕ). u + 256 * v) p q

pub number_small : (x y : ℕ) → x < 256 → y < 256 → x + 256 * y < 65536
number_small x y h k = omega arith

pub packed-low : (a c : ℕ) → a < 65536 → (a + 65536 * c) % 65536 ≡ a
packed-low a c h = omega arith

pub packed-high : (a c : ℕ) → a < 65536 → (a + 65536 * c) / 65536 ≡ c
packed-high a c h = omega arith

pub number_behind : (b : Bytes) (on n o : ℕ) → o + 2 ≤ n → number (take n (drop on b)) o ≡ number b (on + o)
unfolding number
number_behind b on n o h =
    let next : on + (o + 1) ≡ on + o + 1 = omega arith in
    ap₂ (λ (u v : ℕ). u + 256 * v) (byte o (omega arith)) (byte (o + 1) (omega arith) ∙ ap (λ (i : ℕ). get_or b i 0) next)
  where
    byte : (i : ℕ) → i < n → get_or (take n (drop on b)) i 0 ≡ get_or b (on + i) 0
    byte i l = get_or-take n (drop on b) i 0 l ∙ get_or-drop on b i 0

-- a part of a run of bytes
pub part_length : (s : Bytes) (o n : ℕ) → o + n ≤ length s → length (take n (drop o s)) ≡ n
part_length s o n h = simp (length-take, length-drop) (omega arith)

pub over-length : (out xs : Bytes) → length out ≤ length xs → length (over out xs) ≡ length xs
over-length out xs h = simp (length-append, length-drop) (omega arith)

-- what fills a room is all of it
pub over-all : (out xs : Bytes) → length out ≡ length xs → over out xs ≡ out
over-all out xs e = ap (λ (n : ℕ). out ++ drop n xs) e ∙ ap (λ (r : Bytes). out ++ r) (drop-length xs) ∙ append-nil out

-- p is written, and the part behind it, of k bytes, was lent and came back as ys
pub lent : (p xs room ys : Bytes) (a k : ℕ) → room ≡ over p xs → length p ≡ a → a + k ≤ length xs → length ys ≡ k
    → take a room ++ (ys ++ drop k (drop a room)) ≡ over (p ++ ys) xs
lent p xs room ys a k r e h l =
    let size : length p + k ≡ length (p ++ ys) = omega (arith, length-append p ys) in
    let behind : drop k (drop a room) ≡ drop (length (p ++ ys)) xs =
    ap (λ (z : Bytes). drop k (drop a z)) r ∙ ap (drop k) (drop_at p (drop (length p) xs) a e) ∙ drop-drop k (length p) xs ∙ ap (λ (n : ℕ). drop n xs) size in
    ap₂ (λ (x z : Bytes). x ++ (ys ++ z)) (ap (take a) r ∙ take_at p (drop (length p) xs) a e) behind
    ∙ sym (append_assoc p ys (drop (length (p ++ ys)) xs))

-- a room with a part of it lent and filled
abbrev pub put : Bytes → ℕ → ℕ → Bytes → Bytes
put room from to x = take from room ++ (x ++ drop (to - from) (drop from room))

-- p is written, and two parts were filled, each from where the one before ended
pub parts-put : (p xs room ys zs : Bytes) (a b c : ℕ) → room ≡ over p xs → length p ≡ a → a + length ys ≡ b → b + length zs ≡ c → c ≤ length xs
    → put (put room a b ys) b c zs ≡ over ((p ++ ys) ++ zs) xs
parts-put p xs room ys zs a b c r e y z h =
    lent (p ++ ys) xs (put room a b ys) zs b (c - b) (lent p xs room ys a (b - a) r e (omega arith) (omega arith)) (length-append p ys ∙ omega arith) (omega arith) (omega arith)

-- an empty part was lent
pub none_lent : (room ys : Bytes) → length ys ≡ length (take (0 - 0) (drop 0 room)) → take 0 room ++ (ys ++ drop (0 - 0) (drop 0 room)) ≡ room
none_lent room [] e = refl
none_lent room (y ∷ ys) e = absurd (omega arith)

-- the part is longer than what was written at its front
pub lent-front : (p out xs room ys : Bytes) (a k : ℕ) → room ≡ over p xs → length p ≡ a → a + k ≡ length xs → ys ≡ over out (take k (drop a room)) → length out ≤ k
    → take a room ++ (ys ++ drop k (drop a room)) ≡ over (p ++ out) xs
lent-front p out xs room ys a k r e h y l =
    let rest : Bytes = drop (length p) xs in
    let size : length rest ≡ k = length-drop (length p) xs ∙ omega arith in
    let behind : drop a room ≡ rest = ap (drop a) r ∙ drop_at p rest a e in
    let front : ys ≡ out ++ drop (length out) rest = y ∙ ap (λ (z : Bytes). over out (take k z)) behind ∙ ap (over out) (take_all k rest (omega arith)) in
    let none : drop k (drop a room) ≡ [] = ap (drop k) behind ∙ ap (λ (n : ℕ). drop n rest) (sym size) ∙ drop-length rest in
    ap₂ (λ (x z : Bytes). x ++ z) (ap (take a) r ∙ take_at p rest a e) (ap₂ (λ (x z : Bytes). x ++ z) front none ∙ append-nil (out ++ drop (length out) rest))
    ∙ sym (append_assoc p out (drop (length out) rest))
    ∙ ap (λ (z : Bytes). (p ++ out) ++ z) (drop-drop (length out) (length p) xs ∙ ap (λ (n : ℕ). drop n xs) (sym (length-append p out)))

-- ---- bytes that were copied

-- what `numbers::copy` says of the room dst afterwards
abbrev pub Copied : Bytes → Bytes → Bytes → Type 0
Copied src dst out = out ≡ take (length src) src ++ drop (length src) dst

pub copied : (src dst out : Bytes) → Copied src dst out → out ≡ over src dst
copied src dst out e = e ∙ ap (λ (x : Bytes). x ++ drop (length src) dst) (take_all (length src) src (omega arith))

-- all but the first a bytes of the room was lent, and src copied into it
pub copied_behind : (src room ys : Bytes) (a : ℕ) → a + length src ≤ length room → Copied src (take (length room - a) (drop a room)) ys
    → take a room ++ (ys ++ drop (length room - a) (drop a room)) ≡ over (take a room ++ src) room
copied_behind src room ys a h y =
    let front : length (take a room) ≡ a = length-take-le a room (omega arith) in
    let whole : room ≡ over (take a room) room = sym (ap (λ (n : ℕ). take a room ++ drop n room) front ∙ take-append-drop a room) in
    let part : Bytes = take (length room - a) (drop a room) in
    lent-front (take a room) src room room ys a (length room - a) whole front (omega arith) (copied src part ys y) (omega arith)

-- ---- numbers

pub two-stored : (xs : Bytes) (v : ℕ) → length xs ≡ 2 → set (set xs 0 (v % 256)) 1 (v / 256 % 256) ≡ numbers (v ∷ [])
unfolding numbers
two-stored [] v h = absurd (omega arith)
two-stored (x ∷ []) v h = absurd (omega arith)
two-stored (x ∷ y ∷ []) v h = refl
two-stored (x ∷ y ∷ z ∷ xs) v h = absurd (omega arith)

-- the first i numbers are written
pub record Numbered (ns : List ℕ) (room₀ room : Bytes) (i : ℕ) : Type 0 where
  pub within : i ≤ length ns
  pub fits : length room₀ ≡ 2 * length ns
  pub kept : length room ≡ length room₀
  pub so_far : room ≡ over (numbers (take i ns)) room₀

pub numbered-none : (ns : List ℕ) (room : Bytes) → length room ≡ 2 * length ns → Numbered ns room room 0
unfolding numbers
numbered-none ns room h = record { within = zero-le; fits = h; kept = refl; so_far = refl }

module _ {ns : List ℕ} {room₀ room : Bytes} {i : ℕ} (n : Numbered ns room₀ room i) where
  pub numbered_more : (ys : Bytes) → i < length ns → ys ≡ numbers (get_or ns i 0 ∷ [])
      → Numbered ns room₀ (take (2 * i) room ++ (ys ++ drop (2 * i + 2 - 2 * i) (drop (2 * i) room))) (i + 1)
  numbered_more ys h y =
      let size : length (numbers (take i ns)) ≡ 2 * i = numbers-length (take i ns) ∙ rw length-take (omega (arith, n.within)) in
      let two : length ys ≡ 2 = ap length y ∙ numbers-length (get_or ns i 0 ∷ []) in
      let more : numbers (take i ns) ++ ys ≡ numbers (take (i + 1) ns) =
      ap (λ (z : Bytes). numbers (take i ns) ++ z) y ∙ sym (numbers-append (take i ns) (get_or ns i 0 ∷ [])) ∙ ap numbers (sym (rw (add-one i) (take-suc ns i 0 h))) in
      let room-is : take (2 * i) room ++ (ys ++ drop (2 * i + 2 - 2 * i) (drop (2 * i) room)) ≡ over (numbers (take (i + 1) ns)) room₀ =
      lent (numbers (take i ns)) room₀ room ys (2 * i) (2 * i + 2 - 2 * i) n.so_far size (omega (arith, n.fits)) (omega arith) ∙ ap (λ (z : Bytes). over z room₀) more in
      record {
        within = omega arith;
        fits = n.fits;
        kept = ap length room-is ∙ over-length (numbers (take (i + 1) ns)) room₀ (omega (arith, numbers-length (take (i + 1) ns), length-take-le (i + 1) ns (omega arith), n.fits));
        so_far = room-is;
      }

  pub numbered-all : length ns ≤ i → room ≡ numbers ns
  numbered-all h =
      n.so_far ∙ ap (λ (z : List ℕ). over (numbers z) room₀) (take_all i ns h) ∙ over-all (numbers ns) room₀ (omega (arith, numbers-length ns, n.fits))
