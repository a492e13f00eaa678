-- Laws of the code that reads entries, one for each way through it.
--     name-read, name-size, next-read     the cursor
--     stream-next               of entries that stand, the first and the others
--     ReadTo, reached-..        the loop to a name that is read back
-- Assumes nothing.
use Prim.Native.Nat.{ℕ, ◌+◌, ◌-◌, ◌≤◌, ◌<◌}
use native.Mathlib.Omega.{arith}
use mathlib.Core.Path.{◌≡◌, refl, sym, ap, ◌∙◌, subst}
use mathlib.Core.List.{List, [], ◌∷◌, ◌++◌}
use lib.ListN.{length, get_or, take, drop, length-append, length-take, length-drop}
use lib.Seq.{drop-drop, get_or-drop, length-take-le, take_at, take-take}
use Rattle.words.specs.Words.{Bytes}
use Rattle.format.specs.Outcomes.{over}
use Rattle.numbers.proofs.Parts.{Copied, copied_behind, over-length, part_length}
use Rattle.streams.specs.Streams.{EntryAt, Stream, entry, entry_end, name_at}
use Rattle.entries.specs.Reading.{NameIs, NextIs, ReadAsk}

-- ---- the cursor

-- The entry's rest, as the part `&book[from..to]`, was copied behind what it shares with the name before it. So its name stands in the
-- array from the front on, and the array is as long as it was.
module _ (b prev : Bytes) (o len c n : ℕ) (k : EntryAt b o len) (h : len ≤ 200) (size : length prev ≡ 200) (ce : c ≡ get_or b o 0) (ne : n ≡ get_or b (o + 1) 0) where
  abbrev rest : Bytes
  rest = take (o + 2 + n - (o + 2)) (drop (o + 2) b)

  rest-length : length rest ≡ n
  rest-length = part_length b (o + 2) (o + 2 + n - (o + 2)) (omega (arith, k.fits)) ∙ omega arith

  name-length : length (take c prev ++ rest) ≡ c + n
  name-length = length-append (take c prev) rest ∙ omega (arith, rest-length, length-take-le c prev (omega (arith, k.shares)))

  name-is : take c prev ++ rest ≡ name_at b o (take len prev)
  name-is = let z : o + 2 + n - (o + 2) ≡ n = omega arith in rw (z, ← ce, ← ne, take-take c len prev (omega (arith, k.shares))) refl

  module _ (ys : Bytes) (y : Copied rest (take (length prev - c) (drop c prev)) ys) where
    abbrev array : Bytes
    array = take c prev ++ (ys ++ drop (length prev - c) (drop c prev))

    array-is : array ≡ over (take c prev ++ rest) prev
    array-is = copied_behind rest prev ys c (omega (arith, rest-length, k.short)) y

    pub name-read : take (c + n) array ≡ name_at b o (take len prev)
    name-read = ap (take (c + n)) array-is ∙ take_at (take c prev ++ rest) (drop (length (take c prev ++ rest)) prev) (c + n) name-length ∙ name-is

    pub name-size : length array ≡ 200
    name-size = ap length array-is ∙ over-length (take c prev ++ rest) prev (omega (arith, name-length, k.short)) ∙ size

-- the same of a name at hand, whose first len bytes of an array of 200 are the name before
pub next-read : (b array : Bytes) (o len c n : ℕ) (prev : Bytes) → take len array ≡ prev → length array ≡ 200 → len ≤ 200 → EntryAt b o (length prev)
    → c ≡ get_or b o 0 → n ≡ get_or b (o + 1) 0 → (ys : Bytes) → Copied (take (o + 2 + n - (o + 2)) (drop (o + 2) b)) (take (200 - c) (drop c array)) ys
    → NextIs b o prev (o + 2 + n) (take (c + n) (take c array ++ (ys ++ drop (200 - c) (drop c array))))
next-read b array o len c n prev q size h k ce ne ys y =
    let k' : EntryAt b o len = record { fits = k.fits; shares = omega (arith, k.shares, ap length q, length-take len array); short = k.short } in
    let y' : Copied (take (o + 2 + n - (o + 2)) (drop (o + 2) b)) (take (length array - c) (drop c array)) ys = rw size y in
    let is = name-read b array o len c n k' h size ce ne ys y' in
    record {
      name-is = rw (size, q) at is;
      next-is = ap (λ (i : ℕ). o + 2 + i) ne;
      room = omega (arith, length-take (c + n) (take c array ++ (ys ++ drop (200 - c) (drop c array))), k.short);
    }

-- ---- a name read back

pub stream-next : (b : Bytes) (o : ℕ) (prev : Bytes) (zs : List Bytes) → 0 < length zs → Stream b o prev zs
    → EntryAt b o (length prev) × (name_at b o prev ≡ get_or zs 0 []) × Stream b (entry_end b o) (name_at b o prev) (drop 1 zs)
stream-next b o prev [] h s = absurd (omega arith)
stream-next b o prev (z ∷ zs) h (entry a q s) = (a, q, subst (λ (x : Bytes). Stream b (entry_end b o) x zs) (sym q) s)

-- i names are read, the last of them is at hand, and the cursor stands at the next entry
pub record ReadTo (b : Bytes) (start count o : ℕ) (name : Bytes) (i : ℕ) : Type 0 where
  pub ask : ReadAsk b start count
  pub upto : i ≤ count
  pub others : (xs : List Bytes) → Stream b start [] xs → count < length xs → Stream b o name (drop i xs)

pub reached-start : (b : Bytes) (start count : ℕ) → ReadAsk b start count → ReadTo b start count start [] 0
reached-start b start count ask = record { ask = ask; upto = omega arith; others = λ xs s g. s }

module _ {b : Bytes} {start count o : ℕ} {name : Bytes} {i : ℕ} (w : ReadTo b start count o name i) where
  next_of : (xs : List Bytes) → Stream b start [] xs → count < length xs
      → EntryAt b o (length name) × (name_at b o name ≡ get_or (drop i xs) 0 []) × Stream b (entry_end b o) (name_at b o name) (drop 1 (drop i xs))
  next_of xs s h = stream-next b o name (drop i xs) (omega (arith, length-drop i xs, w.upto)) (w.others xs s h)

  pub reached-entry : EntryAt b o (length name)
  reached-entry = (next_of w.ask.names w.ask.stream w.ask.within).0

  pub reached-more : i < count → (next : ℕ) (name' : Bytes) → NextIs b o name next name' → ReadTo b start count next name' (i + 1)
  reached-more l next name' r = record {
    ask = w.ask;
    upto = omega arith;
    others = λ xs s h. rw (r.name-is, r.next-is, ← drop-drop 1 i xs) (next_of xs s h).2;
  }

  pub reached-done : i ≡ count → (next : ℕ) (name' : Bytes) → NextIs b o name next name' → NameIs b start count name'
  reached-done l next name' r =
      let z : i + 0 ≡ count = omega arith in
      record { room = r.room; named = λ xs s h. r.name-is ∙ (next_of xs s h).1 ∙ get_or-drop i xs 0 [] ∙ ap (λ (x : ℕ). get_or xs x []) z }
