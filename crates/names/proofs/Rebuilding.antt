-- A name that is read back.
--     position-..       an accepting check lets each position be asked
--     BlockFound, found, place-ask, found-asks, found_name      where the block of a position starts, and what streams from there
--     found-entries     how many entries are read from there on
-- Assumes nothing.
use Prim.Native.Nat.{ℕ, ◌*◌, ◌+◌, ◌/◌, ◌%◌, ◌<◌, ◌≤◌}
use native.Mathlib.Nat.{div-add-mod', div-le_self}
use native.Mathlib.Omega.{arith}
use mathlib.Core.Path.{◌≡◌, ◌∙◌, ap, refl, subst, sym}
use mathlib.Core.List.{List, []}
use lib.ListN.{drop, get_or, length, length-drop}
use lib.Seq.{get_or-drop}
use Rattle.words.specs.Words.{Bytes}
use Rattle.format.proofs.BookKinds.{kind-sure}
use Rattle.format.specs.Kinds.{kind_of, rule_in}
use Rattle.format.specs.Book.{number, opened, names_of, told}
use Rattle.numbers.proofs.Parts.{Held}
use Rattle.streams.specs.Runs.{Rest}
use Rattle.streams.proofs.Rereading.{block-from}
use Rattle.streams.proofs.Walks.{has-names}
use Rattle.entries.specs.Reading.{NameIs, ReadAsk}
use Rattle.trailer.specs.declared.Trailer.{Trailer}
use Rattle.accept.specs.Parts.{check_on}
use Rattle.std.specs.Prelude.{Option, Some}
use Rattle.accept.proofs.Judging.{SoundBook, checked-sound}
use Rattle.names.specs.Names.{Named, PlaceAsk, PositionAsk, entries_to}

-- ---- what can be asked

pub position-sound : {b : Bytes} {t : Trailer} {position : ℕ} → SoundBook b t → position < t.names → PositionAsk b t position
position-sound f h = record {
  framed = f.parts.framed;
  block = ap (λ (x : Trailer). x.block) f.told;
  blocks = ap (λ (x : Trailer). x.blocks_at) f.told;
  within = omega (arith, f.count);
}

pub position-ask : (b : Bytes) (t : Trailer) (position : ℕ) → Held b → (v : Option Trailer) → v ≡ check_on b (opened b) → v ≡ Some t
    → (n : ℕ) → n ≡ t.names → position < n → PositionAsk b t position
position-ask b t position held v s u n ne h = position-sound (checked-sound b t held v s u) (omega arith)

-- ---- where a position's block starts

pub record BlockFound (b : Bytes) (position table block rest : ℕ) : Type 0 where
  pub room : table + 2 * block + 2 ≤ length b
  pub few : position ≤ 2000
  pub below : block ≤ position
  pub reads : ReadAsk b (number b (table + 2 * block)) rest
  pub gives : (name : Bytes) → NameIs b (number b (table + 2 * block)) rest name → Named (get_or (names_of b) position []) name

found-told : (b : Bytes) (k table position : ℕ) → PlaceAsk b k table position → BlockFound b position (told b 2) (position / k) (position % k)
found-told b k table position a =
    let p = a.framed in
    let has = p.entries in
    let inside : told b 2 ≤ length b = omega (arith, p.trail.total, p.trail.order) in
    let ns : names_of b ≡ has.names = has-names (rule_in b) b (told b 1) (told b 2) (told b 3) (told b 0) inside has p.trail.low refl in
    let within : position < length has.names = subst (λ (xs : List Bytes). position < length xs) ns a.within in
    let d : position / k * k + position % k ≡ position = omega (arith, div-add-mod' position k) in
    let r = subst (λ (n : ℕ). Rest (rule_in b) b n (told b 2) (told b 3) (told b 2) 0 [] has.names) (sym a.block) has.rest in
    let f = block-from (rule_in b) (kind-sure (kind_of b)) b k (told b 2) (told b 3) (omega (arith, a.block, p.trail.low)) p.trail.short inside (omega (arith, p.trail.total))
    (position / k) (position / k * k) (told b 2) 0 [] has.names (omega arith) inside r refl (omega arith) in
    let u : position % k < length (drop (position / k * k) has.names) = omega (arith, d, length-drop (position / k * k) has.names) in
    record {
      room = omega (arith, f.room, p.trail.total);
      few = omega (arith, within, has.count, p.trail.few);
      below = div-le_self position k;
      reads = record { names = drop (position / k * k) has.names; stream = f.stream; within = u; few = omega (arith, within, has.count, p.trail.few) };
      gives = λ name n. record {
        name-is = n.named (drop (position / k * k) has.names) f.stream u
            ∙ get_or-drop (position / k * k) has.names (position % k) []
            ∙ ap (λ (i : ℕ). get_or has.names i []) d ∙ ap (λ (xs : List Bytes). get_or xs position []) (sym ns);
        room = n.room;
      };
    }

pub found : {b : Bytes} {k position table block rest : ℕ} → PlaceAsk b k table position → block ≡ position / k → rest ≡ position % k → BlockFound b position table block rest
found {b} {k} {position} {table} a f g = rw (f, g, a.blocks) (found-told b k table position a)

-- by what was read out of the trailer
pub place-ask : {b : Bytes} {x y k table position : ℕ} → PlaceAsk b x y position → k ≡ x → table ≡ y → PlaceAsk b k table position
place-ask a ke te = record { framed = a.framed; block = ke ∙ a.block; blocks = te ∙ a.blocks; within = a.within }

-- with the offset that the code has read
module _ {b : Bytes} {position table block rest start : ℕ} (f : BlockFound b position table block rest) (e : start ≡ number b (table + 2 * block)) where
  pub found-asks : ReadAsk b start rest
  found-asks = subst (λ (n : ℕ). ReadAsk b n rest) (sym e) f.reads

  pub found_name : (name : Bytes) → NameIs b start rest name → Named (get_or (names_of b) position []) name
  found_name name n = f.gives name (subst (λ (o : ℕ). NameIs b o rest name) e n)

-- from the block's first entry on
pub found-entries : {b : Bytes} {k position table rest : ℕ} → PlaceAsk b k table position → rest ≡ position % k → (r : ℕ) → r ≡ rest + 1 → r ≡ entries_to (told b 1) position
found-entries {b} {k} {position} a f r e = e ∙ omega (arith, f, ap (λ (n : ℕ). position % n) a.block)
