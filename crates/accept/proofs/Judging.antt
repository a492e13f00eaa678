-- What the check answers, way by way.
--     unsound, sound-checked    bytes of which a part fails; of which all stand
--     names-told, table-ask, table_is     behind trailer and entries that stand: what the walk over the table asks, and what it answers
--     SoundBook, sound-book, checked-sound     what an accepting answer says
--     no-book           what a refusing answer says
--     numbers-checked   document 01's numbers for either answer
-- Assumes nothing.
use Prim.Native.Nat.{ℕ, ◌-◌, ◌*◌, ◌≤◌}
use native.Mathlib.Omega.{arith}
use mathlib.Core.Path.{◌≡◌, ◌∙◌, ap, ap₂, refl, subst, sym}
use mathlib.Core.Bool.{Bool}
use mathlib.Core.List.{List}
use lib.ListN.{length}
use Rattle.std.specs.Prelude.{Option, Some, None}
use lib.Seq.{slice}
use Rattle.words.specs.Words.{Bytes, InBytes, same}
use Rattle.format.specs.Kinds.{form_of, kind_of, rule_in}
use Rattle.format.specs.Spans.{is_table, words_of}
use Rattle.format.proofs.Book.{node-size, node-table}
use Rattle.format.proofs.BookKinds.{kind-layout, kind-sure}
use Rattle.format.specs.Book.{Book, NoBook, Opened, numbers, opened, trailer_size, names_of, told}
use Rattle.format.specs.Outcomes.{check_of, given}
use Rattle.format.proofs.Book.{book-opened, fits-parts, read-field}
use Rattle.trailer.specs.Trailer.{trailer_in}
use Rattle.trailer.specs.declared.Trailer.{Trailer}
use Rattle.streams.specs.Runs.{Frame}
use Rattle.streams.proofs.InBlocks.{has-blocks, has_end}
use Rattle.streams.proofs.Walks.{has-known, has-names}
use Rattle.inspect.specs.Check.{TableAsk, is_nodes}
use Rattle.numbers.proofs.Parts.{Held, held_bytes}
use Rattle.accept.specs.Parts.{Framed, Parts, check_on, checked_as}
use Rattle.accept.proofs.Opens.{opened-parts, parts-opened}

-- the two answers differ
pub sound≠unsound : {t : Trailer} → Some t ≡ None → ⊥
sound≠unsound q = cc

pub unsound : (b : Bytes) → (Parts b → ⊥) → None ≡ check_on b (opened b)
unfolding check_on
unsound b fails = go (opened b) refl
  where
    go : (o : Opened) → opened b ≡ o → None ≡ check_on b o
    go (Book κ k xs) e = absurd (fails (opened-parts κ b k xs e))
    go NoBook e = refl

pub sound-checked : (b : Bytes) → Held b → (t : Trailer) → t ≡ trailer_in b → Parts b → Some t ≡ check_on b (opened b)
unfolding check_on
sound-checked b held t e p = ap Some e ∙ ap (check_on b) (sym (parts-opened b (held_bytes b held) p))

-- ---- the table, behind trailer and entries that stand

module _ (b : Bytes) (f : Framed b) where
  within : told b 2 ≤ length b
  within = omega (arith, f.trail.total, f.trail.order)

  -- the names are as many as the trailer tells
  pub names-told : told b 0 ≡ length (names_of b)
  names-told = sym (ap length (has-names (rule_in b) b (told b 1) (told b 2) (told b 3) (told b 0) within f.entries f.trail.low refl) ∙ f.entries.count)

  module _ (u n : ℕ) (ue : u ≡ told b 3) (ne : n ≡ told b 0) where
    -- the trailer's numbers lie within the bytes
    frame : Frame b (told b 1) (told b 2) (told b 3)
    frame = record { one = f.trail.low; small = f.trail.short; order = f.trail.order; room = omega (arith, f.trail.total) }

    pub table-ask : TableAsk b u (length b - trailer_size) n
    table-ask = record {
      known = has-known (rule_in b) b (told b 1) (told b 2) (told b 3) (told b 0) within f.entries f.trail.low refl (kind-sure (kind_of b)) f.trail.few f.trail.short;
      blocks = has-blocks (rule_in b) (kind-sure (kind_of b)) b (told b 1) (told b 2) (told b 3) (told b 0) frame f.entries refl;
      ended = sym (has_end (rule_in b) (kind-sure (kind_of b)) b (told b 1) (told b 2) (told b 3) (told b 0) frame f.entries refl);
      count = ne ∙ names-told;
      order = omega (arith, f.trail.total);
      long = omega (arith, f.trail.long);
      counted = omega (arith, ue, f.trail.total, f.trail.long, ap (λ (x : ℕ). told b 4 * x) (node-size (form_of (kind_of b))));
    }

    -- the node table is the table of the book's form
    pub table_is : (q : Bool) → q ≡ is_nodes b u (length b - trailer_size) → q ≡ is_table b (told b 3) (length b - trailer_size)
    unfolding is_nodes is_table words_of
    table_is q e =
        e ∙ ap (λ (x : ℕ). is_nodes b x (length b - trailer_size)) ue
        ∙ ap (λ (l : List ℕ). same (numbers l) (slice (told b 3) (length b - trailer_size) b)) (sym (node-table (form_of (kind_of b)) (rule_in b) (names_of b)))

-- what an accepting answer says
pub record SoundBook (b : Bytes) (t : Trailer) : Type 0 where
  pub parts : Parts b
  pub told : t ≡ trailer_in b
  pub book : opened b ≡ Book (kind_of b) t.block (names_of b)
  pub count : t.names ≡ length (names_of b)

pub sound-book : (b : Bytes) (t : Trailer) → InBytes b → Some t ≡ check_on b (opened b) → SoundBook b t
unfolding check_on
sound-book b t bytes s = go (opened b) refl s
  where
    go : (o : Opened) → opened b ≡ o → Some t ≡ check_on b o → SoundBook b t
    go NoBook e q = absurd (sound≠unsound q)
    go (Book κ j xs) e q =
        let p : Parts b = opened-parts κ b j xs e in
        let is : t ≡ trailer_in b = cc in
        record {
          parts = p;
          told = is;
          book = parts-opened b bytes p ∙ ap (λ (x : Trailer). Book (kind_of b) x.block (names_of b)) (sym is);
          count = ap (λ (x : Trailer). x.names) is ∙ names-told b p.framed;
        }

-- what a refusing check says
pub no-book : (b : Bytes) (v : Option Trailer) → v ≡ check_on b (opened b) → v ≡ None → opened b ≡ NoBook
unfolding check_on
no-book b v s u = go (opened b) (sym u ∙ s)
  where
    go : (o : Opened) → None ≡ check_on b o → o ≡ NoBook
    go NoBook q = refl
    go (Book κ k xs) q = absurd (sound≠unsound (sym q))

-- the numbers of what the check gives are the check's
pub numbers-checked : (b : Bytes) (v : Option Trailer) → v ≡ check_on b (opened b) → checked_as v ≡ check_of (opened b)
unfolding check_on check_of
numbers-checked b v s = go (opened b) refl s
  where
    go : (o : Opened) → opened b ≡ o → v ≡ check_on b o → checked_as v ≡ check_of o
    go NoBook e q = ap checked_as q
    go (Book κ k xs) e q =
        let o = book-opened κ b k xs e in
        let f = fits-parts k xs o.0 in
        ap checked_as q
        ∙ ap₂ given (subst (λ (t : Bytes). told t 0 ≡ length xs) o.1 (read-field (kind-layout κ) k xs f 0 (omega arith)))
        (subst (λ (t : Bytes). told t 1 ≡ k) o.1 (read-field (kind-layout κ) k xs f 1 (omega arith)))

module _ (b : Bytes) (t : Trailer) (held : Held b) (v : Option Trailer) (s : v ≡ check_on b (opened b)) (u : v ≡ Some t) where
  pub checked-sound : SoundBook b t
  checked-sound = sound-book b t (held_bytes b held) (sym u ∙ s)
