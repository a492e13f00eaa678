-- Laws of counting the nodes. It is the writer's own walk, in a room with no place: the frames of which only the depths are kept, and
-- the records that would have been written, are there and nobody holds them.
--     Deeper: deeper-start, deeper-some, deeper-more, deeper-done     frame after frame
--     SameDepths, Unwound           a row of depths and the frames that have them; the frames above number r are closed
--     asked-room                    each name has its note
--     Uncounted, Counting: counting-start .. counting-all             the walk over all names
-- Assumes nothing.
use Prim.Native.Nat.{ℕ, zero, suc, ◌+◌, ◌-◌, ◌*◌, ◌≤◌, ◌<◌, zero-le}
use native.Mathlib.Nat.{lt_irrefl}
use native.Mathlib.Decide.{ℕ_discrete}
use native.Mathlib.Omega.{arith}
use mathlib.Core.Path.{◌≡◌, refl, sym, ap, ◌∙◌}
use mathlib.Core.List.{List, []}
use lib.ListN.{length, get_or, drop, length-set, replicate, set, take}
use lib.Seq.{get_or-set_other, get_or-set_same}
use mir.Val.{Fits}
use mir.Syntax.{w8}
use Rattle.words.specs.Words.{Bytes, Rule}
use Rattle.records.specs.declared.Note.{Note}
use Rattle.records.specs.Lists.{Ready, words}
use Rattle.records.specs.Notes.{shares_of}
use Rattle.records.proofs.Notes.{shares-length}
use Rattle.records.proofs.Starts.{ready-rises}
use Rattle.frames.specs.declared.Frame.{Frame}
use Rattle.frames.specs.declared.LeftOpen.{LeftOpen}
use Rattle.frames.specs.Frames.{depth_in, frame_count, no_frame, raised, with_frame}
use Rattle.frames.proofs.Frames.{frame_below, frame-raised, with-depth}
use Rattle.nodes.specs.Writing.{NameAsk, NamePut, Passing, Rowing}
use Rattle.nodes.proofs.Open.{open-depth}
use Rattle.nodes.proofs.Writing.{all_words, back_full, leaf-put, node-put, passing-deeper, passing-on, rowing-all, rowing-closing, rowing-keep, rowing-left, rowing-name, rowing_push, rowing-room, rowing_start}
use Rattle.counting.specs.Counting.{CountAsk, Deeper, NodeCount, StaysOpen}

-- ---- frame after frame

pub deeper-start : (depths : List ℕ) (left top : ℕ) → Deeper depths left top top
deeper-start depths left top = record { within = omega arith; deeper = λ i a b. absurd (lt_irrefl i (omega arith)) }

module _ {depths : List ℕ} {left top r : ℕ} (k : Deeper depths left top r) (x : ℕ) (d : x ≡ get_or depths r 0) where
  pub deeper-some : get_or depths 0 0 ≡ 0 → left < x → 0 < r
  deeper-some z h = go r d
    where
      go : (t : ℕ) → x ≡ get_or depths t 0 → 0 < t
      go zero e = omega arith
      go (suc t) e = omega arith

  pub deeper-more : left < x → Deeper depths left top (r - 1)
  deeper-more h = record {
    within = omega (arith, k.within);
    deeper = λ i a b. elim (ℕ_discrete i r) [
      | yes e ↦ omega (arith, ap (λ (t : ℕ). get_or depths t 0) e)
      | no o ↦ k.deeper i (omega arith) b
    ];
  }

  pub deeper-done : x ≤ left → StaysOpen depths left top r
  deeper-done h = record { above = k; shallow = omega arith }

-- the frames hold these depths, up to the top one
abbrev SameDepths : List Frame → List ℕ → ℕ → Type 0
SameDepths frames depths top = (t : ℕ) → t ≤ top → depth_in frames t ≡ get_or depths t 0

-- the frames above number r are closed, after so many records
record Unwound (ρ : Rule) (rest : Bytes) (skip j left : ℕ) (frames : List Frame) (top count r total : ℕ) : Type 0 where
  pub p : LeftOpen
  pub top-is : p.top ≡ r
  pub count-is : p.count ≡ total
  pub passing : Passing ρ rest skip j left frames top count [] p []

module _ {ρ : Rule} {rest : Bytes} {skip j left : ℕ} {frames : List Frame} {first count : ℕ} (a : NameAsk ρ rest skip j left frames first count []) where
  -- one record for each frame
  unwound : {r : ℕ} (depths : List ℕ) → SameDepths frames depths first → Deeper depths left first r → (m : ℕ) {p : LeftOpen} → p.top ≤ first → p.top ≡ r + m
      → Passing ρ rest skip j left frames first count [] p [] → Unwound ρ rest skip j left frames first count r (p.count + m)
  unwound depths same d zero {p} l e k = record { p = p; top-is = omega arith; count-is = omega arith; passing = k }
  unwound {r} depths same d (suc m) {p} l e k =
      let h : left < depth_in frames p.top = omega (arith, d.deeper p.top (omega arith) l, same p.top l) in
      let put = node-put (passing-deeper k _ refl a h) (back_full [] p.count _ (omega arith)) refl _ _ _ refl refl refl refl refl refl refl refl in
      let u = unwound depths same d m (omega arith) (omega arith) (passing-on k put.onward) in
      record { p = u.p; top-is = u.top-is; count-is = omega (arith, u.count-is); passing = u.passing }

-- ---- the walk over all names

-- the writer's state where count is the number of its records, of the names that it has not yet come to and of the open nodes
pub record Uncounted (ρ : Rule) (s : Bytes) (n : ℕ) (depths : List ℕ) (top count j : ℕ) : Type 0 where
  pub frames : List Frame
  pub same : SameDepths frames depths top
  pub written : ℕ
  pub end : ℕ
  pub rowing : Rowing ρ s n [] [] frames top written end j
  pub is : count ≡ written + j + top
  pub closed : j ≡ 0 → top ≡ 0

pub record Counting (n : ℕ) (shares depths : List ℕ) (top count j : ℕ) : Type 0 where
  pub low : j ≤ n
  pub sentinel : get_or depths 0 0 ≡ 0
  pub slots : length depths ≡ frame_count
  pub slot : top < frame_count
  pub few : count ≤ 2 * n + frame_count
  pub state : (ρ : Rule) (s : Bytes) (lens counts : List ℕ) → Ready ρ s n lens counts shares → Uncounted ρ s n depths top count j

-- each name has its note
pub asked-room : {n : ℕ} (notes : List Note) → CountAsk n (shares_of notes) → n ≤ length notes
asked-room notes a = omega (arith, a.ready.total, a.ready.noted.shares-room, shares-length notes)

module _ {n : ℕ} {shares : List ℕ} (a : CountAsk n shares) where
  -- what is so for every list of which this is noted is so for the one that there is
  counting : {depths : List ℕ} {top count j : ℕ} → length depths ≡ frame_count → ((ρ : Rule) (s : Bytes) (lens counts : List ℕ) → Ready ρ s n lens counts shares → Uncounted ρ s n depths top count j)
      → Counting n shares depths top count j
  counting {depths} {top} {count} {j} slots state =
      let o : Uncounted a.ρ a.list n depths top count j = state a.ρ a.list a.lens a.counts a.ready in
      record {
        low = o.rowing.low;
        sentinel = sym (o.same 0 zero-le) ∙ o.rowing.framed.sentinel;
        slots = slots;
        slot = o.rowing.framed.slot;
        few = omega (arith, o.is, o.rowing.written.few, o.rowing.framed.slot, all_words a.ready);
        state = state;
      }

  pub counting-start : Counting n shares (replicate frame_count 0) 0 n n
  counting-start = counting refl (λ ρ s lens counts ready. record {
    frames = replicate frame_count no_frame;
    same = λ t l. let e : t ≡ 0 = omega arith in rw e refl;
    written = 0;
    end = length s;
    rowing = rowing_start ready [];
    is = omega arith;
    closed = λ e. refl;
  })

  module _ {depths : List ℕ} {top count j : ℕ} (k : Counting n shares depths top count j) where
    pub counting-all : j ≤ 0 → NodeCount n shares count
    unfolding NodeCount
    counting-all h ρ s lens counts ready =
        let o : Uncounted ρ s n depths top count j = k.state ρ s lens counts ready in
        o.is ∙ omega (arith, o.closed (omega arith), (rowing-all ready o.rowing h).nodes)

    module _ (h : 0 < j) (left : ℕ) where
      pub counting-narrow : (j - 1 ≡ 0 → left ≡ 0) → (0 < j - 1 → left ≡ suc (get_or shares (j - 1) 0)) → Fits w8 left
      counting-narrow z l =
          let o : Uncounted a.ρ a.list n depths top count j = k.state a.ρ a.list a.lens a.counts a.ready in
          omega (arith, rowing-left a.ready o.rowing h _ refl left z l)

      module _ {r : ℕ} (u : StaysOpen depths left top r) (z : j - 1 ≡ 0 → left ≡ 0) (l : 0 < j - 1 → left ≡ suc (get_or shares (j - 1) 0)) (x : ℕ) (d : x ≡ get_or depths r 0) where
        -- of a list: name j - 1 has its leaf, and the frames above number r are closed
        module _ (ρ : Rule) (s : Bytes) (lens counts : List ℕ) (ready : Ready ρ s n lens counts shares) where
          o : Uncounted ρ s n depths top count j
          o = k.state ρ s lens counts ready

          abbrev len : ℕ
          len = get_or lens (j - 1) 0

          abbrev name : Bytes
          name = take (o.end - (o.end - len)) (drop (o.end - len) s)

          ask : NameAsk ρ name 0 (j - 1) left o.frames top o.written []
          ask = rowing-name ready o.rowing h len refl left z l

          closed : Unwound ρ name 0 (j - 1) left o.frames top o.written r (o.written + 1 + (top - r))
          closed =
              unwound ask depths o.same u.above (top - r) (omega arith) (omega (arith, u.above.within))
              (leaf-put (back_full [] o.written _ (omega arith)) ask _ _ refl refl refl).passing

          -- the top frame is number r
          top-depth : x ≡ depth_in o.frames closed.p.top
          top-depth = d ∙ sym (o.same r u.above.within) ∙ ap (depth_in o.frames) (sym closed.top-is)

          put : NamePut ρ name 0 (j - 1) left o.frames top o.written [] closed.p []
          put = record { passing = closed.passing; shallow = omega (arith, top-depth, u.shallow) }

          -- frames deepen, so at the first name none is left
          bottom : j - 1 ≡ 0 → r ≡ 0
          bottom e =
              omega (
                arith,
                z e,
                u.shallow,
                top-depth,
                closed.top-is,
                open-depth (words ρ s) (ready-rises ready) o.frames o.rowing.framed.sentinel (rowing-closing ready o.rowing h len refl left z l put).cur.open-rows,
              )

          kept : left ≤ x → Uncounted ρ s n depths r count (j - 1)
          kept g = record {
            frames = raised o.frames closed.p.top closed.p.width;
            same = λ t b. (frame-raised o.frames closed.p.top closed.p.width t).depth ∙ o.same t (omega (arith, u.above.within));
            written = closed.p.count;
            end = o.end - len - 1;
            rowing =
                rowing-keep ready o.rowing h len refl left z l put x top-depth g _ r refl (sym closed.top-is);
            is = omega (arith, o.is, closed.count-is, u.above.within);
            closed = bottom;
          }

          pushed : x < left → Uncounted ρ s n (set depths (r + 1) left) (r + 1) (count + 1) (j - 1)
          pushed g =
              let slot : r + 1 < frame_count = omega (arith, (rowing-room ready o.rowing h len refl left z l put x top-depth g).slot, closed.top-is) in
              record {
                frames = with_frame o.frames (r + 1) left closed.p.width closed.p.end closed.p.mark;
                same = λ t b. elim (ℕ_discrete t (r + 1)) [
                  | yes q ↦ rw q (with-depth o.frames (r + 1) left closed.p.width closed.p.end closed.p.mark (omega (arith, o.rowing.framed.slots))
                      ∙ sym (get_or-set_same depths (r + 1) left 0 (omega (arith, k.slots))))
                  | no q ↦ (frame_below o.frames (r + 1) left closed.p.width closed.p.end closed.p.mark t (omega arith)).depth
                      ∙ o.same t (omega (arith, u.above.within)) ∙ sym (get_or-set_other depths (r + 1) t left 0 q)
                ];
                written = closed.p.count;
                end = o.end - len - 1;
                rowing =
                    rowing_push ready o.rowing h len refl left z l put x top-depth g _ (r + 1)
                    (ap (λ (t : ℕ). with_frame o.frames (t + 1) left closed.p.width closed.p.end closed.p.mark) (sym closed.top-is)) (omega (arith, closed.top-is));
                is = omega (arith, o.is, closed.count-is, u.above.within);
                closed = λ q. absurd (lt_irrefl x (omega (arith, z q)));
              }

        pub counting-keep : left ≤ x → Counting n shares depths r count (j - 1)
        counting-keep g = counting k.slots (λ ρ s lens counts ready. kept ρ s lens counts ready g)

        pub counting-push : x < left → Counting n shares (set depths (r + 1) left) (r + 1) (count + 1) (j - 1)
        counting-push g = counting (length-set depths (r + 1) left ∙ k.slots) (λ ρ s lens counts ready. pushed ρ s lens counts ready g)

        -- there is a slot for one frame more
        pub counting-slot : x < left → r + 1 < frame_count
        counting-slot g = (counting-push g).slot
