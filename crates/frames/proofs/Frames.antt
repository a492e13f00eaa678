-- Laws of the stack of frames.
--     with-depth, with-width, with-end, with-mark, width-raised     what stands in frame t when it is stored anew; a greater width
--     SameFrame, frame_below, frame-raised     a frame keeps its numbers where another is stored, and all but its width where names come in
--     width-below, width-other                 .. and its width, below the frame that is stored
--     framed-with, framed-raised               one frame more on top; names more in the top frame
-- Assumes nothing.
use Prim.Native.Nat.{ℕ, suc, ◌≤◌, ◌<◌, max}
use native.Mathlib.Nat.{lt_irrefl}
use native.Mathlib.Decide.{ℕ_discrete}
use native.Mathlib.Omega.{arith}
use mathlib.Core.Path.{◌≡◌, refl, sym, ap, ◌∙◌, subst}
use mathlib.Core.List.{List}
use mathlib.Core.Logic.{◌⊎◌, inl, inr}
use lib.ListN.{length, length-set}
use lib.Seq.{get_or-set_other, get_or-set_same}
use Rattle.std.proofs.lemmas.List.{set_past}
use Rattle.words.proofs.Words.{apart}
use Rattle.frames.specs.declared.Frame.{Frame}
use Rattle.frames.specs.Frames.{FramesStand, depth_in, end_in, frame_at, frame_count, mark_in, no_frame, raised, width_in, with_frame}

-- frame t has the same numbers in both, but for its width
pub record SameFrame (frames others : List Frame) (t : ℕ) : Type 0 where
  pub depth : depth_in others t ≡ depth_in frames t
  pub end : end_in others t ≡ end_in frames t
  pub mark : mark_in others t ≡ mark_in frames t

-- ---- a frame anew

module _ (frames : List Frame) (t d w e m : ℕ) where
  with-length : length (with_frame frames t d w e m) ≡ length frames
  unfolding with_frame
  with-length = length-set frames t (record { depth = d; width = w; end = e; mark = m })

  module _ (h : t < length frames) where
    with-all : ◌≡◌ {A = Frame} (frame_at (with_frame frames t d w e m) t) (record { depth = d; width = w; end = e; mark = m })
    unfolding with_frame
    with-all = get_or-set_same frames t (record { depth = d; width = w; end = e; mark = m }) no_frame h

    pub with-depth : depth_in (with_frame frames t d w e m) t ≡ d
    with-depth = ap (λ (f : Frame). f.depth) with-all

    pub with-width : width_in (with_frame frames t d w e m) t ≡ w
    with-width = ap (λ (f : Frame). f.width) with-all

    pub with-end : end_in (with_frame frames t d w e m) t ≡ e
    with-end = ap (λ (f : Frame). f.end) with-all

    pub with-mark : mark_in (with_frame frames t d w e m) t ≡ m
    with-mark = ap (λ (f : Frame). f.mark) with-all

  module _ (i : ℕ) (h : i < t) where
    all-below : frame_at (with_frame frames t d w e m) i ≡ frame_at frames i
    unfolding with_frame
    all-below = get_or-set_other frames t i (record { depth = d; width = w; end = e; mark = m }) no_frame (λ e. lt_irrefl i (omega arith))

    pub frame_below : SameFrame frames (with_frame frames t d w e m) i
    frame_below = record { depth = ap (λ (f : Frame). f.depth) all-below; end = ap (λ (f : Frame). f.end) all-below; mark = ap (λ (f : Frame). f.mark) all-below }

    pub width-below : width_in (with_frame frames t d w e m) i ≡ width_in frames i
    width-below = ap (λ (f : Frame). f.width) all-below

-- ---- names more

module _ (frames : List Frame) (t w : ℕ) where
  abbrev grown : Frame
  grown = record { depth = depth_in frames t; width = max w (width_in frames t); end = end_in frames t; mark = mark_in frames t }

  raised-length : length (raised frames t w) ≡ length frames
  unfolding raised
  raised-length = length-set frames t grown

  raised-other : (i : ℕ) → (i ≡ t → ⊥) → frame_at (raised frames t w) i ≡ frame_at frames i
  unfolding raised
  raised-other i n = get_or-set_other frames t i grown no_frame n

  raised-all : t < length frames → frame_at (raised frames t w) t ≡ grown
  unfolding raised
  raised-all h = get_or-set_same frames t grown no_frame h

  pub frame-raised : (i : ℕ) → SameFrame frames (raised frames t w) i
  unfolding raised
  frame-raised i = elim (ℕ_discrete i t) [
    | yes same ↦ subst (SameFrame frames (raised frames t w)) (sym same) (here (apart t (length frames)))
    | no other ↦ let e : frame_at (raised frames t w) i ≡ frame_at frames i = raised-other i other in
        record { depth = ap (λ (f : Frame). f.depth) e; end = ap (λ (f : Frame). f.end) e; mark = ap (λ (f : Frame). f.mark) e }
  ]
    where
      here : (t < length frames) ⊎ (length frames ≤ t) → SameFrame frames (raised frames t w) t
      here (inl h) =
          let e : ◌≡◌ {A = Frame} (frame_at (raised frames t w) t) grown = raised-all h in
          record { depth = ap (λ (f : Frame). f.depth) e; end = ap (λ (f : Frame). f.end) e; mark = ap (λ (f : Frame). f.mark) e }
      here (inr h) = let e : raised frames t w ≡ frames = set_past frames t grown h in rw e (record { depth = refl; end = refl; mark = refl })

  pub width-other : (i : ℕ) → i < t → width_in (raised frames t w) i ≡ width_in frames i
  width-other i l = ap (λ (f : Frame). f.width) (raised-other i (λ e. lt_irrefl i (omega arith)))

  pub width-raised : t < length frames → width_in (raised frames t w) t ≡ max w (width_in frames t)
  width-raised h = ap (λ (f : Frame). f.width) (raised-all h)

-- ---- the frames with one on top

pub framed-with : {frames : List Frame} {t : ℕ} (d w e m : ℕ) → FramesStand frames t → suc t < frame_count → FramesStand (with_frame frames (suc t) d w e m) (suc t)
framed-with {frames} {t} d w e m f h = record {
  sentinel = (frame_below frames (suc t) d w e m 0 (omega arith)).depth ∙ f.sentinel;
  slots = with-length frames (suc t) d w e m ∙ f.slots;
  slot = h;
}

pub framed-raised : {frames : List Frame} {t : ℕ} (w : ℕ) → FramesStand frames t → FramesStand (raised frames t w) t
framed-raised {frames} {t} w f = record {
  sentinel = (frame-raised frames t w 0).depth ∙ f.sentinel;
  slots = raised-length frames t w ∙ f.slots;
  slot = f.slot;
}
