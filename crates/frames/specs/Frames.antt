-- The stack of open nodes. A frame has four numbers: one more than the node's depth, the greatest length of its names so far, where its names
-- end, and how many records stand behind its last one. Frames count from 1; number 0 is no node and has depth 0.
--     frame_count               for how many frames there is a place
--     no_frame, frame_at         a frame that is no node; frame t
--     depth_in, width_in, end_in, mark_in    the numbers of frame t
--     with_frame, raised         the frames with frame t anew; with names of that length in frame t, too
--     FramesStand               frames with one on top
--     PushAsk, RaiseAsk         what one frame more asks, and names more in a frame
-- The laws are in proofs/. Assumes nothing: these are definitions.
use Rattle.std.specs.Prelude.{ℕ, ◌+◌, ◌<◌, max, ◌≡◌, List, length, get_or, set}
use Rattle.frames.specs.declared.Frame.{Frame}
use Rattle.frames.specs.declared.LeftOpen.{LeftOpen}

-- more than there are depths
abbrev pub frame_count : ℕ
frame_count = 203

abbrev pub no_frame : Frame
no_frame = record { depth = 0; width = 0; end = 0; mark = 0 }

abbrev pub frame_at : List Frame → ℕ → Frame
frame_at frames t = get_or frames t no_frame

abbrev pub depth_in : List Frame → ℕ → ℕ
depth_in frames t = (frame_at frames t).depth

abbrev pub width_in : List Frame → ℕ → ℕ
width_in frames t = (frame_at frames t).width

abbrev pub end_in : List Frame → ℕ → ℕ
end_in frames t = (frame_at frames t).end

abbrev pub mark_in : List Frame → ℕ → ℕ
mark_in frames t = (frame_at frames t).mark

unfoldable pub with_frame : List Frame → ℕ → ℕ → ℕ → ℕ → ℕ → List Frame
with_frame frames t depth width end mark = set frames t (record { depth = depth; width = width; end = end; mark = mark })

unfoldable pub raised : List Frame → ℕ → ℕ → List Frame
raised frames t width = set frames t (record { depth = depth_in frames t; width = max width (width_in frames t); end = end_in frames t; mark = mark_in frames t })

pub record FramesStand (frames : List Frame) (top : ℕ) : Type 0 where
  pub sentinel : depth_in frames 0 ≡ 0
  pub slots : length frames ≡ frame_count
  pub slot : top < frame_count

-- one frame more has a slot, and its numbers fit
pub record PushAsk (depth : ℕ) (p : LeftOpen) : Type 0 where
  pub slot : p.top + 1 < frame_count
  pub depth-fits : depth < 256
  pub width_fits : p.width < 256
  pub end_fits : p.end < 65536
  pub mark-fits : p.mark < 65536

pub record RaiseAsk (p : LeftOpen) : Type 0 where
  pub slot : p.top < frame_count
  pub width_fits : p.width < 256
