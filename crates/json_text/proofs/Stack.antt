-- A stack as frames.
use Rattle.std.proofs.{Common.{◌≡◌, ◌+◌, ◌<◌, List, [], ◌∷◌, ◌++◌, length, None, refl, arith, ap, ◌∙◌}, lemmas.Grind.common_steps}
use Rattle.json_text.specs.{declared.state.Open.Open, Machine.{Frame, Mode, finish}, States.{frame_of, frames_onto, frames_of}}

-- as many frames as the stack has entries
pub length_frames_onto : (stack : List Open) (frames : List Frame) → length (frames_onto stack frames) ≡ length stack + length frames
length_frames_onto [] frames = omega arith
length_frames_onto (outer ∷ inner) frames = omega (arith, length_frames_onto inner (frame_of outer ∷ frames))

pub length_frames : (stack : List Open) → length (frames_of stack) ≡ length stack
length_frames stack = omega (arith, length_frames_onto stack [])

pub frames_onto_end : (stack : List Open) (last : Open) (frames : List Frame) → frames_onto (stack ++ last ∷ []) frames ≡ frame_of last ∷ frames_onto stack frames
frames_onto_end [] last frames = refl
frames_onto_end (outer ∷ inner) last frames = frames_onto_end inner last (frame_of outer ∷ frames)

-- the last of the stack is the innermost
pub frames_end : (stack : List Open) (last : Open) → frames_of (stack ++ last ∷ []) ≡ frame_of last ∷ frames_of stack
frames_end stack last = frames_onto_end stack last []

-- what a pop took is the innermost
pub frames_pop : (old new : List Open) (last : Open) → old ≡ new ++ last ∷ [] → frames_of old ≡ frame_of last ∷ frames_of new
frames_pop old new last e = ap frames_of e ∙ frames_end new last

-- nothing ends where something is open
pub finish_open : (mode : Mode) (frames : List Frame) → 0 < length frames → None ≡ finish mode frames
finish_open mode frames h = grind (arith, common_steps)
