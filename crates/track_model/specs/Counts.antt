-- How many steps a request took, by its answer.
use Rattle.std.specs.Prelude.{◌≡◌, ℕ, ◌+◌, Bool, true, false}
use Rattle.request_model.specs.declared.{requests.Request.Request, replies.Answer.Answer, replies.Refusal.Refusal}
use Rattle.request_model.specs.declared.requests.Request.TheVariants as request
use Rattle.request_model.specs.declared.replies.Answer.TheVariants as answer
use Rattle.request_model.specs.declared.replies.Refusal.TheVariants as refusal

-- how many positions an answer says were looked at anew
abbrev pub redone_in : Answer → ℕ
redone_in (answer.Segmented version base points cuts redone total) = redone
redone_in a = 0

-- whether an answer refuses a limit
abbrev pub is_full_reason : Refusal → Bool
is_full_reason (refusal.Full limit) = true
is_full_reason why = false

abbrev pub is_full : Answer → Bool
is_full (answer.Refused why) = is_full_reason why
is_full a = false

-- the steps rose by as many as a segmentation says; where it was refused a limit, that isn't said
abbrev pub CountsOf : Answer → ℕ → ℕ → Type 0
CountsOf a before after = is_full a ≡ false → after ≡ before + redone_in a

-- whether a request segments a series
abbrev pub is_segment : Request → Bool
is_segment (request.Segment machine test metric) = true
is_segment q = false

-- the steps rose by as many as a request took; none but a segmentation takes any
abbrev pub Counts : Request → Answer → ℕ → ℕ → Type 0
Counts (request.Segment machine test metric) a before after = CountsOf a before after
Counts q a before after = after ≡ before
