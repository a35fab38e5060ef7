-- No public contract cites this. What is told of a run by what its store says of it.
use Rattle.std.specs.Prelude.{Option, Some, None}
use Rattle.request_model.specs.declared.replies.Answer.{Answer}
use Rattle.request_model.specs.declared.replies.Answer.TheVariants as answer
use Rattle.request_model.specs.declared.replies.Refusal.TheVariants as refusal
use Rattle.sample_store.specs.declared.answers.Accepted.{Accepted}
use Rattle.sample_store.specs.declared.answers.Accepted.TheVariants as taken

-- nothing where its name is new
abbrev pub told_of : Accepted → Option Answer
told_of taken.New = None
told_of (taken.Duplicate step) = Some (answer.Duplicate step)
told_of (taken.Clash step) = Some (answer.Refused (refusal.IdentityClash step))
told_of (taken.Full limit) = None
