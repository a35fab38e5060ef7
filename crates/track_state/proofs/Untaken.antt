-- Machines of which no worker has taken a series or a job.
use Rattle.std.{proofs.Common.{◌≡◌, ℕ, Bool, refl, Option, arith}, specs.Prelude.if◌then◌else◌, proofs.lemmas.Grind.common_steps}
use Rattle.history_model.specs.{declared.entries.Author.Author, Runs.Series}
use Rattle.segment_cost.specs.declared.done.Done.{Done}
use Rattle.touch_index.specs.declared.mark.Claim.{Claim, TheVariants.{Free, Taken}}
use Rattle.track_step.specs.{Settled.Settled, Published.Published, Snapshot.Snapshot}
use Rattle.track_model.specs.Tracks.{Track}
use Rattle.track_state.specs.{declared.questions.Question.Question, Questions.Settles, Taking.{Publishes, TakesStale}}
use Rattle.track_state.specs.Work.{ClaimsStay, IsUntaken, Work, unclaimed}

free-is : Free ≡ Taken → ⊥
free-is is = absurd (let never : Free ≡ Taken = is in cc)

chosen : (b : Bool) (one other : Claim) → (one ≡ Taken → ⊥) → (other ≡ Taken → ⊥) → (if b then one else other) ≡ Taken → ⊥
chosen b one other first second is = grind (arith, common_steps)

-- nothing is claimed of it
pub unclaimed-untaken : (t : Track) → IsUntaken (unclaimed t)
unclaimed-untaken t = record { series = λ s is. free-is is; jobs = refl }

-- all claims stay
pub untaken-stays : (old new : Work) → ClaimsStay old new → new.jobs ≡ old.jobs → IsUntaken old → IsUntaken new
untaken-stays old new claims jobs free = grind (arith, common_steps)

-- a stale series is looked at
pub stale-untaken : (old : Work) (s : Series) (o : Option Snapshot) (new : Work) → TakesStale old s o new → IsUntaken old → IsUntaken new
stale-untaken old s o new takes free = grind (arith, common_steps)

-- something was said of a question
pub settled-untaken : (old : Work) (author : Author) (q : Question) (status : Option ℕ) (told : Settled) (new : Work)
    → Settles old author q status told new → IsUntaken old → IsUntaken new
settled-untaken old author q status told new settles free = grind (arith, common_steps)

-- a segmentation was handed in
pub published-untaken : (old : Work) (author : Author) (done : Done) (told : Published) (new : Work)
    → Publishes old author done told new → IsUntaken old → IsUntaken new
published-untaken old author done told new publishes free = grind (arith, common_steps)
