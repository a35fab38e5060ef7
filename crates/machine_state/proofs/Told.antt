-- What a form about a series comes to where nothing is done, and where something is.
use Rattle.std.proofs.{Common.{◌≡◌, ℕ, Bool, true, false, refl, sym, ap, arith}, lemmas.Grind.common_steps}
use Rattle.history_model.specs.{declared.entries.Author.Author, Entries.entries_of}
use Rattle.request_model.specs.declared.replies.{Answer.Answer, Reply.Reply}
use Rattle.request_model.specs.declared.replies.Refusal.TheVariants as refusal
use Rattle.track_model.specs.{Outcomes.{Outcome, tells, refuses}, Publishing.{OfKnown, OfFactor, OfMany}, Replies.reply_of}
use Rattle.track_model.specs.Tracks.{Track, IsStep, IsTold, with_added}

-- an outcome that tells something and adds nothing
pub tells-it : (Comes : Outcome → Type 0) (old : Track) (author : Author) (answer : Answer) (reply : Reply) → Comes (tells answer) → reply ≡ reply_of (entries_of old.history) (tells answer)
    → (o : Outcome) × Comes o × IsStep old author o old reply
tells-it Comes old author answer reply comes told = (tells answer, comes, record { track = refl; told = told })

-- the same, where it is said that nothing is added; so it is whoever asked
pub only-told : (Comes : Outcome → Type 0) (old : Track) (answer : Answer) (reply : Reply) → Comes (tells answer) → reply ≡ reply_of (entries_of old.history) (tells answer)
    → (o : Outcome) × Comes o × IsTold old o reply
only-told Comes old answer reply comes told = (tells answer, comes, record { adds = refl; told = told })

pub any-step : (old : Track) (author : Author) (o : Outcome) (reply : Reply) → IsTold old o reply → IsStep old author o old reply
any-step old author o reply is = record { track = sym (ap (with_added author old) is.adds); told = is.told }

-- the tests in front of a form
pub factor-out : (Comes : Outcome → Type 0) (b : Bool) → b ≡ false → OfFactor b Comes (refuses refusal.BadPenalty)
factor-out Comes b is = grind (arith, common_steps)

pub factor-in : (Comes : Outcome → Type 0) (o : Outcome) (b : Bool) → b ≡ true → Comes o → OfFactor b Comes o
factor-in Comes o b is comes = grind (arith, common_steps)

pub unknown : (Comes : Outcome → Type 0) (b : Bool) → b ≡ false → OfKnown b Comes (refuses refusal.UnknownSeries)
unknown Comes b is = grind (arith, common_steps)

pub known : (Comes : Outcome → Type 0) (o : Outcome) (b : Bool) → b ≡ true → Comes o → OfKnown b Comes o
known Comes o b is comes = grind (arith, common_steps)

pub few : (Comes : Outcome → Type 0) (n : ℕ) (b : Bool) → b ≡ true → OfMany b n Comes (refuses (refusal.TooFewPoints n))
few Comes n b is = grind (arith, common_steps)

pub many : (Comes : Outcome → Type 0) (o : Outcome) (n : ℕ) (b : Bool) → b ≡ false → Comes o → OfMany b n Comes o
many Comes o n b is comes = grind (arith, common_steps)
