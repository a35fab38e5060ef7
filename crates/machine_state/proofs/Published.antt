-- What is kept of the last publication of a series, and what a form comes to by it.
use Rattle.std.proofs.{Common.{◌≡◌, List, Option, Some, None, arith}, lemmas.Grind.common_steps}
use Rattle.segment_cost.specs.declared.done.Done.{Done}
use Rattle.history_model.specs.{declared.entries.Entry.Entry, declared.publication.Publication.Publication, Allowed.Legal, Laws.LastStands}
use Rattle.history_model.specs.{Publications.last_publication, Runs.{Series, is_known}}
use Rattle.request_model.specs.declared.replies.Refusal.{Refusal}
use Rattle.publication_index.specs.Kept.{series_of}
use Rattle.track_model.specs.{Outcomes.{Outcome, refuses}, Publishing.{OfKnown, OfPublished}}
use Rattle.machine_state.specs.{Made.{publication_from, IsMadeFrom}, State.{HasNone, IsKept, IsLast}}

pub nothing : (h : List Entry) (o : Option Publication) (d : Option Done) → IsKept h o d → d ≡ None → o ≡ None
nothing h o d is none = grind (arith, common_steps)

pub something : (h : List Entry) (o : Option Publication) (done : Done) → IsKept h o (Some done) → (o ≡ Some (publication_from done)) × IsMadeFrom h done
something h o done is = grind (arith, common_steps)

-- a publication of the series
pub of-series : LastStands → (h : List Entry) (s : Series) (done : Done) → Legal h → last_publication s h ≡ Some (publication_from done) → series_of done ≡ s
of-series last h s done legal is = (last h s (publication_from done) legal is).0

-- a request about the last publication comes to what is told of it, or is refused
pub tells-last : (Comes : Publication → Outcome → Type 0) (h : List Entry) (s : Series) (done : Done) (o : Outcome) → IsLast h s done → Comes (publication_from done) o
    → OfKnown (is_known s h) (OfPublished (last_publication s h) Comes) o
tells-last Comes h s done o last comes = grind (arith, common_steps)

pub tells-none : (Comes : Publication → Outcome → Type 0) (h : List Entry) (s : Series) (why : Refusal) → HasNone h s why
    → OfKnown (is_known s h) (OfPublished (last_publication s h) Comes) (refuses why)
tells-none Comes h s why = grind (arith, common_steps)
