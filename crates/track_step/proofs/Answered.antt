-- Requests that segment nothing, as answers to any.
use Rattle.std.{specs.Prelude.{IfOk, OnErr, Result, Ok, Err}, proofs.Common.{◌≡◌, ℕ, List, true, false, refl, sym, subst, ◌∙◌}}
use Rattle.std.specs.FinSet as set
use Rattle.publication_index.proofs.Homes.{series-total}
use Rattle.history_model.specs.{declared.entries.Author.Author, Entries.entries_of}
use Rattle.request_model.specs.declared.{replies.Reply.Reply, requests.Request.Request}
use Rattle.request_model.specs.declared.requests.Request.TheVariants as request
use Rattle.track_model.specs.{Counts.{Counts, is_segment}, Outcomes.Outcome}
use Rattle.track_model.specs.Tracks.{Track, ComesTo, IsAnswered, IsSameButTables, IsStep, base_asked, with_answered, with_outcome}

-- another request
pub not-segment : (q : Request) → ((machine test metric : List ℕ) → q ≡ request.Segment machine test metric → ⊥) → is_segment q ≡ false
not-segment (request.Machine machine) other = refl
not-segment (request.Commit machine number name) other = refl
not-segment (request.Submit machine commit run samples ignored stated) other = refl
not-segment (request.Retract machine run) other = refl
not-segment (request.Tune machine metric penalty given) other = refl
not-segment (request.Calibrate machine test metric factor) other = refl
not-segment (request.Segment machine test metric) other = absurd (other machine test metric refl)
not-segment (request.Changes machine test metric) other = refl
not-segment (request.Verify machine test metric) other = refl
not-segment (request.Regress machine test metric change) other = refl
not-segment (request.SetState machine number state) other = refl
not-segment (request.Bisect machine lo hi) other = refl
not-segment (request.Answer machine number commit status) other = refl
not-segment (request.Resume machine number) other = refl
not-segment (request.Job machine number) other = refl
not-segment (request.Runs machine) other = refl
not-segment (request.Report machine json) other = refl

plain-base : (t : Track) (q : Request) → is_segment q ≡ false → base_asked t q ≡ 0
plain-base t (request.Machine machine) plain = refl
plain-base t (request.Commit machine number name) plain = refl
plain-base t (request.Submit machine commit run samples ignored stated) plain = refl
plain-base t (request.Retract machine run) plain = refl
plain-base t (request.Tune machine metric penalty given) plain = refl
plain-base t (request.Calibrate machine test metric factor) plain = refl
plain-base t (request.Segment machine test metric) plain = absurd (let no : true ≡ false = plain in cc)
plain-base t (request.Changes machine test metric) plain = refl
plain-base t (request.Verify machine test metric) plain = refl
plain-base t (request.Regress machine test metric change) plain = refl
plain-base t (request.SetState machine number state) plain = refl
plain-base t (request.Bisect machine lo hi) plain = refl
plain-base t (request.Answer machine number commit status) plain = refl
plain-base t (request.Resume machine number) plain = refl
plain-base t (request.Job machine number) plain = refl
plain-base t (request.Runs machine) plain = refl
plain-base t (request.Report machine json) plain = refl

plain-answered : (author : Author) (q : Request) (t : Track) (o : Outcome) → is_segment q ≡ false → with_outcome author t o ≡ with_answered author q t o
plain-answered author (request.Machine machine) t o plain = refl
plain-answered author (request.Commit machine number name) t o plain = refl
plain-answered author (request.Submit machine commit run samples ignored stated) t o plain = refl
plain-answered author (request.Retract machine run) t o plain = refl
plain-answered author (request.Tune machine metric penalty given) t o plain = refl
plain-answered author (request.Calibrate machine test metric factor) t o plain = refl
plain-answered author (request.Segment machine test metric) t o plain = absurd (let no : true ≡ false = plain in cc)
plain-answered author (request.Changes machine test metric) t o plain = refl
plain-answered author (request.Verify machine test metric) t o plain = refl
plain-answered author (request.Regress machine test metric change) t o plain = refl
plain-answered author (request.SetState machine number state) t o plain = refl
plain-answered author (request.Bisect machine lo hi) t o plain = refl
plain-answered author (request.Answer machine number commit status) t o plain = refl
plain-answered author (request.Resume machine number) t o plain = refl
plain-answered author (request.Job machine number) t o plain = refl
plain-answered author (request.Runs machine) t o plain = refl
plain-answered author (request.Report machine json) t o plain = refl

pub plain-counts : (q : Request) (a : _) (n m : ℕ) → is_segment q ≡ false → m ≡ n → Counts q a n m
plain-counts (request.Machine machine) a n m plain same = same
plain-counts (request.Commit machine number name) a n m plain same = same
plain-counts (request.Submit machine commit run samples ignored stated) a n m plain same = same
plain-counts (request.Retract machine run) a n m plain same = same
plain-counts (request.Tune machine metric penalty given) a n m plain same = same
plain-counts (request.Calibrate machine test metric factor) a n m plain same = same
plain-counts (request.Segment machine test metric) a n m plain same = absurd (let no : true ≡ false = plain in cc)
plain-counts (request.Changes machine test metric) a n m plain same = same
plain-counts (request.Verify machine test metric) a n m plain same = same
plain-counts (request.Regress machine test metric change) a n m plain same = same
plain-counts (request.SetState machine number state) a n m plain same = same
plain-counts (request.Bisect machine lo hi) a n m plain same = same
plain-counts (request.Answer machine number commit status) a n m plain same = same
plain-counts (request.Resume machine number) a n m plain same = same
plain-counts (request.Job machine number) a n m plain same = same
plain-counts (request.Runs machine) a n m plain same = same
plain-counts (request.Report machine json) a n m plain same = same

pub answered : (old : Track) (author : Author) (q : Request) (new : Track) (reply : Reply) → is_segment q ≡ false
    → (o : Outcome) × ComesTo (entries_of old.history) 0 q o × IsStep old author o new reply → IsAnswered old author q new reply
answered old author q new reply plain (o, comes, step) = record {
  outcome = o;
  comes = subst (λ (base : ℕ). ComesTo (entries_of old.history) base q o) (sym (plain-base old q plain)) comes;
  track = step.track ∙ plain-answered author q old o plain;
  told = step.told;
}

if-ok : {E : Type 0} (P Q : Reply → Type 0) (r : Result Reply E) → ((x : Reply) → P x → Q x) → IfOk r P → IfOk r Q
if-ok P Q (Ok x) to p = to x p
if-ok P Q (Err e) to p = p

-- an answer to a request that segments nothing
pub answers : {E : Type 0} (r : Result Reply E) (old : Track) (author : Author) (q : Request) (new : Track) → is_segment q ≡ false
    → IfOk r (λ reply. (o : Outcome) × ComesTo (entries_of old.history) 0 q o × IsStep old author o new reply) → IfOk r (λ reply. IsAnswered old author q new reply)
answers r old author q new plain is =
    if-ok (λ reply. (o : Outcome) × ComesTo (entries_of old.history) 0 q o × IsStep old author o new reply) (λ reply. IsAnswered old author q new reply) r
    (λ reply x. answered old author q new reply plain x) is

pub counts : {E : Type 0} (r : Result Reply E) (q : Request) (n m : ℕ) → is_segment q ≡ false → m ≡ n → IfOk r (λ reply. Counts q reply.answer n m)
counts (Ok reply) q n m plain same = plain-counts q reply.answer n m plain same
counts (Err e) q n m plain same = tt

pub left : {T E : Type 0} (r : Result T E) (old new : Track) → OnErr r (new ≡ old) → OnErr r (IsSameButTables old new)
left (Ok x) old new same = tt
left (Err e) old new same = subst (IsSameButTables old) (sym same) (record { machine = refl; kept = refl; history = refl; fewer = set.contains-is_subset series-total old.home old.home (λ q is. is) })
