-- Private: no public contract cites this. Outcomes that add an entry exactly where their answer says so.
use Rattle.std.proofs.Common.{◌≡◌, ℕ, zero, suc, ◌+◌, ◌<◌, ◌⊎◌, inl, inr, Bool, true, false, List, [], ◌∷◌, ◌++◌, length, Option, Some, None, refl, sym, ap, subst, ◌∙◌, arith, length-append}
use Rattle.std.{specs.Prelude.{is_none, slice_get, option_map}, proofs.lemmas.Option.slice_get_within}
use Rattle.metric_table.specs.declared.limits.Limit.{Limit}
use Rattle.bisect_core.specs.Bisections.{Bisection}
use Rattle.history_model.specs.{declared.entries.Entry.Entry, declared.events.JobEvent.JobEvent, Allowed.first_passed}
use Rattle.history_model.specs.declared.entries.Entry.TheVariants as entry
use Rattle.history_model.specs.declared.events.JobEvent.TheVariants as event
use Rattle.history_model.{specs.Jobs.{Begun, begun, begins, standing_from, jobs, job_in}, proofs.Chosen.{chosen-push, chosen-skip}}
use Rattle.request_model.specs.declared.replies.{Answer.Answer, Refusal.Refusal, Refusal.TheVariants.UnknownJob}
use Rattle.track_model.specs.{Following.{job_answer, told_if, of_job}, Outcomes.{Outcome, tells, refuses, refusal_if, first, unless, added_unless, adds_within}}
use Rattle.reply_laws.specs.Kinds.{tells_none}

abbrev pub Plain : Outcome → Type 0
Plain o = is_none o.adds ≡ tells_none o.answer

-- an answer before others that tells of nothing new, where there is one
abbrev pub IsTold : Option Answer → Type 0
IsTold None = Unit {0}
IsTold (Some a) = tells_none a ≡ true

abbrev pub AreTold : List (Option Answer) → Type 0
AreTold [] = Unit {0}
AreTold (a ∷ more) = IsTold a × AreTold more

pub told-first : (answers : List (Option Answer)) → AreTold answers → IsTold (first answers)
told-first [] each = tt
told-first (Some a ∷ more) each = each.0
told-first (None ∷ more) each = told-first more each.1

pub told-if : (test : Bool) (r : Refusal) → IsTold (refusal_if test r)
told-if true r = refl
told-if false r = tt

pub told-map : {A : Type 0} (f : A → Answer) → ((x : A) → tells_none (f x) ≡ true) → (o : Option A) → IsTold (option_map f o)
told-map f each None = tt
told-map f each (Some x) = each x

pub plain-unless : (a : Option Answer) (o : Outcome) → IsTold a → Plain o → Plain (unless a o)
plain-unless None o told plain = plain
plain-unless (Some a) o told plain = sym told

plain-added : (passed : Option Limit) (e : Entry) (told : Answer) → tells_none told ≡ false → Plain (added_unless passed e told)
plain-added None e told is = sym is
plain-added (Some limit) e told is = refl

pub plain-within : (limits : List Limit) (h : List Entry) (e : Entry) (told : Answer) → tells_none told ≡ false → Plain (adds_within limits h e told)
plain-within limits h e told is = plain-added (first_passed limits h e) e told is

-- ---- jobs that are there

one-each : (h : List Entry) (k : ℕ) (bs : List Begun) → length (standing_from h k bs) ≡ length bs
one-each h k [] = refl
one-each h k (b ∷ bs) = ap suc (one-each h (k + 1) bs)

some-at : {A : Type 0} (xs : List A) (k : ℕ) → k < length xs → (x : A) × (slice_get xs k ≡ Some x)
some-at [] k below = absurd (omega (arith, below))
some-at (x ∷ xs) zero below = (x, refl)
some-at (x ∷ xs) (suc k) below = some-at xs k (omega (arith, below))

told-job : (h : List Entry) (number : ℕ) (o : Option Bisection) (b : Bisection) → o ≡ Some b → tells_none (told_if h number o) ≡ false
told-job h number None b is = absurd (cc)
told-job h number (Some x) b is = refl

-- what is told of a job that is begun
pub told-begun : (h : List Entry) (lo hi : ℕ) → tells_none (job_answer (h ++ entry.Job (event.Begin lo hi) ∷ []) (length (jobs h) + 1)) ≡ false
told-begun h lo hi =
    let e : Entry = entry.Job (event.Begin lo hi) in
    let g : List Entry = h ++ e ∷ [] in
    let old : length (jobs h) ≡ length (begins h) = one-each h 1 (begins h) in
    let more : length (jobs g) ≡ length (begins g) = one-each g 1 (begins g) in
    let grown : length (begins g) ≡ length (begins h) + 1 = ap length (chosen-push begun h e) ∙ length-append (begins h) (record { step = length h + 1; lo = lo; hi = hi } ∷ []) in
    let at : (b : Bisection) × (slice_get (jobs g) (length (jobs h)) ≡ Some b) = some-at (jobs g) (length (jobs h)) (omega (arith, old, more, grown)) in
    let step : length (jobs h) + 1 ≡ suc (length (jobs h)) = omega arith in
    rw step (told-job g (suc (length (jobs h))) (slice_get (jobs g) (length (jobs h))) at.0 at.1)

-- what is told of a job of which something is said
pub told-said : (h : List Entry) (number : ℕ) (said : JobEvent) (b : Bisection) → begun (length h + 1) (entry.Job said) ≡ None → job_in number (jobs h) ≡ Some b
    → tells_none (job_answer (h ++ entry.Job said ∷ []) number) ≡ false
told-said h zero said b none there = absurd (cc)
told-said h (suc k) said b none there =
    let g : List Entry = h ++ entry.Job said ∷ [] in
    let old : length (jobs h) ≡ length (begins h) = one-each h 1 (begins h) in
    let more : length (jobs g) ≡ length (begins g) = one-each g 1 (begins g) in
    let same : length (begins g) ≡ length (begins h) = ap length (chosen-skip begun h (entry.Job said) none) in
    let within : k < length (jobs h) = slice_get_within (jobs h) k b there in
    let at : (x : Bisection) × (slice_get (jobs g) k ≡ Some x) = some-at (jobs g) k (omega (arith, old, more, same, within)) in
    told-job g (suc k) (slice_get (jobs g) k) at.0 at.1

of-none : (h : List Entry) (number : ℕ) (told : Bisection → Outcome) → job_in number (jobs h) ≡ None → of_job h number told ≡ refuses UnknownJob
of-none h number told none = rw none refl

of-some : (h : List Entry) (number : ℕ) (told : Bisection → Outcome) (b : Bisection) → job_in number (jobs h) ≡ Some b → of_job h number told ≡ told b
of-some h number told b some = rw some refl

is-there : {A : Type 0} (o : Option A) → (o ≡ None) ⊎ ((x : A) × (o ≡ Some x))
is-there None = inl refl
is-there (Some x) = inr (x, refl)

pub plain-job : (h : List Entry) (number : ℕ) (told : Bisection → Outcome) → ((b : Bisection) → job_in number (jobs h) ≡ Some b → Plain (told b))
    → Plain (of_job h number told)
plain-job h number told each = elim (is-there (job_in number (jobs h))) [
  | inl none ↦ subst Plain (sym (of-none h number told none)) refl
  | inr some ↦ subst Plain (sym (of-some h number told some.0 some.1)) (each some.0 some.1)
]
