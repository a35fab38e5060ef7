-- The metrics that a legal history names are short, since each is that of a sample, or of a penalty.
use Rattle.std.proofs.lemmas.Grind.{common_steps}
use Rattle.std.proofs.Common.{◌≡◌, ℕ, zero, suc, ◌+◌, ◌≤◌, inl, inr, Bool, true, ◌&&◌, ◌||◌, List, [], ◌∷◌, ◌++◌, length, take, subst, arith}
use Rattle.std.{specs.List.{AllByRecursion, list_any}, proofs.lemmas.Bool.cases_Bool, proofs.lemmas.List.Elements.recursion_from_All}
use Rattle.sample_model.specs.Samples.{Measurement, IsSample, AreSamples}
use Rattle.history_model.specs.declared.entries.{Acceptance.Acceptance, Entry.Entry, Entry.TheVariants.{Accept, Tune, Publish, Regression}}
use Rattle.history_model.specs.{declared.events.RegressionEvent.TheVariants.{Raise, Move}, Allowed.{AllowedAfter, MayFollow}, Entries.chosen_from}
use Rattle.history_model.specs.Runs.{Series, acceptance, is_of}
use Rattle.track_entry.specs.{Texts.HasShortMetric, Laws.LegalIsShort}

-- the samples of a run that the entry accepts are samples
abbrev HasSamples : Entry → Type 0
HasSamples (Accept run) = AreSamples run.samples
HasSamples e = Unit {0}

all_take : {A : Type 0} (P : A → Type 0) (n : ℕ) (xs : List A) → AllByRecursion P xs → AllByRecursion P (take n xs)
all_take P zero xs all = tt
all_take P (suc n) [] all = tt
all_take P (suc n) (x ∷ xs) all = (all.0, all_take P n xs all.1)

all_more : {A : Type 0} (P : A → Type 0) (xs : List A) (x : A) → AllByRecursion P xs → P x → AllByRecursion P (xs ++ x ∷ [])
all_more P [] x all last = (last, tt)
all_more P (y ∷ xs) x all last = (all.0, all_more P xs x all.1 last)

second : (a b : Bool) → (a && b) ≡ true → b ≡ true
second a b both = grind (arith, common_steps)

module _ (s : Series) where
  sample_short : (x : Measurement) → IsSample x → is_of s x ≡ true → length s.metric ≤ 64
  sample_short x is of = grind (arith, common_steps)

  samples_short : (xs : List Measurement) → AllByRecursion IsSample xs → list_any (is_of s) xs ≡ true → length s.metric ≤ 64
  samples_short [] are any = absurd cc
  samples_short (x ∷ xs) are any = elim (cases_Bool (is_of s x)) [
    | inl hit ↦ sample_short x are.0 hit
    | inr past ↦ samples_short xs are.1 (subst (λ b. (b || list_any (is_of s) xs) ≡ true) past any)
  ]

  abbrev measures : Acceptance → Bool
  measures a = list_any (is_of s) a.run.samples

  known_short : (step : ℕ) (h : List Entry) → AllByRecursion HasSamples h → list_any measures (chosen_from step acceptance h) ≡ true → length s.metric ≤ 64
  known_short step [] are known = absurd cc
  known_short step (Accept run ∷ h) are known = elim (cases_Bool (list_any (is_of s) run.samples)) [
    | inl hit ↦ samples_short run.samples (recursion_from_All IsSample run.samples are.0.each) hit
    | inr past ↦ known_short (step + 1) h are.1 (subst (λ b. (b || list_any measures (chosen_from (step + 1) acceptance h)) ≡ true) past known)
  ]
  known_short step (e ∷ h) are known = known_short (step + 1) h are.1 known

has_samples : (h : List Entry) (e : Entry) → MayFollow h e → HasSamples e
has_samples h e may = grind (arith, common_steps)

short : (h : List Entry) (e : Entry) → AllByRecursion HasSamples h → MayFollow h e → HasShortMetric e
short h (Tune metric penalty len) are may = may.0
short h (Publish p) are may = known_short (record { test = p.test; metric = p.metric }) 1 (take p.version h) (all_take HasSamples p.version h are) may.0.known
short h (Regression (Raise r)) are may = known_short (record { test = r.test; metric = r.metric }) 1 h are may.0
short h (Regression (Move number state)) are may = tt
short h e are may = tt

all_short : (h es : List Entry) → AllByRecursion HasSamples h → AllowedAfter h es → AllByRecursion HasShortMetric es
all_short h [] are allowed = tt
all_short h (e ∷ es) are allowed = (
  short h e are allowed.0.0,
  all_short (h ++ e ∷ []) es (all_more HasSamples h e are (has_samples h e allowed.0.0)) allowed.1,
)

pub legal_short : LegalIsShort
legal_short h legal = all_short [] h tt legal
