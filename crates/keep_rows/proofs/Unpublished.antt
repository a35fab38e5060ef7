-- A history without its publications is legal where the history is.
use Rattle.std.proofs.Common.{◌≡◌, ℕ, ◌+◌, ◌≤◌, inl, inr, Bool, true, false, cond, ◌||◌, List, [], ◌∷◌, ◌++◌, length, map, Option, None, Some, refl, sym, ap, ap₂, subst, ◌∙◌, arith, append-nil}
use Rattle.std.{specs.Prelude.{find, filter, flat_map, is_none, IsSome, option_map, sum_by, bytes_eq}, specs.List.list_any, proofs.lemmas.Bool.cases_Bool}
use Rattle.std.proofs.lemmas.List.{length-map, map-append, Elements.filter-append}
use Rattle.metric_table.specs.declared.limits.Limit.{Limit}
use Rattle.metric_table.specs.declared.limits.Limit.TheVariants as limit
use Rattle.sample_model.specs.Samples.{Measurement}
use Rattle.regression_state.specs.{declared.states.State.State, Moves.is_move}
use Rattle.history_model.specs.declared.{entries.Acceptance.Acceptance, entries.Entry.Entry, run.Run.Run}
use Rattle.history_model.specs.declared.entries.Entry.TheVariants as entry
use Rattle.history_model.specs.declared.events.JobEvent.TheVariants as job
use Rattle.history_model.specs.declared.events.RegressionEvent.TheVariants as regression
use Rattle.history_model.specs.{Allowed.{Allowed, AllowedAfter, Legal, KeepsLimits, MayFollow, count_of, greatest_of}, Commits.declarations}
use Rattle.history_model.specs.{Entries.chosen_from, Jobs.{asked, job_in, open_count, place_asked}}
use Rattle.history_model.specs.{Positions.{Brought, brought, brought_by, positions, positions_of, position_at, rising}, Publications.publication}
use Rattle.history_model.specs.Regressions.{is_number}
use Rattle.history_model.specs.Runs.{Retraction, Series, acceptance, acceptances, accepted, is_known, is_of, known_series, live_of, live_runs, retraction, retractions, retracted, same_series, distinct}
use Rattle.keep_rows.specs.Kept.{is_kept}
use Rattle.keep_rows.proofs.Choices.{filter_map, filter_so, find_map, flat_map_map, map_map, map_so, never, pair_of, same_chosen, same_name, same_number, same_pairs, shorter, sum_map}
use Rattle.keep_rows.proofs.Followed.{same_regressions, same_state, same_jobs}

-- ---- runs
unfoldable pub run_of : Acceptance → Run
run_of a = a.run

name_taken : Retraction → List ℕ
name_taken r = r.run

accepted_same : (s t : ℕ) (e : Entry) → option_map run_of (acceptance s e) ≡ option_map run_of (acceptance t e)
unfolding run_of
accepted_same s t (entry.Accept run) = refl
accepted_same s t e = refl

taken_same : (s t : ℕ) (e : Entry) → option_map name_taken (retraction s e) ≡ option_map name_taken (retraction t e)
unfolding name_taken
taken_same s t (entry.Retract run) = refl
taken_same s t e = refl

pub accepted_none : (s : ℕ) (e : Entry) → is_kept e ≡ false → acceptance s e ≡ None
accepted_none = never acceptance (λ s p. refl)

pub taken_none : (s : ℕ) (e : Entry) → is_kept e ≡ false → retraction s e ≡ None
taken_none = never retraction (λ s p. refl)

none_before : {A B : Type 0} (f : A → B) (x y : Option A) → option_map f x ≡ option_map f y → y ≡ None → x ≡ None
none_before f None y same none = refl
none_before f (Some x) None same none = absurd cc
none_before f (Some x) (Some y) same none = absurd cc

some_before : {A B : Type 0} (f : A → B) (x y : Option A) → option_map f x ≡ option_map f y → IsSome y → IsSome x
some_before f None None same some = some
some_before f None (Some y) same some = absurd cc
some_before f (Some x) y same some = refl

module _ (h : List Entry) where
  same_runs : map run_of (acceptances (filter is_kept h)) ≡ map run_of (acceptances h)
  same_runs = same_chosen run_of acceptance accepted_same accepted_none h

  same_taken : map name_taken (retractions (filter is_kept h)) ≡ map name_taken (retractions h)
  same_taken = same_chosen name_taken retraction taken_same taken_none h

  accepted_so : (run : List ℕ) → option_map run_of (accepted run (filter is_kept h)) ≡ option_map run_of (accepted run h)
  unfolding run_of
  accepted_so run =
      find_map run_of (λ (r : Run). bytes_eq r.run run) (acceptances (filter is_kept h)) ∙ ap (find (λ (r : Run). bytes_eq r.run run)) same_runs
      ∙ sym (find_map run_of (λ (r : Run). bytes_eq r.run run) (acceptances h))

  retracted_so : (run : List ℕ) → option_map name_taken (retracted run (filter is_kept h)) ≡ option_map name_taken (retracted run h)
  unfolding name_taken
  retracted_so run =
      find_map name_taken (λ (n : List ℕ). bytes_eq n run) (retractions (filter is_kept h)) ∙ ap (find (λ (n : List ℕ). bytes_eq n run)) same_taken
      ∙ sym (find_map name_taken (λ (n : List ℕ). bytes_eq n run) (retractions h))

-- a series is known where it was
any_map : {A B : Type 0} (f : A → B) (q : B → Bool) (xs : List A) → list_any (λ x. q (f x)) xs ≡ list_any q (map f xs)
any_map f q [] = refl
any_map f q (x ∷ xs) = ap (λ b. q (f x) || b) (any_map f q xs)

brings : Series → Run → Bool
brings s r = list_any (is_of s) r.samples

pub known_so : (s : Series) (h : List Entry) → is_known s (filter is_kept h) ≡ is_known s h
unfolding run_of brings
known_so s h = any_map run_of (brings s) (acceptances (filter is_kept h)) ∙ ap (list_any (brings s)) (same_runs h) ∙ sym (any_map run_of (brings s) (acceptances h))

-- a job asks the place that it asked
asked_so : (number : ℕ) (h : List Entry) → asked number (filter is_kept h) ≡ asked number h
asked_so number h = ap (λ js. place_asked (job_in number js)) (same_jobs h)

-- ---- what an entry needs stays
may_follow : (h : List Entry) (e : Entry) → is_kept e ≡ true → MayFollow h e → MayFollow (filter is_kept h) e
may_follow h (entry.Commit number name) is may = (same_name h number ∙ may.0, same_number h name ∙ may.1)
may_follow h (entry.Accept run) is may = (
  none_before run_of (accepted run.run (filter is_kept h)) (accepted run.run h) (accepted_so h run.run) may.0,
  rw (same_name h run.commit) may.1,
  may.2,
)
may_follow h (entry.Retract run) is may = (
  some_before run_of (accepted run (filter is_kept h)) (accepted run h) (accepted_so h run) may.0,
  none_before name_taken (retracted run (filter is_kept h)) (retracted run h) (retracted_so h run) may.1,
)
may_follow h (entry.Tune metric penalty len) is may = may
may_follow h (entry.Publish p) is may = absurd cc
may_follow h (entry.Regression (regression.Raise r)) is may = (
  known_so (record { test = r.test; metric = r.metric }) h ∙ may.0,
  rw (same_name h r.before) may.1,
  rw (same_name h r.after) may.2,
  may.3,
)
may_follow h (entry.Regression (regression.Move number state)) is may = (
  ap (λ (n : ℕ). is_number n number) (ap length (same_regressions h)) ∙ may.0,
  ap (λ (s : State). is_move s state) (same_state number h) ∙ may.1,
)
may_follow h (entry.Job (job.Begin lo hi)) is may = (rw (same_name h lo) may.0, rw (same_name h hi) may.1, may.2)
may_follow h (entry.Job (job.Answer number place status)) is may = asked_so number h ∙ may
may_follow h (entry.Job (job.GiveUp number place)) is may = asked_so number h ∙ may

-- ---- the counts don't grow
none_published : (s : ℕ) (h : List Entry) → chosen_from s publication (filter is_kept h) ≡ []
none_published s [] = refl
none_published s (entry.Publish p ∷ h) = none_published s h
none_published s (e ∷ h) = none_published (s + 1) h

-- which runs are live is told by their names and by the names of those taken back
is_left : List (List ℕ) → Run → Bool
is_left names r = is_none (find (λ (n : List ℕ). bytes_eq n r.run) names)

pub is_none_map : {A B : Type 0} (f : A → B) (o : Option A) → is_none (option_map f o) ≡ is_none o
is_none_map f None = refl
is_none_map f (Some x) = refl

live_so : (taken : List Retraction) (runs : List Acceptance) → map run_of (live_of taken runs) ≡ filter (is_left (map name_taken taken)) (map run_of runs)
unfolding run_of is_left name_taken
live_so taken runs =
    ap (map run_of)
    (filter_so (λ a. is_none (find (λ (r : Retraction). bytes_eq r.run a.run.run) taken)) (λ a. is_left (map name_taken taken) (run_of a))
    (λ a. sym (is_none_map name_taken (find (λ (r : Retraction). bytes_eq r.run a.run.run) taken)) ∙ ap is_none (find_map name_taken (λ (n : List ℕ). bytes_eq n a.run.run) taken)) runs)
    ∙ filter_map run_of (is_left (map name_taken taken)) runs

-- what a run brought of a series, but for its step
values_of_run : Series → Run → List Measurement
values_of_run s r = filter (is_of s) r.samples

commits_of_run : Series → Run → List ℕ
commits_of_run s r = map (λ (x : Measurement). r.commit) (filter (is_of s) r.samples)

commit_of : Brought → ℕ
commit_of x = x.commit

commits_so : (s : Series) (runs : List Acceptance) → map commit_of (brought s runs) ≡ flat_map (commits_of_run s) (map run_of runs)
unfolding commit_of run_of commits_of_run
commits_so s [] = refl
commits_so s (a ∷ runs) =
    map-append commit_of (brought_by s a) (brought s runs)
    ∙ ap₂ (λ (xs ys : List ℕ). xs ++ ys) (map_again (filter (is_of s) a.run.samples)) (commits_so s runs)
  where
    map_again : (xs : List Measurement) → map commit_of (map (λ (x : Measurement). record { commit = a.run.commit; step = a.step; value = x.value }) xs) ≡ map (λ (x : Measurement). a.run.commit) xs
    map_again [] = refl
    map_again (x ∷ xs) = ap (λ ys. a.run.commit ∷ ys) (map_again xs)

positions_length : (items : List Brought) → length (positions_of items) ≡ length (rising (map commit_of items))
unfolding commit_of
positions_length items = length-map (rising (map commit_of items)) (position_at items)

samples_of_run : Run → ℕ
samples_of_run r = length r.samples

series_of_run : Run → List Series
series_of_run r = map (λ (x : Measurement). record { test = x.test; metric = x.metric }) r.samples

-- publications add to the steps and to the cuts alone
abbrev pub IsUnpublished : Limit → Type 0
IsUnpublished limit.Steps = ⊥
IsUnpublished limit.Cuts = ⊥
IsUnpublished other = Unit {0}

module _ (h : List Entry) where
  pub same_live : map run_of (live_runs (filter is_kept h)) ≡ map run_of (live_runs h)
  same_live =
      live_so (retractions (filter is_kept h)) (acceptances (filter is_kept h))
      ∙ ap₂ (λ (ns : List (List ℕ)) (rs : List Run). filter (is_left ns) rs) (same_taken h) (same_runs h)
      ∙ sym (live_so (retractions h) (acceptances h))

  same_commits : (s : Series) → map commit_of (brought s (live_runs (filter is_kept h))) ≡ map commit_of (brought s (live_runs h))
  same_commits s = commits_so s (live_runs (filter is_kept h)) ∙ ap (flat_map (commits_of_run s)) same_live ∙ sym (commits_so s (live_runs h))

  same_known : known_series (filter is_kept h) ≡ known_series h
  unfolding run_of series_of_run
  same_known =
      ap (distinct same_series)
      (flat_map_map run_of series_of_run (acceptances (filter is_kept h)) ∙ ap (flat_map series_of_run) (same_runs h) ∙ sym (flat_map_map run_of series_of_run (acceptances h)))

  -- of all that publications don't add to there is as much
  pub count_equal : (limit : Limit) → IsUnpublished limit → count_of limit (filter is_kept h) ≡ count_of limit h
  unfolding run_of samples_of_run
  count_equal limit.Steps is = absurd is
  count_equal limit.Cuts is = absurd is
  count_equal limit.Commits is =
      sym (length-map (declarations (filter is_kept h)) pair_of) ∙ ap length (same_pairs h) ∙ length-map (declarations h) pair_of
  count_equal limit.Runs is = sym (length-map (acceptances (filter is_kept h)) run_of) ∙ ap length (same_runs h) ∙ length-map (acceptances h) run_of
  count_equal limit.RunSamples is =
      ap greatest_of (map_map run_of samples_of_run (acceptances (filter is_kept h)) ∙ ap (map samples_of_run) (same_runs h) ∙ sym (map_map run_of samples_of_run (acceptances h)))
  count_equal limit.Samples is =
      sum_map run_of samples_of_run (acceptances (filter is_kept h)) ∙ ap (sum_by samples_of_run) (same_runs h) ∙ sym (sum_map run_of samples_of_run (acceptances h))
  count_equal limit.Series is = ap length same_known
  count_equal limit.SeriesSamples is =
      ap (λ ss. greatest_of (map (λ (s : Series). length (brought s (live_runs (filter is_kept h)))) ss)) same_known
      ∙ ap greatest_of (map_so (λ s. length (brought s (live_runs (filter is_kept h)))) (λ s. length (brought s (live_runs h))) (λ s. sym (length-map (brought s (live_runs (filter is_kept h))) commit_of) ∙ ap length (same_commits s) ∙ length-map (brought s (live_runs h)) commit_of) (known_series h))
  count_equal limit.Positions is =
      ap (λ ss. greatest_of (map (λ (s : Series). length (positions (filter is_kept h) s)) ss)) same_known
      ∙ ap greatest_of (map_so (λ s. length (positions (filter is_kept h) s)) (λ s. length (positions h s)) (λ s. positions_length (brought s (live_runs (filter is_kept h))) ∙ ap (λ cs. length (rising cs)) (same_commits s) ∙ sym (positions_length (brought s (live_runs h)))) (known_series h))
  count_equal limit.Jobs is = ap open_count (same_jobs h)
  count_equal other is = refl

  count_same : (limit : Limit) → count_of limit (filter is_kept h) ≤ count_of limit h
  count_same limit.Steps = shorter h
  count_same limit.Cuts = rw (none_published 1 h) (omega arith)
  count_same limit = omega (arith, count_equal limit tt)

keeps_limits : (h : List Entry) → KeepsLimits h → KeepsLimits (filter is_kept h)
keeps_limits h keeps limit = omega (arith, keeps limit, count_same h limit)

allowed_kept : (h : List Entry) (e : Entry) → is_kept e ≡ true → Allowed h e → Allowed (filter is_kept h) e
allowed_kept h e is allowed =
    let last : filter is_kept (h ++ e ∷ []) ≡ filter is_kept h ++ e ∷ [] = filter-append is_kept h (e ∷ []) ∙ ap (λ (b : Bool). filter is_kept h ++ cond b (e ∷ []) []) is in
    (may_follow h e is allowed.0, subst KeepsLimits last (keeps_limits (h ++ e ∷ []) allowed.1))

after_kept : (g es : List Entry) → AllowedAfter g es → AllowedAfter (filter is_kept g) (filter is_kept es)
after_kept g [] allowed = tt
after_kept g (e ∷ es) allowed = elim (cases_Bool (is_kept e)) [
  | inl hit ↦
      let last : filter is_kept (g ++ e ∷ []) ≡ filter is_kept g ++ e ∷ [] = filter-append is_kept g (e ∷ []) ∙ ap (λ (b : Bool). filter is_kept g ++ cond b (e ∷ []) []) hit in
      rw hit (allowed_kept g e hit allowed.0, subst (λ (h : List Entry). AllowedAfter h (filter is_kept es)) last (after_kept (g ++ e ∷ []) es allowed.1))
  | inr past ↦
      let last : filter is_kept (g ++ e ∷ []) ≡ filter is_kept g = filter-append is_kept g (e ∷ []) ∙ ap (λ (b : Bool). filter is_kept g ++ cond b (e ∷ []) []) past ∙ append-nil (filter is_kept g) in
      rw past (subst (λ (h : List Entry). AllowedAfter h (filter is_kept es)) last (after_kept (g ++ e ∷ []) es allowed.1))
]

pub kept_is_legal : (h : List Entry) → Legal h → Legal (filter is_kept h)
kept_is_legal h legal = after_kept [] h legal
