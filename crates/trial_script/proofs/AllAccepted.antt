-- The whole script of a number is accepted.
use Rattle.std.proofs.Common.{◌≡◌, ℕ, pos, suc, ◌+◌, ◌*◌, ◌%◌, ◌<◌, ◌≤◌, Bool, true, false, [], ◌∷◌, ◌++◌, refl, subst, arith, None}
use Rattle.std.{specs.Prelude.{◌==◌, if◌then◌else◌}, proofs.lemmas.Bool.Decides.nat_tests}
use Rattle.metric_table.specs.{Limits.most, declared.limits.Limit.Limit}
use Rattle.metric_table.specs.declared.limits.Limit.TheVariants as limit
use Rattle.segment_model.specs.Brought.{ValuesAreBrought}
use Rattle.history_model.specs.{Allowed.count_of, Penalties.{SettingIsSet, SettingStays}}
use Rattle.history_model.specs.Laws.{DeclarationsGrow, AcceptancesGrow, RetractionsGrow, LimitsAfterCommit, LimitsAfterRetract, LimitsAfterTune, LimitsAfterPublish, SeriesKeepLimits, CountsAfterAccept, SamplesFit, PositionsFit, FirstKept, RunKeepsLimits, PublicationIsLast, CutsGrow}
use Rattle.request_model.specs.declared.requests.Request.TheVariants as request
use Rattle.track_model.specs.Laws.{CommitIsAdded, RetractIsAdded, TuneIsAdded, TuneMayFollow, PublishIsAdded}
use Rattle.series_gen.specs.Script.{place, value, state_after}
use Rattle.trial_script.specs.Requests as asked
use Rattle.trial_script.{specs.Accepted.{EachIsAccepted, NoneIsRefused}, specs.Laws.ScriptIsWhole, proofs.Reached.Reached}
use Rattle.script_session.specs.Sessions.{AnswersFor}
use Rattle.script_loop.specs.Folds.{AreAnswers}
use Rattle.trial_script.proofs.Parts.{machine_asked, commits_asked, tune_asked, runs_asked, retracts_asked, segment_asked, changes_asked}
use Rattle.trial_script.proofs.Passing.{Passes, Begins, one, behind, begun_then, nothing, in_turn, declared}
use Rattle.trial_script.proofs.Accepting.{Turned, Ready, commit_good, tune_good, retract_good, submit_good, segment_good, last_good, changes_good}

-- ---- a history without entries
none_yet : (l : Limit) → count_of l [] ≤ most l
none_yet limit.Machines = omega arith
none_yet limit.Commits = omega arith
none_yet limit.Runs = omega arith
none_yet limit.RunSamples = omega arith
none_yet limit.Samples = omega arith
none_yet limit.Series = omega arith
none_yet limit.SeriesSamples = omega arith
none_yet limit.Positions = omega arith
none_yet limit.Steps = omega arith
none_yet limit.Cuts = omega arith
none_yet limit.Jobs = omega arith

begun : Reached 0 0 0 0 []
begun = record {
  lists = record {
    commits = refl;
    declared = tt;
    there = λ i less. absurd (omega (arith, less));
    runs = refl;
    taken = tt;
    accepted = λ i less. absurd (omega (arith, less));
    taken_back = tt;
  };
  limits = none_yet;
  published = 0;
  steps = omega arith;
  few = omega arith;
  cuts = omega arith;
  long = (omega arith, omega arith);
}

-- the value of a run has at most four digits
below : (j x : ℕ) → value (place j) x < 10_000
below j x = let at : place j < 500 = omega arith in omega (arith, at)

module _ (declares : DeclarationsGrow) (accepts : AcceptancesGrow) (retracts : RetractionsGrow) (cuts_grow : CutsGrow)
    (setting_stays : SettingStays) where
  module _ (commit_limits : LimitsAfterCommit) (commit_added : CommitIsAdded) (tune_limits : LimitsAfterTune) (tune_added : TuneIsAdded)
      (tune_may_follow : TuneMayFollow) (setting_is_set : SettingIsSet) (retract_limits : LimitsAfterRetract) (retract_added : RetractIsAdded) where
    module _ (values : ValuesAreBrought) (counts : CountsAfterAccept) (samples_fit : SamplesFit) (positions_fit : PositionsFit) (kept : FirstKept)
        (run_limits_kept : RunKeepsLimits) where
      module _ (publish_limits : LimitsAfterPublish) (publish_added : PublishIsAdded) (series_limits : SeriesKeepLimits) (is_last : PublicationIsLast) where
        maybe_segment : (j : ℕ) → j < 2_000 → (test : Bool) → ((j + 1) % 100 == 0) ≡ test
            → Passes (Turned j) (if test then asked.segment ∷ [] else []) (Reached 500 (suc j) 0 1)
        maybe_segment j few true is =
            let hundred : (j + 1) % 100 ≡ 0 = grind (arith, nat_tests) in
            one asked.segment refl (λ h base o now comes. segment_good declares accepts retracts cuts_grow setting_stays publish_limits publish_added series_limits is_last j h base o few hundred now comes)
        maybe_segment j few false is = nothing (λ h now. now.reached)

        turn : (number j : ℕ) → j < 2_000 → Passes (Reached 500 j 0 1) (asked.turn number j) (Reached 500 (suc j) 0 1)
        turn number j few =
            let v : ℕ = value (place j) (state_after number (suc j)) in
            behind (asked.submit j v ∷ []) (if (j + 1) % 100 == 0 then asked.segment ∷ [] else [])
            (one (asked.submit j v) refl (λ h base o now comes. submit_good declares accepts retracts cuts_grow setting_stays values counts samples_fit positions_fit kept run_limits_kept j v h o few (below j _) now comes))
            (maybe_segment j few ((j + 1) % 100 == 0) refl)

        commits : Passes (Reached 0 0 0 0) commits_asked (Reached 500 0 0 0)
        commits = in_turn (λ n. Reached n 0 0 0) asked.commit 500
            (λ n few. one (request.Commit asked.machine n (asked.commit_name n)) refl
            (λ h base o now comes. commit_good declares accepts retracts cuts_grow setting_stays commit_limits commit_added n h o few now comes))

        tuned : Passes (Reached 500 0 0 0) tune_asked (Reached 500 0 0 1)
        tuned = one (request.Tune asked.machine asked.metric (pos 300_000_000_000) None) refl
            (λ h base o now comes. tune_good declares accepts retracts cuts_grow setting_stays tune_limits tune_added tune_may_follow setting_is_set h o now comes)

        runs : (number : ℕ) → Passes (Reached 500 0 0 1) (runs_asked number) (Reached 500 2_000 0 1)
        runs number = in_turn (λ j. Reached 500 j 0 1) (asked.turn number) 2_000 (turn number)

        retracted : Passes (Reached 500 2_000 0 1) retracts_asked (Reached 500 2_000 10 1)
        retracted = in_turn (λ i. Reached 500 2_000 i 1) asked.retract 10
            (λ i few. one (request.Retract asked.machine (asked.run_name (200 * i))) refl
            (λ h base o now comes. retract_good declares accepts retracts cuts_grow setting_stays retract_limits retract_added i h o few now comes))

        segmented : Passes (Reached 500 2_000 10 1) segment_asked Ready
        segmented = one asked.segment refl (λ h base o now comes. last_good declares accepts retracts cuts_grow setting_stays publish_limits publish_added series_limits is_last h base o now comes)

        changed : Passes Ready changes_asked (λ h. Unit {0})
        changed = one (request.Changes asked.machine asked.test asked.metric) refl
            (λ h base o now comes. changes_good declares accepts retracts cuts_grow setting_stays publish_limits publish_added series_limits is_last h o now comes)

        all : (number : ℕ) → Begins (asked.requests number) (λ h. Unit {0})
        all number =
            let first : Begins machine_asked (Reached 0 0 0 0) = declared begun in
            let second : Begins (machine_asked ++ commits_asked) (Reached 500 0 0 0) = begun_then machine_asked commits_asked first commits in
            let third : Begins (machine_asked ++ commits_asked ++ tune_asked) (Reached 500 0 0 1) = begun_then (machine_asked ++ commits_asked) tune_asked second tuned in
            let fourth : Begins (machine_asked ++ commits_asked ++ tune_asked ++ runs_asked number) (Reached 500 2_000 0 1) = begun_then (machine_asked ++ commits_asked ++ tune_asked) (runs_asked number) third (runs number) in
            let fifth : Begins (machine_asked ++ commits_asked ++ tune_asked ++ runs_asked number ++ retracts_asked) (Reached 500 2_000 10 1) = begun_then (machine_asked ++ commits_asked ++ tune_asked ++ runs_asked number) retracts_asked fourth retracted in
            let sixth : Begins (machine_asked ++ commits_asked ++ tune_asked ++ runs_asked number ++ retracts_asked ++ segment_asked) Ready = begun_then (machine_asked ++ commits_asked ++ tune_asked ++ runs_asked number ++ retracts_asked) segment_asked fifth segmented in
            begun_then (machine_asked ++ commits_asked ++ tune_asked ++ runs_asked number ++ retracts_asked ++ segment_asked) changes_asked sixth changed

        pub each_is_accepted : EachIsAccepted
        each_is_accepted number before after replies none answers = (all number before after replies none answers).accepted

-- so none is in the output
pub none_is_refused : EachIsAccepted → ScriptIsWhole → NoneIsRefused
none_is_refused each is_whole number before after text ending none out =
    let same : out.items ≡ asked.items number = (is_whole number out.items ending out.script).0 in
    each number before after out.output.replies none (subst (λ items. AreAnswers AnswersFor before items out.output.replies after) same out.output.answers)
