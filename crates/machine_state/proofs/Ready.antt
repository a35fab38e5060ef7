-- The indexes of a history are ready for each entry that is allowed after it.
use Rattle.std.proofs.{Common.{◌≡◌, ℕ, ◌+◌, ◌<◌, ◌≤◌, List, [], ◌∷◌, ◌++◌, length, map, refl, ap, ◌∙◌, Option, arith}, lemmas.Grind.common_steps}
use Rattle.std.{specs.Prelude.{Some, None, IsSome, find, option_map}, proofs.lemmas.List.{length-append, length-map}, proofs.lemmas.List.Sums.sum_by_push}
use Rattle.metric_table.specs.Limits.{most}
use Rattle.metric_table.specs.declared.limits.Limit.TheVariants as limit
use Rattle.history_model.specs.declared.{entries.Acceptance.Acceptance, entries.Declaration.Declaration, entries.Entry.Entry, run.Run.Run}
use Rattle.history_model.specs.declared.entries.Entry.TheVariants as entry
use Rattle.history_model.specs.{Allowed.Allowed, Commits.{declaration, declarations, has_number, has_name}}
use Rattle.history_model.{specs.Runs.{Retraction, acceptance, acceptances, accepted, retractions, takes_back, is_run, sample_count}, proofs.Chosen.chosen-push}
use Rattle.history_model.{proofs.Lists.{find-passes, same-bytes}, specs.Followed.NumbersAreTwo}
use Rattle.track_model.proofs.Rows.{option_map-none}
use Rattle.order_index.specs.Judged as pair
use Rattle.order_index.specs.declared.declared.Declared.TheVariants as declared
use Rattle.sample_store.specs.Judged as run
use Rattle.sample_store.specs.{Runs.{names, samples_in}, declared.store.Stored.Stored}
use Rattle.sample_store.specs.declared.answers.Accepted.TheVariants as taken
use Rattle.machine_state.specs.{Indexes.{stored, stored_runs, IsReady}, declared.following.Following.Following, Following.AreFollowed}
use Rattle.machine_state.proofs.{Followed.followable, Marks.look-up}

pair-new : (commits : List Declaration) (number : ℕ) (name : List ℕ) → find (has_number number) commits ≡ None → find (has_name name) commits ≡ None → length commits < most limit.Commits → pair.judged commits number name ≡ declared.New
pair-new commits number name no_number no_name room = grind (arith, common_steps)

run-new : (runs : List Stored) (new : Run) → find (names new.run) runs ≡ None → length runs < most limit.Runs → samples_in runs + length new.samples ≤ most limit.Samples → run.judged runs new ≡ taken.New
run-new runs new none room few = grind (arith, common_steps)

pub samples-stored : (gone : List Retraction) (runs : List Acceptance) → samples_in (map (stored gone) runs) ≡ sample_count runs
samples-stored gone [] = refl
samples-stored gone (a ∷ runs) = grind (arith, common_steps, samples-stored gone runs)

some-of : {A : Type 0} (o : Option A) → IsSome o → (x : A) × (o ≡ Some x)
some-of o some = grind (arith, common_steps)

pub ready : NumbersAreTwo → (h : List Entry) (f : Following) (e : Entry) → AreFollowed h f → Allowed h e → IsReady (declarations h) (stored_runs h) f e
ready two h f (entry.Commit number name) are allowed =
    let number_of : Declaration → ℕ = λ (d : Declaration). d.number in
    let name_of : Declaration → List ℕ = λ (d : Declaration). d.name in
    let few : length (declarations (h ++ entry.Commit number name ∷ [])) ≤ most limit.Commits = allowed.1 limit.Commits in
    let more = ap length (chosen-push declaration h (entry.Commit number name)) in
    pair-new (declarations h) number name
    (option_map-none name_of (find (has_number number) (declarations h)) allowed.0.0)
    (option_map-none number_of (find (has_name name) (declarations h)) allowed.0.1)
    (omega (arith, few, more, length-append (declarations h) (record { step = length h + 1; number = number; name = name } ∷ [])))
ready two h f (entry.Accept new) are allowed =
    let a : Acceptance = record { step = length h + 1; run = new } in
    let runs_few : length (acceptances (h ++ entry.Accept new ∷ [])) ≤ most limit.Runs = allowed.1 limit.Runs in
    let samples_few : sample_count (acceptances (h ++ entry.Accept new ∷ [])) ≤ most limit.Samples = allowed.1 limit.Samples in
    let more = chosen-push acceptance h (entry.Accept new) in
    let sizes : length (acceptances (h ++ entry.Accept new ∷ [])) ≡ length (acceptances h ++ a ∷ []) = ap length more in
    let counts : sample_count (acceptances (h ++ entry.Accept new ∷ [])) ≡ sample_count (acceptances h ++ a ∷ []) = ap sample_count more in
    run-new (stored_runs h) new
    (look-up h new.run ∙ ap (option_map (stored (retractions h))) allowed.0.0)
    (omega (arith, runs_few, sizes, length-append (acceptances h) (a ∷ []), length-map (acceptances h) (stored (retractions h))))
    (omega (arith, samples_few, counts, samples-stored (retractions h) (acceptances h), sum_by_push (λ (b : Acceptance). length b.run.samples) (acceptances h) a))
ready two h f (entry.Tune metric penalty len) are allowed = tt
ready two h f (entry.Publish p) are allowed = tt
ready two h f (entry.Regression event) are allowed = followable two h f (entry.Regression event) are allowed
ready two h f (entry.Job event) are allowed = followable two h f (entry.Job event) are allowed
ready two h f (entry.Retract name) are allowed =
    let known = some-of (accepted name h) allowed.0.0 in
    let a : Acceptance = known.0 in
    let name_is : a.run.run ≡ name = same-bytes a.run.run name (find-passes (is_run name) (acceptances h) a known.1) in
    let live : find (takes_back a.run.run) (retractions h) ≡ None = ap (λ (n : List ℕ). find (takes_back n) (retractions h)) name_is ∙ allowed.0.1 in
    ap run.retraction_by (look-up h name ∙ ap (option_map (stored (retractions h))) known.1)
    ∙ ap (λ (o : Option Retraction). run.retracted_by (option_map (λ (r : Retraction). r.step) o)) live
