-- The series of a state: ready for an entry that is allowed, and after it.
use Rattle.std.proofs.Common.{◌≡◌, ℕ, ◌+◌, ◌≤◌, Bool, cond, List, [], ◌∷◌, ◌++◌, length, map, refl, sym, ap, ◌∙◌, subst, Option, Some, None, inl, inr, arith}
use Rattle.std.{specs.Prelude.{IsSome, unwrap_or, option_map}, specs.List.list_any, proofs.lemmas.Bool.cases_Bool, proofs.lemmas.List.length-append}
use Rattle.std.proofs.lemmas.{List.Elements.All-weaker, List.Folds.list_any-append, Grind.common_steps}
use Rattle.segment_model.specs.{Limits.IsSmall, Edits.removed}
use Rattle.history_model.specs.{declared.entries.Acceptance.Acceptance, declared.entries.Entry.Entry, Allowed.{Allowed, Legal}, Positions.{Brought, positions}}
use Rattle.history_model.specs.declared.entries.Entry.TheVariants as entry
use Rattle.history_model.specs.Laws.{with_all, PositionsAfterAccept, PositionsAfterRetract, PositionsUntouched, PositionsAreFresh, StepsArePast, SeriesHaveRoom, OnlyAcceptedAreRetracted}
use Rattle.sample_model.specs.Samples.{Measurement, IsSample}
use Rattle.history_model.{specs.Runs.{Series, is_of, acceptance, accepted, retractions, retracted, known_series}, proofs.Chosen.{chosen-push, chosen-skip}}
use Rattle.sample_store.specs.declared.store.Stored.{Stored}
use Rattle.series_index.specs.{Seen.{seen, with_sample, without}, Taken.{of_series, with_samples}, declared.tracked.Tracked.Tracked}
use Rattle.machine_state.specs.{Indexes.{Kept, stored, stored_runs, found_run, given_back, seen_after, TakesIn}, State.{IsPast, IsTracked}}
use Rattle.machine_state.proofs.Marks.{look-up}
use Rattle.series_index.proofs.Firsts.{or-false, known-with}

some-of : {A : Type 0} (o : Option A) → IsSome o → (x : A) × (o ≡ Some x)
some-of o some = grind (arith, common_steps)

-- ---- what the samples of a run make of a series
points-with : (commit step : ℕ) (xs : List Measurement) (t : Tracked)
    → (with_samples commit step xs t).points ≡ with_all (map (λ (x : Measurement). let y : Brought = record { commit = commit; step = step; value = x.value } in y) xs) t.points
points-with commit step [] t = refl
points-with commit step (x ∷ xs) t = points-with commit step xs (with_sample commit (record { step = step; value = x.value }) t)

past-with : (now commit step : ℕ) (xs : List Measurement) (t : Tracked) → step ≤ now → IsPast now t.since → IsPast now (with_samples commit step xs t).since
past-with now commit step [] t le past = past
past-with now commit step (x ∷ xs) t le past =
    past-with now commit step xs (with_sample commit (record { step = step; value = x.value }) t) le (one t.since past)
  where
    one : (o : Option ℕ) → IsPast now o → IsPast now (Some (unwrap_or o step))
    one None p = le
    one (Some k) p = p

later : (now : ℕ) (o : Option ℕ) → IsPast now o → IsPast (now + 1) o
later now o p = grind (arith, common_steps)

-- an entry that brings no run makes no series known
pub no-more : (h : List Entry) (e : Entry) → acceptance (length h + 1) e ≡ None → length (known_series (h ++ e ∷ [])) ≡ length (known_series h) + 0
no-more h e none = grind (arith, common_steps, length, chosen-skip)

-- ---- ready
module _ (fresh : PositionsAreFresh) (past : StepsArePast) (room : SeriesHaveRoom) (only : OnlyAcceptedAreRetracted) where
  pub takes-in : (h : List Entry) (e : Entry) (series : Kept) → Legal h → Allowed h e → ((s : Series) → IsTracked h s (seen s series)) → TakesIn series (length h + 1) e
  takes-in h (entry.Commit number name) series legal allowed are = tt
  takes-in h (entry.Retract name) series legal allowed are = tt
  takes-in h (entry.Tune metric penalty len) series legal allowed are = tt
  takes-in h (entry.Publish p) series legal allowed are = tt
  takes-in h (entry.Regression event) series legal allowed are = tt
  takes-in h (entry.Job event) series legal allowed are = tt
  takes-in h (entry.Accept run) series legal allowed are =
      let live : retracted run.run h ≡ None = only h run.run legal allowed.0.0 in
      record {
        small = All-weaker IsSample (λ (x : Measurement). IsSmall x.value) (λ (x : Measurement) (is : IsSample x). is.in_range) run.samples allowed.0.2.each;
        room = λ s.
            let ps_are : (seen s series).points ≡ positions h s = (are s).points in
            let rooms = room h run s allowed.1 live in
            record {
              in_order = grind (arith, common_steps);
              values = grind (arith, common_steps);
              positions = grind (arith, common_steps);
            };
        fresh = grind (arith, common_steps);
      }

-- ---- after an entry
module _ (accept : PositionsAfterAccept) (retract : PositionsAfterRetract) (untouched : PositionsUntouched) (only : OnlyAcceptedAreRetracted) where
  pub tracked-after : (h : List Entry) (e : Entry) (s : Series) (t : Tracked) → Legal h → Allowed h e → IsTracked h s t → IsTracked (h ++ e ∷ []) s (seen_after (length h + 1) e (stored_runs h) s t)
  tracked-after h (entry.Commit number name) s t legal allowed is = grind (arith, common_steps, chosen-skip, length-append, later, length)
  tracked-after h (entry.Tune metric penalty len) s t legal allowed is = grind (arith, common_steps, chosen-skip, length-append, later, length)
  tracked-after h (entry.Publish p) s t legal allowed is = grind (arith, common_steps, chosen-skip, length-append, later, length)
  tracked-after h (entry.Regression event) s t legal allowed is = grind (arith, common_steps, chosen-skip, length-append, later, length)
  tracked-after h (entry.Job event) s t legal allowed is = grind (arith, common_steps, chosen-skip, length-append, later, length)
  tracked-after h (entry.Accept run) s t legal allowed is =
      let a : Acceptance = record { step = length h + 1; run = run } in
      let f : Acceptance → Bool = λ (b : Acceptance). list_any (is_of s) b.run.samples in
      record {
        points = grind (arith, common_steps, points-with, length, map, accept, only);
        since = rw length-append (past-with (length h + 1) run.commit (length h + 1) (of_series s run.samples) t (omega arith) (later (length h) t.since is.since));
        known = grind (arith, common_steps, known-with, length, list_any, f, or-false, list_any-append, a, chosen-push);
      }
  tracked-after h (entry.Retract name) s t legal allowed is =
      let known = some-of (accepted name h) allowed.0.0 in
      let found : found_run name (stored_runs h) ≡ Some (stored (retractions h) known.0) = look-up h name ∙ ap (option_map (stored (retractions h))) known.1 in
      let P : Option Stored → Type 0 = λ o. IsTracked (h ++ entry.Retract name ∷ []) s (given_back o s t) in
      subst P (sym found) (after known.0 known.1)
    where
      after : (a : Acceptance) → accepted name h ≡ Some a → IsTracked (h ++ entry.Retract name ∷ []) s (given_back (Some (stored (retractions h) a)) s t)
      after a known = elim (cases_Bool (list_any (is_of s) a.run.samples)) [
        | inl hit ↦
            let Q : Bool → Type 0 = λ b. IsTracked (h ++ entry.Retract name ∷ []) s (cond b (without a.run.commit a.step t) t) in
            subst Q (sym hit) (record {
              points = ap (removed a.run.commit a.step) is.points ∙ sym (retract h name a s legal known);
              since = rw length-append (later (length h) t.since is.since);
              known = rw (chosen-skip acceptance h (entry.Retract name) refl) is.known;
            })
        | inr miss ↦
            let Q : Bool → Type 0 = λ b. IsTracked (h ++ entry.Retract name ∷ []) s (cond b (without a.run.commit a.step t) t) in
            subst Q (sym miss) (record {
              points = is.points ∙ sym (untouched h name a s legal known miss);
              since = rw length-append (later (length h) t.since is.since);
              known = rw (chosen-skip acceptance h (entry.Retract name) refl) is.known;
            })
      ]
