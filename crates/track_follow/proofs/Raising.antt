-- What a change of a publication comes to that is raised as a regression.
use Rattle.std.proofs.Common.{◌≡◌, ℕ, ◌+◌, ◌-◌, ◌<◌, ◌≤◌, true, false, not, List, [], ◌∷◌, length, sym, ap, ◌∙◌, Option, Some, None}
use Rattle.std.{specs.Prelude.{take, slice_index, nat_le}, proofs.lemmas.Bool.{and_parts, leb-true}}
use Rattle.metric_table.specs.Limits.{most}
use Rattle.metric_table.specs.declared.limits.Limit.TheVariants as limit
use Rattle.segment_model.specs.Limits.{commits_of}
use Rattle.segment_cost.specs.declared.done.Done.{Done}
use Rattle.history_model.specs.{declared.entries.Entry.Entry, declared.events.Raised.Raised, Positions.positions, Regressions.{is_number, regressions}}
use Rattle.history_model.specs.declared.entries.Entry.TheVariants as entry
use Rattle.history_model.specs.declared.events.RegressionEvent.TheVariants as event
use Rattle.history_model.specs.Runs.{Series}
use Rattle.publication_index.specs.Kept.{series_of}
use Rattle.request_model.specs.declared.replies.Answer.{Answer}
use Rattle.request_model.specs.declared.replies.Answer.TheVariants as answer
use Rattle.request_model.specs.declared.replies.Refusal.TheVariants as refusal
use Rattle.track_model.specs.Following as following
use Rattle.track_model.specs.{Laws.{StepsAreFull, StepIsAdded}, Outcomes.{Outcome, refuses, refusal_if, unless, adds_within}}
use Rattle.track_replay.{specs.Made.{publication_from, IsMadeFrom}, specs.State.IsLast, proofs.Published.tells-last}
use Rattle.track_follow.specs.Raised.{raised_from}

pub range : (count number : ℕ) → is_number count number ≡ true → (1 ≤ number) × (number ≤ count)
range count number is =
    let two = and_parts (nat_le 1 number) (nat_le number count) is in
    (leb-true 1 number two.0, leb-true number count two.1)

module _ (h : List Entry) (s : Series) (done : Done) (change : ℕ) where
  pub comes : IsLast h s done → (o : Outcome) → o ≡ following.raise h s change (publication_from done) → following.RegressComesTo h s change o
  comes last o is = tells-last (λ p raised. raised ≡ following.raise h s change p) h s done o last is

  pub change-is : IsMadeFrom h done → series_of done ≡ s → raised_from done change ≡ following.change_of h s (publication_from done) change
  change-is made same =
      let commits_are : commits_of done.points ≡ commits_of (positions (take done.version h) s) =
      ap commits_of (made.points ∙ ap (positions (take done.version h)) same) in
      let cut : ℕ = slice_index done.cert.cuts (change - 1) in
      let make : Series → List ℕ → Raised = λ (x : Series) (commits : List ℕ).
      let r : Raised = record { test = x.test; metric = x.metric; before = slice_index commits (cut - 1); after = slice_index commits cut } in r in
      ap (λ (x : Series). make x (commits_of done.points)) same ∙ ap (make s) commits_are

  abbrev raising : Entry
  raising = entry.Regression (event.Raise (following.change_of h s (publication_from done) change))

  pub none-such : is_number (length done.cert.cuts) change ≡ false → refuses (refusal.NoSuchChange (length done.cert.cuts)) ≡ following.raise h s change (publication_from done)
  none-such out =
      sym (ap (λ b. unless (refusal_if (not b) (refusal.NoSuchChange (length done.cert.cuts))) (adds_within (limit.Steps ∷ []) h raising (answer.Raised (length (regressions h) + 1)))) out)

  pub free : is_number (length done.cert.cuts) change ≡ true → following.raise_refusal (publication_from done) change ≡ None
  free is = ap (λ b. refusal_if (not b) (refusal.NoSuchChange (length done.cert.cuts))) is

  of-free : is_number (length done.cert.cuts) change ≡ true
      → following.raise h s change (publication_from done) ≡ adds_within (limit.Steps ∷ []) h raising (answer.Raised (length (regressions h) + 1))
  of-free is = ap (λ (a : Option Answer). unless a (adds_within (limit.Steps ∷ []) h raising (answer.Raised (length (regressions h) + 1)))) (free is)

  pub full : StepsAreFull → is_number (length done.cert.cuts) change ≡ true → most limit.Steps ≤ length h
      → refuses (refusal.Full limit.Steps) ≡ following.raise h s change (publication_from done)
  full law is no_room = sym (of-free is ∙ law h raising (answer.Raised (length (regressions h) + 1)) no_room)

  pub added : StepIsAdded → is_number (length done.cert.cuts) change ≡ true → length h < most limit.Steps → (told : ℕ) → told ≡ length (regressions h) + 1
      → (r : Raised) → r ≡ following.change_of h s (publication_from done) change
      → record { answer = answer.Raised told; adds = Some (entry.Regression (event.Raise r)) } ≡ following.raise h s change (publication_from done)
  added law is room told told_is r r_is =
      let out : ℕ → Raised → Outcome = λ (n : ℕ) (x : Raised). let o : Outcome = record { answer = answer.Raised n; adds = Some (entry.Regression (event.Raise x)) } in o in
      ap (λ (n : ℕ). out n r) told_is ∙ ap (out (length (regressions h) + 1)) r_is
      ∙ sym (of-free is ∙ law h raising (answer.Raised (length (regressions h) + 1)) room)
