-- What is followed of a machine: it takes each entry in that is allowed, and follows from the history after it.
use Rattle.std.proofs.Common.{◌≡◌, ℕ, zero, suc, ◌+◌, ◌-◌, ◌≤◌, cond, List, [], ◌∷◌, ◌++◌, length, set, refl, sym, ap, ap₂, subst, ◌∙◌, Option, Some, None, arith, eq-eqb, ne_eqb, append-nil}
use Rattle.std.{specs.Prelude.{slice_get, option_to_list}, proofs.lemmas.Grind.common_steps}
use Rattle.bisect_core.specs.{Bisections.{Bisection, bisection, IsRecorded}, Turns.{Turn, tested, given_up}}
use Rattle.regression_state.specs.declared.states.State.{State, TheVariants.Detected}
use Rattle.history_model.specs.declared.{entries.Entry.Entry, events.JobEvent.TheVariants.{Begin, Answer, GiveUp}, events.Raised.Raised}
use Rattle.history_model.specs.declared.entries.Entry.TheVariants as entry
use Rattle.history_model.specs.{declared.events.RegressionEvent.TheVariants.{Raise, Move}, Allowed.{Allowed, Legal}, Commits.{declarations, numbers_between}}
use Rattle.history_model.specs.Followed.{RegressionsGrow, StateIsMoved, StateStays, NewIsDetected, IsOfNoJob, JobsStay, JobIsBegun, JobGoesOn, NumbersAreTwo}
use Rattle.history_model.specs.{Jobs.{jobs, job_in}, Regressions.{raised, regressions, moved, state_of}}
use Rattle.follow_index.specs.{declared.regressions.Followed.Followed, Followed.{followed, followed_from}, Numbered.{followed_in, GoesOn}}
use Rattle.machine_state.specs.{declared.following.Following.Following, Following.{AreFollowed, IsFollowable, IsFollowed}}

abbrev made : Raised → State → Followed
made r s = record { raised = r; state = s }

pub followed-length : (h : List Entry) (k : ℕ) (rs : List Raised) → length (followed_from h k rs) ≡ length rs
followed-length h k [] = refl
followed-length h k (r ∷ rs) = ap suc (followed-length h (k + 1) rs)

same-states : (h h' : List Entry) (rs : List Raised) (k : ℕ) → ((n : ℕ) → k ≤ n → state_of n h' ≡ state_of n h) → followed_from h' k rs ≡ followed_from h k rs
same-states h h' [] k same = refl
same-states h h' (r ∷ rs) k same = grind (arith, common_steps, same-states h h' rs (k + 1) (λ n le. same n (omega (arith, le))))

followed-push : (h : List Entry) (rs : List Raised) (r : Raised) (k : ℕ) → followed_from h k (rs ++ r ∷ []) ≡ followed_from h k rs ++ made r (state_of (k + length rs) h) ∷ []
followed-push h [] r k = grind (arith, common_steps)
followed-push h (x ∷ rs) r k = grind (arith, common_steps, followed-push h rs r (k + 1))

module _ (h h' : List Entry) (number : ℕ) (state : State) (moves : state_of number h' ≡ state) (others : (n : ℕ) → (n ≡ number → ⊥) → state_of n h' ≡ state_of n h) where
  followed-moved : (rs : List Raised) (k i : ℕ) (one : Followed) → number ≡ k + i → slice_get (followed_from h k rs) i ≡ Some one
      → followed_from h' k rs ≡ set (followed_from h k rs) i (made one.raised state)
  followed-moved [] k i one is there = grind (arith, common_steps)
  followed-moved (r ∷ rs) k zero one is there =
      let same : made r (state_of k h) ≡ one = cc in
      let here : k ≡ number = omega (arith, is) in
      ap₂ (λ (s : State) (fs : List Followed). made r s ∷ fs) (ap (λ (n : ℕ). state_of n h') here ∙ moves)
      (same-states h h' rs (k + 1) (λ n le. others n (λ e. omega (arith, e, is, le))))
      ∙ ap (λ (f : Followed). made f.raised state ∷ followed_from h (k + 1) rs) same
  followed-moved (r ∷ rs) k (suc i) one is there = grind (arith, common_steps, followed-moved rs (k + 1) i one (omega (arith, is)) there)

place-of : (number : ℕ) (fs : List Followed) (one : Followed) → followed_in number fs ≡ Some one → (number ≡ 1 + (number - 1)) × (slice_get fs (number - 1) ≡ Some one)
place-of number fs one there = grind (arith, common_steps)

module _ (grow : RegressionsGrow) (stays : StateStays) where
  after-other : (h : List Entry) (e : Entry) → raised (length h + 1) e ≡ None → ((n : ℕ) → moved n (length h + 1) e ≡ None) → followed (h ++ e ∷ []) ≡ followed h
  after-other h e none still =
      ap (followed_from (h ++ e ∷ []) 1) (grow h e ∙ ap (λ (o : Option Raised). regressions h ++ option_to_list o) none ∙ append-nil (regressions h))
      ∙ same-states h (h ++ e ∷ []) (regressions h) 1 (λ n le. stays h e n (still n))

  pub quiet : JobsStay → (h : List Entry) (e : Entry) (f f' : Following) → raised (length h + 1) e ≡ None → ((n : ℕ) → moved n (length h + 1) e ≡ None) → IsOfNoJob e → AreFollowed h f → f' ≡ f → AreFollowed (h ++ e ∷ []) f'
  quiet stay h e f f' none still no_job are is = grind (arith, common_steps, after-other)

module _ (grow : RegressionsGrow) (moves : StateIsMoved) (stays : StateStays) (new : NewIsDetected) where
  after-raise : (h : List Entry) (r : Raised) → Legal h → followed (h ++ entry.Regression (Raise r) ∷ []) ≡ followed h ++ made r Detected ∷ []
  after-raise h r legal = grind (arith, common_steps, grow, followed-push, ap₂, made, same-states, stays, length, new)

  after-move : (h : List Entry) (number : ℕ) (state : State) (one : Followed) → followed_in number (followed h) ≡ Some one
      → followed (h ++ entry.Regression (Move number state) ∷ []) ≡ set (followed h) (number - 1) (made one.raised state)
  after-move h number state one there =
      let e : Entry = entry.Regression (Move number state) in
      let place = place-of number (followed h) one there in
      let it : moved number (length h + 1) e ≡ Some state = ap (λ b. cond b (Some state) None) (eq-eqb number number refl) in
      ap (followed_from (h ++ e ∷ []) 1) (grow h e ∙ append-nil (regressions h))
      ∙ followed-moved h (h ++ e ∷ []) number state (moves h e number state it)
      (λ n other. stays h e n (ap (λ b. cond b (Some state) None) (ne_eqb number n (λ same. other (sym same)))))
      (regressions h) 1 (number - 1) one place.0 place.1

  module _ (stay : JobsStay) (begun : JobIsBegun) (go_on : JobGoesOn) where
    turned : (h : List Entry) (e : Entry) (number : ℕ) (turn : Turn) (js js' : List Bisection) → ((before after : Bisection) → job_in number (jobs h) ≡ Some before → IsRecorded turn before after → jobs (h ++ e ∷ []) ≡ set (jobs h) (number - 1) after)
        → js ≡ jobs h → GoesOn number turn js js' → js' ≡ jobs (h ++ e ∷ [])
    turned h e number turn js js' goes are on =
        on.gone_on ∙ ap (λ (xs : List Bisection). set xs (number - 1) on.later) are
        ∙ sym (goes on.one on.later (subst (λ (xs : List Bisection). job_in number xs ≡ Some on.one) are on.there) on.recorded)

    pub followed-after : (h : List Entry) (e : Entry) (f f' : Following) → Legal h → AreFollowed h f → IsFollowed (declarations h) e f f' → AreFollowed (h ++ e ∷ []) f'
    followed-after h (entry.Commit number name) f f' legal are is = quiet grow stays stay h (entry.Commit number name) f f' refl (λ n. refl) tt are is
    followed-after h (entry.Accept run) f f' legal are is = quiet grow stays stay h (entry.Accept run) f f' refl (λ n. refl) tt are is
    followed-after h (entry.Retract run) f f' legal are is = quiet grow stays stay h (entry.Retract run) f f' refl (λ n. refl) tt are is
    followed-after h (entry.Tune metric penalty len) f f' legal are is = quiet grow stays stay h (entry.Tune metric penalty len) f f' refl (λ n. refl) tt are is
    followed-after h (entry.Publish p) f f' legal are is = quiet grow stays stay h (entry.Publish p) f f' refl (λ n. refl) tt are is
    followed-after h (entry.Regression (Raise r)) f f' legal are is = record {
      regressions_are = is.0 ∙ ap (λ (fs : List Followed). fs ++ made r Detected ∷ []) are.regressions_are ∙ sym (after-raise h r legal);
      jobs_are = is.1 ∙ are.jobs_are ∙ sym (stay h (entry.Regression (Raise r)) tt);
    }
    followed-after h (entry.Regression (Move number state)) f f' legal are is = record {
      regressions_are = is.0.moved ∙ ap (λ (fs : List Followed). set fs (number - 1) (made is.0.one.raised state)) are.regressions_are
          ∙ sym (after-move h number state is.0.one (subst (λ (fs : List Followed). followed_in number fs ≡ Some is.0.one) are.regressions_are is.0.there));
      jobs_are = is.1 ∙ are.jobs_are ∙ sym (stay h (entry.Regression (Move number state)) tt);
    }
    followed-after h (entry.Job (Begin lo hi)) f f' legal are is = record {
      regressions_are = is.0 ∙ are.regressions_are ∙ sym (after-other grow stays h (entry.Job (Begin lo hi)) refl (λ n. refl));
      jobs_are = is.1 ∙ ap (λ (js : List Bisection). js ++ bisection (numbers_between lo hi (declarations h)) [] ∷ []) are.jobs_are ∙ sym (begun h lo hi legal);
    }
    followed-after h (entry.Job (Answer number place status)) f f' legal are is =
        let e : Entry = entry.Job (Answer number place status) in
        record {
          regressions_are = is.0 ∙ are.regressions_are ∙ sym (after-other grow stays h e refl (λ n. refl));
          jobs_are = turned h e number (tested place status) f.jobs f'.jobs
              (λ before after. go_on h e number (tested place status) before after (ap (λ b. cond b (Some (tested place status)) None) (eq-eqb number number refl)))
              are.jobs_are is.1;
        }
    followed-after h (entry.Job (GiveUp number place)) f f' legal are is =
        let e : Entry = entry.Job (GiveUp number place) in
        record {
          regressions_are = is.0 ∙ are.regressions_are ∙ sym (after-other grow stays h e refl (λ n. refl));
          jobs_are = turned h e number (given_up place) f.jobs f'.jobs
              (λ before after. go_on h e number (given_up place) before after (ap (λ b. cond b (Some (given_up place)) None) (eq-eqb number number refl)))
              are.jobs_are is.1;
        }

-- an entry that is allowed is taken in
pub followable : NumbersAreTwo → (h : List Entry) (f : Following) (e : Entry) → AreFollowed h f → Allowed h e → IsFollowable (declarations h) f e
followable two h f e are allowed = grind (arith, common_steps, length, followed-length)
