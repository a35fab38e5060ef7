-- Which entries are allowed, as the indexes tell it.
use Rattle.std.proofs.Common.{◌≡◌, ℕ, ℤ, ◌+◌, ◌≤◌, Bool, true, false, cond, ◌&&◌, List, [], ◌∷◌, ◌++◌, length, refl, sym, ap, ◌∙◌, Option, Some, None, is_some, arith, inl, inr, nat_lt}
use Rattle.std.{specs.Prelude.{IsSome, is_none, option_map}, proofs.lemmas.Bool.{cases_Bool, lt-ltb, ltb-true}, proofs.lemmas.List.length-append}
use Rattle.metric_table.specs.{Limits.most, declared.limits.Limit.Limit}
use Rattle.metric_table.specs.declared.limits.Limit.TheVariants as limit
use Rattle.history_model.specs.{declared.entries.Acceptance.Acceptance, declared.entries.Entry.Entry, Allowed.{KeepsLimits, count_of, first_passed}}
use Rattle.history_model.specs.declared.entries.Entry.TheVariants as entry
use Rattle.history_model.specs.{Commits.{declaration, declarations, number_of, name_of}, Runs.{Retraction, accepted, retracted}}
use Rattle.machine_state.specs.Forms as forms
use Rattle.machine_state.{specs.Outcomes.{first, refusal_if}, specs.Laws.TuneMayFollow, proofs.Series.no-more}
use Rattle.request_model.specs.declared.replies.Answer.TheVariants as answer
use Rattle.request_model.specs.declared.replies.Refusal.TheVariants as refusal
use Rattle.history_model.{proofs.Chosen.chosen-push, specs.Laws.{LimitsAfterCommit, LimitsAfterRetract, LimitsAfterTune}}
use Rattle.track_replay.{specs.Replays.{IsAllowance, commit_fits, retraction_fits, tuning_fits}, proofs.Retractions.free-run}

both : (a b : Bool) → (a && b) ≡ true → (a ≡ true) × (b ≡ true)
both true b h = (refl, h)
both false b h = absurd (let never : false ≡ true = h in cc)

and : (a b : Bool) → a ≡ true → b ≡ true → (a && b) ≡ true
and true b one two = two
and false b one two = absurd (let never : false ≡ true = one in cc)

none-of : {A : Type 0} (o : Option A) → is_none o ≡ true → o ≡ None
none-of None none = refl
none-of (Some x) none = absurd (let never : false ≡ true = none in cc)

of-none : {A : Type 0} (o : Option A) → o ≡ None → is_none o ≡ true
of-none o none = ap is_none none

pub neither : {A : Type 0} (o : Option A) → is_some o ≡ false → o ≡ None
neither None no-one = refl
neither (Some x) no-one = absurd (let never : true ≡ false = no-one in cc)

free-again : (h : List Entry) (run : List ℕ) → IsSome (accepted run h) → retracted run h ≡ None → forms.retract_refusal h run ≡ None
free-again h run some none =
    ap (λ (r : Option Retraction). first (refusal_if (is_none (accepted run h)) refusal.UnknownRun ∷ option_map (λ (r : Retraction). answer.Refused (refusal.AlreadyRetracted r.step)) r ∷ [])) none
    ∙ ap (λ (b : Bool). first (refusal_if b refusal.UnknownRun ∷ None ∷ [])) (not-none (accepted run h) some)
  where
    not-none : (o : Option Acceptance) → IsSome o → is_none o ≡ false
    not-none None some = absurd (let never : false ≡ true = some in cc)
    not-none (Some a) some = refl

module _ (h : List Entry) (keeps : KeepsLimits h) where
  pub commit-fits : LimitsAfterCommit → (number : ℕ) (name : List ℕ) → commit_fits h number name ≡ true → IsAllowance h (entry.Commit number name) (Some 0)
  commit-fits limits number name fits =
      let new_number : Bool = is_none (name_of number h) in
      let new_name : Bool = is_none (number_of name h) in
      let commits : Bool = nat_lt (length (declarations h)) (most limit.Commits) in
      let one = both (new_number && new_name && commits) (nat_lt (length h) (most limit.Steps)) fits in
      let two = both (new_number && new_name) commits one.0 in
      let three = both new_number new_name two.0 in
      let few = ltb-true (length (declarations h)) (most limit.Commits) two.1 in
      let room = ltb-true (length h) (most limit.Steps) one.1 in (
        ((none-of (name_of number h) three.0, none-of (number_of name h) three.1), limits h number name keeps (omega (arith, room)) (omega (arith, few))),
        no-more h (entry.Commit number name) refl,
      )

  pub commit-refused : (number : ℕ) (name : List ℕ) → commit_fits h number name ≡ false → IsAllowance h (entry.Commit number name) None
  commit-refused number name fits allowed =
      let steps : length (h ++ entry.Commit number name ∷ []) ≤ most limit.Steps = allowed.1 limit.Steps in
      let commits : length (declarations (h ++ entry.Commit number name ∷ [])) ≤ most limit.Commits = allowed.1 limit.Commits in
      let more : length (declarations (h ++ entry.Commit number name ∷ [])) ≡ length (declarations h) + 1 =
      ap length (chosen-push declaration h (entry.Commit number name)) ∙ length-append (declarations h) (record { step = length h + 1; number = number; name = name } ∷ []) in
      let new_number : Bool = is_none (name_of number h) in
      let new_name : Bool = is_none (number_of name h) in
      let few : Bool = nat_lt (length (declarations h)) (most limit.Commits) in
      let size = length-append h (entry.Commit number name ∷ []) in
      let all = and (new_number && new_name && few) (nat_lt (length h) (most limit.Steps))
      (and (new_number && new_name) few
      (and new_number new_name (of-none (name_of number h) allowed.0.0) (of-none (number_of name h) allowed.0.1))
      (lt-ltb (length (declarations h)) (most limit.Commits) (omega (arith, commits, more))))
      (lt-ltb (length h) (most limit.Steps) (omega (arith, steps, size))) in
      let never : true ≡ false = sym all ∙ fits in cc

  pub retraction-fits : LimitsAfterRetract → (run : List ℕ) → retraction_fits h run ≡ true → IsAllowance h (entry.Retract run) (Some 0)
  retraction-fits limits run fits =
      let one = both (is_none (forms.retract_refusal h run)) (nat_lt (length h) (most limit.Steps)) fits in
      let room = ltb-true _ _ one.1 in
      (((free-run h run (none-of (forms.retract_refusal h run) one.0)), limits h run keeps (omega (arith, room))), no-more h (entry.Retract run) refl)

  pub retraction-refused : (run : List ℕ) → retraction_fits h run ≡ false → IsAllowance h (entry.Retract run) None
  retraction-refused run fits allowed =
      let steps : length (h ++ entry.Retract run ∷ []) ≤ most limit.Steps = allowed.1 limit.Steps in
      let free : forms.retract_refusal h run ≡ None = free-again h run allowed.0.0 allowed.0.1 in
      let all = and (is_none (forms.retract_refusal h run)) (nat_lt (length h) (most limit.Steps)) (of-none (forms.retract_refusal h run) free)
      (lt-ltb _ _ (let size = length-append h (entry.Retract run ∷ []) in omega (arith, steps, size))) in
      let never : true ≡ false = sym all ∙ fits in cc

  pub tuning-fits : LimitsAfterTune → TuneMayFollow → (metric : List ℕ) (penalty : ℤ) (len : ℕ) → tuning_fits h metric penalty len ≡ true → IsAllowance h (entry.Tune metric penalty len) (Some 0)
  tuning-fits limits follows metric penalty len fits =
      let one = both (is_none (forms.tune_refusal metric penalty len)) (nat_lt (length h) (most limit.Steps)) fits in
      let room = ltb-true _ _ one.1 in
      (((follows h metric penalty len).0 (none-of (forms.tune_refusal metric penalty len) one.0), limits h metric penalty len keeps (omega (arith, room))), no-more h (entry.Tune metric penalty len) refl)

  pub tuning-refused : TuneMayFollow → (metric : List ℕ) (penalty : ℤ) (len : ℕ) → tuning_fits h metric penalty len ≡ false → IsAllowance h (entry.Tune metric penalty len) None
  tuning-refused follows metric penalty len fits allowed =
      let steps : length (h ++ entry.Tune metric penalty len ∷ []) ≤ most limit.Steps = allowed.1 limit.Steps in
      let free : forms.tune_refusal metric penalty len ≡ None = (follows h metric penalty len).1 allowed.0 in
      let all = and (is_none (forms.tune_refusal metric penalty len)) (nat_lt (length h) (most limit.Steps)) (of-none (forms.tune_refusal metric penalty len) free)
      (lt-ltb _ _ (let size = length-append h (entry.Tune metric penalty len ∷ []) in omega (arith, steps, size))) in
      let never : true ≡ false = sym all ∙ fits in cc

-- what is told of as passed is passed
pub passed : (limits : List Limit) (h : List Entry) (e : Entry) (limit : Limit) → first_passed limits h e ≡ Some limit → KeepsLimits (h ++ e ∷ []) → ⊥
passed [] h e limit told keeps = let never : None ≡ Some limit = told in cc
passed (l ∷ limits) h e limit told keeps = elim (cases_Bool (nat_lt (most l) (count_of l (h ++ e ∷ [])))) [
  | inl hit ↦ let lt = ltb-true _ _ hit in let le = keeps l in absurd (omega (arith, lt, le))
  | inr miss ↦ passed limits h e limit (sym (ap (λ b. cond b (Some l) (first_passed limits h e)) miss) ∙ told) keeps
]
