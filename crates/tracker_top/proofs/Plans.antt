-- What runners that weren't asked tell, the name of a script, and which word is the first.
use Rattle.std.proofs.Common.{◌≡◌, ℕ, ◌-◌, ◌↔◌, Bool, true, IsTrue, String, string_bytes, zero, suc, ◌⊎◌, inl, inr, List, [], ◌∷◌, ◌++◌, All, drop, length, slice_get, take, Option, None, Some, IfSome, OnOk, OnErr, Result, Ok, Err, option_map, refl, sym, ap, subst, ◌∙◌, arith}
use Rattle.std.{specs.Borrow.Bor, specs.Option.option_copied, specs.Slice.IsItemAt, proofs.lemmas.Option.{slice_get-get_or, slice_get-map, slice_get_past}}
use Rattle.command_words.specs.{declared.command.Command.TheVariants.Play, Commands.{AreNoCommand, AreOneCommand, IsSpelled}, Texts.{shown, texts}, Plans.Plan}
use Rattle.shared_run.specs.{declared.stop.RunStop.RunStop, Crews.AreNew, Endings.{EndsAsDue, HasFailed, Objects, Told}}
use Rattle.shared_run.specs.declared.stop.RunStop.TheVariants as run
use Rattle.script_loop.specs.declared.stop.Stop.TheVariants as script
use Rattle.track_outside.specs.Calls.{Took, FailedIn}
use Rattle.track_outside.specs.declared.sink.Sink as sink
use Rattle.track_outside.specs.declared.runner.Runner as runner
use Rattle.tracker_top.specs.{Plays.{IsNewRunner, IsToldIn, PlaysAsDue, line_in, run_status, script_name}, declared.status.Status.Status}
use Rattle.tracker_top.specs.{declared.status.Status.TheVariants.{BadWords, NoMemory}, Statuses.Asks}

none-or-empty : {A : Type 0} (known : Option (List A)) → IfSome known (λ asks. asks ≡ []) → (known ≡ None) ⊎ (known ≡ Some [])
none-or-empty None is = inl refl
none-or-empty (Some asks) is = inr (ap Some is)

pub are-new : {N : Type 0} (n : runner.Ghosts N) (rs : List N) → All (IsNewRunner n) rs → AreNew n rs
are-new n [] all = tt
are-new n (r ∷ rs) all = (none-or-empty (n.asked r) (all 0 r (omega arith)), are-new n rs (λ k d less. all (suc k) d (omega (arith, less))))

-- what is read at a place of a list
at-place : {X : Type 0} (xs : List X) (i : ℕ) (r : Option (Bor X)) → IsItemAt xs i r → option_copied r ≡ slice_get xs i
at-place xs i None item = sym (slice_get_past xs i item.3)
at-place xs i (Some x) item = ap Some item.1 ∙ sym (slice_get-get_or xs i x.now item.3.0)

-- the name of a script of a number above 0
pub name-of : (names : List (Bor (List ℕ))) (number : ℕ) (r : Option (Bor (Bor (List ℕ)))) → ¬ (number ≡ 0) → IsItemAt names (number - 1) r
    → option_map (λ (name : Bor (List ℕ)). name.now) (option_copied r) ≡ script_name (shown names) number
name-of names zero r above item = absurd (above refl)
name-of names (suc k) r above item =
    let here : suc k - 1 ≡ k = omega arith in
    ap (option_map (λ (name : Bor (List ℕ)). name.now)) (at-place names (suc k - 1) r item ∙ ap (slice_get names) here)
    ∙ sym (slice_get-map (λ (name : Bor (List ℕ)). name.now) names k)

-- whether the first word is this one
pub asks-first : {A : Type 0} (words : List (String A)) (word : String A) (name given : List ℕ) (b : Bool) → Some word ≡ slice_get words 0 → given ≡ string_bytes word
    → IsTrue b ↔ (given ≡ name) → (b ≡ true) ↔ Asks name (texts words)
asks-first [] word name given b is same tells = let no : Some word ≡ None = is in cc
asks-first (w ∷ ws) word name given b is same tells =
    let its : word ≡ w = cc in (
      λ yes. (texts ws, ap (λ (n : List ℕ). n ∷ texts ws) (ap string_bytes (sym its) ∙ sym same ∙ tells.0 yes)),
      λ asks. let all : string_bytes w ∷ texts ws ≡ name ∷ asks.0 = asks.1 in
          let first : string_bytes w ≡ name = cc in
          tells.1 (same ∙ ap string_bytes its ∙ first),
    )

-- the line is told by a call that was given these names
pub is-told : {E O : Type 0} (o : sink.Ghosts O) (names given : List (List ℕ)) (old new : O) (status : Status) (r : Result (Unit {0}) E) → names ≡ given
    → OnOk r (Took o old new (line_in given status)) → OnErr r (FailedIn o old new (line_in given status)) → IsToldIn o names old new status
is-told o names given old new status (Ok done) is took failed = inl (subst (λ ns. Took o old new (line_in ns status)) (sym is) took)
is-told o names given old new status (Err why) is took failed = inr (subst (λ ns. FailedIn o old new (line_in ns status)) (sym is) failed)

-- ---- what is due

-- a run never ends as bad words do
pub never-bad : (r : Result (Unit {0}) RunStop) → run_status r ≡ BadWords → ⊥
never-bad (Ok done) is = cc
never-bad (Err run.NoMemory) is = cc
never-bad (Err run.StoreFault) is = cc
never-bad (Err (run.BadStore row)) is = cc
never-bad (Err (run.Full place)) is = cc
never-bad (Err run.OpenFault) is = cc
never-bad (Err run.CreateFault) is = cc
never-bad (Err run.WriteFault) is = cc
never-bad (Err (run.Script number script.ReadFault)) is = cc
never-bad (Err (run.Script number script.WriteFault)) is = cc
never-bad (Err (run.Script number (script.CutOff offset))) is = cc
never-bad (Err (run.Script number script.InputTooLong)) is = cc
never-bad (Err (run.Script number script.NoMemory)) is = cc

same-plan : (one other : Plan) → Play one ≡ Play other → one ≡ other
same-plan one other is = cc

-- words that are no command
pub bad-due : {F I O K : Type 0} (t : Told F I O K) (words : List (List ℕ)) (before after : Objects F O K) → AreNoCommand words → PlaysAsDue t words before after BadWords
bad-due t words before after none due (inl (is, its)) = inl (sym is)
bad-due t words before after none due (inr (plan, spelled, shown)) = absurd (none (Play plan) spelled)

status-comes : (P : Type 0) (result meant : Result (Unit {0}) RunStop) (due : Status) → due ≡ run_status meant → (result ≡ meant) ⊎ (result ≡ Err run.NoMemory) ⊎ P
    → (run_status result ≡ due) ⊎ (run_status result ≡ NoMemory) ⊎ P
status-comes P result meant due is (inl same) = inl (ap run_status same ∙ sym is)
status-comes P result meant due is (inr (inl same)) = inr (inl (ap run_status same))
status-comes P result meant due is (inr (inr failed)) = inr (inr failed)

-- a plan that was run
pub plan-due : {F I O K : Type 0} (t : Told F I O K) (words : List (List ℕ)) (before after : Objects F O K) → AreOneCommand → (plan : Plan) → IsSpelled words (Play plan) → (result : Result (Unit {0}) RunStop)
    → EndsAsDue t plan before after result → PlaysAsDue t words before after (run_status result)
plan-due t words before after one plan spelled result ran due (inl (is, none)) = absurd (none (Play plan) spelled)
plan-due t words before after one plan spelled result ran due (inr (other, its, shown)) =
    let same : plan ≡ other = same-plan plan other (one words (Play plan) (Play other) spelled its) in
    let ends = subst (λ (p : Plan). EndsAsDue t p before after result) same ran in
    status-comes (HasFailed t before after) result shown.0 due shown.1 (ends shown.0 shown.2)

-- ---- a list that was lent as a slice and written back
whole : {A : Type 0} (new old : List A) → length new ≡ length old → take (length old) (new ++ drop (length new) old) ≡ new
whole [] [] same = refl
whole [] (y ∷ old) same = absurd (omega (arith, same))
whole (x ∷ new) [] same = absurd (omega (arith, same))
whole {A = A} (x ∷ new) (y ∷ old) same = ap (λ (l : List A). x ∷ l) (whole new old (omega (arith, same)))

pub whole-of : {A : Type 0} (len : ℕ) (new old : List A) → len ≡ length old → length new ≡ length old → take len (new ++ drop (length new) old) ≡ new
whole-of {A = A} len new old is same = ap (λ (n : ℕ). take n (new ++ drop (length new) old)) is ∙ whole new old same
