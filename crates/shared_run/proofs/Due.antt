-- Private: no public contract cites this. What is due comes, unless memory was wanting or an object failed.
use Rattle.std.proofs.Common.{◌≡◌, ◌≢◌, ℕ, zero, suc, ◌+◌, ◌<◌, ◌≤◌, inl, inr, Bool, true, false, List, [], ◌∷◌, length, Option, Some, None, Ok, Err, refl, sym, ap, subst, ◌∙◌, arith}
use Rattle.std.{specs.Prelude.{◌⊎◌, Result, take, slice_get, find, IfSome, IsSome}, proofs.lemmas.Bool.cases_lt, proofs.lemmas.Grind.common_steps}
use Rattle.std.proofs.lemmas.Option.{slice_get_within}
use Rattle.command_words.specs.Plans.{Plan}
use Rattle.store_rows.specs.Laws.{HasOneOutcome}
use Rattle.keep_rows.specs.{Loading.{Stored, nothing_stored, Makes, IsFirstBad, LeadTo}, Machines.is_track}
use Rattle.metric_table.specs.{Limits.most, declared.limits.Limit.TheVariants.Machines}
use Rattle.play_fits.specs.Workers.{Asked}
use Rattle.request_reader.specs.{Reading.OneReading, Scripts.{Ending, end, cut_off, unfinished, IsScript, input_limit}}
use Rattle.request_words.specs.Bodies.{Item}
use Rattle.script_loop.specs.declared.stop.Stop.{Stop}
use Rattle.script_loop.specs.declared.stop.Stop.TheVariants as stop
use Rattle.track_model.specs.Tracks.{Track}
use Rattle.track_outside.specs.declared.keeper.Keeper as keeper
use Rattle.shared_run.specs.{declared.stop.RunStop.RunStop, Beginnings.{AreStored, NoneCause}}
use Rattle.shared_run.specs.declared.stop.RunStop.TheVariants as run
use Rattle.shared_run.specs.Endings as endings
use Rattle.shared_run.specs.Endings.{EndsAsDue, EndsLate, EndsRun, HasFailed, IsBadStore, IsDue, Objects, StoreGives, Told}
use Rattle.shared_run.specs.{Lists.{IsFull, IsFullAt, with_listed, with_machine}, Ran.NotBegun}

-- ---- scripts
one-ending : OneReading → (bytes : List ℕ) (items others : List Item) (ending other : Ending) → IsScript bytes items ending → IsScript bytes others other → ending ≡ other
one-ending reading bytes items others ending other (inl one) (inl two) = (reading true 0 bytes items others ending other one.1 two.1).1
one-ending reading bytes items others ending other (inr one) (inr two) = (reading false 0 (take input_limit bytes) items others ending other one.1 two.1).1
one-ending reading bytes items others ending other (inl one) (inr two) = absurd (omega (arith, one.0, two.0))
one-ending reading bytes items others ending other (inr one) (inl two) = absurd (omega (arith, one.0, two.0))

none-there : {A : Type 0} {x : A} → ◌≡◌ {A = Option A} None (Some x) → ⊥
none-there is = cc

same-some : {A : Type 0} (x y : A) → Some x ≡ Some y → x ≡ y
same-some x y is = cc

none-named : (A : Type 0) → IsSome {T = A} None → ⊥
none-named A is = cc

-- ---- lists of machines

grow : (list : List (List ℕ)) (tracks : List Track) → length tracks ≤ length (with_listed tracks list)
grow [] tracks = omega arith
grow (m ∷ list) tracks = grind (arith, common_steps, grow list (with_machine tracks m))

one-more : (machine : List ℕ) (tracks : List Track) → find (is_track machine) tracks ≡ None → length tracks < length (with_machine tracks machine)
one-more machine tracks fresh = grind (arith, common_steps)

fresh-as : (machine m : List ℕ) (tracks : List Track) → Some m ≡ Some machine → IsFull tracks machine → find (is_track m) tracks ≡ None
fresh-as machine m tracks there full = subst (λ (n : List ℕ). find (is_track n) tracks ≡ None) (sym (same-some m machine there)) full.fresh

-- a machine for which there is no room makes the list too long
too-long : (list : List (List ℕ)) (tracks : List Track) (before : ℕ) (machine : List ℕ) → slice_get list before ≡ Some machine
    → IsFull (with_listed tracks (take before list)) machine → most Machines < length (with_listed tracks list)
too-long [] tracks before machine there full = absurd (none-there there)
too-long (m ∷ list) tracks zero machine there full = grind (arith, common_steps, one-more, fresh-as, grow)
too-long (m ∷ list) tracks (suc before) machine there full = too-long list (with_machine tracks m) before machine there full

-- there is one such machine
one-place : (list : List (List ℕ)) (tracks : List Track) (p q : ℕ) (a b : List ℕ) → slice_get list p ≡ Some a → IsFull (with_listed tracks (take p list)) a
    → slice_get list q ≡ Some b → IsFull (with_listed tracks (take q list)) b → p ≡ q
one-place [] tracks p q a b at-p full-p at-q full-q = absurd (none-there at-p)
one-place (m ∷ list) tracks zero zero a b at-p full-p at-q full-q = refl
one-place (m ∷ list) tracks zero (suc q) a b at-p full-p at-q full-q = grind (arith, common_steps, one-more, fresh-as, grow, take)
one-place (m ∷ list) tracks (suc p) zero a b at-p full-p at-q full-q = grind (arith, common_steps, one-more, fresh-as, grow, take)
one-place (m ∷ list) tracks (suc p) (suc q) a b at-p full-p at-q full-q = ap suc (one-place list (with_machine tracks m) p q a b at-p full-p at-q full-q)

full-once : (stored : List Track) (list : List (List ℕ)) (p q : ℕ) → IsFullAt stored list p → IsFullAt stored list q → p ≡ q
full-once stored list p q one two = grind (arith, common_steps, one-place)

none-full : (stored tracks : List Track) (list : List (List ℕ)) (p : ℕ) → tracks ≡ with_listed stored list → length tracks ≤ most Machines → IsFullAt stored list p → ⊥
none-full stored tracks list p is few full = grind (arith, common_steps, too-long, length)

-- ---- the store
from-stored : {K : Type 0} (k : keeper.Ghosts K) (store : Option (List ℕ)) (before : K) (one : Stored) → AreStored k store before one
    → (store ≡ None → one ≡ nothing_stored) × (IsSome store → IfSome (k.kept before) (λ rows. LeadTo rows one))
from-stored k store before one is = grind (arith, common_steps)

module _ (outcome : HasOneOutcome Makes) where
  stored-once : (store : Option (List ℕ)) (known : Option (List (List ℕ))) (one other : Stored) → (store ≡ None → one ≡ nothing_stored) × (IsSome store → IfSome known (λ rows. LeadTo rows one))
      → StoreGives store known other → one ≡ other
  stored-once store known one other is its = grind (arith, common_steps)

  stored-bad : (store : Option (List ℕ)) (known : Option (List (List ℕ))) (one : Stored) (row : ℕ) → (store ≡ None → one ≡ nothing_stored) × (IsSome store → IfSome known (λ rows. LeadTo rows one))
      → IsBadStore store known row → ⊥
  stored-bad None known one row is bad = bad
  stored-bad (Some name) None one row is bad = bad
  stored-bad (Some name) (Some told) one row is bad = outcome.either nothing_stored one told row (is.1 refl) bad

  bad-once : (store : Option (List ℕ)) (known : Option (List (List ℕ))) (row other : ℕ) → IfSome known (λ rows. IsFirstBad rows row) → IsBadStore store known other → row ≡ other
  bad-once None known row other is bad = absurd bad
  bad-once (Some name) None row other is bad = absurd bad
  bad-once (Some name) (Some told) row other is bad = outcome.bad nothing_stored told row other is bad

  bad-gives : (store : Option (List ℕ)) (known : Option (List (List ℕ))) (row : ℕ) (one : Stored) → IsSome store → IfSome known (λ rows. IsFirstBad rows row) → StoreGives store known one → ⊥
  bad-gives None known row one some is gives = none-named (List ℕ) some
  bad-gives (Some name) None row one some is gives = gives
  bad-gives (Some name) (Some told) row one some is gives = outcome.either nothing_stored one told row gives is

-- ---- the run
abbrev stopped : RunStop → Result (Unit {0}) RunStop
stopped why = Err why

module _ {F I O K : Type 0} (t : Told F I O K) (plan : Plan) (before after : Objects F O K) (reading : OneReading) (outcome : HasOneOutcome Makes) where
  abbrev rows : Option (List (List ℕ))
  rows = t.keeper.kept before.keeper

  abbrev Comes : Result (Unit {0}) RunStop → Result (Unit {0}) RunStop → Type 0
  Comes result due = (result ≡ due) ⊎ (result ≡ stopped run.NoMemory) ⊎ HasFailed t before after

  abbrev Shows : Result (Unit {0}) RunStop → Type 0
  Shows due = endings.ScriptsShow t plan before.files due

  abbrev Due : Result (Unit {0}) RunStop → Type 0
  Due due = IsDue t plan rows before.files due

  ended-so : (place : ℕ) (ending other : Ending) → endings.EndsSo t plan before.files place ending → endings.HasEnding t plan before.files place other → ending ≡ other
  ended-so place ending other so has =
      let mine = so has.0 has.1 in
      one-ending reading has.0 mine.0 has.2.0 ending other mine.1 has.2.1

  below : (place : ℕ) (ending : Ending) → endings.HasEnding t plan before.files place ending → place < length plan.scripts
  below place ending has = slice_get_within plan.scripts place has.1.0 has.1.1

  all-well : ((place : ℕ) → place < length plan.scripts → endings.EndsSo t plan before.files place end) → (due : Result (Unit {0}) RunStop) → Shows due → due ≡ Ok tt
  all-well well due (inl (is, all)) = is
  all-well well due (inr (place, ending, bad, is)) =
      absurd (bad.bad (sym (ended-so place end ending (well place (below place ending bad.here)) bad.here)))

  one-bad : (place : ℕ) (ending : Ending) → endings.EndsSo t plan before.files place ending → ending ≢ end → place < length plan.scripts
      → ((k : ℕ) → k < place → endings.EndsSo t plan before.files k end) → (due : Result (Unit {0}) RunStop) → Shows due → due ≡ endings.stop_at t plan place ending
  one-bad place ending here bad less well due (inl (is, all)) = absurd (bad (ended-so place ending end here (all place less)))
  one-bad place ending here bad less well due (inr (p, e, first, is)) = elim (cases_lt p place) [
    | inl p-first ↦ absurd (first.bad (sym (ended-so p end e (well p p-first) first.here)))
    | inr not-p ↦ elim (cases_lt place p) [
      | inl mine-first ↦ absurd (bad (ended-so place ending end here (first.well place mine-first)))
      | inr not-mine ↦
          let same : place ≡ p = omega (arith, not-p, not-mine) in
          let its : ending ≡ e = ended-so p ending e (subst (λ (k : ℕ). endings.EndsSo t plan before.files k ending) same here) first.here in
          is ∙ ap (λ (k : ℕ). endings.stop_at t plan k e) (sym same) ∙ ap (endings.stop_at t plan place) (sym its)
    ]
  ]

  cut-apart : (offset : ℕ) → cut_off offset ≢ end
  cut-apart offset same = cc

  open-apart : unfinished ≢ end
  open-apart same = cc

  script-comes : (number : ℕ) (why : Stop) (place : ℕ) → number ≡ place + 1 → place < length plan.scripts → endings.ScriptCause t plan before after place why
      → ((k : ℕ) → k < place → endings.EndsSo t plan before.files k end) → (due : Result (Unit {0}) RunStop) → Shows due → Comes (Err (run.Script number why)) due
  script-comes number stop.ReadFault place is less cause well due shows = inr (inr (inl cause))
  script-comes number stop.WriteFault place is less cause well due shows = inr (inr (inr (inl cause)))
  script-comes number (stop.CutOff offset) place is less cause well due shows =
      inl (ap (λ (n : ℕ). stopped (run.Script n (stop.CutOff offset))) is ∙ sym (one-bad place (cut_off offset) cause (cut-apart offset) less well due shows))
  script-comes number stop.InputTooLong place is less cause well due shows =
      inl (ap (λ (n : ℕ). stopped (run.Script n stop.InputTooLong)) is ∙ sym (one-bad place unfinished cause open-apart less well due shows))
  script-comes number stop.NoMemory place is less cause well due shows = absurd cause

  late-comes : (fulls : List Bool) (result : Result (Unit {0}) RunStop) → endings.LateCause t plan before after result → endings.IsFirstStopped t plan before.files fulls result
      → (due : Result (Unit {0}) RunStop) → Shows due → Comes result due
  late-comes fulls (Ok done) cause first due shows = inl (sym (all-well cause due shows))
  late-comes fulls (Err run.NoMemory) cause first due shows = inr (inl refl)
  late-comes fulls (Err (run.Script number why)) cause first due shows =
      script-comes number why cause.0 cause.1 cause.2 cause.3 (λ k less. (first cause.0 cause.1 k less).0) due shows
  late-comes fulls (Err run.WriteFault) cause first due shows = inr (inr (inr (inr (inl cause))))
  late-comes fulls (Err run.StoreFault) cause first due shows = inr (inr (inr (inr (inr cause.1))))
  late-comes fulls (Err (run.BadStore row)) cause first due shows = absurd cause
  late-comes fulls (Err (run.Full place)) cause first due shows = absurd cause
  late-comes fulls (Err run.OpenFault) cause first due shows = absurd cause
  late-comes fulls (Err run.CreateFault) cause first due shows = absurd cause

  by-late : (asked : List Asked) (result : Result (Unit {0}) RunStop) → EndsLate t plan asked before after result → (due : Result (Unit {0}) RunStop) → Due due → Comes result due
  by-late asked result l due (inl (row, bad, is)) =
      absurd (stored-bad outcome plan.store rows l.begins.stored row (from-stored t.keeper plan.store before.keeper l.begins.stored l.begins.from_store) bad)
  by-late asked result l due (inr (stored, gives, inl (place, full, is))) =
      let same : l.begins.stored ≡ stored = stored-once outcome plan.store rows l.begins.stored stored (from-stored t.keeper plan.store before.keeper l.begins.stored l.begins.from_store) gives in
      absurd (none-full l.begins.stored.machines l.tracks plan.machines place l.begins.listed l.few (subst (λ (s : Stored). IsFullAt s.machines plan.machines place) (sym same) full))
  by-late asked result l due (inr (stored, gives, inr (none, shows))) = late-comes l.fulls result l.cause l.first due shows

  none-comes : (why : RunStop) → NoneCause t.keeper plan before.keeper after.keeper why → (due : Result (Unit {0}) RunStop) → Due due → Comes (Err why) due
  none-comes (run.Full place) c due (inl (row, bad, is)) =
      absurd (stored-bad outcome plan.store rows c.stored row (from-stored t.keeper plan.store before.keeper c.stored c.from_store) bad)
  none-comes (run.Full place) c due (inr (stored, gives, inl (other, full, is))) =
      let same : c.stored ≡ stored = stored-once outcome plan.store rows c.stored stored (from-stored t.keeper plan.store before.keeper c.stored c.from_store) gives in
      inl (ap (λ (p : ℕ). stopped (run.Full p)) (full-once stored.machines plan.machines place other (subst (λ (s : Stored). IsFullAt s.machines plan.machines place) same c.full) full) ∙ sym is)
  none-comes (run.Full place) c due (inr (stored, gives, inr (none, shows))) =
      let same : c.stored ≡ stored = stored-once outcome plan.store rows c.stored stored (from-stored t.keeper plan.store before.keeper c.stored c.from_store) gives in
      absurd (none place (subst (λ (s : Stored). IsFullAt s.machines plan.machines place) same c.full))
  none-comes run.NoMemory c due is = inr (inl refl)
  none-comes run.StoreFault c due is = inr (inr (inr (inr (inr c.1))))
  none-comes (run.BadStore row) c due (inl (other, bad, is)) = inl (ap (λ (r : ℕ). stopped (run.BadStore r)) (bad-once outcome plan.store rows row other c.1 bad) ∙ sym is)
  none-comes (run.BadStore row) c due (inr (stored, gives, shows)) = absurd (bad-gives outcome plan.store rows row stored c.0 c.1 gives)
  none-comes run.OpenFault c due is = absurd c
  none-comes run.CreateFault c due is = absurd c
  none-comes (run.Script number why) c due is = absurd c
  none-comes run.WriteFault c due is = absurd c

  begun-comes : (why : RunStop) → NotBegun t.files plan.scripts before.files after.files why → (due : Result (Unit {0}) RunStop) → Comes (Err why) due
  begun-comes why asks due = grind (arith, common_steps)

  early-comes : (why : RunStop) → endings.EarlyCause t plan before after why → (due : Result (Unit {0}) RunStop) → Due due → Comes (Err why) due
  early-comes why (inl (cause, same)) due is = none-comes why cause due is
  early-comes why (inr not-begun) due is = begun-comes why not-begun due

  pub as-due : (asked : List Asked) (result : Result (Unit {0}) RunStop) → EndsRun t plan asked before after result → EndsAsDue t plan before after result
  as-due asked (Ok done) late due is = by-late asked (Ok tt) late due is
  as-due asked (Err why) (inl early) due is = early-comes why early.cause due is
  as-due asked (Err why) (inr late) due is = by-late asked (Err why) late due is
