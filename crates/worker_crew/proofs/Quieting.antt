-- Private: no public contract cites this. What is quiet stays so where answers are added, and a whole run leaves quiet journals.
use Rattle.std.proofs.Common.{◌≡◌, ◌≤◌, ℕ, inl, inr, Bool, false, List, [], ◌∷◌, ◌++◌, length, refl, sym, ap₂, subst, ◌∙◌, arith, append_assoc, append-nil}
use Rattle.std.{specs.Prelude.◌||◌, specs.List.{AllByRecursion, AllZip}, proofs.lemmas.List.length-append, proofs.lemmas.Grind.common_steps}
use Rattle.metric_table.specs.declared.limits.Limit.TheVariants as limit
use Rattle.segment_model.specs.Segments.{Position}
use Rattle.history_model.specs.declared.entries.{Acceptance.Acceptance, Author.Author, Entry.Entry, Placed.Placed}
use Rattle.history_model.specs.declared.entries.Entry.TheVariants as entry
use Rattle.history_model.specs.{declared.events.JobEvent.JobEvent, Allowed.{Allowed, AllowedAfter, Legal}, Entries.entries_of}
use Rattle.history_model.specs.{Laws.{AcceptancesGrow, CutsGrow, PublicationStays, RetractionsGrow}, Penalties.{SettingStays, length_of, penalty_of}}
use Rattle.history_model.specs.{declared.setting.Setting.Setting, Positions.{brought, positions, positions_of}, Publications.AreBest}
use Rattle.history_model.specs.Runs.{Retraction, Series, acceptances, is_known, live_of, retractions}
use Rattle.touch_model.specs.{Laws.{KnownGrows, TouchesGrow}, Touches.last_touch}
use Rattle.bisect_workers.specs.{Settling.said_of, Bisecting.IsSaidBy}
use Rattle.track_model.specs.Tracks.{Track}
use Rattle.worker_model.specs.Quiet.{HasAllSteps, IsCurrent, SeriesAreQuiet, WouldPassCuts}
use Rattle.play_fits.specs.{Fits.Play, Quiet.IsQuiet}
use Rattle.worker_crew.{specs.Laws.FinishesLast, specs.Runs.{BisectsLast, RunsPlayers, Tally}, proofs.Late.{Adds, bisected-adds}}

-- ---- what is quiet stays so where something is said of a job
or-false : (b : Bool) → (b || false) ≡ b
or-false b = grind (arith, common_steps)

module _ (accept : AcceptancesGrow) (retract : RetractionsGrow) (cuts : CutsGrow) (setting : SettingStays) (grow : TouchesGrow) (known : KnownGrows) (stays : PublicationStays) where
  module _ (h : List Entry) (e : JobEvent) (allowed : Allowed h (entry.Job e)) where
    abbrev h' : List Entry
    h' = h ++ entry.Job e ∷ []

    same-known : (s : Series) → is_known s h' ≡ is_known s h
    same-known s = known h (entry.Job e) s ∙ or-false (is_known s h)

    same-positions : (s : Series) → positions h' s ≡ positions h s
    same-positions s =
        ap₂ (λ (taken : List Retraction) (runs : List Acceptance). positions_of (brought s (live_of taken runs)))
        (retract h (entry.Job e) ∙ append-nil (retractions h)) (accept h (entry.Job e) ∙ append-nil (acceptances h))

    current-stays : (s : Series) → IsCurrent h s → IsCurrent h' s
    current-stays s c = record {
      publication = c.publication;
      last = stays h (entry.Job e) s refl ∙ c.last;
      late = let same : last_touch h' s ≡ last_touch h s = grow h (entry.Job e) s in let late = c.late in omega (arith, same, late);
    }

    passes-stays : (s : Series) → WouldPassCuts h s → WouldPassCuts h' s
    passes-stays s would = record {
      cuts = would.cuts;
      total = would.total;
      best =
          subst (λ (x : Setting). AreBest (positions h' s) x.penalty x.length would.cuts would.total) (sym (setting h (entry.Job e) s.metric refl))
          (subst (λ (ps : List Position). AreBest ps (penalty_of s.metric h) (length_of s.metric h) would.cuts would.total) (sym (same-positions s)) would.best);
      passes = let more = cuts h (entry.Job e) in let passes = would.passes in omega (arith, more, passes);
    }

    no-room : HasAllSteps h → ⊥
    no-room all =
        let size = length-append h (entry.Job e ∷ []) in
        let few : length h' ≤ 1_048_576 = allowed.1 limit.Steps in
        let most : length h ≡ 1_048_576 = all in
        absurd (omega (arith, size, few, most))

    pub quiet-stays : SeriesAreQuiet h → SeriesAreQuiet h'
    quiet-stays quiet s is_it = elim (quiet s (sym (same-known s) ∙ is_it)) [
      | inl current ↦ inl (current-stays s current)
      | inr full ↦ elim full [
        | inl all ↦ absurd (no-room all)
        | inr would ↦ inr (inr (passes-stays s would))
      ]
    ]

  quiet-said : (w : Author) (h : List Entry) (p : Placed) → IsSaidBy w p → Allowed h p.entry → SeriesAreQuiet h → SeriesAreQuiet (h ++ p.entry ∷ [])
  quiet-said w h p said allowed quiet =
      subst (λ (x : Entry). SeriesAreQuiet (h ++ x ∷ [])) (sym said.entry_is)
      (quiet-stays h (said_of said.job said.place said.status) (subst (λ (x : Entry). Allowed h x) said.entry_is allowed) quiet)

  quiet-all : (w : Author) (h : List Entry) (ps : List Placed) → AllByRecursion (IsSaidBy w) ps → AllowedAfter h (entries_of ps) → SeriesAreQuiet h → SeriesAreQuiet (h ++ entries_of ps)
  quiet-all w h [] all legal quiet = subst SeriesAreQuiet (sym (append-nil h)) quiet
  quiet-all w h (p ∷ ps) all legal quiet =
      subst SeriesAreQuiet (append_assoc h (p.entry ∷ []) (entries_of ps))
      (quiet-all w (h ++ p.entry ∷ []) ps all.1 legal.1 (quiet-said w h p all.0 legal.0 quiet))

  quiet-machines : (w : Author) (olds news : List Track) → AllZip (Adds (IsSaidBy w)) olds news → AllByRecursion (λ (t : Track). Legal (entries_of t.history)) news
      → AllByRecursion (λ (t : Track). SeriesAreQuiet (entries_of t.history)) olds → AllByRecursion (λ (t : Track). SeriesAreQuiet (entries_of t.history)) news
  quiet-machines w [] [] adds legal quiet = tt
  quiet-machines w [] (n ∷ news) adds legal quiet = absurd adds
  quiet-machines w (o ∷ olds) [] adds legal quiet = absurd adds
  quiet-machines w (o ∷ olds) (n ∷ news) adds legal quiet =
      let split : entries_of n.history ≡ entries_of o.history ++ entries_of adds.0.more = grind (arith, common_steps) in
      let after : AllowedAfter (entries_of o.history) (entries_of adds.0.more) =
      legal-behind [] (entries_of o.history) (entries_of adds.0.more) (subst (λ (h : List Entry). Legal h) split legal.0) in (
        subst SeriesAreQuiet (sym split) (quiet-all w (entries_of o.history) adds.0.more adds.0.each after quiet.0),
        quiet-machines w olds news adds.1 legal.1 quiet.1,
      )
    where
      legal-behind : (before es fs : List Entry) → AllowedAfter before (es ++ fs) → AllowedAfter (before ++ es) fs
      legal-behind before [] fs legal = subst (λ (h : List Entry). AllowedAfter h fs) (sym (append-nil before)) legal
      legal-behind before (e ∷ es) fs legal = subst (λ (h : List Entry). AllowedAfter h fs) (append_assoc before (e ∷ []) es) (legal-behind (before ++ e ∷ []) es fs legal.1)

  quiet-last : (workers : ℕ) (word : List ℕ) (olds news : List Track) (before after : List Tally) → BisectsLast workers word olds news before after
      → AllByRecursion (λ (t : Track). Legal (entries_of t.history)) news → AllByRecursion (λ (t : Track). SeriesAreQuiet (entries_of t.history)) olds → AllByRecursion (λ (t : Track). SeriesAreQuiet (entries_of t.history)) news
  quiet-last workers word olds news before after is legal quiet = grind (arith, common_steps, quiet-machines, bisected-adds)

  pub players-quiet : (play : Play) (journals : List Track) (r : RunsPlayers play journals) → FinishesLast play r.published journals → IsQuiet play.recompute play.bisect journals
  players-quiet play journals r f = grind (arith, common_steps, quiet-last)
