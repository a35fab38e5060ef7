-- Claims after a request.
use Rattle.history_model.specs.{declared.entries.Author.Author, declared.entries.Entry.Entry, Allowed.{Allowed, Legal}, Entries.entries_of, Laws.KnownStays}
use Rattle.std.proofs.{Common.{◌≡◌, ℕ, ◌+◌, List, [], ◌∷◌, ◌++◌, sym, subst, Option, Some, None, arith}, lemmas.Grind.common_steps}
use Rattle.touch_index.specs.Marks.{Entries}
use Rattle.touch_model.specs.Laws.{KnownGrows, LatestStays, TouchesArePast, TouchesGrow}
use Rattle.track_model.specs.Tracks.{Track, with_added}
use Rattle.track_state.{specs.Covering.Covers, proofs.Covering.covers-grown, proofs.Handed.last-allowed}

module _ (grow : TouchesGrow) (past : TouchesArePast) (known : KnownGrows) (stays : KnownStays) (latest : LatestStays)
    (author : Author) (old new : Track) (legal : Legal (entries_of new.history)) (seen : ℕ) (marks : Entries) (covers : Covers (entries_of old.history) seen marks) where
  -- the marks still tell of the history
  pub step-covers : (adds : Option Entry) → new ≡ with_added author old adds → Covers (entries_of new.history) seen marks
  step-covers None is = subst (λ (t : Track). Covers (entries_of t.history) seen marks) (sym is) covers
  step-covers (Some e) is =
      let entries : entries_of new.history ≡ entries_of old.history ++ e ∷ [] = grind (arith, common_steps) in
      let allowed : Allowed (entries_of old.history) e = last-allowed (entries_of old.history) e (let P : List Entry → Type 0 = λ h. Legal h in subst P entries legal) in
      subst (λ (h : List Entry). Covers h seen marks) (sym entries) (covers-grown grow past known stays latest (entries_of old.history) e allowed seen marks covers)
