-- What a publication more makes of what was added, of what is known, and of what is quiet.
use Rattle.history_model.{proofs.Chosen.entries-push, specs.declared.entries.Author.Author, specs.declared.entries.Entry.Entry, specs.Runs.{Series, is_known}}
use Rattle.std.proofs.{Common.{◌≡◌, inl, inr, List, [], ◌∷◌, ◌++◌, sym, ap, subst, ◌∙◌, arith}, lemmas.Grind.common_steps}
use Rattle.history_model.specs.declared.{entries.Entry.TheVariants.Publish, publication.Publication.Publication}
use Rattle.history_model.specs.{Allowed.{Allowed, Legal}, Entries.entries_of, Laws.{AcceptancesGrow, CutsGrow, RetractionsGrow}, Penalties.SettingStays}
use Rattle.touch_model.specs.Laws.{KnownGrows, LatestStays, TouchesGrow}
use Rattle.track_model.specs.Tracks.{Track, with_entry}
use Rattle.track_room.{specs.Work.bare, proofs.Handed.last-allowed}
use Rattle.recompute_workers.{specs.Quiet.IsQuiet, specs.Recomputing.{AddsOne, AddsPublications}, proofs.Quieting.quiet-stays}

pub adds-more : (author : Author) (a b c : Track) → AddsPublications author a b → AddsOne author b c → AddsPublications author a c
adds-more author a b c adds x5 = grind (arith, common_steps)

-- from a machine that differs by its tables
pub adds-from : (author : Author) (a b c : Track) → bare b ≡ bare a → AddsOne author b c → AddsOne author a c
adds-from author a b c same x5 = grind (arith, common_steps)

module _ (accept : AcceptancesGrow) (retract : RetractionsGrow) (cuts : CutsGrow) (setting : SettingStays) (grow : TouchesGrow) (known : KnownGrows) (latest : LatestStays)
    (author : Author) (b c : Track) (legal : Legal (entries_of c.history)) where
  entries : (p : Publication) → bare c ≡ bare (with_entry author b (Publish p)) → entries_of c.history ≡ entries_of b.history ++ Publish p ∷ []
  entries p is = ap (λ (t : Track). entries_of t.history) is ∙ entries-push b.history (record { author = author; entry = Publish p })

  may : (p : Publication) → bare c ≡ bare (with_entry author b (Publish p)) → Allowed (entries_of b.history) (Publish p)
  may p is = last-allowed (entries_of b.history) (Publish p) (let P : List Entry → Type 0 = λ h. Legal h in subst P (entries p is) legal)

  pub known-more : AddsOne author b c → (s : Series) → is_known s (entries_of c.history) ≡ is_known s (entries_of b.history)
  known-more x0 s = grind (arith, common_steps)

  pub quiet-more : AddsOne author b c → (s : Series) → IsQuiet (entries_of b.history) s → IsQuiet (entries_of c.history) s
  quiet-more (inl is) s quiet = subst (λ (t : Track). IsQuiet (entries_of t.history) s) (sym is) quiet
  quiet-more (inr one) s quiet =
      subst (λ (h : List Entry). IsQuiet h s) (sym (entries one.0 one.1))
      (quiet-stays accept retract cuts setting grow known latest (entries_of b.history) one.0 (may one.0 one.1) s quiet)
