-- What a walk keeps, as its parts change.
use Rattle.std.proofs.Common.{◌≡◌, ℕ, ◌+◌, ◌<◌, cond, List, [], ◌∷◌, ◌++◌, length, set, replicate, refl, sym, ap, ◌∙◌, subst, Option, Some, None, arith}
use Rattle.std.{specs.Prelude.slice_get, proofs.lemmas.List.length-replicate, proofs.lemmas.Grind.common_steps}
use Rattle.history_model.specs.declared.{entries.Entry.Entry, entries.Entry.TheVariants.Publish, entries.Placed.Placed, publication.Publication.Publication}
use Rattle.history_model.specs.{Entries.entries_of, Publications.published}
use Rattle.journal_walk.specs.{Ahead.{AllMet, Keeps, KeepsAhead, Slots}, declared.ahead.Ahead.Ahead, declared.needs.Need.Need, declared.version.Version.Version}
use Rattle.journal_walk.{specs.Firsts.{AreFirsts, Places}, specs.Needs.IsPlan, specs.Versions.IsNow, proofs.Keeping.{begins, grows, lets-go, meets}}
use Rattle.journal_walk.proofs.Plans.{many}

-- of other lists that are the same
pub same-keeps : (es h : List Entry) (needs needs' : List Need) (met met' : ℕ) (bases bases' versions versions' : Slots) → Keeps es h needs met bases versions
    → needs' ≡ needs → met' ≡ met → bases' ≡ bases → versions' ≡ versions → Keeps es h needs' met' bases' versions'
same-keeps es h needs needs' met met' bases bases' versions versions' keeps n m b v = grind (arith, common_steps)

-- an entry more
pub grown : (es h h' : List Entry) (e : Entry) (a : Ahead) → KeepsAhead es h a → AllMet h a → h' ≡ h ++ e ∷ [] → KeepsAhead es h' a
grown es h h' e a kept met is =
    subst (λ (l : List Entry). KeepsAhead es l a) (sym is)
    (record { keeps = grows es h e a.needs.items a.met a.bases.items a.versions.items kept.keeps met; firsts = kept.firsts })

-- the same history
pub stays : (es h h' : List Entry) (a : Ahead) → KeepsAhead es h a → h' ≡ h → KeepsAhead es h' a
stays es h h' a kept is = subst (λ (l : List Entry). KeepsAhead es l a) (sym is) kept

-- what was kept for an entry is let go
pub gone : (es h : List Entry) (place : ℕ) (a b : Ahead) → KeepsAhead es h a → place < length h → b.needs.items ≡ a.needs.items → b.met ≡ a.met
    → b.bases.items ≡ set a.bases.items place None → b.versions.items ≡ set a.versions.items place None → b.firsts ≡ a.firsts → KeepsAhead es h b
gone es h place a b kept lt needs met bases versions firsts = record {
  keeps = same-keeps es h a.needs.items b.needs.items a.met b.met (set a.bases.items place None) b.bases.items (set a.versions.items place None) b.versions.items
      (lets-go es h a.needs.items a.met place a.bases.items a.versions.items lt kept.keeps) needs met bases versions;
  firsts = subst (λ (f : Places). AreFirsts es f) (sym firsts) kept.firsts;
}

-- the next need was met
pub met-next : (es h : List Entry) (a b : Ahead) (need : Need) (p : Publication) (found : Option Version) → KeepsAhead es h a → slice_get a.needs.items a.met ≡ Some need
    → slice_get es need.place ≡ Some (Publish p) → need.at ≡ length h → IsNow h (published p) found → b.needs.items ≡ a.needs.items → b.met ≡ a.met + 1
    → b.bases.items ≡ cond need.is_base (set a.bases.items need.place found) a.bases.items
    → b.versions.items ≡ cond need.is_base a.versions.items (set a.versions.items need.place found) → b.firsts ≡ a.firsts → KeepsAhead es h b
met-next es h a b need p found kept next there now is needs met bases versions firsts = record {
  keeps = same-keeps es h a.needs.items b.needs.items (a.met + 1) b.met b.bases.items b.bases.items b.versions.items b.versions.items
      (meets es h a.needs.items a.met a.bases.items a.versions.items kept.keeps need next p there now found is b.bases.items b.versions.items bases versions)
      needs met refl refl;
  firsts = subst (λ (f : Places). AreFirsts es f) (sym firsts) kept.firsts;
}

-- nothing was met at the beginning
pub begun : (history : List Placed) (a : Ahead) → IsPlan (entries_of history) a.needs.items → a.met ≡ 0 → a.bases.items ≡ replicate (length history) None
    → a.versions.items ≡ replicate (length history) None → AreFirsts (entries_of history) a.firsts → KeepsAhead (entries_of history) [] a
begun history a plan met bases versions firsts =
    let size : length (entries_of history) ≡ length history = many history in
    let same : replicate {A = Option Version} (length history) None ≡ replicate (length (entries_of history)) None = grind (arith, common_steps) in
    let sized : (slots : Slots) → slots ≡ replicate (length history) None → length slots ≡ length (entries_of history) =
    λ slots is. ap length is ∙ length-replicate (length history) None ∙ sym size in
    record {
      keeps = same-keeps (entries_of history) [] a.needs.items a.needs.items 0 a.met a.bases.items a.bases.items a.versions.items a.versions.items
          (begins (entries_of history) a.needs.items plan a.bases.items a.versions.items (bases ∙ same) (versions ∙ same) (sized a.bases.items bases) (sized a.versions.items versions))
          refl met refl refl;
      firsts = firsts;
    }
