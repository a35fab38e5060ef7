-- Each cut of a publication that stands in a legal history is between positions of declared commits, in their order.
use Rattle.std.proofs.Common.{◌≡◌, ℕ, zero, suc, ◌+◌, ◌-◌, ◌<◌, List, [], ◌∷◌, ◌++◌, length, All, refl, sym, ap, ◌∙◌, subst, arith, inl, inr}
use Rattle.std.{specs.Prelude.{Bool, IsSome, map, filter, find, is_none, drop, slice_index}, proofs.lemmas.Grind.common_steps}
use Rattle.std.proofs.lemmas.List.{append-nil, length-map, map-append, take-append-drop, Elements.{All-filter, All-head, All-tail}}
use Rattle.segment_model.{proofs.Rising.{IsIn, RisesFrom, rising-rises, rising-only, in-append}, specs.Cuts.RisesBetween, proofs.CutLists.places-rise}
use Rattle.segment_model.specs.{Limits.commits_of, Segments.Position}
use Rattle.sample_model.specs.Samples.{Measurement}
use Rattle.history_model.specs.declared.{entries.Acceptance.Acceptance, entries.Entry.Entry, publication.Publication.Publication}
use Rattle.history_model.{specs.Allowed.{AllowedAfter, Legal}, specs.Commits.name_of, specs.Penalties.length_of, proofs.Named.{still-named, runs-named}}
use Rattle.history_model.specs.{Positions.{Brought, rising, position_at, brought_by, brought, positions}, Publications.{Stands, spoken_of, published}}
use Rattle.history_model.specs.{Runs.{Series, acceptances, retractions, takes_back, live_runs, is_of}, Followed.IsBetweenDeclared}

-- ---- places of lists
within : (xs : List ℕ) (k : ℕ) → k < length xs → IsIn (slice_index xs k) xs
within [] k lt = absurd (omega (arith, lt))
within (x ∷ xs) zero lt = inl refl
within (x ∷ xs) (suc k) lt = inr (within xs k (omega (arith, lt)))

rises-next : (low : ℕ) (xs : List ℕ) (k : ℕ) → RisesFrom low xs → k + 1 < length xs → slice_index xs k < slice_index xs (suc k)
rises-next low [] k rises lt = absurd (omega (arith, lt))
rises-next low (x ∷ []) k rises lt = absurd (omega (arith, lt))
rises-next low (x ∷ y ∷ xs) zero rises lt = rises.1.0
rises-next low (x ∷ y ∷ xs) (suc k) rises lt = rises-next (suc x) (y ∷ xs) k rises.1 (omega (arith, lt))

rises-between : (low high : ℕ) (cuts : List ℕ) (k : ℕ) → RisesBetween low high cuts → k < length cuts → (low < slice_index cuts k) × (slice_index cuts k < high)
rises-between low high [] k rises lt = absurd (omega (arith, lt))
rises-between low high (c ∷ cs) zero rises lt = (rises.0, rises.1)
rises-between low high (c ∷ cs) (suc k) rises lt = grind (arith, common_steps, rises-between c high cs k rises.2 (omega (arith, lt)))

-- ---- the commits of positions are those of runs
commits-at : (items : List Brought) (ns : List ℕ) → commits_of (map (position_at items) ns) ≡ ns
commits-at items [] = refl
commits-at items (n ∷ ns) = ap (λ ms. n ∷ ms) (commits-at items ns)

abbrev commit_of : Brought → ℕ
commit_of x = x.commit

module _ (P : ℕ → Type 0) (s : Series) where
  abbrev came : Acceptance → Measurement → Brought
  came a x = record { commit = a.run.commit; step = a.step; value = x.value }

  of-run : (a : Acceptance) (xs : List Measurement) (c : ℕ) → P a.run.commit → IsIn c (map commit_of (map (came a) xs)) → P c
  of-run a [] c holds is_in = absurd is_in
  of-run a (x ∷ xs) c holds is_in = elim is_in [ inl is ↦ subst P (sym is) holds | inr later ↦ of-run a xs c holds later ]

  of-runs : (runs : List Acceptance) → All (λ (a : Acceptance). P a.run.commit) runs → (c : ℕ) → IsIn c (map commit_of (brought s runs)) → P c
  of-runs [] all c is_in = absurd is_in
  of-runs (a ∷ runs) all c is_in =
      let Q : Acceptance → Type 0 = λ (x : Acceptance). P x.run.commit in
      elim (in-append c (map commit_of (brought_by s a)) (map commit_of (brought s runs)) (subst (IsIn c) (map-append commit_of (brought_by s a) (brought s runs)) is_in)) [
        | inl here ↦ of-run a (filter (is_of s) a.run.samples) c (All-head Q a runs all) here
        | inr later ↦ of-runs runs (All-tail Q a runs all) c later
      ]

-- ---- a version of a legal history
legal-front : (before es more : List Entry) → AllowedAfter before (es ++ more) → AllowedAfter before es
legal-front before [] more legal = tt
legal-front before (e ∷ es) more legal = (legal.0, legal-front (before ++ e ∷ []) es more legal.1)

pub named-more : (n : ℕ) (h more : List Entry) → IsSome (name_of n h) → IsSome (name_of n (h ++ more))
named-more n h [] some = let P : List Entry → Type 0 = λ v. IsSome (name_of n v) in subst P (sym (append-nil h)) some
named-more n h (e ∷ more) some = grind (arith, common_steps, named-more n (h ++ e ∷ []) more (still-named h e n some))

module _ (h : List Entry) (p : Publication) (legal : Legal h) (stands : Stands h p) where
  abbrev version : List Entry
  version = spoken_of h p

  whole : version ++ drop p.version h ≡ h
  whole = take-append-drop p.version h

  legal-version : Legal version
  legal-version = legal-front [] version (drop p.version h) (subst Legal (sym whole) legal)

  items : List Brought
  items = brought (published p) (live_runs version)

  declared : (c : ℕ) → IsIn c (map commit_of items) → IsSome (name_of c h)
  unfolding items
  declared c is_in =
      let P : ℕ → Type 0 = λ n. IsSome (name_of n version) in
      let Q : Acceptance → Type 0 = λ (a : Acceptance). IsSome (name_of a.run.commit version) in
      let is-live : Acceptance → Bool = λ a. is_none (find (takes_back a.run.run) (retractions version)) in
      let some = of-runs P (published p) (live_runs version) (All-filter is-live Q (acceptances version) (runs-named version legal-version)) c is_in in
      let R : List Entry → Type 0 = λ v. IsSome (name_of c v) in
      subst R whole (named-more c version (drop p.version h) some)

  commits : commits_of (positions version (published p)) ≡ rising (map commit_of items)
  unfolding items
  commits = commits-at (brought (published p) (live_runs version)) (rising (map commit_of (brought (published p) (live_runs version))))

  pub between-declared : (k : ℕ) → k < length p.cuts → IsBetweenDeclared h (commits_of (positions version (published p))) (slice_index p.cuts k)
  between-declared k lt =
      let range = rises-between 0 (length (positions version (published p))) p.cuts k (places-rise (length_of p.metric version) (length (positions version (published p))) p.cuts stands.best.best.is_cut_list) lt in
      let as_many : length (rising (map commit_of items)) ≡ length (positions version (published p)) =
      sym (ap length commits) ∙ length-map (positions version (published p)) (λ (x : Position). x.commit) in
      rw commits (at (slice_index p.cuts k) range.0 (omega (arith, range.1, as_many)))
    where
      at : (cut : ℕ) → 0 < cut → cut < length (rising (map commit_of items)) → IsBetweenDeclared h (rising (map commit_of items)) cut
      at zero some lt = absurd (omega (arith, some))
      at (suc c) some lt =
          let ns = rising (map commit_of items) in
          let e : suc c - 1 ≡ c = omega arith in
          record {
            before = rw e (declared (slice_index ns c) (rising-only (slice_index ns c) (map commit_of items) (within ns c (omega (arith, lt)))));
            after = declared (slice_index ns (suc c)) (rising-only (slice_index ns (suc c)) (map commit_of items) (within ns (suc c) lt));
            rising = rw e (rises-next 0 ns c (rising-rises (map commit_of items)) (omega (arith, lt)));
          }
