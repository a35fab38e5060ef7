-- The commits beside each change of a publication are declared.
use Rattle.std.proofs.Common.{ℕ, zero, suc, ◌+◌, ◌-◌, ◌<◌, Bool, true, false, cond, List, [], ◌∷◌, length, map, take, All, sym, subst, Option, Some, None, arith}
use Rattle.std.{specs.Prelude.{IsSome, slice_index, nat_lt, nat_eq, filter}, specs.List.cons_option, proofs.lemmas.List.length-map}
use Rattle.std.proofs.lemmas.List.{Elements.{All-nil, All-cons, All-head, All-tail, All-append, All-filter, All-map}, Concat.flat_map-cons}
use Rattle.segment_model.specs.{Segments.Position, Brought.{Brought, in_place, rising, position_at, positions_of}, Cuts.RisesBetween}
use Rattle.segment_model.{proofs.CutLists.places-rise, specs.Limits.commits_of}
use Rattle.sample_model.specs.Samples.{Measurement}
use Rattle.change_list.specs.{Changes.AreChanges, declared.change.Change.Change}
use Rattle.segment_cost.specs.declared.done.Done.{Done}
use Rattle.history_model.specs.{declared.entries.Acceptance.Acceptance, declared.entries.Entry.Entry, Allowed.Legal, Commits.{declarations, name_of}}
use Rattle.history_model.specs.{Entries.chosen_from, Laws.RunsHaveCommits, Positions.{brought_by, brought, positions}}
use Rattle.history_model.specs.Runs.{Series, is_of, acceptance, acceptances, retractions, live_of}
use Rattle.publication_index.specs.Kept.{series_of}
use Rattle.track_reports.specs.Lines.{HasNames}
use Rattle.machine_state.specs.Made.{IsMadeFrom}

-- what holds of all that is chosen from a history holds of what is chosen from its front
all-front : {A : Type 0} (P : A → Type 0) (choice : ℕ → Entry → Option A) (step v : ℕ) (h : List Entry) → All P (chosen_from step choice h) → All P (chosen_from step choice (take v h))
all-front {A = A} P choice step zero h all = All-nil P
all-front {A = A} P choice step (suc v) [] all = All-nil P
all-front {A = A} P choice step (suc v) (e ∷ h) all = by (choice step e) (all-front P choice (step + 1) v h) all
  where
    by : (o : Option A) → (All P (chosen_from (step + 1) choice h) → All P (chosen_from (step + 1) choice (take v h)))
        → All P (cons_option o (chosen_from (step + 1) choice h)) → All P (cons_option o (chosen_from (step + 1) choice (take v h)))
    by None rest all = rest all
    by (Some x) rest all =
        All-cons P x (chosen_from (step + 1) choice (take v h)) (All-head P x (chosen_from (step + 1) choice h) all) (rest (All-tail P x (chosen_from (step + 1) choice h) all))

module _ (Q : ℕ → Type 0) where
  all-in-place : (c : ℕ) (ds : List ℕ) → Q c → All Q ds → All Q (in_place c ds)
  all-in-place c [] q all = All-cons Q c [] q (All-nil Q)
  all-in-place c (d ∷ ds) q all =
      either (nat_lt c d) (nat_eq d c) (All-cons Q c (d ∷ ds) q all) all (All-cons Q d (in_place c ds) (All-head Q d ds all) (all-in-place c ds q (All-tail Q d ds all)))
    where
      either : (a b : Bool) → All Q (c ∷ d ∷ ds) → All Q (d ∷ ds) → All Q (d ∷ in_place c ds) → All Q (cond a (c ∷ d ∷ ds) (cond b (d ∷ ds) (d ∷ in_place c ds)))
      either true b x y z = x
      either false true x y z = y
      either false false x y z = z

  all-rising : (cs : List ℕ) → All Q cs → All Q (rising cs)
  all-rising [] all = All-nil Q
  all-rising (c ∷ cs) all = all-in-place c (rising cs) (All-head Q c cs all) (all-rising cs (All-tail Q c cs all))

  all-brought : (s : Series) (runs : List Acceptance) → All (λ (a : Acceptance). Q a.run.commit) runs → All (λ (x : Brought). Q x.commit) (brought s runs)
  all-brought s [] all = All-nil (λ (x : Brought). Q x.commit)
  all-brought s (a ∷ runs) all =
      let P : Brought → Type 0 = λ x. Q x.commit in
      let here : Q a.run.commit = All-head (λ (b : Acceptance). Q b.run.commit) a runs all in
      let one : All P (brought_by s a) = All-map P (λ (x : Measurement). let b : Brought = record { commit = a.run.commit; step = a.step; value = x.value } in b) (filter (is_of s) a.run.samples) (λ i d lt. here) in
      subst (λ (xs : List Brought). All P xs) (sym (flat_map-cons (brought_by s) a runs))
      (All-append P (brought_by s a) (brought s runs) one (all-brought s runs (All-tail (λ (b : Acceptance). Q b.run.commit) a runs all)))

  all-positions : (s : Series) (runs : List Acceptance) → All (λ (a : Acceptance). Q a.run.commit) runs → All (λ (p : Position). Q p.commit) (positions_of (brought s runs))
  all-positions s runs all =
      let items : List Brought = brought s runs in
      All-map (λ (p : Position). Q p.commit) (position_at items) (rising (map (λ (x : Brought). x.commit) items))
      (all-rising (map (λ (x : Brought). x.commit) items) (All-map Q (λ (x : Brought). x.commit) items (all-brought s runs all)))

  at-commit : (points : List Position) → All (λ (p : Position). Q p.commit) points → (k : ℕ) → k < length points → Q (slice_index (commits_of points) k)
  at-commit points all k lt =
      let each : All Q (commits_of points) = All-map Q (λ (p : Position). p.commit) points all in
      let size = length-map points (λ (p : Position). p.commit) in
      each k 0 (omega (arith, lt, size))

commits-declared : RunsHaveCommits → (h : List Entry) (s : Series) (v : ℕ) → Legal h → All (λ (p : Position). IsSome (name_of p.commit h)) (positions (take v h) s)
commits-declared runs h s v legal =
    let Q : ℕ → Type 0 = λ c. IsSome (name_of c h) in
    all-positions Q s (live_of (retractions (take v h)) (acceptances (take v h)))
    (All-filter _ (λ (a : Acceptance). Q a.run.commit) (acceptances (take v h)) (all-front (λ (a : Acceptance). Q a.run.commit) acceptance 1 v h (runs h legal)))

-- ---- the places of cuts
within : (low high : ℕ) (cuts : List ℕ) → RisesBetween low high cuts → (i : ℕ) → i < length cuts → (low < slice_index cuts i) × (slice_index cuts i < high)
within low high [] rises i lt = absurd (omega (arith, lt))
within low high (c ∷ cuts) rises zero lt = (rises.0, rises.1)
within low high (c ∷ cuts) rises (suc i) lt =
    let rest = within c high cuts rises.2 i (omega (arith, lt)) in
    (let up = rest.0 in omega (arith, up, rises.0), rest.1)

pub all-have-names : RunsHaveCommits → (h : List Entry) (done : Done) (items : List Change) → Legal h → IsMadeFrom h done → AreChanges done.points done.metric done.cert.cuts items
    → All (HasNames (declarations h)) items
all-have-names runs h done items legal made are i d lt =
    let Q : ℕ → Type 0 = λ c. IsSome (name_of c h) in
    let declared : All (λ (p : Position). Q p.commit) done.points =
    subst (λ (ps : List Position). All (λ (p : Position). Q p.commit) ps) (sym made.points) (commits-declared runs h (series_of done) done.version legal) in
    let inside : i < length done.cert.cuts = omega (arith, lt, are.counted) in
    let cut = slice_index done.cert.cuts i in
    let place = within 0 (length done.points) done.cert.cuts (places-rise done.cert.length (length done.points) done.cert.cuts made.stands.best.is_cut_list) i inside in
    let low = place.0 in
    let high = place.1 in
    let change = are.each i inside d in (
      subst Q (sym change.before) (at-commit Q done.points declared (cut - 1) (omega (arith, low, high))),
      subst Q (sym change.after) (at-commit Q done.points declared cut high),
    )
