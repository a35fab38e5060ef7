-- The positions of a series on the kept history: the same values at each, brought by other steps.
use Rattle.std.{proofs.Common.{◌≡◌, ℕ, ℤ, List, [], ◌∷◌, ◌++◌, length, map, refl, sym, ap, ap₂, ◌∙◌, eqb}, specs.Prelude.{filter, flat_map}}
use Rattle.std.proofs.lemmas.List.{length-map, map-append}
use Rattle.sample_model.specs.Samples.{Measurement}
use Rattle.segment_model.specs.{Segments.{Position, position_values}, Values.values_by_position}
use Rattle.history_model.specs.declared.{entries.Acceptance.Acceptance, entries.Entry.Entry, run.Run.Run}
use Rattle.history_model.specs.Positions.{Brought, brought, brought_by, observed, positions, positions_of, position_at, rising}
use Rattle.history_model.specs.Runs.{Series, is_of, live_runs}
use Rattle.keep_rows.{proofs.Choices.{filter_map, map_map, map_so}, proofs.Unpublished.{run_of, same_live}, specs.Kept.kept_entries}

-- what was brought, but for its step
record Value : Type 0 where
  commit : ℕ
  value : ℤ

value_of : Brought → Value
value_of x = record { commit = x.commit; value = x.value }

-- what a run brought of a series
values_of_run : Series → Run → List Value
values_of_run s r = map (λ (x : Measurement). record { commit = r.commit; value = x.value }) (filter (is_of s) r.samples)

brought_so : (s : Series) (runs : List Acceptance) → map value_of (brought s runs) ≡ flat_map (values_of_run s) (map run_of runs)
unfolding value_of run_of values_of_run
brought_so s [] = refl
brought_so s (a ∷ runs) =
    map-append value_of (brought_by s a) (brought s runs)
    ∙ ap₂ (λ (xs ys : List Value). xs ++ ys)
    (sym (map_map (λ (x : Measurement). record { commit = a.run.commit; step = a.step; value = x.value }) value_of (filter (is_of s) a.run.samples)))
    (brought_so s runs)

-- the values of each position, from what was brought
values_at : List Value → ℕ → List ℤ
values_at items commit = map (λ (x : Value). x.value) (filter (λ (x : Value). eqb x.commit commit) items)

at_so : (items : List Brought) (commit : ℕ) → position_values (position_at items commit) ≡ values_at (map value_of items) commit
unfolding value_of values_at
at_so items commit =
    let here : List Brought = filter (λ (x : Brought). eqb x.commit commit) items in
    sym (map_map observed (λ x. x.value) here) ∙ map_map value_of (λ (x : Value). x.value) here
    ∙ ap (map (λ (x : Value). x.value)) (filter_map value_of (λ (x : Value). eqb x.commit commit) items)

values_by_commit : List Value → List (List ℤ)
values_by_commit items = map (values_at items) (rising (map (λ (x : Value). x.commit) items))

values_so : (items : List Brought) → values_by_position (positions_of items) ≡ values_by_commit (map value_of items)
unfolding value_of values_by_commit
values_so items =
    sym (map_map (position_at items) position_values (rising (map (λ (x : Brought). x.commit) items)))
    ∙ map_so (λ (c : ℕ). position_values (position_at items c)) (values_at (map value_of items)) (at_so items) (rising (map (λ (x : Brought). x.commit) items))
    ∙ ap (λ (cs : List ℕ). map (values_at (map value_of items)) (rising cs)) (map_map value_of (λ (x : Value). x.commit) items)

module _ (h : List Entry) (s : Series) where
  same_brought : map value_of (brought s (live_runs (kept_entries h))) ≡ map value_of (brought s (live_runs h))
  same_brought = brought_so s (live_runs (kept_entries h)) ∙ ap (flat_map (values_of_run s)) (same_live h) ∙ sym (brought_so s (live_runs h))

  pub same_values : values_by_position (positions (kept_entries h) s) ≡ values_by_position (positions h s)
  same_values =
      values_so (brought s (live_runs (kept_entries h)))
      ∙ ap values_by_commit same_brought
      ∙ sym (values_so (brought s (live_runs h)))

-- as many positions have as many lists of values
pub same_length : (points others : List Position) → values_by_position points ≡ values_by_position others → length points ≡ length others
same_length points others same = sym (length-map points position_values) ∙ ap length same ∙ length-map others position_values
