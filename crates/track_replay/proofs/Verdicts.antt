-- What the limits say of a run more, limit by limit.
use Rattle.std.{proofs.Common.{◌≡◌, ◌+◌, ◌<◌, ◌≤◌, false, List, [], ◌∷◌, ◌++◌, length, ◌∙◌, Option, Some, None, arith, inl, inr}, specs.Prelude.filter}
use Rattle.std.proofs.lemmas.Bool.{cases_lt}
use Rattle.metric_table.specs.{Limits.most, declared.limits.Limit.Limit}
use Rattle.metric_table.specs.declared.limits.Limit.TheVariants as limit
use Rattle.segment_model.specs.{Segments.values_of, Edits.has_commit}
use Rattle.history_model.specs.{declared.entries.Entry.Entry, declared.run.Run.Run, Allowed.{KeepsLimits, count_of, first_passed, run_limits}}
use Rattle.history_model.specs.declared.entries.Entry.TheVariants as entry
use Rattle.history_model.specs.{Laws.{CountsAfterAccept, SamplesFit, PositionsFit, FirstKept, FirstPassed}, Positions.positions}
use Rattle.history_model.specs.Runs.{Series, is_of, acceptances, retracted, known_series, new_series, sample_count}

-- there are so few steps, runs and samples that the next limits decide
pub record Few (h : List Entry) (run : Run) : Type 0 where
  pub steps : length h < most limit.Steps
  pub runs : length (acceptances h) < most limit.Runs
  pub samples : sample_count (acceptances h) + length run.samples ≤ most limit.Samples

abbrev Shows : List Limit → List Entry → Run → Option Limit → Type 0
Shows limits h run o = first_passed limits h (entry.Accept run) ≡ o

module _ (counts : CountsAfterAccept) (kept : FirstKept) (passed : FirstPassed) (h : List Entry) (run : Run) where
  abbrev e : Entry
  e = entry.Accept run

  pub full-samples : length h < most limit.Steps → length (acceptances h) < most limit.Runs → most limit.Samples < sample_count (acceptances h) + length run.samples
      → Shows run_limits h run (Some limit.Samples)
  full-samples steps runs more =
      let n = counts h run in
      kept limit.Steps (limit.Runs ∷ limit.Samples ∷ limit.Series ∷ limit.SeriesSamples ∷ limit.Positions ∷ []) h e (omega (arith, n.steps, steps))
      ∙ kept limit.Runs (limit.Samples ∷ limit.Series ∷ limit.SeriesSamples ∷ limit.Positions ∷ []) h e (omega (arith, n.runs, runs))
      ∙ passed limit.Samples (limit.Series ∷ limit.SeriesSamples ∷ limit.Positions ∷ []) h e (omega (arith, n.samples, more))

  past-samples : Few h run → (o : Option Limit) → Shows (limit.Series ∷ limit.SeriesSamples ∷ limit.Positions ∷ []) h run o → Shows run_limits h run o
  past-samples few o rest =
      let n = counts h run in
      kept limit.Steps (limit.Runs ∷ limit.Samples ∷ limit.Series ∷ limit.SeriesSamples ∷ limit.Positions ∷ []) h e (omega (arith, n.steps, few.steps))
      ∙ kept limit.Runs (limit.Samples ∷ limit.Series ∷ limit.SeriesSamples ∷ limit.Positions ∷ []) h e (omega (arith, n.runs, few.runs))
      ∙ kept limit.Samples (limit.Series ∷ limit.SeriesSamples ∷ limit.Positions ∷ []) h e (omega (arith, n.samples, few.samples))
      ∙ rest

  pub full-series : Few h run → most limit.Series < length (known_series h) + length (new_series h run.samples) → Shows run_limits h run (Some limit.Series)
  full-series few more =
      let n = counts h run in
      past-samples few (Some limit.Series) (passed limit.Series (limit.SeriesSamples ∷ limit.Positions ∷ []) h e (omega (arith, n.series, more)))

  past-series : Few h run → length (known_series h) + length (new_series h run.samples) ≤ most limit.Series
      → (o : Option Limit) → Shows (limit.SeriesSamples ∷ limit.Positions ∷ []) h run o → Shows run_limits h run o
  past-series few le o rest =
      let n = counts h run in
      past-samples few o (kept limit.Series (limit.SeriesSamples ∷ limit.Positions ∷ []) h e (omega (arith, n.series, le)) ∙ rest)

  module _ (fit : SamplesFit) (places : PositionsFit) (keeps : KeepsLimits h) (live : retracted run.run h ≡ None)
      (few : Few h run) (le : length (known_series h) + length (new_series h run.samples) ≤ most limit.Series) where
    abbrev HaveRoom : Type 0
    HaveRoom = (s : Series) → 0 < length (filter (is_of s) run.samples) → length (values_of (positions h s)) + length (filter (is_of s) run.samples) ≤ 65_536

    abbrev HavePlaces : Type 0
    HavePlaces = (s : Series) → 0 < length (filter (is_of s) run.samples) → has_commit run.commit (positions h s) ≡ false → length (positions h s) < 16_384

    above : (limit : Limit) → (count_of limit (h ++ e ∷ []) ≤ most limit → ⊥) → most limit < count_of limit (h ++ e ∷ [])
    above limit never = elim (cases_lt (most limit) (count_of limit (h ++ e ∷ []))) [ inl lt ↦ lt | inr le ↦ absurd (never (omega (arith, le))) ]

    pub full-series-samples : (HaveRoom → ⊥) → Shows run_limits h run (Some limit.SeriesSamples)
    full-series-samples never =
        past-series few le (Some limit.SeriesSamples)
        (passed limit.SeriesSamples (limit.Positions ∷ []) h e (above limit.SeriesSamples (λ within. never ((fit h run keeps live).0 within))))

    pub full-positions : HaveRoom → (HavePlaces → ⊥) → Shows run_limits h run (Some limit.Positions)
    full-positions room never =
        past-series few le (Some limit.Positions)
        (kept limit.SeriesSamples (limit.Positions ∷ []) h e ((fit h run keeps live).1 room)
        ∙ passed limit.Positions [] h e (above limit.Positions (λ within. never ((places h run keeps live).0 within))))

    pub none-full : HaveRoom → HavePlaces → Shows run_limits h run None
    none-full room has =
        past-series few le None
        (kept limit.SeriesSamples (limit.Positions ∷ []) h e ((fit h run keeps live).1 room)
        ∙ kept limit.Positions [] h e ((places h run keeps live).1 has))
