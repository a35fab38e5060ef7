-- The first free series of a list of marks.
use Rattle.std.specs.Prelude.{ℕ, [], ◌∷◌, Option, Some, None}
use Rattle.touch_index.specs.{Marks.Entries, declared.key.SeriesKey.SeriesKey, declared.mark.Claim.Claim}
use Rattle.touch_index.specs.declared.mark.Claim.TheVariants.{Free, Taken, Refused}

-- the series with its touch where it is free, else what comes first behind it
abbrev pub free_or : Claim → SeriesKey → ℕ → Option (SeriesKey × ℕ) → Option (SeriesKey × ℕ)
free_or Free key step more = Some (key, step)
free_or Taken key step more = more
free_or Refused key step more = more

abbrev pub first_free : Entries → Option (SeriesKey × ℕ)
first_free [] = None
first_free (e ∷ es) = free_or e.1.claim e.0 e.1.touched (first_free es)
