-- What each answer of the reader says of the bytes.
use Rattle.std.specs.{Prelude.{◌≡◌, ℕ, ◌≤◌, List, length, Result, MatchResult}, Str.{IsUtf8, IsValidUpTo}}
use Rattle.line_text.specs.Lines.{lines_of}
use Rattle.metric_table.specs.{Limits.most, declared.limits.Limit.TheVariants.RunSamples}
use Rattle.sample_model.specs.Samples.{Measurement}
use Rattle.go_bench_text.specs.{Readings.{IsFirstOver, IsRead, HasTooMany}, declared.read.GoRun.GoRun, declared.read.GoFault.GoFault}
use Rattle.go_bench_text.specs.declared.read.GoFault.TheVariants.{NotText, OutOfRange, Full, NoMemory}

-- what a fault says of the bytes
abbrev pub IsFault : List ℕ → GoFault → Type 0
IsFault bytes (NotText offset) = IsValidUpTo bytes offset
IsFault bytes (OutOfRange number) = IsUtf8 bytes × IsFirstOver (lines_of bytes) number
IsFault bytes (Full limit) = (limit ≡ RunSamples) × HasTooMany bytes
IsFault bytes NoMemory = Unit {0}

-- where the bytes have samples within the limit, the answer gives them, unless memory runs out
abbrev pub GivesEach : List ℕ → Result GoRun GoFault → Type 0
GivesEach bytes result =
    (samples : List Measurement) (ignored : ℕ) → IsRead bytes samples ignored → length samples ≤ most RunSamples
    → MatchResult result (λ run. (run.samples ≡ samples) × (run.ignored ≡ ignored)) (λ fault. fault ≡ NoMemory)
