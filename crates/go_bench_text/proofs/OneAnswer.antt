-- A text that has samples within the limit has no other answer than these.
use Rattle.std.{proofs.Common.{◌≡◌, ℕ, ◌≤◌, List, [], length, Result, Ok, Err, IfOk, IfErr, refl, sym, subst, arith}, specs.Prelude.MatchResult}
use Rattle.std.{specs.Str.{IsUtf8, IsValidUpTo}, proofs.lemmas.List.take_all, proofs.lemmas.Grind.common_steps}
use Rattle.line_text.specs.Lines.{lines_of}
use Rattle.metric_table.specs.{Limits.most, declared.limits.Limit.TheVariants.RunSamples}
use Rattle.sample_model.specs.Samples.{Measurement}
use Rattle.go_bench_text.specs.declared.read.{GoRun.GoRun, GoFault.GoFault, GoFault.TheVariants.{NotText, OutOfRange, Full, NoMemory}}
use Rattle.go_bench_text.specs.{Readings.{IsRead, OneReading}, Answers.IsFault}

not_cut : (bytes : List ℕ) (offset : ℕ) → IsValidUpTo bytes offset → IsUtf8 bytes → ⊥
not_cut bytes offset cut text = cut.longest (length bytes) cut.short (subst IsUtf8 (sym (take_all (length bytes) bytes (omega arith))) text)

pub one_answer : (bytes : List ℕ) (result : Result GoRun GoFault) → OneReading
    → IfOk result (λ run. IsRead bytes run.samples run.ignored) → IfErr result (λ fault. IsFault bytes fault)
    → (samples : List Measurement) (ignored : ℕ) → IsRead bytes samples ignored → length samples ≤ most RunSamples
    → MatchResult result (λ run. (run.samples ≡ samples) × (run.ignored ≡ ignored)) (λ fault. fault ≡ NoMemory)
one_answer bytes (Ok run) law ok fault samples ignored read few = law [] (lines_of bytes) run.samples samples run.ignored ignored ok.gives read.gives
one_answer bytes (Err (NotText offset)) law ok fault samples ignored read few = absurd (not_cut bytes offset fault read.text)
one_answer bytes (Err (OutOfRange number)) law ok fault samples ignored read few = grind (arith, common_steps)
one_answer bytes (Err (Full limit)) law ok fault samples ignored read few = grind (arith, common_steps)
one_answer bytes (Err NoMemory) law ok fault samples ignored read few = refl
