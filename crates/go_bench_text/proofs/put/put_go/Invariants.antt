use Rattle.std.proofs.Common.{ℕ, ◌<◌, take, get_or}
use Rattle.go_bench_text.specs.Spellings.{AreSpelled, HasSpelling, nowhere}
use Rattle.go_bench_text.proofs.put.put_go.Given as goal

abbrev pub invariant-loop-place : goal.invariant-loop-place
invariant-loop-place l = record { spelled : AreSpelled (take l.place l.sample-items) l.out.items; written : (k : ℕ) → k < l.place → HasSpelling (get_or l.sample-items k nowhere) }
