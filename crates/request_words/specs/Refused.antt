-- No public contract cites this. The refusals that the faults of bodies are.
use Rattle.std.specs.{Prelude.{◌≡◌, ◌≢◌, Result, Ok, Err}, declared.alloc.AllocError.AllocError}
use Rattle.go_bench_text.specs.declared.read.GoFault.{GoFault}
use Rattle.go_bench_text.specs.declared.read.GoFault.TheVariants as go
use Rattle.lnt_report.specs.declared.fault.ReportFault.{ReportFault}
use Rattle.lnt_report.specs.declared.fault.ReportFault.TheVariants as report
use Rattle.request_model.specs.declared.replies.RangePlace.TheVariants as place
use Rattle.request_model.specs.declared.replies.Refusal.TheVariants as refusal
use Rattle.request_words.specs.Bodies.{Item, fault_of}

-- want of memory is no refusal, and each other fault of Go benchmark text is this one
abbrev pub IsGoRefused : GoFault → Result Item AllocError → Type 0
IsGoRefused (go.NotText offset) result = result ≡ Ok (Err (refusal.NotText offset))
IsGoRefused (go.OutOfRange number) result = result ≡ Ok (Err (refusal.OutOfRange (place.Line number)))
IsGoRefused (go.Full limit) result = result ≡ Ok (Err (refusal.Full limit))
IsGoRefused go.NoMemory (Ok item) = ⊥
IsGoRefused go.NoMemory (Err fault) = Unit {0}

-- want of memory is no refusal, and each other fault of an LNT run is one that tells it
abbrev pub IsLntRefused : ReportFault → Result Item AllocError → Type 0
IsLntRefused fault (Ok (Ok q)) = ⊥
IsLntRefused fault (Ok (Err r)) = (fault_of r ≡ fault) × (fault ≢ report.NoMemory)
IsLntRefused fault (Err none) = Unit {0}
