-- No public contract cites this. A runner in memory as its verdicts and asks.
use Rattle.std.specs.Prelude.{List, map, string_bytes}
use Rattle.track_outside.specs.{Asked.{Ask, Verdict}, declared.mem_runner.KeptVerdict.KeptVerdict, declared.mem_runner.NotedAsk.NotedAsk}

abbrev pub verdict_in : KeptVerdict → Verdict
verdict_in kept = record { commit = string_bytes kept.commit; status = kept.status }

abbrev pub verdicts_in : List KeptVerdict → List Verdict
verdicts_in kept = map verdict_in kept

abbrev pub ask_in : NotedAsk → Ask
ask_in noted =
    record { test = string_bytes noted.test; commit = string_bytes noted.commit; status = noted.status }

abbrev pub asks_in : List NotedAsk → List Ask
asks_in noted = map ask_in noted
