-- No public contract cites this. What the steps of reading a run say of it.
use Rattle.std.specs.Prelude.{◌≡◌, ℕ, ◌⊎◌, List, Option, Some, None, Result, Ok, Err}
use Rattle.json_text.specs.{Tree.Tree, declared.reading.JsonFault.JsonFault}
use Rattle.json_text.specs.declared.reading.JsonFault.TheVariants as json
use Rattle.lnt_report.specs.{Rules.{Break, break}, Runs.Report, Outcomes.IsDueOf, declared.fault.ReportFault.ReportFault}
use Rattle.lnt_report.specs.declared.fault.ReportFault.TheVariants.{NotText, NotJson, TooDeep, NotReport, NoMemory}

-- what the check of a rule says: nothing where none is broken, else the break, unless memory ran out
abbrev pub Tells : Option Break → Result Unit ReportFault → Type 0
Tells found (Ok done) = found ≡ None
Tells found (Err (NotReport rule member)) = found ≡ Some (break rule member)
Tells found (Err NoMemory) = Unit {0}
Tells found (Err fault) = ⊥

-- the fault says that this rule is broken at this member, unless memory ran out
abbrev pub IsBroken : ℕ → List ℕ → ReportFault → Type 0
IsBroken rule member fault = (fault ≡ NotReport rule member) ⊎ (fault ≡ NoMemory)

-- the answer is one that the tree is due, unless memory ran out
abbrev pub IsAnswerOf : Tree → Result Report ReportFault → Type 0
IsAnswerOf tree answer = (answer ≡ Err NoMemory) ⊎ IsDueOf tree answer

-- the fault of a text, as a fault of a run
abbrev pub IsOfText : JsonFault → ReportFault → Type 0
IsOfText (json.NotText k) fault = fault ≡ NotText k
IsOfText (json.NotJson k) fault = fault ≡ NotJson k
IsOfText (json.TooDeep k) fault = fault ≡ TooDeep k
IsOfText json.NoMemory fault = fault ≡ NoMemory
