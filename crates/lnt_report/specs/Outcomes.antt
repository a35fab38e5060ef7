-- Which answer bytes are due.
use Rattle.std.specs.Prelude.{◌≡◌, ℕ, ◌<◌, ◌⊎◌, List, length, Some, None, Result, Ok, Err}
use Rattle.json_text.specs.{Tree.Tree, Places.{Reads, IsNotText, IsNotJson, IsTooDeep}}
use Rattle.metric_table.specs.{Limits.most, declared.limits.Limit.Limit, declared.limits.Limit.TheVariants.RunSamples}
use Rattle.sample_model.specs.Samples.{Measurement}
use Rattle.lnt_report.specs.{Rules.{break, first_break}, Numbers.{Reading, readings, AreMeasured, IsOut}, Runs.{Report, IsRun}}
use Rattle.lnt_report.specs.declared.fault.ReportFault.{ReportFault, TheVariants.{NotText, NotJson, TooDeep, NotReport, OutOfRange, Full, NoMemory}}

-- each number is a sample, and there are more than a run may have
pub record IsOver (rs : List Reading) (limit : Limit) : Type 0 where
  pub samples : List Measurement
  pub measured : AreMeasured rs samples
  pub over : most RunSamples < length samples
  pub of_samples : limit ≡ RunSamples

-- what a fault says of a tree
abbrev pub IsFaultOf : Tree → ReportFault → Type 0
IsFaultOf tree (NotText k) = ⊥
IsFaultOf tree (NotJson k) = ⊥
IsFaultOf tree (TooDeep k) = ⊥
IsFaultOf tree (NotReport rule member) = first_break tree ≡ Some (break rule member)
IsFaultOf tree (OutOfRange test metric) = (first_break tree ≡ None) × IsOut (readings tree) test metric
IsFaultOf tree (Full limit) = (first_break tree ≡ None) × IsOver (readings tree) limit
IsFaultOf tree NoMemory = ⊥

-- what an answer says of a tree
abbrev pub IsDueOf : Tree → Result Report ReportFault → Type 0
IsDueOf tree (Ok run) = (first_break tree ≡ None) × IsRun tree run
IsDueOf tree (Err fault) = IsFaultOf tree fault

-- The answer that bytes are due: a fault of the text at its place, or what its tree is due. Want of memory is never due.
abbrev pub IsDue : List ℕ → Result Report ReportFault → Type 0
IsDue bytes (Err (NotText k)) = IsNotText bytes k
IsDue bytes (Err (NotJson k)) = IsNotJson bytes k
IsDue bytes (Err (TooDeep k)) = IsTooDeep bytes k
IsDue bytes answer = (tree : Tree) × Reads bytes tree × IsDueOf tree answer

-- the answer is one that the bytes are due, unless memory ran out
abbrev pub IsAnswer : List ℕ → Result Report ReportFault → Type 0
IsAnswer bytes answer = (answer ≡ Err NoMemory) ⊎ IsDue bytes answer

-- bytes are due one answer at most
abbrev pub OneAnswer : Type 0
OneAnswer = (bytes : List ℕ) (one other : Result Report ReportFault) → IsDue bytes one → IsDue bytes other → one ≡ other
