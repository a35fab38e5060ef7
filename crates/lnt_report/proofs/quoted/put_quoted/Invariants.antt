use Rattle.std.{proofs.Common.{◌≡◌, ◌∷◌, ◌++◌, take}, specs.List.flat_map}
use Rattle.lnt_report.specs.Quoted.{escape}
use Rattle.lnt_report.proofs.quoted.put_quoted.Given as goal

-- the bytes up to here are put
abbrev pub invariant-loop-byte : goal.invariant-loop-byte
invariant-loop-byte l = l.out.items ≡ l.fn.out.items ++ (34 ∷ flat_map escape (take l.byte-index l.text))
