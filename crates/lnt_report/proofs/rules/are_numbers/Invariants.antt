use Rattle.std.{proofs.Common.{◌≡◌, map, drop}, specs.List.list_all}
use Rattle.json_text.specs.View.{tree_of}
use Rattle.lnt_report.specs.Rules.{is_number}
use Rattle.lnt_report.proofs.rules.are_numbers.Given as goal

-- whether all are numbers is whether those that are left are
abbrev pub invariant-loop-item : goal.invariant-loop-item
invariant-loop-item l = list_all is_number (map tree_of l.items) ≡ list_all is_number (map tree_of (drop l.item-index l.items))
