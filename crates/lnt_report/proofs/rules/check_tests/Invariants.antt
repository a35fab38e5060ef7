use Rattle.std.proofs.Common.{◌≡◌, map, drop}
use Rattle.json_text.specs.View.{tree_of}
use Rattle.lnt_report.specs.Rules.{tests_break}
use Rattle.lnt_report.proofs.rules.check_tests.Given as goal

-- the first break is that of the tests that are left
abbrev pub invariant-loop-place : goal.invariant-loop-place
invariant-loop-place l = tests_break 0 (map tree_of l.tests) ≡ tests_break l.place (map tree_of (drop l.place l.tests))
