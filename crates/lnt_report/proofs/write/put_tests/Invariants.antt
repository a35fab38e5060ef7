use Rattle.std.{proofs.Common.{◌≡◌, ◌++◌, map, drop}, specs.List.flat_map}
use Rattle.json_text.specs.View.{items_of}
use Rattle.lnt_report.{specs.Written.{compact_items, test_tree}, proofs.Written.behind}
use Rattle.lnt_report.proofs.write.put_tests.Given as goal

-- the samples from here on are left
abbrev pub invariant-loop-sample : goal.invariant-loop-sample
invariant-loop-sample l =
    l.out.items ++ flat_map behind (drop l.sample-index l.rest) ≡ l.fn.out.items ++ compact_items (items_of (map test_tree l.samples))
