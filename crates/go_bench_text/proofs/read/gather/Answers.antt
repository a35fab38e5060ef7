use Rattle.std.proofs.{Common.{◌≡◌, ◌<◌, ◌+◌, ◌∷◌, [], length, take, rules, arith, refl}, lemmas.Grind.common_steps}
use Rattle.line_text.specs.Lines.{lines_of}
use Rattle.go_bench_text.proofs.{FirstLine.{IsNextLine, first_is_next, more_left, none_left}, read.gather.Goals.{After-read_line, In-Ok, In-Some}}
use Rattle.go_bench_text.proofs.Progress.{Progress, progress_none, progress_more, progress_all, progress_over}
use Rattle.go_bench_text.proofs.read.gather.Goals as goal

pub loop-value-init : goal.loop-value-init
loop-value-init c = record { pkg = search rules; rest = c.utf8.text; counted = omega arith; left = refl; progress = progress_none (lines_of c.args.text.now) c.new-gathered.result c.new-gathered.ensures }

next_line : (c : After-read_line) → IsNextLine (lines_of c.args.text.now) c.loop-value.number c.first_line.result.0.now
next_line c =
    first_is_next (lines_of c.args.text.now) c.loop-value.number c.loop-value.rest.now c.first_line.result.0.now c.first_line.result.1 c.loop-value.invariant.left c.first_line.ensures.more c.first_line.ensures.last

one_more : (c : In-Ok) → IsNextLine (lines_of c.args.text.now) c.loop-value.number c.first_line.result.0.now
    → Progress (lines_of c.args.text.now) (c.loop-value.number + 1) c.read_line.new.gathered c.in-Ok.value.now (c.loop-value.ignored + c.in-Ok.count)
one_more c next = grind (arith, common_steps, progress_more, take)

pub overflow_add-number : goal.overflow_add-number
overflow_add-number c = omega (arith, c.loop-value.invariant.counted)

pub overflow_add-ignored : goal.overflow_add-ignored
overflow_add-ignored c = omega (arith, c.loop-value.invariant.counted, c.loop-value.invariant.progress.few, c.in-Ok.ensures.few)

pub returns-in-Err-OutOfRange-clause-fault : goal.returns-in-Err-OutOfRange-clause-fault
returns-in-Err-OutOfRange-clause-fault c =
    let next = next_line (goal.at.returns-in-Err-OutOfRange-clause-fault c).After-read_line in (
      c.utf8.text,
      progress_over (lines_of c.args.text.now) c.loop-value.number c.first_line.result.0.now c.loop-value.gathered c.loop-value.pkg.now c.loop-value.ignored (c.loop-value.number + 1) next.less next.is
          refl (c.in-Err-OutOfRange.ensures.over (cc) (take c.loop-value.number (lines_of c.args.text.now)) c.loop-value.invariant.progress.pkg_is) c.loop-value.invariant.progress,
    )

pub returns-in_default-clause-ok : goal.returns-in_default-clause-ok
returns-in_default-clause-ok c =
    let last : lines_of c.loop-value.rest.now ≡ c.first_line.result.0.now ∷ [] = rw c.in_default.is at c.first_line.ensures.last in
    let at = goal.at.returns-in_default-clause-ok c in
    let few = none_left (lines_of c.args.text.now) c.loop-value.number c.loop-value.rest.now c.first_line.result.0.now c.loop-value.invariant.left last in
    progress_all c.args.text.now (c.loop-value.number + 1) c.read_line.new.gathered c.in-Ok.value.now (c.loop-value.ignored + c.in-Ok.count) c.utf8.text few (one_more at.In-Ok (next_line at.After-read_line))

shorter : (c : In-Some) → length c.in-Some.more.now < length c.loop-value.rest.now
shorter c = rw c.in-Some.is at c.first_line.ensures.shorter

pub loop-value-smaller : goal.loop-value-smaller
loop-value-smaller c = shorter c

pub loop-value-preserved : goal.loop-value-preserved
loop-value-preserved c =
    let at = goal.at.loop-value-preserved c in
    record {
      pkg = c.in-Ok.ensures.text;
      rest = rw c.in-Some.is at c.first_line.ensures.behind;
      counted = omega (arith, shorter c, c.loop-value.invariant.counted);
      left = more_left (lines_of c.args.text.now) c.loop-value.number c.loop-value.rest.now c.first_line.result.0.now c.first_line.result.1 c.in-Some.more c.loop-value.invariant.left c.in-Some.is c.first_line.ensures.more;
      progress = one_more at.In-Ok (next_line at.After-read_line);
    }
