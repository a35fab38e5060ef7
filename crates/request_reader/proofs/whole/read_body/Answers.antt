use Rattle.std.proofs.{Common.{rules, ◌≡◌, ◌<◌, true, false}, lemmas.Result.err_from_is_err_and}
use Rattle.request_words.specs.Items.{body_limit}
use Rattle.request_reader.proofs.Passing.{long_fails, long_cut, long_next}
use Rattle.request_reader.proofs.whole.read_body.Goals as goal

pub read_short-requires-clause-begins : goal.read_short-requires-clause-begins
read_short-requires-clause-begins g c =
    let first = c.requires.begins in
    record { line = first.line; has = first.has; asked = first.asked; reads = first.reads; counted = c.body_count-count.ensures first.line first.reads }

pub returns-in_err-pass_bytes-clause-stops : goal.returns-in_err-pass_bytes-clause-stops
returns-in_err-pass_bytes-clause-stops g c =
    let p = err_from_is_err_and c.from_residual.result c.from_residual.ensures.1 in
    let first = c.requires.begins in
    rw (p.1, p.2) (long_fails g.S.Source c.args.lines.now c.use_up.new.self _ _ c.args.ended c.body_count-count.result first.line _ first.has
    (c.body_count-count.ensures first.line first.reads) c.use_up.ensures.kept c.use_up.ensures.before c.in_err-pass_bytes.ensures.err c.in_err-pass_bytes.ensures.few)

pub returns-then-not-branch-clause-stops : goal.returns-then-not-branch-clause-stops
returns-then-not-branch-clause-stops g c =
    let first = c.requires.begins in
    let few : c.in_ok-pass_bytes.field-0 ≡ false = search rules in
    let passes = rw few at c.in_ok-pass_bytes.ensures.ok in
    rw c.before-at.ensures (long_cut g.S.Source c.args.lines.now c.use_up.new.self c.pass_bytes.new.lines _ _ c.args.ended c.body_count-count.result first.line
    first.has (c.body_count-count.ensures first.line first.reads) c.use_up.ensures.kept c.use_up.ensures.before passes)

pub returns-clause-next : goal.returns-clause-next
returns-clause-next g c =
    let first = c.requires.begins in
    let many : body_limit < c.body_count-count.result = search rules in
    let enough : c.in_ok-pass_bytes.field-0 ≡ true = search rules in
    let passes = rw enough at c.in_ok-pass_bytes.ensures.ok in
    long_next c.args.lines.now c.use_up.new.self c.pass_bytes.new.lines _ _ c.args.ended c.body_count-count.result first.line first.has first.asked
    (c.body_count-count.ensures first.line first.reads) many c.requires.goes_on c.use_up.ensures.kept c.use_up.ensures.before c.use_up.ensures.ended c.use_up.ensures.stopped passes
