use Rattle.std.proofs.{Common.{rules, ◌≡◌, ◌+◌, false, refl}, lemmas.Result.err_from_is_err_and}
use Rattle.request_reader.proofs.{Stops.few_kept, WholePieces.{needs_body, stops_inside}}
use Rattle.request_reader.proofs.body_read.gather.Goals as goal

pub returns-in_err-need-clause-stops : goal.returns-in_err-need-clause-stops
returns-in_err-need-clause-stops g c =
    let p = err_from_is_err_and c.from_residual.result c.from_residual.ensures.1 in
    let begins = c.requires.begins in
    rw (p.1, p.2) (c.in_err-need.ensures.err (needs_body c.args.lines.now c.args.ended _ c.args.count begins.line begins.has begins.counted refl))

pub returns-then-not-branch-clause-stops : goal.returns-then-not-branch-clause-stops
returns-then-not-branch-clause-stops g c =
    let begins = c.requires.begins in
    let few : c.in_ok-need.field-0 ≡ false = search rules in
    let gathers = rw few at c.in_ok-need.ensures.ok in
    rw c.before-at.ensures (record {
      why = stops_inside c.args.lines.now c.need.new.lines _ _ 0 0
          c.args.ended (c.args.ended + c.args.count) c.args.count begins.line begins.has begins.counted refl gathers;
      few = few_kept _ _ _ _ _ gathers.gains;
    })
