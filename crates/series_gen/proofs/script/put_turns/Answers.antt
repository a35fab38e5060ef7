use Rattle.std.proofs.Common.{◌≡◌, ℕ, suc, ◌+◌, ◌%◌, ◌++◌, [], ◌==◌, if◌then◌else◌, ap, ◌∙◌, arith}
use Rattle.series_gen.specs.Script.{submit_line, body_line, segment_line, value, place, turn, state_after}
use Rattle.series_gen.proofs.Turns.{none-yet, next-turn, behind, first-state, next-state}
use Rattle.series_gen.proofs.script.put_turns.Goals as goal

pub loop-j-init : goal.loop-j-init
loop-j-init c = (none-yet c.args.out.now.items (turn c.args.number), first-state c.args.number)

pub loop-j-preserved : goal.loop-j-preserved
loop-j-preserved c =
    let j = c.loop-j.j in
    let state : c.next_state-state.result ≡ state_after c.args.number (suc j) =
    c.next_state-state.ensures ∙ next-state c.args.number j c.loop-j.state c.loop-j.invariant.1 in
    let body : c.put_body.new.out.items ≡ c.put_submit.new.out.items ++ body_line (value (place j) (state_after c.args.number (suc j))) =
    c.in_ok-put_body.ensures ∙ ap (λ (v : ℕ). c.put_submit.new.out.items ++ body_line v) (c.value_of.ensures ∙ ap (value (place j)) state) in
    let parts = behind c.loop-j.out.items c.put_submit.new.out.items c.put_body.new.out.items (submit_line j)
    (body_line (value (place j) (state_after c.args.number (suc j)))) c.in_ok-put_submit.ensures body in
    let all = behind c.loop-j.out.items c.put_body.new.out.items c.put_hundredth.new.out.items
    (submit_line j ++ body_line (value (place j) (state_after c.args.number (suc j)))) (if (j + 1) % 100 == 0 then segment_line else [])
    parts c.in_ok-put_hundredth.ensures in
    let e : suc j ≡ j + 1 = omega arith in (
      next-turn (turn c.args.number) c.args.out.now.items c.loop-j.out.items c.put_hundredth.new.out.items j c.loop-j.invariant.0 all,
      state ∙ ap (state_after c.args.number) e,
    )
