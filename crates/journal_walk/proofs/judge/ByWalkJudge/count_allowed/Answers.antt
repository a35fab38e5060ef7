use Rattle.std.proofs.{Common.{◌≡◌, ℕ, List, length, sym, ap, ◌∙◌, subst, arith}, lemmas.Grind.common_steps}
use Rattle.history_model.specs.{declared.entries.Placed.Placed, Allowed.Legal, Entries.entries_of}
use Rattle.journal_reader.specs.Judging.{AreAllowed}
use Rattle.journal_walk.{specs.Walks.{Walked, added}, proofs.Judging.are-allowed}
use Rattle.journal_walk.proofs.judge.ByWalkJudge.count_allowed.Goals as goal

pub returns : goal.returns
returns c =
    let w : Walked = c.loop-walk.walk in
    let kept : c.go_on.new.self ≡ c.loop-walk.walk = c.in_ok-go_on.ensures.kept c.if-branch.false in
    let legal : Legal (added c.loop-walk.walk) = grind (arith, common_steps) in
    let size : length c.loop-walk.walk.track.history ≡ c.len.result = sym (c.len.ensures ∙ ap (λ (x : Walked). length x.track.history) kept) in
    subst (λ (n : ℕ). AreAllowed (entries_of c.args.history.now) n) size
    (subst (λ (h : List Placed). AreAllowed (entries_of h) (length c.loop-walk.walk.track.history)) c.loop-walk.invariant.same
    (are-allowed w c.loop-walk.invariant.along (c.in_ok-go_on.ensures.stuck c.if-branch.false) legal))
