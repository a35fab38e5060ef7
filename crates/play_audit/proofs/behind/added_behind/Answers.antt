use Rattle.std.proofs.{Common.{◌≡◌, ◌+◌, ◌-◌, ℕ, length, sym, subst, ◌∙◌, arith}, lemmas.Option.slice_get_within, lemmas.Grind.common_steps}
use Rattle.play_audit.{specs.Texts.HasEntry, proofs.Replying.{added_not, added_front, goes_front}}
use Rattle.play_audit.proofs.behind.added_behind.Goals as goal

pub overflow_add-step : goal.overflow_add-step
overflow_add-step c = grind (arith, common_steps, length, slice_get_within)

pub returns-then-not-branch-clause-compared : goal.returns-then-not-branch-clause-compared
returns-then-not-branch-clause-compared c =
    let place : c.len-step.result + 1 - 1 ≡ length c.args.walk.now.track.history = omega (arith, c.len-step.ensures) in
    λ known since. record {
      some = tt;
      none = added_not c.texts_law.ensures c.replies_law.ensures.names c.one_reply_law.ensures.alone c.one_reply_law.ensures.outcomes c.args.walk.now c.answered.new.walk c.args.request.now c.args.transcript.now
          c.in_ok-text.ensures.outcome c.in_ok-text.ensures.reply c.requires.may.along c.requires.may.few c.requires.plain c.requires.may.shared c.in_ok-text.ensures.comes c.in_ok-text.ensures.step
          c.one_reply_law.ensures.adds c.args.placed.now c.requires.next
          (λ has. c.in_ok-has_entry.ensures.no c.if-not-branch.true (subst (λ (n : ℕ). HasEntry c.answered.new.walk n c.args.placed.now.entry) (sym place) has)) known since;
    }

pub returns : goal.returns
returns c =
    let place : c.len-step.result + 1 - 1 ≡ length c.args.walk.now.track.history = omega (arith, c.len-step.ensures) in
    let has : HasEntry c.answered.new.walk (length c.args.walk.now.track.history) c.args.placed.now.entry = grind (arith, common_steps) in
    record {
      compared = added_front c.texts_law.ensures c.replies_law.ensures.names c.one_reply_law.ensures.alone c.one_reply_law.ensures.outcomes c.args.walk.now c.answered.new.walk c.args.request.now c.args.transcript.now
          c.in_ok-text.ensures.outcome c.in_ok-text.ensures.reply c.requires.may.along c.requires.may.few c.requires.plain c.requires.may.shared c.in_ok-text.ensures.comes c.in_ok-text.ensures.step
          c.one_reply_law.ensures.adds c.args.placed.now c.requires.next has.placed has.there has.same
          c.deref.result.now (c.deref.ensures.value ∙ c.in_ok-text.ensures.is) c.front_len.result c.front_len.ensures.some c.front_len.ensures.none;
      goes = goes_front c.texts_law.ensures c.replies_law.ensures.names c.one_reply_law.ensures.alone c.one_reply_law.ensures.outcomes c.args.walk.now c.answered.new.walk c.args.request.now c.args.transcript.now
          c.in_ok-text.ensures.outcome c.in_ok-text.ensures.reply c.requires.may.along c.requires.may.few c.requires.plain c.requires.may.shared c.in_ok-text.ensures.comes c.in_ok-text.ensures.step
          c.one_reply_law.ensures.adds c.args.placed.now c.requires.next has.placed has.there has.same c.in_ok-text.ensures.history c.front_len.result;
    }
