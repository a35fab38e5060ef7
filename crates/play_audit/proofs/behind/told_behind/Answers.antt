use Rattle.std.proofs.{Common.{sym, ◌∙◌, arith}, lemmas.Grind.common_steps}
use Rattle.play_audit.proofs.Replying.{told_other, told_front}
use Rattle.play_audit.proofs.behind.told_behind.Goals as goal

pub returns-then-len-count-clause-compared : goal.returns-then-len-count-clause-compared
returns-then-len-count-clause-compared c = λ known since. record {
  some = tt;
  none = told_other c.texts_law.ensures c.replies_law.ensures.names c.one_reply_law.ensures.alone c.one_reply_law.ensures.outcomes c.args.walk.now c.answered.new.walk c.args.request.now c.args.transcript.now
      c.in_ok-text.ensures.outcome c.in_ok-text.ensures.reply c.requires.may.along c.requires.may.few c.requires.plain c.requires.may.shared c.in_ok-text.ensures.comes c.in_ok-text.ensures.step
      (λ same. c.if-len-count.true (c.len.ensures ∙ same ∙ sym c.len-count.ensures)) known since;
}

pub returns : goal.returns
returns c = record {
  compared = told_front c.texts_law.ensures c.replies_law.ensures.names c.one_reply_law.ensures.alone c.one_reply_law.ensures.outcomes c.args.walk.now c.answered.new.walk c.args.request.now c.args.transcript.now
      c.in_ok-text.ensures.outcome c.in_ok-text.ensures.reply c.requires.may.along c.requires.may.few c.requires.plain c.requires.may.shared c.in_ok-text.ensures.comes c.in_ok-text.ensures.step
      c.one_reply_law.ensures.tells (sym c.len.ensures ∙ c.if-len-count.false ∙ c.len-count.ensures) c.deref.result.now (c.deref.ensures.value ∙ c.in_ok-text.ensures.is) c.front_len.result c.front_len.ensures.some c.front_len.ensures.none;
  same = grind (arith, common_steps);
}
