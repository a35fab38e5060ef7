use Rattle.std.proofs.{Common.{◌≡◌, true, false, sym, ◌∙◌, arith}, lemmas.Grind.common_steps}
use Rattle.journal_walk.specs.Walks.{IsPublishedNext}
use Rattle.play_audit.proofs.Published.{published_other, published_always, published_front}
use Rattle.play_audit.proofs.segment.published_behind.Goals as goal

pub returns-then-not-is_publication-clause-compared : goal.returns-then-not-is_publication-clause-compared
returns-then-not-is_publication-clause-compared c = record {
  some = tt;
  none = published_other c.texts_law.ensures c.replies_law.ensures.names c.one_reply_law.ensures.adds c.args.walk.now c.args.walk.now c.args.known c.args.placed.now c.args.test.now c.args.metric.now c.args.transcript.now
      c.requires.knows.along c.requires.knows.few c.requires.knows.since c.requires.next
      (λ is. let yes : c.is_publication.result ≡ true = c.is_publication.ensures.1 is in let no : true ≡ false = sym yes ∙ c.if-not-is_publication.true in absurd (cc));
}

pub returns-in-Some : goal.returns-in-Some
returns-in-Some c =
    let made : IsPublishedNext c.args.walk.now c.publish_next.new.self c.in-Some.reply = grind (arith, common_steps) in
    let is = c.is_publication.ensures.0 c.if-not-is_publication.false in
    record {
      compared = published_front c.texts_law.ensures c.replies_law.ensures.names c.one_reply_law.ensures.adds c.args.walk.now c.publish_next.new.self c.args.known c.args.placed.now c.args.test.now c.args.metric.now c.args.transcript.now
          c.requires.knows.along c.requires.knows.few c.requires.knows.since c.requires.next c.in-Some.reply made is c.begins_with.result c.begins_with.ensures.some c.begins_with.ensures.none;
      goes = grind (arith, common_steps);
    }

pub returns-in-None-clause-compared : goal.returns-in-None-clause-compared
returns-in-None-clause-compared c = grind (arith, common_steps, published_always)
