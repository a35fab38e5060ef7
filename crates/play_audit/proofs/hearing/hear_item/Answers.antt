use Rattle.std.proofs.{Common.{Err, sym, subst, arith}, lemmas.Grind.common_steps}
use Rattle.request_words.specs.Bodies.{Item}
use Rattle.track_model.specs.{Outcomes.refuses, Replies.apart}
use Rattle.play_audit.{specs.Heard.Hears, specs.Marks.rows_of, proofs.Apart.{made_none, made_some, refused_apart}}
use Rattle.play_audit.proofs.hearing.hear_item.Goals as goal

pub hear_request-requires : goal.hear_request-requires
hear_request-requires c = c.requires

pub returns-in-Ok : goal.returns-in-Ok
returns-in-Ok c = grind (arith, common_steps)

pub returns-in-Err : goal.returns-in-Err
returns-in-Err c =
    let told = refused_apart c.args.journals.now c.args.script c.in-Err.reason in
    subst (λ (it : Item). Hears c.args.journals.now c.args.script it c.args.transcript.now c.begins_with.result c.args.places.now.items c.args.places.now.items
    (rows_of c.args.marks.now.items) (rows_of c.args.marks.now.items))
    (sym c.in-Err.is) (record {
      some = made_some c.args.journals.now c.args.script (Err c.in-Err.reason) (apart (refuses c.in-Err.reason)) told c.args.transcript.now
          c.args.places.now.items (rows_of c.args.marks.now.items) c.apart.result c.apart.ensures c.requires.rows c.begins_with.result c.begins_with.ensures.some;
      none = made_none c.args.journals.now c.args.script (Err c.in-Err.reason) (apart (refuses c.in-Err.reason)) told c.args.transcript.now
          c.args.places.now.items c.apart.result c.apart.ensures c.begins_with.result c.begins_with.ensures.none;
    })
