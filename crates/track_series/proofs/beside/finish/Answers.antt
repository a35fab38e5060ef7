use Rattle.track_series.proofs.Besides.{ends}
use Rattle.track_series.proofs.beside.finish.Goals as goal

pub returns-clause-step : goal.returns-clause-step
returns-clause-step c =
    ends c.publication_law.ensures.known c.args.track.now c.args.author c.args.done c.requires.made c.publish.new.track c.reply_to-reply.result c.segmented-answer.result c.segmented-answer.ensures
    c.in_ok-told.told c.in_ok-told.ensures.published c.reply_to-reply.ensures
