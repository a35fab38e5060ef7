use Rattle.std.proofs.Common.{◌∙◌}
use Rattle.history_model.specs.Entries.{entries_of}
use Rattle.request_model.specs.declared.replies.Answer.TheVariants as answer
use Rattle.track_model.specs.Publishing.{TellsCertificate}
use Rattle.track_reports.proofs.Telling.{certified, refused, told-last}
use Rattle.track_reports.proofs.told.verify.Goals as goal

pub returns-in-Err : goal.returns-in-Err
returns-in-Err c = refused c.args.track.now c.args.test.now c.args.metric.now TellsCertificate c.in-Err.why c.told.result c.in-Err.ensures.none c.told.ensures

pub returns : goal.returns
returns c =
    let done = c.in-Ok.done.now in
    let last = c.in-Ok.ensures.found in
    told-last c.args.track.now c.args.test.now c.args.metric.now TellsCertificate done (answer.Verified done.version c.in_ok-cert-2.cert) c.told-2.result last
    (certified (entries_of c.args.track.now.history) _ done last.made last.series c.in_ok-cert-2.cert (c.in_ok-cert-2.ensures ∙ c.in_ok-cert.ensures)) c.told-2.ensures
