use Rattle.std.proofs.Common.{◌≡◌, ◌+◌, ◌≤◌, ℕ, ◌++◌, length, Some, subst, arith}
use Rattle.request_reader.specs.Next as next
use Rattle.request_reader.specs.{Next.{Takes, TakesWhole, TakesLast}, declared.stop.ReadStop.ReadStop, Reading.StopsReading, Scripts.input_limit}
use Rattle.play_audit.{specs.Items.{Reading, IsCutOff}, proofs.Reading.{still_of, ends_of, cut_of}}
use Rattle.play_audit.proofs.items.read_item.Goals as goal

pub returns-in-Ok-add_item-clause-more : goal.returns-in-Ok-add_item-clause-more
returns-in-Ok-add_item-clause-more c = λ still.
    let old : Reading = record { unread = c.args.lines.now; left = c.args.source.now; items = c.args.items.now.items } in
    let new : Reading = record { unread = c.read_request.new.lines; left = c.read_request.new.source; items = c.add_item.new.items.items } in
    let takes : TakesWhole c.args.lines.now.before (c.args.lines.now.kept ++ c.args.source.now) (next.items_of c.in-Ok.asked) c.read_request.new.lines.before (c.read_request.new.lines.kept ++ c.read_request.new.source) =
    subst (λ b. Takes b c.args.lines.now.before (c.args.lines.now.kept ++ c.args.source.now) (next.items_of c.in-Ok.asked) c.read_request.new.lines.before (c.read_request.new.lines.kept ++ c.read_request.new.source))
    still (c.in-Ok.ensures.next c.requires.open) in
    let gave = c.in-Ok.ensures.gave in
    let within : c.read_request.new.lines.before + length c.read_request.new.lines.kept ≤ input_limit = gave.within in
    record {
      on = c.in-Ok.ensures.stopped;
      ahead = gave.ahead still;
      within = omega (arith, within);
      still = still_of c.pieces_law.ensures.join old new (next.items_of c.in-Ok.asked) c.in-Ok-add_item.ensures takes;
    }

pub returns-in-Ok-add_item-clause-last : goal.returns-in-Ok-add_item-clause-last
returns-in-Ok-add_item-clause-last c = λ ended.
    let old : Reading = record { unread = c.args.lines.now; left = c.args.source.now; items = c.args.items.now.items } in
    let takes : TakesLast c.args.lines.now.before (c.args.lines.now.kept ++ c.args.source.now) (next.items_of c.in-Ok.asked) (c.read_request.new.lines.kept ++ c.read_request.new.source) =
    subst (λ b. Takes b c.args.lines.now.before (c.args.lines.now.kept ++ c.args.source.now) (next.items_of c.in-Ok.asked) c.read_request.new.lines.before (c.read_request.new.lines.kept ++ c.read_request.new.source))
    ended (c.in-Ok.ensures.next c.requires.open) in
    ends_of c.pieces_law.ensures.first old c.add_item.new.items.items (next.items_of c.in-Ok.asked) (c.read_request.new.lines.kept ++ c.read_request.new.source) c.in-Ok-add_item.ensures takes

pub returns-in-Err-CutOff-clause-cut : goal.returns-in-Err-CutOff-clause-cut
returns-in-Err-CutOff-clause-cut c = λ offset is.
    let old : Reading = record { unread = c.args.lines.now; left = c.args.source.now; items = c.args.items.now.items } in
    let same : c.in-Err-CutOff.offset ≡ offset = cc in
    subst (λ (n : ℕ). IsCutOff old n) same (cut_of c.pieces_law.ensures.first old c.in-Err-CutOff.offset
    (subst (λ (s : ReadStop). StopsReading c.args.lines.now (Some c.args.source.now) (Some c.read_request.new.source) 0 0 s) c.in-Err-CutOff.field-0-is c.in-Err-CutOff.ensures.stops))
