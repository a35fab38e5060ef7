use Rattle.std.proofs.{Common.{◌+◌, ℕ, refl, arith}, lemmas.Result.MatchResult-weaker, lemmas.Grind.common_steps}
use Rattle.request_reader.proofs.{Stops.few_kept, WholePieces.next_piece}
use Rattle.request_reader.proofs.body_read.read_short.Goals as goal

pub returns-clause-stops : goal.returns-clause-stops
returns-clause-stops g c = grind (arith, common_steps, few_kept)

pub returns-clause-next : goal.returns-clause-next
returns-clause-next g c =
    let begins = c.requires.begins in
    let total : ℕ = c.args.ended + c.args.count in
    let gathers = c.in_ok-head.ensures.there in
    MatchResult-weaker c.ask_kept.result c.ask_kept.ensures.ok
    (λ asked told.
    next_piece c.args.lines.now c.gather.new.lines c.ask_kept.new.lines _ _ c.args.ended total c.args.count begins.line told.item asked
    begins.has begins.asked begins.counted refl gathers (told.asks begins.line (rw c.in_ok-head.ensures.held begins.reads)) c.requires.goes_on told.kept told.before
    told.ended told.stopped told.items (told.tells c.ask_kept.new.lines))
    (λ stop told. told)
