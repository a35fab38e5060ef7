use Rattle.std.proofs.{Common.refl, lemmas.Result.MatchResult-weaker}
use Rattle.request_words.proofs.head.item_of.Goals as goal

pub returns-in-Refused : goal.returns-in-Refused
returns-in-Refused c line head =
    let is = rw c.in-Refused.is at head in
    rw c.line_refusal.ensures (is.asks _ _ refl)

pub returns-in-Asked : goal.returns-in-Asked
returns-in-Asked c line head =
    let is = rw c.in-Asked.is at head in
    is.asks _ _ refl

pub returns-in-Go : goal.returns-in-Go
returns-in-Go c = MatchResult-weaker c.go_asked.result c.go_asked.ensures
    (λ item asks line head. let is = rw c.in-Go.is at head in is.1.asks _ item asks)
    (λ fault told. told)

pub returns-in-Lnt : goal.returns-in-Lnt
returns-in-Lnt c = MatchResult-weaker c.lnt_asked.result c.lnt_asked.ensures
    (λ item asks line head. let is = rw c.in-Lnt.is at head in is.1.asks _ item asks)
    (λ fault told. told)
