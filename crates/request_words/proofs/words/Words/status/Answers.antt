use Rattle.std.proofs.{Common.{rules, ◌≡◌, ℕ, ◌^◌, ◌<◌, sym, ◌∙◌, arith}, lemmas.Fmt.decimal_injective}
use Rattle.request_words.proofs.FormWords.{first_of}
use Rattle.request_words.proofs.words.Words.status.Goals as goal

pub returns-then-status-gt-STATUS_LIMIT-clause-none : goal.returns-then-status-gt-STATUS_LIMIT-clause-none
returns-then-status-gt-STATUS_LIMIT-clause-none c n small is =
    let status : ℕ = c.in_ok-status.status in
    let fits : status < 2 ^ 64 = search rules in
    let same : status ≡ n = decimal_injective status n fits (omega (arith, small)) (first_of (sym c.in_ok-status.ensures.some ∙ is)) in
    absurd (omega (arith, small, same, c.if-status-gt-STATUS_LIMIT.true))
