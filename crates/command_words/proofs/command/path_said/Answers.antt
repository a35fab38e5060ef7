use Rattle.std.proofs.Common.{◌≡◌, sym, ◌∙◌, arith}
use Rattle.command_words.proofs.Commands.{number_same}
use Rattle.command_words.proofs.command.path_said.Goals as goal

pub returns-then-low-high : goal.returns-then-low-high
returns-then-low-high c = λ x is.
    let low : x.low ≡ c.in_ok-low.low = number_same x.low c.in_ok-low.low _ (omega (arith, is.1.0, is.1.1)) (omega (arith, c.in_ok-low.ensures.1)) is.0.0 (sym c.value.ensures ∙ c.in_ok-low.ensures.0) in
    let high : x.high ≡ c.in_ok-high.high = number_same x.high c.in_ok-high.high _ (omega (arith, is.1.1)) (omega (arith, c.in_ok-high.ensures.1)) is.0.1 (sym c.value-2.ensures ∙ c.in_ok-high.ensures.0) in
    absurd (omega (arith, low, high, is.1.0, c.if-low-high.true))
