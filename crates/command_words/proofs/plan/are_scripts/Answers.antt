use Rattle.std.{proofs.Common.{◌≢◌, ◌<◌, ◌≤◌, length, refl, arith}, specs.Prelude.{All, AllPairs}}
use Rattle.command_words.{specs.Texts.shown, proofs.Plans.{scripts_by, length_shown}, proofs.Different.positive}
use Rattle.command_words.proofs.plan.are_scripts.Goals as goal

pub returns : goal.returns
returns c =
    let scripts = shown c.args.scripts.now in
    let count = length_shown c.args.scripts.now in
    let some : 0 < length scripts = omega (arith, count, positive (length c.args.scripts.now) c.if-is_empty.ensures) in
    let few : length scripts ≤ 8 = omega (arith, count, c.if-scripts-gt-SCRIPTS.false) in
    let named : All (λ script. 0 < length script) scripts = c.if-not-all_named.ensures.0 refl in
    let apart : AllPairs ◌≢◌ scripts = c.if-not-are_apart.ensures.0 refl in
    scripts_by scripts some few named apart c.are_own.result c.are_own.ensures
