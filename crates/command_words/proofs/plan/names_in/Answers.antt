use Rattle.std.{proofs.Common.{◌≡◌, ℕ, ◌+◌, ◌<◌, List, [], take, length, get_or, Err, sym, subst, ap, ◌∙◌, arith}, specs.List.AllZip, specs.Borrow.Bor}
use Rattle.std.proofs.lemmas.List.{get_or_default, Elements.{all_zip_more, AllZip-get_or}}
use Rattle.line_text.specs.Names.{Spells}
use Rattle.command_words.{specs.Texts.shown, proofs.Plans.{shown_at, length_shown}}
use Rattle.command_words.proofs.plan.names_in.Goals as goal

abbrev nothing : Bor (List ℕ)
nothing = record { ref_ptr = (0, 0); now = [] }

pub returns-in-Err-BadName : goal.returns-in-Err-BadName
returns-in-Err-BadName c = λ (names : List (List ℕ)) (zip : AllZip Spells (shown c.args.pieces.now) names).
    let i = c.loop-piece.piece-index in
    let word : get_or (shown c.args.pieces.now) i [] ≡ c.as_bytes.result.now = shown_at c.args.pieces.now i nothing ∙ sym c.as_bytes.ensures.value in
    let within : i < length (shown c.args.pieces.now) = omega (arith, length_shown c.args.pieces.now, c.loop-piece-test.true) in
    let spells = AllZip-get_or Spells (shown c.args.pieces.now) names i [] [] zip within in
    c.in-Err-BadName.ensures.bad (ap Err c.in-Err-BadName.field-0-is) (get_or names i []) (subst (λ (w : List ℕ). Spells w (get_or names i [])) word spells)

pub loop-piece-preserved : goal.loop-piece-preserved
loop-piece-preserved c =
    let i = c.loop-piece.piece-index in
    let pieces = shown c.args.pieces.now in
    let word = c.as_bytes.result.now in
    let within : i < length pieces = omega (arith, length_shown c.args.pieces.now, c.loop-piece-test.true) in
    let is : word ≡ get_or pieces i word = c.as_bytes.ensures.value ∙ sym (shown_at c.args.pieces.now i nothing) ∙ get_or_default pieces i [] word within in
    subst (λ (names : List (List ℕ)). AllZip Spells (take (i + 1) pieces) names) (sym c.in_ok-push-in-Ok.ensures.items)
    (all_zip_more Spells pieces c.loop-piece.names.items i word c.in-Ok.name within is c.loop-piece.invariant c.in-Ok.ensures.spelt)
