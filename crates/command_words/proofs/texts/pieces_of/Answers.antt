use Rattle.std.{proofs.Common.{◌++◌, ℕ, List, sym, ap, ◌∙◌, arith, rules}, specs.List.slice_split, specs.Borrow.Bor}
use Rattle.command_words.{specs.Plans.is_comma, specs.Texts.shown, proofs.Pieces.{more, last}}
use Rattle.command_words.proofs.texts.pieces_of.Goals as goal

pub loop-piece-preserved : goal.loop-piece-preserved
loop-piece-preserved c =
    let byte = c.in-Some.ensures.byte (omega arith) (λ w o h. h) in (
      search rules,
      c.loop-piece.invariant.1 ∙ more c.loop-piece.pieces.items c.in-Some.piece c.loop-piece.rest.now c.in-Some.behind.now byte.2 byte.0 byte.1
          ∙ ap (λ (l : List (Bor (List ℕ))). shown l ++ slice_split is_comma c.in-Some.behind.now) (sym c.in_ok-push.ensures.items),
    )

pub returns : goal.returns
returns c =
    let byte = c.in_default.ensures.byte (omega arith) (λ w o h. h) in
    ap shown c.in_ok-push-2.ensures.items ∙ last c.loop-piece.pieces.items c.loop-piece.rest byte ∙ sym c.loop-piece.invariant.1
