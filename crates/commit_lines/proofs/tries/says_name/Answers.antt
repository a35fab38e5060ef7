use Rattle.std.proofs.{Common.{◌≡◌, ℕ, List, ◌++◌, sym, subst, arith}, lemmas.Bool.false≢true, lemmas.Grind.common_steps}
use Rattle.commit_lines.{specs.Ends.end_at, specs.HasRead.IsKind, specs.Lines.IsNameLine, proofs.tries.says_name.Goals.After-deref}
use Rattle.commit_lines.proofs.tries.says_name.Goals as goal

-- the line with the end behind it
whole_is : (c : After-deref) → c.deref.result.now ≡ c.args.line.now ++ end_at c.args.number
whole_is c = grind (arith, common_steps)

pub returns : goal.returns
returns c =
    let is = whole_is (goal.at.returns c).After-deref in
    let bad = subst (IsKind c.deref.result.now) c.in-Bad.is c.in_ok-line_kind.ensures in
    (λ told. absurd (false≢true told), λ says. absurd (bad.1 says.0 (subst (λ (bs : List ℕ). IsNameLine bs says.0) (sym is) says.1)))
