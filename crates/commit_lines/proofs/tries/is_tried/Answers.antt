use Rattle.std.proofs.{Common.{◌≡◌, ℕ, ◌++◌, inl, inr, refl, sym, subst, ◌∙◌, arith}, lemmas.Bool.{false≢true, cases_lt}}
use Rattle.commit_lines.specs.{Ends.end_at, HasRead.SaysName}
use Rattle.commit_lines.proofs.tries.is_tried.Goals as goal

pub returns-then-branch : goal.returns-then-branch
returns-then-branch c = (λ is. (c.loop-number.number, c.loop-number-test.true, c.in_ok-says_name.ensures.0 c.if-branch.true), λ tried. refl)

pub loop-number-preserved : goal.loop-number-preserved
loop-number-preserved c k less = elim (cases_lt k c.loop-number.number) [
  | inl before ↦ c.loop-number.invariant k before
  | inr last ↦ λ (says : SaysName (c.args.line.now ++ end_at k)).
      let same : k ≡ c.loop-number.number = omega (arith, less) in
      false≢true (sym c.if-branch.false ∙ c.in_ok-says_name.ensures.1 (subst (λ (n : ℕ). SaysName (c.args.line.now ++ end_at n)) same says))
]

pub returns : goal.returns
returns c =
    (λ is. absurd (false≢true is), λ tried. absurd (c.loop-number.invariant tried.0 (omega (arith, tried.1, c.loop-number-test.false)) tried.2))
