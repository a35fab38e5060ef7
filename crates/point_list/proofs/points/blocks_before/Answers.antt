use Rattle.std.proofs.{Common.{◌*◌, ◌-◌, ◌<◌, ℕ, List, get_or, sym, ap, subst, inl, inr, arith}, lemmas.Bool.cases_eq}
use Rattle.segment_model.specs.Segments.{Position}
use Rattle.point_list.proofs.Places.{less-before}
use Rattle.point_list.proofs.points.blocks_before.Goals as goal

pub overflow_mul-kept : goal.overflow_mul-kept
overflow_mul-kept c = omega (arith, c.loop-kept.invariant.within, c.requires.within, c.requires.limits.few_positions)

pub returns-then-commit-clause-below : goal.returns-then-commit-clause-below
returns-then-commit-clause-below c i d lt =
    let list : List Position = c.args.positions.now in
    let j : ℕ = 128 * c.loop-kept.kept - 1 in
    let is = ap (λ (p : Position). p.commit) (c.at-position.ensures d) in
    let at : (get_or list j d).commit < c.args.commit = omega (arith, c.if-commit.true, c.commit.ensures, is) in
    elim (cases_eq i j) [
      | inl same ↦ subst (λ (k : ℕ). (get_or list k d).commit < c.args.commit) (sym same) at
      | inr apart ↦
          let before = less-before list c.requires.limits.rising i j d (omega (arith, lt, apart)) (omega (arith, c.loop-kept.invariant.within, c.requires.within, c.loop-kept-test.true)) in
          omega (arith, before, at)
    ]
