use Rattle.std.{proofs.Common.{◌≡◌, ◌≤◌, ◌⊎◌, inl, inr, FitsSigned, rules}, specs.Int.w128, proofs.lemmas.Int.to_z-of_z}
use Rattle.std.proofs.lemmas.Bool.{cases_lt, cases_eq}
use Rattle.segment_model.specs.Tables.{IsSettled}
use Rattle.cost_certificate.{specs.Checks.{total_at, last_cut_at, mark_at}, proofs.Bools.not_both}
use Rattle.cost_certificate.proofs.entries.mark_holds.Goals as goal

pub returns : goal.returns
returns c =
    let from_fits : FitsSigned w128 c.args.from_here = c.ranges.from_here in
    let total_fits : FitsSigned w128 (total_at c.args.tables.now c.args.t) = search rules in
    let dear = rw c.requires.made at (simp to_z-of_z at c.is_dear.ensures) in
    let marked = c.is_marked.ensures in
    let free : ¬ IsSettled c.args.tables.now.len (last_cut_at c.args.tables.now c.args.t) c.args.s = λ settled. not_both c.is_settled.result c.if-is_settled.false (c.is_settled.ensures.1 settled) in
    let unmarked : (mark_at c.args.tables.now c.args.s ≡ 0) ⊎ (c.args.t ≤ mark_at c.args.tables.now c.args.s) = elim (cases_eq (mark_at c.args.tables.now c.args.s) 0) [
      | inl none ↦ inl none
      | inr some ↦ elim (cases_lt (mark_at c.args.tables.now c.args.s) c.args.t) [
        | inl before ↦ absurd (not_both c.is_before.result c.if-is_before.false (c.is_before.ensures.1 (some, before)))
        | inr from ↦ inr from
      ]
    ] in (
      λ e un. (
        (λ z. ((λ is. (marked.0 e).0 (dear.1 is)), (λ at. dear.0 ((marked.0 e).1 at)))),
        (λ settled. absurd (free settled)),
      ),
      λ all. marked.1 ((λ is. ((all unmarked).0 free).0 (dear.0 is)), (λ at. dear.1 (((all unmarked).0 free).1 at))),
    )
