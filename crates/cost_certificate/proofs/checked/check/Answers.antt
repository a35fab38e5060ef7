use Rattle.std.{proofs.Common.{◌^◌, length, reverse, IsTrue, false, ◌↔◌, refl, sym, ◌∙◌, pos, ◌≤ℤ◌, FitsSigned, rules, arith}, specs.Int.w128}
use Rattle.std.proofs.lemmas.Int.{ints, to_z-of_z}
use Rattle.segment_model.specs.Tables.{IsTable, IsWalk}
use Rattle.segment_cost.specs.Certificate.{squares_between}
use Rattle.cost_certificate.proofs.{Certificates.{tables-of, total-is}, Bools.not_both, checked.check.Goals.After-are_tables}
use Rattle.cost_certificate.proofs.checked.check.Goals as goal

tables : (c : After-are_tables) → IsTrue c.are_tables.result ↔ IsTable (squares_between c.args.points.now) (length c.args.points.now) c.args.cert.now.penalty c.args.cert.now.length c.args.cert.now.least c.args.cert.now.back c.args.cert.now.pruned
tables c =
    let fits : FitsSigned w128 c.args.cert.now.penalty = omega (arith, ints, c.if-penalty-lt0.false, c.if-penalty-gt-GREATEST_PENALTY.false) in
    tables-of c.args.points.now c.args.sums.now.positions c.args.cert.now.penalty c.args.cert.now.length c.args.cert.now.least _ c.args.cert.now.back _ c.args.cert.now.pruned _ c.are_tables.result c.requires
    c.as_slice-least.ensures c.as_slice-back.ensures c.as_slice.ensures (rw c.from-len.ensures at (simp (to_z-of_z w128 c.args.cert.now.penalty fits) at c.are_tables.ensures))

pub returns-then-not-are_tables : goal.returns-then-not-are_tables
returns-then-not-are_tables c =
    let k = (goal.at.returns-then-not-are_tables c).After-are_tables in (
      λ e. absurd (not_both false refl e),
      λ h. absurd (not_both c.are_tables.result c.if-not-are_tables.true ((tables k).1 (c.certificate_law.ensures.standing c.args.points.now c.args.cert.now.penalty c.args.cert.now.length c.args.cert.now h.3).table)),
    )

pub cuts_hold-requires-clause-below : goal.cuts_hold-requires-clause-below
cuts_hold-requires-clause-below c = λ s lt.
    let k = (goal.at.cuts_hold-requires-clause-below c).After-are_tables in
    let table = (tables k).0 c.if-not-are_tables.false in
    let in' = rw c.as_slice-back.ensures at lt in
    rw c.as_slice-back.ensures (c.walk_law.ensures.before (squares_between c.args.points.now) (length c.args.points.now) c.args.cert.now.penalty c.args.cert.now.length c.args.cert.now.least c.args.cert.now.back c.args.cert.now.pruned table s (omega (arith, in', table.tables.back_length)))

pub returns-then-not-cuts_hold : goal.returns-then-not-cuts_hold
returns-then-not-cuts_hold c =
    let told = rw (c.as_slice-back.ensures, c.as_slice-2.ensures, c.len-n.ensures) at c.cuts_hold.ensures.1 in (
      λ e. absurd (not_both false refl e),
      λ h.
          let cert = c.certificate_law.ensures.standing c.args.points.now c.args.cert.now.penalty c.args.cert.now.length c.args.cert.now h.3 in
          let walk = c.walk_law.ensures.walk (squares_between c.args.points.now) (length c.args.points.now) c.args.cert.now.penalty c.args.cert.now.length c.args.cert.now.least c.args.cert.now.back c.args.cert.now.pruned cert.table (length c.args.points.now) c.args.cert.now.cuts (omega arith) cert.best in
          absurd (not_both c.cuts_hold.result c.if-not-cuts_hold.true (told walk)),
    )

pub returns : goal.returns
returns c =
    let k = (goal.at.returns c).After-are_tables in
    let table = (tables k).0 c.if-not-are_tables.false in
    let walk : IsWalk c.args.cert.now.back (length c.args.points.now) (reverse c.args.cert.now.cuts) = rw (c.as_slice-back.ensures, c.as_slice-2.ensures, c.len-n.ensures) at (c.cuts_hold.ensures.0 c.if-not-cuts_hold.false) in
    let fits : FitsSigned w128 c.args.cert.now.total = search rules in
    let found_fits : FitsSigned w128 c.total_of.result = record { sfits = c.total_of.type_inv } in
    let told = simp to_z-of_z at c.are_equal.ensures in
    let none = rw c.len-n.ensures at c.total_of.ensures.none in
    let some = rw (c.len-n.ensures, c.as_slice-least.ensures) at c.total_of.ensures.some in
    let are = total-is c.walk_law.ensures.best c.best_list_law.ensures.of_none c.least_sum_law.ensures.empty c.squares_law.ensures.computed c.args.points.now c.args.cert.now.penalty c.args.cert.now.length
    c.args.cert.now.least c.args.cert.now.back c.args.cert.now.pruned c.args.cert.now.cuts (length c.args.points.now) c.total_of.result table walk none some in
    let low : pos 0 ≤ℤ c.args.cert.now.penalty = omega (arith, ints, c.if-penalty-lt0.false) in
    let high : c.args.cert.now.penalty ≤ℤ pos (10 ^ 36) = omega (arith, ints, c.if-penalty-gt-GREATEST_PENALTY.false) in (
      λ is. (
        low,
        high,
        (omega (arith, c.if-cert-eq0.false), omega (arith, c.if-cert-gt64.false)),
        c.certificate_law.ensures.stands c.args.points.now c.args.cert.now.penalty c.args.cert.now.length c.args.cert.now (record {
          counted = c.if-cert-n.false ∙ c.len-n.ensures;
          same_penalty = refl;
          same_length = refl;
          best = are.0;
          totalled = told.0 is ∙ are.1;
          table = table;
        }),
      ),
      λ h. told.1 ((c.certificate_law.ensures.standing c.args.points.now c.args.cert.now.penalty c.args.cert.now.length c.args.cert.now h.3).totalled ∙ sym are.1),
    )
