use Rattle.std.{proofs.Common.{ℕ, List, inl, refl, sym, subst, ◌∙◌}, specs.Cmp.Lexicographic.{same_text, nat_list_eq_equiv}, proofs.lemmas.Bool.false≢true}
use Rattle.std.proofs.lemmas.Map.Views.{Contains-from_any, list_any-from_Contains}
use Rattle.commit_lines.{specs.HasRead.IsKind, proofs.Judged.{neither, new_is_good}}
use Rattle.commit_lines.proofs.line.is_good.Goals as goal

pub returns-in-Skipped : goal.returns-in-Skipped
returns-in-Skipped c = (λ is. inl (subst (IsKind c.args.line.now) c.in-Skipped.is c.in_ok-line_kind.ensures), λ good. refl)

pub returns-in-Named : goal.returns-in-Named
returns-in-Named c =
    let names : List (List ℕ) = c.args.names.now.keys in
    let name : List ℕ = c.in-Named.name in
    let says = subst (IsKind c.args.line.now) c.in-Named.is c.in_ok-line_kind.ensures in
    new_is_good names c.args.line.now name c.contains.result says
    (λ found. Contains-from_any (λ (x y : List ℕ) e. same_text x y (sym e)) name names (sym c.contains.ensures ∙ found))
    (λ has. c.contains.ensures ∙ list_any-from_Contains nat_list_eq_equiv name names has)

pub returns-in-Bad : goal.returns-in-Bad
returns-in-Bad c =
    let kind = subst (IsKind c.args.line.now) c.in-Bad.is c.in_ok-line_kind.ensures in
    (λ is. absurd (false≢true is), λ good. absurd (neither c.args.names.now.keys c.args.line.now kind.0 kind.1 good))
