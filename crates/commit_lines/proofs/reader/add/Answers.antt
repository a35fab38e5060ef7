use Rattle.std.{proofs.Common.{List, ℕ, refl, sym, ◌∙◌, arith}, specs.Cmp.Lexicographic.{same_text, nat_list_eq_equiv}, proofs.lemmas.Grind.common_steps}
use Rattle.std.proofs.lemmas.{Bool.both_ways, Map.Views.{Contains-from_any, list_any-from_Contains}}
use Rattle.commit_lines.proofs.reader.add.Goals as goal

pub returns-then-contains-clause-err : goal.returns-then-contains-clause-err
returns-then-contains-clause-err c =
    (refl, Contains-from_any (λ (x y : List ℕ) e. same_text x y (sym e)) c.args.name c.args.names.now.keys (sym c.contains.ensures ∙ c.if-contains.true))

pub returns-then-len-ge-COMMITS-clause-err : goal.returns-then-len-ge-COMMITS-clause-err
returns-then-len-ge-COMMITS-clause-err c = grind (arith, common_steps, both_ways, list_any-from_Contains, nat_list_eq_equiv)
