use Rattle.std.proofs.Common.{◌≡◌, ℕ, List, ap, sym, ◌∙◌, subst}
use Rattle.sample_model.specs.Samples.{Measurement}
use Rattle.go_bench_text.specs.Spellings.{IsWrittenBy}
use Rattle.go_bench_text.proofs.put.spelled_by.Goals as goal

pub returns-in_default-clause-none : goal.returns-in_default-clause-none
returns-in_default-clause-none c has =
    let test : c.as_str-2.result.now ≡ c.args.sample.now.test = c.as_str-2.ensures ∙ ap (λ (s : Measurement). s.test) c.sample.view_is in
    c.in_default.ensures.none has.pkg has.name (subst (λ (t : List ℕ). IsWrittenBy t has.pkg has.name) (sym test) has.written)
