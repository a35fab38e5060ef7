use Rattle.std.proofs.Common.{◌≡◌, ℕ, List, true, false, sym, subst}
use Rattle.fixed_value.specs.Numerals.{IsNumeralText}
use Rattle.go_bench_text.proofs.fields.is_numeral.Goals as goal

pub returns-in-None : goal.returns-in-None
returns-in-None c = (λ h. absurd (let no : false ≡ true = h in cc), λ is. absurd (c.in-None.ensures.none is.0 (subst (λ (t : List ℕ). IsNumeralText t is.0) (sym c.as_bytes.ensures.value) is.1)))
