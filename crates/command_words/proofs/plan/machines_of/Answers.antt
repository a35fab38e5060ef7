use Rattle.std.{proofs.Common.{◌≡◌, ◌≢◌, ℕ, ◌≤◌, List, length, refl, sym, subst, ap, ◌∙◌, arith}, specs.Prelude.AllPairs, specs.List.{AllZip, slice_split}}
use Rattle.std.proofs.lemmas.List.Elements.{length_all_zip}
use Rattle.line_text.specs.Names.{Spells}
use Rattle.command_words.{specs.Plans.is_comma, specs.Texts.shown, proofs.Plans.{not_apart, are_machines, length_shown}}
use Rattle.command_words.proofs.plan.machines_of.Goals as goal

pub returns-then-not-are_apart : goal.returns-then-not-are_apart
returns-then-not-are_apart c =
    let names = c.in-Some-2.names.items in
    let read : AllZip Spells (shown c.deref.result.now) names = rw c.in-Some-2.is at c.in_ok-names.ensures in
    let spelt : AllZip Spells (slice_split is_comma c.in-Some.list.now) names =
    subst (λ (l : List (List ℕ)). AllZip Spells l names) (ap shown c.deref.ensures.value ∙ c.in_ok-pieces.ensures) read in
    let texts : shown c.deref-3.result.now ≡ names = ap shown c.deref-3.ensures.value ∙ c.in_ok-texts_in.ensures ∙ c.deref-2.ensures.value in
    let repeated : AllPairs ◌≢◌ names → ⊥ = λ all.
    let bad = c.if-not-are_apart.ensures.1 (subst (λ (l : List (List ℕ)). AllPairs ◌≢◌ l) (sym texts) all) in absurd (cc) in
    not_apart c.args.list c.in-Some.list names c.in-Some.is spelt repeated

pub returns : goal.returns
returns c =
    let names = c.in-Some-2.names.items in
    let read : AllZip Spells (shown c.deref.result.now) names = rw c.in-Some-2.is at c.in_ok-names.ensures in
    let spelt : AllZip Spells (slice_split is_comma c.in-Some.list.now) names =
    subst (λ (l : List (List ℕ)). AllZip Spells l names) (ap shown c.deref.ensures.value ∙ c.in_ok-pieces.ensures) read in
    let texts : shown c.deref-3.result.now ≡ names = ap shown c.deref-3.ensures.value ∙ c.in_ok-texts_in.ensures ∙ c.deref-2.ensures.value in
    let apart : AllPairs ◌≢◌ names = subst (λ (l : List (List ℕ)). AllPairs ◌≢◌ l) texts (c.if-not-are_apart.ensures.0 refl) in
    let few : length names ≤ 16 =
    omega (arith, length_all_zip Spells (shown c.deref.result.now) names read, length_shown c.deref.result.now, c.deref.ensures.len, c.len.ensures, c.if-len-gt-MACHINES.false) in
    are_machines c.args.list c.in-Some.list names c.in-Some.is spelt few apart
