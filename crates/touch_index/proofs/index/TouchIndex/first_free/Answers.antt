use Rattle.std.{proofs.Common.{◌≡◌, ◌∙◌, ℕ, sym, subst, Option, Some, None}, specs.Prelude.{IfSome, IfNone}, specs.List.Sorted.IsStrictlySortedBy, specs.Map.keys_of}
use Rattle.touch_index.specs.{Free.first_free, Marks.{Entries, key_cmp, IsFirstFree, NoneIsFree}, declared.key.SeriesKey.SeriesKey}
use Rattle.touch_index.proofs.FirstFree.{none-free, some-free}
use Rattle.touch_index.proofs.index.TouchIndex.first_free.Goals as goal

found : (es : Entries) → IsStrictlySortedBy key_cmp (keys_of es) → (o : Option (SeriesKey × ℕ)) → o ≡ first_free es → IfSome o (λ f. IsFirstFree es f.0 f.1)
found es up None is = tt
found es up (Some f) is = some-free es up f (sym is)

missed : (es : Entries) (o : Option (SeriesKey × ℕ)) → o ≡ first_free es → IfNone o (NoneIsFree es)
missed es None is = none-free es (sym is)
missed es (Some f) is = tt

pub returns-clause-some : goal.returns-clause-some
returns-clause-some c =
    let up : IsStrictlySortedBy key_cmp (keys_of c.args.self.now) =
    subst (λ (es : Entries). IsStrictlySortedBy key_cmp (keys_of es)) (c.entries.ensures ∙ c.self.view_is) c.len.ensures.ordered in
    found c.args.self.now up c.in_ok-first.first c.in_ok-first.ensures.found

pub returns-clause-none : goal.returns-clause-none
returns-clause-none c = missed c.args.self.now c.in_ok-first.first c.in_ok-first.ensures.found
