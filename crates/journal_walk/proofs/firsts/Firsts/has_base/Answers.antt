use Rattle.std.proofs.{Common.{◌≡◌, ℕ, ◌<◌, List, Option, Some, None, true, ltb, sym, subst, arith}, lemmas.Bool.false≢true, lemmas.Grind.common_steps}
use Rattle.std.proofs.lemmas.Bool.Decides.{nat_tests}
use Rattle.journal_walk.specs.Firsts.{IsBefore, Places, base_key, place_of}
use Rattle.journal_walk.proofs.firsts.Firsts.has_base.Goals as goal

less : (a b : ℕ) → ltb a b ≡ true → a < b
less a b test = grind (arith, nat_tests)

tests : (a b : ℕ) → a < b → ltb a b ≡ true
tests a b lt = grind (arith, nat_tests)

-- what was found at the key that was made is what is at the base's
place-is : (o : Option ℕ) (t u m n : List ℕ) (version : ℕ) (inside now : Places) → t ≡ u → m ≡ n → inside ≡ now
    → o ≡ place_of (record { test = t; metric = m; version = version }) inside → o ≡ place_of (record { test = u; metric = n; version = version }) now
place-is o t u m n version inside now tests metrics view found = grind (arith, common_steps)

pub returns-in-Some : goal.returns-in-Some
returns-in-Some c =
    let is : Some c.in-Some.place.now ≡ place_of (base_key c.args.p.now) c.args.self.now =
    place-is (Some c.in-Some.place.now) c.in_ok-copy.field-0 c.args.p.now.test c.in_ok-copy-2.field-0 c.args.p.now.metric c.args.p.now.base
    c.self.inside.places.entries c.args.self.now c.in_ok-copy.ensures c.in_ok-copy-2.ensures c.self.view_is c.in-Some.ensures.value in (
      λ test. subst (λ (o : Option ℕ). IsBefore c.args.p.now.version o) is (less c.in-Some.place.now c.args.p.now.version test),
      λ before. tests c.in-Some.place.now c.args.p.now.version (subst (λ (o : Option ℕ). IsBefore c.args.p.now.version o) (sym is) before),
    )

pub returns : goal.returns
returns c =
    let is : None ≡ place_of (base_key c.args.p.now) c.args.self.now =
    place-is None c.in_ok-copy.field-0 c.args.p.now.test c.in_ok-copy-2.field-0 c.args.p.now.metric c.args.p.now.base
    c.self.inside.places.entries c.args.self.now c.in_ok-copy.ensures c.in_ok-copy-2.ensures c.self.view_is c.in-None.ensures.value in (
      λ test. absurd (false≢true test),
      λ before. absurd (subst (λ (o : Option ℕ). IsBefore c.args.p.now.version o) (sym is) before),
    )
