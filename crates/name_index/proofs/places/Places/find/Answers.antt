use Rattle.std.proofs.lemmas.Grind.{common_steps}
use Rattle.std.{proofs.Common.{◌≡◌, ◌∙◌, ◌-◌, sym, Some, None, arith}, specs.Ordering.nat_cmp, specs.Cmp.Lexicographic.slice_cmp, specs.BTreeMap.get}
use Rattle.name_index.{specs.Placed.{slot, hard_hash}, proofs.Finding.{nowhere, untold, position-at, position-none}}
use Rattle.name_index.proofs.places.Places.find.Goals as goal

pub returns-then-slot-eq0 : goal.returns-then-slot-eq0
returns-then-slot-eq0 c =
    let free : slot c.args.self.now c.args.name.now ≡ 0 = sym c.slot-slot.ensures ∙ c.if-slot-eq0.true in
    sym (position-none c.args.names.now c.args.name.now
    (nowhere c.args.names.now c.args.self.now c.args.name.now c.requires.found
    (λ i is at. omega (arith, free, is))
    (λ taken. absurd (taken free))
    (λ taken. absurd (taken free))))

pub returns-then-is_at : goal.returns-then-is_at
returns-then-is_at c = sym (position-at c.args.names.now c.args.name.now (c.slot-slot.result - 1) c.requires.distinct (c.is_at.ensures.0 c.if-is_at.true))

pub returns-in_err-place : goal.returns-in_err-place
returns-in_err-place c =
    let none : get nat_cmp c.args.self.now.hashed (hard_hash c.args.name.now) ≡ None = grind (arith, common_steps) in
    c.from_residual.ensures ∙ sym (position-none c.args.names.now c.args.name.now
    (nowhere c.args.names.now c.args.self.now c.args.name.now c.requires.found
    (λ i is. untold c.args.names.now c.args.name.now (c.slot-slot.result - 1) c.is_at.result c.is_at.ensures c.if-is_at.false i (omega (arith, is, c.slot-slot.ensures)))
    (λ taken i is at. let no : None ≡ Some i = sym none ∙ is in cc)
    (λ taken hit. absurd (hit none))))

pub returns-then-is_at-2 : goal.returns-then-is_at-2
returns-then-is_at-2 c = sym (position-at c.args.names.now c.args.name.now c.in_ok-place.field-0.now c.requires.distinct (c.is_at-2.ensures.0 c.if-is_at-2.true))

pub returns-in_err-place-2 : goal.returns-in_err-place-2
returns-in_err-place-2 c =
    let there : Some c.in_ok-place.field-0.now ≡ get nat_cmp c.args.self.now.hashed (hard_hash c.args.name.now) = grind (arith, common_steps) in
    let none : None ≡ get (slice_cmp nat_cmp) c.args.self.now.named c.args.name.now = c.in_err-place-2.ensures.value in
    c.from_residual-in_err-place-2.ensures ∙ sym (position-none c.args.names.now c.args.name.now
    (nowhere c.args.names.now c.args.self.now c.args.name.now c.requires.found
    (λ i is. untold c.args.names.now c.args.name.now (c.slot-slot.result - 1) c.is_at.result c.is_at.ensures c.if-is_at.false i (omega (arith, is, c.slot-slot.ensures)))
    (λ taken i is. untold c.args.names.now c.args.name.now c.in_ok-place.field-0.now c.is_at-2.result c.is_at-2.ensures c.if-is_at-2.false i (let e : Some c.in_ok-place.field-0.now ≡ Some i = there ∙ is in cc))
    (λ taken hit i is at. let no : None ≡ Some i = none ∙ is in cc)))

pub returns-then-is_at-3 : goal.returns-then-is_at-3
returns-then-is_at-3 c = sym (position-at c.args.names.now c.args.name.now c.in_ok-place-2.field-0.now c.requires.distinct (c.is_at-3.ensures.0 c.if-is_at-3.true))

pub returns : goal.returns
returns c =
    let there : Some c.in_ok-place.field-0.now ≡ get nat_cmp c.args.self.now.hashed (hard_hash c.args.name.now) = grind (arith, common_steps) in
    let named : Some c.in_ok-place-2.field-0.now ≡ get (slice_cmp nat_cmp) c.args.self.now.named c.args.name.now = c.in_ok-place-2.ensures.value in
    sym (position-none c.args.names.now c.args.name.now
    (nowhere c.args.names.now c.args.self.now c.args.name.now c.requires.found
    (λ i is. untold c.args.names.now c.args.name.now (c.slot-slot.result - 1) c.is_at.result c.is_at.ensures c.if-is_at.false i (omega (arith, is, c.slot-slot.ensures)))
    (λ taken i is. untold c.args.names.now c.args.name.now c.in_ok-place.field-0.now c.is_at-2.result c.is_at-2.ensures c.if-is_at-2.false i (let e : Some c.in_ok-place.field-0.now ≡ Some i = there ∙ is in cc))
    (λ taken hit i is. untold c.args.names.now c.args.name.now c.in_ok-place-2.field-0.now c.is_at-3.result c.is_at-3.ensures c.if-is_at-3.false i (let e : Some c.in_ok-place-2.field-0.now ≡ Some i = named ∙ is in cc))))
