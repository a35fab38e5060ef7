use Rattle.std.{proofs.Common.{◌≡◌, ◌∙◌, ℕ, List, length, sym, ap, subst, arith}, specs.Prelude.{bytes_eq, position}}
use Rattle.name_index.{specs.Placed.{IsAt, AreFound, AreDistinct, StandsAt}, proofs.Finding.{position-misses, still-found, found-push, distinct-push}}
use Rattle.name_index.proofs.index.NameIndex.insert.Goals as goal

pub invariant_of-self-in_err-put : goal.invariant_of-self-in_err-put
invariant_of-self-in_err-put c =
    let names : List (List ℕ) = c.reserve.new.self.items in
    let same : names ≡ c.self.inside.names.items = c.in_ok-reserve.ensures.items in
    let new : (i : ℕ) → ¬ StandsAt names i c.args.name =
    position-misses names c.args.name (ap (position (λ (k : List ℕ). bytes_eq c.args.name k)) (same ∙ c.self.view_is) ∙ c.requires) in
    let found : AreFound names c.widen.new.self = let P : List (List ℕ) → Type 0 = λ ns. AreFound ns c.widen.new.self in subst P c.deref.ensures.value c.widen.ensures.found in
    (still-found names c.args.name c.widen.new.self c.put.new.self found new c.put.ensures.others, subst AreDistinct (sym same) c.self.invariant.1)

pub invariant_of-self-2 : goal.invariant_of-self-2
invariant_of-self-2 c =
    let names : List (List ℕ) = c.reserve.new.self.items in
    let same : names ≡ c.self.inside.names.items = c.in_ok-reserve.ensures.items in
    let new : (i : ℕ) → ¬ StandsAt names i c.args.name =
    position-misses names c.args.name (ap (position (λ (k : List ℕ). bytes_eq c.args.name k)) (same ∙ c.self.view_is) ∙ c.requires) in
    let found : AreFound names c.widen.new.self = let P : List (List ℕ) → Type 0 = λ ns. AreFound ns c.widen.new.self in subst P c.deref.ensures.value c.widen.ensures.found in
    let still = still-found names c.args.name c.widen.new.self c.put.new.self found new c.put.ensures.others in
    let count : c.len.result ≡ length names = omega (arith, c.len.ensures, c.reserve.new.self.ok.0) in
    let here : IsAt c.put.new.self c.args.name (length names) = let P : ℕ → Type 0 = λ n. IsAt c.put.new.self c.args.name n in subst P count c.in_ok-put.ensures.ok in
    let P : List (List ℕ) → Type 0 = λ ns. AreFound ns c.put.new.self × AreDistinct ns in
    subst P (sym c.push_reserved.ensures.items)
    (found-push names c.args.name c.put.new.self still here, distinct-push names c.args.name (subst AreDistinct (sym same) c.self.invariant.1) new)
