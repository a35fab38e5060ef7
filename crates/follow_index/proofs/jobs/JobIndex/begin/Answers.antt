use Rattle.std.proofs.Common.{◌≡◌, ℕ, ◌+◌, List, [], ◌∷◌, ◌++◌, length, cond, sym, ap, ◌∙◌, arith}
use Rattle.bisect_core.specs.Bisections.{Bisection}
use Rattle.history_model.specs.Jobs.{is_under_way}
use Rattle.follow_index.{specs.Numbered.open_numbers, proofs.Counts.open-push}
use Rattle.follow_index.proofs.jobs.JobIndex.begin.Goals as goal

pub invariant_of-self-2 : goal.invariant_of-self-2
invariant_of-self-2 c =
    let xs : List Bisection = c.self.inside.items.items in
    let job : Bisection = c.in-Ok.job in
    let same : c.reserve.new.self.items ≡ xs = c.in_ok-reserve.ensures.items in
    let number : c.len.result + 1 ≡ 1 + length xs = omega (arith, c.len.ensures, ap (λ (ys : List Bisection). length ys) same, c.reserve.new.self.ok) in
    c.in_ok-put_open.ensures.ok
    ∙ ap (λ (n : ℕ). c.self.inside.under_way.items ++ cond (is_under_way job) (n ∷ []) []) number
    ∙ ap (λ (ns : List ℕ). ns ++ cond (is_under_way job) ((1 + length xs) ∷ []) []) c.self.invariant
    ∙ sym (open-push 1 xs job)
    ∙ ap (λ (ys : List Bisection). open_numbers (ys ++ job ∷ [])) (sym same)
    ∙ ap (λ (ys : List Bisection). open_numbers ys) (sym c.push_reserved.ensures.items)
