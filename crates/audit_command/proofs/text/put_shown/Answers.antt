use Rattle.std.proofs.Common.{◌≡◌, ◌∙◌, ℕ, List, [], ◌∷◌, ◌++◌, codes, decimal, ap, append_assoc}
use Rattle.audit_command.proofs.text.put_shown.Goals as goal

joined : (old a b d first second third all : List ℕ) → first ≡ old ++ a → second ≡ first ++ b → third ≡ second ++ d → all ≡ third ++ 10 ∷ []
    → all ≡ old ++ (((a ++ b) ++ d) ++ 10 ∷ [])
joined old a b d first second third all p q r s =
    let whole : all ≡ (((old ++ a) ++ b) ++ d) ++ 10 ∷ [] =
    s ∙ ap (λ (l : List ℕ). l ++ 10 ∷ []) (r ∙ ap (λ (l : List ℕ). l ++ d) (q ∙ ap (λ (l : List ℕ). l ++ b) p)) in
    let regrouped : (((old ++ a) ++ b) ++ d) ++ 10 ∷ [] ≡ old ++ (((a ++ b) ++ d) ++ 10 ∷ []) = simp append_assoc in
    whole ∙ regrouped

pub returns : goal.returns
returns c =
    joined c.args.out.now.items (codes "audited machines " ++ decimal c.args.machines) (codes " steps " ++ decimal c.args.steps) (codes " requests " ++ decimal c.args.requests)
    c.put_count.new.out.items c.put_count-2.new.out.items c.put_count-3.new.out.items c.push.new.self.items
    c.in_ok-put_count.ensures c.in_ok-put_count-2.ensures c.in_ok-put_count-3.ensures c.in_ok-push.ensures.items
