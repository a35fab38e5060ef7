use Rattle.std.proofs.{Common.{◌≡◌, ℕ, List, slice_range, IfOk, subst, arith}, lemmas.Grind.common_steps}
use Rattle.request_words.specs.{Heads.IsHead, Items.Asks}
use Rattle.request_reader.proofs.lines.Lines.item.Goals as goal

pub returns-clause-item : goal.returns-clause-item
returns-clause-item c =
    let kept : c.behind.result.now ≡ c.args.self.now.kept = grind (arith, common_steps) in
    subst (λ (bytes : List ℕ). IfOk c.item_of.result (λ item. (line : List ℕ) → IsHead line c.args.head → Asks line (slice_range bytes c.args.from c.args.to) item)) kept c.item_of.ensures
