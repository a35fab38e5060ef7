use Rattle.std.proofs.lemmas.Grind.{common_steps}
use Rattle.std.proofs.{Common.{rules, arith, ◌≡◌, ℕ, ◌-◌, List, [], length, take, drop, slice_range, sym, ap, subst}, lemmas.List.take_all}
use Rattle.request_words.specs.{Bodies.Item, Heads.IsHead, Items.{IsSkipped, Counts, Asks}}
use Rattle.request_reader.proofs.LastLines.{last_end, last_item, last_cut}
use Rattle.request_reader.proofs.last.read_last.Goals as goal

-- a line as long as all bytes is all of them
whole : (kept given : List ℕ) → given ≡ kept → take (length given) kept ≡ kept
whole kept given same = take_all (length given) kept (omega (arith, ap length same))

-- nothing stands between a place and itself
between : (kept : List ℕ) (n : ℕ) → slice_range kept n n ≡ []
between kept n = let none : n - n ≡ 0 = omega arith in ap (λ (k : ℕ). take k (drop n kept)) none

pub returns-then-is_skipped-clause-next : goal.returns-then-is_skipped-clause-next
returns-then-is_skipped-clause-next c = grind (arith, common_steps, last_end)

pub returns-then-body_count-gt0-clause-stops : goal.returns-then-body_count-gt0-clause-stops
returns-then-body_count-gt0-clause-stops c =
    let line : List ℕ = c.args.lines.now.kept in
    let head : IsHead line c.in_ok-head.head = subst (λ (bytes : List ℕ). IsHead bytes c.in_ok-head.head) (whole line c.kept-len.result.now c.kept-len.ensures.same) c.in_ok-head.ensures.head in
    let counts : Counts line c.body_count.result = c.body_count.ensures line head in
    rw (c.before-then-body_count-gt0.ensures, c.in_ok-head.ensures.same) (last_cut _ line _ c.requires counts c.if-body_count-gt0.true)

pub returns-clause-next : goal.returns-clause-next
returns-clause-next c =
    let line : List ℕ = c.args.lines.now.kept in
    let head : IsHead line c.in_ok-head.head = subst (λ (bytes : List ℕ). IsHead bytes c.in_ok-head.head) (whole line c.kept-len.result.now c.kept-len.ensures.same) c.in_ok-head.ensures.head in
    let counts : Counts line c.body_count.result = c.body_count.ensures line head in
    let nothing : c.body_count.result ≡ 0 = omega (arith, c.if-body_count-gt0.false) in
    let none : Counts line 0 = rw nothing at counts in
    let shown : ¬ IsSkipped c.kept.result.now = search rules in
    let asked : ¬ IsSkipped line = rw (sym c.kept.ensures.same) shown in
    let item : Item = c.in_ok-item.item in
    let asks : Asks line [] item = subst (λ (bytes : List ℕ). Asks line bytes item) (between c.head.new.self.kept (length c.kept-len.result.now)) (c.in_ok-item.ensures.item line head) in
    rw c.asked_of.ensures.item (last_item _ line item c.requires c.limits.ensures asked none asks)
