use Rattle.std.{proofs.Common.{refl, ℕ, ◌<◌, ◌≤◌, get_or, List, length, drop, sym, subst, ap, ◌∙◌, arith}, specs.Str.{chars, IsUtf8}}
use Rattle.std.{proofs.lemmas.Str.IsCharBoundary-from_drop, specs.Char.is_whitespace, proofs.lemmas.Grind.common_steps}
use Rattle.go_bench_text.{specs.Parts.{is_stopped, IsBlackByte, IsWhiteByte}, proofs.Passed.{Passed, passed_ascii, passed_more, passed_seam, Halves, ascii_halves, ascii_stopped}}
use Rattle.go_bench_text.proofs.fields.split_black.Goals as goal
use Rattle.go_bench_text.proofs.fields.split_black.Goals.{After-front_count-end, After-split_at}

-- the graphic characters lie within the text
within : (c : After-front_count-end) → c.front_count-end.result ≤ length c.args.text.now
within c = subst (λ (bytes : List ℕ). c.front_count-end.result ≤ length bytes) c.as_bytes.ensures.value c.front_count-end.ensures.within

black : (c : After-front_count-end) (k : ℕ) → k < c.front_count-end.result → IsBlackByte (get_or c.args.text.now k 0)
black c = subst (λ (bytes : List ℕ). (k : ℕ) → k < c.front_count-end.result → IsBlackByte (get_or bytes k 0)) c.as_bytes.ensures.value (λ k less. c.front_count-end.ensures.each k less refl)

begun : (c : After-front_count-end) → Passed c.args.text.now (drop c.front_count-end.result c.args.text.now)
begun c = passed_ascii c.args.text.now c.front_count-end.result c.utf8.text (within c) (black c)

-- the two parts of the text, cut at the first byte that is white space or no graphic character
halves : (c : After-split_at) → c.front_count-end.result ≤ length c.args.text.now → ((k : ℕ) → k < c.front_count-end.result → IsBlackByte (get_or c.args.text.now k 0))
    → Halves c.args.text.now c.split_at.result.0.now c.split_at.result.1.now (drop c.front_count-end.result c.args.text.now)
halves c within black = ascii_halves c.args.text.now c.split_at.result.0.now c.split_at.result.1.now c.front_count-end.result c.utf8.text within black c.split_at.ensures.front c.split_at.ensures.back

pub returns-then-stops_at-clause-black : goal.returns-then-stops_at-clause-black
returns-then-stops_at-clause-black c =
    let before = (goal.at.returns-then-stops_at-clause-black c).After-front_count-end in
    (halves c (within before) (black before)).black

pub returns-then-stops_at-clause-stopped : goal.returns-then-stops_at-clause-stopped
returns-then-stops_at-clause-stopped c =
    let before = (goal.at.returns-then-stops_at-clause-stopped c).After-front_count-end in
    let cut = halves c (within before) (black before) in
    let white : c.front_count-end.result < length c.args.text.now → IsWhiteByte (get_or c.args.text.now c.front_count-end.result 0) =
    subst (λ (bytes : List ℕ). c.front_count-end.result < length bytes → IsWhiteByte (get_or bytes c.front_count-end.result 0)) c.as_bytes-2.ensures.value (c.stops_at.ensures c.if-stops_at.true) in
    ap (λ (xs : List ℕ). is_stopped (chars xs)) cut.same ∙ ascii_stopped c.args.text.now c.front_count-end.result (subst IsUtf8 cut.same cut.more) white

pub range_from-rest-requires : goal.range_from-rest-requires
range_from-rest-requires c some =
    IsCharBoundary-from_drop c.args.text.now c.front_count-end.result (within (goal.at.range_from-rest-requires c).After-front_count-end) (begun (goal.at.range_from-rest-requires c).After-front_count-end).more

pub loop-c-init : goal.loop-c-init
loop-c-init c = subst (Passed c.args.text.now) (sym c.range_from-rest.ensures.value) (begun (goal.at.loop-c-init c).After-front_count-end)

pub split_at-requires-then-is_whitespace : goal.split_at-requires-then-is_whitespace
split_at-requires-then-is_whitespace c = passed_seam c.args.text.now c.loop-c.rest.now c.loop-c.invariant

pub loop-c-preserved : goal.loop-c-preserved
loop-c-preserved c = grind (arith, common_steps, is_whitespace, passed_more)
