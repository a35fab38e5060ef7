use Rattle.std.{proofs.Common.{◌≡◌, ◌+◌, ◌++◌, ◌<◌, ℕ, List, arith, rules, sym, subst, ap, ◌∙◌, get_or, length, slice_range}, specs.Prelude.string_bytes}
use Rattle.std.specs.Str.{IsCharBoundary}
use Rattle.json_text.specs.{declared.state.Within.TheVariants.Plain, Reached.{ReadsContent, ReadsText, StopsText}}
use Rattle.json_text.proofs.Reach.{plain_taken, escape_taken, other_stops, end_stops, text_read, stops_behind, handed_on}
use Rattle.json_text.proofs.token.read_escaped.Goals as goal

pub returns-then-end-bytes-clause-stops : goal.returns-then-end-bytes-clause-stops
returns-then-end-bytes-clause-stops c =
    let taken : ReadsContent c.args.text.now c.args.place.now c.run_end-end.result Plain Plain (string_bytes c.push_str.new.self) =
    plain_taken c.args.text.now c.as_bytes-bytes.result.now c.args.place.now c.loop-content.place c.run_end-end.result (string_bytes c.loop-content.content) (string_bytes c.push_str.new.self) c.as_bytes-bytes.ensures.value
    c.loop-content.invariant.reads c.run_end-end.ensures.within.0 c.run_end-end.ensures.within.1 c.run_end-end.ensures.run
    (c.in_ok-push_str.ensures.bytes ∙ ap (λ xs. string_bytes c.loop-content.content ++ xs) (c.range.ensures.value ∙ ap (λ (xs : List ℕ). slice_range xs c.loop-content.place c.run_end-end.result) c.as_str.ensures)) in
    end_stops c.args.text.now c.as_bytes-bytes.result.now c.args.place.now c.run_end-end.result (string_bytes c.push_str.new.self) c.as_bytes-bytes.ensures.value taken c.if-end-bytes.true

pub returns-in-34-clause-reads : goal.returns-in-34-clause-reads
returns-in-34-clause-reads c =
    let taken : ReadsContent c.args.text.now c.args.place.now c.run_end-end.result Plain Plain (string_bytes c.push_str.new.self) =
    plain_taken c.args.text.now c.as_bytes-bytes.result.now c.args.place.now c.loop-content.place c.run_end-end.result (string_bytes c.loop-content.content) (string_bytes c.push_str.new.self) c.as_bytes-bytes.ensures.value
    c.loop-content.invariant.reads c.run_end-end.ensures.within.0 c.run_end-end.ensures.within.1 c.run_end-end.ensures.run
    (c.in_ok-push_str.ensures.bytes ∙ ap (λ xs. string_bytes c.loop-content.content ++ xs) (c.range.ensures.value ∙ ap (λ (xs : List ℕ). slice_range xs c.loop-content.place c.run_end-end.result) c.as_str.ensures)) in
    let same = c.as_bytes-bytes.ensures.value in
    let size : length c.as_bytes-bytes.result.now ≡ length c.args.text.now = ap (λ (xs : List ℕ). length xs) same in
    let short : c.run_end-end.result < length c.args.text.now = omega (arith, size) in
    let quote : get_or c.args.text.now c.run_end-end.result 0 ≡ 34 = subst (λ (xs : List ℕ). get_or xs c.run_end-end.result 0 ≡ 34) same c.in-34.is in
    subst (ReadsText c.args.text.now c.args.place.now (c.run_end-end.result + 1)) (sym c.in_ok-from_string-in-34.ensures) (text_read c.args.text.now c.args.place.now c.run_end-end.result (string_bytes c.push_str.new.self) taken short quote)

pub returns-in_err-read_escape-in-92-clause-stops : goal.returns-in_err-read_escape-in-92-clause-stops
returns-in_err-read_escape-in-92-clause-stops c =
    let taken : ReadsContent c.args.text.now c.args.place.now c.run_end-end.result Plain Plain (string_bytes c.push_str.new.self) =
    plain_taken c.args.text.now c.as_bytes-bytes.result.now c.args.place.now c.loop-content.place c.run_end-end.result (string_bytes c.loop-content.content) (string_bytes c.push_str.new.self) c.as_bytes-bytes.ensures.value
    c.loop-content.invariant.reads c.run_end-end.ensures.within.0 c.run_end-end.ensures.within.1 c.run_end-end.ensures.run
    (c.in_ok-push_str.ensures.bytes ∙ ap (λ xs. string_bytes c.loop-content.content ++ xs) (c.range.ensures.value ∙ ap (λ (xs : List ℕ). slice_range xs c.loop-content.place c.run_end-end.result) c.as_str.ensures)) in
    let same = c.as_bytes-bytes.ensures.value in
    handed_on (λ stop. StopsText stop c.args.text.now c.args.place.now c.read_escape.new.place) _ _ c.from_residual-in_err-read_escape-in-92.ensures.1
    (stops_behind _ c.args.text.now c.args.place.now c.run_end-end.result c.read_escape.new.place (string_bytes c.push_str.new.self) taken
    (subst (λ (xs : List ℕ). StopsText c.in_err-read_escape-in-92.field-0.0 xs c.run_end-end.result c.read_escape.new.place) same c.in_err-read_escape-in-92.ensures.stops))

pub loop-content-preserved : goal.loop-content-preserved
loop-content-preserved c =
    let taken : ReadsContent c.args.text.now c.args.place.now c.run_end-end.result Plain Plain (string_bytes c.push_str.new.self) =
    plain_taken c.args.text.now c.as_bytes-bytes.result.now c.args.place.now c.loop-content.place c.run_end-end.result (string_bytes c.loop-content.content) (string_bytes c.push_str.new.self) c.as_bytes-bytes.ensures.value
    c.loop-content.invariant.reads c.run_end-end.ensures.within.0 c.run_end-end.ensures.within.1 c.run_end-end.ensures.run
    (c.in_ok-push_str.ensures.bytes ∙ ap (λ xs. string_bytes c.loop-content.content ++ xs) (c.range.ensures.value ∙ ap (λ (xs : List ℕ). slice_range xs c.loop-content.place c.run_end-end.result) c.as_str.ensures)) in
    let same = c.as_bytes-bytes.ensures.value in
    record {
      low = omega (arith, c.loop-content.invariant.low, c.run_end-end.ensures.within.0, c.in_ok-read_escape-in-92.ensures.place.0);
      boundary = subst (λ (xs : List ℕ). IsCharBoundary xs c.read_escape.new.place) same (c.in_ok-read_escape-in-92.ensures.boundary c.as_bytes-bytes.ensures.utf8);
      reads = escape_taken c.args.text.now c.as_bytes-bytes.result.now c.args.place.now c.run_end-end.result c.read_escape.new.place c.in_ok-read_escape-in-92.field-0 (string_bytes c.push_str.new.self) (string_bytes c.push.new.self) same taken
          c.in_ok-read_escape-in-92.ensures.reads c.in_ok-push-in-92.ensures.bytes;
    }

pub returns-in_default-clause-stops : goal.returns-in_default-clause-stops
returns-in_default-clause-stops c =
    let taken : ReadsContent c.args.text.now c.args.place.now c.run_end-end.result Plain Plain (string_bytes c.push_str.new.self) =
    plain_taken c.args.text.now c.as_bytes-bytes.result.now c.args.place.now c.loop-content.place c.run_end-end.result (string_bytes c.loop-content.content) (string_bytes c.push_str.new.self) c.as_bytes-bytes.ensures.value
    c.loop-content.invariant.reads c.run_end-end.ensures.within.0 c.run_end-end.ensures.within.1 c.run_end-end.ensures.run
    (c.in_ok-push_str.ensures.bytes ∙ ap (λ xs. string_bytes c.loop-content.content ++ xs) (c.range.ensures.value ∙ ap (λ (xs : List ℕ). slice_range xs c.loop-content.place c.run_end-end.result) c.as_str.ensures)) in
    let short : c.run_end-end.result < length c.as_bytes-bytes.result.now = omega (arith, c.run_end-end.ensures.within.1, c.if-end-bytes.false) in
    other_stops c.args.text.now c.as_bytes-bytes.result.now c.args.place.now c.run_end-end.result (string_bytes c.push_str.new.self) c.as_bytes-bytes.ensures.value taken (c.run_end-end.ensures.stops short) (search rules) (search rules)
