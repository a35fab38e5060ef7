-- What was read of a script, call by call, and how it ends.
use Rattle.std.proofs.Common.{◌≡◌, ℕ, ◌+◌, ◌-◌, ◌<◌, ◌≤◌, inl, inr, Bool, true, false, List, [], ◌++◌, length, take, Some, refl, sym, ap, subst, ◌∙◌, arith, append_assoc, append-nil, length-append}
use Rattle.std.proofs.Math.Seq.{take-append-add}
use Rattle.request_words.specs.Bodies.{Item}
use Rattle.request_reader.specs.{Scripts.{Ending, Reads, ReadsLeft, IsScript, input_limit, unfinished}, Next.TakesWhole, Reading.{PiecesComeFirst, PiecesJoin}}
use Rattle.script_loop.specs.{Outputs.AsksFirst, Endings.GaveOpen}

-- ---- bytes that are known

module _ (bytes between : List ℕ) (items : List Item) (at : ℕ) (whole : TakesWhole 0 bytes items at between) where
  pub whole_join : PiecesJoin → (more : List Item) (behind : ℕ) (rest : List ℕ) → TakesWhole at between more behind rest → TakesWhole 0 bytes (items ++ more) behind rest
  whole_join join more behind rest next = record {
    used = whole.used ++ next.used;
    split = whole.split ∙ ap (λ bs. whole.used ++ bs) next.split ∙ sym (append_assoc whole.used next.used rest);
    place = omega (arith, whole.place, next.place, length-append whole.used next.used);
    pieces = join whole.used next.used items more whole.pieces next.pieces;
  }

  pub whole_asks : at ≤ input_limit → AsksFirst bytes items
  whole_asks within = inl (whole.used, between, whole.split, omega (arith, whole.place, within), whole.pieces)

  size : length bytes ≡ length whole.used + length between
  size = ap length whole.split ∙ length-append whole.used between

  -- how the bytes behind are read is how all are
  reads : PiecesComeFirst → (all : Bool) (rest : List ℕ) (more : List Item) (ending : Ending) → Reads all at rest more ending → Reads all 0 (whole.used ++ rest) (items ++ more) ending
  reads first all rest more ending told =
      let place : at ≡ 0 + length whole.used = whole.place in
      first all 0 whole.used rest items more ending whole.pieces (subst (λ k. Reads all k rest more ending) place told)

  pub script_ends : PiecesComeFirst → (more : List Item) (ending : Ending) → at + length between ≤ input_limit → Reads true at between more ending → IsScript bytes (items ++ more) ending
  script_ends first more ending short told =
      inl (omega (arith, size, short, whole.place), subst (λ bs. Reads true 0 bs (items ++ more) ending) (sym whole.split) (reads first true between more ending told))

  pub script_past : PiecesComeFirst → (more : List Item) (ending : Ending) → at ≤ input_limit → input_limit < at + length between → Reads false at (take (input_limit - at) between) more ending
      → IsScript bytes (items ++ more) ending
  script_past first more ending within long told =
      let room : input_limit ≡ length whole.used + (input_limit - at) = omega (arith, within, whole.place) in
      let front : whole.used ++ take (input_limit - at) between ≡ take input_limit bytes =
      sym (take-append-add whole.used between (input_limit - at)) ∙ ap (λ n. take n (whole.used ++ between)) (sym room) ∙ ap (take input_limit) (sym whole.split) in
      inr (omega (arith, size, long, whole.place), subst (λ bs. Reads false 0 bs (items ++ more) ending) front (reads first false (take (input_limit - at) between) more ending told))

  pub script_left : PiecesComeFirst → (more : List Item) (ending : Ending) → at ≤ input_limit → ReadsLeft at between more ending → IsScript bytes (items ++ more) ending
  script_left first more ending within (inl short) = script_ends first more ending short.0 short.1
  script_left first more ending within (inr long) = script_past first more ending within long.0 long.1

  -- nothing more is asked
  pub script_stops : PiecesComeFirst → (ending : Ending) → at ≤ input_limit → ReadsLeft at between [] ending → IsScript bytes items ending
  script_stops first ending within told = subst (λ xs. IsScript bytes xs ending) (append-nil items) (script_left first [] ending within told)

  pub gave_open : PiecesComeFirst → (kept given rest : List ℕ) → between ≡ kept ++ (given ++ rest) → at + length (kept ++ given) ≤ input_limit
      → Reads false at (kept ++ given) [] unfinished → GaveOpen bytes (Some rest) items
  gave_open first kept given rest is within told = record {
    given = whole.used ++ (kept ++ given);
    rest = rest;
    gave = whole.split ∙ ap (λ bs. whole.used ++ bs) (is ∙ sym (append_assoc kept given rest)) ∙ sym (append_assoc whole.used (kept ++ given) rest);
    left = refl;
    within = omega (arith, within, whole.place, length-append whole.used (kept ++ given));
    reads = subst (λ xs. Reads false 0 (whole.used ++ (kept ++ given)) xs unfinished) (append-nil items) (reads first false (kept ++ given) [] unfinished told);
  }
