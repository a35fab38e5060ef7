use Rattle.std.proofs.{Common.{◌≡◌, ℕ, ◌-◌, List, ◌++◌, length, take, drop, refl, subst, ◌∙◌, arith, length-append}, lemmas.List.{length-take, length-drop}}
use Rattle.std.proofs.lemmas.Result.{err_from_is_err_and}
use Rattle.line_pieces.{specs.Stops.StopsFor, proofs.Given.gave_none}
use Rattle.line_pieces.proofs.input.read_lines.Goals as goal

pub loop-buffer-init : goal.loop-buffer-init
loop-buffer-init g c =
    let count : length c.in_ok-buffer.buffer.items ≡ 65_536 = omega (arith, c.in_ok-buffer.ensures.len) in
    (gave_none g.I.Source g.R.LineReader.reading c.args.input.now c.args.reader.now c.requires.none c.requires.read, count, refl)

pub returns-in_err-count-clause-stop : goal.returns-in_err-count-clause-stop
returns-in_err-count-clause-stop g c =
    let p = err_from_is_err_and c.from_residual-in_err-count.result c.from_residual-in_err-count.ensures.1 in
    rw (p.1, p.2) (subst (λ m. StopsFor (g.R.LineReader.reading.rules m) g.I.Source c.args.input.now c.take_piece.new.input c.in_err-count.field-0.0) c.loop-buffer.invariant.2
    (c.in_err-count.ensures.err c.args.input.now c.loop-buffer.invariant.0))

pub returns-in_err-count-clause-few : goal.returns-in_err-count-clause-few
returns-in_err-count-clause-few g c = c.take_piece.ensures.few c.args.input.now c.loop-buffer.invariant.0

pub returns-then-count-eq0-clause-few : goal.returns-then-count-eq0-clause-few
returns-then-count-eq0-clause-few g c = c.take_piece.ensures.few c.args.input.now c.loop-buffer.invariant.0

pub returns-then-count-eq0-clause-ok : goal.returns-then-count-eq0-clause-ok
returns-then-count-eq0-clause-ok g c = record {
  allowed = c.loop-buffer.allowed - c.in_ok-count.count;
  gave = c.in_ok-count.ensures.ok.more c.args.input.now c.loop-buffer.invariant.0;
  whole = c.in_ok-count.ensures.ok.end c.if-count-eq0.true;
}

pub loop-buffer-preserved : goal.loop-buffer-preserved
loop-buffer-preserved g c =
    let new : List ℕ = c.take_piece.new.buffer in
    let back : List ℕ = drop (length new) c.loop-buffer.buffer.items in
    let same : length new ≡ length c.loop-buffer.buffer.items = omega (arith, c.take_piece.auto.buffer, c.deref_mut.ensures.len) in
    let all : length (take c.loop-buffer.buffer.len (new ++ back)) ≡ 65_536 = omega (arith, length-take c.loop-buffer.buffer.len (new ++ back), length-append new back, length-drop (length new) c.loop-buffer.buffer.items, c.loop-buffer.invariant.1) in
    (c.in_ok-count.ensures.ok.more c.args.input.now c.loop-buffer.invariant.0, all, c.take_piece.ensures.limit ∙ c.loop-buffer.invariant.2)
