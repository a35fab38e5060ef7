use Rattle.std.{proofs.Common.{◌≡◌, ◌+◌, inl, inr, true, false, [], ◌++◌, refl, ap, sym, ◌∙◌}, specs.Prelude.IfSome, proofs.lemmas.Result.err_from_is_err_and}
use Rattle.track_outside.specs.Calls.{GaveAtMost}
use Rattle.request_reader.specs.{Scripts.{AsksFirst, input_limit}, Next.items_of}
use Rattle.script_loop.specs.{Outputs.IsOutput, Turns.Gathers}
use Rattle.script_loop.proofs.Answering.{output_none, output_join, gathers_none, gathers_more, gathers_on, failed_on, stands_read, written_read}
use Rattle.script_loop.proofs.Each.{one_item, splits-all, splits-last, lost-answers, pending-of, pending-failed}
use Rattle.script_loop.proofs.Sources.{taken_none, taken_next, asks_none, asks_these, asks_more, ends_here, nothing_left, stops, few_stop, few_next}
use Rattle.script_loop.proofs.script.answer_all.{Given.Over, Goals.{In_ok-asked, In-Ok-answer_next}}
use Rattle.script_loop.proofs.script.answer_all.Goals as goal

module _ (g : Over) (c : In_ok-asked g) where
  -- the source gave no more than may be read, and one byte
  few : GaveAtMost (input_limit + 1) (g.I.Source.left c.args.input.now) (g.I.Source.left c.read_request.new.source)
  few =
      let inv = c.loop-lines.invariant in
      few_next g.I.Source c.args.input.now c.loop-lines.input c.read_request.new.source c.loop-lines.lines c.read_request.new.lines inv.items inv.taken c.in_ok-asked.ensures.gave

  -- what was read is asked first
  asks : IfSome (g.I.Source.left c.args.input.now) (λ bytes. AsksFirst bytes (c.loop-lines.invariant.items ++ items_of c.in_ok-asked.asked))
  asks =
      let inv = c.loop-lines.invariant in
      asks_more g.I.Source c.args.input.now c.loop-lines.input c.read_request.new.source c.loop-lines.lines c.read_request.new.lines inv.items inv.taken c.pieces_law.ensures.first c.pieces_law.ensures.join c.in_ok-asked.asked
      (c.in_ok-asked.ensures.next inv.more) c.in_ok-asked.ensures.gave c.in_ok-asked.ensures.counts

module _ (g : Over) (c : In-Ok-answer_next g) where
  -- it is answered behind what was read before
  output : IsOutput g.D.Desk.answers c.args.desk.now (c.loop-lines.invariant.items ++ items_of c.in_ok-asked.asked) (c.loop-lines.invariant.text ++ c.in-Ok-answer_next.ensures.ok.text) c.answer_next.new.desk
  output =
      let inv = c.loop-lines.invariant in
      let told = c.in-Ok-answer_next.ensures.ok in
      output_join g.D.Desk.answers c.args.desk.now c.loop-lines.desk c.answer_next.new.desk inv.items (items_of c.in_ok-asked.asked) inv.text told.text inv.output told.output

  -- and its text is gathered
  wrote : Gathers g.O.Sink c.args.out.now c.loop-lines.out (c.loop-lines.invariant.text ++ c.in-Ok-answer_next.ensures.ok.text) c.answer_next.new.replies
  wrote =
      let inv = c.loop-lines.invariant in
      let told = c.in-Ok-answer_next.ensures.ok in
      gathers_more g.O.Sink c.args.out.now c.loop-lines.out inv.text c.loop-lines.replies told.text c.answer_next.new.replies inv.wrote told.gathered

pub returns-in_default-clause-ends : goal.returns-in_default-clause-ends
returns-in_default-clause-ends g c = record {
  items = [];
  text = [];
  read = asks_none g.I.Source c.args.input.now;
  asks = asks_none g.I.Source c.args.input.now;
  after = c.args.desk.now;
  output = output_none g.D.Desk.answers c.args.desk.now;
  stands = inl refl;
  wrote = ([], [], refl, gathers_none g.O.Sink c.args.out.now c.args.replies.now c.requires.none);
  by_each = λ is. splits-all g.O.Sink g.D.Desk.answers c.args.out.now c.args.out.now c.args.desk.now [] [] c.args.desk.now c.args.replies.now (output_none g.D.Desk.answers c.args.desk.now)
      (gathers_none g.O.Sink c.args.out.now c.args.replies.now c.requires.none) c.requires.none;
}

pub loop-lines-init : goal.loop-lines-init
loop-lines-init g c = record {
  items = [];
  text = [];
  taken = taken_none g.I.Source c.args.input.now c.in-Ok.lines c.in-Ok.ensures;
  output = output_none g.D.Desk.answers c.args.desk.now;
  wrote = gathers_none g.O.Sink c.args.out.now c.args.replies.now c.requires.none;
  goes_on = ap (λ l. l.stopped) c.in-Ok.ensures;
  more = ap (λ l. l.ended) c.in-Ok.ensures;
  handed = λ is. c.requires.none;
  named = refl;
}

pub returns-in_err-asked-clause-ends : goal.returns-in_err-asked-clause-ends
returns-in_err-asked-clause-ends g c =
    let p = err_from_is_err_and c.from_residual.result c.from_residual.ensures.1 in
    let inv = c.loop-lines.invariant in
    let why = c.in_err-asked.field-0.0 in
    rw (p.1, p.2) (record {
      items = inv.items;
      text = inv.text;
      read = stops g.I.Source c.args.input.now c.loop-lines.input c.read_request.new.source c.loop-lines.lines c.loop-lines.lines inv.items inv.taken c.pieces_law.ensures.first why c.in_err-asked.ensures.counts c.in_err-asked.ensures.stops;
      asks = asks_these g.I.Source c.args.input.now c.loop-lines.input c.loop-lines.input c.loop-lines.lines c.loop-lines.lines inv.items inv.taken;
      after = c.loop-lines.desk;
      output = inv.output;
      stands = stands_read g.O.Sink g.D.Desk.fails why c.loop-lines.desk;
      wrote = written_read g.O.Sink why c.args.out.now c.loop-lines.out inv.text c.loop-lines.replies inv.wrote;
      by_each = λ is. splits-all g.O.Sink g.D.Desk.answers c.args.out.now c.loop-lines.out c.args.desk.now inv.items inv.text c.loop-lines.desk c.loop-lines.replies inv.output inv.wrote (inv.handed is);
    })

pub returns-in_err-asked-clause-few : goal.returns-in_err-asked-clause-few
returns-in_err-asked-clause-few g c =
    let inv = c.loop-lines.invariant in
    few_stop g.I.Source c.args.input.now c.loop-lines.input c.read_request.new.source c.loop-lines.lines c.loop-lines.lines inv.items inv.taken c.in_err-asked.ensures.gave

pub returns-in_default-answer_next-clause-ends : goal.returns-in_default-answer_next-clause-ends
returns-in_default-answer_next-clause-ends g c =
    let inv = c.loop-lines.invariant in
    let asked = c.in_ok-asked.asked in
    lost-answers g.I.Source g.O.Sink c.args.input.now c.read_request.new.source c.args.out.now c.loop-lines.out g.D.Desk.answers g.D.Desk.fails g.P.Pace.each c.args.desk.now c.loop-lines.desk c.answer_next.new.desk
    c.loop-lines.replies c.answer_next.new.replies inv.items inv.text asked inv.output inv.wrote inv.handed c.in_default-answer_next.ensures.err
    (asks_these g.I.Source c.args.input.now c.loop-lines.input c.loop-lines.input c.loop-lines.lines c.loop-lines.lines inv.items inv.taken)
    (asks g (goal.at.returns-in_default-answer_next-clause-ends g c).In_ok-asked)
    c.in_default-answer_next.ensures.lost

pub returns-in_default-answer_next-clause-few : goal.returns-in_default-answer_next-clause-few
returns-in_default-answer_next-clause-few g c = few g (goal.at.returns-in_default-answer_next-clause-few g c).In_ok-asked

pub returns-then-has_ended-clause-ends : goal.returns-then-has_ended-clause-ends
returns-then-has_ended-clause-ends g c =
    let inv = c.loop-lines.invariant in
    let asked = c.in_ok-asked.asked in
    let told = c.in-Ok-answer_next.ensures.ok in
    let ended : c.read_request.new.lines.ended ≡ true = sym c.has_ended.ensures ∙ c.if-has_ended.true in
    record {
      items = inv.items ++ items_of asked;
      text = inv.text ++ told.text;
      read = (
        ends_here g.I.Source c.args.input.now c.loop-lines.input c.read_request.new.source c.loop-lines.lines c.read_request.new.lines inv.items inv.taken c.pieces_law.ensures.first asked
            (c.in_ok-asked.ensures.next inv.more) c.in_ok-asked.ensures.gave ended,
        nothing_left g.I.Source c.args.input.now c.loop-lines.input c.read_request.new.source c.loop-lines.lines c.read_request.new.lines inv.items inv.taken asked
            (c.in_ok-asked.ensures.next inv.more) c.in_ok-asked.ensures.gave ended,
      );
      asks = asks g (goal.at.returns-then-has_ended-clause-ends g c).In_ok-asked;
      after = c.answer_next.new.desk;
      output = output g (goal.at.returns-then-has_ended-clause-ends g c).In-Ok-answer_next;
      stands = refl;
      wrote = wrote g (goal.at.returns-then-has_ended-clause-ends g c).In-Ok-answer_next;
      by_each = λ is. splits-last g.O.Sink g.D.Desk.answers c.args.out.now c.loop-lines.out c.args.desk.now c.loop-lines.desk c.answer_next.new.desk inv.items (items_of asked) inv.text told.text c.answer_next.new.replies
          inv.output told.output (one_item asked) (inl (pending-of g.O.Sink c.args.out.now c.loop-lines.out inv.text told.text c.loop-lines.replies c.answer_next.new.replies inv.wrote (inv.handed is) told.gathered));
    }

pub returns-then-has_ended-clause-few : goal.returns-then-has_ended-clause-few
returns-then-has_ended-clause-few g c = few g (goal.at.returns-then-has_ended-clause-few g c).In_ok-asked

pub returns-in_err-hand_out_in_time-clause-ends : goal.returns-in_err-hand_out_in_time-clause-ends
returns-in_err-hand_out_in_time-clause-ends g c =
    let p = err_from_is_err_and c.from_residual-in_err-hand_out_in_time.result c.from_residual-in_err-hand_out_in_time.ensures.1 in
    let inv = c.loop-lines.invariant in
    let asked = c.in_ok-asked.asked in
    let told = c.in-Ok-answer_next.ensures.ok in
    let fails = c.in_err-hand_out_in_time.ensures.err in
    let at = goal.at.returns-in_err-hand_out_in_time-clause-ends g c in
    rw (p.1, p.2, fails.is) (record {
      items = inv.items ++ items_of asked;
      text = inv.text ++ told.text;
      read = asks g at.In_ok-asked;
      asks = asks g at.In_ok-asked;
      after = c.answer_next.new.desk;
      output = output g at.In-Ok-answer_next;
      stands = refl;
      by_each = λ is. splits-last g.O.Sink g.D.Desk.answers c.args.out.now c.hand_out_in_time.new.out c.args.desk.now c.loop-lines.desk c.answer_next.new.desk inv.items (items_of asked) inv.text told.text c.hand_out_in_time.new.replies
          inv.output told.output (one_item asked) (inr (pending-failed g.O.Sink c.args.out.now c.loop-lines.out c.hand_out_in_time.new.out inv.text told.text c.loop-lines.replies c.answer_next.new.replies c.hand_out_in_time.new.replies
          inv.wrote (inv.handed is) told.gathered fails.failed c.in_err-hand_out_in_time.ensures.failed));
      wrote = failed_on g.O.Sink c.args.out.now c.loop-lines.out c.hand_out_in_time.new.out (inv.text ++ told.text) c.answer_next.new.replies
          (wrote g at.In-Ok-answer_next) fails.failed;
    })

pub returns-in_err-hand_out_in_time-clause-few : goal.returns-in_err-hand_out_in_time-clause-few
returns-in_err-hand_out_in_time-clause-few g c = few g (goal.at.returns-in_err-hand_out_in_time-clause-few g c).In_ok-asked

pub loop-lines-preserved : goal.loop-lines-preserved
loop-lines-preserved g c =
    let inv = c.loop-lines.invariant in
    let asked = c.in_ok-asked.asked in
    let told = c.in-Ok-answer_next.ensures.ok in
    let goes : c.read_request.new.lines.ended ≡ false = sym c.has_ended.ensures ∙ c.if-has_ended.false in
    record {
      items = inv.items ++ items_of asked;
      text = inv.text ++ told.text;
      taken = taken_next g.I.Source c.args.input.now c.loop-lines.input c.read_request.new.source c.loop-lines.lines c.read_request.new.lines inv.items inv.taken c.pieces_law.ensures.join asked
          (c.in_ok-asked.ensures.next inv.more) c.in_ok-asked.ensures.gave c.in_ok-asked.ensures.counts goes;
      output = output g (goal.at.loop-lines-preserved g c).In-Ok-answer_next;
      wrote = gathers_on g.O.Sink c.args.out.now c.loop-lines.out c.hand_out_in_time.new.out (inv.text ++ told.text) c.answer_next.new.replies
          (wrote g (goal.at.loop-lines-preserved g c).In-Ok-answer_next)
          c.hand_out_in_time.new.replies c.in_ok-hand_out_in_time.ensures.ok;
      goes_on = c.in_ok-asked.ensures.stopped;
      more = goes;
      handed = c.in_ok-hand_out_in_time.ensures.each;
      named = c.hand_out_in_time.ensures.named ∙ inv.named;
    }
