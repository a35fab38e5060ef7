use Rattle.std.{proofs.Common.{◌+◌, [], arith, ap, sym, subst, ◌∙◌}, specs.Char.encode_utf8, proofs.lemmas.Str.{IsCharBoundary-after_ascii, encode_ascii}}
use Rattle.json_text.specs.{declared.state.Within.TheVariants.{Plain, AfterBackslash}, Machine.moves, Reached.ReadsContent}
use Rattle.json_text.proofs.Reach.{content_begins, content_moves, content_adds, content_spells}
use Rattle.json_text.proofs.token.read_escape.Goals as goal

pub loop-place-init : goal.loop-place-init
loop-place-init c =
    let bytes = c.args.bytes.now in
    let here = c.args.place.now in
    record {
      low = omega arith;
      high = omega arith;
      sound = tt;
      escape = tt;
      reads = content_moves bytes here here Plain Plain AfterBackslash [] (content_begins bytes here Plain) c.requires.some (ap (λ b. moves b Plain) c.requires.backslash);
    }

pub returns-in-Adds-clause-reads : goal.returns-in-Adds-clause-reads
returns-in-Adds-clause-reads c =
    let bytes = c.args.bytes.now in
    let here = c.loop-place in
    let short = c.loop-place-test.true in
    subst (ReadsContent bytes c.args.place.now (here.place + 1) Plain Plain) (sym (ap encode_utf8 c.from.ensures ∙ encode_ascii c.in-Adds.meant c.in-Adds.ensures.sound.1))
    (content_adds bytes c.args.place.now here.place Plain here.within [] c.in-Adds.meant here.invariant.reads short (sym c.in-Adds.ensures.same))

pub returns-in-Adds-clause-boundary : goal.returns-in-Adds-clause-boundary
returns-in-Adds-clause-boundary c = λ utf8. IsCharBoundary-after_ascii c.args.bytes.now c.loop-place.place utf8 c.loop-place-test.true c.in-Adds.ensures.sound.0

pub returns-in-Spells-clause-reads : goal.returns-in-Spells-clause-reads
returns-in-Spells-clause-reads c =
    let here = c.loop-place in
    content_spells c.args.bytes.now c.args.place.now here.place Plain here.within [] c.in-Spells.character here.invariant.reads c.loop-place-test.true (sym c.in-Spells.ensures.same)

pub returns-in-Spells-clause-boundary : goal.returns-in-Spells-clause-boundary
returns-in-Spells-clause-boundary c = λ utf8. IsCharBoundary-after_ascii c.args.bytes.now c.loop-place.place utf8 c.loop-place-test.true c.in-Spells.ensures.sound.0

pub loop-place-preserved : goal.loop-place-preserved
loop-place-preserved c =
    let here = c.loop-place in
    record {
      low = omega arith;
      high = omega arith;
      sound = c.in-Goes.ensures.sound.1;
      escape = c.in-Goes.ensures.sound.2;
      reads = content_moves c.args.bytes.now c.args.place.now here.place Plain here.within c.in-Goes.next [] here.invariant.reads c.loop-place-test.true (sym c.in-Goes.ensures.same);
    }
