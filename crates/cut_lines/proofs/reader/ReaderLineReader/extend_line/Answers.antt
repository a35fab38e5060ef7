use Rattle.std.proofs.{Common.{◌≡◌, ℕ, ◌-◌, ◌<◌, List, ◌++◌, length, drop, refl, sym, ◌∙◌, arith}, lemmas.List.take_rest, lemmas.Bool.false≢true}
use Rattle.line_pieces.specs.declared.stop.{Refusal.TheVariants.Bad, Stop.TheVariants.Refused}
use Rattle.cut_lines.{specs.HasRead.kept_by, proofs.PieceSteps.cause, proofs.ReaderSteps.{Extends, has_short, has_long, long_refused}}
use Rattle.cut_lines.proofs.reader.ReaderLineReader.extend_line.Goals.{After-deref}
use Rattle.cut_lines.proofs.reader.ReaderLineReader.extend_line.Goals as goal

-- the line is kept as far as there is room
extends : (c : After-deref) (behind : List ℕ) → behind ≡ drop (4_097 - c.len-room.result) c.args.part.now
    → Extends (kept_by c.args.self.now) c.args.part.now (4_097 - c.len-room.result) c.deref.result.now behind
extends c behind is = record {
  room_is = omega arith;
  fits = omega arith;
  kept = c.deref.ensures.value ∙ c.in_ok-extend_from_slice-2.ensures.items;
  behind_is = is;
}

pub returns-then-part-room-clause-ok : goal.returns-then-part-room-clause-ok
returns-then-part-room-clause-ok c read has =
    let few : length c.args.part.now < 4_097 - length c.args.self.now.line.items = omega arith in
    has_short read c.args.part.now (kept_by c.args.self.now) _ c.requires.part (record { most = refl; points = refl; whole = refl }) few
    c.in_ok-extend_from_slice.ensures.items has

pub returns-then-stays_skipped-clause-ok : goal.returns-then-stays_skipped-clause-ok
returns-then-stays_skipped-clause-ok c read has =
    has_long read c.args.part.now (kept_by c.args.self.now) (4_097 - c.len-room.result) c.deref.result.now _ c.requires.part
    (extends (goal.at.returns-then-stays_skipped-clause-ok c).After-deref _ (take_rest c.args.part.now (4_097 - c.len-room.result))) has
    _ (record { most = refl; points = refl; whole = refl }) (sym c.deref.ensures.value) (c.if-stays_skipped.ensures.yes refl)

pub returns-else-stays_skipped-clause-err : goal.returns-else-stays_skipped-clause-err
returns-else-stays_skipped-clause-err c read rest has few =
    cause c.args.self.now.most (read ++ c.args.part.now) rest (Refused Bad c.number.result) few
    (long_refused read c.args.part.now (kept_by c.args.self.now) (4_097 - c.len-room.result) c.deref.result.now _ c.requires.part
    (extends (goal.at.returns-else-stays_skipped-clause-err c).After-deref _ (take_rest c.args.part.now (4_097 - c.len-room.result))) has
    c.number.result c.number.ensures (c.if-stays_skipped.ensures.no false≢true))
