-- What the pieces of an input show, which a reader took.
use Rattle.std.proofs.Common.{◌≡◌, ℕ, ◌-◌, ◌^◌, ◌≤◌, List, ◌++◌, length, take, IfSome, sym, ap, subst, ◌∙◌, arith, append-nil, append_assoc}
use Rattle.std.proofs.lemmas.List.{take_all}
use Rattle.segment_model.specs.Segments.{Position}
use Rattle.track_outside.specs.declared.source.Source.{Ghosts}
use Rattle.line_text.specs.Lines.{lines_of}
use Rattle.cut_lines.specs.{declared.reader.Reader.Reader, Reading.{ArePointsWithin, IsFirstRefusedWithin}, Stops.rules}
use Rattle.line_pieces.specs.{declared.stop.Stop.Stop, declared.stop.Stop.TheVariants.{Fault, TooLong, Refused, NoMemory}, Stops.within_limit}
use Rattle.cut_lines.specs.{HasRead.{HasRead, AreLinesPoints, ShowsRefused, EndsRefused}, Pieces.reading}
use Rattle.line_pieces.{specs.Pieces.{HasCause, ReadsWhole}, proofs.Fronts.within-append, proofs.Given.whole_shows}

-- a line that the first bytes refuse, they all refuse
pub cause : (most : ℕ) (given rest : List ℕ) (stop : Stop) → length given ≤ 2 ^ 30 → ShowsRefused most given stop → HasCause (rules most) (given ++ rest) stop
cause most given rest (Refused why k) short shown = λ more none.
    subst (λ bytes. IsFirstRefusedWithin most why (lines_of bytes) k)
    (sym (append_assoc given (take (2 ^ 30 - length given) rest) more) ∙ ap (λ bytes. bytes ++ more) (sym (within-append given rest short)))
    (shown (take (2 ^ 30 - length given) rest ++ more))
cause most given rest NoMemory short shown = tt
cause most given rest Fault short shown = shown
cause most given rest TooLong short shown = absurd shown

-- the bytes are all, and the last line is refused
pub end_cause : (most : ℕ) (bytes : List ℕ) (stop : Stop) → length bytes ≤ 2 ^ 30 → EndsRefused most bytes stop → HasCause (rules most) bytes stop
end_cause most bytes (Refused why k) short told = λ more none.
    let whole : within_limit bytes ++ more ≡ bytes = ap (λ bs. within_limit bytes ++ bs) (none short) ∙ append-nil (within_limit bytes) ∙ take_all (2 ^ 30) bytes short in
    subst (λ bs. IsFirstRefusedWithin most why (lines_of bs) k) (sym whole) told
end_cause most bytes NoMemory short told = tt
end_cause most bytes Fault short told = told
end_cause most bytes TooLong short told = absurd told

-- the points of all bytes that the input gave
pub end_points : {I : Type 0} (g : Ghosts I) (first now : I) (reader : Reader) (points : List Position) → ReadsWhole g reading first now reader
    → ((read : List ℕ) → HasRead read reader → AreLinesPoints reader.most read points) → IfSome (g.left first) (λ bytes. ArePointsWithin reader.most bytes points)
end_points g first now reader points all told =
    let are = told all.gave.read all.gave.has in
    whole_shows g reading (λ bytes. ArePointsWithin reader.most bytes points) first now reader all.allowed all.gave all.whole (are.0, record { short = omega (arith, all.gave.short); accepted = are.1 }, are.2)
