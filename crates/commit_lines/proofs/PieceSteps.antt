-- What the pieces of an input show, which a reader took.
use Rattle.std.proofs.{Common.{ℕ, ◌-◌, ◌^◌, ◌≤◌, inl, List, ◌++◌, length, take, IfSome, sym, subst, arith}, lemmas.Grind.common_steps}
use Rattle.track_outside.specs.declared.source.Source.{Ghosts}
use Rattle.line_text.specs.Lines.{lines_of}
use Rattle.commit_lines.specs.{declared.reader.Reader.Reader, Reading.{AreAccepted, AreNamesOf, FrontRefuses}, Stops.rules}
use Rattle.line_pieces.specs.{declared.stop.Stop.Stop, declared.stop.Stop.TheVariants.{Fault, TooLong, Refused, NoMemory}, Pieces.{HasCause, ReadsWhole}}
use Rattle.commit_lines.{specs.HasRead.{HasRead, ShowsRefused, EndsRefused}, specs.Pieces.reading, proofs.Fronts.shows_more}
use Rattle.line_pieces.proofs.Fronts.{within-append}

-- a line that the first bytes refuse, they all refuse
pub cause : (given rest : List ℕ) (stop : Stop) → length given ≤ 2 ^ 30 → ShowsRefused given stop → HasCause rules (given ++ rest) stop
cause given rest (Refused why k) short shown =
    inl (subst (λ bytes. FrontRefuses why bytes k) (sym (within-append given rest short)) (shows_more given (take (2 ^ 30 - length given) rest) (Refused why k) shown))
cause given rest NoMemory short shown = tt
cause given rest Fault short shown = shown
cause given rest TooLong short shown = absurd shown

-- the bytes are all, and the last line is refused
pub end_cause : (bytes : List ℕ) (stop : Stop) → length bytes ≤ 2 ^ 30 → EndsRefused bytes stop → HasCause rules bytes stop
end_cause bytes stop short told = grind (arith, common_steps)

-- the names of all bytes that the input gave
pub end_names : {I : Type 0} (g : Ghosts I) (first now : I) (reader : Reader) (names : List (List ℕ)) → ReadsWhole g reading first now reader
    → ((read : List ℕ) → HasRead read reader → AreAccepted (lines_of read) names) → IfSome (g.left first) (λ bytes. AreNamesOf bytes names)
end_names g first now reader names all told = grind (arith, common_steps)
