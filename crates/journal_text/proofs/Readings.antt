-- Private: no public contract cites this. Machines and their journals have one text.
use Rattle.std.{proofs.Common.{◌≡◌, ℕ, List, [], ◌∷◌, ◌++◌, map, refl, sym, ap, ◌∙◌}, specs.List.AllByRecursion}
use Rattle.journal_lines.specs.{Laws.OneText, Lines.HasLines as HasJournalLines, Texts.{Journal, texts_of}}
use Rattle.track_model.specs.Tracks.{Track}
use Rattle.journal_text.specs.{Journals.{journal_text, journals_text}, Reading.{HasLines, HasOneReading, journal_of}}

same-text : (tracks : List Track) → texts_of (map journal_of tracks) ≡ journals_text tracks
same-text [] = refl
same-text (t ∷ tracks) = ap (λ (l : List ℕ). journal_text t ++ l) (same-text tracks)

have-lines : (tracks : List Track) → AllByRecursion HasLines tracks → AllByRecursion HasJournalLines (map journal_of tracks)
have-lines [] all = tt
have-lines (t ∷ tracks) all = (all.0, have-lines tracks all.1)

pub one-reading : OneText → HasOneReading
one-reading law tracks others a b same =
    law (map journal_of tracks) (map journal_of others) (have-lines tracks a) (have-lines others b) (same-text tracks ∙ same ∙ sym (same-text others))
