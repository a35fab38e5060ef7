-- Which text answers `cut`, what `apply` begins with, and what its machines publish and bisect.
use Rattle.std.specs.Prelude.{◌≡◌, ℕ, List, [], All, Option, Bool, true, false, pos}
use Rattle.segment_model.specs.Segments.{Position}
use Rattle.segment_cost.specs.{declared.cert.Cert.Cert, Certificate.StandsFor}
use Rattle.absolute_cut.specs.Certificate.{StandsFor as StandsByDistances}
use Rattle.command_words.specs.declared.command.CutPlan.{CutPlan}
use Rattle.cut_lines.specs.Reading.{ArePointsOfInput}
use Rattle.cost_certificate.specs.Text.{text_of}
use Rattle.history_model.specs.declared.entries.Author.TheVariants as author
use Rattle.history_model.specs.{Entries.entries_of, Followed.AllFinishWell, Publications.{publications, Stands}}
use Rattle.track_model.specs.Tracks.{Track}
use Rattle.trial_script.specs.Sessions.{State}

-- the certificate stands for the points, by squares or by distances
abbrev pub StandsBy : Bool → List Position → ℕ → ℕ → Cert → Type 0
StandsBy true points penalty least cert = StandsByDistances points (pos penalty) least cert
StandsBy false points penalty least cert = StandsFor points (pos penalty) least cert

-- the text of the best segmentation of these points at the penalty, with this least length, by what
-- is asked for
pub record IsTextOf (points : List Position) (cut : CutPlan) (text : List ℕ) : Type 0 where
  pub cert : Cert
  pub stands : StandsBy cut.absolute points cut.penalty cut.least cert
  pub spelled : text ≡ text_of cert

-- the text of the best segmentation of the input's points, which are known where the input tells
-- its bytes
abbrev pub IsCertificateText : CutPlan → Option (List ℕ) → List ℕ → Type 0
IsCertificateText cut input text =
    (points : List Position) × ArePointsOfInput input points × IsTextOf points cut text

-- the session of the one script, on these machines
abbrev pub state_of : List Track → State
state_of tracks = record { author = author.Script 1; tracks = tracks }

-- that session before the first machine is declared
abbrev pub new_state : State
new_state = state_of []

-- each published segmentation of a machine names a version of its history, and is the best of
-- exactly that version's positions at its penalty
abbrev pub PublishesWell : Track → Type 0
PublishesWell t = All (Stands (entries_of t.history)) (publications (entries_of t.history))

abbrev pub AllPublishWell : State → Type 0
AllPublishWell state = All PublishesWell state.tracks

-- each finished bisection of a machine names neighbouring commits, the lower one stated or answered
-- good and the higher one bad, within its bound of questions
abbrev pub BisectsWell : Track → Type 0
BisectsWell t = AllFinishWell (entries_of t.history)

abbrev pub AllBisectWell : State → Type 0
AllBisectWell state = All BisectsWell state.tracks
