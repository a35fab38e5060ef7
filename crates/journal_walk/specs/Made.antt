-- No public contract cites this. The segmentation that a publication is of.
use Rattle.std.specs.Prelude.{◌≡◌, ◌-◌, List, length}
use Rattle.point_list.specs.Places.{common}
use Rattle.segment_cost.specs.Certificate.{StandsFor}
use Rattle.segment_model.specs.Segments.{Position}
use Rattle.history_model.specs.declared.{entries.Entry.Entry, publication.Publication.Publication}
use Rattle.publication_index.specs.Standing.{table_for}
use Rattle.track_step.specs.Redone.{Redone}
use Rattle.machine_state.specs.Made.{IsMadeFrom, publication_from}
use Rattle.journal_walk.specs.declared.version.Version.{Version}

-- the best segmentation of a publication's series as it was at its version, redone from these positions
pub record IsSegmented (p : Publication) (x : Version) (old : List Position) (made : Redone) : Type 0 where
  pub test : made.done.test ≡ p.test
  pub metric : made.done.metric ≡ p.metric
  pub version : made.done.version ≡ p.version
  pub base : made.done.base ≡ p.base
  pub redone : made.done.redone ≡ length x.points - common old x.points
  pub points : made.done.points ≡ x.points
  pub stands : StandsFor x.points x.setting.penalty x.setting.length made.done.cert
  pub tabled : made.table ≡ table_for made.done

-- the segmentation that a publication behind a history is of
pub record IsMadeFor (h : List Entry) (p : Publication) (made : Redone) : Type 0 where
  pub made_from : IsMadeFrom h made.done
  pub is : publication_from made.done ≡ p
  pub tabled : made.table ≡ table_for made.done
