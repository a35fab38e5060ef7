-- No public contract cites this. What is known of the best cut lists of some points at all penalties.
use Rattle.std.specs.Prelude.{◌≡◌, ℕ, ℤ, ◌≤◌, List, length, ◌≤ℤ◌}
use Rattle.segment_model.specs.Segments.{Position}
use Rattle.segment_cost.specs.{Certificate.StandsFor, declared.cert.Cert.Cert}
use Rattle.penalty_path.specs.{Paths.AreBest, Crossing.total_at}

-- the laws of best cut lists, for these points
pub record Known (points : List Position) : Type 0 where
  pub unique : (b : ℤ) (one other : List ℕ) → AreBest points b one → AreBest points b other → one ≡ other
  pub fall : (b c : ℤ) (cuts others : List ℕ) → AreBest points b cuts → AreBest points c others → b ≤ℤ c → length others ≤ length cuts
  pub count : (b c : ℤ) (cuts others : List ℕ) → AreBest points b cuts → AreBest points c others → length others ≡ length cuts → others ≡ cuts
  pub between : (b c d : ℤ) (cuts : List ℕ) → AreBest points b cuts → AreBest points c cuts → b ≤ℤ d → d ≤ℤ c → AreBest points d cuts
  pub certificate : (b : ℤ) (one other : Cert) → StandsFor points b 1 one → StandsFor points b 1 other → one ≡ other
  pub cheapest : (b : ℤ) (cert other : Cert) → StandsFor points cert.penalty 1 cert → StandsFor points other.penalty 1 other → AreBest points b cert.cuts → total_at cert b ≤ℤ total_at other b
