-- The rows that a session adds, and those that a later one does.
use Rattle.std.{proofs.Common.{◌≡◌, ℕ, pos, false, List, [], ◌∷◌, refl}, specs.Prelude.codes, specs.Fmt.digits}
use Rattle.std.specs.FinSet as set
use Rattle.history_model.specs.declared.entries.{Author.Author, Entry.Entry, Placed.Placed}
use Rattle.history_model.specs.declared.entries.Author.TheVariants as author
use Rattle.history_model.specs.declared.entries.Entry.TheVariants as entry
use Rattle.track_model.specs.Tracks.{Track}
use Rattle.keep_rows.specs.{Kept.kept_of, Rows.new_rows}

m : List ℕ
m = codes "m1"

by : Author → Entry → Placed
by who e = record { author = who; entry = e }

session : Track
session = record {
  machine = m;
  kept = false;
  history = by (author.Script 1) (entry.Commit 10 (codes "a")) ∷ by (author.Script 1) (entry.Tune (codes "B/op") (pos 50) 1) ∷ [];
  home = set.empty;
}

rows_are_added : new_rows 1 (session ∷ []) ≡ codes "format 2" ∷ codes "machine m1" ∷ codes "entry m1 commit 10 a" ∷ codes "entry m1 tune B/op 50 1" ∷ []
unfolding session m by digits
rows_are_added = refl

rows_stay : new_rows 1 (kept_of session ∷ []) ≡ []
unfolding session m by
rows_stay = refl
