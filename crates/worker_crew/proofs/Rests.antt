-- Private: no public contract cites this. Machines that are bisected one after another, where memory is wanting.
use Rattle.std.{proofs.Common.{ℕ, List, [], ◌∷◌, refl, sym, Option, append-nil, arith}, proofs.lemmas.List.Elements.All-nil, specs.List.AllZip}
use Rattle.track_outside.specs.Asked.{Ask}
use Rattle.history_model.specs.declared.entries.Author.{Author}
use Rattle.history_model.specs.declared.entries.Author.TheVariants as author
use Rattle.track_model.specs.Tracks.{Track}
use Rattle.recompute_workers.specs.Recomputing.{AddsPublications, IsPublicationBy}
use Rattle.bisect_workers.specs.Bisecting.{IsBisected, IsDue, IsSaidBy}
use Rattle.worker_crew.{specs.Runs.{BisectsEach, Tally}, proofs.Late.told-none}

-- nothing was asked of a machine, and nothing said
bisected-none : (w : Author) (word : List ℕ) (t : Track) (asked : Option (List Ask)) (faults : ℕ) → IsBisected w word t t asked asked faults faults
bisected-none w word t asked faults = record {
  machine = refl;
  kept = refl;
  more = [];
  history = sym (append-nil t.history);
  each = All-nil (IsSaidBy w);
  uses = [];
  told = sym (told-none asked);
  found = refl;
  due = All-nil (IsDue word t.history);
  given_up = omega arith;
}

each-none : (word : List ℕ) (ts : List Track) (u : Tally) → BisectsEach word ts ts u u
each-none word [] u = refl
each-none word (t ∷ ts) u = (u, bisected-none (author.Bisect 1) word t u.asks u.faults, each-none word ts u)

-- the first was bisected, and those behind it weren't
pub each-first : (word : List ℕ) (first new : Track) (rest : List Track) (t u : Tally) → IsBisected (author.Bisect 1) word first new t.asks u.asks t.faults u.faults → BisectsEach word (first ∷ rest) (new ∷ rest) t u
each-first word first new rest t u one = (u, one, each-none word rest u)

-- ---- machines that are recomputed one after another, where memory is wanting
publishes-none : (ts : List Track) → AllZip (AddsPublications (author.Recompute 1)) ts ts
publishes-none [] = tt
publishes-none (t ∷ ts) = (record { machine = refl; kept = refl; more = []; history = sym (append-nil t.history); each = All-nil (IsPublicationBy (author.Recompute 1)) }, publishes-none ts)

-- something was published of the first, and those behind it are as they were
pub publishes-first : (first new : Track) (rest : List Track) → AddsPublications (author.Recompute 1) first new → AllZip (AddsPublications (author.Recompute 1)) (first ∷ rest) (new ∷ rest)
publishes-first first new rest one = (one, publishes-none rest)
