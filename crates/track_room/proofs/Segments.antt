-- A segmentation in two visits, as one reply.
use Rattle.std.proofs.{Common.{◌≡◌, false, ℕ, List, [], ◌∷◌, ◌++◌, append_assoc, length, take, sym, ap, subst, ◌∙◌, arith}, lemmas.Grind.common_steps}
use Rattle.std.proofs.lemmas.List.{length-map}
use Rattle.segment_cost.specs.declared.done.Done.{Done}
use Rattle.history_lock.specs.{declared.view.Marked.Marked, Marks.{AreByOthers, entries}}
use Rattle.history_model.specs.{declared.entries.Author.Author, declared.entries.Entry.Entry, declared.entries.Placed.Placed, Entries.entries_of}
use Rattle.history_model.specs.{Runs.{Series, is_known}, Publications.last_publication, Laws.{LastStands, VersionsStay}}
use Rattle.publication_index.specs.Kept.{series_of}
use Rattle.request_model.specs.declared.requests.Request.TheVariants as request
use Rattle.request_model.specs.declared.replies.Refusal.TheVariants as refusal
use Rattle.request_model.specs.declared.replies.Reply.{Reply}
use Rattle.track_model.specs.{Outcomes.{Outcome, refuses}, Publishing.{IsPublishedFrom, OfLatest, SegmentComesFrom, later}, Tracks.Track}
use Rattle.track_state.specs.{Made.IsMadeFrom, Snapshots.IsRedone, Begun.TheVariants.{Known, Unknown}, Redone.Redone, Snapshot.Snapshot}
use Rattle.track_state.{proofs.Segmenting.made-from, proofs.Snapped.{bare-taken, entries-taken}, specs.declared.taking.TakenSeries.TakenSeries}
use Rattle.track_state.{specs.Work.{Work, bare, history_of}, proofs.Told.unknown, specs.Work.series_of as series_of_key}
use Rattle.track_room.specs.{Asked.IsReplied, Sights.{Sight, SeesMore, Visits, own_marks, seeing}, Taking.{IsTaken, OfSeen, seen_of}}
use Rattle.track_room.{specs.Visits.{Begins, Finishes, IsFound, Stays}, proofs.Replying.{replied, seen-entries, sees-long, step-seen}}
use Rattle.track_room.proofs.Visiting.{bare-finished, stays-sees, visits-as}

-- the history that a pass finds is what it has seen, and then entries of others
pub found-parts : (pass : Sight) (w : Work) → (is : IsFound pass w) → history_of w ≡ seen_of pass ++ entries_of (entries is.sees.0)
found-parts pass w is = grind (arith, common_steps)

-- what was made from what a pass has seen was made from what it finds
pub made-still : VersionsStay → (pass : Sight) (w : Work) (done : Done) → IsFound pass w → IsMadeFrom (seen_of pass) done → IsMadeFrom (history_of w) done
made-still stay pass w done is made = grind (arith, common_steps)

-- what is made of a series that was taken is made of what the pass has seen of its machine
pub made-of-taken : LastStands → (machine : ℕ) (pass : List Sight) (x : TakenSeries) (made : Redone) → OfSeen machine pass (λ h. IsTaken h x) → IsRedone x.snapshot made
    → OfSeen machine pass (λ h. IsMadeFrom h made.done)
made-of-taken last machine pass x made at is = grind (arith, common_steps, made-from, series_of_key)

-- ---- a pass that has seen more, twice
others-append : (marks : List ℕ) (xs ys : List (Marked Placed)) → AreByOthers marks xs → AreByOthers marks ys → AreByOthers marks (xs ++ ys)
others-append marks [] ys one two = two
others-append marks (x ∷ xs) ys one two = (one.0, others-append marks xs ys one.1 two)

pub sees-again : (old mid new : Sight) → SeesMore old mid → SeesMore mid new → SeesMore old new
sees-again old mid new one two =
    let both : SeesMore (seeing old (old.seen ++ one.0)) new = subst (λ (s : Sight). SeesMore s new) one.2 two in (
      one.0 ++ both.0,
      others-append (own_marks old) one.0 both.0 one.1 both.1,
      both.2 ∙ ap (λ (log : List (Marked Placed)). seeing old log) (append_assoc old.seen one.0 both.0),
    )

-- ---- the pass once a segmentation was begun
module _ (test metric : List ℕ) (old : Sight) (x : Snapshot) (mid : Sight) (v : Visits (Begins (record { test = test; metric = metric }) (Known x)) old mid) where
  abbrev its : Series
  its = record { test = test; metric = metric }

  pub begun-sees : SeesMore old mid
  begun-sees = stays-sees old mid (visits-as (Begins its (Known x)) Stays (λ w u does. bare-taken w.track its u.track does.1.track) old mid v)

  pub begun-history : entries_of (entries mid.seen) ≡ entries_of v.before.track.history
  begun-history = ap (λ (t : Track). entries_of t.history) (sym v.left) ∙ entries-taken v.before.track its v.after.track v.does.1.track

  -- what is made of the snapshot is made from what the pass has seen
  pub begun-made : LastStands → (made : Redone) → IsRedone x made → IsMadeFrom (entries_of (entries mid.seen)) made.done
  begun-made last made is =
      subst (λ (h : List Entry). IsMadeFrom h made.done) (sym begun-history) (made-from v.before.track its x made v.does.0 is last v.does.2)

-- ---- the replies
module _ (author : Author) (machine test metric : List ℕ) (reply : Reply) (old : Sight) (named : old.home.machine ≡ machine) where
  abbrev s : Series
  s = record { test = test; metric = metric }

  pub told-unknown : (new : Sight) → Visits (Begins (record { test = test; metric = metric }) (Unknown reply)) old new
      → IsReplied author (request.Segment machine test metric) reply old new
  told-unknown new v =
      let found : Sight = v.found in
      let h : List Entry = entries_of (entries found.seen) in
      let o : Outcome = refuses refusal.UnknownSeries in
      let version : ℕ = length found.seen in
      let none : is_known s h ≡ false = ap (is_known s) (sym (seen-entries found v.before v.was)) ∙ v.does.0.0 in
      let comes : SegmentComesFrom (take version h) 0 h s o = unknown (OfLatest (later (length (take version h)) (last_publication s h)) (IsPublishedFrom (take version h) 0 h s)) (is_known s h) none in
      replied author (request.Segment machine test metric) reply old found new version 0 o named v.sees v.adds comes (sees-long old found v.sees) (omega arith)
      (step-seen author found new v.before v.after o reply v.was v.left (bare-taken v.before.track s v.after.track v.does.1.track) v.does.0.1)

  pub told-finished : (x : Snapshot) (made : Redone) (mid new : Sight) → Visits (Begins (record { test = test; metric = metric }) (Known x)) old mid
      → IsRedone x made → Visits (Finishes author made.done reply) mid new → IsReplied author (request.Segment machine test metric) reply old new
  told-finished x made mid new v is f =
      let found : Sight = f.found in
      let h : List Entry = entries_of (entries found.seen) in
      let o : Outcome = f.does.0 in
      let version : ℕ = made.done.version in
      let one : SeesMore old mid = begun-sees test metric old x mid v in
      let at : made.done.version ≡ length mid.seen =
      is.version ∙ v.does.0.version ∙ ap (λ (es : List Entry). length es) (sym (begun-history test metric old x mid v))
      ∙ length-map (entries mid.seen) (λ (p : Placed). p.entry) ∙ length-map mid.seen (λ (y : Marked Placed). y.entry) in
      let comes : SegmentComesFrom (take version h) made.done.base h s o = grind (arith, common_steps) in
      replied author (request.Segment machine test metric) reply old found new version made.done.base o named (sees-again old mid found one f.sees) f.adds comes
      (omega (arith, at, sees-long old mid one)) (omega (arith, at, sees-long mid found f.sees))
      (step-seen author found new f.before f.after o reply f.was f.left (ap bare f.does.2.track ∙ bare-finished author (series_of made.done) f.before.track o) f.does.2.told)
