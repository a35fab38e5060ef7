-- What a segmentation comes to.
use Rattle.std.proofs.Common.{◌≡◌, ℕ, ◌+◌, ◌-◌, true, false, cond, List, length, take, refl, sym, ap, ap₂, subst, ◌∙◌, Option, Some, None, inl, inr, arith}
use Rattle.std.{specs.Prelude.{nat_eq, not, ◌&&◌}, specs.Ordering.eq_by_cmp, proofs.lemmas.Bool.cases_Bool, proofs.Math.Seq.take-length}
use Rattle.std.specs.FinSet as set
use Rattle.metric_table.specs.declared.limits.Limit.{Limit}
use Rattle.segment_model.specs.Segments.{Position}
use Rattle.segment_cost.specs.{Certificate.StandsFor, declared.done.Done.Done}
use Rattle.point_list.specs.Places.{common}
use Rattle.history_model.specs.{declared.entries.Author.Author, declared.entries.Entry.Entry, declared.publication.Publication.Publication, Allowed.Legal}
use Rattle.history_model.specs.{Entries.entries_of, Laws.LastStands, Penalties.{setting_of, penalty_of, length_of}, Positions.positions}
use Rattle.history_model.specs.{Publications.{last_publication, IsBaseAt, IsUpTo}, Runs.{Series, is_known}, SeriesOrder.series_cmp}
use Rattle.request_model.specs.declared.replies.{Answer.Answer, Reply.Reply}
use Rattle.request_model.specs.declared.replies.Answer.TheVariants as answer
use Rattle.request_model.specs.declared.replies.Refusal.TheVariants as refusal
use Rattle.publication_index.{specs.Kept.series_of, proofs.Homes.series-total}
use Rattle.track_model.specs.{Outcomes.{tells, added_unless}, Publishing.{SegmentComesTo, IsPublished, publication, publish, redone_since, segmented}}
use Rattle.track_model.specs.{Replies.reply_of, Tracks.{Track, IsSameButTables, IsSegmentStep, base_of, with_entry, with_home, with_publication, with_taken}}
use Rattle.machine_state.{specs.Made.{publication_from, entry_of, setting_in, IsMadeFrom}, proofs.Told.known}
use Rattle.history_model.specs.declared.setting.Setting.{Setting}
use Rattle.track_model.proofs.Settings.{same-setting}
use Rattle.track_series.specs.{Publications.IsAdded, Snapshots.{IsTakenAt, IsRedone}, declared.redone.Redone.Redone, declared.snapshot.Snapshot.Snapshot}
use Rattle.track_series.specs.declared.publishing.Published.TheVariants as published
use Rattle.track_series.proofs.Beginning.{base-lawful}

-- ---- a track once a segmentation took its table
module _ (t : Track) (s : Series) where
  -- it is what it was, or that without a table
  by-base : (P : Track → Type 0) → P t → P (with_home (set.remove t.home s) t) → P (with_taken s t)
  by-base P same less = elim (cases_Bool (nat_eq (base_of t s) 0)) [
    | inl hit ↦ subst P (ap (λ b. cond b t (with_home (set.remove t.home s) t)) (sym hit)) same
    | inr miss ↦ subst P (ap (λ b. cond b t (with_home (set.remove t.home s) t)) (sym miss)) less
  ]

  fewer : (q : Series) → set.contains (set.remove t.home s) q ≡ true → set.contains t.home q ≡ true
  fewer q is = second (not (eq_by_cmp series_cmp q s)) (set.contains t.home q) (sym (set.contains-remove series-total t.home s q) ∙ is)
    where
      second : (a b : _) → (a && b) ≡ true → b ≡ true
      second true b h = h
      second false b h = absurd (let no : false ≡ true = h in cc)

  pub same-tables : IsSameButTables t t
  same-tables = record { machine = refl; kept = refl; history = refl; fewer = set.contains-is_subset series-total t.home t.home (λ q is. is) }

  pub taken-tables : IsSameButTables t (with_taken s t)
  taken-tables =
      by-base (IsSameButTables t) same-tables
      (record { machine = refl; kept = refl; history = refl; fewer = set.contains-is_subset series-total (set.remove t.home s) t.home fewer })

  pub taken-history : (with_taken s t).history ≡ t.history
  taken-history = by-base (λ (u : Track). u.history ≡ t.history) refl refl

  taken-entry : (author : Author) (e : Entry) (home : set.FinSet series_cmp) → with_home home (with_entry author (with_taken s t) e) ≡ with_home home (with_entry author t e)
  taken-entry author e home = by-base (λ (u : Track). with_home home (with_entry author u e) ≡ with_home home (with_entry author t e)) refl refl

-- ---- what was put as a step
-- where no later version was published, none is told
pub not-stale : (l : Option Limit) (old : Track) (author : Author) (done : Done) (version : ℕ) (new : Track) → IsAdded l old author done (published.Stale version) new → ⊥
not-stale (Some limit) old author done version new put = let no : published.Stale version ≡ published.Full limit = put.0 in absurd (cc)
not-stale None old author done version new put = let no : published.Stale version ≡ published.Ok (length (entries_of old.history) + 1) = put.0 in absurd (cc)

module _ (t : Track) (s : Series) (author : Author) (done : Done) (series-is : series_of done ≡ s) (old new : Track) (begun : old ≡ with_taken s t) (told : Answer) (reply : Reply) where
  entries-are : entries_of old.history ≡ entries_of t.history
  entries-are = ap (λ (u : Track). entries_of u.history) begun ∙ ap entries_of (taken-history t s)

  pub ok-step : (step : ℕ) (l : Option Limit) → IsAdded l old author done (published.Ok step) new → reply ≡ record { step = step; answer = told }
      → IsSegmentStep t author s (added_unless l (entry_of done) told) new reply
  ok-step step (Some limit) put is = absurd (let no : published.Ok step ≡ published.Full limit = put.0 in cc)
  ok-step step None put is =
      let same : published.Ok step ≡ published.Ok (length (entries_of old.history) + 1) = put.0 in
      let next : step ≡ length (entries_of old.history) + 1 = cc in
      record {
        track = put.1
            ∙ ap (λ (u : Track). with_publication author u (publication_from done)) begun
            ∙ ap (λ (u : Series). with_home (set.insert (with_taken s t).home u) (with_entry author (with_taken s t) (entry_of done))) series-is
            ∙ taken-entry t s author (entry_of done) (set.insert (with_taken s t).home s);
        told = is ∙ ap (λ (n : ℕ). let r : Reply = record { step = n; answer = told } in r) (next ∙ ap (λ (h : List Entry). length h + 1) entries-are);
      }

  pub full-same : (limit : Limit) (l : Option Limit) → IsAdded l old author done (published.Full limit) new → new ≡ old
  full-same limit None put = absurd (let no : published.Full limit ≡ published.Ok (length (entries_of old.history) + 1) = put.0 in cc)
  full-same limit (Some other) put = put.1

  pub full-step : (limit : Limit) (l : Option Limit) → IsAdded l old author done (published.Full limit) new → reply ≡ reply_of (entries_of old.history) (tells (answer.Refused (refusal.Full limit)))
      → IsSegmentStep t author s (added_unless l (entry_of done) told) new reply
  full-step limit None put is = absurd (let no : published.Full limit ≡ published.Ok (length (entries_of old.history) + 1) = put.0 in cc)
  full-step limit (Some other) put is =
      let full : published.Full limit ≡ published.Full other = put.0 in
      let same : limit ≡ other = cc in
      record {
        track = put.1 ∙ begun;
        told = is
            ∙ ap (λ (h : List Entry). reply_of h (tells (answer.Refused (refusal.Full limit)))) entries-are
            ∙ ap (λ (m : Limit). reply_of (entries_of t.history) (tells (answer.Refused (refusal.Full m)))) same;
      }

-- ---- the segmentation of a snapshot
module _ (t : Track) (s : Series) (x : Snapshot) (made : Redone) (taken : IsTakenAt t s x) (is : IsRedone x made) where
  abbrev h : List Entry
  h = entries_of t.history

  pub series-is : series_of made.done ≡ s
  series-is = ap₂ (λ (a b : List ℕ). let u : Series = record { test = a; metric = b } in u) (is.test ∙ taken.test) (is.metric ∙ taken.metric)

  version-is : made.done.version ≡ length h
  version-is = is.version ∙ taken.version

  base-is : made.done.base ≡ base_of t s
  base-is = is.base ∙ taken.base

  front : take made.done.version h ≡ h
  front = ap (λ (v : ℕ). take v h) version-is ∙ take-length h

  redone-is : made.done.redone ≡ redone_since h x.base s
  redone-is = is.redone ∙ ap₂ (λ (old new : List Position). length new - common old new) taken.old taken.points

  -- the setting of the snapshot
  asked : Setting
  asked = record { penalty = x.penalty; length = x.length }

  setting-taken : asked ≡ setting_of s.metric h
  unfolding asked
  setting-taken = same-setting asked (setting_of s.metric h) taken.penalty taken.long

  setting-made : setting_in made.done ≡ asked
  unfolding asked
  setting-made = same-setting (setting_in made.done) asked is.stands.same_penalty is.stands.same_length

  stands : StandsFor (positions h s) (penalty_of s.metric h) (length_of s.metric h) made.done.cert
  unfolding asked
  stands =
      subst (λ (x' : Setting). StandsFor (positions h s) x'.penalty x'.length made.done.cert) setting-taken
      (subst (λ (ps : List Position). StandsFor ps x.penalty x.length made.done.cert) taken.points is.stands)

  pub made-from : LastStands → Legal h → IsMadeFrom h made.done
  unfolding asked
  made-from last legal =
      let lawful : IsBaseAt h (publication_from made.done) = base-lawful last t s legal (publication_from made.done) series-is base-is in
      record {
        past = omega (arith, version-is);
        known = ap (is_known (series_of made.done)) front ∙ ap (λ (u : Series). is_known u h) series-is ∙ taken.known;
        points = is.points ∙ taken.points ∙ sym (ap (λ (g : List Entry). positions g (series_of made.done)) front ∙ ap (positions h) series-is);
        setting = setting-made ∙ setting-taken ∙ sym (ap (setting_of made.done.metric) front ∙ ap (λ (u : Series). setting_of u.metric h) series-is);
        based = subst (λ (g : List Entry). IsBaseAt g (publication_from made.done)) (sym front) lawful;
        redone = redone-is ∙ sym (
            ap (λ (g : List Entry). redone_since g made.done.base (series_of made.done)) front
            ∙ ap (λ (u : Series). redone_since h made.done.base u) series-is
            ∙ ap (λ (b : ℕ). redone_since h b s) is.base);
        stands = subst (λ (x' : Setting). StandsFor made.done.points x'.penalty x'.length made.done.cert) (sym setting-made)
            (subst (λ (ps : List Position). StandsFor ps x.penalty x.length made.done.cert) (sym is.points) is.stands);
      }

  publication-is : publication_from made.done ≡ publication s (length h) (base_of t s) made.done.cert
  publication-is =
      ap (λ (u : Series). publication u made.done.version made.done.base made.done.cert) series-is
      ∙ ap₂ (λ (v b : ℕ). publication s v b made.done.cert) version-is base-is

  pub comes : (told : Answer) → told ≡ segmented made.done.version made.done.base made.done.redone made.done.cert
      → SegmentComesTo h (base_of t s) s (publish h (publication_from made.done) told)
  comes told told-is =
      let redone : made.done.redone ≡ redone_since h (base_of t s) s = redone-is ∙ ap (λ (b : ℕ). redone_since h b s) taken.base in
      let answered : told ≡ segmented (length h) (base_of t s) (redone_since h (base_of t s) s) made.done.cert =
      told-is ∙ ap₂ (λ (v b : ℕ). segmented v b made.done.redone made.done.cert) version-is base-is ∙ ap (λ (n : ℕ). segmented (length h) (base_of t s) n made.done.cert) redone in
      known (IsPublished h (base_of t s) s) (publish h (publication_from made.done) told) (is_known s h) taken.known (
        made.done.cert,
        stands,
        ap₂ (publish h) publication-is answered,
      )

-- no publication of a series speaks of more than the history
pub up-to : LastStands → (h : List Entry) (s : Series) (version : ℕ) → Legal h → version ≡ length h → (o : Option Publication) → last_publication s h ≡ o → IsUpTo version o
up-to last h s version legal is None found = tt
up-to last h s version legal is (Some p) found = let past = (last h s p legal found).1.past in omega (arith, past, is)
