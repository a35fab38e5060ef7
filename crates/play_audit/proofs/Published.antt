-- Private: no public contract cites this. A segmentation that a journal published next.
use Rattle.std.proofs.lemmas.Grind.{common_steps}
use Rattle.std.proofs.Common.{◌≡◌, ◌≢◌, ℕ, ◌^◌, ◌+◌, ◌<◌, ◌≤◌, List, ◌++◌, length, take, Option, Some, None, Ok, Err, refl, sym, ap, subst, ◌∙◌, arith}
use Rattle.std.{specs.Prelude.{slice_get, IfNone, IfOk, IfSome, Result}, proofs.lemmas.List.{length-take, length-take-le, length-map, take-take}}
use Rattle.history_model.specs.declared.{entries.Author.Author, entries.Entry.Entry, entries.Placed.Placed, publication.Publication.Publication}
use Rattle.history_model.specs.declared.entries.Entry.TheVariants as entry
use Rattle.history_model.specs.{Publications.{last_publication, published}, Runs.{Series, is_known}}
use Rattle.request_model.specs.declared.{requests.Request.TheVariants.Segment, replies.Reply.Reply}
use Rattle.reply_text.specs.Replies.{text_of}
use Rattle.track_model.specs.{Outcomes.Outcome, Publishing.{SegmentComesFrom, later, publication}, Replies.reply_of}
use Rattle.journal_lines.specs.Authors.{IsPublication}
use Rattle.play_model.{specs.Laws.RepliesNameEntries, specs.Replies.{Adds, first_of}, proofs.Replies.added-step}
use Rattle.reply_laws.{specs.Laws.{OneAdds, RepliesAreNamed}, proofs.OneReply.{IsPublishing, publishing}}
use Rattle.journal_walk.specs.Walks.{Walked, GoesOn, IsAlong, IsPublishedNext, PublishesNothing, added, coming}
use Rattle.play_audit.specs.{Places.IsSound, Replies.{HasNone, IsCompared, IsNext}, Segments.Publishes, Texts.BeginsWith}
use Rattle.play_audit.proofs.{Answering.{adds_next, adds_no_text}, Compared.compared, Replying.{entry_of, step_added}, Walking.{next_allowed, take_entries}}

first-length : (j : List Placed) (count : ℕ) → count ≤ length j → length (first_of count j) ≡ count
first-length j count le = length-map (take count j) (λ (p : Placed). p.entry) ∙ length-take-le count j le

series-of : (a b c d : List ℕ) → a ≡ c → b ≡ d → (let x : Series = record { test = a; metric = b } in x) ≡ (record { test = c; metric = d })
series-of a b c d one two = grind (arith, common_steps)

-- a request for a segmentation that adds an entry publishes the series, at a version that is no older than what was known
pub adds_publishes : (author : Author) (j : List Placed) (known : ℕ) (machine test metric : List ℕ) (r : Reply) (a : Adds author j known (Segment machine test metric) r)
    → Publishes a.entry test metric known
adds_publishes author j known machine test metric r a =
    let s : Series = record { test = test; metric = metric } in
    let v : List Entry = first_of a.comes.version j in
    let h : List Entry = first_of a.count j in
    let p : IsPublishing v a.comes.base h s a.entry a.outcome =
    publishing v a.comes.base h s a.entry a.outcome (is_known s h) (later (length v) (last_publication s h)) a.comes.comes a.adds in
    let size : length v ≡ a.comes.version = first-length j a.comes.version (omega (arith, a.comes.made_before, a.comes.within)) in
    subst (λ (e : Entry). Publishes e test metric known) (sym p.adds) (refl, refl, omega (arith, a.comes.made_since, size))

-- the version of what was published next
made-before : (h : List Entry) (p : Publication) (o : Outcome) → SegmentComesFrom (take p.version h) p.base h (published p) o → o.adds ≡ Some (entry.Publish p) → p.version ≤ length h
made-before h p o comes adds =
    let s : Series = published p in
    let v : List Entry = take p.version h in
    let is : IsPublishing v p.base h s (entry.Publish p) o =
    publishing v p.base h s (entry.Publish p) o (is_known s h) (later (length v) (last_publication s h)) comes adds in
    let same : p ≡ publication s (length v) p.base is.comes.0 = cc in
    let version : p.version ≡ length v = ap (λ (x : Publication). x.version) same in
    omega (arith, version, length-take p.version h)

first-of-first : (w : Walked) → IsAlong w → (n : ℕ) → n ≤ length w.track.history → take n (added w) ≡ first_of n w.history
first-of-first w along n le = grind (arith, common_steps, take, take_entries, length, take-take)

publishes-is : (e : Entry) (test metric : List ℕ) (known : ℕ) → Publishes e test metric known → IsPublication e
publishes-is e test metric known is = grind (arith, common_steps)

module _ (names : RepliesAreNamed) (numbers : RepliesNameEntries) (once : OneAdds) (w v : Walked) (known : ℕ) (p : Placed) (test metric text : List ℕ) (along : IsAlong w)
    (few : length w.history < 2 ^ 64) (since : known ≤ length w.track.history) (next : coming w ≡ Some p) where
  pub published_other : (Publishes p.entry test metric known → ⊥) → HasNone (Adds p.author w.history known (Segment w.track.machine test metric)) text (length w.track.history + 1)
  published_other other s rest adds its is =
      let step : s.step ≡ adds.count + 1 = added-step p.author w.history known (Segment w.track.machine test metric) s adds in
      let count : adds.count ≡ length w.track.history = omega (arith, step, its) in
      let there : slice_get w.history (length w.track.history) ≡ Some (record { author = p.author; entry = adds.entry }) =
      subst (λ (n : ℕ). slice_get w.history n ≡ Some (record { author = p.author; entry = adds.entry })) count adds.stands in
      let same : p.entry ≡ adds.entry = entry_of p p.author adds.entry (sym next ∙ there) in
      other (subst (λ (e : Entry). Publishes e test metric known) (sym same) (adds_publishes p.author w.history known w.track.machine test metric s adds))

  -- what may be published isn't refused
  pub published_always : IsSound w.history → Publishes p.entry test metric known → PublishesNothing w → ⊥
  published_always sound is x2 = grind (arith, common_steps, p, next, publishes-is, p.entry, test, metric, known, next_allowed)

  module _ (r : Reply) (made : IsPublishedNext w v r) (publishes : Publishes p.entry test metric known) where
    same-placed : made.goes.entry ≡ p
    same-placed = let both : Some made.goes.entry ≡ Some p = sym made.goes.next ∙ next in cc

    its : p.entry ≡ entry.Publish made.publication
    its = ap (λ (x : Placed). x.entry) (sym same-placed) ∙ made.is

    its-series : (made.publication.test ≡ test) × (made.publication.metric ≡ metric) × (known ≤ made.publication.version)
    its-series = subst (λ (e : Entry). Publishes e test metric known) its publishes

    adds-it : Adds p.author w.history known (Segment w.track.machine test metric) r
    adds-it =
        let version : made.publication.version ≤ length w.track.history =
        omega (arith, made-before (added w) made.publication made.outcome made.comes made.adds, length-map w.track.history (λ (x : Placed). x.entry)) in
        let s : Series = record { test = test; metric = metric } in
        let one : SegmentComesFrom (take made.publication.version (added w)) made.publication.base (added w) s made.outcome =
        subst (λ (x : Series). SegmentComesFrom (take made.publication.version (added w)) made.publication.base (added w) x made.outcome)
        (series-of made.publication.test made.publication.metric test metric its-series.0 its-series.1) made.comes in
        let two : SegmentComesFrom (first_of made.publication.version w.history) made.publication.base (added w) s made.outcome =
        subst (λ (l : List Entry). SegmentComesFrom l made.publication.base (added w) s made.outcome) (first-of-first w along made.publication.version version) one in
        record {
          count = length w.track.history;
          outcome = made.outcome;
          comes = record {
            since = since;
            within = along.within;
            version = made.publication.version;
            made_since = its-series.2;
            made_before = version;
            base = made.publication.base;
            comes = subst (λ (l : List Entry). SegmentComesFrom (first_of made.publication.version w.history) made.publication.base l s made.outcome) along.first two;
          };
          entry = p.entry;
          adds = made.adds ∙ ap Some (sym its);
          stands = next;
          told = made.told ∙ ap (λ (l : List Entry). reply_of l made.outcome) along.first;
        }

    its-step : r.step ≡ length w.track.history + 1
    its-step = step_added w made.outcome r (entry.Publish made.publication) made.told made.adds

    published_next : (len : ℕ) → BeginsWith text r len → IsNext (Adds p.author w.history known (Segment w.track.machine test metric)) text (length w.track.history + 1) len
    published_next len begins =
        adds_next w.history known (Segment w.track.machine test metric) text few names numbers once p.author r len (length w.track.history + 1) adds-it its-step begins

    published_no_text : ((rest : List ℕ) → text ≢ text_of r ++ rest) → HasNone (Adds p.author w.history known (Segment w.track.machine test metric)) text (length w.track.history + 1)
    published_no_text none = adds_no_text w.history known (Segment w.track.machine test metric) text few once p.author r (length w.track.history + 1) adds-it its-step none

    pub published_front : {E : Type 0} (found : Result (Option ℕ) E) → IfOk found (λ o. IfSome o (BeginsWith text r)) → IfOk found (λ o. IfNone o ((rest : List ℕ) → text ≢ text_of r ++ rest))
        → IsCompared (Adds p.author w.history known (Segment w.track.machine test metric)) text (length w.track.history + 1) found
    published_front = compared (Adds p.author w.history known (Segment w.track.machine test metric)) text (length w.track.history + 1) r published_next published_no_text

    pub published_goes : {E : Type 0} (found : Result (Option ℕ) E) → IfOk found (λ o. IfSome o (λ len. GoesOn w v))
    published_goes (Ok (Some len)) = made.goes
    published_goes (Ok None) = tt
    published_goes (Err e) = tt
