-- Each request of the script is accepted on the history that those before it leave.
use Rattle.std.proofs.Common.{◌≡◌, ◌≢◌, ℕ, pos, suc, ◌+◌, ◌*◌, ◌%◌, ◌<◌, ◌≤◌, ◌^◌, true, not, List, [], ◌∷◌, ◌++◌, length, refl, sym, ◌∙◌, subst, arith, length-append, append-nil, Some, None}
use Rattle.std.proofs.lemmas.{Int.ints, List.Elements.{All-cons, All-nil}}
use Rattle.metric_table.specs.Limits.{most}
use Rattle.metric_table.specs.declared.limits.Limit.TheVariants as limit
use Rattle.sample_model.specs.Samples.{Measurement, IsSample, AreSamples}
use Rattle.segment_model.{specs.Cuts.RisesBetween, specs.Limits.IsLength, proofs.CutLists.places-rise, specs.Brought.ValuesAreBrought}
use Rattle.segment_cost.specs.declared.cert.Cert.{Cert}
use Rattle.history_model.specs.declared.{entries.Entry.Entry, entries.Declaration.Declaration, run.Run.Run, publication.Publication.Publication}
use Rattle.history_model.specs.declared.entries.Entry.TheVariants as entry
use Rattle.history_model.specs.{declared.setting.Setting.Setting, Allowed.{count_of, first_passed, run_limits}, Commits.{declarations, number_of}}
use Rattle.history_model.specs.{Penalties.{length_of, SettingIsSet, SettingStays}, Positions.{positions, brought}}
use Rattle.history_model.specs.{Runs.{acceptances, retractions, accepted, retracted, is_known, is_of, live_runs, Series}, Publications.last_publication}
use Rattle.history_model.specs.Laws.{DeclarationsGrow, AcceptancesGrow, RetractionsGrow, LimitsAfterCommit, LimitsAfterRetract, LimitsAfterTune, LimitsAfterPublish, SeriesKeepLimits, CountsAfterAccept, SamplesFit, PositionsFit, FirstKept, RunKeepsLimits, PublicationIsLast, CutsGrow}
use Rattle.request_model.specs.declared.requests.Request.TheVariants as request
use Rattle.request_model.specs.declared.replies.{Refusal.Refusal, Answer.Answer}
use Rattle.request_model.specs.declared.replies.Answer.TheVariants as answer
use Rattle.track_model.specs.Forms as forms
use Rattle.track_model.specs.{Outcomes.Outcome, Laws.{CommitIsAdded, RetractIsAdded, TuneIsAdded, TuneMayFollow, PublishIsAdded}, Tracks.ComesTo}
use Rattle.track_model.specs.Publishing.{OfKnown, OfPublished, IsPublished, TellsChanges, publication, redone_since, segmented}
use Rattle.series_gen.specs.Script.{place}
use Rattle.trial_script.specs.Requests as asked
use Rattle.trial_script.proofs.Lists.{filter_few}
use Rattle.trial_script.proofs.Reached.{AreLists, Reached, long_stays, no_number, no_name, no_run, not_back, with_commit, with_run, with_retraction}
use Rattle.trial_script.proofs.{Bounds.{series, brought_few, positions_few, samples_few, series_few, new_few, known_there}, Passing.Good, PlainWords.plain_name}

-- an entry is added, and nothing refused
good_added : (Q : List Entry → Type 0) (h : List Entry) (o : Outcome) (told : Answer) (e : Entry) → o ≡ record { answer = told; adds = Some e }
    → ((reason : Refusal) → told ≢ answer.Refused reason) → Q (h ++ e ∷ []) → Good Q h o
good_added Q h o told e is accepted holds = subst (Good Q h) (sym is) (record { accepted = accepted; holds = holds })

-- a run was accepted, and the hundreds of runs before it were published
pub record Turned (j : ℕ) (h : List Entry) : Type 0 where
  pub reached : Reached 500 (suc j) 0 1 h
  pub less : 100 * reached.published ≤ j

-- all was asked but the changes
pub record Ready (h : List Entry) : Type 0 where
  pub reached : Reached 500 2_000 10 2 h
  pub p : Publication
  pub last : last_publication series h ≡ Some p

-- a submission at a declared commit, by a new name, that passes no limit
submit_fits : (h : List Entry) (commit run : List ℕ) (samples : List Measurement) (c : ℕ) → number_of commit h ≡ Some c → accepted run h ≡ None
    → first_passed run_limits h (entry.Accept (record { run = run; commit = c; samples = samples })) ≡ None
    → forms.submit h asked.machine commit run samples 0 None ≡
    record { answer = answer.Accepted run (length samples) 0; adds = Some (entry.Accept (record { run = run; commit = c; samples = samples })) }
submit_fits h commit run samples c there free passes = rw (there, free, passes) refl

-- cuts between two places are no more than the places
cuts_few : (low high : ℕ) (cuts : List ℕ) → low ≤ high → RisesBetween low high cuts → length cuts + low ≤ high
cuts_few low high [] within rises = omega (arith, within)
cuts_few low high (c ∷ cuts) within rises = omega (arith, cuts_few c high cuts (omega (arith, rises.1)) rises.2, rises.0)

-- the lists that no entry was added to
stay : {n j r : ℕ} (h now : List Entry) → AreLists n j r (declarations h) (acceptances h) (retractions h) → declarations now ≡ declarations h
    → acceptances now ≡ acceptances h
    → retractions now ≡ retractions h → AreLists n j r (declarations now) (acceptances now) (retractions now)
stay h now lists ds xs rs = rw (ds, xs, rs) lists

-- ---- what the laws of histories and forms say
module _ (declared : DeclarationsGrow) (accepts : AcceptancesGrow) (retracts : RetractionsGrow) (cuts_grow : CutsGrow)
    (setting_stays : SettingStays) where
  module _ (commit_limits : LimitsAfterCommit) (commit_added : CommitIsAdded) where
    commit_history : (n : ℕ) (h : List Entry) → n < 500 → Reached n 0 0 0 h → Reached (suc n) 0 0 0 (h ++ entry.Commit n (asked.commit_name n) ∷ [])
    commit_history n h few now =
        let e : Entry = entry.Commit n (asked.commit_name n) in
        let last : List Entry = h ++ e ∷ [] in
        let d : Declaration = record { step = length h + 1; number = n; name = asked.commit_name n } in
        let ds : declarations last ≡ declarations h ++ d ∷ [] = declared h e in
        let xs : acceptances last ≡ acceptances h = accepts h e ∙ append-nil (acceptances h) in
        let rs : retractions last ≡ retractions h = retracts h e ∙ append-nil (retractions h) in
        record {
          lists = rw (ds, xs, rs) (with_commit now.lists d refl refl);
          limits = commit_limits h n (asked.commit_name n) now.limits (omega (arith, now.steps, few)) (omega (arith, now.lists.commits, few));
          steps = omega (arith, now.steps, length-append h (e ∷ []));
          published = now.published;
          few = now.few;
          cuts = omega (arith, now.cuts, cuts_grow h e);
          long = long_stays setting_stays h e refl now.long;
        }

    pub commit_good : (n : ℕ) (h : List Entry) (o : Outcome) → n < 500 → Reached n 0 0 0 h
        → ComesTo h 0 (request.Commit asked.machine n (asked.commit_name n)) o → Good (Reached (suc n) 0 0 0) h o
    commit_good n h o few now comes =
        let small : n < 2 ^ 64 = omega (arith, few) in
        let free : forms.commit_refusal (declarations h) n (asked.commit_name n) ≡ None = rw (no_number now.lists, no_name now.lists small) refl in
        let fits = commit_added h n (asked.commit_name n) (record {
          free = free;
          commits = omega (arith, now.lists.commits, few);
          steps = omega
              (arith, now.steps, few);
        }) in
        good_added (Reached (suc n) 0 0 0) h o (answer.Commit n (asked.commit_name n)) (entry.Commit n (asked.commit_name n)) (comes ∙ fits)
        (λ reason is. cc) (commit_history n h few now)

  module _ (tune_limits : LimitsAfterTune) (tune_added : TuneIsAdded) (tune_may_follow : TuneMayFollow) (setting_is_set : SettingIsSet) where
    abbrev tuned_to : ℕ → Entry
    tuned_to len = entry.Tune asked.metric (pos 300_000_000_000) len

    tune_history : (h : List Entry) (len : ℕ) → IsLength len → Reached 500 0 0 0 h → Reached 500 0 0 1 (h ++ tuned_to len ∷ [])
    tune_history h len long now =
        let e : Entry = tuned_to len in
        let last : List Entry = h ++ e ∷ [] in
        let ds : declarations last ≡ declarations h = declared h e ∙ append-nil (declarations h) in
        let xs : acceptances last ≡ acceptances h = accepts h e ∙ append-nil (acceptances h) in
        let rs : retractions last ≡ retractions h = retracts h e ∙ append-nil (retractions h) in
        let set = setting_is_set h e asked.metric (record { penalty = pos 300_000_000_000; length = len }) refl in
        record {
          lists = stay h last now.lists ds xs rs;
          limits = tune_limits h asked.metric (pos 300_000_000_000) len now.limits (omega (arith, now.steps));
          steps = omega (arith, now.steps, length-append h (e ∷ []));
          published = now.published;
          few = now.few;
          cuts = omega (arith, now.cuts, cuts_grow h e);
          long = subst (λ (s : Setting). IsLength s.length) (sym set) long;
        }

    pub tune_good : (h : List Entry) (o : Outcome) → Reached 500 0 0 0 h → ComesTo h 0 (request.Tune asked.machine asked.metric (pos 300_000_000_000) None) o
        → Good (Reached 500 0 0 1) h o
    tune_good h o now comes =
        let len : ℕ = length_of asked.metric h in
        let free : forms.tune_refusal asked.metric (pos 300_000_000_000) len ≡ None =
        (tune_may_follow h asked.metric (pos 300_000_000_000) len).1 (omega arith, (omega (arith, ints), omega (arith, ints)), now.long) in
        let fits = tune_added h asked.metric (pos 300_000_000_000) len free (omega (arith, now.steps)) in
        good_added (Reached 500 0 0 1) h o (answer.Tuned asked.metric (pos 300_000_000_000) len) (tuned_to len)
        (comes ∙ fits) (λ reason is. cc) (tune_history h len now.long now)

  module _ (retract_limits : LimitsAfterRetract) (retract_added : RetractIsAdded) where
    retract_history : (i : ℕ) (h : List Entry) → i < 10 → Reached 500 2_000 i 1 h
        → Reached 500 2_000 (suc i) 1 (h ++ entry.Retract (asked.run_name (200 * i)) ∷ [])
    retract_history i h few now =
        let e : Entry = entry.Retract (asked.run_name (200 * i)) in
        let last : List Entry = h ++ e ∷ [] in
        let ds : declarations last ≡ declarations h = declared h e ∙ append-nil (declarations h) in
        let xs : acceptances last ≡ acceptances h = accepts h e ∙ append-nil (acceptances h) in
        let rs : retractions last ≡ retractions h ++ record { step = length h + 1; run = asked.run_name (200 * i) } ∷ [] = retracts h e in
        record {
          lists = rw (ds, xs, rs) (with_retraction now.lists (record { step = length h + 1; run = asked.run_name (200 * i) }) refl);
          limits = retract_limits h (asked.run_name (200 * i)) now.limits (omega (arith, now.steps, few));
          steps = omega (arith, now.steps, length-append h (e ∷ []));
          published = now.published;
          few = now.few;
          cuts = omega (arith, now.cuts, cuts_grow h e);
          long = long_stays setting_stays h e refl now.long;
        }

    pub retract_good : (i : ℕ) (h : List Entry) (o : Outcome) → i < 10 → Reached 500 2_000 i 1 h
        → ComesTo h 0 (request.Retract asked.machine (asked.run_name (200 * i))) o → Good (Reached 500 2_000 (suc i) 1) h o
    retract_good i h o few now comes =
        let there = now.lists.accepted (200 * i) (omega (arith, few)) in
        let back : retracted (asked.run_name (200 * i)) h ≡ None = not_back now.lists (200 * i) (omega (arith, few)) (omega arith) in
        let free : forms.retract_refusal h (asked.run_name (200 * i)) ≡ None = rw (there.1, back) refl in
        let fits = retract_added h (asked.run_name (200 * i)) free (omega (arith, now.steps, few)) in
        good_added (Reached 500 2_000 (suc i) 1) h o (answer.Retracted (asked.run_name (200 * i))) (entry.Retract (asked.run_name (200 * i)))
        (comes ∙ fits) (λ reason is. cc) (retract_history i h few now)

  -- ---- a run more
  module _ (values : ValuesAreBrought) (counts : CountsAfterAccept) (samples_fit : SamplesFit) (positions_fit : PositionsFit) (kept : FirstKept)
      (run_limits_kept : RunKeepsLimits) where
    abbrev run_of : ℕ → ℕ → ℕ → Run
    run_of j v c = record { run = asked.run_name j; commit = c; samples = asked.sample v ∷ [] }

    live_few : (s : Series) (j : ℕ) (h : List Entry) → Reached 500 j 0 1 h → length (brought s (live_runs h)) ≤ j
    live_few s j h now = omega (arith, brought_few s (retractions h) j (acceptances h) now.lists.taken, now.lists.runs)

    room_samples : (j v c : ℕ) (h : List Entry) → j < 2_000 → Reached 500 j 0 1 h → retracted (asked.run_name j) h ≡ None
        → count_of limit.SeriesSamples (h ++ entry.Accept (run_of j v c) ∷ []) ≤ most limit.SeriesSamples
    room_samples j v c h few now back = (samples_fit h (run_of j v c) now.limits back).1 (λ s some.
        omega (arith, few, values (brought s (live_runs h)), live_few s j h now, filter_few (is_of s) (asked.sample v ∷ [])))

    room_positions : (j v c : ℕ) (h : List Entry) → j < 2_000 → Reached 500 j 0 1 h → retracted (asked.run_name j) h ≡ None
        → count_of limit.Positions (h ++ entry.Accept (run_of j v c) ∷ []) ≤ most limit.Positions
    room_positions j v c h few now back = (positions_fit h (run_of j v c) now.limits back).1 (λ s some other.
        omega (arith, few, positions_few (brought s (live_runs h)), live_few s j h now))

    none_passed : (j v c : ℕ) (h : List Entry) → j < 2_000 → Reached 500 j 0 1 h → retracted (asked.run_name j) h ≡ None
        → first_passed run_limits h (entry.Accept (run_of j v c)) ≡ None
    none_passed j v c h few now back =
        let e : Entry = entry.Accept (run_of j v c) in
        let counted = counts h (run_of j v c) in
        let size : length h ≤ 2_600 = omega (arith, now.steps, now.few, few) in
        kept limit.Steps (limit.Runs ∷ limit.Samples ∷ limit.Series ∷ limit.SeriesSamples ∷ limit.Positions ∷ []) h e (omega (arith, counted.steps, size))
        ∙ kept limit.Runs (limit.Samples ∷ limit.Series ∷ limit.SeriesSamples ∷ limit.Positions ∷ []) h e (omega (arith, counted.runs, now.lists.runs, few))
        ∙ kept limit.Samples (limit.Series ∷ limit.SeriesSamples ∷ limit.Positions ∷ []) h e
        (omega (arith, counted.samples, samples_few j (acceptances h) now.lists.taken, now.lists.runs, few))
        ∙ kept limit.Series (limit.SeriesSamples ∷ limit.Positions ∷ []) h e
        (omega (arith, counted.series, series_few j (acceptances h) now.lists.taken, now.lists.runs, few, new_few (λ s. not (is_known s h)) v))
        ∙ kept limit.SeriesSamples (limit.Positions ∷ []) h e (room_samples j v c h few now back)
        ∙ kept limit.Positions [] h e (room_positions j v c h few now back)

    are_samples : (v : ℕ) → v < 10_000 → AreSamples (asked.sample v ∷ [])
    are_samples v below = record {
      each = All-cons IsSample (asked.sample v) [] (record {
        test = plain_name asked.test refl (omega arith) (omega arith);
        metric = plain_name asked.metric refl (omega arith) (omega arith);
        short = omega arith;
        in_range = omega (arith, below);
      }) (All-nil IsSample);
      few = omega arith;
    }

    run_history : (j v c : ℕ) (h : List Entry) → j < 2_000 → v < 10_000 → Reached 500 j 0 1 h → retracted (asked.run_name j) h ≡ None
        → Turned j (h ++ entry.Accept (run_of j v c) ∷ [])
    run_history j v c h few below now back =
        let e : Entry = entry.Accept (run_of j v c) in
        let last : List Entry = h ++ e ∷ [] in
        let ds : declarations last ≡ declarations h = declared h e ∙ append-nil (declarations h) in
        let xs : acceptances last ≡ acceptances h ++ record { step = length h + 1; run = run_of j v c } ∷ [] = accepts h e in
        let rs : retractions last ≡ retractions h = retracts h e ∙ append-nil (retractions h) in
        record {
          reached = record {
            lists = rw (ds, xs, rs) (with_run now.lists (record { step = length h + 1; run = run_of j v c }) v refl refl);
            limits = run_limits_kept h (run_of j v c) now.limits (are_samples v below) (none_passed j v c h few now back);
            published = now.published;
            steps = omega (arith, now.steps, length-append h (e ∷ []));
            few = omega (arith, now.few);
            cuts = omega (arith, now.cuts, cuts_grow h e);
            long = long_stays setting_stays h e refl now.long;
          };
          less = now.few;
        }

    pub submit_good : (j v : ℕ) (h : List Entry) (o : Outcome) → j < 2_000 → v < 10_000 → Reached 500 j 0 1 h → ComesTo h 0 (asked.submit j v) o
        → Good (Turned j) h o
    submit_good j v h o few below now comes =
        let small : j < 2 ^ 64 = omega (arith, few) in
        let at : place j < 500 = omega arith in
        let there = now.lists.there (place j) at in
        let c : ℕ = there.0.number in
        let found : number_of (asked.commit_name (place j)) h ≡ Some c = rw there.1 refl in
        let free : accepted (asked.run_name j) h ≡ None = no_run now.lists small in
        let back : retracted (asked.run_name j) h ≡ None = not_back now.lists j small (omega arith) in
        let passes = none_passed j v c h few now back in
        let fits : forms.submit h asked.machine (asked.commit_name (place j)) (asked.run_name j) (asked.sample v ∷ []) 0 None ≡
        record { answer = answer.Accepted (asked.run_name j) 1 0; adds = Some (entry.Accept (run_of j v c)) } =
        submit_fits h (asked.commit_name (place j)) (asked.run_name j) (asked.sample v ∷ []) c found free passes in
        good_added (Turned j) h o (answer.Accepted (asked.run_name j) 1 0) (entry.Accept (run_of j v c)) (comes ∙ fits) (λ reason is. cc)
        (run_history j v c h few below now back)

  -- ---- a publication more
  module _ (publish_limits : LimitsAfterPublish) (publish_added : PublishIsAdded) (series_limits : SeriesKeepLimits) (is_last : PublicationIsLast) where
    publish_history : (j r t next more : ℕ) (h : List Entry) (p : Publication) (now : Reached 500 j r t h) → j ≤ 2_000 → r ≤ 10 → t ≤ 2 → length p.cuts ≤ 16_384
        → more + next ≡ now.published + t + 1 → 100 * more ≤ j → Reached 500 j r next (h ++ entry.Publish p ∷ [])
    publish_history j r t next more h p now runs few other cuts sum at =
        let e : Entry = entry.Publish p in
        let last : List Entry = h ++ e ∷ [] in
        let ds : declarations last ≡ declarations h = declared h e ∙ append-nil (declarations h) in
        let xs : acceptances last ≡ acceptances h = accepts h e ∙ append-nil (acceptances h) in
        let rs : retractions last ≡ retractions h = retracts h e ∙ append-nil (retractions h) in
        record {
          lists = stay h last now.lists ds xs rs;
          limits = publish_limits h p now.limits (omega (arith, now.steps, now.few, runs, few, other)) (omega (arith, now.cuts, now.few, runs, other, cuts));
          published = more;
          steps = omega (arith, now.steps, length-append h (e ∷ []), sum);
          few = at;
          cuts = omega (arith, now.cuts, cuts_grow h e, cuts, sum);
          long = long_stays setting_stays h e refl now.long;
        }

    record Published (j r t : ℕ) (h : List Entry) (o : Outcome) (now : Reached 500 j r t h) : Type 0 where
      p : Publication
      told : Answer
      is : o ≡ record { answer = told; adds = Some (entry.Publish p) }
      few : length p.cuts ≤ 16_384
      accepted : (reason : Refusal) → told ≢ answer.Refused reason
      last : last_publication series (h ++ entry.Publish p ∷ []) ≡ Some p

    known : (j r t : ℕ) (h : List Entry) → 0 < j → Reached 500 j r t h → is_known series h ≡ true
    known j r t h some now = known_there j (acceptances h) now.lists.taken (omega (arith, now.lists.runs, some))

    published_of : (j r t : ℕ) (h : List Entry) (base : ℕ) (o : Outcome) (now : Reached 500 j r t h) → 0 < j → j ≤ 2_000 → r ≤ 10 → t ≤ 2
        → ComesTo h base asked.segment o → Published j r t h o now
    published_of j r t h base o now some runs back other comes =
        let made : IsPublished h base series o = subst (λ b. OfKnown b (IsPublished h base series) o) (known j r t h some now) comes in
        let cert : Cert = made.0 in
        let p : Publication = publication series (length h) base cert in
        let few : length cert.cuts ≤ 16_384 = omega (
          arith,
          cuts_few 0 (length (positions h series)) cert.cuts (omega arith) (places-rise (length_of asked.metric h) (length (positions h series)) cert.cuts made.1.best.is_cut_list),
          (series_limits h series now.limits).1,
        ) in
        record {
          p = p;
          told = segmented (length h) base (redone_since h base series) cert;
          is = made.2 ∙ publish_added h p (segmented (length h) base (redone_since h base series) cert)
              (record { steps = omega (arith, now.steps, now.few, runs, back, other); cuts = omega (arith, now.cuts, now.few, runs, other, few) });
          few = few;
          accepted = λ reason is. cc;
          last = is_last h (entry.Publish p) series p refl;
        }

    -- after each hundredth run
    pub segment_good : (j : ℕ) (h : List Entry) (base : ℕ) (o : Outcome) → j < 2_000 → (j + 1) % 100 ≡ 0 → Turned j h → ComesTo h base asked.segment o
        → Good (Reached 500 (suc j) 0 1) h o
    segment_good j h base o few hundred turned comes =
        let now = turned.reached in
        let made = published_of (suc j) 0 1 h base o now (omega arith) (omega (arith, few)) (omega arith) (omega arith) comes in
        good_added (Reached 500 (suc j) 0 1) h o made.told (entry.Publish made.p) made.is made.accepted
        (publish_history (suc j) 0 1 1 (now.published + 1) h made.p now (omega (arith, few)) (omega arith) (omega arith) made.few (omega arith)
        (omega (arith, turned.less, hundred)))

    -- at the end
    pub last_good : (h : List Entry) (base : ℕ) (o : Outcome) → Reached 500 2_000 10 1 h → ComesTo h base asked.segment o → Good Ready h o
    last_good h base o now comes =
        let made = published_of 2_000 10 1 h base o now (omega arith) (omega arith) (omega arith) (omega arith) comes in
        good_added Ready h o made.told (entry.Publish made.p) made.is made.accepted
        (record {
          reached = publish_history 2_000 10 1 2 now.published h made.p now (omega arith) (omega arith) (omega arith) made.few (omega arith) now.few;
          p = made.p;
          last = made.last;
        })

    pub changes_good : (h : List Entry) (o : Outcome) → Ready h → ComesTo h 0 (request.Changes asked.machine asked.test asked.metric) o
        → Good (λ now. Unit {0}) h o
    changes_good h o ready comes =
        let of_known : OfPublished (last_publication series h) (TellsChanges h series) o =
        subst (λ b. OfKnown b (OfPublished (last_publication series h) (TellsChanges h series)) o) (known 2_000 10 2 h (omega arith) ready.reached) comes in
        let told : TellsChanges h series ready.p o = subst (λ l. OfPublished l (TellsChanges h series) o) ready.last of_known in
        subst (Good (λ now. Unit {0}) h) (sym told.2) (record { accepted = λ reason is. cc; holds = tt })
