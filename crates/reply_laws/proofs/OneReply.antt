-- Private: no public contract cites this. One reply at most names a step of a journal.
use Rattle.std.proofs.Common.{◌≡◌, ℕ, ◌+◌, ◌≤◌, Bool, true, false, List, [], ◌∷◌, length, take, Option, Some, None, refl, sym, ap, subst, ◌∙◌, arith}
use Rattle.std.{specs.Prelude.slice_get, proofs.lemmas.List.{length-take-le, length-map}}
use Rattle.segment_cost.specs.{Certificate.{OneCertificate, StandsFor}, declared.cert.Cert.Cert}
use Rattle.metric_table.specs.declared.limits.Limit.{Limit, TheVariants.{Cuts, Steps}}
use Rattle.history_model.specs.declared.{entries.Author.Author, entries.Entry.Entry, entries.Placed.Placed, publication.Publication.Publication}
use Rattle.history_model.specs.declared.entries.Entry.TheVariants as entry
use Rattle.history_model.specs.{Allowed.first_passed, Penalties.{penalty_of, length_of}, Positions.positions, Publications.last_publication}
use Rattle.history_model.specs.Runs.{Series, is_known}
use Rattle.request_model.specs.declared.{requests.Request.Request, replies.Answer.Answer}
use Rattle.request_model.specs.declared.requests.Request.TheVariants as request
use Rattle.request_model.specs.declared.replies.Refusal.TheVariants as refusal
use Rattle.track_model.specs.{Counts.is_segment, Laws.OneOutcome, Outcomes.{Outcome, refuses, added_unless}}
use Rattle.track_model.specs.{Publishing.{OfKnown, OfLatest, IsPublishedFrom, later, publication, publish, redone_since, segmented}, Replies.reply_of}
use Rattle.play_model.{specs.Replies.{first_of, ComesToBeside, Adds, Tells}, proofs.Replies.{added-step, told-step}}
use Rattle.reply_laws.specs.Laws.{OneAdds, OneTells, PlainBeside}

-- ---- requests that segment nothing

pub one_beside : OneOutcome → (v w : List Entry) (b c : ℕ) (h : List Entry) (q : Request) (one other : Outcome) → is_segment q ≡ false
    → ComesToBeside v b h q one → ComesToBeside w c h q other → one ≡ other
one_beside once v w b c h (request.Machine machine) one other plain p q = p ∙ sym q
one_beside once v w b c h (request.Commit machine number name) one other plain p q = once h 0 (request.Commit machine number name) one other p q
one_beside once v w b c h (request.Submit machine commit run samples ignored stated) one other plain p q = once h 0 (request.Submit machine commit run samples ignored stated) one other p q
one_beside once v w b c h (request.Retract machine run) one other plain p q = once h 0 (request.Retract machine run) one other p q
one_beside once v w b c h (request.Tune machine metric penalty given) one other plain p q = once h 0 (request.Tune machine metric penalty given) one other p q
one_beside once v w b c h (request.Calibrate machine test metric factor) one other plain p q = once h 0 (request.Calibrate machine test metric factor) one other p q
one_beside once v w b c h (request.Segment machine test metric) one other plain p q = absurd (cc)
one_beside once v w b c h (request.Changes machine test metric) one other plain p q = once h 0 (request.Changes machine test metric) one other p q
one_beside once v w b c h (request.Verify machine test metric) one other plain p q = once h 0 (request.Verify machine test metric) one other p q
one_beside once v w b c h (request.Regress machine test metric number) one other plain p q = once h 0 (request.Regress machine test metric number) one other p q
one_beside once v w b c h (request.SetState machine number state) one other plain p q = once h 0 (request.SetState machine number state) one other p q
one_beside once v w b c h (request.Bisect machine lo hi) one other plain p q = once h 0 (request.Bisect machine lo hi) one other p q
one_beside once v w b c h (request.Answer machine number commit status) one other plain p q = once h 0 (request.Answer machine number commit status) one other p q
one_beside once v w b c h (request.Resume machine number) one other plain p q = once h 0 (request.Resume machine number) one other p q
one_beside once v w b c h (request.Job machine number) one other plain p q = once h 0 (request.Job machine number) one other p q
one_beside once v w b c h (request.Runs machine) one other plain p q = once h 0 (request.Runs machine) one other p q
one_beside once v w b c h (request.Report machine json) one other plain p q = once h 0 (request.Report machine json) one other p q

-- ---- requests beside others and alone

pub plain_beside : PlainBeside
plain_beside v b h (request.Machine machine) o plain shared is = absurd (cc)
plain_beside v b h (request.Segment machine test metric) o plain shared is = absurd (cc)
plain_beside v b h (request.Commit machine number name) o plain shared is = is
plain_beside v b h (request.Submit machine commit run samples ignored stated) o plain shared is = is
plain_beside v b h (request.Retract machine run) o plain shared is = is
plain_beside v b h (request.Tune machine metric penalty given) o plain shared is = is
plain_beside v b h (request.Calibrate machine test metric factor) o plain shared is = is
plain_beside v b h (request.Changes machine test metric) o plain shared is = is
plain_beside v b h (request.Verify machine test metric) o plain shared is = is
plain_beside v b h (request.Regress machine test metric number) o plain shared is = is
plain_beside v b h (request.SetState machine number state) o plain shared is = is
plain_beside v b h (request.Bisect machine lo hi) o plain shared is = is
plain_beside v b h (request.Answer machine number commit status) o plain shared is = is
plain_beside v b h (request.Resume machine number) o plain shared is = is
plain_beside v b h (request.Job machine number) o plain shared is = is
plain_beside v b h (request.Runs machine) o plain shared is = is
plain_beside v b h (request.Report machine json) o plain shared is = is

-- ---- segmentations that are published

-- a publication on a history, with its certificate
pub record IsPublishing (v : List Entry) (base : ℕ) (h : List Entry) (s : Series) (e : Entry) (o : Outcome) : Type 0 where
  pub comes : IsPublishedFrom v base h s o
  pub is : o ≡ record { answer = segmented (length v) base (redone_since v base s) comes.0; adds = Some e }
  pub adds : e ≡ entry.Publish (publication s (length v) base comes.0)

published-by : (passed : Option Limit) (e x : Entry) (told : Answer) → (added_unless passed e told).adds ≡ Some x
    → (added_unless passed e told ≡ record { answer = told; adds = Some x }) × (x ≡ e)
published-by None e x told is =
    let same : e ≡ x = cc in
    (ap (λ (y : Entry). let o : Outcome = record { answer = told; adds = Some y } in o) same, sym same)
published-by (Some limit) e x told is = absurd (cc)

pub publishing : (v : List Entry) (base : ℕ) (h : List Entry) (s : Series) (e : Entry) (o : Outcome) (known : Bool) (old : Option ℕ)
    → OfKnown known (OfLatest old (IsPublishedFrom v base h s)) o → o.adds ≡ Some e → IsPublishing v base h s e o
publishing v base h s e o false old is adds = let none : (refuses refusal.UnknownSeries).adds ≡ Some e = subst (λ (x : Outcome). x.adds ≡ Some e) is adds in absurd (cc)
publishing v base h s e o true (Some version) is adds = let none : (refuses (refusal.Stale version)).adds ≡ Some e = subst (λ (x : Outcome). x.adds ≡ Some e) is adds in absurd (cc)
publishing v base h s e o true None is adds =
    let p : Publication = publication s (length v) base is.0 in
    let told : Answer = segmented (length v) base (redone_since v base s) is.0 in
    let by = published-by (first_passed (Steps ∷ Cuts ∷ []) h (entry.Publish p)) (entry.Publish p) e told (subst (λ (x : Outcome). x.adds ≡ Some e) is.3 adds) in
    record { comes = is; is = is.3 ∙ by.0; adds = by.1 }

-- the number of entries before it
first-length : (j : List Placed) (count : ℕ) → count ≤ length j → length (first_of count j) ≡ count
first-length j count le = length-map (take count j) (λ (p : Placed). p.entry) ∙ length-take-le count j le

abbrev publication-of : Entry → Option Publication
publication-of (entry.Publish p) = Some p
publication-of e = None

-- the entry tells version, base and cuts; so the certificates are of one version, and one
module _ (certificate : OneCertificate) (j : List Placed) (s : Series) where
  same-published : (v w b c : ℕ) (h : List Entry) (e : Entry) (one other : Outcome) → v ≤ length j → w ≤ length j
      → IsPublishing (first_of v j) b h s e one → IsPublishing (first_of w j) c h s e other → one ≡ other
  same-published v w b c h e one other le lw p q =
      let lv : length (first_of v j) ≡ v = first-length j v le in
      let lo : length (first_of w j) ≡ w = first-length j w lw in
      let x : Publication = publication s (length (first_of v j)) b p.comes.0 in
      let y : Publication = publication s (length (first_of w j)) c q.comes.0 in
      let same : Some x ≡ Some y = ap publication-of (sym p.adds ∙ q.adds) in
      let xy : x ≡ y = cc in
      let lengths : length (first_of v j) ≡ length (first_of w j) = ap (λ (z : Publication). z.version) xy in
      let bases : b ≡ c = ap (λ (z : Publication). z.base) xy in
      let versions : v ≡ w = sym lv ∙ lengths ∙ lo in
      let other_stands : StandsFor (positions (first_of v j) s) (penalty_of s.metric (first_of v j)) (length_of s.metric (first_of v j)) q.comes.0 =
      subst (λ (n : ℕ). StandsFor (positions (first_of n j) s) (penalty_of s.metric (first_of n j)) (length_of s.metric (first_of n j)) q.comes.0) (sym versions) q.comes.1 in
      let certs : p.comes.0 ≡ q.comes.0 =
      certificate (positions (first_of v j) s) (penalty_of s.metric (first_of v j)) (length_of s.metric (first_of v j)) p.comes.0 q.comes.0 p.comes.1 other_stands in
      let Told : ℕ → ℕ → Cert → Outcome = λ n base cert. record { answer = segmented (length (first_of n j)) base (redone_since (first_of n j) base s) cert; adds = Some e } in
      p.is ∙ ap (λ (n : ℕ). Told n b p.comes.0) versions ∙ ap (λ (base : ℕ). Told w base p.comes.0) bases ∙ ap (Told w c) certs ∙ sym q.is

-- ---- any request

-- outcomes of two replies behind as many entries that add the same
same-adding : OneOutcome → OneCertificate → (j : List Placed) (v w b c count : ℕ) (q : Request) (e : Entry) (one other : Outcome)
    → v ≤ length j → w ≤ length j → ComesToBeside (first_of v j) b (first_of count j) q one → ComesToBeside (first_of w j) c (first_of count j) q other
    → one.adds ≡ Some e → other.adds ≡ Some e → one ≡ other
same-adding once cert j v w b c count (request.Segment machine test metric) e one other lv lw p q ap1 ap2 =
    let s : Series = record { test = test; metric = metric } in
    let h : List Entry = first_of count j in
    let x = publishing (first_of v j) b h s e one (is_known s h) (later (length (first_of v j)) (last_publication s h)) p ap1 in
    let y = publishing (first_of w j) c h s e other (is_known s h) (later (length (first_of w j)) (last_publication s h)) q ap2 in
    same-published cert j s v w b c h e one other lv lw x y
same-adding once cert j v w b c count (request.Machine machine) e one other lv lw p q ap1 ap2 = one_beside once (first_of v j) (first_of w j) b c (first_of count j) (request.Machine machine) one other refl p q
same-adding once cert j v w b c count (request.Commit machine number name) e one other lv lw p q ap1 ap2 = one_beside once (first_of v j) (first_of w j) b c (first_of count j) (request.Commit machine number name) one other refl p q
same-adding once cert j v w b c count (request.Submit machine commit run samples ignored stated) e one other lv lw p q ap1 ap2 = one_beside once (first_of v j) (first_of w j) b c (first_of count j) (request.Submit machine commit run samples ignored stated) one other refl p q
same-adding once cert j v w b c count (request.Retract machine run) e one other lv lw p q ap1 ap2 = one_beside once (first_of v j) (first_of w j) b c (first_of count j) (request.Retract machine run) one other refl p q
same-adding once cert j v w b c count (request.Tune machine metric penalty given) e one other lv lw p q ap1 ap2 = one_beside once (first_of v j) (first_of w j) b c (first_of count j) (request.Tune machine metric penalty given) one other refl p q
same-adding once cert j v w b c count (request.Calibrate machine test metric factor) e one other lv lw p q ap1 ap2 = one_beside once (first_of v j) (first_of w j) b c (first_of count j) (request.Calibrate machine test metric factor) one other refl p q
same-adding once cert j v w b c count (request.Changes machine test metric) e one other lv lw p q ap1 ap2 = one_beside once (first_of v j) (first_of w j) b c (first_of count j) (request.Changes machine test metric) one other refl p q
same-adding once cert j v w b c count (request.Verify machine test metric) e one other lv lw p q ap1 ap2 = one_beside once (first_of v j) (first_of w j) b c (first_of count j) (request.Verify machine test metric) one other refl p q
same-adding once cert j v w b c count (request.Regress machine test metric number) e one other lv lw p q ap1 ap2 = one_beside once (first_of v j) (first_of w j) b c (first_of count j) (request.Regress machine test metric number) one other refl p q
same-adding once cert j v w b c count (request.SetState machine number state) e one other lv lw p q ap1 ap2 = one_beside once (first_of v j) (first_of w j) b c (first_of count j) (request.SetState machine number state) one other refl p q
same-adding once cert j v w b c count (request.Bisect machine lo hi) e one other lv lw p q ap1 ap2 = one_beside once (first_of v j) (first_of w j) b c (first_of count j) (request.Bisect machine lo hi) one other refl p q
same-adding once cert j v w b c count (request.Answer machine number commit status) e one other lv lw p q ap1 ap2 = one_beside once (first_of v j) (first_of w j) b c (first_of count j) (request.Answer machine number commit status) one other refl p q
same-adding once cert j v w b c count (request.Resume machine number) e one other lv lw p q ap1 ap2 = one_beside once (first_of v j) (first_of w j) b c (first_of count j) (request.Resume machine number) one other refl p q
same-adding once cert j v w b c count (request.Job machine number) e one other lv lw p q ap1 ap2 = one_beside once (first_of v j) (first_of w j) b c (first_of count j) (request.Job machine number) one other refl p q
same-adding once cert j v w b c count (request.Runs machine) e one other lv lw p q ap1 ap2 = one_beside once (first_of v j) (first_of w j) b c (first_of count j) (request.Runs machine) one other refl p q
same-adding once cert j v w b c count (request.Report machine json) e one other lv lw p q ap1 ap2 = one_beside once (first_of v j) (first_of w j) b c (first_of count j) (request.Report machine json) one other refl p q

same-entry : (j : List Placed) (n : ℕ) (author : Author) (d e : Entry) → slice_get j n ≡ Some (record { author = author; entry = d }) → slice_get j n ≡ Some (record { author = author; entry = e }) → d ≡ e
same-entry j n author d e one other =
    let x : Placed = record { author = author; entry = d } in
    let y : Placed = record { author = author; entry = e } in
    let both : Some x ≡ Some y = sym one ∙ other in
    let same : x ≡ y = cc in
    ap (λ (p : Placed). p.entry) same

pub one_adds : OneOutcome → OneCertificate → OneAdds
one_adds once cert author j known q one other a b steps =
    let first : one.step ≡ a.count + 1 = added-step author j known q one a in
    let second : other.step ≡ b.count + 1 = added-step author j known q other b in
    let counts : b.count ≡ a.count = omega (arith, first, second, steps) in
    let there : slice_get j a.count ≡ Some (record { author = author; entry = b.entry }) =
    subst (λ (n : ℕ). slice_get j n ≡ Some (record { author = author; entry = b.entry })) counts b.stands in
    let entries : b.entry ≡ a.entry = same-entry j a.count author b.entry a.entry there a.stands in
    let comes : ComesToBeside (first_of b.comes.version j) b.comes.base (first_of a.count j) q b.outcome =
    subst (λ (n : ℕ). ComesToBeside (first_of b.comes.version j) b.comes.base (first_of n j) q b.outcome) counts b.comes.comes in
    let outcomes : a.outcome ≡ b.outcome =
    same-adding once cert j a.comes.version b.comes.version a.comes.base b.comes.base a.count q a.entry a.outcome b.outcome
    (omega (arith, a.comes.made_before, a.comes.within)) (omega (arith, b.comes.made_before, b.comes.within))
    a.comes.comes comes a.adds (b.adds ∙ ap Some entries) in
    a.told ∙ ap (reply_of (first_of a.count j)) outcomes ∙ ap (λ (n : ℕ). reply_of (first_of n j) b.outcome) (sym counts) ∙ sym b.told

pub one_tells : OneOutcome → OneTells
one_tells once j known q one other plain a b steps =
    let first : one.step ≡ a.count = told-step j known q one a in
    let second : other.step ≡ b.count = told-step j known q other b in
    let counts : b.count ≡ a.count = omega (arith, first, second, steps) in
    let comes : ComesToBeside (first_of b.comes.version j) b.comes.base (first_of a.count j) q b.outcome =
    subst (λ (n : ℕ). ComesToBeside (first_of b.comes.version j) b.comes.base (first_of n j) q b.outcome) counts b.comes.comes in
    let outcomes : a.outcome ≡ b.outcome =
    one_beside once (first_of a.comes.version j) (first_of b.comes.version j) a.comes.base b.comes.base (first_of a.count j) q a.outcome b.outcome plain a.comes.comes comes in
    a.told ∙ ap (reply_of (first_of a.count j)) outcomes ∙ ap (λ (n : ℕ). reply_of (first_of n j) b.outcome) (sym counts) ∙ sym b.told
