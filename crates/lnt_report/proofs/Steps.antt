-- One number more is gathered, or is no sample.
use Rattle.std.proofs.Common.{◌≡◌, ◌≢◌, ℕ, ◌<◌, ◌≤◌, inl, inr, List, [], ◌∷◌, ◌++◌, Bool, true, false, All, length, sym, ap, ◌∙◌, subst, append_assoc, length-append, rules, arith, codes}
use Rattle.std.proofs.lemmas.{Bool.cases_lt, List.Elements.All-append, Grind.common_steps}
use Rattle.metric_table.specs.{Limits.most, declared.limits.Limit.TheVariants.RunSamples}
use Rattle.sample_model.specs.Samples.{Measurement}
use Rattle.lnt_report.specs.{Runs.IsGiven, Numbers.{Reading, IsMeasured, AreMeasured, none, one, is_metric}}
use Rattle.lnt_report.specs.{Gathering.{Leaves, AreBeyond}, declared.gathered.Gathered.Gathered}

pub measured_end : {rs : List Reading} {ms : List Measurement} {r : Reading} {m : Measurement} → AreMeasured rs ms → IsMeasured r m
    → AreMeasured (rs ++ r ∷ []) (ms ++ m ∷ [])
measured_end none h = one h none
measured_end (one first more) h = one first (measured_end more h)

all_one : (m : Measurement) → IsGiven m → All IsGiven (m ∷ [])
all_one m given = search rules

pub is_given : (metric : List ℕ) → is_metric metric ≡ true → metric ≢ codes "name"
is_given metric h e = let k : is_metric (codes "name") ≡ true = subst (λ (key : List ℕ). is_metric key ≡ true) e h in let f : false ≡ true = k in cc

no_beyond : (over : Bool) (kept beyond : List Measurement) → AreBeyond over kept beyond → length kept < most RunSamples → beyond ≡ []
no_beyond over kept beyond h room = grind (arith, common_steps)

still : (over : Bool) (kept after beyond : List Measurement) → AreBeyond over kept beyond → length kept < most RunSamples → AreBeyond over after []
still over kept after beyond h room = grind (arith, common_steps)

-- a sample that is kept, where there is room
pub kept_one : (all left : List Reading) (total more : ℕ) (r : Reading) (m : Measurement) (old new : Gathered)
    → Leaves all total (r ∷ left) more old → IsMeasured r m → IsGiven m → length old.samples < most RunSamples
    → new.samples ≡ old.samples ++ m ∷ [] → new.over ≡ old.over → new.ignored ≡ old.ignored → Leaves all total left more new
kept_one all left total more r m old new h measured given room e f g =
    let nothing : h.beyond ≡ [] = no_beyond old.over old.samples h.beyond h.over room in
    let listed : (old.samples ++ h.beyond) ++ m ∷ [] ≡ new.samples ++ [] = grind (arith, common_steps) in
    record {
      past = h.past ++ r ∷ [];
      beyond = [];
      count = h.count;
      split = append_assoc h.past (r ∷ []) left ∙ h.split;
      measured = subst (λ (ms : List Measurement). AreMeasured (h.past ++ r ∷ []) ms) listed (measured_end h.measured measured);
      over = subst (λ (over : Bool). AreBeyond over new.samples []) (sym f) (still old.over old.samples new.samples h.beyond h.over room);
      counted = h.counted;
      ignored = g ∙ h.ignored;
      given = subst (λ (ms : List Measurement). All IsGiven ms) (sym e) (All-append IsGiven old.samples (m ∷ []) h.given (all_one m given));
    }

-- a sample beyond those that are kept
pub beyond_one : (all left : List Reading) (total more : ℕ) (r : Reading) (m : Measurement) (old new : Gathered)
    → Leaves all total (r ∷ left) more old → IsMeasured r m → most RunSamples ≤ length old.samples
    → new.samples ≡ old.samples → new.over ≡ true → new.ignored ≡ old.ignored → Leaves all total left more new
beyond_one all left total more r m old new h measured full e f g =
    let listed : (old.samples ++ h.beyond) ++ m ∷ [] ≡ new.samples ++ (h.beyond ++ m ∷ []) = grind (arith, common_steps) in
    let some : 0 < length (h.beyond ++ m ∷ []) = omega (arith, length-append h.beyond (m ∷ [])) in
    let still_full : most RunSamples ≤ length new.samples = omega (arith, full, ap length e) in
    record {
      past = h.past ++ r ∷ [];
      beyond = h.beyond ++ m ∷ [];
      count = h.count;
      split = append_assoc h.past (r ∷ []) left ∙ h.split;
      measured = subst (λ (ms : List Measurement). AreMeasured (h.past ++ r ∷ []) ms) listed (measured_end h.measured measured);
      over = subst (λ (over : Bool). AreBeyond over new.samples (h.beyond ++ m ∷ [])) (sym f) (still_full, some);
      counted = h.counted;
      ignored = g ∙ h.ignored;
      given = subst (λ (ms : List Measurement). All IsGiven ms) (sym e) h.given;
    }

-- by whether there is room
pub by_room : {C : Type 0} (a b : ℕ) → (a < b → C) → (b ≤ a → C) → C
by_room a b room full = elim (cases_lt a b) [ inl h ↦ room h | inr h ↦ full h ]
