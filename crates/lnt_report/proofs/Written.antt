-- The tree that is written of a run is the run's, and breaks no rule.
use Rattle.std.proofs.Common.{◌≡◌, ◌≢◌, ℕ, ◌+◌, ◌≤◌, ◌<◌, ◌-◌, List, [], ◌∷◌, ◌++◌, Bool, true, false, map, length, get_or, drop, take, refl, sym, ap, subst, arith, None, Ok, nat_lt, nat_le, codes, All, append_assoc, append-nil}
use Rattle.std.{specs.List.{flat_map, sum_by}, specs.Str.{bytes_eq, is_utf8}, proofs.lemmas.Str.is_utf8-from_IsUtf8, proofs.lemmas.Grind.common_steps}
use Rattle.std.proofs.lemmas.{Bool.{lt-ltb, le-leb, and_from}, List.Elements.{All-head, All-tail}, Slice.Eq.bytes_eq-Decides}
use Rattle.json_text.specs.{Tree.{nesting, items_nesting}, View.items_of}
use Rattle.line_text.specs.{Names.IsName, Numbers.NumbersAreSpelled}
use Rattle.metric_value.specs.Values.{value_text, ValueIsReadBack}
use Rattle.metric_table.specs.{Limits.most, declared.limits.Limit.TheVariants.RunSamples}
use Rattle.sample_model.specs.Samples.{Measurement, IsSample, AreSamples}
use Rattle.lnt_report.specs.{Look.{trees, is_name, has_metric_length}, Rules.{first_break, repeated_key, repeated_in_items, tests_break, test_break}}
use Rattle.lnt_report.specs.{Numbers.{Reading, reading, test_readings, test_ignored, IsMeasured, AreMeasured, none, one}, Runs.{Report, IsGiven, IsRun}}
use Rattle.lnt_report.specs.{Outcomes.IsDue, Quoted.quoted, Written.{compact, compact_items, more_items, test_tree, run_tree}}
use Rattle.lnt_report.proofs.{ValueNumbers.{value-number, value-utf8}, Compact.{IsFine, AreFine, ascii, compact-text, compact-utf8}}

is_false : (b : Bool) → (b ≡ true → ⊥) → b ≡ false
is_false b h = grind (arith, common_steps)

different : (a b : List ℕ) → a ≢ b → bytes_eq a b ≡ false
different a b n = is_false (bytes_eq a b) (λ e. n ((bytes_eq-Decides a b).0 e))

-- What is known of a sample that is written, as tests.
record Fit (m : Measurement) : Type 0 where
  sample : IsSample m
  test : is_name m.test ≡ true
  new : bytes_eq (codes "name") m.metric ≡ false
  metric : bytes_eq m.metric (codes "name") ≡ false
  length : has_metric_length m.metric ≡ true

pub named_test : (bytes : List ℕ) → IsName bytes → is_name bytes ≡ true
named_test bytes h = grind (arith, common_steps, and_from, is_utf8, nat_lt, length, nat_le, is_utf8-from_IsUtf8, lt-ltb, le-leb)

fits : (m : Measurement) → IsSample m → IsGiven m → Fit m
fits m s g = grind (arith, common_steps, named_test, different, codes, length, and_from, nat_lt, nat_le, lt-ltb)

EachFit : List Measurement → Type 0
EachFit [] = Unit {0}
EachFit (m ∷ ms) = Fit m × EachFit ms

each_fits : (ms : List Measurement) → All IsSample ms → All IsGiven ms → EachFit ms
unfolding EachFit
each_fits [] s g = tt
each_fits (m ∷ ms) s g =
    (fits m (All-head IsSample m ms s) (All-head IsGiven m ms g), each_fits ms (All-tail IsSample m ms s) (All-tail IsGiven m ms g))

-- No key of a sample comes twice.
second_test : (m : Measurement) → Fit m → repeated_key (test_tree m) ≡ None
second_test m h = rw h.new refl

no_second : (place : ℕ) (ms : List Measurement) → EachFit ms → repeated_in_items place (items_of (map test_tree ms)) ≡ None
unfolding EachFit
no_second place [] h = refl
no_second place (m ∷ ms) h = rw (second_test m h.0, no_second (place + 1) ms h.1) refl

-- A sample breaks no rule.
test_sound : (path : List ℕ) (m : Measurement) → Fit m → test_break path (test_tree m) ≡ None
test_sound path m h = rw (h.test, h.metric, h.length) refl

no_break : (place : ℕ) (ms : List Measurement) → EachFit ms → tests_break place (trees (items_of (map test_tree ms))) ≡ None
unfolding EachFit
no_break place [] h = refl
no_break place (m ∷ ms) h = rw (test_sound _ m h.0, no_break (place + 1) ms h.1) refl

-- The numbers are the samples.
test_reads : (m : Measurement) → Fit m → test_readings (test_tree m) ≡ reading m.test m.metric (value_text m.metric m.value) ∷ []
test_reads m h = rw (h.test, h.metric, h.length) refl

test_measured : ValueIsReadBack → (m : Measurement) → Fit m → IsMeasured (reading m.test m.metric (value_text m.metric m.value)) m
test_measured law m h = grind (arith, common_steps)

measured : ValueIsReadBack → (ms : List Measurement) → EachFit ms → AreMeasured (flat_map test_readings (trees (items_of (map test_tree ms)))) ms
unfolding EachFit
measured law [] h = none
measured law (m ∷ ms) h =
    subst (λ (rs : List Reading). AreMeasured (rs ++ flat_map test_readings (trees (items_of (map test_tree ms)))) (m ∷ ms)) (sym (test_reads m h.0))
    (one (test_measured law m h.0) (measured law ms h.1))

none_ignored : (ms : List Measurement) → EachFit ms → sum_by test_ignored (trees (items_of (map test_tree ms))) ≡ 0
unfolding EachFit
none_ignored [] h = refl
none_ignored (m ∷ ms) h = grind (arith, common_steps, none_ignored ms h.1)

-- How deep samples lie.
depth : (ms : List Measurement) → items_nesting (items_of (map test_tree ms)) ≤ 1
depth [] = omega arith
depth (m ∷ ms) = omega (arith, depth ms)

-- What is in a sample is spelled as it may be.
test_fine : NumbersAreSpelled → ValueIsReadBack → (m : Measurement) → Fit m → IsFine (test_tree m)
test_fine numbers law m h = grind (arith, common_steps, ascii, codes, value-number, value-utf8)

all_fine : NumbersAreSpelled → ValueIsReadBack → (ms : List Measurement) → EachFit ms → AreFine (items_of (map test_tree ms))
unfolding EachFit
all_fine numbers law [] h = tt
all_fine numbers law (m ∷ ms) h = (test_fine numbers law m h.0, all_fine numbers law ms h.1)

fine : NumbersAreSpelled → ValueIsReadBack → (machine commit : List ℕ) (ms : List Measurement) → IsName machine → IsName commit → EachFit ms
    → IsFine (run_tree machine commit ms)
fine numbers law machine commit ms a b h = grind (arith, common_steps, ascii, codes, all_fine)

sound : (machine commit : List ℕ) (ms : List Measurement) → is_name machine ≡ true → is_name commit ≡ true → EachFit ms
    → first_break (run_tree machine commit ms) ≡ None
sound machine commit ms a b h = rw (no_second 0 ms h, a, b, no_break 0 ms h) refl

is_run : ValueIsReadBack → (machine commit : List ℕ) (ms : List Measurement) → is_name machine ≡ true → is_name commit ≡ true → EachFit ms
    → length ms ≤ most RunSamples
    → IsRun (run_tree machine commit ms) (record { machine = machine; commit = commit; samples = ms; ignored = 0 })
is_run law machine commit ms a b h small = grind (arith, common_steps, measured, none_ignored)

within : (machine commit : List ℕ) (ms : List Measurement) → nesting (run_tree machine commit ms) ≤ 32
within machine commit ms = omega (arith, depth ms)

-- what is written of a run is due to be read as the run
pub is_due : NumbersAreSpelled → ValueIsReadBack → (machine commit : List ℕ) (ms : List Measurement)
    → IsName machine → IsName commit → AreSamples ms → All IsGiven ms
    → IsDue (compact (run_tree machine commit ms)) (Ok (record { machine = machine; commit = commit; samples = ms; ignored = 0 }))
is_due numbers law machine commit ms a b s g =
    let h : EachFit ms = each_fits ms s.each g in
    let spelled : IsFine (run_tree machine commit ms) = fine numbers law machine commit ms a b h in (
      run_tree machine commit ms,
      record { utf8 = compact-utf8 (run_tree machine commit ms) spelled; text = compact-text (run_tree machine commit ms) spelled; within = within machine commit ms },
      (
        sound machine commit ms (named_test machine a) (named_test commit b) h,
        is_run law machine commit ms (named_test machine a) (named_test commit b) h s.few,
      ),
    )

-- a sample behind a comma
pub behind : Measurement → List ℕ
behind m = 44 ∷ compact (test_tree m)

more_are : (ms : List Measurement) → more_items (items_of (map test_tree ms)) ≡ flat_map behind ms
unfolding behind
more_are [] = refl
more_are (m ∷ ms) = ap (λ (rest : List ℕ). 44 ∷ (compact (test_tree m) ++ rest)) (more_are ms)

pub tests_begin : (o p : List ℕ) (first : Measurement) (rest samples : List Measurement) → samples ≡ first ∷ rest → p ≡ o ++ compact (test_tree first)
    → p ++ flat_map behind rest ≡ o ++ compact_items (items_of (map test_tree samples))
tests_begin o p first rest samples e h = rw (e, h, more_are rest) (append_assoc o (compact (test_tree first)) (flat_map behind rest))

-- a list of one or more, as its first and the rest
pub first_and_rest : (xs : List Measurement) (x : Measurement) → 0 < length xs → x ≡ get_or xs 0 x → xs ≡ x ∷ take (length xs - 1) (drop 1 xs)
first_and_rest xs x h e = grind (arith, common_steps)

regroup : (a c r : List ℕ) → ((a ++ 44 ∷ []) ++ c) ++ r ≡ a ++ (44 ∷ (c ++ r))
regroup a c r = simp append_assoc

pub tests_step : (whole o p q : List ℕ) (xs : List Measurement) (i : ℕ) (x : Measurement) → i < length xs → x ≡ get_or xs i x
    → p ≡ o ++ 44 ∷ [] → q ≡ p ++ compact (test_tree x) → o ++ flat_map behind (drop i xs) ≡ whole → q ++ flat_map behind (drop (i + 1) xs) ≡ whole
unfolding behind
tests_step whole o p q xs i x h e f g k = grind (arith, common_steps)

pub tests_end : (whole o : List ℕ) (xs : List Measurement) (i : ℕ) → length xs ≤ i → o ++ flat_map behind (drop i xs) ≡ whole → o ≡ whole
tests_end whole o xs i h k = grind (arith, common_steps)

run_joined : (old machine commit : List ℕ) (samples : List Measurement)
    → ((((((old ++ (123 ∷ quoted (codes "format_version") ++ 58 ∷ quoted (codes "2") ++ 44 ∷ quoted (codes "machine") ++ 58 ∷ 123 ∷ quoted (codes "name") ++ 58 ∷ []))
    ++ quoted machine) ++ (125 ∷ 44 ∷ quoted (codes "run") ++ 58 ∷ 123 ∷ quoted (codes "llvm_project_revision") ++ 58 ∷ []))
    ++ quoted commit) ++ (125 ∷ 44 ∷ quoted (codes "tests") ++ 58 ∷ 91 ∷ [])) ++ compact_items (items_of (map test_tree samples))) ++ 93 ∷ 125 ∷ []
    ≡ old ++ compact (run_tree machine commit samples)
run_joined old machine commit samples = simp (append_assoc, append-nil)

pub run_written : (r : Report) (machine commit : List ℕ) (samples : List Measurement) (a b c d e f g h : List ℕ)
    → machine ≡ r.machine → commit ≡ r.commit → samples ≡ r.samples
    → b ≡ a ++ (123 ∷ quoted (codes "format_version") ++ 58 ∷ quoted (codes "2") ++ 44 ∷ quoted (codes "machine") ++ 58 ∷ 123 ∷ quoted (codes "name") ++ 58 ∷ [])
    → c ≡ b ++ quoted machine → d ≡ c ++ (125 ∷ 44 ∷ quoted (codes "run") ++ 58 ∷ 123 ∷ quoted (codes "llvm_project_revision") ++ 58 ∷ [])
    → e ≡ d ++ quoted commit → f ≡ e ++ (125 ∷ 44 ∷ quoted (codes "tests") ++ 58 ∷ 91 ∷ []) → g ≡ f ++ compact_items (items_of (map test_tree samples))
    → h ≡ g ++ 93 ∷ 125 ∷ [] → h ≡ a ++ compact (run_tree r.machine r.commit r.samples)
run_written r machine commit samples a b c d e f g h l m n p q s t u v w = cc (run_joined a r.machine r.commit r.samples)
