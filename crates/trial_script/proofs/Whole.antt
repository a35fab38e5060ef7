-- The script of a number is whole, and asks what it is for.
use Rattle.std.proofs.Common.{ℕ, suc, ◌+◌, ◌*◌, ◌%◌, ◌^◌, ◌<◌, ◌≤◌, inl, inr, Bool, true, false, List, [], ◌∷◌, ◌++◌, length, refl, sym, arith, length-append, append-nil}
use Rattle.std.{specs.Prelude.{codes, decimal, ◌==◌, if◌then◌else◌}, proofs.lemmas.Fmt.length-decimal-le, proofs.lemmas.List.Elements.All-nil}
use Rattle.line_text.specs.{Lines.{LinesEnd, WordsGoOn, AreOneWord}, Names.NamesAreSpelledBack, Numbers.NumbersAreSpelled}
use Rattle.request_words.{specs.Bodies.Item, proofs.Skipped.skipped_counts}
use Rattle.request_reader.specs.Scripts.{ArePieces, IsScript, last, end, input_limit}
use Rattle.script_session.specs.Laws.{OneScript}
use Rattle.series_gen.specs.Script.{place, value, state_after, commit_line, submit_line, body_line, segment_line, turn, retract_line, script}
use Rattle.trial_script.specs.Requests as asked
use Rattle.trial_script.specs.Laws.{ScriptAsks, ScriptIsWhole}
use Rattle.trial_script.proofs.Lines.{machine_piece, commit_piece, tune_piece, retract_piece, segment_piece, changes_piece, submit_piece, body_size}
use Rattle.trial_script.proofs.Parts.{machine_text, commit_texts, tune_text, run_texts, retract_texts, changes_text, machine_asked, commits_asked, tune_asked, runs_asked, retracts_asked, segment_asked, changes_asked}
use Rattle.trial_script.proofs.Turns.{oks, join, none, turns, turns_size}

-- ---- the value of a run has four digits

at_least : (j x : ℕ) → 1_000 ≤ value (place j) x
at_least j x = omega arith

below : (j x : ℕ) → value (place j) x < 10_000
below j x = let at : place j < 500 = omega arith in omega (arith, at)

-- ---- how many bytes

few_digits : (n : ℕ) → n < 10 ^ 10 → length (decimal n) ≤ 20
few_digits n few = length-decimal-le 20 n (omega arith) (omega (arith, few)) (omega (arith, few))

commit_size : (i : ℕ) → i < 500 → length (commit_line i) ≤ 1_000
commit_size i few =
    omega (
      arith,
      few_digits i (omega (arith, few)),
      length-append (codes "commit g " ++ decimal i ++ codes " c" ++ decimal i) (10 ∷ []),
      length-append (codes "commit g " ++ decimal i ++ codes " c") (decimal i),
      length-append (codes "commit g " ++ decimal i) (codes " c"),
      length-append (codes "commit g ") (decimal i),
    )

retract_size : (i : ℕ) → i < 10 → length (retract_line i) ≤ 1_000
retract_size i few =
    omega (
      arith,
      few_digits (200 * i) (omega (arith, few)),
      length-append (codes "retract g r" ++ decimal (200 * i)) (10 ∷ []),
      length-append
          (codes "retract g r") (decimal (200 * i)),
    )

submit_size : (j : ℕ) → j < 2_000 → length (submit_line j) ≤ 100
submit_size j few =
    let at : place j < 500 = omega arith in
    omega (
      arith,
      few_digits j (omega (arith, few)),
      few_digits (place j) (omega (arith, at)),
      length-append (codes "submit go g c" ++ decimal (place j) ++ codes " r" ++ decimal j ++ codes " 24") (10 ∷ []),
      length-append (codes "submit go g c" ++ decimal (place j) ++ codes " r" ++ decimal j) (codes " 24"),
      length-append (codes "submit go g c" ++ decimal (place j) ++ codes " r") (decimal j),
      length-append (codes "submit go g c" ++ decimal (place j)) (codes " r"),
      length-append (codes "submit go g c") (decimal (place j)),
    )

segment_size : (test : Bool) → length (if test then segment_line else []) ≤ 100
segment_size true = omega arith
segment_size false = omega arith

turn_size : (number j : ℕ) → j < 2_000 → length (turn number j) ≤ 1_000
turn_size number j few =
    let v : ℕ = value (place j) (state_after number (suc j)) in
    omega (
      arith,
      submit_size j few,
      segment_size ((j + 1) % 100 == 0),
      body_size v (at_least j _) (below j _),
      length-append (submit_line j ++ body_line v) (if (j + 1) % 100 == 0 then segment_line else []),
      length-append (submit_line j) (body_line v),
    )

script_size : (number : ℕ) → length (script number) ≤ input_limit
script_size number =
    omega (
      arith,
      length-append (machine_text ++ commit_texts ++ tune_text ++ run_texts number ++ retract_texts ++ segment_line) changes_text,
      length-append (machine_text ++ commit_texts ++ tune_text ++ run_texts number ++ retract_texts) segment_line,
      length-append (machine_text ++ commit_texts ++ tune_text ++ run_texts number) retract_texts,
      length-append (machine_text ++ commit_texts ++ tune_text) (run_texts number),
      length-append (machine_text ++ commit_texts) tune_text,
      length-append machine_text commit_texts,
      turns_size commit_line 500 commit_size,
      turns_size (turn number) 2_000 (turn_size number),
      turns_size retract_line 10 retract_size,
    )

-- ---- whole pieces

-- bytes that are pieces to their end, and not too many, are a script that ends well
whole : (bytes : List ℕ) (items : List Item) → length bytes ≤ input_limit → ArePieces bytes items → IsScript bytes items end
whole bytes items few pieces = inl (
  omega (arith, few),
  record {
    front = bytes;
    back = [];
    asked = items;
    last = [];
    split = sym (append-nil bytes);
    told = sym (append-nil items);
    pieces = pieces;
    ends = last refl (record { no_feed = All-nil _; short = omega arith }) (skipped_counts [] (inr refl)) (inl (inr refl, refl)) refl;
  },
)

module _ (names : NamesAreSpelledBack) (numbers : NumbersAreSpelled) (go_on : WordsGoOn) (one : AreOneWord) (ends : LinesEnd) where
  maybe_segment : (test : Bool) → ArePieces (if test then segment_line else []) (oks (if test then asked.segment ∷ [] else []))
  maybe_segment true = segment_piece names numbers go_on one ends
  maybe_segment false = none

  turn_pieces : (number j : ℕ) → j < 2_000 → ArePieces (turn number j) (oks (asked.turn number j))
  turn_pieces number j few =
      let v : ℕ = value (place j) (state_after number (suc j)) in
      join (submit_line j ++ body_line v) (if (j + 1) % 100 == 0 then segment_line else []) (asked.submit j v ∷ [])
      (if (j + 1) % 100 == 0 then asked.segment ∷ [] else [])
      (submit_piece names numbers go_on one ends j v (omega (arith, few)) (at_least j _) (below j _)) (maybe_segment ((j + 1) % 100 == 0))

  script_pieces : (number : ℕ) → ArePieces (script number) (asked.items number)
  script_pieces number =
      let first = join machine_text commit_texts machine_asked commits_asked (machine_piece names numbers go_on one ends)
      (turns commit_line asked.commit 500 (λ i few. commit_piece names numbers go_on one ends i (omega (arith, few)))) in
      let tuned = join (machine_text ++ commit_texts) tune_text (machine_asked ++ commits_asked) tune_asked first (tune_piece names numbers go_on one ends) in
      let runs = join (machine_text ++ commit_texts ++ tune_text) (run_texts number) (machine_asked ++ commits_asked ++ tune_asked) (runs_asked number) tuned (turns (turn number) (asked.turn number) 2_000 (turn_pieces number)) in
      let retracted = join (machine_text ++ commit_texts ++ tune_text ++ run_texts number) retract_texts (machine_asked ++ commits_asked ++ tune_asked ++ runs_asked number) retracts_asked runs
      (turns retract_line asked.retract 10 (λ i few. retract_piece names numbers go_on one ends i few)) in
      let segmented = join (machine_text ++ commit_texts ++ tune_text ++ run_texts number ++ retract_texts) segment_line (machine_asked ++ commits_asked ++ tune_asked ++ runs_asked number ++ retracts_asked) segment_asked retracted (segment_piece names numbers go_on one ends) in
      join (machine_text ++ commit_texts ++ tune_text ++ run_texts number ++ retract_texts ++ segment_line) changes_text (machine_asked ++ commits_asked ++ tune_asked ++ runs_asked number ++ retracts_asked ++ segment_asked) changes_asked segmented (changes_piece names numbers go_on one ends)

  pub script_asks : ScriptAsks
  script_asks number = whole (script number) (asked.items number) (script_size number) (script_pieces number)

  -- bytes are one script
  pub script_is_whole : OneScript → ScriptIsWhole
  script_is_whole once number others ending is = once (script number) others (asked.items number) ending end is (script_asks number)
