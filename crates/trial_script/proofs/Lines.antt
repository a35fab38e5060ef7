-- Each line of the script of a number is a piece, which asks its request.
use Rattle.std.proofs.Common.{◌≡◌, ℕ, pos, zero, suc, ◌*◌, ◌^◌, ◌<◌, ◌≤◌, List, [], ◌∷◌, ◌++◌, length, refl, sym, ap, ◌∙◌, subst, arith, lit<, length-append, append_assoc, append-nil, None, Ok}
use Rattle.std.{specs.Prelude.{codes, decimal}, specs.Str.Parse.digits_value, proofs.lemmas.Fmt.{decimal_is_IsNumeral, length-decimal-le}}
use Rattle.std.proofs.lemmas.Int.Digits.{digits_value-lt}
use Rattle.line_text.specs.{Lines.{LinesEnd, WordsGoOn, AreOneWord}, Names.{IsName, NamesAreSpelledBack}, Numbers.{IsNumber, NumbersAreSpelled}}
use Rattle.request_model.specs.Lines.{spaced}
use Rattle.request_model.specs.declared.requests.Request.TheVariants as request
use Rattle.request_words.specs.{Forms.{machine, commit, submit_go, retract, tune, name_of}, Bodies.AsksNamed}
use Rattle.request_reader.specs.Scripts.{ArePieces}
use Rattle.request_text.proofs.WrittenBack.{worded_piece, written_back}
use Rattle.request_text.proofs.WrittenLines.{IsShortWord, number_word, a_word, machine_word, commit_word, submit_word, go_word, retract_word, tune_word}
use Rattle.series_gen.specs.Script.{line, place, commit_line, submit_line, body_line, segment_line, retract_line}
use Rattle.trial_script.specs.Requests as asked
use Rattle.trial_script.proofs.{PlainWords.{IsOwnWord, plain_name, own_word, numbered}, GoBody.body_read}

-- ---- numbers in words

abbrev penalty : List ℕ
penalty = codes "300000000000"

penalty_number : IsNumber penalty
penalty_number = record {
  digits = (
    omega arith,
    (
      lit< tt,
      (
        lit< tt,
        (
          lit< tt,
          (
            lit< tt,
            (
              lit< tt,
              (
                lit< tt,
                (
                  lit< tt,
                  (lit< tt, (lit< tt, (lit< tt, (lit< tt, (lit< tt, tt))))),
                ),
              ),
            ),
          ),
        ),
      ),
    ),
  );
  first = λ is. absurd (omega (arith, is));
}

size_number : IsNumber (codes "24")
size_number = record { digits = (omega arith, (lit< tt, (lit< tt, tt))); first = λ is. absurd (omega (arith, is)) }

size_word : NumbersAreSpelled → codes "24" ≡ decimal 24
size_word numbers = (numbers 24 (codes "24") (omega arith)).1 (size_number, refl)

-- the word of the penalty
penalty_word : IsShortWord penalty
penalty_word = a_word penalty refl (omega arith) (omega arith)

-- ---- the length of a body

four : (l v : ℕ) → v < 10 ^ l → 1_000 ≤ v → 4 ≤ l
four zero v below above = absurd (omega (arith, below, above))
four (suc zero) v below above = absurd (omega (arith, below, above))
four (suc (suc zero)) v below above = absurd (omega (arith, below, above))
four (suc (suc (suc zero))) v below above = absurd (omega (arith, below, above))
four (suc (suc (suc (suc l)))) v below above = omega arith

four_digits : (v : ℕ) → 1_000 ≤ v → v < 10_000 → length (decimal v) ≡ 4
four_digits v above below =
    let is = decimal_is_IsNumeral v (omega (arith, below)) in
    let few : length (decimal v) ≤ 4 = length-decimal-le 4 v (omega arith) below (omega (arith, below)) in
    let less : digits_value 10 (decimal v) < 10 ^ length (decimal v) = digits_value-lt 10 (decimal v) is.0.1 in
    let more : 4 ≤ length (decimal v) = four (length (decimal v)) v (subst (λ n. n < 10 ^ length (decimal v)) is.1 less) above in
    omega (arith, few, more)

pub body_size : (v : ℕ) → 1_000 ≤ v → v < 10_000 → length (body_line v) ≡ 24
body_size v above below =
    let four_is = four_digits v above below in
    omega (
      arith,
      four_is,
      length-append (codes "BenchmarkG 1 " ++ (decimal v ++ codes " ns/op")) (10 ∷ []),
      length-append (codes "BenchmarkG 1 ")
          (decimal v ++ codes " ns/op"),
      length-append (decimal v) (codes " ns/op"),
    )

-- ---- the lines
module _ (names : NamesAreSpelledBack) (numbers : NumbersAreSpelled) (go_on : WordsGoOn) (one : AreOneWord) (ends : LinesEnd) where
  m_word : IsOwnWord asked.machine
  m_word = own_word names asked.machine refl (omega arith) (omega arith)

  test_word : IsOwnWord asked.test
  test_word = own_word names asked.test refl (omega arith) (omega arith)

  metric_word : IsOwnWord asked.metric
  metric_word = own_word names asked.metric refl (omega arith) (omega arith)

  metric_short : length (name_of asked.metric) ≤ 64
  metric_short = subst (λ (name : List ℕ). length name ≤ 64) (sym metric_word.back) (omega arith)

  commit_name : (i : ℕ) → i < 2 ^ 64 → IsOwnWord (asked.commit_name i)
  commit_name i small = numbered names 99 i refl small

  run_name : (j : ℕ) → j < 2 ^ 64 → IsOwnWord (asked.run_name j)
  run_name j small = numbered names 114 j refl small

  pub machine_piece : ArePieces (line (codes "machine g")) (Ok (request.Machine asked.machine) ∷ [])
  machine_piece =
      worded_piece go_on one (machine asked.machine) (codes "machine") (asked.machine ∷ []) [] (line (codes "machine g")) (Ok (request.Machine asked.machine)) refl refl
      (machine_word, omega arith, (m_word.short, tt), omega arith) tt (m_word.spells, tt) (tt, tt, tt, tt, tt) refl (omega arith)
      (ap (λ (m : List ℕ). Ok (request.Machine m)) (sym m_word.back))

  -- the text of a line as words behind one another
  pub commit_piece : (i : ℕ) → i < 2 ^ 64 → ArePieces (commit_line i) (Ok (request.Commit asked.machine i (asked.commit_name i)) ∷ [])
  commit_piece i small =
      let name = commit_name i small in
      let text : commit_line i ≡ (codes "commit" ++ spaced (asked.machine ∷ decimal i ∷ asked.commit_name i ∷ [])) ++ 10 ∷ [] =
      ap (λ (bs : List ℕ). (codes "commit g " ++ bs) ++ 10 ∷ [])
      (append_assoc (decimal i) (codes " c") (decimal i) ∙ ap (λ (bs : List ℕ). decimal i ++ (codes " c" ++ bs)) (sym (append-nil (decimal i)))) in
      let asks : Ok (request.Commit asked.machine i (asked.commit_name i)) ≡ Ok
      (request.Commit (name_of asked.machine) i (name_of (asked.commit_name i))) = rw (m_word.back, name.back) refl in
      worded_piece go_on one (commit asked.machine i (asked.commit_name i)) (codes "commit") (asked.machine ∷ decimal i ∷ asked.commit_name i ∷ []) [] (commit_line i)
      (Ok (request.Commit asked.machine i (asked.commit_name i))) text refl
      (commit_word, omega arith, (m_word.short, (number_word i small, (name.short, tt))), omega arith) (small, tt) (m_word.spells, (name.spells, tt)) (tt, tt, tt, tt, tt) refl (omega arith) asks

  pub tune_piece : ArePieces (line (codes "tune g ns/op 300000000000")) (Ok (request.Tune asked.machine asked.metric (pos 300_000_000_000) None) ∷ [])
  tune_piece =
      let asks : Ok (request.Tune asked.machine asked.metric (pos 300_000_000_000) None) ≡ Ok
      (request.Tune (name_of asked.machine) (name_of asked.metric) (pos (digits_value 10 penalty)) None) = rw (m_word.back, metric_word.back) refl in
      worded_piece go_on one (tune asked.machine asked.metric penalty None) (codes "tune") (asked.machine ∷ asked.metric ∷ penalty ∷ []) []
      (line (codes "tune g ns/op 300000000000")) (Ok (request.Tune asked.machine asked.metric (pos 300_000_000_000) None)) refl refl
      (tune_word, omega arith, (m_word.short, (metric_word.short, (penalty_word, tt))), omega arith) tt (m_word.spells, (metric_word.spells, tt))
      ((penalty_number, tt), tt, metric_short, omega arith, tt) refl (omega arith) asks

  pub retract_piece : (i : ℕ) → i < 10 → ArePieces (retract_line i) (Ok (request.Retract asked.machine (asked.run_name (200 * i))) ∷ [])
  retract_piece i few =
      let name = run_name (200 * i) (omega (arith, few)) in
      let text : retract_line i ≡ (codes "retract" ++ spaced (asked.machine ∷ asked.run_name (200 * i) ∷ [])) ++ 10 ∷ [] = simp append_assoc in
      let asks : Ok (request.Retract asked.machine (asked.run_name (200 * i))) ≡ Ok
      (request.Retract (name_of asked.machine) (name_of (asked.run_name (200 * i)))) = rw (m_word.back, name.back) refl in
      worded_piece go_on one (retract asked.machine (asked.run_name (200 * i))) (codes "retract") (asked.machine ∷ asked.run_name (200 * i) ∷ []) []
      (retract_line i) (Ok (request.Retract asked.machine (asked.run_name (200 * i)))) text refl
      (retract_word, omega arith, (m_word.short, (name.short, tt)), omega arith) tt (m_word.spells, (name.spells, tt)) (tt, tt, tt, tt, tt) refl (omega arith) asks

  m_name : IsName asked.machine
  m_name = plain_name asked.machine refl (omega arith) (omega arith)

  test_name : IsName asked.test
  test_name = plain_name asked.test refl (omega arith) (omega arith)

  metric_name : IsName asked.metric
  metric_name = plain_name asked.metric refl (omega arith) (omega arith)

  pub segment_piece : ArePieces segment_line (Ok asked.segment ∷ [])
  segment_piece = written_back names numbers go_on one asked.segment [] (m_name, test_name, metric_name) refl tt (omega arith) (omega arith)

  pub changes_piece : ArePieces (line (codes "changes g G ns/op")) (Ok (request.Changes asked.machine asked.test asked.metric) ∷ [])
  changes_piece = written_back names numbers go_on one (request.Changes asked.machine asked.test asked.metric) []
      (m_name, test_name, metric_name) refl tt (omega arith) (omega arith)

  pub submit_piece : (j v : ℕ) → j < 2 ^ 64 → 1_000 ≤ v → v < 10_000 → ArePieces (submit_line j ++ body_line v) (Ok (asked.submit j v) ∷ [])
  submit_piece j v small above below =
      let c_small : place j < 2 ^ 64 = omega arith in
      let c = commit_name (place j) c_small in
      let r = run_name j small in
      let words : List (List ℕ) = codes "go" ∷ asked.machine ∷ asked.commit_name (place j) ∷ asked.run_name j ∷ codes "24" ∷ [] in
      let text : submit_line j ++ body_line v ≡ (codes "submit" ++ spaced words) ++ 10 ∷ body_line v =
      append_assoc (codes "submit go g c" ++ decimal (place j) ++ codes " r" ++ decimal j ++ codes " 24") (10 ∷ []) (body_line v)
      ∙ ap (λ (bs : List ℕ). (codes "submit go g c" ++ bs) ++ 10 ∷ body_line v)
      (append_assoc (decimal (place j) ++ codes " r") (decimal j) (codes " 24") ∙ append_assoc (decimal (place j)) (codes " r") (decimal j ++ codes " 24")) in
      let gives : AsksNamed (submit_go asked.machine (asked.commit_name (place j)) (asked.run_name j) 24) (body_line v) (Ok (asked.submit j v)) =
      rw (m_word.back, c.back, r.back) (asked.sample v ∷ [], 0, record { read = body_read ends v (omega (arith, below)); few = omega arith }, refl) in
      worded_piece go_on one (submit_go asked.machine (asked.commit_name (place j)) (asked.run_name j) 24) (codes "submit") words (body_line v)
      (submit_line j ++ body_line v) (Ok (asked.submit j v)) text
      (ap (λ (w : List ℕ). codes "submit" ∷ codes "go" ∷ asked.machine ∷ asked.commit_name (place j) ∷ asked.run_name j ∷ w ∷ []) (sym (size_word numbers)))
      (submit_word, omega arith, (go_word, (m_word.short, (c.short, (r.short, (subst IsShortWord (sym (size_word numbers)) (number_word 24 (omega arith)), tt))))), omega arith)
      (omega arith, tt) (m_word.spells, (c.spells, (r.spells, tt))) (tt, tt, tt, tt, tt) (sym (body_size v above below)) (omega (arith, body_size v above below)) gives
