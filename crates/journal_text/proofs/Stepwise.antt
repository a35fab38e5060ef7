-- Private: no public contract cites this. The lines of first entries.
use Rattle.std.proofs.Common.{◌≡◌, ℕ, ◌+◌, zero, suc, List, [], ◌∷◌, ◌++◌, length, take, drop, Some, refl, sym, ap, ◌∙◌, arith, append_assoc, append-nil}
use Rattle.std.specs.Prelude.{slice_get}
use Rattle.history_model.specs.declared.entries.Placed.{Placed}
use Rattle.track_model.specs.Tracks.{Track}
use Rattle.journal_text.specs.Journals.{entry_line, head_line, journal_text, journals_text, lines_from}

-- one entry more
pub lines-more : (first n : ℕ) (h : List Placed) (p : Placed) → slice_get h n ≡ Some p → lines_from first (take (n + 1) h) ≡ lines_from first (take n h) ++ entry_line (first + n) p
lines-more first n [] p is = cc
lines-more first zero (x ∷ h) p is =
    let same : x ≡ p = cc in
    let step : first + 0 ≡ first = omega arith in
    rw (step, sym same) (append-nil (entry_line first x))
lines-more first (suc n) (x ∷ h) p is =
    let step : suc n + 1 ≡ suc (n + 1) = omega arith in
    let place : first + suc n ≡ first + 1 + n = omega arith in
    rw (step, place) (ap (λ (l : List ℕ). entry_line first x ++ l) (lines-more (first + 1) n h p is) ∙ sym (append_assoc (entry_line first x) (lines_from (first + 1) (take n h)) (entry_line (first + 1 + n) p)))

-- the lines of first entries, and then the others
pub lines-split : (first n : ℕ) (h : List Placed) → lines_from first h ≡ lines_from first (take n h) ++ lines_from (first + n) (drop n h)
lines-split first zero h = let step : first + 0 ≡ first = omega arith in rw step refl
lines-split first (suc n) [] = refl
lines-split first (suc n) (x ∷ h) =
    let place : first + suc n ≡ first + 1 + n = omega arith in
    rw place (ap (λ (l : List ℕ). entry_line first x ++ l) (lines-split (first + 1) n h) ∙ sym (append_assoc (entry_line first x) (lines_from (first + 1) (take n h)) (lines_from (first + 1 + n) (drop n h))))

-- a journal by its first entries
pub journal-split : (machine : List ℕ) (h : List Placed) (n : ℕ) → head_line machine (length h) ++ lines_from 1 h ≡ (head_line machine (length h) ++ lines_from 1 (take n h)) ++ lines_from (1 + n) (drop n h)
journal-split machine h n =
    ap (λ (l : List ℕ). head_line machine (length h) ++ l) (lines-split 1 n h) ∙ sym (append_assoc (head_line machine (length h)) (lines_from 1 (take n h)) (lines_from (1 + n) (drop n h)))

pub journal-more : (machine : List ℕ) (h : List Placed) (n : ℕ) (p : Placed) → slice_get h n ≡ Some p
    → head_line machine (length h) ++ lines_from 1 (take (n + 1) h) ≡ (head_line machine (length h) ++ lines_from 1 (take n h)) ++ entry_line (n + 1) p
journal-more machine h n p is =
    let step : 1 + n ≡ n + 1 = omega arith in
    ap (λ (l : List ℕ). head_line machine (length h) ++ l) (lines-more 1 n h p is ∙ ap (λ (k : ℕ). lines_from 1 (take n h) ++ entry_line k p) step)
    ∙ sym (append_assoc (head_line machine (length h)) (lines_from 1 (take n h)) (entry_line (n + 1) p))

-- journals by the first machines
pub journals-split : (tracks : List Track) (n : ℕ) (t : Track) → slice_get tracks n ≡ Some t → journals_text tracks ≡ journals_text (take n tracks) ++ journal_text t ++ journals_text (drop (n + 1) tracks)
journals-split [] n t is = cc
journals-split (u ∷ us) zero t is = let same : u ≡ t = cc in rw (sym same) refl
journals-split (u ∷ us) (suc n) t is =
    let step : suc n + 1 ≡ suc (n + 1) = omega arith in
    rw step (ap (λ (l : List ℕ). journal_text u ++ l) (journals-split us n t is)
    ∙ sym (append_assoc (journal_text u) (journals_text (take n us) ++ journal_text t) (journals_text (drop (n + 1) us)))
    ∙ ap (λ (l : List ℕ). l ++ journals_text (drop (n + 1) us)) (sym (append_assoc (journal_text u) (journals_text (take n us)) (journal_text t))))
