-- Private: no public contract cites this. The first entry that isn't marked.
use Rattle.std.proofs.Common.{◌≡◌, inl, inr, ℕ, ◌+◌, ◌<◌, ◌≤◌, Bool, List, [], ◌∷◌, length, take, get_or, Some, sym, ap, subst, ◌∙◌, arith}
use Rattle.std.{specs.Prelude.{slice_get, sum_by}, proofs.lemmas.Option.slice_get_within, proofs.lemmas.Grind.common_steps}
use Rattle.history_model.specs.declared.entries.Placed.{Placed}
use Rattle.track_model.specs.Tracks.{Track}
use Rattle.play_audit.specs.{Known.lines_in, Marks.{IsFirstIn, IsFirstOpen, IsOpen, IsOpenIn, NoneIn, NoneOpen}}
use Rattle.play_audit.proofs.Listed.{lt-or-le, same_at, sum_longer, sum_most, sum_next}

-- the first journals, so many with so many lines, have no such entry
pub record AreShut (ts : List Track) (rows : List (List Bool)) (n before : ℕ) : Type 0 where
  pub lines : before ≡ lines_in (take n ts)
  pub none : (m k : ℕ) → m < n → IsOpen ts rows m k → ⊥

abbrev lines-of : Track → ℕ
lines-of t = 1 + length t.history

-- behind one journal more
pub shut_next : (ts : List Track) (rows : List (List Bool)) (n before : ℕ) (t : Track) → AreShut ts rows n before → slice_get ts n ≡ Some t
    → NoneIn t.history (get_or rows n []) → AreShut ts rows (n + 1) (before + (1 + length t.history))
shut_next ts rows n before t shut here none = record {
  lines = ap (λ (k : ℕ). k + (1 + length t.history)) shut.lines ∙ sym (sum_next lines-of ts n t here);
  none = λ m k below o. elim (lt-or-le m n) [
    | inl front ↦ shut.none m k front o
    | inr past ↦
        let same : m ≡ n = omega (arith, past, below) in
        let track : o.track ≡ t = same_at ts n o.track t (subst (λ (i : ℕ). slice_get ts i ≡ Some o.track) same o.here) here in
        none k (subst (λ (h : List Placed). IsOpenIn h (get_or rows n []) k) (ap (λ (x : Track). x.history) track)
        (subst (λ (i : ℕ). IsOpenIn o.track.history (get_or rows i []) k) same o.open_))
  ];
}

-- how many lines there are so far
pub lines_fit : (ts : List Track) (rows : List (List Bool)) (n before : ℕ) (t : Track) → AreShut ts rows n before → slice_get ts n ≡ Some t
    → before + (1 + length t.history) ≤ lines_in ts
lines_fit ts rows n before t shut here = omega (arith, shut.lines, sum_next lines-of ts n t here, sum_most lines-of ts (n + 1))

pub place_fits : (h : List Placed) (row : List Bool) (place : ℕ) → IsFirstIn h row place → place < length h
place_fits h row place first = slice_get_within h place first.open_.entry first.open_.there

-- the first one
pub first_open : (ts : List Track) (rows : List (List Bool)) (n before place : ℕ) (t : Track) → AreShut ts rows n before → slice_get ts n ≡ Some t
    → IsFirstIn t.history (get_or rows n []) place → IsFirstOpen ts rows (before + place + 2)
first_open ts rows n before place t shut here first = record {
  at = n;
  place = place;
  line = ap (λ (k : ℕ). k + place + 2) shut.lines;
  open_ = record { track = t; here = here; open_ = first.open_ };
  first = λ m k low o.
      let far : lines_in (take m ts) + k + 2 < before + place + 2 = low in
      elim (lt-or-le m n) [
        | inl front ↦ shut.none m k front o
        | inr past ↦ elim (lt-or-le n m) [
          | inl beyond ↦
              let grown : lines_in (take (n + 1) ts) ≡ lines_in (take n ts) + (1 + length t.history) = sum_next lines-of ts n t here in
              let more : lines_in (take (n + 1) ts) ≤ lines_in (take m ts) = sum_longer lines-of ts (n + 1) m (omega (arith, beyond)) in
              let within : place < length t.history = place_fits t.history (get_or rows n []) place first in
              absurd (omega (arith, far, grown, more, within, shut.lines))
          | inr within ↦
              let same : m ≡ n = omega (arith, past, within) in
              let track : o.track ≡ t = same_at ts n o.track t (subst (λ (i : ℕ). slice_get ts i ≡ Some o.track) same o.here) here in
              let lines : lines_in (take m ts) ≡ before = ap (λ (i : ℕ). lines_in (take i ts)) same ∙ sym shut.lines in
              first.first k (omega (arith, far, lines)) (subst (λ (h : List Placed). IsOpenIn h (get_or rows n []) k) (ap (λ (x : Track). x.history) track)
              (subst (λ (i : ℕ). IsOpenIn o.track.history (get_or rows i []) k) same o.open_))
        ]
      ];
}

pub none_open : (ts : List Track) (rows : List (List Bool)) (n before : ℕ) → length ts ≤ n → AreShut ts rows n before → NoneOpen ts rows
none_open ts rows n before all shut at place o = shut.none at place (omega (arith, all, slice_get_within ts at o.track o.here)) o

-- all entries are lines
pub steps_fit : (ts : List Track) → sum_by (λ (t : Track). length t.history) ts ≤ lines_in ts
steps_fit [] = omega arith
steps_fit (t ∷ ts) = grind (arith, common_steps, steps_fit ts)
