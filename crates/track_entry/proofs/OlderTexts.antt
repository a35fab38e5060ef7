-- A setting's text of version 2 is that of version 1 with its least length behind it; the texts of other kinds stay.
use Rattle.std.proofs.{Common.{◌≡◌, ◌≢◌, ℕ, List, [], ◌++◌, codes, decimal, sym, ap, ◌∙◌, subst, arith, slice_index_or, inl, inr}, lemmas.Grind.common_steps}
use Rattle.std.{specs.Fmt.{digits, signed_decimal}, proofs.lemmas.List.append_cancel_right, proofs.lemmas.Bool.cases_eq}
use Rattle.line_text.specs.Names.{spelling}
use Rattle.history_model.specs.declared.entries.Entry.{Entry, TheVariants.{Commit, Accept, Retract, Tune, Publish, Regression, Job}}
use Rattle.history_model.specs.declared.events.{RegressionEvent.TheVariants.{Raise, Move}, JobEvent.TheVariants.{Begin, Answer, GiveUp}}
use Rattle.track_entry.specs.{Texts.{next, spaced, entry_text, SpellsEntry, IsOneEntry}, Versions.{words_v1, IsOfV1, SpellsV1, IsOneEntryV1}}

-- the first byte of a text
abbrev first : List ℕ → ℕ
first text = slice_index_or text 0 0

-- the least length of version 1
abbrev one : List ℕ
one = codes " 1"

first-of : (text more : List ℕ) → first text ≡ 116 → first (text ++ more) ≡ 116
first-of text more is = grind (arith, common_steps)

behind : (t a b l : List ℕ) → (t ++ (a ++ (b ++ []))) ++ l ≡ t ++ (a ++ (b ++ (l ++ [])))
behind t a b l = grind (arith, common_steps)

-- the text of a setting of length 1
setting : (metric : List ℕ) (penalty : _) → spaced (words_v1 (Tune metric penalty 1)) ++ one ≡ entry_text (Tune metric penalty 1)
unfolding digits
setting metric penalty = behind (codes "tune") (next (spelling metric)) (next (signed_decimal penalty)) (next (decimal 1))

-- a text that begins as a setting's spells in version 1 what it spells with that length behind it
pub spells-longer : (text : List ℕ) (e : Entry) → first text ≡ 116 → SpellsV1 text e → SpellsEntry (text ++ one) e
spells-longer text e begins is = grind (arith, common_steps, one, setting, first)

pub spells-shorter : (text : List ℕ) (e : Entry) → first text ≡ 116 → SpellsEntry (text ++ one) e → IsOfV1 e → SpellsV1 text e
spells-shorter text (Tune metric penalty len) begins is of_v1 =
    let same : text ++ one ≡ spaced (words_v1 (Tune metric penalty 1)) ++ one = grind (arith, common_steps, setting) in
    (is.0, of_v1, append_cancel_right text (spaced (words_v1 (Tune metric penalty 1))) one same)
spells-shorter text (Commit number name) begins is of_v1 = absurd (omega (arith, sym (ap first is.1) ∙ first-of text one begins))
spells-shorter text (Accept run) begins is of_v1 = absurd (omega (arith, sym (ap first is.1) ∙ first-of text one begins))
spells-shorter text (Retract run) begins is of_v1 = absurd (omega (arith, sym (ap first is.1) ∙ first-of text one begins))
spells-shorter text (Publish p) begins is of_v1 = absurd (omega (arith, sym (ap first is.1) ∙ first-of text one begins))
spells-shorter text (Regression (Raise r)) begins is of_v1 = absurd (omega (arith, sym (ap first is.1) ∙ first-of text one begins))
spells-shorter text (Regression (Move number state)) begins is of_v1 = absurd (omega (arith, sym (ap first is.1) ∙ first-of text one begins))
spells-shorter text (Job (Begin lo hi)) begins is of_v1 = absurd (omega (arith, sym (ap first is.1) ∙ first-of text one begins))
spells-shorter text (Job (Answer number place status)) begins is of_v1 = absurd (omega (arith, sym (ap first is.1) ∙ first-of text one begins))
spells-shorter text (Job (GiveUp number place)) begins is of_v1 = absurd (omega (arith, sym (ap first is.1) ∙ first-of text one begins))

pub same-spells : (text : List ℕ) (e : Entry) → first text ≢ 116 → SpellsV1 text e → SpellsEntry text e
same-spells text e other is = grind (arith, common_steps)

-- what the entry read of the longer text isn't of version 1, no entry is
pub of-v1 : IsOneEntry → (text : List ℕ) (read e : Entry) → first text ≡ 116 → SpellsEntry (text ++ one) read → ¬ IsOfV1 read → ¬ SpellsV1 text e
of-v1 unique text read e begins spells other is =
    let same : e ≡ read = unique (text ++ one) e read (spells-longer text e begins is) spells in
    other (subst IsOfV1 same is.1)

pub one-v1 : IsOneEntry → IsOneEntryV1
one-v1 unique text e other is its = elim (cases_eq (first text) 116) [
  | inl hit ↦ unique (text ++ one) e other (spells-longer text e hit is) (spells-longer text other hit its)
  | inr miss ↦ unique text e other (same-spells text e miss is) (same-spells text other miss its)
]
