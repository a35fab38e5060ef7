-- Private: no public contract cites this. The lines of journals have no line feed within.
use Rattle.std.proofs.Common.{ℕ, ℤ, pos, negsuc, FitsSigned, suc, ◌^◌, ◌<◌, ◌≤◌, List, [], ◌∷◌, length, All, map, flat_map, codes, decimal, unsigned_abs, refl, arith}
use Rattle.std.{specs.Fmt.signed_decimal, specs.Int.w128, proofs.lemmas.Int.ints}
use Rattle.line_text.specs.Names.{IsName, spelling, NamesAreSpelledBack}
use Rattle.sample_model.specs.Samples.{Measurement, IsSample}
use Rattle.history_model.specs.declared.entries.{Author.Author, Entry.Entry, Entry.TheVariants.{Commit, Accept, Retract, Tune, Publish, Regression, Job}}
use Rattle.history_model.specs.declared.entries.Author.TheVariants as author
use Rattle.history_model.specs.declared.events.{RegressionEvent.TheVariants.{Raise, Move}, JobEvent.TheVariants.{Begin, Answer, GiveUp}}
use Rattle.regression_state.specs.{Moves.word, declared.states.State.State}
use Rattle.regression_state.specs.declared.states.State.TheVariants.{Detected, Staged, Active, NotToBeFixed, Ignored, Verify, Fixed}
use Rattle.track_entry.specs.Texts.{next, spaced, sample_words, entry_words, entry_text, IsEntry}
use Rattle.journal_lines.{specs.Texts.author_word, specs.Lines.IsAuthor, proofs.Lacking.{Lacks, lacks_both, lacks_standing, lacks_decimal, lacks_over}}

abbrev AreLacking : List (List ℕ) → Type 0
AreLacking [] = Unit {0}
AreLacking (word ∷ words) = Lacks 10 word × AreLacking words

pub name_lacks : (c : ℕ) → c ≤ 32 → NamesAreSpelledBack → (name : List ℕ) → IsName name → Lacks c (spelling name)
name_lacks c low names name is = lacks_standing c (spelling name) low (names name is).2

value_lacks : (z : ℤ) → unsigned_abs z < 10 ^ 64 → Lacks 10 (signed_decimal z)
value_lacks (pos n) small = lacks_decimal 10 n (omega arith) (omega (arith, small))
value_lacks (negsuc n) small = (λ same. omega (arith, same), lacks_decimal 10 (suc n) (omega arith) (omega (arith, small)))

fits_size : (z : ℤ) → FitsSigned w128 z → unsigned_abs z < 10 ^ 64
fits_size (pos n) fits = omega (arith, ints, fits)
fits_size (negsuc n) fits = omega (arith, ints, fits)

number_lacks : (n : ℕ) → n < 2 ^ 64 → Lacks 10 (decimal n)
number_lacks n small = lacks_decimal 10 n (omega arith) (omega (arith, small))

state_lacks : (s : State) → Lacks 10 (word s)
state_lacks Detected = lacks_over 10 (codes "detected") refl
state_lacks Staged = lacks_over 10 (codes "staged") refl
state_lacks Active = lacks_over 10 (codes "active") refl
state_lacks NotToBeFixed = lacks_over 10 (codes "not_to_be_fixed") refl
state_lacks Ignored = lacks_over 10 (codes "ignored") refl
state_lacks Verify = lacks_over 10 (codes "verify") refl
state_lacks Fixed = lacks_over 10 (codes "fixed") refl

sample_are : NamesAreSpelledBack → (xs : List Measurement) → All IsSample xs → AreLacking (flat_map sample_words xs)
sample_are names [] each = tt
sample_are names (x ∷ xs) each =
    let is = each 0 x (omega arith) in (
      name_lacks 10 (omega arith) names x.test is.test,
      (
        name_lacks 10 (omega arith) names x.metric is.metric,
        (
          value_lacks x.value (omega (arith, is.in_range)),
          sample_are names xs (λ k d below. each (suc k) d (omega (arith, below))),
        ),
      ),
    )

numbers_are : (ns : List ℕ) → All (λ n. n < 2 ^ 64) ns → AreLacking (map decimal ns)
numbers_are [] each = tt
numbers_are (n ∷ ns) each = (number_lacks n (each 0 n (omega arith)), numbers_are ns (λ k d below. each (suc k) d (omega (arith, below))))

entry_are : NamesAreSpelledBack → (e : Entry) → IsEntry e → AreLacking (entry_words e)
entry_are names (Commit number name) is =
    (lacks_over 10 (codes "commit") refl, (number_lacks number is.0, (name_lacks 10 (omega arith) names name is.1, tt)))
entry_are names (Accept run) is = (
  lacks_over 10 (codes "accept") refl,
  (
    name_lacks 10 (omega arith) names run.run is.0,
    (
      number_lacks run.commit is.1,
      (lacks_decimal 10 (length run.samples) (omega arith) (omega (arith, is.2.few)), sample_are names run.samples is.2.each),
    ),
  ),
)
entry_are names (Retract run) is = (lacks_over 10 (codes "retract") refl, (name_lacks 10 (omega arith) names run is, tt))
entry_are names (Tune metric penalty len) is =
    (lacks_over 10 (codes "tune") refl, (name_lacks 10 (omega arith) names metric is.0, (value_lacks penalty (fits_size penalty is.2), (lacks_decimal 10 len (omega arith) (omega (arith, is.3)), tt))))
entry_are names (Publish p) is = (
  lacks_over 10 (codes "publish") refl,
  (
    name_lacks 10 (omega arith) names p.test is.series.test,
    (
      name_lacks 10 (omega arith) names p.metric is.series.metric,
      (
        number_lacks p.version is.version,
        (
          number_lacks p.base is.base,
          (value_lacks p.total (fits_size p.total is.total), (number_lacks (length p.cuts) is.few, numbers_are p.cuts is.each)),
        ),
      ),
    ),
  ),
)
entry_are names (Regression (Raise r)) is = (
  lacks_over 10 (codes "raise") refl,
  (
    name_lacks 10 (omega arith) names r.test is.series.test,
    (name_lacks 10 (omega arith) names r.metric is.series.metric, (number_lacks r.before is.before, (number_lacks r.after is.after, tt))),
  ),
)
entry_are names (Regression (Move number state)) is = (lacks_over 10 (codes "move") refl, (number_lacks number is, (state_lacks state, tt)))
entry_are names (Job (Begin lo hi)) is = (lacks_over 10 (codes "begin") refl, (number_lacks lo is.0, (number_lacks hi is.1, tt)))
entry_are names (Job (Answer number place status)) is = (
  lacks_over 10 (codes "answer") refl,
  (number_lacks number is.0, (number_lacks place is.1, (lacks_decimal 10 status (omega arith) (omega (arith, is.2)), tt))),
)
entry_are names (Job (GiveUp number place)) is = (lacks_over 10 (codes "giveup") refl, (number_lacks number is.0, (number_lacks place is.1, tt)))

behind_lack : (words : List (List ℕ)) → AreLacking words → Lacks 10 (flat_map next words)
behind_lack [] are = tt
behind_lack (word ∷ words) are = (λ same. omega (arith, same), lacks_both 10 word (flat_map next words) are.0 (behind_lack words are.1))

spaced_lack : (words : List (List ℕ)) → AreLacking words → Lacks 10 (spaced words)
spaced_lack [] are = tt
spaced_lack (word ∷ words) are = lacks_both 10 word (flat_map next words) are.0 (behind_lack words are.1)

-- the text of an entry
pub entry_lacks : NamesAreSpelledBack → (e : Entry) → IsEntry e → Lacks 10 (entry_text e)
entry_lacks names e is = spaced_lack (entry_words e) (entry_are names e is)

-- the word of an author
pub author_lacks : (c : ℕ) → c ≤ 32 → (a : Author) → IsAuthor a → Lacks c (author_word a)
author_lacks c low author.Kept is = (λ same. omega (arith, low, same), tt)
author_lacks c low (author.Script i) is = (λ same. omega (arith, low, same), lacks_decimal c i low (omega (arith, is)))
author_lacks c low (author.Recompute i) is = (λ same. omega (arith, low, same), lacks_decimal c i low (omega (arith, is)))
author_lacks c low (author.Bisect i) is = (λ same. omega (arith, low, same), lacks_decimal c i low (omega (arith, is)))
