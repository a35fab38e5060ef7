use Rattle.std.proofs.{Common.{◌≡◌, ◌∷◌, ◌++◌, ◌-◌, ℕ, List, decimal, length, take, drop, ap, arith}, lemmas.Grind.common_steps}
use Rattle.play_audit.proofs.Fronts.{no_space, same_word}
use Rattle.play_audit.proofs.text.first_named.Goals as goal

behind_first : (text tail : List ℕ) → text ≡ 64 ∷ tail → take (length text - 1) (drop 1 text) ≡ tail
behind_first text tail is = grind (arith, common_steps)

pub returns-in_default-first_word-clause-none : goal.returns-in_default-first_word-clause-none
returns-in_default-first_word-clause-none c = λ step letter small names.
    let text : List ℕ = c.args.transcript.now in
    no_space (take (length text - 1) (drop 1 text)) names.more step letter small (behind_first text (decimal step ++ 32 ∷ letter ∷ names.more) names.text_is)
    c.in_default-first_word.ensures.none

pub returns-in_default-read_u64-clause-none : goal.returns-in_default-read_u64-clause-none
returns-in_default-read_u64-clause-none c = λ step letter small names.
    let text : List ℕ = c.args.transcript.now in
    c.in_default-read_u64.ensures.none step small
    (same_word (take (length text - 1) (drop 1 text)) names.more step letter small (behind_first text (decimal step ++ 32 ∷ letter ∷ names.more) names.text_is)
    c.in-Some.parts.word.now c.in-Some.parts.rest.now c.in-Some.ensures.some c.in-Some.ensures.first).0

pub returns-in_default-rest-clause-none : goal.returns-in_default-rest-clause-none
returns-in_default-rest-clause-none c = λ step letter small names.
    let text : List ℕ = c.args.transcript.now in
    let both : (c.in-Some.parts.word.now ≡ decimal step) × (c.in-Some.parts.rest.now ≡ letter ∷ names.more) =
    same_word (take (length text - 1) (drop 1 text)) names.more step letter small (behind_first text (decimal step ++ 32 ∷ letter ∷ names.more) names.text_is)
    c.in-Some.parts.word.now c.in-Some.parts.rest.now c.in-Some.ensures.some c.in-Some.ensures.first in
    let size : length c.in-Some.parts.rest.now ≡ length (letter ∷ names.more) = ap length both.1 in
    absurd (omega (arith, size, c.in_default-rest.len_below))
