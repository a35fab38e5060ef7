-- Private: no public contract cites this. Bytes in front of others, and what a transcript names first.
use Rattle.std.proofs.{Common.{◌≡◌, ◌≢◌, ℕ, ◌^◌, ◌+◌, ◌<◌, List, ◌∷◌, ◌++◌, All, decimal, arith}, lemmas.Fmt.decimal_injective, lemmas.Grind.common_steps}
use Rattle.journal_lines.proofs.{Lacking.{Lacks, lacks_decimal, parted}, Words.{first_is, no_words}}
use Rattle.reply_laws.specs.Kinds.{Names}

-- ---- what a transcript names

-- behind the sign
module _ (rest more : List ℕ) (step letter : ℕ) (small : step < 2 ^ 64) (is : rest ≡ decimal step ++ 32 ∷ letter ∷ more) where
  lacks : Lacks 32 (decimal step)
  lacks = lacks_decimal 32 step (omega arith) (omega (arith, small))

  pub no_space : All (λ b. b ≢ 32) rest → ⊥
  no_space none = no_words rest (decimal step) (letter ∷ more) none is

  pub same_word : (word behind : List ℕ) → rest ≡ word ++ 32 ∷ behind → All (λ b. b ≢ 32) word → (word ≡ decimal step) × (behind ≡ letter ∷ more)
  same_word word behind parts none = first_is rest word behind (decimal step) (letter ∷ more) parts none is lacks

-- two names of one transcript are one
pub one_name : (text : List ℕ) (step other letter byte : ℕ) → step < 2 ^ 64 → other < 2 ^ 64 → Names text step letter → Names text other byte → (step ≡ other) × (letter ≡ byte)
one_name text step other letter byte small few one two = grind (arith, common_steps, decimal, parted, lacks_decimal, decimal_injective)

-- what stands in front of a longer text names the same
pub names_more : (text more : List ℕ) (step letter : ℕ) → Names text step letter → Names (text ++ more) step letter
names_more text more step letter names = grind (arith, common_steps)
