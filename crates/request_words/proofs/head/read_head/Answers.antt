use Rattle.std.proofs.Common.{rules, ◌≡◌, ◌≢◌, ℕ, List, ◌∷◌}
use Rattle.line_text.specs.Lines.{words_of}
use Rattle.request_words.{specs.Verbs.word_of, specs.declared.verb.Verb.Verb, proofs.HeadLines.{no_verb, formless_head}}
use Rattle.request_words.proofs.head.read_head.Goals as goal

pub returns-in_default-read_verb : goal.returns-in_default-read_verb
returns-in_default-read_verb c =
    let line : List ℕ = c.args.line.now in
    let word : List ℕ = c.in-Some.word.now in
    let words : words_of line ≡ word ∷ c.next.new.self = search rules in
    let none : (verb : Verb) → word ≢ word_of verb = search rules in
    let head = formless_head line (no_verb line word c.next.new.self words none) in
    search (rules, head)
