-- No public contract cites this. The words that a request line begins with.
use Rattle.std.specs.Prelude.{ℕ, List, codes}
use Rattle.request_words.specs.{Forms.{number_verb, series_word, job_word}, declared.verb.Verb.Verb}
use Rattle.request_words.specs.declared.verb.Verb.TheVariants as verb

abbrev pub word_of : Verb → List ℕ
word_of verb.Machine = codes "machine"
word_of verb.Commit = codes "commit"
word_of verb.Submit = codes "submit"
word_of verb.Retract = codes "retract"
word_of verb.Tune = codes "tune"
word_of (verb.Number asked) = number_verb asked
word_of (verb.Series asked) = series_word asked
word_of verb.State = codes "state"
word_of verb.Bisect = codes "bisect"
word_of verb.Answer = codes "answer"
word_of (verb.Job asked) = job_word asked
word_of verb.Runs = codes "runs"
word_of verb.Report = codes "report"
