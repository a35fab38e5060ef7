use Rattle.trial_script.proofs.Whole.{script_asks, script_is_whole}
use Rattle.trial_script.proofs.laws.script_law.Goals as goal

pub returns-clause-asks : goal.returns-clause-asks
returns-clause-asks c = script_asks c.names_law.ensures.names c.numbers_law.ensures c.words_law.ensures.go_on c.words_law.ensures.one c.lines_law.ensures.end

pub returns-clause-whole : goal.returns-clause-whole
returns-clause-whole c =
    script_is_whole c.names_law.ensures.names c.numbers_law.ensures c.words_law.ensures.go_on c.words_law.ensures.one c.lines_law.ensures.end c.output_law.ensures.reading
