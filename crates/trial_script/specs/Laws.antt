-- What holds of the script of each number.
use Rattle.std.specs.Prelude.{◌≡◌, ℕ, List}
use Rattle.request_words.specs.Bodies.{Item}
use Rattle.request_reader.specs.Scripts.{Ending, end, IsScript}
use Rattle.series_gen.specs.Script.{script}
use Rattle.trial_script.specs.Requests.{items}

-- it asks what it is for, and ends well
abbrev pub ScriptAsks : Type 0
ScriptAsks = (number : ℕ) → IsScript (script number) (items number) end

-- and nothing else, however it is read
abbrev pub ScriptIsWhole : Type 0
ScriptIsWhole = (number : ℕ) (asked : List Item) (ending : Ending) → IsScript (script number) asked ending → (asked ≡ items number) × (ending ≡ end)
