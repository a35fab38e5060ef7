-- What holds of all outputs.
use Rattle.std.specs.{Prelude.{◌≡◌, List, ◌++◌, ℕ, Option, Ok, Err}, List.AllByRecursion}
use Rattle.request_model.specs.declared.{requests.Request.Request, replies.Reply.Reply}
use Rattle.request_model.specs.declared.requests.Request.TheVariants as request
use Rattle.request_words.specs.Bodies.{Item}
use Rattle.request_reader.specs.Scripts.{Ending, IsScript}
use Rattle.script_loop.specs.{Outputs.{IsOutput, Out, AsksFirst}, Endings.GaveOpen}

-- a request has one answer
abbrev pub AnswersOnce : {S : Type 0} → (S → Request → Option Reply → S → Type 0) → Type 0
AnswersOnce {S = S} does =
    (before : S) (q : Request) (told other : Option Reply) (after last : S)
    → does before q told after → does before q other last → (told ≡ other) × (after ≡ last)

-- a request whose outcome is a function of the history; of the others it is a relation
abbrev pub IsComputed : Request → Type 0
IsComputed (request.Calibrate machine test metric factor) = ⊥
IsComputed (request.Segment machine test metric) = ⊥
IsComputed (request.Changes machine test metric) = ⊥
IsComputed (request.Verify machine test metric) = ⊥
IsComputed (request.Regress machine test metric change) = ⊥
IsComputed (request.Report machine json) = ⊥
IsComputed q = Unit {0}

-- an item that is such a request, or was refused when it was read
abbrev pub AsksComputed : Item → Type 0
AsksComputed (Ok q) = IsComputed q
AsksComputed (Err reason) = Unit {0}

-- items that ask nothing else have an output
abbrev pub OutputsExist : {S : Type 0} → (S → Request → Option Reply → S → Type 0) → Type 0
OutputsExist {S = S} does =
    (before : S) (items : List Item) → AllByRecursion AsksComputed items
    → (text : List ℕ) × (after : S) × IsOutput does before items text after

-- items have one output
abbrev pub OutputsOnce : {S : Type 0} → (S → Request → Option Reply → S → Type 0) → Type 0
OutputsOnce {S = S} does =
    (before : S) (items : List Item) (text other : List ℕ) (after last : S)
    → IsOutput does before items text after → IsOutput does before items other last
    → (text ≡ other) × (after ≡ last)

-- bytes are one script: they ask one list of items and have one ending
abbrev pub OneScript : Type 0
OneScript =
    (bytes : List ℕ) (items others : List Item) (ending ended : Ending)
    → IsScript bytes items ending → IsScript bytes others ended
    → (items ≡ others) × (ending ≡ ended)

-- a script has one output and one ending
abbrev pub ScriptsOnce : {S : Type 0} → (S → Request → Option Reply → S → Type 0) → Type 0
ScriptsOnce {S = S} does =
    (before : S) (bytes text other : List ℕ) (after last : S) (ending ended : Ending)
    → Out does before bytes text after ending → Out does before bytes other last ended
    → (text ≡ other) × (after ≡ last) × (ending ≡ ended)

-- the text that answers the first items of a script begins its output
abbrev pub BeginsOutput : {S : Type 0} → (S → Request → Option Reply → S → Type 0) → Type 0
BeginsOutput {S = S} does =
    (before : S) (bytes : List ℕ) (items : List Item) (text : List ℕ) (after : S) (whole : List ℕ)
    (last : S) (ending : Ending)
    → AsksFirst bytes items → IsOutput does before items text after
    → Out does before bytes whole last ending → (more : List ℕ) × (whole ≡ text ++ more)

-- what was read before the input failed is asked first
abbrev pub OpenIsFirst : Type 0
OpenIsFirst =
    (bytes : List ℕ) (after : Option (List ℕ)) (items : List Item)
    → GaveOpen bytes after items → AsksFirst bytes items
