-- Private: no public contract cites this. What was answered at a seat was answered at the same seat.
use Rattle.std.{proofs.Common.{◌≡◌, ◌≤◌, ℕ, inl, inr, true, List, [], ◌∷◌, ◌++◌, Option, Ok, Err, refl, sym, subst, ◌∙◌}, specs.Prelude.Result}
use Rattle.track_outside.specs.declared.source.Source as source
use Rattle.track_outside.specs.declared.sink.Sink as sink
use Rattle.request_model.specs.declared.replies.Reply.{Reply}
use Rattle.request_words.specs.Bodies.{Item}
use Rattle.script_loop.specs.{Folds.{AnswersItem, AreAnswers}, Paced.{IsLeft, Paced}, declared.stop.Stop.Stop}
use Rattle.script_loop.specs.declared.stop.Stop.TheVariants as stop
use Rattle.play_seats.specs.{Played.IsPlayed, Sights.{Home, Sight}, Seats.{AnswersAt, FailsAt, Seat, Stays, post_of}}
use Rattle.play_crew.specs.Players.{IsSameSeat, Plays, SplitsMore}

same-self : (s : Seat) → IsSameSeat s s
same-self s = record { author = refl; room = refl; same = refl }

same-then : (a b c : Seat) → IsSameSeat a b → IsSameSeat b c → IsSameSeat a c
same-then a b c one two = record { author = two.author ∙ one.author; room = two.room ∙ one.room; same = two.same ∙ one.same }

same-of : (a b : Seat) → Stays a b → IsSameSeat a b
same-of a b s = record { author = s.author; room = s.room; same = s.same }

item-same : (before : Seat) (item : Item) (told : Option Reply) (after : Seat) → AnswersItem AnswersAt before item told after → IsSameSeat before after
item-same before (Ok q) told after a = same-of before after a.stays
item-same before (Err reason) told after a = subst (IsSameSeat before) (sym a.1) (same-self before)

all-same : (before : Seat) (items : List Item) (replies : List Reply) (after : Seat) → AreAnswers AnswersAt before items replies after → IsSameSeat before after
all-same before [] replies after a = subst (IsSameSeat before) (sym a.1) (same-self before)
all-same before (item ∷ items) replies after a =
    same-then before a.1 after (item-same before item a.0 a.1 a.3) (all-same a.1 items a.2 after a.5)

left-same : (after left : Seat) (result : Result (Unit {0}) Stop) → IsLeft FailsAt after left result → IsSameSeat after left
left-same after left (Ok done) is = subst (IsSameSeat after) (sym is) (same-self after)
left-same after left (Err stop.ReadFault) is = subst (IsSameSeat after) (sym is) (same-self after)
left-same after left (Err stop.WriteFault) is = subst (IsSameSeat after) (sym is) (same-self after)
left-same after left (Err (stop.CutOff offset)) is = subst (IsSameSeat after) (sym is) (same-self after)
left-same after left (Err stop.InputTooLong) is = subst (IsSameSeat after) (sym is) (same-self after)
left-same after left (Err stop.NoMemory) (inl is) = subst (IsSameSeat after) (sym is) (same-self after)
left-same after left (Err stop.NoMemory) (inr fails) = same-of after left fails.stays

-- a player that was run
pub was-played : {I O : Type 0} (i : source.Ghosts I) (o : sink.Ghosts O) (n : ℕ) (seat seat' : Seat) (input input' : I) (output output' : O) (so result : Result (Unit {0}) Stop)
    → IsPlayed (post_of seat) (post_of seat') (i.left input) (o.taken output') result
    → Paced i o input input' output output' AnswersAt FailsAt true seat seat' result
    → i.faults input ≤ i.faults input' → o.name output' ≡ o.name output
    → Plays i o (record { number = n; seat = seat; input = input; output = output; ended = so }) (record { number = n; seat = seat'; input = input'; output = output'; ended = result })
was-played i o n seat seat' input input' output output' so result played p counts named = record {
  number = refl;
  stays = same-then seat p.after seat' (all-same seat p.items p.output.replies p.after p.output.answers) (left-same p.after seat' result p.stands);
  played = played;
  ended = record { items = p.items; text = p.text; read = p.read; wrote = p.wrote; counts = counts; named = named };
}

-- ---- passes that were split off
pub none-more : (room : List Home) (first : List Sight) (old : List (List Sight)) → SplitsMore room 0 first first old (old ++ [])
none-more room first old = record { more = []; behind = refl; splits = refl; many = refl; seated = tt }
