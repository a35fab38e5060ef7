use Rattle.track_model.specs.Tracks.{Track}
use Rattle.room_tests.proofs.Added.{found-later, grows}
use Rattle.room_tests.proofs.of_track_series.is_handed_over.Goals as goal

pub publish_taken-told_new-requires : goal.publish_taken-told_new-requires
publish_taken-told_new-requires c = c.taken-new.ensures.taken

pub publish_taken-told-requires : goal.publish_taken-told-requires
publish_taken-told-requires c = c.taken-second.ensures.taken

pub publish_taken-told_last-requires : goal.publish_taken-told_last-requires
publish_taken-told_last-requires c =
    let t : Track = c.taken-first.new.track in
    let u : Track = c.taken-second.new.track in
    let last : Track = c.publish_taken-told.new.track in
    found-later t last c.taken-first.result (grows t u last c.taken-second.ensures.grows c.publish_taken-told.ensures) c.taken-first.ensures.taken
