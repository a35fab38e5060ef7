-- A room may be shared by threads, and a pass of it may go to another thread: what they hold may, down to the least part. A
-- search for all of it at once comes to no end, so each larger part is found by itself.
use Rattle.atomic_table.{proofs.Rights.right_send, proofs.Sent.{seat_keyless, shares_keyless}, specs.declared.shared.TableRule.Ghosts}
use Rattle.atomic_table.specs.contracts.shared.Seat as Seat
use Rattle.atomic_table.specs.contracts.shared.Shared as Shared
use Rattle.follow_index.specs.contracts.jobs.JobIndex as JobIndex
use Rattle.follow_index.specs.contracts.regressions.RegressionIndex as RegressionIndex
use Rattle.history_model.specs.contracts.entries.Placed as Placed
use Rattle.line_text.specs.contracts.name.Name as Name
use Rattle.order_index.specs.contracts.index.OrderIndex as OrderIndex
use Rattle.point_list.specs.contracts.points.Points as Points
use Rattle.point_list.specs.contracts.frozen.FrozenPoints as FrozenPoints
use Rattle.prefix_sums.specs.contracts.prefixes.PrefixSums as PrefixSums
use Rattle.publication_index.specs.contracts.settings.SettingIndex as SettingIndex
use Rattle.publication_index.specs.contracts.held.Held as Held
use Rattle.publication_index.specs.contracts.published.PublicationIndex as PublicationIndex
use Rattle.sample_store.specs.contracts.store.SampleStore as SampleStore
use Rattle.segment_cost.specs.contracts.square.Square as Square
use Rattle.series_index.specs.contracts.series.SeriesIndex as SeriesIndex
use Rattle.std.{proofs.Crossing.{crosses, frees}, specs.contracts.impls.GlobalAllocator.TheImpl.ghosts}
use Rattle.std.proofs.MapsCrossing as maps
use Rattle.std.proofs.MapsCrossingOver as over
use Rattle.std.specs.contracts.alloc.Global as Heap
use Rattle.touch_index.specs.contracts.index.TouchIndex as TouchIndex
use Rattle.track_room.specs.contracts.guarded.Guarded as Guarded
use Rattle.track_room.specs.contracts.machine.MachineLock as MachineLock
use Rattle.track_room.specs.contracts.machine.MachinePass as MachinePass
use Rattle.track_room.specs.contracts.room.Room as Room
use Rattle.track_room.specs.contracts.room.RoomPass as RoomPass
use Rattle.track_state.specs.MachineState as MachineState
use Rattle.track_state.specs.contracts.state.TrackState as TrackState
use base.Fml.{Fml}
use denote.Param.Send.{IsSend, IsSync, part_keyless, sendable, owning_send}
use denote.RattleType.{RattleType}
use denote.Struct.Owning as owning
use denote.Struct.Owning.{shape}
use denote.Struct.Record.{Record}
use denote.Struct.Struct.{Struct}

-- ---- what may go to another thread
name_send : IsSend Name.the_row
name_send = search (sendable, crosses) depth 60 fits 20000

placed_send : IsSend Placed.the_row
placed_send = search (sendable, crosses) depth 60 fits 20000

points_send : IsSend Points.the_row
points_send = search (sendable, crosses) depth 60 fits 20000

shared_send : IsSend FrozenPoints.the_row
shared_send = search (sendable, crosses) depth 60 fits 20000

square_send : IsSend Square.the_row
square_send = search (sendable, crosses, owning_send) depth 60 fits 20000

order_send : IsSend OrderIndex.the_row
order_send = search (sendable, crosses, maps.crosses, over.crosses) depth 60 fits 20000

store_send : IsSend SampleStore.the_row
store_send = search (sendable, crosses, maps.crosses, over.crosses) depth 60 fits 20000

series_send : IsSend SeriesIndex.the_row
series_send = search (name_send, points_send, sendable, crosses, maps.crosses, over.crosses) depth 60 fits 20000

held_send : IsSend Held.the_row
held_send = search (square_send, shared_send, sendable, crosses) depth 60 fits 20000

published_send : IsSend PublicationIndex.the_row
published_send = search (name_send, held_send, sendable, crosses, maps.crosses, over.crosses) depth 60 fits 20000

setting_send : IsSend SettingIndex.the_row
setting_send = search (sendable, crosses, maps.crosses, over.crosses) depth 60 fits 20000

touch_send : IsSend TouchIndex.the_row
touch_send = search (sendable, crosses, maps.crosses, over.crosses) depth 60 fits 20000

jobs_send : IsSend JobIndex.the_row
jobs_send = search (sendable, crosses, maps.crosses, over.crosses) depth 60 fits 20000

regressions_send : IsSend RegressionIndex.the_row
regressions_send = search (sendable, crosses, maps.crosses, over.crosses) depth 60 fits 20000

track_send : IsSend MachineState.the_row
track_send = search (name_send, placed_send, order_send, store_send, series_send, published_send, setting_send, jobs_send, regressions_send, sendable, crosses) depth 60 fits 20000

work_send : IsSend TrackState.the_row
work_send = search (track_send, touch_send, sendable, crosses) depth 60 fits 20000

pub guarded_send : IsSend Guarded.the_row
guarded_send = search (work_send, sendable, crosses) depth 60 fits 20000

-- ---- passes
seat_send : (S V : RattleType) → IsSend S → IsSend (Seat.the_row S V)
seat_send S V s = record {
  owned = λ d vs. ((λ vss. (tt, ((λ uss. (tt, tt)), tt))), seat_keyless S s V.coded.code d.table_id d.id d.me);
  leaving = λ k f vs. tt;
}

shared_sync : (S V K P : RattleType) (g : Ghosts P.Denot S.Denot V.Denot K.Denot) → IsSend S → IsSync (Shared.the_row S V K P g)
shared_sync S V K P g s =
    let fields : IsSync (Struct (shape (Shared.the_type S V K P g))) = search sendable depth 20 in
    record { shared = λ d b o ν. (fields.shared (d.words, (d.slots, (tt, tt))) b o ν, shares_keyless S s V.coded.code d.table_id (g.holds d.key) d.words d.slots ν) }

machine_send : IsSend MachinePass.the_row
machine_send = search (guarded_send, seat_send, sendable, crosses) depth 60 fits 20000

pub room_pass_send : IsSend RoomPass.the_row
room_pass_send = search (machine_send, sendable, crosses) depth 60 fits 20000

-- ---- locks
abbrev row_of : {R : RattleType} → IsSend R → RattleType
row_of {R = R} s = R

lease_send : (T : RattleType) → IsSend (row_of (right_send T Heap.the_row ghosts frees))
lease_send T = right_send T Heap.the_row ghosts frees

lease_sync : (T : RattleType) → IsSync (row_of (right_send T Heap.the_row ghosts frees))
lease_sync T = record { shared = λ d b o ν q. part_keyless (row_of (right_send T Heap.the_row ghosts frees)) (lease_send T) q d b o }

lock_sync : IsSync MachineLock.the_row
lock_sync = search (guarded_send, shared_sync, lease_sync, sendable, crosses) depth 60 fits 20000

-- ---- what threads may share
owning_sync : (N : Record) (cs : owning.Codes N) (heap : N.D → Fml) → IsSend (owning.row (owning.owning N cs heap)) → IsSync (owning.row (owning.owning N cs heap))
owning_sync N cs heap s = record { shared = λ d b o κ q. part_keyless (owning.row (owning.owning N cs heap)) s q d b o }

sums_sync : IsSync PrefixSums.the_row
sums_sync = search (sendable, crosses, owning_sync, owning_send) depth 60 fits 20000

name_sync : IsSync Name.the_row
name_sync = search (sendable, crosses) depth 60 fits 20000

placed_sync : IsSync Placed.the_row
placed_sync = search (sendable, crosses) depth 60 fits 20000

points_sync : IsSync Points.the_row
points_sync = search (sendable, crosses) depth 60 fits 20000

shared_points_sync : IsSync FrozenPoints.the_row
shared_points_sync = search (sendable, crosses, points_send, points_sync) depth 60 fits 20000

square_sync : IsSync Square.the_row
square_sync = search (sums_sync, sendable, crosses) depth 60 fits 20000

order_sync : IsSync OrderIndex.the_row
order_sync = search (sendable, crosses, maps.crosses, over.crosses) depth 60 fits 20000

store_sync : IsSync SampleStore.the_row
store_sync = search (sendable, crosses, maps.crosses, over.crosses) depth 60 fits 20000

series_sync : IsSync SeriesIndex.the_row
series_sync = search (name_sync, points_sync, sendable, crosses, maps.crosses, over.crosses) depth 60 fits 20000

held_sync : IsSync Held.the_row
held_sync = search (square_sync, shared_points_sync, sendable, crosses) depth 60 fits 20000

published_sync : IsSync PublicationIndex.the_row
published_sync = search (name_sync, held_sync, sendable, crosses, maps.crosses, over.crosses) depth 60 fits 20000

setting_sync : IsSync SettingIndex.the_row
setting_sync = search (sendable, crosses, maps.crosses, over.crosses) depth 60 fits 20000

jobs_sync : IsSync JobIndex.the_row
jobs_sync = search (sendable, crosses, maps.crosses, over.crosses) depth 60 fits 20000

regressions_sync : IsSync RegressionIndex.the_row
regressions_sync = search (sendable, crosses, maps.crosses, over.crosses) depth 60 fits 20000

track_sync : IsSync MachineState.the_row
track_sync = search (name_sync, placed_sync, order_sync, store_sync, series_sync, published_sync, setting_sync, jobs_sync, regressions_sync, sendable, crosses) depth 60 fits 20000

touch_sync : IsSync TouchIndex.the_row
touch_sync = search (sendable, crosses, maps.crosses, over.crosses) depth 60 fits 20000

work_sync : IsSync TrackState.the_row
work_sync = search (track_sync, touch_sync, sendable, crosses) depth 60 fits 20000

pub room_sync : IsSync Room.the_row
room_sync = search (lock_sync, work_sync, sendable, crosses) depth 60 fits 20000
