-- What a frame owes its window after its event: the moves that are left of a request, a start, a serving, a cancel, a
-- change of the whole module, or a word of a call that waits.
use Rattle.std.specs.Prelude.{ℕ, zero, suc, ◌+◌, ◌-◌, ◌*◌, Bool, true, false, ◌&&◌, if◌then◌else◌, Option, Some, None}
use Rattle.mcal_base.specs.declared.moves.Move.{Move}
use Rattle.service_outline.specs.DeferredWrites.{DeferredWrites, deferring_writes, is_simple}
use Rattle.service_outline.specs.Services.{SharedRefinement}
use Rattle.service_outline.specs.declared.done.Done.{Done}
use Rattle.word_shapes.specs.declared.add.Add.{Add}
use Rattle.word_shapes.specs.declared.add.Add.TheVariants as add
use Rattle.word_shapes.specs.declared.again.Again.{Again}
use Rattle.word_shapes.specs.declared.again.Again.TheVariants as again
use Rattle.word_shapes.specs.declared.choosing.Next.{Next}
use Rattle.word_shapes.specs.declared.choosing.Next.TheVariants as next
use Rattle.word_shapes.specs.declared.dropped.Dropped.{Dropped}
use Rattle.word_shapes.specs.declared.dropped.Dropped.TheVariants as drops
use Rattle.word_shapes.specs.declared.put.Put.{Put}
use Rattle.word_shapes.specs.declared.put.Put.TheVariants as puts
use Rattle.word_shapes.specs.declared.search.Search.{Search}
use Rattle.word_shapes.specs.declared.search.Search.TheVariants as search
use Rattle.word_shapes.specs.declared.take.Take.{Take}
use Rattle.word_shapes.specs.declared.take.Take.TheVariants as take
use Rattle.word_shapes.specs.declared.jobs.banks.Commit.{Commit}
use Rattle.word_shapes.specs.declared.jobs.banks.Commit.TheVariants as commits
use Rattle.word_shapes.specs.declared.jobs.keeping.Keep.{Keep}
use Rattle.word_shapes.specs.declared.jobs.keeping.Keep.TheVariants as keeps
use Rattle.word_shapes.specs.declared.jobs.preparing.Prepare.{Prepare}
use Rattle.word_shapes.specs.declared.jobs.preparing.Prepare.TheVariants as prepares
use Rattle.spi_machine.specs.Bounds.{may}
use Rattle.spi_machine.specs.State.{SpiState}
use Rattle.spi_machine.specs.Wiring.{channel_number, list_of}
use Rattle.spi_machine.specs.declared.call.Call.{Call}
use Rattle.spi_machine.specs.declared.table.SpiTable.{SpiTable}
use Rattle.spi_sequences.specs.Refinement.{spi_bare}
use Rattle.spi_sequences.specs.declared.service.cancel.CancelBody.{CancelBody}
use Rattle.spi_sequences.specs.declared.service.cancel.CancelBody.TheVariants as cancels
use Rattle.spi_sequences.specs.declared.service.request.RequestPlace.{RequestPlace}
use Rattle.spi_sequences.specs.declared.service.request.RequestPlace.TheVariants as requests
use Rattle.spi_sequences.specs.declared.service.serve.Leaving.{Leaving}
use Rattle.spi_sequences.specs.declared.service.serve.ServePlace.{ServePlace}
use Rattle.spi_sequences.specs.declared.service.serve.ServePlace.TheVariants as serves
use Rattle.spi_sequences.specs.declared.service.start.StartPlace.{StartPlace}
use Rattle.spi_sequences.specs.declared.service.start.StartPlace.TheVariants as starts
use Rattle.spi_sequences.specs.declared.service.sync.SyncBody.{SyncBody}
use Rattle.spi_sequences.specs.declared.service.sync.SyncPlace.{SyncPlace}
use Rattle.spi_sequences.specs.declared.service.sync.SyncPlace.TheVariants as sends
use Rattle.spi_sequences.specs.declared.service.unit.UnitBody.{UnitBody}
use Rattle.spi_sequences.specs.declared.service.unit.UnitPlace.{UnitPlace}
use Rattle.spi_sequences.specs.declared.service.unit.UnitPlace.TheVariants as units
use Rattle.spi_sequences.specs.declared.service.whole.WholeBody.{WholeBody}
use Rattle.spi_sequences.specs.declared.service.whole.WholeBody.TheVariants as wholes
use Rattle.spi_sequences.specs.laws.services.CancelSteps.{cancel_work, cancel_takes}
use Rattle.spi_sequences.specs.laws.services.ServeSteps.{commit_at, meets_at}
use Rattle.spi_sequences.specs.laws.services.SyncSteps.{sync_work, sync_takes}
use Rattle.spi_sequences.specs.laws.services.UnitSteps.{unit_work, unit_takes}
use Rattle.spi_sequences.specs.laws.services.ModuleSteps.{whole_work, whole_takes}

-- ---- which places owe moves: those after the event

abbrev pub request_owes : RequestPlace → Bool
request_owes (requests.Look q) = false
request_owes requests.Accept = false
request_owes _ = true

abbrev pub start_owes : StartPlace → Bool
start_owes (starts.Choose c p) = true
start_owes (starts.Mark c) = true
start_owes (starts.Prepare r i p) = true
start_owes (starts.Release r p) = true
start_owes (starts.Run r) = true
start_owes starts.Stand = true
start_owes _ = false

abbrev pub serve_owes : ServePlace → Bool
serve_owes (serves.Let r p t) = true
serve_owes (serves.Keep k p) = true
serve_owes (serves.Stand p) = true
serve_owes (serves.Free r c) = true
serve_owes (serves.Release l i t) = true
serve_owes (serves.KeepLast l k) = true
serve_owes (serves.Commit l i c) = true
serve_owes (serves.Result l) = true
serve_owes (serves.Further r v) = true
serve_owes (serves.Again r a) = true
serve_owes (serves.End r x) = true
serve_owes (serves.Drop r p) = true
serve_owes _ = false

abbrev pub unit_owes : UnitPlace → Bool
unit_owes (units.Request p) = request_owes p
unit_owes (units.Start p) = start_owes p
unit_owes (units.Serve p) = serve_owes p
unit_owes _ = false

-- a sequence that a call sends has no order to go on in, and none to leave
abbrev pub sent_owes : ServePlace → Bool
sent_owes (serves.Further r v) = false
sent_owes (serves.Again r a) = false
sent_owes (serves.Drop r p) = false
sent_owes p = serve_owes p

abbrev pub sync_owes : SyncPlace → Bool
sync_owes sends.Pend = true
sync_owes (sends.Keep r p) = true
sync_owes (sends.Commit r i p) = true
sync_owes (sends.Result r) = true
sync_owes (sends.Prepare i p) = true
sync_owes sends.Run = true
sync_owes sends.Stand = true
sync_owes sends.Nexts = true
sync_owes (sends.Next v) = true
sync_owes (sends.Serve p) = sent_owes p
sync_owes _ = false

abbrev pub cancel_owes : CancelBody → Bool
cancel_owes (cancels.Drop r p) = true
cancel_owes _ = false

abbrev pub whole_owes : WholeBody → Bool
whole_owes (wholes.Lines x) = true
whole_owes _ = false

-- ---- what is owed

pub data PendingWrites : Type 0 where
  Units : UnitBody → PendingWrites
  Cancels : CancelBody → PendingWrites
  Wholes : WholeBody → PendingWrites
  Sends : SyncBody → PendingWrites

abbrev pub where_owed : Bool → PendingWrites → Option PendingWrites
where_owed q x = if q then Some x else None

abbrev pub unit_owed : UnitBody → Option PendingWrites
unit_owed k = where_owed (unit_owes k.place) (Units k)

abbrev pub cancel_owed_at : CancelBody → Option PendingWrites
cancel_owed_at k = where_owed (cancel_owes k) (Cancels k)

abbrev pub whole_owed : WholeBody → Option PendingWrites
whole_owed k = where_owed (whole_owes k) (Wholes k)

abbrev pub sync_owed : SyncBody → Option PendingWrites
sync_owed k = where_owed (sync_owes k.place) (Sends k)

abbrev pub owed_move : PendingWrites → Move
owed_move (Units k) = unit_work k
owed_move (Cancels k) = cancel_work k
owed_move (Wholes k) = whole_work k
owed_move (Sends k) = sync_work k

-- nothing is owed before the event, and by a body that is done
abbrev pub unless_done : Option Done → Option PendingWrites → Option PendingWrites
unless_done None x = x
unless_done (Some n) x = None

abbrev pub owed_left : PendingWrites → ℕ → Option PendingWrites
owed_left (Units k) v = if unit_owes k.place then unless_done (unit_takes k v).1.done (unit_owed (unit_takes k v).0) else None
owed_left (Cancels k) v = if cancel_owes k then unless_done (cancel_takes k v).1.done (cancel_owed_at (cancel_takes k v).0) else None
owed_left (Wholes k) v = if whole_owes k then unless_done (whole_takes k v).1.done (whole_owed (whole_takes k v).0) else None
owed_left (Sends k) v = if sync_owes k.place then unless_done (sync_takes k v).1.done (sync_owed (sync_takes k v).0) else None

-- ---- how many moves follow, at most

abbrev pub search_more : Search → ℕ
search_more (search.Tally at) = 2
search_more (search.Low at tally) = 1
search_more (search.High at tally low) = 0

abbrev pub add_more : Add → ℕ
add_more (add.Count at n) = 3
add_more (add.Find at n tally) = 2
add_more (add.Place at word value tally) = 1
add_more (add.Tell at tally) = 0

abbrev pub again_more : Again → ℕ
again_more (again.Look at n) = 1
again_more (again.Tell at tally) = 0

abbrev pub next_more : Next → ℕ
next_more (next.Look s ranks) = 1 + search_more s
next_more (next.Tell at tally n) = 0

abbrev pub drop_more : Dropped → ℕ
drop_more (drops.Look s n) = 3 + search_more s
drop_more (drops.Low at p) = 2
drop_more (drops.High at p) = 1
drop_more (drops.Tell at tally) = 0

abbrev pub take_more : Take → ℕ
take_more (take.Pin c) = 1
take_more (take.Release c) = 1
take_more _ = 0

abbrev pub put_more : Put → ℕ
put_more (puts.Commit c b) = 1
put_more _ = 0

abbrev pub commit_more : Commit → ℕ
commit_more (commits.Held x) = 2
commit_more (commits.Put p) = put_more p

abbrev pub keep_more : Keep → ℕ
keep_more (keeps.Hold x b w) = 1
keep_more _ = 0

abbrev pub prepare_more : Prepare → ℕ
prepare_more (prepares.Pin p) = take_more p
prepare_more (prepares.Load x) = 1
prepare_more (prepares.Hold x by) = 0

abbrev pub request_more : RequestPlace → ℕ
request_more (requests.Look q) = 0
request_more requests.Accept = 0
request_more requests.Nexts = 7
request_more (requests.First v) = 6
request_more requests.Marks = 5
request_more (requests.Unmark v) = 4
request_more (requests.Add p) = add_more p

abbrev pub start_more : StartPlace → ℕ
start_more (starts.Choose c p) = 13 + next_more p
start_more (starts.Mark c) = 12
start_more (starts.Prepare r i p) = 4 + 2 * (3 - i) + prepare_more p
start_more (starts.Release r p) = 2 + take_more p
start_more (starts.Run r) = 1
start_more _ = 0

-- the moves after which the received words of the last n channels of four are readable
abbrev pub commits_left : SpiTable → Leaving → ℕ → ℕ
commits_left d l zero = 0
commits_left d l (suc n) =
    (if meets_at d (λ x. x.channel.internal) (channel_number (list_of d l.served.run.job) (4 - suc n)) then 1 + commit_more (commit_at d l (4 - suc n)) else 0) + commits_left d l n

-- a job's end with its result, and its sequence's with the drop, take eight moves; the end of a pin takes two
abbrev pub serve_more : SpiTable → ServePlace → ℕ
serve_more d (serves.Let r p t) = 3 + take_more t
serve_more d (serves.Keep k p) = 1 + keep_more k
serve_more d (serves.Stand p) = 0
serve_more d (serves.Free r c) = if r.served.failed then 16 else 10 + commits_left d (record { served = r.served; taker = r.taker; course = c }) 4
serve_more d (serves.KeepLast l k) = 8 + commits_left d l 4 + keep_more k
serve_more d (serves.Commit l i c) = 8 + commits_left d l (3 - i) + commit_more c
serve_more d (serves.Release l i t) = 8 + 2 * (3 - i) + take_more t
serve_more d (serves.Result l) = 7
serve_more d (serves.End r x) = 6
serve_more d (serves.Further r v) = 2
serve_more d (serves.Again r a) = again_more a
serve_more d (serves.Drop r p) = drop_more p
serve_more d _ = 0

abbrev pub unit_more : SpiTable → UnitPlace → ℕ
unit_more d (units.Request p) = request_more p
unit_more d (units.Start p) = start_more p
unit_more d (units.Serve p) = serve_more d p
unit_more d _ = 0

-- a job that began has at most twelve moves after its result, or after the sequence's
abbrev pub sync_more : SpiTable → SyncPlace → ℕ
sync_more d sends.Pend = 12
sync_more d (sends.Keep r p) = 21 + keep_more p
sync_more d (sends.Commit r i p) = 13 + 2 * (3 - i) + put_more p
sync_more d (sends.Result r) = 12
sync_more d (sends.Prepare i p) = 4 + 2 * (3 - i) + prepare_more p
sync_more d sends.Run = 3
sync_more d sends.Stand = 2
sync_more d sends.Nexts = 1
sync_more d (sends.Serve p) = serve_more d p
sync_more d _ = 0

abbrev pub cancel_more : CancelBody → ℕ
cancel_more (cancels.Drop r p) = drop_more p
cancel_more _ = 0

abbrev pub more_owed : PendingWrites → ℕ
more_owed (Units k) = unit_more k.table k.place
more_owed (Cancels k) = cancel_more k
more_owed (Wholes k) = 0
more_owed (Sends k) = sync_more k.table k.place

-- ---- the basis with what is owed: loads and stores of the module's words, and writes that enable or disable its lines

abbrev pub owes_move : SpiTable → Move → Bool
owes_move d made = is_simple made && may d made

abbrev pub spi_owing : SpiTable → DeferredWrites PendingWrites
spi_owing d = record { own = owes_move d; fits = λ x chip. Unit {0}; move = owed_move; left = owed_left; more = more_owed }

abbrev pub spi_basis : SpiTable → SharedRefinement SpiState Call
spi_basis d = deferring_writes (spi_bare d) (spi_owing d)
