-- The moves of the module's frames wait for no word, but for one of a call that sends a sequence and waits.
-- From services.ChannelSteps, services.UnitSteps, services.InitSteps, services.ModuleSteps and 4 more.
-- Used by spi_driver: bookkeeping.Lawful, spi_laws: sending.services.SendRight.
use Rattle.std.proofs.Common.{◌∙◌}
use Rattle.std.specs.Prelude.{◌≡◌, ◌&&◌, ◌==◌, if◌then◌else◌}
use Rattle.spi_sequences.specs.Terms
use Terms.{Add, cancel_work, CancelBody, Channel, channel_of, Commit, control_word, Dropped, EnableClear, EnableSet}
use Terms.{false, held_word, InitBody, InitPlace, JobPlace, JobQuery, Keep, LINES, Load, Move, Next, None, Option}
use Terms.{Placed, Prepare, Put, put_move, QueryBody, ReadBody, ReadPlace, Received, refl, RequestPlace, Search}
use Terms.{ServePlace, SetUpBody, Some, SpiTable, StartPlace, sym, Take, take_move, true, UnitBody, UnitPlace, Whole}
use Terms.{whole_work, WholeBody, Write, WriteBody, ℕ}
use Rattle.run_model.specs.Frame.{is_wait}
use Rattle.word_shapes.specs.{declared.again.Again.{Again}, PriorityQueue.{add_move, again_move, drop_move, next_move}}
use Rattle.word_shapes.specs.PriorityQueue.{search_move}
use Rattle.word_shapes.specs.{declared.jobs.finding.Find.{Find}, jobs.Parts.{asking, commit_move, find_move, keep_move}}
use Rattle.word_shapes.specs.jobs.Parts.{prepare_move}
use Rattle.spi_machine.specs.declared.call.AsyncMode.TheVariants.{Interrupt}
use Rattle.spi_sequences.specs.{declared.service.whole.Whole.TheVariants.{Mode}, laws.services.ChannelSteps.{read_move}}
use Rattle.spi_sequences.specs.laws.services.ChannelSteps.{read_work, set_up_work, write_work}
use Rattle.spi_sequences.specs.laws.services.InitSteps.{init_move, init_work, set_up_move}
use Rattle.spi_sequences.specs.{laws.services.ModuleSteps.{lines_move}, laws.services.QuerySteps.{job_move, query_work}}
use Rattle.spi_sequences.specs.laws.services.ServeSteps.{channel_served, serve_move}
use Rattle.spi_sequences.specs.{laws.services.StartSteps.{start_move}, laws.services.UnitSteps.{request_move}}
use Rattle.spi_sequences.specs.laws.services.UnitSteps.{requested_by, unit_move, unit_work}
use Rattle.word_shapes.specs.declared.add.Add.TheVariants as adds
use Rattle.word_shapes.specs.declared.again.Again.TheVariants as agains
use Rattle.word_shapes.specs.declared.choosing.Next.TheVariants as nexts
use Rattle.word_shapes.specs.declared.dropped.Dropped.TheVariants as drops
use Rattle.word_shapes.specs.declared.put.Put.TheVariants as puts
use Rattle.word_shapes.specs.declared.search.Search.TheVariants as searches
use Rattle.word_shapes.specs.declared.take.Take.TheVariants as takes
use Rattle.word_shapes.specs.declared.jobs.banks.Commit.TheVariants as commits
use Rattle.word_shapes.specs.declared.jobs.finding.Find.TheVariants as finds
use Rattle.word_shapes.specs.declared.jobs.keeping.Keep.TheVariants as keeps
use Rattle.word_shapes.specs.declared.jobs.preparing.Prepare.TheVariants as prepares
use Rattle.spi_sequences.specs.declared.service.cancel.CancelBody.TheVariants as cancel
use Rattle.spi_sequences.specs.declared.service.init.InitPlace.TheVariants as init
use Rattle.spi_sequences.specs.declared.service.query.JobPlace.TheVariants as job
use Rattle.spi_sequences.specs.declared.service.query.QueryBody.TheVariants as query
use Rattle.spi_sequences.specs.declared.service.read.ReadPlace.TheVariants as read
use Rattle.spi_sequences.specs.declared.service.request.RequestPlace.TheVariants as request
use Rattle.spi_sequences.specs.declared.service.serve.ServePlace.TheVariants as serve
use Rattle.spi_sequences.specs.declared.service.set_up.SetUpBody.TheVariants as set_up
use Rattle.spi_sequences.specs.declared.service.start.StartPlace.TheVariants as start
use Rattle.spi_sequences.specs.declared.service.unit.UnitPlace.TheVariants as place
use Rattle.spi_sequences.specs.declared.service.whole.WholeBody.TheVariants as whole
use Rattle.spi_sequences.specs.declared.service.write.WriteBody.TheVariants as write

-- the move waits for nothing
abbrev pub IsAtOnce : Move → Type 0
IsAtOnce made = is_wait made ≡ false

pub never : {X : Type 0} (made : Move) → IsAtOnce made → is_wait made ≡ true → X
never made f e = absurd (let g : false ≡ true = sym f ∙ e in cc)

-- ---- parts of moves

search_once : (s : Search) → IsAtOnce (search_move s)
search_once (searches.Tally at) = refl
search_once _ = refl

add_once : (p : Add) → IsAtOnce (add_move p)
add_once (adds.Count at n) = refl
add_once _ = refl

again_once : (p : Again) → IsAtOnce (again_move p)
again_once (agains.Look at n) = refl
again_once _ = refl

drop_once : (p : Dropped) → IsAtOnce (drop_move p)
drop_once (drops.Look s n) = search_once s
drop_once _ = refl

next_once : (p : Next) → IsAtOnce (next_move p)
next_once (nexts.Look s ranks) = search_once s
next_once _ = refl

pub put_once : (p : Put) → IsAtOnce (put_move p)
put_once (puts.Choose c) = refl
put_once _ = refl

take_once : (p : Take) → IsAtOnce (take_move p)
take_once (takes.Pin c) = refl
take_once _ = refl

commit_once : (p : Commit) → IsAtOnce (commit_move p)
commit_once (commits.Held x) = refl
commit_once (commits.Put p) = put_once p

pub prepare_once : (p : Prepare) → IsAtOnce (prepare_move p)
prepare_once (prepares.Pin p) = take_once p
prepare_once _ = refl

pub find_once : (p : Find) → IsAtOnce (find_move p)
find_once (finds.Newest x) = refl
find_once _ = refl

pub keep_once : (p : Keep) → IsAtOnce (keep_move p)
keep_once (keeps.Drop x) = refl
keep_once _ = refl

pub asking_once : (x : Placed) (i : ℕ) → IsAtOnce (asking x i)
asking_once x i =
    elim (x.channel.internal && i == 0) as (λ q. IsAtOnce (if q then Load (control_word x Received) else Load (held_word x)))
    [ true ↦ refl | false ↦ refl ]

-- ---- the services

set_up_part : (d : SpiTable) (c : ℕ) (k : Option Channel) → IsAtOnce (set_up_move d c k)
set_up_part d c None = refl
set_up_part d c (Some k) = refl

init_part : (d : SpiTable) (p : InitPlace) → IsAtOnce (init_move d p)
init_part d (init.SetUp c) = set_up_part d c (channel_of d c)
init_part d (init.Commit c side p) = put_once p
init_part d _ = refl

pub init_once : (k : InitBody) → IsAtOnce (init_work k)
init_once k = init_part k.table k.place

lines_part : (w : Whole) → IsAtOnce (lines_move w)
lines_part (Mode Interrupt n) =
    elim (n == 0) as (λ q. IsAtOnce (if q then Write EnableClear LINES else Write EnableSet n))
    [ true ↦ refl | false ↦ refl ]
lines_part _ = refl

pub whole_once : (k : WholeBody) → IsAtOnce (whole_work k)
whole_once (whole.Lines w) = lines_part w
whole_once _ = refl

job_part : (r : JobQuery) (p : JobPlace) → IsAtOnce (job_move r p)
job_part r job.Running = refl
job_part r _ = refl

pub query_once : (k : QueryBody) → IsAtOnce (query_work k)
query_once (query.Job r) = job_part r r.place
query_once _ = refl

pub set_up_once : (k : SetUpBody) → IsAtOnce (set_up_work k)
set_up_once (set_up.Store x by) = refl

pub write_once : (k : WriteBody) → IsAtOnce (write_work k)
write_once (write.Commit r b p) = put_once p
write_once _ = refl

read_part : (k : ReadBody) (p : ReadPlace) → IsAtOnce (read_move k p)
read_part k (read.Pin p) = take_once p
read_part k (read.Release p) = take_once p
read_part k _ = refl

pub read_once : (k : ReadBody) → IsAtOnce (read_work k)
read_once k = read_part k k.place

pub cancel_once : (k : CancelBody) → IsAtOnce (cancel_work k)
cancel_once (cancel.Drop r p) = drop_once p
cancel_once _ = refl

-- ---- the frames that serve and start

request_part : (q : ℕ) (p : RequestPlace) → IsAtOnce (request_move q p)
request_part q (request.Add p) = add_once p
request_part q _ = refl

pub serve_once : (d : SpiTable) (u : ℕ) (p : ServePlace) → IsAtOnce (serve_move d u p)
serve_once d u (serve.Taker r) = asking_once (channel_served d r) r.at.word
serve_once d u (serve.Find r p f) = find_once f
serve_once d u (serve.Let r p t) = take_once t
serve_once d u (serve.Keep k p) = keep_once k
serve_once d u (serve.Release r i t) = take_once t
serve_once d u (serve.KeepLast r k) = keep_once k
serve_once d u (serve.Commit r i c) = commit_once c
serve_once d u (serve.Again r a) = again_once a
serve_once d u (serve.Drop r p) = drop_once p
serve_once d u _ = refl

start_part : (d : SpiTable) (u : ℕ) (p : StartPlace) → IsAtOnce (start_move d u p)
start_part d u (start.Front v m p) = search_once p.search
start_part d u (start.Find c p) = find_once p
start_part d u (start.Choose c p) = next_once p
start_part d u (start.Prepare r i p) = prepare_once p
start_part d u (start.Release r p) = take_once p
start_part d u _ = refl

unit_part : (k : UnitBody) (p : UnitPlace) → IsAtOnce (unit_move k p)
unit_part k (place.Request r) = request_part (requested_by k.errand) r
unit_part k (place.Serve r) = serve_once k.table k.unit r
unit_part k (place.Start r) = start_part k.table k.unit r
unit_part k _ = refl

pub unit_once : (k : UnitBody) → IsAtOnce (unit_work k)
unit_once k = unit_part k k.place
