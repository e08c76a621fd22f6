-- What holds at the places of the serving window of a unit, before its event: what was loaded and read is what stands there.
use Rattle.std.specs.Prelude.{◌≡◌, ℕ, ◌+◌, ◌==◌, Bool, true, false, ◌&&◌, if◌then◌else◌, List, ◌++◌, length, Option, Some, None, slice_index_or}
use Rattle.mcal_base.specs.declared.notice.Notice.{Notice}
use Rattle.run_model.specs.World.{World}
use Rattle.word_shapes.specs.Playing.{Memory}
use Rattle.word_shapes.specs.jobs.Parts.{taker_of}
use Rattle.word_shapes.specs.jobs.Placing.{control_word, held_word, pinned_bank, unpacked}
use Rattle.word_shapes.specs.declared.jobs.channel.Placed.{Placed}
use Rattle.word_shapes.specs.declared.jobs.channel.Side.TheVariants.{Sent, Received}
use Rattle.word_shapes.specs.declared.jobs.finding.Find.{Find}
use Rattle.word_shapes.specs.declared.jobs.finding.Find.TheVariants as finds
use Rattle.word_shapes.specs.declared.jobs.keeping.Taker.{Taker}
use Rattle.spi_machine.specs.State.{SpiState, carried_at, job_notice, sequence_notice, run_at}
use Rattle.spi_machine.specs.Table.{is_sync_unit}
use Rattle.spi_machine.specs.Transfers.{JobWord, Run, is_done, no_word, received_with}
use Rattle.spi_machine.specs.declared.table.SpiTable.{SpiTable}
use Rattle.spi_sequences.specs.Refinement.{run_carried}
use Rattle.spi_sequences.specs.Words.{cancelled_bit, has_mark, position_in, position_word, run_in, running_word}
use Rattle.spi_sequences.specs.declared.service.serve.Arrived.{Arrived}
use Rattle.spi_sequences.specs.declared.service.serve.SequenceNext.{SequenceNext}
use Rattle.spi_sequences.specs.declared.service.serve.SequenceNext.TheVariants.{Further, Ends}
use Rattle.spi_sequences.specs.declared.service.serve.ServePlace.{ServePlace}
use Rattle.spi_sequences.specs.declared.service.serve.ServePlace.TheVariants as serve
use Rattle.spi_sequences.specs.declared.service.serve.Served.{Served}
use Rattle.spi_sequences.specs.declared.words.Position.{Position}
use Rattle.spi_sequences.specs.declared.words.TheConstants.{MARKS, NEXTS}
use Rattle.spi_sequences.specs.laws.services.ServeSteps.{after_job, begins_of, channel_next, channel_served, further_of}

-- ---- what was loaded and read

-- the job that a unit runs: of a pending sequence, or of the one that it carries out for a call
abbrev pub unit_run : SpiTable → SpiState → (number : ℕ) → Option Run
unit_run d s u = if is_sync_unit d u then run_carried (carried_at s u) else run_at s u

-- the word in transfer of a unit is done, and this says whether it failed
pub record IsDone (d : SpiTable) (s : SpiState) (now u : ℕ) (bad : Bool) : Type 0 where
  pub run : Run
  pub is : unit_run d s u ≡ Some run
  pub done : is_done now run.transfer ≡ true
  pub failed : run.transfer.failed ≡ bad

-- the unit's words are these
pub record IsServed (d : SpiTable) (m : Memory) (s : SpiState) (now u : ℕ) (r : Served) : Type 0 where
  pub done : IsDone d s now u r.failed
  pub run : run_in (m (running_word u)) ≡ Some r.run
  pub at : position_in (m (position_word u)) ≡ r.at

-- the word that tells where a received one goes, and where that is
abbrev pub asked_word : Placed → (place : ℕ) → ℕ
asked_word x i = if x.channel.internal && i == 0 then control_word x Received else held_word x

pub record IsTaken (d : SpiTable) (m : Memory) (s : SpiState) (now u : ℕ) (r : Served) (t : Taker) : Type 0 where
  pub served : IsServed d m s now u r
  pub taker : t ≡ taker_of (channel_served d r) r.at.word (m (asked_word (channel_served d r) r.at.word))

-- this came in, unless it failed
pub record IsArrived (d : SpiTable) (m : Memory) (s : SpiState) (now u : ℕ) (a : Arrived) : Type 0 where
  pub taken : IsTaken d m s now u a.served a.taker
  pub word : (run : Run) → unit_run d s u ≡ Some run → run.transfer.failed ≡ false → a.word ≡ run.transfer.incoming

-- a further word is there, at this place
pub record IsFurther (d : SpiTable) (m : Memory) (s : SpiState) (now u : ℕ) (a : Arrived) (p : Position) : Type 0 where
  pub arrived : IsArrived d m s now u a
  pub good : a.served.failed ≡ false
  pub next : further_of d a ≡ Some p

-- the word of a run after the one in transfer
abbrev pub word_after : Run → JobWord
word_after r = slice_index_or r.words (length (received_with r)) no_word

-- what its channel sends there is looked for
abbrev pub IsFinding : Memory → Placed → (place : ℕ) → Find → Type 0
IsFinding m x i (finds.Pinned y j) = (y ≡ x) × (j ≡ i) × (x.channel.internal ≡ true)
IsFinding m x i (finds.Held y j) = (y ≡ x) × (j ≡ i) × (x.channel.internal ≡ false)
IsFinding m x i (finds.Bank y j b) = (y ≡ x) × (j ≡ i) × (x.channel.internal ≡ true) × (b ≡ pinned_bank (m (control_word x Sent)))
IsFinding m x i (finds.Source y j) = (y ≡ x) × (j ≡ i) × (x.channel.internal ≡ false) × ((unpacked (m (held_word x))).source ≡ true)
IsFinding m x i (finds.Default y) = (y ≡ x) × (x.channel.internal ≡ false) × ((unpacked (m (held_word x))).source ≡ false)
IsFinding m x i _ = ⊥

-- no further word is there, or this one failed: the job ends
pub record IsLast (d : SpiTable) (m : Memory) (s : SpiState) (now u : ℕ) (a : Arrived) : Type 0 where
  pub arrived : IsArrived d m s now u a
  pub ends : begins_of d a ≡ serve.Marks a

-- ---- the places

-- words of a chip, and the devices and the widths of its units
abbrev pub Footing : Type 0
Footing = Memory × (ℕ → ℕ) × (ℕ → ℕ)

abbrev pub word_place : SpiTable → (number : ℕ) → ServePlace → Footing → World → SpiState → Type 0
word_place d u serve.Shut f w s = Unit {0}
word_place d u serve.State f w s = Unit {0}
word_place d u (serve.Running failed) f w s = IsDone d s w.now u failed
word_place d u (serve.Position r failed) f w s = IsDone d s w.now u failed × (run_in (f.0 (running_word u)) ≡ Some r)
word_place d u (serve.Taker r) f w s = IsServed d f.0 s w.now u r
word_place d u (serve.Receive r t) f w s = IsTaken d f.0 s w.now u r t
word_place d u (serve.Width a p) f w s = IsFurther d f.0 s w.now u a p
word_place d u (serve.Find a p x) f w s = IsFurther d f.0 s w.now u a p × (f.2 u ≡ (channel_next d a p).channel.width) × IsFinding f.0 (channel_next d a p) p.word x
word_place d u (serve.Begin a p v) f w s = IsFurther d f.0 s w.now u a p × (f.2 u ≡ (channel_next d a p).channel.width) × ((run : Run) → unit_run d s u ≡ Some run → v ≡ (word_after run).sent)
word_place d u (serve.Marks a) f w s = IsLast d f.0 s w.now u a
word_place d u (serve.Nexts a c) f w s = IsLast d f.0 s w.now u a × (c ≡ has_mark (f.0 MARKS) (cancelled_bit a.served.run.sequence))
word_place d u (serve.Acknowledge a c) f w s = IsLast d f.0 s w.now u a × (c ≡ after_job d a.served (has_mark (f.0 MARKS) (cancelled_bit a.served.run.sequence)) (f.0 NEXTS))
word_place d u _ f w s = ⊥

-- those of a frame that serves: its unit starts jobs of pending sequences
abbrev pub serve_place : SpiTable → (number : ℕ) → ServePlace → Footing → World → SpiState → Type 0
serve_place d u p f w s = (is_sync_unit d u ≡ false) × word_place d u p f w s

-- the moves of the window that are left, at most, but for its first and last one, and the steps
abbrev pub find_room : Find → ℕ
find_room (finds.Bank x i b) = 7
find_room (finds.Source x i) = 7
find_room (finds.Default x) = 7
find_room _ = 8

abbrev pub serve_room : ServePlace → ℕ
serve_room serve.State = 30
serve_room (serve.Running failed) = 29
serve_room (serve.Position r failed) = 28
serve_room (serve.Taker r) = 27
serve_room (serve.Receive r t) = 26
serve_room (serve.Width a p) = 9
serve_room (serve.Find a p f) = find_room f
serve_room (serve.Begin a p v) = 6
serve_room (serve.Marks a) = 25
serve_room (serve.Nexts a c) = 24
serve_room (serve.Acknowledge a c) = 23
serve_room _ = 0

abbrev pub serve_fuel : ServePlace → ℕ
serve_fuel serve.Shut = 33
serve_fuel serve.State = 32
serve_fuel p = 1 + serve_room p

-- ---- what is told

-- the notices of a job's end, by how its sequence goes on
abbrev pub notices_by : SpiTable → Served → SequenceNext → List Notice
notices_by d r (Further v) = job_notice d r.run.job
notices_by d r (Ends x) = job_notice d r.run.job ++ sequence_notice d r.run.sequence

-- the notices that are told after the moves that are owed at a place; none are where a further word has begun
abbrev pub serve_ahead : SpiTable → ServePlace → Option (List Notice)
serve_ahead d (serve.Free r c) = Some (notices_by d r.served c)
serve_ahead d (serve.Release l i t) = Some (notices_by d l.served l.course)
serve_ahead d (serve.KeepLast l k) = Some (notices_by d l.served l.course)
serve_ahead d (serve.Commit l i c) = Some (notices_by d l.served l.course)
serve_ahead d (serve.Result l) = Some (notices_by d l.served l.course)
serve_ahead d (serve.Further r v) = Some (job_notice d r.run.job)
serve_ahead d (serve.Again r a) = Some (job_notice d r.run.job)
serve_ahead d (serve.End r x) = Some (job_notice d r.run.job ++ sequence_notice d r.run.sequence)
serve_ahead d (serve.Drop r p) = Some (job_notice d r.run.job ++ sequence_notice d r.run.sequence)
serve_ahead d _ = None
