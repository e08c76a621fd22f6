-- The start window of a unit: its steps.
-- Used by spi_laws: starting.services.StartRight, spi_laws: starting.services.StartAround and 21 more.
use Rattle.std.specs.Prelude.{◌+◌, ◌==◌, ◌&&◌, if◌then◌else◌, [], ◌∷◌}
use Rattle.spi_sequences.specs.StepTerms
use StepTerms.{bit_or, Bool, channel_at_place, channel_number, Chosen, false, Find, find_gave, find_left, find_move}
use StepTerms.{finding_first, Front, front_gave, front_left, front_move, gave, has_ended, has_mark, is_interruptible}
use StepTerms.{job_at_place, job_of, List, list_of, Load, MARKS, Mask, Move, nat_le, nat_lt, Next, next_gave, next_in}
use StepTerms.{next_left, next_move, NEXTS, None, not, Option, packed_run, Placed, placed_of, position_word, Prepare}
use StepTerms.{prepare_ends, prepare_left, prepare_move, preparing, priority_by, releasing, Running, running_word}
use StepTerms.{search_of, select_by, select_of, Sent, sequence_of, SerialData, SerialSelect, SerialWidth, Some, Spi0}
use StepTerms.{Spi1, SpiTable, Start, Started, started_bit, StartPlace, Store, Take, take_gave, take_left, take_move}
use StepTerms.{Taken, true, Write, ℕ}
use Rattle.spi_sequences.specs.declared.service.start.Started.TheVariants.{Goes, Over}
use Rattle.mcal_base.specs.declared.moves.Unit as units
use Rattle.word_shapes.specs.declared.choosing.Next.TheVariants as nexts
use Rattle.spi_sequences.specs.declared.service.start.StartPlace.TheVariants as start

-- the marks with that of the sequence, which has started
abbrev pub marks_started : Chosen → ℕ
marks_started c = bit_or c.marks (started_bit c.run.sequence)

-- a sequence that has started and isn't interruptible stands above the priorities of the others' next jobs
abbrev pub rank_in : SpiTable → (nexts marks sequence : ℕ) → ℕ
rank_in d v m q =
    if has_mark m (started_bit q) && not (is_interruptible (sequence_of d q)) then 4 else priority_by (job_of d (job_at_place d q (next_in v q)))

abbrev pub ranks_in : SpiTable → (nexts marks : ℕ) → List ℕ
ranks_in d v m = rank_in d v m 0 ∷ rank_in d v m 1 ∷ rank_in d v m 2 ∷ rank_in d v m 3 ∷ rank_in d v m 4 ∷ rank_in d v m 5 ∷ rank_in d v m 6 ∷ rank_in d v m 7 ∷ 0 ∷ 0 ∷ 0 ∷ 0 ∷ 0 ∷ 0 ∷ 0 ∷ 0 ∷ []

-- what selects the device of a job
abbrev pub selects : SpiTable → (job : ℕ) → ℕ
selects d j = select_of (select_by (job_of d j))

abbrev pub unit_named : ℕ → units.Unit
unit_named u = if u == 0 then Spi0 else Spi1

abbrev pub start_move : SpiTable → (number : ℕ) → StartPlace → Move
start_move d u start.Shut = Mask
start_move d u start.Running = Load (running_word u)
start_move d u start.Nexts = Load NEXTS
start_move d u (start.Marks v) = Load MARKS
start_move d u (start.Front v m p) = front_move p
start_move d u (start.Find c p) = find_move p
start_move d u (start.Select c x) = Write (SerialSelect u) (selects d c.run.job)
start_move d u (start.Width c x) = Write (SerialWidth u) (channel_at_place d c.run.job 0).channel.width
start_move d u (start.Begin c x) = Write (SerialData u) x
start_move d u (start.Choose c p) = next_move p
start_move d u (start.Mark c) = Store MARKS (marks_started c)
start_move d u (start.Prepare r i p) = prepare_move p
start_move d u (start.Release r p) = take_move p
start_move d u (start.Run r) = Store (running_word u) (packed_run r)
start_move d u start.Stand = Store (position_word u) 0

-- what follows the last channel: nothing is read any more of a channel whose only word is in transfer
abbrev pub prepared_with : Running → Placed → StartPlace
prepared_with r x = if x.channel.internal && nat_le x.channel.length 1 then start.Release r (releasing x Sent) else start.Run r

abbrev pub prepared : SpiTable → Running → StartPlace
prepared d r = prepared_with r (channel_at_place d r.job 0)

-- what is done with the channel at a place of the job, or after the last one
abbrev pub prepare_by : SpiTable → Running → (place : ℕ) → Option ℕ → StartPlace
prepare_by d r i None = prepared d r
prepare_by d r i (Some c) = start.Prepare r i (preparing (placed_of d c))

abbrev pub prepare_at : SpiTable → Running → (place : ℕ) → StartPlace
prepare_at d r i = prepare_by d r i (channel_number (list_of d r.job) i)

-- the job of a sequence that was found, and where none waits
abbrev pub chosen_by : SpiTable → (nexts marks sequence : ℕ) → Chosen
chosen_by d v m q = record { run = record { job = job_at_place d q (next_in v q); sequence = q }; nexts = v; marks = m }

abbrev pub start_found : SpiTable → (nexts marks : ℕ) → Front → ℕ → (found : ℕ) → (there : Bool) → StartPlace × Started
start_found d v m p x q true = (start.Find (chosen_by d v m q) (finding_first (channel_at_place d (job_at_place d q (next_in v q)) 0)), Goes None)
start_found d v m p x q false = (start.Front v m (front_left p x), Over)

abbrev pub start_looks : SpiTable → (nexts marks : ℕ) → Front → ℕ → Taken → (ended : Bool) → StartPlace × Started
start_looks d v m p x t true = start_found d v m p x (gave t) (nat_lt (gave t) 8)
start_looks d v m p x t false = (start.Front v m (front_left p x), Goes None)

abbrev pub start_finds : Chosen → Find → ℕ → Option ℕ → StartPlace × Started
start_finds c p x None = (start.Find c (find_left p x), Goes None)
start_finds c p x (Some w) = (start.Select c w, Goes None)

abbrev pub start_chooses : Chosen → Next → ℕ → (ended : Bool) → StartPlace × Started
start_chooses c p x true = (start.Mark c, Goes None)
start_chooses c p x false = (start.Choose c (next_left p x), Goes None)

abbrev pub start_prepares : SpiTable → Running → ℕ → Prepare → ℕ → (ended : Bool) → StartPlace × Started
start_prepares d r i p x true = (if nat_lt i 3 then prepare_at d r (i + 1) else prepared d r, Goes None)
start_prepares d r i p x false = (start.Prepare r i (prepare_left p x), Goes None)

abbrev pub start_releases : Running → Take → ℕ → (ended : Bool) → StartPlace × Started
start_releases r p x true = (start.Run r, Goes None)
start_releases r p x false = (start.Release r (take_left p x), Goes None)

abbrev pub start_takes : SpiTable → (number : ℕ) → StartPlace → ℕ → StartPlace × Started
start_takes d u start.Shut x = (start.Running, Goes None)
start_takes d u start.Running x = if x == 0 then (start.Nexts, Goes None) else (start.Running, Over)
start_takes d u start.Nexts x = (start.Marks x, Goes None)
start_takes d u (start.Marks v) x = (start.Front v x (record { search = search_of u; ranks = ranks_in d v x }), Goes None)
start_takes d u (start.Front v m p) x = start_looks d v m p x (front_gave p x) (has_ended (front_gave p x))
start_takes d u (start.Find c p) x = start_finds c p x (find_gave p x)
start_takes d u (start.Select c w) x = (start.Width c w, Goes None)
start_takes d u (start.Width c w) x = (start.Begin c w, Goes None)
start_takes d u (start.Begin c w) x = (start.Choose c (nexts.Look (search_of u) (ranks_in d c.nexts c.marks)), Goes (Some (Start (unit_named u))))
start_takes d u (start.Choose c p) x = start_chooses c p x (has_ended (next_gave p x))
start_takes d u (start.Mark c) x = (prepare_at d c.run 0, Goes None)
start_takes d u (start.Prepare r i p) x = start_prepares d r i p x (prepare_ends p x)
start_takes d u (start.Release r p) x = start_releases r p x (has_ended (take_gave p x))
start_takes d u (start.Run r) x = (start.Stand, Goes None)
start_takes d u start.Stand x = (start.Stand, Over)
