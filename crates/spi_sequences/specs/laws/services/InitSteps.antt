-- Spi_Init: its steps.
-- Used by services.InitRight, src/service/init.rt, services.AtOnce.
use Rattle.std.proofs.Common.{◌+◌, if◌then◌else◌}
use Rattle.spi_sequences.specs.Terms
use Terms.{Act, bank_word, BodyTaken, Bool, Channel, channel_of, control_word, ends, false, free_bank, goes, has_ended}
use Terms.{InitBody, InitPlace, job_word, Load, Mask, Move, nat_lt, no_answer, None, Nothing, Option, order_word}
use Terms.{Placed, placed_of, Put, put_gave, put_left, put_move, Received, running_word, Sent, sequence_word}
use Terms.{set_up_word, Side, Some, SpiTable, STATE, Store, suc, true, Unmask, zero, ℕ}
use Rattle.word_shapes.specs.jobs.Parts.{committing}
use Rattle.spi_sequences.specs.declared.service.init.InitPlace.TheVariants as init

-- the words of a side at first
abbrev pub first_in : Placed → Side → ℕ
first_in x Sent = x.channel.default_data
first_in x Received = 0

-- a configured channel isn't set up
abbrev pub set_up_move : SpiTable → ℕ → Option Channel → Move
set_up_move d c None = Load STATE
set_up_move d c (Some k) = Store (set_up_word (placed_of d c)) 0

abbrev pub init_move : SpiTable → InitPlace → Move
init_move d init.Opens = Unmask
init_move d (init.Free u) = Store (running_word u) 0
init_move d (init.Empty u) = Store (order_word u + 2) 0
init_move d (init.Job j) = Store (job_word j) 0
init_move d (init.Sequence q) = Store (sequence_word q) 0
init_move d (init.SetUp c) = set_up_move d c (channel_of d c)
init_move d (init.Choose c side) = Load (control_word (placed_of d c) side)
init_move d (init.Fill c side b i) = Store (bank_word (placed_of d c) side b i) (first_in (placed_of d c) side)
init_move d (init.Shut c side b) = Mask
init_move d (init.Commit c side p) = put_move p
init_move d (init.Reopen c side) = Unmask
init_move d init.Closes = Mask
init_move d init.Store = Store STATE 1

abbrev pub init_work : InitBody → Move
init_work k = init_move k.table k.place

-- what follows a channel, and its set-up
abbrev pub after_channel : ℕ → InitPlace
after_channel c = if nat_lt c 15 then init.SetUp (c + 1) else init.Closes

abbrev pub after_set_up : SpiTable → ℕ → InitPlace
after_set_up d c = if (placed_of d c).channel.internal then init.Choose c Sent else after_channel c

-- what is done with a place of a bank, or after the last one
abbrev pub fill_from : SpiTable → ℕ → Side → (bank place : ℕ) → InitPlace
fill_from d c side b i = if nat_lt i (placed_of d c).channel.length then init.Fill c side b i else init.Shut c side b

abbrev pub after_unit : ℕ → InitPlace
after_unit zero = init.Free 1
after_unit (suc u) = init.Job 0

abbrev pub after_side : ℕ → Side → InitPlace
after_side c Sent = init.Choose c Received
after_side c Received = after_channel c

abbrev pub init_commits : ℕ → Side → Put → ℕ → (ended : Bool) → InitPlace
init_commits c side p v true = init.Reopen c side
init_commits c side p v false = init.Commit c side (put_left p v)

abbrev pub init_left : SpiTable → InitPlace → ℕ → InitPlace
init_left d init.Opens v = init.Free 0
init_left d (init.Free u) v = init.Empty u
init_left d (init.Empty u) v = after_unit u
init_left d (init.Job j) v = if nat_lt j 15 then init.Job (j + 1) else init.Sequence 0
init_left d (init.Sequence q) v = if nat_lt q 7 then init.Sequence (q + 1) else init.SetUp 0
init_left d (init.SetUp c) v = after_set_up d c
init_left d (init.Choose c side) v = fill_from d c side (free_bank v) 0
init_left d (init.Fill c side b i) v = if nat_lt i 255 then fill_from d c side b (i + 1) else init.Shut c side b
init_left d (init.Shut c side b) v = init.Commit c side (committing (placed_of d c) side b)
init_left d (init.Commit c side p) v = init_commits c side p v (has_ended (put_gave p v))
init_left d (init.Reopen c side) v = after_side c side
init_left d init.Closes v = init.Store
init_left d init.Store v = init.Store

abbrev pub init_gave : InitPlace → BodyTaken
init_gave init.Store = ends (Some Act) no_answer Nothing
init_gave _ = goes

abbrev pub init_takes : InitBody → ℕ → InitBody × BodyTaken
init_takes k v = (record k { place = init_left k.table k.place v }, init_gave k.place)
