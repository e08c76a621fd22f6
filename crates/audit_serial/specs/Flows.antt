-- What words that come in do to the channels, and what a serving or a further word does to a unit that was made free.
use Rattle.std.specs.Prelude.{◌≡◌, ℕ, ◌+◌, Bool, true, false, if◌then◌else◌, List, [], ◌∷◌, ◌++◌, map, flat_map, Option, Some, None, slice_index_or}
use Rattle.std.specs.List.{enumerate_from}
use Rattle.run_model.specs.Machine.{Outcome, answers, named, tells_nothing, outcome}
use Rattle.run_model.specs.World.{World}
use Rattle.mcal_base.specs.declared.answer_name.AnswerName.TheVariants.{EOk, ENotOk, SpiJobOk, SpiSeqOk}
use Rattle.spi_machine.specs.Channels.{ChannelState, untouched, initialised}
use Rattle.spi_machine.specs.Machine.{after_last, begins_on, job_done, pending_of, result_by, sends_on, sequence_after, sequence_result_by, stored}
use Rattle.spi_machine.specs.Numbered.{with_item, first_items}
use Rattle.spi_machine.specs.Pending.{Pending, end_by, given_back, has_further, is_of, job_result, next_job, requested}
use Rattle.spi_machine.specs.State.{Carrying, SpiState}
use Rattle.spi_machine.specs.Table.{channel_of, channels_of, jobs_of}
use Rattle.spi_machine.specs.Transfers.{Goes, ToDestination, ToChannel, Nowhere, JobWord, Run, begun, channel_words, received_with, word_of}
use Rattle.spi_machine.specs.declared.table.SpiTable.{SpiTable}
use Rattle.audit_serial.specs.Carried.{may_end_at}

-- ---- channels

abbrev pub at : List ChannelState → ℕ → ChannelState
at xs c = slice_index_or xs c untouched

-- all sixteen after Spi_Init
abbrev pub initialised_in : SpiTable → List ChannelState → List ChannelState
initialised_in d xs = map (λ p. initialised (channel_of d p.0) p.1) (enumerate_from 0 (first_items untouched 16 xs))

-- the words of a job as its channels stand
abbrev pub words_of : SpiTable → List ChannelState → ℕ → List JobWord
words_of d xs j = flat_map (λ c. channel_words c (channel_of d c) (at xs c)) (channels_of d j)

-- a word that came in: as it is taken, and as its job ends well
abbrev pub stored_in : List ChannelState → JobWord → Goes → (value : ℕ) → List ChannelState
stored_in xs x ToDestination v = with_item untouched xs x.channel (record (at xs x.channel) { destination = with_item 0 (at xs x.channel).destination x.place v })
stored_in xs x ToChannel v = xs
stored_in xs x Nowhere v = xs

abbrev pub kept_in : List ChannelState → JobWord → Goes → (value : ℕ) → List ChannelState
kept_in xs x ToDestination v = xs
kept_in xs x ToChannel v = with_item untouched xs x.channel (record (at xs x.channel) { received = with_item 0 (at xs x.channel).received x.place v })
kept_in xs x Nowhere v = xs

-- all of them, in their order
abbrev pub kept_all : List ChannelState → List JobWord → (values : List ℕ) → List ChannelState
kept_all xs [] _ = xs
kept_all xs (w ∷ ws) [] = xs
kept_all xs (w ∷ ws) (v ∷ vs) = kept_all (kept_in xs w w.goes v) ws vs

-- the last word of a run is taken
abbrev pub last_taken : List ChannelState → Run → List ChannelState
last_taken xs r = kept_all (stored_in xs (word_of r) (word_of r).goes r.transfer.incoming) r.words (received_with r)

-- ---- sequences

-- a sequence is pending, with the results that its jobs have now
abbrev pub with_request : SpiTable → SpiState → ℕ → SpiState
with_request d s q = record s { pending = s.pending ++ requested q (s.requests + 1) (map (job_result s.job_results) (jobs_of d q)) ∷ []; requests = s.requests + 1 }

-- ---- a unit whose run was taken from it

-- its job has its result
abbrev pub over_by : SpiTable → SpiState → (failed : Bool) → Option Pending → Outcome SpiState
over_by d s failed None = outcome s tells_nothing
over_by d s failed (Some p) = sequence_after d (record s { job_results = with_item SpiJobOk s.job_results (next_job d p) (result_by failed) }) p (end_by p.cancelled failed (has_further d p))

-- its done word is taken, and the next one begins or the job ends
abbrev pub served_free : SpiTable → World → SpiState → (number received : ℕ) → Run → (goes_on : Bool) → Outcome SpiState
served_free d w s u received r true =
    begins_on d (stored s (word_of r) (word_of r).goes r.transfer.incoming) u received (pending_of s r) (begun w.now received r.sequence r.words (received_with r))
served_free d w s u received r false = over_by d (after_last s r r.transfer.failed) r.transfer.failed (pending_of s r)

-- ---- a unit from which was taken what it carried out

-- a further word is there, where it carries a sequence out
abbrev pub SendsOn : SpiTable → Option Carrying → Type 0
SendsOn d None = Unit {0}
SendsOn d (Some x) = sends_on d x ≡ true

-- whether its call may end, where it carries out that call's sequence
abbrev pub ends_by : SpiTable → (now : ℕ) → (sequence : ℕ) → Option Carrying → Option Bool
ends_by d now q None = None
ends_by d now q (Some x) = if is_of q x.entry then Some (may_end_at d now x) else None

-- its sequence ends
abbrev pub sequence_over : SpiTable → SpiState → Carrying → (failed : Bool) → SpiState
sequence_over d s x failed = record (job_done d s x failed) {
  sequence_results = with_item SpiSeqOk s.sequence_results x.entry.sequence (sequence_result_by failed);
  job_results = given_back d x.entry (x.entry.next + 1) (job_done d s x failed).job_results;
}

abbrev pub sent_free : SpiTable → SpiState → Carrying → (failed : Bool) → Outcome SpiState
sent_free d s x failed = outcome (sequence_over d s x failed) (answers (named (if failed then ENotOk else EOk)))
