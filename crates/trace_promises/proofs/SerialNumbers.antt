-- The words of serial channels, of running jobs and of wires have 32 bits, whatever happens that brings such words.
use Rattle.std.proofs.Common.{ℕ, zero, suc, ◌+◌, ◌^◌, Bool, true, false, List, [], ◌∷◌, ◌++◌, length, map, Option, Some, None, arith, div-add-mod'}
use Rattle.std.specs.Prelude.{◌==◌, ◌||◌, not, drop, flat_map, replicate, if◌then◌else◌}
use Rattle.std.specs.List.{enumerate_from}
use Rattle.mcal_base.specs.declared.answer_name.AnswerName.{AnswerName}
use Rattle.mcal_base.specs.declared.config.spi.SpiChannel.{SpiChannel}
use Rattle.mcal_base.specs.declared.config.spi.SpiConfig.{SpiConfig}
use Rattle.mcal_base.specs.declared.directive.Order.{Order}
use Rattle.mcal_base.specs.declared.directive.Order.TheVariants.{Fill, SpiFault}
use Rattle.mcal_base.specs.declared.error_name.ErrorName.{ErrorName}
use Rattle.run_model.specs.Frame.{state_by}
use Rattle.run_model.specs.Machine.{Happening, Acts, Serves, Starts, Aborts, Moves, Restarts}
use Rattle.run_model.specs.World.{World}
use Rattle.word_shapes.specs.declared.jobs.channel.Channel.{Channel}
use Rattle.spi_machine.specs.Bounds.{spi_setting}
use Rattle.spi_machine.specs.Channels.{ChannelState, SetUp, untouched, words_from, set_up_or, initialised, written_from, filled}
use Rattle.spi_machine.specs.Checks.{error_by}
use Rattle.spi_machine.specs.Machine.{cancelled_by, cancelled, initial, channel_work, sequence_work, unless_busy, work, finds_held, acts_by, job_words, with_word, carried_for, sent_by, error_of_sending, carries_on, job_begun, carries_job, as_requested, sequence_begun, job_done, sent_on, may_go_on, sent_first, sent_from, sent_at, sent, not_sent, may_end, sending_ends, number_of, next_at, job_started, start_by, unit_of, run_of, ready, stored, kept, all_kept, after_last, sequence_after, job_over, pending_of, served_by, served, faulted_run, faulted_carrying, moved, act_by, is_sync_number, happens}
use Rattle.spi_machine.specs.Numbered.{with_item, first_items, word_at}
use Rattle.spi_machine.specs.Pending.{Pending, is_of, has_further, next_job, goes_to_next, end_by}
use Rattle.spi_machine.specs.State.{Carrying, SpiState, is_off, channel_at, with_channel, internal_word, run_at, with_run, wire_at, carried_at, with_carried, is_busy, is_running}
use Rattle.spi_machine.specs.Table.{taken_channel, table_of, channel_of, channel_in, length_by, channels_of}
use Rattle.spi_machine.specs.Transfers.{Goes, ToDestination, ToChannel, Nowhere, JobWord, Run, masked, refused, goes_to, as_words, external_words, channel_words, no_word, shown, on_wire, is_done, word_of, received_with, goes_on, begun}
use Rattle.spi_machine.specs.Wiring.{unit_of_sequence, is_sync_sequence}
use Rattle.spi_machine.specs.declared.call.Call.{Call}
use Rattle.spi_machine.specs.declared.call.Call.TheVariants as calls
use Rattle.spi_machine.specs.declared.call.ChannelCall.{ChannelCall}
use Rattle.spi_machine.specs.declared.call.ChannelCall.TheVariants.{WriteIb, ReadIb, SetupEb}
use Rattle.spi_machine.specs.declared.call.Pointer.{Pointer}
use Rattle.spi_machine.specs.declared.call.Pointer.TheVariants.{Users, Null}
use Rattle.spi_machine.specs.declared.call.SequenceCall.{SequenceCall}
use Rattle.spi_machine.specs.declared.call.SequenceCall.TheVariants.{AsyncTransmit, Cancel, SyncTransmit}
use Rattle.spi_machine.specs.declared.table.SpiTable.{SpiTable}
use Rattle.bench_report.specs.Numbers.{IsNumber, Each}
use Rattle.trace_promises.proofs.Within.{each_append, each_take, each_drop}
use Rattle.trace_promises.specs.Keeping.{OrderBrings, WorldFits, HappeningFits, Keeps}
use Rattle.trace_promises.specs.Numbers.{DefaultFits, ChannelFits, SentFits, RunFits, CarryingFits, PairFits, WireFits, SerialFits}
use Rattle.trace_promises.proofs.Lists.{chosen, at_place}

-- ---- lists

with_fits : {T : Type 0} (P : T → Type 0) (first : T) (xs : List T) (k : ℕ) (x : T) → P first → Each P xs → P x → Each P (with_item first xs k x)
with_fits P first [] zero x f h p = (p, tt)
with_fits P first [] (suc k) x f h p = (f, with_fits P first [] k x f tt p)
with_fits P first (y ∷ ys) zero x f h p = (p, h.1)
with_fits P first (y ∷ ys) (suc k) x f h p = (h.0, with_fits P first ys k x f h.1 p)

firsts_fit : {T : Type 0} (P : T → Type 0) (first : T) (n : ℕ) (xs : List T) → P first → Each P xs → Each P (first_items first n xs)
firsts_fit P first zero xs f h = tt
firsts_fit P first (suc n) [] f h = (f, firsts_fit P first n [] f tt)
firsts_fit P first (suc n) (x ∷ xs) f h = (h.0, firsts_fit P first n xs f h.1)

same_fit : (n x : ℕ) → IsNumber x → Each IsNumber (replicate n x)
same_fit zero x h = tt
same_fit (suc n) x h = (h, same_fit n x h)

flat_fit : {S T : Type 0} (P : T → Type 0) (f : S → List T) (xs : List S) → ((x : S) → Each P (f x)) → Each P (flat_map f xs)
flat_fit P f [] h = tt
flat_fit P f (x ∷ xs) h = each_append P (f x) (flat_map f xs) (h x) (flat_fit P f xs h)

mapped_fit : {S T : Type 0} (P : S → Type 0) (Q : T → Type 0) (f : ℕ × S → T) (n : ℕ) (xs : List S) → ((k : ℕ) (x : S) → P x → Q (f (k, x))) → Each P xs → Each Q (map f (enumerate_from n xs))
mapped_fit P Q f n [] on h = tt
mapped_fit P Q f n (x ∷ xs) on h = (on n x h.0, mapped_fit P Q f (n + 1) xs on h.1)

-- ---- numbers

zero_fits : IsNumber 0
zero_fits = omega arith

masked_fits : (width n : ℕ) → IsNumber n → IsNumber (masked width n)
masked_fits width n h = let e = div-add-mod' n (2 ^ width) in omega (arith, e, h)

shown_fits : (width received : ℕ) → IsNumber received → IsNumber (shown width received)
shown_fits width received h = chosen IsNumber (received == refused) refused (masked width received) (omega arith) (masked_fits width received h)

-- ---- channels of a configuration

-- the default data of a channel, where there is one
abbrev Small : Option Channel → Type 0
Small None = Unit {0}
Small (Some k) = IsNumber k.default_data

small_in : (xs : List SpiChannel) (c : ℕ) → Each DefaultFits xs → Small (channel_in xs c)
small_in [] c h = tt
small_in (x ∷ xs) c h = chosen Small (x.id == c) (Some (taken_channel x)) (channel_in xs c) h.0 (small_in xs c h.1)

pub small_channels : (g : SpiConfig) → Each DefaultFits g.channels → (c : ℕ) → Small (channel_of (table_of g) c)
small_channels g h c =
    let small = λ (k : ℕ). small_in g.channels k h in
    at_place Small (table_of g).channels c None (small 0, (small 1, (small 2, (small 3, (small 4, (small 5, (small 6, (small 7, (small 8, (small 9, (small 10, (small 11, (small 12, (small 13, (small 14, (small 15, tt)))))))))))))))) tt

-- ---- channels

untouched_fits : ChannelFits untouched
untouched_fits = (tt, tt, tt, tt)

channel_fits : (s : SpiState) (c : ℕ) → SerialFits s → ChannelFits (channel_at s c)
channel_fits s c h = at_place ChannelFits s.channels c untouched h.0 untouched_fits

put_fits : (s : SpiState) (c : ℕ) (x : ChannelState) → SerialFits s → ChannelFits x → SerialFits (with_channel s c x)
put_fits s c x h k = (with_fits ChannelFits untouched s.channels c x untouched_fits h.0 k, h.1, h.2, h.3)

from_fits : (p : Pointer) (n : ℕ) (k : Channel) (x : ChannelState) → Small (Some k) → ChannelFits x → Each IsNumber (words_from p n k x)
from_fits Users n k x m h = firsts_fit IsNumber 0 n x.source zero_fits h.0
from_fits Null n k x m h = same_fit n k.default_data m

written_fits : (p : Pointer) (o : Option Channel) (x : ChannelState) → Small o → ChannelFits x → ChannelFits (written_from p o x)
written_fits p None x m h = h
written_fits p (Some k) x m h = (h.0, h.1, from_fits p k.length k x m h, h.3)

filled_fits : (ws : List ℕ) (o : Option Channel) (x : ChannelState) → Each IsNumber ws → ChannelFits x → ChannelFits (filled ws o x)
filled_fits ws o x k h = (each_take IsNumber (length_by o) _ (each_append IsNumber ws (drop (length ws) x.source) k (each_drop IsNumber (length ws) x.source h.0)), h.1, h.2, h.3)

initial_by : (b : Bool) (k : Channel) (x : ChannelState) → Small (Some k) → ChannelFits x →
    ChannelFits (if b then record x { written = replicate k.length k.default_data; received = replicate k.length 0 } else record x { set_up = None })
initial_by true k x m h = (h.0, h.1, same_fit k.length k.default_data m, same_fit k.length 0 zero_fits)
initial_by false k x m h = h

initial_fits : (o : Option Channel) (x : ChannelState) → Small o → ChannelFits x → ChannelFits (initialised o x)
initial_fits None x m h = h
initial_fits (Some k) x m h = initial_by k.internal k x m h

-- ---- words of jobs

as_fit : (c width : ℕ) (goes : Goes) (values : List ℕ) → Each IsNumber values → Each SentFits (as_words c width goes values)
as_fit c width goes values h = mapped_fit IsNumber SentFits _ 0 values (λ k x. masked_fits width x) h

words_by : (b : Bool) (c : ℕ) (k : Channel) (x : ChannelState) (by : SetUp) → Small (Some k) → ChannelFits x → Each SentFits (if b then as_words c k.width ToChannel x.written else external_words c k x by)
words_by true c k x by m h = as_fit c k.width ToChannel x.written h.2
words_by false c k x by m h = as_fit c k.width (goes_to by.destination) (words_from by.source by.words k x) (from_fits by.source by.words k x m h)

words_fit : (c : ℕ) (o : Option Channel) (x : ChannelState) → Small o → ChannelFits x → Each SentFits (channel_words c o x)
words_fit c None x m h = tt
words_fit c (Some k) x m h = words_by k.internal c k x (set_up_or k x.set_up) m h

-- ---- runs

begun_fits : (now received q : ℕ) (words : List JobWord) (before : List ℕ) → IsNumber received → Each SentFits words → Each IsNumber before → RunFits (Some (begun now received q words before))
begun_fits now received q words before r h k = (h, k, masked_fits _ received r)

-- a word begins: the pair on the wire, and the run
wires_fit : (s : SpiState) (u received : ℕ) (r : Run) → SerialFits s → IsNumber received → RunFits (Some r) → Each WireFits (with_item [] s.wires u (wire_at s u ++ on_wire received (word_of r) ∷ []))
wires_fit s u received r h k f =
    let sent = at_place SentFits r.words (length r.received) no_word f.0 zero_fits in
    let before = at_place WireFits s.wires u [] h.2 tt in
    let wire = each_append PairFits (wire_at s u) (on_wire received (word_of r) ∷ []) before ((sent, shown_fits (word_of r).width received k), tt) in
    with_fits WireFits [] s.wires u _ tt h.2 wire

begins_fits : (s : SpiState) (u received : ℕ) (r : Run) → SerialFits s → IsNumber received → RunFits (Some r) → SerialFits (with_word s u received r)
begins_fits s u received r h k f = (h.0, with_fits RunFits None s.units u (Some r) tt h.1 f, wires_fit s u received r h k f, h.3)

run_fits : (s : SpiState) (u : ℕ) → SerialFits s → RunFits (run_at s u)
run_fits s u h = at_place RunFits s.units u None h.1 tt

put_run : (s : SpiState) (u : ℕ) (r : Option Run) → SerialFits s → RunFits r → SerialFits (with_run s u r)
put_run s u r h k = (h.0, with_fits RunFits None s.units u r tt h.1 k, h.2, h.3)

carrying_fits : (s : SpiState) (u : ℕ) → SerialFits s → CarryingFits (carried_at s u)
carrying_fits s u h = at_place CarryingFits s.carried u None h.3 tt

put_carrying : (s : SpiState) (u : ℕ) (x : Option Carrying) → SerialFits s → CarryingFits x → SerialFits (with_carried s u x)
put_carrying s u x h k = (h.0, h.1, h.2, with_fits CarryingFits None s.carried u x tt h.3 k)

-- ---- what came in

stored_fits : (s : SpiState) (x : JobWord) (goes : Goes) (v : ℕ) → SerialFits s → IsNumber v → SerialFits (stored s x goes v)
stored_fits s x ToDestination v h k =
    let f = channel_fits s x.channel h in
    put_fits s x.channel _ h (f.0, with_fits IsNumber 0 (channel_at s x.channel).destination x.place v zero_fits f.1 k, f.2, f.3)
stored_fits s x ToChannel v h k = h
stored_fits s x Nowhere v h k = h

kept_fits : (s : SpiState) (x : JobWord) (goes : Goes) (v : ℕ) → SerialFits s → IsNumber v → SerialFits (kept s x goes v)
kept_fits s x ToDestination v h k = h
kept_fits s x ToChannel v h k =
    let f = channel_fits s x.channel h in
    put_fits s x.channel _ h (f.0, f.1, f.2, with_fits IsNumber 0 (channel_at s x.channel).received x.place v zero_fits f.3 k)
kept_fits s x Nowhere v h k = h

all_kept_fits : (s : SpiState) (xs : List JobWord) (vs : List ℕ) → SerialFits s → Each IsNumber vs → SerialFits (all_kept s xs vs)
all_kept_fits s [] vs h k = h
all_kept_fits s (x ∷ xs) [] h k = h
all_kept_fits s (x ∷ xs) (v ∷ vs) h k = all_kept_fits (kept s x x.goes v) xs vs (kept_fits s x x.goes v h k.0) k.1

with_incoming : (r : Run) → RunFits (Some r) → Each IsNumber (received_with r)
with_incoming r f = each_append IsNumber r.received (r.transfer.incoming ∷ []) f.1 (f.2, tt)

last_fits : (s : SpiState) (r : Run) (failed : Bool) → SerialFits s → RunFits (Some r) → SerialFits (after_last s r failed)
last_fits s r true h f = h
last_fits s r false h f = all_kept_fits (stored s (word_of r) (word_of r).goes r.transfer.incoming) r.words (received_with r) (stored_fits s (word_of r) (word_of r).goes r.transfer.incoming h f.2) (with_incoming r f)

module _ (d : SpiTable) (small : (c : ℕ) → Small (channel_of d c)) where
  -- ---- calls

  all_initial : (s : SpiState) → SerialFits s → SerialFits (initial d s)
  all_initial s h =
      (mapped_fit ChannelFits ChannelFits (λ p. initialised (channel_of d p.0) p.1) 0 (first_items untouched 16 s.channels) (λ c x k. initial_fits (channel_of d c) x (small c) k) (firsts_fit ChannelFits untouched 16 s.channels untouched_fits h.0), tt, h.2, tt)

  channel_call : (s : SpiState) (c : ℕ) (call : ChannelCall) → SerialFits s → SerialFits (channel_work (channel_of d c) s c call).state
  channel_call s c (WriteIb p) h = put_fits s c _ h (written_fits p (channel_of d c) (channel_at s c) (small c) (channel_fits s c h))
  channel_call s c ReadIb h = h
  channel_call s c (SetupEb p q n) h = put_fits s c _ h (channel_fits s c h)

  cancels_by : (s : SpiState) (p : Pending) (running : Bool) → SerialFits s → SerialFits (cancelled_by d s p running).state
  cancels_by s p true h = h
  cancels_by s p false h = h

  cancels : (s : SpiState) (o : Option Pending) → SerialFits s → SerialFits (cancelled d s o).state
  cancels s None h = h
  cancels s (Some p) h = cancels_by s p (is_running s p.sequence) h

  sequence_call : (s : SpiState) (q : ℕ) (call : SequenceCall) → SerialFits s → SerialFits (sequence_work d s q call).state
  sequence_call s q AsyncTransmit h = h
  sequence_call s q SyncTransmit h = h
  sequence_call s q Cancel h = cancels s _ h

  unless_fits : (busy : Bool) (s after : SpiState) → SerialFits s → SerialFits after → SerialFits (unless_busy busy s after).state
  unless_fits true s after h k = h
  unless_fits false s after h k = k

  work_fits : (s : SpiState) (call : Call) → SerialFits s → SerialFits (work d s call).state
  work_fits s calls.Init h = all_initial s h
  work_fits s calls.DeInit h = unless_fits (is_busy s) s _ h h
  work_fits s (calls.SetAsyncMode m) h = unless_fits (is_busy s) s _ h h
  work_fits s calls.MainFunctionHandling h = h
  work_fits s (calls.Channel c call) h = channel_call s c call h
  work_fits s (calls.Sequence q call) h = sequence_call s q call h
  work_fits s (calls.Get query) h = h

  act_fits : (s : SpiState) (call : Call) (e : Option ErrorName) → SerialFits s → SerialFits (acts_by d s call e).state
  act_fits s call None h = work_fits s call h
  act_fits s call (Some e) h = h

  -- ---- starts

  job_fits : (s : SpiState) (j : ℕ) → SerialFits s → Each SentFits (job_words d s j)
  job_fits s j h = flat_fit SentFits (λ c. channel_words c (channel_of d c) (channel_at s c)) (channels_of d j) (λ c. words_fit c (channel_of d c) (channel_at s c) (small c) (channel_fits s c h))

  start_fits : (w : World) (s : SpiState) (u : Option ℕ) (received : ℕ) (p : Option Pending) → IsNumber received → SerialFits s → SerialFits (state_by s (start_by d w s u received p))
  start_fits w s (Some u) received (Some p) k h =
      begins_fits (job_started d s p) u received _ h k (begun_fits w.now received p.sequence (job_words d s (next_job d p)) [] k (job_fits s (next_job d p) h) tt)
  start_fits w s (Some u) received None k h = h
  start_fits w s None received p k h = h

  -- ---- words of a call that waits

  unless_none : (none : Bool) (s : SpiState) (u : ℕ) → SerialFits s → CarryingFits (if none then None else carried_at s u)
  unless_none true s u h = tt
  unless_none false s u h = carrying_fits s u h

  carried_for_fits : (s : SpiState) (q : ℕ) → SerialFits s → CarryingFits (carried_for d s q)
  carried_for_fits s q h = unless_none (is_off s.mode || not (is_sync_sequence d q)) s (unit_of_sequence d q) h

  carries_fits : (s : SpiState) (u received : ℕ) (p : Pending) (r : Run) → SerialFits s → IsNumber received → RunFits (Some r) → SerialFits (carries_on d s u received p r).state
  carries_fits s u received p r h k f = (h.0, h.1, wires_fit s u received r h k f, with_fits CarryingFits None s.carried u (Some (record { entry = p; run = r })) tt h.3 f)

  carries_job_fits : (w : World) (s : SpiState) (u received : ℕ) (p : Pending) → IsNumber received → SerialFits s → SerialFits (carries_job d w s u received p).state
  carries_job_fits w s u received p k h =
      carries_fits (job_begun d s p) u received p _ h k (begun_fits w.now received p.sequence (job_words d s (next_job d p)) [] k (job_fits s (next_job d p) h) tt)

  sent_on_fits : (w : World) (s : SpiState) (u received : ℕ) (x : Carrying) (same_job : Bool) → IsNumber received → SerialFits s → RunFits (Some x.run) → SerialFits (sent_on d w s u received x same_job).state
  sent_on_fits w s u received x true k h f =
      carries_fits (stored s (word_of x.run) (word_of x.run).goes x.run.transfer.incoming) u received x.entry _
      (stored_fits s (word_of x.run) (word_of x.run).goes x.run.transfer.incoming h f.2) k (begun_fits w.now received x.entry.sequence x.run.words (received_with x.run) k f.0 (with_incoming x.run f))
  sent_on_fits w s u received x false k h f = carries_job_fits w (job_done d s x false) u received (goes_to_next x.entry) k (last_fits s x.run false h f)

  first_sent : (w : World) (s : SpiState) (u received q : ℕ) (e : Option ErrorName) → IsNumber received → SerialFits s → SerialFits (state_by s (sent_first d w s u received q e))
  first_sent w s u received q None k h = carries_job_fits w (sequence_begun d s q) u received (as_requested d s q) k h
  first_sent w s u received q (Some e) k h = h

  next_sent : (may : Bool) (w : World) (s : SpiState) (u received : ℕ) (x : Carrying) → IsNumber received → SerialFits s → RunFits (Some x.run) →
      SerialFits (state_by s (if may then Some (sent_on d w s u received x (goes_on x.run)) else None))
  next_sent true w s u received x k h f = sent_on_fits w s u received x (goes_on x.run) k h f
  next_sent false w s u received x k h f = h

  further_sent : (w : World) (s : SpiState) (u received q : ℕ) (o : Option Carrying) → IsNumber received → SerialFits s → CarryingFits o → SerialFits (state_by s (sent_from d w s u received q o))
  further_sent w s u received q None k h f = first_sent w s u received q (error_of_sending d s q) k h
  further_sent w s u received q (Some x) k h f = next_sent (may_go_on d w x q) w s u received x k h f

  own_sent : (own : Bool) (w : World) (s : SpiState) (u received q : ℕ) → IsNumber received → SerialFits s → SerialFits (state_by s (if own then sent_from d w s u received q (carried_for d s q) else None))
  own_sent true w s u received q k h = further_sent w s u received q (carried_for d s q) k h (carried_for_fits s q h)
  own_sent false w s u received q k h = h

  word_sent : (w : World) (s : SpiState) (u : Option ℕ) (received : ℕ) (q : Option ℕ) → IsNumber received → SerialFits s → SerialFits (state_by s (sent_at d w s u received q))
  word_sent w s None received q k h = h
  word_sent w s (Some u) received None k h = h
  word_sent w s (Some u) received (Some q) k h = own_sent (unit_of_sequence d q == u) w s u received q k h

  either_start : (sync : Bool) (w : World) (s : SpiState) (u : Option ℕ) (q : Option ℕ) (received : ℕ) → IsNumber received → SerialFits s →
      SerialFits (state_by s (if sync then sent_at d w s u received q else start_by d w s u received (next_at d s u)))
  either_start true w s u q received k h = word_sent w s u received q k h
  either_start false w s u q received k h = start_fits w s u received (next_at d s u) k h

  refusal_fits : (s : SpiState) (q : ℕ) (e : Option ErrorName) → SerialFits s → SerialFits (state_by s (not_sent s q e))
  refusal_fits s q None h = h
  refusal_fits s q (Some e) h = h

  end_fits : (may : Bool) (s : SpiState) (u : ℕ) (x : Carrying) → SerialFits s → RunFits (Some x.run) → SerialFits (state_by s (if may then Some (sent d s u x x.run.transfer.failed) else None))
  end_fits true s u x h f = put_carrying (job_done d s x x.run.transfer.failed) u None (last_fits s x.run x.run.transfer.failed h f) tt
  end_fits false s u x h f = h

  own_end : (own : Bool) (w : World) (s : SpiState) (q : ℕ) (x : Carrying) → SerialFits s → RunFits (Some x.run) →
      SerialFits (state_by s (if own then (if may_end d w x then Some (sent d s (unit_of_sequence d q) x x.run.transfer.failed) else None) else not_sent s q (error_of_sending d s q)))
  own_end true w s q x h f = end_fits (may_end d w x) s (unit_of_sequence d q) x h f
  own_end false w s q x h f = refusal_fits s q (error_of_sending d s q) h

  ends_fit : (w : World) (s : SpiState) (q : ℕ) (o : Option Carrying) → SerialFits s → CarryingFits o → SerialFits (state_by s (sending_ends d w s q o))
  ends_fit w s q None h f = refusal_fits s q (error_of_sending d s q) h
  ends_fit w s q (Some x) h f = own_end (is_of q x.entry) w s q x h f

  either_act : (w : World) (s : SpiState) (call : Call) (q : Option ℕ) → SerialFits s → SerialFits (state_by s (act_by d w s call q))
  either_act w s call None h = act_fits s call (error_by d call (is_off s.mode) (finds_held d s call)) h
  either_act w s call (Some q) h = ends_fit w s q (carried_for d s q) h (carried_for_fits s q h)

  -- ---- servings

  sequence_fits : (s : SpiState) (p : Pending) (o : Option AnswerName) → SerialFits s → SerialFits (sequence_after d s p o).state
  sequence_fits s p None h = h
  sequence_fits s p (Some result) h = h

  over_fits : (s : SpiState) (u : ℕ) (failed : Bool) (o : Option Pending) → SerialFits s → SerialFits (job_over d s u failed o).state
  over_fits s u failed None h = put_run s u None h tt
  over_fits s u failed (Some p) h = sequence_fits _ p (end_by p.cancelled failed (has_further d p)) (put_run s u None h tt)

  served_fits : (w : World) (s : SpiState) (u received : ℕ) (r : Run) (on : Bool) → IsNumber received → SerialFits s → RunFits (Some r) → SerialFits (served_by d w s u received r on).state
  served_fits w s u received r true k h f =
      begins_fits (stored s (word_of r) (word_of r).goes r.transfer.incoming) u received _ (stored_fits s (word_of r) (word_of r).goes r.transfer.incoming h f.2) k (begun_fits w.now received r.sequence r.words (received_with r) k f.0 (with_incoming r f))
  served_fits w s u received r false k h f = over_fits (after_last s r r.transfer.failed) u r.transfer.failed (pending_of s r) (last_fits s r r.transfer.failed h f)

  run_served : (w : World) (s : SpiState) (u : Option ℕ) (received : ℕ) (r : Option Run) → IsNumber received → SerialFits s → RunFits r → SerialFits (served d w s u received r).state
  run_served w s (Some u) received (Some r) k h f = served_fits w s u received r (goes_on r) k h f
  run_served w s (Some u) received None k h f = h
  run_served w s None received r k h f = h

  run_of_fits : (s : SpiState) (u : Option ℕ) → SerialFits s → RunFits (run_of s u)
  run_of_fits s None h = tt
  run_of_fits s (Some u) h = run_fits s u h

  serving_fits : (b : Bool) (w : World) (s : SpiState) (l received : ℕ) → IsNumber received → SerialFits s → SerialFits (state_by s (if b then Some (served d w s (unit_of l) received (run_of s (unit_of l))) else None))
  serving_fits true w s l received k h = run_served w s (unit_of l) received (run_of s (unit_of l)) k h (run_of_fits s (unit_of l) h)
  serving_fits false w s l received k h = h

  -- ---- the hardware

  failing_fits : (b : Bool) (r : Run) → RunFits (Some r) → RunFits (Some (record r { transfer = if b then r.transfer else record r.transfer { failed = true } }))
  failing_fits true r f = f
  failing_fits false r f = f

  fault_fits : (now : ℕ) (o : Option Run) → RunFits o → RunFits (faulted_run now o)
  fault_fits now None f = tt
  fault_fits now (Some r) f = failing_fits (is_done now r.transfer) r f

  fault_carrying : (now : ℕ) (o : Option Carrying) → CarryingFits o → CarryingFits (faulted_carrying now o)
  fault_carrying now None f = tt
  fault_carrying now (Some x) f = failing_fits (is_done now x.run.transfer) x.run f

  moved_fits : (w : World) (s : SpiState) (order : Order) → OrderBrings order → SerialFits s → SerialFits (moved d w s order)
  moved_fits w s (Fill c ws) k h = put_fits s c _ h (filled_fits ws (channel_of d c) (channel_at s c) k (channel_fits s c h))
  moved_fits w s (SpiFault u) k h = put_carrying (with_run s u _) u _ (put_run s u _ h (fault_fits w.now (run_at s u) (run_fits s u h))) (fault_carrying w.now (carried_at s u) (carrying_fits s u h))
  moved_fits w s _ k h = h

  -- ---- the machine

  stays : (w : World) (s : SpiState) (x : Happening Call) → WorldFits w → HappeningFits x → SerialFits s → SerialFits (state_by s (happens d w s x))
  stays w s (Acts call times) v f h = either_act w s call (sent_by (Some call)) h
  stays w s (Serves l received) v f h = serving_fits (ready w s l) w s l received f h
  stays w s (Starts u made_by received) v f h = either_start (is_sync_number d (number_of u)) w s (number_of u) (sent_by made_by) received f h
  stays w s (Aborts u) v f h = h
  stays w s (Moves order) v f h = moved_fits w s order f h
  stays w s (Restarts reason) v f h = (tt, tt, tt, tt)

  pub serial_keeps : Keeps (spi_setting d) SerialFits
  serial_keeps = record { first = (tt, tt, tt, tt); stays = stays }

-- ---- what is shown

place_fits : (xs : List ℕ) (i : ℕ) → Each IsNumber xs → IsNumber (word_at xs i)
place_fits xs i h = at_place IsNumber xs i 0 h zero_fits

pub source_fits : (s : SpiState) (c i : ℕ) → SerialFits s → IsNumber (word_at (channel_at s c).source i)
source_fits s c i h = place_fits (channel_at s c).source i (channel_fits s c h).0

pub destination_fits : (s : SpiState) (c i : ℕ) → SerialFits s → IsNumber (word_at (channel_at s c).destination i)
destination_fits s c i h = place_fits (channel_at s c).destination i (channel_fits s c h).1

pub internal_fits : (s : SpiState) (c : ℕ) (received : Bool) (i : ℕ) → SerialFits s → IsNumber (internal_word s c received i)
internal_fits s c true i h = place_fits (channel_at s c).received i (channel_fits s c h).3
internal_fits s c false i h = place_fits (channel_at s c).written i (channel_fits s c h).2

pub wire_fits : (s : SpiState) (u : ℕ) → SerialFits s → WireFits (wire_at s u)
wire_fits s u h = at_place WireFits s.wires u [] h.2 tt
