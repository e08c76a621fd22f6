-- A cancelled sequence that waits, a failed word, and what may be read of an internal channel.
use Rattle.std.proofs.Common.{◌≡◌, ℕ, suc, Bool, true, false, not, ◌&&◌, ◌||◌, ◌==◌, ◌+◌, nat_lt, List, length, Option, Some, None, drop, slice_index_or, refl, ◌∙◌, ap, subst, arith}
use Rattle.std.specs.Prelude.{find}
use Rattle.std.specs.List.{list_any}
use Rattle.mcal_base.specs.facts.Options.{some_is}
use Rattle.mcal_base.specs.declared.answer_name.AnswerName.{AnswerName}
use Rattle.mcal_base.specs.declared.answer_name.AnswerName.TheVariants.{SpiJobOk, SpiJobFailed, SpiSeqOk, SpiSeqCanceled}
use Rattle.mcal_base.specs.declared.directive.Order.{Order}
use Rattle.mcal_base.specs.declared.directive.Order.TheVariants.{Fill, SpiFault}
use Rattle.mcal_base.specs.declared.error_name.ErrorName.{ErrorName}
use Rattle.run_model.specs.Machine.{Happening, Acts, Serves, Starts, Aborts, Moves, Restarts, Outcome}
use Rattle.run_model.specs.World.{World}
use Rattle.spi_machine.proofs.Numbers.{item-same, channel-seen}
use Rattle.spi_machine.proofs.Results.{results-other, not_later}
use Rattle.spi_machine.proofs.Runs.{serve_by}
use Rattle.spi_machine.proofs.Sending.{act-either, start-either}
use Rattle.spi_machine.proofs.SequenceChanges.{found, pending-without}
use Rattle.spi_machine.specs.Channels.{ChannelState, untouched, written_from, filled}
use Rattle.spi_machine.specs.Checks.{error_by}
use Rattle.spi_machine.specs.Promised.{EndsCancelled, FailsJob, NamesJobsOnce, ends_well, is_init, renews, sends_well, carried_well}
use Rattle.spi_machine.specs.Machine.{spi_machine, acts_by, work, unless_busy, cancelled, cancelled_by, finds_held, stored, after_last, sequence_after, job_over, served_by, served, unit_of, run_of, ready, started, start_by, next_at, number_of, moved, sent, sent_on, sent_by, carried_for, is_sync_number}
use Rattle.spi_machine.specs.Wiring.{unit_of_sequence}
use Rattle.spi_machine.specs.State.{SpiState, Carrying, channel_at, with_channel, run_at, is_busy, is_off, is_running}
use Rattle.spi_machine.specs.Pending.{Pending, is_of, job_result, end_by, has_further, next_job}
use Rattle.spi_machine.specs.Table.{channel_of, jobs_of}
use Rattle.spi_machine.specs.Transfers.{Goes, ToDestination, ToChannel, Nowhere, JobWord, Run, goes_on, is_done, word_of}
use Rattle.spi_machine.specs.declared.call.Call.{Call}
use Rattle.spi_machine.specs.declared.call.Call.TheVariants.{Init, DeInit, SetAsyncMode, MainFunctionHandling, Channel, Sequence, Get}
use Rattle.spi_machine.specs.declared.call.ChannelCall.TheVariants.{WriteIb, ReadIb, SetupEb}
use Rattle.spi_machine.specs.declared.call.SequenceCall.TheVariants.{AsyncTransmit, Cancel, SyncTransmit}
use Rattle.spi_machine.specs.declared.call.Pointer.{Pointer}
use Rattle.word_shapes.specs.declared.jobs.channel.Channel as configured
use Rattle.spi_machine.specs.declared.table.SpiTable.{SpiTable}

-- ---- a waiting sequence that is cancelled

cancelled_by-ends : (d : SpiTable) (s : SpiState) (p : Pending) (b : Bool) → b ≡ false → EndsCancelled d p.sequence (cancelled_by d s p b)
cancelled_by-ends d s p true e = absurd (cc e)
cancelled_by-ends d s p false e =
    record { notice = refl; over = pending-without p.sequence s.pending; result = item-same SpiSeqOk s.sequence_results p.sequence SpiSeqCanceled }

cancelled-ends : (d : SpiTable) (s : SpiState) (q : ℕ) (p : Pending) (o : Option Pending) → o ≡ Some p → find (is_of q) s.pending ≡ Some p → is_running s q ≡ false
    → EndsCancelled d q (cancelled d s o)
cancelled-ends d s q p None e h r = absurd (cc e)
cancelled-ends d s q p (Some x) e h r =
    let at = found q p s.pending h in
    rw (some_is x p e, ← at.0) (cancelled_by-ends d s p (is_running s p.sequence) (rw at.0 r))

acts_by-ends : (d : SpiTable) (s : SpiState) (q : ℕ) (p : Pending) (e : Option ErrorName) → (acts_by d s (Sequence q Cancel) e).told.error ≡ None
    → find (is_of q) s.pending ≡ Some p → is_running s q ≡ false → EndsCancelled d q (acts_by d s (Sequence q Cancel) e)
acts_by-ends d s q p None h f r = cancelled-ends d s q p (find (is_of q) s.pending) f f r
acts_by-ends d s q p (Some e) h f r = absurd (cc h)

pub cancel-ends : (d : SpiTable) (w : World) (s : SpiState) (q : ℕ) (times : ℕ → ℕ) (out : Outcome SpiState) (p : Pending)
    → (spi_machine d).happens w s (Acts (Sequence q Cancel) times) ≡ Some out → out.told.error ≡ None → find (is_of q) s.pending ≡ Some p → is_running s q ≡ false
    → EndsCancelled d q out
cancel-ends d w s q times out p h none f r =
    let error : Option ErrorName = error_by d (Sequence q Cancel) (is_off s.mode) (finds_held d s (Sequence q Cancel)) in
    let e : acts_by d s (Sequence q Cancel) error ≡ out = some_is _ out h in
    rw (← e) (acts_by-ends d s q p error (rw e none) f r)

-- ---- a failed word

-- the job of a pending sequence that runs comes again later in it
abbrev pub comes_again : SpiTable → Pending → Bool
comes_again d p = list_any (λ j. j == next_job d p) (drop (p.next + 1) (jobs_of d p.sequence))

pub comes-once : (d : SpiTable) (p : Pending) → NamesJobsOnce d → comes_again d p ≡ false
comes-once d p once =
    let next : p.next + 1 ≡ suc p.next = grind arith in
    rw next (not_later (jobs_of d p.sequence) p.next (once p.sequence))

sequence_after-fails : (d : SpiTable) (s t : SpiState) (u : ℕ) (p : Pending) (c g : Bool) → t.channels ≡ s.channels → run_at t u ≡ None
    → job_result t.job_results (next_job d p) ≡ SpiJobFailed → comes_again d p ≡ false → FailsJob u (next_job d p) s (sequence_after d t p (end_by c true g)).state
sequence_after-fails d s t u p true g e f r once =
    record { stored = e; free = f; result = results-other (drop (p.next + 1) (jobs_of d p.sequence)) (drop (p.next + 1) p.had) t.job_results (next_job d p) once ∙ r }
sequence_after-fails d s t u p false g e f r once =
    record { stored = e; free = f; result = results-other (drop (p.next + 1) (jobs_of d p.sequence)) (drop (p.next + 1) p.had) t.job_results (next_job d p) once ∙ r }

job_over-fails : (d : SpiTable) (s : SpiState) (u : ℕ) (p : Pending) (o : Option Pending) → o ≡ Some p → comes_again d p ≡ false
    → FailsJob u (next_job d p) s (job_over d s u true o).state
job_over-fails d s u p None e once = absurd (cc e)
job_over-fails d s u p (Some x) e once =
    rw (some_is x p e)
    (sequence_after-fails d s _ u p p.cancelled (has_further d p) refl (item-same None s.units u None) (item-same SpiJobOk s.job_results (next_job d p) SpiJobFailed) once)

served_by-fails : (d : SpiTable) (w : World) (s : SpiState) (u received : ℕ) (r : Run) (p : Pending) → r.transfer.failed ≡ true
    → find (is_of r.sequence) s.pending ≡ Some p → comes_again d p ≡ false → FailsJob u (next_job d p) s (served_by d w s u received r (goes_on r)).state
served_by-fails d w s u received r p e f once = rw e (job_over-fails d s u p (find (is_of r.sequence) s.pending) f once)

served-fails : (d : SpiTable) (w : World) (s : SpiState) (k : Option ℕ) (received : ℕ) (o : Option Run) (u : ℕ) (r : Run) (p : Pending) → k ≡ Some u → o ≡ Some r
    → r.transfer.failed ≡ true → find (is_of r.sequence) s.pending ≡ Some p → comes_again d p ≡ false → FailsJob u (next_job d p) s (served d w s k received o).state
served-fails d w s None received o u r p a b e f once = absurd (cc a)
served-fails d w s (Some v) received None u r p a b e f once = absurd (cc b)
served-fails d w s (Some v) received (Some x) u r p a b e f once = rw (some_is v u a, some_is x r b) (served_by-fails d w s u received r p e f once)

pub serve-fails : (d : SpiTable) (w : World) (s : SpiState) (l received : ℕ) (out : Outcome SpiState) (u : ℕ) (r : Run) (p : Pending)
    → (spi_machine d).happens w s (Serves l received) ≡ Some out → unit_of l ≡ Some u → run_at s u ≡ Some r
    → r.transfer.failed ≡ true → find (is_of r.sequence) s.pending ≡ Some p → NamesJobsOnce d → FailsJob u (next_job d p) s out.state
serve-fails d w s l received out u r p h a b e f once =
    let there : run_of s (unit_of l) ≡ Some r = rw a b in
    rw (← serve_by (ready w s l) (served d w s (unit_of l) received (run_of s (unit_of l))) out h)
    (served-fails d w s (unit_of l) received (run_of s (unit_of l)) u r p a there e f (comes-once d p once))

-- ---- what may be read of an internal channel

abbrev pub readable : SpiState → ℕ → List ℕ
readable s c = (channel_at s c).received

-- a channel's received words are as before
abbrev pub Keeps : SpiState → SpiState → Type 0
Keeps s t = (c : ℕ) → readable t c ≡ readable s c

keeps-same : (xs ys : List ChannelState) → ys ≡ xs → (c : ℕ) → (slice_index_or ys c untouched).received ≡ (slice_index_or xs c untouched).received
keeps-same xs ys e c = ap (λ xs. (slice_index_or xs c untouched).received) e

keeps-with : (s : SpiState) (k : ℕ) (x : ChannelState) → x.received ≡ readable s k → Keeps s (with_channel s k x)
keeps-with s k x e c = channel-seen (λ x. x.received) s k c x e

keeps-written : (p : Pointer) (k : Option configured.Channel) (x : ChannelState) → (written_from p k x).received ≡ x.received
keeps-written p None x = refl
keeps-written p (Some k) x = refl

unless-channels : (b : Bool) (s after : SpiState) → after.channels ≡ s.channels → (unless_busy b s after).state.channels ≡ s.channels
unless-channels true s after e = refl
unless-channels false s after e = e

cancelled_by-channels : (d : SpiTable) (s : SpiState) (p : Pending) (b : Bool) → (cancelled_by d s p b).state.channels ≡ s.channels
cancelled_by-channels d s p true = refl
cancelled_by-channels d s p false = refl

cancelled-channels : (d : SpiTable) (s : SpiState) (o : Option Pending) → (cancelled d s o).state.channels ≡ s.channels
cancelled-channels d s None = refl
cancelled-channels d s (Some p) = cancelled_by-channels d s p (is_running s p.sequence)

work-keeps : (d : SpiTable) (s : SpiState) (call : Call) → is_init call ≡ false → Keeps s (work d s call).state
work-keeps d s Init i = absurd (cc i)
work-keeps d s DeInit i = keeps-same s.channels _ (unless-channels (is_busy s) s _ refl)
work-keeps d s (SetAsyncMode m) i = keeps-same s.channels _ (unless-channels (is_busy s) s _ refl)
work-keeps d s MainFunctionHandling i = λ c. refl
work-keeps d s (Channel k (WriteIb p)) i = keeps-with s k (written_from p (channel_of d k) (channel_at s k)) (keeps-written p (channel_of d k) (channel_at s k))
work-keeps d s (Channel k ReadIb) i = λ c. refl
work-keeps d s (Channel k (SetupEb p q n)) i = keeps-with s k _ refl
work-keeps d s (Sequence q AsyncTransmit) i = λ c. refl
work-keeps d s (Sequence q Cancel) i = keeps-same s.channels _ (cancelled-channels d s (find (is_of q) s.pending))
work-keeps d s (Sequence q SyncTransmit) i = λ c. refl
work-keeps d s (Get query) i = λ c. refl

acts_by-keeps : (d : SpiTable) (s : SpiState) (call : Call) (e : Option ErrorName) → is_init call ≡ false → Keeps s (acts_by d s call e).state
acts_by-keeps d s call None i = work-keeps d s call i
acts_by-keeps d s call (Some e) i = λ c. refl

pub stored-keeps : (s : SpiState) (x : JobWord) (g : Goes) (v : ℕ) → Keeps s (stored s x g v)
stored-keeps s x ToDestination v = keeps-with s x.channel _ refl
stored-keeps s x ToChannel v = λ c. refl
stored-keeps s x Nowhere v = λ c. refl

sequence_after-channels : (d : SpiTable) (s : SpiState) (p : Pending) (e : Option AnswerName) → (sequence_after d s p e).state.channels ≡ s.channels
sequence_after-channels d s p None = refl
sequence_after-channels d s p (Some e) = refl

pub job_over-channels : (d : SpiTable) (s : SpiState) (u : ℕ) (failed : Bool) (o : Option Pending) → (job_over d s u failed o).state.channels ≡ s.channels
job_over-channels d s u failed None = refl
job_over-channels d s u failed (Some p) = sequence_after-channels d _ p (end_by p.cancelled failed (has_further d p))

after_last-keeps : (s : SpiState) (r : Run) (failed : Bool) → (not failed && true) ≡ false → Keeps s (after_last s r failed)
after_last-keeps s r true e = λ c. refl
after_last-keeps s r false e = absurd (cc e)

served_by-keeps : (d : SpiTable) (w : World) (s : SpiState) (u received : ℕ) (r : Run) (b : Bool) → (not r.transfer.failed && not b) ≡ false
    → Keeps s (served_by d w s u received r b).state
served_by-keeps d w s u received r true e = λ c. stored-keeps s (word_of r) (word_of r).goes r.transfer.incoming c
served_by-keeps d w s u received r false e =
    let t : SpiState = after_last s r r.transfer.failed in
    λ c. keeps-same t.channels _ (job_over-channels d t u r.transfer.failed (find (is_of r.sequence) s.pending)) c ∙ after_last-keeps s r r.transfer.failed e c

served-keeps : (d : SpiTable) (w : World) (s : SpiState) (k : Option ℕ) (received : ℕ) (o : Option Run) → ends_well o ≡ false → Keeps s (served d w s k received o).state
served-keeps d w s None received o e = λ c. refl
served-keeps d w s (Some u) received None e = λ c. refl
served-keeps d w s (Some u) received (Some r) e = served_by-keeps d w s u received r (goes_on r) e

start_by-keeps : (d : SpiTable) (w : World) (s : SpiState) (k : Option ℕ) (received : ℕ) (o : Option Pending) (out : Outcome SpiState)
    → start_by d w s k received o ≡ Some out → Keeps s out.state
start_by-keeps d w s None received o out h = absurd (cc h)
start_by-keeps d w s (Some u) received None out h = absurd (cc h)
start_by-keeps d w s (Some u) received (Some p) out h = rw (← some_is (started d w s u received p) out h) (λ c. refl)

moved-keeps : (d : SpiTable) (w : World) (s : SpiState) (order : Order) → Keeps s (moved d w s order)
moved-keeps d w s (Fill k ws) = keeps-with s k (filled ws (channel_of d k) (channel_at s k)) refl
moved-keeps d w s (SpiFault u) = λ c. refl
moved-keeps d w s _ = λ c. refl

-- a word of a sequence that a call sends, and the end of it
sent_on-keeps : (d : SpiTable) (w : World) (s : SpiState) (u received : ℕ) (x : Carrying) (b : Bool) → b ≡ true → Keeps s (sent_on d w s u received x b).state
sent_on-keeps d w s u received x true e = stored-keeps s (word_of x.run) (word_of x.run).goes x.run.transfer.incoming
sent_on-keeps d w s u received x false e = absurd (cc e)

-- a further word of the same job begins where the job doesn't end well
goes-on-by : (own done failed more further : Bool) → own && done && ((not failed && more) || (not failed && further)) ≡ true → not failed && not (not failed && more) ≡ false
    → (not failed && more) ≡ true
goes-on-by false done true more further may w = absurd (cc may)
goes-on-by true false true more further may w = absurd (cc may)
goes-on-by true true true more further may w = absurd (cc may)
goes-on-by own done false true further may w = refl
goes-on-by own done false false further may w = absurd (cc w)

-- and a sequence ends where it doesn't with a failed word
failed-by : (done failed more further : Bool) → done && not ((not failed && more) || (not failed && further)) ≡ true → not failed && not (not failed && more) ≡ false → failed ≡ true
failed-by done true more further may w = refl
failed-by false false true further may w = absurd (cc may)
failed-by true false true further may w = absurd (cc may)
failed-by done false false further may w = absurd (cc w)

sent-keeps : (d : SpiTable) (s : SpiState) (u : ℕ) (x : Carrying) (failed : Bool) → failed ≡ true → Keeps s (sent d s u x failed).state
sent-keeps d s u x true e = λ c. refl
sent-keeps d s u x false e = absurd (cc e)

-- what a call sends doesn't end well
unwell : (d : SpiTable) (s : SpiState) (o : Option ℕ) (q : ℕ) (x : Carrying) → o ≡ Some q → carried_for d s q ≡ Some x → sends_well d s o ≡ false → ends_well (Some x.run) ≡ false
unwell d s o q x c f n = let e : sends_well d s (Some q) ≡ false = subst (λ p. sends_well d s p ≡ false) c n in subst (λ y. carried_well y ≡ false) f e

or-second : (a b : Bool) → a || b ≡ false → b ≡ false
or-second true b h = absurd (cc h)
or-second false b h = h

or-first : (a b : Bool) → a || b ≡ false → a ≡ false
or-first true b h = absurd (cc h)
or-first false b h = refl

and-second : (a b : Bool) → a ≡ true → a && b ≡ false → b ≡ false
and-second true b e h = h
and-second false b e h = absurd (cc e)

pub happens-keeps : (d : SpiTable) (w : World) (s : SpiState) (h : Happening Call) (out : Outcome SpiState) → (spi_machine d).happens w s h ≡ Some out → renews d s h ≡ false → Keeps s out.state
happens-keeps d w s (Acts call times) out h i =
    act-either (λ t. Keeps s t.state) d w s call out h
    (acts_by-keeps d s call (error_by d call (is_off s.mode) (finds_held d s call)) (or-first (is_init call) (sends_well d s (sent_by (Some call))) i)) (λ q e c f k. refl)
    (λ q x c ends. sent-keeps d s (unit_of_sequence d q) x x.run.transfer.failed
    (failed-by (is_done w.now x.run.transfer) x.run.transfer.failed (nat_lt (length x.run.received + 1) (length x.run.words)) (has_further d x.entry) ends.may
    (unwell d s (sent_by (Some call)) q x c ends.carried (or-second (is_init call) (sends_well d s (sent_by (Some call))) i))))
happens-keeps d w s (Serves l received) out h i =
    rw (← serve_by (ready w s l) (served d w s (unit_of l) received (run_of s (unit_of l))) out h) (served-keeps d w s (unit_of l) received (run_of s (unit_of l)) i)
happens-keeps d w s (Starts u made_by received) out h i =
    start-either (λ t. Keeps s t.state) d w s (number_of u) made_by received out h
    (λ n e. start_by-keeps d w s (number_of u) received (next_at d s (number_of u)) out e) (λ v q on new c. refl)
    (λ v q x on more. sent_on-keeps d w s v received x (goes_on x.run)
    (goes-on-by (is_of q x.entry) (is_done w.now x.run.transfer) x.run.transfer.failed (nat_lt (length x.run.received + 1) (length x.run.words)) (has_further d x.entry) more.may
    (unwell d s (sent_by made_by) q x more.sends more.carried (and-second (is_sync_number d (number_of u)) (sends_well d s (sent_by made_by)) on.unit i))))
happens-keeps d w s (Aborts u) out h i = absurd (cc h)
happens-keeps d w s (Moves order) out h i = rw (← some_is _ out h) (moved-keeps d w s order)
happens-keeps d w s (Restarts reason) out h i = absurd (cc i)
