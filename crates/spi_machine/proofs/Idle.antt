-- An uninitialised module: nothing is pending in it, a call finds it so, and a change waits until nothing is pending.
use Rattle.std.proofs.Common.{◌≡◌, ℕ, suc, arith, Bool, true, false, not, ◌&&◌, ◌||◌, List, [], ◌∷◌, length, nat_eq, Option, Some, None, is_some, refl, sym, ◌∙◌, ap}
use Rattle.std.specs.Prelude.{find, if◌then◌else◌}
use Rattle.std.specs.List.{list_any}
use Rattle.std.proofs.lemmas.Bool.Decides.{nat_tests}
use Rattle.mcal_base.specs.facts.Options.{some_is}
use Rattle.mcal_base.specs.declared.answer_name.AnswerName.{AnswerName}
use Rattle.mcal_base.specs.declared.answer_name.AnswerName.TheVariants.{ENotOk}
use Rattle.mcal_base.specs.declared.directive.Order.{Order}
use Rattle.mcal_base.specs.declared.directive.Order.TheVariants.{Fill, SpiFault}
use Rattle.mcal_base.specs.declared.error_name.ErrorName.{ErrorName}
use Rattle.mcal_base.specs.declared.error_name.ErrorName.TheVariants.{SpiUninit}
use Rattle.mcal_base.specs.declared.service.Service.TheVariants as services
use Rattle.mcal_base.specs.declared.moves.Unit as units
use Rattle.mcal_base.specs.det_errors.Rows.{first_error}
use Rattle.run_model.specs.Frame.{state_by}
use Rattle.run_model.specs.Machine.{Happening, Acts, Serves, Starts, Aborts, Moves, Restarts, Outcome, outcome, answers, named}
use Rattle.run_model.specs.World.{World}
use Rattle.spi_machine.proofs.Runs.{stored-seen, after_last-seen, serve_by}
use Rattle.spi_machine.proofs.Sending.{act-either, start-either, carried-right, sends-none}
use Rattle.spi_machine.specs.Checks.{error_by, is_wrong_sequence}
use Rattle.spi_machine.specs.Promised.{is_change, needs_init, Renewed}
use Rattle.spi_machine.specs.Machine.{spi_machine, acts_by, unless_busy, accepted, cancelled, cancelled_by, finds_held, next_by, after_last, sequence_after, job_over, served_by, served, unit_of, run_of, has_done, ready, started, start_by, next_at, number_of, moved, pending_of, sent, sent_on, error_of_sending}
use Rattle.spi_machine.specs.Pending.{Pending, is_of, end_by, has_further, is_pending}
use Rattle.spi_machine.specs.Runs.{Occurrence, state_after, after_all}
use Rattle.spi_machine.specs.State.{SpiState, Carrying, first_state, is_busy, is_off, is_running, mode_of, run_at}
use Rattle.spi_machine.specs.Wiring.{unit_of_sequence}
use Rattle.spi_machine.specs.Transfers.{JobWord, Run, goes_on, word_of}
use Rattle.spi_machine.specs.declared.call.AsyncMode.{AsyncMode}
use Rattle.spi_machine.specs.declared.call.AsyncMode.TheVariants as modes
use Rattle.spi_machine.specs.declared.call.Call.{Call}
use Rattle.spi_machine.specs.declared.call.Call.TheVariants.{Init, DeInit, SetAsyncMode, MainFunctionHandling, Channel, Sequence, Get}
use Rattle.spi_machine.specs.declared.call.ChannelCall.TheVariants.{WriteIb, ReadIb, SetupEb}
use Rattle.spi_machine.specs.declared.call.Query.TheVariants.{Status, JobResult, SequenceResult, HwUnitStatus}
use Rattle.spi_machine.specs.declared.call.SequenceCall.TheVariants.{AsyncTransmit, Cancel, SyncTransmit}
use Rattle.spi_machine.specs.declared.table.SpiTable.{SpiTable}

-- ---- no line and no unit

clash : (b : Bool) → b ≡ false → b ≡ true → ⊥
clash b e f = cc (e, f)

pub never-ready : (d : SpiTable) (w : World) (s : SpiState) (l : ℕ) → is_off s.mode ≡ true → (spi_machine d).ready w s l ≡ false
never-ready d w s l off = rw off refl

pub never-due : (d : SpiTable) (w : World) (s : SpiState) (l : ℕ) → is_off s.mode ≡ true → (spi_machine d).due w s l ≡ false
never-due d w s l off = rw off refl

nothing-next : (d : SpiTable) (s : SpiState) (k : Option ℕ) → is_off s.mode ≡ true → next_at d s k ≡ None
nothing-next d s None off = refl
nothing-next d s (Some u) off = rw off refl

pub never-startable : (d : SpiTable) (w : World) (s : SpiState) (unit : units.Unit) → is_off s.mode ≡ true → (spi_machine d).startable w s unit ≡ false
never-startable d w s unit off = rw (nothing-next d s (number_of unit) off) refl

-- ---- a call

found-off : (d : SpiTable) (call : Call) (held : Bool) → needs_init call ≡ true → error_by d call true held ≡ Some SpiUninit
found-off d Init held n = absurd (cc n)
found-off d DeInit held n = refl
found-off d (SetAsyncMode m) held n = refl
found-off d MainFunctionHandling held n = absurd (cc n)
found-off d (Channel c (WriteIb p)) held n = refl
found-off d (Channel c ReadIb) held n = refl
found-off d (Channel c (SetupEb p q k)) held n = refl
found-off d (Sequence q AsyncTransmit) held n = refl
found-off d (Sequence q Cancel) held n = refl
found-off d (Sequence q SyncTransmit) held n = refl
found-off d (Get Status) held n = absurd (cc n)
found-off d (Get (JobResult j)) held n = refl
found-off d (Get (SequenceResult q)) held n = refl
found-off d (Get (HwUnitStatus u)) held n = refl

refused-off : (d : SpiTable) (s : SpiState) (call : Call) (e : Option ErrorName) → e ≡ Some SpiUninit → (acts_by d s call e).told.error ≡ Some SpiUninit
refused-off d s call None h = absurd (cc h)
refused-off d s call (Some e) h = h

pub finds-off : (d : SpiTable) (w : World) (s : SpiState) (call : Call) (times : ℕ → ℕ) (out : Outcome SpiState)
    → (spi_machine d).happens w s (Acts call times) ≡ Some out → is_off s.mode ≡ true → needs_init call ≡ true → out.told.error ≡ Some SpiUninit
finds-off d w s call times out h off n =
    let e : error_by d call (is_off s.mode) (finds_held d s call) ≡ Some SpiUninit = rw off (found-off d call (finds_held d s call) n) in
    act-either (λ t. t.told.error ≡ Some SpiUninit) d w s call out h (refused-off d s call (error_by d call (is_off s.mode) (finds_held d s call)) e)
    (λ q x c f. let g : error_of_sending d s q ≡ Some SpiUninit = rw off (found-off d (Sequence q SyncTransmit) (finds_held d s (Sequence q SyncTransmit)) refl) in sym f ∙ g)
    (λ q x c ends. absurd (clash (is_off s.mode) (carried-right d s q x ends.carried).0 off))

-- ---- a change while a sequence is pending

refused-busy : (b : Bool) (s after : SpiState) → b ≡ true → unless_busy b s after ≡ outcome s (answers (named ENotOk))
refused-busy true s after h = refl
refused-busy false s after h = absurd (cc h)

changes-busy : (d : SpiTable) (s : SpiState) (call : Call) (e : Option ErrorName) → (acts_by d s call e).told.error ≡ None → is_change call ≡ true → is_busy s ≡ true
    → acts_by d s call e ≡ outcome s (answers (named ENotOk))
changes-busy d s call (Some e) h c b = absurd (cc h)
changes-busy d s DeInit None h c b = refused-busy (is_busy s) s _ b
changes-busy d s (SetAsyncMode m) None h c b = refused-busy (is_busy s) s _ b
changes-busy d s Init None h c b = absurd (cc c)
changes-busy d s MainFunctionHandling None h c b = absurd (cc c)
changes-busy d s (Channel k call) None h c b = absurd (cc c)
changes-busy d s (Sequence q call) None h c b = absurd (cc c)
changes-busy d s (Get query) None h c b = absurd (cc c)

pub act-busy : (d : SpiTable) (w : World) (s : SpiState) (call : Call) (times : ℕ → ℕ) (out : Outcome SpiState)
    → (spi_machine d).happens w s (Acts call times) ≡ Some out → out.told.error ≡ None → is_change call ≡ true → is_busy s ≡ true → out ≡ outcome s (answers (named ENotOk))
act-busy d w s call times out h none c b =
    let error : Option ErrorName = error_by d call (is_off s.mode) (finds_held d s call) in
    act-either (λ t. t.told.error ≡ None → t ≡ outcome s (answers (named ENotOk))) d w s call out h (λ quiet. changes-busy d s call error quiet c b)
    (λ q x e f. absurd (sends-none call q c e)) (λ q x e ends. absurd (sends-none call q c e)) none

-- ---- nothing is pending

-- where the module is uninitialised
abbrev IsIdle : SpiState → Type 0
IsIdle s = is_off s.mode ≡ true → s.pending ≡ []

busy-some : (n : ℕ) → not (nat_eq (suc n) 0) ≡ true
busy-some n = grind (arith, nat_tests)

or-first : (a b : Bool) → a || b ≡ false → a ≡ false
or-first true b h = absurd (cc h)
or-first false b h = refl

empty-of : (ps : List Pending) → not (nat_eq (length ps) 0) ≡ false → ps ≡ []
empty-of [] h = refl
empty-of (p ∷ ps) h = absurd (clash (not (nat_eq (suc (length ps)) 0)) h (busy-some (length ps)))

nothing-pending : (s : SpiState) → is_busy s ≡ false → s.pending ≡ []
nothing-pending s h = empty-of s.pending (or-first (not (nat_eq (length s.pending) 0)) (list_any is_some s.carried) h)

idle-unless : (s after : SpiState) (b : Bool) → is_busy s ≡ b → IsIdle s → (is_busy s ≡ false → IsIdle after) → IsIdle (unless_busy b s after).state
idle-unless s after true e idle free = idle
idle-unless s after false e idle free = free e

never-off : (m : AsyncMode) → is_off (mode_of m) ≡ false
never-off modes.Polling = refl
never-off modes.Interrupt = refl

-- a module that stays initialised
idle-on : (s t : SpiState) → t.mode ≡ s.mode → is_off s.mode ≡ false → IsIdle t
idle-on s t e on = λ off. absurd (clash (is_off s.mode) on (rw (← e) off))

-- one that has as many pending sequences and is in the same mode
idle-same : (s t : SpiState) → t.mode ≡ s.mode → t.pending ≡ s.pending → IsIdle s → IsIdle t
idle-same s t e f idle = λ off. f ∙ idle (rw (← e) off)

-- a sequence's call without an error finds the module initialised
on-transmit : (a b c : Bool) → first_error services.SpiAsyncTransmit (a ∷ b ∷ c ∷ false ∷ false ∷ false ∷ []) ≡ None → a ≡ false
on-transmit true b c h = absurd (cc h)
on-transmit false b c h = refl

on-cancel : (a b c : Bool) → first_error services.SpiCancel (a ∷ b ∷ c ∷ false ∷ false ∷ false ∷ []) ≡ None → a ≡ false
on-cancel true b c h = absurd (cc h)
on-cancel false b c h = refl

mode-cancelled_by : (d : SpiTable) (s : SpiState) (p : Pending) (b : Bool) → (cancelled_by d s p b).state.mode ≡ s.mode
mode-cancelled_by d s p true = refl
mode-cancelled_by d s p false = refl

mode-cancelled : (d : SpiTable) (s : SpiState) (o : Option Pending) → (cancelled d s o).state.mode ≡ s.mode
mode-cancelled d s None = refl
mode-cancelled d s (Some p) = mode-cancelled_by d s p (is_running s p.sequence)

idle-acts : (d : SpiTable) (s : SpiState) (call : Call) (e : Option ErrorName) → error_by d call (is_off s.mode) (finds_held d s call) ≡ e → IsIdle s → IsIdle (acts_by d s call e).state
idle-acts d s call (Some e) h idle = idle
idle-acts d s Init None h idle = λ off. refl
idle-acts d s DeInit None h idle = idle-unless s _ (is_busy s) refl idle (λ free off. nothing-pending s free)
idle-acts d s (SetAsyncMode m) None h idle = idle-unless s _ (is_busy s) refl idle (λ free off. absurd (clash (is_off (mode_of m)) (never-off m) off))
idle-acts d s MainFunctionHandling None h idle = idle
idle-acts d s (Channel c (WriteIb p)) None h idle = idle
idle-acts d s (Channel c ReadIb) None h idle = idle
idle-acts d s (Channel c (SetupEb p q n)) None h idle = idle
idle-acts d s (Sequence q AsyncTransmit) None h idle = idle-on s (accepted d s q) refl (on-transmit (is_off s.mode) (is_wrong_sequence d q AsyncTransmit) (finds_held d s (Sequence q AsyncTransmit)) h)
idle-acts d s (Sequence q SyncTransmit) None h idle = idle
idle-acts d s (Sequence q Cancel) None h idle = idle-on s (cancelled d s (find (is_of q) s.pending)).state (mode-cancelled d s (find (is_of q) s.pending)) (on-cancel (is_off s.mode) (is_wrong_sequence d q Cancel) false h)
idle-acts d s (Get query) None h idle = idle

mode-after : (d : SpiTable) (s : SpiState) (p : Pending) (e : Option AnswerName) → (sequence_after d s p e).state.mode ≡ s.mode
mode-after d s p None = refl
mode-after d s p (Some e) = refl

mode-over : (d : SpiTable) (s : SpiState) (u : ℕ) (failed : Bool) (o : Option Pending) → (job_over d s u failed o).state.mode ≡ s.mode
mode-over d s u failed None = refl
mode-over d s u failed (Some p) = mode-after d _ p (end_by p.cancelled failed (has_further d p))

mode-served_by : (d : SpiTable) (w : World) (s : SpiState) (u received : ℕ) (r : Run) (b : Bool) → (served_by d w s u received r b).state.mode ≡ s.mode
mode-served_by d w s u received r true = stored-seen (λ s. s.mode) (λ s c x. refl) s (word_of r) (word_of r).goes r.transfer.incoming
mode-served_by d w s u received r false =
    mode-over d (after_last s r r.transfer.failed) u r.transfer.failed (pending_of s r) ∙ after_last-seen (λ s. s.mode) (λ s c x. refl) s r r.transfer.failed

mode-served : (d : SpiTable) (w : World) (s : SpiState) (k : Option ℕ) (received : ℕ) (o : Option Run) → (served d w s k received o).state.mode ≡ s.mode
mode-served d w s None received o = refl
mode-served d w s (Some u) received None = refl
mode-served d w s (Some u) received (Some r) = mode-served_by d w s u received r (goes_on r)

-- what may be served is of an initialised module
on-ready : {A : Type 0} (off done : Bool) (x out : A) → (if not off && done then Some x else None) ≡ Some out → off ≡ false
on-ready true done x out h = absurd (cc h)
on-ready false done x out h = refl

on-next : {A : Type 0} (off : Bool) (o : Option A) (p : A) → (if off then None else o) ≡ Some p → off ≡ false
on-next true o p h = absurd (cc h)
on-next false o p h = refl

idle-starts : (d : SpiTable) (w : World) (s : SpiState) (k : Option ℕ) (received : ℕ) (o : Option Pending) (out : Outcome SpiState)
    → next_at d s k ≡ o → start_by d w s k received o ≡ Some out → IsIdle out.state
idle-starts d w s None received o out e h = absurd (cc h)
idle-starts d w s (Some u) received None out e h = absurd (cc h)
idle-starts d w s (Some u) received (Some p) out e h =
    rw (← some_is (started d w s u received p) out h) (idle-on s (started d w s u received p).state refl (on-next (is_off s.mode) (next_by d s u (run_at s u)) p e))

idle-sent_on : (d : SpiTable) (w : World) (s : SpiState) (u received : ℕ) (x : Carrying) (b : Bool) → IsIdle s → IsIdle (sent_on d w s u received x b).state
idle-sent_on d w s u received x true idle =
    let y : JobWord = word_of x.run in
    idle-same s (sent_on d w s u received x true).state (stored-seen (λ s. s.mode) (λ s c x. refl) s y y.goes x.run.transfer.incoming) (stored-seen (λ s. s.pending) (λ s c x. refl) s y y.goes x.run.transfer.incoming) idle
idle-sent_on d w s u received x false idle =
    idle-same s (sent_on d w s u received x false).state (after_last-seen (λ s. s.mode) (λ s c x. refl) s x.run false) (after_last-seen (λ s. s.pending) (λ s c x. refl) s x.run false) idle

idle-moved : (d : SpiTable) (w : World) (s : SpiState) (order : Order) → IsIdle s → IsIdle (moved d w s order)
idle-moved d w s (Fill c ws) idle = idle
idle-moved d w s (SpiFault u) idle = idle
idle-moved d w s _ idle = idle

idle-happens : (d : SpiTable) (w : World) (s : SpiState) (h : Happening Call) (out : Outcome SpiState) → (spi_machine d).happens w s h ≡ Some out → IsIdle s → IsIdle out.state
idle-happens d w s (Acts call times) out h idle =
    act-either (λ t. IsIdle t.state) d w s call out h (idle-acts d s call (error_by d call (is_off s.mode) (finds_held d s call)) refl idle) (λ q e c f. idle)
    (λ q x c ends. idle-same s (sent d s (unit_of_sequence d q) x x.run.transfer.failed).state (after_last-seen (λ s. s.mode) (λ s c x. refl) s x.run x.run.transfer.failed) (after_last-seen (λ s. s.pending) (λ s c x. refl) s x.run x.run.transfer.failed) idle)
idle-happens d w s (Serves l received) out h idle =
    rw (← serve_by (ready w s l) (served d w s (unit_of l) received (run_of s (unit_of l))) out h)
    (idle-on s (served d w s (unit_of l) received (run_of s (unit_of l))).state (mode-served d w s (unit_of l) received (run_of s (unit_of l)))
    (on-ready (is_off s.mode) (has_done w.now (run_of s (unit_of l))) (served d w s (unit_of l) received (run_of s (unit_of l))) out h))
idle-happens d w s (Starts u made_by received) out h idle =
    start-either (λ t. IsIdle t.state) d w s (number_of u) made_by received out h
    (λ n e. idle-starts d w s (number_of u) received (next_at d s (number_of u)) out refl e) (λ v q on new. idle) (λ v q x on more. idle-sent_on d w s v received x (goes_on x.run) idle)
idle-happens d w s (Aborts u) out h idle = absurd (cc h)
idle-happens d w s (Moves order) out h idle = rw (← some_is _ out h) (idle-moved d w s order idle)
idle-happens d w s (Restarts reason) out h idle = rw (← some_is _ out h) (λ off. refl)

idle-by : (d : SpiTable) (w : World) (s : SpiState) (h : Happening Call) (o : Option (Outcome SpiState)) → (spi_machine d).happens w s h ≡ o → IsIdle s → IsIdle (state_by s o)
idle-by d w s h None e idle = idle
idle-by d w s h (Some out) e idle = idle-happens d w s h out e idle

idle-all : (d : SpiTable) (s : SpiState) (xs : List Occurrence) → IsIdle s → IsIdle (after_all d s xs)
idle-all d s [] idle = idle
idle-all d s (x ∷ xs) idle = idle-all d (state_after d x.world s x.what) xs (idle-by d x.world s x.what ((spi_machine d).happens x.world s x.what) refl idle)

pub idle-run : (d : SpiTable) (xs : List Occurrence) → is_off (after_all d first_state xs).mode ≡ true → (after_all d first_state xs).pending ≡ []
idle-run d xs = idle-all d first_state xs (λ off. refl)

-- ---- an initialisation

off-init : (off : Bool) → first_error services.SpiInit (not off ∷ false ∷ false ∷ false ∷ false ∷ false ∷ []) ≡ None → off ≡ true
off-init true h = refl
off-init false h = absurd (cc h)

renewed-by : (d : SpiTable) (s : SpiState) (q : ℕ) (e : Option ErrorName) → error_by d Init (is_off s.mode) false ≡ e → (acts_by d s Init e).told.error ≡ None → IsIdle s
    → Renewed q s (acts_by d s Init e)
renewed-by d s q (Some e) h none idle = absurd (cc none)
renewed-by d s q None h none idle =
    record { was = ap (λ ps. is_pending q ps) (idle (off-init (is_off s.mode) h)); is = refl; result = refl; told = refl }

pub renewed : (d : SpiTable) (w : World) (xs : List Occurrence) (times : ℕ → ℕ) (out : Outcome SpiState) (q : ℕ)
    → (spi_machine d).happens w (after_all d first_state xs) (Acts Init times) ≡ Some out → out.told.error ≡ None → Renewed q (after_all d first_state xs) out
renewed d w xs times out q h none =
    let s : SpiState = after_all d first_state xs in
    let error : Option ErrorName = error_by d Init (is_off s.mode) false in
    let e : acts_by d s Init error ≡ out = some_is _ out h in
    rw (← e) (renewed-by d s q error refl (rw e none) (idle-run d xs))
