-- How a call that sends a sequence and waits takes part in what happens: its words, its end, and its errors.
use Rattle.std.proofs.Common.{◌≡◌, ℕ, Bool, true, false, ◌==◌, ◌||◌, not, Option, Some, None, refl, ◌∙◌, ap, subst}
use Rattle.std.specs.Prelude.{IsSome, if◌then◌else◌}
use Rattle.mcal_base.specs.facts.Options.{some_is}
use Rattle.mcal_base.specs.facts.Numbers.{eq_is}
use Rattle.mcal_base.specs.declared.error_name.ErrorName.{ErrorName}
use Rattle.run_model.specs.Machine.{Outcome, outcome, tells_error}
use Rattle.run_model.specs.World.{World}
use Rattle.spi_machine.specs.Checks.{answer_refused}
use Rattle.spi_machine.specs.Machine.{acts, act_of, act_by, sent_by, sending_ends, not_sent, error_of_sending, may_end, sent, sequence_begun, as_requested, carries_job, sent_on, sent_first, sent_from, sent_word, sent_at, may_go_on, start_of, start_by, is_sync_number, carried_for, next_at}
use Rattle.spi_machine.specs.State.{SpiState, Carrying, carried_at, is_off}
use Rattle.spi_machine.specs.Pending.{Pending, is_of}
use Rattle.spi_machine.specs.Promised.{is_change}
use Rattle.spi_machine.specs.Table.{is_sync_unit}
use Rattle.spi_machine.specs.Transfers.{goes_on}
use Rattle.spi_machine.specs.Wiring.{unit_of_sequence, is_sync_sequence}
use Rattle.spi_machine.specs.declared.call.Call.{Call}
use Rattle.spi_machine.specs.declared.call.Call.TheVariants.{Init, DeInit, SetAsyncMode, MainFunctionHandling, Channel, Sequence, Get}
use Rattle.spi_machine.specs.declared.call.SequenceCall.TheVariants.{SyncTransmit}
use Rattle.spi_machine.specs.declared.table.SpiTable.{SpiTable}

-- ---- what a unit carries out is a sequence of it, of an initialised module

carried_by : (off sync : Bool) (o : Option Carrying) (x : Carrying) → (if off || not sync then None else o) ≡ Some x → (off ≡ false) × (sync ≡ true)
carried_by true sync o x h = absurd (cc h)
carried_by false false o x h = absurd (cc h)
carried_by false true o x h = (refl, refl)

pub carried-right : (d : SpiTable) (s : SpiState) (q : ℕ) (x : Carrying) → carried_for d s q ≡ Some x → (is_off s.mode ≡ false) × (is_sync_sequence d q ≡ true)
carried-right d s q x h = carried_by (is_off s.mode) (is_sync_sequence d q) (carried_at s (unit_of_sequence d q)) x h

-- ---- an act is that of another call, or of an error of this one, or it ends the sequence

-- the act ends the sequence of the call
pub record EndsSending (d : SpiTable) (w : World) (s : SpiState) (q : ℕ) (x : Carrying) : Type 0 where
  pub carried : carried_for d s q ≡ Some x
  pub own : is_of q x.entry ≡ true
  pub may : may_end d w x ≡ true

pub sending-either : (P : Outcome SpiState → Type 0) (d : SpiTable) (w : World) (s : SpiState) (q : ℕ) (out : Outcome SpiState) → sending_ends d w s q (carried_for d s q) ≡ Some out
    → ((e : ErrorName) → error_of_sending d s q ≡ Some e → P (outcome s (tells_error (answer_refused (Sequence q SyncTransmit)) e)))
    → ((x : Carrying) → EndsSending d w s q x → P (sent d s (unit_of_sequence d q) x x.run.transfer.failed))
    → P out
sending-either P d w s q out h error ends = at (carried_for d s q) refl h
  where
    refused : (e : Option ErrorName) → error_of_sending d s q ≡ e → not_sent s q e ≡ Some out → P out
    refused None f h = absurd (cc h)
    refused (Some e) f h = subst P (some_is _ out h) (error e f)

    ended : (x : Carrying) (own may : Bool) → carried_for d s q ≡ Some x → is_of q x.entry ≡ own → may_end d w x ≡ may
        → (if own then (if may then Some (sent d s (unit_of_sequence d q) x x.run.transfer.failed) else None) else not_sent s q (error_of_sending d s q)) ≡ Some out → P out
    ended x false may f e m h = refused (error_of_sending d s q) refl h
    ended x true false f e m h = absurd (cc h)
    ended x true true f e m h = subst P (some_is _ out h) (ends x (record { carried = f; own = e; may = m }))

    at : (o : Option Carrying) → carried_for d s q ≡ o → sending_ends d w s q o ≡ Some out → P out
    at None f h = refused (error_of_sending d s q) refl h
    at (Some x) f h = ended x (is_of q x.entry) (may_end d w x) f refl refl h

pub act-either : (P : Outcome SpiState → Type 0) (d : SpiTable) (w : World) (s : SpiState) (call : Call) (out : Outcome SpiState) → act_of d w s call ≡ Some out
    → P (acts d s call)
    → ((q : ℕ) (e : ErrorName) → sent_by (Some call) ≡ Some q → error_of_sending d s q ≡ Some e → P (outcome s (tells_error (answer_refused (Sequence q SyncTransmit)) e)))
    → ((q : ℕ) (x : Carrying) → sent_by (Some call) ≡ Some q → EndsSending d w s q x → P (sent d s (unit_of_sequence d q) x x.run.transfer.failed))
    → P out
act-either P d w s call out h plain error ends = by (sent_by (Some call)) refl h
  where
    by : (o : Option ℕ) → sent_by (Some call) ≡ o → act_by d w s call o ≡ Some out → P out
    by None c h = subst P (some_is _ out h) plain
    by (Some q) c h = sending-either P d w s q out h (λ e f. error q e c f) (λ x end. ends q x c end)

-- ---- a start is that of another unit, or begins the sequence of a call, or a further word of it

-- a sequence of the unit that starts
pub record IsSentOn (d : SpiTable) (k : Option ℕ) (u q : ℕ) : Type 0 where
  pub number : k ≡ Some u
  pub unit : is_sync_number d k ≡ true
  pub own : unit_of_sequence d q ≡ u
  pub sync : is_sync_sequence d q ≡ true

-- its first word begins
pub record BeginsSending (d : SpiTable) (s : SpiState) (made_by : Option Call) (q : ℕ) : Type 0 where
  pub sends : sent_by made_by ≡ Some q
  pub free : carried_for d s q ≡ None
  pub clear : error_of_sending d s q ≡ None

-- a further word of it begins
pub record GoesOnSending (d : SpiTable) (w : World) (s : SpiState) (made_by : Option Call) (q : ℕ) (x : Carrying) : Type 0 where
  pub sends : sent_by made_by ≡ Some q
  pub carried : carried_for d s q ≡ Some x
  pub may : may_go_on d w x q ≡ true

pub start-either : (P : Outcome SpiState → Type 0) (d : SpiTable) (w : World) (s : SpiState) (k : Option ℕ) (made_by : Option Call) (received : ℕ) (out : Outcome SpiState)
    → start_of d w s k made_by received ≡ Some out
    → (is_sync_number d k ≡ false → start_by d w s k received (next_at d s k) ≡ Some out → P out)
    → ((u q : ℕ) → IsSentOn d k u q → BeginsSending d s made_by q → P (carries_job d w (sequence_begun d s q) u received (as_requested d s q)))
    → ((u q : ℕ) (x : Carrying) → IsSentOn d k u q → GoesOnSending d w s made_by q x → P (sent_on d w s u received x (goes_on x.run)))
    → P out
start-either P d w s k made_by received out h plain first further = by (is_sync_number d k) refl h
  where
    begun : (u q : ℕ) (e : Option ErrorName) → IsSentOn d k u q → sent_by made_by ≡ Some q → carried_for d s q ≡ None → error_of_sending d s q ≡ e → sent_first d w s u received q e ≡ Some out → P out
    begun u q None i m c e h = subst P (some_is _ out h) (first u q i (record { sends = m; free = c; clear = e }))
    begun u q (Some x) i m c e h = absurd (cc h)

    on : (u q : ℕ) (x : Carrying) (may : Bool) → IsSentOn d k u q → sent_by made_by ≡ Some q → carried_for d s q ≡ Some x → may_go_on d w x q ≡ may
        → (if may then Some (sent_on d w s u received x (goes_on x.run)) else None) ≡ Some out → P out
    on u q x true i m c e h = subst P (some_is _ out h) (further u q x i (record { sends = m; carried = c; may = e }))
    on u q x false i m c e h = absurd (cc h)

    from : (u q : ℕ) (o : Option Carrying) → IsSentOn d k u q → sent_by made_by ≡ Some q → carried_for d s q ≡ o → sent_from d w s u received q o ≡ Some out → P out
    from u q None i m c h = begun u q (error_of_sending d s q) i m c refl h
    from u q (Some x) i m c h = on u q x (may_go_on d w x q) i m c refl h

    own : (u q : ℕ) (b : Bool) → k ≡ Some u → is_sync_unit d u ≡ true → sent_by made_by ≡ Some q → (unit_of_sequence d q == u) ≡ b
        → (if b then sent_from d w s u received q (carried_for d s q) else None) ≡ Some out → P out
    own u q true n i m e h =
        let same : unit_of_sequence d q ≡ u = eq_is (unit_of_sequence d q) u e in
        from u q (carried_for d s q) (record { number = n; unit = ap (λ j. is_sync_number d j) n ∙ i; own = same; sync = ap (λ v. is_sync_unit d v) same ∙ i }) m refl h
    own u q false n i m e h = absurd (cc h)

    word : (u : ℕ) (o : Option ℕ) → k ≡ Some u → is_sync_unit d u ≡ true → sent_by made_by ≡ o → sent_word d w s u received o ≡ Some out → P out
    word u None n i m h = absurd (cc h)
    word u (Some q) n i m h = own u q (unit_of_sequence d q == u) n i m refl h

    at : (o : Option ℕ) → k ≡ o → is_sync_number d o ≡ true → sent_at d w s o received (sent_by made_by) ≡ Some out → P out
    at None n i h = absurd (cc h)
    at (Some u) n i h = word u (sent_by made_by) n i refl h

    by : (b : Bool) → is_sync_number d k ≡ b → (if b then sent_at d w s k received (sent_by made_by) else start_by d w s k received (next_at d s k)) ≡ Some out → P out
    by true e h = at k refl e h
    by false e h = plain e h

-- a start of a unit of the other kind is one of the next job
pub plain-start : (d : SpiTable) (w : World) (s : SpiState) (k : Option ℕ) (made_by : Option Call) (received : ℕ) (out : Outcome SpiState) (u : ℕ)
    → start_of d w s k made_by received ≡ Some out → k ≡ Some u → is_sync_unit d u ≡ false → start_by d w s k received (next_at d s k) ≡ Some out
plain-start d w s k made_by received out u h e n = by (is_sync_number d k) (ap (λ j. is_sync_number d j) e ∙ n) h
  where
    by : (b : Bool) → b ≡ false → (if b then sent_at d w s k received (sent_by made_by) else start_by d w s k received (next_at d s k)) ≡ Some out
        → start_by d w s k received (next_at d s k) ≡ Some out
    by true f h = absurd (cc f)
    by false f h = h

-- whether a start for no call is allowed doesn't depend on what comes in
pub start-received : (d : SpiTable) (w : World) (s : SpiState) (k : Option ℕ) (r1 r2 : ℕ) → IsSome (start_of d w s k None r1) → IsSome (start_of d w s k None r2)
start-received d w s k r1 r2 h = by (is_sync_number d k) h
  where
    unsent : (o : Option ℕ) → IsSome (sent_at d w s o r1 None) → ⊥
    unsent None h = cc h
    unsent (Some u) h = cc h

    next : (o : Option ℕ) (p : Option Pending) → IsSome (start_by d w s o r1 p) → IsSome (start_by d w s o r2 p)
    next None p h = absurd (cc h)
    next (Some u) None h = absurd (cc h)
    next (Some u) (Some p) h = refl

    by : (b : Bool) → IsSome (if b then sent_at d w s k r1 None else start_by d w s k r1 (next_at d s k)) → IsSome (if b then sent_at d w s k r2 None else start_by d w s k r2 (next_at d s k))
    by true h = absurd (unsent k h)
    by false h = next k (next_at d s k) h

-- ---- calls that don't send

-- a call that changes the whole module sends nothing
pub sends-none : (call : Call) (q : ℕ) → is_change call ≡ true → sent_by (Some call) ≡ Some q → ⊥
sends-none Init q c h = cc c
sends-none DeInit q c h = cc h
sends-none (SetAsyncMode m) q c h = cc h
sends-none MainFunctionHandling q c h = cc c
sends-none (Channel n call) q c h = cc c
sends-none (Sequence n call) q c h = cc c
sends-none (Get query) q c h = cc c
