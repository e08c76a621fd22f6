-- What is so of a state after an act or a start is so where it is so after those of the other calls and units, and after
-- what Spi_SyncTransmit does.
use Rattle.std.proofs.Common.{◌≡◌, ℕ, false, Option, Some, None, refl, sym, ◌∙◌}
use Rattle.mcal_base.specs.facts.Options.{some_is}
use Rattle.run_model.specs.Frame.{state_by}
use Rattle.run_model.specs.Machine.{Acts, Outcome}
use Rattle.run_model.specs.World.{World}
use Rattle.spi_machine.proofs.Sending.{EndsSending, GoesOnSending, IsSentOn, act-either, start-either}
use Rattle.spi_machine.specs.Machine.{spi_machine, acts, act_of, sent_by, sent, sent_on, carries_job, sequence_begun, as_requested, start_of, start_by, is_sync_number, next_at}
use Rattle.spi_machine.specs.State.{SpiState, Carrying}
use Rattle.spi_machine.specs.Transfers.{goes_on}
use Rattle.spi_machine.specs.Wiring.{unit_of_sequence}
use Rattle.spi_machine.specs.declared.call.Call.{Call}
use Rattle.spi_machine.specs.declared.table.SpiTable.{SpiTable}

pub act_so : (P : SpiState → Type 0) (d : SpiTable) (w : World) (s : SpiState) (call : Call) → P s → P (acts d s call).state
    → ((q : ℕ) (x : Carrying) → EndsSending d w s q x → P (sent d s (unit_of_sequence d q) x x.run.transfer.failed).state) → P (state_by s (act_of d w s call))
act_so P d w s call left plain ends = by (act_of d w s call) refl
  where
    by : (o : Option (Outcome SpiState)) → act_of d w s call ≡ o → P (state_by s o)
    by None e = left
    by (Some out) e = act-either (λ (t : Outcome SpiState). P t.state) d w s call out e plain (λ q x c f. left) (λ q x c end. ends q x end)

pub start_so : (P : SpiState → Type 0) (d : SpiTable) (w : World) (s : SpiState) (k : Option ℕ) (made_by : Option Call) (received : ℕ) → P s → (is_sync_number d k ≡ false → P (state_by s (start_by d w s k received (next_at d s k))))
    → ((u q : ℕ) → IsSentOn d k u q → P (carries_job d w (sequence_begun d s q) u received (as_requested d s q)).state)
    → ((u q : ℕ) (x : Carrying) → IsSentOn d k u q → GoesOnSending d w s made_by q x → P (sent_on d w s u received x (goes_on x.run)).state)
    → P (state_by s (start_of d w s k made_by received))
start_so P d w s k made_by received left plain first further = by (start_of d w s k made_by received) refl
  where
    started : (out : Outcome SpiState) (o : Option (Outcome SpiState)) → o ≡ Some out → P (state_by s o) → P out.state
    started out None e h = absurd (cc e)
    started out (Some x) e h = rw (← some_is x out e) h

    by : (o : Option (Outcome SpiState)) → start_of d w s k made_by received ≡ o → P (state_by s o)
    by None e = left
    by (Some out) e =
        start-either (λ (t : Outcome SpiState). P t.state) d w s k made_by received out e (λ n f. started out (start_by d w s k received (next_at d s k)) f (plain n)) (λ u q on new. first u q on) further

-- the act of another call is what the call does
pub act_plain : (d : SpiTable) (w : World) (s : SpiState) (call : Call) (times : ℕ → ℕ) (out : Outcome SpiState) → sent_by (Some call) ≡ None → (spi_machine d).happens w s (Acts call times) ≡ Some out → acts d s call ≡ out
act_plain d w s call times out n made = some_is (acts d s call) out (sym (rw n refl) ∙ made)
