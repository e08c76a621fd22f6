-- A frame waits for a serial unit that is there.
use Rattle.std.proofs.Common.{◌≡◌, ℕ, ◌<◌, ◌==◌, nat_lt, Bool, true, false, cond}
use Rattle.adc_machine.specs.Bounds.{adc_setting}
use Rattle.module_machines.specs.gpt.Bounds.{gpt_setting}
use Rattle.module_machines.specs.icu.Bounds.{icu_setting}
use Rattle.mcal_base.specs.declared.moves.Move.{Move}
use Rattle.mcal_base.specs.declared.moves.Move.TheVariants.{Read}
use Rattle.mcal_base.specs.declared.register.Reg.TheVariants.{SerialWait}
use Rattle.module_machines.specs.mcu.Bounds.{mcu_setting}
use Rattle.mcal_base.specs.facts.Numbers.{lt_is}
use Rattle.mcal_base.specs.facts.Truths.{and_second, off_on}
use Rattle.module_machines.specs.port.Bounds.{port_setting}
use Rattle.module_machines.specs.pwm.Bounds.{pwm_setting}
use Rattle.run_model.specs.Frame.{Origin, Called, Entered}
use Rattle.run_model.specs.Moment.{Setting}
use Rattle.spi_machine.specs.Bounds.{may, may_wait, spi_setting}
use Rattle.spi_machine.specs.Wiring.{unit_of_sequence}
use Rattle.spi_machine.specs.declared.call.Call as serial_calls
use Rattle.spi_machine.specs.declared.call.Call.TheVariants.{Sequence}
use Rattle.spi_machine.specs.declared.call.SequenceCall.TheVariants.{SyncTransmit}
use Rattle.spi_machine.specs.declared.table.SpiTable.{SpiTable}
use Rattle.module_machines.specs.wdg.Bounds.{wdg_setting}
use Rattle.audit_base.specs.declared.either.Either.{Either}
use Rattle.audit_base.specs.declared.either.Either.TheVariants.{Left, Right}
use Rattle.audit_machines.specs.Hosting.{ports}
use Rattle.audit_machines.specs.System.{Tables}
use Rattle.audit_subject.specs.Hosting.{every}
use Rattle.audit_subject.specs.Product.{by_origin, joined}
use Rattle.audit_whole.specs.Whole.{AnyCall, HostCall, host_setting}
use Rattle.audit_whole.specs.laws.Lines.{either_true}

chosen_may : {P : Type 0} (b : Bool) (f g : Move → Bool) (made : Move) → (f made ≡ true → P) → (g made ≡ true → P) → cond b f g made ≡ true → P
chosen_may true f g made first second e = first e
chosen_may false f g made first second e = second e

joined_waits : {S T C D : Type 0} (g : Setting S C) (h : Setting T D) (u : ℕ) → ((o : Origin C) → g.may o (Read (SerialWait u)) ≡ true → u < 2) → ((o : Origin D) → h.may o (Read (SerialWait u)) ≡ true → u < 2) → (o : Origin (Either C D)) → (joined g h).may o (Read (SerialWait u)) ≡ true → u < 2
joined_waits g h u first second (Called (Left c)) e = first (Called c) e
joined_waits g h u first second (Called (Right d)) e = second (Called d) e
joined_waits g h u first second (Entered l) e = chosen_may (g.used l) (g.may (Entered l)) (h.may (Entered l)) (Read (SerialWait u)) (first (Entered l)) (second (Entered l)) e

sends : (d : SpiTable) (u : ℕ) (o : Origin serial_calls.Call) → may_wait d (Read (SerialWait u)) o ≡ true → u < 2
sends d u (Called (Sequence q SyncTransmit)) e = lt_is u 2 (and_second (unit_of_sequence d q == u) (nat_lt u 2) e)
sends d u _ e = off_on e

waits_there : (t : Tables SpiTable) (o : Origin HostCall) (u : ℕ) → (host_setting t).may o (Read (SerialWait u)) ≡ true → u < 2
waits_there t o u =
    joined_waits (joined (joined (mcu_setting t.0.0.0) (wdg_setting t.0.0.1)) (joined (port_setting t.0.1.0) (gpt_setting t.0.1.1))) (joined (joined (pwm_setting t.1.0.0) (icu_setting t.1.0.1)) (joined (adc_setting t.1.1.0) (spi_setting t.1.1.1))) u
    (joined_waits (joined (mcu_setting t.0.0.0) (wdg_setting t.0.0.1)) (joined (port_setting t.0.1.0) (gpt_setting t.0.1.1)) u
    (joined_waits (mcu_setting t.0.0.0) (wdg_setting t.0.0.1) u (λ x e. off_on e) (λ x e. off_on e))
    (joined_waits (port_setting t.0.1.0) (gpt_setting t.0.1.1) u (λ x e. off_on e) (λ x e. off_on e)))
    (joined_waits (joined (pwm_setting t.1.0.0) (icu_setting t.1.0.1)) (joined (adc_setting t.1.1.0) (spi_setting t.1.1.1)) u
    (joined_waits (pwm_setting t.1.0.0) (icu_setting t.1.0.1) u (λ x e. off_on e) (λ x e. off_on e))
    (joined_waits (adc_setting t.1.1.0) (spi_setting t.1.1.1) u (λ x e. off_on e)
    (λ x e. either_true (may_wait t.1.1.1 (Read (SerialWait u)) x) (may t.1.1.1 (Read (SerialWait u))) (sends t.1.1.1 u x) (λ f. off_on f) e)))
    o

pub any_waits : (t : Tables SpiTable) (o : Origin AnyCall) (u : ℕ) → by_origin every (host_setting t).may (λ p made. ports.may made) o (Read (SerialWait u)) ≡ true → u < 2
any_waits t (Called (Left c)) u e = waits_there t (Called c) u e
any_waits t (Called (Right c)) u e = off_on e
any_waits t (Entered l) u e = waits_there t (Entered l) u e
