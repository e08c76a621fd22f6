-- The checker's names of calls and the drivers' are one to one, and both make the same call of a request.
use mathlib.Core.Equiv.{Iso}
use Rattle.std.proofs.Common.{◌≡◌, Bool, true, false, cond, Option, Some, None, refl, ap}
use Rattle.mcal_base.specs.declared.directive.Request.{Request}
use Rattle.adc_driver.specs.Requests as converter_calls
use Rattle.adc_machine.specs.Requests as converters
use Rattle.adc_machine.specs.declared.call.Call as adc
use Rattle.adc_machine.specs.declared.call.Call.TheVariants as adc_variants
use Rattle.module_machines.specs.dio.Requests as port_requests
use Rattle.module_machines.specs.gpt.Requests as timer_requests
use Rattle.module_machines.specs.icu.Requests as capture_requests
use Rattle.module_machines.specs.mcu.Requests as clock_requests
use Rattle.module_machines.specs.port.Requests as pin_requests
use Rattle.module_machines.specs.pwm.Requests as pulse_requests
use Rattle.spi_driver.specs.Requests as serial_calls
use Rattle.spi_machine.specs.Requests as serial
use Rattle.spi_machine.specs.declared.call.Call as spi
use Rattle.spi_machine.specs.declared.call.Call.TheVariants as spi_variants
use Rattle.module_machines.specs.wdg.Requests as watchdog_requests
use Rattle.step_runner.specs.declared.either.Either.{Either}
use Rattle.step_runner.specs.declared.either.Either.TheVariants.{Left, Right}
use Rattle.mcal_drivers.specs.Setting as system
use Rattle.audit_base.specs.declared.either.Either as ours
use Rattle.audit_base.specs.declared.either.Either.TheVariants as ones
use Rattle.audit_machines.specs.Requests.{AnyCall, call_or}
use Rattle.audit_machines.specs.Requests as requests
use Rattle.report_modules.specs.machines.Calls.{any_call, kept, named, state_call}

-- ---- one to one

abbrev own_names : {A : Type 0} → Iso A A
own_names = record { fun = kept; inv = kept; rinv = λ a. refl; linv = λ a. refl }

module _ {A B C D : Type 0} (f : Iso A C) (k : Iso B D) where
  abbrev back : Either C D → ours.Either A B
  back (Left x) = ones.Left (f.inv x)
  back (Right y) = ones.Right (k.inv y)

  pub there_again : (x : Either C D) → named f.fun k.fun (back x) ≡ x
  there_again (Left x) = ap Left (f.rinv x)
  there_again (Right y) = ap Right (k.rinv y)

  pub back_again : (x : ours.Either A B) → back (named f.fun k.fun x) ≡ x
  back_again (ones.Left x) = ap ones.Left (f.linv x)
  back_again (ones.Right y) = ap ones.Right (k.linv y)

  abbrev both_names : Iso (ours.Either A B) (Either C D)
  both_names = record { fun = named f.fun k.fun; inv = back; rinv = there_again; linv = back_again }

abbrev pair_names : {A B : Type 0} → Iso (ours.Either A B) (Either A B)
pair_names = both_names own_names own_names

abbrev pub one_to_one : Iso AnyCall system.SystemCall
one_to_one = both_names (both_names (both_names pair_names pair_names) (both_names pair_names pair_names)) own_names

-- ---- the call of a request

moved : {X Y : Type 0} (f : X → Y) (b : Bool) (x y : X) (u v : Y) → f x ≡ u → f y ≡ v → f (cond b x y) ≡ cond b u v
moved f true x y u v one two = one
moved f false x y u v one two = two

converter_same : (o : Option adc.Call) → call_or adc_variants.Init o ≡ converter_calls.call_or o
converter_same None = refl
converter_same (Some call) = refl

serial_same : (o : Option spi.Call) → call_or spi_variants.Init o ≡ serial_calls.call_or o
serial_same None = refl
serial_same (Some call) = refl

module _ (r : Request) where
  host_calls : state_call (requests.state_call r) ≡ system.host_call r
  host_calls =
      moved state_call (clock_requests.has_service r.service) _ _ _ _ refl
      (moved state_call (watchdog_requests.has_service r.service) _ _ _ _ refl
      (moved state_call (pin_requests.has_service r.service) _ _ _ _ refl
      (moved state_call (timer_requests.has_service r.service) _ _ _ _ refl
      (moved state_call (pulse_requests.has_service r.service) _ _ _ _ refl
      (moved state_call (capture_requests.has_service r.service) _ _ _ _ refl
      (moved state_call (converters.has_service r.service) _ _ _ _
      (ap (λ c. Right (Right (Left c))) (converter_same (converters.call_of r)))
      (ap (λ c. Right (Right (Right c))) (serial_same (serial.call_of r)))))))))

  pub calls_same : any_call (requests.call_of r) ≡ system.call_of r
  unfolding system.call_of
  calls_same = moved any_call (port_requests.has_service r.service) _ _ _ _ refl (ap Left host_calls)
