-- What a call that sends a sequence finds of what its unit carries out.
use Rattle.std.proofs.Common.{◌≡◌, ℕ, Bool, true, false, ◌&&◌, ◌||◌, not, cond, Option, Some, None, refl, sym, ap, ◌∙◌}
use Rattle.std.specs.Prelude.{option_map}
use Rattle.mcal_base.specs.facts.Options.{some_is}
use Rattle.mcal_base.specs.facts.Truths.{and_second}
use Rattle.run_model.specs.World.{World}
use Rattle.spi_machine.specs.Machine.{error_of_sending, may_end, not_sent, sending_ends, sends_on, sent, sent_first, sent_from, sent_on}
use Rattle.spi_machine.specs.Pending.{has_further, is_of}
use Rattle.spi_machine.specs.State.{Carrying, SpiState}
use Rattle.spi_machine.specs.Transfers.{goes_on}
use Rattle.spi_machine.specs.Wiring.{unit_of_sequence}
use Rattle.spi_machine.specs.declared.table.SpiTable.{SpiTable}
use Rattle.audit_serial.specs.Carried.{may_end_at, may_go_on_at}
use Rattle.audit_serial.specs.Flows.{SendsOn, ends_by}

-- what is found is what the unit carries out
pub carried_here : (off : Bool) (o : Option Carrying) (f : Carrying → Bool) (y : Bool) → option_map f (cond off None o) ≡ Some y → cond off None o ≡ o
carried_here false o f y e = refl
carried_here true o f y e = absurd (cc)

pub none_found : (o : Option Carrying) (f : Carrying → Bool) → option_map f o ≡ None → o ≡ None
none_found None f e = refl
none_found (Some x) f e = absurd (cc)

-- behind the last word of a job that didn't fail a further job is there
further : (a b f : Bool) → (a || (not b && f)) ≡ true → a ≡ false → f ≡ true
further true b f e isnt = absurd (cc)
further false true f e isnt = absurd (cc)
further false false f e isnt = e

pub further_job : (d : SpiTable) (x : Carrying) → sends_on d x ≡ true → goes_on x.run ≡ false → has_further d x.entry ≡ true
further_job d x e isnt = further (goes_on x.run) x.run.transfer.failed (has_further d x.entry) e isnt

pub sends_from : (d : SpiTable) (now q : ℕ) (o : Option Carrying) → option_map (λ x. may_go_on_at d now x q) o ≡ Some true → SendsOn d o
sends_from d now q None e = tt
sends_from d now q (Some x) e = and_second _ (sends_on d x) (some_is (may_go_on_at d now x q) true e)

module _ (d : SpiTable) (w : World) (s : SpiState) (u received q now : ℕ) (time : w.now ≡ now) where
  -- a further word begins
  pub goes_further : (o : Option Carrying) → option_map (λ x. may_go_on_at d now x q) o ≡ Some true
      → option_map (λ (x : Carrying). sent_on d w s u received x (goes_on x.run)) o ≡ sent_from d w s u received q o
  goes_further None e = absurd (cc)
  goes_further (Some x) e =
      sym (ap (λ b. cond b (Some (sent_on d w s u received x (goes_on x.run))) None) (ap (λ t. may_go_on_at d t x q) time ∙ some_is (may_go_on_at d now x q) true e))

  pub goes_nowhere : (o : Option Carrying) → option_map (λ x. may_go_on_at d now x q) o ≡ Some false → None ≡ sent_from d w s u received q o
  goes_nowhere None e = absurd (cc)
  goes_nowhere (Some x) e =
      sym (ap (λ b. cond b (Some (sent_on d w s u received x (goes_on x.run))) None) (ap (λ t. may_go_on_at d t x q) time ∙ some_is (may_go_on_at d now x q) false e))

  pub goes_first : (o : Option Carrying) → option_map (λ x. may_go_on_at d now x q) o ≡ None → sent_first d w s u received q (error_of_sending d s q) ≡ sent_from d w s u received q o
  goes_first None e = refl
  goes_first (Some x) e = absurd (cc)

-- ---- its end

ended_by : (here : Bool) (may y : Bool) → cond here (Some may) None ≡ Some y → (here ≡ true) × (may ≡ y)
ended_by true may y e = (refl, some_is may y e)
ended_by false may y e = absurd (cc)

not_by : (here : Bool) (may : Bool) → cond here (Some may) None ≡ None → here ≡ false
not_by true may e = absurd (cc)
not_by false may e = refl

module _ (d : SpiTable) (w : World) (s : SpiState) (q now : ℕ) (time : w.now ≡ now) where
  ends_if : (x : Carrying) (here may : Bool) → is_of q x.entry ≡ here → may_end_at d now x ≡ may
      → sending_ends d w s q (Some x) ≡ cond here (cond may (Some (sent d s (unit_of_sequence d q) x x.run.transfer.failed)) None) (not_sent s q (error_of_sending d s q))
  ends_if x here may e f =
      ap (λ b. cond b (cond (may_end d w x) (Some (sent d s (unit_of_sequence d q) x x.run.transfer.failed)) None) (not_sent s q (error_of_sending d s q))) e
      ∙ ap (λ b. cond here (cond b (Some (sent d s (unit_of_sequence d q) x x.run.transfer.failed)) None) (not_sent s q (error_of_sending d s q))) (ap (λ t. may_end_at d t x) time ∙ f)

  pub ends_now : (o : Option Carrying) → ends_by d now q o ≡ Some true
      → option_map (λ (x : Carrying). sent d s (unit_of_sequence d q) x x.run.transfer.failed) o ≡ sending_ends d w s q o
  ends_now None e = absurd (cc)
  ends_now (Some x) e = let h = ended_by (is_of q x.entry) (may_end_at d now x) true e in sym (ends_if x true true h.0 h.1)

  pub ends_later : (o : Option Carrying) → ends_by d now q o ≡ Some false → None ≡ sending_ends d w s q o
  ends_later None e = absurd (cc)
  ends_later (Some x) e = let h = ended_by (is_of q x.entry) (may_end_at d now x) false e in sym (ends_if x true false h.0 h.1)

  pub ends_unsent : (o : Option Carrying) → ends_by d now q o ≡ None → not_sent s q (error_of_sending d s q) ≡ sending_ends d w s q o
  ends_unsent None e = refl
  ends_unsent (Some x) e = sym (ends_if x false (may_end_at d now x) (not_by (is_of q x.entry) (may_end_at d now x) e) refl)

-- what is found is what the unit carries out
pub carried_there : (d : SpiTable) (now q : ℕ) (off : Bool) (o : Option Carrying) (y : Bool) → ends_by d now q (cond off None o) ≡ Some y → cond off None o ≡ o
carried_there d now q false o y e = refl
carried_there d now q true o y e = absurd (cc)
