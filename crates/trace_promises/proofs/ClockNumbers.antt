-- The values of RAM words have 32 bits, whatever happens.
use Rattle.std.proofs.Common.{ℕ, zero, suc, List, [], ◌∷◌, Option, Some, None, arith}
use Rattle.std.specs.Prelude.{not, nat_lt, slice_index_or}
use Rattle.mcal_base.specs.declared.config.mcu.McuConfig.{McuConfig}
use Rattle.mcal_base.specs.declared.config.mcu.McuRamSection.{McuRamSection}
use Rattle.mcal_base.specs.declared.error_name.ErrorName.{ErrorName}
use Rattle.run_model.specs.Frame.{state_by}
use Rattle.run_model.specs.Machine.{Happening, Acts, Serves, Starts, Aborts, Moves, Restarts}
use Rattle.run_model.specs.World.{World}
use Rattle.module_machines.specs.mcu.Bounds.{mcu_setting}
use Rattle.module_machines.specs.mcu.Checks.{error_by}
use Rattle.module_machines.specs.mcu.Machine.{McuState, Pll, is_locked, clocked, distributed, fills_with, word_in, ram_at, work, acts_by, happens}
use Rattle.module_machines.specs.mcu.Table.{table_of, multiplier_of, section_in, section_of, is_within}
use Rattle.module_machines.specs.declared.mcu.call.Call.{Call}
use Rattle.module_machines.specs.declared.mcu.call.Call.TheVariants.{Init, InitRamSection, Clock, GetPllStatus, GetResetReason, PerformReset, SetMode}
use Rattle.module_machines.specs.declared.mcu.call.ClockCall.TheVariants.{InitClock, DistributePllClock}
use Rattle.module_machines.specs.declared.mcu.table.McuTable.{McuTable}
use Rattle.module_machines.specs.declared.mcu.table.Section.{Section}
use Rattle.bench_report.specs.Numbers.{IsNumber, Each}
use Rattle.trace_promises.specs.Keeping.{WorldFits, HappeningFits, Keeps}
use Rattle.trace_promises.specs.Numbers.{SectionFits, FillFits, ClockFits}
use Rattle.trace_promises.proofs.Lists.{chosen, at_place}

-- of a section, where there is one
abbrev Small : Option Section → Type 0
Small None = Unit {0}
Small (Some x) = FillFits x

small_in : (xs : List McuRamSection) (n : ℕ) → Each SectionFits xs → Small (section_in xs n)
small_in [] zero h = tt
small_in [] (suc n) h = tt
small_in (x ∷ xs) zero h = h.0
small_in (x ∷ xs) (suc n) h = small_in xs n h.1

pub small_sections : (g : McuConfig) → Each SectionFits g.ram_sections → (n : ℕ) → Small (section_of (table_of g) n)
small_sections g h n =
    let small = λ (k : ℕ). small_in g.ram_sections k h in
    chosen Small (nat_lt n 8) (slice_index_or (table_of g).sections n None) None (at_place Small (table_of g).sections n None (small 0, (small 1, (small 2, (small 3, (small 4, (small 5, (small 6, (small 7, tt)))))))) tt) tt

module _ (d : McuTable) (small : (n : ℕ) → Small (section_of d n)) where
  fill_fits : (o : Option Section) (xs : List Section) → Small o → Each FillFits xs → Each FillFits (fills_with o xs)
  fill_fits None xs k h = h
  fill_fits (Some x) xs k h = (k, h)

  clock_fits : (w : World) (o : Option ℕ) (s : McuState) → ClockFits s → ClockFits (clocked w o s)
  clock_fits w None s h = h
  clock_fits w (Some m) s h = h

  rate_fits : (o : Option Pll) (s : McuState) → ClockFits s → ClockFits (distributed o s)
  rate_fits None s h = h
  rate_fits (Some p) s h = h

  work_fits : (w : World) (s : McuState) (call : Call) → ClockFits s → ClockFits (work d w s call).state
  work_fits w s Init h = h
  work_fits w s (InitRamSection n) h = fill_fits (section_of d n) s.fills (small n) h
  work_fits w s (Clock (InitClock n)) h = clock_fits w (multiplier_of d n) s h
  work_fits w s (Clock DistributePllClock) h = rate_fits s.pll s h
  work_fits w s GetPllStatus h = h
  work_fits w s GetResetReason h = h
  work_fits w s PerformReset h = h
  work_fits w s (SetMode m) h = h

  act_fits : (w : World) (s : McuState) (call : Call) (e : Option ErrorName) → ClockFits s → ClockFits (acts_by d w s call e).state
  act_fits w s call None h = work_fits w s call h
  act_fits w s call (Some e) h = h

  stays : (w : World) (s : McuState) (x : Happening Call) → WorldFits w → HappeningFits x → ClockFits s → ClockFits (state_by s (happens d w s x))
  stays w s (Acts call times) v f h = act_fits w s call (error_by d call (not s.initialised) (not (is_locked w s.pll))) h
  stays w s (Serves line received) v f h = h
  stays w s (Starts u made_by received) v f h = h
  stays w s (Aborts u) v f h = h
  stays w s (Moves order) v f h = h
  stays w s (Restarts reason) v f h = tt

  pub clock_keeps : Keeps (mcu_setting d) ClockFits
  clock_keeps = record { first = tt; stays = stays }

-- what is shown
word_fits : (xs : List Section) (k : ℕ) → Each FillFits xs → IsNumber (word_in xs k)
word_fits [] k h = omega arith
word_fits (x ∷ xs) k h = chosen IsNumber (is_within x k) x.default_value (word_in xs k) h.0 (word_fits xs k h.1)

pub ram_fits : (s : McuState) (k : ℕ) → ClockFits s → IsNumber (ram_at s k)
ram_fits s k h = word_fits s.fills k h
