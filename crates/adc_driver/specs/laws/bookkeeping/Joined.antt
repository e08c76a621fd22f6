-- The bodies of the driver are right at every place, whether moves are owed there or not.
-- From bookkeeping.Rank, bookkeeping.Lawful, services.BeginSteps, adc_groups: services.LookSteps and 14 more.
-- Used by src/frames.rt, mcal_drivers: Laws, mcal_drivers: proofs/Hosting, mcal_drivers: proofs/Joining and 3 more.
use Rattle.std.proofs.Common.{◌≤◌}
use Rattle.adc_driver.specs.Terms
use Terms.{Adc, adc_looked, AdcGround, AdcState, AdcTable, any_ends, AnyBody, AreFree, AreWindows, arith, Asked}
use Terms.{body_ends, body_work, Call, calm_by, Chip, ending_gave, FitsAdc, IsLawful, KeepsTo, List, only, Open}
use Terms.{owes_at, plain, refl, Services, services_driver, Short, short_left, short_move, STATE, World}
use Rattle.adc_driver.specs.laws.{bookkeeping.CleanPlaces.{cleans}, bookkeeping.PendingWritesRight.{windows_are}}
use Rattle.adc_driver.specs.laws.{hardware.StableUnderHardware.{known_stays}, bookkeeping.Rank.{V, bodies, body_fuel}}
use Rattle.adc_driver.specs.laws.{bookkeeping.Rank.{body_room}, bookkeeping.MayMove.{own_right}}
use Rattle.adc_driver.specs.laws.{bookkeeping.Decreases.{shortens}, services.AllSteps.{steps_right}}
use Rattle.adc_driver.specs.laws.{bookkeeping.MaskDiscipline.{turns_right}, services.BeginSteps.{enters, line_steps}}
use Rattle.adc_driver.specs.laws.{services.BeginSteps.{looks}, bookkeeping.CallBounds.{bounded}}
use Rattle.adc_driver.specs.laws.{services.InitRight.{init_bodies, init_right}, bookkeeping.KeepsToModule.{keeps_by}}
use Rattle.adc_driver.specs.laws.bookkeeping.Lawful.{AreRight, adc, lawful}
use Rattle.adc_driver.specs.laws.bookkeeping.NoneWaitsPlaces.{starts_right}

module _ (d : AdcTable) (fits : FitsAdc d) where
  pub free_right : AreFree (AdcGround d) (bodies d) (λ k. owes_at k.table k.place) body_ends
  free_right = record {
    own = own_right d fits body_fuel body_room;
    turns = turns_right d fits;
    steps = λ below chip w s k o y p m free come few stand. steps_right d fits body_fuel body_room below chip w s k o y p m free come.1 few stand;
    later = known_stays d body_fuel body_room;
    calm = λ below chip w s k o p free stand silent. calm_by (AdcGround d).setting (λ origin made may. let is = plain d made may in (is.0, is.1)) o (body_work k) (own_right d fits body_fuel body_room below chip w s k o p free stand);
    shortens = shortens d;
    cleans = cleans d;
  }

  pub windows_right : AreWindows (V d) body_ends
  windows_right = windows_are d body_fuel body_room (λ t o. refl)

-- ---- The converter driver: it is lawful.

abbrev pub joined : AdcTable → Services AdcState Call Asked AnyBody
joined d = adc d body_fuel body_room (init_bodies d)

all_right : (d : AdcTable) → FitsAdc d → AreRight d body_fuel body_room (init_bodies d)
all_right d fits = record {
  sweeps = init_right d fits;
  windows = windows_right d fits;
  free = free_right d fits;
  looks = λ below chip w s call beside h. looks d fits body_fuel body_room (bounded d fits) below chip w s h call beside;
  enters = enters d fits body_fuel body_room (bounded d fits);
  line_steps = line_steps d fits body_fuel body_room (bounded d fits);
  starts = starts_right d;
}

-- whatever runs above them, the frames of the driver are right at each step
pub joined_lawful : (d : AdcTable) → FitsAdc d → IsLawful (services_driver (joined d)) (short_move STATE (joined d).bodies.work_of) (short_left adc_looked (joined d).bodies.takes) (ending_gave adc_looked (joined d).bodies.takes any_ends)
joined_lawful d fits = lawful d body_fuel body_room (init_bodies d) fits (all_right d fits)

-- it leaves the peripheral rate alone, and has no watchdog
pub joined_slow : (d : AdcTable) (chip : Chip) (w : World) (ps : List (Short Asked AnyBody × Open Call)) (s : AdcState) → FitsAdc d → (services_driver (joined d)).relates chip w ps s → (services_driver (joined d)).setting.machine.rate s ≤ 16
joined_slow d chip w ps s fits h = omega arith

-- registers, words and lines of other modules are nothing to it
pub keeps_converters : (d : AdcTable) → FitsAdc d → KeepsTo (only Adc) (services_driver (joined d))
keeps_converters d fits = keeps_by d fits body_fuel body_room (init_bodies d)
