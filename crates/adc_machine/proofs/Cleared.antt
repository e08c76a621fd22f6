-- What Adc_Init and Adc_DeInit leave.
use Rattle.std.proofs.Common.{◌≡◌, true, false, Option, Some, None, refl}
use Rattle.mcal_base.specs.declared.error_name.ErrorName.{ErrorName}
use Rattle.adc_machine.specs.Checks.{error_by}
use Rattle.adc_machine.specs.Groups.{untouched}
use Rattle.adc_machine.specs.Laws.{IsCleared}
use Rattle.adc_machine.specs.Machine.{acts, acts_by, circumstances}
use Rattle.adc_machine.specs.Turns.{AdcState, group_at}
use Rattle.adc_machine.specs.declared.call.Call.TheVariants.{Init, DeInit}
use Rattle.adc_machine.specs.declared.table.AdcTable.{AdcTable}
use Rattle.adc_machine.proofs.Parts.{of_group}

init_by : (d : AdcTable) (s : AdcState) (o : Option ErrorName) → (acts_by d s Init o).told.error ≡ None → IsCleared false s (acts_by d s Init o).state
init_by d s None e = record { groups = λ g lt. refl; rounds = λ u. refl; marks = λ i. refl; results = refl }
init_by d s (Some x) e = absurd (cc e)

begun_by : (d : AdcTable) (s : AdcState) (o : Option ErrorName) → (acts_by d s Init o).told.error ≡ None → (acts_by d s Init o).state.initialised ≡ true
begun_by d s None e = refl
begun_by d s (Some x) e = absurd (cc e)

deinit_by : (d : AdcTable) (s : AdcState) (o : Option ErrorName) → (acts_by d s DeInit o).told.error ≡ None → IsCleared true s (acts_by d s DeInit o).state
deinit_by d s None e = record { groups = of_group (λ g. record untouched { chosen = (group_at s g).chosen }); rounds = λ u. refl; marks = λ i. refl; results = refl }
deinit_by d s (Some x) e = absurd (cc e)

ended_by : (d : AdcTable) (s : AdcState) (o : Option ErrorName) → (acts_by d s DeInit o).told.error ≡ None → (acts_by d s DeInit o).state.initialised ≡ false
ended_by d s None e = refl
ended_by d s (Some x) e = absurd (cc e)

pub init_clears : (d : AdcTable) (s : AdcState) → (acts d s Init).told.error ≡ None → IsCleared false s (acts d s Init).state
init_clears d s e = init_by d s (error_by d Init (circumstances d s Init)) e

pub init_begins : (d : AdcTable) (s : AdcState) → (acts d s Init).told.error ≡ None → (acts d s Init).state.initialised ≡ true
init_begins d s e = begun_by d s (error_by d Init (circumstances d s Init)) e

pub deinit_clears : (d : AdcTable) (s : AdcState) → (acts d s DeInit).told.error ≡ None → IsCleared true s (acts d s DeInit).state
deinit_clears d s e = deinit_by d s (error_by d DeInit (circumstances d s DeInit)) e

pub deinit_ends : (d : AdcTable) (s : AdcState) → (acts d s DeInit).told.error ≡ None → (acts d s DeInit).state.initialised ≡ false
deinit_ends d s e = ended_by d s (error_by d DeInit (circumstances d s DeInit)) e
