-- The load of the state word: what it decides for each call.
-- Used by Lawful, asked/rt.
use Rattle.std.specs.Prelude.{ℕ, ◌==◌, Bool, if◌then◌else◌, List, Option, Some, None}
use Rattle.mcal_base.specs.declared.answer_name.AnswerName.TheVariants.{ENotOk}
use Rattle.mcal_base.specs.declared.config.wdg.WdgMode.{WdgMode}
use Rattle.mcal_base.specs.declared.error_name.ErrorName.{ErrorName}
use Rattle.run_model.specs.Machine.{named}
use Rattle.service_outline.specs.Done.{owed_error}
use Rattle.service_outline.specs.declared.body.Looked.{Looked}
use Rattle.service_outline.specs.declared.body.Looked.TheVariants.{Refused, Goes}
use Rattle.service_outline.specs.declared.done.Done.{Done}
use Rattle.service_outline.specs.declared.done.Epilogue.TheVariants.{Nothing}
use Rattle.module_machines.specs.wdg.Checks.{service_of, facts_by, error_by, answer_refused, reporting}
use Rattle.module_machines.specs.wdg.Table.{allows}
use Rattle.module_machines.specs.wdg.Numbers.{narrow}
use Rattle.wdg_driver.specs.Words.{mode_in}
use Rattle.wdg_driver.specs.declared.asked.Asked.{Asked}
use Rattle.module_machines.specs.declared.wdg.call.Call.TheVariants.{Init, SetMode, SetTriggerCondition}
use Rattle.module_machines.specs.declared.wdg.call.Call.{Call}
use Rattle.module_machines.specs.declared.wdg.table.WdgTable.{WdgTable}
use Rattle.wdg_driver.specs.declared.service.Says.TheVariants.{Silent}
use Rattle.wdg_driver.specs.declared.service.WdgBody.{WdgBody}
use Rattle.wdg_driver.specs.declared.service.WdgBody.TheVariants.{Look, Start}

abbrev pub facts_of : Asked → ℕ → List Bool
facts_of q state = facts_by q.driver q.call (state == 0)

abbrev pub refusal_of : Asked → ErrorName → Done
refusal_of q e = record { answer = answer_refused q.call; owed = owed_error (reporting q.driver) (service_of q.call) e }

-- a mode that may not be set is no error: it is answered so
abbrev pub not_set : Looked WdgBody
not_set = Refused (record { answer = named ENotOk; owed = Nothing })

abbrev pub sets : WdgMode → (allowed : Bool) → Looked WdgBody
sets m allowed = if allowed then Goes (Look m) else not_set

-- what a call without an error goes on with, by the state word
abbrev pub begun_by : WdgTable → Call → ℕ → Looked WdgBody
begun_by d Init state = Goes (Start d.initial Silent)
begun_by d (SetMode None) state = not_set
begun_by d (SetMode (Some m)) state = sets m (allows d m)
begun_by d (SetTriggerCondition n) state = Goes (Start (record { mode = mode_in state; timeout = narrow n }) Silent)

abbrev pub begins : Asked → ℕ → Looked WdgBody
begins q state = begun_by q.driver q.call state

abbrev pub looked_by : Asked → ℕ → Option ErrorName → Looked WdgBody
looked_by q state None = begins q state
looked_by q state (Some e) = Refused (refusal_of q e)

abbrev pub wdg_looked : Asked → ℕ → Looked WdgBody
wdg_looked q state = looked_by q state (error_by q.driver q.call (state == 0))
