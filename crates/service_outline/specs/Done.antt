-- What a step of a body is, and what is owed for an error.
use Rattle.std.specs.Prelude.{Option, Some, None}
use Rattle.mcal_base.specs.declared.answer.Answer.{Answer}
use Rattle.mcal_base.specs.declared.moves.Event.{Event}
use Rattle.mcal_base.specs.declared.moves.Event.TheVariants.{Act}
use Rattle.mcal_base.specs.declared.error_name.ErrorName.{ErrorName}
use Rattle.mcal_base.specs.declared.moves.DevError.{DevError}
use Rattle.mcal_base.specs.declared.service.Service.{Service}
use Rattle.mcal_base.specs.det_errors.Reports.{Reporting, reported}
use Rattle.run_model.specs.Frame.{report_as}
use Rattle.service_outline.specs.declared.done.Epilogue.{Epilogue}
use Rattle.service_outline.specs.declared.done.Epilogue.TheVariants.{Nothing, Error}
use Rattle.service_outline.specs.declared.done.BodyTaken.{BodyTaken}

-- it goes on
abbrev pub goes : BodyTaken
goes = record { event = None; done = None }

-- it acts and goes on
abbrev pub acts : BodyTaken
acts = record { event = Some Act; done = None }

-- it is done
abbrev pub ends : Option Event → Answer → Epilogue → BodyTaken
ends e a w = record { event = e; done = Some (record { answer = a; owed = w }) }

-- a report, where there is one
abbrev pub owed_report : Option DevError → Epilogue
owed_report None = Nothing
owed_report (Some e) = Error e

-- what is owed for an error of a service, by the one rule of reports
abbrev pub owed_error : Reporting → Service → ErrorName → Epilogue
owed_error r s e = owed_report (report_as s e (reported r e))
