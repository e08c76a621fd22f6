-- Where the call of a frame acted, the error that it has to report, and the reset that it asks for.
use Rattle.std.specs.Prelude.{Bool, true, false, ◌&&◌, ◌||◌, not, if◌then◌else◌, Option, Some, None, is_some}
use Rattle.mcal_base.specs.declared.error_name.ErrorName.{ErrorName}
use Rattle.mcal_base.specs.declared.moves.DevError.{DevError}
use Rattle.mcal_base.specs.declared.moves.Event.{Event}
use Rattle.mcal_base.specs.declared.moves.Event.TheVariants.{Act, Serve, Abort, Start}
use Rattle.mcal_base.specs.declared.moves.Move.{Move}
use Rattle.run_model.specs.Frame as frame
use Rattle.run_model.specs.Frame.{report_as, is_reset_service}
use Rattle.audit_frames.specs.AccessRules.{reads_low}
use Rattle.audit_frames.specs.declared.act.Acted.{Acted}
use Rattle.audit_frames.specs.declared.terms.Caller.{Caller}
use Rattle.audit_frames.specs.declared.terms.Task.{Task}
use Rattle.audit_frames.specs.declared.terms.Task.TheVariants.{Call, Line}

-- ---- the act

-- where the call acted, after a step
abbrev pub acted_after : Task → (inside : Bool) → Move → Option Acted → Option Event → Option ErrorName → Option Acted
acted_after (Call c) inside made acted (Some Act) error = Some (record { low = reads_low c.counter made && inside; failed = is_some error })
acted_after (Call c) inside made acted (Some (Serve l)) error = acted
acted_after (Call c) inside made acted (Some (Abort u)) error = acted
acted_after (Call c) inside made acted (Some (Start u)) error = acted
acted_after (Call c) inside made acted None error = acted
acted_after (Line l) inside made acted e error = acted

-- one that acted without an error and has read both halves of its counter acted at a read of the low half, with the mask closed
abbrev pub halves_right : Option Acted → (low_read high_read : Bool) → Bool
halves_right None low_read high_read = true
halves_right (Some a) low_read high_read = a.failed || not (low_read && high_read) || a.low

-- one that found an error wrote nothing
abbrev pub errors_right : Option Acted → (wrote : Bool) → Bool
errors_right None wrote = true
errors_right (Some a) wrote = not (a.failed && wrote)

-- one that acted without an error has made each write that it owes
abbrev pub writes_right : Option Acted → (are_made : Bool) → Bool
writes_right None are_made = true
writes_right (Some a) are_made = a.failed || are_made

-- ---- its report

abbrev pub report_of : Caller → Option ErrorName → (reported : Option Bool) → Option DevError
report_of c None reported = None
report_of c (Some e) reported = report_as c.service e reported

-- the error that has to be reported, with that of a step's act
abbrev pub report_by : Task → Option DevError → Option Event → Option ErrorName → (reported : Option Bool) → Option DevError
report_by (Call c) report (Some Act) error reported = report_of c error reported
report_by (Call c) report (Some (Serve l)) error reported = report
report_by (Call c) report (Some (Abort u)) error reported = report
report_by (Call c) report (Some (Start u)) error reported = report
report_by (Call c) report None error reported = report
report_by (Line l) report e error reported = report

-- ---- its reset

abbrev pub resets_chip : Move → Bool
resets_chip made = frame.resets_chip made

-- a call acts that asks for a reset, and finds no error
abbrev pub asks_reset : Task → Option Event → Option ErrorName → Bool
asks_reset (Call c) (Some Act) error = is_reset_service c.service && not (is_some error)
asks_reset (Call c) (Some (Serve l)) error = false
asks_reset (Call c) (Some (Abort u)) error = false
asks_reset (Call c) (Some (Start u)) error = false
asks_reset (Call c) None error = false
asks_reset (Line l) e error = false

-- the chip is reset exactly there, and the frame doesn't end with it
abbrev pub reset_right : Task → Move → Option Event → Option ErrorName → (ends : Bool) → Bool
reset_right task made e error ends = if resets_chip made then asks_reset task e error && not ends else not (asks_reset task e error)
