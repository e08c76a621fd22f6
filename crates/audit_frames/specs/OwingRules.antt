-- The notices that a frame owes, and its moves of mask, notices and report.
use Rattle.std.specs.Prelude.{Bool, true, false, ◌&&◌, not, List, [], ◌∷◌, ◌++◌, Option, Some, None}
use Rattle.mcal_base.specs.declared.moves.DevError.{DevError}
use Rattle.mcal_base.specs.declared.moves.Event.{Event}
use Rattle.mcal_base.specs.declared.moves.Move.{Move}
use Rattle.mcal_base.specs.declared.moves.Move.TheVariants.{Read, Write, Load, Store, Mask, Unmask, Note, Report}
use Rattle.mcal_base.specs.declared.notice.Notice.{Notice}
use Rattle.run_model.specs.Frame as frame
use Rattle.audit_frames.specs.Same.{same_notice, same_report}
use Rattle.audit_frames.specs.declared.owing.Owing.{Owing}

abbrev pub is_serving : Option Event → Bool
is_serving e = frame.is_serving e

-- none is owed
abbrev pub is_empty : List Owing → Bool
is_empty [] = true
is_empty (n ∷ ns) = false

-- one more notice is owed
abbrev pub put : List Owing → Notice → (served : Bool) → List Owing
put owed notice served = owed ++ (record { notice = notice; served = served }) ∷ []

-- these notices are owed too
abbrev pub owe : List Owing → List Notice → (served : Bool) → List Owing
owe owed [] served = owed
owe owed (n ∷ ns) served = owe (put owed n served) ns served

abbrev pub owed_by : List Owing → Option Event → List Notice → List Owing
owed_by owed None notices = owed
owed_by owed (Some e) notices = owe owed notices (is_serving (Some e))

abbrev pub rest_of : List Owing → List Owing
rest_of [] = []
rest_of (n ∷ ns) = ns

abbrev pub given : List Owing → Move → List Owing
given owed (Note n) = rest_of owed
given owed Mask = owed
given owed Unmask = owed
given owed (Report e) = owed
given owed (Read r) = owed
given owed (Write r v) = owed
given owed (Load k) = owed
given owed (Store k v) = owed

-- the notices that are owed after a step: with those of its event, and without the one that it gives
abbrev pub owed_after : List Owing → Move → Option Event → List Notice → List Owing
owed_after owed made e notices = given (owed_by owed e notices) made

-- the notice is the next one that is owed
abbrev pub is_owed : List Owing → Notice → Bool
is_owed [] notice = false
is_owed (n ∷ ns) notice = same_notice n.notice notice

abbrev pub is_reported : Option DevError → DevError → Bool
is_reported None error = false
is_reported (Some r) error = same_report r error

-- the mask is closed and opened in turn, a notice is one that is owed, with the mask open, and a report is the act's
abbrev pub move_right : (inside : Bool) → List Owing → Option DevError → Move → Bool
move_right inside owed report Mask = not inside
move_right inside owed report Unmask = inside
move_right inside owed report (Note n) = not inside && is_owed owed n
move_right inside owed report (Report e) = is_reported report e
move_right inside owed report (Read r) = true
move_right inside owed report (Write r v) = true
move_right inside owed report (Load k) = true
move_right inside owed report (Store k v) = true
