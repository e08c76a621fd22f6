-- What the load of the state word decides for a call, and where it goes on.
-- From services.Decisions, services.BodySteps.
-- Used by adc_driver: services.BeginSteps, adc_driver: bookkeeping.Joined, adc_driver: bookkeeping.Lawful and 7 more.
use Rattle.std.specs.Prelude.{ℕ, ◌==◌, not, nat_lt, Bool, false, if◌then◌else◌, Option, Some, None, is_some, List}
use Rattle.adc_groups.specs.StepTerms
use StepTerms.{AdcBody, AdcTable, Answer, answer_refused, Asked, Call, Circumstances, DeInit, Done, ErrorName}
use StepTerms.{facts_by, First, first_error, Group, group_of, GroupCall, has_notification, Init, InitBody}
use StepTerms.{is_triggered, Looked, Or, owed_error, Place, reporting, ResultBuffer, Second, service_of, Setup, Sweep}
use StepTerms.{unit_of, Window}
use Rattle.service_outline.specs.declared.sweep.SweepStage.TheVariants.{Opens}
use Rattle.service_outline.specs.declared.body.Looked.TheVariants as lookeds
use Rattle.adc_machine.specs.declared.table.Group as configured
use Rattle.adc_groups.specs.laws.services.BodySteps.{body_ends}
use Rattle.adc_groups.specs.laws.services.Decisions.{looking, notify, survey}

-- a place in any body of the driver
abbrev pub AnyBody : Type 0
AnyBody = Or (Sweep Setup InitBody) AdcBody

-- what the load tells: whether the module is uninitialised
abbrev pub known : (state : ℕ) → Circumstances
known x = record { uninitialised = x == 0; unbuffered = false; idle = false; busy = false }

-- a call about a group is wrong in what is configured of it or asked with
abbrev pub is_wrong : GroupCall → Option configured.Group → Bool
is_wrong (GroupCall.SetupResultBuffer b) k = not (is_some b)
is_wrong GroupCall.StartGroupConversion k = is_triggered k
is_wrong GroupCall.StopGroupConversion k = is_triggered k
is_wrong GroupCall.EnableHardwareTrigger k = not (is_triggered k)
is_wrong GroupCall.DisableHardwareTrigger k = not (is_triggered k)
is_wrong (GroupCall.Notification on) k = not (has_notification k)
is_wrong call k = false

abbrev pub facts_of : Asked → ℕ → List Bool
facts_of a x = facts_by a.table a.call (known x)

abbrev pub refusal_of : Asked → ErrorName → Done
refusal_of a e = record { answer = answer_refused a.call; owed = owed_error (reporting a.table) (service_of a.call) e }

-- where a call about a group begins
abbrev pub set_up_at : ℕ → Option ResultBuffer → Place
set_up_at g None = looking (Window.Status g)
set_up_at g (Some b) = looking (Window.Setup g b)

abbrev pub place_for : AdcTable → ℕ → GroupCall → Place
place_for d g (GroupCall.SetupResultBuffer b) = set_up_at g b
place_for d g GroupCall.StartGroupConversion = looking (Window.Start g)
place_for d g GroupCall.StopGroupConversion = looking (Window.Stop (unit_of (group_of d g)) g)
place_for d g GroupCall.ReadGroup = looking (Window.Read g)
place_for d g GroupCall.EnableHardwareTrigger = looking (Window.Enable g)
place_for d g GroupCall.DisableHardwareTrigger = looking (Window.Stop (unit_of (group_of d g)) g)
place_for d g (GroupCall.Notification on) = notify g on
place_for d g GroupCall.GetGroupStatus = looking (Window.Status g)
place_for d g GroupCall.GetStreamLastPointer = looking (Window.Point g)

-- a number that may be that of a group
abbrev pub small : ℕ → ℕ
small g = if nat_lt g 16 then g else 16

abbrev pub body_at : AdcTable → Place → Looked AnyBody
body_at d k = lookeds.Goes (Second (record { table = d; place = k }))

abbrev pub begun_by : AdcTable → Call → Looked AnyBody
begun_by d Init = lookeds.Goes (First (record { objects = record { table = d }; place = Opens }))
begun_by d DeInit = body_at d (survey d Window.Close 0)
begun_by d (Group g call) = body_at d (place_for d (small g) call)

abbrev pub looked_by : Asked → Option ErrorName → Looked AnyBody
looked_by a None = begun_by a.table a.call
looked_by a (Some e) = lookeds.Refused (refusal_of a e)

abbrev pub adc_looked : Asked → ℕ → Looked AnyBody
adc_looked a x = looked_by a (first_error (service_of a.call) (facts_of a x))

-- the answer of a body that has ended its frame itself
abbrev pub any_ends : AnyBody → Option Answer
any_ends (First k) = None
any_ends (Second k) = body_ends k
