-- What a happening is to the machine of all modules, and what the program makes of it.
use Rattle.std.specs.Prelude.{◌≡◌, ℕ, ◌+◌, ◌<◌, ◌≤◌, ◌^◌, true, List, [], ◌∷◌, Option, Some, None, option_map, is_some, slice_index_or}
use Rattle.std.specs.List.{AllByRecursion}
use Rattle.mcal_base.specs.Bits.{bit_of}
use Rattle.mcal_base.specs.declared.answer.Answer.{Answer}
use Rattle.mcal_base.specs.declared.directive.Directive.{Directive}
use Rattle.mcal_base.specs.declared.directive.Order.{Order}
use Rattle.mcal_base.specs.declared.directive.Order.TheVariants as orders
use Rattle.mcal_base.specs.declared.directive.Request.{Request}
use Rattle.mcal_base.specs.declared.error_name.ErrorName.{ErrorName}
use Rattle.mcal_base.specs.declared.moves.DevError.{DevError}
use Rattle.module_machines.specs.pwm.Table.{channel_of}
use Rattle.module_machines.specs.declared.pwm.table.PwmTable.{PwmTable}
use Rattle.run_model.specs.Frame.{report_of}
use Rattle.run_model.specs.Machine.{Acts, Serves, Starts, Aborts, Moves, Restarts, Machine, Outcome}
use Rattle.run_model.specs.Machine as machines
use Rattle.run_model.specs.World.{World, world_after}
use Rattle.audit_base.specs.Outside.{CanMove, IsThere}
use Rattle.audit_base.specs.Tells.{listed}
use Rattle.audit_base.specs.declared.done.Done.{Done}
use Rattle.audit_base.specs.declared.outside.Outside.{Outside}
use Rattle.audit_base.specs.declared.told.Notices.{Notices}
use Rattle.audit_machines.specs.Requests.{AnyCall, call_of, has_service}
use Rattle.audit_machines.specs.declared.happening.Happening.{Happening}
use Rattle.audit_machines.specs.declared.happening.Happening.TheVariants.{Hw, Act, Serve, Start, Abort, Reset}
use Rattle.audit_machines.specs.declared.happening.Took.{Took}
use Rattle.audit_machines.specs.declared.happening.Took.TheVariants.{Refused, Allowed}
use Rattle.audit_machines.specs.declared.machines.Machines.{Machines}

-- ---- times of pulse channels

-- one for a configured channel
abbrev pub counted : PwmTable → ℕ → ℕ
counted d c = bit_of (is_some (channel_of d c))

-- the place of each channel's time among those of the configured channels, in the order of their numbers
abbrev pub places_of : PwmTable → List ℕ
places_of d =
    let one = counted d 0 in
    let two = one + counted d 1 in
    let three = two + counted d 2 in
    let four = three + counted d 3 in
    let five = four + counted d 4 in
    let six = five + counted d 5 in
    let seven = six + counted d 6 in
    0 ∷ one ∷ two ∷ three ∷ four ∷ five ∷ six ∷ seven ∷ []

-- the time of a channel
abbrev pub times_by : (places times : List ℕ) → (channel : ℕ) → ℕ
times_by places times c = slice_index_or times (slice_index_or places c 0) 0

-- ---- what happens

-- the request of an order that calls
abbrev pub request_of : Order → Option Request
request_of (orders.Call level r) = Some r
request_of (orders.Do level r) = Some r
request_of _ = None

-- the call that a directive makes, where it makes one
abbrev pub called : Directive → Option AnyCall
called d = option_map call_of (request_of d.order)

-- the call that a start is for
abbrev pub called_by : Option Directive → Option AnyCall
called_by None = None
called_by (Some d) = called d

-- an act for no call is none
abbrev pub act_of : Option AnyCall → (committed : ℕ → ℕ) → Option (machines.Happening AnyCall)
act_of None committed = None
act_of (Some call) committed = Some (Acts call committed)

-- what a happening is to the machine, by the places of the channels' times
abbrev pub deed_of : (places : List ℕ) → Happening → Option (machines.Happening AnyCall)
deed_of places (Hw d) = Some (Moves d.order)
deed_of places (Act d times) = act_of (called d) (times_by places times)
deed_of places (Serve line received) = Some (Serves line received)
deed_of places (Start unit received by) = Some (Starts unit (called_by by) received)
deed_of places (Abort unit received) = Some (Aborts unit)
deed_of places (Reset reason) = Some (Restarts reason)

-- ---- what may be told

-- the service of a request is one of a module
abbrev pub IsAsked : Option Request → Type 0
IsAsked None = Unit {0}
IsAsked (Some r) = has_service r.service ≡ true

abbrev pub IsAskedBy : Option Directive → Type 0
IsAskedBy None = Unit {0}
IsAskedBy (Some d) = IsAsked (request_of d.order)

-- none of the times is after now
abbrev pub AreBefore : (now : ℕ) → List ℕ → Type 0
AreBefore now times = AllByRecursion (λ t. t ≤ now) times

-- Its numbers and its times are in range, and what calls names a service; a tick is so many peripheral ticks.
abbrev pub CanHappen : Outside → (rate : ℕ) → Happening → Type 0
CanHappen o rate (Hw d) = IsThere d.order × CanMove o d.order rate
CanHappen o rate (Act d times) = IsAsked (request_of d.order) × AreBefore o.time times
CanHappen o rate (Start unit received by) = IsAskedBy by
CanHappen o rate _ = Unit {0}

-- ---- what comes of it

-- the world after a happening, where a tick of the oscillator is so many peripheral ticks
abbrev pub world_by : World → (rate : ℕ) → Happening → World
world_by w rate (Hw d) = world_after w rate d.order
world_by w rate _ = w

module _ {State : Type 0} (m : Machine State AnyCall) where
  -- the error that is reported: one that the act of a call found
  abbrev pub reported_by : Option AnyCall → Option ErrorName → Option DevError
  reported_by None error = None
  reported_by (Some call) error = report_of m call error

  abbrev pub report : Happening → Option ErrorName → Option DevError
  report (Act d times) error = reported_by (called d) error
  report (Hw d) error = None
  report (Serve line received) error = None
  report (Start unit received by) error = None
  report (Abort unit received) error = None
  report (Reset reason) error = None

-- the machine's answer, this report and the machine's notices, and what is kept stands for the state that comes of it
pub record IsTaken {State : Type 0} (stands : State → Type 0) (answer : Answer) (error : Option DevError) (notices : Notices) (reports : Option DevError) (out : Outcome State) : Type 0 where
  pub answer_is : answer ≡ out.told.answer
  pub error_is : error ≡ reports
  pub notices_are : listed notices ≡ out.told.notices
  pub kept : stands out.state

-- It is taken where the machine allows it; where it is refused, what is kept stands for the state as it was.
abbrev pub Takes : {State : Type 0} → (stands : State → Type 0) → (before : State) → Took → (reports : Option ErrorName → Option DevError) → Option (Outcome State) → Type 0
Takes stands s Refused reports None = stands s
Takes stands s Refused reports (Some out) = ⊥
Takes stands s (Allowed a e ns) reports None = ⊥
Takes stands s (Allowed a e ns) reports (Some out) = IsTaken stands a e ns (reports out.told.error) out

-- what is taken is what was done, with this report
abbrev pub Tells : Took → Option Done → (reports : Option ErrorName → Option DevError) → Type 0
Tells Refused None reports = Unit {0}
Tells Refused (Some d) reports = ⊥
Tells (Allowed a e ns) None reports = ⊥
Tells (Allowed a e ns) (Some d) reports = (a ≡ d.told.answer) × (e ≡ reports d.told.error) × (listed ns ≡ d.told.notices)

-- nothing is reported
abbrev pub unreported : Option ErrorName → Option DevError
unreported error = None

-- One more happening was told, the configuration is the same, and more can be told.
pub record GoesOn {P T : Type 0} (fits : P → Outside → Type 0) (table : P → T) (before after : Machines P) : Type 0 where
  pub fit : fits after.modules after.outside
  pub same : table after.modules ≡ table before.modules
  pub places : after.places ≡ before.places
  pub told : after.outside.told ≡ before.outside.told + 1
  pub short : after.outside.osc < 2 ^ 63
