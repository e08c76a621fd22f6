-- What configured pins are in every run.
use Rattle.std.proofs.Common.{◌≡◌, ℕ, ◌==◌, Bool, true, false, not, cond, List, [], ◌∷◌, refl, sym, ◌∙◌, subst, Option, Some, None}
use Rattle.std.specs.Prelude.{if◌then◌else◌}
use Rattle.mcal_base.specs.facts.Numbers.{eq_is}
use Rattle.mcal_base.specs.declared.error_name.ErrorName.{ErrorName}
use Rattle.mcal_base.specs.declared.service.Service.TheVariants as services
use Rattle.mcal_base.specs.det_errors.Rows.{first_error}
use Rattle.run_model.specs.World.{World}
use Rattle.run_model.specs.Machine.{Happening, Acts, Serves, Starts, Aborts, Moves, Restarts}
use Rattle.module_machines.specs.port.Checks.{error_by, pin_facts, service_of}
use Rattle.module_machines.specs.port.Machine.{PinState, PortState, pin_at, first_state, initial, refreshed, changed, acts_by}
use Rattle.module_machines.specs.port.Runs.{Occurrence, state_after, after_all}
use Rattle.module_machines.specs.port.Table.{pin_of, is_among, FitsPort}
use Rattle.module_machines.specs.declared.port.call.Call.{Call}
use Rattle.module_machines.specs.declared.port.call.Call.TheVariants.{Init, RefreshPortDirection}
use Rattle.module_machines.specs.declared.port.call.Call.TheVariants as calls
use Rattle.module_machines.specs.declared.port.call.PinCall.{PinCall}
use Rattle.module_machines.specs.declared.port.call.PinCall.TheVariants.{SetPinDirection, SetPinMode}
use Rattle.module_machines.specs.declared.port.table.Pin.{Pin}
use Rattle.module_machines.specs.declared.port.table.PortTable.{PortTable}

-- a pin is as it may be
pub record PinStands (k : Pin) (x : PinState) : Type 0 where
  pub direction : k.direction_changeable ≡ false → x.direction ≡ k.direction
  pub mode : k.mode_changeable ≡ false → x.mode ≡ k.initial_mode
  pub among : is_among k.modes x.mode ≡ true

-- and all configured ones are, in an initialised module
abbrev Stands : PortTable → PortState → Type 0
Stands d s = s.initialised ≡ true → (p : ℕ) (k : Pin) → pin_of d p ≡ Some k → PinStands k (pin_at s p)

refreshed-stands : (k : Pin) (x : PinState) → PinStands k x → PinStands k (refreshed (Some k) x)
refreshed-stands k x stands = by k.direction_changeable where
  by : (b : Bool) → PinStands k (if b then x else record x { direction = k.direction })
  by true = stands
  by false = record { direction = λ e. refl; mode = stands.mode; among = stands.among }

-- what a call about a pin has, where it has no error
may_turn : (u c : Bool) → first_error services.PortSetPinDirection (u ∷ false ∷ not c ∷ false ∷ false ∷ false ∷ []) ≡ None → c ≡ true
may_turn true c e = absurd (cc e)
may_turn false true e = refl
may_turn false false e = absurd (cc e)

may_take : (u a c : Bool) → first_error services.PortSetPinMode (u ∷ false ∷ not a ∷ not c ∷ false ∷ false ∷ []) ≡ None → (a ≡ true) × (c ≡ true)
may_take true a c e = absurd (cc e)
may_take false true true e = (refl, refl)
may_take false true false e = absurd (cc e)
may_take false false c e = absurd (cc e)

changed-stands : (k : Pin) (x : PinState) (q : ℕ) (u : Bool) (call : PinCall) → first_error (service_of (calls.Pin q call)) (pin_facts u (Some k) call) ≡ None → PinStands k x → PinStands k (changed call x)
changed-stands k x q u (SetPinDirection y) none stands =
    let may : k.direction_changeable ≡ true = may_turn u k.direction_changeable none in
    record { direction = λ e. absurd (cc (sym may ∙ e)); mode = stands.mode; among = stands.among }
changed-stands k x q u (SetPinMode None) none stands = stands
changed-stands k x q u (SetPinMode (Some m)) none stands =
    let may = may_take u (is_among k.modes m) k.mode_changeable none in
    record { direction = stands.direction; mode = λ e. absurd (cc (sym may.1 ∙ e)); among = may.0 }

pin_call-stands : (d : PortTable) (s : PortState) (q : ℕ) (call : PinCall) → error_by d (calls.Pin q call) (not s.initialised) ≡ None → Stands d s → Stands d (acts_by d s (calls.Pin q call) None).state
pin_call-stands d s q call none stands on p k there = by (p == q) refl where
  by : (b : Bool) → (p == q) ≡ b → PinStands k (cond b (changed call (pin_at s q)) (pin_at s p))
  by false e = stands on p k there
  by true e =
      let at : p ≡ q = eq_is p q e in
      let there' : pin_of d q ≡ Some k = subst (λ i. pin_of d i ≡ Some k) at there in
      let none' : first_error (service_of (calls.Pin q call)) (pin_facts (not s.initialised) (Some k) call) ≡ None = subst (λ o. first_error (service_of (calls.Pin q call)) (pin_facts (not s.initialised) o call) ≡ None) there' none in
      changed-stands k (pin_at s q) q (not s.initialised) call none' (stands on q k there')

acts_by-stands : (d : PortTable) (s : PortState) (call : Call) (e : Option ErrorName) → FitsPort d → error_by d call (not s.initialised) ≡ e → Stands d s → Stands d (acts_by d s call e).state
acts_by-stands d s call (Some e) fits is stands = stands
acts_by-stands d s Init None fits is stands = λ on p k there.
    subst (λ o. PinStands k (initial o (pin_at s p))) (sym there) (record { direction = λ e. refl; mode = λ e. refl; among = fits.initial p k there })
acts_by-stands d s RefreshPortDirection None fits is stands = λ on p k there.
    subst (λ o. PinStands k (refreshed o (pin_at s p))) (sym there) (refreshed-stands k (pin_at s p) (stands on p k there))
acts_by-stands d s (calls.Pin q call) None fits is stands = pin_call-stands d s q call is stands

after-stands : (d : PortTable) (w : World) (s : PortState) (h : Happening Call) → FitsPort d → Stands d s → Stands d (state_after d w s h)
after-stands d w s (Acts call times) fits stands = acts_by-stands d s call (error_by d call (not s.initialised)) fits refl stands
after-stands d w s (Serves line received) fits stands = stands
after-stands d w s (Starts u made_by received) fits stands = stands
after-stands d w s (Aborts u) fits stands = stands
after-stands d w s (Moves order) fits stands = stands
after-stands d w s (Restarts reason) fits stands = λ on. absurd (cc on)

all-stand : (d : PortTable) (s : PortState) (xs : List Occurrence) → FitsPort d → Stands d s → Stands d (after_all d s xs)
all-stand d s [] fits stands = stands
all-stand d s (x ∷ xs) fits stands = all-stand d (state_after d x.world s x.what) xs fits (after-stands d x.world s x.what fits stands)

-- from power on
pub stands : (d : PortTable) (xs : List Occurrence) (p : ℕ) (k : Pin) → FitsPort d → (after_all d first_state xs).initialised ≡ true → pin_of d p ≡ Some k → PinStands k (pin_at (after_all d first_state xs) p)
stands d xs p k fits on there = all-stand d first_state xs fits (λ on. absurd (cc on)) on p k there
