-- What the PLL and its lock are after a run.
use Rattle.std.proofs.Common.{◌≡◌, ℕ, ◌+◌, ◌<◌, ◌≤◌, Bool, true, false, not, nat_le, List, [], ◌∷◌, refl, ◌∙◌, ap, arith, Option, Some, None}
use Rattle.std.specs.List.{list_all}
use Rattle.std.proofs.lemmas.Bool.Decides.{nat_tests}
use Rattle.std.proofs.lemmas.Bool.{and_parts}
use Rattle.mcal_base.specs.declared.answer_name.AnswerName.TheVariants.{McuPllLocked, McuPllUnlocked}
use Rattle.mcal_base.specs.declared.error_name.ErrorName.{ErrorName}
use Rattle.run_model.specs.World.{World}
use Rattle.run_model.specs.Machine.{Happening, Acts, Serves, Starts, Aborts, Moves, Restarts, named}
use Rattle.module_machines.specs.mcu.Checks.{error_by}
use Rattle.module_machines.specs.mcu.Machine.{Pll, McuState, acts_by, clocked, distributed, is_locked, status_name}
use Rattle.module_machines.specs.mcu.Runs.{Moment, answer_of, after, after_all, leaves_pll}
use Rattle.module_machines.specs.mcu.Table.{multiplier_of}
use Rattle.module_machines.specs.declared.mcu.call.Call.{Call}
use Rattle.module_machines.specs.declared.mcu.call.Call.TheVariants.{Init, InitRamSection, Clock, GetPllStatus, GetResetReason, PerformReset, SetMode}
use Rattle.module_machines.specs.declared.mcu.call.ClockCall.TheVariants.{InitClock, DistributePllClock}
use Rattle.module_machines.specs.declared.mcu.table.McuTable.{McuTable}

-- the same PLL, in a module that is initialised where it was
record Keeps (s t : McuState) : Type 0 where
  pub pll : t.pll ≡ s.pll
  pub initialised : s.initialised ≡ true → t.initialised ≡ true

unchanged : (s : McuState) → Keeps s s
unchanged s = record { pll = refl; initialised = λ e. e }

distributed-keeps : (p : Option Pll) (s : McuState) → Keeps s (distributed p s)
distributed-keeps None s = unchanged s
distributed-keeps (Some p) s = record { pll = refl; initialised = λ e. e }

acts_by-keeps : (d : McuTable) (w : World) (s : McuState) (call : Call) (times : ℕ → ℕ) (e : Option ErrorName) → leaves_pll (Acts call times) ≡ true → Keeps s (acts_by d w s call e).state
acts_by-keeps d w s call times (Some e) left = unchanged s
acts_by-keeps d w s Init times None left = record { pll = refl; initialised = λ e. refl }
acts_by-keeps d w s (InitRamSection n) times None left = record { pll = refl; initialised = λ e. e }
acts_by-keeps d w s (Clock (InitClock n)) times None left = absurd (cc left)
acts_by-keeps d w s (Clock DistributePllClock) times None left = distributed-keeps s.pll s
acts_by-keeps d w s GetPllStatus times None left = unchanged s
acts_by-keeps d w s GetResetReason times None left = unchanged s
acts_by-keeps d w s PerformReset times None left = unchanged s
acts_by-keeps d w s (SetMode n) times None left = record { pll = refl; initialised = λ e. e }

after-keeps : (d : McuTable) (m : Moment) (h : Happening Call) → leaves_pll h ≡ true → Keeps m.state (after d m h).state
after-keeps d m (Acts call times) left = acts_by-keeps d m.world m.state call times _ left
after-keeps d m (Serves line received) left = unchanged m.state
after-keeps d m (Starts u made_by received) left = unchanged m.state
after-keeps d m (Aborts u) left = unchanged m.state
after-keeps d m (Moves order) left = unchanged m.state
after-keeps d m (Restarts reason) left = absurd (cc left)

after_all-keeps : (d : McuTable) (m : Moment) (hs : List (Happening Call)) → list_all leaves_pll hs ≡ true → Keeps m.state (after_all d m hs).state
after_all-keeps d m [] left = unchanged m.state
after_all-keeps d m (h ∷ hs) left =
    let parts = and_parts (leaves_pll h) (list_all leaves_pll hs) left in
    let one : Keeps m.state (after d m h).state = after-keeps d m h parts.0 in
    let all : Keeps (after d m h).state (after_all d (after d m h) hs).state = after_all-keeps d (after d m h) hs parts.1 in
    record { pll = all.pll ∙ one.pll; initialised = λ e. all.initialised (one.initialised e) }

-- the PLL that a setting starts
start : (d : McuTable) (m : Moment) (n k : ℕ) (times : ℕ → ℕ) → m.state.initialised ≡ true → multiplier_of d n ≡ Some k
    → ((after d m (Acts (Clock (InitClock n)) times)).state.pll ≡ Some (record { multiplier = k; started = m.world.osc })) × ((after d m (Acts (Clock (InitClock n)) times)).state.initialised ≡ true)
start d m n k times on there =
    let call : Call = Clock (InitClock n) in
    let none : error_by d call (not m.state.initialised) (not (is_locked m.world m.state.pll)) ≡ None = rw (on, there) refl in (
      ap (λ e. (acts_by d m.world m.state call e).state.pll) none ∙ ap (λ o. (clocked m.world o m.state).pll) there,
      ap (λ e. (acts_by d m.world m.state call e).state.initialised) none ∙ ap (λ o. (clocked m.world o m.state).initialised) there ∙ on,
    )

-- what stands after a start and a run that leaves the PLL
pub started : (d : McuTable) (m : Moment) (n k : ℕ) (times : ℕ → ℕ) (hs : List (Happening Call)) → m.state.initialised ≡ true → multiplier_of d n ≡ Some k → list_all leaves_pll hs ≡ true
    → ((after_all d (after d m (Acts (Clock (InitClock n)) times)) hs).state.pll ≡ Some (record { multiplier = k; started = m.world.osc })) × ((after_all d (after d m (Acts (Clock (InitClock n)) times)) hs).state.initialised ≡ true)
started d m n k times hs on there left =
    let run : Keeps (after d m (Acts (Clock (InitClock n)) times)).state (after_all d (after d m (Acts (Clock (InitClock n)) times)) hs).state = after_all-keeps d (after d m (Acts (Clock (InitClock n)) times)) hs left in
    let at = start d m n k times on there in
    (run.pll ∙ at.0, run.initialised at.1)

-- what an initialised module answers
status : (d : McuTable) (m : Moment) (b : Bool) → m.state.initialised ≡ true → is_locked m.world m.state.pll ≡ b → answer_of d m GetPllStatus ≡ Some (named (status_name b))
status d m b on locked = rw (on, locked) refl

late : (a b : ℕ) → a ≤ b → nat_le a b ≡ true
late a b le = grind (arith, nat_tests)

early : (a b : ℕ) → b < a → nat_le a b ≡ false
early a b lt = grind (arith, nat_tests)

pub unlocked_before : (d : McuTable) (m : Moment) (n k : ℕ) (times : ℕ → ℕ) (hs : List (Happening Call)) → m.state.initialised ≡ true → multiplier_of d n ≡ Some k → list_all leaves_pll hs ≡ true
    → (after_all d (after d m (Acts (Clock (InitClock n)) times)) hs).world.osc < m.world.osc + 100
    → answer_of d (after_all d (after d m (Acts (Clock (InitClock n)) times)) hs) GetPllStatus ≡ Some (named McuPllUnlocked)
unlocked_before d m n k times hs on there left lt =
    let end : Moment = after_all d (after d m (Acts (Clock (InitClock n)) times)) hs in
    let at = started d m n k times hs on there left in
    status d end false at.1 (ap (is_locked end.world) at.0 ∙ early (m.world.osc + 100) end.world.osc lt)

pub locked_from : (d : McuTable) (m : Moment) (n k : ℕ) (times : ℕ → ℕ) (hs : List (Happening Call)) → m.state.initialised ≡ true → multiplier_of d n ≡ Some k → list_all leaves_pll hs ≡ true
    → m.world.osc + 100 ≤ (after_all d (after d m (Acts (Clock (InitClock n)) times)) hs).world.osc
    → answer_of d (after_all d (after d m (Acts (Clock (InitClock n)) times)) hs) GetPllStatus ≡ Some (named McuPllLocked)
locked_from d m n k times hs on there left le =
    let end : Moment = after_all d (after d m (Acts (Clock (InitClock n)) times)) hs in
    let at = started d m n k times hs on there left in
    status d end true at.1 (ap (is_locked end.world) at.0 ∙ late (m.world.osc + 100) end.world.osc le)

-- the rate that a locked PLL gives
given : (d : McuTable) (m : Moment) (p : Pll) (times : ℕ → ℕ) → m.state.initialised ≡ true → m.state.pll ≡ Some p → is_locked m.world (Some p) ≡ true
    → (after d m (Acts (Clock DistributePllClock) times)).state.rate ≡ p.multiplier
given d m p times on there locked = rw (on, there, locked) refl

pub rate_from : (d : McuTable) (m : Moment) (n k : ℕ) (times : ℕ → ℕ) (hs : List (Happening Call)) → m.state.initialised ≡ true → multiplier_of d n ≡ Some k → list_all leaves_pll hs ≡ true
    → m.world.osc + 100 ≤ (after_all d (after d m (Acts (Clock (InitClock n)) times)) hs).world.osc
    → (after d (after_all d (after d m (Acts (Clock (InitClock n)) times)) hs) (Acts (Clock DistributePllClock) times)).state.rate ≡ k
rate_from d m n k times hs on there left le =
    let end : Moment = after_all d (after d m (Acts (Clock (InitClock n)) times)) hs in
    let at = started d m n k times hs on there left in
    given d end (record { multiplier = k; started = m.world.osc }) times at.1 at.0 (late (m.world.osc + 100) end.world.osc le)
