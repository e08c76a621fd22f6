-- What stays in a run: the reason of the last reset, RAM words, and the limits of the rate.
use Rattle.std.proofs.Common.{◌≡◌, ◌≢◌, ℕ, ◌<◌, ◌≤◌, true, false, List, [], ◌∷◌, refl, ◌∙◌, ap, subst, arith, Option, Some, None}
use Rattle.std.specs.List.{list_all}
use Rattle.std.proofs.lemmas.Bool.{and_parts}
use Rattle.mcal_base.specs.declared.directive.Reason.{Reason}
use Rattle.mcal_base.specs.declared.error_name.ErrorName.{ErrorName}
use Rattle.run_model.specs.World.{World}
use Rattle.run_model.specs.Machine.{Happening, Acts, Serves, Starts, Aborts, Moves, Restarts, named}
use Rattle.module_machines.specs.mcu.Machine.{Pll, McuState, first_state, acts_by, clocked, distributed, reason_name, ram_at, filled}
use Rattle.module_machines.specs.mcu.Runs.{Moment, state_after, answer_of, after, after_all, is_no_reset, leaves_ram, leaves_clock}
use Rattle.module_machines.specs.mcu.Table.{multiplier_of, section_of, is_within, FitsMcu}
use Rattle.module_machines.specs.declared.mcu.call.Call.{Call}
use Rattle.module_machines.specs.declared.mcu.call.Call.TheVariants.{Init, InitRamSection, Clock, GetPllStatus, GetResetReason, PerformReset, SetMode}
use Rattle.module_machines.specs.declared.mcu.call.ClockCall.TheVariants.{InitClock, DistributePllClock}
use Rattle.module_machines.specs.declared.mcu.table.McuTable.{McuTable}
use Rattle.module_machines.specs.declared.mcu.table.Section.{Section}

-- ---- the reason

distributed-reason : (p : Option Pll) (s : McuState) → (distributed p s).reason ≡ s.reason
distributed-reason None s = refl
distributed-reason (Some p) s = refl

clocked-reason : (w : World) (o : Option ℕ) (s : McuState) → (clocked w o s).reason ≡ s.reason
clocked-reason w None s = refl
clocked-reason w (Some k) s = refl

acts_by-reason : (d : McuTable) (w : World) (s : McuState) (call : Call) (e : Option ErrorName) → (acts_by d w s call e).state.reason ≡ s.reason
acts_by-reason d w s call (Some e) = refl
acts_by-reason d w s Init None = refl
acts_by-reason d w s (InitRamSection n) None = refl
acts_by-reason d w s (Clock (InitClock n)) None = clocked-reason w (multiplier_of d n) s
acts_by-reason d w s (Clock DistributePllClock) None = distributed-reason s.pll s
acts_by-reason d w s GetPllStatus None = refl
acts_by-reason d w s GetResetReason None = refl
acts_by-reason d w s PerformReset None = refl
acts_by-reason d w s (SetMode n) None = refl

after-reason : (d : McuTable) (m : Moment) (h : Happening Call) → is_no_reset h ≡ true → (after d m h).state.reason ≡ m.state.reason
after-reason d m (Acts call times) left = acts_by-reason d m.world m.state call _
after-reason d m (Serves line received) left = refl
after-reason d m (Starts u made_by received) left = refl
after-reason d m (Aborts u) left = refl
after-reason d m (Moves order) left = refl
after-reason d m (Restarts reason) left = absurd (cc left)

after_all-reason : (d : McuTable) (m : Moment) (hs : List (Happening Call)) → list_all is_no_reset hs ≡ true → (after_all d m hs).state.reason ≡ m.state.reason
after_all-reason d m [] left = refl
after_all-reason d m (h ∷ hs) left =
    let parts = and_parts (is_no_reset h) (list_all is_no_reset hs) left in
    after_all-reason d (after d m h) hs parts.1 ∙ after-reason d m h parts.0

told : (d : McuTable) (m : Moment) → m.state.initialised ≡ true → answer_of d m GetResetReason ≡ Some (named (reason_name m.state.reason))
told d m on = rw on refl

pub reason-answered : (d : McuTable) (m : Moment) (reason : Reason) (hs : List (Happening Call)) → list_all is_no_reset hs ≡ true
    → (after_all d (after d m (Restarts reason)) hs).state.initialised ≡ true
    → answer_of d (after_all d (after d m (Restarts reason)) hs) GetResetReason ≡ Some (named (reason_name reason))
reason-answered d m reason hs left on =
    told d (after_all d (after d m (Restarts reason)) hs) on ∙ ap (λ r. Some (named (reason_name r))) (after_all-reason d (after d m (Restarts reason)) hs left)

-- ---- the limits of the rate

record Limited (s : McuState) : Type 0 where
  pub rate : (0 < s.rate) × (s.rate ≤ 16)
  pub pll : (p : Pll) → s.pll ≡ Some p → (0 < p.multiplier) × (p.multiplier ≤ 16)

distributed-limited : (p : Option Pll) (s : McuState) → ((q : Pll) → p ≡ Some q → (0 < q.multiplier) × (q.multiplier ≤ 16)) → Limited s → Limited (distributed p s)
distributed-limited None s within limited = limited
distributed-limited (Some p) s within limited = record { rate = within p refl; pll = limited.pll }

clocked-limited : (w : World) (o : Option ℕ) (s : McuState) → ((k : ℕ) → o ≡ Some k → (0 < k) × (k ≤ 16)) → Limited s → Limited (clocked w o s)
clocked-limited w None s within limited = limited
clocked-limited w (Some k) s within limited = record { rate = (omega arith, omega arith); pll = started } where
  started : (p : Pll) → Some (record { multiplier = k; started = w.osc }) ≡ Some p → (0 < p.multiplier) × (p.multiplier ≤ 16)
  started p e =
      let at : (record { multiplier = k; started = w.osc }) ≡ p = cc in
      subst (λ (q : Pll). (0 < q.multiplier) × (q.multiplier ≤ 16)) at (within k refl)

acts_by-limited : (d : McuTable) (w : World) (s : McuState) (call : Call) (e : Option ErrorName) → FitsMcu d → Limited s → Limited (acts_by d w s call e).state
acts_by-limited d w s call (Some e) fits limited = limited
acts_by-limited d w s Init None fits limited = record { rate = limited.rate; pll = limited.pll }
acts_by-limited d w s (InitRamSection n) None fits limited = record { rate = limited.rate; pll = limited.pll }
acts_by-limited d w s (Clock (InitClock n)) None fits limited = clocked-limited w (multiplier_of d n) s (fits.multiplier n) limited
acts_by-limited d w s (Clock DistributePllClock) None fits limited = distributed-limited s.pll s limited.pll limited
acts_by-limited d w s GetPllStatus None fits limited = limited
acts_by-limited d w s GetResetReason None fits limited = limited
acts_by-limited d w s PerformReset None fits limited = limited
acts_by-limited d w s (SetMode n) None fits limited = record { rate = limited.rate; pll = limited.pll }

reset-limited : (reason : Reason) → Limited (record first_state { reason = reason })
reset-limited reason = record { rate = (omega arith, omega arith); pll = λ p e. absurd (cc e) }

after-limited : (d : McuTable) (m : Moment) (h : Happening Call) → FitsMcu d → Limited m.state → Limited (after d m h).state
after-limited d m (Acts call times) fits limited = acts_by-limited d m.world m.state call _ fits limited
after-limited d m (Serves line received) fits limited = limited
after-limited d m (Starts u made_by received) fits limited = limited
after-limited d m (Aborts u) fits limited = limited
after-limited d m (Moves order) fits limited = limited
after-limited d m (Restarts reason) fits limited = reset-limited reason

after_all-limited : (d : McuTable) (m : Moment) (hs : List (Happening Call)) → FitsMcu d → Limited m.state → Limited (after_all d m hs).state
after_all-limited d m [] fits limited = limited
after_all-limited d m (h ∷ hs) fits limited = after_all-limited d (after d m h) hs fits (after-limited d m h fits limited)

pub rate-limited : (d : McuTable) (w : World) (hs : List (Happening Call)) → FitsMcu d
    → (0 < (after_all d (record { world = w; state = first_state }) hs).state.rate) × ((after_all d (record { world = w; state = first_state }) hs).state.rate ≤ 16)
rate-limited d w hs fits = (after_all-limited d (record { world = w; state = first_state }) hs fits (reset-limited first_state.reason)).rate

-- ---- RAM words

distributed-ram : (p : Option Pll) (s : McuState) (k : ℕ) → ram_at (distributed p s) k ≡ ram_at s k
distributed-ram None s k = refl
distributed-ram (Some p) s k = refl

clocked-ram : (w : World) (o : Option ℕ) (s : McuState) (k : ℕ) → ram_at (clocked w o s) k ≡ ram_at s k
clocked-ram w None s k = refl
clocked-ram w (Some n) s k = refl

acts_by-ram : (d : McuTable) (w : World) (s : McuState) (call : Call) (times : ℕ → ℕ) (e : Option ErrorName) (k : ℕ) → leaves_ram (Acts call times) ≡ true → ram_at (acts_by d w s call e).state k ≡ ram_at s k
acts_by-ram d w s call times (Some e) k left = refl
acts_by-ram d w s Init times None k left = refl
acts_by-ram d w s (InitRamSection n) times None k left = absurd (cc left)
acts_by-ram d w s (Clock (InitClock n)) times None k left = clocked-ram w (multiplier_of d n) s k
acts_by-ram d w s (Clock DistributePllClock) times None k left = distributed-ram s.pll s k
acts_by-ram d w s GetPllStatus times None k left = refl
acts_by-ram d w s GetResetReason times None k left = refl
acts_by-ram d w s PerformReset times None k left = refl
acts_by-ram d w s (SetMode n) times None k left = refl

pub ram-left : (d : McuTable) (w : World) (s : McuState) (h : Happening Call) (k : ℕ) → leaves_ram h ≡ true → ram_at (state_after d w s h) k ≡ ram_at s k
ram-left d w s (Acts call times) k left = acts_by-ram d w s call times _ k left
ram-left d w s (Serves line received) k left = refl
ram-left d w s (Starts u made_by received) k left = refl
ram-left d w s (Aborts u) k left = refl
ram-left d w s (Moves order) k left = refl
ram-left d w s (Restarts reason) k left = absurd (cc left)

-- a word that isn't in the section that is filled
outside : (x : Section) (s : McuState) (k : ℕ) → is_within x k ≡ false → ram_at (filled (Some x) s) k ≡ ram_at s k
outside x s k out = rw out refl

filled-outside : (d : McuTable) (w : World) (s : McuState) (n k : ℕ) (y : Section) (e : Option ErrorName) → section_of d n ≡ Some y → is_within y k ≡ false → ram_at (acts_by d w s (InitRamSection n) e).state k ≡ ram_at s k
filled-outside d w s n k y (Some e) there out = refl
filled-outside d w s n k y None there out = ap (λ x. ram_at (filled x s) k) there ∙ outside y s k out

pub ram-apart : (d : McuTable) (w : World) (s : McuState) (m n k : ℕ) (x y : Section) (times : ℕ → ℕ) → FitsMcu d → section_of d m ≡ Some x → section_of d n ≡ Some y → m ≢ n → is_within x k ≡ true
    → ram_at (state_after d w s (Acts (InitRamSection n) times)) k ≡ ram_at s k
ram-apart d w s m n k x y times fits one other ne inside = filled-outside d w s n k y _ other (fits.apart m n k x y one other ne inside)

-- ---- rate and PLL

acts_by-clock : (d : McuTable) (w : World) (s : McuState) (call : Call) (times : ℕ → ℕ) (e : Option ErrorName) → leaves_clock (Acts call times) ≡ true → ((acts_by d w s call e).state.rate ≡ s.rate) × ((acts_by d w s call e).state.pll ≡ s.pll)
acts_by-clock d w s call times (Some e) left = (refl, refl)
acts_by-clock d w s Init times None left = (refl, refl)
acts_by-clock d w s (InitRamSection n) times None left = (refl, refl)
acts_by-clock d w s (Clock call) times None left = absurd (cc left)
acts_by-clock d w s GetPllStatus times None left = (refl, refl)
acts_by-clock d w s GetResetReason times None left = (refl, refl)
acts_by-clock d w s PerformReset times None left = (refl, refl)
acts_by-clock d w s (SetMode n) times None left = (refl, refl)

pub clock-left : (d : McuTable) (w : World) (s : McuState) (h : Happening Call) → leaves_clock h ≡ true → ((state_after d w s h).rate ≡ s.rate) × ((state_after d w s h).pll ≡ s.pll)
clock-left d w s (Acts call times) left = acts_by-clock d w s call times _ left
clock-left d w s (Serves line received) left = (refl, refl)
clock-left d w s (Starts u made_by received) left = (refl, refl)
clock-left d w s (Aborts u) left = (refl, refl)
clock-left d w s (Moves order) left = (refl, refl)
clock-left d w s (Restarts reason) left = absurd (cc left)
