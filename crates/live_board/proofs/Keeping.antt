-- Deeds that are added keep what is so of a driver on the chip at all times.
use Rattle.std.proofs.Common.{◌≡◌, ℕ, zero, suc, ◌+◌, ◌-◌, ◌<◌, ◌≤◌, true, false, List, [], ◌∷◌, ◌++◌, length, Option, None, Some, Result, Ok, Err, refl, sym, ◌∙◌, ap, subst, arith, append_assoc, append-nil}
use Rattle.chip_model.specs.Chip.{Chip, happened, reset_chip, stall_of}
use Rattle.chip_model.specs.Devices.{CallsRight}
use Rattle.serial_devices.specs.Lines.{Line}
use Rattle.chip_model.proofs.DeviceLaws.{devices-happened, devices-move, devices_after}
use Rattle.std.specs.Prelude.{◌==◌, cond}
use Rattle.mcal_base.specs.facts.Numbers.{isnt_zero}
use Rattle.irq_control.specs.declared.held.Held.{Held}
use Rattle.irq_control.specs.declared.held.Held.TheVariants.{Unknown}
use Rattle.mcal_base.specs.declared.directive.Order.{Order}
use Rattle.mcal_base.specs.declared.directive.Order.TheVariants.{Detach, Fill, Tick}
use Rattle.mcal_base.specs.declared.directive.Reason.{Reason}
use Rattle.mcal_base.specs.declared.directive.Reason.TheVariants.{Watchdog}
use Rattle.mcal_base.specs.declared.moves.Move.{Move}
use Rattle.mcal_base.specs.declared.routine.Taken.{Taken}
use Rattle.run_model.specs.Frame.{Open}
use Rattle.run_model.specs.Legal.{hardware_held}
use Rattle.run_model.specs.Moment.{Setting, Moment, Transition, Begins, Enters, Steps, Resets, Happens, after, after_step, start_moment, after_all}
use Rattle.run_model.specs.World.{World}
use Rattle.run_model.specs.declared.class.Tag.{Tag}
use Rattle.run_model.specs.declared.item.Stepped.{Stepped}
use Rattle.run_model.proofs.Following.{after_all-append}
use Rattle.step_runner.specs.Driver.{Driver}
use Rattle.step_runner.specs.Kept.{Kept, IsLooked, IsStill, put_by, enter_by, TakesStep, upcoming_of}
use Rattle.step_runner.specs.Stands.{Stands, done, paired}
use Rattle.step_runner.specs.declared.stack.Under.{Under}
use Rattle.script_runner.specs.Standing.{is_hardware, may_be_held, words_by}
use Rattle.script_runner.proofs.Events.{none_held}
use Rattle.live_board.specs.Lives.{GoesOn, IsCounted, IsLive, LiveRun, rest_of, wait_by, wait_of}
use Rattle.live_board.proofs.Counts.{counted_event, counted_fill, counted_move, counted_reset, counted_ticked}

-- a step counts one at most
step_few : {State Call : Type 0} (g : Setting State Call) (m : Moment State Call) (os : List (Open Call)) (s : Stepped) → (after_step g m os s).steps ≤ m.steps + 1
step_few g m [] s = omega arith
step_few g m (o ∷ os) s = omega arith

put_steps : {A Frame : Type 0} (r : Result A Held) (u : Under Frame) (k : Kept Frame) → (put_by r u k).steps ≡ k.steps
put_steps (Ok a) u k = refl
put_steps (Err cause) u k = refl

enter_steps : {A Frame : Type 0} (r : Result A Held) (f : Option Frame) (tag : Tag) (k : Kept Frame) → (enter_by r f tag k).steps ≡ k.steps
enter_steps r None tag k = refl
enter_steps (Ok a) (Some f) tag k = refl
enter_steps (Err cause) (Some f) tag k = refl

ok_is : {T E : Type 0} (x y : T) → ◌≡◌ {A = Result T E} (Ok x) (Ok y) → x ≡ y
ok_is x y e = cc

one_there : (n : ℕ) → 0 < n → cond (n == 0) (Some Unknown) None ≡ None
one_there n some = ap (λ b. cond b (Some Unknown) None) (isnt_zero n some)

-- the ticks that are left behind a reset
pub rest_some : {Call : Type 0} (n : ℕ) → 0 < n → rest_of {Call = Call} n ≡ Happens (Tick n) ∷ []
rest_some zero some = absurd (omega (arith, some))
rest_some (suc n) some = refl

pub rest_none : {Call : Type 0} (n : ℕ) → n ≡ 0 → rest_of {Call = Call} n ≡ []
rest_none {Call} n e = subst (λ x. rest_of {Call = Call} x ≡ []) (sym e) refl

-- what goes by in a wait
pub wait_through : {Call : Type 0} (n left : ℕ) → 0 < n → wait_by {Call = Call} n (Some left) ≡ Happens (Tick left) ∷ Resets Watchdog ∷ []
wait_through zero left some = absurd (omega (arith, some))
wait_through (suc n) left some = refl

pub wait_alone : {Call : Type 0} (n : ℕ) → 0 < n → wait_by {Call = Call} n None ≡ Happens (Tick n) ∷ []
wait_alone zero some = absurd (omega (arith, some))
wait_alone (suc n) some = refl

pub wait_none : {Frame : Type 0} (move_of : Frame → Move) (us : List (Under Frame)) (chip : Chip) → upcoming_of move_of us ≡ None → (wait_of move_of us chip ≡ 0) × IsStill move_of us chip
wait_none move_of [] chip e = (refl, tt)
wait_none move_of (u ∷ us) chip e = cc

pub wait_some : {Frame : Type 0} (move_of : Frame → Move) (us : List (Under Frame)) (chip : Chip) (made : Move) → upcoming_of move_of us ≡ Some made → wait_of move_of us chip ≡ stall_of chip made
wait_some move_of [] chip made e = cc
wait_some move_of (u ∷ us) chip made e = let is : move_of u.frame ≡ made = cc in ap (stall_of chip) is

pub still_at_once : {Frame : Type 0} (move_of : Frame → Move) (us : List (Under Frame)) (chip : Chip) → wait_of move_of us chip ≡ 0 → IsStill move_of us chip
still_at_once move_of [] chip e = tt
still_at_once move_of (u ∷ us) chip e = e

-- what becomes of the devices, by the chip of a view
pub calls_seen : {M Frame : Type 0} (x y : LiveRun M Frame) (s : Stepped) (old new : List Line) → x ≡ y → CallsRight x.chip s.made s.received old new → CallsRight y.chip s.made s.received old new
calls_seen x y s old new e calls = subst (λ v. CallsRight v.chip s.made s.received old new) e calls

-- the move that was looked up is the next one
pub none_upcoming : {Frame : Type 0} (move_of : Frame → Move) (us : List (Under Frame)) → length us ≡ 0 → upcoming_of move_of us ≡ None
none_upcoming move_of [] e = refl
none_upcoming move_of (u ∷ us) e = cc

pub looked_is : {Frame : Type 0} (move_of : Frame → Move) (us : List (Under Frame)) (made : Move) → 0 < length us → IsLooked move_of us made → upcoming_of move_of us ≡ Some made
looked_is move_of [] made some h = absurd (omega (arith, some))
looked_is move_of (u ∷ us) made some h = ap (λ x. Some x) (sym h)

pub looked_none : {Frame : Type 0} (move_of : Frame → Move) (us : List (Under Frame)) (made : Move) → length us ≡ 0 → IsLooked move_of us made
looked_none move_of [] made e = tt
looked_none move_of (u ∷ us) made e = cc

pub still_some : {Frame : Type 0} (move_of : Frame → Move) (us : List (Under Frame)) (chip : Chip) (made : Move) → upcoming_of move_of us ≡ Some made → stall_of chip made ≡ 0 → IsStill move_of us chip
still_some move_of us chip made e none = still_at_once move_of us chip (wait_some move_of us chip made e ∙ none)

module _ {State Call Frame : Type 0} (d : Driver State Call Frame) where
  abbrev At : (first : Chip) (h : List (Transition Call)) → Moment State Call
  At first h = after_all d.setting (start_moment d.setting first) h

  more : (first : Chip) (h k : List (Transition Call)) → (At first (h ++ k)).steps ≡ (after_all d.setting (At first h) k).steps
  more first h k = ap (λ m. m.steps) (after_all-append d.setting (start_moment d.setting first) h k)

  -- a beginning counts none
  begun_few : {A : Type 0} (m : Moment State Call) (r : Result A Held) (deed : Transition Call) → (after d.setting m deed).steps ≡ m.steps → (after_all d.setting m (done r deed)).steps ≡ m.steps
  begun_few m (Ok a) deed e = e
  begun_few m (Err cause) deed e = refl

  -- a tick of the oscillator is at most 16 peripheral ticks
  pub slow_chip : (chip : Chip) (kept : Kept Frame) (left room devices : ℕ) → ((chip : Chip) (w : World) (ps : List (Frame × Open Call)) (s : State) → d.relates chip w ps s → d.setting.machine.rate s ≤ 16) → IsLive d chip kept left room devices → chip.clock.rate ≤ 16
  slow_chip chip kept left room devices slow l =
      let m = At l.first l.deeds in
      let e : chip.clock.rate ≡ d.setting.machine.rate m.state = ap (λ x. x.clock.rate) l.stands.matches.chip_is ∙ l.stands.matches.rate in
      let k = slow m.chip m.world (paired kept.frames m.opens) m.state l.stands.matches.relates in
      omega (arith, e, k)

  -- where a device is there nothing holds its drop
  pub drop_free : (first chip : Chip) (us : List (Under Frame)) (h : List (Transition Call)) → Stands d first chip us h → 0 < chip.devices → hardware_held d.setting (At first h) Detach ≡ None
  drop_free first chip us h st some = let m = At first h in let same : m.world.devices ≡ chip.devices = sym (ap (λ x. x.devices) st.matches.chip_is ∙ st.matches.hung) in one_there m.world.devices (omega (arith, same, some))

  -- and where there is none its drop is held
  pub drop_held : (first chip : Chip) (us : List (Under Frame)) (h : List (Transition Call)) → Stands d first chip us h → chip.devices ≡ 0 → hardware_held d.setting (At first h) Detach ≡ Some Unknown
  drop_held first chip us h st none = let m = At first h in let same : m.world.devices ≡ chip.devices = sym (ap (λ x. x.devices) st.matches.chip_is ∙ st.matches.hung) in ap (λ n. cond (n == 0) (Some Unknown) None) (same ∙ none)

  -- nothing holds an event of the others
  pub event_free : (first : Chip) (h : List (Transition Call)) (order : Order) → may_be_held order ≡ false → hardware_held d.setting (At first h) order ≡ None
  event_free first h order free = none_held d.setting (At first h) order free

  -- deeds, and then others
  pub goes_then : {M : Type 0} (x y z : LiveRun M Frame) (a b : List (Transition Call)) → GoesOn d x y a → GoesOn d y z b → GoesOn d x z (a ++ b)
  goes_then x y z a b one two first h st = subst (λ hs. Stands d first z.chip z.kept.frames hs) (append_assoc h a b) (two first (h ++ a) (one first h st))

  -- no deeds
  pub goes_nowhere : {M : Type 0} (x : LiveRun M Frame) → GoesOn d x x []
  goes_nowhere x first h st = subst (λ hs. Stands d first x.chip x.kept.frames hs) (sym (append-nil h)) st

  module _ (chip : Chip) (k : Kept Frame) (left room devices : ℕ) (l : IsLive d chip k left room devices) where
    -- deeds that count no more steps than the stack does
    live_on : (chip1 : Chip) (k1 : Kept Frame) (left1 room1 devices1 : ℕ) (deeds : List (Transition Call)) → Stands d l.first chip1 k1.frames (l.deeds ++ deeds) → (after_all d.setting (At l.first l.deeds) deeds).steps + k.steps ≤ (At l.first l.deeds).steps + k1.steps → IsCounted chip1 left1 room1 → chip1.devices ≡ devices1 → IsLive d chip1 k1 left1 room1 devices1
    live_on chip1 k1 left1 room1 devices1 deeds stands few counted hung = record {
      fits = l.fits;
      first = l.first;
      deeds = l.deeds ++ deeds;
      stands = stands;
      steps = omega (arith, more l.first l.deeds deeds, few, l.steps);
      counted = counted;
      hung = hung;
    }

    -- a call, or a handler, that begins or is held
    pub live_begun : {A : Type 0} (k1 : Kept Frame) (r : Result A Held) (u : Under Frame) (c : Call) (level : ℕ) → k1 ≡ put_by r u k → Stands d l.first chip k1.frames (l.deeds ++ done r (Begins c level)) → IsLive d chip k1 left room devices
    live_begun k1 r u c level e stands = live_on chip k1 left room devices (done r (Begins c level)) stands (omega (arith, begun_few (At l.first l.deeds) r (Begins c level) refl, ap (λ x. x.steps) e ∙ put_steps r u k)) l.counted l.hung

    pub live_entered : {A : Type 0} (k1 : Kept Frame) (r : Result A Held) (f : Option Frame) (tag : Tag) (line : ℕ) → k1 ≡ enter_by r f tag k → Stands d l.first chip k1.frames (l.deeds ++ done r (Enters line)) → IsLive d chip k1 left room devices
    live_entered k1 r f tag line e stands = live_on chip k1 left room devices (done r (Enters line)) stands (omega (arith, begun_few (At l.first l.deeds) r (Enters line) refl, ap (λ x. x.steps) e ∙ enter_steps r f tag k)) l.counted l.hung

    -- deeds that are no steps
    pub live_later : (chip1 : Chip) (k1 : Kept Frame) (left1 room1 devices1 : ℕ) (deeds : List (Transition Call)) → k1.steps ≡ k.steps → (after_all d.setting (At l.first l.deeds) deeds).steps ≡ (At l.first l.deeds).steps → Stands d l.first chip1 k1.frames (l.deeds ++ deeds) → IsCounted chip1 left1 room1 → chip1.devices ≡ devices1 → IsLive d chip1 k1 left1 room1 devices1
    live_later chip1 k1 left1 room1 devices1 deeds same none stands counted hung = live_on chip1 k1 left1 room1 devices1 deeds stands (omega (arith, same, none)) counted hung

    -- a hardware event that takes no time
    pub live_event : (chip1 : Chip) (room1 devices1 : ℕ) (order : Order) → is_hardware order ≡ true → chip1 ≡ happened chip order → room1 + words_by order ≤ room → devices_after order devices ≡ devices1 → Stands d l.first chip1 k.frames (l.deeds ++ Happens order ∷ []) → IsLive d chip1 k left room1 devices1
    live_event chip1 room1 devices1 order hard is few same stands = live_later chip1 k left room1 devices1 (Happens order ∷ []) refl refl stands (counted_event left room room1 chip chip1 order hard is few l.counted)
        (ap (λ x. x.devices) is ∙ devices-happened chip order ∙ ap (devices_after order) l.hung ∙ same)

    pub live_filled : (chip1 : Chip) (order : Order) (channel : ℕ) (ws : List ℕ) → order ≡ Fill channel ws → chip1 ≡ happened chip order → Stands d l.first chip1 k.frames (l.deeds ++ Happens order ∷ []) → IsLive d chip1 k left room devices
    live_filled chip1 order channel ws fill is stands =
        let filled : chip1 ≡ happened chip (Fill channel ws) = is ∙ ap (happened chip) fill in
        live_later chip1 k left room devices (Happens order ∷ []) refl refl stands (counted_fill left room chip chip1 channel ws filled l.counted) (ap (λ x. x.devices) filled ∙ l.hung)

    -- ticks, and those with which the watchdog's time ends
    pub live_ticked : (chip1 : Chip) (n : ℕ) → n ≤ left → chip.clock.rate ≤ 16 → chip1 ≡ happened chip (Tick n) → Stands d l.first chip1 k.frames (l.deeds ++ Happens (Tick n) ∷ []) → IsLive d chip1 k (left - n) room devices
    live_ticked chip1 n few slow is stands = live_later chip1 k (left - n) room devices (Happens (Tick n) ∷ []) refl refl stands (counted_ticked n left room chip chip1 few slow is l.counted) (ap (λ x. x.devices) is ∙ l.hung)

    pub live_down : (chip1 : Chip) (k1 : Kept Frame) (n : ℕ) → n ≤ left → chip.clock.rate ≤ 16 → chip1 ≡ reset_chip (happened chip (Tick n)) Watchdog → k1 ≡ record k { frames = [] } → Stands d l.first chip1 k1.frames (l.deeds ++ Happens (Tick n) ∷ Resets Watchdog ∷ []) → IsLive d chip1 k1 (left - n) room devices
    live_down chip1 k1 n few slow is k1_is stands = live_later chip1 k1 (left - n) room devices (Happens (Tick n) ∷ Resets Watchdog ∷ []) (ap (λ x. x.steps) k1_is) refl stands
        (counted_reset (left - n) room (happened chip (Tick n)) chip1 Watchdog is (counted_ticked n left room chip (happened chip (Tick n)) few slow refl l.counted)) (ap (λ x. x.devices) is ∙ l.hung)

    -- a reset
    pub live_reset : (chip1 : Chip) (k1 : Kept Frame) (reason : Reason) → chip1 ≡ reset_chip chip reason → k1 ≡ record k { frames = [] } → Stands d l.first chip1 k1.frames (l.deeds ++ Resets reason ∷ []) → IsLive d chip1 k1 left room devices
    live_reset chip1 k1 reason is k1_is stands = live_later chip1 k1 left room devices (Resets reason ∷ []) (ap (λ x. x.steps) k1_is) refl stands (counted_reset left room chip chip1 reason is l.counted) (ap (λ x. x.devices) is ∙ l.hung)

    -- a step
    pub live_stepped : (move_of : Frame → Move) (left_of : Frame → ℕ → Frame) (gave : Frame → ℕ → Taken) (chip1 : Chip) (k1 : Kept Frame) (s : Stepped) → TakesStep move_of left_of gave k.frames k.steps chip k1 chip1 (Ok s) → Stands d l.first chip1 k1.frames (l.deeds ++ Steps s ∷ []) → IsLive d chip1 k1 left room devices
    live_stepped move_of left_of gave chip1 k1 s = by_frames k.frames refl
      where
        by_frames : (us : List (Under Frame)) → k.frames ≡ us → TakesStep move_of left_of gave us k.steps chip k1 chip1 (Ok s) → Stands d l.first chip1 k1.frames (l.deeds ++ Steps s ∷ []) → IsLive d chip1 k1 left room devices
        by_frames [] e t stands = let none = t.result_is in absurd (cc none)
        by_frames (u ∷ us) e t stands =
            let m = At l.first l.deeds in
            let few : (after_all d.setting m (Steps s ∷ [])).steps ≤ m.steps + 1 = step_few d.setting m m.opens s in
            live_on chip1 k1 left room devices (Steps s ∷ []) stands (omega (arith, few, t.steps_are)) (counted_move left room chip chip1 (move_of u.frame) t.received t.chip_is l.counted)
            (ap (λ x. x.devices) t.chip_is ∙ devices-move chip (move_of u.frame) t.received ∙ l.hung)
