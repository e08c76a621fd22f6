-- What an engine over the drivers of a configuration says, said of the modules' setting.
use Rattle.std.proofs.Common.{◌≡◌, ℕ, ◌<◌, Bool, true, false, List, [], length, take, Option, Some, None, refl, sym, ◌∙◌, ap, subst}
use Rattle.std.specs.Prelude.{◌||◌, Result, Ok, Err, OnOk, is_some}
use Rattle.std.specs.Bool.{OnTrue, OnFalse}
use Rattle.std.proofs.Math.Path.{fun_ext}
use Rattle.chip_model.specs.Chip.{Chip}
use Rattle.config_facts.specs.Valid.{IsValid}
use Rattle.mcal_base.specs.declared.config.whole.Config.{Config}
use Rattle.mcal_base.specs.declared.directive.Directive.{Directive}
use Rattle.run_model.specs.Devices.{AllCalls}
use Rattle.run_model.specs.Entry.{Entry, Written}
use Rattle.run_model.specs.Follows.{Gives, Follows}
use Rattle.run_model.specs.Legal.{IsLegal}
use Rattle.run_model.specs.Moment.{Setting, Moment, Transition, start_moment, after_all}
use Rattle.run_model.specs.Script.{deeds_of}
use Rattle.run_model.specs.Stops.{FollowsToStop}
use Rattle.run_model.proofs.ToldLaws.{are_told}
use Rattle.script_runner.specs.Runs as engine
use Rattle.script_runner.specs.Scripts.{IsRun, IsStopped, chip_for, script_bound}
use Rattle.serial_devices.specs.Lines.{Line}
use Rattle.service_outline.specs.Services.{entering}
use Rattle.step_runner.specs.Driver.{Driver}
use Rattle.step_runner.specs.Union.{either_handler, has_handler, union_setting, union_of}
use Rattle.service_outline.specs.guests.Guest.{guest_setting}
use Rattle.module_machines.specs.gpt.Table as timer_table
use Rattle.gpt_driver.specs.declared.asked.Asked as timer_asked
use Rattle.module_machines.specs.declared.gpt.table.Channel as timer_channels
use Rattle.gpt_driver.specs.laws.Lawful as timer_laws
use Rattle.module_machines.specs.icu.Table as capture_table
use Rattle.icu_driver.specs.declared.asked.Asked as capture_asked
use Rattle.module_machines.specs.declared.icu.table.Channel as capture_channels
use Rattle.icu_driver.specs.laws.Handler as capture_laws
use Rattle.module_machines.specs.pwm.Table as pulse_table
use Rattle.pwm_driver.specs.declared.asked.Asked as pulse_asked
use Rattle.module_machines.specs.declared.pwm.table.Channel as pulse_channels
use Rattle.pwm_driver.specs.laws.Lawful as pulse_laws
use Rattle.adc_driver.specs.Handlers.{handled_by as handled_converter}
use Rattle.adc_groups.specs.declared.asked.Asked as converter_asked
use Rattle.adc_machine.specs.Bounds.{is_used as uses_line}
use Rattle.adc_machine.specs.Table as converter_table
use Rattle.adc_machine.specs.declared.table.AdcTable.{AdcTable}
use Rattle.mcal_drivers.specs.Drivers.{clock, watchdog, pins, timers, pulses, captures, converters, serial, drivers_of, as_one}
use Rattle.mcal_drivers.specs.Frames.{SystemFrame}
use Rattle.mcal_system.specs.laws.Resting.{IsResting}
use Rattle.mcal_system.specs.Runs.{SystemRun, most_steps, bound_of, run_start, moment_of, AddsItems, CallsDevices}
use Rattle.mcal_drivers.specs.Setting.{SystemState, SystemCall, clock_setting, watchdog_setting, pin_setting, timer_setting, pulse_setting, capture_setting, converter_setting, serial_setting, joined, port_guest, system_setting, call_of}
use Rattle.mcal_drivers.specs.declared.drivers.Drivers.{Drivers}
use Rattle.mcal_drivers.proofs.Resting.{Rests, rests, related, opens-some}

abbrev pub Inner : Type 0
Inner = engine.Run Drivers SystemFrame

-- the run that is seen from outside
abbrev pub seen : Inner → SystemRun
seen e = record { config = e.config; script = e.script; devices = e.devices; obeyed = e.obeyed; too_long = e.too_long; journal = e.journal }

-- ---- the setting

-- a line has a handler exactly where a configured channel uses it
timer_line : (k : Option timer_channels.Channel) → is_some (entering {Asked = timer_asked.Asked} (timer_laws.body_by k)) ≡ is_some k
timer_line None = refl
timer_line (Some k) = refl

timer_lines : (c : Config) → has_handler (timers c) ≡ (timer_setting c).used
timer_lines c = fun_ext (λ l. timer_line (timer_table.channel_of (timer_table.table_of c.gpt) l))

pulse_line : (k : Option pulse_channels.Channel) → is_some (entering {Asked = pulse_asked.Asked} (pulse_laws.body_by k)) ≡ is_some k
pulse_line None = refl
pulse_line (Some k) = refl

pulse_lines : (c : Config) → has_handler (pulses c) ≡ (pulse_setting c).used
pulse_lines c = fun_ext (λ l. pulse_line (pulse_table.channel_of_line (pulse_table.table_of c.pwm) l))

capture_line : (k : Option capture_channels.Channel) → is_some (entering {Asked = capture_asked.Asked} (capture_laws.body_by k)) ≡ is_some k
capture_line None = refl
capture_line (Some k) = refl

capture_lines : (c : Config) → has_handler (captures c) ≡ (capture_setting c).used
capture_lines c = fun_ext (λ l. capture_line (capture_table.channel_of_line (capture_table.table_of c.icu) l))

converter_line : (d : AdcTable) (line : ℕ) (q : Bool) → is_some (entering {Asked = converter_asked.Asked} (handled_converter d line q)) ≡ q
converter_line d line true = refl
converter_line d line false = refl

converter_lines : (c : Config) → has_handler (converters c) ≡ (converter_setting c).used
converter_lines c = let d = converter_table.table_of c.adc in fun_ext (λ l. converter_line d l (uses_line d l))

-- of two as one
has_either : {F G : Type 0} (x : Option F) (y : Option G) → is_some (either_handler x y) ≡ is_some x || is_some y
has_either (Some f) y = refl
has_either None (Some g) = refl
has_either None None = refl

lines_of : {S T C D F G : Type 0} (d : Driver S C F) (e : Driver T D G) (g : Setting S C) (h : Setting T D) → has_handler d ≡ g.used → has_handler e ≡ h.used → has_handler (union_of d e) ≡ (joined g h).used
lines_of d e g h first second = fun_ext (λ l. has_either (d.handler_of l) (e.handler_of l) ∙ ap (λ (ours : ℕ → Bool). ours l || is_some (e.handler_of l)) first ∙ ap (λ (theirs : ℕ → Bool). g.used l || theirs l) second)

joined_of : {S T C D F G : Type 0} (d : Driver S C F) (e : Driver T D G) (g : Setting S C) (h : Setting T D) → has_handler d ≡ g.used → d.setting ≡ g → e.setting ≡ h → (union_of d e).setting ≡ joined g h
joined_of d e g h lines first second = ap (λ (ours : ℕ → Bool). union_setting ours d.setting e.setting) lines ∙ ap (λ x. union_setting g.used x e.setting) first ∙ ap (λ x. joined g x) second

-- the drivers' setting is the modules'
same_setting : (c : Config) → (as_one (drivers_of c)).setting ≡ system_setting c
unfolding as_one system_setting
same_setting c =
    let timed = joined (pin_setting c) (timer_setting c) in
    let watched = joined (clock_setting c) (watchdog_setting c) in
    let firsts = joined watched timed in
    let timed_lines = lines_of (pins c) (timers c) (pin_setting c) (timer_setting c) refl (timer_lines c) in
    let watched_lines = lines_of (clock c) (watchdog c) (clock_setting c) (watchdog_setting c) refl refl in
    let first_lines = lines_of (union_of (clock c) (watchdog c)) (union_of (pins c) (timers c)) watched timed watched_lines timed_lines in
    let timed_on = joined_of (pins c) (timers c) (pin_setting c) (timer_setting c) refl refl refl in
    let watched_on = joined_of (clock c) (watchdog c) (clock_setting c) (watchdog_setting c) refl refl refl in
    let firsts_on = joined_of (union_of (clock c) (watchdog c)) (union_of (pins c) (timers c)) watched timed watched_lines watched_on timed_on in
    let captured = joined (pulse_setting c) (capture_setting c) in
    let captured_lines = lines_of (pulses c) (captures c) (pulse_setting c) (capture_setting c) (pulse_lines c) (capture_lines c) in
    let captured_on = joined_of (pulses c) (captures c) (pulse_setting c) (capture_setting c) (pulse_lines c) refl refl in
    let lasts = joined (converter_setting c) (serial_setting c) in
    let lasts_on = joined_of (converters c) (serial c) (converter_setting c) (serial_setting c) (converter_lines c) refl refl in
    let seconds_on = joined_of (union_of (pulses c) (captures c)) (union_of (converters c) (serial c)) captured lasts captured_lines captured_on lasts_on in
    let host_on = joined_of (union_of (union_of (clock c) (watchdog c)) (union_of (pins c) (timers c))) (union_of (union_of (pulses c) (captures c)) (union_of (converters c) (serial c))) firsts (joined captured lasts) first_lines firsts_on seconds_on in
    ap (λ x. guest_setting x (port_guest c)) host_on

pub carry : (P : Setting SystemState SystemCall → Type 0) (c : Config) (u : Drivers) → u ≡ drivers_of c → P (as_one u).setting → P (system_setting c)
carry P c u e h = subst P (same_setting c) (subst (λ x. P (as_one x).setting) e h)

-- ---- answers

pub on_ok_map : {A E P Q : Type 0} (r : Result A E) → (P → Q) → OnOk r P → OnOk r Q
on_ok_map (Ok a) f h = f h
on_ok_map (Err e) f h = tt

-- before the first directive
pub starts : (c : Config) (script : List Directive) (devices : ℕ) (u : Drivers) (e : Inner) → u ≡ drivers_of c → e ≡ engine.run_start u (as_one u).setting call_of c script 1000000 devices → seen e ≡ run_start c script devices
starts c script devices u e made begins = carry (λ g. seen e ≡ seen (engine.run_start u g call_of c script 1000000 devices)) c u made (ap seen begins)

-- what a run of the modules is: its moment, and the start of one
abbrev Starts : Setting SystemState SystemCall → SystemRun → Moment SystemState SystemCall
Starts g r = start_moment g (chip_for r.devices r.config r.script)

abbrev Comes : Setting SystemState SystemCall → SystemRun → Moment SystemState SystemCall
Comes g r = after_all g (Starts g r) (deeds_of call_of r.script r.journal.entries)

module _ (e : Inner) (made : e.driver ≡ drivers_of e.config) (r : SystemRun) (is : seen e ≡ r) where
  -- what is so of the setting of the engine's drivers is so of the modules'
  there : (P : Setting SystemState SystemCall → SystemRun → Type 0) → P (as_one e.driver).setting (seen e) → P (system_setting r.config) r
  there P h = subst (λ (x : SystemRun). P (system_setting x.config) x) is (carry (λ g. P g (seen e)) e.config e.driver made h)

  pub follows : (xs : List Entry) → OnFalse e.too_long (Follows (as_one e.driver).setting call_of (Starts (as_one e.driver).setting (seen e)) (take e.obeyed e.script) xs) → OnFalse r.too_long (Follows (system_setting r.config) call_of (Starts (system_setting r.config) r) (take r.obeyed r.script) xs)
  follows xs h = there (λ g x. OnFalse x.too_long (Follows g call_of (Starts g x) (take x.obeyed x.script) xs)) h

  pub stops : (xs : List Entry) → OnTrue e.too_long (FollowsToStop (as_one e.driver).setting call_of (Starts (as_one e.driver).setting (seen e)) e.script xs) → OnTrue r.too_long (FollowsToStop (system_setting r.config) call_of (Starts (system_setting r.config) r) r.script xs)
  stops xs h = there (λ g x. OnTrue x.too_long (FollowsToStop g call_of (Starts g x) x.script xs)) h

  pub legal : (xs : List Entry) → IsLegal (as_one e.driver).setting (Starts (as_one e.driver).setting (seen e)) (deeds_of call_of e.script xs) → IsLegal (system_setting r.config) (Starts (system_setting r.config) r) (deeds_of call_of r.script xs)
  legal xs h = there (λ g x. IsLegal g (Starts g x) (deeds_of call_of x.script xs)) h

  pub whole : (xs : List Entry) → (e.too_long ≡ false → e.obeyed ≡ length e.script → IsRun (as_one e.driver).setting (chip_for e.devices e.config e.script) call_of e.script xs) → r.too_long ≡ false → r.obeyed ≡ length r.script → IsRun (system_setting r.config) (chip_for r.devices r.config r.script) call_of r.script xs
  whole xs h = there (λ g x. x.too_long ≡ false → x.obeyed ≡ length x.script → IsRun g (chip_for x.devices x.config x.script) call_of x.script xs) h

  pub stopped : (xs : List Entry) → e.limit ≡ most_steps → OnTrue e.too_long (IsStopped (as_one e.driver).setting (chip_for e.devices e.config e.script) call_of e.limit e.script xs) → OnTrue r.too_long (IsStopped (system_setting r.config) (chip_for r.devices r.config r.script) call_of most_steps r.script xs)
  stopped xs limited h = subst (λ n. OnTrue r.too_long (IsStopped (system_setting r.config) (chip_for r.devices r.config r.script) call_of n r.script xs)) limited (there (λ g x. OnTrue x.too_long (IsStopped g (chip_for x.devices x.config x.script) call_of e.limit x.script xs)) h)

  pub within : e.limit ≡ most_steps → OnTrue e.too_long (e.limit < script_bound (as_one e.driver).setting call_of e.script) → OnTrue r.too_long (most_steps < bound_of r.config r.script)
  within limited h = subst (λ n. OnTrue r.too_long (n < bound_of r.config r.script)) limited (there (λ g x. OnTrue x.too_long (e.limit < script_bound g call_of x.script)) h)

  pub alone : engine.IsAtRest (as_one e.driver) call_of e → (moment_of r).opens ≡ []
  alone h = there (λ g x. (Comes g x).opens ≡ []) h.alone

  pub adds : (directive : Directive) (e1 : Inner) → engine.AddsItems (as_one e.driver) call_of directive e e1 → AddsItems directive r (seen e1)
  adds directive e1 h = subst (λ (x : SystemRun). AddsItems directive x (seen e1)) is (record {
    items = h.items;
    is = h.is;
    gives = carry (λ g. Gives g call_of (Comes g (seen e)) directive.line directive.order h.items) e.config e.driver made h.gives;
  })

  pub calls : (e1 : Inner) (old new : List Line) → engine.CallsThere (as_one e.driver) call_of e e1 old new → CallsDevices r (seen e1) old new
  calls e1 old new h =
      let all = carry (λ g. AllCalls g (Comes g (seen e)) (deeds_of call_of e.script h.items) old new) e.config e.driver made h.calls in
      subst (λ (x : SystemRun). CallsDevices x (seen e1) old new) is (record {
        items = h.items;
        is = h.is;
        calls = all;
        told = are_told (system_setting e.config) (Comes (system_setting e.config) (seen e)) (deeds_of call_of e.script h.items) old new all;
      })

  module _ (stands : engine.StandsThere (as_one e.driver) call_of e) where
    abbrev Deeds : List (Transition SystemCall)
    Deeds = deeds_of call_of e.script e.journal.entries

    -- the chip has as many devices as the world
    pub devices_there : e.chip.devices ≡ (moment_of r).world.devices
    devices_there = there (λ g x. e.chip.devices ≡ (Comes g x).world.devices) (ap (λ (c : Chip). c.devices) stands.matches.chip_is ∙ stands.matches.hung)

    pub some : 0 < length e.frames → 0 < length (moment_of r).opens
    some h = there (λ g x. 0 < length (Comes g x).opens) (opens-some (as_one e.driver) (chip_for e.devices e.config e.script) e.chip e.frames Deeds stands h)

    at_rest : (moment_of r).opens ≡ [] → Rests (system_setting r.config) (chip_for r.devices r.config r.script) e.chip (moment_of r)
    at_rest = there (λ g x. (Comes g x).opens ≡ [] → Rests g (chip_for x.devices x.config x.script) e.chip (Comes g x)) (rests (as_one e.driver) (chip_for e.devices e.config e.script) e.chip e.frames Deeds stands)

    -- so what stands there is a run at rest
    pub resting_there : (moment_of r).opens ≡ [] → IsValid e.config → (es : List Entry) → es ≡ r.journal.entries → IsLegal (system_setting r.config) (Starts (system_setting r.config) r) (deeds_of call_of r.script es) → IsResting r.config r.script r.devices r.journal.entries e.chip
    resting_there none valid es so_far legal =
        let relates = there (λ g x. (Comes g x).opens ≡ [] → (as_one e.driver).relates e.chip (Comes g x).world [] (Comes g x).state) (related (as_one e.driver) (chip_for e.devices e.config e.script) e.chip e.frames Deeds stands) none in
        let made_so = made ∙ ap (λ (x : SystemRun). drivers_of x.config) is in
        record {
          valid = subst (λ (x : SystemRun). IsValid x.config) is valid;
          alone = none;
          legal = subst (λ (xs : List Entry). IsLegal (system_setting r.config) (Starts (system_setting r.config) r) (deeds_of call_of r.script xs)) so_far legal;
          rests = at_rest none;
          relates = subst (λ (u : Drivers). (as_one u).relates e.chip (moment_of r).world [] (moment_of r).state) made_so relates;
        }

-- what is so of an engine's parts is so of those that are its
module _ (e : Inner) {c : Config} {ds : List Directive} {n : ℕ} {w : Written} (c-is : c ≡ e.config) (ds-are : ds ≡ e.script) (n-is : n ≡ e.devices) (w-is : w ≡ e.journal) where
  pub parts_of : (P : Config → List Directive → ℕ → Written → Type 0) → P e.config e.script e.devices e.journal → P c ds n w
  parts_of P h =
      subst (λ (x : Config). P x ds n w) (sym c-is)
      (subst (λ (x : List Directive). P e.config x n w) (sym ds-are)
      (subst (λ (x : ℕ). P e.config e.script x w) (sym n-is)
      (subst (λ (x : Written). P e.config e.script e.devices x) (sym w-is) h)))
