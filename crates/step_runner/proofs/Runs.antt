-- What a chip and a stack stand for goes on by one deed.
use Rattle.std.proofs.Common.{◌≡◌, ℕ, ◌+◌, ◌<◌, ◌≤◌, Bool, true, false, ◌||◌, List, [], ◌∷◌, ◌++◌, Option, Some, None, refl, sym, ◌∙◌, ap, subst, arith}
use Rattle.std.specs.Prelude.{Result, Ok}
use Rattle.std.proofs.lemmas.List.{append-nil}
use Rattle.std.proofs.lemmas.Bool.{false_from_ne_true}
use Rattle.chip_model.specs.Chip.{Chip, value_of, stall_of, chip_after, expiry_of, is_masked, is_pending}
use Rattle.chip_model.specs.Devices.{ComesIn}
use Rattle.chip_model.proofs.DeviceLaws.{devices-move}
use Rattle.irq_control.specs.declared.held.Held.{Held}
use Rattle.mcal_base.specs.Bits.{has_bit}
use Rattle.mcal_base.proofs.BitLaws.{has_bit-zero}
use Rattle.mcal_base.specs.declared.answer.Answer.{Answer}
use Rattle.mcal_base.specs.declared.moves.Move.{Move}
use Rattle.mcal_base.specs.declared.moves.Move.TheVariants.{Write}
use Rattle.mcal_base.specs.declared.directive.Order.TheVariants as orders
use Rattle.mcal_base.specs.declared.directive.Reason.TheVariants.{Watchdog}
use Rattle.mcal_base.specs.declared.register.Reg.TheVariants.{EnableSet, WatchdogLoad}
use Rattle.mcal_base.specs.declared.routine.Taken.{Taken}
use Rattle.run_model.specs.declared.item.Stepped.{Stepped}
use Rattle.run_model.specs.World.{World, world_start}
use Rattle.run_model.specs.Causes.{tags_of, origins_of}
use Rattle.run_model.specs.Frame.{Open, brought_by, happening_at, outcome_of, state_by, state_after, open_after, report_by, outcome_at, inside_after, top_after, is_shared}
use Rattle.run_model.specs.Machine.{Happening, Outcome}
use Rattle.run_model.specs.Moment.{Moment, Transition, Begins, Enters, Steps, Happens, Resets, start_moment, after, after_all}
use Rattle.run_model.specs.Legal.{InTime, IsLegalDeed, EndRight, AreGoing, IsServed, QuietAtRest}
use Rattle.step_runner.specs.Driver.{Driver, most_steps, NotOver, EndsBefore, IsLawful, AllOutside, origins_in, FuelRight, stepped}
use Rattle.step_runner.specs.Kept.{Kept, moved, TakesStep, CanStep, IsStill, total_fuel}
use Rattle.step_runner.specs.Stands.{paired, IsFrameOf, AreFramesOf, NoneInside, IsGuarded, LevelsRise, Matches, IsFirst, Stands, step_done, FuelFalls}
use Rattle.step_runner.specs.declared.stack.Under.{Under}
use Rattle.step_runner.proofs.Bounds.{steps_bound, window_bound, room_bound}
use Rattle.step_runner.proofs.ChipFacts.{mask-after, disabled-pending, disabled-after, received-right}
use Rattle.step_runner.proofs.Watchdog.{over-move, none-move}
use Rattle.run_model.proofs.LegalLaws.{after_all-append, legal-append}
use Rattle.run_model.proofs.OutsideLaws.{stands-move}

-- ---- masks

pub outside-paired : {Call Frame : Type 0} (us : List (Under Frame)) (os : List (Open Call)) → NoneInside os → AllOutside (paired us os)
outside-paired [] os h = tt
outside-paired (u ∷ us) [] h = tt
outside-paired (u ∷ us) (o ∷ os) h = (h.0, outside-paired us os h.1)

pub none-inside : {Call : Type 0} (masked : Bool) (os : List (Open Call)) → masked ≡ false → IsGuarded masked os → NoneInside os
none-inside masked [] e h = tt
none-inside masked (o ∷ os) e h = (sym h.0 ∙ e, h.1)

guarded-none : {Call : Type 0} (masked : Bool) (os : List (Open Call)) → masked ≡ false → NoneInside os → IsGuarded masked os
guarded-none masked [] e h = e
guarded-none masked (o ∷ os) e h = (e ∙ sym h.0, h.1)

guarded-after : {Call : Type 0} (masked : Bool) (o : Open Call) (os : List (Open Call)) (ended : Option Answer) → masked ≡ o.inside → NoneInside os → EndRight o ended → IsGuarded masked (top_after o ended os)
guarded-after masked o os None e h k = (e, h)
guarded-after masked o os (Some a) e h k = guarded-none masked os (e ∙ k.3) h

paired-after : {Call Frame : Type 0} (u : Under Frame) (us : List (Under Frame)) (o : Open Call) (os : List (Open Call)) (ended : Option Answer) → top_after (u.frame, o) ended (paired us os) ≡ paired (top_after u ended us) (top_after o ended os)
paired-after u us o os None = refl
paired-after u us o os (Some a) = refl

levels-after : {Call : Type 0} (o o1 : Open Call) (os : List (Open Call)) (ended : Option Answer) → o1.tag ≡ o.tag → LevelsRise (tags_of (o ∷ os)) → LevelsRise (tags_of (top_after o1 ended os))
levels-after o o1 os None e h = subst (λ t. LevelsRise (t ∷ tags_of os)) (sym e) h
levels-after o o1 os (Some a) e h = h.1

or-second : (a b : Bool) → a ≡ false → a || b ≡ true → b ≡ true
or-second true b e h = cc
or-second false b e h = h

-- ---- the frames that are there

module _ {State Call Frame : Type 0} (d : Driver State Call Frame) where
  pub origins-in : (us : List (Under Frame)) (os : List (Open Call)) → AreFramesOf d us os → origins_in (paired us os) ≡ origins_of os
  origins-in [] [] a = refl
  origins-in [] (o ∷ os) a = absurd a
  origins-in (u ∷ us) [] a = absurd a
  origins-in (u ∷ us) (o ∷ os) a = ap (λ x. o.origin ∷ x) (origins-in us os a.1)

-- ---- the laws of a driver

module _ {State Call Frame : Type 0} (d : Driver State Call Frame) (move_of : Frame → Move) (left : Frame → ℕ → Frame) (gave : Frame → ℕ → Taken) (law : IsLawful d move_of left gave) where
  -- no line is enabled that isn't the driver's
  abbrev NoneEnabled : Chip → Type 0
  NoneEnabled chip = (line : ℕ) → d.lines line ≡ false → has_bit chip.control.enabled line ≡ false

  -- a line that isn't the driver's is neither pending nor due
  apart-at : (chip : Chip) (w : World) (s : State) (line : ℕ) (q : Bool) → NoneEnabled chip → d.lines line ≡ q → d.relates chip w [] s → is_pending chip line ≡ d.setting.machine.due w s line
  apart-at chip w s line true none e r = law.rests chip w s line e r
  apart-at chip w s line false none e r =
      let due : d.setting.machine.due w s line ≡ false = false_from_ne_true (d.setting.machine.due w s line) (λ h. let k = law.used_lines line (law.due_used chip w [] s line tt r h) in cc) in
      disabled-pending chip line (none line e) ∙ sym due

  -- a line that no object uses isn't pending, whether it is the driver's or not
  idle-at : (chip : Chip) (w : World) (ps : List (Frame × Open Call)) (s : State) (line : ℕ) (q : Bool) → NoneEnabled chip → d.lines line ≡ q → is_masked chip ≡ false → AllOutside ps → d.relates chip w ps s → d.setting.used line ≡ false → is_pending chip line ≡ false
  idle-at chip w ps s line true none e unmasked out r free = law.unused chip w ps s line unmasked out r e free
  idle-at chip w ps s line false none e unmasked out r free = disabled-pending chip line (none line e)

  quiet-of : (us : List (Under Frame)) (os : List (Open Call)) (chip : Chip) (w : World) (s : State) (n : ℕ) → NoneEnabled chip → AreFramesOf d us os → d.relates chip w (paired us os) s → QuietAtRest d.setting (record { chip = chip; world = w; state = s; opens = os; steps = n }) os
  quiet-of [] [] chip w s n none a r = record { units = λ u. law.waits chip w s u r; lines = λ l. apart-at chip w s l (d.lines l) none refl r; rest = law.rest chip w s r }
  quiet-of (u ∷ us) [] chip w s n none a r = absurd a
  quiet-of us (o ∷ os) chip w s n none a r = tt

  -- each frame can go on within its bounds: none but the top one is in a window
  going-below : (us : List (Under Frame)) (os : List (Open Call)) → AreFramesOf d us os → NoneInside os → AreGoing d.setting os
  going-below [] [] a out = tt
  going-below [] (o ∷ os) a out = absurd a
  going-below (u ∷ us) [] a out = absurd a
  going-below (u ∷ us) (o ∷ os) a out = let some = law.lasts u.frame in let within = a.0.steps in let outside = out.0 in (record { steps = omega (arith, some, within); window = λ closed. cc }, going-below us os a.1 out.1)

  going-of : (masked : Bool) (us : List (Under Frame)) (os : List (Open Call)) (chip : Chip) (w : World) (s : State) → AreFramesOf d us os → IsGuarded masked os → d.relates chip w (paired us os) s → AreGoing d.setting os
  going-of masked [] [] chip w s a guarded r = tt
  going-of masked [] (o ∷ os) chip w s a guarded r = absurd a
  going-of masked (u ∷ us) [] chip w s a guarded r = absurd a
  going-of masked (u ∷ us) (o ∷ os) chip w s a guarded r =
      let some = law.lasts u.frame in
      let within = a.0.steps in (
        record { steps = omega (arith, some, within); window = λ closed. let room = law.roomy chip w u.frame o (paired us os) s r closed in let fits = a.0.room closed in omega (arith, room, fits) },
        going-below us os a.1 guarded.1,
      )

  -- the machine's time of the watchdog is the chip's, where it runs
  left-by : (m : Moment State Call) (q : Bool) → d.watches ≡ q → (q ≡ true → d.setting.machine.expires m.world m.state ≡ expiry_of m.chip) → (d.watches ≡ false → expiry_of m.chip ≡ None) → d.setting.machine.expires m.world m.state ≡ expiry_of m.chip
  left-by m true has is none = is refl
  left-by m false has is none = law.unwatched m.world m.state has ∙ sym (none has)

  pub left-is : (chip : Chip) (us : List (Under Frame)) (m : Moment State Call) → Matches d chip us m → d.setting.machine.expires m.world m.state ≡ expiry_of m.chip
  left-is chip us m k = left-by m d.watches refl (λ has. law.expiry m.chip m.world (paired us m.opens) m.state has k.outside.osc k.relates) k.unloaded

  -- what matches a moment is served there
  pub served-of : (chip : Chip) (us : List (Under Frame)) (m : Moment State Call) → Matches d chip us m → IsServed d.setting m
  served-of chip us m k =
      let out = λ (e : is_masked m.chip ≡ false). outside-paired us m.opens (none-inside (is_masked m.chip) m.opens e k.guarded) in
      record {
        due = λ e l due. law.due m.chip m.world (paired us m.opens) m.state l e (out e) k.relates due;
        unused = λ e l free. idle-at m.chip m.world (paired us m.opens) m.state l (d.lines l) k.enabled refl e (out e) k.relates free;
        outputs = λ e. subst (λ os. d.setting.unmasked m.chip m.world m.state os) (origins-in d us m.opens k.frames) (law.unmasked m.chip m.world (paired us m.opens) m.state e (out e) k.relates);
        quiet = quiet-of us m.opens m.chip m.world m.state m.steps k.enabled k.frames k.relates;
        rate = k.rate;
        expiry = sym (left-is chip us m k);
        going = going-of (is_masked m.chip) us m.opens m.chip m.world m.state k.frames k.guarded k.relates;
      }

  -- a chip as at power on, with what the driver has wired, stands for no deed
  pub stands-first : (first : Chip) → IsFirst first → d.wired first → Stands d first first [] []
  stands-first first is wired =
      let m = start_moment d.setting first in
      let k : Matches d first [] m = record {
        chip_is = refl;
        frames = tt;
        relates = subst (λ c. d.relates c (world_start first.devices) [] d.setting.first) is.is_reset (law.starts first (world_start first.devices) wired is.outside);
        guarded = sym (ap is_masked is.is_reset);
        counted = let e = law.count_first in omega (arith, e);
        levels = tt;
        rate = sym (ap (λ c. c.clock.rate) is.is_reset) ∙ sym law.rate_starts;
        outside = is.outside;
        hung = refl;
        enabled = λ line apart. sym (ap (λ c. has_bit c.control.enabled line) is.is_reset) ∙ has_bit-zero line;
        unloaded = λ none. sym (ap expiry_of is.is_reset);
      } in
      record { legal = served-of first [] m k; matches = k; alive = subst (λ c. NotOver (expiry_of c)) is.is_reset tt }

  -- ticks that end before the watchdog's time does come in time, and so does any other deed while that isn't over
  abbrev Early : Transition Call → Option ℕ → Type 0
  Early (Happens order) left = EndsBefore order left
  Early _ left = Unit {0}

  timely : (x : Transition Call) (left : Option ℕ) → NotOver left → Early x left → InTime left x
  timely x None alive early = tt
  timely (Begins c level) (Some left) alive early = alive
  timely (Enters l) (Some left) alive early = alive
  timely (Steps s) (Some left) alive early = alive
  timely (Happens (orders.Tick n)) (Some left) alive early = (alive, omega (arith, early))
  timely (Happens order) (Some left) alive early = alive
  timely (Resets Watchdog) (Some left) alive early = tt
  timely (Resets reason) (Some left) alive early = alive

  in-time : (chip : Chip) (us : List (Under Frame)) (m : Moment State Call) (x : Transition Call) → Matches d chip us m → NotOver (expiry_of chip) → Early x (expiry_of chip) → InTime (d.setting.machine.expires m.world m.state) x
  in-time chip us m x k alive early = subst (λ t. InTime t x) (ap expiry_of k.chip_is ∙ sym (left-is chip us m k)) (timely x (expiry_of chip) alive early)

  -- a legal deed whose moment is matched again
  pub stands-on : (first chip chip1 : Chip) (us us1 : List (Under Frame)) (h : List (Transition Call)) (x : Transition Call) → Stands d first chip us h → Early x (expiry_of chip) → NotOver (expiry_of chip1) → IsLegalDeed d.setting (after_all d.setting (start_moment d.setting first) h) x → Matches d chip1 us1 (after d.setting (after_all d.setting (start_moment d.setting first) h) x) → Stands d first chip1 us1 (h ++ x ∷ [])
  stands-on first chip chip1 us us1 h x st early alive l k = record {
    alive = alive;
    legal = legal-append d.setting (start_moment d.setting first) h x st.legal (in-time chip us (after_all d.setting (start_moment d.setting first) h) x st.matches st.alive early) l (served-of chip1 us1 (after d.setting (after_all d.setting (start_moment d.setting first) h) x) k);
    matches = subst (λ m. Matches d chip1 us1 m) (sym (after_all-append d.setting (start_moment d.setting first) h x)) k;
  }

  -- ---- a step

  frames-after : (u u1 : Under Frame) (o o1 : Open Call) (us : List (Under Frame)) (os : List (Open Call)) (ended : Option Answer) → (FuelRight (d.fuel u.frame) (d.fuel u1.frame) ended → ended ≡ None → IsFrameOf d u1 o1) → FuelRight (d.fuel u.frame) (d.fuel u1.frame) ended → AreFramesOf d us os → AreFramesOf d (top_after u1 ended us) (top_after o1 ended os)
  frames-after u u1 o o1 us os None f r a = (f r refl, a)
  frames-after u u1 o o1 us os (Some x) f r a = a

  fuel-after : (n before later bound : ℕ) (ended : Option Answer) → FuelRight before later ended → ended ≡ None → n + before ≤ bound → (n + 1) + later ≤ bound
  fuel-after n before later bound None f e h = omega arith
  fuel-after n before later bound (Some a) f e h = cc

  total-after : (before : ℕ) (u1 : Under Frame) (us : List (Under Frame)) (ended : Option Answer) → FuelRight before (d.fuel u1.frame) ended → total_fuel d.fuel (top_after u1 ended us) < before + total_fuel d.fuel us
  total-after before u1 us None f = omega arith
  total-after before u1 us (Some a) f = omega arith

  -- what a step of the top frame has to show
  pub record GoesOn (chip : Chip) (u : Under Frame) (us : List (Under Frame)) (m : Moment State Call) (received : ℕ) : Type 0 where
    pub legal : IsLegalDeed d.setting m (Steps (stepped (move_of u.frame) (value_of chip (move_of u.frame)) received (gave u.frame (value_of chip (move_of u.frame)))))
    pub matches : Matches d (chip_after chip (move_of u.frame) received) (top_after (moved u (left u.frame (value_of chip (move_of u.frame))) (move_of u.frame)) (gave u.frame (value_of chip (move_of u.frame))).ended us) (after d.setting m (Steps (stepped (move_of u.frame) (value_of chip (move_of u.frame)) received (gave u.frame (value_of chip (move_of u.frame))))))
    pub fuel : total_fuel d.fuel (top_after (moved u (left u.frame (value_of chip (move_of u.frame))) (move_of u.frame)) (gave u.frame (value_of chip (move_of u.frame))).ended us) < d.fuel u.frame + total_fuel d.fuel us

  -- a frame enables no line that isn't the driver's
  none-enabled : (chip : Chip) (o : Open Call) (made : Move) (received : ℕ) → is_shared made || d.setting.may o.origin made ≡ true → NoneEnabled chip → NoneEnabled (chip_after chip made received)
  none-enabled chip o made received own none line apart =
      let may = λ (bits : ℕ) (is : made ≡ Write EnableSet bits). subst (λ x. d.setting.may o.origin x ≡ true) is (or-second (is_shared made) (d.setting.may o.origin made) (ap is_shared is) own) in
      disabled-after chip made received line (λ bits is. law.enables o.origin bits line (may bits is) apart) (none line apart)

  -- a frame loads no watchdog that the driver doesn't have
  none-loaded : (chip : Chip) (o : Open Call) (made : Move) (received : ℕ) → is_shared made || d.setting.may o.origin made ≡ true → d.watches ≡ false → expiry_of chip ≡ None → expiry_of (chip_after chip made received) ≡ None
  none-loaded chip o made received own lacks none =
      let may = λ (v : ℕ) (is : made ≡ Write WatchdogLoad v). subst (λ x. d.setting.may o.origin x ≡ true) is (or-second (is_shared made) (d.setting.may o.origin made) (ap is_shared is) own) in
      none-move chip made received (λ v is. let has = law.loads o.origin v (may v is) in cc) none

  -- a step gives out one number at most
  count-by : (w : World) (s : State) (h : Happening Call) (x : Option (Outcome State)) → d.setting.machine.happens w s h ≡ x → d.count (state_by s x) ≤ d.count s + 1
  count-by w s h None e = omega arith
  count-by w s h (Some out) e = law.count_happens w s h out e

  count-after : (w : World) (s : State) (n : ℕ) (h : Option (Happening Call)) → d.count s ≤ n → d.count (state_by s (outcome_of d.setting.machine w s h)) ≤ n + 1
  count-after w s n None c = omega (arith, c)
  count-after w s n (Some h) c = let k = count-by w s h (d.setting.machine.happens w s h) refl in omega (arith, k, c)

  goes-step : (chip : Chip) (w : World) (s : State) (u : Under Frame) (us : List (Under Frame)) (o : Open Call) (os : List (Open Call)) (n received : ℕ) → let m : Moment State Call = record { chip = chip; world = w; state = s; opens = o ∷ os; steps = n } in stall_of chip (move_of u.frame) ≡ 0 → ComesIn chip (move_of u.frame) received → n < most_steps → Matches d chip (u ∷ us) m → GoesOn chip u us m received
  goes-step chip w s u us o os n received still comes few k =
      let made = move_of u.frame in
      let value = value_of chip made in
      let taken = gave u.frame value in
      let out = outcome_at d.setting.machine w s o made received taken.event in
      let o1 = open_after d.setting.machine w s o made received taken.event in
      let u1 = moved u (left u.frame value) made in
      let bound = d.setting.steps_of o.origin in
      let wide = d.setting.window_of o.origin in
      let here = k.frames.0 in
      let come = received-right chip w made received k.hung comes in
      let fits : d.count s < most_steps = let c = k.counted in omega (arith, c, few) in
      let counted = count-after w s n (happening_at o.origin (brought_by w o.committed made received) taken.event) k.counted in
      let x = law.steps chip w u.frame o (paired us os) s received (still, come) fits k.guarded.0 (outside-paired us os k.guarded.1) k.relates in
      record {
        legal = record {
          waits = still;
          value = refl;
          waits_open = law.opens chip w u.frame o (paired us os) s k.relates;
          received = come;
          event = x.event;
          sends = x.sends;
          halves = x.halves;
          together = x.together;
          errors = x.errors;
          move = x.move;
          shows = x.shows;
          stays = x.stays;
          ends = x.ends;
          writes = x.writes;
          starts = x.starts;
          there = law.there chip w u.frame o (paired us os) s k.relates;
          own = x.own;
          reset = x.reset;
          steps = steps_bound o.steps (d.fuel u.frame) (d.fuel u1.frame) bound taken.ended x.fuel here.steps;
          window = window_bound made o.inside o.owed (report_by d.setting.machine o.origin o.report taken.event out) o.window (d.room u.frame) (d.room u1.frame) wide x.move x.room here.window here.room;
        };
        matches = record {
          chip_is = refl;
          frames = frames-after u u1 o o1 us os taken.ended (λ f e. record {
            tag = here.tag;
            noted = refl;
            class = here.class;
            steps = fuel-after o.steps (d.fuel u.frame) (d.fuel u1.frame) bound taken.ended f e here.steps;
            window = window_bound made o.inside o.owed (report_by d.setting.machine o.origin o.report taken.event out) o.window (d.room u.frame) (d.room u1.frame) wide x.move x.room here.window here.room;
            room = room_bound made o.inside o.window (d.room u.frame) (d.room u1.frame) wide x.room here.room;
          }) x.fuel k.frames.1;
          relates = subst (λ ps. d.relates (chip_after chip made received) w ps (state_after d.setting.machine w s o made received taken.event)) (paired-after u1 us o1 os taken.ended) x.kept;
          guarded = guarded-after (is_masked (chip_after chip made received)) o1 os taken.ended (mask-after chip made received ∙ ap (λ b. inside_after b made) k.guarded.0) k.guarded.1 x.ends;
          counted = counted;
          levels = levels-after o o1 os taken.ended refl k.levels;
          rate = law.rate chip w u.frame o (paired us os) s received (still, come) fits k.guarded.0 (outside-paired us os k.guarded.1) k.relates k.rate;
          outside = stands-move chip w made received k.outside;
          hung = devices-move chip made received ∙ k.hung;
          enabled = none-enabled chip o made received x.own k.enabled;
          unloaded = λ lacks. none-loaded chip o made received x.own lacks (k.unloaded lacks);
        };
        fuel = total-after (d.fuel u.frame) u1 us taken.ended x.fuel;
      }

  goes-at : (chip : Chip) (w : World) (s : State) (u : Under Frame) (us : List (Under Frame)) (os : List (Open Call)) (n received : ℕ) → let m : Moment State Call = record { chip = chip; world = w; state = s; opens = os; steps = n } in stall_of chip (move_of u.frame) ≡ 0 → ComesIn chip (move_of u.frame) received → n < most_steps → Matches d chip (u ∷ us) m → GoesOn chip u us m received
  goes-at chip w s u us [] n received still comes few k = absurd k.frames
  goes-at chip w s u us (o ∷ os) n received still comes few k = goes-step chip w s u us o os n received still comes few k

  pub goes-on : (chip : Chip) (u : Under Frame) (us : List (Under Frame)) (m : Moment State Call) (received : ℕ) → stall_of chip (move_of u.frame) ≡ 0 → ComesIn chip (move_of u.frame) received → m.steps < most_steps → Matches d chip (u ∷ us) m → GoesOn chip u us m received
  goes-on chip u us m received still comes few k = subst (λ c. GoesOn c u us m received) (sym k.chip_is) (goes-at m.chip m.world m.state u us m.opens m.steps received (subst (λ c. stall_of c (move_of u.frame) ≡ 0) k.chip_is still) (subst (λ c. ComesIn c (move_of u.frame) received) k.chip_is comes) few (subst (λ c. Matches d c (u ∷ us) m) k.chip_is k))

  -- what a step leaves stands for the deeds with the step
  pub stands-step : (first : Chip) (h : List (Transition Call)) (chip chip1 : Chip) (us : List (Under Frame)) (steps : ℕ) (k1 : Kept Frame) (r : Result Stepped Held) → IsStill move_of us chip → TakesStep move_of left gave us steps chip k1 chip1 r → (after_all d.setting (start_moment d.setting first) h).steps < most_steps → Stands d first chip us h → Stands d first chip1 k1.frames (h ++ step_done r)
  stands-step first h chip chip1 [] steps k1 r still t few st =
      subst (λ x. Stands d first chip1 k1.frames (h ++ step_done x)) (sym t.result_is)
      (subst (λ x. Stands d first chip1 k1.frames x) (sym (append-nil h))
      (subst (λ x. Stands d first x k1.frames h) (sym t.chip_is)
      (subst (λ x. Stands d first chip x h) (sym t.frames) st)))
  stands-step first h chip chip1 (u ∷ us) steps k1 r still t few st =
      let k = goes-on chip u us (after_all d.setting (start_moment d.setting first) h) t.received still t.comes few st.matches in
      subst (λ x. Stands d first chip1 k1.frames (h ++ step_done x)) (sym t.result_is)
      (subst (λ x. Stands d first x k1.frames (h ++ step_done (Ok (stepped (move_of u.frame) (value_of chip (move_of u.frame)) t.received (gave u.frame (value_of chip (move_of u.frame))))))) (sym t.chip_is)
      (subst (λ x. Stands d first (chip_after chip (move_of u.frame) t.received) x (h ++ step_done (Ok (stepped (move_of u.frame) (value_of chip (move_of u.frame)) t.received (gave u.frame (value_of chip (move_of u.frame))))))) (sym t.frames)
      (stands-on first chip (chip_after chip (move_of u.frame) t.received) (u ∷ us) (top_after (moved u (left u.frame (value_of chip (move_of u.frame))) (move_of u.frame)) (gave u.frame (value_of chip (move_of u.frame))).ended us) h (Steps (stepped (move_of u.frame) (value_of chip (move_of u.frame)) t.received (gave u.frame (value_of chip (move_of u.frame))))) st tt (over-move chip (move_of u.frame) t.received st.alive) k.legal k.matches)))

  -- and the frames have fewer steps left
  pub fuel-step : (first : Chip) (h : List (Transition Call)) (chip chip1 : Chip) (us : List (Under Frame)) (steps : ℕ) (k1 : Kept Frame) (r : Result Stepped Held) → IsStill move_of us chip → TakesStep move_of left gave us steps chip k1 chip1 r → (after_all d.setting (start_moment d.setting first) h).steps < most_steps → Stands d first chip us h → FuelFalls d.fuel us k1.frames r
  fuel-step first h chip chip1 [] steps k1 r still t few st = subst (λ x. FuelFalls d.fuel [] k1.frames x) (sym t.result_is) tt
  fuel-step first h chip chip1 (u ∷ us) steps k1 r still t few st =
      let k = goes-on chip u us (after_all d.setting (start_moment d.setting first) h) t.received still t.comes few st.matches in
      subst (λ x. FuelFalls d.fuel (u ∷ us) k1.frames x) (sym t.result_is)
      (subst (λ x. total_fuel d.fuel x < total_fuel d.fuel (u ∷ us)) (sym t.frames) k.fuel)

  can-at : (us : List (Under Frame)) (m : Moment State Call) (os : List (Open Call)) → AreFramesOf d us os → d.relates m.chip m.world (paired us os) m.state → CanStep move_of us
  can-at [] m os a r = tt
  can-at (u ∷ us) m [] a r = absurd a
  can-at (u ∷ us) m (o ∷ os) a r = law.there m.chip m.world u.frame o (paired us os) m.state r

  -- the top frame's move may be made
  pub can-step : (first : Chip) (h : List (Transition Call)) (chip : Chip) (us : List (Under Frame)) → Stands d first chip us h → CanStep move_of us
  can-step first h chip us st = let m = after_all d.setting (start_moment d.setting first) h in can-at us m m.opens st.matches.frames st.matches.relates
