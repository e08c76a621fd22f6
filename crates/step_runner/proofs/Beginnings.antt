-- A beginning and a held one, the hardware and a reset, as deeds.
use Rattle.std.proofs.Common.{◌≡◌, ℕ, ◌<◌, ◌≤◌, ◌==◌, nat_lt, nat_le, ◌||◌, Bool, true, false, not, ◌&&◌, is_some, List, [], ◌∷◌, ◌++◌, Option, Some, None, refl, sym, ◌∙◌, ap, subst, arith, append_assoc}
use Rattle.std.specs.Prelude.{IsSome, Result, Ok, Err}
use Rattle.std.proofs.lemmas.List.{append-nil}
use Rattle.std.proofs.lemmas.Bool.Decides.{nat_tests}
use Rattle.std.proofs.lemmas.Bool.{not-false}
use Rattle.mcal_base.specs.facts.Truths.{and_first, and_second}
use Rattle.chip_model.specs.Chip.{Chip, expiry_of, happened, CanHappen, reset_chip, is_masked, is_pending}
use Rattle.chip_model.proofs.HistoryLaws.{rate-event}
use Rattle.irq_control.specs.declared.held.Held.{Held}
use Rattle.mcal_base.specs.Bits.{has_bit}
use Rattle.mcal_base.proofs.BitLaws.{has_bit-zero}
use Rattle.mcal_base.specs.declared.directive.Order.{Order}
use Rattle.mcal_base.specs.declared.directive.Order.TheVariants as orders
use Rattle.mcal_base.specs.declared.directive.Reason.{Reason}
use Rattle.mcal_base.specs.declared.directive.Reason.TheVariants.{Watchdog}
use Rattle.mcal_base.specs.declared.moves.Move.{Move}
use Rattle.mcal_base.specs.declared.routine.Taken.{Taken}
use Rattle.run_model.specs.declared.class.Tag.{Tag}
use Rattle.run_model.specs.World.{World, world_after}
use Rattle.run_model.specs.Machine.{Moves}
use Rattle.run_model.specs.Frame.{Origin, Called, Entered, Open, opened, state_by}
use Rattle.run_model.specs.Causes.{may_reenter, none_above, all_below, call_level_allows, line_level_allows, first_cause, is_full, call_cause, line_cause, fill_cause, tags_of, origins_of, top_noted}
use Rattle.run_model.specs.Outside.{StandsIn}
use Rattle.run_model.specs.Legal.{InTime, IsLegalDeed, IsServed, order_held, hardware_held}
use Rattle.run_model.specs.Moment.{is_busy, Moment, Transition, Begins, Enters, Happens, Resets, call_tag, line_tag, start_moment, after, after_all}
use Rattle.step_runner.specs.Driver.{Driver, NotOver, EndsBefore, IsLawful, AllOutside, tags_in, TicksFit, IsFree}
use Rattle.step_runner.specs.Kept.{Kept, tags_under, top_is_noted, cause_of, beginning, put_by, enter_by}
use Rattle.step_runner.specs.Stands.{paired, class_by, AreFramesOf, IsGuarded, LevelsRise, Matches, Stands, done}
use Rattle.step_runner.specs.declared.stack.Under.{Under}
use Rattle.step_runner.proofs.ChipFacts.{mask-happened, enabled-happened, devices-after, fills-there}
use Rattle.run_model.proofs.OutsideLaws.{stands-event, stands-reset}
use Rattle.run_model.proofs.LegalLaws.{after_all-append, legal-append}
use Rattle.step_runner.proofs.Runs.{none-inside, outside-paired, origins-in, served-of, left-is, stands-on}
use Rattle.step_runner.proofs.Watchdog.{over-happened, none-happened}

-- ---- causes

-- with no cause none of the causes holds
first-none : (masked level reentry idle full : Bool) → first_cause masked level reentry idle full ≡ None → (masked ≡ false) × (reentry ≡ false) × (idle ≡ false) × (level ≡ false)
first-none true level reentry idle full e = cc
first-none false true reentry idle full e = cc
first-none false false true idle full e = cc
first-none false false false true full e = cc
first-none false false false false full e = (refl, refl, refl, refl)

-- ---- levels

call-allowed : (top level : ℕ) (noted : Bool) → nat_lt top level || (noted && level == top) ≡ true → nat_le top level ≡ true
call-allowed top level true h = grind (arith, nat_tests)
call-allowed top level false h = grind (arith, nat_tests)

line-allowed : (top level : ℕ) → nat_lt top level ≡ true → nat_le top level ≡ true
line-allowed top level h = grind (arith, nat_tests)

le-more : (a b c : ℕ) → nat_le a b ≡ true → nat_le b c ≡ true → nat_le a c ≡ true
le-more a b c h k = grind (arith, nat_tests)

le-under : (a b c : ℕ) → nat_le a b ≡ true → nat_lt b c ≡ true → nat_lt a c ≡ true
le-under a b c h k = grind (arith, nat_tests)

-- all are of no higher level than the top one
above-more : (tags : List Tag) (level more : ℕ) → none_above tags level ≡ true → nat_le level more ≡ true → none_above tags more ≡ true
above-more [] level more h k = refl
above-more (t ∷ ts) level more h k =
    let here = le-more t.level level more (and_first (nat_le t.level level) (none_above ts level) h) k in
    rw here (above-more ts level more (and_second (nat_le t.level level) (none_above ts level) h) k)

below-more : (tags : List Tag) (level more : ℕ) → none_above tags level ≡ true → nat_lt level more ≡ true → all_below tags more ≡ true
below-more [] level more h k = refl
below-more (t ∷ ts) level more h k =
    let here = le-under t.level level more (and_first (nat_le t.level level) (none_above ts level) h) k in
    rw here (below-more ts level more (and_second (nat_le t.level level) (none_above ts level) h) k)

call-above : (tags : List Tag) (noted : Bool) (level : ℕ) → LevelsRise tags → call_level_allows tags noted level ≡ true → none_above tags level ≡ true
call-above [] noted level r h = refl
call-above (t ∷ ts) noted level r h =
    let here = call-allowed t.level level noted h in
    rw here (above-more ts t.level level r.0 here)

line-above : (tags : List Tag) (level : ℕ) → LevelsRise tags → line_level_allows tags level ≡ true → all_below tags level ≡ true
line-above [] level r h = refl
line-above (t ∷ ts) level r h = rw h (below-more ts t.level level r.0 h)

below-above : (tags : List Tag) (level : ℕ) → all_below tags level ≡ true → none_above tags level ≡ true
below-above [] level h = refl
below-above (t ∷ ts) level h =
    let here = line-allowed t.level level (and_first (nat_lt t.level level) (all_below ts level) h) in
    rw here (below-above ts level (and_second (nat_lt t.level level) (all_below ts level) h))

-- a hardware event that isn't held is free
fill-free : (masked there busy : Bool) → fill_cause masked there busy ≡ None → masked || (there && busy) ≡ false
fill-free masked false busy e = cc
fill-free true true busy e = cc
fill-free false true true e = cc
fill-free false true false e = refl

-- ---- what a beginning asks of the frames that are there

module _ {State Call Frame : Type 0} (d : Driver State Call Frame) where
  tags-are : (us : List (Under Frame)) (os : List (Open Call)) → AreFramesOf d us os → tags_under us ≡ tags_of os
  tags-are [] [] a = refl
  tags-are [] (o ∷ os) a = absurd a
  tags-are (u ∷ us) [] a = absurd a
  tags-are (u ∷ us) (o ∷ os) a = ap (λ t. t ∷ tags_under us) a.0.tag ∙ ap (λ ts. o.tag ∷ ts) (tags-are us os a.1)

  tags-in : (us : List (Under Frame)) (os : List (Open Call)) → AreFramesOf d us os → tags_in (paired us os) ≡ tags_under us
  tags-in [] [] a = refl
  tags-in [] (o ∷ os) a = absurd a
  tags-in (u ∷ us) [] a = absurd a
  tags-in (u ∷ us) (o ∷ os) a = ap (λ t. t ∷ tags_in (paired us os)) (sym a.0.tag) ∙ ap (λ ts. u.tag ∷ ts) (tags-in us os a.1)

  -- ticks are within the watchdog's time
  abbrev TicksOf : Order → (left : Option ℕ) → Type 0
  TicksOf (orders.Tick n) left = TicksFit n left
  TicksOf _ left = Unit {0}

  free-of : (chip : Chip) (masked : Bool) (w : World) (s : State) (os : List (Origin Call)) (order : Order) → TicksOf order (d.setting.machine.expires w s) → CanHappen chip order → order_held d.setting masked w s os order ≡ None → IsFree d.setting masked w s os order
  free-of chip masked w s os (orders.Tick n) fit can e = fit
  free-of chip masked w s os (orders.Fill c ws) fit can e = (fill-free masked (d.setting.fills c) (is_busy d.setting w s os c) e, can.0)
  free-of chip masked w s os _ fit can e = tt

  early-fits : (order : Order) (left : Option ℕ) → EndsBefore order left → TicksOf order left
  early-fits (orders.Tick n) None h = tt
  early-fits (orders.Tick n) (Some left) h = omega (arith, h)
  early-fits _ left h = tt

  noted-is : (us : List (Under Frame)) (os : List (Open Call)) → AreFramesOf d us os → top_is_noted us ≡ top_noted os
  noted-is [] [] a = refl
  noted-is [] (o ∷ os) a = absurd a
  noted-is (u ∷ us) [] a = absurd a
  noted-is (u ∷ us) (o ∷ os) a = a.0.noted

  -- a frame that begins with the mask open
  put-on : (chip : Chip) (us : List (Under Frame)) (m : Moment State Call) (f : Frame) (origin : Origin Call) (tag : Tag) → tag.class ≡ class_by d.setting origin → is_masked m.chip ≡ false → none_above (tags_of m.opens) tag.level ≡ true → d.fuel f ≤ d.setting.steps_of origin → (AllOutside (paired us m.opens) → d.relates m.chip m.world ((f, opened origin tag) ∷ paired us m.opens) m.state) → Matches d chip us m → Matches d chip (beginning f tag ∷ us) (record m { opens = opened origin tag ∷ m.opens })
  put-on chip us m f origin tag class e above fuel keep k =
      let out = none-inside (is_masked m.chip) m.opens e k.guarded in
      record {
        chip_is = k.chip_is;
        frames = (record { tag = refl; noted = refl; class = class; steps = omega arith; window = omega arith; room = λ inside. cc }, k.frames);
        relates = keep (outside-paired us m.opens out);
        guarded = (e, out);
        counted = k.counted;
        levels = (above, k.levels);
        rate = k.rate;
        outside = k.outside;
        hung = k.hung;
        enabled = k.enabled;
        unloaded = k.unloaded;
      }

module _ {State Call Frame : Type 0} (d : Driver State Call Frame) (move_of : Frame → Move) (left : Frame → ℕ → Frame) (gave : Frame → ℕ → Taken) (law : IsLawful d move_of left gave) where
  -- a call begins, or is held
  pub stands-begin : {A : Type 0} (first : Chip) (h : List (Transition Call)) (chip : Chip) (k : Kept Frame) (r : Result A Held) (c : Call) (level : ℕ) → d.can_call c → cause_of r ≡ call_cause (is_masked chip) (tags_under k.frames) (top_is_noted k.frames) (d.setting.class_of c) level → Stands d first chip k.frames h → Stands d first chip (put_by r (beginning (d.frame_of c) (call_tag d.setting c level)) k).frames (h ++ done r (Begins c level))
  stands-begin first h chip k (Err cause) c level can is st = subst (λ x. Stands d first chip k.frames x) (sym (append-nil h)) st
  stands-begin first h chip k (Ok a) c level can is st =
      let us = k.frames in
      let m = after_all d.setting (start_moment d.setting first) h in
      let mm = st.matches in
      let none : call_cause (is_masked chip) (tags_under us) (top_is_noted us) (d.setting.class_of c) level ≡ None = sym is in
      let x = first-none (is_masked chip) (not (call_level_allows (tags_under us) (top_is_noted us) level)) (not (may_reenter (d.setting.class_of c) (tags_under us))) false (is_full (tags_under us)) none in
      let reenters : may_reenter (d.setting.class_of c) (tags_in (paired us m.opens)) ≡ true = ap (may_reenter (d.setting.class_of c)) (tags-in d us m.opens mm.frames) ∙ not-false (may_reenter (d.setting.class_of c) (tags_under us)) x.1 in
      let e : is_masked m.chip ≡ false = ap is_masked (sym mm.chip_is) ∙ x.0 in
      let allowed : call_level_allows (tags_of m.opens) (top_noted m.opens) level ≡ true = sym (ap (λ ts. call_level_allows ts (top_is_noted us) level) (tags-are d us m.opens mm.frames) ∙ ap (λ b. call_level_allows (tags_of m.opens) b level) (noted-is d us m.opens mm.frames)) ∙ not-false (call_level_allows (tags_under us) (top_is_noted us) level) x.3 in
      let above : none_above (tags_of m.opens) level ≡ true = call-above (tags_of m.opens) (top_noted m.opens) level mm.levels allowed in
      let above_in : none_above (tags_in (paired us m.opens)) level ≡ true = ap (λ ts. none_above ts level) (tags-in d us m.opens mm.frames ∙ tags-are d us m.opens mm.frames) ∙ above in
      let legal : call_cause (is_masked m.chip) (tags_of m.opens) (top_noted m.opens) (d.setting.class_of c) level ≡ None =
      ap (λ b. call_cause (is_masked b) (tags_of m.opens) (top_noted m.opens) (d.setting.class_of c) level) (sym mm.chip_is)
      ∙ (ap (λ ts. call_cause (is_masked chip) ts (top_noted m.opens) (d.setting.class_of c) level) (sym (tags-are d us m.opens mm.frames))
      ∙ (ap (λ b. call_cause (is_masked chip) (tags_under us) b (d.setting.class_of c) level) (sym (noted-is d us m.opens mm.frames)) ∙ none)) in
      stands-on d move_of left gave law first chip chip us (beginning (d.frame_of c) (call_tag d.setting c level) ∷ us) h (Begins c level) st tt st.alive legal
      (put-on d chip us m (d.frame_of c) (Called c) (call_tag d.setting c level) refl e above (law.call_fuel c can) (λ out. law.begins m.chip m.world (paired us m.opens) m.state c level can e out reenters above_in mm.relates) mm)

  -- a handler begins, or is held
  pub stands-enter : {A : Type 0} (first : Chip) (h : List (Transition Call)) (chip : Chip) (k : Kept Frame) (r : Result A Held) (line : ℕ) (handler : Option Frame) → d.handler_of line ≡ handler → cause_of r ≡ line_cause (is_masked chip) (tags_under k.frames) (d.setting.level_of line) (is_some handler && is_pending chip line) → Stands d first chip k.frames h → Stands d first chip (enter_by r handler (line_tag d.setting line) k).frames (h ++ done r (Enters line))
  stands-enter first h chip k (Err cause) line None there is st = subst (λ x. Stands d first chip k.frames x) (sym (append-nil h)) st
  stands-enter first h chip k (Err cause) line (Some f) there is st = subst (λ x. Stands d first chip k.frames x) (sym (append-nil h)) st
  stands-enter first h chip k (Ok a) line None there is st =
      let x = first-none (is_masked chip) (not (line_level_allows (tags_under k.frames) (d.setting.level_of line))) false true (is_full (tags_under k.frames)) (sym is) in
      let e = x.2 in cc
  stands-enter first h chip k (Ok a) line (Some f) there is st =
      let us = k.frames in
      let m = after_all d.setting (start_moment d.setting first) h in
      let mm = st.matches in
      let level = d.setting.level_of line in
      let none : line_cause (is_masked chip) (tags_under us) level (is_pending chip line) ≡ None = sym is in
      let x = first-none (is_masked chip) (not (line_level_allows (tags_under us) level)) false (not (is_pending chip line)) (is_full (tags_under us)) none in
      let e : is_masked m.chip ≡ false = ap is_masked (sym mm.chip_is) ∙ x.0 in
      let allowed : line_level_allows (tags_of m.opens) level ≡ true = sym (ap (λ ts. line_level_allows ts level) (tags-are d us m.opens mm.frames)) ∙ not-false (line_level_allows (tags_under us) level) x.3 in
      let under : all_below (tags_of m.opens) level ≡ true = line-above (tags_of m.opens) level mm.levels allowed in
      let under_in : all_below (tags_in (paired us m.opens)) level ≡ true = ap (λ ts. all_below ts level) (tags-in d us m.opens mm.frames ∙ tags-are d us m.opens mm.frames) ∙ under in
      let pending : is_pending m.chip line ≡ true = ap (λ b. is_pending b line) (sym mm.chip_is) ∙ not-false (is_pending chip line) x.2 in
      let legal : line_cause (is_masked m.chip) (tags_of m.opens) level (is_pending m.chip line) ≡ None =
      ap (λ b. line_cause (is_masked b) (tags_of m.opens) level (is_pending b line)) (sym mm.chip_is)
      ∙ (ap (λ ts. line_cause (is_masked chip) ts level (is_pending chip line)) (sym (tags-are d us m.opens mm.frames)) ∙ none) in
      stands-on d move_of left gave law first chip chip us (beginning f (line_tag d.setting line) ∷ us) h (Enters line) st tt st.alive legal
      (put-on d chip us m f (Entered line) (line_tag d.setting line) refl e (below-above (tags_of m.opens) level under) (law.line_fuel line f there) (λ out. law.enters m.chip m.world (paired us m.opens) m.state line f there e pending out under_in mm.relates) mm)

  -- the hardware moves, within the watchdog's time
  happens-right : (chip : Chip) (us : List (Under Frame)) (m : Moment State Call) (order : Order) → CanHappen chip order → hardware_held d.setting m order ≡ None → TicksOf d order (expiry_of chip) → Matches d chip us m → IsLegalDeed d.setting m (Happens order) × Matches d (happened chip order) us (after d.setting m (Happens order))
  happens-right chip us m order can free fit mm =
      let can_here : CanHappen m.chip order = subst (λ c. CanHappen c order) mm.chip_is can in
      let fit_here : TicksOf d order (d.setting.machine.expires m.world m.state) = subst (λ t. TicksOf d order t) (ap expiry_of mm.chip_is ∙ sym (left-is d move_of left gave law chip us m mm)) fit in
      let may = subst (λ os. IsFree d.setting (is_masked m.chip) m.world m.state os order) (sym (origins-in d us m.opens mm.frames)) (free-of d m.chip (is_masked m.chip) m.world m.state (origins_of m.opens) order fit_here can_here free) in
      let t = law.moves m.chip m.world (paired us m.opens) m.state order may (λ e. outside-paired us m.opens (none-inside (is_masked m.chip) m.opens e mm.guarded)) mm.relates in (
        (free, subst (λ o. IsSome o) (sym t.1) refl),
        record {
          chip_is = ap (λ c. happened c order) mm.chip_is;
          frames = mm.frames;
          relates = subst (λ n. d.relates (happened m.chip order) (world_after m.world n order) (paired us m.opens) (state_by m.state (d.setting.machine.happens m.world m.state (Moves order)))) mm.rate
              (subst (λ o. d.relates (happened m.chip order) (world_after m.world m.chip.clock.rate order) (paired us m.opens) (state_by m.state o)) (sym t.1) t.2);
          guarded = subst (λ b. IsGuarded b m.opens) (sym (mask-happened m.chip order)) mm.guarded;
          counted = let c = law.count_moves m.world m.state order t.0 t.1 in subst (λ o. d.count (state_by m.state o) ≤ m.steps) (sym t.1) (let k = mm.counted in omega (arith, c, k));
          levels = mm.levels;
          rate = rate-event m.chip order ∙ (mm.rate ∙ (sym (law.rate_moves m.world m.state order t.0 t.1) ∙ ap (λ o. d.setting.machine.rate (state_by m.state o)) (sym t.1)));
          outside = subst (λ n. StandsIn (happened m.chip order) (world_after m.world n order)) mm.rate (stands-event m.chip m.world order (fills-there m.chip order can_here) mm.outside);
          hung = devices-after m.chip m.world (d.setting.machine.rate m.state) order mm.hung;
          enabled = λ line apart. ap (λ n. has_bit n line) (enabled-happened m.chip order) ∙ mm.enabled line apart;
          unloaded = λ lacks. none-happened m.chip order (mm.unloaded lacks);
        },
      )

  -- the hardware moves
  pub stands-happens : (first : Chip) (h : List (Transition Call)) (chip : Chip) (us : List (Under Frame)) (order : Order) → CanHappen chip order → EndsBefore order (expiry_of chip) → hardware_held d.setting (after_all d.setting (start_moment d.setting first) h) order ≡ None → Stands d first chip us h → Stands d first (happened chip order) us (h ++ Happens order ∷ [])
  stands-happens first h chip us order can early free st =
      let m = after_all d.setting (start_moment d.setting first) h in
      let k = happens-right chip us m order can free (early-fits d order (expiry_of chip) early) st.matches in
      stands-on d move_of left gave law first chip (happened chip order) us us h (Happens order) st early (over-happened chip order early st.alive) k.0 k.1

  -- the chip is reset, and every frame dropped
  resets-right : (chip : Chip) (us : List (Under Frame)) (m : Moment State Call) (reason : Reason) → Matches d chip us m → IsLegalDeed d.setting m (Resets reason) × Matches d (reset_chip chip reason) [] (after d.setting m (Resets reason))
  resets-right chip us m reason mm =
      let t = law.resets m.chip m.world (paired us m.opens) m.state reason mm.relates in (
        subst (λ o. IsSome o) (sym t.1) refl,
        record {
          chip_is = ap (λ c. reset_chip c reason) mm.chip_is;
          frames = tt;
          relates = subst (λ o. d.relates (reset_chip m.chip reason) m.world [] (state_by m.state o)) (sym t.1) t.2;
          guarded = refl;
          counted = let c = law.count_resets m.world m.state reason t.0 t.1 in subst (λ o. d.count (state_by m.state o) ≤ m.steps) (sym t.1) (let k = mm.counted in omega (arith, c, k));
          levels = tt;
          rate = law.rate_resets m.chip m.world m.state reason t.0 t.1 ∙ ap (λ o. d.setting.machine.rate (state_by m.state o)) (sym t.1);
          outside = stands-reset m.chip m.world reason mm.outside;
          hung = mm.hung;
          enabled = λ line apart. has_bit-zero line;
          unloaded = λ lacks. refl;
        },
      )

  pub stands-resets : (first : Chip) (h : List (Transition Call)) (chip : Chip) (us : List (Under Frame)) (reason : Reason) → Stands d first chip us h → Stands d first (reset_chip chip reason) [] (h ++ Resets reason ∷ [])
  stands-resets first h chip us reason st =
      let k = resets-right chip us (after_all d.setting (start_moment d.setting first) h) reason st.matches in
      stands-on d move_of left gave law first chip (reset_chip chip reason) us [] h (Resets reason) st tt tt k.0 k.1

  -- ticks to the end of the watchdog's time, and its reset
  reset-timely : (left : Option ℕ) → InTime {Call = Call} left (Resets Watchdog)
  reset-timely None = tt
  reset-timely (Some n) = tt

  pub stands-runs-out : (first : Chip) (h : List (Transition Call)) (chip : Chip) (us : List (Under Frame)) (n : ℕ) → CanHappen chip (orders.Tick n) → expiry_of chip ≡ Some n → Stands d first chip us h → Stands d first (reset_chip (happened chip (orders.Tick n)) Watchdog) [] (h ++ Happens (orders.Tick n) ∷ Resets Watchdog ∷ [])
  stands-runs-out first h chip us n can ends st =
      let g = d.setting in
      let m = after_all g (start_moment g first) h in
      let alive : 0 < n = subst NotOver ends st.alive in
      let left_here : g.machine.expires m.world m.state ≡ Some n = left-is d move_of left gave law chip us m st.matches ∙ ap expiry_of (sym st.matches.chip_is) ∙ ends in
      let in_time : InTime {Call = Call} (g.machine.expires m.world m.state) (Happens (orders.Tick n)) = subst (λ t. InTime {Call = Call} t (Happens (orders.Tick n))) (sym left_here) (alive, omega arith) in
      let k = happens-right chip us m (orders.Tick n) can refl (subst (λ t. TicksOf d (orders.Tick n) t) (sym ends) (omega arith)) st.matches in
      let m1 = after g m (Happens (orders.Tick n)) in
      let to_m1 : after_all g (start_moment g first) (h ++ Happens (orders.Tick n) ∷ []) ≡ m1 = after_all-append g (start_moment g first) h (Happens (orders.Tick n)) in
      let r = resets-right (happened chip (orders.Tick n)) us m1 Watchdog k.1 in
      let legal1 = legal-append g (start_moment g first) h (Happens (orders.Tick n)) st.legal in_time k.0 (served-of d move_of left gave law (happened chip (orders.Tick n)) us m1 k.1) in
      let both = legal-append g (start_moment g first) (h ++ Happens (orders.Tick n) ∷ []) (Resets Watchdog) legal1 (reset-timely (g.machine.expires (after_all g (start_moment g first) (h ++ Happens (orders.Tick n) ∷ [])).world (after_all g (start_moment g first) (h ++ Happens (orders.Tick n) ∷ [])).state)) (subst (λ x. IsLegalDeed g x (Resets Watchdog)) (sym to_m1) r.0) (subst (λ x. IsServed g (after g x (Resets Watchdog))) (sym to_m1) (served-of d move_of left gave law (reset_chip (happened chip (orders.Tick n)) Watchdog) [] (after g m1 (Resets Watchdog)) r.1)) in
      subst (λ ds. Stands d first (reset_chip (happened chip (orders.Tick n)) Watchdog) [] ds) (append_assoc h (Happens (orders.Tick n) ∷ []) (Resets Watchdog ∷ []))
      (record {
        legal = both;
        matches = subst (λ x. Matches d (reset_chip (happened chip (orders.Tick n)) Watchdog) [] x) (sym (after_all-append g (start_moment g first) (h ++ Happens (orders.Tick n) ∷ []) (Resets Watchdog) ∙ ap (λ x. after g x (Resets Watchdog)) to_m1)) r.1;
        alive = tt;
      })

  -- the same, from what the runner's calls ensure

  pub after-begin : {A : Type 0} (first : Chip) (h : List (Transition Call)) (chip : Chip) (k k1 : Kept Frame) (r : Result A Held) (c : Call) (level : ℕ) → cause_of r ≡ call_cause (is_masked chip) (tags_under k.frames) (top_is_noted k.frames) (d.setting.class_of c) level → k1 ≡ put_by r (beginning (d.frame_of c) (call_tag d.setting c level)) k → d.can_call c → Stands d first chip k.frames h → Stands d first chip k1.frames (h ++ done r (Begins c level))
  after-begin first h chip k k1 r c level is new can st = subst (λ x. Stands d first chip x.frames (h ++ done r (Begins c level))) (sym new) (stands-begin first h chip k r c level can is st)

  pub after-enter : {A : Type 0} (first : Chip) (h : List (Transition Call)) (chip : Chip) (k k1 : Kept Frame) (r : Result A Held) (line : ℕ) → cause_of r ≡ line_cause (is_masked chip) (tags_under k.frames) (d.setting.level_of line) (is_some (d.handler_of line) && is_pending chip line) → k1 ≡ enter_by r (d.handler_of line) (line_tag d.setting line) k → Stands d first chip k.frames h → Stands d first chip k1.frames (h ++ done r (Enters line))
  after-enter first h chip k k1 r line is new st = subst (λ x. Stands d first chip x.frames (h ++ done r (Enters line))) (sym new) (stands-enter first h chip k r line (d.handler_of line) refl is st)

  pub after-hardware : (first : Chip) (h : List (Transition Call)) (chip chip1 : Chip) (us : List (Under Frame)) (order : Order) → chip1 ≡ happened chip order → CanHappen chip order → EndsBefore order (expiry_of chip) → hardware_held d.setting (after_all d.setting (start_moment d.setting first) h) order ≡ None → Stands d first chip us h → Stands d first chip1 us (h ++ Happens order ∷ [])
  after-hardware first h chip chip1 us order is can early free st = subst (λ x. Stands d first x us (h ++ Happens order ∷ [])) (sym is) (stands-happens first h chip us order can early free st)

  pub after-reset : (first : Chip) (h : List (Transition Call)) (chip chip1 : Chip) (k k1 : Kept Frame) (reason : Reason) → chip1 ≡ reset_chip chip reason → k1 ≡ record k { frames = [] } → Stands d first chip k.frames h → Stands d first chip1 k1.frames (h ++ Resets reason ∷ [])
  after-reset first h chip chip1 k k1 reason is new st =
      subst (λ x. Stands d first x k1.frames (h ++ Resets reason ∷ [])) (sym is)
      (subst (λ x. Stands d first (reset_chip chip reason) x.frames (h ++ Resets reason ∷ [])) (sym new) (stands-resets first h chip k.frames reason st))

  pub after-end : (first : Chip) (h : List (Transition Call)) (chip chip1 chip2 : Chip) (k k1 : Kept Frame) (n : ℕ) → chip1 ≡ happened chip (orders.Tick n) → chip2 ≡ reset_chip chip1 Watchdog → k1 ≡ record k { frames = [] } → CanHappen chip (orders.Tick n) → expiry_of chip ≡ Some n → Stands d first chip k.frames h → Stands d first chip2 k1.frames (h ++ Happens (orders.Tick n) ∷ Resets Watchdog ∷ [])
  after-end first h chip chip1 chip2 k k1 n ticks is new can ends st =
      subst (λ x. Stands d first x k1.frames (h ++ Happens (orders.Tick n) ∷ Resets Watchdog ∷ [])) (sym (is ∙ ap (λ c. reset_chip c Watchdog) ticks))
      (subst (λ x. Stands d first (reset_chip (happened chip (orders.Tick n)) Watchdog) x.frames (h ++ Happens (orders.Tick n) ∷ Resets Watchdog ∷ [])) (sym new) (stands-runs-out first h chip k.frames n can ends st))
