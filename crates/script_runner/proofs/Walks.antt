-- The steps of a directive, one after another.
use Rattle.std.proofs.Common.{◌≡◌, ℕ, ◌+◌, ◌-◌, ◌*◌, ◌<◌, ◌≤◌, Bool, true, false, ◌||◌, List, [], ◌∷◌, ◌++◌, length, Option, Some, None, is_some, refl, sym, ◌∙◌, ap, subst, arith, append_assoc, append-nil, length-append}
use Rattle.std.specs.Bool.{OnTrue, OnFalse}
use Rattle.chip_model.specs.Chip.{Chip, now_of}
use Rattle.mcal_base.specs.declared.answer.Answer.{Answer}
use Rattle.mcal_base.specs.declared.directive.Directive.{Directive}
use Rattle.mcal_base.specs.declared.directive.Order.{Order}
use Rattle.mcal_base.specs.declared.directive.Order.TheVariants as orders
use Rattle.mcal_base.specs.declared.directive.Request.{Request}
use Rattle.mcal_base.specs.declared.moves.Move.{Move}
use Rattle.mcal_base.specs.declared.routine.Taken.{Taken}
use Rattle.run_model.specs.declared.item.Stepped.{Stepped}
use Rattle.run_model.specs.declared.stop_condition.StopCondition.{StopCondition}
use Rattle.mcal_base.specs.declared.directive.Reason.TheVariants.{Watchdog, Software}
use Rattle.run_model.specs.Entry.{Entry, Steps, Happens, Resets, Written, written, words_of_answer}
use Rattle.run_model.specs.Follows.{GoesOn, deeds_in, is_reached}
use Rattle.run_model.specs.Frame.{resets_chip}
use Rattle.run_model.specs.Moment as moment
use Rattle.run_model.specs.Moment.{Moment, after_all}
use Rattle.run_model.proofs.Following.{after_all-append, deeds_in-append, Went, Not_yet, Readies, went_more, goes_on_to, goes_on_to_reset, goes_on_to_end, went_deeds}
use Rattle.step_runner.specs.Driver.{Driver, IsLawful}
use Rattle.step_runner.specs.Kept.{Kept, upcoming_of}
use Rattle.step_runner.specs.declared.stack.Under.{Under}
use Rattle.run_model.specs.Script.{deeds_of}
use Rattle.run_model.specs.Stops.{GoesToStop, steps_in}
use Rattle.step_runner.specs.Stands.{Stands}
use Rattle.script_runner.specs.Busy.{busies}
use Rattle.script_runner.specs.Standing.{moment_of, IsStanding, HasRoom, HasTime, NearTime, TookStep, RanOut, Waited, WentFar, IsStuck, room_on, work_of}
use Rattle.script_runner.proofs.Taken.{has_fuel, few_steps}
use Rattle.script_runner.proofs.Arms.{depth_is, deeds_more, moment_more}
use Rattle.script_runner.proofs.Stops.{stops_through, waits_to_stop, ready_deeds, no_step_counted, two_counted}

-- Steps were made, at none of which the directive stops.
pub record Walked {State Call Frame : Type 0} (d : Driver State Call Frame) (first : Chip) (call_of : Request → Call) (script : List Directive) (most line : ℕ) (reach : StopCondition) (chip : Chip) (k : Kept Frame) (before : Written) (made : ℕ) (chip1 : Chip) (k1 : Kept Frame) (after : Written) : Type 0 where
  pub items : List Entry
  pub is : after.entries ≡ before.entries ++ items
  pub went : Went d.setting line reach 0 (moment_of d first call_of script before.entries) items made (moment_of d first call_of script after.entries)
  pub stands : IsStanding d first call_of script chip1 k1.frames after.entries
  pub taken : k1.steps ≡ k.steps + made
  pub few : k1.steps ≤ most
  pub frame : 0 < length k1.frames
  pub room : after.room ≡ before.room
  pub words_room : after.words_room ≡ before.words_room
  pub count : 2 * length after.entries + busies chip1 ≤ 2 * length before.entries + busies chip + 3 * made
  pub counted : steps_in after.entries ≡ steps_in before.entries + made
  pub words : after.words ≡ before.words
  pub time : NearTime made chip chip1
  pub spent : work_of d k1 ≤ work_of d k

-- there is time and room for one step more
pub time_left : (most taken made taken1 : ℕ) (chip chip1 : Chip) → taken1 ≡ taken + made → taken1 ≤ most → NearTime made chip chip1 → HasTime most taken chip → HasTime most taken1 chip1
time_left most taken made taken1 chip chip1 e few near h = let a = near.osc in let b = near.now in let c = h.osc in let f = h.now in record { osc = omega (arith, e, few, a, c); now = omega (arith, e, few, b, f) }

pub room_left : (most taken made taken1 others : ℕ) (chip : Chip) (before : Written) (chip1 : Chip) (after : Written) → taken1 ≡ taken + made → taken1 ≤ most → after.room ≡ before.room → after.words_room ≡ before.words_room → 2 * length after.entries + busies chip1 ≤ 2 * length before.entries + busies chip + 3 * made → steps_in after.entries ≡ steps_in before.entries + made → after.words ≡ before.words → HasRoom most taken others chip before → HasRoom most taken1 others chip1 after
room_left most taken made taken1 others chip before chip1 after e few room words_room count counted words h =
    let a = h.items in
    let b = h.words in
    let c = h.counted in
    let w : length after.words ≡ length before.words = ap length words in
    record { steps = few; items = omega (arith, e, few, room, count, a); words = omega (arith, words_room, b, w); counted = omega (arith, counted, c, e) }

-- waits after waits
near_more : (a b n : ℕ) (x y z : Chip) → n ≡ a + b → NearTime a x y → NearTime b y z → NearTime n x z
near_more a b n x y z e h k = let h1 = h.osc in let k1 = k.osc in let h2 = h.now in let k2 = k.now in record { osc = omega (arith, e, h1, k1); now = omega (arith, e, h2, k2); room = λ u. k.room u ∙ h.room u }

none-near : (x : Chip) → NearTime 0 x x
none-near x = record { osc = omega arith; now = omega arith; room = λ u. refl }

pub same-near : (x y : Chip) → y.clock.osc ≡ x.clock.osc → now_of y ≡ now_of x → ((u : ℕ) → room_on y u ≡ room_on x u) → NearTime 0 x y
same-near x y osc now room = record { osc = omega (arith, osc); now = omega (arith, now); room = room }

near-later : (a n : ℕ) (x y : Chip) → a ≤ n → NearTime a x y → NearTime n x y
near-later a n x y le h = let h1 = h.osc in let h2 = h.now in record { osc = omega (arith, le, h1); now = omega (arith, le, h2); room = h.room }

module _ {State Call Frame : Type 0} (d : Driver State Call Frame) (first : Chip) (call_of : Request → Call) (script : List Directive) (most line : ℕ) (reach : StopCondition) where
  -- before the first step
  pub walk_start : (chip : Chip) (k : Kept Frame) (before : Written) → IsStanding d first call_of script chip k.frames before.entries → k.steps ≤ most → 0 < length k.frames → Walked d first call_of script most line reach chip k before 0 chip k before
  walk_start chip k before stands few frame = record {
    items = [];
    is = sym (append-nil before.entries);
    went = Not_yet 0 (moment_of d first call_of script before.entries);
    stands = stands;
    taken = omega arith;
    few = few;
    frame = frame;
    room = refl;
    words_room = refl;
    count = omega arith;
    counted = omega arith;
    words = refl;
    time = none-near chip;
    spent = omega arith;
  }

  -- one more step, at which it goes on
  pub walk_more : (chip : Chip) (k : Kept Frame) (before : Written) (made : ℕ) (chip1 : Chip) (k1 : Kept Frame) (between : Written) (s : Stepped) (chip2 : Chip) (k2 : Kept Frame) (after : Written) → Walked d first call_of script most line reach chip k before made chip1 k1 between → TookStep d first call_of script most line chip1 k1 between s chip2 k2 after → resets_chip s.made ≡ false → s.ended ≡ None → is_some s.ended || is_reached reach (made + 1) s ≡ false → Walked d first call_of script most line reach chip k before (made + 1) chip2 k2 after
  walk_more chip k before made chip1 k1 between s chip2 k2 after w t r on go =
      let e : Entry = record { line = line; depth = length t.at.opens; said = Steps s } in
      let items = t.items in
      let count = w.count in
      record {
        items = w.items ++ (t.waits ++ e ∷ []);
        is = t.is ∙ ap (λ es. es ++ (t.waits ++ e ∷ [])) w.is ∙ append_assoc before.entries w.items (t.waits ++ e ∷ []);
        went = subst (λ m. Went d.setting line reach 0 (moment_of d first call_of script before.entries) (w.items ++ (t.waits ++ e ∷ [])) (made + 1) m) (sym t.leads) (went_more d.setting line reach s t.waits t.at w.went t.ready r go);
        stands = t.stands;
        taken = omega (arith, t.steps, w.taken);
        few = omega (arith, t.steps, t.few);
        frame = t.goes on;
        room = t.room ∙ w.room;
        words_room = t.words_room ∙ w.words_room;
        count = omega (arith, items, count);
        counted = omega (arith, t.counted, w.counted);
        words = t.words ∙ ap (λ a. between.words ++ words_of_answer a) on ∙ append-nil between.words ∙ w.words;
        time = near_more made 1 (made + 1) chip chip1 chip2 refl w.time t.time;
        spent = omega (arith, t.spent, w.spent);
      }

  -- where the items of the steps lead, with a step more and what follows it
  leads_on : (order : Order) (m m1 : Moment State Call) (items : List Entry) (made : ℕ) (s : Stepped) (waits : List Entry) (at : Moment State Call) (more : List Entry) → Went d.setting line reach 0 m items made m1 → Readies d.setting line m1 s waits at → after_all d.setting m (deeds_in call_of order (items ++ (waits ++ (record { line = line; depth = length at.opens; said = Steps s }) ∷ more))) ≡ after_all d.setting (moment.after d.setting at (moment.Steps s)) (deeds_in call_of order more)
  leads_on order m m1 items made s waits at more went ready =
      let e : Entry = record { line = line; depth = length at.opens; said = Steps s } in
      ap (λ ds. after_all d.setting m ds) (deeds_in-append call_of order items (waits ++ e ∷ more))
      ∙ after_all-append d.setting m (deeds_in call_of order items) (deeds_in call_of order (waits ++ e ∷ more))
      ∙ ap (λ x. after_all d.setting x (deeds_in call_of order (waits ++ e ∷ more))) (went_deeds d.setting line reach call_of order went)
      ∙ ap (λ ds. after_all d.setting m1 ds) (deeds_in-append call_of order waits (e ∷ more))
      ∙ after_all-append d.setting m1 (deeds_in call_of order waits) (deeds_in call_of order (e ∷ more))
      ∙ ap (λ x. after_all d.setting x (deeds_in call_of order (e ∷ more))) (ready_deeds d.setting call_of order line ready)

  -- a last step, at which it stops
  pub walk_end : (chip : Chip) (k : Kept Frame) (before : Written) (made : ℕ) (chip1 : Chip) (k1 : Kept Frame) (between : Written) (s : Stepped) (chip2 : Chip) (k2 : Kept Frame) (after : Written) → Walked d first call_of script most line reach chip k before made chip1 k1 between → TookStep d first call_of script most line chip1 k1 between s chip2 k2 after → resets_chip s.made ≡ false → is_some s.ended || is_reached reach (made + 1) s ≡ true → WentFar d first call_of script most line reach chip k before chip2 k2 after
  walk_end chip k before made chip1 k1 between s chip2 k2 after w t r stop =
      let e : Entry = record { line = line; depth = length t.at.opens; said = Steps s } in
      let m = moment_of d first call_of script before.entries in
      let items = t.items in
      let count = w.count in
      let words_are : after.words ≡ between.words ++ words_of_answer s.ended = t.words in
      record {
        adds = λ order. record {
          items = w.items ++ (t.waits ++ e ∷ []);
          is = t.is ∙ ap (λ es. es ++ (t.waits ++ e ∷ [])) w.is ∙ append_assoc before.entries w.items (t.waits ++ e ∷ []);
          right = goes_on_to d.setting line reach s t.waits t.at w.went t.ready r stop;
          leads = leads_on order m (moment_of d first call_of script between.entries) w.items made s t.waits t.at [] w.went t.ready ∙ sym t.leads;
          stands = t.stands;
        };
        filled = record {
          steps = omega (arith, t.steps, t.few);
          counted = omega (arith, t.counted, w.counted, t.steps, w.taken);
          room = t.room ∙ w.room;
          words_room = t.words_room ∙ w.words_room;
          items = omega (arith, items, count, t.steps, w.taken, t.few);
          words = rw words_are (omega (arith, length-append between.words (words_of_answer s.ended), t.short, ap length w.words));
        };
        more = omega (arith, t.steps, w.taken);
        time = near-later (made + 1) (k2.steps - k.steps + 1) chip chip2 (omega (arith, t.steps, w.taken)) (near_more made 1 (made + 1) chip chip1 chip2 refl w.time t.time);
        spent = omega (arith, t.spent, w.spent);
      }

  -- a last step, which resets the chip
  pub walk_reset : (chip : Chip) (k : Kept Frame) (before : Written) (made : ℕ) (chip1 : Chip) (k1 : Kept Frame) (between : Written) (s : Stepped) (chip2 : Chip) (k2 : Kept Frame) (stepped : Written) (chip3 : Chip) (k3 : Kept Frame) (after : Written) → Walked d first call_of script most line reach chip k before made chip1 k1 between → TookStep d first call_of script most line chip1 k1 between s chip2 k2 stepped → resets_chip s.made ≡ true → NearTime 0 chip2 chip3 → busies chip3 ≡ 0 → k3.steps ≡ k2.steps → work_of d k3 ≤ work_of d k2 → after ≡ written stepped line (length k2.frames) (Resets Software (length k2.frames)) [] → Stands d first chip3 k3.frames (deeds_of call_of script stepped.entries ++ moment.Resets Software ∷ []) → WentFar d first call_of script most line reach chip k before chip3 k3 after
  walk_reset chip k before made chip1 k1 between s chip2 k2 stepped chip3 k3 after w t r time none steps less is stands =
      let e : Entry = record { line = line; depth = length t.at.opens; said = Steps s } in
      let f : Entry = record { line = line; depth = length k2.frames; said = Resets Software (length k2.frames) } in
      let m = moment_of d first call_of script before.entries in
      let m1 = moment_of d first call_of script between.entries in
      let m2 = moment.after d.setting t.at (moment.Steps s) in
      let after_is : moment_of d first call_of script after.entries ≡ moment.after d.setting (moment_of d first call_of script stepped.entries) (moment.Resets Software) =
      ap (λ x. moment_of d first call_of script x.entries) is ∙ moment_more d first call_of script stepped.entries f (moment.Resets Software ∷ []) refl in
      let n2 : length k2.frames ≡ length m2.opens = depth_is d first call_of script chip2 k2.frames stepped.entries t.stands ∙ ap (λ x. length x.opens) t.leads in
      let words_are : after.words ≡ between.words ++ words_of_answer s.ended = ap (λ x. x.words) is ∙ append-nil stepped.words ∙ t.words in
      let f_is : f ≡ (let x : Entry = record { line = line; depth = length m2.opens; said = Resets Software (length m2.opens) } in x) = ap (λ n. let x : Entry = record { line = line; depth = n; said = Resets Software n } in x) n2 in
      let items = t.items in
      let count = w.count in
      let more : length after.entries ≡ length stepped.entries + 1 = ap (λ x. length x.entries) is ∙ length-append stepped.entries (f ∷ []) in
      let counted = no_step_counted line (length k2.frames) (Resets Software (length k2.frames)) [] k2.steps k3.steps stepped after refl steps is in
      record {
        adds = λ order. record {
          items = w.items ++ (t.waits ++ e ∷ f ∷ []);
          is = ap (λ x. x.entries) is ∙ ap (λ es. es ++ f ∷ []) (t.is ∙ ap (λ es. es ++ (t.waits ++ e ∷ [])) w.is ∙ append_assoc before.entries w.items (t.waits ++ e ∷ [])) ∙ append_assoc before.entries (w.items ++ (t.waits ++ e ∷ [])) (f ∷ []) ∙ ap (λ es. before.entries ++ es) (append_assoc w.items (t.waits ++ e ∷ []) (f ∷ []) ∙ ap (λ es. w.items ++ es) (append_assoc t.waits (e ∷ []) (f ∷ [])));
          right = subst (λ x. GoesOn d.setting line reach 0 m (w.items ++ (t.waits ++ e ∷ x ∷ []))) (sym f_is) (goes_on_to_reset d.setting line reach s t.waits t.at w.went t.ready r);
          leads = leads_on order m m1 w.items made s t.waits t.at (f ∷ []) w.went t.ready ∙ ap (λ x. moment.after d.setting x (moment.Resets Software)) (sym t.leads) ∙ sym after_is;
          stands = subst (λ x. IsStanding d first call_of script chip3 k3.frames x.entries) (sym is) (subst (λ h. Stands d first chip3 k3.frames h) (sym (deeds_more d first call_of script stepped.entries f (moment.Resets Software ∷ []) refl)) stands);
        };
        filled = record {
          steps = omega (arith, t.steps, t.few, steps);
          counted = omega (arith, t.counted, counted, w.counted, t.steps, w.taken, steps);
          room = ap (λ x. x.room) is ∙ t.room ∙ w.room;
          words_room = ap (λ x. x.words_room) is ∙ t.words_room ∙ w.words_room;
          items = omega (arith, items, count, more, none, t.steps, w.taken, t.few, steps);
          words = rw words_are (omega (arith, length-append between.words (words_of_answer s.ended), t.short, ap length w.words));
        };
        more = omega (arith, t.steps, w.taken, steps);
        time = near-later (made + 1) (k3.steps - k.steps + 1) chip chip3 (omega (arith, t.steps, w.taken, steps)) (near_more (made + 1) 0 (made + 1) chip chip2 chip3 (omega arith) (near_more made 1 (made + 1) chip chip1 chip2 refl w.time t.time) time);
        spent = omega (arith, less, t.spent, w.spent);
      }

  -- a wait in which the watchdog's time ends
  pub walk_out : (chip : Chip) (k : Kept Frame) (before : Written) (made : ℕ) (chip1 : Chip) (k1 : Kept Frame) (between : Written) (chip2 : Chip) (k2 : Kept Frame) (after : Written) → Walked d first call_of script most line reach chip k before made chip1 k1 between → RanOut d first call_of script line chip1 k1 between chip2 k2 after → WentFar d first call_of script most line reach chip k before chip2 k2 after
  walk_out chip k before made chip1 k1 between chip2 k2 after w o =
      let m = moment_of d first call_of script before.entries in
      let m1 = moment_of d first call_of script between.entries in
      let down = o.down in
      let e : Entry = record { line = line; depth = length k1.frames; said = Happens (orders.Tick o.left) } in
      let f : Entry = record { line = line; depth = length k1.frames; said = Resets Watchdog (length k1.frames) } in
      let n1 = depth_is d first call_of script chip1 k1.frames between.entries w.stands in
      let count = w.count in
      let none : busies chip2 ≡ 0 = ap busies down.chip_is in
      let more : length after.entries ≡ length between.entries + 2 = ap length down.is ∙ length-append between.entries (e ∷ f ∷ []) in
      let counted : steps_in after.entries ≡ steps_in between.entries = ap (λ es. steps_in es) down.is ∙ two_counted between.entries e f refl refl in
      let steps : k2.steps ≡ k1.steps = ap (λ x. x.steps) down.frames in
      record {
        adds = λ order. record {
          items = w.items ++ e ∷ f ∷ [];
          is = down.is ∙ ap (λ es. es ++ e ∷ f ∷ []) w.is ∙ append_assoc before.entries w.items (e ∷ f ∷ []);
          right = subst (λ n. GoesOn d.setting line reach 0 m (w.items ++ (record { line = line; depth = n; said = Happens (orders.Tick o.left) }) ∷ (record { line = line; depth = n; said = Resets Watchdog n }) ∷ [])) (sym n1) (goes_on_to_end d.setting line reach o.unit o.left w.went o.busy o.unmasked o.may o.expires o.late);
          leads = ap (λ ds. after_all d.setting m ds) (deeds_in-append call_of order w.items (e ∷ f ∷ []))
              ∙ after_all-append d.setting m (deeds_in call_of order w.items) (deeds_in call_of order (e ∷ f ∷ []))
              ∙ ap (λ x. after_all d.setting x (deeds_in call_of order (e ∷ f ∷ []))) (went_deeds d.setting line reach call_of order w.went)
              ∙ sym down.leads;
          stands = down.stands;
        };
        filled = record {
          steps = omega (arith, w.few, steps);
          counted = omega (arith, counted, w.counted, w.taken, steps);
          room = down.room ∙ w.room;
          words_room = down.words_room ∙ w.words_room;
          items = omega (arith, count, more, none, w.taken, w.few, steps);
          words = (let a = ap length down.words in let b = ap length w.words in omega (arith, a, b));
        };
        more = omega (arith, w.taken, steps);
        time = near-later (made + 1) (k2.steps - k.steps + 1) chip chip2 (omega (arith, w.taken, steps)) (near_more made 1 (made + 1) chip chip1 chip2 refl w.time o.time);
        spent = subst (λ x. work_of d x ≤ work_of d k) (sym down.frames) (let a = w.spent in omega (arith, a));
      }

  -- the move of a frame that is there
  top_move : (move_of : Frame → Move) (us : List (Under Frame)) → 0 < length us → (made : Move) × (upcoming_of move_of us ≡ Some made)
  top_move move_of [] some = absurd (omega arith)
  top_move move_of (u ∷ us) some = (move_of u.frame, refl)

  -- one more step is wanted than may be taken
  pub stuck : (move_of : Frame → Move) (left : Frame → ℕ → Frame) (gave : Frame → ℕ → Taken) → IsLawful d move_of left gave → most < 4294967295 → (chip : Chip) (k : Kept Frame) (before : Written) (made : ℕ) (chip1 : Chip) (k1 : Kept Frame) (between : Written) (chip2 : Chip) (k2 : Kept Frame) (after : Written) → steps_in before.entries ≡ k.steps → Walked d first call_of script most line reach chip k before made chip1 k1 between → (k2 ≡ k1) × (k1.steps ≡ most) × Waited d first call_of script move_of line chip1 k1.frames between chip2 after → IsStuck d first call_of script most 0 k before chip2 k2 after (λ m items. GoesToStop d.setting line reach 0 m items)
  stuck move_of left gave law limit chip k before made chip1 k1 between chip2 k2 after begun w same =
      let k_is = same.0 in
      let steps = same.1 in
      let wait = same.2 in
      let few = few_steps d first call_of script move_of left gave after.entries k1.steps most (omega (arith, begun, w.counted, w.taken, wait.counted)) w.few limit in
      let some = has_fuel d first call_of script move_of left gave law chip2 k1.frames (deeds_of call_of script after.entries) few wait.still wait.stands w.frame in
      let taken : k2.steps ≡ k1.steps = ap (λ x. x.steps) k_is in
      let counted = wait.counted in
      let top = top_move move_of k1.frames w.frame in
      let next : Stepped = record { made = top.0; value = 0; received = 0; event = None; ended = None } in
      record {
        items = w.items ++ wait.waits;
        is = wait.is ∙ ap (λ es. es ++ wait.waits) w.is ∙ append_assoc before.entries w.items wait.waits;
        right = stops_through d.setting line reach wait.waits w.went (waits_to_stop d.setting line reach made (wait.ready next top.1));
        stands = subst (λ x. IsStanding d first call_of script chip2 x.frames after.entries) (sym k_is) wait.stands;
        steps = taken ∙ steps;
        counted = omega (arith, taken, counted, w.counted, w.taken);
        room = wait.room ∙ w.room;
        wants = omega (arith, w.spent, some, steps);
      }

-- where the steps go on, the frame hasn't ended
pub not_ended : (ended : Option Answer) (b : Bool) → is_some ended || b ≡ false → ended ≡ None
not_ended None b h = refl
not_ended (Some a) b h = cc

-- a step was taken, or it wasn't
pub was-true : (b : Bool) (P : Type 0) → b ≡ true → OnTrue b P → P
was-true true P e h = h
was-true false P e h = cc

pub was-false : (b : Bool) (P : Type 0) → b ≡ false → OnFalse b P → P
was-false true P e h = cc
was-false false P e h = h
