-- What the parts of a directive make of it.
use Rattle.std.proofs.Common.{◌≡◌, ℕ, suc, zero, ◌+◌, ◌<◌, ◌≤◌, Bool, true, false, ◌&&◌, List, [], ◌∷◌, ◌++◌, length, Option, Some, None, Ok, Err, is_some, not, refl, sym, ◌∙◌, ap, subst, arith, append-nil, length-append}
use Rattle.std.specs.Bool.{OnTrue, OnFalse}
use Rattle.chip_model.specs.Chip.{Chip, is_masked, is_pending}
use Rattle.irq_control.specs.declared.held.Held.{Held}
use Rattle.irq_control.specs.declared.held.Held.TheVariants.{Empty}
use Rattle.mcal_base.specs.declared.directive.Directive.{Directive}
use Rattle.mcal_base.specs.declared.directive.Order.{Order}
use Rattle.mcal_base.specs.declared.directive.Request.{Request}
use Rattle.run_model.specs.declared.class.Tag.{Tag}
use Rattle.run_model.specs.declared.stop_condition.StopCondition.{StopCondition}
use Rattle.run_model.specs.declared.stop_condition.StopCondition.TheVariants.{Count, Until, Whole}
use Rattle.run_model.specs.Causes.{call_cause, line_cause, first_cause, line_level_allows, is_full, tags_of, top_noted}
use Rattle.run_model.specs.Entry as entry
use Rattle.run_model.specs.Entry.{Entry, Begins, Stays, Written, written}
use Rattle.run_model.specs.Frame as frame
use Rattle.run_model.specs.Follows.{GoesOn, Goes, BeginsOnly, BeginsWhole, call_held, line_held}
use Rattle.run_model.specs.Moment as moment
use Rattle.run_model.specs.Moment.{Moment, Transition, line_tag}
use Rattle.run_model.specs.Script.{deeds_of, beginnings_of, order_at}
use Rattle.run_model.specs.Stops.{GoesToStop, StopsWithin, is_step}
use Rattle.step_runner.specs.Driver.{Driver}
use Rattle.step_runner.specs.Kept.{Kept, tags_under, top_is_noted, beginning, enter_by}
use Rattle.step_runner.specs.Stands.{Stands, AreFramesOf}
use Rattle.step_runner.specs.declared.stack.Under.{Under}
use Rattle.run_model.proofs.LegalLaws.{served-last}
use Rattle.script_runner.specs.Busy.{busies}
use Rattle.script_runner.specs.Standing.{moment_of, IsStanding, IsFilled, WentFar, Began, StayedOff, ObeyedBy, IsStuck, makes_no_step, work_of, bound_of, bounds_of}
use Rattle.script_runner.proofs.Stops.{stops_within, no_step_counted}
use Rattle.script_runner.proofs.Arms.{depth_is, deeds_more, moment_more, begins_only, stays_off, begins_whole}

-- ---- the causes, as the stack has them and as the moment has them

tags_agree : {State Call Frame : Type 0} (d : Driver State Call Frame) (us : List (Under Frame)) (os : List (frame.Open Call)) → AreFramesOf d us os → tags_under us ≡ tags_of os
tags_agree d [] [] h = refl
tags_agree d [] (o ∷ os) h = absurd h
tags_agree d (u ∷ us) [] h = absurd h
tags_agree d (u ∷ us) (o ∷ os) h = ap (λ t. t ∷ tags_under us) h.0.tag ∙ ap (λ ts. o.tag ∷ ts) (tags_agree d us os h.1)

noted_agree : {State Call Frame : Type 0} (d : Driver State Call Frame) (us : List (Under Frame)) (os : List (frame.Open Call)) → AreFramesOf d us os → top_is_noted us ≡ top_noted os
noted_agree d [] [] h = refl
noted_agree d [] (o ∷ os) h = absurd h
noted_agree d (u ∷ us) [] h = absurd h
noted_agree d (u ∷ us) (o ∷ os) h = h.0.noted

-- without a handler a line is never pending, so that a cause holds
no_handler : (masked allows full : Bool) → None ≡ first_cause masked (not allows) false true full → ⊥
no_handler true allows full h = cc
no_handler false true full h = cc
no_handler false false full h = cc

-- with the mask open a line that no object uses isn't pending
pub cause_same : (masked : Bool) (tags : List Tag) (level : ℕ) (used pending : Bool) → (masked ≡ false → used ≡ false → pending ≡ false) → line_cause masked tags level (used && pending) ≡ line_cause masked tags level pending
cause_same true tags level used pending h = refl
cause_same false tags level true pending h = refl
cause_same false tags level false pending h = ap (λ b. line_cause false tags level b) (sym (h refl refl))

module _ {State Call Frame : Type 0} (d : Driver State Call Frame) (first : Chip) (call_of : Request → Call) (script : List Directive) where
  pub call_held_is : (chip : Chip) (us : List (Under Frame)) (es : List Entry) (c : Call) (level : ℕ) → IsStanding d first call_of script chip us es → call_cause (is_masked chip) (tags_under us) (top_is_noted us) (d.setting.class_of c) level ≡ call_held d.setting (moment_of d first call_of script es) c level
  call_held_is chip us es c level h =
      let m = moment_of d first call_of script es in
      ap (λ x. call_cause (is_masked x) (tags_under us) (top_is_noted us) (d.setting.class_of c) level) h.matches.chip_is
      ∙ ap (λ ts. call_cause (is_masked m.chip) ts (top_is_noted us) (d.setting.class_of c) level) (tags_agree d us m.opens h.matches.frames)
      ∙ ap (λ b. call_cause (is_masked m.chip) (tags_of m.opens) b (d.setting.class_of c) level) (noted_agree d us m.opens h.matches.frames)

  pub line_held_is : (chip : Chip) (us : List (Under Frame)) (es : List Entry) (l : ℕ) → is_some (d.handler_of l) ≡ d.setting.used l → IsStanding d first call_of script chip us es → line_cause (is_masked chip) (tags_under us) (d.setting.level_of l) (is_some (d.handler_of l) && is_pending chip l) ≡ line_held d.setting (moment_of d first call_of script es) l
  line_held_is chip us es l handled h =
      let m = moment_of d first call_of script es in
      ap (λ x. line_cause (is_masked x) (tags_under us) (d.setting.level_of l) (is_some (d.handler_of l) && is_pending x l)) h.matches.chip_is
      ∙ ap (λ ts. line_cause (is_masked m.chip) ts (d.setting.level_of l) (is_some (d.handler_of l) && is_pending m.chip l)) (tags_agree d us m.opens h.matches.frames)
      ∙ ap (λ b. line_cause (is_masked m.chip) (tags_of m.opens) (d.setting.level_of l) (b && is_pending m.chip l)) handled
      ∙ cause_same (is_masked m.chip) (tags_of m.opens) (d.setting.level_of l) (d.setting.used l) (is_pending m.chip l) (λ e free. (served-last d.setting (moment.start_moment d.setting first) (deeds_of call_of script es) h.legal).unused e l free)

  -- ---- beginnings

  pub began : (line n : ℕ) (deed : Transition Call) (held : Option Held) (chip : Chip) (k : Kept Frame) (before : Written) (u : Under Frame) (k1 : Kept Frame) (after : Written) → beginnings_of call_of (order_at script line) ≡ deed ∷ [] → None ≡ held → n ≡ length k.frames → k1 ≡ record { frames = u ∷ k.frames; steps = k.steps } → after ≡ written before line n Begins [] → Stands d first chip k1.frames (deeds_of call_of script before.entries ++ deed ∷ []) → d.fuel u.frame ≤ bound_of d.setting deed → Began d first call_of script line deed held chip k before k1 after
  began line n deed held chip k before u k1 after at free n_is k1_is is stands fuel =
      let e : Entry = record { line = line; depth = n; said = Begins } in
      record {
        written = is ∙ ap (λ x. written before line x Begins []) n_is;
        free = sym free;
        leads = ap (λ w. moment_of d first call_of script w.entries) is ∙ moment_more d first call_of script before.entries e (deed ∷ []) at;
        stands = subst (λ w. IsStanding d first call_of script chip k1.frames w.entries) (sym is) (subst (λ h. Stands d first chip k1.frames h) (sym (deeds_more d first call_of script before.entries e (deed ∷ []) at)) stands);
        steps = ap (λ k. k.steps) k1_is;
        counted = let c = no_step_counted line n Begins [] k.steps k.steps before after refl refl is in omega (arith, c);
        frame = subst (λ k. 0 < length k.frames) (sym k1_is) (omega arith);
        spent = subst (λ x. work_of d x ≤ work_of d k + bound_of d.setting deed) (sym k1_is) (omega (arith, fuel));
      }

  pub stayed : (line n : ℕ) (cause : Held) (held : Option Held) (chip : Chip) (k : Kept Frame) (before : Written) (k1 : Kept Frame) (after : Written) → Some cause ≡ held → n ≡ length k.frames → k1 ≡ k → after ≡ written before line n (Stays cause) [] → IsStanding d first call_of script chip k.frames before.entries → StayedOff d first call_of script line held chip k before k1 after
  stayed line n cause held chip k before k1 after because n_is k1_is is stands =
      let e : Entry = record { line = line; depth = n; said = Stays cause } in
      record {
        cause = cause;
        written = is ∙ ap (λ x. written before line x (Stays cause) []) n_is;
        because = sym because;
        spent = subst (λ x. work_of d x ≤ work_of d k) (sym k1_is) (omega arith);
        stands = subst (λ w. IsStanding d first call_of script chip k1.frames w.entries) (sym is) (subst (λ h. Stands d first chip k1.frames h) (sym (deeds_more d first call_of script before.entries e [] refl ∙ append-nil (deeds_of call_of script before.entries))) (subst (λ x. Stands d first chip x.frames (deeds_of call_of script before.entries)) (sym k1_is) stands));
        steps = ap (λ k. k.steps) k1_is;
      }

  pub began_call : (line n level : ℕ) (c c1 : Call) (chip : Chip) (k : Kept Frame) (before : Written) (u : Under Frame) (k1 : Kept Frame) (after : Written) → c ≡ c1 → beginnings_of call_of (order_at script line) ≡ moment.Begins c1 level ∷ [] → None ≡ call_cause (is_masked chip) (tags_under k.frames) (top_is_noted k.frames) (d.setting.class_of c) level → n ≡ length k.frames → k1 ≡ record { frames = u ∷ k.frames; steps = k.steps } → after ≡ written before line n Begins [] → Stands d first chip k1.frames (deeds_of call_of script before.entries ++ moment.Begins c level ∷ []) → IsStanding d first call_of script chip k.frames before.entries → d.fuel u.frame ≤ d.setting.steps_of (frame.Called c) → Began d first call_of script line (moment.Begins c1 level) (call_held d.setting (moment_of d first call_of script before.entries) c1 level) chip k before k1 after
  began_call line n level c c1 chip k before u k1 after same at free n_is k1_is is moved stands fuel =
      began line n (moment.Begins c1 level) (call_held d.setting (moment_of d first call_of script before.entries) c1 level) chip k before u k1 after at
      (free ∙ ap (λ x. call_cause (is_masked chip) (tags_under k.frames) (top_is_noted k.frames) (d.setting.class_of x) level) same ∙ call_held_is chip k.frames before.entries c1 level stands)
      n_is k1_is is (subst (λ x. Stands d first chip k1.frames (deeds_of call_of script before.entries ++ moment.Begins x level ∷ [])) same moved) (subst (λ x. d.fuel u.frame ≤ d.setting.steps_of (frame.Called x)) same fuel)

  pub stayed_call : (line n level : ℕ) (cause : Held) (c c1 : Call) (chip : Chip) (k : Kept Frame) (before : Written) (k1 : Kept Frame) (after : Written) → c ≡ c1 → Some cause ≡ call_cause (is_masked chip) (tags_under k.frames) (top_is_noted k.frames) (d.setting.class_of c) level → n ≡ length k.frames → k1 ≡ k → after ≡ written before line n (Stays cause) [] → IsStanding d first call_of script chip k.frames before.entries → StayedOff d first call_of script line (call_held d.setting (moment_of d first call_of script before.entries) c1 level) chip k before k1 after
  stayed_call line n level cause c c1 chip k before k1 after same because n_is k1_is is stands =
      stayed line n cause (call_held d.setting (moment_of d first call_of script before.entries) c1 level) chip k before k1 after
      (because ∙ ap (λ x. call_cause (is_masked chip) (tags_under k.frames) (top_is_noted k.frames) (d.setting.class_of x) level) same ∙ call_held_is chip k.frames before.entries c1 level stands)
      n_is k1_is is stands

  -- a handler that began is there, and is put on
  handler_of : (handler : Option Frame) (due : Bool) (masked : Bool) (tags : List Tag) (level : ℕ) → None ≡ line_cause masked tags level (is_some handler && due) → (f : Frame) × (handler ≡ Some f)
  handler_of (Some f) due masked tags level h = (f, refl)
  handler_of None due masked tags level h = absurd (no_handler masked (line_level_allows tags level) (is_full tags) h)

  pub began_line : (line n irq : ℕ) (chip : Chip) (k : Kept Frame) (before : Written) (k1 : Kept Frame) (after : Written) → is_some (d.handler_of irq) ≡ d.setting.used irq → beginnings_of call_of (order_at script line) ≡ moment.Enters irq ∷ [] → None ≡ line_cause (is_masked chip) (tags_under k.frames) (d.setting.level_of irq) (is_some (d.handler_of irq) && is_pending chip irq) → n ≡ length k.frames → k1 ≡ enter_by {A = Unit {0}} (Ok tt) (d.handler_of irq) (line_tag d.setting irq) k → after ≡ written before line n Begins [] → Stands d first chip k1.frames (deeds_of call_of script before.entries ++ moment.Enters irq ∷ []) → IsStanding d first call_of script chip k.frames before.entries → ((f : Frame) → d.handler_of irq ≡ Some f → d.fuel f ≤ d.setting.steps_of (frame.Entered irq)) → Began d first call_of script line (moment.Enters irq) (line_held d.setting (moment_of d first call_of script before.entries) irq) chip k before k1 after
  began_line line n irq chip k before k1 after handled at free n_is k1_is is moved stands fuel =
      let f = handler_of (d.handler_of irq) (is_pending chip irq) (is_masked chip) (tags_under k.frames) (d.setting.level_of irq) free in
      began line n (moment.Enters irq) (line_held d.setting (moment_of d first call_of script before.entries) irq) chip k before (beginning f.0 (line_tag d.setting irq)) k1 after at
      (free ∙ line_held_is chip k.frames before.entries irq handled stands)
      n_is (k1_is ∙ ap (λ h. enter_by {A = Unit {0}} (Ok tt) h (line_tag d.setting irq) k) f.1) is moved (fuel f.0 f.1)

  enter_held : (cause : Held) (h : Option Frame) (tag : Tag) (k : Kept Frame) → enter_by {A = Unit {0}} (Err cause) h tag k ≡ k
  enter_held cause None tag k = refl
  enter_held cause (Some f) tag k = refl

  pub stayed_line : (line n irq : ℕ) (cause : Held) (chip : Chip) (k : Kept Frame) (before : Written) (k1 : Kept Frame) (after : Written) → is_some (d.handler_of irq) ≡ d.setting.used irq → Some cause ≡ line_cause (is_masked chip) (tags_under k.frames) (d.setting.level_of irq) (is_some (d.handler_of irq) && is_pending chip irq) → n ≡ length k.frames → k1 ≡ enter_by {A = Unit {0}} (Err cause) (d.handler_of irq) (line_tag d.setting irq) k → after ≡ written before line n (Stays cause) [] → IsStanding d first call_of script chip k.frames before.entries → StayedOff d first call_of script line (line_held d.setting (moment_of d first call_of script before.entries) irq) chip k before k1 after
  stayed_line line n irq cause chip k before k1 after handled because n_is k1_is is stands =
      stayed line n cause (line_held d.setting (moment_of d first call_of script before.entries) irq) chip k before k1 after
      (because ∙ line_held_is chip k.frames before.entries irq handled stands)
      n_is (k1_is ∙ enter_held cause (d.handler_of irq) (line_tag d.setting irq) k) is stands

  -- the room after one item that is no step
  pub item_filled : (most line n : ℕ) (said : entry.Said) (ws : List ℕ) (taken taken1 : ℕ) (chip : Chip) (before : Written) (chip1 : Chip) (after : Written) → taken ≤ most → is_step said ≡ false → taken1 ≡ taken → length ws ≤ 64 → busies chip1 ≤ busies chip → after ≡ written before line n said ws → IsFilled most taken chip before 3 taken1 chip1 after
  item_filled most line n said ws taken taken1 chip before chip1 after few other same short busy is =
      let e : Entry = record { line = line; depth = n; said = said } in
      record {
        steps = omega arith;
        counted = no_step_counted line n said ws taken taken1 before after other same is;
        room = ap (λ x. x.room) is;
        words_room = ap (λ x. x.words_room) is;
        items = rw is (omega (arith, length-append before.entries (e ∷ []), same, busy));
        words = rw is (omega (arith, length-append before.words ws));
      }

  -- and one without words
  pub one_filled : (most line n : ℕ) (said : entry.Said) (taken taken1 : ℕ) (chip : Chip) (before after : Written) → taken ≤ most → is_step said ≡ false → taken1 ≡ taken → after ≡ written before line n said [] → IsFilled most taken chip before 3 taken1 chip after
  one_filled most line n said taken taken1 chip before after few other same is = item_filled most line n said [] taken taken1 chip before chip after few other same (omega arith) (omega arith) is

  -- the same chip under another name
  pub on_same : (chip0 chip : Chip) (us : List (Under Frame)) (es : List Entry) → chip ≡ chip0 → IsStanding d first call_of script chip0 us es → IsStanding d first call_of script chip us es
  on_same chip0 chip us es same h = subst (λ x. IsStanding d first call_of script x us es) (sym same) h

  pub obeyed_same : (most : ℕ) (order : Order) (chip0 chip : Chip) (k : Kept Frame) (before : Written) (chip1 : Chip) (k1 : Kept Frame) (after : Written) (Right : Moment State Call → List Entry → Type 0) → chip ≡ chip0 → ObeyedBy d first call_of script most order chip k before chip1 k1 after Right → ObeyedBy d first call_of script most order chip0 k before chip1 k1 after Right
  obeyed_same most order chip0 chip k before chip1 k1 after Right same h = subst (λ x. ObeyedBy d first call_of script most order x k before chip1 k1 after Right) same h

  pub alone : (most line : ℕ) (order : Order) (deed : Transition Call) (chip : Chip) (k : Kept Frame) (before : Written) (k1 : Kept Frame) (after : Written) (held : Moment State Call → Option Held) (b : Bool) → k.steps ≤ most → beginnings_of call_of (Some order) ≡ deed ∷ [] → IsStanding d first call_of script chip k.frames before.entries → OnTrue b (Began d first call_of script line deed (held (moment_of d first call_of script before.entries)) chip k before k1 after) → OnFalse b (StayedOff d first call_of script line (held (moment_of d first call_of script before.entries)) chip k before k1 after) → ObeyedBy d first call_of script most order chip k before chip k1 after (λ m items. BeginsOnly m line (held m) items)
  alone most line order deed chip k before k1 after held true few at stands on off =
      let a = begins_only d first call_of script line order deed (held (moment_of d first call_of script before.entries)) chip k before k1 after at stands on in
      record {
        adds = record { items = a.items; is = a.is; right = a.right; leads = a.leads; stands = a.stands };
        filled = one_filled most line (length k.frames) Begins k.steps k1.steps chip before after few refl on.steps on.written;
        more = omega (arith, on.steps);
        osc = omega arith;
        now = omega arith;
        given = λ u. omega arith;
        spent = subst (λ hs. work_of d k1 ≤ work_of d k + bounds_of d.setting hs) (sym at) (omega (arith, on.spent));
      }
  alone most line order deed chip k before k1 after held false few at stands on off =
      let a = stays_off d first call_of script line order (held (moment_of d first call_of script before.entries)) chip k before k1 after (λ h m items. BeginsOnly m line h items) (λ c m items x. x) stands off in
      record {
        adds = record { items = a.items; is = a.is; right = a.right; leads = a.leads; stands = a.stands };
        filled = one_filled most line (length k.frames) (Stays off.cause) k.steps k1.steps chip before after few refl off.steps off.written;
        more = omega (arith, off.steps);
        osc = omega arith;
        now = omega arith;
        given = λ u. omega arith;
        spent = omega (arith, off.spent);
      }

  pub whole : (most line : ℕ) (order : Order) (deed : Transition Call) (chip : Chip) (k : Kept Frame) (before : Written) (k1 : Kept Frame) (between : Written) (chip2 : Chip) (k2 : Kept Frame) (after : Written) (held : Moment State Call → Option Held) → k.steps ≤ most → beginnings_of call_of (Some order) ≡ deed ∷ [] → IsStanding d first call_of script chip k.frames before.entries → Began d first call_of script line deed (held (moment_of d first call_of script before.entries)) chip k before k1 between → WentFar d first call_of script most line Whole chip k1 between chip2 k2 after → ObeyedBy d first call_of script most order chip k before chip2 k2 after (λ m items. BeginsWhole d.setting m line deed (held m) items)
  whole most line order deed chip k before k1 between chip2 k2 after held few at stands b w =
      let a = begins_whole d first call_of script line order deed (held (moment_of d first call_of script before.entries)) chip k before k1 between chip2 k2.frames after at stands b (w.adds order) in
      let e : Entry = record { line = line; depth = length k.frames; said = Begins } in
      let n : length between.entries ≡ length before.entries + 1 = ap (λ x. length x.entries) b.written ∙ length-append before.entries (e ∷ []) in
      let words_are : between.words ≡ before.words = ap (λ x. x.words) b.written ∙ append-nil before.words in
      record {
        adds = record { items = a.items; is = a.is; right = a.right; leads = a.leads; stands = a.stands };
        filled = record {
          steps = w.filled.steps;
          counted = omega (arith, w.filled.counted, no_step_counted line (length k.frames) Begins [] k.steps k1.steps before between refl b.steps b.written);
          room = w.filled.room ∙ ap (λ x. x.room) b.written;
          words_room = w.filled.words_room ∙ ap (λ x. x.words_room) b.written;
          items = (let a = w.filled.items in omega (arith, a, n, b.steps));
          words = omega (arith, w.filled.words, ap length words_are);
        };
        more = omega (arith, w.more, b.steps);
        osc = (let a = w.time.osc in omega (arith, a, w.more, b.steps));
        now = (let a = w.time.now in omega (arith, a, w.more, b.steps));
        given = λ u. omega (arith, w.time.room u);
        spent = subst (λ hs. work_of d k2 ≤ work_of d k + bounds_of d.setting hs) (sym at) (omega (arith, b.spent, w.spent));
      }

  pub whole_off : (most line : ℕ) (order : Order) (deed : Transition Call) (chip : Chip) (k : Kept Frame) (before : Written) (k1 : Kept Frame) (after : Written) (held : Moment State Call → Option Held) → k.steps ≤ most → IsStanding d first call_of script chip k.frames before.entries → StayedOff d first call_of script line (held (moment_of d first call_of script before.entries)) chip k before k1 after → ObeyedBy d first call_of script most order chip k before chip k1 after (λ m items. BeginsWhole d.setting m line deed (held m) items)
  whole_off most line order deed chip k before k1 after held few stands off =
      let a = stays_off d first call_of script line order (held (moment_of d first call_of script before.entries)) chip k before k1 after (λ h m items. BeginsWhole d.setting m line deed h items) (λ c m items x. x) stands off in
      record {
        adds = record { items = a.items; is = a.is; right = a.right; leads = a.leads; stands = a.stands };
        filled = one_filled most line (length k.frames) (Stays off.cause) k.steps k1.steps chip before after few refl off.steps off.written;
        more = omega (arith, off.steps);
        osc = omega arith;
        now = omega arith;
        given = λ u. omega arith;
        spent = omega (arith, off.spent);
      }

  -- ---- steps

  pub no_opens : {A : Type 0} (xs : List A) → length xs ≡ 0 → xs ≡ []
  no_opens [] e = refl
  no_opens (x ∷ xs) e = absurd (omega arith)

  pub goes_nowhere : (most line n : ℕ) (reach : StopCondition) (order : Order) (chip : Chip) (k : Kept Frame) (before after : Written) → k.steps ≤ most → length k.frames ≡ 0 → n ≡ 0 → after ≡ written before line n (Stays Empty) [] → IsStanding d first call_of script chip k.frames before.entries → ObeyedBy d first call_of script most order chip k before chip k after (λ m items. Goes d.setting line reach m m.opens items)
  goes_nowhere most line n reach order chip k before after few none n_is is stands =
      let m = moment_of d first call_of script before.entries in
      let e : Entry = record { line = line; depth = n; said = Stays Empty } in
      let opens : m.opens ≡ [] = no_opens m.opens (sym (depth_is d first call_of script chip k.frames before.entries stands) ∙ none) in
      record {
        adds = record {
          items = e ∷ [];
          is = ap (λ w. w.entries) is;
          right = subst (λ os. Goes d.setting line reach m os (e ∷ [])) (sym opens) (ap (λ x. let i : Entry = record { line = line; depth = x; said = Stays Empty } in i ∷ []) (n_is ∙ sym none ∙ depth_is d first call_of script chip k.frames before.entries stands));
          leads = sym (moment_more d first call_of script before.entries e [] refl) ∙ ap (λ w. moment_of d first call_of script w.entries) (sym is);
          stands = subst (λ w. IsStanding d first call_of script chip k.frames w.entries) (sym is) (subst (λ h. Stands d first chip k.frames h) (sym (deeds_more d first call_of script before.entries e [] refl ∙ append-nil (deeds_of call_of script before.entries))) stands);
        };
        filled = one_filled most line n (Stays Empty) k.steps k.steps chip before after few refl refl is;
        more = omega arith;
        osc = omega arith;
        now = omega arith;
        given = λ u. omega arith;
        spent = omega arith;
      }

  pub some_opens : {A B : Type 0} (us : List A) (os : List B) → length us ≡ length os → 0 < length us → (o : B) × (rest : List B) × (os ≡ o ∷ rest)
  some_opens us [] e h = absurd (omega arith)
  some_opens us (o ∷ os) e h = (o, os, refl)

  pub goes_no_step : (most line : ℕ) (order : Order) (chip : Chip) (k : Kept Frame) (before : Written) → k.steps ≤ most → 0 < length k.frames → IsStanding d first call_of script chip k.frames before.entries → ObeyedBy d first call_of script most order chip k before chip k before (λ m items. Goes d.setting line (Count 0) m m.opens items)
  goes_no_step most line order chip k before few some stands =
      let m = moment_of d first call_of script before.entries in
      let o = some_opens k.frames m.opens (depth_is d first call_of script chip k.frames before.entries stands) some in
      record {
        adds = record {
          items = [];
          is = sym (append-nil before.entries);
          right = subst (λ os. Goes d.setting line (Count 0) m os []) (sym o.2) refl;
          leads = refl;
          stands = stands;
        };
        filled = record { steps = few; counted = refl; room = refl; words_room = refl; items = omega arith; words = omega arith };
        more = omega arith;
        osc = omega arith;
        now = omega arith;
        given = λ u. omega arith;
        spent = omega arith;
      }

  goes_by : (line : ℕ) (reach : StopCondition) (m : Moment State Call) (items : List Entry) (o : frame.Open Call) (os : List (frame.Open Call)) → (reach ≡ Count 0 → ⊥) → GoesOn d.setting line reach 0 m items → Goes d.setting line reach m (o ∷ os) items
  goes_by line (Count zero) m items o os not h = absurd (not refl)
  goes_by line (Count (suc n)) m items o os not h = h
  goes_by line (Until stop) m items o os not h = h
  goes_by line Whole m items o os not h = h

  pub goes_far : (most line : ℕ) (reach : StopCondition) (order : Order) (chip : Chip) (k : Kept Frame) (before : Written) (chip1 : Chip) (k1 : Kept Frame) (after : Written) → 0 < length k.frames → (reach ≡ Count 0 → ⊥) → IsStanding d first call_of script chip k.frames before.entries → WentFar d first call_of script most line reach chip k before chip1 k1 after → ObeyedBy d first call_of script most order chip k before chip1 k1 after (λ m items. Goes d.setting line reach m m.opens items)
  goes_far most line reach order chip k before chip1 k1 after some not stands w =
      let m = moment_of d first call_of script before.entries in
      let o = some_opens k.frames m.opens (depth_is d first call_of script chip k.frames before.entries stands) some in
      let a = w.adds order in
      record {
        adds = record { items = a.items; is = a.is; right = subst (λ os. Goes d.setting line reach m os a.items) (sym o.2) (goes_by line reach m a.items o.0 o.1 not a.right); leads = a.leads; stands = a.stands };
        filled = record { steps = w.filled.steps; counted = w.filled.counted; room = w.filled.room; words_room = w.filled.words_room; items = (let i = w.filled.items in omega (arith, i)); words = w.filled.words };
        more = w.more;
        osc = (let i = w.time.osc in omega (arith, i));
        now = (let i = w.time.now in omega (arith, i));
        given = λ u. omega (arith, w.time.room u);
        spent = omega (arith, w.spent);
      }

  -- the same steps, up to a stop
  pub stops_far : (most line : ℕ) (reach : StopCondition) (chip : Chip) (k : Kept Frame) (before : Written) (chip1 : Chip) (k1 : Kept Frame) (after : Written) → 0 < length k.frames → (reach ≡ Count 0 → ⊥) → IsStanding d first call_of script chip k.frames before.entries → IsStuck d first call_of script most 0 k before chip1 k1 after (λ m items. GoesToStop d.setting line reach 0 m items) → IsStuck d first call_of script most 0 k before chip1 k1 after (λ m items. StopsWithin d.setting line reach m m.opens items)
  stops_far most line reach chip k before chip1 k1 after some not stands h =
      let m = moment_of d first call_of script before.entries in
      let o = some_opens k.frames m.opens (depth_is d first call_of script chip k.frames before.entries stands) some in
      record {
        items = h.items;
        is = h.is;
        right = subst (λ os. StopsWithin d.setting line reach m os h.items) (sym o.2) (stops_within d.setting line reach m h.items o.0 o.1 not h.right);
        stands = h.stands;
        steps = h.steps;
        counted = h.counted;
        room = h.room;
        wants = h.wants;
      }

  pub makes_a_step : (reach : StopCondition) → makes_no_step reach ≡ false → reach ≡ Count 0 → ⊥
  makes_a_step reach h e = let k : makes_no_step (Count 0) ≡ false = subst (λ x. makes_no_step x ≡ false) e h in cc

  pub is_no_step : (reach : StopCondition) → makes_no_step reach ≡ true → reach ≡ Count 0
  is_no_step (Count zero) h = refl
  is_no_step (Count (suc n)) h = cc
  is_no_step (Until stop) h = cc
  is_no_step Whole h = cc
