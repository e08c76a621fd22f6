-- What beginnings and steps make of a directive's items.
use Rattle.std.proofs.Common.{◌≡◌, ℕ, suc, List, [], ◌∷◌, ◌++◌, length, Option, Some, refl, sym, ◌∙◌, ap, subst, arith, append_assoc, append-nil}
use Rattle.chip_model.specs.Chip.{Chip}
use Rattle.irq_control.specs.declared.held.Held.{Held}
use Rattle.mcal_base.specs.declared.directive.Directive.{Directive}
use Rattle.mcal_base.specs.declared.directive.Order.{Order}
use Rattle.mcal_base.specs.declared.directive.Request.{Request}
use Rattle.run_model.specs.declared.stop_condition.StopCondition.TheVariants.{Whole}
use Rattle.run_model.specs.Entry.{Entry, Begins, Stays, Written}
use Rattle.run_model.specs.Frame as frame
use Rattle.run_model.specs.Follows.{GoesOn, deeds_in, IsOne, BeginsOnly, BeginsWhole}
use Rattle.run_model.specs.Moment.{Moment, Transition, after, after_all, start_moment}
use Rattle.run_model.specs.Script.{deeds_of, deed_of, beginnings_of, order_at}
use Rattle.run_model.specs.Stops.{GoesToStop, BeginsToStop}
use Rattle.run_model.proofs.Following.{after_all-append, deeds_of-append}
use Rattle.step_runner.specs.Driver.{Driver}
use Rattle.step_runner.specs.Kept.{Kept}
use Rattle.step_runner.specs.Stands.{AreFramesOf}
use Rattle.step_runner.specs.declared.stack.Under.{Under}
use Rattle.script_runner.specs.Standing.{moment_of, IsStanding, Adds, Began, StayedOff, IsStuck, bounds_of}
use Rattle.script_runner.proofs.Stops.{no_step_counted}

-- the frames of a stack are as many as those of the run
pub as_many : {State Call Frame : Type 0} (d : Driver State Call Frame) (us : List (Under Frame)) (os : List (frame.Open Call)) → AreFramesOf d us os → length us ≡ length os
as_many d [] [] h = refl
as_many d [] (o ∷ os) h = absurd h
as_many d (u ∷ us) [] h = absurd h
as_many d (u ∷ us) (o ∷ os) h = ap suc (as_many d us os h.1)

module _ {State Call Frame : Type 0} (d : Driver State Call Frame) (first : Chip) (call_of : Request → Call) (script : List Directive) where
  -- the frames are as many as those of the moment
  pub depth_is : (chip : Chip) (us : List (Under Frame)) (es : List Entry) → IsStanding d first call_of script chip us es → length us ≡ length (moment_of d first call_of script es).opens
  depth_is chip us es h = as_many d us (moment_of d first call_of script es).opens h.matches.frames

  -- the deeds with one item more
  pub deeds_more : (es : List Entry) (e : Entry) (deeds : List (Transition Call)) → deed_of call_of (order_at script e.line) e.said ≡ deeds → deeds_of call_of script (es ++ e ∷ []) ≡ deeds_of call_of script es ++ deeds
  deeds_more es e deeds h = deeds_of-append call_of script es (e ∷ []) ∙ ap (λ ds. deeds_of call_of script es ++ ds) (append-nil (deed_of call_of (order_at script e.line) e.said) ∙ h)

  -- the moment with one item more
  pub moment_more : (es : List Entry) (e : Entry) (deeds : List (Transition Call)) → deed_of call_of (order_at script e.line) e.said ≡ deeds → moment_of d first call_of script (es ++ e ∷ []) ≡ after_all d.setting (moment_of d first call_of script es) deeds
  moment_more es e deeds h = ap (λ ds. after_all d.setting (start_moment d.setting first) ds) (deeds_more es e deeds h) ∙ after_all-append d.setting (start_moment d.setting first) (deeds_of call_of script es) deeds

  -- a call or a handler that began, and does no more
  pub begins_only : (line : ℕ) (order : Order) (deed : Transition Call) (held : Option Held) (chip : Chip) (k : Kept Frame) (before : Written) (k1 : Kept Frame) (after : Written) → beginnings_of call_of (Some order) ≡ deed ∷ [] → IsStanding d first call_of script chip k.frames before.entries → Began d first call_of script line deed held chip k before k1 after → Adds d first call_of script order before after chip k1.frames (λ m items. BeginsOnly m line held items)
  begins_only line order deed held chip k before k1 after at stands h =
      let n = depth_is chip k.frames before.entries stands in
      record {
        items = (record { line = line; depth = length k.frames; said = Begins }) ∷ [];
        is = ap (λ w. w.entries) h.written;
        right = subst (λ c. BeginsOnly (moment_of d first call_of script before.entries) line c ((record { line = line; depth = length k.frames; said = Begins }) ∷ [])) (sym h.free) (ap (λ x. let e : Entry = record { line = line; depth = x; said = Begins } in e ∷ []) n);
        leads = ap (λ ds. after_all d.setting (moment_of d first call_of script before.entries) ds) (append-nil (beginnings_of call_of (Some order)) ∙ at) ∙ sym h.leads;
        stands = h.stands;
      }

  -- one that was held
  pub stays_off : (line : ℕ) (order : Order) (held : Option Held) (chip : Chip) (k : Kept Frame) (before : Written) (k1 : Kept Frame) (after : Written) (Right : Option Held → Moment State Call → List Entry → Type 0) → ((c : Held) (m : Moment State Call) (items : List Entry) → IsOne m line (Stays c) items → Right (Some c) m items) → IsStanding d first call_of script chip k.frames before.entries → StayedOff d first call_of script line held chip k before k1 after → Adds d first call_of script order before after chip k1.frames (λ m items. Right held m items)
  stays_off line order held chip k before k1 after Right put stands h =
      let n = depth_is chip k.frames before.entries stands in
      let m = moment_of d first call_of script before.entries in
      record {
        items = (record { line = line; depth = length k.frames; said = Stays h.cause }) ∷ [];
        is = ap (λ w. w.entries) h.written;
        right = subst (λ c. Right c m ((record { line = line; depth = length k.frames; said = Stays h.cause }) ∷ [])) (sym h.because) (put h.cause m ((record { line = line; depth = length k.frames; said = Stays h.cause }) ∷ []) (ap (λ x. let e : Entry = record { line = line; depth = x; said = Stays h.cause } in e ∷ []) n));
        leads = sym (moment_more before.entries (record { line = line; depth = length k.frames; said = Stays h.cause }) [] refl) ∙ ap (λ w. moment_of d first call_of script w.entries) (sym h.written);
        stands = h.stands;
      }

  -- the item of a beginning, and those behind it
  begun_items : (line : ℕ) (deed : Transition Call) (held : Option Held) (chip : Chip) (k : Kept Frame) (before : Written) (k1 : Kept Frame) (between after : Written) (items : List Entry) → Began d first call_of script line deed held chip k before k1 between → after.entries ≡ between.entries ++ items → after.entries ≡ before.entries ++ (record { line = line; depth = length k.frames; said = Begins }) ∷ items
  begun_items line deed held chip k before k1 between after items h is =
      is ∙ ap (λ w. w.entries ++ items) h.written ∙ append_assoc before.entries ((record { line = line; depth = length k.frames; said = Begins }) ∷ []) items

  -- the item of a beginning, as the moment sees it
  first_is : (line : ℕ) (chip : Chip) (k : Kept Frame) (before : Written) (items : List Entry) → IsStanding d first call_of script chip k.frames before.entries → (let first : Entry = record { line = line; depth = length k.frames; said = Begins } in first ∷ items) ≡ (record { line = line; depth = length (moment_of d first call_of script before.entries).opens; said = Begins }) ∷ items
  first_is line chip k before items stands = ap (λ x. (record { line = line; depth = x; said = Begins }) ∷ items) (depth_is chip k.frames before.entries stands)

  -- a call or a handler that began, and was run to its end
  pub begins_whole : (line : ℕ) (order : Order) (deed : Transition Call) (held : Option Held) (chip : Chip) (k : Kept Frame) (before : Written) (k1 : Kept Frame) (between : Written) (chip2 : Chip) (us2 : List (Under Frame)) (after : Written) → beginnings_of call_of (Some order) ≡ deed ∷ [] → IsStanding d first call_of script chip k.frames before.entries → Began d first call_of script line deed held chip k before k1 between → Adds d first call_of script order between after chip2 us2 (λ m items. GoesOn d.setting line Whole 0 m items) → Adds d first call_of script order before after chip2 us2 (λ m items. BeginsWhole d.setting m line deed held items)
  begins_whole line order deed held chip k before k1 between chip2 us2 after at stands h steps =
      let m = moment_of d first call_of script before.entries in
      let first : Entry = record { line = line; depth = length k.frames; said = Begins } in
      record {
        items = first ∷ steps.items;
        is = begun_items line deed held chip k before k1 between after steps.items h steps.is;
        right = subst (λ c. BeginsWhole d.setting m line deed c (first ∷ steps.items)) (sym h.free) (record { steps = steps.items; is = first_is line chip k before steps.items stands; goes = subst (λ x. GoesOn d.setting line Whole 0 x steps.items) h.leads steps.right });
        leads =
            ap (λ ds. after_all d.setting m (ds ++ deeds_in call_of order steps.items)) at
            ∙ ap (λ x. after_all d.setting x (deeds_in call_of order steps.items)) (sym h.leads)
            ∙ steps.leads;
        stands = steps.stands;
      }

  -- one that began, and was run up to a stop
  pub begins_to_stop : (most line : ℕ) (deed : Transition Call) (held : Moment State Call → Option Held) (chip : Chip) (k : Kept Frame) (before : Written) (k1 : Kept Frame) (between : Written) (chip2 : Chip) (k2 : Kept Frame) (after : Written) → IsStanding d first call_of script chip k.frames before.entries → Began d first call_of script line deed (held (moment_of d first call_of script before.entries)) chip k before k1 between → IsStuck d first call_of script most 0 k1 between chip2 k2 after (λ m items. GoesToStop d.setting line Whole 0 m items) → IsStuck d first call_of script most (bounds_of d.setting (deed ∷ [])) k before chip2 k2 after (λ m items. BeginsToStop d.setting line m deed (held m) items)
  begins_to_stop most line deed held chip k before k1 between chip2 k2 after stands h stuck =
      let begun = no_step_counted line (length k.frames) Begins [] k.steps k1.steps before between refl h.steps h.written in
      record {
        items = (record { line = line; depth = length k.frames; said = Begins }) ∷ stuck.items;
        is = begun_items line deed (held (moment_of d first call_of script before.entries)) chip k before k1 between after stuck.items h stuck.is;
        right = record { free = h.free; steps = stuck.items; is = first_is line chip k before stuck.items stands; goes = subst (λ x. GoesToStop d.setting line Whole 0 x stuck.items) h.leads stuck.right };
        stands = stuck.stands;
        steps = stuck.steps;
        counted = omega (arith, begun, stuck.counted);
        room = stuck.room ∙ ap (λ w. w.room) h.written;
        wants = omega (arith, h.spent, stuck.wants);
      }
