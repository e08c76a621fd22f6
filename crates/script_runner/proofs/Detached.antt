-- How many devices there are after a directive, and a directive that drops one.
use Rattle.std.proofs.Common.{◌≡◌, ℕ, ◌-◌, ◌<◌, false, List, [], ◌∷◌, length, map, take, cond, Some, None, refl, sym, ◌∙◌, ap, subst, arith}
use Rattle.std.specs.Prelude.{◌==◌}
use Rattle.std.proofs.lemmas.Bool.Decides.{nat_tests}
use Rattle.std.proofs.lemmas.List.{length-map}
use Rattle.std.proofs.lemmas.List.Sums.{sum_by-cons}
use Rattle.mcal_base.specs.facts.Numbers.{isnt_zero, zero_from}
use Rattle.chip_model.specs.Chip.{Chip}
use Rattle.chip_model.proofs.DeviceLaws.{devices-move, devices-happened, devices_after}
use Rattle.irq_control.specs.declared.held.Held.TheVariants.{Unknown}
use Rattle.mcal_base.specs.declared.directive.Directive.{Directive}
use Rattle.mcal_base.specs.declared.directive.Order.{Order}
use Rattle.mcal_base.specs.declared.directive.Order.TheVariants as orders
use Rattle.mcal_base.specs.declared.directive.Request.{Request}
use Rattle.run_model.specs.declared.item.Stepped.{Stepped}
use Rattle.run_model.specs.Devices.{AllCalls, drops_by, drops_in}
use Rattle.run_model.specs.Entry.{Entry, Happens, Written}
use Rattle.run_model.specs.Follows.{HappensOnly, IsOne}
use Rattle.run_model.specs.Frame.{Open}
use Rattle.run_model.specs.Legal.{hardware_held}
use Rattle.run_model.specs.Moment as moment
use Rattle.run_model.specs.Moment.{Setting, Moment, Transition, after, after_step, after_all}
use Rattle.run_model.specs.Script.{deeds_of}
use Rattle.run_model.proofs.CallsLaws.{calls-count}
use Rattle.serial_devices.specs.Lines.{Line}
use Rattle.step_runner.specs.Driver.{Driver}
use Rattle.step_runner.specs.Kept.{Kept}
use Rattle.step_runner.specs.declared.stack.Under.{Under}
use Rattle.script_runner.specs.Standing.{moment_of, IsStanding, Called, Obeyed}
use Rattle.script_runner.proofs.Called.{moment_then}

-- ---- how many devices the chip has

devices_step : {State Call : Type 0} (g : Setting State Call) (m : Moment State Call) (os : List (Open Call)) (s : Stepped) → (after_step g m os s).chip.devices ≡ m.chip.devices
devices_step g m [] s = refl
devices_step g m (o ∷ os) s = devices-move m.chip s.made s.received

after_drop : (Call : Type 0) (order : Order) (n : ℕ) → devices_after order n ≡ n - drops_by {Call = Call} (moment.Happens order)
after_drop Call orders.Detach n = refl
after_drop Call order n = omega arith

devices_deed : {State Call : Type 0} (g : Setting State Call) (m : Moment State Call) (x : Transition Call) → (after g m x).chip.devices ≡ m.chip.devices - drops_by x
devices_deed g m (moment.Begins c level) = omega arith
devices_deed g m (moment.Enters l) = omega arith
devices_deed g m (moment.Steps s) = let e = devices_step g m m.opens s in omega (arith, e)
devices_deed {Call = Call} g m (moment.Happens order) = devices-happened m.chip order ∙ after_drop Call order m.chip.devices
devices_deed g m (moment.Resets reason) = omega arith

-- as many as were not dropped
devices_all : {State Call : Type 0} (g : Setting State Call) (m : Moment State Call) (xs : List (Transition Call)) → (after_all g m xs).chip.devices ≡ m.chip.devices - drops_in xs
devices_all g m [] = omega arith
devices_all g m (x ∷ xs) =
    let first = devices_deed g m x in
    let rest = devices_all g (after g m x) xs in
    let sum = sum_by-cons drops_by x xs in
    omega (arith, first, rest, sum)

-- ---- a directive

-- a rack that isn't empty has a device
pub some_left : (n m : ℕ) → n ≡ m → (n == 0) ≡ false → 0 < m
some_left n m e h = grind (arith, nat_tests)

-- without a device it is held, and with one it isn't
none_there : (n : ℕ) → n ≡ 0 → cond (n == 0) (Some Unknown) None ≡ Some Unknown
none_there n e = ap (λ b. cond b (Some Unknown) None) (zero_from n e)

one_there : (n : ℕ) → 0 < n → cond (n == 0) (Some Unknown) None ≡ None
one_there n lt = ap (λ b. cond b (Some Unknown) None) (isnt_zero n lt)

module _ {State Call Frame : Type 0} (d : Driver State Call Frame) (first : Chip) (call_of : Request → Call) (script : List Directive) where
  -- the chip has as many as the world
  world_devices : (chip : Chip) (us : List (Under Frame)) (es : List Entry) → IsStanding d first call_of script chip us es → (moment_of d first call_of script es).world.devices ≡ chip.devices
  world_devices chip us es h = sym h.matches.hung ∙ sym (ap (λ (c : Chip). c.devices) h.matches.chip_is)

  -- what is called has as many as the chip, after the items too
  hung_after : (chip chip1 : Chip) (us us1 : List (Under Frame)) (before after : List Entry) (old new : List Line) → IsStanding d first call_of script chip us before → IsStanding d first call_of script chip1 us1 after → Called d first call_of script before after old new → length old ≡ chip.devices → length new ≡ chip1.devices
  hung_after chip chip1 us us1 before after old new stands stands1 called hung =
      let m = moment_of d first call_of script before in
      let deeds = deeds_of call_of script called.items in
      let was : chip.devices ≡ m.chip.devices = ap (λ (c : Chip). c.devices) stands.matches.chip_is in
      let is : chip1.devices ≡ (after_all d.setting m deeds).chip.devices = ap (λ (c : Chip). c.devices) stands1.matches.chip_is ∙ ap (λ (x : Moment State Call). x.chip.devices) (moment_then d first call_of script before after called.items called.is) in
      let rack = calls-count d.setting m deeds old new called.calls in
      let there = devices_all d.setting m deeds in
      omega (arith, was, is, rack, there, hung)

  -- so has a rack, of which contracts see this much
  pub rack_after : {A : Type 0} (f : A → Line) (xs ys : List A) (n n1 : ℕ) (chip chip1 : Chip) (us us1 : List (Under Frame)) (before after : List Entry) → n ≡ length xs → n1 ≡ length ys → IsStanding d first call_of script chip us before → IsStanding d first call_of script chip1 us1 after → Called d first call_of script before after (map f xs) (map f ys) → n ≡ chip.devices → n1 ≡ chip1.devices
  rack_after f xs ys n n1 chip chip1 us us1 before after is is1 stands stands1 called hung =
      let h = hung_after chip chip1 us us1 before after (map f xs) (map f ys) stands stands1 called (length-map xs f ∙ sym is ∙ hung) in
      is1 ∙ sym (length-map ys f) ∙ h

  pub detach_held : (chip : Chip) (us : List (Under Frame)) (es : List Entry) → IsStanding d first call_of script chip us es → chip.devices ≡ 0 → hardware_held d.setting (moment_of d first call_of script es) orders.Detach ≡ Some Unknown
  detach_held chip us es stands none = none_there _ (world_devices chip us es stands ∙ none)

  pub detach_free : (chip : Chip) (us : List (Under Frame)) (es : List Entry) → IsStanding d first call_of script chip us es → 0 < chip.devices → hardware_held d.setting (moment_of d first call_of script es) orders.Detach ≡ None
  detach_free chip us es stands some = one_there _ (subst (λ n. 0 < n) (sym (world_devices chip us es stands)) some)

  -- it drops the last device
  pub called_detach : {A : Type 0} (f : A → Line) (xs ys : List A) (most line : ℕ) (chip : Chip) (k : Kept Frame) (before : Written) (chip1 : Chip) (k1 : Kept Frame) (after : Written) (n : ℕ) → n ≡ length xs → hardware_held d.setting (moment_of d first call_of script before.entries) orders.Detach ≡ None → map f ys ≡ take (n - 1) (map f xs) → Obeyed d first call_of script most line orders.Detach chip k before chip1 k1 after → Called d first call_of script before.entries after.entries (map f xs) (map f ys)
  called_detach f xs ys most line chip k before chip1 k1 after n n_is free dropped o =
      let m = moment_of d first call_of script before.entries in
      let one : IsOne m line (Happens orders.Detach) o.adds.items = subst (λ x. HappensOnly m line orders.Detach x o.adds.items) free o.adds.right in
      record {
        items = o.adds.items;
        is = o.adds.is;
        calls = subst (λ es. AllCalls d.setting m (deeds_of call_of script es) (map f xs) (map f ys)) (sym one) (map f ys, dropped ∙ ap (λ x. take (x - 1) (map f xs)) (n_is ∙ sym (length-map xs f)), refl);
      }
