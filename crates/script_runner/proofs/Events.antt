-- Directives that move the hardware, show something or reset the chip.
use Rattle.std.proofs.Common.{◌≡◌, ◌≢◌, ℕ, ◌+◌, ◌*◌, ◌<◌, ◌≤◌, true, false, List, [], ◌∷◌, ◌++◌, length, Option, Some, None, refl, sym, ◌∙◌, ap, subst, arith, append-nil}
use Rattle.std.specs.Prelude.{nat_le, nat_lt}
use Rattle.std.proofs.lemmas.Bool.Decides.{nat_tests}
use Rattle.chip_model.specs.Chip.{Chip, now_of, happened, reset_chip, CanHappen}
use Rattle.chip_model.proofs.HistoryLaws.{level_leaves}
use Rattle.irq_control.specs.declared.held.Held.{Held}
use Rattle.irq_control.specs.declared.held.Held.TheVariants.{Frames}
use Rattle.mcal_base.specs.declared.directive.Directive.{Directive}
use Rattle.mcal_base.specs.declared.directive.Order.{Order}
use Rattle.mcal_base.specs.declared.directive.Order.TheVariants as orders
use Rattle.mcal_base.specs.declared.directive.Reason.{Reason}
use Rattle.mcal_base.specs.declared.directive.Reason.TheVariants.{PowerOn, Watchdog, Software}
use Rattle.mcal_base.specs.declared.directive.Request.{Request}
use Rattle.mcal_base.specs.declared.directive.Shown.{Shown}
use Rattle.run_model.specs.Entry.{Entry, Stays, Happens, Resets, Written, written, words_of_order, is_happening}
use Rattle.run_model.specs.Frame as frame
use Rattle.run_model.specs.Follows.{Gives, IsOne, HappensOnly, Shows}
use Rattle.run_model.specs.Legal.{hardware_held}
use Rattle.run_model.specs.Moment as moment
use Rattle.run_model.specs.Moment.{Setting, Moment}
use Rattle.run_model.specs.Script.{deeds_of, moved_by}
use Rattle.run_model.specs.World.{World}
use Rattle.step_runner.specs.Driver.{Driver, EndsBefore}
use Rattle.step_runner.specs.Kept.{Kept}
use Rattle.step_runner.specs.Stands.{Stands, paired}
use Rattle.step_runner.specs.declared.stack.Under.{Under}
use Rattle.script_runner.specs.Standing.{moment_of, IsStanding, Obeyed, GivenFits, is_built, is_hardware, may_be_held, filled_by, words_by, room_on, work_of}
use Rattle.script_runner.specs.Busy.{busies}
use Rattle.script_runner.proofs.Arms.{depth_is, deeds_more, moment_more}
use Rattle.script_runner.proofs.Busy.{busies-event}
use Rattle.script_runner.proofs.Given.{room_event}
use Rattle.script_runner.proofs.Orders.{item_filled, one_filled, no_opens, some_opens}

-- ---- the orders that move the hardware

pub is_noted : (order : Order) → is_hardware order ≡ true → is_happening order ≡ true
is_noted (orders.Level p v) h = refl
is_noted (orders.Analog i v) h = refl
is_noted (orders.Trigger i) h = refl
is_noted (orders.Miso u ws) h = refl
is_noted (orders.SpiFault u) h = refl
is_noted (orders.Fill c ws) h = refl
is_noted orders.Detach h = refl
is_noted _ h = cc

-- and they end before the watchdog's time does
pub is_early : (order : Order) (left : Option ℕ) → is_hardware order ≡ true → EndsBefore order left
is_early (orders.Tick n) left h = cc
is_early _ left h = tt

-- the words of its list are those that it brings
pub words_are : (order : Order) → length (words_of_order order) ≡ words_by order
words_are (orders.Miso u ws) = refl
words_are (orders.Fill c ws) = refl
words_are _ = refl

moves_by : {Call : Type 0} (order : Order) → is_hardware order ≡ true → moved_by {Call = Call} order ≡ moment.Happens order ∷ []
moves_by (orders.Level p v) h = refl
moves_by (orders.Analog i v) h = refl
moves_by (orders.Trigger i) h = refl
moves_by (orders.Miso u ws) h = refl
moves_by (orders.SpiFault u) h = refl
moves_by (orders.Fill c ws) h = refl
moves_by orders.Detach h = refl
moves_by _ h = cc

-- no other may be held
pub none_held : {State Call : Type 0} (g : Setting State Call) (m : Moment State Call) (order : Order) → may_be_held order ≡ false → hardware_held g m order ≡ None
none_held g m (orders.Fill c ws) h = cc
none_held g m orders.Detach h = cc
none_held g m _ h = refl

pub few_ticks : (n : ℕ) → nat_le n 1000000 ≡ true → n ≤ 1000000
few_ticks n h = grind (arith, nat_tests)

is_unit : (u : ℕ) → nat_lt u 2 ≡ true → u < 2
is_unit u h = grind (arith, nat_tests)

-- so many peripheral ticks
pub product : (n rate : ℕ) → n ≤ 1000000 → rate ≤ 16 → n * rate ≤ 16000000
product n rate few slow = grind arith

pub may_happen : (c : Chip) (order : Order) → is_hardware order ≡ true → is_built order ≡ true → may_be_held order ≡ false → GivenFits order c → CanHappen c order
may_happen c (orders.Miso u ws) hard built other given = let lt = is_unit u built in (lt, given u lt)
may_happen c (orders.Tick n) hard built other given = cc
may_happen c (orders.Fill k ws) hard built other given = cc
may_happen c _ hard built other given = tt

osc_same : (c : Chip) (order : Order) → is_hardware order ≡ true → (happened c order).clock.osc ≡ c.clock.osc
osc_same c (orders.Tick n) hard = cc
osc_same c (orders.Level p v) hard = level_leaves (λ d. d.clock.osc) c p v refl
osc_same c (orders.Analog i v) hard = refl
osc_same c (orders.Trigger i) hard = refl
osc_same c (orders.Miso u ws) hard = refl
osc_same c (orders.SpiFault u) hard = refl
osc_same c (orders.Fill k ws) hard = refl
osc_same c _ hard = refl

now_same : (c : Chip) (order : Order) → is_hardware order ≡ true → now_of (happened c order) ≡ now_of c
now_same c (orders.Tick n) hard = cc
now_same c (orders.Level p v) hard = level_leaves now_of c p v refl
now_same c (orders.Analog i v) hard = refl
now_same c (orders.Trigger i) hard = refl
now_same c (orders.Miso u ws) hard = refl
now_same c (orders.SpiFault u) hard = refl
now_same c (orders.Fill k ws) hard = refl
now_same c _ hard = refl

-- what one of them gives
gives_one : {State Call : Type 0} (g : Setting State Call) (call_of : Request → Call) (m : Moment State Call) (line : ℕ) (order : Order) (items : List Entry) → is_hardware order ≡ true → hardware_held g m order ≡ None → IsOne m line (Happens order) items → Gives g call_of m line order items
gives_one g call_of m line (orders.Level p v) items h b one = one
gives_one g call_of m line (orders.Analog i v) items h b one = one
gives_one g call_of m line (orders.Trigger i) items h b one = one
gives_one g call_of m line (orders.Miso u ws) items h b one = one
gives_one g call_of m line (orders.SpiFault u) items h b one = one
gives_one g call_of m line (orders.Fill c ws) items h b one = subst (λ x. HappensOnly m line (orders.Fill c ws) x items) (sym b) one
gives_one g call_of m line orders.Detach items h b one = subst (λ x. HappensOnly m line orders.Detach x items) (sym b) one
gives_one g call_of m line _ items h b one = cc

gives_held : {State Call : Type 0} (g : Setting State Call) (call_of : Request → Call) (m : Moment State Call) (line : ℕ) (order : Order) (cause : Held) (items : List Entry) → may_be_held order ≡ true → hardware_held g m order ≡ Some cause → IsOne m line (Stays cause) items → Gives g call_of m line order items
gives_held g call_of m line (orders.Fill k ws) cause items may held one = subst (λ x. HappensOnly m line (orders.Fill k ws) x items) (sym held) one
gives_held g call_of m line orders.Detach cause items may held one = subst (λ x. HappensOnly m line orders.Detach x items) (sym held) one
gives_held g call_of m line _ cause items may held one = cc

-- an order that fills an array
pub fill_is : (order : Order) (c : ℕ) → filled_by order ≡ Some c → (ws : List ℕ) × (order ≡ orders.Fill c ws)
fill_is (orders.Fill k ws) c e = let i : k ≡ c = cc in (ws, ap (λ x. orders.Fill x ws) i)
fill_is _ c e = cc

gives_reset : {State Call : Type 0} (g : Setting State Call) (call_of : Request → Call) (m : Moment State Call) (line : ℕ) (reason : Reason) (items : List Entry) → reason ≢ Software → IsOne m line (Resets reason (length m.opens)) items → Gives g call_of m line (orders.Reset reason) items
gives_reset g call_of m line PowerOn items h one = one
gives_reset g call_of m line Watchdog items h one = one
gives_reset g call_of m line Software items h one = absurd (h refl)

module _ {State Call Frame : Type 0} (d : Driver State Call Frame) (first : Chip) (call_of : Request → Call) (script : List Directive) where
  pub slow_chip : (chip : Chip) (us : List (Under Frame)) (es : List Entry) → ((chip : Chip) (w : World) (ps : List (Frame × frame.Open Call)) (s : State) → d.relates chip w ps s → d.setting.machine.rate s ≤ 16) → IsStanding d first call_of script chip us es → chip.clock.rate ≤ 16
  slow_chip chip us es slow h =
      let m = moment_of d first call_of script es in
      let e : chip.clock.rate ≡ d.setting.machine.rate m.state = ap (λ x. x.clock.rate) h.matches.chip_is ∙ h.matches.rate in
      let k = slow m.chip m.world (paired us m.opens) m.state h.matches.relates in
      omega (arith, e, k)

  -- the hardware moved
  pub moves : (most line n : ℕ) (order : Order) (chip : Chip) (kept : Kept Frame) (before : Written) (chip1 : Chip) (after : Written) → kept.steps ≤ most → is_hardware order ≡ true → hardware_held d.setting (moment_of d first call_of script before.entries) order ≡ None → words_by order ≤ 64 → n ≡ length kept.frames → chip1 ≡ happened chip order → after ≡ written before line n (Happens order) (words_of_order order) → Stands d first chip1 kept.frames (deeds_of call_of script before.entries ++ moment.Happens order ∷ []) → IsStanding d first call_of script chip kept.frames before.entries → Obeyed d first call_of script most line order chip kept before chip1 kept after
  moves most line n order chip kept before chip1 after few hard free short n_is chip_is is moved stands =
      let e : Entry = record { line = line; depth = n; said = Happens order } in
      let m = moment_of d first call_of script before.entries in
      record {
        adds = record {
          items = e ∷ [];
          is = ap (λ w. w.entries) is;
          right = gives_one d.setting call_of m line order (e ∷ []) hard free
              (ap (λ x. let i : Entry = record { line = line; depth = x; said = Happens order } in i ∷ []) (n_is ∙ depth_is d first call_of script chip kept.frames before.entries stands));
          leads = sym (moment_more d first call_of script before.entries e (moved_by order) refl ∙ ap (λ ds. moment.after_all d.setting m ds) (sym (append-nil (moved_by order)))) ∙ ap (λ w. moment_of d first call_of script w.entries) (sym is);
          stands = subst (λ w. IsStanding d first call_of script chip1 kept.frames w.entries) (sym is) (subst (λ h. Stands d first chip1 kept.frames h) (sym (deeds_more d first call_of script before.entries e (moment.Happens order ∷ []) (moves_by order hard))) moved);
        };
        filled = item_filled d first call_of script most line n (Happens order) (words_of_order order) kept.steps kept.steps chip before chip1 after few refl refl (omega (arith, words_are order, short)) (subst (λ x. busies x ≤ busies chip) (sym chip_is) (busies-event chip order)) is;
        more = omega arith;
        osc = (let e = ap (λ x. x.clock.osc) chip_is ∙ osc_same chip order hard in omega (arith, e));
        now = (let e = ap now_of chip_is ∙ now_same chip order hard in omega (arith, e));
        given = λ u. subst (λ x. room_on chip u ≤ room_on x u + words_by order) (sym chip_is) (room_event chip order u);
        spent = omega arith;
      }

  -- it was held
  pub moves_not : (most line n : ℕ) (order : Order) (cause : Held) (chip : Chip) (kept : Kept Frame) (before after : Written) → kept.steps ≤ most → may_be_held order ≡ true → n ≡ length kept.frames → hardware_held d.setting (moment_of d first call_of script before.entries) order ≡ Some cause → after ≡ written before line n (Stays cause) [] → IsStanding d first call_of script chip kept.frames before.entries → Obeyed d first call_of script most line order chip kept before chip kept after
  moves_not most line n order cause chip kept before after few may n_is held is stands =
      let e : Entry = record { line = line; depth = n; said = Stays cause } in
      let m = moment_of d first call_of script before.entries in
      let depth = depth_is d first call_of script chip kept.frames before.entries stands in
      record {
        adds = record {
          items = e ∷ [];
          is = ap (λ w. w.entries) is;
          right = gives_held d.setting call_of m line order cause (e ∷ []) may held (ap (λ x. let i : Entry = record { line = line; depth = x; said = Stays cause } in i ∷ []) (n_is ∙ depth));
          leads = sym (moment_more d first call_of script before.entries e [] refl) ∙ ap (λ w. moment_of d first call_of script w.entries) (sym is);
          stands = subst (λ w. IsStanding d first call_of script chip kept.frames w.entries) (sym is) (subst (λ h. Stands d first chip kept.frames h) (sym (deeds_more d first call_of script before.entries e [] refl ∙ append-nil (deeds_of call_of script before.entries))) stands);
        };
        filled = one_filled d first call_of script most line n (Stays cause) kept.steps kept.steps chip before after few refl refl is;
        more = omega arith;
        osc = omega arith;
        now = omega arith;
        given = λ u. omega arith;
        spent = omega arith;
      }

  -- something was shown
  pub shows : (most line n : ℕ) (shown : Shown) (chip : Chip) (kept : Kept Frame) (before after : Written) → kept.steps ≤ most → length kept.frames ≡ 0 → n ≡ length kept.frames → after ≡ written before line n (Happens (orders.Show shown)) [] → IsStanding d first call_of script chip kept.frames before.entries → Obeyed d first call_of script most line (orders.Show shown) chip kept before chip kept after
  shows most line n shown chip kept before after few none n_is is stands =
      let e : Entry = record { line = line; depth = n; said = Happens (orders.Show shown) } in
      let m = moment_of d first call_of script before.entries in
      let depth = depth_is d first call_of script chip kept.frames before.entries stands in
      let opens : m.opens ≡ [] = no_opens d first call_of script m.opens (sym depth ∙ none) in
      record {
        adds = record {
          items = e ∷ [];
          is = ap (λ w. w.entries) is;
          right = subst (λ os. Shows m line (orders.Show shown) os (e ∷ [])) (sym opens) (ap (λ x. let i : Entry = record { line = line; depth = x; said = Happens (orders.Show shown) } in i ∷ []) (n_is ∙ depth));
          leads = sym (moment_more d first call_of script before.entries e [] refl) ∙ ap (λ w. moment_of d first call_of script w.entries) (sym is);
          stands = subst (λ w. IsStanding d first call_of script chip kept.frames w.entries) (sym is) (subst (λ h. Stands d first chip kept.frames h) (sym (deeds_more d first call_of script before.entries e [] refl ∙ append-nil (deeds_of call_of script before.entries))) stands);
        };
        filled = one_filled d first call_of script most line n (Happens (orders.Show shown)) kept.steps kept.steps chip before after few refl refl is;
        more = omega arith;
        osc = omega arith;
        now = omega arith;
        given = λ u. omega arith;
        spent = omega arith;
      }

  -- a frame is under way, so that nothing is shown
  pub shows_not : (most line n : ℕ) (shown : Shown) (chip : Chip) (kept : Kept Frame) (before after : Written) → kept.steps ≤ most → 0 < length kept.frames → n ≡ length kept.frames → after ≡ written before line n (Stays Frames) [] → IsStanding d first call_of script chip kept.frames before.entries → Obeyed d first call_of script most line (orders.Show shown) chip kept before chip kept after
  shows_not most line n shown chip kept before after few some n_is is stands =
      let e : Entry = record { line = line; depth = n; said = Stays Frames } in
      let m = moment_of d first call_of script before.entries in
      let depth = depth_is d first call_of script chip kept.frames before.entries stands in
      let o = some_opens d first call_of script kept.frames m.opens depth some in
      record {
        adds = record {
          items = e ∷ [];
          is = ap (λ w. w.entries) is;
          right = subst (λ os. Shows m line (orders.Show shown) os (e ∷ [])) (sym o.2) (ap (λ x. let i : Entry = record { line = line; depth = x; said = Stays Frames } in i ∷ []) (n_is ∙ depth));
          leads = sym (moment_more d first call_of script before.entries e [] refl) ∙ ap (λ w. moment_of d first call_of script w.entries) (sym is);
          stands = subst (λ w. IsStanding d first call_of script chip kept.frames w.entries) (sym is) (subst (λ h. Stands d first chip kept.frames h) (sym (deeds_more d first call_of script before.entries e [] refl ∙ append-nil (deeds_of call_of script before.entries))) stands);
        };
        filled = one_filled d first call_of script most line n (Stays Frames) kept.steps kept.steps chip before after few refl refl is;
        more = omega arith;
        osc = omega arith;
        now = omega arith;
        given = λ u. omega arith;
        spent = omega arith;
      }

  -- the chip was reset
  pub resets : (most line n dropped : ℕ) (reason : Reason) (chip : Chip) (kept : Kept Frame) (before : Written) (chip1 : Chip) (k1 : Kept Frame) (after : Written) → kept.steps ≤ most → reason ≢ Software → n ≡ length kept.frames → dropped ≡ length kept.frames → chip1 ≡ reset_chip chip reason → k1 ≡ record kept { frames = [] } → after ≡ written before line n (Resets reason dropped) [] → Stands d first chip1 k1.frames (deeds_of call_of script before.entries ++ moment.Resets reason ∷ []) → IsStanding d first call_of script chip kept.frames before.entries → Obeyed d first call_of script most line (orders.Reset reason) chip kept before chip1 k1 after
  resets most line n dropped reason chip kept before chip1 k1 after few asked n_is dropped_is chip_is k1_is is moved stands =
      let e : Entry = record { line = line; depth = n; said = Resets reason dropped } in
      let m = moment_of d first call_of script before.entries in
      let depth = depth_is d first call_of script chip kept.frames before.entries stands in
      let steps : k1.steps ≡ kept.steps = ap (λ k. k.steps) k1_is in
      record {
        adds = record {
          items = e ∷ [];
          is = ap (λ w. w.entries) is;
          right = gives_reset d.setting call_of m line reason (e ∷ []) asked
              (ap (λ x. let i : Entry = record { line = line; depth = x; said = Resets reason dropped } in i ∷ []) (n_is ∙ depth) ∙ ap (λ x. let i : Entry = record { line = line; depth = length m.opens; said = Resets reason x } in i ∷ []) (dropped_is ∙ depth));
          leads = sym (moment_more d first call_of script before.entries e (moment.Resets reason ∷ []) refl) ∙ ap (λ w. moment_of d first call_of script w.entries) (sym is);
          stands = subst (λ w. IsStanding d first call_of script chip1 k1.frames w.entries) (sym is) (subst (λ h. Stands d first chip1 k1.frames h) (sym (deeds_more d first call_of script before.entries e (moment.Resets reason ∷ []) refl)) moved);
        };
        filled = item_filled d first call_of script most line n (Resets reason dropped) [] kept.steps k1.steps chip before chip1 after few refl steps (omega arith) (let e : busies chip1 ≡ 0 = ap busies chip_is in omega (arith, e)) is;
        more = omega (arith, steps);
        osc = (let e : chip1.clock.osc ≡ chip.clock.osc = ap (λ x. x.clock.osc) chip_is in omega (arith, e));
        now = (let e : now_of chip1 ≡ now_of chip = ap now_of chip_is in omega (arith, e));
        given = λ u. subst (λ x. room_on chip u ≤ room_on x u + 0) (sym chip_is) (omega arith);
        spent = subst (λ k. work_of d k ≤ work_of d kept + 0) (sym k1_is) (omega arith);
      }
