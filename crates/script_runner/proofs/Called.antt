-- What a directive's items made of the devices.
use Rattle.std.proofs.Common.{◌≡◌, ℕ, zero, suc, ◌-◌, ◌<◌, Bool, true, false, List, [], ◌∷◌, ◌++◌, length, Option, Some, None, refl, sym, ◌∙◌, ap, subst, arith, append_assoc, append-nil}
use Rattle.std.specs.Prelude.{MatchBool, nat_lt}
use Rattle.std.specs.List.{AllByRecursion}
use Rattle.chip_model.specs.Chip.{Chip}
use Rattle.chip_model.specs.Devices.{CallsRight}
use Rattle.irq_control.specs.declared.held.Held.{Held}
use Rattle.mcal_base.specs.declared.directive.Directive.{Directive}
use Rattle.mcal_base.specs.declared.directive.Order.{Order}
use Rattle.mcal_base.specs.declared.directive.Order.TheVariants as orders
use Rattle.mcal_base.specs.declared.directive.Reason.TheVariants.{PowerOn, Watchdog, Software}
use Rattle.mcal_base.specs.declared.directive.Request.{Request}
use Rattle.mcal_base.specs.declared.moves.Move.{Move}
use Rattle.run_model.specs.declared.item.Stepped.{Stepped}
use Rattle.run_model.specs.Devices.{AllCalls, IsStill}
use Rattle.run_model.specs.Entry as entry
use Rattle.run_model.specs.Entry.{Entry, Said, Written, written}
use Rattle.run_model.specs.Frame.{Open}
use Rattle.run_model.specs.Follows.{IsOne, Ticks, ticks_left, ticks_through, BeginsOnly, HappensOnly, Shows, Gives, call_held, line_held}
use Rattle.run_model.specs.Legal.{hardware_held}
use Rattle.run_model.specs.Moment.{Setting, Moment, start_moment, after_all}
use Rattle.run_model.specs.Script.{deed_of, deeds_of, moved_by, beginnings_of, order_at}
use Rattle.run_model.proofs.CallsLaws.{calls-append, calls-still}
use Rattle.run_model.proofs.Following.{Readies, At_once, After_wait, after_all-append, deeds_of-append}
use Rattle.serial_devices.specs.Lines.{Line}
use Rattle.step_runner.specs.Driver.{Driver}
use Rattle.step_runner.specs.Kept.{Kept}
use Rattle.step_runner.specs.declared.stack.Under.{Under}
use Rattle.script_runner.specs.Standing.{moment_of, IsStanding, Called, Obeyed, RanOut, Waited}

-- ---- items that leave the devices as they were

-- an item that is no step, and drops no device
abbrev pub ItemLeaves : Said → Type 0
ItemLeaves (entry.Steps s) = ⊥
ItemLeaves (entry.Happens orders.Detach) = ⊥
ItemLeaves (entry.Happens o) = Unit {0}
ItemLeaves entry.Begins = Unit {0}
ItemLeaves (entry.Stays c) = Unit {0}
ItemLeaves (entry.Resets r k) = Unit {0}

abbrev pub ItemsLeave : List Entry → Type 0
ItemsLeave es = AllByRecursion (λ (e : Entry). ItemLeaves e.said) es

still_moved : (Call : Type 0) (o : Order) → ItemLeaves (entry.Happens o) → AllByRecursion (IsStill {Call = Call}) (moved_by o)
still_moved Call (orders.Show s) h = tt
still_moved Call orders.Detach h = absurd h
still_moved Call o h = (tt, tt)

still_begun : {Call : Type 0} (call_of : Request → Call) (o : Option Order) → AllByRecursion (IsStill {Call = Call}) (beginnings_of call_of o)
still_begun call_of (Some (orders.Call level r)) = (tt, tt)
still_begun call_of (Some (orders.Do level r)) = (tt, tt)
still_begun call_of (Some (orders.Enter l)) = (tt, tt)
still_begun call_of (Some (orders.Serve l)) = (tt, tt)
still_begun call_of o = tt

still_item : {Call : Type 0} (call_of : Request → Call) (o : Option Order) (said : Said) → ItemLeaves said → AllByRecursion (IsStill {Call = Call}) (deed_of call_of o said)
still_item call_of o (entry.Steps s) h = absurd h
still_item call_of o (entry.Happens x) h = still_moved _ x h
still_item call_of o entry.Begins h = still_begun call_of o
still_item call_of o (entry.Stays c) h = tt
still_item call_of o (entry.Resets r k) h = (tt, tt)

both : {A : Type 0} (P : A → Type 0) (xs ys : List A) → AllByRecursion P xs → AllByRecursion P ys → AllByRecursion P (xs ++ ys)
both P [] ys h k = k
both P (x ∷ xs) ys h k = (h.0, both P xs ys h.1 k)

still_items : {Call : Type 0} (call_of : Request → Call) (script : List Directive) (es : List Entry) → ItemsLeave es → AllByRecursion (IsStill {Call = Call}) (deeds_of call_of script es)
still_items call_of script [] h = tt
still_items call_of script (e ∷ es) h = both IsStill (deed_of call_of (order_at script e.line) e.said) (deeds_of call_of script es) (still_item call_of (order_at script e.line) e.said h.0) (still_items call_of script es h.1)

-- ---- what a directive gives that runs no frame, and drops no device

-- the directive runs no frame, and drops no device
abbrev pub LeavesDevices : Order → Type 0
LeavesDevices (orders.Do level r) = ⊥
LeavesDevices (orders.Serve l) = ⊥
LeavesDevices (orders.Run n) = ⊥
LeavesDevices (orders.Upto stop) = ⊥
LeavesDevices orders.Finish = ⊥
LeavesDevices orders.Detach = ⊥
LeavesDevices order = Unit {0}

module _ {State Call : Type 0} (g : Setting State Call) (call_of : Request → Call) (m : Moment State Call) (line : ℕ) where
  one_still : (said : Said) (items : List Entry) → ItemLeaves said → IsOne m line said items → ItemsLeave items
  one_still said items still is = subst (λ es. ItemsLeave es) (sym is) (still, tt)

  begins_still : (held : Option Held) (items : List Entry) → BeginsOnly m line held items → ItemsLeave items
  begins_still None items h = one_still entry.Begins items tt h
  begins_still (Some c) items h = one_still (entry.Stays c) items tt h

  happens_still : (order : Order) (held : Option Held) (items : List Entry) → ItemLeaves (entry.Happens order) → HappensOnly m line order held items → ItemsLeave items
  happens_still order None items leaves h = one_still (entry.Happens order) items leaves h
  happens_still order (Some c) items leaves h = one_still (entry.Stays c) items tt h

  shows_still : (order : Order) (os : List (Open Call)) (items : List Entry) → ItemLeaves (entry.Happens order) → Shows m line order os items → ItemsLeave items
  shows_still order [] items leaves h = one_still (entry.Happens order) items leaves h
  shows_still order (o ∷ os) items leaves h = one_still (entry.Stays _) items tt h

  left_still : (rest : ℕ) → ItemsLeave (ticks_left line rest)
  left_still zero = tt
  left_still (suc n) = (tt, tt)

  ticks_by : (n left : ℕ) (within : Bool) (items : List Entry) → MatchBool within (IsOne m line (entry.Happens (orders.Tick n)) items) (items ≡ ticks_through line (length m.opens) left (n - left)) → ItemsLeave items
  ticks_by n left true items h = one_still (entry.Happens (orders.Tick n)) items tt h
  ticks_by n left false items h = subst (λ es. ItemsLeave es) (sym h) (tt, (tt, left_still (n - left)))

  ticks_still : (n : ℕ) (left : Option ℕ) (items : List Entry) → Ticks m line n left items → ItemsLeave items
  ticks_still n None items h = one_still (entry.Happens (orders.Tick n)) items tt h
  ticks_still n (Some left) items h = ticks_by n left (nat_lt n left) items h

  pub given_still : (order : Order) (items : List Entry) → LeavesDevices order → Gives g call_of m line order items → ItemsLeave items
  given_still (orders.Call level r) items none h = begins_still (call_held g m (call_of r) level) items h
  given_still (orders.Do level r) items none h = absurd none
  given_still (orders.Enter l) items none h = begins_still (line_held g m l) items h
  given_still (orders.Serve l) items none h = absurd none
  given_still (orders.Run n) items none h = absurd none
  given_still (orders.Upto stop) items none h = absurd none
  given_still orders.Finish items none h = absurd none
  given_still (orders.Tick n) items none h = ticks_still n (g.machine.expires m.world m.state) items h
  given_still (orders.Level p v) items none h = one_still (entry.Happens (orders.Level p v)) items tt h
  given_still (orders.Analog i v) items none h = one_still (entry.Happens (orders.Analog i v)) items tt h
  given_still (orders.Trigger i) items none h = one_still (entry.Happens (orders.Trigger i)) items tt h
  given_still (orders.Miso u ws) items none h = one_still (entry.Happens (orders.Miso u ws)) items tt h
  given_still (orders.SpiFault u) items none h = one_still (entry.Happens (orders.SpiFault u)) items tt h
  given_still (orders.Fill c ws) items none h = happens_still (orders.Fill c ws) (hardware_held g m (orders.Fill c ws)) items tt h
  given_still orders.Detach items none h = absurd none
  given_still (orders.Reset Software) items none h = absurd h
  given_still (orders.Reset PowerOn) items none h = one_still (entry.Resets PowerOn _) items tt h
  given_still (orders.Reset Watchdog) items none h = one_still (entry.Resets Watchdog _) items tt h
  given_still (orders.Show s) items none h = shows_still (orders.Show s) m.opens items tt h

-- ---- calls

module _ {State Call Frame : Type 0} (d : Driver State Call Frame) (first : Chip) (call_of : Request → Call) (script : List Directive) where
  -- nothing was added
  pub called_none : (before : List Entry) (lines : List Line) → Called d first call_of script before before lines lines
  called_none before lines = record { items = []; is = sym (append-nil before); calls = refl }

  -- items were added that leave the devices as they were
  pub called_still : (before after : List Entry) (items : List Entry) (lines : List Line) → after ≡ before ++ items → ItemsLeave items → Called d first call_of script before after lines lines
  called_still before after items lines is none = record {
    items = items;
    is = is;
    calls = calls-still d.setting (moment_of d first call_of script before) (deeds_of call_of script items) lines (still_items call_of script items none);
  }

  -- one such item was written
  pub called_written : (before after : Written) (line depth : ℕ) (said : Said) (words : List ℕ) (lines : List Line) → after ≡ written before line depth said words → ItemLeaves said → Called d first call_of script before.entries after.entries lines lines
  called_written before after line depth said words lines is none = called_still before.entries after.entries ((record { line = line; depth = depth; said = said }) ∷ []) lines (ap (λ w. w.entries) is) (none, tt)

  -- a step was written
  pub called_step : (before after : Written) (line depth : ℕ) (s : Stepped) (words : List ℕ) (chip : Chip) (us : List (Under Frame)) (old new : List Line) → after ≡ written before line depth (entry.Steps s) words → IsStanding d first call_of script chip us before.entries → CallsRight chip s.made s.received old new → Called d first call_of script before.entries after.entries old new
  called_step before after line depth s words chip us old new is stands calls = record {
    items = (record { line = line; depth = depth; said = entry.Steps s }) ∷ [];
    is = ap (λ w. w.entries) is;
    calls = (new, subst (λ c. CallsRight c s.made s.received old new) stands.matches.chip_is calls, refl);
  }

  -- the moment behind the items
  pub moment_then : (before between items : List Entry) → between ≡ before ++ items → moment_of d first call_of script between ≡ after_all d.setting (moment_of d first call_of script before) (deeds_of call_of script items)
  moment_then before between items is =
      ap (λ es. moment_of d first call_of script es) is
      ∙ (ap (λ ds. after_all d.setting (start_moment d.setting first) ds) (deeds_of-append call_of script before items)
      ∙ after_all-append d.setting (start_moment d.setting first) (deeds_of call_of script before) (deeds_of call_of script items))

  -- first these items, then those
  pub called_then : (before between after : List Entry) (l0 l1 l2 : List Line) → Called d first call_of script before between l0 l1 → Called d first call_of script between after l1 l2 → Called d first call_of script before after l0 l2
  called_then before between after l0 l1 l2 a b = record {
    items = a.items ++ b.items;
    is = b.is ∙ (ap (λ es. es ++ b.items) a.is ∙ append_assoc before a.items b.items);
    calls = subst (λ ds. AllCalls d.setting (moment_of d first call_of script before) ds l0 l2) (sym (deeds_of-append call_of script a.items b.items))
        (calls-append d.setting (moment_of d first call_of script before) (deeds_of call_of script a.items) (deeds_of call_of script b.items) l0 l1 l2 a.calls
        (subst (λ m. AllCalls d.setting m (deeds_of call_of script b.items) l1 l2) (moment_then before between a.items a.is) b.calls));
  }

  -- a directive was obeyed that runs no frame, and drops no device
  pub called_obeyed : (most line : ℕ) (order : Order) (chip : Chip) (k : Kept Frame) (before : Written) (chip1 : Chip) (k1 : Kept Frame) (after : Written) (lines : List Line) → LeavesDevices order → Obeyed d first call_of script most line order chip k before chip1 k1 after → Called d first call_of script before.entries after.entries lines lines
  called_obeyed most line order chip k before chip1 k1 after lines none o =
      called_still before.entries after.entries o.adds.items lines o.adds.is (given_still d.setting call_of (moment_of d first call_of script before.entries) line order o.adds.items none o.adds.right)

  -- a frame waited
  ready_still : {m m1 : Moment State Call} {s : Stepped} {ws : List Entry} (line : ℕ) → Readies d.setting line m s ws m1 → ItemsLeave ws
  ready_still line At_once = tt
  ready_still line (After_wait u busy shown may early awaited) = (tt, tt)

  pub called_waited : (move_of : Frame → Move) (line : ℕ) (chip : Chip) (us : List (Under Frame)) (before : Written) (chip1 : Chip) (after : Written) (lines : List Line) → 0 < length us → Waited d first call_of script move_of line chip us before chip1 after → Called d first call_of script before.entries after.entries lines lines
  called_waited move_of line chip [] before chip1 after lines some w = absurd (omega (arith, some))
  called_waited move_of line chip (u ∷ us) before chip1 after lines some w =
      let s : Stepped = record { made = move_of u.frame; value = 0; received = 0; event = None; ended = None } in
      called_still before.entries after.entries w.waits lines w.is (ready_still line (w.ready s refl))

  -- the watchdog's time ended
  pub called_out : (line : ℕ) (chip : Chip) (k : Kept Frame) (before : Written) (chip1 : Chip) (k1 : Kept Frame) (after : Written) (lines : List Line) → RanOut d first call_of script line chip k before chip1 k1 after → Called d first call_of script before.entries after.entries lines lines
  called_out line chip k before chip1 k1 after lines o = called_still before.entries after.entries _ lines o.down.is (tt, (tt, tt))
