-- The waits of frames, and ticks, through the end of the watchdog's time.
use Rattle.std.proofs.Common.{◌≡◌, ℕ, zero, suc, ◌+◌, ◌-◌, ◌*◌, ◌<◌, ◌≤◌, Bool, true, false, cond, ◌||◌, List, [], ◌∷◌, ◌++◌, length, Option, Some, None, refl, sym, ◌∙◌, ap, subst, arith, append_assoc, append-nil, length-append}
use Rattle.std.specs.Prelude.{nat_le, nat_lt, ◌==◌}
use Rattle.std.proofs.lemmas.Bool.Decides.{nat_tests}
use Rattle.mcal_base.specs.facts.Numbers.{eq_self}
use Rattle.chip_model.specs.Chip.{Chip, CanHappen, chip_after, expiry_of, happened, is_masked, now_of, reset_chip, stall_of, ticked, wait_on}
use Rattle.mcal_base.specs.Reach.{CanApply}
use Rattle.mcal_base.specs.declared.directive.Directive.{Directive}
use Rattle.mcal_base.specs.declared.directive.Order.TheVariants as orders
use Rattle.mcal_base.specs.declared.directive.Reason.TheVariants.{Watchdog}
use Rattle.mcal_base.specs.declared.directive.Request.{Request}
use Rattle.mcal_base.specs.declared.moves.Move.{Move}
use Rattle.mcal_base.specs.declared.moves.Move.TheVariants.{Read, Write, Load, Store, Mask, Unmask, Note, Report}
use Rattle.mcal_base.specs.declared.register.Reg.{Reg}
use Rattle.mcal_base.specs.declared.register.Reg.TheVariants.{SerialWait}
use Rattle.mcal_base.specs.declared.routine.Taken.{Taken}
use Rattle.run_model.specs.Entry.{Entry, Happens, Resets, Written, written}
use Rattle.run_model.specs.Follows.{IsOne, MayWait, Ticks, awaits, ends_within, ticks_left, ticks_through}
use Rattle.run_model.specs.Frame.{Open, is_shared, is_wait}
use Rattle.run_model.specs.Moment as moment
use Rattle.run_model.specs.Moment.{Moment, after_all}
use Rattle.run_model.specs.Script.{deeds_of}
use Rattle.run_model.specs.Stops.{steps_in}
use Rattle.run_model.proofs.Following.{Readies, At_once, After_wait, after_all-append}
use Rattle.step_runner.specs.Driver.{Driver, EndsBefore, IsLawful}
use Rattle.step_runner.specs.Kept.{Kept, IsLooked, IsStill, upcoming_of}
use Rattle.step_runner.specs.Stands.{AreFramesOf, IsGuarded, Stands, paired}
use Rattle.step_runner.specs.declared.stack.Under.{Under}
use Rattle.step_runner.proofs.Runs.{left-is}
use Rattle.script_runner.specs.Busy.{busies}
use Rattle.script_runner.specs.Standing.{moment_of, IsStanding, HasTime, NearTime, Obeyed, Ticked, RanDown, RanOut, Waited, left_within, room_on, work_of}
use Rattle.script_runner.proofs.Arms.{depth_is, deeds_more, moment_more}
use Rattle.script_runner.proofs.Busy.{busies-event, busies-move, busies-read, busies-wait}
use Rattle.script_runner.proofs.Events.{product}
use Rattle.script_runner.proofs.Orders.{item_filled}
use Rattle.script_runner.proofs.Stops.{no_step_counted, two_counted}

-- ---- what waits

-- a move that waits reads the wait register of a unit
stalls-read : (c : Chip) (r : Reg) → 0 < stall_of c (Read r) → (u : ℕ) × (Read r ≡ Read (SerialWait u))
stalls-read c (SerialWait u) some = (u, refl)
stalls-read c _ some = absurd (omega (arith, some))

stalls : (c : Chip) (made : Move) → 0 < stall_of c made → (u : ℕ) × (made ≡ Read (SerialWait u))
stalls c (Read r) some = stalls-read c r some
stalls c (Write r value) some = absurd (omega (arith, some))
stalls c (Load k) some = absurd (omega (arith, some))
stalls c (Store k value) some = absurd (omega (arith, some))
stalls c Mask some = absurd (omega (arith, some))
stalls c Unmask some = absurd (omega (arith, some))
stalls c (Note notice) some = absurd (omega (arith, some))
stalls c (Report fault) some = absurd (omega (arith, some))

-- the move that was looked up is the upcoming one
pub looked-up : {Frame : Type 0} (move_of : Frame → Move) (us : List (Under Frame)) (made : Move) → 0 < length us → IsLooked move_of us made → upcoming_of move_of us ≡ Some made
looked-up move_of [] made some h = absurd (omega (arith, some))
looked-up move_of (u ∷ us) made some h = ap (λ m. Some m) (sym h)

-- ---- the time that is left

cond-some : (q : Bool) (x left : ℕ) → cond q (Some x) None ≡ Some left → (q ≡ true) × (x ≡ left)
cond-some true x left e = (refl, cc)
cond-some false x left e = cc

cond-none : (q : Bool) (x : ℕ) → cond q (Some x) None ≡ None → q ≡ false
cond-none true x e = cc
cond-none false x e = refl

pub left-is-some : (n : ℕ) (time : Option ℕ) (left : ℕ) → left_within n time ≡ Some left → (time ≡ Some left) × (nat_le left n ≡ true)
left-is-some n None left e = cc
left-is-some n (Some x) left e = let h = cond-some (nat_le x n) x left e in (ap (λ y. Some y) h.1, subst (λ y. nat_le y n ≡ true) h.1 h.0)

pub left-few : (n : ℕ) (time : Option ℕ) (left : ℕ) → left_within n time ≡ Some left → left ≤ n
left-few n time left e = few left n (left-is-some n time left e).1
  where
    few : (a b : ℕ) → nat_le a b ≡ true → a ≤ b
    few a b h = grind (arith, nat_tests)

pub left-none : (n : ℕ) (time : Option ℕ) → left_within n time ≡ None → ends_within n time ≡ false
left-none n None e = refl
left-none n (Some x) e = cond-none (nat_le x n) x e

before-it : (n x : ℕ) → nat_le x n ≡ false → n < x
before-it n x h = grind (arith, nat_tests)

pub left-early : (n : ℕ) (time : Option ℕ) → left_within n time ≡ None → EndsBefore (orders.Tick n) time
left-early n None e = tt
left-early n (Some x) e = before-it n x (cond-none (nat_le x n) x e)

-- what so many ticks give by the time that is left
within : (n x : ℕ) → nat_le x n ≡ false → nat_lt n x ≡ true
within n x h = grind (arith, nat_tests)

past : (n x : ℕ) → nat_le x n ≡ true → nat_lt n x ≡ false
past n x h = grind (arith, nat_tests)

ticks-one : {State Call : Type 0} (m : Moment State Call) (line n : ℕ) (time : Option ℕ) (items : List Entry) → left_within n time ≡ None → IsOne m line (Happens (orders.Tick n)) items → Ticks m line n time items
ticks-one m line n None items e one = one
ticks-one m line n (Some x) items e one = rw (within n x (cond-none (nat_le x n) x e)) one

ticks-past : {State Call : Type 0} (m : Moment State Call) (line n left : ℕ) (time : Option ℕ) (items : List Entry) → left_within n time ≡ Some left → items ≡ ticks_through line (length m.opens) left (n - left) → Ticks m line n time items
ticks-past m line n left time items e is = let h = left-is-some n time left e in subst (λ t. Ticks m line n t items) (sym h.0) (rw (past n left h.1) is)

left-items : (line rest : ℕ) → 0 < rest → ticks_left line rest ≡ (record { line = line; depth = 0; said = Happens (orders.Tick rest) }) ∷ []
left-items line zero some = absurd (omega (arith, some))
left-items line (suc n) some = refl

-- the items of ticks through the end of the watchdog's time, where none are left and where some are
through-none : (line left depth before rest : ℕ) → depth ≡ before → rest ≡ 0 → ticks_through line before left rest ≡ (record { line = line; depth = depth; said = Happens (orders.Tick left) }) ∷ (record { line = line; depth = depth; said = Resets Watchdog depth }) ∷ []
through-none line left depth before rest same none = ap (ticks_through line before left) none ∙ ap (λ x. ticks_through line x left 0) (sym same)

through-some : (line left depth before alone rest more : ℕ) → depth ≡ before → alone ≡ 0 → 0 < rest → rest ≡ more → ticks_through line before left more ≡ (record { line = line; depth = depth; said = Happens (orders.Tick left) }) ∷ (record { line = line; depth = depth; said = Resets Watchdog depth }) ∷ (record { line = line; depth = alone; said = Happens (orders.Tick rest) }) ∷ []
through-some line left depth before alone rest more same none some is =
    let e : Entry = record { line = line; depth = depth; said = Happens (orders.Tick left) } in
    let f : Entry = record { line = line; depth = depth; said = Resets Watchdog depth } in
    ap (ticks_through line before left) (sym is)
    ∙ ap (λ x. ticks_through line x left rest) (sym same)
    ∙ ap (λ (xs : List Entry). e ∷ f ∷ xs) (left-items line rest some)
    ∙ ap (λ x. let h : Entry = record { line = line; depth = x; said = Happens (orders.Tick rest) } in e ∷ f ∷ h ∷ []) (sym none)

-- ---- the times stay within their registers

slower : (n rate : ℕ) → rate ≤ 16 → n * rate ≤ 16 * n
slower n rate slow = grind arith

pub can-tick : (n most taken : ℕ) (c : Chip) → n ≤ 1000000 → c.clock.rate ≤ 16 → HasTime most taken c → CanHappen c (orders.Tick n)
can-tick n most taken c few slow h = let p = product n c.clock.rate few slow in let a = h.osc in let b = h.now in (omega (arith, few, a), omega (arith, p, b))

wait-product : (n rate : ℕ) → n ≤ 8 → rate ≤ 16 → n * rate ≤ 128
wait-product n rate few slow = grind arith

near-ticked : (n : ℕ) (c c1 : Chip) → n ≤ 8 → c.clock.rate ≤ 16 → c1 ≡ happened c (orders.Tick n) → NearTime 1 c c1
near-ticked n c c1 few slow is =
    let p = wait-product n c.clock.rate few slow in
    let osc : c1.clock.osc ≡ c.clock.osc + n = ap (λ x. x.clock.osc) is in
    let now : now_of c1 ≡ now_of c + n * c.clock.rate = ap now_of is in
    record { osc = omega (arith, few, osc); now = omega (arith, p, now); room = λ u. ap (λ x. room_on x u) is }

near-reset : (n : ℕ) (c c1 : Chip) → n ≤ 8 → c.clock.rate ≤ 16 → c1 ≡ reset_chip (happened c (orders.Tick n)) Watchdog → NearTime 1 c c1
near-reset n c c1 few slow is =
    let p = wait-product n c.clock.rate few slow in
    let osc : c1.clock.osc ≡ c.clock.osc + n = ap (λ x. x.clock.osc) is in
    let now : now_of c1 ≡ now_of c + n * c.clock.rate = ap now_of is in
    record { osc = omega (arith, few, osc); now = omega (arith, p, now); room = λ u. ap (λ x. room_on x u) is }

module _ {State Call Frame : Type 0} (d : Driver State Call Frame) (first : Chip) (call_of : Request → Call) (script : List Directive) where
  -- ---- the parts

  pub ticked-on : (line n depth : ℕ) (chip : Chip) (us : List (Under Frame)) (before : Written) (chip1 : Chip) (after : Written) → depth ≡ length us → chip1 ≡ happened chip (orders.Tick n) → after ≡ written before line depth (Happens (orders.Tick n)) [] → Stands d first chip1 us (deeds_of call_of script before.entries ++ moment.Happens (orders.Tick n) ∷ []) → Ticked d first call_of script line n chip us before chip1 after
  ticked-on line n depth chip us before chip1 after depth_is chip_is is stands =
      let e : Entry = record { line = line; depth = depth; said = Happens (orders.Tick n) } in
      record {
        written = is ∙ ap (λ x. written before line x (Happens (orders.Tick n)) []) depth_is;
        chip_is = chip_is;
        leads = ap (λ w. moment_of d first call_of script w.entries) is ∙ moment_more d first call_of script before.entries e (moment.Happens (orders.Tick n) ∷ []) refl;
        stands = subst (λ w. IsStanding d first call_of script chip1 us w.entries) (sym is) (subst (λ h. Stands d first chip1 us h) (sym (deeds_more d first call_of script before.entries e (moment.Happens (orders.Tick n) ∷ []) refl)) stands);
      }

  pub ran-down : (line n depth dropped : ℕ) (chip : Chip) (k : Kept Frame) (before mid : Written) (chip1 : Chip) (k1 : Kept Frame) (after : Written) → depth ≡ length k.frames → dropped ≡ length k.frames → mid ≡ written before line depth (Happens (orders.Tick n)) [] → after ≡ written mid line depth (Resets Watchdog dropped) [] → chip1 ≡ reset_chip (happened chip (orders.Tick n)) Watchdog → k1 ≡ record k { frames = [] } → Stands d first chip1 k1.frames (deeds_of call_of script before.entries ++ moment.Happens (orders.Tick n) ∷ moment.Resets Watchdog ∷ []) → RanDown d first call_of script line n chip k before chip1 k1 after
  ran-down line n depth dropped chip k before mid chip1 k1 after depth_is dropped_is mid_is after_is chip_is k1_is stands =
      let e : Entry = record { line = line; depth = depth; said = Happens (orders.Tick n) } in
      let f : Entry = record { line = line; depth = depth; said = Resets Watchdog dropped } in
      let entries : after.entries ≡ before.entries ++ e ∷ f ∷ [] = ap (λ w. w.entries) after_is ∙ ap (λ w. w.entries ++ f ∷ []) mid_is ∙ append_assoc before.entries (e ∷ []) (f ∷ []) in
      let one = deeds_more d first call_of script before.entries e (moment.Happens (orders.Tick n) ∷ []) refl in
      let two = deeds_more d first call_of script (before.entries ++ e ∷ []) f (moment.Resets Watchdog ∷ []) refl in
      let deeds : deeds_of call_of script after.entries ≡ deeds_of call_of script before.entries ++ moment.Happens (orders.Tick n) ∷ moment.Resets Watchdog ∷ [] =
      ap (λ es. deeds_of call_of script es) (ap (λ w. w.entries) after_is ∙ ap (λ w. w.entries ++ f ∷ []) mid_is) ∙ two ∙ ap (λ ds. ds ++ moment.Resets Watchdog ∷ []) one ∙ append_assoc (deeds_of call_of script before.entries) (moment.Happens (orders.Tick n) ∷ []) (moment.Resets Watchdog ∷ []) in
      record {
        is = entries ∙ ap (λ x. before.entries ++ (record { line = line; depth = x; said = Happens (orders.Tick n) }) ∷ (record { line = line; depth = x; said = Resets Watchdog dropped }) ∷ []) depth_is ∙ ap (λ x. before.entries ++ (record { line = line; depth = length k.frames; said = Happens (orders.Tick n) }) ∷ (record { line = line; depth = length k.frames; said = Resets Watchdog x }) ∷ []) dropped_is;
        words = ap (λ w. w.words) after_is ∙ append-nil mid.words ∙ ap (λ w. w.words) mid_is ∙ append-nil before.words;
        room = ap (λ w. w.room) after_is ∙ ap (λ w. w.room) mid_is;
        words_room = ap (λ w. w.words_room) after_is ∙ ap (λ w. w.words_room) mid_is;
        chip_is = chip_is;
        frames = k1_is;
        leads = ap (λ ds. after_all d.setting (moment.start_moment d.setting first) ds) deeds ∙ after_all-append d.setting (moment.start_moment d.setting first) (deeds_of call_of script before.entries) (moment.Happens (orders.Tick n) ∷ moment.Resets Watchdog ∷ []);
        stands = subst (λ h. Stands d first chip1 k1.frames h) (sym deeds) stands;
      }

  -- ---- a wait

  module _ (move_of : Frame → Move) (left : Frame → ℕ → Frame) (gave : Frame → ℕ → Taken) (law : IsLawful d move_of left gave) where
    still-by : (us : List (Under Frame)) (chip : Chip) (made : Move) → upcoming_of move_of us ≡ Some made → stall_of chip made ≡ 0 → IsStill move_of us chip
    still-by [] chip made up none = tt
    still-by (u ∷ us) chip made up none = let is : move_of u.frame ≡ made = cc in ap (stall_of chip) is ∙ none

    given-move : (us : List (Under Frame)) (a b : Move) → upcoming_of move_of us ≡ Some a → upcoming_of move_of us ≡ Some b → a ≡ b
    given-move us a b x y = let e = sym x ∙ y in cc

    pub no-wait : (line : ℕ) (chip : Chip) (us : List (Under Frame)) (before : Written) (made : Move) → upcoming_of move_of us ≡ Some made → stall_of chip made ≡ 0 → IsStanding d first call_of script chip us before.entries → Waited d first call_of script move_of line chip us before chip before
    no-wait line chip us before made up none stands = record {
      waits = [];
      is = sym (append-nil before.entries);
      ready = λ s e. At_once;
      still = still-by us chip made up none;
      stands = stands;
      room = refl;
      words_room = refl;
      words = refl;
      counted = refl;
      devices = refl;
      few = omega arith;
      items = λ m r e. let k = busies-move chip m r in omega (arith, k);
      time = record { osc = omega arith; now = omega arith; room = λ u. refl };
    }

    -- what the frame that waits may do
    or-free : (a b : Bool) → a ≡ false → a || b ≡ true → b ≡ true
    or-free true b e h = cc
    or-free false b e h = h

    record Waits_there (m : Moment State Call) (u : ℕ) : Type 0 where
      there : u < 2
      unmasked : is_masked m.chip ≡ false
      may : MayWait d.setting m.opens u

    waits-there : (chip : Chip) (us : List (Under Frame)) (m : Moment State Call) (os : List (Open Call)) (u : ℕ) → m.opens ≡ os → AreFramesOf d us os → IsGuarded (is_masked m.chip) os → d.relates m.chip m.world (paired us os) m.state → upcoming_of move_of us ≡ Some (Read (SerialWait u)) → Waits_there m u
    waits-there chip [] m os u opens frames guarded relates up = cc
    waits-there chip (x ∷ us) m [] u opens frames guarded relates up = absurd frames
    waits-there chip (x ∷ us) m (o ∷ os) u opens frames guarded relates up =
        let is : move_of x.frame ≡ Read (SerialWait u) = cc in
        let own = law.own m.chip m.world x.frame o (paired us os) m.state relates in
        let own1 : is_shared (Read (SerialWait u)) || d.setting.may o.origin (Read (SerialWait u)) ≡ true = subst (λ y. is_shared y || d.setting.may o.origin y ≡ true) is own in
        record {
          unmasked = guarded.0 ∙ law.opens m.chip m.world x.frame o (paired us os) m.state relates (ap is_wait is);
          there = subst CanApply is (law.there m.chip m.world x.frame o (paired us os) m.state relates);
          may = subst (λ ys. MayWait d.setting ys u) (sym opens) (or-free (is_shared (Read (SerialWait u))) (d.setting.may o.origin (Read (SerialWait u))) refl own1);
        }

    pub waited : (line n : ℕ) (chip : Chip) (us : List (Under Frame)) (before : Written) (chip1 : Chip) (after : Written) (made : Move) → upcoming_of move_of us ≡ Some made → n ≡ stall_of chip made → 0 < n → n ≤ 8 → chip.clock.rate ≤ 16 → stall_of (ticked chip n) made ≡ 0 → left_within n (expiry_of chip) ≡ None → IsStanding d first call_of script chip us before.entries → Ticked d first call_of script line n chip us before chip1 after → Waited d first call_of script move_of line chip us before chip1 after
    waited line n chip us before chip1 after made up n_is some few slow over free stands t =
        let m = moment_of d first call_of script before.entries in
        let k = stands.matches in
        let w = stalls chip made (omega (arith, n_is, some)) in
        let u = w.0 in
        let made_is = w.1 in
        let up1 : upcoming_of move_of us ≡ Some (Read (SerialWait u)) = up ∙ ap (λ x. Some x) made_is in
        let there = waits-there chip us m m.opens u refl k.frames k.guarded k.relates up1 in
        let wait_is : wait_on chip u ≡ n = sym (ap (stall_of chip) made_is) ∙ sym n_is in
        let at_is : wait_on m.chip u ≡ n = sym (ap (λ c. wait_on c u) k.chip_is) ∙ wait_is in
        let depth = depth_is d first call_of script chip us before.entries stands in
        let time : d.setting.machine.expires m.world m.state ≡ expiry_of chip = left-is d move_of left gave law chip us m k ∙ sym (ap expiry_of k.chip_is) in
        let early : ends_within (wait_on m.chip u) (d.setting.machine.expires m.world m.state) ≡ false = ap (λ x. ends_within x (d.setting.machine.expires m.world m.state)) at_is ∙ ap (ends_within n) time ∙ left-none n (expiry_of chip) free in
        let over1 : wait_on (ticked chip (wait_on chip u)) u ≡ 0 = ap (λ x. wait_on (ticked chip x) u) wait_is ∙ sym (ap (stall_of (ticked chip n)) made_is) ∙ over in
        let fewer = busies-wait chip u there.there (omega (arith, wait_is, some)) over1 in
        let fewer1 : busies chip1 ≡ busies (ticked chip (wait_on chip u)) = ap busies t.chip_is ∙ ap (λ x. busies (ticked chip x)) (sym wait_is) in
        let e : Entry = record { line = line; depth = length us; said = Happens (orders.Tick n) } in
        let more : length after.entries ≡ length before.entries + 1 = ap (λ x. length x.entries) t.written ∙ length-append before.entries (e ∷ []) in
        let counted = no_step_counted line (length us) (Happens (orders.Tick n)) [] 0 0 before after refl refl t.written in
        record {
          waits = e ∷ [];
          is = ap (λ x. x.entries) t.written;
          ready = λ s next.
              let s_is : s.made ≡ Read (SerialWait u) = given-move us s.made (Read (SerialWait u)) next up1 in
              let awaited : awaits u s.made ≡ true = ap (awaits u) s_is ∙ eq_self u in
              subst (λ x. Readies d.setting line m s (e ∷ []) x) (sym t.leads)
              (subst (λ y. Readies d.setting line m s ((record { line = line; depth = y; said = Happens (orders.Tick n) }) ∷ []) (moment.after d.setting m (moment.Happens (orders.Tick n)))) (sym depth)
              (subst (λ x. Readies d.setting line m s ((record { line = line; depth = length m.opens; said = Happens (orders.Tick x) }) ∷ []) (moment.after d.setting m (moment.Happens (orders.Tick x)))) at_is
              (After_wait u (omega (arith, at_is, some)) there.unmasked there.may early awaited)));
          still = still-by us chip1 made up (ap (λ c. stall_of c made) t.chip_is ∙ over);
          stands = t.stands;
          room = ap (λ x. x.room) t.written;
          words_room = ap (λ x. x.words_room) t.written;
          words = ap (λ x. x.words) t.written ∙ append-nil before.words;
          counted = omega (arith, counted);
          devices = ap (λ x. x.devices) t.chip_is;
          few = omega (arith, more, fewer);
          items = λ mv r next.
              let is : mv ≡ Read (SerialWait u) = given-move us mv (Read (SerialWait u)) next up1 in
              let same : busies (chip_after chip1 mv r) ≡ busies chip1 = ap (λ x. busies (chip_after chip1 x r)) is ∙ busies-read chip1 (SerialWait u) in
              omega (arith, more, fewer, fewer1, same);
          time = near-ticked n chip chip1 few slow t.chip_is;
        }

    pub ran-out : (line n ended : ℕ) (chip : Chip) (k : Kept Frame) (before : Written) (chip1 : Chip) (k1 : Kept Frame) (after : Written) (made : Move) → upcoming_of move_of k.frames ≡ Some made → n ≡ stall_of chip made → 0 < n → n ≤ 8 → chip.clock.rate ≤ 16 → left_within n (expiry_of chip) ≡ Some ended → IsStanding d first call_of script chip k.frames before.entries → RanDown d first call_of script line ended chip k before chip1 k1 after → RanOut d first call_of script line chip k before chip1 k1 after
    ran-out line n ended chip k before chip1 k1 after made up n_is some few slow ends stands down =
        let m = moment_of d first call_of script before.entries in
        let q = stands.matches in
        let w = stalls chip made (omega (arith, n_is, some)) in
        let u = w.0 in
        let up1 : upcoming_of move_of k.frames ≡ Some (Read (SerialWait u)) = up ∙ ap (λ x. Some x) w.1 in
        let there = waits-there chip k.frames m m.opens u refl q.frames q.guarded q.relates up1 in
        let wait_is : wait_on chip u ≡ n = sym (ap (stall_of chip) w.1) ∙ sym n_is in
        let at_is : wait_on m.chip u ≡ n = sym (ap (λ c. wait_on c u) q.chip_is) ∙ wait_is in
        let time : d.setting.machine.expires m.world m.state ≡ expiry_of chip = left-is d move_of left gave law chip k.frames m q ∙ sym (ap expiry_of q.chip_is) in
        let h = left-is-some n (expiry_of chip) ended ends in
        let small = left-few n (expiry_of chip) ended ends in
        record {
          unit = u;
          left = ended;
          busy = omega (arith, at_is, some);
          unmasked = there.unmasked;
          may = there.may;
          expires = time ∙ h.0;
          late = ap (nat_le ended) at_is ∙ h.1;
          down = down;
          time = near-reset ended chip chip1 (omega (arith, small, few)) slow down.chip_is;
        }

  -- ---- ticks of a directive

  pub ticks-on : (move_of : Frame → Move) (left : Frame → ℕ → Frame) (gave : Frame → ℕ → Taken) → IsLawful d move_of left gave → (most line n : ℕ) (chip : Chip) (k : Kept Frame) (before : Written) (chip1 : Chip) (k1 : Kept Frame) (after : Written) → k.steps ≤ most → n ≤ 1000000 → chip.clock.rate ≤ 16 → left_within n (expiry_of chip) ≡ None → IsStanding d first call_of script chip k.frames before.entries → k1 ≡ k → Ticked d first call_of script line n chip k.frames before chip1 after → Obeyed d first call_of script most line (orders.Tick n) chip k before chip1 k1 after
  ticks-on move_of left gave law most line n chip k before chip1 k1 after few small slow free stands same t =
      let m = moment_of d first call_of script before.entries in
      let q = stands.matches in
      let e : Entry = record { line = line; depth = length k.frames; said = Happens (orders.Tick n) } in
      let time : d.setting.machine.expires m.world m.state ≡ expiry_of chip = left-is d move_of left gave law chip k.frames m q ∙ sym (ap expiry_of q.chip_is) in
      let steps : k1.steps ≡ k.steps = ap (λ x. x.steps) same in
      let p = product n chip.clock.rate small slow in
      let osc : chip1.clock.osc ≡ chip.clock.osc + n = ap (λ x. x.clock.osc) t.chip_is in
      let now : now_of chip1 ≡ now_of chip + n * chip.clock.rate = ap now_of t.chip_is in
      record {
        adds = record {
          items = e ∷ [];
          is = ap (λ x. x.entries) t.written;
          right = subst (λ x. Ticks m line n x (e ∷ [])) (sym time) (ticks-one m line n (expiry_of chip) (e ∷ []) free (ap (λ x. let i : Entry = record { line = line; depth = x; said = Happens (orders.Tick n) } in i ∷ []) (depth_is d first call_of script chip k.frames before.entries stands)));
          leads = sym t.leads;
          stands = subst (λ x. IsStanding d first call_of script chip1 x.frames after.entries) (sym same) t.stands;
        };
        filled = item_filled d first call_of script most line (length k.frames) (Happens (orders.Tick n)) [] k.steps k1.steps chip before chip1 after few refl steps (omega arith) (subst (λ x. busies x ≤ busies chip) (sym t.chip_is) (busies-event chip (orders.Tick n))) t.written;
        more = omega (arith, steps);
        osc = omega (arith, osc, small);
        now = omega (arith, now, p);
        given = λ u. (let r : room_on chip1 u ≡ room_on chip u = ap (λ x. room_on x u) t.chip_is in omega (arith, r));
        spent = subst (λ x. work_of d x ≤ work_of d k + 0) (sym same) (omega arith);
      }

  -- ticks with which the watchdog's time ends
  pub ticks-end : (move_of : Frame → Move) (left : Frame → ℕ → Frame) (gave : Frame → ℕ → Taken) → IsLawful d move_of left gave → (most line n ended : ℕ) (chip : Chip) (k : Kept Frame) (before : Written) (chip1 : Chip) (k1 : Kept Frame) (after : Written) → k.steps ≤ most → n ≤ 1000000 → chip.clock.rate ≤ 16 → left_within n (expiry_of chip) ≡ Some ended → n ≤ ended → IsStanding d first call_of script chip k.frames before.entries → RanDown d first call_of script line ended chip k before chip1 k1 after → Obeyed d first call_of script most line (orders.Tick n) chip k before chip1 k1 after
  ticks-end move_of left gave law most line n ended chip k before chip1 k1 after few small slow ends all stands down =
      let m = moment_of d first call_of script before.entries in
      let q = stands.matches in
      let e : Entry = record { line = line; depth = length k.frames; said = Happens (orders.Tick ended) } in
      let f : Entry = record { line = line; depth = length k.frames; said = Resets Watchdog (length k.frames) } in
      let within = left-few n (expiry_of chip) ended ends in
      let time : d.setting.machine.expires m.world m.state ≡ expiry_of chip = left-is d move_of left gave law chip k.frames m q ∙ sym (ap expiry_of q.chip_is) in
      let depth = depth_is d first call_of script chip k.frames before.entries stands in
      let rest : n - ended ≡ 0 = omega (arith, all) in
      let steps : k1.steps ≡ k.steps = ap (λ x. x.steps) down.frames in
      let p = product ended chip.clock.rate (omega (arith, within, small)) slow in
      let osc : chip1.clock.osc ≡ chip.clock.osc + ended = ap (λ x. x.clock.osc) down.chip_is in
      let now : now_of chip1 ≡ now_of chip + ended * chip.clock.rate = ap now_of down.chip_is in
      let none : busies chip1 ≡ 0 = ap busies down.chip_is in
      let more : length after.entries ≡ length before.entries + 2 = ap length down.is ∙ length-append before.entries (e ∷ f ∷ []) in
      let counted : steps_in after.entries ≡ steps_in before.entries = ap (λ es. steps_in es) down.is ∙ two_counted before.entries e f refl refl in
      record {
        adds = record {
          items = e ∷ f ∷ [];
          is = down.is;
          right = subst (λ x. Ticks m line n x (e ∷ f ∷ [])) (sym time) (ticks-past m line n ended (expiry_of chip) (e ∷ f ∷ []) ends (sym (through-none line ended (length k.frames) (length m.opens) (n - ended) depth rest)));
          leads = sym down.leads;
          stands = down.stands;
        };
        filled = record {
          steps = omega (arith, few, steps);
          counted = omega (arith, counted, steps);
          room = down.room;
          words_room = down.words_room;
          items = omega (arith, more, none, steps);
          words = (let a = ap length down.words in omega (arith, a));
        };
        more = omega (arith, steps);
        osc = omega (arith, osc, within, small);
        now = omega (arith, now, p);
        given = λ u. (let r : room_on chip1 u ≡ room_on chip u = ap (λ x. room_on x u) down.chip_is in omega (arith, r));
        spent = subst (λ x. work_of d x ≤ work_of d k + 0) (sym down.frames) (omega arith);
      }

  -- ticks in which it ends, and those that are left
  pub ticks-past-end : (move_of : Frame → Move) (left : Frame → ℕ → Frame) (gave : Frame → ℕ → Taken) → IsLawful d move_of left gave → (most line n ended rest : ℕ) (chip : Chip) (k : Kept Frame) (before : Written) (chip1 : Chip) (k1 : Kept Frame) (mid : Written) (chip2 : Chip) (k2 : Kept Frame) (after : Written) → k.steps ≤ most → n ≤ 1000000 → chip.clock.rate ≤ 16 → left_within n (expiry_of chip) ≡ Some ended → rest ≡ n - ended → 0 < rest → IsStanding d first call_of script chip k.frames before.entries → RanDown d first call_of script line ended chip k before chip1 k1 mid → k2 ≡ k1 → Ticked d first call_of script line rest chip1 k1.frames mid chip2 after → Obeyed d first call_of script most line (orders.Tick n) chip k before chip2 k2 after
  ticks-past-end move_of left gave law most line n ended rest chip k before chip1 k1 mid chip2 k2 after few small slow ends rest_is some stands down same t =
      let m = moment_of d first call_of script before.entries in
      let q = stands.matches in
      let e : Entry = record { line = line; depth = length k.frames; said = Happens (orders.Tick ended) } in
      let f : Entry = record { line = line; depth = length k.frames; said = Resets Watchdog (length k.frames) } in
      let h : Entry = record { line = line; depth = length k1.frames; said = Happens (orders.Tick rest) } in
      let within = left-few n (expiry_of chip) ended ends in
      let time : d.setting.machine.expires m.world m.state ≡ expiry_of chip = left-is d move_of left gave law chip k.frames m q ∙ sym (ap expiry_of q.chip_is) in
      let depth = depth_is d first call_of script chip k.frames before.entries stands in
      let alone : length k1.frames ≡ 0 = ap (λ x. length x.frames) down.frames in
      let steps : k2.steps ≡ k.steps = ap (λ x. x.steps) same ∙ ap (λ x. x.steps) down.frames in
      let p = slower ended chip.clock.rate slow in
      let rate : chip1.clock.rate ≡ 1 = ap (λ x. x.clock.rate) down.chip_is in
      let osc1 : chip1.clock.osc ≡ chip.clock.osc + ended = ap (λ x. x.clock.osc) down.chip_is in
      let now1 : now_of chip1 ≡ now_of chip + ended * chip.clock.rate = ap now_of down.chip_is in
      let osc2 : chip2.clock.osc ≡ chip1.clock.osc + rest = ap (λ x. x.clock.osc) t.chip_is in
      let now2 : now_of chip2 ≡ now_of chip1 + rest * 1 = ap now_of t.chip_is ∙ ap (λ r. now_of chip1 + rest * r) rate in
      let none1 : busies chip1 ≡ 0 = ap busies down.chip_is in
      let none2 : busies chip2 ≤ busies chip1 = subst (λ x. busies x ≤ busies chip1) (sym t.chip_is) (busies-event chip1 (orders.Tick rest)) in
      let more1 : length mid.entries ≡ length before.entries + 2 = ap length down.is ∙ length-append before.entries (e ∷ f ∷ []) in
      let more2 : length after.entries ≡ length mid.entries + 1 = ap (λ x. length x.entries) t.written ∙ length-append mid.entries (h ∷ []) in
      let counted1 : steps_in mid.entries ≡ steps_in before.entries = ap (λ es. steps_in es) down.is ∙ two_counted before.entries e f refl refl in
      let counted2 = no_step_counted line (length k1.frames) (Happens (orders.Tick rest)) [] 0 0 mid after refl refl t.written in
      let words : after.words ≡ before.words = ap (λ x. x.words) t.written ∙ append-nil mid.words ∙ down.words in
      record {
        adds = record {
          items = e ∷ f ∷ h ∷ [];
          is = ap (λ x. x.entries) t.written ∙ ap (λ es. es ++ h ∷ []) down.is ∙ append_assoc before.entries (e ∷ f ∷ []) (h ∷ []);
          right = subst (λ x. Ticks m line n x (e ∷ f ∷ h ∷ [])) (sym time) (ticks-past m line n ended (expiry_of chip) (e ∷ f ∷ h ∷ []) ends (sym (through-some line ended (length k.frames) (length m.opens) (length k1.frames) rest (n - ended) depth alone some rest_is)));
          leads = ap (λ x. moment.after d.setting x (moment.Happens (orders.Tick rest))) (sym down.leads) ∙ sym t.leads;
          stands = subst (λ x. IsStanding d first call_of script chip2 x.frames after.entries) (sym same) t.stands;
        };
        filled = record {
          steps = omega (arith, few, steps);
          counted = omega (arith, counted1, counted2, steps);
          room = ap (λ x. x.room) t.written ∙ down.room;
          words_room = ap (λ x. x.words_room) t.written ∙ down.words_room;
          items = omega (arith, more1, more2, none1, none2, steps);
          words = (let a = ap length words in omega (arith, a));
        };
        more = omega (arith, steps);
        osc = omega (arith, osc1, osc2, rest_is, within, small);
        now = omega (arith, now1, now2, p, rest_is, within, small);
        given = λ u. (let r : room_on chip2 u ≡ room_on chip u = ap (λ x. room_on x u) t.chip_is ∙ ap (λ x. room_on x u) down.chip_is in omega (arith, r));
        spent = subst (λ x. work_of d x ≤ work_of d k + 0) (sym (same ∙ down.frames)) (omega arith);
      }
