-- A driver whose frames follow the outline is lawful.
-- From Steps.
-- Used by guests.OutlineLaws, driver_examples: held.ToyLaws, ShortServices, mcal_drivers: Laws, mcu_driver: frames/rt.
use Rattle.std.proofs.Common.{◌≡◌, ℕ, ◌<◌, ◌≤◌, arith, nat_lt, Bool, ◌&&◌, ◌||◌, not, true, false, List, [], ◌∷◌, Option, Some, None, refl, sym, ◌∙◌, ap, subst}
use Rattle.std.specs.Prelude.{is_some}
use Rattle.chip_model.specs.Chip.{Chip, value_of, chip_after, expiry_of, happened, reset_chip, is_masked, is_pending}
use Rattle.mcal_base.specs.Reach.{CanApply}
use Rattle.mcal_base.specs.declared.answer.Answer.{Answer}
use Rattle.mcal_base.specs.declared.directive.Order.{Order}
use Rattle.mcal_base.specs.declared.directive.Reason.{Reason}
use Rattle.mcal_base.specs.declared.moves.Move.{Move}
use Rattle.mcal_base.specs.declared.moves.Move.TheVariants.{Read, Write, Load, Store, Mask, Unmask, Note, Report}
use Rattle.run_model.specs.World.{World, world_after}
use Rattle.run_model.specs.Machine.{Happening, Moves, Restarts, Outcome, tells_nothing, outcome}
use Rattle.run_model.specs.Frame.{Origin, Called, Entered, Open, opened, is_shared, is_wait, brought_by, state_after, state_by, outcome_of, happening_at}
use Rattle.run_model.specs.declared.class.Class.{Class}
use Rattle.run_model.specs.declared.class.Tag.{Tag}
use Rattle.run_model.specs.Legal.{has_line, is_left_waiting, LeavesNone}
use Rattle.run_model.specs.Causes.{blocks, may_reenter, all_below}
use Rattle.run_model.specs.Moment.{Setting, call_tag, line_tag}
use Rattle.std.specs.List.{list_any, list_all}
use Rattle.std.proofs.lemmas.Bool.{not-true}
use Rattle.mcal_base.specs.facts.Truths.{and_first, and_second}
use Rattle.step_runner.specs.Driver.{IsLawful, IsFree, AllOutside, tags_in, origins_in}
use Rattle.service_outline.specs.declared.done.Epilogue.{Epilogue}
use Rattle.service_outline.specs.declared.done.Epilogue.TheVariants.{Nothing, Error, One, Two}
use Rattle.service_outline.specs.declared.short.Short.{Short}
use Rattle.service_outline.specs.declared.short.Short.TheVariants.{Calling, Loading, Entering, Inside, Opening, Telling, Returning}
use Rattle.service_outline.specs.Fuel.{tell_fuel, short_fuel, short_room}
use Rattle.service_outline.specs.Short.{short_move, short_left, ending_gave, tells}
use Rattle.service_outline.specs.Services.{ReservedBy, MayCome, Rates, Steady, Agreed, owners, IsLower, AllLower, IsLeveled, is_closed, holds_at, gap_at, Elsewhere, AllLet, mark_of, Services, AreEndingServices, Leaves, Waits, AllWait, IsTop, Relates, with_holds, holds_by, holds_in, services_driver, entering}
use Rattle.service_outline.specs.laws.Seen.{waits_open}
use Rattle.service_outline.specs.laws.Steps.{KeepsAt, short_steps, settled_at, stays_at}

entering_same : (Asked : Type 0) {Body : Type 0} (q : Option Body) → is_some (entering {Asked = Asked} q) ≡ is_some q
entering_same Asked None = refl
entering_same Asked (Some k) = refl

module _ {State Call Asked Body : Type 0} (d : Services State Call Asked Body) {ends_with : Body → Option Answer} (law : AreEndingServices d ends_with) where
  -- with all outside
  wait_at : (held : List (ReservedBy Call d.basis.Reservation)) (chip : Chip) (w : World) (s : State) (f : Short Asked Body) (o : Open Call) → o.inside ≡ false → IsTop d held chip w s f o → d.basis.represents (holds_by d f o held) d.basis.settled chip w s × Waits d held f o
  wait_at held chip w s (Calling c) o e h = (h.0, h.1)
  wait_at held chip w s (Loading c) o e h = let k : o.inside ≡ true = ap (λ x. x.inside) h.1.form in absurd (cc)
  wait_at held chip w s (Entering k) o e h = (h.0, h.1)
  wait_at held chip w s (Inside k) o e h =
      let outside : is_closed (d.bodies.assertion k) ≡ false = sym (ap (λ x. x.inside) h.form) ∙ e in (
        subst (λ x. d.basis.represents (with_holds o.origin x (holds_at (d.bodies.assertion k)) held) d.basis.settled chip w s) (sym (ap (λ x. x.acted) h.form)) (subst (λ x. d.basis.represents (with_holds o.origin h.past.acted (holds_at (d.bodies.assertion k)) held) x chip w s) (settled_at (d.bodies.assertion k) outside) h.at.0),
        record { past = h.past; form = h.form; behaves = h.behaves; window = h.window; written = h.written; missed = h.missed; opened = outside; place = λ f1 w1 s1. stays_at (d.bodies.assertion k) held (d.basis.foot chip) f1 w w1 s s1 o.origin h.past outside h.at.1 },
      )
  wait_at held chip w s (Opening n) o e h = let i = h.1.inside in absurd (cc)
  wait_at held chip w s (Telling n) o e h = (h.0, h.1)
  wait_at held chip w s (Returning a) o e h = (h.0, h.1)

  pub all_wait : (chip : Chip) (w : World) (ps : List (Short Asked Body × Open Call)) (s : State) → AllOutside ps → Relates d chip w ps s → d.basis.represents (holds_in d ps) d.basis.settled chip w s × AllWait d ps
  all_wait chip w [] s e h = (h, tt)
  all_wait chip w (p ∷ ps) s e h = let k = wait_at (holds_in d ps) chip w s p.0 p.1 e.0 h.0 in (k.0, (k.1, h.1, h.2))

  -- what a call may begin over it may run above
  let_more : (c : Class) (o : Origin Call) (acted : Option Answer) (hs : List d.basis.Reservation) (held : List (ReservedBy Call d.basis.Reservation)) → blocks c (mark_of d.basis.setting o) ≡ false → AllLet d.basis.setting c held → AllLet d.basis.setting c (with_holds o acted hs held)
  let_more c o acted [] held e h = h
  let_more c o acted (x ∷ xs) held e h = (e, let_more c o acted xs held e h)

  let_by : (c : Class) (f : Short Asked Body) (o : Open Call) (held : List (ReservedBy Call d.basis.Reservation)) → blocks c (mark_of d.basis.setting o.origin) ≡ false → AllLet d.basis.setting c held → AllLet d.basis.setting c (holds_by d f o held)
  let_by c (Calling a) o held e h = h
  let_by c (Loading a) o held e h = h
  let_by c (Entering k) o held e h = h
  let_by c (Inside k) o held e h = let_more c o.origin o.acted (holds_at (d.bodies.assertion k)) held e h
  let_by c (Opening n) o held e h = h
  let_by c (Telling n) o held e h = h
  let_by c (Returning a) o held e h = h

  first_not : (a b : Bool) → not a && b ≡ true → a ≡ false
  first_not true b e = absurd (cc)
  first_not false b e = refl

  then_not : (a b : Bool) → not a && b ≡ true → b ≡ true
  then_not true b e = absurd (cc)
  then_not false b e = e

  all_let : (c : Class) (ps : List (Short Asked Body × Open Call)) → may_reenter c (tags_in ps) ≡ true → AllWait d ps → AllLet d.basis.setting c (holds_in d ps)
  all_let c [] e h = tt
  all_let c (p ∷ ps) e h = let_by c p.0 p.1 (holds_in d ps) (sym (h.1.tagged c) ∙ first_not (blocks c p.1.tag) (may_reenter c (tags_in ps)) e) (all_let c ps (then_not (blocks c p.1.tag) (may_reenter c (tags_in ps)) e) h.2)

  -- above what a handler may begin, no other one of its level holds anything
  lower_more : (level : ℕ) (o : Origin Call) (acted : Option Answer) (hs : List d.basis.Reservation) (held : List (ReservedBy Call d.basis.Reservation)) → IsLower d.basis.setting level o → AllLower d.basis.setting level held → AllLower d.basis.setting level (with_holds o acted hs held)
  lower_more level o acted [] held e h = h
  lower_more level o acted (x ∷ xs) held e h = (e, lower_more level o acted xs held e h)

  lower_by : (level : ℕ) (f : Short Asked Body) (o : Open Call) (held : List (ReservedBy Call d.basis.Reservation)) → IsLower d.basis.setting level o.origin → AllLower d.basis.setting level held → AllLower d.basis.setting level (holds_by d f o held)
  lower_by level (Calling a) o held e h = h
  lower_by level (Loading a) o held e h = h
  lower_by level (Entering k) o held e h = h
  lower_by level (Inside k) o held e h = lower_more level o.origin o.acted (holds_at (d.bodies.assertion k)) held e h
  lower_by level (Opening n) o held e h = h
  lower_by level (Telling n) o held e h = h
  lower_by level (Returning a) o held e h = h

  is_lower : (level : ℕ) (o : Origin Call) (tag : Tag) → IsLeveled d.basis.setting o tag → nat_lt tag.level level ≡ true → IsLower d.basis.setting level o
  is_lower level (Called c) tag l e = tt
  is_lower level (Entered j) tag l e = subst (λ n. nat_lt n level ≡ true) l e

  all_lower : (level : ℕ) (ps : List (Short Asked Body × Open Call)) → all_below (tags_in ps) level ≡ true → AllWait d ps → AllLower d.basis.setting level (holds_in d ps)
  all_lower level [] e h = tt
  all_lower level (p ∷ ps) e h = lower_by level p.0 p.1 (holds_in d ps) (is_lower level p.1.origin p.1.tag h.1.leveled (and_first (nat_lt p.1.tag.level level) (all_below (tags_in ps) level) e)) (all_lower level ps (and_second (nat_lt p.1.tag.level level) (all_below (tags_in ps) level) e) h.2)

  begins : (chip : Chip) (w : World) (ps : List (Short Asked Body × Open Call)) (s : State) (c : Call) (level : ℕ) → d.can c → AllOutside ps → may_reenter (d.basis.setting.class_of c) (tags_in ps) ≡ true → Relates d chip w ps s → Relates d chip w ((Calling (d.asked c), opened (Called c) (call_tag d.basis.setting c level)) ∷ ps) s
  begins chip w ps s c level can out enter h =
      let k = all_wait chip w ps s out h in
      ((k.0, record { call = c; asks = refl; form = refl; fresh = record { wrote = refl; reads = refl; writes = refl; acted = refl; since = refl }; can = can }), record { tagged = λ new. refl; leveled = tt; beside = all_let (d.basis.setting.class_of c) ps enter k.1 }, k.1)

  enters_by : (chip : Chip) (w : World) (ps : List (Short Asked Body × Open Call)) (s : State) (line : ℕ) (f : Short Asked Body) (q : Option Body) → d.body_of line ≡ q → entering q ≡ Some f → AllOutside ps → all_below (tags_in ps) (d.basis.setting.level_of line) ≡ true → Relates d chip w ps s → Relates d chip w ((f, opened (Entered line) (line_tag d.basis.setting line)) ∷ ps) s
  enters_by chip w ps s line f None e is out under h = absurd (cc)
  enters_by chip w ps s line f (Some k) e is out under h =
      let i = all_wait chip w ps s out h in
      let at : Entering k ≡ f = cc in
      subst (λ x. Relates d chip w ((x, opened (Entered line) (line_tag d.basis.setting line)) ∷ ps) s) at ((i.0, record { form = refl; fresh = record { wrote = refl; reads = refl; writes = refl; acted = refl; since = refl }; written = tt; can = law.enters line k e }), record { tagged = λ new. refl; leveled = refl; beside = all_lower (d.basis.setting.level_of line) ps under i.1 }, i.1)

  -- the hardware moves. What is held is held by frames under way
  nothing_among : (p : Origin Call → Bool) → list_any p (owners {Reservation = d.basis.Reservation} []) ≡ false
  nothing_among p = refl

  later_not : (a b : Bool) → a || b ≡ false → b ≡ false
  later_not true b e = absurd (cc)
  later_not false b e = e

  one_not : (a b : Bool) → a || b ≡ false → a ≡ false
  one_not true b e = absurd (cc)
  one_not false b e = refl

  none_more : (p : Origin Call → Bool) (o : Origin Call) (acted : Option Answer) (hs : List d.basis.Reservation) (held : List (ReservedBy Call d.basis.Reservation)) → p o ≡ false → list_any p (owners held) ≡ false → list_any p (owners (with_holds o acted hs held)) ≡ false
  none_more p o acted [] held e h = h
  none_more p o acted (x ∷ xs) held e h = neither (p o) (list_any p (owners (with_holds o acted xs held))) e (none_more p o acted xs held e h)
    where
      neither : (a b : Bool) → a ≡ false → b ≡ false → a || b ≡ false
      neither true b e f = absurd (cc)
      neither false b e f = f

  none_by : (p : Origin Call → Bool) (f : Short Asked Body) (o : Open Call) (held : List (ReservedBy Call d.basis.Reservation)) → p o.origin ≡ false → list_any p (owners held) ≡ false → list_any p (owners (holds_by d f o held)) ≡ false
  none_by p (Inside k) o held e h = none_more p o.origin o.acted (holds_at (d.bodies.assertion k)) held e h
  none_by p _ o held e h = h

  none_in : (p : Origin Call → Bool) (ps : List (Short Asked Body × Open Call)) → list_any p (origins_in ps) ≡ false → list_any p (owners (holds_in d ps)) ≡ false
  none_in p [] h = refl
  none_in p (q ∷ ps) h = none_by p q.0 q.1 (holds_in d ps) (one_not (p q.1.origin) (list_any p (origins_in ps)) h) (none_in p ps (later_not (p q.1.origin) (list_any p (origins_in ps)) h))

  comes : (chip : Chip) (w : World) (s : State) (order : Order) (f : Short Asked Body) (o : Open Call) (ps : List (Short Asked Body × Open Call)) (held : List (ReservedBy Call d.basis.Reservation)) → IsFree d.basis.setting (is_masked chip) w s (origins_in ((f, o) ∷ ps)) order → holds_by d f o (holds_in d ps) ≡ held → MayCome d.basis.setting held chip w s order
  comes chip w s order f o ps held free is = record { frames = origins_in ((f, o) ∷ ps); free = free; among = λ p h. subst (λ x. list_any p (owners x) ≡ false) is (none_in p ((f, o) ∷ ps) h) }

  -- the hardware lets no unit wait
  none_later : (rate : ℕ) (w : World) (s : State) (order : Order) (served : List ℕ) (l : ℕ) → is_left_waiting d.basis.setting.machine w s served l ≡ false → is_left_waiting d.basis.setting.machine (world_after w rate order) (d.basis.later w s order) served l ≡ false
  none_later rate w s order served l h = by (has_line served l) (d.basis.setting.machine.line_waits w s l) refl h
    where
      by : (a b : Bool) → d.basis.setting.machine.line_waits w s l ≡ b → a && b ≡ false → a && d.basis.setting.machine.line_waits (world_after w rate order) (d.basis.later w s order) l ≡ false
      by true true e i = absurd (cc)
      by true false e i = law.starts.later w s order rate l e
      by false b e i = refl

  all_later_none : (rate : ℕ) (w : World) (s : State) (order : Order) (served ls : List ℕ) → list_all (λ l. not (is_left_waiting d.basis.setting.machine w s served l)) ls ≡ true → list_all (λ l. not (is_left_waiting d.basis.setting.machine (world_after w rate order) (d.basis.later w s order) served l)) ls ≡ true
  all_later_none rate w s order served [] h = refl
  all_later_none rate w s order served (l ∷ ls) h =
      let here = not (is_left_waiting d.basis.setting.machine w s served l) in
      let rest = list_all (λ l. not (is_left_waiting d.basis.setting.machine w s served l)) ls in
      let still = none_later rate w s order served l (not-true (is_left_waiting d.basis.setting.machine w s served l) (and_first here rest h)) in
      rw still (all_later_none rate w s order served ls (and_second here rest h))

  lines_later : (rate : ℕ) (w : World) (s : State) (order : Order) (origin : Origin Call) (polled served : List ℕ) → LeavesNone d.basis.setting.machine w s origin polled served → LeavesNone d.basis.setting.machine (world_after w rate order) (d.basis.later w s order) origin polled served
  lines_later rate w s order (Called c) polled served h = all_later_none rate w s order served polled h
  lines_later rate w s order (Entered l) polled served h = none_later rate w s order served l h

  leaves_later : (rate : ℕ) (w : World) (s : State) (order : Order) (origin : Origin Call) (polled served : List ℕ) (owed : Epilogue) → Leaves d.basis.setting.machine w s origin polled served owed → Leaves d.basis.setting.machine (world_after w rate order) (d.basis.later w s order) origin polled served owed
  leaves_later rate w s order origin polled served Nothing h = lines_later rate w s order origin polled served h
  leaves_later rate w s order origin polled served (Error e) h = h
  leaves_later rate w s order origin polled served (One k) h = h
  leaves_later rate w s order origin polled served (Two k j) h = h

  top_later : (ps : List (Short Asked Body × Open Call)) (chip : Chip) (w : World) (s : State) (order : Order) (f : Short Asked Body) (o : Open Call) → IsFree d.basis.setting (is_masked chip) w s (origins_in ((f, o) ∷ ps)) order → (is_masked chip ≡ false → o.inside ≡ false) → IsTop d (holds_in d ps) chip w s f o → IsTop d (holds_in d ps) (happened chip order) (world_after w chip.clock.rate order) (d.basis.later w s order) f o
  top_later ps chip w s order (Inside k) o free shut h =
      let held = holds_in d ps in
      let opened = λ (e : is_masked chip ≡ false). sym (ap (λ x. x.inside) h.form) ∙ shut e in
      let come = comes chip w s order (Inside k) o ps (with_holds o.origin h.past.acted (holds_at (d.bodies.assertion k)) held) free (ap (λ x. with_holds o.origin x.acted (holds_at (d.bodies.assertion k)) held) h.form) in
      record {
        past = h.past;
        form = h.form;
        behaves = h.behaves;
        window = h.window;
        written = h.written;
        missed = h.missed;
        at = (law.basis.agrees_later (with_holds o.origin h.past.acted (holds_at (d.bodies.assertion k)) held) (gap_at (d.bodies.assertion k)) chip w s order come (λ e. settled_at (d.bodies.assertion k) (opened e)) h.at.0, law.bodies.later held chip w s order k o.origin h.past come opened h.at);
      }
  top_later ps chip w s order (Calling c) o free shut h = (law.basis.agrees_later (holds_in d ps) d.basis.settled chip w s order (comes chip w s order (Calling c) o ps _ free refl) (λ e. refl) h.0, h.1)
  top_later ps chip w s order (Loading c) o free shut h = (law.basis.agrees_later (holds_in d ps) d.basis.settled chip w s order (comes chip w s order (Loading c) o ps _ free refl) (λ e. refl) h.0, h.1)
  top_later ps chip w s order (Entering c) o free shut h = (law.basis.agrees_later (holds_in d ps) d.basis.settled chip w s order (comes chip w s order (Entering c) o ps _ free refl) (λ e. refl) h.0, h.1)
  top_later ps chip w s order (Opening c) o free shut h = (law.basis.agrees_later (holds_in d ps) d.basis.settled chip w s order (comes chip w s order (Opening c) o ps _ free refl) (λ e. refl) h.0, h.1, leaves_later chip.clock.rate w s order o.origin o.polled o.served c.owed h.2)
  top_later ps chip w s order (Telling c) o free shut h = (law.basis.agrees_later (holds_in d ps) d.basis.settled chip w s order (comes chip w s order (Telling c) o ps _ free refl) (λ e. refl) h.0, h.1)
  top_later ps chip w s order (Returning c) o free shut h = (law.basis.agrees_later (holds_in d ps) d.basis.settled chip w s order (comes chip w s order (Returning c) o ps _ free refl) (λ e. refl) h.0, h.1)

  rests_free : (chip : Chip) (w : World) (s : State) (order : Order) → IsFree d.basis.setting (is_masked chip) w s [] order → MayCome {Reservation = d.basis.Reservation} d.basis.setting [] chip w s order
  rests_free chip w s order free = record { frames = []; free = free; among = λ p h. nothing_among p }

  all_later : (chip : Chip) (w : World) (ps : List (Short Asked Body × Open Call)) (s : State) (order : Order) → IsFree d.basis.setting (is_masked chip) w s (origins_in ps) order → (is_masked chip ≡ false → AllOutside ps) → Relates d chip w ps s → Relates d (happened chip order) (world_after w chip.clock.rate order) ps (d.basis.later w s order)
  all_later chip w [] s order free out h = law.basis.agrees_later [] d.basis.settled chip w s order (rests_free chip w s order free) (λ e. refl) h
  all_later chip w (p ∷ ps) s order free out h = (top_later ps chip w s order p.0 p.1 free (λ e. (out e).0) h.0, h.1, h.2)

  moved : (chip : Chip) (w : World) (ps : List (Short Asked Body × Open Call)) (s : State) (order : Order) → IsFree d.basis.setting (is_masked chip) w s (origins_in ps) order → d.basis.setting.machine.happens w s (Moves order) ≡ Some (outcome (d.basis.later w s order) tells_nothing)
  moved chip w [] s order free = law.basis.moves [] chip w s order (rests_free chip w s order free)
  moved chip w (p ∷ ps) s order free = law.basis.moves (holds_in d (p ∷ ps)) chip w s order (comes chip w s order p.0 p.1 ps _ free refl)

  moves : (chip : Chip) (w : World) (ps : List (Short Asked Body × Open Call)) (s : State) (order : Order) → IsFree d.basis.setting (is_masked chip) w s (origins_in ps) order → (is_masked chip ≡ false → AllOutside ps) → Relates d chip w ps s → (out : Outcome State) × (d.basis.setting.machine.happens w s (Moves order) ≡ Some out) × Relates d (happened chip order) (world_after w chip.clock.rate order) ps out.state
  moves chip w ps s order free out h = (outcome (d.basis.later w s order) tells_nothing, moved chip w ps s order free, all_later chip w ps s order free out h)

  -- a reset
  resets_top : (held : List (ReservedBy Call d.basis.Reservation)) (chip : Chip) (w : World) (s : State) (reason : Reason) (f : Short Asked Body) (o : Open Call) → IsTop d held chip w s f o → (out : Outcome State) × (d.basis.setting.machine.happens w s (Restarts reason) ≡ Some out) × d.basis.represents [] d.basis.settled (reset_chip chip reason) w out.state
  resets_top held chip w s reason (Calling c) o h = law.basis.resets held d.basis.settled chip w s reason h.0
  resets_top held chip w s reason (Loading c) o h = law.basis.resets held d.basis.settled chip w s reason h.0
  resets_top held chip w s reason (Entering k) o h = law.basis.resets held d.basis.settled chip w s reason h.0
  resets_top held chip w s reason (Inside k) o h = law.basis.resets (with_holds o.origin h.past.acted (holds_at (d.bodies.assertion k)) held) (gap_at (d.bodies.assertion k)) chip w s reason h.at.0
  resets_top held chip w s reason (Opening n) o h = law.basis.resets held d.basis.settled chip w s reason h.0
  resets_top held chip w s reason (Telling n) o h = law.basis.resets held d.basis.settled chip w s reason h.0
  resets_top held chip w s reason (Returning a) o h = law.basis.resets held d.basis.settled chip w s reason h.0

  resets : (chip : Chip) (w : World) (ps : List (Short Asked Body × Open Call)) (s : State) (reason : Reason) → Relates d chip w ps s → (out : Outcome State) × (d.basis.setting.machine.happens w s (Restarts reason) ≡ Some out) × Relates d (reset_chip chip reason) w [] out.state
  resets chip w [] s reason h = law.basis.resets [] d.basis.settled chip w s reason h
  resets chip w (p ∷ ps) s reason h = resets_top (holds_in d ps) chip w s reason p.0 p.1 h.0

  -- a move elsewhere
  top_apart : (held : List (ReservedBy Call d.basis.Reservation)) (chip : Chip) (w : World) (s : State) (made : Move) (received : ℕ) → Elsewhere d.basis made → (f : Short Asked Body) (o : Open Call) → o.inside ≡ false → IsTop d held chip w s f o → IsTop d held (chip_after chip made received) w s f o
  top_apart held chip w s made received e (Calling c) o out h = (law.basis.agrees_apart held chip w s made received e h.0, h.1)
  top_apart held chip w s made received e (Loading c) o out h = (law.basis.agrees_apart held chip w s made received e h.0, h.1)
  top_apart held chip w s made received e (Entering k) o out h = (law.basis.agrees_apart held chip w s made received e h.0, h.1)
  top_apart held chip w s made received e (Inside k) o out h =
      let outside : is_closed (d.bodies.assertion k) ≡ false = sym (ap (λ x. x.inside) h.form) ∙ out in
      let settled = sym (settled_at (d.bodies.assertion k) outside) in
      let all = with_holds o.origin h.past.acted (holds_at (d.bodies.assertion k)) held in
      record {
        past = h.past;
        form = h.form;
        behaves = h.behaves;
        window = h.window;
        written = h.written;
        missed = h.missed;
        at = (
          subst (λ x. d.basis.represents all x (chip_after chip made received) w s) settled (law.basis.agrees_apart all chip w s made received e (subst (λ x. d.basis.represents all x chip w s) (sym settled) h.at.0)),
          stays_at (d.bodies.assertion k) held (d.basis.foot chip) (d.basis.foot (chip_after chip made received)) w w s s o.origin h.past outside h.at.1,
        );
      }
  top_apart held chip w s made received e (Opening n) o out h = (law.basis.agrees_apart held chip w s made received e h.0, h.1, h.2)
  top_apart held chip w s made received e (Telling n) o out h = (law.basis.agrees_apart held chip w s made received e h.0, h.1)
  top_apart held chip w s made received e (Returning a) o out h = (law.basis.agrees_apart held chip w s made received e h.0, h.1)

  undisturbed : (chip : Chip) (w : World) (ps : List (Short Asked Body × Open Call)) (s : State) (made : Move) (received : ℕ) → Elsewhere d.basis made → AllOutside ps → Relates d chip w ps s → Relates d (chip_after chip made received) w ps s
  undisturbed chip w [] s made received e out h = law.basis.agrees_apart [] chip w s made received e h
  undisturbed chip w (p ∷ ps) s made received e out h = (top_apart (holds_in d ps) chip w s made received e p.0 p.1 out.0 h.0, h.1, h.2)

  -- the moves are there
  can_apply : (origin : Origin Call) (made : Move) → is_shared made || d.basis.setting.may origin made ≡ true → CanApply made
  can_apply origin (Read r) h = law.basis.may_there origin (Read r) h
  can_apply origin (Write r v) h = law.basis.may_there origin (Write r v) h
  can_apply origin (Load k) h = law.basis.may_there origin (Load k) h
  can_apply origin (Store k v) h = law.basis.may_there origin (Store k v) h
  can_apply origin _ h = tt

  tells_there : (owed : Epilogue) → CanApply (tells d.word owed)
  tells_there Nothing = law.word_there
  tells_there (Error e) = tt
  tells_there (One k) = tt
  tells_there (Two k j) = tt

  there : (held : List (ReservedBy Call d.basis.Reservation)) (chip : Chip) (w : World) (f : Short Asked Body) (o : Open Call) (s : State) → IsTop d held chip w s f o → CanApply (short_move d.word d.bodies.work_of f)
  there held chip w (Calling c) o s h = tt
  there held chip w (Loading c) o s h = law.word_there
  there held chip w (Entering k) o s h = tt
  there held chip w (Inside k) o s h = can_apply o.origin (d.bodies.work_of k) (law.bodies.own held chip w s k o.origin h.past h.at)
  there held chip w (Opening n) o s h = tt
  there held chip w (Telling n) o s h = tells_there n.owed
  there held chip w (Returning a) o s h = law.word_there

  -- and the frame may make them
  own_tells : (origin : Origin Call) (owed : Epilogue) → is_shared (tells d.word owed) || d.basis.setting.may origin (tells d.word owed) ≡ true
  own_tells origin Nothing = law.own_word origin
  own_tells origin (Error e) = refl
  own_tells origin (One k) = refl
  own_tells origin (Two k j) = refl

  own : (held : List (ReservedBy Call d.basis.Reservation)) (chip : Chip) (w : World) (f : Short Asked Body) (o : Open Call) (s : State) → IsTop d held chip w s f o → is_shared (short_move d.word d.bodies.work_of f) || d.basis.setting.may o.origin (short_move d.word d.bodies.work_of f) ≡ true
  own held chip w (Calling c) o s h = refl
  own held chip w (Loading c) o s h = law.own_word o.origin
  own held chip w (Entering k) o s h = refl
  own held chip w (Inside k) o s h = law.bodies.own held chip w s k o.origin h.past h.at
  own held chip w (Opening n) o s h = refl
  own held chip w (Telling n) o s h = own_tells o.origin n.owed
  own held chip w (Returning a) o s h = law.own_word o.origin

  -- it waits for a word with the mask open
  tells_at_once : {X : Type 0} (owed : Epilogue) → is_wait (tells d.word owed) ≡ true → X
  tells_at_once Nothing e = absurd (cc)
  tells_at_once (Error x) e = absurd (cc)
  tells_at_once (One k) e = absurd (cc)
  tells_at_once (Two k j) e = absurd (cc)

  opens : (held : List (ReservedBy Call d.basis.Reservation)) (chip : Chip) (w : World) (f : Short Asked Body) (o : Open Call) (s : State) → IsTop d held chip w s f o → is_wait (short_move d.word d.bodies.work_of f) ≡ true → o.inside ≡ false
  opens held chip w (Calling c) o s h e = absurd (cc)
  opens held chip w (Loading c) o s h e = absurd (cc)
  opens held chip w (Entering k) o s h e = absurd (cc)
  opens held chip w (Inside k) o s h e = let made = d.bodies.work_of k in let t = d.bodies.takes k (value_of chip made) in ap (λ x. x.inside) h.form ∙ waits_open (d.seen k) (d.seen t.0) (is_closed (d.bodies.assertion k)) made t.1.event t.1.done (law.windows held chip w s k o.origin h.past h.at) e
  opens held chip w (Opening n) o s h e = absurd (cc)
  opens held chip w (Telling n) o s h e = tells_at_once n.owed e
  opens held chip w (Returning a) o s h e = absurd (cc)

  -- a frame has steps left, and in a window moves of that
  tells_some : (owed : Epilogue) → 0 < tell_fuel owed
  tells_some Nothing = omega arith
  tells_some (Error e) = omega arith
  tells_some (One k) = omega arith
  tells_some (Two k j) = omega arith

  lasts : (f : Short Asked Body) → 0 < short_fuel d.most d.bodies.fuel f
  lasts (Calling c) = omega arith
  lasts (Loading c) = omega arith
  lasts (Entering k) = omega arith
  lasts (Inside k) = omega arith
  lasts (Opening n) = omega arith
  lasts (Telling n) = tells_some n.owed
  lasts (Returning a) = omega arith

  roomy : (held : List (ReservedBy Call d.basis.Reservation)) (chip : Chip) (w : World) (f : Short Asked Body) (o : Open Call) (s : State) → IsTop d held chip w s f o → o.inside ≡ true → 0 < short_room d.wide d.bodies.room f
  roomy held chip w (Calling c) o s h e = omega arith
  roomy held chip w (Loading c) o s h e = omega arith
  roomy held chip w (Entering k) o s h e = omega arith
  roomy held chip w (Inside k) o s h e = omega arith
  roomy held chip w (Opening n) o s h e = omega arith
  roomy held chip w (Telling n) o s h e = let i = h.1.inside in absurd (cc)
  roomy held chip w (Returning a) o s h e = let i = h.1.inside in absurd (cc)

  -- the rate, where the frames and what happens leave it
  abbrev Steadies : Type 0
  Steadies = (chip : Chip) (origin : Origin Call) (made : Move) (received : ℕ) → d.basis.setting.may origin made ≡ true → (chip_after chip made received).clock.rate ≡ chip.clock.rate

  steady_move : Steadies → (chip : Chip) (origin : Origin Call) (made : Move) (received : ℕ) → is_shared made || d.basis.setting.may origin made ≡ true → (chip_after chip made received).clock.rate ≡ chip.clock.rate
  steady_move p chip origin (Read r) received h = p chip origin (Read r) received h
  steady_move p chip origin (Write r v) received h = p chip origin (Write r v) received h
  steady_move p chip origin (Load k) received h = p chip origin (Load k) received h
  steady_move p chip origin (Store k v) received h = p chip origin (Store k v) received h
  steady_move p chip origin Mask received h = refl
  steady_move p chip origin Unmask received h = refl
  steady_move p chip origin (Note n) received h = refl
  steady_move p chip origin (Report e) received h = refl

  abbrev Constants : Type 0
  Constants = (w : World) (s : State) (h : Happening Call) (out : Outcome State) → d.basis.setting.machine.happens w s h ≡ Some out → d.basis.setting.machine.rate out.state ≡ d.basis.setting.machine.rate s

  steady_out : Constants → (w : World) (s : State) (h : Happening Call) (q : Option (Outcome State)) → d.basis.setting.machine.happens w s h ≡ q → d.basis.setting.machine.rate (state_by s q) ≡ d.basis.setting.machine.rate s
  steady_out p w s h None e = refl
  steady_out p w s h (Some out) e = p w s h out e

  steady_state : Constants → (w : World) (s : State) (h : Option (Happening Call)) → d.basis.setting.machine.rate (state_by s (outcome_of d.basis.setting.machine w s h)) ≡ d.basis.setting.machine.rate s
  steady_state p w s None = refl
  steady_state p w s (Some h) = steady_out p w s h (d.basis.setting.machine.happens w s h) refl

  -- the rate, where chip and machine agree on it
  abbrev Agreeing : Type 0
  Agreeing = (held : List (ReservedBy Call d.basis.Reservation)) (gap : d.basis.Lag) (chip : Chip) (w : World) (s : State) → d.basis.represents held gap chip w s → chip.clock.rate ≡ d.basis.setting.machine.rate s

  agreed_top : Agreeing → (held : List (ReservedBy Call d.basis.Reservation)) (chip : Chip) (w : World) (s : State) (f : Short Asked Body) (o : Open Call) → IsTop d held chip w s f o → chip.clock.rate ≡ d.basis.setting.machine.rate s
  agreed_top p held chip w s (Calling c) o h = p held d.basis.settled chip w s h.0
  agreed_top p held chip w s (Loading c) o h = p held d.basis.settled chip w s h.0
  agreed_top p held chip w s (Entering k) o h = p held d.basis.settled chip w s h.0
  agreed_top p held chip w s (Inside k) o h = p _ _ chip w s h.at.0
  agreed_top p held chip w s (Opening n) o h = p held d.basis.settled chip w s h.0
  agreed_top p held chip w s (Telling n) o h = p held d.basis.settled chip w s h.0
  agreed_top p held chip w s (Returning a) o h = p held d.basis.settled chip w s h.0

  agreed_all : Agreeing → (chip : Chip) (w : World) (ps : List (Short Asked Body × Open Call)) (s : State) → Relates d chip w ps s → chip.clock.rate ≡ d.basis.setting.machine.rate s
  agreed_all p chip w [] s h = p [] d.basis.settled chip w s h
  agreed_all p chip w (q ∷ ps) s h = agreed_top p (holds_in d ps) chip w s q.0 q.1 h.0

  rate_by : Rates d.basis → (chip : Chip) (w : World) (received : ℕ) (f : Short Asked Body) (o : Open Call) (ps : List (Short Asked Body × Open Call)) (s : State) → KeepsAt d ends_with chip w received f o ps s → chip.clock.rate ≡ d.basis.setting.machine.rate s → let made = short_move d.word d.bodies.work_of f in (chip_after chip made received).clock.rate ≡ d.basis.setting.machine.rate (state_after d.basis.setting.machine w s o made received (ending_gave d.looked d.bodies.takes ends_with f (value_of chip made)).event)
  rate_by (Steady p q) chip w received f o ps s h e = let made = short_move d.word d.bodies.work_of f in steady_move p chip o.origin made received h.own ∙ (e ∙ sym (steady_state q w s (happening_at o.origin (brought_by w o.committed made received) (ending_gave d.looked d.bodies.takes ends_with f (value_of chip made)).event)))
  rate_by (Agreed p) chip w received f o ps s h e = agreed_all p _ w _ _ h.kept

  -- the watchdog's time
  watched_top : (held : List (ReservedBy Call d.basis.Reservation)) (chip : Chip) (w : World) (s : State) (f : Short Asked Body) (o : Open Call) → d.basis.watches ≡ true → chip.clock.osc ≡ w.osc → IsTop d held chip w s f o → d.basis.setting.machine.expires w s ≡ expiry_of chip
  watched_top held chip w s (Calling c) o has osc h = law.basis.watched held d.basis.settled chip w s has osc h.0
  watched_top held chip w s (Loading c) o has osc h = law.basis.watched held d.basis.settled chip w s has osc h.0
  watched_top held chip w s (Entering k) o has osc h = law.basis.watched held d.basis.settled chip w s has osc h.0
  watched_top held chip w s (Inside k) o has osc h = law.basis.watched _ _ chip w s has osc h.at.0
  watched_top held chip w s (Opening n) o has osc h = law.basis.watched held d.basis.settled chip w s has osc h.0
  watched_top held chip w s (Telling n) o has osc h = law.basis.watched held d.basis.settled chip w s has osc h.0
  watched_top held chip w s (Returning a) o has osc h = law.basis.watched held d.basis.settled chip w s has osc h.0

  watched_all : (chip : Chip) (w : World) (ps : List (Short Asked Body × Open Call)) (s : State) → d.basis.watches ≡ true → chip.clock.osc ≡ w.osc → Relates d chip w ps s → d.basis.setting.machine.expires w s ≡ expiry_of chip
  watched_all chip w [] s has osc h = law.basis.watched [] d.basis.settled chip w s has osc h
  watched_all chip w (q ∷ ps) s has osc h = watched_top (holds_in d ps) chip w s q.0 q.1 has osc h.0

  -- the bounds of steps
  line_by : (line : ℕ) (f : Short Asked Body) (q : Option Body) → d.body_of line ≡ q → entering q ≡ Some f → (services_driver d).fuel f ≤ d.basis.setting.steps_of (Entered line)
  line_by line f None e is = absurd (cc)
  line_by line f (Some k) e is = let at : Entering k ≡ f = cc in subst (λ x. (services_driver d).fuel x ≤ d.basis.setting.steps_of (Entered line)) at (law.line_steps line k e)

  settled_due : (chip : Chip) (w : World) (ps : List (Short Asked Body × Open Call)) (s : State) (line : ℕ) → AllOutside ps → Relates d chip w ps s → d.basis.setting.machine.due w s line ≡ true → is_pending chip line ≡ true
  settled_due chip w ps s line out h e =
      let represents = (all_wait chip w ps s out h).0 in
      law.basis.pends (holds_in d ps) chip w s line (law.basis.used_lines line (law.basis.due_used (holds_in d ps) chip w s line represents e)) represents e

  pub services_lawful : IsLawful (services_driver d) (short_move d.word d.bodies.work_of) (short_left d.looked d.bodies.takes) (ending_gave d.looked d.bodies.takes ends_with)
  services_lawful = record {
    starts = law.basis.starts;
    begins = λ chip w ps s c level can unmasked out enter above h. begins chip w ps s c level can out enter h;
    enters = λ chip w ps s line f is unmasked pending out under h. enters_by chip w ps s line f (d.body_of line) refl is out under h;
    steps = λ chip w f o ps s received come few masked out h. short_steps d law chip w received f o ps s come few h;
    there = λ chip w f o ps s h. there (holds_in d ps) chip w f o s h.0;
    own = λ chip w f o ps s h. own (holds_in d ps) chip w f o s h.0;
    opens = λ chip w f o ps s h. opens (holds_in d ps) chip w f o s h.0;
    lasts = lasts;
    roomy = λ chip w f o ps s h e. roomy (holds_in d ps) chip w f o s h.0 e;
    moves = moves;
    resets = resets;
    undisturbed = undisturbed;
    may_owns = law.basis.may_owns;
    owns_plain = law.basis.owns_plain;
    owns_called = law.basis.owns_called;
    enables = law.basis.enables;
    used_lines = law.basis.used_lines;
    due_used = λ chip w ps s line out h e. law.basis.due_used (holds_in d ps) chip w s line (all_wait chip w ps s out h).0 e;
    due = λ chip w ps s line unmasked out h e. settled_due chip w ps s line out h e;
    unused = λ chip w ps s line unmasked out h there free. law.basis.unused (holds_in d ps) chip w s line there (all_wait chip w ps s out h).0 free;
    rests = λ chip w s line there h. law.basis.rests chip w s line there h;
    unmasked = λ chip w ps s unmasked out h. law.basis.unmasked (holds_in d ps) chip w s (origins_in ps) (λ p e. none_in p ps e) (all_wait chip w ps s out h).0;
    rest = λ chip w s h. law.basis.rest chip w s h;
    waits = λ chip w s u h. law.basis.waits chip w s u h;
    error_leaves = law.basis.error_leaves;
    count_first = law.basis.count_first;
    count_happens = law.basis.count_happens;
    count_moves = law.basis.count_moves;
    count_resets = law.basis.count_resets;
    rate_starts = law.basis.rate_starts;
    rate = λ chip w f o ps s received come few masked out h e. rate_by law.basis.rated chip w received f o ps s (short_steps d law chip w received f o ps s come few h) e;
    rate_moves = law.basis.rate_moves;
    rate_resets = law.basis.rate_resets;
    loads = law.basis.loads;
    expiry = λ chip w ps s has osc h. watched_all chip w ps s has osc h;
    unwatched = law.basis.unwatched;
    handled = λ line. entering_same Asked (d.body_of line) ∙ law.handled line;
    call_fuel = law.call_steps;
    line_fuel = λ line f is. line_by line f (d.body_of line) refl is;
  }

-- where a call of this class may begin over no frame of its module, nothing is held below it
pub alone : {State Call Reservation : Type 0} (g : Setting State Call) (c : Class) (held : List (ReservedBy Call Reservation)) → ((o : Origin Call) → blocks c (mark_of g o) ≡ true) → AllLet g c held → held ≡ []
alone g c [] all h = refl
alone g c (x ∷ xs) all h = let a = all x.by in let b = h.0 in absurd (cc)
