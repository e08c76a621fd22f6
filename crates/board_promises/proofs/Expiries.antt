-- The watchdog's time in a journal that follows a script and is legal, of a machine whose time runs out by the ticks.
use Rattle.std.proofs.Common.{◌≡◌, ℕ, zero, suc, ◌+◌, ◌-◌, Bool, true, false, List, [], ◌∷◌, ◌++◌, Option, Some, None, length, refl, sym, ◌∙◌, ap, subst, inl, inr, arith}
use Rattle.std.specs.Prelude.{◌||◌, nat_lt, is_some, slice_get, option_map, MatchBool}
use Rattle.chip_model.specs.Chip.{wait_on}
use Rattle.irq_control.specs.declared.held.Held.{Held}
use Rattle.irq_control.specs.declared.held.Held.TheVariants.{Empty, Frames}
use Rattle.mcal_base.specs.declared.directive.Directive.{Directive}
use Rattle.mcal_base.specs.declared.directive.Order.{Order}
use Rattle.mcal_base.specs.declared.directive.Order.TheVariants as orders
use Rattle.mcal_base.specs.declared.directive.Reason.TheVariants.{PowerOn, Watchdog, Software}
use Rattle.mcal_base.specs.declared.directive.Request.{Request}
use Rattle.run_model.specs.declared.stop_condition.StopCondition.{StopCondition}
use Rattle.run_model.specs.declared.stop_condition.StopCondition.TheVariants.{Count, Until, Whole}
use Rattle.run_model.specs.Entry as entry
use Rattle.run_model.specs.Entry.{Entry, Said}
use Rattle.run_model.specs.Follows.{IsOne, Ticks, ticks_left, ticks_through, IsStep, GoesOn, Goes, BeginsOnly, BeginsWhole, HappensOnly, Shows, Gives, Follows, ends_within, is_reached, call_held, line_held, deeds_in}
use Rattle.run_model.specs.Frame.{Open, state_by, resets_chip}
use Rattle.run_model.specs.Legal.{InTime, IsLegal, hardware_held}
use Rattle.run_model.specs.Machine.{Machine, Moves, Outcome, outcome, tells_nothing}
use Rattle.run_model.specs.Moment.{Setting, Moment, Transition, Begins, Enters, Steps, Happens, Resets, after, after_all}
use Rattle.run_model.specs.Script.{order_at, deed_of}
use Rattle.run_model.specs.Stops.{IsStepBefore, GoesToStop, StopsWithin, GivesToStop, FollowsToStop}
use Rattle.run_model.specs.World.{World, world_after}
use Rattle.run_model.proofs.Following.{after_all-append}
use Rattle.script_runner.specs.Scripts.{LinesRise}
use Rattle.script_runner.proofs.Scripts.{at_line}
use Rattle.step_runner.specs.Union.{sooner, in_both, union_machine}
use Rattle.board_promises.specs.Expiries.{IsOver, EndsInTime, asks_reset, ComesOver, ResetsInTime}

-- ---- where it is over

is_over : {Call : Type 0} (left : Option ℕ) (d : Transition Call) → InTime left d → IsOver left d
is_over None d h = tt
is_over (Some (suc n)) d h = tt
is_over (Some zero) (Resets Watchdog) h = refl
is_over (Some zero) (Happens (orders.Tick n)) h = absurd (let lt = h.0 in omega (arith, lt))
is_over (Some zero) d h = absurd (omega (arith, h))

pub ends_in_time : {State Call : Type 0} (g : Setting State Call) (m : Moment State Call) (ds : List (Transition Call)) → IsLegal g m ds → EndsInTime g m ds
ends_in_time g m [] legal = tt
ends_in_time g m (d ∷ ds) legal = (is_over (g.machine.expires m.world m.state) d legal.1, ends_in_time g (after g m d) ds legal.3)

-- ---- where its reset comes

-- the time of a machine runs down by the ticks, and the hardware changes it by nothing else
pub record RunsDown {State Call : Type 0} (mac : Machine State Call) : Type 0 where
  pub moves : (w later : World) (s : State) (order : Order) (out : Outcome State) → mac.happens w s (Moves order) ≡ Some out → mac.expires later out.state ≡ mac.expires later s
  pub ticks : (w : World) (s : State) (rate n : ℕ) → mac.expires (world_after w rate (orders.Tick n)) s ≡ option_map (λ left. left - n) (mac.expires w s)

-- as far as it ran
all_down : (n : ℕ) → n - n ≡ 0
all_down n = omega arith

moved_on : {State Call : Type 0} (mac : Machine State Call) → RunsDown mac → (w later : World) (s : State) (order : Order) (o : Option (Outcome State)) → mac.happens w s (Moves order) ≡ o → mac.expires later (state_by s o) ≡ mac.expires later s
moved_on mac down w later s order None e = refl
moved_on mac down w later s order (Some out) e = down.moves w later s order out e

-- after as many ticks as are left none is
runs_out : {State Call : Type 0} (mac : Machine State Call) → RunsDown mac → (w : World) (s : State) (rate n : ℕ) → mac.expires w s ≡ Some n
    → mac.expires (world_after w rate (orders.Tick n)) (state_by s (mac.happens w s (Moves (orders.Tick n)))) ≡ Some 0
runs_out mac down w s rate n e =
    moved_on mac down w (world_after w rate (orders.Tick n)) s (orders.Tick n) (mac.happens w s (Moves (orders.Tick n))) refl
    ∙ down.ticks w s rate n ∙ ap (λ x. option_map (λ left. left - n) x) e ∙ ap (λ k. Some k) (all_down n)

-- two machines as one
sooner_down : (n : ℕ) (a b : Option ℕ) → sooner (option_map (λ left. left - n) a) (option_map (λ left. left - n) b) ≡ option_map (λ left. left - n) (sooner a b)
sooner_down n None b = refl
sooner_down n (Some j) None = refl
sooner_down n (Some j) (Some k) = ap (λ x. Some x) (omega arith)

both_moved : {S T : Type 0} (o : Option (Outcome S)) (k : Option (Outcome T)) (out : Outcome (S × T)) → in_both o k ≡ Some out
    → (x : Outcome S) × (y : Outcome T) × (o ≡ Some x) × (k ≡ Some y) × (out.state ≡ (x.state, y.state))
both_moved None k out e = absurd (cc e)
both_moved (Some x) None out e = absurd (cc e)
both_moved (Some x) (Some y) out e = (x, y, refl, refl, (let same : outcome (x.state, y.state) tells_nothing ≡ out = cc e in ap (λ z. z.state) (sym same)))

pub union_down : {S T C D : Type 0} (ours : ℕ → Bool) (f : Machine S C) (g : Machine T D) → RunsDown f → RunsDown g → RunsDown (union_machine ours f g)
union_down ours f g a b = record {
  moves = λ w later s order out e.
      let h = both_moved (f.happens w s.0 (Moves order)) (g.happens w s.1 (Moves order)) out e in
      ap (λ z. sooner (f.expires later z.0) (g.expires later z.1)) h.4
      ∙ ap (λ x. sooner x (g.expires later h.1.state)) (a.moves w later s.0 order h.0 h.2)
      ∙ ap (λ x. sooner (f.expires later s.0) x) (b.moves w later s.1 order h.1 h.3);
  ticks = λ w s rate n.
      ap (λ x. sooner x (g.expires (world_after w rate (orders.Tick n)) s.1)) (a.ticks w s.0 rate n)
      ∙ ap (λ x. sooner (option_map (λ left. left - n) (f.expires w s.0)) x) (b.ticks w s.1 rate n)
      ∙ sooner_down n (f.expires w s.0) (g.expires w s.1);
}

match_due : {A B C : Type 0} (b : Bool) → MatchBool b A B → (A → C) → (B → C) → C
match_due true h f g = f h
match_due false h f g = g h

module _ {State Call : Type 0} (g : Setting State Call) (call_of : Request → Call) (down : RunsDown g.machine) where
  -- the items of a directive have its line, and each reset by the watchdog that it doesn't ask for comes where no tick is left
  abbrev Due : (line : ℕ) → Order → Moment State Call → List Entry → Type 0
  Due line order m [] = Unit {0}
  Due line order m (e ∷ es) =
      (e.line ≡ line) × ComesOver e.said (asks_reset (Some order)) (g.machine.expires m.world m.state)
      × Due line order (after_all g m (deed_of call_of (Some order) e.said)) es

  one_due : (line : ℕ) (order : Order) (m at : Moment State Call) (said : Said) (items : List Entry) → ComesOver said (asks_reset (Some order)) (g.machine.expires m.world m.state) → IsOne at line said items → Due line order m items
  one_due line order m at said items due is = subst (λ (es : List Entry). Due line order m es) (sym is) (refl, due, tt)

  none_due : (line : ℕ) (order : Order) (m : Moment State Call) (items : List Entry) → items ≡ [] → Due line order m items
  none_due line order m items is = subst (λ (es : List Entry). Due line order m es) (sym is) tt

  -- the moment after ticks by the item that tells of them
  ticked : (line : ℕ) (order : Order) (m : Moment State Call) (n : ℕ) → g.machine.expires m.world m.state ≡ Some n
      → (let m1 = after_all g m (deed_of call_of (Some order) (entry.Happens (orders.Tick n))) in g.machine.expires m1.world m1.state ≡ Some 0)
  ticked line order m n e = runs_out g.machine down m.world m.state (g.machine.rate m.state) n e

  comes_over : (dropped : ℕ) (asked : Bool) (left : Option ℕ) → left ≡ Some 0 → ComesOver (entry.Resets Watchdog dropped) asked left
  comes_over dropped true left e = tt
  comes_over dropped false left e = e

  -- ---- ticks

  left_due : (line : ℕ) (order : Order) (m : Moment State Call) (rest : ℕ) → Due line order m (ticks_left line rest)
  left_due line order m zero = tt
  left_due line order m (suc n) = (refl, tt, tt)

  through_due : (line depth left rest : ℕ) (order : Order) (m : Moment State Call) → g.machine.expires m.world m.state ≡ Some left → Due line order m (ticks_through line depth left rest)
  through_due line depth left rest order m e =
      (refl, tt, (refl, comes_over depth (asks_reset (Some order)) _ (ticked line order m left e), left_due line order _ rest))

  ticks_due : (line n : ℕ) (left : Option ℕ) (order : Order) (m : Moment State Call) (items : List Entry) → g.machine.expires m.world m.state ≡ left → Ticks m line n left items → Due line order m items
  ticks_due line n None order m items e h = one_due line order m m (entry.Happens (orders.Tick n)) items tt h
  ticks_due line n (Some left) order m items e h = match_due (nat_lt n left) h
      (λ one. one_due line order m m (entry.Happens (orders.Tick n)) items tt one)
      (λ is. subst (λ (es : List Entry). Due line order m es) (sym is) (through_due line (length m.opens) left (n - left) order m e))

  -- ---- steps

  step_due : (line : ℕ) (order : Order) (reach : StopCondition) (made : ℕ) (m : Moment State Call) (e : Entry) (es : List Entry) (More : ℕ → Transition Call → Type 0) (said : Said)
      → ((n : ℕ) (deed : Transition Call) → More n deed → Due line order (after g m deed) es) → IsStep g line reach made m e es said More → (e.line ≡ line) × ComesOver said (asks_reset (Some order)) (g.machine.expires m.world m.state) × Due line order (after_all g m (deed_of call_of (Some order) said)) es
  step_due line order reach made m e es More (entry.Steps s) more h = (
    h.0,
    tt,
    match_due (resets_chip s.made) h.2
        (λ reset. one_due line order (after g m (Steps s)) (after g m (Steps s)) (entry.Resets Software (length (after g m (Steps s)).opens)) es tt reset)
        (λ goes. match_due (is_some s.ended || is_reached reach (made + 1) s) goes (λ none. none_due line order (after g m (Steps s)) es none) (more (made + 1) (Steps s))),
  )
  step_due line order reach made m e es More (entry.Happens (orders.Tick n)) more h = (
    h.0,
    tt,
    match_due (ends_within (wait_on m.chip h.2.unit) (g.machine.expires m.world m.state)) h.2.goes
        (λ over. one_due line order (after g m (Happens (orders.Tick n))) m (entry.Resets Watchdog (length m.opens)) es (comes_over (length m.opens) (asks_reset (Some order)) _ (ticked line order m n over.0)) over.1)
        (λ on. more made (Happens (orders.Tick n)) on.2),
  )
  step_due line order reach made m e es More (entry.Happens o) more h = absurd h
  step_due line order reach made m e es More entry.Begins more h = absurd h
  step_due line order reach made m e es More (entry.Stays c) more h = absurd h
  step_due line order reach made m e es More (entry.Resets r k) more h = absurd h

  goes_on_due : (line : ℕ) (order : Order) (reach : StopCondition) (items : List Entry) (made : ℕ) (m : Moment State Call) → GoesOn g line reach made m items → Due line order m items
  goes_on_due line order reach [] made m h = absurd h
  goes_on_due line order reach (e ∷ es) made m h = step_due line order reach made m e es (λ n deed. GoesOn g line reach n (after g m deed) es) e.said (λ n deed k. goes_on_due line order reach es n (after g m deed) k) h

  goes_due : (line : ℕ) (order : Order) (reach : StopCondition) (m : Moment State Call) (os : List (Open Call)) (items : List Entry) → Goes g line reach m os items → Due line order m items
  goes_due line order reach m [] items h = one_due line order m m (entry.Stays Empty) items tt h
  goes_due line order (Count zero) m (o ∷ os) items h = none_due line order m items h
  goes_due line order (Count (suc n)) m (o ∷ os) items h = goes_on_due line order (Count (suc n)) items 0 m h
  goes_due line order (Until stop) m (o ∷ os) items h = goes_on_due line order (Until stop) items 0 m h
  goes_due line order Whole m (o ∷ os) items h = goes_on_due line order Whole items 0 m h

  -- ---- beginnings

  begins_due : (line : ℕ) (order : Order) (m : Moment State Call) (held : Option Held) (items : List Entry) → BeginsOnly m line held items → Due line order m items
  begins_due line order m (Some c) items h = one_due line order m m (entry.Stays c) items tt h
  begins_due line order m None items h = one_due line order m m entry.Begins items tt h

  begun_due : (line : ℕ) (order : Order) (m : Moment State Call) (deed : Transition Call) (items steps : List Entry) → deed_of call_of (Some order) entry.Begins ≡ deed ∷ []
      → items ≡ (record { line = line; depth = length m.opens; said = entry.Begins }) ∷ steps → Due line order (after g m deed) steps → Due line order m items
  begun_due line order m deed items steps same is h =
      subst (λ (es : List Entry). Due line order m es) (sym is) (refl, tt, subst (λ (ds : List (Transition Call)). Due line order (after_all g m ds) steps) (sym same) h)

  whole_due : (line : ℕ) (order : Order) (m : Moment State Call) (deed : Transition Call) (held : Option Held) (items : List Entry) → deed_of call_of (Some order) entry.Begins ≡ deed ∷ [] → BeginsWhole g m line deed held items → Due line order m items
  whole_due line order m deed (Some c) items same h = one_due line order m m (entry.Stays c) items tt h
  whole_due line order m deed None items same h = begun_due line order m deed items h.steps same h.is (goes_on_due line order Whole h.steps 0 (after g m deed) h.goes)

  -- ---- hardware

  happens_due : (line : ℕ) (order : Order) (m : Moment State Call) (held : Option Held) (items : List Entry) → HappensOnly m line order held items → Due line order m items
  happens_due line order m (Some c) items h = one_due line order m m (entry.Stays c) items tt h
  happens_due line order m None items h = one_due line order m m (entry.Happens order) items tt h

  shows_due : (line : ℕ) (order : Order) (m : Moment State Call) (os : List (Open Call)) (items : List Entry) → Shows m line order os items → Due line order m items
  shows_due line order m [] items h = one_due line order m m (entry.Happens order) items tt h
  shows_due line order m (o ∷ os) items h = one_due line order m m (entry.Stays Frames) items tt h

  -- ---- a directive

  gives_due : (line : ℕ) (order : Order) (m : Moment State Call) (items : List Entry) → Gives g call_of m line order items → Due line order m items
  gives_due line (orders.Call level r) m items h = begins_due line (orders.Call level r) m (call_held g m (call_of r) level) items h
  gives_due line (orders.Do level r) m items h = whole_due line (orders.Do level r) m (Begins (call_of r) level) (call_held g m (call_of r) level) items refl h
  gives_due line (orders.Enter l) m items h = begins_due line (orders.Enter l) m (line_held g m l) items h
  gives_due line (orders.Serve l) m items h = whole_due line (orders.Serve l) m (Enters l) (line_held g m l) items refl h
  gives_due line (orders.Run n) m items h = goes_due line (orders.Run n) (Count n) m m.opens items h
  gives_due line (orders.Upto stop) m items h = goes_due line (orders.Upto stop) (Until stop) m m.opens items h
  gives_due line orders.Finish m items h = goes_due line orders.Finish Whole m m.opens items h
  gives_due line (orders.Tick n) m items h = ticks_due line n (g.machine.expires m.world m.state) (orders.Tick n) m items refl h
  gives_due line (orders.Level p v) m items h = one_due line (orders.Level p v) m m (entry.Happens (orders.Level p v)) items tt h
  gives_due line (orders.Analog i v) m items h = one_due line (orders.Analog i v) m m (entry.Happens (orders.Analog i v)) items tt h
  gives_due line (orders.Trigger i) m items h = one_due line (orders.Trigger i) m m (entry.Happens (orders.Trigger i)) items tt h
  gives_due line (orders.Miso u ws) m items h = one_due line (orders.Miso u ws) m m (entry.Happens (orders.Miso u ws)) items tt h
  gives_due line (orders.SpiFault u) m items h = one_due line (orders.SpiFault u) m m (entry.Happens (orders.SpiFault u)) items tt h
  gives_due line orders.Detach m items h = happens_due line orders.Detach m (hardware_held g m orders.Detach) items h
  gives_due line (orders.Fill c ws) m items h = happens_due line (orders.Fill c ws) m (hardware_held g m (orders.Fill c ws)) items h
  gives_due line (orders.Reset PowerOn) m items h = one_due line (orders.Reset PowerOn) m m (entry.Resets PowerOn (length m.opens)) items tt h
  gives_due line (orders.Reset Watchdog) m items h = one_due line (orders.Reset Watchdog) m m (entry.Resets Watchdog (length m.opens)) items tt h
  gives_due line (orders.Reset Software) m items h = absurd h
  gives_due line (orders.Show s) m items h = shows_due line (orders.Show s) m m.opens items h

  -- ---- a directive up to a stop

  before_due : (line : ℕ) (order : Order) (reach : StopCondition) (made : ℕ) (m : Moment State Call) (e : Entry) (es : List Entry) (More : ℕ → Transition Call → Type 0) (said : Said)
      → ((n : ℕ) (deed : Transition Call) → More n deed → Due line order (after g m deed) es) → IsStepBefore g line reach made m e es said More → (e.line ≡ line) × ComesOver said (asks_reset (Some order)) (g.machine.expires m.world m.state) × Due line order (after_all g m (deed_of call_of (Some order) said)) es
  before_due line order reach made m e es More (entry.Steps s) more h = (h.0, tt, more (made + 1) (Steps s) h.3)
  before_due line order reach made m e es More (entry.Happens (orders.Tick n)) more h = (h.0, tt, more made (Happens (orders.Tick n)) h.3)
  before_due line order reach made m e es More (entry.Happens o) more h = absurd h
  before_due line order reach made m e es More entry.Begins more h = absurd h
  before_due line order reach made m e es More (entry.Stays c) more h = absurd h
  before_due line order reach made m e es More (entry.Resets r k) more h = absurd h

  stop_due : (line : ℕ) (order : Order) (reach : StopCondition) (items : List Entry) (made : ℕ) (m : Moment State Call) → GoesToStop g line reach made m items → Due line order m items
  stop_due line order reach [] made m h = tt
  stop_due line order reach (e ∷ es) made m h = before_due line order reach made m e es (λ n deed. GoesToStop g line reach n (after g m deed) es) e.said (λ n deed k. stop_due line order reach es n (after g m deed) k) h

  within_due : (line : ℕ) (order : Order) (reach : StopCondition) (m : Moment State Call) (os : List (Open Call)) (items : List Entry) → StopsWithin g line reach m os items → Due line order m items
  within_due line order reach m [] items h = absurd h
  within_due line order (Count zero) m (o ∷ os) items h = absurd h
  within_due line order (Count (suc n)) m (o ∷ os) items h = stop_due line order (Count (suc n)) items 0 m h
  within_due line order (Until stop) m (o ∷ os) items h = stop_due line order (Until stop) items 0 m h
  within_due line order Whole m (o ∷ os) items h = stop_due line order Whole items 0 m h

  stops_due : (line : ℕ) (order : Order) (m : Moment State Call) (items : List Entry) → GivesToStop g call_of m line order items → Due line order m items
  stops_due line (orders.Do level r) m items h = begun_due line (orders.Do level r) m (Begins (call_of r) level) items h.steps refl h.is (stop_due line (orders.Do level r) Whole h.steps 0 (after g m (Begins (call_of r) level)) h.goes)
  stops_due line (orders.Serve l) m items h = begun_due line (orders.Serve l) m (Enters l) items h.steps refl h.is (stop_due line (orders.Serve l) Whole h.steps 0 (after g m (Enters l)) h.goes)
  stops_due line (orders.Run n) m items h = within_due line (orders.Run n) (Count n) m m.opens items h
  stops_due line (orders.Upto stop) m items h = within_due line (orders.Upto stop) (Until stop) m m.opens items h
  stops_due line orders.Finish m items h = within_due line orders.Finish Whole m m.opens items h
  stops_due line order m items h = absurd h

  -- ---- a journal

  module _ (script : List Directive) where
    abbrev Right : Moment State Call → List Entry → Type 0
    Right m es = ResetsInTime g call_of script m es

    due_then : (line : ℕ) (order : Order) (m : Moment State Call) (first later : List Entry) → order_at script line ≡ Some order → Due line order m first → Right (after_all g m (deeds_in call_of order first)) later → Right m (first ++ later)
    due_then line order m [] later found h k = k
    due_then line order m (e ∷ es) later found h k =
        let here : order_at script e.line ≡ Some order = ap (order_at script) h.0 ∙ found in
        let now = deed_of call_of (Some order) e.said in
        subst (λ (o : Option Order). ComesOver e.said (asks_reset o) (g.machine.expires m.world m.state) × Right (after_all g m (deed_of call_of o e.said)) (es ++ later)) (sym here)
        (h.1, due_then line order (after_all g m now) es later found h.2 (subst (λ (x : Moment State Call). Right x later) (after_all-append g m now (deeds_in call_of order es)) k))

    due_last : (line : ℕ) (order : Order) (m : Moment State Call) (es : List Entry) → order_at script line ≡ Some order → Due line order m es → Right m es
    due_last line order m [] found h = tt
    due_last line order m (e ∷ es) found h =
        let here : order_at script e.line ≡ Some order = ap (order_at script) h.0 ∙ found in
        subst (λ (o : Option Order). ComesOver e.said (asks_reset o) (g.machine.expires m.world m.state) × Right (after_all g m (deed_of call_of o e.said)) es) (sym here)
        (h.1, due_last line order (after_all g m (deed_of call_of (Some order) e.said)) es found h.2)

    -- each directive's order is found at its line
    abbrev Found : List Directive → Type 0
    Found [] = Unit {0}
    Found (d ∷ ds) = (order_at script d.line ≡ Some d.order) × Found ds

    found_by : (ds : List Directive) → ((k : ℕ) (d : Directive) → slice_get ds k ≡ Some d → order_at script d.line ≡ Some d.order) → Found ds
    found_by [] f = tt
    found_by (d ∷ ds) f = (f 0 d refl, found_by ds (λ k x e. f (suc k) x e))

    follows_due : (ds : List Directive) (m : Moment State Call) (es : List Entry) → Found ds → Follows g call_of m ds es → Right m es
    follows_due [] m es found h = subst (λ (xs : List Entry). Right m xs) (sym h) tt
    follows_due (d ∷ ds) m es found h =
        subst (λ (xs : List Entry). Right m xs) (sym h.is)
        (due_then d.line d.order m h.first h.later found.0 (gives_due d.line d.order m h.first h.gives) (follows_due ds _ h.later found.1 h.rest))

    stopped_due : (ds : List Directive) (m : Moment State Call) (es : List Entry) → Found ds → FollowsToStop g call_of m ds es → Right m es
    stopped_due [] m es found h = absurd h
    stopped_due (d ∷ ds) m es found (inl h) = due_last d.line d.order m es found.0 (stops_due d.line d.order m es h)
    stopped_due (d ∷ ds) m es found (inr h) =
        subst (λ (xs : List Entry). Right m xs) (sym h.is)
        (due_then d.line d.order m h.first h.later found.0 (gives_due d.line d.order m h.first h.gives) (stopped_due ds _ h.later found.1 h.rest))

    found : LinesRise 0 script → Found script
    found rise = found_by script (λ k d e. at_line 0 script k d rise e)

    pub whole_in_time : (m : Moment State Call) (es : List Entry) → LinesRise 0 script → Follows g call_of m script es → ResetsInTime g call_of script m es
    whole_in_time m es rise h = follows_due script m es (found rise) h

    pub stopped_in_time : (m : Moment State Call) (es : List Entry) → LinesRise 0 script → FollowsToStop g call_of m script es → ResetsInTime g call_of script m es
    stopped_in_time m es rise h = stopped_due script m es (found rise) h
