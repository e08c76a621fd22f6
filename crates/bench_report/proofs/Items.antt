-- What the items of a directive are like: they have its line, and none shows anything where the directive doesn't.
use Rattle.std.proofs.Common.{◌≡◌, ℕ, zero, suc, ◌+◌, ◌-◌, Bool, true, false, List, [], ◌∷◌, refl, sym, subst, Option, Some, None, length}
use Rattle.std.specs.Prelude.{◌||◌, nat_lt, is_some, MatchBool}
use Rattle.chip_model.specs.Chip.{wait_on}
use Rattle.irq_control.specs.declared.held.Held.{Held}
use Rattle.irq_control.specs.declared.held.Held.TheVariants.{Empty}
use Rattle.mcal_base.specs.declared.directive.Order.{Order}
use Rattle.mcal_base.specs.declared.directive.Order.TheVariants as orders
use Rattle.mcal_base.specs.declared.directive.Reason.TheVariants.{PowerOn, Watchdog, Software}
use Rattle.mcal_base.specs.declared.directive.Request.{Request}
use Rattle.run_model.specs.declared.stop_condition.StopCondition.{StopCondition}
use Rattle.run_model.specs.declared.stop_condition.StopCondition.TheVariants.{Count, Until, Whole}
use Rattle.run_model.specs.Entry as entry
use Rattle.run_model.specs.Entry.{Entry, Said}
use Rattle.run_model.specs.Frame.{Open, resets_chip}
use Rattle.run_model.specs.Follows.{IsOne, Ticks, ticks_left, IsStep, GoesOn, Goes, BeginsOnly, BeginsWhole, HappensOnly, Shows, Gives, ends_within, is_reached}
use Rattle.run_model.specs.Moment.{Setting, Moment, Transition, Steps, Happens, after}

-- the order shows something
abbrev pub is_show : Order → Bool
is_show (orders.Show what) = true
is_show _ = false

-- the item shows nothing
abbrev pub shows_nothing : Said → Type 0
shows_nothing (entry.Happens order) = is_show order ≡ false
shows_nothing entry.Begins = Unit {0}
shows_nothing (entry.Stays cause) = Unit {0}
shows_nothing (entry.Steps step) = Unit {0}
shows_nothing (entry.Resets reason dropped) = Unit {0}

-- all items have this line, and say such things
abbrev pub Each : ℕ → (Said → Type 0) → List Entry → Type 0
Each line P [] = Unit {0}
Each line P (e ∷ es) = (e.line ≡ line) × P e.said × Each line P es

abbrev pub any : Said → Type 0
any said = Unit {0}

match_each : {A B C : Type 0} (b : Bool) → MatchBool b A B → (A → C) → (B → C) → C
match_each true h f g = f h
match_each false h f g = g h

one_each : {State Call : Type 0} (m : Moment State Call) (line : ℕ) (P : Said → Type 0) (said : Said) (items : List Entry) → P said → IsOne m line said items → Each line P items
one_each m line P said items p is = subst (λ (es : List Entry). Each line P es) (sym is) (refl, p, tt)

none_each : (line : ℕ) (P : Said → Type 0) (items : List Entry) → items ≡ [] → Each line P items
none_each line P items is = subst (λ (es : List Entry). Each line P es) (sym is) tt

-- ---- steps

step_each : {State Call : Type 0} (g : Setting State Call) (line : ℕ) (reach : StopCondition) (made : ℕ) (m : Moment State Call) (e : Entry) (es : List Entry) (More : ℕ → Transition Call → Type 0) →
    (said : Said) → e.said ≡ said → ((n : ℕ) (deed : Transition Call) → More n deed → Each line shows_nothing es) → IsStep g line reach made m e es said More → Each line shows_nothing (e ∷ es)
step_each g line reach made m e es More (entry.Steps s) is more h = (
  h.0,
  subst shows_nothing (sym is) tt,
  match_each (resets_chip s.made) h.2
      (λ reset. one_each (after g m (Steps s)) line shows_nothing (entry.Resets Software (length (after g m (Steps s)).opens)) es tt reset)
      (λ goes. match_each (is_some s.ended || is_reached reach (made + 1) s) goes (λ none. none_each line shows_nothing es none) (more (made + 1) (Steps s))),
)
step_each g line reach made m e es More (entry.Happens (orders.Tick n)) is more h = (
  h.0,
  subst shows_nothing (sym is) refl,
  match_each (ends_within (wait_on m.chip h.2.unit) (g.machine.expires m.world m.state)) h.2.goes
      (λ over. one_each m line shows_nothing (entry.Resets Watchdog (length m.opens)) es tt over.1)
      (λ on. more made (Happens (orders.Tick n)) on.2),
)
step_each g line reach made m e es More (entry.Happens o) is more h = absurd h
step_each g line reach made m e es More entry.Begins is more h = absurd h
step_each g line reach made m e es More (entry.Stays c) is more h = absurd h
step_each g line reach made m e es More (entry.Resets r k) is more h = absurd h

goes_on_each : {State Call : Type 0} (g : Setting State Call) (line : ℕ) (reach : StopCondition) (items : List Entry) (made : ℕ) (m : Moment State Call) → GoesOn g line reach made m items → Each line shows_nothing items
goes_on_each g line reach [] made m h = absurd h
goes_on_each g line reach (e ∷ es) made m h = step_each g line reach made m e es (λ n deed. GoesOn g line reach n (after g m deed) es) e.said refl (λ n deed k. goes_on_each g line reach es n (after g m deed) k) h

goes_each : {State Call : Type 0} (g : Setting State Call) (line : ℕ) (reach : StopCondition) (m : Moment State Call) (os : List (Open Call)) (items : List Entry) → Goes g line reach m os items → Each line shows_nothing items
goes_each g line reach m [] items h = one_each m line shows_nothing (entry.Stays Empty) items tt h
goes_each g line (Count zero) m (o ∷ os) items h = none_each line shows_nothing items h
goes_each g line (Count (suc n)) m (o ∷ os) items h = goes_on_each g line (Count (suc n)) items 0 m h
goes_each g line (Until stop) m (o ∷ os) items h = goes_on_each g line (Until stop) items 0 m h
goes_each g line Whole m (o ∷ os) items h = goes_on_each g line Whole items 0 m h

-- ---- beginnings

begins_each : {State Call : Type 0} (m : Moment State Call) (line : ℕ) (held : Option Held) (items : List Entry) → BeginsOnly m line held items → Each line shows_nothing items
begins_each m line (Some c) items h = one_each m line shows_nothing (entry.Stays c) items tt h
begins_each m line None items h = one_each m line shows_nothing entry.Begins items tt h

whole_each : {State Call : Type 0} (g : Setting State Call) (m : Moment State Call) (line : ℕ) (deed : Transition Call) (held : Option Held) (items : List Entry) → BeginsWhole g m line deed held items → Each line shows_nothing items
whole_each g m line deed (Some c) items h = one_each m line shows_nothing (entry.Stays c) items tt h
whole_each g m line deed None items h = subst (λ (es : List Entry). Each line shows_nothing es) (sym h.is) (refl, tt, goes_on_each g line Whole h.steps 0 (after g m deed) h.goes)

-- ---- hardware

left_each : (line rest : ℕ) → Each line shows_nothing (ticks_left line rest)
left_each line zero = tt
left_each line (suc n) = (refl, refl, tt)

ticks_each : {State Call : Type 0} (m : Moment State Call) (line n : ℕ) (left : Option ℕ) (items : List Entry) → Ticks m line n left items → Each line shows_nothing items
ticks_each m line n None items h = one_each m line shows_nothing (entry.Happens (orders.Tick n)) items refl h
ticks_each m line n (Some left) items h = match_each (nat_lt n left) h
    (λ one. one_each m line shows_nothing (entry.Happens (orders.Tick n)) items refl one)
    (λ is. subst (λ (es : List Entry). Each line shows_nothing es) (sym is) (refl, refl, (refl, tt, left_each line (n - left))))

happens_each : {State Call : Type 0} (m : Moment State Call) (line : ℕ) (order : Order) (held : Option Held) (items : List Entry) → is_show order ≡ false → HappensOnly m line order held items → Each line shows_nothing items
happens_each m line order (Some c) items e h = one_each m line shows_nothing (entry.Stays c) items tt h
happens_each m line order None items e h = one_each m line shows_nothing (entry.Happens order) items e h

-- ---- all directives

pub gives_each : {State Call : Type 0} (g : Setting State Call) (call_of : Request → Call) (m : Moment State Call) (line : ℕ) (order : Order) (items : List Entry) → is_show order ≡ false → Gives g call_of m line order items → Each line shows_nothing items
gives_each g call_of m line (orders.Call level r) items e h = begins_each m line _ items h
gives_each g call_of m line (orders.Do level r) items e h = whole_each g m line _ _ items h
gives_each g call_of m line (orders.Enter l) items e h = begins_each m line _ items h
gives_each g call_of m line (orders.Serve l) items e h = whole_each g m line _ _ items h
gives_each g call_of m line (orders.Run n) items e h = goes_each g line (Count n) m m.opens items h
gives_each g call_of m line (orders.Upto stop) items e h = goes_each g line (Until stop) m m.opens items h
gives_each g call_of m line orders.Finish items e h = goes_each g line Whole m m.opens items h
gives_each g call_of m line (orders.Tick n) items e h = ticks_each m line n _ items h
gives_each g call_of m line (orders.Level p v) items e h = one_each m line shows_nothing (entry.Happens (orders.Level p v)) items refl h
gives_each g call_of m line (orders.Analog i v) items e h = one_each m line shows_nothing (entry.Happens (orders.Analog i v)) items refl h
gives_each g call_of m line (orders.Trigger i) items e h = one_each m line shows_nothing (entry.Happens (orders.Trigger i)) items refl h
gives_each g call_of m line (orders.Miso u ws) items e h = one_each m line shows_nothing (entry.Happens (orders.Miso u ws)) items refl h
gives_each g call_of m line (orders.SpiFault u) items e h = one_each m line shows_nothing (entry.Happens (orders.SpiFault u)) items refl h
gives_each g call_of m line orders.Detach items e h = happens_each m line orders.Detach _ items refl h
gives_each g call_of m line (orders.Fill c ws) items e h = happens_each m line (orders.Fill c ws) _ items refl h
gives_each g call_of m line (orders.Reset PowerOn) items e h = one_each m line shows_nothing _ items tt h
gives_each g call_of m line (orders.Reset Watchdog) items e h = one_each m line shows_nothing _ items tt h
gives_each g call_of m line (orders.Reset Software) items e h = absurd h
gives_each g call_of m line (orders.Show what) items e h = cc

-- ---- lines

every_line : (line : ℕ) (items : List Entry) → Each line shows_nothing items → Each line any items
every_line line [] h = tt
every_line line (e ∷ es) h = (h.0, tt, every_line line es h.2)

shows_line : {State Call : Type 0} (m : Moment State Call) (line : ℕ) (order : Order) (os : List (Open Call)) (items : List Entry) → Shows m line order os items → Each line any items
shows_line m line order [] items h = one_each m line any _ items tt h
shows_line m line order (o ∷ os) items h = one_each m line any _ items tt h

pub lines_of : {State Call : Type 0} (g : Setting State Call) (call_of : Request → Call) (m : Moment State Call) (line : ℕ) (order : Order) (items : List Entry) (b : Bool) → is_show order ≡ b → Gives g call_of m line order items → Each line any items
lines_of g call_of m line (orders.Show what) items b e h = shows_line m line (orders.Show what) m.opens items h
lines_of g call_of m line order items false e h = every_line line items (gives_each g call_of m line order items e h)
lines_of g call_of m line order items true e h = cc
