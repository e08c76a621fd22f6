-- What was seen and isn't touched is so after a move, an event, what the hardware does, and a reset.
use Rattle.std.proofs.Common.{◌≡◌, ℕ, Bool, true, false, ◌&&◌, List, [], ◌∷◌, map, Option, Some, None, refl, sym, ◌∙◌, ap, subst, slice_get}
use Rattle.std.specs.Bool.{OnTrue}
use Rattle.std.specs.Option.{IfSome}
use Rattle.chip_model.specs.Chip.{Chip, chip_after, happened}
use Rattle.mcal_base.specs.Bits.{bits_of}
use Rattle.mcal_base.specs.declared.directive.Order.{Order}
use Rattle.mcal_base.specs.declared.directive.Order.TheVariants.{Tick}
use Rattle.mcal_base.specs.declared.moves.Event.{Event}
use Rattle.mcal_base.specs.declared.moves.Move.{Move}
use Rattle.mcal_base.specs.declared.moves.Unit.{Unit}
use Rattle.mcal_base.specs.facts.Truths.{off_on}
use Rattle.run_model.specs.Frame.{Open, state_after, state_by}
use Rattle.run_model.specs.Machine.{Moves}
use Rattle.run_model.specs.Moment.{Setting}
use Rattle.run_model.specs.World.{World, world_after}
use Rattle.report_text.specs.reading.Blocks.{AuditState}
use Rattle.report_auditor.specs.Auditing.{Auditing, Stands, seeing}
use Rattle.report_auditor.specs.Seeing.{Agreeing, IsSeen, keeps_units, moved_in, nothing, saw, stepped_in, told_in, touched_if_told, touched_in}
use Rattle.audit_whole.specs.Touching.{by_event, by_move, by_order, is_touched}
use Rattle.audit_whole.specs.declared.aspects.Aspect.{Aspect}
use Rattle.audit_whole.specs.declared.aspects.Aspect.TheVariants.{Outputs, Pins, Ram, Stamps, Results, Arrays}
use Rattle.report_auditor.specs.declared.seen.Seen.{Seen}
use Rattle.audit_whole.specs.declared.aspects.Touched.{Touched}
use Rattle.audit_whole.specs.declared.aspects.Touched.TheVariants.{Nothing, One, Words}

-- ---- the newest frame

first_same : {B : Type 0} (x y : B) (xs ys : List B) → x ∷ xs ≡ y ∷ ys → y ≡ x
first_same x y xs ys e = cc

some_same : {A : Type 0} (x y : A) → Some x ≡ Some y → y ≡ x
some_same x y e = cc

pub first_is : {A B : Type 0} (f : A → B) (items : List A) (x : A) (y : B) (ys : List B) → slice_get items 0 ≡ Some x → map f items ≡ y ∷ ys → f x ≡ y
first_is f [] x y ys e h = absurd (cc)
first_is f (z ∷ items) x y ys e h = ap f (some_same z x e) ∙ sym (first_same (f z) y (map f items) ys h)

pub no_first : {A B : Type 0} (f : A → B) (items : List A) (y : B) (ys : List B) → slice_get items 0 ≡ None → map f items ≡ y ∷ ys → ⊥
no_first f [] y ys e h = absurd (cc)
no_first f (z ∷ items) y ys e h = absurd (cc)

-- ---- one aspect

goes_on : {P Q : Type 0} (b : Bool) → OnTrue b P → (P → Q) → OnTrue b Q
goes_on true h f = f h
goes_on false h f = tt

-- after another one was touched, where one was
still : {P Q : Type 0} (x : Touched) (a : Aspect) (seen : Seen) → OnTrue (saw seen a) P → (is_touched a x ≡ false → P → Q) → OnTrue (saw (touched_in x seen) a) Q
still (One Outputs) Outputs seen h f = tt
still (One Pins) Pins seen h f = tt
still (One Ram) Ram seen h f = tt
still (One Stamps) Stamps seen h f = tt
still (One Results) Results seen h f = tt
still (One Arrays) Arrays seen h f = tt
still Words Stamps seen h f = tt
still Words Results seen h f = tt
still Words Arrays seen h f = tt
still Nothing Outputs seen h f = goes_on (saw seen Outputs) h (f refl)
still Nothing Pins seen h f = goes_on (saw seen Pins) h (f refl)
still Nothing Ram seen h f = goes_on (saw seen Ram) h (f refl)
still Nothing Stamps seen h f = goes_on (saw seen Stamps) h (f refl)
still Nothing Results seen h f = goes_on (saw seen Results) h (f refl)
still Nothing Arrays seen h f = goes_on (saw seen Arrays) h (f refl)
still (One Outputs) Pins seen h f = goes_on (saw seen Pins) h (f refl)
still (One Outputs) Ram seen h f = goes_on (saw seen Ram) h (f refl)
still (One Outputs) Stamps seen h f = goes_on (saw seen Stamps) h (f refl)
still (One Outputs) Results seen h f = goes_on (saw seen Results) h (f refl)
still (One Outputs) Arrays seen h f = goes_on (saw seen Arrays) h (f refl)
still (One Pins) Outputs seen h f = goes_on (saw seen Outputs) h (f refl)
still (One Pins) Ram seen h f = goes_on (saw seen Ram) h (f refl)
still (One Pins) Stamps seen h f = goes_on (saw seen Stamps) h (f refl)
still (One Pins) Results seen h f = goes_on (saw seen Results) h (f refl)
still (One Pins) Arrays seen h f = goes_on (saw seen Arrays) h (f refl)
still (One Ram) Outputs seen h f = goes_on (saw seen Outputs) h (f refl)
still (One Ram) Pins seen h f = goes_on (saw seen Pins) h (f refl)
still (One Ram) Stamps seen h f = goes_on (saw seen Stamps) h (f refl)
still (One Ram) Results seen h f = goes_on (saw seen Results) h (f refl)
still (One Ram) Arrays seen h f = goes_on (saw seen Arrays) h (f refl)
still (One Stamps) Outputs seen h f = goes_on (saw seen Outputs) h (f refl)
still (One Stamps) Pins seen h f = goes_on (saw seen Pins) h (f refl)
still (One Stamps) Ram seen h f = goes_on (saw seen Ram) h (f refl)
still (One Stamps) Results seen h f = goes_on (saw seen Results) h (f refl)
still (One Stamps) Arrays seen h f = goes_on (saw seen Arrays) h (f refl)
still (One Results) Outputs seen h f = goes_on (saw seen Outputs) h (f refl)
still (One Results) Pins seen h f = goes_on (saw seen Pins) h (f refl)
still (One Results) Ram seen h f = goes_on (saw seen Ram) h (f refl)
still (One Results) Stamps seen h f = goes_on (saw seen Stamps) h (f refl)
still (One Results) Arrays seen h f = goes_on (saw seen Arrays) h (f refl)
still (One Arrays) Outputs seen h f = goes_on (saw seen Outputs) h (f refl)
still (One Arrays) Pins seen h f = goes_on (saw seen Pins) h (f refl)
still (One Arrays) Ram seen h f = goes_on (saw seen Ram) h (f refl)
still (One Arrays) Stamps seen h f = goes_on (saw seen Stamps) h (f refl)
still (One Arrays) Results seen h f = goes_on (saw seen Results) h (f refl)
still Words Outputs seen h f = goes_on (saw seen Outputs) h (f refl)
still Words Pins seen h f = goes_on (saw seen Pins) h (f refl)
still Words Ram seen h f = goes_on (saw seen Ram) h (f refl)

same_saw : (a : Aspect) (units : Bool) (seen : Seen) → saw (record seen { due = None; units = units }) a ≡ saw seen a
same_saw Outputs units seen = refl
same_saw Pins units seen = refl
same_saw Ram units seen = refl
same_saw Stamps units seen = refl
same_saw Results units seen = refl
same_saw Arrays units seen = refl

none_seen : (P : Type 0) (used : ℕ) (a : Aspect) → OnTrue (saw (nothing used) a) P
none_seen P used Outputs = tt
none_seen P used Pins = tt
none_seen P used Ram = tt
none_seen P used Stamps = tt
none_seen P used Results = tt
none_seen P used Arrays = tt

-- lines stay known
same_used : (x : Touched) (seen : Seen) → (touched_in x seen).used ≡ seen.used
same_used Nothing seen = refl
same_used (One Outputs) seen = refl
same_used (One Pins) seen = refl
same_used (One Ram) seen = refl
same_used (One Stamps) seen = refl
same_used (One Results) seen = refl
same_used (One Arrays) seen = refl
same_used Words seen = refl

same_due : (x : Touched) (seen : Seen) → (touched_in x seen).due ≡ seen.due
same_due Nothing seen = refl
same_due (One Outputs) seen = refl
same_due (One Pins) seen = refl
same_due (One Ram) seen = refl
same_due (One Stamps) seen = refl
same_due (One Results) seen = refl
same_due (One Arrays) seen = refl
same_due Words seen = refl

same_units : (x : Touched) (seen : Seen) → (touched_in x seen).units ≡ seen.units
same_units Nothing seen = refl
same_units (One Outputs) seen = refl
same_units (One Pins) seen = refl
same_units (One Ram) seen = refl
same_units (One Stamps) seen = refl
same_units (One Results) seen = refl
same_units (One Arrays) seen = refl
same_units Words seen = refl

-- what is so where one is known stays so where both are
both_on : {P Q : Type 0} (a b : Bool) → OnTrue a P → (b ≡ true → P → Q) → OnTrue (a && b) Q
both_on true true h f = f refl h
both_on true false h f = tt
both_on false b h f = tt

-- ---- all of it

module _ {Table State Call : Type 0} (agrees : Agreeing Table State) (setting : Table → Setting State Call) (t : Table) where
  pub seen_nothing : (used : ℕ) (chip : Chip) (w : World) (s : State) → used ≡ bits_of (setting t).used 32 → IsSeen agrees setting t (nothing used) chip w s
  seen_nothing used chip w s e = record { used = e; due = tt; units = tt; each = λ a. none_seen (agrees a t chip w s) used a }

  each_of : (seen : Seen) (chip : Chip) (w : World) (s : State) → OnTrue seen.outputs (agrees Outputs t chip w s) → OnTrue seen.pins (agrees Pins t chip w s) → OnTrue seen.ram (agrees Ram t chip w s)
      → OnTrue seen.stamps (agrees Stamps t chip w s) → OnTrue seen.results (agrees Results t chip w s) → OnTrue seen.arrays (agrees Arrays t chip w s) → (a : Aspect) → OnTrue (saw seen a) (agrees a t chip w s)
  each_of seen chip w s outputs pins ram stamps results arrays Outputs = outputs
  each_of seen chip w s outputs pins ram stamps results arrays Pins = pins
  each_of seen chip w s outputs pins ram stamps results arrays Ram = ram
  each_of seen chip w s outputs pins ram stamps results arrays Stamps = stamps
  each_of seen chip w s outputs pins ram stamps results arrays Results = results
  each_of seen chip w s outputs pins ram stamps results arrays Arrays = arrays

  pub seen_all : (seen : Seen) (chip : Chip) (w : World) (s : State) → seen.used ≡ bits_of (setting t).used 32 → IfSome seen.due (λ mask. mask ≡ bits_of ((setting t).machine.due w s) 32)
      → OnTrue seen.units ((u : Unit) → (setting t).machine.startable w s u ≡ false)
      → OnTrue seen.outputs (agrees Outputs t chip w s) → OnTrue seen.pins (agrees Pins t chip w s) → OnTrue seen.ram (agrees Ram t chip w s)
      → OnTrue seen.stamps (agrees Stamps t chip w s) → OnTrue seen.results (agrees Results t chip w s) → OnTrue seen.arrays (agrees Arrays t chip w s) → IsSeen agrees setting t seen chip w s
  seen_all seen chip w s used due units outputs pins ram stamps results arrays = record { used = used; due = due; units = units; each = each_of seen chip w s outputs pins ram stamps results arrays }

  touched : (x : Touched) (seen : Seen) (chip after : Chip) (w : World) (s : State)
      → ((a : Aspect) → is_touched a x ≡ false → agrees a t chip w s → agrees a t after w s) → IsSeen agrees setting t seen chip w s → IsSeen agrees setting t (touched_in x seen) after w s
  touched x seen chip after w s kept h = record {
    used = same_used x seen ∙ h.used;
    due = subst (λ d. IfSome d (λ mask. mask ≡ bits_of ((setting t).machine.due w s) 32)) (sym (same_due x seen)) h.due;
    units = subst (λ b. OnTrue b ((u : Unit) → (setting t).machine.startable w s u ≡ false)) (sym (same_units x seen)) h.units;
    each = λ a. still x a seen (h.each a) (kept a);
  }

  changed : (x : Touched) (units : Bool) (seen : Seen) (chip chip2 : Chip) (w w2 : World) (s s2 : State)
      → OnTrue units ((u : Unit) → (setting t).machine.startable w2 s2 u ≡ false)
      → ((a : Aspect) → is_touched a x ≡ false → agrees a t chip w s → agrees a t chip2 w2 s2) → IsSeen agrees setting t seen chip w s → IsSeen agrees setting t (touched_in x (record seen { due = None; units = units })) chip2 w2 s2
  changed x units seen chip chip2 w w2 s s2 rest kept h = record {
    used = same_used x (record seen { due = None; units = units }) ∙ h.used;
    due = subst (λ d. IfSome d (λ mask. mask ≡ bits_of ((setting t).machine.due w2 s2) 32)) (sym (same_due x (record seen { due = None; units = units }))) tt;
    units = subst (λ b. OnTrue b ((u : Unit) → (setting t).machine.startable w2 s2 u ≡ false)) (sym (same_units x (record seen { due = None; units = units }))) rest;
    each = λ a. still x a (record seen { due = None; units = units }) (subst (λ b. OnTrue b (agrees a t chip w s)) (sym (same_saw a units seen)) (h.each a)) (kept a);
  }

  told : (x : Touched) (seen : Seen) (chip chip2 : Chip) (w w2 : World) (s s2 : State)
      → ((a : Aspect) → is_touched a x ≡ false → agrees a t chip w s → agrees a t chip2 w2 s2) → IsSeen agrees setting t seen chip w s → IsSeen agrees setting t (told_in x seen) chip2 w2 s2
  told x seen chip chip2 w w2 s s2 kept h = changed x false seen chip chip2 w w2 s s2 tt kept h

  module _ (by_moves : (a : Aspect) (x : Table) (chip : Chip) (w : World) (s : State) (made : Move) (received : ℕ) → is_touched a (by_move made) ≡ false → agrees a x chip w s → agrees a x (chip_after chip made received) w s)
      (by_events : (a : Aspect) (x : Table) (chip : Chip) (w : World) (s : State) (o : Open Call) (made : Move) (received : ℕ) (e : Event) → is_touched a (by_event (setting x) o.origin e) ≡ false → agrees a x chip w s
      → agrees a x chip w (state_after (setting x).machine w s o made received (Some e))) where
    pub seen_stepped : (seen : Seen) (chip : Chip) (w : World) (s : State) (o : Open Call) (made : Move) (received : ℕ) (event : Option Event) → IsSeen agrees setting t seen chip w s
        → IsSeen agrees setting t (stepped_in made (touched_if_told (setting t) o.origin event) seen) (chip_after chip made received) w (state_after (setting t).machine w s o made received event)
    seen_stepped seen chip w s o made received None h = touched (by_move made) seen chip (chip_after chip made received) w s (λ a. by_moves a t chip w s made received) h
    seen_stepped seen chip w s o made received (Some e) h =
        told (by_event (setting t) o.origin e) (touched_in (by_move made) seen) (chip_after chip made received) (chip_after chip made received) w w s (state_after (setting t).machine w s o made received (Some e))
        (λ a. by_events a t (chip_after chip made received) w s o made received e)
        (touched (by_move made) seen chip (chip_after chip made received) w s (λ a. by_moves a t chip w s made received) h)

  -- units after ticks, by the law of ticks, and after anything else
  units_after : ((x : Table) (w : World) (s : State) (n : ℕ) (u : Unit) → (setting x).machine.startable w s u ≡ false
      → (setting x).machine.startable (world_after w ((setting x).machine.rate s) (Tick n)) (state_by s ((setting x).machine.happens w s (Moves (Tick n)))) u ≡ false)
      → (w : World) (s : State) (order : Order) → keeps_units order ≡ true → ((u : Unit) → (setting t).machine.startable w s u ≡ false)
      → (u : Unit) → (setting t).machine.startable (world_after w ((setting t).machine.rate s) order) (state_by s ((setting t).machine.happens w s (Moves order))) u ≡ false
  units_after law w s (Tick n) e h = λ u. law t w s n u (h u)
  units_after law w s _ e h = off_on e

  pub seen_moved : ((a : Aspect) (x : Table) (chip : Chip) (w : World) (s : State) (order : Order) → is_touched a (by_order order) ≡ false → agrees a x chip w s
      → agrees a x (happened chip order) (world_after w ((setting x).machine.rate s) order) (state_by s ((setting x).machine.happens w s (Moves order))))
      → ((x : Table) (w : World) (s : State) (n : ℕ) (u : Unit) → (setting x).machine.startable w s u ≡ false
      → (setting x).machine.startable (world_after w ((setting x).machine.rate s) (Tick n)) (state_by s ((setting x).machine.happens w s (Moves (Tick n)))) u ≡ false)
      → (seen : Seen) (chip : Chip) (w : World) (s : State) (order : Order) → IsSeen agrees setting t seen chip w s
      → IsSeen agrees setting t (moved_in order seen) (happened chip order) (world_after w ((setting t).machine.rate s) order) (state_by s ((setting t).machine.happens w s (Moves order)))
  seen_moved law ticks seen chip w s order h =
      changed (by_order order) (seen.units && keeps_units order) seen chip (happened chip order) w (world_after w ((setting t).machine.rate s) order) s (state_by s ((setting t).machine.happens w s (Moves order)))
      (both_on seen.units (keeps_units order) h.units (units_after ticks w s order)) (λ a. law a t chip w s order) h

-- what is kept stands for the same place with what is seen anew
pub stands_seeing : {Parts Table State Call : Type 0} (agrees : Agreeing Table State) (setting : Table → Setting State Call) (table : Parts → Table) (stands : Parts → State → Type 0) (t : Table) (seen : Seen) (a : Auditing Parts Call) (p : AuditState State Call)
    → IsSeen agrees setting t seen p.moment.chip p.moment.world p.moment.state → Stands agrees setting table stands t a p → Stands agrees setting table stands t (seeing seen a) p
stands_seeing agrees setting table stands t seen a p h s = record {
  kept_of = s.kept_of;
  chip = s.chip;
  world = s.world;
  devices = s.devices;
  hung = s.hung;
  state = s.state;
  frames = s.frames;
  origins = s.origins;
  going = s.going;
  purposes = s.purposes;
  tally = s.tally;
  seen = h;
}
