-- What the line of a legal step tells is all of the step but the answer of its end.
use Rattle.std.proofs.Common.{◌≡◌, ℕ, true, false, Option, Some, None, refl, sym, ◌∙◌, ap}
use Rattle.std.specs.Prelude.{option_map}
use Rattle.chip_model.specs.Chip.{Chip, value_of}
use Rattle.mcal_base.specs.declared.answer.Answer.{Answer}
use Rattle.mcal_base.specs.declared.moves.Event.{Event}
use Rattle.mcal_base.specs.declared.moves.Event.TheVariants as events
use Rattle.mcal_base.specs.declared.moves.Move.{Move}
use Rattle.mcal_base.specs.declared.moves.Move.TheVariants.{Read, Write, Load, Store, Mask, Unmask, Note, Report}
use Rattle.mcal_base.specs.declared.moves.Unit as units
use Rattle.mcal_base.specs.declared.moves.Unit.TheVariants.{Adc0, Adc1, Spi0, Spi1}
use Rattle.mcal_base.specs.declared.register.Reg.TheVariants as regs
use Rattle.mcal_base.specs.facts.Truths.{off_on}
use Rattle.run_model.specs.Frame.{Open}
use Rattle.run_model.specs.Legal.{EventRight, IsLegalStep, ReceivedRight, StandsAt, is_converter, unit_number}
use Rattle.run_model.specs.Moment.{Moment, Setting}
use Rattle.run_model.specs.World.{World}
use Rattle.run_model.specs.declared.item.Stepped.{Stepped}
use Rattle.report_text.specs.reading.Reading.{aborted_by, converter_at, event_of, serial_at, started_by}
use Rattle.trace_reader.specs.Told.{given, incoming, mark_of}
use Rattle.trace_reader.specs.declared.told.Mark.{Mark}
use Rattle.trace_reader.specs.declared.told.Mark.TheVariants as marks
use Rattle.trace_reader.specs.declared.told.Step.{Step}
use Rattle.report_steps.specs.StepParts.{event_at, event_at_mark, step_told}
use Rattle.report_steps.specs.StepRules.{told_of}

-- ---- values

given_is : (c : Chip) (made : Move) (v : ℕ) → v ≡ value_of c made → given made v ≡ v
given_is c (Read r) v e = refl
given_is c (Load k) v e = refl
given_is c (Write r x) v e = sym e
given_is c (Store k x) v e = sym e
given_is c Mask v e = sym e
given_is c Unmask v e = sym e
given_is c (Note n) v e = sym e
given_is c (Report x) v e = sym e

incoming_is : (c : Chip) (w : World) (made : Move) (r : ℕ) → ReceivedRight c w made r → incoming made r ≡ r
incoming_is c w (Write (regs.SerialData u) v) r h = refl
incoming_is c w (Write _ v) r h = sym h
incoming_is c w (Read x) r h = sym h
incoming_is c w (Load k) r h = sym h
incoming_is c w (Store k x) r h = sym h
incoming_is c w Mask r h = sym h
incoming_is c w Unmask r h = sym h
incoming_is c w (Note n) r h = sym h
incoming_is c w (Report x) r h = sym h

-- ---- events

-- the unit of a number is the unit of which that is the number
converter_is : (u : units.Unit) (k : ℕ) → is_converter u ≡ true → k ≡ unit_number u → converter_at k ≡ Some u
converter_is Adc0 k c e = ap converter_at e
converter_is Adc1 k c e = ap converter_at e
converter_is Spi0 k c e = off_on c
converter_is Spi1 k c e = off_on c

serial_is : (u : units.Unit) (k : ℕ) → is_converter u ≡ false → k ≡ unit_number u → serial_at k ≡ Some u
serial_is Adc0 k c e = off_on (sym c)
serial_is Adc1 k c e = off_on (sym c)
serial_is Spi0 k c e = ap serial_at e
serial_is Spi1 k c e = ap serial_at e

start_is : (u : units.Unit) (made : Move) (value : ℕ) → StandsAt (events.Start u) made value → started_by made ≡ Some u
start_is u (Write (regs.ConverterGo k) v) value h = converter_is u k h.0 h.1
start_is u (Write (regs.SerialData k) v) value h = serial_is u k h.0 h.1
start_is u (Write _ v) value h = absurd h
start_is u (Read r) value h = absurd h
start_is u (Load k) value h = absurd h
start_is u (Store k x) value h = absurd h
start_is u Mask value h = absurd h
start_is u Unmask value h = absurd h
start_is u (Note n) value h = absurd h
start_is u (Report x) value h = absurd h

abort_is : (u : units.Unit) (made : Move) (value : ℕ) → StandsAt (events.Abort u) made value → aborted_by made ≡ Some u
abort_is u (Read (regs.ConverterAbort k)) value h = converter_is u k h.0 h.1
abort_is u (Read _) value h = absurd h
abort_is u (Write r v) value h = absurd h
abort_is u (Load k) value h = absurd h
abort_is u (Store k x) value h = absurd h
abort_is u Mask value h = absurd h
abort_is u Unmask value h = absurd h
abort_is u (Note n) value h = absurd h
abort_is u (Report x) value h = absurd h

marked : (made : Move) (value : ℕ) (e : Event) → StandsAt e made value → event_at_mark made (Some (mark_of e)) ≡ Some (Some e)
marked made value events.Act h = refl
marked made value (events.Serve l) h = refl
marked made value (events.Start u) h = ap (λ x. option_map (λ e. Some e) (option_map (λ v. events.Start v) x)) (start_is u made value h)
marked made value (events.Abort u) h = ap (λ x. option_map (λ e. Some e) (option_map (λ v. events.Abort v) x)) (abort_is u made value h)

module _ {State Call : Type 0} (g : Setting State Call) (m : Moment State Call) (o : Open Call) where
  event_by : (s : Stepped) (e : Option Event) → EventRight g m o s e → event_at_mark s.made (option_map mark_of e) ≡ Some e
  event_by s None h = refl
  event_by s (Some e) h = marked s.made s.value e h.1

  -- the event of a legal step is the one that its line marks
  pub event_is : (depth : ℕ) (s : Stepped) → IsLegalStep g m o s → event_at (told_of depth s) ≡ Some s.event
  event_is depth s legal = event_by s s.event legal.event

  -- and the step is what its line tells, with its event and its end's answer
  pub step_is : (depth : ℕ) (s : Stepped) → IsLegalStep g m o s → step_told (told_of depth s) s.event s.ended ≡ s
  step_is depth s legal =
      ap (λ v. record s { value = v; received = incoming s.made s.received }) (given_is m.chip s.made s.value legal.value)
      ∙ ap (λ r. record s { received = r }) (incoming_is m.chip m.world s.made s.received legal.received)

  -- and so is the word that comes in
  pub received_is : (s : Stepped) → IsLegalStep g m o s → incoming s.made s.received ≡ s.received
  received_is s legal = incoming_is m.chip m.world s.made s.received legal.received

-- ---- the other way: the line of the step that is made of a line

started_mark : (e : Event) (x : Option units.Unit) → option_map (λ y. Some y) (option_map (λ u. events.Start u) x) ≡ Some (Some e) → Some (mark_of e) ≡ Some marks.Start
started_mark e None h = absurd (cc)
started_mark e (Some u) h = let same : events.Start u ≡ e = cc in ap (λ y. Some (mark_of y)) (sym same)

aborted_mark : (e : Event) (x : Option units.Unit) → option_map (λ y. Some y) (option_map (λ u. events.Abort u) x) ≡ Some (Some e) → Some (mark_of e) ≡ Some marks.Abort
aborted_mark e None h = absurd (cc)
aborted_mark e (Some u) h = let same : events.Abort u ≡ e = cc in ap (λ y. Some (mark_of y)) (sym same)

none_else : (x : Option Event) → option_map (λ y. Some y) x ≡ Some None → ⊥
none_else None h = absurd (cc)
none_else (Some e) h = absurd (cc)

marked_as : (made : Move) (mark : Mark) (e : Event) → event_at_mark made (Some mark) ≡ Some (Some e) → Some (mark_of e) ≡ Some mark
marked_as made marks.Act e h = let same : events.Act ≡ e = cc in ap (λ y. Some (mark_of y)) (sym same)
marked_as made (marks.Serve l) e h = let same : events.Serve l ≡ e = cc in ap (λ y. Some (mark_of y)) (sym same)
marked_as made marks.Start e h = started_mark e (started_by made) h
marked_as made marks.Abort e h = aborted_mark e (aborted_by made) h

-- the mark of the event that is found is the line's
pub mark_is : (made : Move) (mark : Option Mark) (event : Option Event) → event_at_mark made mark ≡ Some event → option_map mark_of event ≡ mark
mark_is made None None h = refl
mark_is made None (Some e) h = absurd (cc)
mark_is made (Some mark) None h = absurd (none_else (event_of made (Some mark)) h)
mark_is made (Some mark) (Some e) h = marked_as made mark e h

abbrev step_line : (depth : ℕ) → Move → (value received : ℕ) → Option Mark → Step
step_line depth made value received mark = record { depth = depth; made = made; value = value; received = received; mark = mark }

-- the line of a step with what a line tells is that line
pub told_again : (c : Chip) (w : World) (depth : ℕ) (r : Step) (event : Option Event) (ended : Option Answer) → r.depth ≡ depth → r.value ≡ value_of c r.made → ReceivedRight c w r.made r.received → event_at r ≡ Some event
    → told_of depth (step_told r event ended) ≡ r
told_again c w depth r event ended deep value received at =
    ap (λ (x : ℕ). step_line x r.made (given r.made r.value) (incoming r.made r.received) (option_map mark_of event)) (sym deep)
    ∙ (ap (λ (x : ℕ). step_line r.depth r.made x (incoming r.made r.received) (option_map mark_of event)) (given_is c r.made r.value value)
    ∙ (ap (λ (x : ℕ). step_line r.depth r.made r.value x (option_map mark_of event)) (incoming_is c w r.made r.received received)
    ∙ ap (λ (x : Option Mark). step_line r.depth r.made r.value r.received x) (mark_is r.made r.mark event at)))
