-- The frames under way of a legal run: how many there are after a deed, and that each serves a line of the chip.
use Rattle.std.proofs.Common.{◌≡◌, ℕ, suc, ◌+◌, ◌-◌, ◌<◌, Bool, true, false, List, [], ◌∷◌, ◌++◌, length, Option, Some, None, refl, ◌∙◌, ap, sym, subst, arith}
use Rattle.std.specs.Prelude.{not, nat_lt, option_map}
use Rattle.std.proofs.lemmas.Bool.Decides.{nat_tests}
use Rattle.std.proofs.lemmas.Bool.{not-false}
use Rattle.chip_model.specs.Chip.{is_pending, is_masked}
use Rattle.mcal_base.specs.declared.answer.Answer.{Answer}
use Rattle.mcal_base.specs.declared.moves.Event.{Event}
use Rattle.mcal_base.specs.declared.moves.Event.TheVariants as events
use Rattle.run_model.specs.Causes.{first_cause, call_cause, line_cause, is_full, tags_of, call_level_allows, line_level_allows, may_reenter, top_noted}
use Rattle.run_model.specs.Frame.{Origin, Called, Entered, Open, open_after, top_after, resets_chip}
use Rattle.run_model.specs.Legal.{IsOwnEvent, EventRight, LegalStep, IsLegalDeed, IsServed, UnusedIsIdle, IsLegal}
use Rattle.run_model.specs.Moment.{Setting, Moment, Transition, Begins, Enters, Steps, Happens, Resets, after, after_step, after_all}
use Rattle.run_model.specs.declared.item.Stepped.{Stepped}
use Rattle.trace_reader.specs.Told.{mark_of}
use Rattle.trace_drawing.specs.signs.Drawing.{is_on_chip}
use Rattle.trace_promises.specs.traces.Lines.{HasLines}
use Rattle.trace_promises.proofs.Telling.{end_count}

-- a handler serves a line of the chip
abbrev pub OriginOnChip : {Call : Type 0} → Origin Call → Type 0
OriginOnChip (Called c) = Unit {0}
OriginOnChip (Entered l) = l < 32

abbrev pub OnChip : {Call : Type 0} → List (Open Call) → Type 0
OnChip [] = Unit {0}
OnChip (o ∷ os) = OriginOnChip o.origin × OnChip os

-- ---- nothing keeps a beginning off

free_by : (a b c d e : Bool) → first_cause a b c d e ≡ None → (a ≡ false) × (d ≡ false) × (e ≡ false)
free_by true b c d e h = cc
free_by false true c d e h = cc
free_by false false true d e h = cc
free_by false false false true e h = cc
free_by false false false false true h = cc
free_by false false false false false h = (refl, refl, refl)

tags_counted : {Call : Type 0} (os : List (Open Call)) → length (tags_of os) ≡ length os
tags_counted [] = refl
tags_counted (o ∷ os) = ap (λ (n : ℕ). suc n) (tags_counted os)

below_eight : (n : ℕ) → not (nat_lt n 8) ≡ false → n < 8
below_eight n h = grind (arith, nat_tests)

room_for : {Call : Type 0} (os : List (Open Call)) → is_full (tags_of os) ≡ false → length os < 8
room_for os h = subst (λ (n : ℕ). n < 8) (tags_counted os) (below_eight (length (tags_of os)) h)

module _ {State Call : Type 0} (g : Setting State Call) where
  pub call_room : (m : Moment State Call) (c : Call) (level : ℕ) → call_cause (is_masked m.chip) (tags_of m.opens) (top_noted m.opens) (g.class_of c) level ≡ None → length m.opens < 8
  call_room m c level h =
      room_for m.opens (free_by (is_masked m.chip) (not (call_level_allows (tags_of m.opens) (top_noted m.opens) level)) (not (may_reenter (g.class_of c) (tags_of m.opens))) false (is_full (tags_of m.opens)) h).2

  pub line_room : (m : Moment State Call) (l : ℕ) → line_cause (is_masked m.chip) (tags_of m.opens) (g.level_of l) (is_pending m.chip l) ≡ None → length m.opens < 8
  line_room m l h = room_for m.opens (free_by (is_masked m.chip) (not (line_level_allows (tags_of m.opens) (g.level_of l))) false (not (is_pending m.chip l)) (is_full (tags_of m.opens)) h).2

  -- a line whose handler begins is used
  used_by : (m : Moment State Call) (l : ℕ) (b : Bool) → g.used l ≡ b → UnusedIsIdle g m → is_masked m.chip ≡ false → is_pending m.chip l ≡ true → b ≡ true
  used_by m l true e h free there = refl
  used_by m l false e h free there = let idle = h free l e in cc

  pub line_used : (m : Moment State Call) (l : ℕ) → IsServed g m → line_cause (is_masked m.chip) (tags_of m.opens) (g.level_of l) (is_pending m.chip l) ≡ None → g.used l ≡ true
  line_used m l served h =
      let free = free_by (is_masked m.chip) (not (line_level_allows (tags_of m.opens) (g.level_of l))) false (not (is_pending m.chip l)) (is_full (tags_of m.opens)) h in
      used_by m l (g.used l) refl served.unused free.0 (not-false (is_pending m.chip l) free.1)

  -- ---- a step

  is_line : (n : ℕ) → n < 32 → nat_lt n 32 ≡ true
  is_line n h = grind (arith, nat_tests)

  served_line : HasLines g → (m : Moment State Call) (o : Open Call) (k : ℕ) (origin : Origin Call) → OriginOnChip origin → IsOwnEvent g.machine m.world m.state o (events.Serve k) origin → k < 32
  served_line lines m o k (Called c) chip own = lines.polled m.world m.state c k own.0.0
  served_line lines m o k (Entered l) chip own = rw own.0 chip

  marked : HasLines g → (m : Moment State Call) (o : Open Call) (s : Stepped) (e : Option Event) → OriginOnChip o.origin → EventRight g m o s e → is_on_chip (option_map mark_of e) ≡ true
  marked lines m o s None chip h = refl
  marked lines m o s (Some events.Act) chip h = refl
  marked lines m o s (Some (events.Serve k)) chip h = is_line k (served_line lines m o k o.origin chip h.0)
  marked lines m o s (Some (events.Abort u)) chip h = refl
  marked lines m o s (Some (events.Start u)) chip h = refl

  -- What a legal step is to the frames.
  pub record StepIs (m : Moment State Call) (s : Stepped) : Type 0 where
    pub some : 0 < length m.opens
    pub count : length (after g m (Steps s)).opens ≡ end_count (length m.opens) s.ended
    pub chip : OnChip (after g m (Steps s)).opens
    pub mark : is_on_chip (option_map mark_of s.event) ≡ true
    pub stays : resets_chip s.made ≡ true → s.ended ≡ None

  top_count : (x : Open Call) (o : Open Call) (os : List (Open Call)) (ended : Option Answer) → length (top_after x ended os) ≡ end_count (length (o ∷ os)) ended
  top_count x o os None = refl
  top_count x o os (Some answer) = omega arith

  top_chip : (x : Open Call) (os : List (Open Call)) (ended : Option Answer) → OriginOnChip x.origin → OnChip os → OnChip (top_after x ended os)
  top_chip x os None h k = (h, k)
  top_chip x os (Some answer) h k = k

  step_by : HasLines g → (m : Moment State Call) (os : List (Open Call)) (s : Stepped) → m.opens ≡ os → OnChip os → LegalStep g m os s → StepIs m s
  step_by lines m [] s e chip h = absurd h
  step_by lines m (o ∷ os) s e chip h =
      let x = open_after g.machine m.world m.state o s.made s.received s.event in
      let opens : (after g m (Steps s)).opens ≡ top_after x s.ended os = ap (λ (ys : List (Open Call)). (after_step g m ys s).opens) e in
      record {
        some = rw e (omega arith);
        count = ap length opens ∙ (top_count x o os s.ended ∙ ap (λ (ys : List (Open Call)). end_count (length ys) s.ended) (sym e));
        chip = subst (λ (ys : List (Open Call)). OnChip ys) (sym opens) (top_chip x os s.ended chip.0 chip.1);
        mark = marked lines m o s s.event chip.0 h.event;
        stays = h.stays;
      }

  pub step_is : HasLines g → (m : Moment State Call) (s : Stepped) → OnChip m.opens → LegalStep g m m.opens s → StepIs m s
  step_is lines m s chip h = step_by lines m m.opens s refl chip h

  -- ---- all deeds

  deed_chip : HasLines g → (m : Moment State Call) (d : Transition Call) → OnChip m.opens → IsServed g m → IsLegalDeed g m d → OnChip (after g m d).opens
  deed_chip lines m (Begins c level) chip served h = (tt, chip)
  deed_chip lines m (Enters l) chip served h = (lines.used l (line_used m l served h), chip)
  deed_chip lines m (Steps s) chip served h = (step_is lines m s chip h).chip
  deed_chip lines m (Happens order) chip served h = chip
  deed_chip lines m (Resets reason) chip served h = tt

  pub all_chip : HasLines g → (m : Moment State Call) (ds more : List (Transition Call)) → OnChip m.opens → IsLegal g m (ds ++ more) → OnChip (after_all g m ds).opens
  all_chip lines m [] more chip h = chip
  all_chip lines m (d ∷ ds) more chip h = all_chip lines (after g m d) ds more (deed_chip lines m d chip h.0 h.2) h.3

  pub legal_behind : (m : Moment State Call) (ds more : List (Transition Call)) → IsLegal g m (ds ++ more) → IsLegal g (after_all g m ds) more
  legal_behind m [] more h = h
  legal_behind m (d ∷ ds) more h = legal_behind (after g m d) ds more h.3

  -- the moment before deeds of a legal run
  pub served : (m : Moment State Call) (ds : List (Transition Call)) → IsLegal g m ds → IsServed g m
  served m [] h = h
  served m (d ∷ ds) h = h.0
