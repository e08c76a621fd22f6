-- The driver keeps the laws of a guest, whatever host has it.
use Rattle.std.proofs.Common.{◌≡◌, ℕ, zero, suc, ◌+◌, ◌*◌, ◌/◌, ◌%◌, ◌^◌, ◌<◌, ◌≤◌, ◌==◌, nat_lt, Bool, true, false, ◌&&◌, ◌||◌, List, [], ◌∷◌, Option, Some, None, refl, sym, ◌∙◌, ap, subst, arith}
use Rattle.std.specs.Prelude.{if◌then◌else◌, bit_and, is_some, not, slice_index_or}
use Rattle.std.proofs.lemmas.Bool.Decides.{nat_tests}
use Rattle.mcal_base.specs.facts.Truths.{and_first}
use Rattle.mcal_base.proofs.BitLaws.{has_bit-bits_of}
use Rattle.mcal_base.specs.Bits.{bit_of, bits_of, has_bit}
use Rattle.mcal_base.specs.Reach.{CanApply}
use Rattle.mcal_base.specs.declared.answer.Answer.{Answer}
use Rattle.mcal_base.specs.declared.error_name.ErrorName.{ErrorName}
use Rattle.mcal_base.specs.declared.moves.DevError.{DevError}
use Rattle.mcal_base.specs.declared.moves.Event.TheVariants.{Act}
use Rattle.mcal_base.specs.declared.moves.Move.{Move}
use Rattle.mcal_base.specs.declared.moves.Move.TheVariants.{Read, Write, Load}
use Rattle.mcal_base.specs.declared.register.Reg.TheVariants.{PortLevels, PortPut, PinFlip}
use Rattle.chip_model.specs.Chip.{Chip, chip_after, value_of, pin_of, port_of as chip_port, flipped}
use Rattle.chip_model.specs.declared.wiring.Wiring.{Wiring}
use Rattle.run_model.specs.declared.class.Tag.{Tag}
use Rattle.run_model.specs.Frame.{ActedAt, Open, Called, opened, acts_after, committed_after, missed_after, owing, reads_after, since_after, window_after, is_reset_service, is_shared, report_of as reported_of}
use Rattle.run_model.specs.Legal.{SendsRight, WritesNothing, ErrorsRight, MadeUnless, HasMade, is_beside}
use Rattle.run_model.specs.Machine.{ErrorLeaves, Outcome, no_answer, number}
use Rattle.run_model.specs.Moment.{call_tag}
use Rattle.run_model.specs.World.{World}
use Rattle.step_runner.specs.Driver.{KeepsStep, stepped}
use Rattle.service_outline.specs.laws.StepKinds.{or_true}
use Rattle.service_outline.specs.guests.Guest.{lone_machine, lone_setting, lone_driver, StandsOn, IsGuest}
use Rattle.module_machines.specs.dio.Values.{level_answer, moved_down, word_of, moved_up}
use Rattle.dio_driver.specs.Accesses.{access_of, move_of}
use Rattle.module_machines.specs.dio.Checks.{error_of, service_of}
use Rattle.dio_driver.specs.Frames.{report_by, report_of, frame_of, frame_by, dio_move, dio_left, dio_gave, dio_fuel, DioStands, Known, Unknown, Told}
use Rattle.dio_driver.specs.Guest.{dio_may, state_after, SeesPins, dio}
use Rattle.module_machines.specs.dio.Machine.{HostPins, port_value, tells_value, puts_value, work, does, does_by}
use Rattle.module_machines.specs.dio.Table.{has_pin, channel_pins, channel_of, some_pins, configured, those_configured, pins_of, FitsDio}
use Rattle.dio_driver.specs.declared.access.Access.{Access}
use Rattle.dio_driver.specs.declared.access.Access.TheVariants.{Level, Flip, Levels, Put}
use Rattle.module_machines.specs.declared.dio.table.PortPins.{PortPins}
use Rattle.module_machines.specs.declared.dio.call.Call.{Call}
use Rattle.module_machines.specs.declared.dio.call.Call.TheVariants.{ReadChannel, WriteChannel, FlipChannel, ReadPort, WritePort, ReadChannelGroup, WriteChannelGroup}
use Rattle.module_machines.specs.declared.dio.table.DioTable.{DioTable}
use Rattle.dio_driver.specs.declared.frame.DioFrame.{DioFrame}
use Rattle.dio_driver.specs.declared.frame.DioFrame.TheVariants.{Refused, Telling}
use Rattle.dio_driver.specs.declared.frame.DioFrame.TheVariants as frames
use Rattle.dio_driver.specs.declared.frame.TheConstants.{NOWHERE}

-- ---- what is configured is there

pin_few : (d : DioTable) (p : ℕ) (pins : PortPins) (q : Bool) → has_pin d p ≡ q → (if q then Some (channel_pins p) else None) ≡ Some pins → (p < 64) × (channel_pins p ≡ pins)
pin_few d p pins true e is =
    let low = and_first (nat_lt p 64) _ e in
    (grind (arith, nat_tests), cc)
pin_few d p pins false e is = absurd (cc)

channel_few : (d : DioTable) (p : ℕ) (pins : PortPins) → channel_of d p ≡ Some pins → (p < 64) × (channel_pins p ≡ pins)
channel_few d p pins is = pin_few d p pins (has_pin d p) refl is

mask_by : (q mask : ℕ) (pins : PortPins) (none : Bool) → (if none then None else Some (record { port = q; mask = mask; offset = 0 })) ≡ Some pins → pins.port ≡ q
mask_by q mask pins true is = absurd (cc)
mask_by q mask pins false is = let at : record { port = q; mask = mask; offset = 0 } ≡ pins = cc in sym (ap (λ (x : PortPins). x.port) at)

port_few : (d : DioTable) (q : ℕ) (pins : PortPins) (low : Bool) → nat_lt q 8 ≡ low → (if low then some_pins q (configured d q) else None) ≡ Some pins → pins.port < 8
port_few d q pins true e is = let lt : q < 8 = grind (arith, nat_tests) in subst (λ n. n < 8) (sym (mask_by q (configured d q) pins (configured d q == 0) is)) lt
port_few d q pins false e is = absurd (cc)

channel_port : (d : DioTable) (p : ℕ) (pins : PortPins) → channel_of d p ≡ Some pins → pins.port < 8
channel_port d p pins is =
    let k = channel_few d p pins is in
    let lt = k.0 in
    subst (λ (x : PortPins). x.port < 8) k.1 (omega (arith, lt))

-- the configured pins of a group are of the group's port
those_few : (d : DioTable) (x : Option PortPins) (pins : PortPins) → ((k : PortPins) → x ≡ Some k → k.port < 8) → those_configured d x ≡ Some pins → pins.port < 8
those_few d None pins few is = absurd (cc)
those_few d (Some k) pins few is =
    let at : record { port = k.port; mask = bit_and k.mask (configured d k.port); offset = k.offset } ≡ pins = cc in
    subst (λ (x : PortPins). x.port < 8) at (few k refl)

group_few : (d : DioTable) → FitsDio d → (g : ℕ) (pins : PortPins) (low : Bool) → nat_lt g 8 ≡ low → (if low then those_configured d (slice_index_or d.groups g None) else None) ≡ Some pins → pins.port < 8
group_few d fits g pins true e is = those_few d (slice_index_or d.groups g None) pins (λ k on. fits.port g k (grind (arith, nat_tests)) on) is
group_few d fits g pins false e is = absurd (cc)

ports_few : (d : DioTable) → FitsDio d → (c : Call) (pins : PortPins) → pins_of d c ≡ Some pins → pins.port < 8
ports_few d fits (ReadChannel p) pins is = channel_port d p pins is
ports_few d fits (WriteChannel p high) pins is = channel_port d p pins is
ports_few d fits (FlipChannel p) pins is = channel_port d p pins is
ports_few d fits (ReadPort q) pins is = port_few d q pins (nat_lt q 8) refl is
ports_few d fits (WritePort q value) pins is = port_few d q pins (nat_lt q 8) refl is
ports_few d fits (ReadChannelGroup g) pins is = group_few d fits g pins (nat_lt g 8) refl is
ports_few d fits (WriteChannelGroup g value) pins is = group_few d fits g pins (nat_lt g 8) refl is

low_port : (q : ℕ) → q < 8 → nat_lt q 8 ≡ true
low_port q lt = grind (arith, nat_tests)

low_pin : (p : ℕ) → p < 64 → nat_lt p 64 ≡ true
low_pin p lt = grind (arith, nat_tests)

-- ---- values

-- tests that give the same give the same value
same_bits : (f g : ℕ → Bool) (n : ℕ) → ((k : ℕ) → k < n → f k ≡ g k) → bits_of f n ≡ bits_of g n
unfolding bits_of
same_bits f g zero same = refl
same_bits f g (suc n) same =
    ap (λ b. bit_of b * 2 ^ n + bits_of f n) (same n (omega arith))
    ∙ ap (λ v. bit_of (g n) * 2 ^ n + v) (same_bits f g n (λ k lt. same k (omega (arith, lt))))

place_of : (p : ℕ) → 8 * (p / 8) + p % 8 ≡ p
place_of p = omega arith

is_one : (b : Bool) → (bit_of b == 1) ≡ b
is_one true = refl
is_one false = refl

module _ {State : Type 0} (h : HostPins State) (chip : Chip) (w : World) (s : State) (sees : SeesPins h chip w s) where
  -- a port's value is that of the host's levels
  port_same : (q : ℕ) → q < 8 → chip_port chip q ≡ port_value h w s q
  port_same q lt = same_bits (λ k. pin_of chip (8 * q + k)) (λ k. h.level w s (8 * q + k)) 8 (λ k few. sees.levels (8 * q + k) (omega (arith, lt, few)))

  -- a pin's bit in it is its level
  level_same : (p : ℕ) → p < 64 → level_answer (h.level w s p) ≡ level_answer (has_bit (chip_port chip (p / 8)) (p % 8))
  level_same p lt = ap level_answer (sym (
      has_bit-bits_of (λ k. pin_of chip (8 * (p / 8) + k)) 8 (p % 8) (omega arith)
      ∙ (ap (λ n. pin_of chip n) (place_of p) ∙ sees.levels p lt)))

  -- a flip gives the level after it
  flip_same : (p : ℕ) → p < 64 → level_answer (h.level w (h.flip p s) p) ≡ level_answer (bit_of (pin_of (flipped chip p) p) == 1)
  flip_same p lt = ap level_answer (sym (is_one (pin_of (flipped chip p) p) ∙ sees.flips p lt))

-- ---- errors

-- no call resets the chip
never_reset : (c : Call) (e : Option ErrorName) → false ≡ is_reset_service (service_of c) && not (is_some e)
never_reset (ReadChannel p) e = refl
never_reset (WriteChannel p high) e = refl
never_reset (FlipChannel p) e = refl
never_reset (ReadPort q) e = refl
never_reset (WritePort q value) e = refl
never_reset (ReadChannelGroup g) e = refl
never_reset (WriteChannelGroup g value) e = refl

-- and none commits or idles an output
never_beside : (c : Call) (q word : ℕ) → is_beside (service_of c) (Write (PortPut q) word) ≡ false
never_beside (ReadChannel p) q word = refl
never_beside (WriteChannel p high) q word = refl
never_beside (FlipChannel p) q word = refl
never_beside (ReadPort r) q word = refl
never_beside (WritePort r value) q word = refl
never_beside (ReadChannelGroup g) q word = refl
never_beside (WriteChannelGroup g value) q word = refl

-- a frame that wrote nothing is right by whatever error it found, and owes no write
errors_right : (at : Option ActedAt) → ErrorsRight false at
errors_right None = tt
errors_right (Some at) = by at.error
  where
    by : (e : Option ErrorName) → WritesNothing false e
    by None = tt
    by (Some e) = refl

module _ {State : Type 0} (d : DioTable) (h : HostPins State) (wired : Wiring → Type 0) (fits : FitsDio d) where
  owes_none : (s : State) (c : Call) (writes : List Move) (at : Option ActedAt) → HasMade (lone_setting (dio d h wired) s) (Called c) writes at
  owes_none s c writes None = tt
  owes_none s c writes (Some at) = by at.error
    where
      by : (e : Option ErrorName) → MadeUnless e [] writes
      by None = refl
      by (Some e) = tt

  -- the report of an error is the one by the rule of reports
  same_report : (c : Call) (e : Option ErrorName) → reported_of (lone_machine (dio d h wired)) c e ≡ report_by d c e
  same_report c None = refl
  same_report c (Some e) = refl

  abbrev Steps : Chip → World → DioFrame → Open Call → State → (received : ℕ) → Type 0
  Steps chip w f o s received = let made = dio_move f in let value = value_of chip made in let taken = dio_gave f value in KeepsStep (lone_driver (dio d h wired) s) (record { chip = chip; world = w; state = s; opens = []; steps = 0 }) f o (dio_left f value) (stepped made value received taken) (λ s1 o1. (s1 ≡ state_after h made s) × StandsOn (dio d h wired) (dio_left f value) o1 taken.ended)

  -- ---- the access

  module _ (chip : Chip) (w : World) (s : State) (received : ℕ) (tag : Tag) where
    -- what a call's act gives: this answer and nothing else, and the state that this move makes
    record Gives (c : Call) (made : Move) (a : Answer) : Type 0 where
      begins : (does h d w s c).begins ≡ None
      error : (does h d w s c).told.error ≡ None
      notices : (does h d w s c).told.notices ≡ []
      answer : (does h d w s c).told.answer ≡ a
      state : (does h d w s c).state ≡ state_after h made s

    gives : (c : Call) (pins : PortPins) (made : Move) (a : Answer) → pins_of d c ≡ Some pins → (work h w s c pins).begins ≡ None → (work h w s c pins).told.error ≡ None → (work h w s c pins).told.notices ≡ [] → (work h w s c pins).told.answer ≡ a → (work h w s c pins).state ≡ state_after h made s → Gives c made a
    gives c pins made a is begins error notices answer state =
        let e : does h d w s c ≡ work h w s c pins = ap (does_by h w s c) is in
        record {
          begins = ap (λ (x : Outcome State). x.begins) e ∙ begins;
          error = ap (λ (x : Outcome State). x.told.error) e ∙ error;
          notices = ap (λ (x : Outcome State). x.told.notices) e ∙ notices;
          answer = ap (λ (x : Outcome State). x.told.answer) e ∙ answer;
          state = ap (λ (x : Outcome State). x.state) e ∙ state;
        }

    -- so a step that makes the move and ends with the answer is right
    abbrev Right : Call → Access → Move → (value : ℕ) → Answer → Type 0
    Right c x made value a = KeepsStep (lone_driver (dio d h wired) s) (record { chip = chip; world = w; state = s; opens = []; steps = 0 }) (frames.Access x) (opened (Called c) tag) (frames.Access x) (stepped made value received (record { event = Some Act; ended = Some a })) (λ s1 o1. (s1 ≡ state_after h made s) × Unit {0})

    levels_right : (c : Call) (x : Access) (q value : ℕ) (a : Answer) → q < 8 → Gives c (Read (PortLevels q)) a → Right c x (Read (PortLevels q)) value a
    levels_right c x q value a lt g = record {
      event = (refl, tt, refl);
      sends = subst (λ b. SendsRight chip b (Read (PortLevels q))) (sym g.begins) tt;
      halves = tt;
      together = tt;
      errors = errors_right (Some (record { made = Read (PortLevels q); inside = false; error = (does h d w s c).told.error }));
      move = tt;
      shows = tt;
      ends = ((ap Some g.answer, refl), ap (λ ns. owing false ns) g.notices, ap (reported_of (lone_machine (dio d h wired)) c) g.error, refl, refl);
      starts = refl;
      writes = owes_none s c [] (Some (record { made = Read (PortLevels q); inside = false; error = (does h d w s c).told.error }));
      own = low_port q lt;
      reset = never_reset c (does h d w s c).told.error;
      stays = λ e. cc;
      fuel = omega arith;
      room = λ e. cc;
      kept = (g.state, tt);
    }

    flip_right : (c : Call) (x : Access) (p value : ℕ) (a : Answer) → p < 64 → Gives c (Read (PinFlip p)) a → Right c x (Read (PinFlip p)) value a
    flip_right c x p value a lt g = record {
      event = (refl, tt, refl);
      sends = subst (λ b. SendsRight chip b (Read (PinFlip p))) (sym g.begins) tt;
      halves = tt;
      together = tt;
      errors = errors_right (Some (record { made = Read (PinFlip p); inside = false; error = (does h d w s c).told.error }));
      move = tt;
      shows = tt;
      ends = ((ap Some g.answer, refl), ap (λ ns. owing false ns) g.notices, ap (reported_of (lone_machine (dio d h wired)) c) g.error, refl, refl);
      starts = refl;
      writes = owes_none s c [] (Some (record { made = Read (PinFlip p); inside = false; error = (does h d w s c).told.error }));
      own = low_pin p lt;
      reset = never_reset c (does h d w s c).told.error;
      stays = λ e. cc;
      fuel = omega arith;
      room = λ e. cc;
      kept = (g.state, tt);
    }

    put_right : (c : Call) (x : Access) (q word value : ℕ) (a : Answer) → q < 8 → Gives c (Write (PortPut q) word) a → Right c x (Write (PortPut q) word) value a
    put_right c x q word value a lt g = record {
      event = (refl, tt, refl);
      sends = subst (λ b. SendsRight chip b (Write (PortPut q) word)) (sym g.begins) tt;
      halves = tt;
      together = λ e. let none = never_beside c q word in absurd (cc);
      errors = subst (λ e. WritesNothing true e) (sym g.error) tt;
      move = tt;
      shows = tt;
      ends = ((ap Some g.answer, refl), ap (λ ns. owing false ns) g.notices, ap (reported_of (lone_machine (dio d h wired)) c) g.error, refl, refl);
      starts = refl;
      writes = owes_none s c (Write (PortPut q) word ∷ []) (Some (record { made = Write (PortPut q) word; inside = false; error = (does h d w s c).told.error }));
      own = low_port q lt;
      reset = never_reset c (does h d w s c).told.error;
      stays = λ e. cc;
      fuel = omega arith;
      room = λ e. cc;
      kept = (g.state, tt);
    }

    -- the access of each call
    puts : (c : Call) (pins : PortPins) (value : ℕ) → pins_of d c ≡ Some pins → work h w s c pins ≡ puts_value h s pins value → Right c (Put pins (moved_up pins value)) (Write (PortPut pins.port) (word_of pins (moved_up pins value))) 0 no_answer
    puts c pins value is e =
        put_right c (Put pins (moved_up pins value)) pins.port (word_of pins (moved_up pins value)) 0 no_answer (ports_few d fits c pins is)
        (gives c pins (Write (PortPut pins.port) (word_of pins (moved_up pins value))) no_answer is (ap (λ (x : Outcome State). x.begins) e) (ap (λ (x : Outcome State). x.told.error) e) (ap (λ (x : Outcome State). x.told.notices) e) (ap (λ (x : Outcome State). x.told.answer) e) (ap (λ (x : Outcome State). x.state) e))

    reads : (c : Call) (pins : PortPins) → SeesPins h chip w s → pins_of d c ≡ Some pins → work h w s c pins ≡ tells_value h w s pins → Right c (Levels pins) (Read (PortLevels pins.port)) (chip_port chip pins.port) (number (moved_down pins (chip_port chip pins.port)))
    reads c pins sees is e =
        let few = ports_few d fits c pins is in
        let same : (tells_value h w s pins).told.answer ≡ number (moved_down pins (chip_port chip pins.port)) = ap (λ v. number (moved_down pins v)) (sym (port_same h chip w s sees pins.port few)) in
        levels_right c (Levels pins) pins.port (chip_port chip pins.port) (number (moved_down pins (chip_port chip pins.port))) few
        (gives c pins (Read (PortLevels pins.port)) (number (moved_down pins (chip_port chip pins.port))) is (ap (λ (x : Outcome State). x.begins) e) (ap (λ (x : Outcome State). x.told.error) e) (ap (λ (x : Outcome State). x.told.notices) e) (ap (λ (x : Outcome State). x.told.answer) e ∙ same) (ap (λ (x : Outcome State). x.state) e))

    right : (c : Call) (pins : PortPins) → SeesPins h chip w s → pins_of d c ≡ Some pins → Steps chip w (frames.Access (access_of c pins)) (opened (Called c) tag) s received
    right (ReadChannel p) pins sees is =
        let few = (channel_few d p pins is).0 in
        levels_right (ReadChannel p) (Level p) (p / 8) (chip_port chip (p / 8)) (level_answer (has_bit (chip_port chip (p / 8)) (p % 8))) (omega (arith, few))
        (gives (ReadChannel p) pins (Read (PortLevels (p / 8))) (level_answer (has_bit (chip_port chip (p / 8)) (p % 8))) is refl refl refl (level_same h chip w s sees p few) refl)
    right (FlipChannel p) pins sees is =
        let few = (channel_few d p pins is).0 in
        let value = bit_of (pin_of (flipped chip p) p) in
        flip_right (FlipChannel p) (Flip p) p value (level_answer (value == 1)) few
        (gives (FlipChannel p) pins (Read (PinFlip p)) (level_answer (value == 1)) is refl refl refl (flip_same h chip w s sees p few) refl)
    right (WriteChannel p high) pins sees is = puts (WriteChannel p high) pins (bit_of high) is refl
    right (WritePort q value) pins sees is = puts (WritePort q value) pins value is refl
    right (WriteChannelGroup g value) pins sees is = puts (WriteChannelGroup g value) pins value is refl
    right (ReadPort q) pins sees is = reads (ReadPort q) pins sees is refl
    right (ReadChannelGroup g) pins sees is = reads (ReadChannelGroup g) pins sees is refl

    -- ---- an error

    -- what comes of it, and the frame after an act that gives this
    abbrev refusal : Call → Outcome State
    refusal c = does_by h w s c None

    abbrev acted : Call → Outcome State → Open Call
    acted c x = record (opened (Called c) tag) {
      acted = Some x.told.answer;
      acted_at = Some (record { made = Load NOWHERE; inside = false; error = x.told.error });
      missed = missed_after (lone_machine (dio d h wired)) w s (λ l. false);
      committed = committed_after w (λ k. None) (Load NOWHERE);
      reads = reads_after [] (Load NOWHERE);
      owed = owing false x.told.notices;
      report = reported_of (lone_machine (dio d h wired)) c x.told.error;
      since = since_after [] (Load NOWHERE);
      acts_since = acts_after false (Load NOWHERE) (Some Act);
      steps = 1;
      window = window_after false 0 (Load NOWHERE);
    }

    -- it has the error to report
    telling : (c : Call) (e : DevError) (x : Outcome State) → report_of d c ≡ Some e → x ≡ refusal c → DioStands d (Telling c e) (acted c x)
    telling c e x is out =
        subst (λ y. DioStands d (Telling c e) (acted c y)) (sym out)
        (subst (λ r. DioStands d (Telling c e) (record (acted c (refusal c)) { report = r })) (sym (same_report c (error_of c) ∙ is)) (Told c e (acted c (refusal c))))

    told : (c : Call) → pins_of d c ≡ None → (report : Option DevError) → report_of d c ≡ report → Steps chip w (Refused c report) (opened (Called c) tag) s received
    told c none None is =
        let out : does h d w s c ≡ refusal c = ap (does_by h w s c) none in
        record {
          event = (refl, tt, refl);
          sends = subst (λ (x : Outcome State). SendsRight chip x.begins (Load NOWHERE)) (sym out) tt;
          halves = tt;
          together = tt;
          errors = errors_right (Some (record { made = Load NOWHERE; inside = false; error = (does h d w s c).told.error }));
          move = tt;
          shows = tt;
          ends = ((ap (λ (x : Outcome State). Some x.told.answer) out, refl), ap (λ (x : Outcome State). owing false x.told.notices) out, ap (λ (x : Outcome State). reported_of (lone_machine (dio d h wired)) c x.told.error) out ∙ (same_report c (error_of c) ∙ is), refl, refl);
          starts = refl;
          writes = owes_none s c [] (Some (record { made = Load NOWHERE; inside = false; error = (does h d w s c).told.error }));
          own = refl;
          reset = never_reset c (does h d w s c).told.error;
          stays = λ e. cc;
          fuel = omega arith;
          room = λ e. cc;
          kept = (ap (λ (x : Outcome State). x.state) out, tt);
        }
    told c none (Some e) is =
        let out : does h d w s c ≡ refusal c = ap (does_by h w s c) none in
        record {
          event = (refl, tt, refl);
          sends = subst (λ (x : Outcome State). SendsRight chip x.begins (Load NOWHERE)) (sym out) tt;
          halves = tt;
          together = tt;
          errors = errors_right (Some (record { made = Load NOWHERE; inside = false; error = (does h d w s c).told.error }));
          move = tt;
          shows = tt;
          ends = tt;
          starts = tt;
          writes = tt;
          own = refl;
          reset = never_reset c (does h d w s c).told.error;
          stays = λ e. cc;
          fuel = omega arith;
          room = λ e. cc;
          kept = (ap (λ (x : Outcome State). x.state) out, telling c e (does h d w s c) is out);
        }

  -- ---- the laws

  steps_of : (chip : Chip) (w : World) (f : DioFrame) (o : Open Call) (s : State) (received : ℕ) → DioStands d f o → SeesPins h chip w s → Steps chip w f o s received
  steps_of chip w f o s received (Known c pins tag is) sees = right chip w s received tag c pins sees is
  steps_of chip w f o s received (Unknown c report tag none is) sees = told chip w s received tag c none report is
  steps_of chip w f o s received (Told c e was) sees = record {
    event = tt;
    sends = tt;
    halves = tt;
    together = tt;
    errors = errors_right was.acted_at;
    move = refl;
    shows = tt;
    ends = ((refl, refl), refl, refl, refl, refl);
    starts = refl;
    writes = owes_none s c was.writes was.acted_at;
    own = refl;
    reset = refl;
    stays = λ e. cc;
    fuel = omega arith;
    room = λ e. cc;
    kept = (refl, tt);
  }

  begins_of : (s : State) (c : Call) (level : ℕ) → DioStands d (frame_of d c) (opened (Called c) (call_tag (lone_setting (dio d h wired) s) c level))
  begins_of s c level = by (pins_of d c) refl
    where
      by : (x : Option PortPins) → pins_of d c ≡ x → DioStands d (frame_by d c x) (opened (Called c) (call_tag (lone_setting (dio d h wired) s) c level))
      by None is = Unknown c (report_of d c) _ is refl
      by (Some pins) is = Known c pins _ is

  -- the register of an access is there
  access_there : (c : Call) (pins : PortPins) → pins_of d c ≡ Some pins → CanApply (move_of (access_of c pins)) × (dio_may (move_of (access_of c pins)) ≡ true)
  access_there (ReadChannel p) pins is = let few = (channel_few d p pins is).0 in let low : p / 8 < 8 = omega (arith, few) in (low, low_port (p / 8) low)
  access_there (WriteChannel p high) pins is = let few = ports_few d fits (WriteChannel p high) pins is in (few, low_port pins.port few)
  access_there (FlipChannel p) pins is = let few = (channel_few d p pins is).0 in (few, low_pin p few)
  access_there (ReadPort q) pins is = let few = ports_few d fits (ReadPort q) pins is in (few, low_port pins.port few)
  access_there (WritePort q value) pins is = let few = ports_few d fits (WritePort q value) pins is in (few, low_port pins.port few)
  access_there (ReadChannelGroup g) pins is = let few = ports_few d fits (ReadChannelGroup g) pins is in (few, low_port pins.port few)
  access_there (WriteChannelGroup g value) pins is = let few = ports_few d fits (WriteChannelGroup g value) pins is in (few, low_port pins.port few)

  there_of : (f : DioFrame) (o : Open Call) → DioStands d f o → CanApply (dio_move f)
  there_of f o (Known c pins tag is) = (access_there c pins is).0
  there_of f o (Unknown c report tag none is) = omega arith
  there_of f o (Told c e was) = tt

  own_of : (f : DioFrame) (o : Open Call) → DioStands d f o → is_shared (dio_move f) || dio_may (dio_move f) ≡ true
  own_of f o (Known c pins tag is) = or_true (is_shared (move_of (access_of c pins))) (access_there c pins is).1
  own_of f o (Unknown c report tag none is) = refl
  own_of f o (Told c e was) = refl

  unmasked_of : (f : DioFrame) (o : Open Call) → DioStands d f o → o.inside ≡ false
  unmasked_of f o (Known c pins tag is) = refl
  unmasked_of f o (Unknown c report tag none is) = refl
  unmasked_of f o (Told c e was) = refl

  lasts_of : (f : DioFrame) → 0 < dio_fuel f
  lasts_of (frames.Access a) = omega arith
  lasts_of (Refused c report) = omega arith
  lasts_of (Telling c e) = omega arith

  changes_by : (w : World) (s : State) (c : Call) (x : Option PortPins) → (made : Move) × ((does_by h w s c x).state ≡ state_after h made s)
  changes_by w s c None = (Load NOWHERE, refl)
  changes_by w s (ReadChannel p) (Some pins) = (Load NOWHERE, refl)
  changes_by w s (FlipChannel p) (Some pins) = (Read (PinFlip p), refl)
  changes_by w s (WriteChannel p high) (Some pins) = (Write (PortPut pins.port) (word_of pins (moved_up pins (bit_of high))), refl)
  changes_by w s (ReadPort q) (Some pins) = (Load NOWHERE, refl)
  changes_by w s (ReadChannelGroup g) (Some pins) = (Load NOWHERE, refl)
  changes_by w s (WritePort q value) (Some pins) = (Write (PortPut pins.port) (word_of pins (moved_up pins value)), refl)
  changes_by w s (WriteChannelGroup g value) (Some pins) = (Write (PortPut pins.port) (word_of pins (moved_up pins value)), refl)

  error_by : (w : World) (s : State) (c : Call) (x : Option PortPins) → ErrorLeaves s (does_by h w s c x)
  error_by w s c None = λ some. (refl, refl)
  error_by w s (ReadChannel p) (Some pins) = λ some. absurd (cc)
  error_by w s (FlipChannel p) (Some pins) = λ some. absurd (cc)
  error_by w s (WriteChannel p high) (Some pins) = λ some. absurd (cc)
  error_by w s (ReadPort q) (Some pins) = λ some. absurd (cc)
  error_by w s (ReadChannelGroup g) (Some pins) = λ some. absurd (cc)
  error_by w s (WritePort q value) (Some pins) = λ some. absurd (cc)
  error_by w s (WriteChannelGroup g value) (Some pins) = λ some. absurd (cc)

  fuel_by : (c : Call) (x : Option PortPins) → dio_fuel (frame_by d c x) ≤ 64
  fuel_by c None = omega arith
  fuel_by c (Some pins) = omega arith

  -- ---- what its moves are

  plain_of : (made : Move) → dio_may made ≡ true → is_shared made ≡ false
  plain_of (Read r) e = refl
  plain_of (Write r v) e = refl
  plain_of (Load k) e = refl
  plain_of _ e = absurd (cc)

  steady_of : (chip : Chip) (made : Move) (received : ℕ) → dio_may made ≡ true → (chip_after chip made received).clock.rate ≡ chip.clock.rate
  steady_of chip (Read (PortLevels q)) received e = refl
  steady_of chip (Read (PinFlip p)) received e = refl
  steady_of chip (Write (PortPut q) word) received e = refl
  steady_of chip (Load k) received e = refl
  steady_of chip _ received e = absurd (cc)

  leaves_of : (made : Move) (s : State) → is_shared made ≡ true → state_after h made s ≡ s
  leaves_of (Read r) s e = absurd (cc)
  leaves_of (Write r v) s e = absurd (cc)
  leaves_of _ s e = refl

  pub dio_right : IsGuest (dio d h wired) dio_move dio_left dio_gave
  dio_right = record {
    begins = λ s c level can. begins_of s c level;
    steps = λ chip w f o s received come stands sees. steps_of chip w f o s received stands sees;
    there = there_of;
    own = own_of;
    unmasked = unmasked_of;
    lasts = lasts_of;
    plain = plain_of;
    enables_none = λ bits. refl;
    loads_none = λ value. refl;
    steady = steady_of;
    leaves = leaves_of;
    changes = λ w s c. changes_by w s c (pins_of d c);
    error_leaves = λ w s c. error_by w s c (pins_of d c);
    call_fuel = λ c can. fuel_by c (pins_of d c);
  }
