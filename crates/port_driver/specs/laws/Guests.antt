-- The driver lets a guest into its block: a word that is put to a port, and a latch that is inverted, make of the pins what the machine says, and of nothing else.
-- From RefinementRight, Halves, Lawful.
-- Used by mcal_drivers: proofs/Hosting.
use Rattle.std.proofs.Common.{◌≡◌, ◌+◌, ◌/◌, ◌%◌, ◌<◌, ◌^◌, ◌==◌, ◌&&◌, ◌||◌, [], ◌∷◌, ◌∙◌, if◌then◌else◌}
use Rattle.std.specs.Prelude.{bit_and}
use Rattle.port_driver.specs.Terms
use Terms.{all-step, AllLet, ap, arith, bit_of, blocks, Bool, Chip, chip_after, Directions, false, Fixed, has_bit}
use Terms.{HasAll, inl, inr, is_guests, is_out, IsWhole, length, Levels, List, Made, mark_of, Move, nat_tests, not, owns, pin_at, pin_of, PinFlip, PinsAgree, PinState, Port, port_setting, PortTable, PortPut, PortRepresents, PortState, rank_of, Read, refl, Reservations, services_driver, slice_index, STATE, subst, sym, true, wants, word_of, words-write, World, Write, ℕ}
use Rattle.chip_blocks.specs.units.Pins as pins
use Rattle.chip_blocks.proofs.of_units.PortLaws.{flip-in, flip-named, flip-other, put-in, put-named, put-spared}
use Rattle.run_model.specs.Causes.{guarded}
use Rattle.service_outline.specs.guests.Guest.{LetsIn}
use Rattle.service_outline.specs.guests.OutlineLaws.{KeepsAgreeing, services-let}
use Rattle.module_machines.specs.port.Bounds.{PinAgrees}
use Rattle.module_machines.specs.port.Machine.{Put, Inverted, names_pin, with_change, with_latch}
use Rattle.port_driver.specs.laws.{Halves.{length-after, put_none}, Lawful.{port, port_right}, RefinementRight.{basis_right}}
use Rattle.port_driver.specs.laws.{RefinementRight.{pins_agree, put_mode_none}}

-- ---- one pin

-- a pin of the block as before, but for its latch
abbrev Relatched : pins.Pins → List ℕ → pins.Pins
Relatched b latches = record b { latches = latches }

module _ (b : pins.Pins) (x : PinState) (p : ℕ) (low : p < 64) (size : length b.latches ≡ 2) (h : PinAgrees b p x) where
  -- after a word was put to a port
  named : (q word : ℕ) → q ≡ p / 8 → has_bit word (8 + p % 8) ≡ true → (out : Bool) → is_out x.direction ≡ out → PinAgrees (pins.put b q word) p (if out then record x { latch = has_bit word (p % 8) } else x)
  named q word at on true e = record {
    direction = h.direction;
    mode = h.mode;
    latch = subst (λ k. pins.latch (pins.put b k word) p ≡ has_bit word (p % 8)) (sym at) (put-named b p word low size (h.direction ∙ e) on);
  }
  named q word at on false e = record { direction = h.direction; mode = h.mode; latch = put-in b p q word (h.direction ∙ e) ∙ h.latch }

  put_pin : (q word : ℕ) → PinAgrees (pins.put b q word) p (if names_pin q word p then with_latch (has_bit word (p % 8)) x else x)
  put_pin q word = by (q == p / 8) refl (has_bit word (8 + p % 8)) refl
    where
      by : (i : Bool) → (q == p / 8) ≡ i → (j : Bool) → has_bit word (8 + p % 8) ≡ j → PinAgrees (pins.put b q word) p (if i && j then with_latch (has_bit word (p % 8)) x else x)
      by true e true f = named q word (grind (arith, nat_tests)) f (is_out x.direction) refl
      by true e false f = record { direction = h.direction; mode = h.mode; latch = put-spared b p q word (inr f) ∙ h.latch }
      by false e j f = record { direction = h.direction; mode = h.mode; latch = put-spared b p q word (inl (grind (arith, nat_tests))) ∙ h.latch }

  -- after a latch was inverted
  same_out : (q : ℕ) (out : Bool) → pins.is_out (if out then Relatched b (pins.inverted b.latches q) else b) p ≡ is_out x.direction
  same_out q true = h.direction
  same_out q false = h.direction

  same_mode : (q : ℕ) (out : Bool) → pins.mode (if out then Relatched b (pins.inverted b.latches q) else b) p ≡ x.mode
  same_mode q true = h.mode
  same_mode q false = h.mode

  inverted : (out : Bool) → is_out x.direction ≡ out → PinAgrees (pins.flip b p) p (if out then record x { latch = not x.latch } else x)
  inverted true e = record {
    direction = same_out p (pins.is_out b p);
    mode = same_mode p (pins.is_out b p);
    latch = flip-named b p low size (h.direction ∙ e) ∙ ap not h.latch;
  }
  inverted false e = record {
    direction = same_out p (pins.is_out b p);
    mode = same_mode p (pins.is_out b p);
    latch = flip-in b p p (h.direction ∙ e) ∙ h.latch;
  }

  flip_pin : (q : ℕ) → PinAgrees (pins.flip b q) p (if q == p then with_latch (not x.latch) x else x)
  flip_pin q = by (q == p) refl
    where
      by : (i : Bool) → (q == p) ≡ i → PinAgrees (pins.flip b q) p (if i then with_latch (not x.latch) x else x)
      by true e =
          let at : q ≡ p = grind (arith, nat_tests) in
          subst (λ k. PinAgrees (pins.flip b k) p (if is_out x.direction then record x { latch = not x.latch } else x)) (sym at) (inverted (is_out x.direction) refl)
      by false e = record {
        direction = same_out q (pins.is_out b q);
        mode = same_mode q (pins.is_out b q);
        latch = flip-other b p q (grind (arith, nat_tests)) ∙ h.latch;
      }

-- ---- all pins

-- the block stays whole
put_whole : (b : pins.Pins) (q word : ℕ) → IsWhole b → IsWhole (pins.put b q word)
put_whole b q word h =
    let chosen = pins.chosen b q (word / 256) in
    record {
      out = h.out;
      latches = length-after true (pins.ones_clear b.latches (q / 4) chosen) (q / 4) (bit_and chosen (pins.at_port q word)) ∙ (length-after false b.latches (q / 4) chosen ∙ h.latches);
      modes = h.modes;
    }

inverted_size : (hs : List ℕ) (q : ℕ) (high : Bool) → length (if high then pins.ones_clear hs (q / 32) (2 ^ (q % 32)) else pins.ones_set hs (q / 32) (2 ^ (q % 32))) ≡ length hs
inverted_size hs q true = length-after false hs (q / 32) (2 ^ (q % 32))
inverted_size hs q false = length-after true hs (q / 32) (2 ^ (q % 32))

flip_whole : (b : pins.Pins) (q : ℕ) → IsWhole b → (out : Bool) → IsWhole (if out then Relatched b (pins.inverted b.latches q) else b)
flip_whole b q h true = record { out = h.out; latches = inverted_size b.latches q (pins.bit_at b.latches q) ∙ h.latches; modes = h.modes }
flip_whole b q h false = h

-- the pins of the state after a change
pub put_agrees : (b : pins.Pins) (s : PortState) (q word : ℕ) → length b.latches ≡ 2 → PinsAgree b s → PinsAgree (pins.put b q word) (with_change s (Put q word))
put_agrees b s q word size h = λ p lt. put_pin b (pin_at s p) p lt size (h p lt) q word

pub flip_agrees : (b : pins.Pins) (s : PortState) (q : ℕ) → length b.latches ≡ 2 → PinsAgree b s → PinsAgree (pins.flip b q) (with_change s (Inverted q))
flip_agrees b s q size h = λ p lt. flip_pin b (pin_at s p) p lt size (h p lt) q

-- ---- the driver

-- what a guest's move makes of the state
abbrev pub guest_state : Move → PortState → PortState
guest_state (Write (PortPut q) word) s = with_change s (Put q word)
guest_state (Read (PinFlip p)) s = with_change s (Inverted p)
guest_state _ s = s

-- the move is a guest's, or names nothing of the module's
abbrev pub lets_in : Move → Bool
lets_in made = is_guests made || not (owns made)

module _ (d : PortTable) where
  -- where nothing is held, the pins are all that is agreed on
  agrees_by : (chip : Chip) (w : World) (s : PortState) → HasAll chip → IsWhole chip.pins → word_of chip STATE ≡ bit_of s.initialised → PinsAgree chip.pins s → PortRepresents d [] 0 chip w s
  agrees_by chip w s all whole word h = record {
    right = tt;
    all = all;
    whole = whole;
    word = word;
    latches = λ p lt. (h p lt).latch ∙ sym (put_none (wants d Levels p) p (pin_at s p).latch);
    modes = λ p lt. (h p lt).mode ∙ sym (put_mode_none (pin_of d p) (rank_of d p) (pin_at s p).mode);
    directions = λ p lt. (h p lt).direction ∙ sym (put_none (wants d Fixed p) p _ ∙ put_none (wants d Directions p) p (is_out (pin_at s p).direction));
  }

  guest_agrees : (chip : Chip) (w : World) (s : PortState) (made : Move) (received : ℕ) → is_guests made ≡ true → PortRepresents d [] 0 chip w s → PortRepresents d [] 0 (chip_after chip made received) w (guest_state made s)
  guest_agrees chip w s (Write (PortPut q) word) received mine h =
      agrees_by (chip_after chip (Write (PortPut q) word) received) w (with_change s (Put q word)) (all-step chip (Made (Write (PortPut q) word) received) tt h.all) (put_whole chip.pins q word h.whole)
      (ap (λ ws. slice_index ws STATE) (words-write chip (PortPut q) word received) ∙ h.word)
      (put_agrees chip.pins s q word h.whole.latches (pins_agree d chip w s h))
  guest_agrees chip w s (Read (PinFlip p)) received mine h =
      agrees_by (chip_after chip (Read (PinFlip p)) received) w (with_change s (Inverted p)) (all-step chip (Made (Read (PinFlip p)) received) tt h.all) (flip_whole chip.pins p h.whole (pins.is_out chip.pins p))
      h.word
      (flip_agrees chip.pins s p h.whole.latches (pins_agree d chip w s h))
  guest_agrees chip w s _ received mine h = absurd (cc)

  other_state : (made : Move) (s : PortState) → is_guests made ≡ false → guest_state made s ≡ s
  other_state (Write (PortPut q) word) s e = absurd (cc)
  other_state (Read (PinFlip p)) s e = absurd (cc)
  other_state _ s e = refl

  lets_by : (chip : Chip) (w : World) (s : PortState) (made : Move) (received : ℕ) (mine own : Bool) → is_guests made ≡ mine → owns made ≡ own → mine || not own ≡ true → PortRepresents d [] 0 chip w s → PortRepresents d [] 0 (chip_after chip made received) w (guest_state made s)
  lets_by chip w s made received true own e f lets h = guest_agrees chip w s made received e h
  lets_by chip w s made received false false e f lets h = subst (λ x. PortRepresents d [] 0 (chip_after chip made received) w x) (sym (other_state made s e)) ((basis_right d).agrees_apart [] chip w s made received (λ origin. f) h)
  lets_by chip w s made received false true e f lets h = absurd (cc)

  -- Port_Init alone holds anything, and keeps a guest off
  keeps : (held : Reservations) (chip : Chip) (w : World) (s : PortState) (made : Move) (received : ℕ) → lets_in made ≡ true → AllLet (port_setting d) (guarded Port) held → PortRepresents d held 0 chip w s → PortRepresents d held 0 (chip_after chip made received) w (guest_state made s)
  keeps [] chip w s made received lets free h = lets_by chip w s made received (is_guests made) (owns made) refl refl lets h
  keeps (x ∷ xs) chip w s made received lets free h = absurd (
      let off : blocks (guarded Port) (mark_of (port_setting d) x.by) ≡ true = ap (λ o. blocks (guarded Port) (mark_of (port_setting d) o)) h.right.0 in
      let on = free.0 in
      cc)

  pub pins_keep : KeepsAgreeing (port d) Port lets_in guest_state
  pins_keep = record {
    represents = keeps;
    count = λ made s. omega arith;
    rate = λ made s. refl;
  }

  pub pins_let : LetsIn (services_driver (port d)) Port lets_in guest_state
  pins_let = services-let (port d) (port_right d) Port lets_in guest_state pins_keep
