-- The block in time: a level that comes from outside reaches block and machine alike, whatever is under work.
-- From Parts, module_machines: icu.Channels.
-- Used by Levels.
use Rattle.std.proofs.Common.{◌≡◌, ℕ, ◌<◌, Bool, true, false, ◌||◌, ◌==◌, not, nat_lt, length, Option, Some, None, refl, sym, ◌∙◌, ap, subst, arith}
use Rattle.std.specs.Prelude.{if◌then◌else◌, slice_set}
use Rattle.std.proofs.lemmas.Bool.Decides.{nat_tests}
use Rattle.chip_blocks.specs.captures.Captures.{Captures, capture_at as chip_capture, pin_of, is_pin, channels_at, acting, caught, closed, after_edge}
use Rattle.chip_blocks.specs.declared.captures.capture.Act.TheVariants.{Catch}
use Rattle.chip_blocks.specs.declared.captures.capture.Capture as chips
use Rattle.chip_model.specs.Chip.{Chip, outside_at, is_other, levelled}
use Rattle.mcal_base.proofs.BitLaws.{get_or-at_bits, has_bit-bits_of}
use Rattle.mcal_base.specs.declared.directive.Order.TheVariants.{Level}
use Rattle.run_model.specs.World.{World}
use Rattle.run_model.specs.Outside.{StandsIn}
use Rattle.module_machines.specs.icu.Edges.{is_same}
use Rattle.icu_driver.specs.Refinement.{Lag, CaptureAgrees, BlockAgrees, WiredAs, FitsIcu, pin_by}
use Rattle.module_machines.specs.icu.Machine.{IcuState, Capture, capture_at, by_channel, edge_at_pin, edge_taken, moved}
use Rattle.module_machines.specs.icu.Table.{channel_of}
use Rattle.module_machines.specs.declared.icu.table.Channel.{Channel}
use Rattle.module_machines.specs.declared.icu.table.IcuTable.{IcuTable}
use Rattle.icu_driver.specs.laws.Parts.{edge_agrees}
use Rattle.module_machines.specs.icu.laws.Channels.{by_channel_at}

-- a channel of the block after an edge
caught_at : (b : Captures) (pin c : ℕ) (rising : Bool) → length b.captures ≡ 8 → c < 8 → chip_capture (after_edge b pin rising) c ≡ (if is_pin (pin_of b c) pin then caught b.time rising (chip_capture b c) else chip_capture b c)
caught_at b pin c rising size lt =
    let within : c < length b.captures = omega (arith, size, lt) in
    get_or-at_bits (λ _. acting (Catch rising) b.time) (channels_at b pin) b.captures c closed within ∙ ap (λ q. if q then caught b.time rising (chip_capture b c) else chip_capture b c) (has_bit-bits_of (λ k. is_pin (pin_of b k) pin) 8 c lt)

-- one channel, where the edge comes to it or not
pin_agrees : (k : Option Channel) (g q n on moded : Bool) (time pin : ℕ) (rising : Bool) (b : chips.Capture) (x : Capture) → CaptureAgrees k g q n on moded b x → CaptureAgrees k g q n on moded (if is_pin (pin_by k) pin then caught time rising b else b) (edge_at_pin k time pin rising x)
pin_agrees None g q n on moded time pin rising b x h = h
pin_agrees (Some k) g q n on moded time pin rising b x h = by_pin (k.pin == pin)
  where
    by_pin : (r : Bool) → CaptureAgrees (Some k) g q n on moded (if r then caught time rising b else b) (if r then edge_taken k time rising x else x)
    by_pin true = edge_agrees k g q n on moded time rising b x h
    by_pin false = h

-- all channels
pub edge_block : (d : IcuTable) (gap : Lag) (b : Captures) (s : IcuState) (pin : ℕ) (rising : Bool) → length b.captures ≡ 8 → WiredAs d b → BlockAgrees d gap b s → BlockAgrees d gap (after_edge b pin rising) (record s { channels = by_channel (λ c. edge_at_pin (channel_of d c) b.time pin rising (capture_at s c)) })
edge_block d gap b s pin rising size wired h c lt =
    let on = s.initialised in
    let after = λ (y : chips.Capture) (z : Capture). CaptureAgrees (channel_of d c) (gap.gates c) (gap.queues c) (gap.counts c) on (on || gap.moded) y z in
    subst (λ z. after (chip_capture (after_edge b pin rising) c) z) (sym (by_channel_at (λ i. edge_at_pin (channel_of d i) b.time pin rising (capture_at s i)) c lt))
    (subst (λ y. after y (edge_at_pin (channel_of d c) b.time pin rising (capture_at s c))) (sym (caught_at b pin c rising size lt ∙ ap (λ p. if is_pin p pin then caught b.time rising (chip_capture b c) else chip_capture b c) (wired c lt)))
    (pin_agrees (channel_of d c) (gap.gates c) (gap.queues c) (gap.counts c) on (on || gap.moded) b.time pin rising (chip_capture b c) (capture_at s c) (h c lt)))

other_or_same : (a v : Bool) → is_other a v ≡ not (is_same a v)
other_or_same true v = refl
other_or_same false true = refl
other_or_same false false = refl

different : (p q : ℕ) → p < 64 → nat_lt q 64 ≡ false → (p == q) ≡ false
different p q lt e = grind (arith, nat_tests)

below : (q : ℕ) → nat_lt q 64 ≡ true → q < 64
below q e = grind (arith, nat_tests)

-- a level at a pin of the chip, and at one that it doesn't have
module _ (d : IcuTable) (fits : FitsIcu d) (gap : Lag) (chip : Chip) (w : World) (s : IcuState) (pin : ℕ) (v : Bool) (outside : StandsIn chip w) (size : length chip.captures.captures ≡ 8) (wired : WiredAs d chip.captures) (h : BlockAgrees d gap chip.captures s) where
  abbrev edged_state : IcuState
  edged_state = record s { channels = by_channel (λ c. edge_at_pin (channel_of d c) w.now pin v (capture_at s c)) }

  abbrev edged_block : Captures
  edged_block = after_edge chip.captures pin v

  edged_agrees : BlockAgrees d gap edged_block edged_state
  edged_agrees = subst (λ n. BlockAgrees d gap edged_block (record s { channels = by_channel (λ c. edge_at_pin (channel_of d c) n pin v (capture_at s c)) })) (outside.together.captures ∙ outside.now) (edge_block d gap chip.captures s pin v size wired h)

  level_by : (q r : Bool) → q ≡ not r → BlockAgrees d gap (if q then edged_block else chip.captures) (if r then s else edged_state)
  level_by true true e = absurd (cc)
  level_by true false e = edged_agrees
  level_by false true e = h
  level_by false false e = absurd (cc)

  -- no channel has a pin past the last one
  far_block : nat_lt pin 64 ≡ false → (c : ℕ) → c < 8 → is_pin (pin_of chip.captures c) pin ≡ false
  far_block far c lt = ap (λ p. is_pin p pin) (wired c lt) ∙ by_channel_there (channel_of d c) refl
    where
      by_channel_there : (k : Option Channel) → channel_of d c ≡ k → is_pin (pin_by k) pin ≡ false
      by_channel_there None e = refl
      by_channel_there (Some k) e = different k.pin pin (fits.pin c k e) far

  far_machine : nat_lt pin 64 ≡ false → (k : Option Channel) (c : ℕ) (x : Capture) → channel_of d c ≡ k → edge_at_pin k w.now pin v x ≡ x
  far_machine far None c x e = refl
  far_machine far (Some k) c x e = ap (λ r. if r then edge_taken k w.now v x else x) (different k.pin pin (fits.pin c k e) far)

  see_block : (q : Bool) (c : ℕ) → chip_capture edged_block c ≡ chip_capture chip.captures c → chip_capture (if q then edged_block else chip.captures) c ≡ chip_capture chip.captures c
  see_block true c e = e
  see_block false c e = refl

  far_one : nat_lt pin 64 ≡ false → (q : Bool) → BlockAgrees d gap (if q then edged_block else chip.captures) s
  far_one far q c lt = subst (λ y. CaptureAgrees (channel_of d c) (gap.gates c) (gap.queues c) (gap.counts c) s.initialised (s.initialised || gap.moded) y (capture_at s c)) (sym (see_block q c (caught_at chip.captures pin c v size lt ∙ ap (λ b. if b then caught chip.captures.time v (chip_capture chip.captures c) else chip_capture chip.captures c) (far_block far c lt)))) (h c lt)

  far_by : nat_lt pin 64 ≡ false → (q r : Bool) → BlockAgrees d gap (if q then edged_block else chip.captures) (if r then s else edged_state)
  far_by far q true c lt = far_one far q c lt
  far_by far q false c lt =
      subst (λ z. CaptureAgrees (channel_of d c) (gap.gates c) (gap.queues c) (gap.counts c) s.initialised (s.initialised || gap.moded) (chip_capture (if q then edged_block else chip.captures) c) z) (sym (by_channel_at (λ i. edge_at_pin (channel_of d i) w.now pin v (capture_at s i)) c lt ∙ far_machine far (channel_of d c) c (capture_at s c) refl)) (far_one far q c lt)

  see_level : (q : Bool) → (if q then record chip { outside = slice_set chip.outside pin v; captures = edged_block } else chip).captures ≡ (if q then edged_block else chip.captures)
  see_level true = refl
  see_level false = refl

  level_at : (there : Bool) → nat_lt pin 64 ≡ there → BlockAgrees d gap (if is_other (outside_at chip pin) v then edged_block else chip.captures) (if is_same (w.levels pin) v then s else edged_state)
  level_at true e = level_by (is_other (outside_at chip pin) v) (is_same (w.levels pin) v) (ap (λ z. is_other z v) (outside.levels pin (below pin e)) ∙ other_or_same (w.levels pin) v)
  level_at false e = far_by e (is_other (outside_at chip pin) v) (is_same (w.levels pin) v)

  -- the outside level of a pin reaches block and machine alike
  pub level_block : BlockAgrees d gap (levelled chip pin v).captures (moved d w s (Level pin v))
  level_block = subst (λ b. BlockAgrees d gap b (moved d w s (Level pin v))) (sym (see_level (is_other (outside_at chip pin) v))) (level_at (nat_lt pin 64) refl)
