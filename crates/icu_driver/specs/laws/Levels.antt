-- An outside level is set: words and registers agree with the machine as before.
-- From EdgeWords, module_machines: icu.Edges, Alternation, Later, module_machines: icu.Channels.
-- Used by Over.
use Rattle.std.proofs.Common.{◌≡◌, ℕ, ◌+◌, ◌<◌, Bool, true, false, length, refl, sym, ◌∙◌, ap, subst}
use Rattle.std.specs.Prelude.{if◌then◌else◌, is_some}
use Rattle.chip_blocks.specs.captures.Captures.{pin_of, channels_at, acting}
use Rattle.chip_blocks.specs.declared.captures.capture.Act.TheVariants.{Catch}
use Rattle.chip_model.specs.Chip.{Chip, happened, word_of}
use Rattle.chip_model.proofs.HistoryLaws.{level_leaves}
use Rattle.mcal_base.specs.Bits.{has_bit}
use Rattle.mcal_base.proofs.BitLaws.{length-at_bits}
use Rattle.mcal_base.specs.declared.directive.Order.TheVariants.{Level}
use Rattle.run_model.specs.World.{World, world_after}
use Rattle.run_model.proofs.OutsideLaws.{stands-event}
use Rattle.module_machines.specs.icu.Edges.{is_same}
use Rattle.icu_driver.specs.Refinement.{Lag, FitsIcu, IcuRepresents, ChannelWords, IsCourse, HasTurns, IsClean, all_are, state_word}
use Rattle.module_machines.specs.icu.Machine.{IcuState, Capture, capture_at, by_channel, edge_at_pin, moved, stamp_in}
use Rattle.module_machines.specs.icu.Table.{channel_of}
use Rattle.module_machines.specs.declared.icu.table.IcuTable.{IcuTable}
use Rattle.icu_driver.specs.laws.EdgeWords.{words_still, pin_off_same, pin_course, place_still}
use Rattle.icu_driver.specs.laws.Later.{level_block}
use Rattle.module_machines.specs.icu.laws.Edges.{still, pin_still}
use Rattle.module_machines.specs.icu.laws.Channels.{by_channel_at}
use Rattle.icu_driver.specs.laws.Alternation.{pin_turns, pin_kept}

module _ (d : IcuTable) (fits : FitsIcu d) (gap : Lag) (chip : Chip) (w : World) (s : IcuState) (pin : ℕ) (v : Bool) (h : IcuRepresents d gap chip w s) where
  abbrev after : Bool → IcuState
  after r = if r then s else record s { channels = by_channel (λ c. edge_at_pin (channel_of d c) w.now pin v (capture_at s c)) }

  abbrev world : World
  world = world_after w chip.clock.rate (Level pin v)

  -- a channel: it is the same where the level is, and else the edge came to it
  at_channel : (P : Capture → Type 0) (c : ℕ) → c < 8 → P (edge_at_pin (channel_of d c) w.now pin v (capture_at s c)) → P (capture_at (after false) c)
  at_channel P c lt p = subst P (sym (by_channel_at (λ i. edge_at_pin (channel_of d i) w.now pin v (capture_at s i)) c lt)) p

  still_at : (r : Bool) (c : ℕ) → c < 8 → still (capture_at (after r) c) ≡ still (capture_at s c)
  still_at true c lt = refl
  still_at false c lt = at_channel (λ y. still y ≡ still (capture_at s c)) c lt (pin_still (channel_of d c) w.now pin v (capture_at s c))

  on_same : (r : Bool) → (after r).initialised ≡ s.initialised
  on_same true = refl
  on_same false = refl

  course_at : (r : Bool) (c : ℕ) → c < 8 → IsCourse (channel_of d c) (capture_at (after r) c)
  course_at true c lt = (h.course c lt).0
  course_at false c lt = at_channel (λ y. IsCourse (channel_of d c) y) c lt (pin_course (channel_of d c) w.now pin v (capture_at s c) (h.course c lt).0)

  turns_at : (r : Bool) → is_same (w.levels pin) v ≡ r → (c : ℕ) → c < 8 → HasTurns (channel_of d c) world (capture_at (after r) c)
  turns_at true e c lt = pin_kept (channel_of d c) w pin v (capture_at s c) e (h.turns c lt)
  turns_at false e c lt = at_channel (λ y. HasTurns (channel_of d c) world y) c lt (pin_turns (channel_of d c) w pin v (capture_at s c) e (h.turns c lt))

  clean_at : (r : Bool) → s.initialised ≡ false → (c : ℕ) → c < 8 → is_some (channel_of d c) ≡ true → IsClean (capture_at (after r) c)
  clean_at true f c lt some = h.clean f c lt some
  clean_at false f c lt some = at_channel (λ y. IsClean y) c lt (subst IsClean (sym (pin_off_same (channel_of d c) w.now pin v (capture_at s c) (h.clean f c lt some).off)) (h.clean f c lt some))

  words_same : ◌≡◌ {A = ℕ → ℕ} (λ k. word_of (happened chip (Level pin v)) k) (λ k. word_of chip k)
  words_same = level_leaves (λ c. λ (k : ℕ). word_of c k) chip pin v refl

  word_same : (k : ℕ) → word_of (happened chip (Level pin v)) k ≡ word_of chip k
  word_same k = level_leaves (λ c. word_of c k) chip pin v refl

  pub level_agrees : IcuRepresents d gap (happened chip (Level pin v)) world (moved d w s (Level pin v))
  level_agrees =
      let r = is_same (w.levels pin) v in
      record {
        outside = stands-event chip w (Level pin v) tt h.outside;
        size = level_leaves (λ c. length c.captures.captures) chip pin v (length-at_bits (λ _. acting (Catch v) chip.captures.time) (channels_at chip.captures pin) chip.captures.captures) ∙ h.size;
        wired = λ c lt. level_leaves (λ (x : Chip). pin_of x.captures c) chip pin v refl ∙ h.wired c lt;
        block = level_block d fits gap chip w s pin v h.outside h.size h.wired h.block;
        state = λ f. word_same _ ∙ h.state f ∙ sym (ap (λ q. state_word q) (on_same r));
        words = λ c lt. subst (λ at. ChannelWords (channel_of d c) at gap.words c (capture_at (after r) c)) (sym words_same) (words_still (channel_of d c) (λ k. word_of chip k) gap.words c (capture_at s c) (capture_at (after r) c) (still_at r c lt) (h.words c lt));
        course = λ c lt. (course_at r c lt, place_still (channel_of d c) (capture_at s c) (capture_at (after r) c) (still_at r c lt) (h.course c lt).1);
        turns = turns_at r refl;
        lines = λ c lt. level_leaves (λ x. has_bit x.control.enabled (16 + c)) chip pin v refl ∙ h.lines c lt ∙ sym (ap (λ q. all_are gap.lines q) (on_same r));
        stamps = λ c lt some i below g. word_same _ ∙ h.stamps c lt some i below g ∙ sym (ap (λ (y : Capture). stamp_in y.stored i) (still_at r c lt));
        clean = λ f. clean_at r (sym (on_same r) ∙ f);
      }
