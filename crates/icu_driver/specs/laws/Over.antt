-- The agreement in time: what happens outside leaves it, whatever is under work.
-- From service_outline: Words, Levels.
-- Used by RefinementRight.
use Rattle.std.proofs.Common.{◌≡◌, ℕ, ◌+◌, ◌<◌, ◌≤◌, ◌||◌, Bool, true, length, List, ◌++◌, Option, Some, None, refl, sym, ◌∙◌, ap, subst, arith}
use Rattle.std.specs.Prelude.{slice_index_or, is_some}
use Rattle.chip_blocks.specs.captures.Captures.{closed}
use Rattle.chip_blocks.specs.declared.captures.capture.Capture as chips
use Rattle.chip_model.specs.Chip.{Chip, happened, word_of, is_masked}
use Rattle.mcal_base.specs.Bits.{has_bit}
use Rattle.mcal_base.specs.declared.config.icu.IcuMeasurementMode.{IcuMeasurementMode}
use Rattle.mcal_base.specs.declared.config.icu.IcuMeasurementMode.TheVariants.{SignalEdgeDetect, EdgeCounter, Timestamp, SignalMeasurement}
use Rattle.mcal_base.specs.declared.directive.Order.{Order}
use Rattle.mcal_base.specs.declared.directive.Order.TheVariants.{Tick, Level}
use Rattle.mcal_base.specs.Layout.{place_of}
use Rattle.mcal_base.specs.declared.layout.Array.TheVariants.{Stamps}
use Rattle.mcal_base.specs.declared.layout.TheConstants.{SOURCES}
use Rattle.run_model.specs.World.{World, world_after}
use Rattle.run_model.specs.Outside.{StandsIn}
use Rattle.run_model.proofs.OutsideLaws.{stands-event}
use Rattle.service_outline.specs.Outline.{Comes}
use Rattle.service_outline.specs.laws.Words.{word_later, fills_there}
use Rattle.module_machines.specs.icu.Bounds.{icu_setting}
use Rattle.icu_driver.specs.Refinement.{Lag, FitsIcu, IcuRepresents, CaptureAgrees, ChannelWords, ModeWords, Stamped, ValueIs, ActiveIs, StartIs, OppositeIs, HasTurns, Alternate, EndsAt, waiting_value, seen_by}
use Rattle.module_machines.specs.icu.Machine.{IcuState, Capture, capture_at, moved}
use Rattle.module_machines.specs.icu.Table.{channel_of}
use Rattle.icu_driver.specs.Words.{word}
use Rattle.module_machines.specs.declared.icu.table.Channel.{Channel}
use Rattle.module_machines.specs.declared.icu.table.IcuTable.{IcuTable}
use Rattle.icu_driver.specs.declared.words.TheConstants.{STATE, MARKS, INTERVALS, PLACES, VALUES, TIMES}
use Rattle.icu_driver.specs.laws.Levels.{level_agrees}

module _ (at at1 : ℕ → ℕ) (behind : ℕ → Bool) (c : ℕ) (lt : c < 8) (same : (j : ℕ) → STATE ≤ j → j < 32832 → at1 j ≡ at j) where
  row : (first : ℕ) → (STATE ≤ first) × (first ≤ TIMES) → at1 (word first c) ≡ at (word first c)
  row first i = let low = i.0 in let high = i.1 in same (first + c) (omega (arith, low)) (omega (arith, lt, high))

  mode_over : (m : IcuMeasurementMode) (k : Channel) (x : Capture) → ModeWords m at behind c k x → ModeWords m at1 behind c k x
  mode_over SignalEdgeDetect k x h = record { switch = λ f. row _ (omega arith, omega arith) ∙ h.switch f; mark = λ f. row _ (omega arith, omega arith) ∙ h.mark f }
  mode_over EdgeCounter k x h = tt
  mode_over Timestamp k x h = record {
    switch = λ f. row _ (omega arith, omega arith) ∙ h.switch f;
    mark = λ f. subst (λ v. Stamped x v) (sym (row MARKS (omega arith, omega arith))) (h.mark f);
    size = λ f. row _ (omega arith, omega arith) ∙ h.size f;
    interval = λ f g. row _ (omega arith, omega arith) ∙ h.interval f g;
    place = λ f ne. row PLACES (omega arith, omega arith) ∙ h.place f (λ b e. ne b (row MARKS (omega arith, omega arith) ∙ e));
    left = λ f g. row _ (omega arith, omega arith) ∙ h.left f g;
  }
  mode_over SignalMeasurement k x h = record {
    waits = λ f. row _ (omega arith, omega arith) ∙ h.waits f;
    mark = λ f. row _ (omega arith, omega arith) ∙ h.mark f;
    seen = λ f g. row _ (omega arith, omega arith) ∙ h.seen f g;
    start = λ f g. subst (λ v. StartIs v (seen_by k x)) (sym (row INTERVALS (omega arith, omega arith))) (h.start f g);
    opposite = λ f g. subst (λ v. OppositeIs v (seen_by k x)) (sym (row PLACES (omega arith, omega arith))) (h.opposite f g);
    value = λ f. subst (λ v. ValueIs v (waiting_value k x)) (sym (row VALUES (omega arith, omega arith))) (h.value f);
    time = λ f. subst (λ v. ActiveIs v (waiting_value k x)) (sym (row TIMES (omega arith, omega arith))) (h.time f);
  }

  pub words_over : (k : Option Channel) (x : Capture) → ChannelWords k at behind c x → ChannelWords k at1 behind c x
  words_over None x h = tt
  words_over (Some k) x h = mode_over k.mode k x h

turns_over : (k : Option Channel) (w w1 : World) (x : Capture) → w1.levels ≡ w.levels → HasTurns k w x → HasTurns k w1 x
turns_over None w w1 x e h = tt
turns_over (Some k) w w1 x e h = λ m o. subst (λ (f : ℕ → Bool). Alternate (x.served ++ x.waiting) × EndsAt x.lost (f k.pin) (x.served ++ x.waiting)) (sym e) (h m o)

-- a chip with the channels, the words and the enable bits of another one, under the same levels, agrees with what that one does
pub same_agrees : (d : IcuTable) (gap : Lag) (chip chip1 : Chip) (w w1 : World) (s : IcuState) → StandsIn chip1 w1 → chip1.captures.captures ≡ chip.captures.captures → chip1.captures.pins ≡ chip.captures.pins → ((j : ℕ) → STATE ≤ j → j < 32832 → word_of chip1 j ≡ word_of chip j) → ((c : ℕ) → c < 8 → is_some (channel_of d c) ≡ true → (i : ℕ) → i < 64 → word_of chip1 (place_of (Stamps c) i) ≡ word_of chip (place_of (Stamps c) i)) → ((c : ℕ) → c < 8 → has_bit chip1.control.enabled (16 + c) ≡ has_bit chip.control.enabled (16 + c)) → w1.levels ≡ w.levels → IcuRepresents d gap chip w s → IcuRepresents d gap chip1 w1 s
same_agrees d gap chip chip1 w w1 s outside channels pins words stamps enabled levels h = record {
  outside = outside;
  size = ap (λ xs. length xs) channels ∙ h.size;
  wired = λ c lt. ap (λ xs. slice_index_or xs c None) pins ∙ h.wired c lt;
  block = λ c lt. subst (λ (xs : List chips.Capture). CaptureAgrees (channel_of d c) (gap.gates c) (gap.queues c) (gap.counts c) s.initialised (s.initialised || gap.moded) (slice_index_or xs c closed) (capture_at s c)) (sym channels) (h.block c lt);
  state = λ f. words _ (omega arith) (omega arith) ∙ h.state f;
  words = λ c lt. words_over (λ k. word_of chip k) (λ k. word_of chip1 k) gap.words c lt words (channel_of d c) (capture_at s c) (h.words c lt);
  course = h.course;
  turns = λ c lt. turns_over (channel_of d c) w w1 (capture_at s c) levels (h.turns c lt);
  lines = λ c lt. enabled c lt ∙ h.lines c lt;
  stamps = λ c lt some i below g. stamps c lt some i below ∙ h.stamps c lt some i below g;
  clean = h.clean;
}

pub later_agrees : (d : IcuTable) → FitsIcu d → (gap : Lag) (chip : Chip) (w : World) (s : IcuState) (order : Order) → Comes (icu_setting d) chip w s order → IcuRepresents d gap chip w s → IcuRepresents d gap (happened chip order) (world_after w chip.clock.rate order) (moved d w s order)
later_agrees d fits gap chip w s order free h = by_order order (stands-event chip w order (fills_there (icu_setting d) (is_masked chip) w s free.frames order free.free) h.outside) (λ j lt. word_later chip order j h.outside.all.words lt)
  where
    by_order : (order : Order) → StandsIn (happened chip order) (world_after w chip.clock.rate order) → ((j : ℕ) → j < SOURCES → word_of (happened chip order) j ≡ word_of chip j) → IcuRepresents d gap (happened chip order) (world_after w chip.clock.rate order) (moved d w s order)
    by_order (Level p v) outside words = level_agrees d fits gap chip w s p v h
    by_order (Tick n) outside words = same_agrees d gap chip (happened chip (Tick n)) w (world_after w chip.clock.rate (Tick n)) s outside refl refl (λ j low high. words j (omega (arith, high))) (λ c lt some i below. words _ (omega (arith, lt, below))) (λ c lt. refl) refl h
    by_order order outside words = same_agrees d gap chip (happened chip order) w (world_after w chip.clock.rate order) s outside refl refl (λ j low high. words j (omega (arith, high))) (λ c lt some i below. words _ (omega (arith, lt, below))) (λ c lt. refl) refl h
