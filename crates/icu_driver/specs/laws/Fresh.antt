-- At power on, and after each other reset, words and registers stand for the machine's first state.
-- From module_machines: icu.Channels.
-- Used by RefinementRight, Measure.
use Rattle.std.proofs.Common.{◌≡◌, ℕ, ◌+◌, ◌<◌, false, List, [], Option, Some, None, refl, sym, ◌∙◌, ap, subst, arith}
use Rattle.std.specs.Prelude.{is_some}
use Rattle.mcal_base.specs.facts.Truths.{off_on}
use Rattle.chip_blocks.specs.captures.Captures.{captures_fresh, capture_at as chip_capture, closed}
use Rattle.chip_model.specs.Chip.{Chip, word_of, reset_chip}
use Rattle.chip_model.proofs.WordLaws.{slice_index-blank}
use Rattle.mcal_base.specs.Bits.{bit_of}
use Rattle.mcal_base.proofs.BitLaws.{has_bit-zero}
use Rattle.mcal_base.specs.declared.config.icu.IcuMeasurementMode.{IcuMeasurementMode}
use Rattle.mcal_base.specs.declared.config.icu.IcuMeasurementMode.TheVariants.{SignalEdgeDetect, EdgeCounter, Timestamp, SignalMeasurement}
use Rattle.mcal_base.specs.declared.config.icu.IcuSignalMeasurementProperty.{IcuSignalMeasurementProperty}
use Rattle.mcal_base.specs.declared.config.icu.IcuSignalMeasurementProperty.TheVariants.{LowTime, HighTime, PeriodTime, DutyCycle}
use Rattle.mcal_base.specs.declared.directive.Reason.{Reason}
use Rattle.run_model.specs.World.{World}
use Rattle.run_model.specs.Outside.{StandsIn}
use Rattle.run_model.proofs.OutsideLaws.{stands-reset}
use Rattle.module_machines.specs.icu.Edges.{values_by, newest}
use Rattle.icu_driver.specs.Refinement.{settled, none, CaptureAgrees, WiredAs, ChannelWords, ModeWords, Stamped, Is_fresh, ValueIs, ActiveIs, waiting_value, HasPlace, HasTurns, IcuRepresents}
use Rattle.module_machines.specs.icu.Machine.{untouched, first_state}
use Rattle.module_machines.specs.icu.Table.{channel_of}
use Rattle.icu_driver.specs.Words.{word}
use Rattle.icu_driver.specs.declared.words.TheConstants.{VALUES, TIMES}
use Rattle.module_machines.specs.declared.icu.table.Channel.{Channel}
use Rattle.module_machines.specs.declared.icu.table.IcuTable.{IcuTable}
use Rattle.module_machines.specs.icu.laws.Channels.{by_eight}

closed_at : (pins : List (Option ℕ)) (time c : ℕ) → c < 8 → chip_capture (captures_fresh pins time) c ≡ closed
closed_at pins time c lt = by_eight (λ i. chip_capture (captures_fresh pins time) i ≡ closed) refl refl refl refl refl refl refl refl c lt

closed_agrees : (k : Option Channel) → CaptureAgrees k false false false false false closed untouched
closed_agrees k = record {
  gate = λ f. refl;
  queue = λ f. refl;
  lost = λ f. refl;
  count = λ f. refl;
  condition = λ f. off_on f;
  mode = λ f. off_on f;
  starts = λ f. off_on f;
  known = λ f. off_on f;
  free_known = λ f. off_on f;
  free_queue = λ f. off_on f;
  free_count = λ f. off_on f;
}

-- no value was measured
pub values_none : (p : Option IcuSignalMeasurementProperty) (k : Channel) → values_by p k [] ≡ []
values_none None k = refl
values_none (Some LowTime) k = refl
values_none (Some HighTime) k = refl
values_none (Some PeriodTime) k = refl
values_none (Some DutyCycle) k = refl

waits_none : (k : Channel) → waiting_value k untouched ≡ None
waits_none k = ap (λ vs. newest vs) (values_none k.measured k)

-- words that are all 0
mode_words : (m : IcuMeasurementMode) (at : ℕ → ℕ) (c : ℕ) (k : Channel) → ((j : ℕ) → at j ≡ 0) → ModeWords m at none c k untouched
mode_words SignalEdgeDetect at c k z = record { switch = λ f. z _; mark = λ f. z _ }
mode_words EdgeCounter at c k z = tt
mode_words Timestamp at c k z = record {
  switch = λ f. z _;
  mark = λ f. subst (λ v. Stamped untouched v) (sym (z _)) (Is_fresh refl refl);
  size = λ f. z _;
  interval = λ f g. off_on g;
  place = λ f ne. absurd (ne refl (z _));
  left = λ f g. off_on g;
}
mode_words SignalMeasurement at c k z = record {
  waits = λ f. z _ ∙ sym (ap (λ v. bit_of (is_some v)) (waits_none k));
  mark = λ f. z _;
  seen = λ f g. off_on g;
  start = λ f g. off_on g;
  opposite = λ f g. off_on g;
  value = λ f. subst (λ v. ValueIs (at (word VALUES c)) v) (sym (waits_none k)) tt;
  time = λ f. subst (λ v. ActiveIs (at (word TIMES c)) v) (sym (waits_none k)) tt;
}

channel_words : (k : Option Channel) (at : ℕ → ℕ) (c : ℕ) → ((j : ℕ) → at j ≡ 0) → ChannelWords k at none c untouched
channel_words None at c z = tt
channel_words (Some k) at c z = mode_words k.mode at c k z

has_place : (k : Option Channel) → HasPlace k untouched
has_place None = tt
has_place (Some k) = λ m f. off_on f

has_turns : (k : Option Channel) (w : World) → HasTurns k w untouched
has_turns None w = tt
has_turns (Some k) w = λ m f. off_on f

pub reset_agrees : (d : IcuTable) (chip : Chip) (w : World) (reason : Reason) → StandsIn chip w → WiredAs d chip.captures → IcuRepresents d settled (reset_chip chip reason) w first_state
reset_agrees d chip w reason h wired = record {
  outside = stands-reset chip w reason h;
  size = refl;
  wired = wired;
  block = λ c lt. subst (λ b. CaptureAgrees (channel_of d c) false false false false false b untouched) (sym (closed_at chip.captures.pins chip.captures.time c lt)) (closed_agrees (channel_of d c));
  state = λ f. blank _;
  words = λ c lt. channel_words (channel_of d c) (λ j. word_of (reset_chip chip reason) j) c blank;
  course = λ c lt. (record { room = omega arith; times = tt; counter = λ f. (refl, refl); off = λ f. (refl, refl); start = tt; count = omega arith; unstarted = λ f. refl; uncounted = λ f. refl }, has_place (channel_of d c));
  turns = λ c lt. has_turns (channel_of d c) w;
  lines = λ c lt. has_bit-zero (16 + c);
  stamps = λ c below f i lt g. blank _;
  clean = λ f c lt some. record { off = refl; quiet = refl; unmarked = refl; uncounted = refl; unserved = refl };
}
  where
    blank : (j : ℕ) → word_of (reset_chip chip reason) j ≡ 0
    blank j = slice_index-blank j
