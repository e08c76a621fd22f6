-- A chip stands in the world of its run from power on, after each move, each hardware event and each reset.
use Rattle.std.proofs.Common.{◌≡◌, ℕ, ◌+◌, ◌*◌, ◌<◌, ◌≤◌, List, ◌∷◌, ◌≢◌, Bool, true, false, cond, [], length, ◌⊎◌, inl, inr, refl, sym, ◌∙◌, ap, arith, get_or-set_same, get_or-set_other}
use Rattle.std.specs.Prelude.{◌==◌, slice_index_or}
use Rattle.std.specs.List.{AllByRecursion}
use Rattle.std.proofs.lemmas.Bool.Decides.{eqb_tells}
use Rattle.std.proofs.lemmas.List.{get_or-replicate}
use Rattle.mcal_base.specs.Layout.{WithinLimits}
use Rattle.mcal_base.specs.declared.config.whole.Config.{Config}
use Rattle.mcal_base.specs.declared.directive.Order.{Order}
use Rattle.mcal_base.specs.declared.directive.Order.TheVariants.{Tick, Level, Analog, Trigger, Miso, SpiFault, Fill}
use Rattle.mcal_base.specs.declared.directive.Reason.{Reason}
use Rattle.mcal_base.specs.declared.moves.Move.{Move}
use Rattle.chip_blocks.specs.converter.Converters.{level_at, with_level}
use Rattle.chip_model.specs.Chip.{Chip, power_on, hung, chip_after, happened, reset_chip, levelled, outside_at, now_of}
use Rattle.chip_model.specs.Histories.{HasAll, Made, Hardware, WasReset, FillsThere}
use Rattle.chip_model.proofs.HistoryLaws.{level_leaves, level-since_event, outside-move, outside-step, levels-move, levels-pulse, osc-move, now-move}
use Rattle.chip_model.proofs.WholeLaws.{all-step, all-power_on, time-step, silent-level}
use Rattle.run_model.specs.Outside.{StandsIn}
use Rattle.run_model.specs.World.{World, Sample, world_start, world_after, last_sample}

pub stands-start : (config : Config) (room devices : ℕ) → WithinLimits config → StandsIn (hung devices (power_on config room)) (world_start devices)
stands-start config room devices w = record {
  all = let a = all-power_on config room w in record { words = a.words; ram = a.ram; outside = a.outside; incoming = a.incoming; timers = a.timers; inputs = a.inputs; sources = a.sources };
  together = record { pulses = refl; captures = refl; converters = refl; serials = refl };
  osc = refl;
  now = refl;
  levels = λ p lt. get_or-replicate {A = Bool} 64 p false false lt;
  analog = λ i lt. silent-level i;
  past = tt;
}

pub stands-move : (chip : Chip) (w : World) (made : Move) (received : ℕ) → StandsIn chip w → StandsIn (chip_after chip made received) w
stands-move chip w made received s = record {
  all = all-step chip (Made made received) tt s.all;
  together = time-step chip (Made made received) s.together;
  osc = osc-move chip made received ∙ s.osc;
  now = now-move chip made received ∙ s.now;
  levels = λ p lt. ap (λ o. slice_index_or o p false) (outside-move chip made received) ∙ s.levels p lt;
  analog = λ i lt. ap (λ l. level_at l i) (levels-move chip made received) ∙ s.analog i lt;
  past = s.past;
}

-- ---- the times after an event

osc_event : (chip : Chip) (w : World) (order : Order) → chip.clock.osc ≡ w.osc → (happened chip order).clock.osc ≡ (world_after w chip.clock.rate order).osc
osc_event chip w (Tick n) e = ap (λ t. t + n) e
osc_event chip w (Level p v) e = level_leaves (λ d. d.clock.osc) chip p v refl ∙ e
osc_event chip w (Analog i v) e = e
osc_event chip w (Trigger i) e = e
osc_event chip w (Miso u ws) e = e
osc_event chip w (SpiFault u) e = e
osc_event chip w (Fill channel ws) e = e
osc_event chip w _ e = e

now_event : (chip : Chip) (w : World) (order : Order) → now_of chip ≡ w.now → now_of (happened chip order) ≡ (world_after w chip.clock.rate order).now
now_event chip w (Tick n) e = ap (λ t. t + n * chip.clock.rate) e
now_event chip w (Level p v) e = level_leaves (λ d. now_of d) chip p v refl ∙ e
now_event chip w (Analog i v) e = e
now_event chip w (Trigger i) e = e
now_event chip w (Miso u ws) e = e
now_event chip w (SpiFault u) e = e
now_event chip w (Fill channel ws) e = e
now_event chip w _ e = e

-- ---- the outside levels after an event

-- a pin's level is the new one where the event names the pin, and else the old one
level_event : (chip : Chip) (q : ℕ) (v : Bool) (p : ℕ) (old : Bool) → HasAll chip → p < 64 → outside_at chip p ≡ old
    → ((p == q) ≡ true) × (p ≡ q) ⊎ ((p == q) ≡ false) × (p ≢ q) → outside_at (levelled chip q v) p ≡ cond (p == q) v old
level_event chip q v p old all lt e (inl here) =
    let at : q < 64 = omega (arith, here.1, lt) in
    rw (here.0) (rw (here.1) (level-since_event chip q v [] all at tt))
level_event chip q v p old all lt e (inr other) =
    rw (other.0) (outside-step p chip (Hardware (Level q v)) (λ same. other.1 (sym same)) ∙ e)

levels_event : (chip : Chip) (w : World) (order : Order) → StandsIn chip w
    → (p : ℕ) → p < 64 → outside_at (happened chip order) p ≡ (world_after w chip.clock.rate order).levels p
levels_event chip w (Tick n) s p lt = s.levels p lt
levels_event chip w (Level q v) s p lt = level_event chip q v p (w.levels p) s.all lt (s.levels p lt) (eqb_tells p q)
levels_event chip w (Analog i v) s p lt = s.levels p lt
levels_event chip w (Trigger i) s p lt = s.levels p lt
levels_event chip w (Miso u ws) s p lt = s.levels p lt
levels_event chip w (SpiFault u) s p lt = s.levels p lt
levels_event chip w (Fill channel ws) s p lt = s.levels p lt
levels_event chip w _ s p lt = s.levels p lt

-- ---- the levels of the analog inputs after an event

-- an input's level is the new one where the event names the input, and else the old one
input_event : (chip : Chip) (k v i old : ℕ) → HasAll chip → i < 32 → level_at chip.converters.levels i ≡ old
    → ((k == i) ≡ true) × (k ≡ i) ⊎ ((k == i) ≡ false) × (k ≢ i)
    → level_at (with_level chip.converters.levels k v (now_of chip)) i ≡ cond (k == i) v old
input_event chip k v i old all lt e (inl here) =
    let within : i < length chip.converters.levels.values = omega (arith, all.inputs, lt) in
    rw (here.0) (rw (here.1) (get_or-set_same chip.converters.levels.values i v 0 within))
input_event chip k v i old all lt e (inr other) =
    rw (other.0) (get_or-set_other chip.converters.levels.values k i v 0 (λ same. other.1 (sym same)) ∙ e)

analog_event : (chip : Chip) (w : World) (order : Order) → StandsIn chip w
    → (i : ℕ) → i < 32 → level_at (happened chip order).converters.levels i ≡ last_sample (world_after w chip.clock.rate order).samples i
analog_event chip w (Tick n) s i lt = s.analog i lt
analog_event chip w (Level p v) s i lt = level_leaves (λ d. level_at d.converters.levels i) chip p v refl ∙ s.analog i lt
analog_event chip w (Analog k v) s i lt = input_event chip k v i (last_sample w.samples i) s.all lt (s.analog i lt) (eqb_tells k i)
analog_event chip w (Trigger k) s i lt = ap (λ l. level_at l i) (levels-pulse chip.converters k) ∙ s.analog i lt
analog_event chip w (Miso u ws) s i lt = s.analog i lt
analog_event chip w (SpiFault u) s i lt = s.analog i lt
analog_event chip w (Fill channel ws) s i lt = s.analog i lt
analog_event chip w _ s i lt = s.analog i lt

-- ---- the past after an event

-- what was past stays past
pub still_past : (xs : List Sample) (m n : ℕ) → m ≤ n → AllByRecursion (λ (x : Sample). x.since ≤ m) xs → AllByRecursion (λ (x : Sample). x.since ≤ n) xs
still_past [] m n le h = tt
still_past (x ∷ xs) m n le h = (omega (arith, le, h.0), still_past xs m n le h.1)

past_event : (chip : Chip) (w : World) (order : Order) → AllByRecursion (λ (x : Sample). x.since ≤ w.now) w.samples
    → AllByRecursion (λ (x : Sample). x.since ≤ (world_after w chip.clock.rate order).now) (world_after w chip.clock.rate order).samples
past_event chip w (Tick n) h = still_past w.samples w.now (w.now + n * chip.clock.rate) (omega arith) h
past_event chip w (Level p v) h = h
past_event chip w (Analog k v) h = (omega arith, h)
past_event chip w (Trigger k) h = h
past_event chip w (Miso u ws) h = h
past_event chip w (SpiFault u) h = h
past_event chip w (Fill channel ws) h = h
past_event chip w _ h = h

pub stands-event : (chip : Chip) (w : World) (order : Order) → FillsThere (Hardware order) → StandsIn chip w → StandsIn (happened chip order) (world_after w chip.clock.rate order)
stands-event chip w order there s = record {
  all = all-step chip (Hardware order) there s.all;
  together = time-step chip (Hardware order) s.together;
  osc = osc_event chip w order s.osc;
  now = now_event chip w order s.now;
  levels = levels_event chip w order s;
  analog = analog_event chip w order s;
  past = past_event chip w order s.past;
}

pub stands-reset : (chip : Chip) (w : World) (reason : Reason) → StandsIn chip w → StandsIn (reset_chip chip reason) w
stands-reset chip w reason s = record {
  all = all-step chip (WasReset reason) tt s.all;
  together = time-step chip (WasReset reason) s.together;
  osc = s.osc;
  now = s.now;
  levels = s.levels;
  analog = s.analog;
  past = s.past;
}
