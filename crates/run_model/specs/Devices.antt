-- The devices over a run: what its deeds make of them, and what becomes of each.
use Rattle.std.specs.Prelude.{◌≡◌, ℕ, ◌+◌, ◌-◌, ◌^◌, ◌<◌, ◌≤◌, ◌==◌, ◌&&◌, min, length, take, sum_by, Bool, false, if◌then◌else◌, Some, List, [], ◌∷◌, ◌++◌, Option, None, option_and_then, slice_get}
use Rattle.chip_model.specs.Chip.{Chip, has_device}
use Rattle.chip_model.specs.Devices.{CallsRight}
use Rattle.chip_blocks.specs.units.Serials.{outgoing, unit_at}
use Rattle.mcal_base.specs.declared.directive.Order.{Order}
use Rattle.mcal_base.specs.declared.directive.Order.TheVariants as orders
use Rattle.mcal_base.specs.declared.moves.Move.{Move}
use Rattle.mcal_base.specs.declared.moves.Move.TheVariants.{Write}
use Rattle.mcal_base.specs.declared.register.Reg.TheVariants.{SerialData}
use Rattle.serial_devices.specs.Lines.{Line, extended}
use Rattle.run_model.specs.Moment.{Setting, Moment, Transition, Begins, Enters, Steps, Happens, Resets, after}

-- ---- calls

-- what hardware makes of the devices: the last one goes, or all stay as they were
abbrev pub LeavesAll : Order → (old new : List Line) → Type 0
LeavesAll orders.Detach old new = new ≡ take (length old - 1) old
LeavesAll order old new = new ≡ old

-- what a deed makes of the devices: a step that begins a word calls the device that its unit selects, and nothing else calls one
abbrev pub DeedCalls : {Call : Type 0} → Chip → Transition Call → (old new : List Line) → Type 0
DeedCalls chip (Steps s) old new = CallsRight chip s.made s.received old new
DeedCalls chip (Begins c level) old new = new ≡ old
DeedCalls chip (Enters l) old new = new ≡ old
DeedCalls chip (Happens order) old new = LeavesAll order old new
DeedCalls chip (Resets reason) old new = new ≡ old

-- what deeds make of them from a moment on, one after another
abbrev pub AllCalls : {State Call : Type 0} → Setting State Call → Moment State Call → List (Transition Call) → (old new : List Line) → Type 0
AllCalls g m [] old new = new ≡ old
AllCalls g m (x ∷ xs) old new = (between : List Line) × DeedCalls m.chip x old between × AllCalls g (after g m x) xs between new

-- a deed that is neither a step nor drops a device
abbrev pub IsStill : {Call : Type 0} → Transition Call → Type 0
IsStill (Steps s) = ⊥
IsStill (Happens orders.Detach) = ⊥
IsStill (Begins c level) = Unit {0}
IsStill (Enters l) = Unit {0}
IsStill (Happens order) = Unit {0}
IsStill (Resets reason) = Unit {0}

-- how many devices a deed drops, and how many deeds do
abbrev pub drops_by : {Call : Type 0} → Transition Call → ℕ
drops_by (Happens orders.Detach) = 1
drops_by x = 0

abbrev pub drops_in : {Call : Type 0} → List (Transition Call) → ℕ
drops_in deeds = sum_by drops_by deeds

-- ---- the exchanges of one device

-- the move begins a word under the select of the device at this place
abbrev pub is_under : Chip → (place : ℕ) → Move → Bool
is_under chip place (Write (SerialData u) v) = has_device chip u && (unit_at chip.serials u).select == place + 1
is_under chip place made = false

-- the word that a move sends
abbrev pub sent_by : Chip → Move → ℕ
sent_by chip (Write (SerialData u) v) = outgoing (unit_at chip.serials u) v
sent_by chip made = 0

-- the pair of an exchange that was not refused: the word that was sent and the one that came in
abbrev pub pair_of : (sent received : ℕ) → List (ℕ × ℕ)
pair_of sent received = if received == 65536 then [] else (sent, received) ∷ []

-- the pairs of the device at a place that a deed adds, and how many refusals
abbrev pub pairs_by : {Call : Type 0} → Chip → (place : ℕ) → Transition Call → List (ℕ × ℕ)
pairs_by chip place (Steps s) = if is_under chip place s.made then pair_of (sent_by chip s.made) s.received else []
pairs_by chip place x = []

abbrev pub refusals_by : {Call : Type 0} → Chip → (place : ℕ) → Transition Call → ℕ
refusals_by chip place (Steps s) = if is_under chip place s.made && s.received == 65536 then 1 else 0
refusals_by chip place x = 0

abbrev pub pairs_from : {State Call : Type 0} → Setting State Call → Moment State Call → (place : ℕ) → List (Transition Call) → List (ℕ × ℕ)
pairs_from g m place [] = []
pairs_from g m place (x ∷ xs) = pairs_by m.chip place x ++ pairs_from g (after g m x) place xs

abbrev pub refusals_from : {State Call : Type 0} → Setting State Call → Moment State Call → (place : ℕ) → List (Transition Call) → ℕ
refusals_from g m place [] = 0
refusals_from g m place (x ∷ xs) = refusals_by m.chip place x + refusals_from g (after g m x) place xs

-- the pairs of the device at a place, where it is there and tells them
abbrev pub pairs_at : List Line → (place : ℕ) → Option (List (ℕ × ℕ))
pairs_at lines place = option_and_then (λ (l : Line). l.pairs) (slice_get lines place)

-- The count of faults of a device that is still there has risen by so many at least, or stands at the last value of u64,
-- and is what it was where no exchange was refused; where there was no device there is none.
abbrev pub HasRisen : Option Line → (refusals : ℕ) → Option Line → Type 0
HasRisen was n None = Unit {0}
HasRisen None n (Some now) = ⊥
HasRisen (Some was) n (Some now) = (min (was.faults + n) (2 ^ 64 - 1) ≤ now.faults) × (n ≡ 0 → now.faults ≡ was.faults)

-- The devices after the deeds: there are as many as weren't dropped. The pairs of each of them, if it tells them, are those
-- before and the deeds' in their order; and its count of faults has risen by the refusals, and by nothing else.
pub record AreTold {State Call : Type 0} (g : Setting State Call) (m : Moment State Call) (deeds : List (Transition Call)) (old new : List Line) : Type 0 where
  pub count : length new ≡ length old - drops_in deeds
  pub pairs : (place : ℕ) → place < length new → pairs_at new place ≡ extended (pairs_at old place) (pairs_from g m place deeds)
  pub faults : (place : ℕ) → HasRisen (slice_get old place) (refusals_from g m place deeds) (slice_get new place)
