-- What a journal alone tells of the devices: a step is under a device's select where it writes `S<u>.DATA` while
-- `S<u>.SELECT` holds the device's place and 1.
use Rattle.std.specs.Prelude.{◌≡◌, ℕ, ◌+◌, ◌-◌, ◌<◌, ◌==◌, ◌&&◌, nat_lt, Bool, false, if◌then◌else◌, List, [], ◌∷◌, ◌++◌, length, slice_get, sum_by}
use Rattle.chip_blocks.specs.units.Serials.{masked}
use Rattle.mcal_base.specs.declared.directive.Order.TheVariants as orders
use Rattle.mcal_base.specs.declared.moves.Move.{Move}
use Rattle.mcal_base.specs.declared.moves.Move.TheVariants.{Write}
use Rattle.mcal_base.specs.declared.register.Reg.TheVariants.{SerialSelect, SerialWidth, SerialData}
use Rattle.serial_devices.specs.Lines.{Line, extended}
use Rattle.run_model.specs.Devices.{HasRisen, pair_of, pairs_at}
use Rattle.run_model.specs.Entry as entry
use Rattle.run_model.specs.World.{with_at}

-- What was written last to the select and to the width of each serial unit, 0 after a reset, and how many devices there
-- are.
pub record Ports : Type 0 where
  pub select : (unit : ℕ) → ℕ
  pub width : (unit : ℕ) → ℕ
  pub devices : ℕ

abbrev pub ports_fresh : (devices : ℕ) → Ports
ports_fresh devices = record { select = λ u. 0; width = λ u. 0; devices = devices }

abbrev pub ports_made : Move → Ports → Ports
ports_made (Write (SerialSelect u) v) p = record p { select = with_at p.select u v }
ports_made (Write (SerialWidth u) v) p = record p { width = with_at p.width u v }
ports_made made p = p

abbrev pub ports_after : entry.Said → Ports → Ports
ports_after (entry.Steps s) p = ports_made s.made p
ports_after (entry.Resets r k) p = ports_fresh p.devices
ports_after (entry.Happens orders.Detach) p = record p { devices = p.devices - 1 }
ports_after (entry.Happens o) p = p
ports_after entry.Begins p = p
ports_after (entry.Stays c) p = p

-- the move begins a word under the select of the device at this place
abbrev pub is_under_port : (place : ℕ) → Ports → Move → Bool
is_under_port place p (Write (SerialData u) v) = nat_lt place p.devices && p.select u == place + 1
is_under_port place p made = false

abbrev pub sent_port : Ports → Move → ℕ
sent_port p (Write (SerialData u) v) = masked (p.width u) v
sent_port p made = 0

-- the pair that an item adds to the device's, and how many refusals
abbrev pub pairs_said : (place : ℕ) → Ports → entry.Said → List (ℕ × ℕ)
pairs_said place p (entry.Steps s) = if is_under_port place p s.made then pair_of (sent_port p s.made) s.received else []
pairs_said place p said = []

abbrev pub refusals_said : (place : ℕ) → Ports → entry.Said → ℕ
refusals_said place p (entry.Steps s) = if is_under_port place p s.made && s.received == 65536 then 1 else 0
refusals_said place p said = 0

abbrev pub pairs_told : (place : ℕ) → Ports → List entry.Entry → List (ℕ × ℕ)
pairs_told place p [] = []
pairs_told place p (e ∷ es) = pairs_said place p e.said ++ pairs_told place (ports_after e.said p) es

abbrev pub refusals_told : (place : ℕ) → Ports → List entry.Entry → ℕ
refusals_told place p [] = 0
refusals_told place p (e ∷ es) = refusals_said place p e.said + refusals_told place (ports_after e.said p) es

-- how many devices were dropped
abbrev pub dropped_by : entry.Said → ℕ
dropped_by (entry.Happens orders.Detach) = 1
dropped_by said = 0

abbrev pub dropped_in : List entry.Entry → ℕ
dropped_in entries = sum_by (λ (e : entry.Entry). dropped_by e.said) entries

-- The devices after a call that left this journal: of so many there are as many as weren't dropped. Each of them that tells
-- its pairs has those before, and the journal's in their order, and its count of faults has risen by the journal's refusals,
-- and is what it was where there are none; with an empty journal the pairs are as they were.
pub record AreToldBy (devices : ℕ) (entries : List entry.Entry) (old new : List Line) : Type 0 where
  pub count : length new ≡ devices - dropped_in entries
  pub pairs : (place : ℕ) → place < length new → pairs_at new place ≡ extended (pairs_at old place) (pairs_told place (ports_fresh devices) entries)
  pub faults : (place : ℕ) → HasRisen (slice_get old place) (refusals_told place (ports_fresh devices) entries) (slice_get new place)
