-- The words that come in and go out are judged as a legal step has them.
use Rattle.std.proofs.Common.{◌≡◌, ℕ, ◌≤◌, Bool, true, false, ◌==◌, Option, Some, None, sym, subst}
use Rattle.std.specs.Prelude.{min, nat_le, MatchBool, option_map, if◌then◌else◌}
use Rattle.chip_model.specs.Chip.{Chip, has_device, names_device, next_word}
use Rattle.chip_blocks.specs.units.Serials.{unit_at, outgoing}
use Rattle.chip_blocks.specs.declared.units.serial.Serial.{Serial}
use Rattle.mcal_base.specs.declared.moves.Move.{Move}
use Rattle.mcal_base.specs.declared.moves.Move.TheVariants.{Read, Write, Load, Store, Mask, Unmask, Note, Report}
use Rattle.mcal_base.specs.declared.register.Reg.TheVariants as regs
use Rattle.run_model.specs.Legal.{ReceivedRight, SendsRight, IsBegun}
use Rattle.run_model.specs.Machine.{select_of}
use Rattle.run_model.specs.World.{World}
use Rattle.audit_base.specs.Deeds.{begun_of}
use Rattle.audit_base.specs.declared.done.Begun.{Begun}
use Rattle.audit_frames.specs.Decides.{Decides}
use Rattle.audit_frames.proofs.Deciding.{yes, no, both, three, worded, equal, at_most}
use Rattle.report_auditor.specs.ChipRules.{may_come_in, received_right, is_begun_by, sends_right}

-- ---- the word that comes in

by_device : (named : Bool) (received next : ℕ) → Decides (if named then nat_le received 65536 else received == next) (MatchBool named (received ≤ 65536) (received ≡ next))
by_device true received next = at_most received 65536
by_device false received next = equal received next

-- the unit selects a device that is there, by the devices of the world
named_there : (c : Chip) (w : World) (u received : ℕ) → w.devices ≡ c.devices
    → Decides (may_come_in c u received) (MatchBool (names_device (unit_at c.serials u).select w.devices) (received ≤ 65536) (received ≡ next_word c u))
named_there c w u received same =
    subst (λ n. Decides (may_come_in c u received) (MatchBool (names_device (unit_at c.serials u).select n) (received ≤ 65536) (received ≡ next_word c u))) (sym same) (by_device (has_device c u) received (next_word c u))

pub comes_in : (c : Chip) (w : World) (made : Move) (received : ℕ) → w.devices ≡ c.devices → Decides (received_right c made received) (ReceivedRight c w made received)
comes_in c w (Write (regs.SerialData u) v) received same = named_there c w u received same
comes_in c w (Write _ v) received same = equal received 0
comes_in c w (Read r) received same = equal received 0
comes_in c w (Load k) received same = equal received 0
comes_in c w (Store k v) received same = equal received 0
comes_in c w Mask received same = equal received 0
comes_in c w Unmask received same = equal received 0
comes_in c w (Note n) received same = equal received 0
comes_in c w (Report e) received same = equal received 0

-- ---- the word that begins

begun : (x : Serial) (u v : ℕ) (b : Begun) → Decides (is_begun_by x u v b) (IsBegun (begun_of b) u v x)
begun x u v b =
    worded (λ h. record { on = h.0.0; word = h.0.1; width = h.0.2; select = h.1 }) (λ h. ((h.on, h.word, h.width), h.select))
    (both (three (equal u b.unit) (equal (outgoing x v) b.word) (equal (min x.width 16) b.width)) (equal x.select (select_of b.device)))

pub sends : (c : Chip) (b : Option Begun) (made : Move) → Decides (sends_right c b made) (SendsRight c (option_map begun_of b) made)
sends c None (Write (regs.SerialData u) v) = no (λ h. h)
sends c None (Write _ v) = yes tt
sends c None (Read r) = yes tt
sends c None (Load k) = yes tt
sends c None (Store k v) = yes tt
sends c None Mask = yes tt
sends c None Unmask = yes tt
sends c None (Note n) = yes tt
sends c None (Report e) = yes tt
sends c (Some b) (Write (regs.SerialData u) v) = begun (unit_at c.serials u) u v b
sends c (Some b) (Write _ v) = no (λ h. h)
sends c (Some b) (Read r) = no (λ h. h)
sends c (Some b) (Load k) = no (λ h. h)
sends c (Some b) (Store k v) = no (λ h. h)
sends c (Some b) Mask = no (λ h. h)
sends c (Some b) Unmask = no (λ h. h)
sends c (Some b) (Note n) = no (λ h. h)
sends c (Some b) (Report e) = no (λ h. h)
