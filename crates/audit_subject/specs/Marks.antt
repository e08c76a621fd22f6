-- What a call owes, as bits of a mask.
use Rattle.std.specs.Prelude.{ℕ, ◌+◌, ◌*◌, Bool, true, List, [], ◌∷◌, map, Option, Some, None}
use Rattle.std.specs.Simd.Lanes.{mask_l}
use Rattle.mcal_base.specs.Bits.{bit_of}
use Rattle.mcal_base.specs.declared.moves.Move.{Move}
use Rattle.audit_frames.specs.Told.{is_of_kind}

-- the move is of the kind, and where there is none any kind counts
abbrev pub is_met : Option Move → (Move → Bool) → Bool
is_met None kind = true
is_met (Some made) kind = is_of_kind kind made

-- a bit for each of these kinds, the first one's in bit 0: set where it counts
abbrev pub marks : Option Move → List (Move → Bool) → ℕ
marks made kinds = mask_l (map (is_met made) kinds)

-- a mask with the bits of these kinds below the others
abbrev pub with_marks : Option Move → List (Move → Bool) → (mask : ℕ) → ℕ
with_marks made [] mask = mask
with_marks made (kind ∷ kinds) mask = bit_of (is_met made kind) + 2 * with_marks made kinds mask
