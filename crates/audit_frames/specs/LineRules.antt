-- What a frame has done with lines, and what it may do with them.
use Rattle.std.specs.Prelude.{ℕ, Bool, true, false, ◌&&◌, ◌||◌, not, ◌==◌, cond, List, [], ◌∷◌, Option, Some, None, bit_and, bit_or}
use Rattle.mcal_base.specs.Bits.{has_bit}
use Rattle.mcal_base.specs.declared.moves.Event.{Event}
use Rattle.mcal_base.specs.declared.moves.Event.TheVariants.{Act, Serve, Abort, Start}
use Rattle.audit_frames.specs.Masks.{with_bit, with_bits, has_any, includes}
use Rattle.audit_frames.specs.declared.lines.Lines.{Lines}
use Rattle.audit_frames.specs.declared.terms.Task.{Task}
use Rattle.audit_frames.specs.declared.terms.Task.TheVariants.{Call, Line}

-- nothing was done yet
abbrev pub lines_none : Lines
lines_none = record { polled = 0; served = 0; missed = 0; has_served = false }

-- a call that acts polls its lines there
abbrev pub polled_after : Task → (polled : ℕ) → Option Event → (polls : List ℕ) → ℕ
polled_after (Call c) polled (Some Act) polls = with_bits 0 polls
polled_after (Call c) polled (Some (Serve l)) polls = polled
polled_after (Call c) polled (Some (Abort u)) polls = polled
polled_after (Call c) polled (Some (Start u)) polls = polled
polled_after (Call c) polled None polls = polled
polled_after (Line l) polled e polls = polled

abbrev pub served_after : (served : ℕ) → Option Event → ℕ
served_after served (Some (Serve l)) = with_bit served l
served_after served (Some Act) = served
served_after served (Some (Abort u)) = served
served_after served (Some (Start u)) = served
served_after served None = served

abbrev pub has_served_after : Bool → Option Event → Bool
has_served_after b (Some (Serve l)) = true
has_served_after b (Some Act) = b
has_served_after b (Some (Abort u)) = b
has_served_after b (Some (Start u)) = b
has_served_after b None = b

-- after a step with this event, before which these lines weren't ready
abbrev pub lines_after : Lines → Task → Option Event → (polls : List ℕ) → (unready : ℕ) → Lines
lines_after x task e polls unready = record {
  polled = polled_after task x.polled e polls;
  served = served_after x.served e;
  missed = bit_or x.missed unready;
  has_served = has_served_after x.has_served e;
}

-- the line is one that is polled, and neither it nor one that comes after it was served
abbrev pub is_next : (polls : List ℕ) → (served line : ℕ) → Bool
is_next [] served line = false
is_next (l ∷ ls) served line = cond (l == line) (not (has_any served (l ∷ ls))) (is_next ls served line)

-- a call may serve a line that it polls, in their order, and with no notice owed, a handler its own, once
abbrev pub may_serve : Lines → Task → (polls : List ℕ) → (line : ℕ) → (owes : Bool) → Bool
may_serve x (Call c) polls line owes = is_next polls x.served line && not owes
may_serve x (Line own) polls line owes = line == own && not x.has_served

-- each line that a call polled, and a handler's own, was served, or wasn't ready at a step of the frame
abbrev pub are_met : Lines → Task → Bool
are_met x (Call c) = includes x.polled (bit_or x.served x.missed)
are_met x (Line own) = has_bit (bit_or x.served x.missed) own

-- no unit of a line waits that a call polled and served, or that was a handler's own and was served
abbrev pub are_left : Lines → Task → (calm : ℕ) → Bool
are_left x (Call c) calm = includes (bit_and x.polled x.served) calm
are_left x (Line own) calm = not (has_bit x.served own) || has_bit calm own
