-- A round of a converter unit, by the times at which its inputs end.
use Rattle.std.specs.Prelude.{ℕ, ◌-◌, ◌*◌, ◌/◌, ◌%◌, ◌^◌, min, Bool, ◌&&◌, not, ◌==◌, nat_lt, if◌then◌else◌, Option, Some, None, is_some, unwrap_or, List, replicate, slice_index}

-- When a round began, how many inputs it has, the list registers as they stood there, and when it was aborted,
-- or acknowledged once it was finished: from there on it is over.
pub record Round : Type 0 where
  pub start : ℕ
  pub count : ℕ
  pub list : List ℕ
  pub closed : Option ℕ

-- a round that begins
abbrev pub opened : (start count : ℕ) → List ℕ → Round
opened start count list = record { start = start; count = count; list = list; closed = None }

-- what stands before the first round: one without inputs, which is over
abbrev pub no_round : Round
no_round = record { start = 0; count = 0; list = replicate 8 0; closed = Some 0 }

-- the number of input i, from 0: four in a list register, the lowest byte first
abbrev pub input_of : Round → ℕ → ℕ
input_of r i = slice_index r.list (i / 4) / 2 ^ (8 * (i % 4)) % 256

-- a round that is over went on until it was aborted or acknowledged
abbrev pub ran_until : Round → ℕ → ℕ
ran_until r now = min now (unwrap_or r.closed now)

-- the number of its inputs that have ended: each takes 4 ticks, one after the other
abbrev pub ended : Round → ℕ → ℕ
ended r now = min r.count ((ran_until r now - r.start) / 4)

abbrev pub has_ended : Round → (i now : ℕ) → Bool
has_ended r i now = nat_lt i (ended r now)

-- the unit is idle: the round is over
abbrev pub is_idle : Round → Bool
is_idle r = is_some r.closed

abbrev pub is_finished : Round → ℕ → Bool
is_finished r now = not (is_idle r) && ended r now == r.count

abbrev pub is_running : Round → ℕ → Bool
is_running r now = not (is_idle r) && not (ended r now == r.count)

-- idle, running or finished
abbrev pub state : Round → ℕ → ℕ
state r now = if is_idle r then 0 else (if ended r now == r.count then 2 else 1)

-- the round is over at that time
abbrev pub over : ℕ → Round → Round
over now r = record r { closed = Some now }
