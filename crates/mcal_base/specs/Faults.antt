-- The count of faults of the objects in memory.
use Rattle.std.specs.Prelude.{ℕ, zero, suc, ◌+◌, ◌-◌, ◌^◌, ◌==◌, nat_lt, min, Bool, not, ◌||◌, List, length, take, drop, ◌++◌, if◌then◌else◌}
use Rattle.std.specs.List.{list_any}

-- how many of the numbers from 1 to the given one are in the list
abbrev pub failing_calls : List ℕ → ℕ → ℕ
failing_calls failing zero = 0
failing_calls failing (suc n) = failing_calls failing n + (if list_any (λ k. k == suc n) failing then 1 else 0)

-- the last value of u64
abbrev pub last : ℕ
last = 2 ^ 64 - 1

-- the number of calls whose number is in the list, and full others; from the last number of a call on it is that number
abbrev pub faults_of : List ℕ → ℕ → ℕ → ℕ
faults_of failing calls full = if calls == last then last else failing_calls failing calls + full

-- the number of the call after so many: from the last value on it stays there
abbrev pub next_call : ℕ → ℕ
next_call calls = if calls == last then last else calls + 1

-- the call with this number fails: it is in the list, or is the last value
abbrev pub fails_at : List ℕ → ℕ → Bool
fails_at failing number = number == last || list_any (λ k. k == number) failing

-- A source in memory, by the bytes that it has left.
pub record Listing : Type 0 where
  pub left : List ℕ
  pub most : ℕ
  pub failing : List ℕ
  pub calls : ℕ

abbrev pub source_faults : Listing → ℕ
source_faults s = faults_of s.failing s.calls 0

-- its next read fails
abbrev pub read_fails : Listing → Bool
read_fails s = fails_at s.failing (next_call s.calls)

-- how many bytes a read into so much room gives, where it doesn't fail
abbrev pub given : Listing → ℕ → ℕ
given s wanted = min (min s.most wanted) (length s.left)

-- the source after a read
abbrev pub after_read : Listing → ℕ → Listing
after_read s wanted = record {
  left = if read_fails s then s.left else drop (given s wanted) s.left;
  most = s.most;
  failing = s.failing;
  calls = next_call s.calls;
}

-- A sink in memory, by the bytes that it has taken; full counts the other writes that found no room.
pub record Filling : Type 0 where
  pub taken : List ℕ
  pub most : ℕ
  pub room : ℕ
  pub failing : List ℕ
  pub calls : ℕ
  pub full : ℕ

abbrev pub sink_faults : Filling → ℕ
sink_faults s = faults_of s.failing s.calls s.full

-- its next write has a number that fails
abbrev pub number_fails : Filling → Bool
number_fails s = fails_at s.failing (next_call s.calls)

-- it keeps as many bytes as it has room for
abbrev pub is_full : Filling → Bool
is_full s = not (nat_lt (length s.taken) s.room)

-- its next write fails
abbrev pub write_fails : Filling → Bool
write_fails s = number_fails s || is_full s

-- how many of so many bytes a write takes, where it doesn't fail
abbrev pub accepted : Filling → ℕ → ℕ
accepted s offered = min (min s.most offered) (s.room - length s.taken)

-- the sink after a write of a piece
abbrev pub after_write : Filling → List ℕ → Filling
after_write s piece = record {
  taken = if write_fails s then s.taken else s.taken ++ take (accepted s (length piece)) piece;
  most = s.most;
  room = s.room;
  failing = s.failing;
  calls = next_call s.calls;
  full = if number_fails s then s.full else if is_full s then s.full + 1 else s.full;
}
