-- How changes are found: a signal that is to have a value changes where it has another.
use Rattle.std.specs.Prelude.{List, [], ◌∷◌, ◌++◌, slice_index_or, slice_set, replicate, is_some, Option, Some, None, unwrap_or, bytes_eq, if◌then◌else◌}
use Rattle.trace_waves.specs.Signals.{slot}
use Rattle.trace_waves.specs.Values.{value_text, first_at}
use Rattle.trace_waves.specs.declared.board.Change.{Change}
use Rattle.trace_waves.specs.declared.signal.Signal.{Signal}
use Rattle.trace_waves.specs.declared.value.Value.{Value}

-- the value of each signal that changed, by its number; the changes; and the signals that changed, in the order of their first changes
pub record Board : Type 0 where
  pub values : List (Option Value)
  pub changes : List Change
  pub signals : List Signal

abbrev pub empty : Board
empty = record { values = replicate 270 None; changes = []; signals = [] }

-- the value of a signal
abbrev pub value_in : List (Option Value) → Signal → Value
value_in values signal = unwrap_or (slice_index_or values (slot signal) None) (first_at (slot signal))

-- with the signal of a change, if it is its first
abbrev pub with_signal : Board → Signal → Board
with_signal b signal = if is_some (slice_index_or b.values (slot signal) None) then b else record b { signals = b.signals ++ signal ∷ [] }

abbrev pub added : Board → Change → Board
added b c = record (with_signal b c.signal) { values = slice_set b.values (slot c.signal) (Some c.value); changes = b.changes ++ c ∷ [] }

-- a signal is to have a value
unfoldable pub put : Board → Change → Board
put b c = if bytes_eq (value_text (value_in b.values c.signal)) (value_text c.value) then b else added b c

-- so are many, one after another
abbrev pub put_all : Board → List Change → Board
put_all b [] = b
put_all b (c ∷ cs) = put_all (put b c) cs
