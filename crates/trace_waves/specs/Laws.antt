-- What holds of changes.
use Rattle.std.specs.Prelude.{◌≡◌, ◌≢◌, ℕ, suc, ◌==◌, List, [], ◌∷◌, Bool, true, false, if◌then◌else◌}
use Rattle.trace_waves.specs.Signals.{slot}
use Rattle.trace_waves.specs.Values.{value_text, first_at}
use Rattle.trace_waves.specs.declared.board.Change.{Change}
use Rattle.trace_waves.specs.declared.signal.Signal.{Signal}
use Rattle.trace_waves.specs.declared.value.Value.{Value}

-- the value of each signal, by its number, behind a change and behind many
abbrev pub behind : (ℕ → Value) → Change → ℕ → Value
behind values c n = if n == slot c.signal then c.value else values n

abbrev pub behind_all : (ℕ → Value) → List Change → ℕ → Value
behind_all values [] n = values n
behind_all values (c ∷ cs) n = behind_all (behind values c) cs n

-- Each change is to another value than its signal has, as it is written.
abbrev pub AreChanges : (ℕ → Value) → List Change → Type 0
AreChanges values [] = Unit {0}
AreChanges values (c ∷ cs) = (value_text (values (slot c.signal)) ≢ value_text c.value) × AreChanges (behind values c) cs

-- Two lists of what signals are to have leave each signal with the same value, as it is written.
abbrev pub LeaveSame : List Change → List Change → Type 0
LeaveSame cs ds = (n : ℕ) → value_text (behind_all first_at cs n) ≡ value_text (behind_all first_at ds n)

-- some change is of the signal of a number
abbrev pub changes_in : ℕ → List Change → Bool
changes_in n [] = false
changes_in n (c ∷ cs) = if n == slot c.signal then true else changes_in n cs

-- how often the signal of a number is declared
abbrev pub declared_times : ℕ → List Signal → ℕ
declared_times n [] = 0
declared_times n (s ∷ signals) = if n == slot s then suc (declared_times n signals) else declared_times n signals

-- A signal that changes is declared once, and no other is.
abbrev pub DeclaresOnce : List Signal → List Change → Type 0
DeclaresOnce signals cs = (n : ℕ) → declared_times n signals ≡ (if changes_in n cs then 1 else 0)
