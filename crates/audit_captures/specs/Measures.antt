-- What a measurement is followed by, edge by edge.
use Rattle.std.specs.Prelude.{ℕ, ◌+◌, ◌-◌, ◌%◌, ◌^◌, Bool, true, not, ◌&&◌, if◌then◌else◌, Option, Some, None, List, [], ◌∷◌, ◌++◌, map}
use Rattle.module_machines.specs.icu.Edges.{Edge, is_same}
use Rattle.mcal_base.specs.declared.config.icu.IcuSignalMeasurementProperty.{IcuSignalMeasurementProperty as Property}
use Rattle.mcal_base.specs.declared.config.icu.IcuSignalMeasurementProperty.TheVariants.{HighTime, LowTime, PeriodTime, DutyCycle}

-- a measure that began and wasn't ended or broken: its first edge and those behind it
pub record Begun : Type 0 where
  pub first : Edge
  pub behind : List Edge

-- the edge ends measures that began, or breaks them
abbrev pub goes_on : (last : Bool) → Edge → Bool
goes_on last e = not e.after_gap && not (is_same e.rising last)

abbrev pub ends : (last : Bool) → Edge → Bool
ends last e = not e.after_gap && is_same e.rising last

-- none of these ends or breaks a measure
abbrev pub all_go_on : (last : Bool) → List Edge → Bool
all_go_on last [] = true
all_go_on last (e ∷ es) = goes_on last e && all_go_on last es

-- the measures that wait for their end, in the order of their beginnings
abbrev pub waiting : (first last : Bool) → List Edge → List Begun
waiting first last [] = []
waiting first last (e ∷ es) = (if is_same e.rising first && all_go_on last es then record { first = e; behind = es } ∷ [] else []) ++ waiting first last es

-- one that begins at an edge
abbrev pub fresh : Edge → Begun
fresh e = record { first = e; behind = [] }

-- with one more edge
abbrev pub longer : Edge → Begun → Begun
longer e b = record { first = b.first; behind = b.behind ++ e ∷ [] }

abbrev pub whole : Begun → List Edge
whole b = b.first ∷ b.behind

-- those that an edge ends
abbrev pub ended : (last : Bool) → List Begun → Edge → List (List Edge)
ended last bs e = if ends last e then map (λ b. whole (longer e b)) bs else []

-- what was seen of the newest one: nothing, its first edge, or that with one behind it
pub data OpenMeasure : Type 0 where
  Nothing_seen : OpenMeasure
  Start_seen : (start : ℕ) → OpenMeasure
  Next_seen : (start next : ℕ) → OpenMeasure

abbrev pub seen_behind : (start : ℕ) → List Edge → OpenMeasure
seen_behind start [] = Start_seen start
seen_behind start (e ∷ es) = Next_seen start e.time

abbrev pub seen_of : Option Begun → OpenMeasure
seen_of None = Nothing_seen
seen_of (Some b) = seen_behind b.first.time b.behind

-- what an edge makes of it
abbrev pub followed : ℕ → OpenMeasure → OpenMeasure
followed time Nothing_seen = Nothing_seen
followed time (Start_seen a) = Next_seen a time
followed time (Next_seen a b) = Next_seen a b

abbrev pub seen_with : (first last : Bool) → Edge → OpenMeasure → OpenMeasure
seen_with first last e s =
    if is_same e.rising first then Start_seen e.time
    else if goes_on last e then followed e.time s else Nothing_seen

-- the values that an edge tells by what was seen
abbrev pub span : (start now : ℕ) → ℕ
span a b = (b + 2 ^ 32 - a) % 2 ^ 32

abbrev pub time_told : ℕ → OpenMeasure → Option (List ℕ)
time_told now Nothing_seen = None
time_told now (Start_seen a) = Some (span a now ∷ [])
time_told now (Next_seen a b) = Some (span a now ∷ [])

abbrev pub duty_told : ℕ → OpenMeasure → Option (List ℕ)
duty_told now (Next_seen a b) = Some (span a b ∷ span a now ∷ [])
duty_told now _ = None

abbrev pub values_told : Property → ℕ → OpenMeasure → Option (List ℕ)
values_told HighTime now s = time_told now s
values_told LowTime now s = time_told now s
values_told PeriodTime now s = time_told now s
values_told DutyCycle now s = duty_told now s

abbrev pub told_with : Property → (last : Bool) → Edge → OpenMeasure → Option (List ℕ)
told_with p last e s = if ends last e then values_told p e.time s else None
