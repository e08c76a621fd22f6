-- Edges that were kept, and what is measured over those that were served.
use Rattle.std.specs.Prelude.{ℕ, ◌+◌, ◌-◌, ◌%◌, ◌^◌, Bool, true, false, not, if◌then◌else◌, Option, Some, None, List, [], ◌∷◌, ◌++◌}
use Rattle.std.specs.List.{filter_map}
use Rattle.std.specs.Option.{option_map}
use Rattle.mcal_base.specs.declared.config.icu.IcuSignalMeasurementProperty.{IcuSignalMeasurementProperty}
use Rattle.mcal_base.specs.declared.config.icu.IcuSignalMeasurementProperty.TheVariants.{LowTime, HighTime, PeriodTime, DutyCycle}
use Rattle.module_machines.specs.icu.Table.{starts_rising}
use Rattle.module_machines.specs.declared.icu.table.Channel.{Channel}

-- an edge: its time modulo 2^32, its direction, and whether others were lost since the one kept before it
pub record Edge : Type 0 where
  pub time : ℕ
  pub rising : Bool
  pub after_gap : Bool

-- two directions are the same
abbrev pub is_same : Bool → Bool → Bool
is_same true b = b
is_same false b = not b

-- the time from an edge to a later one, modulo 2^32
abbrev pub time_between : Edge → Edge → ℕ
time_between a b = (b.time + 2 ^ 32 - a.time) % 2 ^ 32

-- ---- measures: edges from a first one to a last one

-- the edges from here up to the next one of a direction, where none of them is after a gap
abbrev pub up_to : (rising : Bool) → List Edge → Option (List Edge)
up_to rising [] = None
up_to rising (e ∷ es) =
    if e.after_gap then None
    else if is_same e.rising rising then Some (e ∷ [])
    else option_map (λ xs. e ∷ xs) (up_to rising es)

-- the measure that begins at an edge, where its end was served
abbrev pub beginning_at : Edge → Option (List Edge) → List (List Edge)
beginning_at e None = []
beginning_at e (Some es) = (e ∷ es) ∷ []

-- the measures from an edge of the first direction to the next one of the last, in their order
abbrev pub measures : (first last : Bool) → List Edge → List (List Edge)
measures first last [] = []
measures first last (e ∷ es) = (if is_same e.rising first then beginning_at e (up_to last es) else []) ++ measures first last es

-- whether what a channel measures begins at a rising edge, and whether it ends at one
abbrev pub begins_rising : IcuSignalMeasurementProperty → Channel → Bool
begins_rising HighTime k = true
begins_rising LowTime k = false
begins_rising PeriodTime k = starts_rising k.start_edge
begins_rising DutyCycle k = starts_rising k.start_edge

abbrev pub ends_rising : IcuSignalMeasurementProperty → Channel → Bool
ends_rising HighTime k = false
ends_rising LowTime k = true
ends_rising PeriodTime k = starts_rising k.start_edge
ends_rising DutyCycle k = starts_rising k.start_edge

-- ---- values

-- the last of an edge and those behind it
abbrev pub last_of : Edge → List Edge → Edge
last_of e [] = e
last_of e (x ∷ xs) = last_of x xs

-- the value of a measure: the time that it took; for a duty cycle the time up to the opposite edge within it, and the time that it took
abbrev pub value_of : IcuSignalMeasurementProperty → List Edge → Option (List ℕ)
value_of DutyCycle (e ∷ x ∷ y ∷ ys) = Some (time_between e x ∷ time_between e (last_of y ys) ∷ [])
value_of DutyCycle _ = None
value_of _ [] = None
value_of _ (e ∷ es) = Some (time_between e (last_of e es) ∷ [])

-- the complete values over served edges, in their order
abbrev pub values_by : Option IcuSignalMeasurementProperty → Channel → List Edge → List (List ℕ)
values_by None k es = []
values_by (Some p) k es = filter_map (value_of p) (measures (begins_rising p k) (ends_rising p k) es)

abbrev pub values : Channel → List Edge → List (List ℕ)
values k es = values_by k.measured k es

-- the last of a list, where it has one
abbrev pub newest : {A : Type 0} → List A → Option A
newest [] = None
newest (x ∷ []) = Some x
newest (x ∷ y ∷ ys) = newest (y ∷ ys)
