-- The moves that a window makes: which one is next, and what is left after it.
-- Used by adc_driver: bookkeeping.MaskDiscipline, adc_driver: bookkeeping.PendingWritesRight and 28 more.
use Rattle.std.specs.Prelude.{ℕ, ◌+◌, ◌==◌, ◌&&◌, not, nat_lt, nat_le, Bool, if◌then◌else◌, Option, Some, None, is_some, List, length, slice_get}
use Rattle.adc_groups.specs.StepTerms
use StepTerms.{AdcTable, Add, add_gave, add_left, add_move, Again, again_gave, again_left, again_move, Continuation}
use StepTerms.{ConverterAbort, Drop, drop_gave, drop_left, drop_move, EnableClear, Event, LINES, Move, Next}
use StepTerms.{next_gave, next_left, next_move, put_gave, put_left, put_move, Read, Store, StructureOp, take_gave}
use StepTerms.{take_left, take_move, Unmask, WindowWrite, word_number, Write, WriteBatch}
use Rattle.adc_groups.specs.declared.making.StructureOp.TheVariants.{Put, Take}

abbrev pub deed_move : AdcTable → WindowWrite → Move
deed_move d (WindowWrite.Set w v) = Store (word_number d w) v
deed_move d (WindowWrite.Write r v) = Write r v
deed_move d (WindowWrite.Abort u) = Read (ConverterAbort u)
deed_move d WindowWrite.Disable = Write EnableClear LINES

-- ---- changes of orders and banks

abbrev pub shape_move : StructureOp → Move
shape_move (Add r) = add_move r
shape_move (Again r) = again_move r
shape_move (Drop r) = drop_move r
shape_move (Next r) = next_move r
shape_move (Put r) = put_move r
shape_move (Take r) = take_move r

abbrev pub shape_left : StructureOp → ℕ → StructureOp
shape_left (Add r) x = Add (add_left r x)
shape_left (Again r) x = Again (again_left r x)
shape_left (Drop r) x = Drop (drop_left r x)
shape_left (Next r) x = Next (next_left r x)
shape_left (Put r) x = Put (put_left r x)
shape_left (Take r) x = Take (take_left r x)

abbrev pub shape_over : StructureOp → ℕ → Bool
shape_over (Add r) x = is_some (add_gave r x).ended
shape_over (Again r) x = is_some (again_gave r x).ended
shape_over (Drop r) x = is_some (drop_gave r x).ended
shape_over (Next r) x = is_some (next_gave r x).ended
shape_over (Put r) x = is_some (put_gave r x).ended
shape_over (Take r) x = is_some (take_gave r x).ended

-- what is left of a change after a step, none where it was the last one
abbrev pub shape_after : StructureOp → ℕ → Option StructureOp
shape_after s x = if shape_over s x then None else Some (shape_left s x)

abbrev pub more_of : Option StructureOp → ℕ → Option StructureOp
more_of None x = None
more_of (Some s) x = shape_after s x

-- ---- the moves of a window

-- the change that it is at
abbrev pub either_shape : Option StructureOp → Option StructureOp → Option StructureOp
either_shape (Some s) b = Some s
either_shape None b = b

-- it is at the move of its event, which comes before all changes
abbrev pub is_first : WriteBatch → Bool
is_first m = is_some m.event && (m.ahead == 0 && (m.made == 0 && is_some (slice_get m.deeds 0)))

abbrev pub under_work : WriteBatch → Option StructureOp
under_work m = if is_first m then None else either_shape m.order m.banks

abbrev pub deed_or_open : AdcTable → Option WindowWrite → Move
deed_or_open d None = Unmask
deed_or_open d (Some x) = deed_move d x

abbrev pub making_by : AdcTable → WriteBatch → Option StructureOp → Move
making_by d m (Some s) = shape_move s
making_by d m None = deed_or_open d (slice_get m.deeds m.made)

abbrev pub making_move : AdcTable → WriteBatch → Move
making_move d m = making_by d m (under_work m)

-- one more was made
abbrev pub one_made : WriteBatch → WriteBatch
one_made m = if nat_lt m.made (length m.deeds) then record m { made = m.made + 1 } else m

abbrev pub banks_left : WriteBatch → Option StructureOp → ℕ → WriteBatch
banks_left m None x = one_made m
banks_left m (Some s) x = record m { banks = shape_after s x }

abbrev pub order_left : WriteBatch → Option StructureOp → ℕ → WriteBatch
order_left m None x = banks_left m m.banks x
order_left m (Some s) x = record m { order = shape_after s x }

abbrev pub making_left : WriteBatch → ℕ → WriteBatch
making_left m x = if is_first m then one_made m else order_left m m.order x

abbrev pub making_event : WriteBatch → Option Event
making_event m = if m.made == m.ahead then m.event else None

-- all were made
abbrev pub making_over : WriteBatch → Bool
making_over m = not (is_some m.order) && (not (is_some m.banks) && nat_le (length m.deeds) m.made)

-- moves with this event at the first, and what comes after them
abbrev pub making : Option Event → List WindowWrite → Continuation → WriteBatch
making e ds t = record { deeds = ds; made = 0; event = e; ahead = 0; order = None; banks = None; after = t }
