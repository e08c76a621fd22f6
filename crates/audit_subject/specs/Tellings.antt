-- What comes of a step's event, where one stands there.
use Rattle.std.specs.Prelude.{◌≡◌, ℕ, Bool, true, false, List, map, Option, Some, None, slice_index_or}
use Rattle.std.specs.List.{range_with_len}
use Rattle.mcal_base.specs.declared.moves.Event.{Event}
use Rattle.run_model.specs.Frame.{time_or}
use Rattle.run_model.specs.Machine.{Outcome}
use Rattle.audit_base.specs.Deeds.{Follows}
use Rattle.audit_base.specs.declared.done.Done.{Done}
use Rattle.audit_subject.specs.declared.hearing.Heard.{Heard}

-- the times of the eight pulse channels, and now where there is none
abbrev pub times_at : List (Option ℕ) → (now : ℕ) → List ℕ
times_at times now = map (λ c. time_or now (slice_index_or times c None)) (range_with_len 0 8)

-- the event is done so where it is allowed; without one nothing begins, and what is kept stands for the state as it was
abbrev pub Came : {State : Type 0} → (stands : State → Type 0) → (before : State) → Option Event → Option Done → Option (Outcome State) → Type 0
Came stands s (Some e) done out = Follows stands s done out
Came stands s None None out = ⊥
Came stands s None (Some done) out = (done.begins ≡ None) × (out ≡ None) × stands s

-- what was written down of it, where the machine allows it
abbrev pub done_in : (allowed : Bool) → Heard → Option Done
done_in true h = Some (record { told = h.told; begins = h.begins })
done_in false h = None
