-- What a call leaves: its status, and what it has written.
use Rattle.std.specs.Prelude.{◌≡◌, ◌≢◌, ◌⊎◌, ℕ, ◌≤◌, List, [], length, take, Option}
use Rattle.std.specs.Io.KnownBytes.{Appends}
use Rattle.mcal_base.specs.Causes.{Rose}
use Rattle.trace_drawing.specs.Judged.{Ending, judged, ending_of}
use Rattle.trace_drawing.specs.declared.input.InputEnd.TheVariants.{Fault}
use Rattle.trace_drawing.specs.declared.program.Form.{Form}

-- The call ended with this ending: its status, and all of its text was written.
pub record IsEnded (ending : Ending) (status : ℕ) (before after : Option (List ℕ)) : Type 0 where
  pub status_is : status ≡ ending.status
  pub written : Appends before after ending.text

-- A front of a text was written.
pub record WritesFront (before after : Option (List ℕ)) (text : List ℕ) : Type 0 where
  pub count : ℕ
  pub within : count ≤ length text
  pub front : Appends before after (take count text)

-- A front of the text of this ending was written, or, where a read failed, a front of the line that says so.
abbrev pub FrontOf : Ending → Type 0 → Option (List ℕ) → Option (List ℕ) → Type 0
FrontOf ending failed before after = WritesFront before after ending.text ⊎ (failed × WritesFront before after (ending_of Fault).text)

-- The call ended as it is to end on some bytes, whatever is known of those that came.
pub record EndsOnSome (form : Option Form) (status : ℕ) (before after : Option (List ℕ)) : Type 0 where
  pub bytes : List ℕ
  pub ended : IsEnded (judged form bytes) status before after

-- How a call ends: its status, what the sink had and has taken, and the count of the sink's faults before and after.
pub record Concludes (ending : Ending) (status : ℕ) (before after : Option (List ℕ)) (faults now : ℕ) : Type 0 where
  pub known : status ≤ 9
  pub ends : status ≢ 3 → status ≢ 4 → IsEnded ending status before after
  pub front : status ≡ 3 → WritesFront before after ending.text
  pub nothing : status ≡ 4 → Appends before after []
  pub still : status ≢ 3 → now ≡ faults
  pub fault : status ≡ 3 → Rose faults now
