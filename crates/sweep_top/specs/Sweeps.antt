-- What a call of the sweep prints of its bytes, and its status.
use Rattle.std.specs.Prelude.{◌≡◌, ◌≢◌, ◌⊎◌, ℕ, ◌-◌, ◌<◌, ◌≤◌, ◌||◌, Bool, true, false, List, [], Option, Some, None, Result, Ok, Err, codes, length, map, string_bytes, sum_by, vec_len, if◌then◌else◌}
use Rattle.std.specs.List.{All}
use Rattle.std.specs.Option.{IfSome}
use Rattle.std.specs.Io.KnownBytes.{Appends}
use Rattle.bench_sweep.specs.Groups.{count_with, numbers_in}
use Rattle.bench_sweep.specs.Parts.{pieces_of}
use Rattle.bench_sweep.specs.declared.fault.SweepFault.TheVariants as faults
use Rattle.bench_sweep.specs.declared.marking.Marks.{Marks}
use Rattle.bench_sweep.specs.declared.parting.Parts.{Parts}
use Rattle.bench_top.specs.Judged.{Ending}
use Rattle.sweep_trials.specs.Pairs.{IsSweptTwice}
use Rattle.sweep_trials.specs.Rows.{AreRowsOf, IsRowOf}
use Rattle.sweep_trials.specs.Shown.{IsPairSeen, IsPlaceSeen}
use Rattle.sweep_trials.specs.Standings.{has_neither, standing_of}
use Rattle.sweep_trials.specs.Stops.{AreFew, StopsNaming, StopsOnce, StopsOpening, StopsPair, StopsShown, StopsTwice, most_in_all, steps_of}
use Rattle.sweep_trials.specs.Trials.{IsBlock, IsSweptOnce, has_steps, part_end}
use Rattle.sweep_trials.specs.declared.followed.Followed.{Followed}
use Rattle.sweep_trials.specs.declared.opened.Opened.{Opened}
use Rattle.sweep_trials.specs.declared.reactions.Following.{Following}
use Rattle.sweep_trials.specs.declared.stop.Stop.{Stop}
use Rattle.sweep_trials.specs.declared.stop.Stop.TheVariants as stops
use Rattle.sweep_trials.specs.declared.summary.Group.{Group}
use Rattle.sweep_trials.specs.declared.swept.Swept.{Swept}
use Rattle.sweep_report.specs.Json.{json_line}
use Rattle.sweep_report.specs.Page.{page}
use Rattle.sweep_report.specs.Place.{flat_text}
use Rattle.sweep_report.specs.Table.{Table}
use Rattle.sweep_top.specs.Endings.{ended, stopped}
use Rattle.sweep_top.specs.Reads.{SweepFile, read}
use Rattle.sweep_top.specs.Reported.{IsAtLimit, IsReported}
use Rattle.sweep_top.specs.declared.ends.SweepEnd.{SweepEnd}
use Rattle.sweep_top.specs.declared.ends.SweepEnd.TheVariants.{Fault, NoMemory, Stopped, Usage}
use Rattle.sweep_top.specs.declared.top.Printed.{Printed}
use Rattle.sweep_top.specs.declared.words.Asked.{Asked}

-- what follows notices is what the file says, and what may stand between a notice and its call stands between the marks
pub record IsFollowing (f : SweepFile) (following : Following) : Type 0 where
  pub calls : following.calls.now ≡ f.reactions
  pub sweep : following.sweep ≡ f.marks.sweep
  pub over : following.over ≡ f.marks.over

-- the block of a file was opened
pub record IsOpenOf (f : SweepFile) (following : Following) (o : Opened) : Type 0 where
  pub follows : IsFollowing f following
  pub block : IsBlock (IsReported f.configuration) following f.pieces.before f.pieces.block o

-- the first place that is behind so many parts of those that are asked for
abbrev pub behind_parts : Asked → Opened → ℕ → ℕ
behind_parts asked o parts = part_end (vec_len o.all) parts asked.parts

-- All places of the asked part were tried, each once and in order: those of the block, or all pairs. All runs take no more steps than they
-- may.
pub record IsSwept (asked : Asked) (f : SweepFile) (following : Following) (o : Opened) (s : Swept) : Type 0 where
  pub few_once : length f.pieces.second ≡ 0 → steps_of o ≤ most_in_all
  pub few_twice : 0 < length f.pieces.second → AreFew (IsReported f.configuration) following f.pieces.swept o
  pub once : length f.pieces.second ≡ 0 → IsSweptOnce (IsReported f.configuration) following f.pieces.swept f.pieces.behind o (behind_parts asked o (asked.part - 1)) (behind_parts asked o asked.part) asked.first s
  pub twice : 0 < length f.pieces.second → IsSweptTwice (IsReported f.configuration) following f.pieces.swept f.pieces.second f.pieces.behind o (behind_parts asked o (asked.part - 1)) (behind_parts asked o asked.part) asked.first s

-- of so many ranges of places at most is told of each outcome, unless all are asked for
abbrev pub most_of : Asked → ℕ
most_of asked = if asked.all || asked.json then 18446744073709551615 else 4

-- the outcomes of what was tried: each once, in the order of their first places, with how it stands, how many places have it and where
pub record AreOutcomes (asked : Asked) (f : SweepFile) (following : Following) (o : Opened) (s : Swept) (groups : List Group) : Type 0 where
  pub outcomes : map (λ g. g.outcome) groups ≡ numbers_in s.settled.items
  pub standings : All (λ g. g.standing ≡ standing_of s g.outcome) groups
  pub places : map (λ g. g.places) groups ≡ map (λ n. count_with n s.settled.items) (numbers_in s.settled.items)
  pub rows : All (λ g. All (IsRowOf (IsReported f.configuration) following f.pieces.swept o s g.outcome) g.rows.items) groups
  pub ranges : All (λ g. AreRowsOf (IsReported f.configuration) following f.pieces.swept o s g.outcome (most_of asked) g.rows.items g.more) groups
  pub all : sum_by (λ g. g.places) groups ≡ vec_len s.settled

-- the table that is printed of a file
abbrev pub table_for : SweepFile → Swept → List Group → Table
table_for f s groups = record { script = f.script; pieces = f.pieces; reactions = f.reactions; swept = s; groups = groups }

-- the status of what was tried
abbrev pub status_of : Swept → ℕ
status_of s = if has_neither s then 8 else 0

-- the text of a table, as it is asked for
abbrev pub text_of : Asked → Table → List ℕ
text_of asked t = if asked.json then json_line t else page t

-- a table is printed, with the status of what was tried
abbrev pub told_of : Asked → Swept → Table → Ending
told_of asked s t = record { status = status_of s; text = text_of asked t }

-- The run of the place of a number, from 0: of the block, or the pair.
pub record IsShownAt (f : SweepFile) (following : Following) (o : Opened) (number : ℕ) (found : Followed) : Type 0 where
  pub once : length f.pieces.second ≡ 0 → IsPlaceSeen (IsReported f.configuration) following f.pieces.swept f.pieces.behind o number found
  pub twice : 0 < length f.pieces.second → IsPairSeen (IsReported f.configuration) following f.pieces.swept f.pieces.second f.pieces.behind o number found

-- the place of a number isn't shown: of the block, or the pair
pub record StopsShow (f : SweepFile) (following : Following) (o : Opened) (number : ℕ) (stop : Stop) : Type 0 where
  pub once : length f.pieces.second ≡ 0 → StopsShown (IsReported f.configuration) (IsAtLimit f.configuration) following f.pieces.swept f.pieces.behind o number stop
  pub twice : 0 < length f.pieces.second → StopsPair (IsReported f.configuration) (IsAtLimit f.configuration) following f.pieces.swept f.pieces.second f.pieces.behind o number stop

-- the places of the asked part aren't tried: those of the block, or all pairs
pub record StopsTrials (asked : Asked) (f : SweepFile) (following : Following) (o : Opened) (stop : Stop) : Type 0 where
  pub once : length f.pieces.second ≡ 0 → StopsOnce (IsReported f.configuration) (IsAtLimit f.configuration) following f.pieces.swept f.pieces.behind o (behind_parts asked o (asked.part - 1)) (behind_parts asked o asked.part) stop
  pub twice : 0 < length f.pieces.second → StopsTwice (IsReported f.configuration) (IsAtLimit f.configuration) following f.pieces.swept f.pieces.second f.pieces.behind o stop

-- When the sweep of a file is stopped: its block isn't opened, the place that is asked for isn't shown, or the places aren't tried. Where
-- pairs are told of, the block of each opens once more, for its name.
pub data StopsSweep (asked : Asked) (f : SweepFile) (stop : Stop) : Type 0 where
  Opening : (following : Following) → IsFollowing f following → StopsOpening (IsReported f.configuration) (IsAtLimit f.configuration) following f.pieces.before f.pieces.block stop → StopsSweep asked f stop
  Show : (following : Following) (o : Opened) (place : ℕ) → asked.show ≡ Some place → IsOpenOf f following o → has_steps o ≡ true → StopsShow f following o (place - 1) stop → StopsSweep asked f stop
  Trials : (following : Following) (o : Opened) → asked.show ≡ None → IsOpenOf f following o → has_steps o ≡ true → StopsTrials asked f following o stop → StopsSweep asked f stop
  Naming : (following : Following) (o : Opened) (s : Swept) → asked.show ≡ None → IsOpenOf f following o → has_steps o ≡ true → IsSwept asked f following o s → StopsNaming (IsReported f.configuration) (IsAtLimit f.configuration) following f.pieces.swept o s.moments.items stop → StopsSweep asked f stop

-- the bench file of a flat script that was run
abbrev pub flat_ending : (configuration script : List ℕ) → Followed → Ending
flat_ending configuration script found = record { status = 0; text = flat_text configuration script found.flat.script.items found.flat.lines.items }

-- How the sweep of a file ends: it is stopped at a limit; no directive of the block makes a step; the bench file of a place is
-- printed; or the table of the outcomes of all its places.
pub data EndsSweep (asked : Asked) (f : SweepFile) : Ending → Type 0 where
  Stops : (stop : Stop) → StopsSweep asked f stop → EndsSweep asked f (stopped stop)
  NoStep : (following : Following) (o : Opened) → IsOpenOf f following o → has_steps o ≡ false → EndsSweep asked f (ended (Fault (faults.NoStep f.marks.over)))
  Shows : (following : Following) (o : Opened) (place : ℕ) (found : Followed) → asked.show ≡ Some place → IsOpenOf f following o → has_steps o ≡ true → IsShownAt f following o (place - 1) found → EndsSweep asked f (flat_ending f.configuration f.script found)
  Tells : (following : Following) (o : Opened) (s : Swept) (groups : List Group) → asked.show ≡ None → IsOpenOf f following o → has_steps o ≡ true → IsSwept asked f following o s → AreOutcomes asked f following o s groups → EndsSweep asked f (told_of asked s (table_for f s groups))

-- how a call ends whose bytes say this, or are refused
abbrev pub EndsFile : Asked → Result SweepFile SweepEnd → Ending → Type 0
EndsFile asked (Err end) ending = ending ≡ ended end
EndsFile asked (Ok f) ending = EndsSweep asked f ending

-- how a call ends on some bytes: the words come first
abbrev pub EndsOn : Option Asked → List ℕ → Ending → Type 0
EndsOn None bytes ending = ending ≡ ended Usage
EndsOn (Some asked) bytes ending = EndsFile asked (read bytes) ending

-- the call ended so: with the status of the ending, and all of its text was written
pub record IsSweepEnded (asked : Option Asked) (bytes : List ℕ) (status : ℕ) (before after : Option (List ℕ)) : Type 0 where
  pub ending : Ending
  pub ends : EndsOn asked bytes ending
  pub status_is : status ≡ ending.status
  pub written : Appends before after ending.text

-- ---- what a call prints, or why it tells of no outcomes

-- memory was wanting
abbrev pub is_memory : SweepEnd → Bool
is_memory NoMemory = true
is_memory (Stopped stops.NoMemory) = true
is_memory end = false

-- a reading gives what it is to give, unless memory was wanting
abbrev pub GivesSo : {V X : Type 0} → (V → X) → Result V SweepEnd → Result X SweepEnd → Type 0
GivesSo what (Ok v) wanted = wanted ≡ Ok (what v)
GivesSo what (Err end) wanted = is_memory end ≡ false → wanted ≡ Err end

-- the same of what is kept in a place
abbrev pub KeepsSo : {A X : Type 0} → Result A SweepEnd → X → Result X SweepEnd → Type 0
KeepsSo (Ok done) kept wanted = wanted ≡ Ok kept
KeepsSo (Err end) kept wanted = is_memory end ≡ false → wanted ≡ Err end

-- what is printed, with its status
abbrev pub ending_of : Printed → Ending
ending_of p = record { status = p.status; text = string_bytes p.text }

-- the status of outcomes that are told
abbrev pub IsTold : ℕ → Type 0
IsTold status = (status ≡ 0) ⊎ (status ≡ 8)

-- what is printed was written, with its status, unless the sink met a fault
abbrev pub IsWritten : (status : ℕ) (before after : Option (List ℕ)) → Option Printed → Type 0
IsWritten status before after printed = IfSome printed (λ p. status ≢ 3 → (status ≡ p.status) × Appends before after (string_bytes p.text))

-- this is printed of outcomes, unless memory was wanting
abbrev pub PrintsSo : Result Printed SweepEnd → Ending → Type 0
PrintsSo (Ok printed) ending = (ending_of printed ≡ ending) × IsTold printed.status
PrintsSo (Err end) ending = is_memory end ≡ true

-- a call ends as one whose bytes say this, or are refused
abbrev pub EndsSo : Asked → Result SweepFile SweepEnd → Result Printed SweepEnd → Type 0
EndsSo asked file (Ok printed) = EndsFile asked file (ending_of printed) × IsTold printed.status
EndsSo asked file (Err end) = is_memory end ≡ false → EndsFile asked file (ended end)

-- What is printed of bytes is an ending that they are to have, unless memory was wanting: then nothing is printed. It is no line of a
-- fault of the source or the sink.
pub record IsEnding (ends_as : Ending → Type 0) (p : Printed) : Type 0 where
  pub ends : p.status ≢ 4 → ends_as (ending_of p)
  pub silent : p.status ≡ 4 → string_bytes p.text ≡ []
  pub source : p.status ≢ 2
  pub sink : p.status ≢ 3

-- What is printed of a call is the ending of the bytes that its source tells, or the line of a fault that the source met.
pub record IsPrinted (left : Option (List ℕ)) (asked : Option Asked) (rose : Type 0) (p : Printed) : Type 0 where
  pub exact : p.status ≢ 2 → p.status ≢ 4 → IfSome left (λ bytes. EndsOn asked bytes (ending_of p))
  pub silent : p.status ≡ 4 → string_bytes p.text ≡ []
  pub read : p.status ≡ 2 → rose × (string_bytes p.text ≡ codes "read fault\n")
  pub sink : p.status ≢ 3

-- the file of a sweep that is to be made
abbrev pub file_of : (configuration script : List ℕ) → Marks → Parts → Following → SweepFile
file_of configuration script marks parts following = record { configuration = configuration; script = script; marks = marks; pieces = pieces_of parts; reactions = following.calls.now }
