-- How a call ends, by what is printed.
use Rattle.std.proofs.Common.{◌≡◌, ℕ, List, Bool, true, false, inl, inr, refl, sym, ap₂, subst, ◌∙◌}
use Rattle.std.specs.Prelude.{Result, Ok, Err, if◌then◌else◌}
use Rattle.bench_sweep.specs.Parts.{pieces_of}
use Rattle.bench_sweep.specs.declared.marking.Marks.{Marks}
use Rattle.bench_sweep.specs.declared.parting.Parts.{Parts}
use Rattle.bench_top.specs.Judged.{Ending}
use Rattle.sweep_trials.specs.Stops.{StopsOpening, Unless}
use Rattle.sweep_trials.specs.Trials.{IsBlock}
use Rattle.sweep_trials.specs.declared.opened.Opened.{Opened}
use Rattle.sweep_trials.specs.declared.reactions.Following.{Following}
use Rattle.sweep_trials.specs.declared.reactions.Reaction.{Reaction}
use Rattle.sweep_trials.specs.declared.stop.Stop.{Stop}
use Rattle.sweep_trials.specs.declared.stop.Stop.TheVariants as stops
use Rattle.sweep_top.specs.Reads.{SweepFile}
use Rattle.sweep_top.specs.Reported.{IsAtLimit, IsReported}
use Rattle.sweep_top.specs.Sweeps.{EndsSo, EndsSweep, IsOpenOf, IsTold, Opening, PrintsSo, Stops, file_of, is_memory}
use Rattle.sweep_top.specs.declared.ends.SweepEnd.{SweepEnd}
use Rattle.sweep_top.specs.declared.ends.SweepEnd.TheVariants.{Stopped}
use Rattle.sweep_top.specs.declared.top.Printed.{Printed}
use Rattle.sweep_top.specs.declared.words.Asked.{Asked}

-- what is printed is how the sweep of a file ends
pub ends_so : (asked : Asked) (f : SweepFile) (r : Result Printed SweepEnd) (ending : Ending) → PrintsSo r ending → EndsSweep asked f ending → EndsSo asked (Ok f) r
ends_so asked f (Ok printed) ending p e = (subst (λ (x : Ending). EndsSweep asked f x) (sym p.0) e, p.1)
ends_so asked f (Err end) ending p e = λ m. let never : true ≡ false = sym p ∙ m in absurd (cc)

-- the status of what was tried
pub status_told : (b : Bool) → IsTold (if b then 8 else 0)
status_told true = inr refl
status_told false = inl refl

-- a stop has its reason, where memory wasn't wanting
pub stop_told : (P : Stop → Type 0) (stop : Stop) → is_memory (Stopped stop) ≡ false → Unless P stop → P stop
stop_told P stops.TooManyDirectives m u = u
stop_told P stops.TooManySteps m u = u
stop_told P stops.TooManyInAll m u = u
stop_told P stops.TooManyNotices m u = u
stop_told P stops.TooLongReport m u = u
stop_told P (stops.NoPlace n) m u = u
stop_told P stops.NoMemory m u = absurd (cc)

-- the block of a file that was read was opened, with what follows notices by its lines
abbrev pub file_with : (configuration script : List ℕ) → Marks → Parts → List Reaction → SweepFile
file_with configuration script marks parts reactions = record { configuration = configuration; script = script; marks = marks; pieces = pieces_of parts; reactions = reactions }

pub read_ends : (asked : Asked) (configuration script : List ℕ) (marks : Marks) (parts : Parts) (following : Following) (at : List ℕ) (reactions : List Reaction) (o : Opened) (r : Result Printed SweepEnd) → at ≡ configuration → following.calls.now ≡ reactions → following.sweep ≡ marks.sweep → following.over ≡ marks.over → IsBlock (IsReported at) following parts.before.now parts.block.now o
    → (IsOpenOf (file_of at script marks parts following) following o → EndsSo asked (Ok (file_of at script marks parts following)) r) → EndsSo asked (Ok (file_with configuration script marks parts reactions)) r
read_ends asked configuration script marks parts following at reactions o r e f s v opened ends =
    let same : file_of at script marks parts following ≡ file_with configuration script marks parts reactions = ap₂ (λ (c : List ℕ) (rs : List Reaction). file_with c script marks parts rs) e f in
    subst (λ (x : SweepFile). EndsSo asked (Ok x) r) same (ends (record { follows = record { calls = refl; sweep = s; over = v }; block = opened }))

-- a block that isn't opened
pub opening_ends : (asked : Asked) (configuration script : List ℕ) (marks : Marks) (parts : Parts) (following : Following) (at : List ℕ) (reactions : List Reaction) (stop : Stop) → at ≡ configuration → following.calls.now ≡ reactions → following.sweep ≡ marks.sweep → following.over ≡ marks.over → Unless (StopsOpening (IsReported at) (IsAtLimit at) following parts.before.now parts.block.now) stop
    → EndsSo asked (Ok (file_with configuration script marks parts reactions)) (Err (Stopped stop))
opening_ends asked configuration script marks parts following at reactions stop e f s v u =
    let same : file_of at script marks parts following ≡ file_with configuration script marks parts reactions = ap₂ (λ (c : List ℕ) (rs : List Reaction). file_with c script marks parts rs) e f in
    subst (λ (x : SweepFile). EndsSo asked (Ok x) (Err (Stopped stop))) same (λ m. Stops stop (Opening following (record { calls = refl; sweep = s; over = v }) (stop_told (StopsOpening (IsReported at) (IsAtLimit at) following parts.before.now parts.block.now) stop m u)))
