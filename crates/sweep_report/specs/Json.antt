-- The JSON of a sweep.
use Rattle.std.specs.Prelude.{ℕ, ◌++◌, ◌&&◌, List, [], codes, flat_map, map, string_bytes, vec_len, if◌then◌else◌}
use Rattle.std.specs.Str.Lines.{lines}
use Rattle.serde_json.specs.Data.{Data, array, member, no_members, number, object, string, unsigned}
use Rattle.serde_json.specs.View.{items_of}
use Rattle.serde_json.specs.Written.{compact_text}
use Rattle.mcal_base.specs.declared.directive.Directive.{Directive}
use Rattle.bench_sweep.specs.declared.outcomes.Outcome.{Outcome}
use Rattle.bench_sweep.specs.declared.outcomes.Told.{Told}
use Rattle.sweep_trials.specs.Standings.{standing_text}
use Rattle.sweep_trials.specs.declared.reactions.Reaction.{Reaction}
use Rattle.sweep_trials.specs.declared.summary.Group.{Group}
use Rattle.sweep_trials.specs.declared.summary.Row.{Row}
use Rattle.sweep_report.specs.Page.{first_told}
use Rattle.sweep_report.specs.Table.{Table, asked_on, is_common, is_listed, longest_wait, told_at, waiting}

abbrev pub count : ℕ → Data
count n = number (unsigned n)

-- what directives ask for
abbrev pub part_data : List ℕ → List Directive → Data
part_data script directives = array (items_of (map (λ d. string (asked_on script d.line)) directives))

-- the lines that say what follows notices
abbrev pub reactions_data : List ℕ → List Reaction → Data
reactions_data script reactions = array (items_of (map (λ r. string (asked_on script r.directive.line)) reactions))

-- a row of places
abbrev pub row_data : Row → Data
row_data r = object (member (codes "first") (count r.first) (member (codes "first_name") (string (string_bytes r.first_name)) (member (codes "last") (count r.last) (member (codes "last_name") (string (string_bytes r.last_name)) (member (codes "longest_wait") (count r.wait) no_members)))))

-- a printed line, beside the number of the line of the file
abbrev pub line_data : ℕ → List ℕ → Data
line_data line text = object (member (codes "line") (count line) (member (codes "text") (string text) no_members))

-- what a line of the file printed
abbrev pub told_data : Told → List Data
told_data told = map (line_data told.line) (lines (string_bytes told.text))

-- what is told, unless all outcomes tell it
abbrev pub unshared_data : List Outcome → List Group → Told → List Data
unshared_data outcomes groups told = if is_common outcomes groups told then [] else told_data told

-- an outcome
abbrev pub group_data : Table → Group → Data
group_data t g =
    let told = flat_map (unshared_data t.swept.outcomes.items t.groups) (told_at t.swept.outcomes.items g.outcome) in
    object (member (codes "lines") (array (items_of told)) (member (codes "places") (count g.places) (member (codes "ranges") (array (items_of (map row_data g.rows.items))) (member (codes "standing") (string (standing_text g.standing)) no_members))))

-- what is told, where all outcomes tell it, and its line is one of which that is told
abbrev pub shared_data : Table → Told → List Data
shared_data t told = if is_listed t.pieces.swept t.reactions told.line && is_common t.swept.outcomes.items t.groups told then told_data told else []

-- a sweep
abbrev pub sweep_data : Table → Data
sweep_data t =
    object (member (codes "and") (part_data t.script t.pieces.second)
    (member (codes "common") (array (items_of (flat_map (shared_data t) (first_told t))))
    (member (codes "longest_wait") (count (longest_wait t.swept.settled.items))
    (member (codes "on") (reactions_data t.script t.reactions)
    (member (codes "outcomes") (array (items_of (map (group_data t) t.groups)))
    (member (codes "over") (part_data t.script t.pieces.block)
    (member (codes "places") (count (vec_len t.swept.settled))
    (member (codes "skipped") (count t.swept.skipped)
    (member (codes "swept") (part_data t.script t.pieces.swept)
    (member (codes "waiting") (count (waiting t.swept.settled.items)) no_members))))))))))

-- the line of it
abbrev pub json_line : Table → List ℕ
json_line t = compact_text (sweep_data t) ++ codes "\n"
