-- A sweep's file that is read, step by step, and how a call ends that is refused at one.
use Rattle.std.proofs.Common.{◌≡◌, ◌==◌, ◌≤◌, ◌<◌, ◌∙◌, ◌++◌, ◌+◌, ℕ, List, [], ◌∷◌, true, false, arith, drop, get_or, length, map, refl, sym, ap, subst}
use Rattle.std.specs.Prelude.{Option, Result, Some, Ok, Err}
use Rattle.std.specs.List.{All}
use Rattle.std.proofs.lemmas.Bool.{eqb-true}
use Rattle.std.proofs.lemmas.List.{drop_more}
use Rattle.std.proofs.lemmas.Option.{slice_get-get_or}
use Rattle.std.proofs.lemmas.List.Elements.{All-weaker}
use Rattle.mcal_base.specs.declared.config.whole.Config.{Config}
use Rattle.mcal_base.specs.declared.directive.Directive.{Directive}
use Rattle.bench_script.specs.Steps.{◌>>=◌}
use Rattle.bench_sweep.specs.Marks.{marks_of}
use Rattle.bench_sweep.specs.Parts.{Pieces, parts}
use Rattle.bench_sweep.specs.Reactions.{IsWithin, Reacting, found_on}
use Rattle.bench_sweep.specs.declared.fault.SweepFault.{SweepFault}
use Rattle.bench_sweep.specs.declared.fault.SweepFault.TheVariants as faults
use Rattle.bench_sweep.specs.declared.marking.Marks.{Marks}
use Rattle.bench_sweep.specs.declared.marking.ReactionLine.{ReactionLine}
use Rattle.bench_top.specs.Judged.{configuration_of}
use Rattle.sweep_trials.specs.Follows.{reaction_to}
use Rattle.sweep_trials.specs.declared.reactions.Reaction.{Reaction}
use Rattle.sweep_top.specs.Endings.{ended}
use Rattle.sweep_top.specs.Reads.{SweepFile, call_by, call_from, configured, directives_of, faulted, line_of, reaction_of, reactions_behind, reactions_of, read_parts, undoubled, with_marks, with_reactions}
use Rattle.sweep_top.specs.Sweeps.{EndsFile}
use Rattle.sweep_top.specs.declared.ends.SweepEnd.{SweepEnd}
use Rattle.sweep_top.specs.declared.ends.SweepEnd.TheVariants.{Fault}
use Rattle.sweep_top.specs.declared.words.Asked.{Asked}

-- a call on a file that is refused ends with the line of that
pub refused_at : (asked : Asked) (r : Result SweepFile SweepEnd) (end : SweepEnd) → r ≡ Err end → EndsFile asked r (ended end)
refused_at asked r end e = subst (λ (x : Result SweepFile SweepEnd). EndsFile asked x (ended end)) (sym e) refl

-- ---- the parts of a file

pub config_refused : (configuration text : List ℕ) (end : SweepEnd) → configured (configuration_of configuration) ≡ Err end → read_parts configuration text ≡ Err end
config_refused configuration text end e = ap (λ (x : Result Config SweepEnd). x >>= (λ c. faulted (marks_of text) >>= (λ m. with_marks configuration text m))) e

pub marks_refused : (configuration text : List ℕ) (config : Config) (fault : SweepFault) → configured (configuration_of configuration) ≡ Ok config → marks_of text ≡ Err fault → read_parts configuration text ≡ Err (Fault fault)
marks_refused configuration text config fault e m =
    ap (λ (x : Result Config SweepEnd). x >>= (λ c. faulted (marks_of text) >>= (λ k. with_marks configuration text k))) e
    ∙ ap (λ (x : Result Marks SweepFault). faulted x >>= (λ k. with_marks configuration text k)) m

pub marks_read : (configuration text : List ℕ) (config : Config) (marks : Marks) → configured (configuration_of configuration) ≡ Ok config → marks_of text ≡ Ok marks → read_parts configuration text ≡ with_marks configuration text marks
marks_read configuration text config marks e m =
    ap (λ (x : Result Config SweepEnd). x >>= (λ c. faulted (marks_of text) >>= (λ k. with_marks configuration text k))) e
    ∙ ap (λ (x : Result Marks SweepFault). faulted x >>= (λ k. with_marks configuration text k)) m

pub directives_refused : (configuration text : List ℕ) (marks : Marks) (end : SweepEnd) → directives_of text ≡ Err end → with_marks configuration text marks ≡ Err end
directives_refused configuration text marks end e = ap (λ (x : Result (List Directive) SweepEnd). x >>= (λ ds. faulted (parts ds marks) >>= (λ p. with_reactions configuration text marks p))) e

pub parts_refused : (configuration text : List ℕ) (marks : Marks) (directives : List Directive) (fault : SweepFault) → directives_of text ≡ Ok directives → parts directives marks ≡ Err fault → with_marks configuration text marks ≡ Err (Fault fault)
parts_refused configuration text marks directives fault e p =
    ap (λ (x : Result (List Directive) SweepEnd). x >>= (λ ds. faulted (parts ds marks) >>= (λ k. with_reactions configuration text marks k))) e
    ∙ ap (λ (x : Result Pieces SweepFault). faulted x >>= (λ k. with_reactions configuration text marks k)) p

pub parts_read : (configuration text : List ℕ) (marks : Marks) (directives : List Directive) (pieces : Pieces) → directives_of text ≡ Ok directives → parts directives marks ≡ Ok pieces → with_marks configuration text marks ≡ with_reactions configuration text marks pieces
parts_read configuration text marks directives pieces e p =
    ap (λ (x : Result (List Directive) SweepEnd). x >>= (λ ds. faulted (parts ds marks) >>= (λ k. with_reactions configuration text marks k))) e
    ∙ ap (λ (x : Result Pieces SweepFault). faulted x >>= (λ k. with_reactions configuration text marks k)) p

abbrev file_with : (configuration text : List ℕ) → Marks → Pieces → List Reaction → SweepFile
file_with configuration text marks pieces reactions = record { configuration = configuration; script = text; marks = marks; pieces = pieces; reactions = reactions }

pub reactions_refused : (configuration text : List ℕ) (marks : Marks) (pieces : Pieces) (end : SweepEnd) → reactions_of text ≡ Err end → with_reactions configuration text marks pieces ≡ Err end
reactions_refused configuration text marks pieces end e = ap (λ (x : Result (List Reaction) SweepEnd). x >>= (λ rs. Ok (file_with configuration text marks pieces rs))) e

pub reactions_read : (configuration text : List ℕ) (marks : Marks) (pieces : Pieces) (reactions : List Reaction) → reactions_of text ≡ Ok reactions → with_reactions configuration text marks pieces ≡ Ok (file_with configuration text marks pieces reactions)
reactions_read configuration text marks pieces reactions e = ap (λ (x : Result (List Reaction) SweepEnd). x >>= (λ rs. Ok (file_with configuration text marks pieces rs))) e

-- ---- what follows notices

-- the call of a text that has one directive, and of one that has more
pub call_alone : (line : ℕ) (ds before : List Directive) (d : Directive) → ds ≡ before ++ d ∷ [] → (length before == 0) ≡ true → call_from line (Ok ds) ≡ call_by line d.order
call_alone line ds [] d e l = rw e refl
call_alone line ds (x ∷ xs) d e l = let none : length (x ∷ xs) ≡ 0 = eqb-true (length (x ∷ xs)) 0 l in absurd (omega (arith, none))

pub call_crowded : (line : ℕ) (ds before : List Directive) (d : Directive) → ds ≡ before ++ d ∷ [] → (length before == 0) ≡ false → call_from line (Ok ds) ≡ Err (Fault (faults.Reaction line))
call_crowded line ds [] d e l = absurd (cc)
call_crowded line ds (x ∷ []) d e l = rw e refl
call_crowded line ds (x ∷ y ∷ zs) d e l = rw e refl

-- a notice that a line before names
pub doubled_at : (reactions : List Reaction) (reaction d : Reaction) (first : ℕ) → reaction_to reactions reaction.notice ≡ Some first → first < length reactions → undoubled reactions reaction (reaction_to reactions reaction.notice) ≡ Err (Fault (faults.Doubled reaction.directive.line (get_or reactions first d).directive.line))
doubled_at reactions reaction d first e l =
    let doubled : Option Reaction → Result (List Reaction) SweepEnd = λ o. Err (Fault (faults.Doubled reaction.directive.line (line_of o))) in
    ap (undoubled reactions reaction) e ∙ ap doubled (slice_get-get_or reactions first d l)

-- calls that are no longer than a script are no longer than a script may be
pub all_within : (n most : ℕ) (lines : List ReactionLine) → n ≤ most → All (IsWithin n) lines → All (IsWithin most) lines
all_within n most lines le h = All-weaker (IsWithin n) (IsWithin most) (λ r l. omega (arith, le, l)) lines h

abbrev undoubled_then : List Reaction → List Reacting → Reaction → Result (List Reaction) SweepEnd
undoubled_then reactions rest reaction = undoubled reactions reaction (reaction_to reactions reaction.notice) >>= (λ more. reactions_behind more rest)

one_more : (reactions : List Reaction) (lines : List ReactionLine) (i : ℕ) (d : ReactionLine) → i < length lines → reactions_behind reactions (map found_on (drop i lines)) ≡ (reaction_of (found_on (get_or lines i d)) >>= undoubled_then reactions (map found_on (drop (i + 1) lines)))
one_more reactions lines i d l = ap (λ (rs : List ReactionLine). reactions_behind reactions (map found_on rs)) (drop_more lines i d l)

-- one line more, that is refused
pub one_refused : (reactions : List Reaction) (lines : List ReactionLine) (i : ℕ) (d : ReactionLine) (end : SweepEnd) → i < length lines → reaction_of (found_on (get_or lines i d)) ≡ Err end → reactions_behind reactions (map found_on (drop i lines)) ≡ Err end
one_refused reactions lines i d end l e = one_more reactions lines i d l ∙ ap (λ (x : Result Reaction SweepEnd). x >>= undoubled_then reactions (map found_on (drop (i + 1) lines))) e

-- one that names a notice once more, and one that is kept
undoubled_by : (reactions : List Reaction) (lines : List ReactionLine) (i : ℕ) (d : ReactionLine) (reaction : Reaction) → i < length lines → reaction_of (found_on (get_or lines i d)) ≡ Ok reaction → reactions_behind reactions (map found_on (drop i lines)) ≡ undoubled_then reactions (map found_on (drop (i + 1) lines)) reaction
undoubled_by reactions lines i d reaction l e = one_more reactions lines i d l ∙ ap (λ (x : Result Reaction SweepEnd). x >>= undoubled_then reactions (map found_on (drop (i + 1) lines))) e

pub one_doubled : (reactions : List Reaction) (lines : List ReactionLine) (i : ℕ) (d : ReactionLine) (reaction : Reaction) (end : SweepEnd) → i < length lines → reaction_of (found_on (get_or lines i d)) ≡ Ok reaction → undoubled reactions reaction (reaction_to reactions reaction.notice) ≡ Err end → reactions_behind reactions (map found_on (drop i lines)) ≡ Err end
one_doubled reactions lines i d reaction end l e u = undoubled_by reactions lines i d reaction l e ∙ ap (λ (x : Result (List Reaction) SweepEnd). x >>= (λ more. reactions_behind more (map found_on (drop (i + 1) lines)))) u

pub one_kept : (reactions more : List Reaction) (lines : List ReactionLine) (i : ℕ) (d : ReactionLine) (reaction : Reaction) → i < length lines → reaction_of (found_on (get_or lines i d)) ≡ Ok reaction → undoubled reactions reaction (reaction_to reactions reaction.notice) ≡ Ok more → reactions_behind reactions (map found_on (drop i lines)) ≡ reactions_behind more (map found_on (drop (i + 1) lines))
one_kept reactions more lines i d reaction l e u = undoubled_by reactions lines i d reaction l e ∙ ap (λ (x : Result (List Reaction) SweepEnd). x >>= (λ ms. reactions_behind ms (map found_on (drop (i + 1) lines)))) u
