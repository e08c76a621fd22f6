-- The lines of a trace that belong to directives are all its lines, and each directive has a first one.
use Rattle.std.proofs.Common.{◌≡◌, ℕ, ◌+◌, List, [], ◌∷◌, ◌++◌, length, map, Bool, true, false, refl, ◌∙◌, ap, sym, append_assoc}
use Rattle.std.specs.Prelude.{Ok, Err, ◌==◌, flat_map, if◌then◌else◌}
use Rattle.std.proofs.lemmas.Grind.{flat_map-append}
use Rattle.std.proofs.lemmas.List.{append-nil, map-append}
use Rattle.mcal_base.specs.facts.Numbers.{eq_is}
use Rattle.mcal_base.specs.declared.directive.Directive.{Directive}
use Rattle.trace_reader.specs.declared.told.TraceLine.{TraceLine}
use Rattle.trace_drawing.specs.signs.Moments.{first_of, later_of, own_lines, lines_behind, moments_from, moments_of}
use Rattle.trace_drawing.specs.declared.signs.moments.Moment.{Moment}
use Rattle.trace_drawing.proofs.Shows.{line_at, turn_at}

own_case : (number : ℕ) (line : TraceLine) (lines : List TraceLine) (b : Bool) → map line_at (own_lines number lines) ++ lines_behind number lines ≡ lines →
    map line_at (if b then later_of line ∷ own_lines number lines else []) ++ (if b then lines_behind number lines else line ∷ lines) ≡ line ∷ lines
own_case number line lines true ih = ap (λ (xs : List TraceLine). line ∷ xs) ih
own_case number line lines false ih = refl

own_and_behind : (number : ℕ) (lines : List TraceLine) → map line_at (own_lines number lines) ++ lines_behind number lines ≡ lines
own_and_behind number [] = refl
own_and_behind number (line ∷ lines) = own_case number line lines (line.number == number) (own_and_behind number lines)

no_turn_case : (number : ℕ) (line : TraceLine) (lines : List TraceLine) (b : Bool) → flat_map turn_at (own_lines number lines) ≡ [] → flat_map turn_at (if b then later_of line ∷ own_lines number lines else []) ≡ []
no_turn_case number line lines true ih = ih
no_turn_case number line lines false ih = refl

no_turns : (number : ℕ) (lines : List TraceLine) → flat_map turn_at (own_lines number lines) ≡ []
no_turns number [] = refl
no_turns number (line ∷ lines) = no_turn_case number line lines (line.number == number) (no_turns number lines)

-- all lines, and all directives
record IsSplit (before : List Moment) (script : List Directive) (lines : List TraceLine) (ms : List Moment) : Type 0 where
  lines_are : map line_at ms ≡ map line_at before ++ lines
  turns_are : flat_map turn_at ms ≡ flat_map turn_at before ++ map (λ (d : Directive). d.line) script

more_lines : (before own : List Moment) (d : Directive) (line : TraceLine) (lines behind : List TraceLine) → map line_at own ++ behind ≡ lines →
    map line_at (before ++ first_of d line ∷ own) ++ behind ≡ map line_at before ++ line ∷ lines
more_lines before own d line lines behind e =
    ap (λ (xs : List TraceLine). xs ++ behind) (map-append line_at before (first_of d line ∷ own))
    ∙ (append_assoc (map line_at before) (line ∷ map line_at own) behind ∙ ap (λ (xs : List TraceLine). map line_at before ++ line ∷ xs) e)

more_turns : (before own : List Moment) (d : Directive) (line : TraceLine) (lines : List ℕ) → flat_map turn_at own ≡ [] → line.number ≡ d.line →
    flat_map turn_at (before ++ first_of d line ∷ own) ++ lines ≡ flat_map turn_at before ++ d.line ∷ lines
more_turns before own d line lines none e =
    ap (λ (xs : List ℕ). xs ++ lines) (flat_map-append turn_at before (first_of d line ∷ own))
    ∙ (append_assoc (flat_map turn_at before) (line.number ∷ flat_map turn_at own) lines
    ∙ (ap (λ (xs : List ℕ). flat_map turn_at before ++ line.number ∷ (xs ++ lines)) none ∙ ap (λ (n : ℕ). flat_map turn_at before ++ n ∷ lines) e))

split_case : (before : List Moment) (d : Directive) (script : List Directive) (line : TraceLine) (lines : List TraceLine) (ms : List Moment) (b : Bool) → (line.number == d.line) ≡ b →
    (moments_from (before ++ first_of d line ∷ own_lines d.line lines) script (lines_behind d.line lines) ≡ Ok ms → IsSplit (before ++ first_of d line ∷ own_lines d.line lines) script (lines_behind d.line lines) ms) →
    (if b then moments_from (before ++ first_of d line ∷ own_lines d.line lines) script (lines_behind d.line lines) else Err (length before + 1)) ≡ Ok ms → IsSplit before (d ∷ script) (line ∷ lines) ms
split_case before d script line lines ms true e later h =
    let split : IsSplit (before ++ first_of d line ∷ own_lines d.line lines) script (lines_behind d.line lines) ms = later h in
    record {
      lines_are = split.lines_are ∙ more_lines before (own_lines d.line lines) d line lines (lines_behind d.line lines) (own_and_behind d.line lines);
      turns_are = split.turns_are ∙ more_turns before (own_lines d.line lines) d line (map (λ (x : Directive). x.line) script) (no_turns d.line lines) (eq_is line.number d.line e);
    }
split_case before d script line lines ms false e later h = absurd (cc)

split_from : (before : List Moment) (script : List Directive) (lines : List TraceLine) (ms : List Moment) → moments_from before script lines ≡ Ok ms → IsSplit before script lines ms
split_from before [] [] ms h =
    let same : before ≡ ms = cc in
    record { lines_are = ap (map line_at) (sym same) ∙ sym (append-nil (map line_at before)); turns_are = ap (flat_map turn_at) (sym same) ∙ sym (append-nil (flat_map turn_at before)) }
split_from before [] (line ∷ lines) ms h = absurd (cc)
split_from before (d ∷ script) [] ms h = absurd (cc)
split_from before (d ∷ script) (line ∷ lines) ms h =
    split_case before d script line lines ms (line.number == d.line) refl (split_from (before ++ first_of d line ∷ own_lines d.line lines) script (lines_behind d.line lines) ms) h

pub lines_belong : (script : List Directive) (lines : List TraceLine) (ms : List Moment) → moments_of script lines ≡ Ok ms → map line_at ms ≡ lines
lines_belong script lines ms h = (split_from [] script lines ms h).lines_are

pub turns_belong : (script : List Directive) (lines : List TraceLine) (ms : List Moment) → moments_of script lines ≡ Ok ms → flat_map turn_at ms ≡ map (λ (d : Directive). d.line) script
turns_belong script lines ms h = (split_from [] script lines ms h).turns_are
