-- How a drawing stands once the first line of a directive has shown what the directive began.
use Rattle.std.proofs.Common.{◌≡◌, ℕ, suc, ◌<◌, Bool, true, false, List, [], ◌∷◌, length, Option, Some, None, refl, ◌∙◌, ap, arith}
use Rattle.std.specs.Prelude.{◌==◌, if◌then◌else◌}
use Rattle.mcal_base.specs.declared.directive.Order.{Order}
use Rattle.bench_report.specs.Lines.{Line, Done}
use Rattle.bench_report.specs.Report.{purpose_of}
use Rattle.bench_report.specs.declared.frames.Purpose.{Purpose}
use Rattle.trace_reader.specs.Told.{told, told_line}
use Rattle.trace_reader.specs.declared.told.Told.{Told}
use Rattle.trace_reader.specs.declared.told.Told.TheVariants as tells
use Rattle.trace_forms.specs.kinds.Sums.{sum_up}
use Rattle.trace_forms.specs.declared.kinds.signs.What.TheVariants as whats
use Rattle.trace_drawing.specs.signs.Drawing.{Drawing, put, turned, ticked, level_of, begun, entered}
use Rattle.trace_drawing.specs.signs.Moments.{asked_of, ticks_of, begins_of, first_of}
use Rattle.trace_drawing.specs.declared.signs.moments.Moment.{Moment}
use Rattle.trace_promises.proofs.Telling.{Stands, purposes_of}

-- the first line that a directive prints
abbrev pub first_said : List Line → Line
first_said [] = Done
first_said (line ∷ lines) = line

-- a directive's first line as it belongs to it
abbrev pub first_at : ℕ → Order → Line → Moment
first_at n order line = first_of (record { line = n; order = order }) (told_line (record { number = n; says = line }))

-- ---- what stands before the beginning

-- the frames and the steps are the same
record Same (d e : Drawing) : Type 0 where
  frames : e.frames ≡ d.frames
  steps : e.steps ≡ d.steps

ticked_same : (d : Drawing) (n ticks all : ℕ) (b : Bool) → Same d (if b then d else put (record d { ticks = all }) n (whats.Ticked ticks all))
ticked_same d n ticks all true = record { frames = refl; steps = refl }
ticked_same d n ticks all false = record { frames = refl; steps = refl }

before_begun : (d : Drawing) (n : ℕ) (order : Order) (line : Line) → Same d (ticked (turned d (first_at n order line)) (first_at n order line))
before_begun d n order line =
    let x : Drawing = put d n (whats.Turn (asked_of order)) in
    let s = ticked_same x n (ticks_of order) (sum_up x.ticks (ticks_of order)) (ticks_of order == 0) in
    record { frames = s.frames; steps = s.steps }

same_stands : (d e : Drawing) (frames : List Purpose) (count left : ℕ) → Same d e → Stands d.frames d.steps frames count left → Stands e.frames e.steps frames count left
same_stands d e frames count left s h = record {
  purposes = ap purposes_of s.frames ∙ h.purposes;
  begun = rw (s.frames, s.steps) h.begun;
  size = ap length s.frames ∙ h.size;
  few = h.few;
  room = rw s.steps h.room;
}

-- ---- the beginning

none_stands : (d : Drawing) (n level : ℕ) (begins : Option Purpose) (frames : List Purpose) (count left : ℕ) → begins ≡ None → Stands d.frames d.steps frames count left → Stands (begun d n level begins).frames (begun d n level begins).steps frames count left
none_stands d n level None frames count left e h = h
none_stands d n level (Some p) frames count left e h = cc

more_stands : (d : Drawing) (n level : ℕ) (begins : Option Purpose) (p : Purpose) (frames : List Purpose) (count left : ℕ) → begins ≡ Some p → count < 8 → Stands d.frames d.steps frames count left →
    Stands (begun d n level begins).frames (begun d n level begins).steps (p ∷ frames) (suc count) left
more_stands d n level None p frames count left e lt h = cc
more_stands d n level (Some q) p frames count left e lt h =
    let same : q ≡ p = cc in
    record {
      purposes = ap (λ (ps : List Purpose). q ∷ ps) h.purposes ∙ ap (λ (x : Purpose). x ∷ frames) same;
      begun = (omega arith, h.begun);
      size = ap (λ (k : ℕ). suc k) h.size;
      few = omega (arith, lt);
      room = h.room;
    }

-- nothing begins
pub quiet_entered : (d : Drawing) (n : ℕ) (order : Order) (line : Line) (frames : List Purpose) (count left : ℕ) → begins_of order (told line) ≡ None → Stands d.frames d.steps frames count left →
    Stands (entered d (first_at n order line)).frames (entered d (first_at n order line)).steps frames count left
quiet_entered d n order line frames count left e h =
    let x = ticked (turned d (first_at n order line)) (first_at n order line) in
    none_stands x n (level_of (asked_of order)) (begins_of order (told line)) frames count left e (same_stands d x frames count left (before_begun d n order line) h)

-- a frame begins
pub begun_entered : (d : Drawing) (n : ℕ) (order : Order) (line : Line) (p : Purpose) (frames : List Purpose) (count left : ℕ) → begins_of order (told line) ≡ Some p → count < 8 → Stands d.frames d.steps frames count left →
    Stands (entered d (first_at n order line)).frames (entered d (first_at n order line)).steps (p ∷ frames) (suc count) left
begun_entered d n order line p frames count left e lt h =
    let x = ticked (turned d (first_at n order line)) (first_at n order line) in
    more_stands x n (level_of (asked_of order)) (begins_of order (told line)) p frames count left e lt (same_stands d x frames count left (before_begun d n order line) h)

-- a directive that begins no frame begins none at any line
pub begins_none : (order : Order) (t : Told) → purpose_of order ≡ None → begins_of order t ≡ None
begins_none order (tells.Held cause) e = refl
begins_none order _ e = e
