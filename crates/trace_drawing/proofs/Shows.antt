-- What a trace's signs show line by line.
use Rattle.std.proofs.Common.{◌≡◌, ℕ, ◌+◌, List, [], ◌∷◌, ◌++◌, length, map, Bool, true, false, Option, Some, None, refl, ◌∙◌, ap, sym, subst, append_assoc}
use Rattle.std.specs.Prelude.{Ok, Err, ◌==◌, nat_lt, nat_le, flat_map, if◌then◌else◌}
use Rattle.std.proofs.lemmas.Bool.{false≢true, and_parts}
use Rattle.std.proofs.lemmas.List.{append-nil}
use Rattle.std.proofs.lemmas.Slice.Eq.{bytes_eq-Decides}
use Rattle.mcal_base.specs.facts.Numbers.{eq_is}
use Rattle.mcal_base.specs.Names.{service_text}
use Rattle.mcal_base.specs.declared.service.Service.{Service}
use Rattle.bench_report.specs.declared.frames.Purpose.{Purpose}
use Rattle.bench_report.specs.declared.frames.Purpose.TheVariants as purposes
use Rattle.trace_reader.specs.declared.told.Reply.{Reply}
use Rattle.trace_reader.specs.declared.told.Told.{Told}
use Rattle.trace_reader.specs.declared.told.Told.TheVariants as tells
use Rattle.trace_reader.specs.declared.told.TraceLine.{TraceLine}
use Rattle.trace_reader.proofs.NameLaws.{service_injective}
use Rattle.trace_forms.specs.kinds.Sums.{sum_up}
use Rattle.trace_forms.specs.declared.kinds.signs.Asked.{Asked}
use Rattle.trace_forms.specs.declared.kinds.signs.Ending.{Ending}
use Rattle.trace_forms.specs.declared.kinds.signs.Ending.TheVariants as endings
use Rattle.trace_forms.specs.declared.kinds.signs.Frame.{Frame}
use Rattle.trace_forms.specs.declared.kinds.signs.What.{What}
use Rattle.trace_forms.specs.declared.kinds.signs.What.TheVariants as whats
use Rattle.trace_drawing.specs.signs.Drawing.{Drawing, blank, put, turned, level_of, with_ticks, ticked, begun, entered, all_ended, ended_of, freshly, told, is_call_of, is_handler_of, top_of, is_of, fits_frames, fits, drawn, completed}
use Rattle.trace_drawing.specs.signs.Laws.{seen, gone_line, returned_line, left_line, line_of, turn_of}
use Rattle.trace_drawing.specs.declared.signs.moments.Moment.{Moment}
use Rattle.trace_drawing.proofs.MoreSigns.{seen-quiet, seen-more, seen-shut, seen-ended, seen-stepped}

-- ---- what holds of each line holds of all

drawn_case : (P : List Moment → Drawing → Type 0) (place : ℕ) (m : Moment) (ms : List Moment) (d out : Drawing) (b : Bool) → fits (entered d m) m.told ≡ b →
    (fits (entered d m) m.told ≡ true → P (m ∷ ms) d → P ms (told (entered d m) m.number m.told)) →
    (drawn (place + 1) (told (entered d m) m.number m.told) ms ≡ Ok out → P ms (told (entered d m) m.number m.told) → P [] out) →
    (if b then drawn (place + 1) (told (entered d m) m.number m.told) ms else Err (place + 1)) ≡ Ok out → P (m ∷ ms) d → P [] out
drawn_case P place m ms d out true e step later h p = later h (step e p)
drawn_case P place m ms d out false e step later h p = absurd (cc)

pub drawn_all : (P : List Moment → Drawing → Type 0) →
    ((m : Moment) (ms : List Moment) (d : Drawing) → fits (entered d m) m.told ≡ true → P (m ∷ ms) d → P ms (told (entered d m) m.number m.told)) →
    (place : ℕ) (ms : List Moment) (d out : Drawing) → drawn place d ms ≡ Ok out → P ms d → P [] out
drawn_all P step place [] d out h p = let same : d ≡ out = cc in subst (P []) same p
drawn_all P step place (m ∷ ms) d out h p =
    drawn_case P place m ms d out (fits (entered d m) m.told) refl (step m ms d) (drawn_all P step (place + 1) ms (told (entered d m) m.number m.told) out) h p

-- ---- what a directive's first line shows

turned_case : {T : Type 0} (f : ℕ → What → Option T) (d : Drawing) (number : ℕ) (asked : Asked) (b : Bool) → f number (whats.Turn asked) ≡ None → seen f (if b then put d number (whats.Turn asked) else d).signs ≡ seen f d.signs
turned_case f d number asked true quiet = seen-quiet f d number (whats.Turn asked) quiet
turned_case f d number asked false quiet = refl

ticked_case : {T : Type 0} (f : ℕ → What → Option T) (d : Drawing) (number ticks all : ℕ) (b : Bool) → f number (whats.Ticked ticks all) ≡ None →
    seen f (if b then d else put (record d { ticks = all }) number (whats.Ticked ticks all)).signs ≡ seen f d.signs
ticked_case f d number ticks all true quiet = refl
ticked_case f d number ticks all false quiet = seen-quiet f (record d { ticks = all }) number (whats.Ticked ticks all) quiet

pub ticked_seen : {T : Type 0} (f : ℕ → What → Option T) → ((number ticks all : ℕ) → f number (whats.Ticked ticks all) ≡ None) → (d : Drawing) (m : Moment) → seen f (ticked d m).signs ≡ seen f d.signs
ticked_seen f quiet d m = ticked_case f d m.number m.ticks (sum_up d.ticks m.ticks) (m.ticks == 0) (quiet m.number m.ticks (sum_up d.ticks m.ticks))

pub turned_seen : {T : Type 0} (f : ℕ → What → Option T) → ((number : ℕ) (asked : Asked) → f number (whats.Turn asked) ≡ None) → (d : Drawing) (m : Moment) → seen f (turned d m).signs ≡ seen f d.signs
turned_seen f quiet d m = turned_case f d m.number m.asked m.first (quiet m.number m.asked)

begun_seen : {T : Type 0} (f : ℕ → What → Option T) → ((number : ℕ) (frame : Frame) → f number (whats.Begins frame) ≡ None) → (d : Drawing) (number level : ℕ) (purpose : Option Purpose) → seen f (begun d number level purpose).signs ≡ seen f d.signs
begun_seen f quiet d number level None = refl
begun_seen f quiet d number level (Some purpose) =
    let frame : Frame = record { purpose = purpose; level = level; number = number; depth = length d.frames + 1; from = d.steps } in
    seen-quiet f (record d { frames = frame ∷ d.frames }) number (whats.Begins frame) (quiet number frame)

entered_lines : (d : Drawing) (m : Moment) → seen line_of (entered d m).signs ≡ seen line_of d.signs
entered_lines d m =
    begun_seen line_of (λ number frame. refl) (ticked (turned d m) m) m.number (level_of m.asked) m.begins
    ∙ (ticked_seen line_of (λ number ticks all. refl) (turned d m) m ∙ turned_seen line_of (λ number asked. refl) d m)

-- a line of the trace
abbrev pub line_at : Moment → TraceLine
line_at m = record { number = m.number; told = m.told }

-- ---- the end of the topmost frame

top_case : (p : Purpose → Bool) (purpose : Purpose) (b : Bool) → is_of p (if b then Some purpose else None) ≡ true → p purpose ≡ true
top_case p purpose true h = h
top_case p purpose false h = absurd (false≢true h)

call_end : (number : ℕ) (service : Service) (reply : Reply) (purpose : Purpose) → is_call_of service purpose ≡ true → returned_line number purpose reply ≡ Some (record { number = number; told = tells.Returned service reply })
call_end number service reply (purposes.Call own) h =
    ap (λ (s : Service). Some (record { number = number; told = tells.Returned s reply })) (service_injective own service ((bytes_eq-Decides (service_text own) (service_text service)).0 h))
call_end number service reply (purposes.Handler line) h = absurd (false≢true h)

handler_end : (number line : ℕ) (purpose : Purpose) → is_handler_of line purpose ≡ true → left_line number purpose ≡ Some (record { number = number; told = tells.Left line })
handler_end number line (purposes.Call own) h = absurd (false≢true h)
handler_end number line (purposes.Handler own) h = ap (λ (n : ℕ). Some (record { number = number; told = tells.Left n })) (eq_is own line h)

ended_line : (p : Purpose → Bool) (t : Told) (ending : Ending) (number : ℕ) → ((purpose : Purpose) → p purpose ≡ true → gone_line number purpose ending ≡ Some (record { number = number; told = t })) →
    (d : Drawing) (frames : List Frame) → is_of p (top_of d.steps frames) ≡ true →
    seen line_of (ended_of d number ending frames).signs ≡ seen line_of d.signs ++ record { number = number; told = t } ∷ []
ended_line p t ending number same d [] h = absurd (false≢true h)
ended_line p t ending number same d (frame ∷ frames) h =
    seen-more line_of d number (whats.Gone frame ending) (record { number = number; told = t }) (same frame.purpose (top_case p frame.purpose (nat_lt frame.from d.steps) h))

-- ---- each line is shown

told_line : (d : Drawing) (number : ℕ) (t : Told) → fits_frames d t ≡ true → seen line_of (told d number t).signs ≡ seen line_of d.signs ++ record { number = number; told = t } ∷ []
told_line d number (tells.Held cause) h = seen-more line_of (freshly d) number (whats.Held cause) _ refl
told_line d number (tells.Step step) h = seen-stepped line_of (λ n s. refl) d number step
told_line d number (tells.Waited ticks) h = seen-more line_of (with_ticks d ticks) number (whats.Waited ticks _) _ refl
told_line d number (tells.Noted notice) h = seen-more line_of d number (whats.Noted notice) _ refl
told_line d number (tells.Erred found) h = seen-more line_of d number (whats.Erred found) _ refl
told_line d number (tells.Returned service reply) h = ended_line (is_call_of service) (tells.Returned service reply) (endings.Returned reply) number (call_end number service reply) d d.frames h
told_line d number (tells.Left line) h = ended_line (is_handler_of line) (tells.Left line) endings.Left number (handler_end number line) d d.frames h
told_line d number (tells.Reset reason dropped) h =
    let reset : Drawing = put (freshly d) number (whats.Reset reason dropped) in
    seen-shut line_of (λ n s. refl) (all_ended reset number endings.Dropped) number _
    ∙ (seen-ended line_of number endings.Dropped (λ frame. refl) reset d.frames
    ∙ seen-more line_of (freshly d) number (whats.Reset reason dropped) _ refl)
told_line d number tells.Shown h = seen-more line_of d number whats.Shown _ refl
told_line d number tells.Done h = seen-more line_of d number whats.Done _ refl

line_step : (all : List TraceLine) (m : Moment) (ms : List Moment) (d : Drawing) → fits (entered d m) m.told ≡ true →
    seen line_of d.signs ++ map line_at (m ∷ ms) ≡ all → seen line_of (told (entered d m) m.number m.told).signs ++ map line_at ms ≡ all
line_step all m ms d h p =
    ap (λ (xs : List TraceLine). xs ++ map line_at ms) (told_line (entered d m) m.number m.told ((and_parts (nat_le (length (entered d m).frames) 8) (fits_frames (entered d m) m.told) h).1) ∙ ap (λ (xs : List TraceLine). xs ++ line_at m ∷ []) (entered_lines d m))
    ∙ (append_assoc (seen line_of d.signs) (line_at m ∷ []) (map line_at ms) ∙ p)

pub lines_shown : (ms : List Moment) (d : Drawing) → drawn 0 blank ms ≡ Ok d → seen line_of (completed d).signs ≡ map line_at ms
lines_shown ms d h =
    let p : seen line_of d.signs ++ [] ≡ map line_at ms = drawn_all (λ rest x. seen line_of x.signs ++ map line_at rest ≡ map line_at ms) (line_step (map line_at ms)) 0 ms blank d h refl in
    seen-shut line_of (λ n s. refl) (all_ended d 0 endings.Open) 0 _ ∙ (seen-ended line_of 0 endings.Open (λ frame. refl) d d.frames ∙ (sym (append-nil (seen line_of d.signs)) ∙ p))

-- ---- each directive is shown

-- the directive that begins with a line
abbrev pub turn_at : Moment → List ℕ
turn_at m = if m.first then m.number ∷ [] else []

turn_case : (d : Drawing) (number : ℕ) (asked : Asked) (b : Bool) → seen turn_of (if b then put d number (whats.Turn asked) else d).signs ≡ seen turn_of d.signs ++ (if b then number ∷ [] else [])
turn_case d number asked true = seen-more turn_of d number (whats.Turn asked) number refl
turn_case d number asked false = sym (append-nil (seen turn_of d.signs))

ended_turns : (d : Drawing) (number : ℕ) (ending : Ending) (frames : List Frame) → seen turn_of (ended_of d number ending frames).signs ≡ seen turn_of d.signs
ended_turns d number ending [] = refl
ended_turns d number ending (frame ∷ frames) = seen-quiet turn_of d number (whats.Gone frame ending) refl

told_turns : (d : Drawing) (number : ℕ) (t : Told) → seen turn_of (told d number t).signs ≡ seen turn_of d.signs
told_turns d number (tells.Held cause) = seen-quiet turn_of (freshly d) number (whats.Held cause) refl
told_turns d number (tells.Step step) = seen-stepped turn_of (λ n s. refl) d number step ∙ append-nil (seen turn_of d.signs)
told_turns d number (tells.Waited ticks) = seen-quiet turn_of (with_ticks d ticks) number (whats.Waited ticks _) refl
told_turns d number (tells.Noted notice) = seen-quiet turn_of d number (whats.Noted notice) refl
told_turns d number (tells.Erred found) = seen-quiet turn_of d number (whats.Erred found) refl
told_turns d number (tells.Returned service reply) = ended_turns d number (endings.Returned reply) d.frames
told_turns d number (tells.Left line) = ended_turns d number endings.Left d.frames
told_turns d number (tells.Reset reason dropped) =
    let reset : Drawing = put (freshly d) number (whats.Reset reason dropped) in
    seen-shut turn_of (λ n s. refl) (all_ended reset number endings.Dropped) number _
    ∙ (seen-ended turn_of number endings.Dropped (λ frame. refl) reset d.frames
    ∙ seen-quiet turn_of (freshly d) number (whats.Reset reason dropped) refl)
told_turns d number tells.Shown = seen-quiet turn_of d number whats.Shown refl
told_turns d number tells.Done = seen-quiet turn_of d number whats.Done refl

turn_step : (all : List ℕ) (m : Moment) (ms : List Moment) (d : Drawing) → fits (entered d m) m.told ≡ true →
    seen turn_of d.signs ++ flat_map turn_at (m ∷ ms) ≡ all → seen turn_of (told (entered d m) m.number m.told).signs ++ flat_map turn_at ms ≡ all
turn_step all m ms d h p =
    let e : seen turn_of (told (entered d m) m.number m.told).signs ≡ seen turn_of d.signs ++ turn_at m =
    told_turns (entered d m) m.number m.told
    ∙ (begun_seen turn_of (λ number frame. refl) (ticked (turned d m) m) m.number (level_of m.asked) m.begins
    ∙ (ticked_seen turn_of (λ number ticks all. refl) (turned d m) m ∙ turn_case d m.number m.asked m.first)) in
    ap (λ (xs : List ℕ). xs ++ flat_map turn_at ms) e ∙ (append_assoc (seen turn_of d.signs) (turn_at m) (flat_map turn_at ms) ∙ p)

pub turns_shown : (ms : List Moment) (d : Drawing) → drawn 0 blank ms ≡ Ok d → seen turn_of (completed d).signs ≡ flat_map turn_at ms
turns_shown ms d h =
    let p : seen turn_of d.signs ++ [] ≡ flat_map turn_at ms = drawn_all (λ rest x. seen turn_of x.signs ++ flat_map turn_at rest ≡ flat_map turn_at ms) (turn_step (flat_map turn_at ms)) 0 ms blank d h refl in
    seen-shut turn_of (λ n s. refl) (all_ended d 0 endings.Open) 0 _ ∙ (seen-ended turn_of 0 endings.Open (λ frame. refl) d d.frames ∙ (sym (append-nil (seen turn_of d.signs)) ∙ p))
