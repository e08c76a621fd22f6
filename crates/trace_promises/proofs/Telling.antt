-- What lines may tell of a drawing that stands for the frames of a run, and how it stands behind them.
use Rattle.std.proofs.Common.{◌≡◌, ℕ, suc, ◌+◌, ◌-◌, ◌<◌, ◌≤◌, Bool, true, false, List, [], ◌∷◌, ◌++◌, length, map, drop, Option, Some, None, refl, ◌∙◌, ap, sym, subst, arith}
use Rattle.std.specs.Prelude.{◌==◌, nat_le, min, option_map, if◌then◌else◌}
use Rattle.std.proofs.lemmas.Bool.Decides.{nat_tests}
use Rattle.std.proofs.lemmas.Slice.Eq.{bytes_eq-Decides}
use Rattle.mcal_base.specs.facts.Numbers.{eq_self, lt_from}
use Rattle.mcal_base.specs.Names.{service_text}
use Rattle.mcal_base.specs.declared.answer.Answer.{Answer}
use Rattle.mcal_base.specs.declared.directive.Reason.{Reason}
use Rattle.mcal_base.specs.declared.moves.Move.{Move}
use Rattle.mcal_base.specs.declared.moves.Move.TheVariants as moves
use Rattle.run_model.specs.declared.item.Stepped.{Stepped}
use Rattle.bench_report.specs.Lines.{Line, Restarts, Shows}
use Rattle.bench_report.specs.Report.{frames_after_end, step_lines, wait_lines, move_lines, end_lines}
use Rattle.bench_report.specs.Rows.{Row}
use Rattle.bench_report.specs.declared.frames.Purpose.{Purpose}
use Rattle.bench_report.specs.declared.frames.Purpose.TheVariants as purposes
use Rattle.trace_reader.specs.Told.{told, reply_of, mark_of, given, incoming}
use Rattle.trace_reader.specs.declared.told.Step.{Step}
use Rattle.trace_reader.specs.declared.told.Told.{Told}
use Rattle.trace_reader.specs.declared.told.Told.TheVariants as tells
use Rattle.trace_forms.specs.kinds.Sums.{sum_up}
use Rattle.trace_forms.specs.declared.kinds.signs.Ending.{Ending}
use Rattle.trace_forms.specs.declared.kinds.signs.Ending.TheVariants as endings
use Rattle.trace_forms.specs.declared.kinds.signs.Frame.{Frame}
use Rattle.trace_forms.specs.declared.kinds.signs.What.TheVariants as whats
use Rattle.trace_drawing.specs.signs.Drawing as drawing
use Rattle.trace_drawing.specs.signs.Drawing.{Drawing, put, shut_at, all_ended_of, ended_of, before_step, behind_step, counted, stepped, freshly, is_on_chip, is_call_of, is_handler_of, top_of, is_of, fits_frames, fits}

-- lines of a directive may follow a drawing, and lead to one that is as told
abbrev pub Tells : ℕ → Drawing → List Line → (Drawing → Type 0) → Type 0
Tells n d [] K = K d
Tells n d (line ∷ lines) K = (fits d (told line) ≡ true) × Tells n (drawing.told d n (told line)) lines K

pub tells-append : (n : ℕ) (d : Drawing) (xs ys : List Line) (K : Drawing → Type 0) → Tells n d xs (λ e. Tells n e ys K) → Tells n d (xs ++ ys) K
tells-append n d [] ys K h = h
tells-append n d (line ∷ xs) ys K h = (h.0, tells-append n (drawing.told d n (told line)) xs ys K h.1)

pub tells_more : (n : ℕ) (d : Drawing) (xs : List Line) (K L : Drawing → Type 0) → ((e : Drawing) → K e → L e) → Tells n d xs K → Tells n d xs L
tells_more n d [] K L f h = f d h
tells_more n d (line ∷ xs) K L f h = (h.0, tells_more n (drawing.told d n (told line)) xs K L f h.1)

-- what frames were begun for
abbrev pub purposes_of : List Frame → List Purpose
purposes_of frames = map (λ (f : Frame). f.purpose) frames

-- each frame began before so many steps more
abbrev pub BegunBy : ℕ → List Frame → Type 0
BegunBy steps [] = Unit {0}
BegunBy steps (f ∷ fs) = (f.from ≤ steps) × BegunBy steps fs

-- Frames that were drawn, with so many steps, stand for those of a report and of a run: at most eight, and there is room
-- for so many steps more.
pub record Stands (fs : List Frame) (steps : ℕ) (frames : List Purpose) (count left : ℕ) : Type 0 where
  pub purposes : purposes_of fs ≡ frames
  pub begun : BegunBy steps fs
  pub size : length fs ≡ count
  pub few : count ≤ 8
  pub room : steps + left < 18446744073709551615

less_room : (a b c : ℕ) → a + (b + c) < 18446744073709551615 → a + c < 18446744073709551615
less_room a b c h = omega (arith, h)

pub stands_less : (fs : List Frame) (steps : ℕ) (frames : List Purpose) (count more left : ℕ) → Stands fs steps frames count (more + left) → Stands fs steps frames count left
stands_less fs steps frames count more left h = record { purposes = h.purposes; begun = h.begun; size = h.size; few = h.few; room = less_room steps more left h.room }

-- ---- a line that leaves the frames

few_le : (n : ℕ) → n ≤ 8 → nat_le n 8 ≡ true
few_le n h = grind (arith, nat_tests)

pub fits_by : (d : Drawing) (t : Told) (count : ℕ) → length d.frames ≡ count → count ≤ 8 → fits_frames d t ≡ true → fits d t ≡ true
fits_by d t count e h k = rw (few_le (length d.frames) (rw e h)) k

pub shown_told : (n : ℕ) (d : Drawing) (rows : List Row) (frames : List Purpose) (count left : ℕ) → Stands d.frames d.steps frames count left → Tells n d (map (λ row. Shows row) rows) (λ e. Stands e.frames e.steps frames count left)
shown_told n d [] frames count left h = h
shown_told n d (row ∷ rows) frames count left h = (fits_by d tells.Shown count h.size h.few refl, shown_told n (put d n whats.Shown) rows frames count left (record { purposes = h.purposes; begun = h.begun; size = h.size; few = h.few; room = h.room }))

pub wait_told : (n : ℕ) (d : Drawing) (waited : Bool) (ticks : ℕ) (frames : List Purpose) (count left : ℕ) → Stands d.frames d.steps frames count left → Tells n d (wait_lines waited ticks) (λ e. Stands e.frames e.steps frames count left)
wait_told n d true ticks frames count left h = (fits_by d (tells.Waited ticks) count h.size h.few refl, record { purposes = h.purposes; begun = h.begun; size = h.size; few = h.few; room = h.room })
wait_told n d false ticks frames count left h = h

-- ---- what a step leaves

shut_frames : (d : Drawing) (n : ℕ) (since : Option ℕ) → (shut_at d n since).frames ≡ d.frames
shut_frames d n None = refl
shut_frames d n (Some step) = refl

shut_steps : (d : Drawing) (n : ℕ) (since : Option ℕ) → (shut_at d n since).steps ≡ d.steps
shut_steps d n None = refl
shut_steps d n (Some step) = refl

before_frames : (d : Drawing) (made : Move) → (before_step d made).frames ≡ d.frames
before_frames d moves.Mask = refl
before_frames d _ = refl

before_steps : (d : Drawing) (made : Move) → (before_step d made).steps ≡ d.steps
before_steps d moves.Mask = refl
before_steps d _ = refl

behind_frames : (d : Drawing) (n : ℕ) (made : Move) → (behind_step d n made).frames ≡ d.frames
behind_frames d n moves.Unmask = shut_frames d n d.since
behind_frames d n _ = refl

behind_steps : (d : Drawing) (n : ℕ) (made : Move) → (behind_step d n made).steps ≡ d.steps
behind_steps d n moves.Unmask = shut_steps d n d.since
behind_steps d n _ = refl

stepped_frames : (d : Drawing) (n : ℕ) (step : Step) → (stepped d n step).frames ≡ d.frames
stepped_frames d n step = behind_frames (counted (put (before_step d step.made) n (whats.Stepped step d.fresh))) n step.made ∙ before_frames d step.made

stepped_steps : (d : Drawing) (n : ℕ) (step : Step) → (stepped d n step).steps ≡ sum_up d.steps 1
stepped_steps d n step = behind_steps (counted (put (before_step d step.made) n (whats.Stepped step d.fresh))) n step.made ∙ ap (λ (k : ℕ). sum_up k 1) (before_steps d step.made)

-- ---- the line of an end

top_is : (d : Drawing) (f : Frame) (fs : List Frame) (p : Purpose → Bool) (purpose : Purpose) → d.frames ≡ f ∷ fs → f.purpose ≡ purpose → f.from < d.steps → p purpose ≡ true → is_of p (top_of d.steps d.frames) ≡ true
top_is d f fs p purpose e is lt h =
    ap (λ (x : List Frame). is_of p (top_of d.steps x)) e
    ∙ (ap (λ (b : Bool). is_of p (if b then Some f.purpose else None)) (lt_from f.from d.steps lt) ∙ (ap p is ∙ h))

one_ended : (n : ℕ) (ending : Ending) (d : Drawing) (f : Frame) (fs : List Frame) (K : Drawing → Type 0) → d.frames ≡ f ∷ fs → ((e : Drawing) → e.frames ≡ fs → e.steps ≡ d.steps → K e) → K (ended_of d n ending d.frames)
one_ended n ending d f fs K e k = k (ended_of d n ending d.frames) (ap (λ (x : List Frame). (ended_of d n ending x).frames) e) (ap (λ (x : List Frame). (ended_of d n ending x).steps) e)

end_line : (n : ℕ) (d : Drawing) (f : Frame) (fs : List Frame) (purpose : Purpose) (frames : List Purpose) (answer : Answer) (count : ℕ) (K : Drawing → Type 0) → d.frames ≡ f ∷ fs → f.purpose ≡ purpose → f.from < d.steps →
    length d.frames ≡ count → count ≤ 8 → ((e : Drawing) → e.frames ≡ fs → e.steps ≡ d.steps → K e) → Tells n d (end_lines (purpose ∷ frames) (Some answer)) K
end_line n d f fs (purposes.Call service) frames answer count K e is lt c few k =
    let own : is_call_of service (purposes.Call service) ≡ true = (bytes_eq-Decides (service_text service) (service_text service)).1 refl in
    (fits_by d (tells.Returned service (reply_of answer.head answer.words)) count c few (top_is d f fs (is_call_of service) (purposes.Call service) e is lt own), one_ended n (endings.Returned (reply_of answer.head answer.words)) d f fs K e k)
end_line n d f fs (purposes.Handler line) frames answer count K e is lt c few k =
    (fits_by d (tells.Left line) count c few (top_is d f fs (is_handler_of line) (purposes.Handler line) e is lt (eq_self line)), one_ended n endings.Left d f fs K e k)

-- how many frames there are after an end
abbrev pub end_count : ℕ → Option Answer → ℕ
end_count count None = count
end_count count (Some answer) = count - 1

less_one : (k n : ℕ) → suc k ≡ n → k ≡ n - 1
less_one k n h = omega (arith, h)

less_few : (n : ℕ) → n ≤ 8 → n - 1 ≤ 8
less_few n h = omega (arith, h)

ends_by : (n : ℕ) (d : Drawing) (fs : List Frame) (frames : List Purpose) (answer : Answer) (old count left : ℕ) → d.frames ≡ fs → purposes_of fs ≡ frames → BegunBy old fs → old < d.steps → BegunBy d.steps fs → length fs ≡ count → 0 < count → count ≤ 8 →
    d.steps + left < 18446744073709551615 → Tells n d (end_lines frames (Some answer)) (λ e. Stands e.frames e.steps (drop 1 frames) (count - 1) left)
ends_by n d [] frames answer old count left e p b lt a c some few room = absurd (omega (arith, c, some))
ends_by n d (f ∷ fs) frames answer old count left e p b lt a c some few room =
    let K : Drawing → Type 0 = λ x. Stands x.frames x.steps (drop 1 frames) (count - 1) left in
    let top : f.from < d.steps = omega (arith, b.0, lt) in
    let is : Stands fs d.steps (drop 1 frames) (count - 1) left = record { purposes = ap (λ (ps : List Purpose). drop 1 ps) p; begun = a.1; size = less_one (length fs) count c; few = less_few count few; room = room } in
    subst (λ (ps : List Purpose). Tells n d (end_lines ps (Some answer)) K) p
    (end_line n d f fs f.purpose (purposes_of fs) answer count K e refl top (ap length e ∙ c) few (λ x g s. subst (λ (k : ℕ). Stands x.frames k (drop 1 frames) (count - 1) left) (sym s) (subst (λ (gs : List Frame). Stands gs d.steps (drop 1 frames) (count - 1) left) (sym g) is)))

end_told : (n : ℕ) (d : Drawing) (frames : List Purpose) (ended : Option Answer) (old count left : ℕ) → Stands d.frames d.steps frames count left → BegunBy old d.frames → old < d.steps → 0 < count →
    Tells n d (end_lines frames ended) (λ e. Stands e.frames e.steps (frames_after_end frames ended) (end_count count ended) left)
end_told n d frames None old count left h b lt some = h
end_told n d frames (Some answer) old count left h b lt some = ends_by n d d.frames frames answer old count left refl h.purposes b lt h.begun h.size some h.few h.room

-- ---- the lines of a step

move_told : (n : ℕ) (d : Drawing) (made : Move) (count : ℕ) (K : Drawing → Type 0) → length d.frames ≡ count → count ≤ 8 → ((e : Drawing) → e.frames ≡ d.frames → e.steps ≡ d.steps → K e) → Tells n d (move_lines made) K
move_told n d (moves.Note notice) count K c few k = (fits_by d (tells.Noted notice) count c few refl, k (put d n (whats.Noted notice)) refl refl)
move_told n d (moves.Report found) count K c few k = (fits_by d (tells.Erred found) count c few refl, k (put d n (whats.Erred found)) refl refl)
move_told n d (moves.Read reg) count K c few k = k d refl refl
move_told n d (moves.Write reg value) count K c few k = k d refl refl
move_told n d (moves.Load word) count K c few k = k d refl refl
move_told n d (moves.Store word value) count K c few k = k d refl refl
move_told n d moves.Mask count K c few k = k d refl refl
move_told n d moves.Unmask count K c few k = k d refl refl

begun_more : (old steps : ℕ) (fs : List Frame) → old ≤ steps → BegunBy old fs → BegunBy steps fs
begun_more old steps [] h b = tt
begun_more old steps (f ∷ fs) h b = (omega (arith, h, b.0), begun_more old steps fs h b.1)

one_more : (steps left new : ℕ) → steps + (1 + left) < 18446744073709551615 → new ≡ min (steps + 1) 18446744073709551615 → (steps < new) × (new + left < 18446744073709551615)
one_more steps left new h e = (omega (arith, h, e), omega (arith, h, e))

-- what a line of a step tells
abbrev step_of : ℕ → Stepped → Step
step_of depth s = record { depth = depth; made = s.made; value = given s.made s.value; received = incoming s.made s.received; mark = option_map mark_of s.event }

step_fits : (d : Drawing) (depth : ℕ) (s : Stepped) (count : ℕ) → length d.frames ≡ count → 0 < count → depth ≡ count → is_on_chip (option_map mark_of s.event) ≡ true → fits_frames d (tells.Step (step_of depth s)) ≡ true
step_fits d depth s count c some e chip = rw (c, e, eq_self count, lt_from 0 count some, chip) refl

pub step_told : (n : ℕ) (d : Drawing) (depth : ℕ) (s : Stepped) (frames : List Purpose) (count left : ℕ) → Stands d.frames d.steps frames count (1 + left) → 0 < count → depth ≡ count → is_on_chip (option_map mark_of s.event) ≡ true →
    Tells n d (step_lines true depth s ++ (move_lines s.made ++ end_lines frames s.ended)) (λ e. Stands e.frames e.steps (frames_after_end frames s.ended) (end_count count s.ended) left)
step_told n d depth s frames count left h some e chip =
    let step = step_of depth s in
    let x = stepped d n step in
    let K : Drawing → Type 0 = λ y. Stands y.frames y.steps (frames_after_end frames s.ended) (end_count count s.ended) left in
    let new = one_more d.steps left x.steps h.room (stepped_steps d n step) in
    let old : BegunBy d.steps x.frames = subst (λ (fs : List Frame). BegunBy d.steps fs) (sym (stepped_frames d n step)) h.begun in
    let stands : Stands x.frames x.steps frames count left = record {
      purposes = ap purposes_of (stepped_frames d n step) ∙ h.purposes;
      begun = begun_more d.steps x.steps x.frames (omega (arith, new.0)) old;
      size = ap length (stepped_frames d n step) ∙ h.size;
      few = h.few;
      room = new.1;
    } in (
      fits_by d (tells.Step step) count h.size h.few (step_fits d depth s count h.size some e chip),
      tells-append n x (move_lines s.made) (end_lines frames s.ended) K
          (move_told n x s.made count (λ y. Tells n y (end_lines frames s.ended) K) stands.size h.few (λ y f g.
          end_told n y frames s.ended d.steps count left
          (subst (λ (k : ℕ). Stands y.frames k frames count left) (sym g) (subst (λ (fs : List Frame). Stands fs x.steps frames count left) (sym f) stands))
          (subst (λ (fs : List Frame). BegunBy d.steps fs) (sym f) old) (rw g new.0) some)),
    )

-- ---- the line of a reset

all_gone : (d : Drawing) (n : ℕ) (ending : Ending) (fs : List Frame) → d.frames ≡ fs → (all_ended_of d n ending fs).frames ≡ []
all_gone d n ending [] e = e
all_gone d n ending (f ∷ fs) e = all_gone (record (put d n (whats.Gone f ending)) { frames = fs }) n ending fs refl

all_steps : (d : Drawing) (n : ℕ) (ending : Ending) (fs : List Frame) → (all_ended_of d n ending fs).steps ≡ d.steps
all_steps d n ending [] = refl
all_steps d n ending (f ∷ fs) = all_steps (record (put d n (whats.Gone f ending)) { frames = fs }) n ending fs

pub reset_told : (n : ℕ) (d : Drawing) (reason : Reason) (dropped : ℕ) (frames : List Purpose) (count left : ℕ) → Stands d.frames d.steps frames count left → dropped ≡ count → Tells n d (Restarts reason dropped ∷ []) (λ e. Stands e.frames e.steps [] 0 left)
reset_told n d reason dropped frames count left h e =
    let x : Drawing = put (freshly d) n (whats.Reset reason dropped) in
    let y : Drawing = all_ended_of x n endings.Dropped d.frames in
    let none : (shut_at y n y.since).frames ≡ [] = shut_frames y n y.since ∙ all_gone x n endings.Dropped d.frames refl in
    let steps : (shut_at y n y.since).steps ≡ d.steps = shut_steps y n y.since ∙ all_steps x n endings.Dropped d.frames in
    let is : Stands [] d.steps [] 0 left = record { purposes = refl; begun = tt; size = refl; few = omega arith; room = h.room } in (
      fits_by d (tells.Reset reason dropped) count h.size h.few (rw (h.size, e) (eq_self count)),
      subst (λ (k : ℕ). Stands (shut_at y n y.since).frames k [] 0 left) (sym steps) (subst (λ (fs : List Frame). Stands fs d.steps [] 0 left) (sym none) is),
    )
