-- As many frames are gone as begin, and each sign is drawn on a page, counted as left out, or begins a frame.
use Rattle.std.proofs.Common.{◌≡◌, ℕ, suc, ◌+◌, List, [], ◌∷◌, ◌++◌, length, Bool, true, false, Option, Some, None, refl, ◌∙◌, ap, sym, subst, arith, length-append, cond}
use Rattle.std.specs.Prelude.{Result, Ok, Err, ◌&&◌, not, nat_le, count_by, option_to_list, if◌then◌else◌}
use Rattle.std.specs.List.{cons_option}
use Rattle.std.proofs.lemmas.List.Sums.{sum_by-cons}
use Rattle.mcal_base.specs.declared.directive.Directive.{Directive}
use Rattle.bench_report.specs.declared.frames.Purpose.{Purpose}
use Rattle.trace_reader.specs.declared.told.Step.{Step}
use Rattle.trace_reader.specs.declared.told.Told.{Told}
use Rattle.trace_reader.specs.declared.told.Told.TheVariants as tells
use Rattle.trace_reader.specs.declared.told.TraceLine.{TraceLine}
use Rattle.mcal_base.specs.declared.moves.Move.{Move}
use Rattle.mcal_base.specs.declared.moves.Move.TheVariants as moves
use Rattle.trace_lanes.specs.Drawn.{is_shape, first_step, most_steps, is_drawn, is_left_out}
use Rattle.trace_forms.specs.declared.kinds.signs.Asked.{Asked}
use Rattle.trace_forms.specs.declared.kinds.signs.Ending.{Ending}
use Rattle.trace_forms.specs.declared.kinds.signs.Ending.TheVariants as endings
use Rattle.trace_forms.specs.declared.kinds.signs.Frame.{Frame}
use Rattle.trace_forms.specs.declared.kinds.signs.Sign.{Sign}
use Rattle.trace_forms.specs.declared.kinds.signs.What.{What}
use Rattle.trace_forms.specs.declared.kinds.signs.What.TheVariants as whats
use Rattle.trace_drawing.specs.signs.Drawing.{Drawing, blank, put, turned, level_of, with_ticks, ticked, begun, entered, shut_at, all_ended, all_ended_of, ended_of, before_step, behind_step, counted, stepped, freshly, told, drawn, completed, completed_of, drawing_of}
use Rattle.trace_drawing.specs.signs.Laws.{seen, beginning_of, going_of, IsDrawingOf}
use Rattle.trace_drawing.specs.signs.Moments.{moments_of}
use Rattle.trace_drawing.specs.declared.signs.moments.Moment.{Moment}
use Rattle.trace_drawing.proofs.MomentLaws.{lines_belong, turns_belong}
use Rattle.trace_drawing.proofs.MoreSigns.{seen-quiet, seen-more, seen-shut, before-signs}
use Rattle.trace_drawing.proofs.Shows.{drawn_all, lines_shown, turns_shown}

-- so many more begin than are gone
record HasOpen (signs : List Sign) (count : ℕ) : Type 0 where
  balance : length (seen beginning_of signs) ≡ length (seen going_of signs) + count

-- a sign that is of no frame
quiet_put : (d : Drawing) (number count : ℕ) (what : What) → beginning_of number what ≡ None → going_of number what ≡ None → HasOpen d.signs count → HasOpen (put d number what).signs count
quiet_put d number count what e f h = record { balance = rw (seen-quiet beginning_of d number what e, seen-quiet going_of d number what f) h.balance }

more_begun : (xs ys : List Frame) (frame : Frame) (count : ℕ) → length xs ≡ length ys + count → length (xs ++ frame ∷ []) ≡ length ys + (count + 1)
more_begun xs ys frame count h = omega (arith, length-append xs (frame ∷ []))

more_gone : (xs ys : List Frame) (frame : Frame) (count : ℕ) → length xs ≡ length ys + suc count → length xs ≡ length (ys ++ frame ∷ []) + count
more_gone xs ys frame count h = omega (arith, length-append ys (frame ∷ []))

begins_put : (d : Drawing) (number count : ℕ) (frame : Frame) → HasOpen d.signs count → HasOpen (put d number (whats.Begins frame)).signs (count + 1)
begins_put d number count frame h = record {
  balance =
      rw (seen-more beginning_of d number (whats.Begins frame) frame refl, seen-quiet going_of d number (whats.Begins frame) refl)
      (more_begun (seen beginning_of d.signs) (seen going_of d.signs) frame count h.balance);
}

gone_put : (d : Drawing) (number count : ℕ) (frame : Frame) (ending : Ending) → HasOpen d.signs (suc count) → HasOpen (put d number (whats.Gone frame ending)).signs count
gone_put d number count frame ending h = record {
  balance =
      rw (seen-quiet beginning_of d number (whats.Gone frame ending) refl, seen-more going_of d number (whats.Gone frame ending) frame refl)
      (more_gone (seen beginning_of d.signs) (seen going_of d.signs) frame count h.balance);
}

-- the frames that are under way are those that are open
record IsBalanced (d : Drawing) : Type 0 where
  opened : HasOpen d.signs (length d.frames)

turned_balanced : (d : Drawing) (number : ℕ) (asked : Asked) (b : Bool) → IsBalanced d → IsBalanced (if b then put d number (whats.Turn asked) else d)
turned_balanced d number asked true h = record { opened = quiet_put d number (length d.frames) (whats.Turn asked) refl refl h.opened }
turned_balanced d number asked false h = h

ticked_balanced : (d : Drawing) (number ticks all : ℕ) (b : Bool) → IsBalanced d → IsBalanced (if b then d else put (record d { ticks = all }) number (whats.Ticked ticks all))
ticked_balanced d number ticks all true h = h
ticked_balanced d number ticks all false h = record { opened = quiet_put (record d { ticks = all }) number (length d.frames) (whats.Ticked ticks all) refl refl h.opened }

begun_balanced : (d : Drawing) (number level : ℕ) (purpose : Option Purpose) → IsBalanced d → IsBalanced (begun d number level purpose)
begun_balanced d number level None h = h
begun_balanced d number level (Some purpose) h =
    let frame : Frame = record { purpose = purpose; level = level; number = number; depth = length d.frames + 1; from = d.steps } in
    record { opened = record { balance = (begins_put (record d { frames = frame ∷ d.frames }) number (length d.frames) frame h.opened).balance ∙ omega arith } }

shut_balanced : (d : Drawing) (number : ℕ) (since : Option ℕ) → IsBalanced d → IsBalanced (shut_at d number since)
shut_balanced d number None h = h
shut_balanced d number (Some step) h = record { opened = quiet_put d number (length d.frames) (whats.Window step) refl refl h.opened }

gone_balanced : (d : Drawing) (number : ℕ) (ending : Ending) (frame : Frame) (frames : List Frame) → HasOpen d.signs (length (frame ∷ frames)) → IsBalanced (record (put d number (whats.Gone frame ending)) { frames = frames })
gone_balanced d number ending frame frames h = record { opened = gone_put d number (length frames) frame ending h }

ended_balanced : (d : Drawing) (number : ℕ) (ending : Ending) (frames : List Frame) → d.frames ≡ frames → IsBalanced d → IsBalanced (ended_of d number ending frames)
ended_balanced d number ending [] e h = h
ended_balanced d number ending (frame ∷ frames) e h = gone_balanced d number ending frame frames (subst (λ (fs : List Frame). HasOpen d.signs (length fs)) e h.opened)

-- and then none is
record IsClosed (d : Drawing) : Type 0 where
  none : d.frames ≡ []
  even : HasOpen d.signs 0

all_closed : (d : Drawing) (number : ℕ) (ending : Ending) (frames : List Frame) → d.frames ≡ frames → HasOpen d.signs (length frames) → IsClosed (all_ended_of d number ending frames)
all_closed d number ending [] e h = record { none = e; even = h }
all_closed d number ending (frame ∷ frames) e h =
    all_closed (record (put d number (whats.Gone frame ending)) { frames = frames }) number ending frames refl (gone_put d number (length frames) frame ending h)

closed_balanced : (d : Drawing) → IsClosed d → IsBalanced d
closed_balanced d h = record { opened = subst (λ (fs : List Frame). HasOpen d.signs (length fs)) (sym h.none) h.even }

same_balanced : (d e : Drawing) → e.signs ≡ d.signs → e.frames ≡ d.frames → IsBalanced d → IsBalanced e
same_balanced d e signs frames h = record { opened = subst (λ (fs : List Frame). HasOpen e.signs (length fs)) (sym frames) (subst (λ (ss : List Sign). HasOpen ss (length d.frames)) (sym signs) h.opened) }

before_frames : (d : Drawing) (made : Move) → (before_step d made).frames ≡ d.frames
before_frames d (moves.Read reg) = refl
before_frames d (moves.Write reg value) = refl
before_frames d (moves.Load word) = refl
before_frames d (moves.Store word value) = refl
before_frames d moves.Mask = refl
before_frames d moves.Unmask = refl
before_frames d (moves.Note notice) = refl
before_frames d (moves.Report found) = refl

behind_balanced : (d : Drawing) (number : ℕ) (made : Move) → IsBalanced d → IsBalanced (behind_step d number made)
behind_balanced d number (moves.Read reg) h = h
behind_balanced d number (moves.Write reg value) h = h
behind_balanced d number (moves.Load word) h = h
behind_balanced d number (moves.Store word value) h = h
behind_balanced d number moves.Mask h = h
behind_balanced d number moves.Unmask h = shut_balanced d number d.since h
behind_balanced d number (moves.Note notice) h = h
behind_balanced d number (moves.Report found) h = h

put_balanced : (d : Drawing) (number : ℕ) (what : What) → beginning_of number what ≡ None → going_of number what ≡ None → IsBalanced d → IsBalanced (put d number what)
put_balanced d number what e f h = record { opened = quiet_put d number (length d.frames) what e f h.opened }

stepped_balanced : (d : Drawing) (number : ℕ) (step : Step) → IsBalanced d → IsBalanced (stepped d number step)
stepped_balanced d number step h =
    let before : IsBalanced (before_step d step.made) = same_balanced d (before_step d step.made) (before-signs d step.made) (before_frames d step.made) h in
    let made : IsBalanced (put (before_step d step.made) number (whats.Stepped step d.fresh)) = put_balanced (before_step d step.made) number (whats.Stepped step d.fresh) refl refl before in
    behind_balanced (counted (put (before_step d step.made) number (whats.Stepped step d.fresh))) number step.made (record { opened = made.opened })

told_balanced : (d : Drawing) (number : ℕ) (t : Told) → IsBalanced d → IsBalanced (told d number t)
told_balanced d number (tells.Held cause) h = put_balanced (freshly d) number (whats.Held cause) refl refl (record { opened = h.opened })
told_balanced d number (tells.Step step) h = stepped_balanced d number step h
told_balanced d number (tells.Waited ticks) h = put_balanced (with_ticks d ticks) number (whats.Waited ticks _) refl refl (record { opened = h.opened })
told_balanced d number (tells.Noted notice) h = put_balanced d number (whats.Noted notice) refl refl h
told_balanced d number (tells.Erred found) h = put_balanced d number (whats.Erred found) refl refl h
told_balanced d number (tells.Returned service reply) h = ended_balanced d number (endings.Returned reply) d.frames refl h
told_balanced d number (tells.Left line) h = ended_balanced d number endings.Left d.frames refl h
told_balanced d number (tells.Reset reason dropped) h =
    let reset : IsBalanced (put (freshly d) number (whats.Reset reason dropped)) = put_balanced (freshly d) number (whats.Reset reason dropped) refl refl (record { opened = h.opened }) in
    let gone : IsClosed (all_ended (put (freshly d) number (whats.Reset reason dropped)) number endings.Dropped) =
    all_closed (put (freshly d) number (whats.Reset reason dropped)) number endings.Dropped d.frames refl reset.opened in
    shut_balanced (all_ended (put (freshly d) number (whats.Reset reason dropped)) number endings.Dropped) number _ (closed_balanced _ gone)
told_balanced d number tells.Shown h = put_balanced d number whats.Shown refl refl h
told_balanced d number tells.Done h = put_balanced d number whats.Done refl refl h

entered_balanced : (d : Drawing) (m : Moment) → IsBalanced d → IsBalanced (entered d m)
entered_balanced d m h = begun_balanced (ticked (turned d m) m) m.number (level_of m.asked) m.begins (ticked_balanced (turned d m) m.number m.ticks _ _ (turned_balanced d m.number m.asked m.first h))

-- where all lines are drawn, as many are gone as begin
ends_shown : (ms : List Moment) (d : Drawing) → drawn 0 blank ms ≡ Ok d → length (seen beginning_of (completed d).signs) ≡ length (seen going_of (completed d).signs)
ends_shown ms d h =
    let p : IsBalanced d = drawn_all (λ rest x. IsBalanced x) (λ m rest x fit b. told_balanced (entered x m) m.number m.told (entered_balanced x m b)) 0 ms blank d h (record { opened = record { balance = refl } }) in
    let gone : IsClosed (all_ended d 0 endings.Open) = all_closed d 0 endings.Open d.frames refl p.opened in
    let even : length (seen beginning_of (all_ended d 0 endings.Open).signs) ≡ length (seen going_of (all_ended d 0 endings.Open).signs) + 0 = gone.even.balance in
    ap length (seen-shut beginning_of (λ n s. refl) (all_ended d 0 endings.Open) 0 _)
    ∙ (even ∙ (omega arith ∙ sym (ap length (seen-shut going_of (λ n s. refl) (all_ended d 0 endings.Open) 0 _))))

-- ---- each sign is counted

one_of : (b : Bool) → cond b 1 0 + cond (not b) 1 0 + 0 ≡ 1
one_of true = refl
one_of false = refl

sign_counted : (step number : ℕ) (what : What) →
    cond (is_shape what && nat_le (first_step step what) most_steps) 1 0 + cond (is_shape what && not (nat_le (first_step step what) most_steps)) 1 0 + length (option_to_list (beginning_of number what)) ≡ 1
sign_counted step number (whats.Turn asked) = one_of _
sign_counted step number (whats.Ticked ticks all) = one_of _
sign_counted step number (whats.Waited ticks all) = one_of _
sign_counted step number (whats.Begins frame) = refl
sign_counted step number (whats.Stepped made fresh) = one_of _
sign_counted step number (whats.Held cause) = one_of _
sign_counted step number (whats.Noted notice) = one_of _
sign_counted step number (whats.Erred found) = one_of _
sign_counted step number (whats.Gone frame ending) = one_of _
sign_counted step number (whats.Window first) = one_of _
sign_counted step number (whats.Reset reason dropped) = one_of _
sign_counted step number whats.Shown = one_of _
sign_counted step number whats.Done = one_of _

more_frames : (o : Option Frame) (frames : List Frame) → length (cons_option o frames) ≡ length (option_to_list o) + length frames
more_frames None frames = omega arith
more_frames (Some frame) frames = omega arith

counts : (a b c i j k n : ℕ) → a + b + c ≡ 1 → i + j + k ≡ n → (a + i) + (b + j) + (c + k) ≡ suc n
counts a b c i j k n e f = omega arith

unfolded : (s : Sign) → cond (is_drawn s) 1 0 + cond (is_left_out s) 1 0 + length (option_to_list (beginning_of s.number s.what)) ≡ 1
unfolding is_drawn is_left_out
unfolded s = sign_counted s.step s.number s.what

pub signs_counted : (signs : List Sign) → count_by is_drawn signs + count_by is_left_out signs + length (seen beginning_of signs) ≡ length signs
signs_counted [] = refl
signs_counted (s ∷ signs) =
    rw (sum_by-cons (λ (x : Sign). cond (is_drawn x) 1 0) s signs, sum_by-cons (λ (x : Sign). cond (is_left_out x) 1 0) s signs, more_frames (beginning_of s.number s.what) (seen beginning_of signs))
    (counts _ _ _ _ _ _ _ (unfolded s) (signs_counted signs))

-- ---- the whole

completed_is : (ms : List Moment) (read : Result Drawing ℕ) (d : Drawing) (P : Drawing → Type 0) → completed_of read ≡ Ok d → ((x : Drawing) → read ≡ Ok x → P (completed x)) → P d
completed_is ms (Ok x) d P h each = let same : completed x ≡ d = cc in subst P same (each x refl)
completed_is ms (Err line) d P h each = absurd (cc)

pub is_drawing : (script : List Directive) (lines : List TraceLine) (ms : List Moment) (d : Drawing) → moments_of script lines ≡ Ok ms → drawing_of ms ≡ Ok d → IsDrawingOf script lines d
is_drawing script lines ms d belong h =
    completed_is ms (drawn 0 blank ms) d (λ x. IsDrawingOf script lines x) h (λ x e. record {
      shows_lines = lines_shown ms x e ∙ lines_belong script lines ms belong;
      shows_script = turns_shown ms x e ∙ turns_belong script lines ms belong;
      shows_ends = ends_shown ms x e;
      counts_all = signs_counted (completed x).signs;
    })
