-- The lines of a directive follow a drawing that stands for the frames before it: by what each directive gives.
use Rattle.std.proofs.Common.{◌≡◌, ℕ, zero, suc, ◌+◌, ◌-◌, ◌<◌, Bool, true, false, List, [], ◌∷◌, ◌++◌, append-nil, length, map, Option, Some, None, refl, ◌∙◌, ap, sym, subst, arith}
use Rattle.std.specs.Prelude.{nat_lt, option_to_list, MatchBool}
use Rattle.chip_model.specs.Chip.{wait_on}
use Rattle.irq_control.specs.declared.held.Held.{Held}
use Rattle.irq_control.specs.declared.held.Held.TheVariants.{Empty, Frames}
use Rattle.mcal_base.specs.declared.directive.Order.{Order}
use Rattle.mcal_base.specs.declared.directive.Order.TheVariants as orders
use Rattle.mcal_base.specs.declared.directive.Reason.{Reason}
use Rattle.mcal_base.specs.declared.directive.Reason.TheVariants.{PowerOn, Watchdog, Software}
use Rattle.mcal_base.specs.declared.directive.Request.{Request}
use Rattle.mcal_base.specs.declared.directive.Shown.{Shown}
use Rattle.run_model.specs.Entry as entry
use Rattle.run_model.specs.Entry.{Entry, Said}
use Rattle.run_model.specs.Follows.{IsOne, Ticks, ticks_through, is_awaiting, ComesAwaited, ends_within, IsStep, GoesOn, Goes, BeginsOnly, BeginsWhole, Shows, HappensOnly, Gives, deeds_in, call_held, line_held}
use Rattle.run_model.specs.Frame.{Open}
use Rattle.run_model.specs.Legal.{IsLegal}
use Rattle.run_model.specs.Moment.{Setting, Moment, Transition, Begins, Enters, after, after_all}
use Rattle.run_model.specs.Script.{deed_of}
use Rattle.run_model.specs.Stops.{steps_in}
use Rattle.run_model.specs.declared.stop_condition.StopCondition.{StopCondition}
use Rattle.run_model.specs.declared.stop_condition.StopCondition.TheVariants.{Count, Until, Whole}
use Rattle.bench_report.specs.Lines as Lines
use Rattle.bench_report.specs.Lines.{Line}
use Rattle.bench_report.specs.Report.{purpose_of, is_stepped, steps_next, wait_lines, chapter_lines, chapter_frames}
use Rattle.bench_report.specs.Rows.{Row}
use Rattle.bench_report.specs.Shown.{next_rows}
use Rattle.bench_report.specs.declared.frames.Purpose.{Purpose}
use Rattle.bench_report.specs.declared.frames.Purpose.TheVariants as purposes
use Rattle.trace_reader.specs.Told.{told}
use Rattle.trace_drawing.specs.signs.Drawing.{Drawing, entered}
use Rattle.trace_drawing.specs.signs.Moments.{begins_of}
use Rattle.trace_promises.specs.traces.Lines.{HasLines}
use Rattle.trace_promises.proofs.Chapters.{counted, match_both, Follow, same_follows, stays_follow, steps_follow}
use Rattle.trace_promises.proofs.Entering.{first_said, first_at, quiet_entered, begun_entered, begins_none}
use Rattle.trace_promises.proofs.Opens.{OnChip, call_room, line_room, line_used, served}
use Rattle.trace_promises.proofs.Telling.{Tells, Stands, stands_less, shown_told, reset_told}

awaited_step : (u : ℕ) (said : Said) → is_awaiting u said ≡ true → is_stepped said ≡ true
awaited_step u (entry.Steps s) h = refl
awaited_step u (entry.Happens o) h = cc
awaited_step u entry.Begins h = cc
awaited_step u (entry.Stays c) h = cc
awaited_step u (entry.Resets r k) h = cc

-- a step that waited comes next
awaited_next : (u : ℕ) (es : List Entry) → ComesAwaited u es → steps_next es ≡ true
awaited_next u [] h = absurd h
awaited_next u (e ∷ es) h = awaited_step u e.said h

module _ {State Call : Type 0} (g : Setting State Call) (call_of : Request → Call) where
  -- the lines of a directive follow where its first one has shown what it began
  abbrev pub Chapter : ℕ → Order → List Purpose → List (List Row) → List Entry → Moment State Call → Drawing → ℕ → Type 0
  Chapter n order frames shows items m d left = Follow g call_of n order frames shows items m (entered d (first_at n order (first_said (chapter_lines true order frames shows items)))) left

  -- the frames before a directive, with room for the steps of its items
  abbrev pub Ready : List Purpose → List Entry → Moment State Call → Drawing → ℕ → Type 0
  Ready frames items m d left = Stands d.frames d.steps frames (length m.opens) (steps_in items + left)

  quiet : (n : ℕ) (order : Order) (frames : List Purpose) (shows : List (List Row)) (items : List Entry) (m : Moment State Call) (d : Drawing) (left : ℕ) → purpose_of order ≡ None → Ready frames items m d left →
      ((e : Drawing) → Ready frames items m e left → Follow g call_of n order frames shows items m e left) → Chapter n order frames shows items m d left
  quiet n order frames shows items m d left none h f =
      let line = first_said (chapter_lines true order frames shows items) in
      f (entered d (first_at n order line)) (quiet_entered d n order line frames (length m.opens) (steps_in items + left) (begins_none order (told line) none) h)

  -- ---- directives that begin no frame

  less : (frames : List Purpose) (items : List Entry) (m : Moment State Call) (d : Drawing) (left : ℕ) → Ready frames items m d left → Stands d.frames d.steps frames (length m.opens) left
  less frames items m d left h = stands_less d.frames d.steps frames (length m.opens) (steps_in items) left h

  stays : (n : ℕ) (order : Order) (frames : List Purpose) (shows : List (List Row)) (cause : Held) (items : List Entry) (m : Moment State Call) (d : Drawing) (left : ℕ) → IsOne m n (entry.Stays cause) items → Ready frames items m d left → Follow g call_of n order frames shows items m d left
  stays n order frames shows cause items m d left is h = stays_follow g call_of n order frames shows cause items m d left is (less frames items m d left h)

  -- the hardware moves
  abbrev IsSilent : Order → Type 0
  IsSilent o = (n : ℕ) (order : Order) (frames : List Purpose) (shows : List (List Row)) (items : List Entry) (m : Moment State Call) (d : Drawing) (left : ℕ) → IsOne m n (entry.Happens o) items → Ready frames items m d left → Follow g call_of n order frames shows items m d left

  ticks_one : (t : ℕ) → IsSilent (orders.Tick t)
  ticks_one t n order frames shows items m d left is h = same_follows g call_of n order frames shows items _ m d left is (less frames items m d left h)

  ticks_follow : (n t : ℕ) (left_ticks : Option ℕ) (order : Order) (frames : List Purpose) (shows : List (List Row)) (items : List Entry) (m : Moment State Call) (d : Drawing) (left : ℕ) → Ticks m n t left_ticks items → Ready frames items m d left → Follow g call_of n order frames shows items m d left
  ticks_follow n t None order frames shows items m d left is h = ticks_one t n order frames shows items m d left is h
  ticks_follow n t (Some k) order frames shows items m d left is h = by (nat_lt t k) is
    where
      through : (rest : ℕ) → Follow g call_of n order frames shows (ticks_through n (length m.opens) k rest) m d left
      through zero = reset_told n d Watchdog (length m.opens) frames (length m.opens) left (less frames items m d left h) refl
      through (suc r) = reset_told n d Watchdog (length m.opens) frames (length m.opens) left (less frames items m d left h) refl

      by : (b : Bool) → MatchBool b (IsOne m n (entry.Happens (orders.Tick t)) items) (items ≡ ticks_through n (length m.opens) k (t - k)) → Follow g call_of n order frames shows items m d left
      by true one = ticks_one t n order frames shows items m d left one h
      by false all = same_follows g call_of n order frames shows items _ m d left all (through (t - k))

  goes_follow : HasLines g → (n : ℕ) (reach : StopCondition) (order : Order) (frames : List Purpose) (shows : List (List Row)) (items : List Entry) (m : Moment State Call) (os : List (Open Call)) (d : Drawing) (left : ℕ) (more : List (Transition Call)) →
      Goes g n reach m os items → IsLegal g m (deeds_in call_of order items ++ more) → OnChip m.opens → Ready frames items m d left → Follow g call_of n order frames shows items m d left
  goes_follow lines n reach order frames shows items m [] d left more h legal chip r = stays n order frames shows Empty items m d left h r
  goes_follow lines n (Count zero) order frames shows items m (o ∷ os) d left more h legal chip r = same_follows g call_of n order frames shows items [] m d left h (less frames items m d left r)
  goes_follow lines n (Count (suc k)) order frames shows items m (o ∷ os) d left more h legal chip r = steps_follow g call_of lines n (Count (suc k)) order shows left more items 0 frames m d h legal chip r
  goes_follow lines n (Until stop) order frames shows items m (o ∷ os) d left more h legal chip r = steps_follow g call_of lines n (Until stop) order shows left more items 0 frames m d h legal chip r
  goes_follow lines n Whole order frames shows items m (o ∷ os) d left more h legal chip r = steps_follow g call_of lines n Whole order shows left more items 0 frames m d h legal chip r

  resets_follow : (n : ℕ) (reason : Reason) (order : Order) (frames : List Purpose) (shows : List (List Row)) (items : List Entry) (m : Moment State Call) (d : Drawing) (left : ℕ) → IsOne m n (entry.Resets reason (length m.opens)) items → Ready frames items m d left →
      Follow g call_of n order frames shows items m d left
  resets_follow n reason order frames shows items m d left is h = same_follows g call_of n order frames shows items _ m d left is (reset_told n d reason (length m.opens) frames (length m.opens) left (less frames items m d left h) refl)

  -- what may be held
  happens_follow : (n : ℕ) (happens : Order) → IsSilent happens → (held : Option Held) (order : Order) (frames : List Purpose) (shows : List (List Row)) (items : List Entry) (m : Moment State Call) (d : Drawing) (left : ℕ) → HappensOnly m n happens held items → Ready frames items m d left →
      Follow g call_of n order frames shows items m d left
  happens_follow n happens silent (Some cause) order frames shows items m d left is h = stays n order frames shows cause items m d left is h
  happens_follow n happens silent None order frames shows items m d left is h = silent n order frames shows items m d left is h

  fill_one : (c : ℕ) (ws : List ℕ) → IsSilent (orders.Fill c ws)
  fill_one c ws n order frames shows items m d left is h = same_follows g call_of n order frames shows items _ m d left is (less frames items m d left h)

  detach_one : IsSilent orders.Detach
  detach_one n order frames shows items m d left is h = same_follows g call_of n order frames shows items _ m d left is (less frames items m d left h)

  shows_follow : (n : ℕ) (what : Shown) (os : List (Open Call)) (order : Order) (frames : List Purpose) (shows : List (List Row)) (items : List Entry) (m : Moment State Call) (d : Drawing) (left : ℕ) → Shows m n (orders.Show what) os items → Ready frames items m d left →
      Follow g call_of n order frames shows items m d left
  shows_follow n what [] order frames shows items m d left is h =
      same_follows g call_of n order frames shows items _ m d left is
      (subst (λ (ls : List Line). Tells n d ls (λ e. Stands e.frames e.steps frames (length m.opens) left)) (sym (append-nil (map (λ (row : Row). Lines.Shows row) (next_rows shows)))) (shown_told n d (next_rows shows) frames (length m.opens) left (less frames items m d left h)))
  shows_follow n what (o ∷ os) order frames shows items m d left is h = stays n order frames shows Frames items m d left is h

  -- ---- directives that begin a frame

  -- what begins by an order
  record BeginsBy (order : Order) (p : Purpose) (m : Moment State Call) (deed : Transition Call) : Type 0 where
    purpose : purpose_of order ≡ Some p
    deeds : deed_of call_of (Some order) entry.Begins ≡ deed ∷ []
    more : length (after g m deed).opens ≡ suc (length m.opens)

  held_chapter : (n : ℕ) (order : Order) (frames : List Purpose) (shows : List (List Row)) (cause : Held) (items : List Entry) (m : Moment State Call) (d : Drawing) (left : ℕ) → IsOne m n (entry.Stays cause) items → Ready frames items m d left → Chapter n order frames shows items m d left
  held_chapter n order frames shows cause items m d left is h =
      subst (λ (xs : List Entry). Chapter n order frames shows xs m d left) (sym is)
      (stays_follow g call_of n order frames shows cause _ m (entered d (first_at n order (Lines.Holds cause))) left refl
      (quiet_entered d n order (Lines.Holds cause) frames (length m.opens) left refl (less frames items m d left h)))

  begun_chapter : (n : ℕ) (order : Order) (p : Purpose) (deed : Transition Call) (frames : List Purpose) (shows : List (List Row)) (items : List Entry) (m : Moment State Call) (d : Drawing) (left : ℕ) → BeginsBy order p m deed → length m.opens < 8 →
      IsOne m n entry.Begins items → Ready frames items m d left → Chapter n order frames shows items m d left
  begun_chapter n order p deed frames shows items m d left b lt is h =
      let E = entered d (first_at n order Lines.Done) in
      let stands : Stands E.frames E.steps (p ∷ frames) (suc (length m.opens)) left = begun_entered d n order Lines.Done p frames (length m.opens) left b.purpose lt (less frames items m d left h) in
      let count : suc (length m.opens) ≡ length (after_all g m (deed_of call_of (Some order) entry.Begins ++ [])).opens = sym (ap (λ (ds : List (Transition Call)). length (after_all g m (ds ++ [])).opens) b.deeds ∙ b.more) in
      subst (λ (xs : List Entry). Chapter n order frames shows xs m d left) (sym is)
      (subst (λ (c : ℕ). Stands E.frames E.steps (option_to_list (purpose_of order) ++ frames) c left) count
      (subst (λ (o : Option Purpose). Stands E.frames E.steps (option_to_list o ++ frames) (suc (length m.opens)) left) (sym b.purpose) stands))

  begins_only : (n : ℕ) (order : Order) (p : Purpose) (deed : Transition Call) (held : Option Held) (frames : List Purpose) (shows : List (List Row)) (items : List Entry) (m : Moment State Call) (d : Drawing) (left : ℕ) → BeginsBy order p m deed → (held ≡ None → length m.opens < 8) →
      BeginsOnly m n held items → Ready frames items m d left → Chapter n order frames shows items m d left
  begins_only n order p deed (Some cause) frames shows items m d left b lt is h = held_chapter n order frames shows cause items m d left is h
  begins_only n order p deed None frames shows items m d left b lt is h = begun_chapter n order p deed frames shows items m d left b (lt refl) is h

  -- steps say first that one was made, or that it waited, or the reset that ended its wait
  said_first : (n : ℕ) (reach : StopCondition) (made : ℕ) (order : Order) (frames : List Purpose) (shows : List (List Row)) (line depth : ℕ) (said : Said) (es : List Entry) (m : Moment State Call) (More : ℕ → Transition Call → Type 0) → IsStep g n reach made m (record { line = line; depth = depth; said = said }) es said More →
      begins_of order (told (first_said (chapter_lines true order frames shows ((record { line = line; depth = depth; said = said }) ∷ es)))) ≡ purpose_of order
  said_first n reach made order frames shows line depth (entry.Steps s) es m More h = refl
  said_first n reach made order frames shows line depth (entry.Happens (orders.Tick ticks)) es m More h =
      let over = ends_within (wait_on m.chip h.2.unit) (g.machine.expires m.world m.state) in
      match_both over over refl h.2.goes
      (λ ends is. subst (λ (xs : List Entry). begins_of order (told (first_said (chapter_lines true order frames shows ((record { line = line; depth = depth; said = entry.Happens (orders.Tick ticks) }) ∷ xs)))) ≡ purpose_of order) (sym is.1) refl)
      (λ on goes. ap (λ (b : Bool). begins_of order (told (first_said (wait_lines b ticks ++ chapter_lines true order frames shows es)))) (awaited_next h.2.unit es goes.1))
  said_first n reach made order frames shows line depth (entry.Happens o) es m More h = absurd h
  said_first n reach made order frames shows line depth entry.Begins es m More h = absurd h
  said_first n reach made order frames shows line depth (entry.Stays c) es m More h = absurd h
  said_first n reach made order frames shows line depth (entry.Resets r k) es m More h = absurd h

  steps_first : (n : ℕ) (reach : StopCondition) (made : ℕ) (order : Order) (frames : List Purpose) (shows : List (List Row)) (steps : List Entry) (m : Moment State Call) → GoesOn g n reach made m steps → begins_of order (told (first_said (chapter_lines true order frames shows steps))) ≡ purpose_of order
  steps_first n reach made order frames shows [] m h = absurd h
  steps_first n reach made order frames shows (e ∷ es) m h = said_first n reach made order frames shows e.line e.depth e.said es m (λ k deed. GoesOn g n reach k (after g m deed) es) h

  begins_counted : (n depth : ℕ) (steps : List Entry) → steps_in ((record { line = n; depth = depth; said = entry.Begins }) ∷ steps) ≡ steps_in steps
  begins_counted n depth steps = counted (record { line = n; depth = depth; said = entry.Begins }) steps ∙ omega arith

  -- a frame that begins, and its steps
  whole_by : HasLines g → (n : ℕ) (order : Order) (p : Purpose) (deed : Transition Call) (frames fs : List Purpose) (shows : List (List Row)) (steps : List Entry) (ds : List (Transition Call)) (m : Moment State Call) (d : Drawing) (left : ℕ) (more : List (Transition Call)) → BeginsBy order p m deed → length m.opens < 8 →
      fs ≡ p ∷ frames → ds ≡ deed ∷ [] → GoesOn g n Whole 0 (after g m deed) steps → IsLegal g m ((ds ++ deeds_in call_of order steps) ++ more) → OnChip (after g m deed).opens → Stands d.frames d.steps frames (length m.opens) (steps_in steps + left) →
      Tells n (entered d (first_at n order (first_said (chapter_lines true order fs shows steps)))) (chapter_lines true order fs shows steps)
      (λ e. Stands e.frames e.steps (chapter_frames order fs steps) (length (after_all g m (ds ++ deeds_in call_of order steps)).opens) left)
  whole_by lines n order p deed frames fs shows steps ds m d left more b lt f e goes legal chip h =
      let P : List Purpose → List (Transition Call) → Type 0 = λ qs xs. Tells n (entered d (first_at n order (first_said (chapter_lines true order qs shows steps)))) (chapter_lines true order qs shows steps)
      (λ y. Stands y.frames y.steps (chapter_frames order qs steps) (length (after_all g m (xs ++ deeds_in call_of order steps)).opens) left) in
      let gs : List Purpose = p ∷ frames in
      let first = first_said (chapter_lines true order gs shows steps) in
      let E = entered d (first_at n order first) in
      let stands = begun_entered d n order first p frames (length m.opens) (steps_in steps + left) (steps_first n Whole 0 order gs shows steps (after g m deed) goes ∙ b.purpose) lt h in
      let behind : IsLegal g (after g m deed) (deeds_in call_of order steps ++ more) = (subst (λ (xs : List (Transition Call)). IsLegal g m ((xs ++ deeds_in call_of order steps) ++ more)) e legal).3 in
      subst (λ (xs : List (Transition Call)). P fs xs) (sym e) (subst (λ (qs : List Purpose). P qs (deed ∷ [])) (sym f)
      (steps_follow g call_of lines n Whole order shows left more steps 0 gs (after g m deed) E goes behind chip (subst (λ (c : ℕ). Stands E.frames E.steps gs c (steps_in steps + left)) (sym b.more) stands)))

  whole_chapter : HasLines g → (n : ℕ) (order : Order) (p : Purpose) (deed : Transition Call) (held : Option Held) (frames : List Purpose) (shows : List (List Row)) (items : List Entry) (m : Moment State Call) (d : Drawing) (left : ℕ) (more : List (Transition Call)) → BeginsBy order p m deed → (held ≡ None → length m.opens < 8) →
      (held ≡ None → OnChip (after g m deed).opens) → BeginsWhole g m n deed held items → IsLegal g m (deeds_in call_of order items ++ more) → Ready frames items m d left → Chapter n order frames shows items m d left
  whole_chapter lines n order p deed (Some cause) frames shows items m d left more b lt chip is legal h = held_chapter n order frames shows cause items m d left is h
  whole_chapter lines n order p deed None frames shows items m d left more b lt chip is legal h =
      let own : List Entry = (record { line = n; depth = length m.opens; said = entry.Begins }) ∷ is.steps in
      let ready : Ready frames own m d left = subst (λ (xs : List Entry). Ready frames xs m d left) is.is h in
      let purpose = ap (λ (o : Option Purpose). option_to_list o ++ frames) b.purpose in
      subst (λ (xs : List Entry). Chapter n order frames shows xs m d left) (sym is.is)
      (whole_by lines n order p deed frames (option_to_list (purpose_of order) ++ frames) shows is.steps (deed_of call_of (Some order) entry.Begins) m d left more b (lt refl) purpose b.deeds is.goes
      (subst (λ (xs : List Entry). IsLegal g m (deeds_in call_of order xs ++ more)) is.is legal) (chip refl)
      (subst (λ (k : ℕ). Stands d.frames d.steps frames (length m.opens) (k + left)) (begins_counted n (length m.opens) is.steps) ready))

  -- ---- each directive

  -- a call that begins at a level, and the handler of a line
  call_by : (level : ℕ) (r : Request) (order : Order) (m : Moment State Call) → purpose_of order ≡ Some (purposes.Call r.service) → deed_of call_of (Some order) entry.Begins ≡ Begins (call_of r) level ∷ [] → BeginsBy order (purposes.Call r.service) m (Begins (call_of r) level)
  call_by level r order m e f = record { purpose = e; deeds = f; more = refl }

  line_by : (l : ℕ) (order : Order) (m : Moment State Call) → purpose_of order ≡ Some (purposes.Handler l) → deed_of call_of (Some order) entry.Begins ≡ Enters l ∷ [] → BeginsBy order (purposes.Handler l) m (Enters l)
  line_by l order m e f = record { purpose = e; deeds = f; more = refl }

  pub gives_chapter : HasLines g → (n : ℕ) (order : Order) (frames : List Purpose) (shows : List (List Row)) (items : List Entry) (m : Moment State Call) (d : Drawing) (left : ℕ) (more : List (Transition Call)) → Gives g call_of m n order items → IsLegal g m (deeds_in call_of order items ++ more) →
      OnChip m.opens → Ready frames items m d left → Chapter n order frames shows items m d left
  gives_chapter lines n (orders.Call level r) frames shows items m d left more h legal chip ready =
      begins_only n (orders.Call level r) (purposes.Call r.service) (Begins (call_of r) level) (call_held g m (call_of r) level) frames shows items m d left (call_by level r (orders.Call level r) m refl refl) (call_room g m (call_of r) level) h ready
  gives_chapter lines n (orders.Do level r) frames shows items m d left more h legal chip ready =
      whole_chapter lines n (orders.Do level r) (purposes.Call r.service) (Begins (call_of r) level) (call_held g m (call_of r) level) frames shows items m d left more (call_by level r (orders.Do level r) m refl refl) (call_room g m (call_of r) level) (λ e. (tt, chip)) h legal ready
  gives_chapter lines n (orders.Enter l) frames shows items m d left more h legal chip ready =
      begins_only n (orders.Enter l) (purposes.Handler l) (Enters l) (line_held g m l) frames shows items m d left (line_by l (orders.Enter l) m refl refl) (line_room g m l) h ready
  gives_chapter lines n (orders.Serve l) frames shows items m d left more h legal chip ready =
      whole_chapter lines n (orders.Serve l) (purposes.Handler l) (Enters l) (line_held g m l) frames shows items m d left more (line_by l (orders.Serve l) m refl refl) (line_room g m l)
      (λ e. (lines.used l (line_used g m l (served g m (deeds_in call_of (orders.Serve l) items ++ more) legal) e), chip)) h legal ready
  gives_chapter lines n (orders.Run k) frames shows items m d left more h legal chip ready = quiet n (orders.Run k) frames shows items m d left refl ready (λ e r. goes_follow lines n (Count k) (orders.Run k) frames shows items m m.opens e left more h legal chip r)
  gives_chapter lines n (orders.Upto stop) frames shows items m d left more h legal chip ready = quiet n (orders.Upto stop) frames shows items m d left refl ready (λ e r. goes_follow lines n (Until stop) (orders.Upto stop) frames shows items m m.opens e left more h legal chip r)
  gives_chapter lines n orders.Finish frames shows items m d left more h legal chip ready = quiet n orders.Finish frames shows items m d left refl ready (λ e r. goes_follow lines n Whole orders.Finish frames shows items m m.opens e left more h legal chip r)
  gives_chapter lines n (orders.Tick t) frames shows items m d left more h legal chip ready = quiet n (orders.Tick t) frames shows items m d left refl ready (λ e r. ticks_follow n t _ (orders.Tick t) frames shows items m e left h r)
  gives_chapter lines n (orders.Level p v) frames shows items m d left more h legal chip ready = quiet n (orders.Level p v) frames shows items m d left refl ready (λ e r. same_follows g call_of n (orders.Level p v) frames shows items _ m e left h (less frames items m e left r))
  gives_chapter lines n (orders.Analog i v) frames shows items m d left more h legal chip ready = quiet n (orders.Analog i v) frames shows items m d left refl ready (λ e r. same_follows g call_of n (orders.Analog i v) frames shows items _ m e left h (less frames items m e left r))
  gives_chapter lines n (orders.Trigger i) frames shows items m d left more h legal chip ready = quiet n (orders.Trigger i) frames shows items m d left refl ready (λ e r. same_follows g call_of n (orders.Trigger i) frames shows items _ m e left h (less frames items m e left r))
  gives_chapter lines n (orders.Miso u ws) frames shows items m d left more h legal chip ready = quiet n (orders.Miso u ws) frames shows items m d left refl ready (λ e r. same_follows g call_of n (orders.Miso u ws) frames shows items _ m e left h (less frames items m e left r))
  gives_chapter lines n (orders.SpiFault u) frames shows items m d left more h legal chip ready = quiet n (orders.SpiFault u) frames shows items m d left refl ready (λ e r. same_follows g call_of n (orders.SpiFault u) frames shows items _ m e left h (less frames items m e left r))
  gives_chapter lines n orders.Detach frames shows items m d left more h legal chip ready = quiet n orders.Detach frames shows items m d left refl ready (λ e r. happens_follow n orders.Detach detach_one _ orders.Detach frames shows items m e left h r)
  gives_chapter lines n (orders.Fill c ws) frames shows items m d left more h legal chip ready = quiet n (orders.Fill c ws) frames shows items m d left refl ready (λ e r. happens_follow n (orders.Fill c ws) (fill_one c ws) _ (orders.Fill c ws) frames shows items m e left h r)
  gives_chapter lines n (orders.Reset PowerOn) frames shows items m d left more h legal chip ready = quiet n (orders.Reset PowerOn) frames shows items m d left refl ready (λ e r. resets_follow n PowerOn (orders.Reset PowerOn) frames shows items m e left h r)
  gives_chapter lines n (orders.Reset Watchdog) frames shows items m d left more h legal chip ready = quiet n (orders.Reset Watchdog) frames shows items m d left refl ready (λ e r. resets_follow n Watchdog (orders.Reset Watchdog) frames shows items m e left h r)
  gives_chapter lines n (orders.Reset Software) frames shows items m d left more h legal chip ready = absurd h
  gives_chapter lines n (orders.Show what) frames shows items m d left more h legal chip ready = quiet n (orders.Show what) frames shows items m d left refl ready (λ e r. shows_follow n what m.opens (orders.Show what) frames shows items m e left h r)
