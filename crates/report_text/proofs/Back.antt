-- The items of a directive are read back from what their lines tell: by what each directive gives.
use Rattle.std.proofs.Common.{◌≡◌, ℕ, zero, suc, ◌-◌, Bool, true, false, List, [], ◌∷◌, ◌++◌, length, map, Option, Some, None, refl, ◌∙◌, ap, sym, subst}
use Rattle.std.specs.Prelude.{nat_lt, option_to_list, MatchBool, if◌then◌else◌}
use Rattle.std.specs.List.{list_all}
use Rattle.bench_report.specs.Lines.{Shows}
use Rattle.bench_report.specs.Report.{purpose_of, chapter_lines, is_traced, with_done}
use Rattle.bench_report.specs.Rows.{Row}
use Rattle.bench_report.specs.Showing.{Showing, shows_from}
use Rattle.bench_report.specs.Shown.{next_rows}
use Rattle.bench_report.specs.declared.frames.Purpose.{Purpose}
use Rattle.irq_control.specs.declared.held.Held.{Held}
use Rattle.irq_control.specs.declared.held.Held.TheVariants.{Empty, Frames}
use Rattle.mcal_base.specs.declared.directive.Directive.{Directive}
use Rattle.mcal_base.specs.declared.directive.Order.{Order}
use Rattle.mcal_base.specs.declared.directive.Order.TheVariants as orders
use Rattle.mcal_base.specs.declared.directive.Reason.TheVariants.{PowerOn, Watchdog, Software}
use Rattle.mcal_base.specs.declared.directive.Request.{Request}
use Rattle.mcal_base.specs.declared.directive.Shown.{Shown}
use Rattle.report_text.specs.reading.Blocks.{AuditState, block_lines}
use Rattle.report_text.specs.reading.Reading.{item, steps_of, held_or, ticks_of, items_by, items_of, AreBegun}
use Rattle.report_text.proofs.StepsBack.{begins_anew, done_told, all_told, not_held, goes_back}
use Rattle.run_model.specs.Entry as entry
use Rattle.run_model.specs.Entry.{Entry}
use Rattle.run_model.specs.Follows.{IsOne, Ticks, ticks_through, GoesOn, Goes, BeginsOnly, BeginsWhole, HappensOnly, Gives, deeds_in, call_held, line_held}
use Rattle.run_model.specs.Follows as follows
use Rattle.run_model.specs.Frame.{Open}
use Rattle.run_model.specs.Legal.{IsLegal, hardware_held}
use Rattle.run_model.specs.Moment.{Setting, Moment, Transition, Begins, Enters, after}
use Rattle.run_model.specs.Script.{deed_of}
use Rattle.run_model.specs.declared.stop_condition.StopCondition.{StopCondition}
use Rattle.run_model.specs.declared.stop_condition.StopCondition.TheVariants.{Count, Until, Whole}
use Rattle.trace_reader.specs.Told.{told}
use Rattle.trace_reader.specs.declared.told.Told.{Told}
use Rattle.trace_reader.specs.declared.told.Told.TheVariants as tells

rows_anew : (rows : List Row) → begins_anew (map told (with_done (map (λ row. Shows row) rows ++ []))) ≡ true
rows_anew [] = refl
rows_anew (row ∷ rows) = refl

module _ {State Call : Type 0} (g : Setting State Call) (call_of : Request → Call) (m : Moment State Call) (frames : List Purpose) (shows : List (List Row)) (n : ℕ) where
  abbrev pub tells_these : Order → List Entry → List Told
  tells_these order items = map told (with_done (chapter_lines true order frames shows items))

  -- the items are read back
  abbrev pub IsRead : Order → List Entry → Type 0
  IsRead order items = held_or m n (tells_these order items) (items_by g call_of m n order (tells_these order items)) ≡ items

  same_read : (order : Order) (items same : List Entry) → items ≡ same → IsRead order same → IsRead order items
  same_read order items same is h = subst (λ (xs : List Entry). IsRead order xs) (sym is) h

  stays_read : (order : Order) (cause : Held) (items : List Entry) → IsOne m n (entry.Stays cause) items → IsRead order items
  stays_read order cause items is = same_read order items (item m n (entry.Stays cause) ∷ []) is refl

  -- ---- beginnings

  begins_read : (order : Order) (held : Option Held) (items : List Entry) → ((lines : List Told) → items_by g call_of m n order lines ≡ item m n entry.Begins ∷ []) → BeginsOnly m n held items → IsRead order items
  begins_read order (Some cause) items one is = stays_read order cause items is
  begins_read order None items one is = same_read order items (item m n entry.Begins ∷ []) is (one (tells.Done ∷ []))

  -- What begins with a whole frame.
  record Begun (order : Order) (deed : Transition Call) : Type 0 where
    items : (lines : List Told) → items_by g call_of m n order lines ≡ item m n entry.Begins ∷ steps_of g n (after g m deed) lines
    deeds : deed_of call_of (Some order) entry.Begins ≡ deed ∷ []
    count : length (option_to_list (purpose_of order) ++ frames) ≡ length (after g m deed).opens

  whole_read : (order : Order) (deed : Transition Call) (held : Option Held) (items : List Entry) → Begun order deed → BeginsWhole g m n deed held items → IsLegal g m (deeds_in call_of order items) → IsRead order items
  whole_read order deed (Some cause) items b is legal = stays_read order cause items is
  whole_read order deed None items b is legal =
      let lines = chapter_lines true order (option_to_list (purpose_of order) ++ frames) shows is.steps in
      let behind : IsLegal g (after g m deed) (deeds_in call_of order is.steps) =
      (subst (λ (ds : List (Transition Call)). IsLegal g m (ds ++ deeds_in call_of order is.steps)) b.deeds (subst (λ (xs : List Entry). IsLegal g m (deeds_in call_of order xs)) is.is legal)).3 in
      let back = goes_back g call_of n order shows (list_all is_traced lines) Whole is.steps 0 (option_to_list (purpose_of order) ++ frames) (after g m deed) is.goes behind b.count in
      let all : List Told = map told lines ++ done_told (list_all is_traced lines) in
      same_read order items (item m n entry.Begins ∷ is.steps) is.is
      (subst (λ (ts : List Told). held_or m n ts (items_by g call_of m n order ts) ≡ item m n entry.Begins ∷ is.steps) (sym (all_told lines))
      (not_held g m n all (items_by g call_of m n order all) back.anew ∙ (b.items all ∙ ap (λ (xs : List Entry). item m n entry.Begins ∷ xs) back.back)))

  -- ---- steps

  steps_read : (order : Order) (reach : StopCondition) (items : List Entry) → ((lines : List Told) → items_by g call_of m n order lines ≡ steps_of g n m lines) → length frames ≡ length m.opens → GoesOn g n reach 0 m items → IsLegal g m (deeds_in call_of order items) → IsRead order items
  steps_read order reach items by begun goes legal =
      let lines = chapter_lines true order frames shows items in
      let all : List Told = map told lines ++ done_told (list_all is_traced lines) in
      let back = goes_back g call_of n order shows (list_all is_traced lines) reach items 0 frames m goes legal begun in
      subst (λ (ts : List Told). held_or m n ts (items_by g call_of m n order ts) ≡ items) (sym (all_told lines))
      (not_held g m n all (items_by g call_of m n order all) back.anew ∙ (by all ∙ back.back))

  goes_read : (order : Order) (reach : StopCondition) (os : List (Open Call)) (items : List Entry) → ((lines : List Told) → items_by g call_of m n order lines ≡ steps_of g n m lines) → length frames ≡ length m.opens → Goes g n reach m os items → IsLegal g m (deeds_in call_of order items) → IsRead order items
  goes_read order reach [] items by begun is legal = stays_read order Empty items is
  goes_read order (Count zero) (o ∷ os) items by begun is legal = same_read order items [] is (by (tells.Done ∷ []))
  goes_read order (Count (suc k)) (o ∷ os) items by begun goes legal = steps_read order (Count (suc k)) items by begun goes legal
  goes_read order (Until stop) (o ∷ os) items by begun goes legal = steps_read order (Until stop) items by begun goes legal
  goes_read order Whole (o ∷ os) items by begun goes legal = steps_read order Whole items by begun goes legal

  -- ---- hardware

  through_read : (t k rest : ℕ) (all : List Entry) → all ≡ ticks_through n (length m.opens) k rest → held_or m n (tells_these (orders.Tick t) (ticks_through n (length m.opens) k rest)) all ≡ ticks_through n (length m.opens) k rest
  through_read t k zero all is = is
  through_read t k (suc rest) all is = is

  ticks_by : (t k : ℕ) (b : Bool) (items : List Entry) → MatchBool b (IsOne m n (entry.Happens (orders.Tick t)) items) (items ≡ ticks_through n (length m.opens) k (t - k)) →
      held_or m n (tells_these (orders.Tick t) items) (if b then item m n (entry.Happens (orders.Tick t)) ∷ [] else ticks_through n (length m.opens) k (t - k)) ≡ items
  ticks_by t k true items is = subst (λ (xs : List Entry). held_or m n (tells_these (orders.Tick t) xs) (item m n (entry.Happens (orders.Tick t)) ∷ []) ≡ xs) (sym is) refl
  ticks_by t k false items is =
      let all = ticks_through n (length m.opens) k (t - k) in
      subst (λ (xs : List Entry). held_or m n (tells_these (orders.Tick t) xs) all ≡ xs) (sym is) (through_read t k (t - k) all refl)

  ticks_read : (t : ℕ) (left : Option ℕ) (items : List Entry) → Ticks m n t left items → held_or m n (tells_these (orders.Tick t) items) (ticks_of m n t left) ≡ items
  ticks_read t None items is = subst (λ (xs : List Entry). held_or m n (tells_these (orders.Tick t) xs) (ticks_of m n t None) ≡ xs) (sym is) refl
  ticks_read t (Some k) items is = ticks_by t k (nat_lt t k) items is

  detach_read : (held : Option Held) (items : List Entry) → HappensOnly m n orders.Detach held items → IsRead orders.Detach items
  detach_read (Some cause) items is = stays_read orders.Detach cause items is
  detach_read None items is = same_read orders.Detach items (item m n (entry.Happens orders.Detach) ∷ []) is refl

  fill_read : (c : ℕ) (ws : List ℕ) (held : Option Held) (items : List Entry) → HappensOnly m n (orders.Fill c ws) held items → IsRead (orders.Fill c ws) items
  fill_read c ws (Some cause) items is = stays_read (orders.Fill c ws) cause items is
  fill_read c ws None items is = same_read (orders.Fill c ws) items (item m n (entry.Happens (orders.Fill c ws)) ∷ []) is refl

  show_read : (what : Shown) (os : List (Open Call)) (items : List Entry) → follows.Shows m n (orders.Show what) os items → IsRead (orders.Show what) items
  show_read what [] items is = same_read (orders.Show what) items (item m n (entry.Happens (orders.Show what)) ∷ []) is (not_held g m n _ _ (rows_anew (next_rows shows)))
  show_read what (o ∷ os) items is = stays_read (orders.Show what) Frames items is

  -- ---- each directive

  pub gives_read : (order : Order) (items : List Entry) → length frames ≡ length m.opens → Gives g call_of m n order items → IsLegal g m (deeds_in call_of order items) → IsRead order items
  gives_read (orders.Call level r) items begun h legal = begins_read (orders.Call level r) (call_held g m (call_of r) level) items (λ lines. refl) h
  gives_read (orders.Do level r) items begun h legal =
      whole_read (orders.Do level r) (Begins (call_of r) level) (call_held g m (call_of r) level) items (record { items = λ lines. refl; deeds = refl; count = ap (λ (k : ℕ). suc k) begun }) h legal
  gives_read (orders.Enter l) items begun h legal = begins_read (orders.Enter l) (line_held g m l) items (λ lines. refl) h
  gives_read (orders.Serve l) items begun h legal =
      whole_read (orders.Serve l) (Enters l) (line_held g m l) items (record { items = λ lines. refl; deeds = refl; count = ap (λ (k : ℕ). suc k) begun }) h legal
  gives_read (orders.Run k) items begun h legal = goes_read (orders.Run k) (Count k) m.opens items (λ lines. refl) begun h legal
  gives_read (orders.Upto stop) items begun h legal = goes_read (orders.Upto stop) (Until stop) m.opens items (λ lines. refl) begun h legal
  gives_read orders.Finish items begun h legal = goes_read orders.Finish Whole m.opens items (λ lines. refl) begun h legal
  gives_read (orders.Tick t) items begun h legal = ticks_read t (g.machine.expires m.world m.state) items h
  gives_read (orders.Level p v) items begun h legal = same_read (orders.Level p v) items (item m n (entry.Happens (orders.Level p v)) ∷ []) h refl
  gives_read (orders.Analog i v) items begun h legal = same_read (orders.Analog i v) items (item m n (entry.Happens (orders.Analog i v)) ∷ []) h refl
  gives_read (orders.Trigger i) items begun h legal = same_read (orders.Trigger i) items (item m n (entry.Happens (orders.Trigger i)) ∷ []) h refl
  gives_read (orders.Miso u ws) items begun h legal = same_read (orders.Miso u ws) items (item m n (entry.Happens (orders.Miso u ws)) ∷ []) h refl
  gives_read (orders.SpiFault u) items begun h legal = same_read (orders.SpiFault u) items (item m n (entry.Happens (orders.SpiFault u)) ∷ []) h refl
  gives_read orders.Detach items begun h legal = detach_read (hardware_held g m orders.Detach) items h
  gives_read (orders.Fill c ws) items begun h legal = fill_read c ws (hardware_held g m (orders.Fill c ws)) items h
  gives_read (orders.Reset PowerOn) items begun h legal = same_read (orders.Reset PowerOn) items (item m n (entry.Resets PowerOn (length m.opens)) ∷ []) h refl
  gives_read (orders.Reset Watchdog) items begun h legal = same_read (orders.Reset Watchdog) items (item m n (entry.Resets Watchdog (length m.opens)) ∷ []) h refl
  gives_read (orders.Reset Software) items begun h legal = absurd h
  gives_read (orders.Show what) items begun h legal = show_read what m.opens items h

pub reads_back : {State Call : Type 0} (g : Setting State Call) (call_of : Request → Call) (showing : Showing State) (p : AuditState State Call) (d : Directive) (items : List Entry) →
    AreBegun p → Gives g call_of p.moment d.line d.order items → IsLegal g p.moment (deeds_in call_of d.order items) → items_of g call_of p.moment d (map told (block_lines g call_of showing p d items)) ≡ items
reads_back g call_of showing p d items begun h legal = gives_read g call_of p.moment p.frames (shows_from g call_of showing (d ∷ []) p.moment items) d.line d.order items begun h legal
