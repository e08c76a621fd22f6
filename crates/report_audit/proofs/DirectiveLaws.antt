-- What the lines of a directive say is what its items print: kind by kind, both ways.
use Rattle.std.proofs.Common.{◌≡◌, ℕ, zero, suc, ◌-◌, ◌<◌, ◌≤◌, Bool, true, false, List, [], ◌∷◌, ◌++◌, length, map, Option, Some, None, refl, sym, ◌∙◌, ap, subst, arith, append-nil}
use Rattle.std.specs.Prelude.{nat_lt, option_to_list, MatchBool}
use Rattle.std.proofs.lemmas.Bool.Decides.{nat_tests}
use Rattle.bench_report.proofs.Items.{is_show, shows_nothing, Each as EachOf, gives_each}
use Rattle.bench_report.specs.Lines.{Line, Restarts, Shows, Done}
use Rattle.bench_report.specs.Numbers.{Each, EntryFits, IsNumber, HappensFits}
use Rattle.bench_report.specs.Report.{chapter_lines, chapter_frames, purpose_of, with_done}
use Rattle.bench_report.specs.Rows.{Row}
use Rattle.bench_report.specs.Showing.{Showing, order_rows, item_rows, shows_from}
use Rattle.bench_report.specs.declared.frames.Purpose.{Purpose}
use Rattle.bench_report.specs.declared.frames.Purpose.TheVariants as purposes
use Rattle.bench_report.specs.declared.tally.Tally.{Tally}
use Rattle.irq_control.specs.declared.held.Held.{Held}
use Rattle.irq_control.specs.declared.held.Held.TheVariants.{Empty, Frames}
use Rattle.mcal_base.specs.declared.directive.Directive.{Directive}
use Rattle.mcal_base.specs.declared.directive.Order.{Order}
use Rattle.mcal_base.specs.declared.directive.Order.TheVariants as orders
use Rattle.mcal_base.specs.declared.directive.Reason.TheVariants.{PowerOn, Watchdog, Software}
use Rattle.mcal_base.specs.declared.directive.Request.{Request}
use Rattle.mcal_base.specs.declared.directive.Shown.{Shown}
use Rattle.run_model.specs.Entry as entry
use Rattle.run_model.specs.Entry.{Entry, Said}
use Rattle.run_model.specs.Follows.{BeginsWhole, Gives, GoesOn, Goes, Ticks, deeds_in, call_held, line_held, ticks_through}
use Rattle.run_model.specs.Follows as follows
use Rattle.run_model.specs.Frame.{Called, Entered, Origin, Open}
use Rattle.run_model.specs.Legal.{IsLegal, IsServed, hardware_held}
use Rattle.run_model.specs.Moment.{Moment, Setting, Transition, Happens, after, after_all}
use Rattle.run_model.specs.Script.{order_at, deed_of}
use Rattle.run_model.specs.declared.stop_condition.StopCondition.{StopCondition}
use Rattle.run_model.specs.declared.stop_condition.StopCondition.TheVariants.{Count, Until, Whole}
use Rattle.run_model.proofs.LegalLaws.{served-first}
use Rattle.report_text.specs.reading.Blocks.{AuditState, block_lines, counted, place_after}
use Rattle.report_text.specs.reading.Steps.{Comes, HasSteps}
use Rattle.report_text.proofs.Printing.{has_items, are_printed}
use Rattle.report_audit.specs.Directives.{PrintsBeginning, PrintsGoingOver, PrintsHardware, PrintsOrder, PrintsShowOver, PrintsThrough, PrintsTicksTo, begun_to}
use Rattle.report_steps.specs.Going.{waited_to}
use Rattle.report_auditor.specs.Deeds.{beginning, restarted}
use Rattle.report_steps.specs.Taking.{PrintsOn}
use Rattle.report_audit.specs.Obeying.{PrintsItems}
use Rattle.report_steps.proofs.GoingLaws.{counted_none, counted_ok, makes_uncounted}
use Rattle.report_audit.proofs.ItemsLaws.{placed, one, held_prints, prints_held, deed_prints, prints_deed, happening_prints, prints_happening, reset_prints, prints_reset, only_prints, prints_only}

match_by : {A B C : Type 0} (b t : Bool) → t ≡ b → MatchBool b A B → (t ≡ true → A → C) → (t ≡ false → B → C) → C
match_by true t e h f k = f e h
match_by false t e h f k = k e h

-- a place by its parts
place_is : {State Call : Type 0} (q : AuditState State Call) (m : Moment State Call) (frames : List Purpose) (tally : Tally) → m ≡ q.moment → frames ≡ q.frames → tally ≡ q.tally → placed m frames tally ≡ q
place_is {State} {Call} q m frames tally e f k =
    ap (λ (x : Moment State Call). placed x frames tally) e ∙ (ap (λ (x : List Purpose). placed q.moment x tally) f ∙ ap (λ (x : Tally). placed q.moment q.frames x) k)

-- ---- rows

rows_uncounted : (t : Tally) (rows : List Row) → counted t (map (λ row. Shows row) rows) ≡ t
rows_uncounted t [] = sym (counted_none t)
rows_uncounted t (row ∷ rows) = makes_uncounted t (Shows row) (map (λ row. Shows row) rows) refl refl refl refl refl ∙ rows_uncounted t rows

shown_uncounted : (t : Tally) (rows : List Row) → counted t (with_done (map (λ row. Shows row) rows)) ≡ t
shown_uncounted t [] = sym (counted_ok t)
shown_uncounted t (row ∷ rows) = rows_uncounted t (row ∷ rows)

-- ---- ticks

rest_fits : (n left : ℕ) → nat_lt n left ≡ false → n < 4294967296 → (left < 4294967296) × (n - left < 4294967296)
rest_fits n left e h = let le : left ≤ n = grind (arith, nat_tests) in (omega (arith, le, h), omega (arith, le, h))

more_opens : {State Call : Type 0} (g : Setting State Call) (m : Moment State Call) (x : Origin Call) (level : ℕ) → length (after g m (beginning x level)).opens ≡ suc (length m.opens)
more_opens g m (Called c) level = refl
more_opens g m (Entered l) level = refl

one_more : (n : ℕ) → n < 4294967295 → suc n < 4294967296
one_more n h = omega arith

few : (n : ℕ) → n < 4294967295 → n < 4294967296
few n h = omega arith

module _ {State Call : Type 0} (g : Setting State Call) (call_of : Request → Call) (showing : Showing State) (p : AuditState State Call) (line : ℕ) (number : IsNumber line) (small : length p.moment.opens < 4294967295) (served : IsServed g p.moment) where
  -- the directive of an order at this line
  abbrev here : Order → Directive
  here order = record { line = line; order = order }

  depth : IsNumber (length p.moment.opens)
  depth = few (length p.moment.opens) small

  -- what lines say of an order is what its items print
  abbrev Same : Order → (List Line → AuditState State Call → Type 0) → Type 0
  Same order Prints = (lines : List Line) (there : AuditState State Call) → (Prints lines there → PrintsItems g call_of showing p (here order) lines there) × (PrintsItems g call_of showing p (here order) lines there → Prints lines there)

  -- ---- what shows nothing has no rows

  no_order_rows : (m : Moment State Call) (order : Order) → is_show order ≡ false → order_rows showing m order ≡ []
  no_order_rows m (orders.Show what) h = cc
  no_order_rows m _ h = refl

  no_item_rows : (m : Moment State Call) (said : Said) → shows_nothing said → item_rows showing m said ≡ []
  no_item_rows m (entry.Happens order) h = no_order_rows m order h
  no_item_rows m _ h = refl

  no_rows : (script : List Directive) (n : ℕ) (items : List Entry) (m : Moment State Call) → EachOf n shows_nothing items → shows_from g call_of showing script m items ≡ []
  no_rows script n [] m h = refl
  no_rows script n (e ∷ es) m h =
      ap (λ (rows : List (List Row)). rows ++ shows_from g call_of showing script (after_all g m (deed_of call_of (order_at script e.line) e.said)) es) (no_item_rows m e.said h.1)
      ∙ no_rows script n es (after_all g m (deed_of call_of (order_at script e.line) e.said)) h.2

  quiet_lines : (order : Order) (items : List Entry) → is_show order ≡ false → Gives g call_of p.moment line order items → block_lines g call_of showing p (here order) items ≡ with_done (chapter_lines true order p.frames [] items)
  quiet_lines order items quiet gives = ap (λ (rows : List (List Row)). with_done (chapter_lines true order p.frames rows items)) (no_rows (here order ∷ []) line items p.moment (gives_each g call_of p.moment line order items quiet gives))

  -- ---- beginnings with all their steps

  module _ (order : Order) (x : Origin Call) (level : ℕ) (purpose : Purpose) (deeds : deed_of call_of (Some order) entry.Begins ≡ beginning x level ∷ []) (frames : option_to_list (purpose_of order) ++ p.frames ≡ purpose ∷ p.frames) (quiet : is_show order ≡ false) where
    abbrev begun : Moment State Call
    begun = after g p.moment (beginning x level)

    begun_depth : IsNumber (length begun.opens)
    begun_depth = subst (λ (n : ℕ). n < 4294967296) (sym (more_opens g p.moment x level)) (one_more (length p.moment.opens) small)

    -- the item of the beginning, and others
    abbrev begins : List Entry → List Entry
    begins steps = (record { line = line; depth = length p.moment.opens; said = entry.Begins }) ∷ steps

    frames_on : (steps : List Entry) → chapter_frames order p.frames (begins steps) ≡ chapter_frames order (purpose ∷ p.frames) steps
    frames_on steps = ap (λ (fs : List Purpose). chapter_frames order fs steps) frames

    moment_on : (steps : List Entry) → after_all g p.moment (deeds_in call_of order (begins steps)) ≡ after_all g begun (deeds_in call_of order steps)
    moment_on steps = ap (λ (ds : List (Transition Call)). after_all g p.moment (ds ++ deeds_in call_of order steps)) deeds

    lines_on : (steps : List Entry) → Gives g call_of p.moment line order (begins steps) → block_lines g call_of showing p (here order) (begins steps) ≡ with_done (chapter_lines true order (purpose ∷ p.frames) [] steps)
    lines_on steps gives = quiet_lines order (begins steps) quiet gives ∙ ap (λ (fs : List Purpose). with_done (chapter_lines true order fs [] steps)) frames

    whole_prints : (held : Option Held) (lines : List Line) (there : AuditState State Call) → ((items : List Entry) → BeginsWhole g p.moment line (beginning x level) held items → Gives g call_of p.moment line order items)
        → PrintsBeginning g true p x level purpose held lines there → PrintsItems g call_of showing p (here order) lines there
    whole_prints (Some cause) lines there gives h = held_prints g call_of showing p (here order) cause lines there number depth served (gives (one g call_of showing p (here order) (entry.Stays cause)) refl) h
    whole_prints None lines there gives h =
        let k = has_items g call_of order [] line Whole 0 true begun (purpose ∷ p.frames) number h.1.steps begun_depth h.0.served in
        let given : Gives g call_of p.moment line order (begins k.items) = gives (begins k.items) (record { steps = k.items; is = refl; goes = k.goes }) in
        record {
          items = begins k.items;
          fits = ((number, depth, tt), k.fits);
          gives = given;
          legal = subst (λ (ds : List (Transition Call)). IsLegal g p.moment (ds ++ deeds_in call_of order k.items)) (sym deeds) (served, h.0.time, h.0.legal, k.legal);
          prints = lines_on k.items given ∙ k.prints;
          leads = place_is there _ _ _ (moment_on k.items ∙ k.leads) (frames_on k.items ∙ k.leaves) (ap (counted p.tally) (lines_on k.items given ∙ k.prints) ∙ sym h.1.tally);
        }

    -- what items say that begin so
    begun_prints : (lines : List Line) (there : AuditState State Call) (y : PrintsItems g call_of showing p (here order) lines there) (steps : List Entry) → y.items ≡ begins steps → GoesOn g line Whole 0 begun steps
        → Comes g p.moment (beginning x level) × PrintsOn g Whole 0 true (begun_to g p x level purpose) lines there
    begun_prints lines there y steps is goes =
        let fits : Each EntryFits (begins steps) = subst (λ (es : List Entry). Each EntryFits es) is y.fits in
        let gives : Gives g call_of p.moment line order (begins steps) = subst (λ (es : List Entry). Gives g call_of p.moment line order es) is y.gives in
        let legal : IsLegal g p.moment (beginning x level ∷ deeds_in call_of order steps) =
        subst (λ (ds : List (Transition Call)). IsLegal g p.moment (ds ++ deeds_in call_of order steps)) deeds (subst (λ (es : List Entry). IsLegal g p.moment (deeds_in call_of order es)) is y.legal) in
        let prints : block_lines g call_of showing p (here order) (begins steps) ≡ lines = subst (λ (es : List Entry). block_lines g call_of showing p (here order) es ≡ lines) is y.prints in
        let leads : place_after g call_of showing p (here order) (begins steps) ≡ there = subst (λ (es : List Entry). place_after g call_of showing p (here order) es ≡ there) is y.leads in
        let has : HasSteps g call_of order [] line Whole 0 true begun (purpose ∷ p.frames) lines there.moment there.frames = record {
          items = steps;
          fits = fits.1;
          goes = goes;
          legal = legal.3;
          prints = sym (lines_on steps gives) ∙ prints;
          leads = sym (moment_on steps) ∙ ap (λ (q : AuditState State Call). q.moment) leads;
          leaves = sym (frames_on steps) ∙ ap (λ (q : AuditState State Call). q.frames) leads;
        } in (
          record { time = legal.1; legal = legal.2; served = served-first g begun (deeds_in call_of order steps) legal.3 },
          record { steps = are_printed g call_of order [] line Whole has; tally = sym (ap (λ (q : AuditState State Call). q.tally) leads) ∙ ap (counted p.tally) prints },
        )

    prints_whole : (held : Option Held) (lines : List Line) (there : AuditState State Call) (y : PrintsItems g call_of showing p (here order) lines there) → BeginsWhole g p.moment line (beginning x level) held y.items
        → PrintsBeginning g true p x level purpose held lines there
    prints_whole (Some cause) lines there y h = prints_held g call_of showing p (here order) cause lines there y h
    prints_whole None lines there y h = begun_prints lines there y h.steps h.is h.goes

  -- ---- steps

  module _ (order : Order) (quiet : is_show order ≡ false) where
    going_prints : (reach : StopCondition) (lines : List Line) (there : AuditState State Call) → ((items : List Entry) → GoesOn g line reach 0 p.moment items → Gives g call_of p.moment line order items)
        → PrintsOn g reach 0 true p lines there → PrintsItems g call_of showing p (here order) lines there
    going_prints reach lines there gives h =
        let k = has_items g call_of order [] line reach 0 true p.moment p.frames number h.steps depth served in
        let given = gives k.items k.goes in
        record {
          items = k.items;
          fits = k.fits;
          gives = given;
          legal = k.legal;
          prints = quiet_lines order k.items quiet given ∙ k.prints;
          leads = place_is there _ _ _ k.leads k.leaves (ap (counted p.tally) (quiet_lines order k.items quiet given ∙ k.prints) ∙ sym h.tally);
        }

    prints_going : (reach : StopCondition) (lines : List Line) (there : AuditState State Call) (y : PrintsItems g call_of showing p (here order) lines there) → GoesOn g line reach 0 p.moment y.items → PrintsOn g reach 0 true p lines there
    prints_going reach lines there y goes = record {
      steps = are_printed g call_of order [] line reach (record {
        items = y.items;
        fits = y.fits;
        goes = goes;
        legal = y.legal;
        prints = sym (quiet_lines order y.items quiet y.gives) ∙ y.prints;
        leads = ap (λ (q : AuditState State Call). q.moment) y.leads;
        leaves = ap (λ (q : AuditState State Call). q.frames) y.leads;
      });
      tally = sym (ap (λ (q : AuditState State Call). q.tally) y.leads) ∙ ap (counted p.tally) y.prints;
    }

    -- nothing is done
    none_prints : (lines : List Line) (there : AuditState State Call) → Gives g call_of p.moment line order [] → (lines ≡ Done ∷ []) × (there ≡ p) → PrintsItems g call_of showing p (here order) lines there
    none_prints lines there gives h = record {
      items = [];
      fits = tt;
      gives = gives;
      legal = served;
      prints = sym h.0;
      leads = place_is p _ _ _ refl refl (sym (counted_ok p.tally)) ∙ sym h.1;
    }

    prints_none : (lines : List Line) (there : AuditState State Call) (y : PrintsItems g call_of showing p (here order) lines there) → y.items ≡ [] → (lines ≡ Done ∷ []) × (there ≡ p)
    prints_none lines there y is = (
      sym (subst (λ (es : List Entry). block_lines g call_of showing p (here order) es ≡ lines) is y.prints),
      sym (subst (λ (es : List Entry). place_after g call_of showing p (here order) es ≡ there) is y.leads) ∙ place_is p _ _ _ refl refl (sym (counted_ok p.tally)),
    )

    goes_prints : (reach : StopCondition) (os : List (Open Call)) (lines : List Line) (there : AuditState State Call) → ((items : List Entry) → Goes g line reach p.moment os items → Gives g call_of p.moment line order items)
        → PrintsGoingOver g reach p os lines there → PrintsItems g call_of showing p (here order) lines there
    goes_prints reach [] lines there gives h = held_prints g call_of showing p (here order) Empty lines there number depth served (gives (one g call_of showing p (here order) (entry.Stays Empty)) refl) h
    goes_prints (Count zero) (o ∷ os) lines there gives h = none_prints lines there (gives [] refl) h
    goes_prints (Count (suc n)) (o ∷ os) lines there gives h = going_prints (Count (suc n)) lines there gives h
    goes_prints (Until stop) (o ∷ os) lines there gives h = going_prints (Until stop) lines there gives h
    goes_prints Whole (o ∷ os) lines there gives h = going_prints Whole lines there gives h

    prints_goes : (reach : StopCondition) (os : List (Open Call)) (lines : List Line) (there : AuditState State Call) (y : PrintsItems g call_of showing p (here order) lines there) → Goes g line reach p.moment os y.items
        → PrintsGoingOver g reach p os lines there
    prints_goes reach [] lines there y h = prints_held g call_of showing p (here order) Empty lines there y h
    prints_goes (Count zero) (o ∷ os) lines there y h = prints_none lines there y h
    prints_goes (Count (suc n)) (o ∷ os) lines there y h = prints_going (Count (suc n)) lines there y h
    prints_goes (Until stop) (o ∷ os) lines there y h = prints_going (Until stop) lines there y h
    prints_goes Whole (o ∷ os) lines there y h = prints_going Whole lines there y h

  -- ---- ticks

  module _ (n : ℕ) (fits : IsNumber n) where
    -- the items of ticks in which the watchdog's time ends
    abbrev through : (left rest : ℕ) → List Entry
    through left rest = ticks_through line (length p.moment.opens) left rest

    -- the place behind the reset
    abbrev fallen : ℕ → AuditState State Call
    fallen left = restarted g (waited_to g p left) Watchdog

    reset_tally : counted p.tally (Restarts Watchdog (length p.moment.opens) ∷ []) ≡ p.tally
    reset_tally = makes_uncounted p.tally (Restarts Watchdog (length p.moment.opens)) [] refl refl refl refl refl ∙ sym (counted_none p.tally)

    through_prints : (left rest : ℕ) (lines : List Line) (there : AuditState State Call) → IsNumber left → IsNumber rest → Gives g call_of p.moment line (orders.Tick n) (through left rest) → PrintsThrough g p left rest lines there
        → PrintsItems g call_of showing p (here (orders.Tick n)) lines there
    through_prints left zero lines there l r gives h = record {
      items = through left zero;
      fits = ((number, depth, l), ((number, depth, depth), tt));
      gives = gives;
      legal = (served, h.comes.time, h.comes.legal, (h.comes.served, h.resets.time, h.resets.legal, h.resets.served));
      prints = sym h.lines_are;
      leads = place_is (fallen left) _ _ _ refl refl reset_tally ∙ sym h.leads;
    }
    through_prints left (suc rest) lines there l r gives h = record {
      items = through left (suc rest);
      fits = ((number, depth, l), ((number, depth, depth), ((number, omega arith, r), tt)));
      gives = gives;
      legal = (served, h.comes.time, h.comes.legal, (h.comes.served, h.resets.time, h.resets.legal, (h.resets.served, h.leads.0.time, h.leads.0.legal, h.leads.0.served)));
      prints = sym h.lines_are;
      leads = place_is (waited_to g (fallen left) (suc rest)) _ _ _ refl refl reset_tally ∙ sym h.leads.1;
    }

    prints_through : (left rest : ℕ) (lines : List Line) (there : AuditState State Call) → IsLegal g p.moment (deeds_in call_of (orders.Tick n) (through left rest)) → block_lines g call_of showing p (here (orders.Tick n)) (through left rest) ≡ lines
        → place_after g call_of showing p (here (orders.Tick n)) (through left rest) ≡ there → PrintsThrough g p left rest lines there
    prints_through left zero lines there legal prints leads = record {
      comes = record { time = legal.1; legal = legal.2; served = legal.3.0 };
      resets = record { time = legal.3.1; legal = legal.3.2; served = legal.3.3 };
      lines_are = sym prints;
      leads = sym leads ∙ place_is (fallen left) _ _ _ refl refl reset_tally;
    }
    prints_through left (suc rest) lines there legal prints leads = record {
      comes = record { time = legal.1; legal = legal.2; served = legal.3.0 };
      resets = record { time = legal.3.1; legal = legal.3.2; served = legal.3.3.0 };
      lines_are = sym prints;
      leads = (record { time = legal.3.3.1; legal = legal.3.3.2; served = legal.3.3.3 }, sym leads ∙ place_is (waited_to g (fallen left) (suc rest)) _ _ _ refl refl reset_tally);
    }

    ticks_print : (left : Option ℕ) (lines : List Line) (there : AuditState State Call) → ((items : List Entry) → Ticks p.moment line n left items → Gives g call_of p.moment line (orders.Tick n) items)
        → PrintsTicksTo g p n left lines there → PrintsItems g call_of showing p (here (orders.Tick n)) lines there
    ticks_print None lines there gives h = deed_prints g call_of showing p (here (orders.Tick n)) (orders.Tick n) refl refl refl fits lines there number depth served (gives (one g call_of showing p (here (orders.Tick n)) (entry.Happens (orders.Tick n))) refl) h
    ticks_print (Some left) lines there gives h =
        match_by (nat_lt n left) (nat_lt n left) refl h
        (λ early k. deed_prints g call_of showing p (here (orders.Tick n)) (orders.Tick n) refl refl refl fits lines there number depth served (gives (one g call_of showing p (here (orders.Tick n)) (entry.Happens (orders.Tick n))) (rw early refl)) k)
        (λ late k. let small_rest = rest_fits n left late fits in through_prints left (n - left) lines there small_rest.0 small_rest.1 (gives (through left (n - left)) (rw late refl)) k)

    prints_ticks : (left : Option ℕ) (lines : List Line) (there : AuditState State Call) (y : PrintsItems g call_of showing p (here (orders.Tick n)) lines there) → Ticks p.moment line n left y.items → PrintsTicksTo g p n left lines there
    prints_ticks None lines there y h = prints_deed g call_of showing p (here (orders.Tick n)) (orders.Tick n) refl refl refl fits lines there y h
    prints_ticks (Some left) lines there y h =
        match_by (nat_lt n left) (nat_lt n left) refl h
        (λ early is. rw early (prints_deed g call_of showing p (here (orders.Tick n)) (orders.Tick n) refl refl refl fits lines there y is))
        (λ late is. rw late (prints_through left (n - left) lines there (subst (λ (es : List Entry). IsLegal g p.moment (deeds_in call_of (orders.Tick n) es)) is y.legal)
        (subst (λ (es : List Entry). block_lines g call_of showing p (here (orders.Tick n)) es ≡ lines) is y.prints) (subst (λ (es : List Entry). place_after g call_of showing p (here (orders.Tick n)) es ≡ there) is y.leads)))

  -- ---- shows

  module _ (what : Shown) where
    abbrev shown : List Row
    shown = showing p.moment.world p.moment.state what

    abbrev show_item : List Entry
    show_item = one g call_of showing p (here (orders.Show what)) (entry.Happens (orders.Show what))

    show_lines : block_lines g call_of showing p (here (orders.Show what)) show_item ≡ with_done (map (λ row. Shows row) shown)
    show_lines = ap with_done (append-nil (map (λ row. Shows row) shown))

    show_leads : place_after g call_of showing p (here (orders.Show what)) show_item ≡ p
    show_leads = place_is p _ _ _ refl refl (ap (counted p.tally) show_lines ∙ shown_uncounted p.tally shown)

    show_prints : (os : List (Open Call)) (lines : List Line) (there : AuditState State Call) → ((items : List Entry) → follows.Shows p.moment line (orders.Show what) os items → Gives g call_of p.moment line (orders.Show what) items)
        → PrintsShowOver showing p what os lines there → PrintsItems g call_of showing p (here (orders.Show what)) lines there
    show_prints [] lines there gives h = record {
      items = show_item;
      fits = ((number, depth, tt), tt);
      gives = gives show_item refl;
      legal = served;
      prints = show_lines ∙ sym h.0;
      leads = show_leads ∙ sym h.1;
    }
    show_prints (o ∷ os) lines there gives h = held_prints g call_of showing p (here (orders.Show what)) Frames lines there number depth served (gives (one g call_of showing p (here (orders.Show what)) (entry.Stays Frames)) refl) h

    prints_show : (os : List (Open Call)) (lines : List Line) (there : AuditState State Call) (y : PrintsItems g call_of showing p (here (orders.Show what)) lines there) → follows.Shows p.moment line (orders.Show what) os y.items
        → PrintsShowOver showing p what os lines there
    prints_show [] lines there y is = (
      sym (subst (λ (es : List Entry). block_lines g call_of showing p (here (orders.Show what)) es ≡ lines) is y.prints) ∙ show_lines,
      sym (subst (λ (es : List Entry). place_after g call_of showing p (here (orders.Show what)) es ≡ there) is y.leads) ∙ show_leads,
    )
    prints_show (o ∷ os) lines there y h = prints_held g call_of showing p (here (orders.Show what)) Frames lines there y h

  -- ---- each directive

  hardware : (order : Order) → (deeds : deeds_in call_of order (one g call_of showing p (here order) (entry.Happens order)) ≡ Happens order ∷ []) → block_lines g call_of showing p (here order) (one g call_of showing p (here order) (entry.Happens order)) ≡ Done ∷ []
      → chapter_frames order p.frames (one g call_of showing p (here order) (entry.Happens order)) ≡ p.frames → HappensFits order
      → ((items : List Entry) → follows.HappensOnly p.moment line order (hardware_held g p.moment order) items → Gives g call_of p.moment line order items)
      → ((items : List Entry) → Gives g call_of p.moment line order items → follows.HappensOnly p.moment line order (hardware_held g p.moment order) items)
      → Same order (λ lines there. PrintsHardware g p order lines there)
  hardware order deeds prints frames fits gives given lines there = (
    (λ h. happening_prints g call_of showing p (here order) order deeds prints frames fits (hardware_held g p.moment order) lines there number depth served gives h),
    (λ y. prints_happening g call_of showing p (here order) order deeds prints frames fits (hardware_held g p.moment order) lines there y (given y.items y.gives)),
  )

  pub each_order : (order : Order) → HappensFits order → Same order (λ lines there. PrintsOrder g call_of showing p line order lines there)
  each_order (orders.Call level r) f lines there = (
    (λ h. only_prints g call_of showing p (here (orders.Call level r)) (Called (call_of r)) level (purposes.Call r.service) refl refl (call_held g p.moment (call_of r) level) lines there number depth served (λ items k. k) h),
    (λ y. prints_only g call_of showing p (here (orders.Call level r)) (Called (call_of r)) level (purposes.Call r.service) refl refl (call_held g p.moment (call_of r) level) lines there y y.gives),
  )
  each_order (orders.Do level r) f lines there = (
    (λ h. whole_prints (orders.Do level r) (Called (call_of r)) level (purposes.Call r.service) refl refl refl (call_held g p.moment (call_of r) level) lines there (λ items k. k) h),
    (λ y. prints_whole (orders.Do level r) (Called (call_of r)) level (purposes.Call r.service) refl refl refl (call_held g p.moment (call_of r) level) lines there y y.gives),
  )
  each_order (orders.Enter irq) f lines there = (
    (λ h. only_prints g call_of showing p (here (orders.Enter irq)) (Entered irq) 0 (purposes.Handler irq) refl refl (line_held g p.moment irq) lines there number depth served (λ items k. k) h),
    (λ y. prints_only g call_of showing p (here (orders.Enter irq)) (Entered irq) 0 (purposes.Handler irq) refl refl (line_held g p.moment irq) lines there y y.gives),
  )
  each_order (orders.Serve irq) f lines there = (
    (λ h. whole_prints (orders.Serve irq) (Entered irq) 0 (purposes.Handler irq) refl refl refl (line_held g p.moment irq) lines there (λ items k. k) h),
    (λ y. prints_whole (orders.Serve irq) (Entered irq) 0 (purposes.Handler irq) refl refl refl (line_held g p.moment irq) lines there y y.gives),
  )
  each_order (orders.Run n) f lines there = ((λ h. goes_prints (orders.Run n) refl (Count n) p.moment.opens lines there (λ items k. k) h), (λ y. prints_goes (orders.Run n) refl (Count n) p.moment.opens lines there y y.gives))
  each_order (orders.Upto stop) f lines there = ((λ h. goes_prints (orders.Upto stop) refl (Until stop) p.moment.opens lines there (λ items k. k) h), (λ y. prints_goes (orders.Upto stop) refl (Until stop) p.moment.opens lines there y y.gives))
  each_order orders.Finish f lines there = ((λ h. goes_prints orders.Finish refl Whole p.moment.opens lines there (λ items k. k) h), (λ y. prints_goes orders.Finish refl Whole p.moment.opens lines there y y.gives))
  each_order (orders.Tick n) f lines there =
      ((λ h. ticks_print n f (g.machine.expires p.moment.world p.moment.state) lines there (λ items k. k) h), (λ y. prints_ticks n f (g.machine.expires p.moment.world p.moment.state) lines there y y.gives))
  each_order (orders.Level pin v) f lines there = hardware (orders.Level pin v) refl refl refl tt (λ items k. k) (λ items k. k) lines there
  each_order (orders.Analog i v) f lines there = hardware (orders.Analog i v) refl refl refl tt (λ items k. k) (λ items k. k) lines there
  each_order (orders.Trigger i) f lines there = hardware (orders.Trigger i) refl refl refl tt (λ items k. k) (λ items k. k) lines there
  each_order (orders.Miso u ws) f lines there = hardware (orders.Miso u ws) refl refl refl tt (λ items k. k) (λ items k. k) lines there
  each_order (orders.SpiFault u) f lines there = hardware (orders.SpiFault u) refl refl refl tt (λ items k. k) (λ items k. k) lines there
  each_order orders.Detach f lines there = hardware orders.Detach refl refl refl tt (λ items k. k) (λ items k. k) lines there
  each_order (orders.Fill c ws) f lines there = hardware (orders.Fill c ws) refl refl refl tt (λ items k. k) (λ items k. k) lines there
  each_order (orders.Reset PowerOn) f lines there =
      ((λ h. reset_prints g call_of showing p (here (orders.Reset PowerOn)) PowerOn lines there number depth served refl h), (λ y. prints_reset g call_of showing p (here (orders.Reset PowerOn)) PowerOn lines there y y.gives))
  each_order (orders.Reset Watchdog) f lines there =
      ((λ h. reset_prints g call_of showing p (here (orders.Reset Watchdog)) Watchdog lines there number depth served refl h), (λ y. prints_reset g call_of showing p (here (orders.Reset Watchdog)) Watchdog lines there y y.gives))
  each_order (orders.Reset Software) f lines there = ((λ h. absurd h), (λ y. absurd y.gives))
  each_order (orders.Show what) f lines there = ((λ h. show_prints what p.moment.opens lines there (λ items k. k) h), (λ y. prints_show what p.moment.opens lines there y y.gives))
