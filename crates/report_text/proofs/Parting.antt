-- The report of a journal from a directive on: its lines, its rows and what it counts, as those of the directive and of the others.
use Rattle.std.proofs.Common.{◌≡◌, ℕ, ◌+◌, Bool, true, cond, List, [], ◌∷◌, ◌++◌, Some, refl, ◌∙◌, ap, sym, arith, append_assoc}
use Rattle.std.specs.Prelude.{Option, count_by}
use Rattle.std.proofs.lemmas.Bool.{eq-eqb}
use Rattle.std.proofs.lemmas.List.Sums.{sum_by-cons}
use Rattle.bench_report.proofs.Items.{any, Each as EachOf}
use Rattle.bench_report.specs.Lines.{Line}
use Rattle.bench_report.specs.Report.{Numbered, frames_after, steps_next, said_lines, chapter_lines, chapter_frames, chapter_shows, with_done, later_entries, all_numbered, report_lines, is_return, is_leave, is_hold, is_error, is_note}
use Rattle.bench_report.specs.Rows.{Row}
use Rattle.bench_report.specs.Showing.{Showing, item_rows, shows_from}
use Rattle.bench_report.specs.Shown.{next_rows, shows_after}
use Rattle.bench_report.specs.declared.frames.Purpose.{Purpose}
use Rattle.bench_report.specs.declared.tally.Tally.{Tally}
use Rattle.mcal_base.specs.declared.directive.Directive.{Directive}
use Rattle.mcal_base.specs.declared.directive.Order.{Order}
use Rattle.mcal_base.specs.declared.directive.Order.TheVariants as orders
use Rattle.mcal_base.specs.declared.directive.Request.{Request}
use Rattle.report_text.specs.reading.Blocks.{AuditState, block_lines, counted, place_after}
use Rattle.report_text.proofs.Parted.{AllAbove, own_are, later_are}
use Rattle.run_model.specs.Entry as entry
use Rattle.run_model.specs.Entry.{Entry, Said}
use Rattle.run_model.specs.Follows.{deeds_in}
use Rattle.run_model.specs.Moment.{Setting, Moment, after_all}
use Rattle.run_model.specs.Script.{order_at, deed_of}
use Rattle.run_model.proofs.Following.{after_all-append}

-- ---- what is counted

-- what numbered lines add to what is counted
abbrev pub counted_on : Tally → List Numbered → Tally
counted_on t lines = record {
  calls = t.calls + count_by (λ l. is_return l.says) lines;
  handlers = t.handlers + count_by (λ l. is_leave l.says) lines;
  held = t.held + count_by (λ l. is_hold l.says) lines;
  errors = t.errors + count_by (λ l. is_error l.says) lines;
  notes = t.notes + count_by (λ l. is_note l.says) lines;
}

tally_with : (calls handlers held errors notes : ℕ) → Tally
tally_with calls handlers held errors notes = record { calls = calls; handlers = handlers; held = held; errors = errors; notes = notes }

pub same_tally : (s t : Tally) → s.calls ≡ t.calls → s.handlers ≡ t.handlers → s.held ≡ t.held → s.errors ≡ t.errors → s.notes ≡ t.notes → s ≡ t
unfolding tally_with
same_tally s t a b c d e =
    ap (λ (n : ℕ). tally_with n s.handlers s.held s.errors s.notes) a
    ∙ (ap (λ (n : ℕ). tally_with t.calls n s.held s.errors s.notes) b
    ∙ (ap (λ (n : ℕ). tally_with t.calls t.handlers n s.errors s.notes) c
    ∙ (ap (λ (n : ℕ). tally_with t.calls t.handlers t.held n s.notes) d
    ∙ ap (λ (n : ℕ). tally_with t.calls t.handlers t.held t.errors n) e)))

sum_assoc : (x y z : ℕ) → x + (y + z) ≡ x + y + z
sum_assoc x y z = omega arith

nothing_more : (x : ℕ) → x + 0 ≡ x
nothing_more x = omega arith

count_split : (q : Line → Bool) (n : ℕ) (lines : List Line) (others : List Numbered) → count_by (λ l. q l.says) (all_numbered n lines ++ others) ≡ count_by q lines + count_by (λ l. q l.says) others
count_split q n [] others = omega arith
count_split q n (line ∷ lines) others =
    sum_by-cons (λ (l : Numbered). cond (q l.says) 1 0) (record { number = n; says = line }) (all_numbered n lines ++ others)
    ∙ (ap (λ (k : ℕ). cond (q line) 1 0 + k) (count_split q n lines others)
    ∙ (sum_assoc (cond (q line) 1 0) (count_by q lines) (count_by (λ l. q l.says) others)
    ∙ ap (λ (k : ℕ). k + count_by (λ l. q l.says) others) (sym (sum_by-cons (λ (l : Line). cond (q l) 1 0) line lines))))

more_split : (q : Line → Bool) (x n : ℕ) (lines : List Line) (others : List Numbered) → x + count_by (λ l. q l.says) (all_numbered n lines ++ others) ≡ x + count_by q lines + count_by (λ l. q l.says) others
more_split q x n lines others = ap (λ (k : ℕ). x + k) (count_split q n lines others) ∙ sum_assoc x (count_by q lines) (count_by (λ l. q l.says) others)

pub counted_split : (t : Tally) (n : ℕ) (lines : List Line) (others : List Numbered) → counted_on t (all_numbered n lines ++ others) ≡ counted_on (counted t lines) others
counted_split t n lines others =
    same_tally (counted_on t (all_numbered n lines ++ others)) (counted_on (counted t lines) others)
    (more_split is_return t.calls n lines others) (more_split is_leave t.handlers n lines others) (more_split is_hold t.held n lines others) (more_split is_error t.errors n lines others) (more_split is_note t.notes n lines others)

pub counted_none : (t : Tally) → counted_on t [] ≡ t
counted_none t = same_tally (counted_on t []) t (nothing_more t.calls) (nothing_more t.handlers) (nothing_more t.held) (nothing_more t.errors) (nothing_more t.notes)

module _ {State Call : Type 0} (g : Setting State Call) (call_of : Request → Call) (showing : Showing State) where
  -- ---- rows

  order_used : (m : Moment State Call) (depth : ℕ) (frames : List Purpose) (next : Bool) (order : Order) (more other : List (List Row)) →
      said_lines true depth frames (next_rows (item_rows showing m (entry.Happens order) ++ more)) next (entry.Happens order) ≡ said_lines true depth frames (next_rows (item_rows showing m (entry.Happens order) ++ other)) next (entry.Happens order)
  order_used m depth frames next (orders.Show what) more other = refl
  order_used m depth frames next _ more other = refl

  -- an item prints its own rows
  rows_used : (m : Moment State Call) (depth : ℕ) (frames : List Purpose) (next : Bool) (said : Said) (more other : List (List Row)) →
      said_lines true depth frames (next_rows (item_rows showing m said ++ more)) next said ≡ said_lines true depth frames (next_rows (item_rows showing m said ++ other)) next said
  rows_used m depth frames next (entry.Happens order) more other = order_used m depth frames next order more other
  rows_used m depth frames next _ more other = refl

  order_left : (m : Moment State Call) (order : Order) (more : List (List Row)) → shows_after (item_rows showing m (entry.Happens order) ++ more) (entry.Happens order) ≡ more
  order_left m (orders.Show what) more = refl
  order_left m _ more = refl

  rows_left : (m : Moment State Call) (said : Said) (more : List (List Row)) → shows_after (item_rows showing m said ++ more) said ≡ more
  rows_left m (entry.Happens order) more = order_left m order more
  rows_left m _ more = refl

  -- the items of a directive print their own rows
  lines_kept : (order : Order) (ds : List Directive) (items : List Entry) (m : Moment State Call) (frames : List Purpose) (more : List (List Row)) →
      chapter_lines true order frames (shows_from g call_of showing ds m items ++ more) items ≡ chapter_lines true order frames (shows_from g call_of showing ds m items) items
  lines_kept order ds [] m frames more = refl
  lines_kept order ds (e ∷ es) m frames more =
      let own = item_rows showing m e.said in
      let m1 = after_all g m (deed_of call_of (order_at ds e.line) e.said) in
      let rest = shows_from g call_of showing ds m1 es in
      let kept = frames_after order frames e.said in
      let lines : List (List Row) → List Line = λ rows. said_lines true e.depth frames (next_rows rows) (steps_next es) e.said in
      ap (λ (rows : List (List Row)). lines rows ++ chapter_lines true order kept (shows_after rows e.said) es) (append_assoc own rest more)
      ∙ (ap (λ (ls : List Line). ls ++ chapter_lines true order kept (shows_after (own ++ (rest ++ more)) e.said) es) (rows_used m e.depth frames (steps_next es) e.said (rest ++ more) rest)
      ∙ ap (λ (ls : List Line). lines (own ++ rest) ++ ls)
      (ap (λ (rows : List (List Row)). chapter_lines true order kept rows es) (rows_left m e.said (rest ++ more))
      ∙ (lines_kept order ds es m1 kept more ∙ ap (λ (rows : List (List Row)). chapter_lines true order kept rows es) (sym (rows_left m e.said rest)))))

  -- and leave those of the others
  shows_kept : (ds : List Directive) (items : List Entry) (m : Moment State Call) (more : List (List Row)) → chapter_shows (shows_from g call_of showing ds m items ++ more) items ≡ more
  shows_kept ds [] m more = refl
  shows_kept ds (e ∷ es) m more =
      let own = item_rows showing m e.said in
      let m1 = after_all g m (deed_of call_of (order_at ds e.line) e.said) in
      let rest = shows_from g call_of showing ds m1 es in
      ap (λ (rows : List (List Row)). chapter_shows (shows_after rows e.said) es) (append_assoc own rest more)
      ∙ (ap (λ (rows : List (List Row)). chapter_shows rows es) (rows_left m e.said (rest ++ more)) ∙ shows_kept ds es m1 more)

  -- the shows of a directive, in front of those of the others
  shows_split : (script : List Directive) (d : Directive) (first later : List Entry) (m : Moment State Call) → EachOf d.line any first → order_at script d.line ≡ Some d.order →
      shows_from g call_of showing script m (first ++ later) ≡ shows_from g call_of showing (d ∷ []) m first ++ shows_from g call_of showing script (after_all g m (deeds_in call_of d.order first)) later
  shows_split script d [] later m own found = refl
  shows_split script d (e ∷ es) later m own found =
      let rows = item_rows showing m e.said in
      let deeds = deed_of call_of (Some d.order) e.said in
      let m1 = after_all g m deeds in
      let found1 = ap (order_at script) own.0 ∙ found in
      let found2 = ap (order_at (d ∷ [])) own.0 ∙ ap (λ (b : Bool). cond b (Some d.order) (order_at [] d.line)) (eq-eqb d.line d.line refl) in
      let last = shows_from g call_of showing script (after_all g m1 (deeds_in call_of d.order es)) later in
      ap (λ (o : Option Order). rows ++ shows_from g call_of showing script (after_all g m (deed_of call_of o e.said)) (es ++ later)) found1
      ∙ (ap (λ (more : List (List Row)). rows ++ more) (shows_split script d es later m1 own.2 found)
      ∙ (sym (append_assoc rows (shows_from g call_of showing (d ∷ []) m1 es) last)
      ∙ (ap (λ (o : Option Order). (rows ++ shows_from g call_of showing (d ∷ []) (after_all g m (deed_of call_of o e.said)) es) ++ last) (sym found2)
      ∙ ap (λ (x : Moment State Call). shows_from g call_of showing (d ∷ []) m (e ∷ es) ++ shows_from g call_of showing script x later) (sym (after_all-append g m deeds (deeds_in call_of d.order es))))))

  -- ---- lines

  -- the lines of a report with these items of its first directive, these of the others, and these shows
  abbrev lines_by : List Purpose → Directive → List Directive → (shows : List (List Row)) → (first later : List Entry) → List Numbered
  lines_by frames d ds shows first later = all_numbered d.line (with_done (chapter_lines true d.order frames shows first)) ++ report_lines true (chapter_frames d.order frames first) (chapter_shows shows first) ds later

  -- the lines of a report from a place on, with these directives and items
  abbrev pub lines_from : (script : List Directive) → AuditState State Call → List Directive → List Entry → List Numbered
  lines_from script p ds items = report_lines true p.frames (shows_from g call_of showing script p.moment items) ds items

  module _ (script : List Directive) (p : AuditState State Call) (d : Directive) (first later : List Entry) (own : EachOf d.line any first) (found : order_at script d.line ≡ Some d.order) where
    pub shows_next : chapter_shows (shows_from g call_of showing script p.moment (first ++ later)) first ≡ shows_from g call_of showing script (place_after g call_of showing p d first).moment later
    shows_next = ap (λ (rows : List (List Row)). chapter_shows rows first) (shows_split script d first later p.moment own found) ∙ shows_kept (d ∷ []) first p.moment _

    pub lines_own : with_done (chapter_lines true d.order p.frames (shows_from g call_of showing script p.moment (first ++ later)) first) ≡ block_lines g call_of showing p d first
    lines_own = ap (λ (rows : List (List Row)). with_done (chapter_lines true d.order p.frames rows first)) (shows_split script d first later p.moment own found) ∙ ap with_done (lines_kept d.order (d ∷ []) first p.moment p.frames _)

    -- the block of a directive stands in front of the others
    pub lines_split : (ds : List Directive) → AllAbove d.line later → lines_from script p (d ∷ ds) (first ++ later) ≡ all_numbered d.line (block_lines g call_of showing p d first) ++ lines_from script (place_after g call_of showing p d first) ds later
    lines_split ds above =
        let shows = shows_from g call_of showing script p.moment (first ++ later) in
        ap (λ (xs : List Entry). lines_by p.frames d ds shows xs (later_entries d.line (first ++ later))) (own_are d.line first later own above)
        ∙ (ap (λ (xs : List Entry). lines_by p.frames d ds shows first xs) (later_are d.line first later own above)
        ∙ (ap (λ (lines : List Line). all_numbered d.line lines ++ report_lines true (chapter_frames d.order p.frames first) (chapter_shows shows first) ds later) lines_own
        ∙ ap (λ (rows : List (List Row)). all_numbered d.line (block_lines g call_of showing p d first) ++ report_lines true (chapter_frames d.order p.frames first) rows ds later) shows_next))
