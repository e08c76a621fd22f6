-- The audit of a report answers one verdict; what it passes is the report of a run, and it passes the report of each run.
use Rattle.std.proofs.Common.{◌≡◌, ℕ, suc, ◌+◌, true, List, [], ◌∷◌, ◌++◌, length, map, refl, ◌∙◌, ap, sym, subst, arith, length-append}
use Rattle.std.specs.List.{join_with_byte}
use Rattle.std.proofs.lemmas.List.Splits.{join_with_byte-slice_split}
use Rattle.bench_report.specs.Lines.{Line, end_text}
use Rattle.bench_report.specs.Numbers.{Each, EntryFits}
use Rattle.bench_report.specs.Report.{Numbered, chapter_lines, chapter_shows, with_done, all_numbered, report_lines}
use Rattle.bench_report.specs.Rows.{Row}
use Rattle.bench_report.specs.Showing.{Showing, shows_from}
use Rattle.bench_report.specs.declared.tally.Tally.{Tally}
use Rattle.chip_model.specs.Chip.{Chip}
use Rattle.mcal_base.specs.declared.directive.Directive.{Directive}
use Rattle.mcal_base.specs.declared.directive.Request.{Request}
use Rattle.report_text.specs.reading.Audits.{Audits, Ends, Unended, Unserved, Next, Refused, AuditsReport, IsReportOf}
use Rattle.report_text.specs.reading.Blocks.{AuditState, IsBlock, place_from, block_lines, place_after, own_lines, behind, text_of, printed}
use Rattle.report_text.specs.reading.Fits.{DirectiveFits}
use Rattle.report_text.specs.reading.Reading.{IsPlace, read_report}
use Rattle.report_text.specs.declared.reading.verdict.Verdict.{Verdict}
use Rattle.report_text.specs.declared.reading.verdict.Verdict.TheVariants.{Passed}
use Rattle.report_text.proofs.Once.{reads_once}
use Rattle.report_text.proofs.Parted.{own_line, all_above, Finds, finds, deeds_split, text_more}
use Rattle.report_text.proofs.Parting.{counted_on, same_tally, counted_split, counted_none, lines_from, shows_next, lines_own, lines_split}
use Rattle.report_text.proofs.Places.{each_append}
use Rattle.report_text.proofs.Reports.{counted_by, left_text, Comes, cut, reads_reports}
use Rattle.report_text.proofs.Texts.{own_text, parts_joined}
use Rattle.run_model.specs.Entry.{Entry}
use Rattle.run_model.specs.Follows.{Follows, deeds_in}
use Rattle.run_model.specs.Legal.{IsLegal}
use Rattle.run_model.specs.Moment.{Setting, Moment, Transition, start_moment}
use Rattle.run_model.specs.Script.{deeds_of}
use Rattle.run_model.proofs.LegalLaws.{served-first, legal-joined}
use Rattle.script_runner.specs.Scripts.{LinesRise}
use Rattle.trace_reader.specs.Reading.{line_with, parts_of}
use Rattle.trace_reader.specs.Trace.{lines_text}

none_more : (n : ℕ) → n ≡ n + 0
none_more n = omega arith

lines_more : (n a b c d : ℕ) → a ≡ b → c ≡ b + d → n + a + d ≡ n + c
lines_more n a b c d e f = omega (arith, e, f)

numbered_length : (n : ℕ) (lines : List Line) → length (all_numbered n lines) ≡ length lines
numbered_length n [] = refl
numbered_length n (line ∷ lines) = ap (λ (k : ℕ). suc k) (numbered_length n lines)

own_length : (n : ℕ) (lines : List Line) → length (map (λ line. line_with n line) lines) ≡ length lines
own_length n [] = refl
own_length n (line ∷ lines) = ap (λ (k : ℕ). suc k) (own_length n lines)

none_before : (n : ℕ) → 0 + n ≡ n
none_before n = omega arith

module _ {State Call : Type 0} (g : Setting State Call) (call_of : Request → Call) (showing : Showing State) where
  -- ---- one verdict

  pub answers_once : (script : List Directive) (p : AuditState State Call) (line : ℕ) (left : List (List ℕ)) {one other : Verdict} → IsPlace p → Each DirectiveFits script →
      Audits g call_of showing p script line left one → Audits g call_of showing p script line left other → one ≡ other
  answers_once [] p line left place fits (Ends served end) (Ends served1 end1) = refl
  answers_once [] p line left place fits (Ends served end) (Unended served1 other) = absurd (other end)
  answers_once [] p line left place fits (Ends served end) (Unserved other) = absurd (other served)
  answers_once [] p line left place fits (Unended served other) (Ends served1 end) = absurd (other end)
  answers_once [] p line left place fits (Unended served other) (Unended served1 other1) = refl
  answers_once [] p line left place fits (Unended served other) (Unserved other1) = absurd (other1 served)
  answers_once [] p line left place fits (Unserved other) (Ends served end) = absurd (other served)
  answers_once [] p line left place fits (Unserved other) (Unended served other1) = absurd (other served)
  answers_once [] p line left place fits (Unserved other) (Unserved other1) = refl
  answers_once (d ∷ ds) p line left {one} {other} place fits (Next b rest) (Next c more) =
      let once = reads_once g call_of showing p d (text_of (own_lines d.line left)) b c place fits.0 in
      answers_once ds (place_after g call_of showing p d b.items) (line + length (own_lines d.line left)) (behind d.line left) once.1 fits.1 rest
      (subst (λ (items : List Entry). Audits g call_of showing (place_after g call_of showing p d items) ds (line + length (own_lines d.line left)) (behind d.line left) other) (sym once.0) more)
  answers_once (d ∷ ds) p line left place fits (Next b rest) (Refused other) = absurd (other b)
  answers_once (d ∷ ds) p line left place fits (Refused other) (Next c more) = absurd (other c)
  answers_once (d ∷ ds) p line left place fits (Refused other) (Refused other1) = refl

  -- ---- what is passed is the report of a run

  module _ (script : List Directive) where
    -- Items of the directives that are left, as a journal holds them, legal, whose lines and the last one are what is left.
    record IsRest (p : AuditState State Call) (ds : List Directive) (left : List (List ℕ)) : Type 0 where
      items : List Entry
      fit : Each EntryFits items
      follows : Follows g call_of p.moment ds items
      legal : IsLegal g p.moment (deeds_of call_of script items)
      text : join_with_byte 10 left ≡ lines_text (lines_from g call_of showing script p ds items) ++ end_text (counted_on p.tally (lines_from g call_of showing script p ds items))

    more_rest : (low : ℕ) (p : AuditState State Call) (d : Directive) (ds : List Directive) (left : List (List ℕ)) (b : IsBlock g call_of showing p d (text_of (own_lines d.line left))) → LinesRise low (d ∷ ds) → Finds g call_of script (d ∷ ds) →
        IsRest (place_after g call_of showing p d b.items) ds (behind d.line left) → IsRest p (d ∷ ds) left
    more_rest low p d ds left b rise found r =
        let later = place_after g call_of showing p d b.items in
        let items = b.items ++ r.items in
        let follows : Follows g call_of p.moment (d ∷ ds) items = record { first = b.items; later = r.items; is = refl; gives = b.gives; rest = r.follows } in
        let own = own_line g call_of p.moment d ds items follows in
        let above = all_above g call_of d.line ds later.moment r.items rise.1 r.follows in
        let others = lines_from g call_of showing script later ds r.items in
        let end = end_text (counted_on later.tally others) in
        let split = lines_split g call_of showing script p d b.items r.items own found.0 ds above in
        record {
          items = items;
          fit = each_append EntryFits b.items r.items b.fits r.fit;
          follows = follows;
          legal = subst (λ (deeds : List (Transition Call)). IsLegal g p.moment deeds) (sym (deeds_split g call_of script d.line d.order b.items r.items found.0 own))
              (legal-joined g p.moment (deeds_in call_of d.order b.items) (deeds_of call_of script r.items) b.legal r.legal);
          text = parts_joined d.line left
              ∙ (ap (λ (bs : List ℕ). bs ++ join_with_byte 10 (behind d.line left)) (sym b.prints)
              ∙ (ap (λ (bs : List ℕ). printed d.line (block_lines g call_of showing p d b.items) ++ bs) r.text
              ∙ (sym (text_more d.line (block_lines g call_of showing p d b.items) others end)
              ∙ (ap (λ (t : Tally). lines_text (all_numbered d.line (block_lines g call_of showing p d b.items) ++ others) ++ end_text t) (sym (counted_split p.tally d.line (block_lines g call_of showing p d b.items) others))
              ∙ ap (λ (ls : List Numbered). lines_text ls ++ end_text (counted_on p.tally ls)) (sym split)))));
        }

    passed_rest : (ds : List Directive) (low : ℕ) (p : AuditState State Call) (line : ℕ) (left : List (List ℕ)) (lines : ℕ) {verdict : Verdict} → verdict ≡ Passed lines → LinesRise low ds → Finds g call_of script ds →
        Audits g call_of showing p ds line left verdict → IsRest p ds left
    passed_rest [] low p line left lines e rise found (Ends served end) = record {
      items = [];
      fit = tt;
      follows = refl;
      legal = served;
      text = ap (join_with_byte 10) end ∙ (join_with_byte-slice_split 10 (end_text p.tally) ∙ ap end_text (sym (counted_none p.tally)));
    }
    passed_rest [] low p line left lines e rise found (Unended served other) = cc
    passed_rest [] low p line left lines e rise found (Unserved other) = cc
    passed_rest (d ∷ ds) low p line left lines e rise found (Next b rest) =
        more_rest low p d ds left b rise found (passed_rest ds d.line (place_after g call_of showing p d b.items) (line + length (own_lines d.line left)) (behind d.line left) lines e rise.1 found.1 rest)
    passed_rest (d ∷ ds) low p line left lines e rise found (Refused other) = cc

  -- what is counted from the front of a report
  all_counted : (m : Moment State Call) (lines : List Numbered) → counted_on (place_from m).tally lines ≡ counted_by lines
  all_counted m lines = same_tally (counted_on (place_from m).tally lines) (counted_by lines) (none_before _) (none_before _) (none_before _) (none_before _) (none_before _)

  pub passes_runs : (first : Chip) (script : List Directive) (text : List ℕ) (lines : ℕ) → LinesRise 0 script → Each DirectiveFits script →
      AuditsReport g call_of showing first script text (Passed lines) → IsReportOf g call_of showing first script text (read_report g call_of (start_moment g first) script text)
  passes_runs first script text lines rise fits audits =
      let m = start_moment g first in
      let r = passed_rest script script 0 (place_from m) 1 (parts_of text) lines refl rise (finds g call_of 0 script rise) audits in
      let ls = lines_from g call_of showing script (place_from m) script r.items in
      let is : IsReportOf g call_of showing first script text r.items = record {
        fits = r.fit;
        run = record { follows = r.follows; legal = r.legal };
        prints = ap (λ (t : Tally). lines_text ls ++ end_text t) (sym (all_counted m ls)) ∙ (sym r.text ∙ join_with_byte-slice_split 10 text);
      } in
      let read = reads_reports g call_of first script r.items (shows_from g call_of showing script m r.items) rise fits r.fit is.run in
      subst (λ (journal : List Entry). IsReportOf g call_of showing first script text journal) (sym read ∙ ap (read_report g call_of m script) is.prints) is

  -- ---- the report of a run is passed

  module _ (script : List Directive) (tally : Tally) where
    all_pass : (ds : List Directive) (low : ℕ) (p : AuditState State Call) (line : ℕ) (items : List Entry) →
        Comes g call_of script tally low ds p.moment p.frames (shows_from g call_of showing script p.moment items) items → Follows g call_of p.moment ds items →
        tally ≡ counted_on p.tally (lines_from g call_of showing script p ds items) →
        Audits g call_of showing p ds line (parts_of (left_text g call_of script tally (lines_from g call_of showing script p ds items))) (Passed (line + length (lines_from g call_of showing script p ds items)))
    all_pass [] low p line items c h t =
        subst (λ (n : ℕ). Audits g call_of showing p [] line (parts_of (end_text tally)) (Passed n)) (none_more line)
        (Ends (served-first g p.moment (deeds_of call_of script items) c.legal) (ap (λ (x : Tally). parts_of (end_text x)) (t ∙ counted_none p.tally)))
    all_pass (d ∷ ds) low p line items c h t =
        let k = cut g call_of script tally low d ds p.moment p.frames (shows_from g call_of showing script p.moment items) items c h in
        let own = own_line g call_of p.moment d ds items h in
        let later = place_after g call_of showing p d h.first in
        let block = block_lines g call_of showing p d h.first in
        let others = lines_from g call_of showing script later ds h.later in
        let here = lines_from g call_of showing script p (d ∷ ds) items in
        let left = parts_of (left_text g call_of script tally here) in
        let same : with_done (chapter_lines true d.order p.frames (shows_from g call_of showing script p.moment items) h.first) ≡ block =
        ap (λ (es : List Entry). with_done (chapter_lines true d.order p.frames (shows_from g call_of showing script p.moment es) h.first)) h.is ∙ lines_own g call_of showing script p d h.first h.later own c.finds.0 in
        let shows = ap (λ (es : List Entry). chapter_shows (shows_from g call_of showing script p.moment es) h.first) h.is ∙ shows_next g call_of showing script p d h.first h.later own c.finds.0 in
        let split : here ≡ all_numbered d.line block ++ others = ap (λ (es : List Entry). lines_from g call_of showing script p (d ∷ ds) es) h.is ∙ lines_split g call_of showing script p d h.first h.later own c.finds.0 ds k.above in
        let own_is : own_lines d.line left ≡ map (λ line. line_with d.line line) block = k.own ∙ ap (λ (ls : List Line). map (λ line. line_with d.line line) ls) same in
        let b : IsBlock g call_of showing p d (text_of (own_lines d.line left)) = record {
          items = h.first;
          fits = k.fit;
          gives = h.gives;
          legal = k.legal_first;
          prints = sym (ap text_of own_is ∙ own_text d.line block);
        } in
        let next = subst (λ (rows : List (List Row)). Comes g call_of script tally d.line ds later.moment later.frames rows h.later) shows k.next in
        let count : line + length (own_lines d.line left) + length others ≡ line + length here =
        lines_more line (length (own_lines d.line left)) (length block) (length here) (length others) (ap length own_is ∙ own_length d.line block)
        (ap length split ∙ (length-append (all_numbered d.line block) others ∙ ap (λ (n : ℕ). n + length others) (numbered_length d.line block))) in
        let rest : behind d.line left ≡ parts_of (left_text g call_of script tally others) = k.rest ∙ ap (λ (rows : List (List Row)). parts_of (left_text g call_of script tally (report_lines true later.frames rows ds h.later))) shows in
        let ih = all_pass ds d.line later (line + length (own_lines d.line left)) h.later next h.rest (t ∙ (ap (counted_on p.tally) split ∙ counted_split p.tally d.line block others)) in
        Next b
        (subst (λ (n : ℕ). Audits g call_of showing later ds (line + length (own_lines d.line left)) (behind d.line left) (Passed n)) count
        (subst (λ (ps : List (List ℕ)). Audits g call_of showing later ds (line + length (own_lines d.line left)) ps (Passed (line + length (own_lines d.line left) + length others))) (sym rest) ih))

  pub runs_pass : (first : Chip) (script : List Directive) (text : List ℕ) (journal : List Entry) → LinesRise 0 script → Each DirectiveFits script →
      IsReportOf g call_of showing first script text journal → AuditsReport g call_of showing first script text (Passed (1 + length (report_lines true [] (shows_from g call_of showing script (start_moment g first) journal) script journal)))
  runs_pass first script text journal rise fits is =
      let m = start_moment g first in
      let p = place_from m in
      let ls = lines_from g call_of showing script p script journal in
      subst (λ (bs : List ℕ). Audits g call_of showing p script 1 (parts_of bs) (Passed (1 + length ls))) is.prints
      (all_pass script (counted_by ls) script 0 p 1 journal
      (record { rise = rise; finds = finds g call_of 0 script rise; script_fits = fits; fits = is.fits; frames_fit = tt; begun = refl; legal = is.run.legal })
      is.run.follows (sym (all_counted m ls)))
