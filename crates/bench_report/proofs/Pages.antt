-- What is written line by line is the report, as far as it may be long.
use Rattle.std.proofs.Common.{◌≡◌, ℕ, Bool, true, false, List, [], ◌∷◌, ◌++◌, refl, ap, sym, subst, ◌∙◌, append_assoc, cond, arith, Option, Some, None, map, length}
use Rattle.std.specs.Prelude.{◌&&◌, ◌==◌, flat_map, count_by, decimal, codes}
use Rattle.std.specs.List.{list_all}
use Rattle.std.proofs.lemmas.Bool.Decides.{nat_tests}
use Rattle.std.proofs.lemmas.Bool.{eqb-true}
use Rattle.std.proofs.lemmas.List.{append-nil, map-append, length-append}
use Rattle.std.proofs.lemmas.List.Folds.{list_all-append}
use Rattle.mcal_base.specs.facts.Truths.{and_true}
use Rattle.mcal_base.specs.declared.directive.Directive.{Directive}
use Rattle.mcal_base.specs.declared.directive.Order.{Order}
use Rattle.mcal_base.specs.declared.directive.Order.TheVariants as orders
use Rattle.run_model.specs.Entry.{Entry, Said, Happens, Begins, Stays, Steps, Resets}
use Rattle.run_model.specs.declared.item.Stepped.{Stepped}
use Rattle.bench_report.specs.declared.frames.Purpose.{Purpose}
use Rattle.bench_report.specs.Limit.{is_too_long}
use Rattle.bench_report.specs.Lines.{Line, Holds, Restarts, Shows, Done, numbered, line_text, end_text}
use Rattle.bench_report.specs.Rows.{Row}
use Rattle.bench_report.specs.Shown.{rows_text, next_rows, order_texts, said_texts, shows_after, texts_of}
use Rattle.bench_report.specs.declared.tally.Tally.{Tally}
use Rattle.bench_report.proofs.Counts.{calls_after, handlers_after, held_after, errors_after, notes_after}
use Rattle.bench_report.specs.Report.{Numbered, order_lines, said_lines, step_lines, wait_lines, steps_next, move_lines, end_lines, frames_after, frames_after_end, is_traced, chapter_lines, chapter_frames, chapter_shows, with_done, own_entries, later_entries, report_lines, report, all_numbered, is_return, is_leave, is_hold, is_error, is_note, end_of}
use Rattle.bench_report.specs.Pages.{Page, ReportWriter, blank, beginning, fitting, fitting_text, with_line, with_text, with_lines, put, paste, ended, say, say_all, text_put, order_put, said_put, step_put, entry_put, entries_put, closed, chapter_put, script_put, page_after}

and_assoc : (a b c : Bool) → ((a && b) && c) ≡ (a && (b && c))
and_assoc true b c = refl
and_assoc false b c = refl

-- ---- texts that grow

longer : (xs ys : List ℕ) → is_too_long xs ≡ true → is_too_long (xs ++ ys) ≡ true
longer xs ys h = let more = length-append xs ys in grind (arith, nat_tests)

fit_by : (b : Bool) (p : Page) (n : ℕ) (l : Line) → is_too_long p.text ≡ b → put (cond b None (Some p)) n l ≡ fitting (with_line p n l)
fit_by true p n l h = rw (longer p.text (numbered n l) h)
fit_by false p n l h = refl

put_fits : (p : Page) (n : ℕ) (l : Line) → put (fitting p) n l ≡ fitting (with_line p n l)
put_fits p n l = fit_by (is_too_long p.text) p n l refl

paste_by : (b : Bool) (p : Page) (text : List ℕ) → is_too_long p.text ≡ b → paste (cond b None (Some p)) text ≡ fitting (with_text p text)
paste_by true p text h = rw (longer p.text text h)
paste_by false p text h = refl

paste_fits : (p : Page) (text : List ℕ) → paste (fitting p) text ≡ fitting (with_text p text)
paste_fits p text = paste_by (is_too_long p.text) p text refl

ended_by : (b : Bool) (p : Page) → is_too_long p.text ≡ b → ended (cond b None (Some p)) ≡ fitting_text (p.text ++ end_text p.tally)
ended_by true p h = rw (longer p.text (end_text p.tally) h)
ended_by false p h = refl

ended_fits : (p : Page) → ended (fitting p) ≡ fitting_text (p.text ++ end_text p.tally)
ended_fits p = ended_by (is_too_long p.text) p refl

-- pages and lines
after_fits : (p : Page) (ls : List Numbered) → page_after (fitting p) ls ≡ fitting (with_lines p ls)
after_fits p [] = refl
after_fits p (l ∷ ls) = ap (λ q. page_after q ls) (put_fits p l.number l.says) ∙ after_fits (with_line p l.number l.says) ls

page_after-append : (page : Option Page) (xs ys : List Numbered) → page_after page (xs ++ ys) ≡ page_after (page_after page xs) ys
page_after-append page [] ys = refl
page_after-append page (x ∷ xs) ys = page_after-append (put page x.number x.says) xs ys

with_lines-text : (page : Page) (xs : List Numbered) → (with_lines page xs).text ≡ page.text ++ flat_map (λ l. numbered l.number l.says) xs
with_lines-text page [] = sym (append-nil page.text)
with_lines-text page (x ∷ xs) = with_lines-text (with_line page x.number x.says) xs ∙ append_assoc page.text (numbered x.number x.says) (flat_map (λ l. numbered l.number l.says) xs)

with_lines-append : (page : Page) (xs ys : List Numbered) → with_lines page (xs ++ ys) ≡ with_lines (with_lines page xs) ys
with_lines-append page [] ys = refl
with_lines-append page (x ∷ xs) ys = with_lines-append (with_line page x.number x.says) xs ys

-- the lines of a show, at once and one after the other
rows_one : (p : Page) (n : ℕ) (rows : List Row) → with_lines p (all_numbered n (map (λ row. Shows row) rows)) ≡ with_text p (rows_text n rows)
rows_one p n [] = ap (λ t. record { text = t; tally = p.tally }) (sym (append-nil p.text))
rows_one p n (row ∷ rows) = rows_one (with_line p n (Shows row)) n rows ∙ ap (λ t. record { text = t; tally = p.tally }) (append_assoc p.text (numbered n (Shows row)) (rows_text n rows))

rows_pasted : (p : Page) (n : ℕ) (rows : List Row) → paste (fitting p) (rows_text n rows) ≡ page_after (fitting p) (all_numbered n (map (λ row. Shows row) rows))
rows_pasted p n rows = paste_fits p (rows_text n rows) ∙ ap (λ q. fitting q) (sym (rows_one p n rows)) ∙ sym (after_fits p (all_numbered n (map (λ row. Shows row) rows)))

numbered_some : (n : ℕ) (l : Line) (xs : List ℕ) → (length (numbered n l ++ xs) == 0) ≡ false
numbered_some n l xs =
    let a = length-append (numbered n l) xs in
    let b = length-append (decimal n) (codes " " ++ (line_text l ++ codes "\n")) in
    grind (arith, nat_tests)

rows_silent : (n : ℕ) (rows : List Row) → (length (rows_text n rows) == 0) ≡ list_all is_traced (map (λ row. Shows row) rows)
rows_silent n [] = refl
rows_silent n (row ∷ rows) = numbered_some n (Shows row) (rows_text n rows)

-- ---- lines of one number, said one after the other

said_is : (c : ReportWriter) (n : ℕ) (lines : List Line) → say_all c n lines ≡ record { page = page_after c.page (all_numbered n lines); frames = c.frames; silent = c.silent && list_all is_traced lines; shows = c.shows }
said_is c n [] = ap (λ s. record { page = c.page; frames = c.frames; silent = s; shows = c.shows }) (sym (and_true c.silent))
said_is c n (line ∷ lines) = said_is (say c n line) n lines ∙ ap (λ s. record { page = page_after (put c.page n line) (all_numbered n lines); frames = c.frames; silent = s; shows = c.shows }) (and_assoc c.silent (is_traced line) (list_all is_traced lines))

-- lines said in two parts
say_all-append : (c : ReportWriter) (n : ℕ) (xs ys : List Line) → say_all c n (xs ++ ys) ≡ say_all (say_all c n xs) n ys
say_all-append c n [] ys = refl
say_all-append c n (x ∷ xs) ys = say_all-append (say c n x) n xs ys

-- what stands after lines
made : List Purpose → List (List ℕ) → Option Page → Bool → ReportWriter
made frames shows page silent = record { page = page; frames = frames; silent = silent; shows = shows }

after_lines : ReportWriter → ℕ → List Line → List Purpose → List (List ℕ) → ReportWriter
after_lines c n lines frames shows = made frames shows (page_after c.page (all_numbered n lines)) (c.silent && list_all is_traced lines)

page_twice : (page : Option Page) (n : ℕ) (xs ys : List Line) → page_after (page_after page (all_numbered n xs)) (all_numbered n ys) ≡ page_after page (all_numbered n (xs ++ ys))
page_twice page n xs ys =
    sym (ap (λ ls. page_after page ls) (map-append (λ line. record { number = n; says = line }) xs ys) ∙ page_after-append page (all_numbered n xs) (all_numbered n ys))

silent_twice : (a : Bool) (xs ys : List Line) → ((a && list_all is_traced xs) && list_all is_traced ys) ≡ (a && list_all is_traced (xs ++ ys))
silent_twice a xs ys = and_assoc a (list_all is_traced xs) (list_all is_traced ys) ∙ ap (λ b. a && b) (sym (list_all-append is_traced xs ys))

after_twice : (c : ReportWriter) (n : ℕ) (xs ys : List Line) (fs gs : List Purpose) (ts us : List (List ℕ)) → after_lines (after_lines c n xs fs ts) n ys gs us ≡ after_lines c n (xs ++ ys) gs us
unfolding after_lines made
after_twice c n xs ys fs gs ts us =
    ap (λ (p : Option Page). made gs us p ((c.silent && list_all is_traced xs) && list_all is_traced ys)) (page_twice c.page n xs ys)
    ∙ ap (λ (s : Bool). made gs us (page_after c.page (all_numbered n (xs ++ ys))) s) (silent_twice c.silent xs ys)

after_none : (c : ReportWriter) (n : ℕ) (ts : List (List ℕ)) → c.shows ≡ ts → c ≡ after_lines c n [] c.frames ts
unfolding after_lines made
after_none c n ts h = ap (λ (us : List (List ℕ)). made c.frames us c.page c.silent) h ∙ ap (λ (s : Bool). made c.frames ts c.page s) (sym (and_true c.silent))

-- ---- an item

-- lines that are said, with what the frames after them were begun for
said_after : (c : ReportWriter) (n : ℕ) (lines : List Line) (frames : List Purpose) (ts : List (List ℕ)) → c.shows ≡ ts → record (say_all c n lines) { frames = frames } ≡ after_lines c n lines frames ts
unfolding after_lines made
said_after c n lines frames ts h = ap (λ (k : ReportWriter). record k { frames = frames }) (said_is c n lines) ∙ ap (λ (us : List (List ℕ)). made frames us (page_after c.page (all_numbered n lines)) (c.silent && list_all is_traced lines)) h

-- lines that leave the frames
waits_after : (c : ReportWriter) (n : ℕ) (lines : List Line) (ts : List (List ℕ)) → c.shows ≡ ts → say_all c n lines ≡ after_lines c n lines c.frames ts
unfolding after_lines made
waits_after c n lines ts h = said_is c n lines ∙ ap (λ (us : List (List ℕ)). made c.frames us (page_after c.page (all_numbered n lines)) (c.silent && list_all is_traced lines)) h

-- the lines of a step
three : (c : ReportWriter) (n : ℕ) (xs ys zs : List Line) → say_all (say_all (say_all c n xs) n ys) n zs ≡ say_all c n (xs ++ (ys ++ zs))
three c n xs ys zs = sym (say_all-append (say_all c n xs) n ys zs) ∙ sym (say_all-append c n xs (ys ++ zs))

-- the frames and the texts stay, whatever lines are said
said_frames : (c : ReportWriter) (n : ℕ) (lines : List Line) → (say_all c n lines).frames ≡ c.frames
said_frames c n lines = ap (λ (k : ReportWriter). k.frames) (said_is c n lines)

-- a step's three kinds of lines
step_of : ReportWriter → List Purpose → ℕ → Stepped → ReportWriter
step_of k frames n e = record (say_all k n (end_lines frames e.ended)) { frames = frames_after_end frames e.ended }

step_is : (traced : Bool) (c : ReportWriter) (n depth : ℕ) (e : Stepped) →
    step_put traced c n depth e ≡ after_lines c n (step_lines traced depth e ++ (move_lines e.made ++ end_lines c.frames e.ended)) (frames_after_end c.frames e.ended) c.shows
unfolding step_of
step_is traced c n depth e =
    let k = say_all (say_all c n (step_lines traced depth e)) n (move_lines e.made) in
    let frames : k.frames ≡ c.frames = said_frames (say_all c n (step_lines traced depth e)) n (move_lines e.made) ∙ said_frames c n (step_lines traced depth e) in
    ap (λ (fs : List Purpose). step_of k fs n e) frames
    ∙ ap (λ (x : ReportWriter). record x { frames = frames_after_end c.frames e.ended }) (three c n (step_lines traced depth e) (move_lines e.made) (end_lines c.frames e.ended))
    ∙ said_after c n (step_lines traced depth e ++ (move_lines e.made ++ end_lines c.frames e.ended)) (frames_after_end c.frames e.ended) c.shows refl

-- a show
show_is : (c : ReportWriter) (p : Page) (n : ℕ) (rows : List Row) (ts : List (List ℕ)) → c.page ≡ fitting p → c.shows ≡ rows_text n rows ∷ ts →
    text_put c c.shows ≡ after_lines c n (map (λ row. Shows row) rows) c.frames ts
unfolding after_lines made
show_is c p n rows ts fits h =
    ap (λ (us : List (List ℕ)). text_put c us) h
    ∙ ap (λ (s : Bool). made c.frames ts (paste c.page (rows_text n rows)) (c.silent && s)) (rows_silent n rows)
    ∙ ap (λ (q : Option Page). made c.frames ts q (c.silent && list_all is_traced (map (λ row. Shows row) rows)))
    (subst (λ (q : Option Page). paste q (rows_text n rows) ≡ page_after q (all_numbered n (map (λ row. Shows row) rows))) (sym fits) (rows_pasted p n rows))

order_is : (waited : Bool) (c : ReportWriter) (p : Page) (n : ℕ) (shows : List (List Row)) (o : Order) (ts : List (List ℕ)) → c.page ≡ fitting p → c.shows ≡ order_texts n shows o ++ ts →
    order_put waited c n o ≡ after_lines c n (order_lines waited (next_rows shows) o) c.frames ts
order_is waited c p n shows (orders.Show what) ts fits h = show_is c p n (next_rows shows) ts fits h
order_is waited c p n shows (orders.Tick ticks) ts fits h = waits_after c n (wait_lines waited ticks) ts h
order_is waited c p n shows _ ts fits h = after_none c n ts h

-- an item
said_one : (traced : Bool) (d : Directive) (c : ReportWriter) (p : Page) (depth : ℕ) (shows : List (List Row)) (next : Bool) (said : Said) (ts : List (List ℕ)) → c.page ≡ fitting p → c.shows ≡ said_texts d.line shows said ++ ts →
    said_put traced d c depth next said ≡ after_lines c d.line (said_lines traced depth c.frames (next_rows shows) next said) (frames_after d.order c.frames said) ts
said_one traced d c p depth shows next (Happens o) ts fits h = order_is (traced && next) c p d.line shows o ts fits h
said_one traced d c p depth shows next Begins ts fits h = said_after c d.line [] (frames_after d.order c.frames Begins) ts h
said_one traced d c p depth shows next (Stays cause) ts fits h = said_after c d.line (Holds cause ∷ []) c.frames ts h
said_one traced d c p depth shows next (Steps e) ts fits h = step_is traced c d.line depth e ∙ ap (λ (us : List (List ℕ)). after_lines c d.line (step_lines traced depth e ++ (move_lines e.made ++ end_lines c.frames e.ended)) (frames_after_end c.frames e.ended) us) h
said_one traced d c p depth shows next (Resets reason k) ts fits h = said_after c d.line (Restarts reason k ∷ []) [] ts h

-- ---- the items of a directive

-- what stands after them
after_own : Bool → Directive → ReportWriter → List (List Row) → (own later : List Entry) → ReportWriter
after_own traced d c shows own later = after_lines c d.line (chapter_lines traced d.order c.frames shows own) (chapter_frames d.order c.frames own) (texts_of later (chapter_shows shows own))

none_own : (traced : Bool) (d : Directive) (c : ReportWriter) (shows : List (List Row)) (es : List Entry) → c.shows ≡ texts_of es shows → c ≡ after_own traced d c shows [] es
unfolding after_own
none_own traced d c shows es told = after_none c d.line (texts_of es shows) told

-- one more in front
entries_one : (traced : Bool) (d : Directive) (c : ReportWriter) (p : Page) (shows : List (List Row)) (e : Entry) (es : List Entry) → c.page ≡ fitting p → c.shows ≡ texts_of (e ∷ es) shows → e.line ≡ d.line →
    ((k : ReportWriter) (q : Page) (later : List (List Row)) → k.page ≡ fitting q → k.shows ≡ texts_of es later → entries_put traced d k (own_entries d.line es) ≡ after_own traced d k later (own_entries d.line es) (later_entries d.line es)) →
    entries_put traced d (entry_put traced d c (steps_next (own_entries d.line es)) e) (own_entries d.line es) ≡ after_own traced d c shows (e ∷ own_entries d.line es) (later_entries d.line es)
unfolding after_own after_lines made
entries_one traced d c p shows e es fits told same more =
    let next = steps_next (own_entries d.line es) in
    let lines = said_lines traced e.depth c.frames (next_rows shows) next e.said in
    let frames = frames_after d.order c.frames e.said in
    let rest = texts_of es (shows_after shows e.said) in
    let k = after_lines c d.line lines frames rest in
    let q = with_lines p (all_numbered d.line lines) in
    let fitted : page_after c.page (all_numbered d.line lines) ≡ fitting q = ap (λ x. page_after x (all_numbered d.line lines)) fits ∙ after_fits p (all_numbered d.line lines) in
    let one : entry_put traced d c next e ≡ k = said_one traced d c p e.depth shows next e.said rest fits (told ∙ ap (λ (n : ℕ). said_texts n shows e.said ++ rest) same) in
    ap (λ (x : ReportWriter). entries_put traced d x (own_entries d.line es)) one
    ∙ more k q (shows_after shows e.said) fitted refl
    ∙ after_twice c d.line lines (chapter_lines traced d.order frames (shows_after shows e.said) (own_entries d.line es)) frames (chapter_frames d.order frames (own_entries d.line es)) rest
    (texts_of (later_entries d.line es) (chapter_shows (shows_after shows e.said) (own_entries d.line es)))

-- all of them, by whether the first is the directive's
entries_by : (b : Bool) (traced : Bool) (d : Directive) (c : ReportWriter) (p : Page) (shows : List (List Row)) (e : Entry) (es : List Entry) → c.page ≡ fitting p → c.shows ≡ texts_of (e ∷ es) shows → (e.line == d.line) ≡ b →
    ((k : ReportWriter) (q : Page) (later : List (List Row)) → k.page ≡ fitting q → k.shows ≡ texts_of es later → entries_put traced d k (own_entries d.line es) ≡ after_own traced d k later (own_entries d.line es) (later_entries d.line es)) →
    entries_put traced d c (cond b (e ∷ own_entries d.line es) []) ≡ after_own traced d c shows (cond b (e ∷ own_entries d.line es) []) (cond b (later_entries d.line es) (e ∷ es))
entries_by true traced d c p shows e es fits told is more = entries_one traced d c p shows e es fits told (eqb-true e.line d.line is) more
entries_by false traced d c p shows e es fits told is more = none_own traced d c shows (e ∷ es) told

entries_are : (traced : Bool) (d : Directive) (es : List Entry) (c : ReportWriter) (p : Page) (shows : List (List Row)) → c.page ≡ fitting p → c.shows ≡ texts_of es shows →
    entries_put traced d c (own_entries d.line es) ≡ after_own traced d c shows (own_entries d.line es) (later_entries d.line es)
entries_are traced d [] c p shows fits told = none_own traced d c shows [] told
entries_are traced d (e ∷ es) c p shows fits told = entries_by (e.line == d.line) traced d c p shows e es fits told refl (λ k q later f t. entries_are traced d es k q later f t)

-- ---- a directive

-- the line ok, where it comes
closed_is : (page : Option Page) (n : ℕ) (lines : List Line) (frames : List Purpose) (ts : List (List ℕ)) (b : Bool) →
    closed n (made frames ts (page_after page (all_numbered n lines)) b) ≡ made frames ts (page_after page (all_numbered n (cond b (lines ++ Done ∷ []) lines))) (b && false)
unfolding made
closed_is page n lines frames ts true = ap (λ (q : Option Page). made frames ts q false) (page_twice page n lines (Done ∷ []))
closed_is page n lines frames ts false = refl

spoken : ReportWriter → ReportWriter
spoken c = record c { silent = true }

-- what stands after a directive with its items
after_chapter : Bool → Directive → ReportWriter → List (List Row) → List Entry → Bool → ReportWriter
after_chapter traced d c shows es b = made (chapter_frames d.order c.frames (own_entries d.line es)) (texts_of (later_entries d.line es) (chapter_shows shows (own_entries d.line es)))
    (page_after c.page (all_numbered d.line (with_done (chapter_lines traced d.order c.frames shows (own_entries d.line es))))) b

chapter_is : (traced : Bool) (d : Directive) (c : ReportWriter) (p : Page) (shows : List (List Row)) (es : List Entry) → c.page ≡ fitting p → c.shows ≡ texts_of es shows →
    chapter_put traced d c es ≡ after_chapter traced d c shows es (list_all is_traced (chapter_lines traced d.order c.frames shows (own_entries d.line es)) && false)
unfolding after_own after_lines spoken after_chapter
chapter_is traced d c p shows es fits told =
    ap (λ (k : ReportWriter). closed d.line k) (entries_are traced d es (spoken c) p shows fits told)
    ∙ closed_is c.page d.line (chapter_lines traced d.order c.frames shows (own_entries d.line es)) (chapter_frames d.order c.frames (own_entries d.line es))
    (texts_of (later_entries d.line es) (chapter_shows shows (own_entries d.line es))) (list_all is_traced (chapter_lines traced d.order c.frames shows (own_entries d.line es)))

-- ---- a script
script_is : (traced : Bool) (ds : List Directive) (c : ReportWriter) (p : Page) (shows : List (List Row)) (es : List Entry) → c.page ≡ fitting p → c.shows ≡ texts_of es shows →
    (script_put traced c ds es).page ≡ fitting (with_lines p (report_lines traced c.frames shows ds es))
unfolding after_chapter made
script_is traced [] c p shows es fits told = fits
script_is traced (d ∷ ds) c p shows es fits told =
    let own = own_entries d.line es in
    let later = later_entries d.line es in
    let lines = all_numbered d.line (with_done (chapter_lines traced d.order c.frames shows own)) in
    let k = after_chapter traced d c shows es (list_all is_traced (chapter_lines traced d.order c.frames shows own) && false) in
    let fitted : page_after c.page lines ≡ fitting (with_lines p lines) = ap (λ x. page_after x lines) fits ∙ after_fits p lines in
    ap (λ (x : ReportWriter). (script_put traced x ds later).page) (chapter_is traced d c p shows es fits told)
    ∙ script_is traced ds k (with_lines p lines) (chapter_shows shows own) later fitted refl
    ∙ ap (λ (q : Page). fitting q) (sym (with_lines-append p lines (report_lines traced (chapter_frames d.order c.frames own) (chapter_shows shows own) ds later)))

-- ---- the whole text

tallied : ℕ → ℕ → ℕ → ℕ → ℕ → Tally
tallied c h x e m = record { calls = c; handlers = h; held = x; errors = e; notes = m }

tallied_same : (c c' h h' x x' e e' m m' : ℕ) → c ≡ c' → h ≡ h' → x ≡ x' → e ≡ e' → m ≡ m' → tallied c h x e m ≡ tallied c' h' x' e' m'
tallied_same c c' h h' x x' e e' m m' p q r s t = cc

tally_is : (lines : List Numbered) → (with_lines blank lines).tally ≡ tallied (count_by (λ l. is_return l.says) lines) (count_by (λ l. is_leave l.says) lines) (count_by (λ l. is_hold l.says) lines) (count_by (λ l. is_error l.says) lines) (count_by (λ l. is_note l.says) lines)
unfolding tallied
tally_is lines =
    tallied_same _ _ _ _ _ _ _ _ _ _
    (omega (arith, calls_after blank lines)) (omega (arith, handlers_after blank lines)) (omega (arith, held_after blank lines))
    (omega (arith, errors_after blank lines)) (omega (arith, notes_after blank lines))

whole_is : (lines : List Numbered) → (with_lines blank lines).text ++ end_text (with_lines blank lines).tally ≡ flat_map (λ l. numbered l.number l.says) lines ++ end_of lines
unfolding tallied
whole_is lines =
    ap (λ (bs : List ℕ). bs ++ end_text (with_lines blank lines).tally) (with_lines-text blank lines)
    ∙ ap (λ (t : Tally). flat_map (λ l. numbered l.number l.says) lines ++ end_text t) (tally_is lines)

-- the text that is written is the report, or nothing where the report is too long
pub report_is : (traced : Bool) (script : List Directive) (es : List Entry) (shows : List (List Row)) →
    ended (script_put traced (beginning (texts_of es shows)) script es).page ≡ fitting_text (report traced script es shows)
report_is traced script es shows =
    let lines = report_lines traced [] shows script es in
    ap (λ q. ended q) (script_is traced script (beginning (texts_of es shows)) blank shows es refl refl)
    ∙ ended_fits (with_lines blank lines)
    ∙ ap (λ t. fitting_text t) (whole_is lines)
