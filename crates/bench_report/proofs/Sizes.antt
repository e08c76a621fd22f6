-- The lines of a report hold all texts that were shown.
use Rattle.std.proofs.Common.{◌≡◌, ℕ, ◌+◌, ◌≤◌, Bool, true, false, List, [], ◌∷◌, ◌++◌, refl, ap, sym, subst, ◌∙◌, cond, arith, map, length}
use Rattle.std.specs.Prelude.{◌==◌, ◌&&◌, flat_map}
use Rattle.std.specs.List.{list_all}
use Rattle.std.proofs.lemmas.Bool.{eqb-true}
use Rattle.std.proofs.lemmas.Grind.{flat_map-append}
use Rattle.std.proofs.lemmas.List.{append-nil, map-append, length-append}
use Rattle.mcal_base.specs.declared.directive.Directive.{Directive}
use Rattle.mcal_base.specs.declared.directive.Order.{Order}
use Rattle.mcal_base.specs.declared.directive.Order.TheVariants as orders
use Rattle.run_model.specs.Entry.{Entry, Said, Happens}
use Rattle.bench_report.specs.declared.frames.Purpose.{Purpose}
use Rattle.bench_report.specs.Lines.{Line, Shows, Done, numbered}
use Rattle.bench_report.specs.Rows.{Row}
use Rattle.bench_report.specs.Shown.{joined, rows_text, next_rows, order_texts, said_texts, shows_after, texts_of}
use Rattle.bench_report.specs.Report.{Numbered, order_lines, said_lines, frames_after, steps_next, is_traced, chapter_lines, chapter_frames, chapter_shows, with_done, own_entries, later_entries, left_over, report_lines, report, all_numbered, end_of}

-- the bytes of lines, and of texts
bytes_of : List Numbered → ℕ
bytes_of lines = length (flat_map (λ l. numbered l.number l.says) lines)

size_of : List (List ℕ) → ℕ
size_of texts = length (joined texts)

bytes-append : (xs ys : List Numbered) → bytes_of (xs ++ ys) ≡ bytes_of xs + bytes_of ys
unfolding bytes_of
bytes-append xs ys = ap (λ (t : List ℕ). length t) (flat_map-append (λ l. numbered l.number l.says) xs ys) ∙ length-append _ _

size-append : (xs ys : List (List ℕ)) → size_of (xs ++ ys) ≡ size_of xs + size_of ys
unfolding size_of
size-append xs ys = ap (λ (t : List ℕ). length t) (flat_map-append (λ text. text) xs ys) ∙ length-append _ _

numbered-append : (n : ℕ) (xs ys : List Line) → bytes_of (all_numbered n (xs ++ ys)) ≡ bytes_of (all_numbered n xs) + bytes_of (all_numbered n ys)
numbered-append n xs ys = ap (λ (ls : List Numbered). bytes_of ls) (map-append (λ line. record { number = n; says = line }) xs ys) ∙ bytes-append (all_numbered n xs) (all_numbered n ys)

-- a show
rows_bytes : (n : ℕ) (rows : List Row) → length (rows_text n rows) ≡ bytes_of (all_numbered n (map (λ row. Shows row) rows))
unfolding bytes_of
rows_bytes n [] = refl
rows_bytes n (row ∷ rows) = length-append (numbered n (Shows row)) (rows_text n rows) ∙ ap (λ (k : ℕ). length (numbered n (Shows row)) + k) (rows_bytes n rows) ∙ sym (length-append (numbered n (Shows row)) _)

one_size : (text : List ℕ) → size_of (text ∷ []) ≡ length text
unfolding size_of
one_size text = ap (λ (t : List ℕ). length t) (append-nil text)

no_size : size_of [] ≡ 0
unfolding size_of
no_size = refl

order_size : (waited : Bool) (n : ℕ) (shows : List (List Row)) (o : Order) → size_of (order_texts n shows o) ≤ bytes_of (all_numbered n (order_lines waited (next_rows shows) o))
order_size waited n shows (orders.Show what) = let a = one_size (rows_text n (next_rows shows)) in let b = rows_bytes n (next_rows shows) in omega (arith, a, b)
order_size waited n shows _ = let a = no_size in omega (arith, a)

said_size : (traced : Bool) (depth : ℕ) (frames : List Purpose) (n : ℕ) (shows : List (List Row)) (next : Bool) (said : Said) → size_of (said_texts n shows said) ≤ bytes_of (all_numbered n (said_lines traced depth frames (next_rows shows) next said))
said_size traced depth frames n shows next (Happens o) = order_size (traced && next) n shows o
said_size traced depth frames n shows next _ = let a = no_size in omega (arith, a)

-- the items of a directive
parts_by : (b : Bool) (line : ℕ) (e : Entry) (es : List Entry) (shows : List (List Row)) →
    size_of (texts_of es (shows_after shows e.said)) ≡ size_of (texts_of (own_entries line es) (shows_after shows e.said)) + size_of (texts_of (later_entries line es) (chapter_shows (shows_after shows e.said) (own_entries line es))) →
    size_of (texts_of (e ∷ es) shows) ≡ size_of (texts_of (cond b (e ∷ own_entries line es) []) shows) + size_of (texts_of (cond b (later_entries line es) (e ∷ es)) (chapter_shows shows (cond b (e ∷ own_entries line es) [])))
parts_by true line e es shows h =
    let x = size-append (said_texts e.line shows e.said) (texts_of es (shows_after shows e.said)) in
    let y = size-append (said_texts e.line shows e.said) (texts_of (own_entries line es) (shows_after shows e.said)) in
    omega (arith, h, x, y)
parts_by false line e es shows h = let a = no_size in omega (arith, a)

parts : (line : ℕ) (es : List Entry) (shows : List (List Row)) → size_of (texts_of es shows) ≡ size_of (texts_of (own_entries line es) shows) + size_of (texts_of (later_entries line es) (chapter_shows shows (own_entries line es)))
parts line [] shows = let a = no_size in omega (arith, a)
parts line (e ∷ es) shows = parts_by (e.line == line) line e es shows (parts line es (shows_after shows e.said))

own_by : (b : Bool) (traced : Bool) (d : Directive) (frames : List Purpose) (shows : List (List Row)) (e : Entry) (es : List Entry) → (e.line == d.line) ≡ b →
    size_of (texts_of (own_entries d.line es) (shows_after shows e.said)) ≤ bytes_of (all_numbered d.line (chapter_lines traced d.order (frames_after d.order frames e.said) (shows_after shows e.said) (own_entries d.line es))) →
    size_of (texts_of (cond b (e ∷ own_entries d.line es) []) shows) ≤ bytes_of (all_numbered d.line (chapter_lines traced d.order frames shows (cond b (e ∷ own_entries d.line es) [])))
own_by true traced d frames shows e es is h =
    let same : e.line ≡ d.line = eqb-true e.line d.line is in
    let next = steps_next (own_entries d.line es) in
    let one = said_size traced e.depth frames e.line shows next e.said in
    let x = size-append (said_texts e.line shows e.said) (texts_of (own_entries d.line es) (shows_after shows e.said)) in
    let y = numbered-append d.line (said_lines traced e.depth frames (next_rows shows) next e.said) (chapter_lines traced d.order (frames_after d.order frames e.said) (shows_after shows e.said) (own_entries d.line es)) in
    let z : size_of (said_texts e.line shows e.said) ≤ bytes_of (all_numbered d.line (said_lines traced e.depth frames (next_rows shows) next e.said)) = subst (λ (n : ℕ). size_of (said_texts e.line shows e.said) ≤ bytes_of (all_numbered n (said_lines traced e.depth frames (next_rows shows) next e.said))) same one in
    omega (arith, h, x, y, z)
own_by false traced d frames shows e es is h = let a = no_size in omega (arith, a)

own_size : (traced : Bool) (d : Directive) (frames : List Purpose) (shows : List (List Row)) (es : List Entry) → size_of (texts_of (own_entries d.line es) shows) ≤ bytes_of (all_numbered d.line (chapter_lines traced d.order frames shows (own_entries d.line es)))
own_size traced d frames shows [] = let a = no_size in omega (arith, a)
own_size traced d frames shows (e ∷ es) = own_by (e.line == d.line) traced d frames shows e es refl (own_size traced d (frames_after d.order frames e.said) (shows_after shows e.said) es)

done_size : (b : Bool) (n : ℕ) (lines : List Line) → bytes_of (all_numbered n lines) ≤ bytes_of (all_numbered n (cond b (lines ++ Done ∷ []) lines))
done_size true n lines = let a = numbered-append n lines (Done ∷ []) in omega (arith, a)
done_size false n lines = omega arith

-- a script
lines_size : (traced : Bool) (ds : List Directive) (frames : List Purpose) (shows : List (List Row)) (es : List Entry) → left_over ds es ≡ [] → size_of (texts_of es shows) ≤ bytes_of (report_lines traced frames shows ds es)
lines_size traced [] frames shows es none = let a = no_size in let e : size_of (texts_of es shows) ≡ size_of [] = ap (λ (xs : List Entry). size_of (texts_of xs shows)) none in omega (arith, a, e)
lines_size traced (d ∷ ds) frames shows es none =
    let own = own_entries d.line es in
    let lines = chapter_lines traced d.order frames shows own in
    let rest = report_lines traced (chapter_frames d.order frames own) (chapter_shows shows own) ds (later_entries d.line es) in
    let a = parts d.line es shows in
    let b = own_size traced d frames shows es in
    let c = done_size (list_all is_traced lines) d.line lines in
    let x = bytes-append (all_numbered d.line (with_done lines)) rest in
    let y = lines_size traced ds (chapter_frames d.order frames own) (chapter_shows shows own) (later_entries d.line es) none in
    omega (arith, a, b, c, x, y)

-- a report is at least as long as all that was shown
pub shown_in_report : (traced : Bool) (script : List Directive) (es : List Entry) (shows : List (List Row)) → left_over script es ≡ [] → length (joined (texts_of es shows)) ≤ length (report traced script es shows)
unfolding bytes_of size_of
shown_in_report traced script es shows none =
    let lines = report_lines traced [] shows script es in
    let a = lines_size traced script [] shows es none in
    let b = length-append (flat_map (λ l. numbered l.number l.says) lines) (end_of lines) in
    omega (arith, a, b)
