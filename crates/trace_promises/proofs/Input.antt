-- A bench file that ends with a line, the mark of a report, and the report: how they are cut.
use Rattle.std.proofs.Common.{◌≡◌, ℕ, ◌+◌, ◌-◌, ◌==◌, ◌≤◌, List, [], ◌∷◌, ◌++◌, Bool, true, false, length, take, Option, Some, None, inl, inr, refl, ◌∙◌, ap, sym, subst, arith, length-append, append_assoc}
use Rattle.std.specs.Prelude.{codes, bytes_eq, nat_lt, option_map, Ok, if◌then◌else◌}
use Rattle.std.specs.List.{join_with_byte}
use Rattle.std.specs.Str.Lines.{lines_of_parts, strip_carriage_return}
use Rattle.std.proofs.lemmas.List.Splits.{join_with_byte-slice_split}
use Rattle.std.proofs.lemmas.Slice.Eq.{bytes_eq-Decides}
use Rattle.mcal_base.specs.facts.Numbers.{lt_since}
use Rattle.mcal_base.specs.declared.directive.Directive.{Directive}
use Rattle.mcal_base.specs.declared.directive.Order.{Order}
use Rattle.mcal_base.specs.declared.directive.Order.TheVariants.{Call, Do, Enter, Serve, Run, Upto, Finish, Tick, Level, Analog, Trigger, Miso, SpiFault, Detach, Fill, Reset, Show}
use Rattle.bench_script.proofs.Parts.{some_part}
use Rattle.bench_script.proofs.Whole.{script_is}
use Rattle.bench_script.specs.Lines.{file, file_of_parts, is_separator, before_comment, words_of}
use Rattle.bench_script.specs.Productions.{HoldsNothing, HoldsOrder, HoldDirectives, first_word}
use Rattle.bench_script.specs.Script.{script}
use Rattle.mcal_config.specs.Whole.{fault_of}
use Rattle.bench_report.specs.Numbers.{Each}
use Rattle.trace_drawing.specs.Judged.{judged, drawn, is_mark, split_parts, split_report, file_size, lines_in}
use Rattle.trace_drawing.specs.Program.{text_under}
use Rattle.trace_drawing.specs.declared.program.Form.{Form}
use Rattle.trace_promises.proofs.Parts.{parts, Feedless, split_both, parts_feedless, parts_with, lines_before}

-- ---- the separator

-- a line stands before what is cut, and what is cut here or later
abbrev behind_line : List ℕ → Option (List ℕ × List ℕ) → Option (List ℕ × List ℕ)
behind_line p o = option_map (λ x. (p ++ 10 ∷ x.0, x.1)) o

abbrev here_or : Bool → List ℕ → Option (List ℕ × List ℕ) → Option (List ℕ × List ℕ)
here_or b here later = if b then Some ([], here) else later

-- The parts of a file that ends with a line, and those of its script; with others behind them the file is cut at the same place.
record IsCut (ps : List (List ℕ)) (front back : List ℕ) : Type 0 where
  rest : List (List ℕ)
  feedless : Each Feedless ps → Each Feedless rest
  is : back ≡ join_with_byte 10 (rest ++ [] ∷ [])
  on : (q : List ℕ) (qs : List (List ℕ)) → file_of_parts (ps ++ q ∷ qs) ≡ Some (front, join_with_byte 10 (rest ++ q ∷ qs))

same_pair : (a b : List ℕ × List ℕ) → Some a ≡ Some b → a ≡ b
same_pair a b h = cc

abbrev cut_so : List ℕ → List ℕ → Option (List ℕ × List ℕ)
cut_so a b = Some (a, b)

same_parts : (a b c d : List ℕ) → cut_so a b ≡ Some (c, d) → (a ≡ c) × (b ≡ d)
same_parts a b c d h =
    let e = same_pair (a, b) (c, d) h in
    (ap (λ (x : List ℕ × List ℕ). x.0) e, ap (λ (x : List ℕ × List ℕ). x.1) e)

file_next : (p : List ℕ) (ps : List (List ℕ)) (q : List ℕ) (qs : List (List ℕ)) → file_of_parts (p ∷ (ps ++ q ∷ qs)) ≡ here_or (is_separator (strip_carriage_return p)) (join_with_byte 10 (ps ++ q ∷ qs)) (behind_line p (file_of_parts (ps ++ q ∷ qs)))
file_next p [] q qs = refl
file_next p (r ∷ ps) q qs = refl

cut_later : (p : List ℕ) (ps : List (List ℕ)) (front back : List ℕ) (o : Option (List ℕ × List ℕ)) → file_of_parts (ps ++ [] ∷ []) ≡ o → is_separator (strip_carriage_return p) ≡ false → behind_line p o ≡ Some (front, back) →
    ((front back : List ℕ) → file_of_parts (ps ++ [] ∷ []) ≡ Some (front, back) → IsCut ps front back) → IsCut (p ∷ ps) front back
cut_later p ps front back None e n h ih = cc
cut_later p ps front back (Some x) e n h ih =
    let c = ih x.0 x.1 e in
    let first = same_parts (p ++ 10 ∷ x.0) x.1 front back h in
    record {
      rest = c.rest;
      feedless = λ k. c.feedless k.1;
      is = sym first.1 ∙ c.is;
      on = λ q qs. file_next p ps q qs ∙ rw (n, c.on q qs) (ap (λ (t : List ℕ). Some (t, join_with_byte 10 (c.rest ++ q ∷ qs))) first.0);
    }

cut_by : (p : List ℕ) (ps : List (List ℕ)) (front back : List ℕ) (b : Bool) → is_separator (strip_carriage_return p) ≡ b → here_or b (join_with_byte 10 (ps ++ [] ∷ [])) (behind_line p (file_of_parts (ps ++ [] ∷ []))) ≡ Some (front, back) →
    ((front back : List ℕ) → file_of_parts (ps ++ [] ∷ []) ≡ Some (front, back) → IsCut ps front back) → IsCut (p ∷ ps) front back
cut_by p ps front back true e h ih =
    let first = same_parts [] (join_with_byte 10 (ps ++ [] ∷ [])) front back h in
    record {
      rest = ps;
      feedless = λ k. k.1;
      is = sym first.1;
      on = λ q qs. file_next p ps q qs ∙ rw e (ap (λ (t : List ℕ). Some (t, join_with_byte 10 (ps ++ q ∷ qs))) first.0);
    }
cut_by p ps front back false e h ih = cut_later p ps front back (file_of_parts (ps ++ [] ∷ [])) refl e h ih

is_cut : (ps : List (List ℕ)) (front back : List ℕ) → file_of_parts (ps ++ [] ∷ []) ≡ Some (front, back) → IsCut ps front back
is_cut [] front back h = cc
is_cut (p ∷ ps) front back h = cut_by p ps front back (is_separator (strip_carriage_return p)) refl (sym (file_next p ps [] []) ∙ h) (is_cut ps)

-- a script is no longer than its file
behind_size : (p text back : List ℕ) → length back ≤ length text → length back ≤ length (p ++ 10 ∷ text)
behind_size p text back le = let e = length-append p (10 ∷ text) in omega (arith, e, le)

size_later : (p : List ℕ) (ps : List (List ℕ)) (front back : List ℕ) (o : Option (List ℕ × List ℕ)) → file_of_parts ps ≡ o → behind_line p o ≡ Some (front, back) → ((front back : List ℕ) → file_of_parts ps ≡ Some (front, back) → length back ≤ length (join_with_byte 10 ps)) →
    length back ≤ length (p ++ 10 ∷ join_with_byte 10 ps)
size_later p ps front back None e h ih = cc
size_later p ps front back (Some x) e h ih =
    let same = same_parts (p ++ 10 ∷ x.0) x.1 front back h in
    subst (λ (t : List ℕ). length t ≤ length (p ++ 10 ∷ join_with_byte 10 ps)) same.1 (behind_size p (join_with_byte 10 ps) x.1 (ih x.0 x.1 e))

size_by : (p : List ℕ) (ps : List (List ℕ)) (front back : List ℕ) (b : Bool) → here_or b (join_with_byte 10 ps) (behind_line p (file_of_parts ps)) ≡ Some (front, back) → ((front back : List ℕ) → file_of_parts ps ≡ Some (front, back) → length back ≤ length (join_with_byte 10 ps)) →
    length back ≤ length (p ++ 10 ∷ join_with_byte 10 ps)
size_by p ps front back true h ih =
    let same = same_parts [] (join_with_byte 10 ps) front back h in
    subst (λ (t : List ℕ). length t ≤ length (p ++ 10 ∷ join_with_byte 10 ps)) same.1 (behind_size p (join_with_byte 10 ps) (join_with_byte 10 ps) (omega arith))
size_by p ps front back false h ih = size_later p ps front back (file_of_parts ps) refl h ih

last_size : (p front back : List ℕ) (b : Bool) → (if b then cut_so [] [] else None) ≡ Some (front, back) → length back ≤ length p
last_size p front back true h = let same = same_parts [] [] front back h in subst (λ (t : List ℕ). length t ≤ length p) same.1 (omega arith)
last_size p front back false h = cc

size_of : (ps : List (List ℕ)) (front back : List ℕ) → file_of_parts ps ≡ Some (front, back) → length back ≤ length (join_with_byte 10 ps)
size_of [] front back h = cc
size_of (p ∷ []) front back h = last_size p front back (is_separator p) h
size_of (p ∷ q ∷ ps) front back h = size_by p (q ∷ ps) front back (is_separator (strip_carriage_return p)) h (size_of (q ∷ ps))

pub script_within : (bytes front back : List ℕ) → file bytes ≡ Some (front, back) → length back ≤ length bytes
script_within bytes front back h = let le = size_of (parts bytes) front back h in let e = ap length (join_with_byte-slice_split 10 bytes) in omega (arith, le, e)

-- ---- the mark of a report

abbrev mark : List ℕ
mark = codes "==="

-- no order and no empty line is a mark
begins_so : List (List ℕ) → Bool
begins_so ((b ∷ bs) ∷ words) = b == 61
begins_so _ = false

no_order_so : (order : Order) (after : List (List ℕ)) → begins_so (first_word order ∷ after) ≡ false
unfolding begins_so
no_order_so (Call level request) after = refl
no_order_so (Do level request) after = refl
no_order_so (Enter n) after = refl
no_order_so (Serve n) after = refl
no_order_so (Run n) after = refl
no_order_so (Upto stop) after = refl
no_order_so Finish after = refl
no_order_so (Tick n) after = refl
no_order_so (Level pin high) after = refl
no_order_so (Analog input value) after = refl
no_order_so (Trigger n) after = refl
no_order_so (Miso unit ns) after = refl
no_order_so (SpiFault n) after = refl
no_order_so Detach after = refl
no_order_so (Fill channel ns) after = refl
no_order_so (Reset reason) after = refl
no_order_so (Show shown) after = refl

mark_so : begins_so (words_of (before_comment mark)) ≡ true
unfolding begins_so
mark_so = refl

no_order : (order : Order) (after : List (List ℕ)) → words_of (before_comment mark) ≡ first_word order ∷ after → ⊥
no_order order after h = let e : true ≡ false = sym mark_so ∙ (ap begins_so h ∙ no_order_so order after) in cc

unmarked_by : (line : List ℕ) (b : Bool) → bytes_eq line mark ≡ b → (line ≡ mark → ⊥) → b ≡ false
unmarked_by line true e h = absurd (h ((bytes_eq-Decides line mark).0 e))
unmarked_by line false e h = refl

nothing_unmarked : (line : List ℕ) → HoldsNothing line → bytes_eq line mark ≡ false
nothing_unmarked line h = unmarked_by line (bytes_eq line mark) refl (λ e. let none : words_of (before_comment mark) ≡ [] = ap (λ (t : List ℕ). words_of (before_comment t)) (sym e) ∙ h.none in cc)

order_unmarked : (line : List ℕ) (order : Order) → HoldsOrder line order → bytes_eq line mark ≡ false
order_unmarked line order h = unmarked_by line (bytes_eq line mark) refl (λ e. no_order order h.is.after (ap (λ (t : List ℕ). words_of (before_comment t)) (sym e) ∙ h.is.spelled))

-- a line of a script is none
line_unmarked : (n : ℕ) (line : List ℕ) (others : List (List ℕ)) (ds : List Directive) → HoldDirectives n (line ∷ others) ds → (bytes_eq line mark ≡ false) × ((es : List Directive) × HoldDirectives (n + 1) others es)
line_unmarked n line others ds (inl h) = (nothing_unmarked line h.0, (ds, h.1))
line_unmarked n line others ds (inr h) = (order_unmarked line h.0 h.3, (h.1, h.4))

lines_next : (p : List ℕ) (ps : List (List ℕ)) → lines_of_parts (p ∷ (ps ++ [] ∷ [])) ≡ strip_carriage_return p ∷ lines_of_parts (ps ++ [] ∷ [])
lines_next p [] = refl
lines_next p (q ∷ ps) = refl

script_unmarked : (n : ℕ) (ps : List (List ℕ)) (ds : List Directive) → HoldDirectives n (lines_of_parts (ps ++ [] ∷ [])) ds → Each (λ p. is_mark p ≡ false) ps
script_unmarked n [] ds h = tt
script_unmarked n (p ∷ ps) ds h =
    let x = line_unmarked n (strip_carriage_return p) (lines_of_parts (ps ++ [] ∷ [])) ds (subst (λ (ls : List (List ℕ)). HoldDirectives n ls ds) (lines_next p ps) h) in
    (x.0, script_unmarked (n + 1) ps x.1.0 x.1.1)

split_next : (p : List ℕ) (ps : List (List ℕ)) (q : List ℕ) (qs : List (List ℕ)) → split_parts (p ∷ (ps ++ q ∷ qs)) ≡ here_or (is_mark p) (join_with_byte 10 (ps ++ q ∷ qs)) (behind_line p (split_parts (ps ++ q ∷ qs)))
split_next p [] q qs = refl
split_next p (r ∷ ps) q qs = refl

one_line : (p : List ℕ) (ps : List (List ℕ)) → p ++ 10 ∷ join_with_byte 10 (ps ++ [] ∷ []) ≡ join_with_byte 10 (p ∷ (ps ++ [] ∷ []))
one_line p [] = refl
one_line p (q ∷ ps) = refl

-- the text before the first mark is cut off
split_at_mark : (ps : List (List ℕ)) (q : List ℕ) (qs : List (List ℕ)) → Each (λ p. is_mark p ≡ false) ps → split_parts (ps ++ mark ∷ q ∷ qs) ≡ Some (join_with_byte 10 (ps ++ [] ∷ []), join_with_byte 10 (q ∷ qs))
split_at_mark [] q qs h = refl
split_at_mark (p ∷ ps) q qs h =
    split_next p ps mark (q ∷ qs) ∙ rw (h.0, split_at_mark ps q qs h.1) (ap (λ (t : List ℕ). Some (t, join_with_byte 10 (q ∷ qs))) (one_line p ps))

-- ---- the input

-- The input is cut so: its configuration, its script and its report.
record IsInput (bytes front back report : List ℕ) : Type 0 where
  behind : List ℕ
  parted : file bytes ≡ Some (front, behind)
  split : split_report behind ≡ Some (back, report)
  whole : behind ≡ back ++ (codes "===\n" ++ report)

feedless_mark : Each Feedless (parts mark)
feedless_mark = parts_feedless mark

input_cut : (text front back report : List ℕ) (ds : List Directive) → file (text ++ 10 ∷ []) ≡ Some (front, back) → script back ≡ Ok ds → IsInput (text ++ 10 ∷ (codes "===\n" ++ report)) front back report
input_cut text front back report ds f s =
    let c = is_cut (parts text) front back (ap file_of_parts (sym (split_both text [])) ∙ f) in
    let rest_feedless = c.feedless (parts_feedless text) in
    let r = some_part (λ b. b == 10) report in
    let report_again : join_with_byte 10 (r.0 ∷ r.1) ≡ report = ap (join_with_byte 10) (sym r.2) ∙ join_with_byte-slice_split 10 report in
    let marked : parts (codes "===\n" ++ report) ≡ mark ∷ r.0 ∷ r.1 = split_both mark report ∙ ap (λ (ps : List (List ℕ)). mark ∷ ps) r.2 in
    let report_feedless : Each Feedless (r.0 ∷ r.1) = subst (Each Feedless) r.2 (parts_feedless report) in
    let all_feedless : Each Feedless (mark ∷ r.0 ∷ r.1) = (feedless_mark.0, report_feedless) in
    let back_parts : parts back ≡ c.rest ++ [] ∷ [] = ap parts c.is ∙ parts_with c.rest [] [] rest_feedless (parts_feedless []) in
    let held = subst (λ (ps : List (List ℕ)). HoldDirectives 1 (lines_of_parts ps) ds) back_parts (script_is back ds s).hold in
    let unmarked = script_unmarked 1 c.rest ds held in
    record {
      behind = join_with_byte 10 (c.rest ++ mark ∷ r.0 ∷ r.1);
      parted = ap file_of_parts (split_both text (codes "===\n" ++ report) ∙ ap (λ (ps : List (List ℕ)). parts text ++ ps) marked) ∙ c.on mark (r.0 ∷ r.1);
      split = ap split_parts (parts_with c.rest mark (r.0 ∷ r.1) rest_feedless all_feedless) ∙ (split_at_mark c.rest r.0 r.1 unmarked ∙ rw (report_again, ← c.is) refl);
      whole = lines_before c.rest mark (r.0 ∷ r.1) ∙ (rw (report_again, ← c.is) refl);
    }

-- ---- how it is judged

size_is : (bytes behind text back report : List ℕ) → bytes ≡ text ++ (codes "===\n" ++ report) → behind ≡ back ++ (codes "===\n" ++ report) → file_size bytes behind back ≡ length text
size_is bytes behind text back report e f =
    let a : length bytes ≡ length text + length (codes "===\n" ++ report) = ap length e ∙ length-append text (codes "===\n" ++ report) in
    let b : length behind ≡ length back + length (codes "===\n" ++ report) = ap length f ∙ length-append back (codes "===\n" ++ report) in
    omega (arith, a, b)

drawn_text : (form : Form) (before : ℕ) (ds : List Directive) (report text : List ℕ) → text_under form ds report ≡ Ok text → drawn form before ds report ≡ record { status = 0; text = text }
drawn_text form before ds report text h = rw h refl

-- a report that is drawn under its script is drawn behind its bench file
pub input_drawn : (form : Form) (text front back report drawing : List ℕ) (ds : List Directive) → file (text ++ 10 ∷ []) ≡ Some (front, back) → fault_of front ≡ None → script back ≡ Ok ds → length (text ++ 10 ∷ []) ≤ 1048576 →
    length (text ++ 10 ∷ (codes "===\n" ++ report)) ≤ 268435456 → text_under form ds report ≡ Ok drawing → judged (Some form) (text ++ 10 ∷ (codes "===\n" ++ report)) ≡ record { status = 0; text = drawing }
input_drawn form text front back report drawing ds f none s few most h =
    let bytes = text ++ 10 ∷ (codes "===\n" ++ report) in
    let i = input_cut text front back report ds f s in
    let same : bytes ≡ (text ++ 10 ∷ []) ++ (codes "===\n" ++ report) = sym (append_assoc text (10 ∷ []) (codes "===\n" ++ report)) in
    let size = size_is bytes i.behind (text ++ 10 ∷ []) back report same i.whole in
    let before = lines_in (take (length bytes - length report) bytes) in
    let in_size : nat_lt 1048576 (file_size bytes i.behind back) ≡ false = rw size (lt_since 1048576 (length (text ++ 10 ∷ [])) few) in
    rw (lt_since 268435456 (length bytes) most, i.parted, i.split, in_size, none, s) (drawn_text form before ds report drawing h)
