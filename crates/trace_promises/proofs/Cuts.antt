-- A bench file, the mark of a report and a report are cut into their parts again.
use Rattle.std.proofs.Common.{◌≡◌, ◌⊎◌, ℕ, suc, ◌+◌, ◌==◌, ◌≤◌, Bool, true, false, List, [], ◌∷◌, ◌++◌, length, Option, Some, None, inl, inr, refl, ◌∙◌, ap, sym, subst, arith, length-append, append_assoc, eqb-true}
use Rattle.std.specs.Prelude.{Ok, codes, nat_lt, option_map, if◌then◌else◌}
use Rattle.std.specs.List.{join_with_byte}
use Rattle.std.specs.Str.Lines.{lines_of_parts, strip_carriage_return}
use Rattle.std.proofs.lemmas.List.Splits.{join_with_byte-slice_split}
use Rattle.std.proofs.lemmas.Slice.Eq.{bytes_eq-Decides}
use Rattle.mcal_base.specs.facts.Numbers.{lt_since}
use Rattle.mcal_base.specs.declared.directive.Directive.{Directive}
use Rattle.mcal_base.specs.declared.directive.Order.{Order}
use Rattle.mcal_base.specs.declared.directive.Order.TheVariants.{Call, Do, Enter, Serve, Run, Upto, Finish, Tick, Level, Analog, Trigger, Miso, SpiFault, Detach, Fill, Reset, Show}
use Rattle.bench_report.specs.Numbers.{Each}
use Rattle.bench_script.specs.Lines.{before_comment, file, is_line, split_parts, words_of}
use Rattle.bench_script.specs.Productions.{HoldsNothing, HoldsOrder, HoldDirectives, first_word}
use Rattle.bench_script.specs.Script.{script}
use Rattle.bench_script.proofs.Parts.{some_part}
use Rattle.bench_script.proofs.Whole.{script_is, script_again}
use Rattle.bench_top.specs.Audited.{audited_parts, file_length, parts_from}
use Rattle.trace_promises.proofs.Parts.{parts, Feedless, split_both, parts_again, parts_feedless, parts_with, lines_before}
use Rattle.trace_promises.specs.audits.Input.{audit_input, with_feed}
use Rattle.trace_promises.proofs.Feeds.{held_fed}

-- ---- a text cut at a mark

-- a line stands before what is cut, and what is cut here or later
abbrev behind_line : List ℕ → Option (List ℕ × List ℕ) → Option (List ℕ × List ℕ)
behind_line p o = option_map (λ x. (p ++ 10 ∷ x.0, x.1)) o

abbrev here_or : Bool → List ℕ → Option (List ℕ × List ℕ) → Option (List ℕ × List ℕ)
here_or b here later = if b then Some ([], here) else later

split_next : (mark p : List ℕ) (ps : List (List ℕ)) (q : List ℕ) (qs : List (List ℕ)) →
    split_parts mark (p ∷ (ps ++ q ∷ qs)) ≡ here_or (is_line mark (strip_carriage_return p)) (join_with_byte 10 (ps ++ q ∷ qs)) (behind_line p (split_parts mark (ps ++ q ∷ qs)))
split_next mark p [] q qs = refl
split_next mark p (r ∷ ps) q qs = refl

same_pair : (a b : List ℕ × List ℕ) → Some a ≡ Some b → a ≡ b
same_pair a b h = cc

abbrev cut_so : List ℕ → List ℕ → Option (List ℕ × List ℕ)
cut_so a b = Some (a, b)

same_parts : (a b c d : List ℕ) → cut_so a b ≡ Some (c, d) → (a ≡ c) × (b ≡ d)
same_parts a b c d h =
    let e = same_pair (a, b) (c, d) h in
    (ap (λ (x : List ℕ × List ℕ). x.0) e, ap (λ (x : List ℕ × List ℕ). x.1) e)

-- ---- how long its parts are

joined_more : (p q : List ℕ) (ps : List (List ℕ)) → length (join_with_byte 10 (p ∷ q ∷ ps)) ≡ length p + (length (join_with_byte 10 (q ∷ ps)) + 1)
joined_more p q ps = let e = length-append p (10 ∷ join_with_byte 10 (q ∷ ps)) in omega (arith, e)

fed_length : (p : List ℕ) (ps : List (List ℕ)) → length (join_with_byte 10 (p ∷ (ps ++ [] ∷ []))) ≡ length (join_with_byte 10 (p ∷ ps)) + 1
fed_length p [] = let e = joined_more p [] [] in omega (arith, e)
fed_length p (q ∷ ps) = let e = joined_more p q (ps ++ [] ∷ []) in let f = joined_more p q ps in let g = fed_length q ps in omega (arith, e, f, g)

here_less : (p : List ℕ) (ps : List (List ℕ)) → length (join_with_byte 10 (ps ++ [] ∷ [])) ≤ length (join_with_byte 10 (p ∷ ps))
here_less p [] = omega arith
here_less p (q ∷ ps) = let e = fed_length q ps in let f = joined_more p q ps in omega (arith, e, f)

later_less : (p : List ℕ) (ps : List (List ℕ)) (n : ℕ) → n ≤ length (join_with_byte 10 ps) → n ≤ length (join_with_byte 10 (p ∷ ps))
later_less p [] n h = omega (arith, h)
later_less p (q ∷ ps) n h = let f = joined_more p q ps in omega (arith, h, f)

-- ---- the separator

-- Lines are cut at the separator, with this text before it, and so are they with others behind them; the script is no longer than all, with a line feed at its end.
record IsCut (ps : List (List ℕ)) (front : List ℕ) : Type 0 where
  rest : List (List ℕ)
  feedless : Each Feedless ps → Each Feedless rest
  on : (q : List ℕ) (qs : List (List ℕ)) → split_parts (codes "---") (ps ++ q ∷ qs) ≡ Some (front, join_with_byte 10 (rest ++ q ∷ qs))
  less : length (join_with_byte 10 (rest ++ [] ∷ [])) ≤ length (join_with_byte 10 ps)

cut_here : (p : List ℕ) (ps : List (List ℕ)) (front : List ℕ) → is_line (codes "---") (strip_carriage_return p) ≡ true → [] ≡ front → IsCut (p ∷ ps) front
cut_here p ps front e f = record {
  rest = ps;
  feedless = λ k. k.1;
  on = λ q qs. split_next (codes "---") p ps q qs ∙ rw e (ap (λ (t : List ℕ). cut_so t (join_with_byte 10 (ps ++ q ∷ qs))) f);
  less = here_less p ps;
}

cut_behind : (p : List ℕ) (ps : List (List ℕ)) (before front : List ℕ) → is_line (codes "---") (strip_carriage_return p) ≡ false → p ++ 10 ∷ before ≡ front → (c : IsCut ps before) → IsCut (p ∷ ps) front
cut_behind p ps before front e f c = record {
  rest = c.rest;
  feedless = λ k. c.feedless k.1;
  on = λ q qs. split_next (codes "---") p ps q qs ∙ rw (e, c.on q qs) (ap (λ (t : List ℕ). cut_so t (join_with_byte 10 (c.rest ++ q ∷ qs))) f);
  less = later_less p ps (length (join_with_byte 10 (c.rest ++ [] ∷ []))) c.less;
}

-- Lines are cut so, and these are what is behind, as a text with or without a line feed at its end.
record IsCutFed (ps : List (List ℕ)) (front back : List ℕ) : Type 0 where
  cut : IsCut ps front
  is : back ≡ join_with_byte 10 (cut.rest ++ [] ∷ [])

record IsCutUnfed (ps : List (List ℕ)) (front back : List ℕ) : Type 0 where
  cut : IsCut ps front
  is : back ≡ join_with_byte 10 cut.rest

fed_later : (p : List ℕ) (ps : List (List ℕ)) (front back : List ℕ) (o : Option (List ℕ × List ℕ)) → split_parts (codes "---") (ps ++ [] ∷ []) ≡ o → is_line (codes "---") (strip_carriage_return p) ≡ false → behind_line p o ≡ Some (front, back) →
    ((front back : List ℕ) → split_parts (codes "---") (ps ++ [] ∷ []) ≡ Some (front, back) → IsCutFed ps front back) → IsCutFed (p ∷ ps) front back
unfolding cut_behind
fed_later p ps front back None e n h ih = cc
fed_later p ps front back (Some x) e n h ih =
    let c = ih x.0 x.1 e in
    let same = same_parts (p ++ 10 ∷ x.0) x.1 front back h in
    record { cut = cut_behind p ps x.0 front n same.0 c.cut; is = sym same.1 ∙ c.is }

fed_by : (p : List ℕ) (ps : List (List ℕ)) (front back : List ℕ) (b : Bool) → is_line (codes "---") (strip_carriage_return p) ≡ b →
    here_or b (join_with_byte 10 (ps ++ [] ∷ [])) (behind_line p (split_parts (codes "---") (ps ++ [] ∷ []))) ≡ Some (front, back) →
    ((front back : List ℕ) → split_parts (codes "---") (ps ++ [] ∷ []) ≡ Some (front, back) → IsCutFed ps front back) → IsCutFed (p ∷ ps) front back
unfolding cut_here
fed_by p ps front back true e h ih =
    let same = same_parts [] (join_with_byte 10 (ps ++ [] ∷ [])) front back h in
    record { cut = cut_here p ps front e same.0; is = sym same.1 }
fed_by p ps front back false e h ih = fed_later p ps front back (split_parts (codes "---") (ps ++ [] ∷ [])) refl e h ih

cut_fed : (ps : List (List ℕ)) (front back : List ℕ) → split_parts (codes "---") (ps ++ [] ∷ []) ≡ Some (front, back) → IsCutFed ps front back
cut_fed [] front back h = cc
cut_fed (p ∷ ps) front back h = fed_by p ps front back (is_line (codes "---") (strip_carriage_return p)) refl (sym (split_next (codes "---") p ps [] []) ∙ h) (cut_fed ps)

unfed_later : (p : List ℕ) (ps : List (List ℕ)) (front back : List ℕ) (o : Option (List ℕ × List ℕ)) → split_parts (codes "---") ps ≡ o → is_line (codes "---") (strip_carriage_return p) ≡ false → behind_line p o ≡ Some (front, back) →
    ((front back : List ℕ) → split_parts (codes "---") ps ≡ Some (front, back) → IsCutUnfed ps front back) → IsCutUnfed (p ∷ ps) front back
unfolding cut_behind
unfed_later p ps front back None e n h ih = cc
unfed_later p ps front back (Some x) e n h ih =
    let c = ih x.0 x.1 e in
    let same = same_parts (p ++ 10 ∷ x.0) x.1 front back h in
    record { cut = cut_behind p ps x.0 front n same.0 c.cut; is = sym same.1 ∙ c.is }

unfed_by : (p : List ℕ) (ps : List (List ℕ)) (front back : List ℕ) (b : Bool) → is_line (codes "---") (strip_carriage_return p) ≡ b →
    here_or b (join_with_byte 10 ps) (behind_line p (split_parts (codes "---") ps)) ≡ Some (front, back) →
    ((front back : List ℕ) → split_parts (codes "---") ps ≡ Some (front, back) → IsCutUnfed ps front back) → IsCutUnfed (p ∷ ps) front back
unfolding cut_here
unfed_by p ps front back true e h ih =
    let same = same_parts [] (join_with_byte 10 ps) front back h in
    record { cut = cut_here p ps front e same.0; is = sym same.1 }
unfed_by p ps front back false e h ih = unfed_later p ps front back (split_parts (codes "---") ps) refl e h ih

-- a separator without a line feed has no carriage return
bare : (p : List ℕ) → is_line (codes "---") p ≡ true → is_line (codes "---") (strip_carriage_return p) ≡ true
bare p h = let e : codes "---" ≡ p = sym ((bytes_eq-Decides p (codes "---")).0 h) in subst (λ (t : List ℕ). is_line (codes "---") (strip_carriage_return t) ≡ true) e refl

unfed_last : (p front back : List ℕ) (b : Bool) → is_line (codes "---") p ≡ b → (if b then cut_so [] [] else None) ≡ Some (front, back) → IsCutUnfed (p ∷ []) front back
unfolding cut_here
unfed_last p front back true e h = let same = same_parts [] [] front back h in record { cut = cut_here p [] front (bare p e) same.0; is = sym same.1 }
unfed_last p front back false e h = cc

cut_unfed : (ps : List (List ℕ)) (front back : List ℕ) → split_parts (codes "---") ps ≡ Some (front, back) → IsCutUnfed ps front back
cut_unfed [] front back h = cc
cut_unfed (p ∷ []) front back h = unfed_last p front back (is_line (codes "---") p) refl h
cut_unfed (p ∷ q ∷ ps) front back h = unfed_by p (q ∷ ps) front back (is_line (codes "---") (strip_carriage_return p)) refl h (cut_unfed (q ∷ ps))

-- ---- the mark of a report

abbrev mark : List ℕ
mark = codes "==="

-- no order and no empty line is a mark
begins_so : List (List ℕ) → Bool
begins_so ((b ∷ bs) ∷ words) = b == 61
begins_so _ = false

no_order_so : (order : Order) (after : List (List ℕ)) → begins_so (first_word order ∷ after) ≡ false
unfolding begins_so
no_order_so (Call level request) after = refl
no_order_so (Do level request) after = refl
no_order_so (Enter n) after = refl
no_order_so (Serve n) after = refl
no_order_so (Run n) after = refl
no_order_so (Upto stop) after = refl
no_order_so Finish after = refl
no_order_so (Tick n) after = refl
no_order_so (Level pin high) after = refl
no_order_so (Analog input value) after = refl
no_order_so (Trigger n) after = refl
no_order_so (Miso unit ns) after = refl
no_order_so (SpiFault n) after = refl
no_order_so Detach after = refl
no_order_so (Fill channel ns) after = refl
no_order_so (Reset reason) after = refl
no_order_so (Show shown) after = refl

mark_so : begins_so (words_of (before_comment mark)) ≡ true
unfolding begins_so
mark_so = refl

no_order : (order : Order) (after : List (List ℕ)) → words_of (before_comment mark) ≡ first_word order ∷ after → ⊥
no_order order after h = let e : true ≡ false = sym mark_so ∙ (ap begins_so h ∙ no_order_so order after) in cc

unmarked_by : (line : List ℕ) (b : Bool) → is_line mark line ≡ b → (line ≡ mark → ⊥) → b ≡ false
unmarked_by line true e h = absurd (h ((bytes_eq-Decides line mark).0 e))
unmarked_by line false e h = refl

nothing_unmarked : (line : List ℕ) → HoldsNothing line → is_line mark line ≡ false
nothing_unmarked line h = unmarked_by line (is_line mark line) refl (λ e. let none : words_of (before_comment mark) ≡ [] = ap (λ (t : List ℕ). words_of (before_comment t)) (sym e) ∙ h.none in cc)

order_unmarked : (line : List ℕ) (order : Order) → HoldsOrder line order → is_line mark line ≡ false
order_unmarked line order h = unmarked_by line (is_line mark line) refl (λ e. no_order order h.is.after (ap (λ (t : List ℕ). words_of (before_comment t)) (sym e) ∙ h.is.spelled))

-- a line of a script is none
line_unmarked : (n : ℕ) (line : List ℕ) (others : List (List ℕ)) (ds : List Directive) → HoldDirectives n (line ∷ others) ds → (is_line mark line ≡ false) × ((es : List Directive) × HoldDirectives (n + 1) others es)
line_unmarked n line others ds (inl h) = (nothing_unmarked line h.0, (ds, h.1))
line_unmarked n line others ds (inr h) = (order_unmarked line h.0 h.3, (h.1, h.4))

lines_next : (p : List ℕ) (ps : List (List ℕ)) → lines_of_parts (p ∷ (ps ++ [] ∷ [])) ≡ strip_carriage_return p ∷ lines_of_parts (ps ++ [] ∷ [])
lines_next p [] = refl
lines_next p (q ∷ ps) = refl

script_unmarked : (n : ℕ) (ps : List (List ℕ)) (ds : List Directive) → HoldDirectives n (lines_of_parts (ps ++ [] ∷ [])) ds → Each (λ p. is_line mark (strip_carriage_return p) ≡ false) ps
script_unmarked n [] ds h = tt
script_unmarked n (p ∷ ps) ds h =
    let x = line_unmarked n (strip_carriage_return p) (lines_of_parts (ps ++ [] ∷ [])) ds (subst (λ (ls : List (List ℕ)). HoldDirectives n ls ds) (lines_next p ps) h) in
    (x.0, script_unmarked (n + 1) ps x.1.0 x.1.1)

one_line : (p : List ℕ) (ps : List (List ℕ)) → p ++ 10 ∷ join_with_byte 10 (ps ++ [] ∷ []) ≡ join_with_byte 10 (p ∷ (ps ++ [] ∷ []))
one_line p [] = refl
one_line p (q ∷ ps) = refl

-- the text before the first mark is cut off
split_at_mark : (ps : List (List ℕ)) (q : List ℕ) (qs : List (List ℕ)) → Each (λ p. is_line mark (strip_carriage_return p) ≡ false) ps → split_parts mark (ps ++ mark ∷ q ∷ qs) ≡ Some (join_with_byte 10 (ps ++ [] ∷ []), join_with_byte 10 (q ∷ qs))
split_at_mark [] q qs h = refl
split_at_mark (p ∷ ps) q qs h =
    split_next mark p ps mark (q ∷ qs) ∙ rw (h.0, split_at_mark ps q qs h.1) (ap (λ (t : List ℕ). cut_so t (join_with_byte 10 (q ∷ qs))) (one_line p ps))

-- ---- the input

-- The input has these parts, and its script is read as these directives.
pub record HasParts (input front report : List ℕ) (ds : List Directive) : Type 0 where
  pub back : List ℕ
  pub is : audited_parts input ≡ Ok (parts_from front back report)
  pub read : script back ≡ Ok ds

length_is : (input behind text back report : List ℕ) → input ≡ text ++ 10 ∷ (codes "===\n" ++ report) → behind ≡ back ++ (codes "===\n" ++ report) → length back ≤ length text → file_length input behind back ≡ length text
length_is input behind text back report e f le =
    let a : length input ≡ length text + suc (length (codes "===\n" ++ report)) = ap length e ∙ length-append text (10 ∷ (codes "===\n" ++ report)) in
    let b : length behind ≡ length back + length (codes "===\n" ++ report) = ap length f ∙ length-append back (codes "===\n" ++ report) in
    omega (arith, a, b, le)

-- behind text that is cut so, with a line feed
cut_parts : (text front report : List ℕ) (ds : List Directive) (c : IsCut (parts text) front) → HoldDirectives 1 (lines_of_parts (c.rest ++ [] ∷ [])) ds → length ds ≤ 50000 → length text ≤ 1048576 →
    HasParts (text ++ 10 ∷ (codes "===\n" ++ report)) front report ds
cut_parts text front report ds c held few short =
    let input = text ++ 10 ∷ (codes "===\n" ++ report) in
    let back = join_with_byte 10 (c.rest ++ [] ∷ []) in
    let rest_feedless = c.feedless (parts_feedless text) in
    let r = some_part (λ b. b == 10) report in
    let report_again : join_with_byte 10 (r.0 ∷ r.1) ≡ report = ap (join_with_byte 10) (sym r.2) ∙ join_with_byte-slice_split 10 report in
    let marked : parts (codes "===\n" ++ report) ≡ mark ∷ r.0 ∷ r.1 = split_both mark report ∙ ap (λ (ps : List (List ℕ)). mark ∷ ps) r.2 in
    let report_feedless : Each Feedless (r.0 ∷ r.1) = subst (Each Feedless) r.2 (parts_feedless report) in
    let mark_feedless : Each Feedless (mark ∷ []) = parts_feedless mark in
    let behind = join_with_byte 10 (c.rest ++ mark ∷ r.0 ∷ r.1) in
    let parted : file input ≡ Some (front, behind) = ap (split_parts (codes "---")) (split_both text (codes "===\n" ++ report) ∙ ap (λ (ps : List (List ℕ)). parts text ++ ps) marked) ∙ c.on mark (r.0 ∷ r.1) in
    let split : split_parts mark (parts behind) ≡ cut_so back report =
    ap (split_parts mark) (parts_with c.rest mark (r.0 ∷ r.1) rest_feedless (mark_feedless.0, report_feedless))
    ∙ (split_at_mark c.rest r.0 r.1 (script_unmarked 1 c.rest ds held) ∙ ap (cut_so back) report_again) in
    let whole : behind ≡ back ++ (codes "===\n" ++ report) = lines_before c.rest mark (r.0 ∷ r.1) ∙ ap (λ (t : List ℕ). back ++ (codes "===\n" ++ t)) report_again in
    let text_again : length (join_with_byte 10 (parts text)) ≡ length text = ap length (join_with_byte-slice_split 10 text) in
    let less = c.less in
    let size = length_is input behind text back report refl whole (omega (arith, less, text_again)) in
    let back_parts : parts back ≡ c.rest ++ [] ∷ [] = parts_with c.rest [] [] rest_feedless (parts_feedless []) in
    let in_size : nat_lt 1048576 (file_length input behind back) ≡ false = ap (nat_lt 1048576) size ∙ lt_since 1048576 (length text) short in
    record {
      back = back;
      is = rw (parted, split, in_size) refl;
      read = script_again back ds (record { hold = subst (λ (ps : List (List ℕ)). HoldDirectives 1 (lines_of_parts ps) ds) (sym back_parts) held; few = few });
    }

-- ---- a bench file

-- A bench file with a line feed at its end is this text with one; it had it, or had none.
record IsFed (bench : List ℕ) : Type 0 where
  text : List ℕ
  is : with_feed bench ≡ text ++ 10 ∷ []
  was : (bench ≡ text ++ 10 ∷ []) ⊎ (bench ≡ text)

fed_last : (b : ℕ) (test : Bool) → (b == 10) ≡ test → IsFed (b ∷ [])
fed_last b true e = let n : b ≡ 10 = eqb-true b 10 e in record { text = []; is = rw e (ap (λ (x : ℕ). x ∷ []) n); was = inl (ap (λ (x : ℕ). x ∷ []) n) }
fed_last b false e = record { text = b ∷ []; is = rw e refl; was = inr refl }

was_more : (b : ℕ) (bench text : List ℕ) → (bench ≡ text ++ 10 ∷ []) ⊎ (bench ≡ text) → (b ∷ bench ≡ b ∷ (text ++ 10 ∷ [])) ⊎ (b ∷ bench ≡ b ∷ text)
was_more b bench text (inl e) = inl (ap (λ (t : List ℕ). b ∷ t) e)
was_more b bench text (inr e) = inr (ap (λ (t : List ℕ). b ∷ t) e)

is_fed : (bench : List ℕ) → IsFed bench
is_fed [] = record { text = []; is = refl; was = inr refl }
is_fed (b ∷ []) = fed_last b (b == 10) refl
is_fed (b ∷ next ∷ bs) =
    let f = is_fed (next ∷ bs) in
    record { text = b ∷ f.text; is = ap (λ (t : List ℕ). b ∷ t) f.is; was = was_more b (next ∷ bs) f.text f.was }

parts_or_none : (rest : List (List ℕ)) (ds : List Directive) → Each Feedless rest → HoldDirectives 1 (lines_of_parts (parts (join_with_byte 10 rest))) ds → HoldDirectives 1 (lines_of_parts rest) ds
parts_or_none [] ds h held = held
parts_or_none (p ∷ ps) ds h held = subst (λ (qs : List (List ℕ)). HoldDirectives 1 (lines_of_parts qs) ds) (parts_again p ps h) held

fed_parts : (bench text front back report : List ℕ) (ds : List Directive) → (bench ≡ text ++ 10 ∷ []) ⊎ (bench ≡ text) → file bench ≡ Some (front, back) → script back ≡ Ok ds → length bench ≤ 1048576 → HasParts (text ++ 10 ∷ (codes "===\n" ++ report)) front report ds
fed_parts bench text front back report ds (inl e) f s short =
    let c = cut_fed (parts text) front back (ap (split_parts (codes "---")) (sym (ap parts e ∙ split_both text [])) ∙ f) in
    let is = script_is back ds s in
    let held = subst (λ (ps : List (List ℕ)). HoldDirectives 1 (lines_of_parts ps) ds) (ap parts c.is ∙ parts_with c.cut.rest [] [] (c.cut.feedless (parts_feedless text)) (parts_feedless [])) is.hold in
    let size = ap length e ∙ length-append text (10 ∷ []) in
    cut_parts text front report ds c.cut held is.few (omega (arith, size, short))
fed_parts bench text front back report ds (inr e) f s short =
    let c = cut_unfed (parts text) front back (ap file (sym e) ∙ f) in
    let is = script_is back ds s in
    let held = parts_or_none c.cut.rest ds (c.cut.feedless (parts_feedless text)) (subst (λ (t : List ℕ). HoldDirectives 1 (lines_of_parts (parts t)) ds) c.is is.hold) in
    cut_parts text front report ds c.cut (held_fed 1 c.cut.rest ds held) is.few (subst (λ (t : List ℕ). length t ≤ 1048576) e short)

-- a bench file, the mark and a report have the parts of the bench file, and the report
pub input_parts : (bench front back report : List ℕ) (ds : List Directive) → file bench ≡ Some (front, back) → script back ≡ Ok ds → length bench ≤ 1048576 → HasParts (audit_input bench report) front report ds
input_parts bench front back report ds f s short =
    let fed = is_fed bench in
    let same : audit_input bench report ≡ fed.text ++ 10 ∷ (codes "===\n" ++ report) = ap (λ (t : List ℕ). t ++ (codes "===\n" ++ report)) fed.is ∙ append_assoc fed.text (10 ∷ []) (codes "===\n" ++ report) in
    subst (λ (input : List ℕ). HasParts input front report ds) (sym same) (fed_parts bench fed.text front back report ds fed.was f s short)
