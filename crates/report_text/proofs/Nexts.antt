-- The next line of the block, by the first line of what is left: w is what is kept, and v what it stands for.
use Rattle.std.proofs.Common.{◌≡◌, ℕ, ◌+◌, ◌<◌, ◌≤◌, List, [], ◌∷◌, ◌++◌, length, take, drop, Option, Some, None, Bool, true, false, refl, ◌∙◌, ap, sym, subst, append_assoc, arith, length-append}
use Rattle.std.specs.Prelude.{codes, decimal, nat_le, option_map}
use Rattle.std.proofs.lemmas.Bool.{false≢true}
use Rattle.std.proofs.lemmas.Bool.Decides.{nat_tests}
use Rattle.std.proofs.lemmas.List.{append-nil, length-take-le}
use Rattle.bench_report.specs.Lines.{Line, line_text, numbered, end_text}
use Rattle.bench_report.specs.declared.tally.Tally.{Tally}
use Rattle.report_text.specs.reading.Blocks.{begins_with, own_lines}
use Rattle.trace_reader.specs.Reading.{parts_of, read_line}
use Rattle.trace_reader.specs.declared.laws.TheConstants.{MOST_MOVING}
use Rattle.trace_reader.specs.declared.told.Told.{Told}
use Rattle.trace_reader.specs.declared.told.TraceLine.{TraceLine}
use Rattle.report_text.specs.Unread.{Unread, comes, own, passed, taken, told_first, told_next, past_first, after_told, Ends}
use Rattle.report_text.specs.declared.ending.Ending.TheVariants.{Alone, Followed, Missing}
use Rattle.report_text.proofs.Cutting.{own_first, own_unnumbered, when, unless}
use Rattle.report_text.proofs.Taking.{comes_again, comes_is}

-- no whole line is left
pub next_none : (w v : Unread) → w ≡ v → parts_of w.left ≡ w.left ∷ [] → own v ≡ []
next_none w v e p = subst (λ (u : Unread). own u ≡ []) e (ap (own_lines w.number) p)

mark_is : (w : Unread) (mark line : List ℕ) (b : Bool) → mark ≡ decimal w.number ++ codes " " → comes mark line ≡ b → begins_with w.number line ≡ b
mark_is w mark line b m c = subst (λ (m : List ℕ). comes m line ≡ b) m c

-- the first line is one of another block
pub next_other : (w v : Unread) (mark : List ℕ) (end : ℕ) → w ≡ v → mark ≡ decimal w.number ++ codes " " → parts_of w.left ≡ take end w.left ∷ parts_of (drop (end + 1) w.left) → comes mark (take end w.left) ≡ false → own v ≡ []
next_other w v mark end e m p c =
    let line = take end w.left in
    let rest = drop (end + 1) w.left in
    subst (λ (u : Unread). own u ≡ []) e
    (own_first w.number w.left line rest p ∙ unless (begins_with w.number line) (line ∷ own_lines w.number (parts_of rest)) [] (mark_is w mark line false m c))

-- the mark of the block isn't there
goes_on : (mark line rest : List ℕ) → comes mark line ≡ true → comes mark (line ++ rest) ≡ true
goes_on mark line rest here =
    let end = drop (length mark) line in
    let stands : line ++ rest ≡ mark ++ (end ++ rest) = ap (λ (bs : List ℕ). bs ++ rest) (comes_is mark line here) ∙ append_assoc mark end rest in
    subst (λ (bs : List ℕ). comes mark bs ≡ true) (sym stands) (comes_again mark (end ++ rest))

own_unmarked : (number : ℕ) (text : List ℕ) → comes (decimal number ++ codes " ") text ≡ false → own_lines number (parts_of text) ≡ []
own_unmarked number text off =
    let mark = decimal number ++ codes " " in
    own_unnumbered number text (λ line rest is begins. false≢true (sym off ∙ subst (λ (bs : List ℕ). comes mark bs ≡ true) (sym is) (goes_on mark line (10 ∷ rest) begins)))

pub next_unmarked : (w v : Unread) (mark : List ℕ) → w ≡ v → mark ≡ decimal w.number ++ codes " " → comes mark w.left ≡ false → own v ≡ []
next_unmarked w v mark e m off = subst (λ (u : Unread). own u ≡ []) e (own_unmarked w.number w.left (subst (λ (m : List ℕ). comes m w.left ≡ false) m off))

-- it is the block's
pub next_own : (w v : Unread) (mark : List ℕ) (end : ℕ) → w ≡ v → mark ≡ decimal w.number ++ codes " " → parts_of w.left ≡ take end w.left ∷ parts_of (drop (end + 1) w.left) → comes mark (take end w.left) ≡ true → own v ≡ take end v.left ∷ own_lines v.number (parts_of (drop (end + 1) v.left))
next_own w v mark end e m p c =
    let line = take end w.left in
    let rest = drop (end + 1) w.left in
    subst (λ (u : Unread). own u ≡ take end u.left ∷ own_lines u.number (parts_of (drop (end + 1) u.left))) e
    (own_first w.number w.left line rest p ∙ when (begins_with w.number line) (line ∷ own_lines w.number (parts_of rest)) [] (mark_is w mark line true m c))

-- ---- what it tells

pub told_nothing : (v : Unread) → own v ≡ [] → None ≡ told_next v
told_nothing v e = sym (ap told_first e)

front_length : (end : ℕ) (bs : List ℕ) → end < length bs → length (take end bs) ≡ end
front_length end bs h = length-take-le end bs (omega arith)

too_long : (k end : ℕ) → k ≡ end → MOST_MOVING < end → nat_le k MOST_MOVING ≡ false
too_long k end e h = grind (arith, nat_tests)

short : (k end : ℕ) → k ≡ end → end ≤ MOST_MOVING → nat_le k MOST_MOVING ≡ true
short k end e h = grind (arith, nat_tests)

pub told_long : (v : Unread) (end : ℕ) (lines : List (List ℕ)) → own v ≡ take end v.left ∷ lines → end < length v.left → MOST_MOVING < end → None ≡ told_next v
told_long v end lines e h l =
    let line = take end v.left in
    sym (ap told_first e ∙ unless (nat_le (length line) MOST_MOVING) (option_map (λ (t : TraceLine). t.told) (read_line line)) None (too_long (length line) end (front_length end v.left h) l))

pub told_read : (v : Unread) (end : ℕ) (lines : List (List ℕ)) (o : Option TraceLine) → own v ≡ take end v.left ∷ lines → end < length v.left → end ≤ MOST_MOVING → o ≡ read_line (take end v.left) → option_map (λ (t : TraceLine). t.told) o ≡ told_next v
told_read v end lines o e h l r =
    let line = take end v.left in
    sym (ap told_first e ∙ (when (nat_le (length line) MOST_MOVING) (option_map (λ (t : TraceLine). t.told) (read_line line)) None (short (length line) end (front_length end v.left h) l)
    ∙ ap (λ (p : Option TraceLine). option_map (λ (t : TraceLine). t.told) p) (sym r)))

-- behind it
pub told_past : (v : Unread) (end : ℕ) (lines : List (List ℕ)) (t : Told) → own v ≡ take end v.left ∷ lines → end < length v.left → passed (end + 1) 1 v ≡ after_told v (Some t)
told_past v end lines t e h =
    let left : past_first (own v) v.left ≡ drop (end + 1) v.left = ap (λ (ls : List (List ℕ)). past_first ls v.left) e ∙ ap (λ (k : ℕ). drop (k + 1) v.left) (front_length end v.left h) in
    ap (λ (bs : List ℕ). record v { left = bs; read = v.read + 1 }) (sym left)

-- ---- what is printed again

-- whether a text comes that is printed of what is kept
pub right_is : (w v : Unread) (text : Unread → List ℕ) (front : List ℕ) (b : Bool) → w ≡ v → front ≡ text w → comes front w.left ≡ b → b ≡ comes (text v) v.left
right_is w v text front b e f c = subst (λ (u : Unread). b ≡ comes (text u) u.left) e (sym c ∙ ap (λ (bs : List ℕ). comes bs w.left) f)

-- it is taken
pub taken_is : (w v : Unread) (text : Unread → List ℕ) (front rest : List ℕ) (lines : ℕ) → w ≡ v → front ≡ text w → rest ≡ drop (length front) w.left → record w { left = rest; read = w.read + lines } ≡ taken true (text v) lines v
taken_is w v text front rest lines e f r =
    subst (λ (u : Unread). record w { left = rest; read = w.read + lines } ≡ taken true (text u) lines u) e
    (ap (λ (bs : List ℕ). record w { left = bs; read = w.read + lines }) (r ∙ ap (λ (bs : List ℕ). drop (length bs) w.left) f))

-- ---- the last line

pub ends_alone : (tally : Tally) (left : List ℕ) → comes (end_text tally) left ≡ true → drop (length (end_text tally)) left ≡ [] → left ≡ end_text tally
ends_alone tally left c d = comes_is (end_text tally) left c ∙ (ap (λ (bs : List ℕ). end_text tally ++ bs) d ∙ append-nil (end_text tally))

pub not_alone : (tally : Tally) (left : List ℕ) (k : ℕ) → k + length (end_text tally) ≡ length left → 1 ≤ k → left ≡ end_text tally → ⊥
not_alone tally left k e some same = let lengths = ap length same in absurd (omega arith)

no_bytes : (bs : List ℕ) → length bs < 1 → bs ≡ []
no_bytes [] h = refl
no_bytes (b ∷ bs) h = absurd (omega arith)

-- by what is behind it, of what is kept
pub ended_alone : (tally : Tally) (w v : Unread) (front rest : List ℕ) → w ≡ v → front ≡ end_text tally → comes front w.left ≡ true → rest ≡ drop (length front) w.left → length rest < 1 → Ends tally v.left Alone
ended_alone tally w v front rest e f c r none =
    subst (λ (u : Unread). Ends tally u.left Alone) e
    (ends_alone tally w.left (sym (ap (λ (bs : List ℕ). comes bs w.left) f) ∙ c) (sym (ap (λ (bs : List ℕ). drop (length bs) w.left) f) ∙ (sym r ∙ no_bytes rest none)))

pub ended_followed : (tally : Tally) (w v : Unread) (front rest : List ℕ) → w ≡ v → front ≡ end_text tally → comes front w.left ≡ true → length rest + length front ≡ length w.left → 1 ≤ length rest → Ends tally v.left Followed
ended_followed tally w v front rest e f c l some =
    let lengths = sym (ap (λ (bs : List ℕ). length rest + length bs) f) ∙ l in
    subst (λ (u : Unread). Ends tally u.left Followed) e
    (sym (ap (λ (bs : List ℕ). comes bs w.left) f) ∙ c, λ same. not_alone tally w.left (length rest) lengths some same)

pub ended_missing : (tally : Tally) (w v : Unread) (front : List ℕ) → w ≡ v → front ≡ end_text tally → comes front w.left ≡ false → Ends tally v.left Missing
ended_missing tally w v front e f c = subst (λ (u : Unread). Ends tally u.left Missing) e (sym (ap (λ (bs : List ℕ). comes bs w.left) f) ∙ c)

-- ---- a line has its line feed

pub some_bytes : (number : ℕ) (line : Line) → 1 ≤ length (numbered number line)
some_bytes number line = let e = length-append (decimal number) (codes " " ++ (line_text line ++ codes "\n")) in omega arith
