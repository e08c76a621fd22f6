-- A line of the block that is taken, or read, is the front of what is left of it.
use Rattle.std.proofs.Common.{◌≡◌, ℕ, ◌+◌, Bool, true, false, List, [], ◌∷◌, ◌++◌, length, Option, Some, None, Result, Ok, Err, refl, sym, ◌∙◌, subst, arith}
use Rattle.std.specs.Prelude.{IfOk}
use Rattle.std.proofs.lemmas.List.{append-nil}
use Rattle.bench_report.specs.Lines.{Line, numbered}
use Rattle.bench_report.specs.Numbers.{IsNumber, Each}
use Rattle.mcal_base.specs.facts.Truths.{off_on}
use Rattle.report_text.specs.reading.Blocks.{behind, printed}
use Rattle.report_text.specs.Unread.{Unread, after_told, comes, own, passed, taken, told_next}
use Rattle.report_text.proofs.Counting.{count_printed, count_told}
use Rattle.report_text.proofs.Owning.{past_printed, past_told, takes, took_printed}
use Rattle.trace_reader.specs.Reading.{parts_of}
use Rattle.trace_reader.specs.Trace.{HasLineNumbers}
use Rattle.trace_reader.specs.declared.told.Told.{Told}
use Rattle.report_steps.specs.Lines.{Advances, Past, TakesLine}

-- ---- one after another

pub advances_none : (r : Unread) → Advances r r
advances_none r = record { number = refl; later = refl; counted = refl }

pub advances_on : (a b c : Unread) → Advances a b → Advances b c → Advances a c
advances_on a b c h k = record {
  number = k.number ∙ h.number;
  later = subst (λ n. behind n (parts_of c.left) ≡ behind n (parts_of b.left)) h.number k.later ∙ h.later;
  counted = k.counted ∙ h.counted;
}

-- ---- lines that are printed again

one_by_one : (read k n own_before own_after : ℕ) → k ≡ n → own_before ≡ n + own_after → (read + k) + own_after ≡ read + own_before
one_by_one read k n before after e f = omega (arith, e, f)

-- lines that come are taken
pub past_lines : (r : Unread) (lines : List Line) (k : ℕ) → IsNumber r.number → Each HasLineNumbers lines → k ≡ length lines → comes (printed r.number lines) r.left ≡ true
    → Past lines r (passed (length (printed r.number lines)) k r)
past_lines r lines k n h e c = record {
  on = record {
    number = refl;
    later = sym (past_printed r lines n h c);
    counted = one_by_one r.read k (length lines) (length (own r)) (length (own (passed (length (printed r.number lines)) k r))) e (count_printed r lines k n h c);
  };
  text = took_printed r lines k n h c;
}

past_line : (r : Unread) (line : Line) → IsNumber r.number → HasLineNumbers line → comes (numbered r.number line) r.left ≡ true → Past (line ∷ []) r (passed (length (numbered r.number line)) 1 r)
past_line r line n h c =
    let e : numbered r.number line ++ [] ≡ numbered r.number line = append-nil (numbered r.number line) in
    subst (λ bs. Past (line ∷ []) r (passed (length bs) 1 r)) e
    (past_lines r (line ∷ []) 1 n (h, tt) refl (subst (λ bs. comes bs r.left ≡ true) (sym e) c))

pub takes_line : (r after : Unread) (line : Line) (right : Bool) → IsNumber r.number → HasLineNumbers line → right ≡ comes (numbered r.number line) r.left → after ≡ taken right (numbered r.number line) 1 r → TakesLine right line r after
takes_line r after line true n h is left = subst (λ u. Past (line ∷ []) r u) (sym left) (past_line r line n h (sym is))
takes_line r after line false n h is left = (left, λ rest e. off_on (is ∙ takes r (numbered r.number line) rest e))

-- whether it comes or not, nothing but lines of the block is taken
pub advances_line : (right : Bool) (line : Line) (before after : Unread) → TakesLine right line before after → Advances before after
advances_line true line before after h = h.on
advances_line false line before after h = subst (λ u. Advances before u) (sym h.0) (advances_none before)

-- ---- lines that are read

one_told : (read own_before own_after : ℕ) → own_before ≡ 1 + own_after → (read + 1) + own_after ≡ read + own_before
one_told read before after e = omega (arith, e)

pub advances_told : (r after : Unread) (told : Option Told) → IsNumber r.number → told ≡ told_next r → after ≡ after_told r told → Advances r after
advances_told r after None n is left = subst (λ u. Advances r u) (sym left) (advances_none r)
advances_told r after (Some t) n is left =
    subst (λ u. Advances r u) (sym left)
    (record { number = refl; later = sym (past_told r t n (sym is)); counted = one_told r.read (length (own r)) (length (own (after_told r (Some t)))) (count_told r t n (sym is)) })

-- what holds whatever comes holds of a value
pub if_any : {A E Q : Type 0} (r : Result A E) → Q → IfOk r (λ x. Q)
if_any (Ok x) q = q
if_any (Err e) q = tt
