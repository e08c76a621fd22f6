-- Lines that are printed again, at the front of a text.
use Rattle.std.proofs.Common.{◌≡◌, ℕ, List, [], ◌∷◌, ◌++◌, length, map, take, drop, true, refl, ◌∙◌, ap, sym, subst, append_assoc}
use Rattle.std.specs.Prelude.{codes, decimal}
use Rattle.std.proofs.lemmas.Grind.{flat_map-append}
use Rattle.std.proofs.lemmas.List.{take_at, take-append-drop}
use Rattle.std.proofs.lemmas.Slice.Eq.{bytes_eq-Decides}
use Rattle.bench_report.specs.Lines.{Line, line_text, numbered}
use Rattle.bench_report.specs.Numbers.{IsNumber, Each}
use Rattle.report_text.specs.reading.Blocks.{begins_with, own_lines, behind, text_of, printed}
use Rattle.trace_reader.specs.Reading.{line_with, parts_of}
use Rattle.trace_reader.specs.Trace.{HasLineNumbers}
use Rattle.trace_reader.proofs.Digits.{none_append, no_feed}
use Rattle.trace_reader.proofs.FeedLaws.{nl, line_feedless}
use Rattle.trace_reader.proofs.LineByLine.{append_assoc_line}
use Rattle.trace_reader.proofs.Whole.{split_front}
use Rattle.report_text.specs.Unread.{comes}
use Rattle.report_text.specs.Taken.{Took}
use Rattle.report_text.proofs.Cutting.{took_first, past_none}

-- what comes stands at the front
pub comes_is : (front text : List ℕ) → comes front text ≡ true → text ≡ front ++ drop (length front) text
comes_is front text h =
    let same : take (length front) text ≡ front = (bytes_eq-Decides (take (length front) text) front).0 h in
    sym (take-append-drop (length front) text) ∙ ap (λ (bs : List ℕ). bs ++ drop (length front) text) same

pub comes_again : (front rest : List ℕ) → comes front (front ++ rest) ≡ true
comes_again front rest = (bytes_eq-Decides (take (length front) (front ++ rest)) front).1 (take_at front rest (length front) refl)

-- ---- lines of one block behind each other

pub took_none : (number : ℕ) (text : List ℕ) → Took number text [] text
took_none number text = record { is = refl; own = refl; past = refl }

pub took_more : (number : ℕ) (text rest end : List ℕ) (lines more : List (List ℕ)) → Took number text lines rest → Took number rest more end → Took number text (lines ++ more) end
took_more number text rest end lines more t u = record {
  is = t.is ∙ (ap (λ (bs : List ℕ). text_of lines ++ bs) u.is ∙ (sym (append_assoc (text_of lines) (text_of more) end) ∙ ap (λ (bs : List ℕ). bs ++ end) (sym (flat_map-append (λ (line : List ℕ). line ++ codes "\n") lines more))));
  own = t.own ∙ (ap (λ (ls : List (List ℕ)). lines ++ ls) u.own ∙ sym (append_assoc lines more (own_lines number (parts_of end))));
  past = t.past ∙ u.past;
}

-- where nothing of the block is behind them they are the block
pub took_all : (number : ℕ) (text rest : List ℕ) (lines : List (List ℕ)) → Took number text lines rest → own_lines number (parts_of rest) ≡ [] → behind number (parts_of text) ≡ parts_of rest
took_all number text rest lines t none = t.past ∙ past_none number (parts_of rest) none

-- what is taken is the front of the block's text
pub took_text : (number : ℕ) (text rest : List ℕ) (lines : List (List ℕ)) → Took number text lines rest → text_of (own_lines number (parts_of text)) ≡ text_of lines ++ text_of (own_lines number (parts_of rest))
took_text number text rest lines t = ap text_of t.own ∙ flat_map-append (λ (line : List ℕ). line ++ codes "\n") lines (own_lines number (parts_of rest))

-- ---- printed lines

begins_again : (number : ℕ) (line : Line) → begins_with number (line_with number line) ≡ true
begins_again number line =
    ap (begins_with number) (sym (append_assoc (decimal number) (codes " ") (line_text line))) ∙ comes_again (decimal number ++ codes " ") (line_text line)

line_front : (number : ℕ) (line : Line) (rest : List ℕ) → numbered number line ++ rest ≡ line_with number line ++ 10 ∷ rest
line_front number line rest = ap (λ (bs : List ℕ). bs ++ rest) (sym (append_assoc_line number line)) ∙ append_assoc (line_with number line) (codes "\n") rest

-- a line with its number
pub took_line : (number : ℕ) (line : Line) (rest : List ℕ) → IsNumber number → HasLineNumbers line → Took number (numbered number line ++ rest) (line_with number line ∷ []) rest
took_line number line rest n h =
    let front = line_front number line rest in
    let feedless = none_append nl (decimal number) (codes " " ++ line_text line) (no_feed number n) (line_feedless line h) in
    took_first number (numbered number line ++ rest) (line_with number line) rest front
    (ap parts_of front ∙ split_front (line_with number line) rest feedless)
    (begins_again number line)

-- and several
pub took_lines : (number : ℕ) (lines : List Line) (rest : List ℕ) → IsNumber number → Each HasLineNumbers lines → Took number (printed number lines ++ rest) (map (line_with number) lines) rest
took_lines number [] rest n h = took_none number rest
took_lines number (line ∷ lines) rest n h =
    let behind_it = printed number lines ++ rest in
    let first = took_line number line behind_it n h.0 in
    let all = took_more number (numbered number line ++ behind_it) behind_it rest (line_with number line ∷ []) (map (line_with number) lines) first (took_lines number lines rest n h.1) in
    subst (λ (text : List ℕ). Took number text (line_with number line ∷ map (line_with number) lines) rest) (sym (append_assoc (numbered number line) (printed number lines) rest)) all
