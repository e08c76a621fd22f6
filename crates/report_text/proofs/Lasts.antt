-- What is left where the last line must come, in the words of an audit.
use Rattle.std.proofs.Common.{◌≡◌, ℕ, ◌+◌, List, [], length, take, Bool, true, false, ◌∙◌, ap, sym}
use Rattle.std.specs.Prelude.{bytes_eq, if◌then◌else◌}
use Rattle.std.specs.List.{join_with_byte}
use Rattle.std.proofs.lemmas.Bool.{false≢true}
use Rattle.std.proofs.lemmas.List.{append-nil}
use Rattle.std.proofs.lemmas.List.Splits.{join_with_byte-slice_split}
use Rattle.bench_report.specs.Lines.{end_text}
use Rattle.bench_report.specs.declared.tally.Tally.{Tally}
use Rattle.report_text.specs.reading.Audits.{IsEnd, end_fault}
use Rattle.trace_reader.specs.Reading.{parts_of}
use Rattle.report_text.specs.Unread.{comes, Ends}
use Rattle.report_text.specs.declared.ending.Ending.TheVariants.{Alone, Followed, Missing}
use Rattle.report_text.proofs.Taking.{comes_again}

joined : (left : List ℕ) → join_with_byte 10 (parts_of left) ≡ left
joined left = join_with_byte-slice_split 10 left

same_text : (one other : List ℕ) → parts_of one ≡ parts_of other → one ≡ other
same_text one other e = sym (joined one) ∙ (ap (join_with_byte 10) e ∙ joined other)

-- the line that is named
fault_is : (tally : Tally) (line : ℕ) (left : List ℕ) (b : Bool) → comes (end_text tally) left ≡ b → end_fault tally line (parts_of left) ≡ (if b then line + 1 else line)
fault_is tally line left b e =
    ap (λ (bs : List ℕ). if bytes_eq (take (length (end_text tally)) bs) (end_text tally) then line + 1 else line) (joined left)
    ∙ ap (λ (c : Bool). if c then line + 1 else line) e

comes_itself : (text : List ℕ) → comes text text ≡ true
comes_itself text = ap (comes text) (sym (append-nil text)) ∙ comes_again text []

missing_other : (tally : Tally) (left : List ℕ) → comes (end_text tally) left ≡ false → left ≡ end_text tally → ⊥
missing_other tally left c e = false≢true (sym c ∙ (ap (comes (end_text tally)) e ∙ comes_itself (end_text tally)))

pub alone : (tally : Tally) (left : List ℕ) → Ends tally left Alone → IsEnd tally (parts_of left)
alone tally left e = ap parts_of e

pub followed : (tally : Tally) (line : ℕ) (left : List ℕ) → Ends tally left Followed → (IsEnd tally (parts_of left) → ⊥) × (end_fault tally line (parts_of left) ≡ line + 1)
followed tally line left (c, other) = (λ is. other (same_text left (end_text tally) is), fault_is tally line left true c)

pub missing : (tally : Tally) (line : ℕ) (left : List ℕ) → Ends tally left Missing → (IsEnd tally (parts_of left) → ⊥) × (end_fault tally line (parts_of left) ≡ line)
missing tally line left c = (λ is. missing_other tally left c (same_text left (end_text tally) is), fault_is tally line left false c)
