-- The items behind one that was counted.
use Rattle.std.proofs.Common.{◌≡◌, ℕ, zero, suc, ◌+◌, ◌-◌, ◌*◌, ◌≤◌, Bool, true, false, List, [], ◌∷◌, refl, ap, sym, ◌∙◌, cond, arith, take, drop, length}
use Rattle.std.specs.Prelude.{◌==◌, get_or}
use Rattle.std.proofs.lemmas.Bool.{eq-eqb}
use Rattle.mcal_base.specs.declared.directive.Directive.{Directive}
use Rattle.run_model.specs.Entry.{Entry, entry_at, said_at}
use Rattle.run_model.specs.Packing.{what_of, item_of, entries_in}
use Rattle.run_model.specs.declared.kept.Kept.{Kept}
use Rattle.run_model.specs.declared.kept.JournalLists.{JournalLists}
use Rattle.bench_report.specs.Report.{own_entries, later_entries}
use Rattle.report_end.specs.Counts.{Counting, total, said_counted, items_counted, directive_counted}
use Rattle.report_end.proofs.Rooms.{said_total}

all_behind : (is : List Kept) (n : ℕ) → n ≡ length is → take n is ≡ is
all_behind [] zero h = refl
all_behind [] (suc n) h = refl
all_behind (i ∷ is) zero h = absurd (omega (arith, h))
all_behind (i ∷ is) (suc n) h = let less : n ≡ length is = omega (arith, h) in ap (λ (js : List Kept). i ∷ js) (all_behind is n less)

behind : (i : Kept) (is : List Kept) → take (length (i ∷ is) - 1) is ≡ is
behind i is = all_behind is (length (i ∷ is) - 1) (omega arith)

-- the first item is the directive's
own_first : (b : Bool) (d : Directive) (c : Counting) (e : Entry) (es : List Entry) → (e.line == d.line) ≡ b → e.line ≡ d.line → directive_counted d c (e ∷ es) ≡ directive_counted d (said_counted d.order c e.said) es
own_first true d c e es is same = ap (λ (b : Bool). items_counted d.order c (cond b (e ∷ own_entries d.line es) [])) is
own_first false d c e es is same = absurd (let is' : (e.line == d.line) ≡ true = eq-eqb e.line d.line same in cc)

later_first : (d : Directive) (e : Entry) (es : List Entry) → e.line ≡ d.line → later_entries d.line (e ∷ es) ≡ later_entries d.line es
later_first d e es same = ap (λ (b : Bool). cond b (later_entries d.line es) (e ∷ es)) (eq-eqb e.line d.line same)

pub next_counted : (d : Directive) (c k : Counting) (lists : JournalLists) (is : List Kept) (other : Kept) → 1 ≤ length is → (get_or is 0 other).line ≡ d.line → k ≡ said_counted d.order c (said_at lists.words.now (what_of lists.rests.now (get_or is 0 other).what)) →
    directive_counted d k (entries_in lists (take (length is - 1) (drop 1 is))) ≡ directive_counted d c (entries_in lists is)
next_counted d c k lists [] other some same next = absurd (omega (arith, some))
next_counted d c k lists (i ∷ is) other some same next =
    let first : Entry = entry_at lists.words.now (item_of lists.rests.now i) in
    ap (λ (js : List Kept). directive_counted d k (entries_in lists js)) (behind i is)
    ∙ ap (λ (x : Counting). directive_counted d x (entries_in lists is)) next
    ∙ sym (own_first (first.line == d.line) d c first (entries_in lists is) refl same)

pub next_later : (d : Directive) (lists : JournalLists) (is : List Kept) (other : Kept) → 1 ≤ length is → (get_or is 0 other).line ≡ d.line →
    later_entries d.line (entries_in lists (take (length is - 1) (drop 1 is))) ≡ later_entries d.line (entries_in lists is)
next_later d lists [] other some same = absurd (omega (arith, some))
next_later d lists (i ∷ is) other some same =
    ap (λ (js : List Kept). later_entries d.line (entries_in lists js)) (behind i is)
    ∙ sym (later_first d (entry_at lists.words.now (item_of lists.rests.now i)) (entries_in lists is) same)

pub next_room : (d : Directive) (c k : Counting) (lists : JournalLists) (is : List Kept) (other : Kept) → 1 ≤ length is → k ≡ said_counted d.order c (said_at lists.words.now (what_of lists.rests.now (get_or is 0 other).what)) →
    total k.tally + 2 * length (take (length is - 1) (drop 1 is)) ≤ total c.tally + 2 * length is
next_room d c k lists [] other some next = absurd (omega (arith, some))
next_room d c k lists (i ∷ is) other some next =
    let said = said_at lists.words.now (what_of lists.rests.now i.what) in
    let few : length (take (length (i ∷ is) - 1) is) ≡ length is = ap (λ (js : List Kept). length js) (behind i is) in
    let same : total k.tally ≡ total (said_counted d.order c said).tally = ap (λ (x : Counting). total x.tally) next in
    let more = said_total d.order c said in
    omega (arith, few, same, more)
