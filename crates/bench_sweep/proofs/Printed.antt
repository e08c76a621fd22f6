-- One printed line more, among what lines of the file told.
use Rattle.std.proofs.Common.{◌≡◌, ℕ, ◌+◌, ◌≤◌, ◌++◌, Bool, true, false, not, cond, List, [], ◌∷◌, Option, Some, None, Result, Ok, Err, OnOk, map, length, get_or, zero, suc, refl, sym, ap, ◌∙◌, arith, eq-eqb, eqb-true, ◌==◌}
use Rattle.std.specs.Prelude.{IsSomeAnd, nat_le, nat_lt, slice_get, slice_set, string_bytes}
use Rattle.std.specs.List.{insert, position, position_or_len}
use Rattle.std.proofs.lemmas.Bool.Decides.{nat_tests}
use Rattle.std.proofs.lemmas.List.{map-append}
use Rattle.std.proofs.lemmas.Option.{get_or_from_slice_get, same_Some}
use Rattle.bench_sweep.specs.declared.outcomes.Told.{Told}
use Rattle.bench_sweep.specs.Lines.{or_length}
use Rattle.bench_sweep.specs.Outcomes.{told_in}
use Rattle.bench_sweep.specs.Reports.{told_behind, told_at_line, told_more, with_told}

-- how many lines stand before the first from a line on
abbrev pub before_line : ℕ → List Told → ℕ
before_line line ts = position_or_len (λ (t : Told). nat_le line t.line) ts

most_by : (b : Bool) (n k : ℕ) → n ≤ k → cond (not b) (1 + n) 0 ≤ suc k
most_by true n k l = omega arith
most_by false n k l = omega (arith, l)

before_most : (line : ℕ) (ts : List Told) → before_line line ts ≤ length ts
before_most line [] = omega arith
before_most line (t ∷ ts) = most_by (nat_le line t.line) (before_line line ts) (length ts) (before_most line ts)

found_by : (ts : List Told) (n : ℕ) (b : Bool) → nat_lt n (length ts) ≡ b → n ≤ length ts → or_length ts (cond b (Some n) None) ≡ n
found_by ts n true e l = refl
found_by ts n false e l = grind (arith, nat_tests)

pub found_at : (line : ℕ) (ts : List Told) → or_length ts (position (λ t. nat_le line t.line) ts) ≡ before_line line ts
found_at line ts = found_by ts (before_line line ts) (nat_lt (before_line line ts) (length ts)) refl (before_most line ts)

-- what stands at the place, and what before it
here : (b : Bool) (k : ℕ) → zero ≡ cond (not b) (1 + k) 0 → b ≡ true
here true k e = refl
here false k e = absurd (omega (arith, e))

behind : (b : Bool) (m k : ℕ) → suc m ≡ cond (not b) (1 + k) 0 → (b ≡ false) × (m ≡ k)
behind true m k e = absurd (omega (arith, e))
behind false m k e = (refl, omega (arith, e))

not_same : (a b : ℕ) (c : Bool) → (a == b) ≡ c → (a ≡ b → ⊥) → (a == b) ≡ false
not_same a b true e n = absurd (n (eqb-true a b e))
not_same a b false e n = e

with_here : (line : ℕ) (text : List ℕ) (t : ℕ × List ℕ) (ts : List (ℕ × List ℕ)) → nat_le line t.0 ≡ true → (t.0 == line) ≡ true → with_told line text (t ∷ ts) ≡ (line, t.1 ++ text ++ 10 ∷ []) ∷ ts
with_here line text t ts e f = rw (e, f) refl

with_before : (line : ℕ) (text : List ℕ) (t : ℕ × List ℕ) (ts : List (ℕ × List ℕ)) → nat_le line t.0 ≡ true → (t.0 == line) ≡ false → with_told line text (t ∷ ts) ≡ (line, text ++ 10 ∷ []) ∷ t ∷ ts
with_before line text t ts e f = rw (e, f) refl

with_behind : (line : ℕ) (text : List ℕ) (t : ℕ × List ℕ) (ts : List (ℕ × List ℕ)) → nat_le line t.0 ≡ false → with_told line text (t ∷ ts) ≡ t ∷ with_told line text ts
with_behind line text t ts e = rw e refl

-- behind what the line told before
pub added_there : (line : ℕ) (text : List ℕ) (ts : List Told) (n : ℕ) (x y : Told) → n ≡ before_line line ts → slice_get ts n ≡ Some x → x.line ≡ line → y.line ≡ x.line → string_bytes y.text ≡ string_bytes x.text ++ text ++ 10 ∷ [] → told_in (slice_set ts n y) ≡ with_told line text (told_in ts)
added_there line text [] n x y e g l m p = absurd (cc)
added_there line text (t ∷ ts) zero x y e g l m p =
    let a : nat_le line t.line ≡ true = here (nat_le line t.line) (before_line line ts) e in
    let s : t ≡ x = same_Some t x g in
    let k : t.line ≡ line = ap (λ (z : Told). z.line) s ∙ l in
    let v : string_bytes y.text ≡ string_bytes t.text ++ text ++ 10 ∷ [] = p ∙ ap (λ (z : Told). string_bytes z.text ++ text ++ 10 ∷ []) (sym s) in
    rw (m ∙ l, v) (sym (with_here line text (t.line, string_bytes t.text) (told_in ts) a (eq-eqb t.line line k)))
added_there line text (t ∷ ts) (suc n) x y e g l m p =
    let b : (nat_le line t.line ≡ false) × (n ≡ before_line line ts) = behind (nat_le line t.line) n (before_line line ts) e in
    ap (λ (zs : List (ℕ × List ℕ)). (t.line, string_bytes t.text) ∷ zs) (added_there line text ts n x y b.1 g l m p) ∙ sym (with_behind line text (t.line, string_bytes t.text) (told_in ts) b.0)

-- where the line told nothing before
pub added_new : (line : ℕ) (text : List ℕ) (ts : List Told) (n : ℕ) (y : Told) → n ≡ before_line line ts → (IsSomeAnd (slice_get ts n) (λ t. t.line ≡ line) → ⊥) → y.line ≡ line → string_bytes y.text ≡ text ++ 10 ∷ [] → told_in (insert ts n y) ≡ with_told line text (told_in ts)
added_new line text [] zero y e g l p = rw (l, p) refl
added_new line text [] (suc n) y e g l p = absurd (omega (arith, e))
added_new line text (t ∷ ts) zero y e g l p =
    let a : nat_le line t.line ≡ true = here (nat_le line t.line) (before_line line ts) e in
    rw (l, p) (sym (with_before line text (t.line, string_bytes t.text) (told_in ts) a (not_same t.line line (t.line == line) refl g)))
added_new line text (t ∷ ts) (suc n) y e g l p =
    let b : (nat_le line t.line ≡ false) × (n ≡ before_line line ts) = behind (nat_le line t.line) n (before_line line ts) e in
    ap (λ (zs : List (ℕ × List ℕ)). (t.line, string_bytes t.text) ∷ zs) (added_new line text ts n y b.1 g l p) ∙ sym (with_behind line text (t.line, string_bytes t.text) (told_in ts) b.0)

read_there : (line : ℕ) (o : Option Told) (x : Told) → IsSomeAnd o (λ t. t.line ≡ line) → ((t : Told) → o ≡ Some t → x ≡ t) → (o ≡ Some x) × (x.line ≡ line)
read_there line None x h k = absurd h
read_there line (Some t) x h k = (ap (λ (z : Told). Some z) (sym (k t refl)), ap (λ (z : Told). z.line) (k t refl) ∙ h)

-- what is read at the place where the line told something
pub there : (line : ℕ) (ts : List Told) (n : ℕ) (x : Told) → IsSomeAnd (slice_get ts n) (λ t. t.line ≡ line) → x ≡ get_or ts n x → (slice_get ts n ≡ Some x) × (x.line ≡ line)
there line ts n x h e = read_there line (slice_get ts n) x h (λ t g. e ∙ get_or_from_slice_get ts n t x g)

pub added_ok : {E : Type 0} (line : ℕ) (text : List ℕ) (ts : List Told) (n : ℕ) (x y : Told) (r : Result (Unit {0}) E) → n ≡ before_line line ts → (slice_get ts n ≡ Some x) × (x.line ≡ line) → y.line ≡ x.line → OnOk r (string_bytes y.text ≡ string_bytes x.text ++ text ++ 10 ∷ []) → OnOk r (told_in (slice_set ts n y) ≡ with_told line text (told_in ts))
added_ok line text ts n x y (Ok u) e h m p = added_there line text ts n x y e h.0 h.1 m p
added_ok line text ts n x y (Err f) e h m p = tt

-- what a report tells that has one line more
pub told_last : (lines : List ℕ) (told : List (ℕ × List ℕ)) (texts : List (List ℕ)) (text : List ℕ) → told_behind lines told (texts ++ text ∷ []) ≡ told_more (told_at_line lines text) (told_behind lines told texts)
told_last lines told [] text = refl
told_last lines told (t ∷ texts) text = told_last lines (told_more (told_at_line lines t) told) texts text

pub told_once_more : {A : Type 0} (lines : List ℕ) (text_of : A → List ℕ) (seen : List A) (x : A) (now next : List (ℕ × List ℕ)) → now ≡ told_behind lines [] (map text_of seen) → next ≡ told_more (told_at_line lines (text_of x)) now → next ≡ told_behind lines [] (map text_of (seen ++ x ∷ []))
told_once_more lines text_of seen x now next e f = rw (f, e, map-append text_of seen (x ∷ [])) (sym (told_last lines [] (map text_of seen) (text_of x)))

pub not_there : (r : Bool) (P : Type 0) → (P → r ≡ true) → r ≡ false → P → ⊥
not_there true P f e p = cc
not_there false P f e p = let h : false ≡ true = f p in cc
