-- A whole script in the grammar, and as it is read.
use Rattle.std.proofs.Common.{◌≡◌, ℕ, suc, ◌+◌, ◌≤◌, List, [], ◌∷◌, length, Option, Some, None, Bool, true, false, refl, sym, ap, subst, inl, inr, arith, cond, lt-ltb, ltb-true}
use Rattle.std.specs.Prelude.{Result, Ok, Err, nat_lt}
use Rattle.std.specs.Str.Lines.{lines}
use Rattle.mcal_base.specs.declared.directive.Directive.{Directive}
use Rattle.mcal_base.specs.declared.directive.Order.{Order}
use Rattle.bench_script.specs.Lines.{before_comment, is_text, words_of}
use Rattle.bench_script.specs.Orders.{order_of, order_by_word}
use Rattle.bench_script.specs.Productions.{HoldsOrder, HoldDirectives, IsScript}
use Rattle.bench_script.specs.Script.{read_line, numbered, with_rest, directives_from, script}
use Rattle.bench_script.specs.Steps.{◌>>=◌}
use Rattle.bench_script.specs.declared.fault.LineFault.{LineFault}
use Rattle.bench_script.specs.declared.fault.LineFault.TheVariants.{NotText}
use Rattle.bench_script.specs.declared.fault.ScriptFault.TheVariants.{Long}
use Rattle.bench_script.proofs.Parsed.{bind_ok}
use Rattle.bench_script.proofs.Readings.{read_is, read_again}

-- a line
numbered_is : (number : ℕ) (r : Result (Option Order) LineFault) (o : Option Order) → numbered number r ≡ Ok o → r ≡ Ok o
numbered_is number (Ok p) o h = cc
numbered_is number (Err e) o h = cc

plain_is : (line : List ℕ) (o : Option Order) (b : Bool) → is_text (before_comment line) ≡ b → cond b (order_of (words_of (before_comment line))) (Err NotText) ≡ Ok o → (is_text (before_comment line) ≡ true) × (order_of (words_of (before_comment line)) ≡ Ok o)
plain_is line o true e h = (e, h)
plain_is line o false e h = cc

line_is : (number : ℕ) (line : List ℕ) (o : Option Order) → numbered number (read_line line) ≡ Ok o → (is_text (before_comment line) ≡ true) × (order_of (words_of (before_comment line)) ≡ Ok o)
line_is number line o h = plain_is line o _ refl (numbered_is number (read_line line) o h)

no_words : (words : List (List ℕ)) → order_of words ≡ Ok None → words ≡ []
no_words [] h = refl
no_words (word ∷ words) h = let a = bind_ok (order_by_word word words) (λ (o : Order). Ok (Some o)) None h in cc

-- what is read is in the grammar
pub record Holds (number count : ℕ) (ls : List (List ℕ)) (ds : List Directive) : Type 0 where
  pub hold : HoldDirectives number ls ds
  pub few : count ≤ 50000 → count + length ds ≤ 50000

hold_order : (number count : ℕ) (line : List ℕ) (ls : List (List ℕ)) (ds : List Directive) (order : Order) (b : Bool) → nat_lt count 50000 ≡ b → HoldsOrder line order
    → cond b (directives_from (number + 1) (count + 1) ls >>= (λ (es : List Directive). Ok (record { line = number; order = order } ∷ es))) (Err (Long number)) ≡ Ok ds
    → ((n : ℕ) (es : List Directive) → directives_from (number + 1) n ls ≡ Ok es → Holds (number + 1) n ls es) → Holds number count (line ∷ ls) ds
hold_order number count line ls ds order false t held h rest = cc
hold_order number count line ls ds order true t held h rest =
    let a = bind_ok (directives_from (number + 1) (count + 1) ls) (λ (es : List Directive). Ok (record { line = number; order = order } ∷ es)) ds h in
    let e : record { line = number; order = order } ∷ a.0 ≡ ds = cc in
    let r = rest (count + 1) a.0 a.1 in
    let below = ltb-true _ _ t in
    subst (λ (xs : List Directive). Holds number count (line ∷ ls) xs) e
    (record { hold = inr (order, a.0, refl, held, r.hold); few = λ _. let f = r.few (omega arith) in omega arith })

hold_more : (number count : ℕ) (line : List ℕ) (ls : List (List ℕ)) (ds : List Directive) (o : Option Order) → numbered number (read_line line) ≡ Ok o → with_rest number count (λ n. directives_from (number + 1) n ls) o ≡ Ok ds
    → ((n : ℕ) (es : List Directive) → directives_from (number + 1) n ls ≡ Ok es → Holds (number + 1) n ls es) → Holds number count (line ∷ ls) ds
hold_more number count line ls ds None e h rest =
    let l = line_is number line None e in
    let r = rest count ds h in
    record { hold = inl (record { plain = l.0; none = no_words _ l.1 }, r.hold); few = r.few }
hold_more number count line ls ds (Some order) e h rest =
    let l = line_is number line (Some order) e in
    hold_order number count line ls ds order _ refl (record { plain = l.0; is = read_is (words_of (before_comment line)) order l.1 }) h rest

holds : (number count : ℕ) (ls : List (List ℕ)) (ds : List Directive) → directives_from number count ls ≡ Ok ds → Holds number count ls ds
holds number count [] ds h = let e : [] ≡ ds = cc in subst (λ (xs : List Directive). Holds number count [] xs) e (record { hold = tt; few = λ small. omega arith })
holds number count (line ∷ ls) ds h =
    let a = bind_ok (numbered number (read_line line)) (with_rest number count (λ (n : ℕ). directives_from (number + 1) n ls)) ds h in
    hold_more number count line ls ds a.0 a.1 a.2 (λ n es k. holds (number + 1) n ls es k)

pub script_is : (text : List ℕ) (ds : List Directive) → script text ≡ Ok ds → IsScript ds text
script_is text ds h = let r = holds 1 0 (lines text) ds h in record { hold = r.hold; few = let f = r.few (omega arith) in omega arith }

-- what is in the grammar is read
directives_again : (number count : ℕ) (ls : List (List ℕ)) (ds : List Directive) → HoldDirectives number ls ds → count + length ds ≤ 50000 → directives_from number count ls ≡ Ok ds
directives_again number count [] [] h few = refl
directives_again number count [] (d ∷ ds) h few = absurd h
directives_again number count (line ∷ ls) ds (inl h) few = rw h.0.plain (rw h.0.none (directives_again (number + 1) count ls ds h.1 few))
directives_again number count (line ∷ ls) ds (inr h) few =
    let count_one : length ds ≡ suc (length h.1) = ap length h.2 in
    let below = lt-ltb count 50000 (omega arith) in
    let rest = directives_again (number + 1) (count + 1) ls h.1 h.4 (omega arith) in
    rw h.3.plain (rw (read_again (words_of (before_comment line)) h.0 h.3.is) (rw below (rw rest (ap (λ (xs : List Directive). Ok xs) (sym h.2)))))

pub script_again : (text : List ℕ) (ds : List Directive) → IsScript ds text → script text ≡ Ok ds
script_again text ds h = directives_again 1 0 (lines text) ds h.hold (omega (arith, h.few))
