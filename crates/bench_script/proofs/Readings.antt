-- A line in the grammar, and as it is read.
use Rattle.std.proofs.Common.{◌≡◌, ℕ, zero, suc, ◌≤◌, List, [], ◌∷◌, Some, true, false, refl, sym, ◌∙◌, ap, subst, codes, arith}
use Rattle.std.specs.Prelude.{Ok, ◌==◌}
use Rattle.mcal_base.specs.declared.directive.Order.{Order}
use Rattle.mcal_base.specs.declared.directive.Order.TheVariants.{Call, Do, Enter, Serve, Run, Upto, Finish, Tick, Level, Analog, Trigger, Miso, SpiFault, Detach, Fill, Reset, Show}
use Rattle.mcal_base.specs.declared.directive.Request.{Request}
use Rattle.mcal_base.specs.declared.directive.Reason.{Reason}
use Rattle.mcal_base.specs.declared.directive.Reason.TheVariants as reasons
use Rattle.mcal_base.specs.declared.directive.Shown.{Shown}
use Rattle.mcal_base.specs.declared.directive.Stop.{Stop}
use Rattle.bench_script.specs.Orders.{choice, one_of, one, two, several, request, nothing, order_by_keyword, order_by_word, order_of}
use Rattle.bench_script.specs.Productions.{IsOrderAfter, IsOrder, IsTwo, first_word, level_number}
use Rattle.bench_script.specs.Words.{keyword_text, all_keywords, stop_text, all_stops, shown_text, all_shown, reason_text, all_reasons}
use Rattle.bench_script.specs.declared.words.Keyword.{Keyword}
use Rattle.bench_script.specs.declared.words.Keyword.TheVariants as keywords
use Rattle.bench_script.proofs.Choices.{stop_again, shown_again}
use Rattle.bench_script.proofs.Parsed.{bind_ok, choice_is, one_is, one_again, two_is, two_again, several_is, several_again}
use Rattle.bench_script.proofs.Requests.{request_is, request_again}

-- a word out of some choices
one_of_is : {T : Type 0} (spelling : T → List ℕ) (xs : List T) (x : T) (words : List (List ℕ)) → one_of spelling xs words ≡ Ok x → words ≡ spelling x ∷ []
one_of_is spelling xs x [] h = cc
one_of_is spelling xs x (word ∷ []) h = ap (λ (w : List ℕ). w ∷ []) (sym (choice_is spelling xs word x h))
one_of_is spelling xs x (word ∷ next ∷ words) h = cc

reset_is : (r : Reason) (words : List (List ℕ)) → one_of reason_text all_reasons words ≡ Ok r → IsOrderAfter (Reset r) words
reset_is reasons.PowerOn words h = one_of_is reason_text all_reasons reasons.PowerOn words h
reset_is reasons.Watchdog words h = one_of_is reason_text all_reasons reasons.Watchdog words h
reset_is reasons.Software words h =
    let e = one_of_is reason_text all_reasons reasons.Software words h in
    let none : one_of reason_text all_reasons (codes "software" ∷ []) ≡ Ok reasons.Software = rw e at h in
    cc

nothing_is : (u : Unit {0}) (words : List (List ℕ)) → nothing words ≡ Ok u → words ≡ []
nothing_is u [] h = refl
nothing_is u (word ∷ words) h = cc

-- the number of a level
level_value : (n : ℕ) → n ≤ 1 → level_number (n == 1) ≡ n
level_value zero h = refl
level_value (suc zero) h = refl
level_value (suc (suc n)) h = absurd (omega arith)

level_is : (pin n : ℕ) (words : List (List ℕ)) → IsTwo 63 1 pin n words → IsOrderAfter (Level pin (n == 1)) words
level_is pin n words h = subst (λ (k : ℕ). IsTwo 63 1 pin k words) (sym (level_value n h.number_next.below)) h

-- what is read is in the grammar
order_after_is : (k : Keyword) (o : Order) (words : List (List ℕ)) → order_by_keyword k words ≡ Ok o → (keyword_text k ≡ first_word o) × IsOrderAfter o words
order_after_is keywords.Call o words h =
    let a = bind_ok (request words) (λ (p : ℕ × Request). Ok (Call p.0 p.1)) o h in
    let e : Call a.0.0 a.0.1 ≡ o = cc in
    subst (λ (x : Order). (keyword_text keywords.Call ≡ first_word x) × IsOrderAfter x words) e (refl, request_is a.0 words a.1)
order_after_is keywords.Do o words h =
    let a = bind_ok (request words) (λ (p : ℕ × Request). Ok (Do p.0 p.1)) o h in
    let e : Do a.0.0 a.0.1 ≡ o = cc in
    subst (λ (x : Order). (keyword_text keywords.Do ≡ first_word x) × IsOrderAfter x words) e (refl, request_is a.0 words a.1)
order_after_is keywords.Enter o words h =
    let a = bind_ok (one 31 words) (λ (n : ℕ). Ok (Enter n)) o h in
    let e : Enter a.0 ≡ o = cc in
    subst (λ (x : Order). (keyword_text keywords.Enter ≡ first_word x) × IsOrderAfter x words) e (refl, one_is 31 a.0 words a.1)
order_after_is keywords.Serve o words h =
    let a = bind_ok (one 31 words) (λ (n : ℕ). Ok (Serve n)) o h in
    let e : Serve a.0 ≡ o = cc in
    subst (λ (x : Order). (keyword_text keywords.Serve ≡ first_word x) × IsOrderAfter x words) e (refl, one_is 31 a.0 words a.1)
order_after_is keywords.Run o words h =
    let a = bind_ok (one 4294967295 words) (λ (n : ℕ). Ok (Run n)) o h in
    let e : Run a.0 ≡ o = cc in
    subst (λ (x : Order). (keyword_text keywords.Run ≡ first_word x) × IsOrderAfter x words) e (refl, one_is 4294967295 a.0 words a.1)
order_after_is keywords.Upto o words h =
    let a = bind_ok (one_of stop_text all_stops words) (λ (s : Stop). Ok (Upto s)) o h in
    let e : Upto a.0 ≡ o = cc in
    subst (λ (x : Order). (keyword_text keywords.Upto ≡ first_word x) × IsOrderAfter x words) e (refl, one_of_is stop_text all_stops a.0 words a.1)
order_after_is keywords.Finish o words h =
    let a = bind_ok (nothing words) (λ (u : Unit {0}). Ok (Finish)) o h in
    let e : Finish ≡ o = cc in
    subst (λ (x : Order). (keyword_text keywords.Finish ≡ first_word x) × IsOrderAfter x words) e (refl, nothing_is a.0 words a.1)
order_after_is keywords.Tick o words h =
    let a = bind_ok (one 1000000 words) (λ (n : ℕ). Ok (Tick n)) o h in
    let e : Tick a.0 ≡ o = cc in
    subst (λ (x : Order). (keyword_text keywords.Tick ≡ first_word x) × IsOrderAfter x words) e (refl, one_is 1000000 a.0 words a.1)
order_after_is keywords.Level o words h =
    let a = bind_ok (two 63 1 words) (λ (p : ℕ × ℕ). Ok (Level p.0 (p.1 == 1))) o h in
    let e : Level a.0.0 (a.0.1 == 1) ≡ o = cc in
    subst (λ (x : Order). (keyword_text keywords.Level ≡ first_word x) × IsOrderAfter x words) e (refl, level_is a.0.0 a.0.1 words (two_is 63 1 a.0 words a.1))
order_after_is keywords.Analog o words h =
    let a = bind_ok (two 31 4095 words) (λ (p : ℕ × ℕ). Ok (Analog p.0 p.1)) o h in
    let e : Analog a.0.0 a.0.1 ≡ o = cc in
    subst (λ (x : Order). (keyword_text keywords.Analog ≡ first_word x) × IsOrderAfter x words) e (refl, two_is 31 4095 a.0 words a.1)
order_after_is keywords.Trigger o words h =
    let a = bind_ok (one 3 words) (λ (n : ℕ). Ok (Trigger n)) o h in
    let e : Trigger a.0 ≡ o = cc in
    subst (λ (x : Order). (keyword_text keywords.Trigger ≡ first_word x) × IsOrderAfter x words) e (refl, one_is 3 a.0 words a.1)
order_after_is keywords.Miso o words h =
    let a = bind_ok (several 1 65535 words) (λ (p : ℕ × List ℕ). Ok (Miso p.0 p.1)) o h in
    let e : Miso a.0.0 a.0.1 ≡ o = cc in
    subst (λ (x : Order). (keyword_text keywords.Miso ≡ first_word x) × IsOrderAfter x words) e (refl, several_is 1 65535 a.0 words a.1)
order_after_is keywords.SpiFault o words h =
    let a = bind_ok (one 1 words) (λ (n : ℕ). Ok (SpiFault n)) o h in
    let e : SpiFault a.0 ≡ o = cc in
    subst (λ (x : Order). (keyword_text keywords.SpiFault ≡ first_word x) × IsOrderAfter x words) e (refl, one_is 1 a.0 words a.1)
order_after_is keywords.Detach o words h =
    let a = bind_ok (nothing words) (λ (u : Unit {0}). Ok (Detach)) o h in
    let e : Detach ≡ o = cc in
    subst (λ (x : Order). (keyword_text keywords.Detach ≡ first_word x) × IsOrderAfter x words) e (refl, nothing_is a.0 words a.1)
order_after_is keywords.Fill o words h =
    let a = bind_ok (several 4294967295 4294967295 words) (λ (p : ℕ × List ℕ). Ok (Fill p.0 p.1)) o h in
    let e : Fill a.0.0 a.0.1 ≡ o = cc in
    subst (λ (x : Order). (keyword_text keywords.Fill ≡ first_word x) × IsOrderAfter x words) e (refl, several_is 4294967295 4294967295 a.0 words a.1)
order_after_is keywords.Reset o words h =
    let a = bind_ok (one_of reason_text all_reasons words) (λ (r : Reason). Ok (Reset r)) o h in
    let e : Reset a.0 ≡ o = cc in
    subst (λ (x : Order). (keyword_text keywords.Reset ≡ first_word x) × IsOrderAfter x words) e (refl, reset_is a.0 words a.1)
order_after_is keywords.Show o words h =
    let a = bind_ok (one_of shown_text all_shown words) (λ (s : Shown). Ok (Show s)) o h in
    let e : Show a.0 ≡ o = cc in
    subst (λ (x : Order). (keyword_text keywords.Show ≡ first_word x) × IsOrderAfter x words) e (refl, one_of_is shown_text all_shown a.0 words a.1)

pub read_is : (words : List (List ℕ)) (order : Order) → order_of words ≡ Ok (Some order) → IsOrder order words
read_is [] order h = cc
read_is (word ∷ words) order h =
    let a = bind_ok (order_by_word word words) (λ (o : Order). Ok (Some o)) (Some order) h in
    let b = bind_ok (choice keyword_text all_keywords word) (λ (k : Keyword). order_by_keyword k words) a.0 a.1 in
    let spelled = choice_is keyword_text all_keywords word b.0 b.1 in
    let given = order_after_is b.0 a.0 words b.2 in
    let e : a.0 ≡ order = cc in
    subst (λ (o : Order). IsOrder o (word ∷ words)) e (record { after = words; spelled = ap (λ (w : List ℕ). w ∷ words) (sym spelled ∙ given.0); given = given.1 })

-- what is in the grammar is read
pub read_again : (words : List (List ℕ)) (order : Order) → IsOrder order words → order_of words ≡ Ok (Some order)
read_again words (Call level r) h = ap order_of h.spelled ∙ rw (request_again level r h.after h.given) refl
read_again words (Do level r) h = ap order_of h.spelled ∙ rw (request_again level r h.after h.given) refl
read_again words (Enter n) h = ap order_of h.spelled ∙ rw (one_again 31 n h.after h.given) refl
read_again words (Serve n) h = ap order_of h.spelled ∙ rw (one_again 31 n h.after h.given) refl
read_again words (Run n) h = ap order_of h.spelled ∙ rw (one_again 4294967295 n h.after h.given) refl
read_again words (Upto s) h = ap order_of h.spelled ∙ rw h.given (rw (stop_again s) refl)
read_again words Finish h = ap order_of h.spelled ∙ rw h.given refl
read_again words (Tick n) h = ap order_of h.spelled ∙ rw (one_again 1000000 n h.after h.given) refl
read_again words (Level pin true) h = ap order_of h.spelled ∙ rw (two_again 63 1 pin 1 h.after h.given) refl
read_again words (Level pin false) h = ap order_of h.spelled ∙ rw (two_again 63 1 pin 0 h.after h.given) refl
read_again words (Analog input value) h = ap order_of h.spelled ∙ rw (two_again 31 4095 input value h.after h.given) refl
read_again words (Trigger n) h = ap order_of h.spelled ∙ rw (one_again 3 n h.after h.given) refl
read_again words (Miso unit ns) h = ap order_of h.spelled ∙ rw (several_again 1 65535 unit ns h.after h.given) refl
read_again words (SpiFault n) h = ap order_of h.spelled ∙ rw (one_again 1 n h.after h.given) refl
read_again words Detach h = ap order_of h.spelled ∙ rw h.given refl
read_again words (Fill channel ns) h = ap order_of h.spelled ∙ rw (several_again 4294967295 4294967295 channel ns h.after h.given) refl
read_again words (Reset reasons.PowerOn) h = ap order_of h.spelled ∙ rw h.given refl
read_again words (Reset reasons.Watchdog) h = ap order_of h.spelled ∙ rw h.given refl
read_again words (Reset reasons.Software) h = absurd h.given
read_again words (Show s) h = ap order_of h.spelled ∙ rw h.given (rw (shown_again s) refl)
