-- The arguments of a service, in the grammar and as they are read.
use Rattle.std.proofs.Common.{◌≡◌, ℕ, List, [], ◌∷◌, length, Option, Some, None, Bool, true, false, refl, sym, ◌∙◌, ap, subst, inl, inr, arith, codes, cond, eq-eqb, eqb-true, le-leb}
use Rattle.std.specs.Prelude.{Ok, Err, bytes_eq, nat_le, ◌==◌}
use Rattle.std.proofs.lemmas.Bool.{leb-true}
use Rattle.std.proofs.lemmas.Slice.Eq.{bytes_eq-Decides}
use Rattle.mcal_base.specs.Names.{service_text, argument_text}
use Rattle.mcal_base.specs.declared.argument_name.ArgumentName.{ArgumentName}
use Rattle.mcal_base.specs.declared.argument_name.ArgumentName.TheVariants as names
use Rattle.mcal_base.specs.declared.directive.Argument.{Argument}
use Rattle.mcal_base.specs.declared.directive.Argument.TheVariants as values
use Rattle.mcal_base.specs.declared.directive.Request.{Request}
use Rattle.mcal_base.specs.declared.service.Service.{Service}
use Rattle.bench_script.specs.Arguments.{argument, arguments, known, name, buffer_of, buffer}
use Rattle.bench_script.specs.Numbers.{numeral, number_up_to}
use Rattle.bench_script.specs.Orders.{choice, request, request_to, request_by_name}
use Rattle.bench_script.specs.Productions.{IsOneOf, IsArgument, AreArguments, IsRequest}
use Rattle.bench_script.specs.Steps.{◌>>=◌}
use Rattle.bench_script.specs.Tables.{names_of, arguments_of}
use Rattle.bench_script.specs.Words.{named, all_services}
use Rattle.bench_script.specs.declared.fault.LineFault.TheVariants as faults
use Rattle.bench_script.specs.declared.tables.Kind.{Kind}
use Rattle.bench_script.specs.declared.tables.Kind.TheVariants as kinds
use Rattle.bench_script.specs.declared.tables.NameSet.{NameSet}
use Rattle.bench_script.proofs.Parsed.{bind_ok, number_is, number_again, choice_is}
use Rattle.bench_script.proofs.Choices.{service_again, name_again}

-- a name is one of its set
name_more : (word : List ℕ) (y : ArgumentName) (ys : List ArgumentName) (x : ArgumentName) (b : Bool) → bytes_eq (argument_text y) word ≡ b → cond b (Some y) (named argument_text ys word) ≡ Some x → (named argument_text ys word ≡ Some x → IsOneOf ys x × (word ≡ argument_text x)) → IsOneOf (y ∷ ys) x × (word ≡ argument_text x)
name_more word y ys x true e h ih =
    let s : y ≡ x = cc in
    let spelled : argument_text y ≡ word = (bytes_eq-Decides (argument_text y) word).0 e in
    subst (λ (z : ArgumentName). IsOneOf (y ∷ ys) z × (word ≡ argument_text z)) s (inl refl, sym spelled)
name_more word y ys x false e h ih = let p = ih h in (inr p.0, p.1)

name_found : (xs : List ArgumentName) (word : List ℕ) (x : ArgumentName) → named argument_text xs word ≡ Some x → IsOneOf xs x × (word ≡ argument_text x)
name_found [] word x h = cc
name_found (y ∷ ys) word x h = name_more word y ys x _ refl h (name_found ys word x)

name_is : (set : NameSet) (x : Argument) (word : List ℕ) (o : Option ArgumentName) → named argument_text (names_of set) word ≡ o → known o ≡ Ok x → IsArgument (kinds.Name set) x word
name_is set x word None e h = cc
name_is set x word (Some n) e h = let s : values.Name n ≡ x = cc in subst (λ (a : Argument). IsArgument (kinds.Name set) a word) s (name_found (names_of set) word n e)

-- a result buffer
buffer_number : (n : ℕ) (x : Argument) (word : List ℕ) (b : Bool) → nat_le n 1 ≡ b → cond b (Ok (values.Number n)) (Err faults.Number) ≡ Ok x → numeral word ≡ Some n → IsArgument kinds.Buffer x word
buffer_number n x word true t h e = let s : values.Number n ≡ x = cc in subst (λ (a : Argument). IsArgument kinds.Buffer a word) s (record { spelled = e; below = leb-true _ _ t })
buffer_number n x word false t h e = cc

buffer_null : (x : Argument) (word : List ℕ) (b : Bool) → bytes_eq word (codes "null") ≡ b → cond b (Ok (values.Name names.Null)) (Err faults.Word) ≡ Ok x → IsArgument kinds.Buffer x word
buffer_null x word true t h = let s : values.Name names.Null ≡ x = cc in subst (λ (a : Argument). IsArgument kinds.Buffer a word) s (refl, (bytes_eq-Decides word (codes "null")).0 t)
buffer_null x word false t h = cc

buffer_is : (x : Argument) (word : List ℕ) (o : Option ℕ) → numeral word ≡ o → buffer_of o word ≡ Ok x → IsArgument kinds.Buffer x word
buffer_is x word None e h = buffer_null x word _ refl h
buffer_is x word (Some n) e h = buffer_number n x word _ refl h e

argument_is : (kind : Kind) (x : Argument) (word : List ℕ) → argument kind word ≡ Ok x → IsArgument kind x word
argument_is (kinds.Number most) x word h =
    let a = bind_ok (number_up_to most word) (λ (n : ℕ). Ok (values.Number n)) x h in
    let e : values.Number a.0 ≡ x = cc in
    subst (λ (y : Argument). IsArgument (kinds.Number most) y word) e (number_is most a.0 word a.1)
argument_is (kinds.Name set) x word h = name_is set x word _ refl h
argument_is kinds.Buffer x word h = buffer_is x word (numeral word) refl h

argument_again : (kind : Kind) (x : Argument) (word : List ℕ) → IsArgument kind x word → argument kind word ≡ Ok x
argument_again (kinds.Number most) (values.Number n) word h = rw (number_again most n word h) refl
argument_again (kinds.Number most) (values.Name n) word h = absurd h
argument_again (kinds.Name set) (values.Number n) word h = absurd h
argument_again (kinds.Name set) (values.Name n) word h = ap (name set) h.1 ∙ name_again set n h.0
argument_again kinds.Buffer (values.Number n) word h = rw h.spelled (rw (le-leb n 1 h.below) refl)
argument_again kinds.Buffer (values.Name n) word h = ap buffer h.1 ∙ rw h.0 refl

-- all of them
arguments_is : (ks : List Kind) (xs : List Argument) (words : List (List ℕ)) → length words ≡ length ks → arguments ks words ≡ Ok xs → AreArguments ks xs words
arguments_is [] xs [] l h = let e : [] ≡ xs = cc in subst (λ (ys : List Argument). AreArguments [] ys []) e tt
arguments_is [] xs (word ∷ words) l h = absurd (omega arith)
arguments_is (k ∷ ks) xs [] l h = absurd (omega arith)
arguments_is (k ∷ ks) xs (word ∷ words) l h =
    let a = bind_ok (argument k word) (λ (x : Argument). arguments ks words >>= (λ (others : List Argument). Ok (x ∷ others))) xs h in
    let b = bind_ok (arguments ks words) (λ (others : List Argument). Ok (a.0 ∷ others)) xs a.2 in
    let e : a.0 ∷ b.0 ≡ xs = cc in
    subst (λ (ys : List Argument). AreArguments (k ∷ ks) ys (word ∷ words)) e (argument_is k a.0 word a.1, arguments_is ks b.0 words (omega arith) b.1)

arguments_again : (ks : List Kind) (xs : List Argument) (words : List (List ℕ)) → AreArguments ks xs words → arguments ks words ≡ Ok xs
arguments_again [] [] [] h = refl
arguments_again [] [] (word ∷ words) h = absurd h
arguments_again [] (x ∷ xs) words h = absurd h
arguments_again (k ∷ ks) [] words h = absurd h
arguments_again (k ∷ ks) (x ∷ xs) [] h = absurd h
arguments_again (k ∷ ks) (x ∷ xs) (word ∷ words) h = rw (argument_again k x word h.0, arguments_again ks xs words h.1) refl

arguments_count : (ks : List Kind) (xs : List Argument) (words : List (List ℕ)) → AreArguments ks xs words → length words ≡ length ks
arguments_count [] [] [] h = refl
arguments_count [] [] (word ∷ words) h = absurd h
arguments_count [] (x ∷ xs) words h = absurd h
arguments_count (k ∷ ks) [] words h = absurd h
arguments_count (k ∷ ks) (x ∷ xs) [] h = absurd h
arguments_count (k ∷ ks) (x ∷ xs) (word ∷ words) h = let c = arguments_count ks xs words h.1 in omega arith

-- requests
request_to_is : (service : Service) (p : ℕ × Request) (level : List ℕ) (words : List (List ℕ)) (b : Bool) → (length words == length (arguments_of service)) ≡ b
    → cond b (number_up_to 7 level >>= (λ (l : ℕ). arguments (arguments_of service) words >>= (λ (given : List Argument). Ok (l, record { service = service; arguments = given })))) (Err faults.Count) ≡ Ok p
    → IsRequest p.0 p.1 (level ∷ service_text service ∷ words)
request_to_is service p level words false e h = cc
request_to_is service p level words true e h =
    let a = bind_ok (number_up_to 7 level) (λ (l : ℕ). arguments (arguments_of service) words >>= (λ (given : List Argument). Ok (l, record { service = service; arguments = given }))) p h in
    let b = bind_ok (arguments (arguments_of service) words) (λ (given : List Argument). Ok (a.0, record { service = service; arguments = given })) p a.2 in
    let e' : (a.0, record { service = service; arguments = b.0 }) ≡ p = cc in
    subst (λ (q : ℕ × Request). IsRequest q.0 q.1 (level ∷ service_text service ∷ words)) e'
    (record { first = level; others = words; spelled = refl; level_is = number_is 7 a.0 level a.1; arguments_are = arguments_is (arguments_of service) b.0 words (eqb-true _ _ e) b.1 })

request_by_name_is : (p : ℕ × Request) (level called : List ℕ) (words : List (List ℕ)) → request_by_name level called words ≡ Ok p → IsRequest p.0 p.1 (level ∷ called ∷ words)
request_by_name_is p level called words h =
    let a = bind_ok (choice service_text all_services called) (λ (s : Service). request_to s level words) p h in
    subst (λ (t : List ℕ). IsRequest p.0 p.1 (level ∷ t ∷ words)) (choice_is service_text all_services called a.0 a.1) (request_to_is a.0 p level words _ refl a.2)

pub request_is : (p : ℕ × Request) (words : List (List ℕ)) → request words ≡ Ok p → IsRequest p.0 p.1 words
request_is p [] h = cc
request_is p (level ∷ []) h = cc
request_is p (level ∷ called ∷ words) h = request_by_name_is p level called words h

pub request_again : (level : ℕ) (r : Request) (words : List (List ℕ)) → IsRequest level r words → request words ≡ Ok (level, r)
request_again level r words h =
    let count = eq-eqb _ _ (arguments_count (arguments_of r.service) r.arguments h.others h.arguments_are) in
    ap request h.spelled ∙ rw (service_again r.service) (rw (count, number_again 7 level h.first h.level_is, arguments_again (arguments_of r.service) r.arguments h.others h.arguments_are) refl)
