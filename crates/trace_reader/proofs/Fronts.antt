-- What a text begins with: a word, a number, a register.
use Rattle.std.proofs.Common.{◌≡◌, ℕ, ◌+◌, ◌-◌, ◌*◌, ◌<◌, ◌≤◌, ◌/◌, ◌%◌, List, [], ◌∷◌, ◌++◌, length, get_or, take, drop, true, false, Option, Some, None, sym, ◌∙◌, ap, append_assoc, arith}
use Rattle.std.specs.Prelude.{IfSome, MatchOption, bytes_eq, codes, decimal}
use Rattle.std.specs.Char.{is_ascii_digit}
use Rattle.std.specs.Option.{option_or}
use Rattle.std.proofs.lemmas.Bool.Decides.{nat_tests}
use Rattle.std.proofs.lemmas.Fmt.{decimal_digit, decimal_step}
use Rattle.std.proofs.lemmas.List.{append-nil, take-append-drop, take_rest}
use Rattle.std.proofs.lemmas.List.Elements.{All-cons, All-nil}
use Rattle.std.proofs.lemmas.Slice.Eq.{bytes_eq-Decides}
use Rattle.mcal_base.specs.declared.register.Reg.{Reg}
use Rattle.bench_report.specs.Numbers.{HasNumbers}
use Rattle.bench_report.specs.Registers.{register_text}
use Rattle.trace_reader.specs.Scan.{AreSpelled, IsFirst, IsNamed, IsSpelled, Spells}
use Rattle.trace_reader.specs.declared.front.Named.{Named}

-- ---- the front of a text

front_is : (text word : List ℕ) → bytes_eq (take (length word) text) word ≡ true → text ≡ word ++ drop (length word) text
front_is text word h =
    let same : take (length word) text ≡ word = (bytes_eq-Decides (take (length word) text) word).0 h in
    sym (take-append-drop (length word) text) ∙ ap (λ (bs : List ℕ). bs ++ drop (length word) text) same

-- what is behind a word, as it is cut off
pub behind_is : {W : Type 0} (now : W → List ℕ) (text word bytes : List ℕ) (o : Option W) → bytes ≡ word
    → MatchOption o (bytes_eq (take (length bytes) text) bytes ≡ false) (λ x. (bytes_eq (take (length bytes) text) bytes ≡ true) × (now x ≡ drop (length bytes) text) × (length (now x) + length bytes ≡ length text))
    → IfSome o (λ x. text ≡ word ++ now x)
behind_is now text word bytes None e h = tt
behind_is now text word bytes (Some x) e h = front_is text bytes h.0 ∙ (ap (λ (bs : List ℕ). bs ++ drop (length bytes) text) e ∙ ap (λ (bs : List ℕ). word ++ bs) (sym h.1))

-- the first byte, and those behind it
pub first_byte : (text : List ℕ) (other : ℕ) → 1 ≤ length text → text ≡ get_or text 0 other ∷ take (length text - 1) (drop 1 text)
first_byte [] other some = absurd (omega arith)
first_byte (b ∷ bs) other some = ap (λ (more : List ℕ). b ∷ more) (sym (take_rest (b ∷ bs) 1))

-- ---- digits

next_parts : (n d : ℕ) → d < 10 → ((n * 10 + d) / 10 ≡ n) × ((n * 10 + d) % 10 ≡ d)
next_parts n d less = (omega arith, omega arith)

-- one more digit behind a number
next_digit : (n d : ℕ) → 0 < n → d < 10 → n * 10 + d < 4294967296 → decimal (n * 10 + d) ≡ decimal n ++ ((48 + d) ∷ [])
next_digit n d some less small =
    let parts = next_parts n d less in
    decimal_step (n * 10 + d) (omega arith) (omega arith) ∙ ap (λ (k : ℕ). decimal k ++ ((48 + (n * 10 + d) % 10) ∷ [])) parts.0 ∙ ap (λ (k : ℕ). decimal n ++ ((48 + k) ∷ [])) parts.1

more_digits : (n d b : ℕ) (front rest : List ℕ) → 0 < n → d < 10 → n * 10 + d < 4294967296 → b ≡ 48 + d → front ≡ decimal n ++ (b ∷ rest) → front ≡ decimal (n * 10 + d) ++ rest
more_digits n d b front rest some less small is e =
    e ∙ (ap (λ (x : ℕ). decimal n ++ (x ∷ rest)) is ∙ (sym (append_assoc (decimal n) ((48 + d) ∷ []) rest) ∙ ap (λ (bs : List ℕ). bs ++ rest) (sym (next_digit n d some less small))))

digit_least : (b : ℕ) → is_ascii_digit b ≡ true → 48 ≤ b
digit_least b h = grind (arith, nat_tests)

digit_most : (b : ℕ) → is_ascii_digit b ≡ true → b ≤ 57
digit_most b h = grind (arith, nat_tests)

-- the same where a text goes on with the digit
pub digits_on : (n : ℕ) (front text : List ℕ) (other : ℕ) → 0 < n → 1 ≤ length text → is_ascii_digit (get_or text 0 other) ≡ true → n * 10 + (get_or text 0 other - 48) < 4294967296 → front ≡ decimal n ++ text
    → front ≡ decimal (n * 10 + (get_or text 0 other - 48)) ++ take (length text - 1) (drop 1 text)
digits_on n front text other some filled digit small e =
    let least = digit_least (get_or text 0 other) digit in
    let most = digit_most (get_or text 0 other) digit in
    more_digits n (get_or text 0 other - 48) (get_or text 0 other) front (take (length text - 1) (drop 1 text)) some (omega arith) small (omega arith) (e ∙ ap (λ (bs : List ℕ). decimal n ++ bs) (first_byte text other filled))

-- a 0 stands alone
pub zero_alone : (b : ℕ) (rest : List ℕ) → b ≡ 48 → IsFirst (b ∷ rest) 0 rest
zero_alone b rest is = record { text = ap (λ (x : ℕ). x ∷ rest) is ∙ ap (λ (ds : List ℕ). ds ++ rest) (sym (decimal_digit 0 (omega arith))); fits = omega arith }

-- another digit is the number of it alone
pub digit_alone : (b : ℕ) (rest : List ℕ) → is_ascii_digit b ≡ true → b ∷ rest ≡ decimal (b - 48) ++ rest
digit_alone b rest h =
    let least = digit_least b h in
    let most = digit_most b h in
    let digit : decimal (b - 48) ≡ (48 + (b - 48)) ∷ [] = decimal_digit (b - 48) (omega arith) in
    let same : 48 + (b - 48) ≡ b = omega arith in
    ap (λ (ds : List ℕ). ds ++ rest) (sym (digit ∙ ap (λ (x : ℕ). x ∷ []) same))

-- what is first in a text that is the same
pub first_of : {W : Type 0} (now : W → List ℕ) (text front : List ℕ) (o : Option (ℕ × W)) → text ≡ front → IfSome o (λ p. IsFirst front p.0 (now p.1)) → IfSome o (λ p. IsFirst text p.0 (now p.1))
first_of now text front None e h = tt
first_of now text front (Some p) e h = record { text = e ∙ h.text; fits = h.fits }

-- ---- registers

spelled : (front name text rest : List ℕ) (register : Reg) → IsSpelled front name register → text ≡ name ++ rest → Spells front text register rest
spelled front name text rest register h e = record {
  text = ap (λ (bs : List ℕ). front ++ bs) e ∙ (sym (append_assoc front name rest) ∙ ap (λ (bs : List ℕ). bs ++ rest) (sym h.text));
  numbers = h.numbers;
}

-- a name of a list stands in front of a text
pub named_here : (names : List Named) (place : ℕ) (other : Named) (text rest : List ℕ) → place < length names → text ≡ (get_or names place other).0.now ++ rest → IsNamed names text (get_or names place other).1 rest
named_here names place other text rest within e = record {
  spells = λ front all. spelled front (get_or names place other).0.now text rest (get_or names place other).1 (all.each place other within) e;
}

-- names that make their registers
pub no_names : {front : List ℕ} → AreSpelled front []
no_names {front} = record { each = All-nil (λ (n : Named). IsSpelled front n.0.now n.1) }

pub one_more : {front : List ℕ} {name : Named} {names : List Named} → register_text name.1 ≡ front ++ name.0.now → HasNumbers name.1 → AreSpelled front names → AreSpelled front (name ∷ names)
one_more {front} {name} {names} is numbers h = record { each = All-cons (λ (n : Named). IsSpelled front n.0.now n.1) name names (record { text = is; numbers = numbers }) h.each }

-- what is spelled behind more bytes is spelled behind fewer
pub spelled_from : {W : Type 0} (now : W → List ℕ) (front text more behind : List ℕ) (o : Option (Reg × W)) → front ++ text ≡ more ++ behind
    → IfSome o (λ p. Spells more behind p.0 (now p.1)) → IfSome o (λ p. Spells front text p.0 (now p.1))
spelled_from now front text more behind None e h = tt
spelled_from now front text more behind (Some p) e h = record { text = e ∙ h.text; numbers = h.numbers }

-- what one of two spells
pub either_spells : {W : Type 0} (now : W → List ℕ) (front text : List ℕ) (first other found : Option (Reg × W)) → found ≡ option_or first other
    → IfSome first (λ p. Spells front text p.0 (now p.1)) → IfSome other (λ p. Spells front text p.0 (now p.1)) → IfSome found (λ p. Spells front text p.0 (now p.1))
either_spells now front text None other found e h k = rw e k
either_spells now front text (Some x) other found e h k = rw e h

-- names behind some bytes
pub named : {W : Type 0} (now : W → List ℕ) (front text : List ℕ) (names : List Named) (o : Option (Reg × W)) → IfSome o (λ p. IsNamed names text p.0 (now p.1)) → AreSpelled front names → IfSome o (λ p. Spells front text p.0 (now p.1))
named now front text names None h all = tt
named now front text names (Some p) h all = h.spells front all

-- a number behind a letter
pub behind_number : (letter text rest : List ℕ) (n : ℕ) → IsFirst text n rest → letter ++ text ≡ (letter ++ decimal n) ++ rest
behind_number letter text rest n h = ap (λ (bs : List ℕ). letter ++ bs) h.text ∙ sym (append_assoc letter (decimal n) rest)

-- names behind a letter and a number
pub named_of : {W : Type 0} (now : W → List ℕ) (letter text rest : List ℕ) (n : ℕ) (names : List Named) (o : Option (Reg × W)) → IsFirst text n rest → IfSome o (λ p. IsNamed names rest p.0 (now p.1)) → AreSpelled (letter ++ decimal n) names → IfSome o (λ p. Spells letter text p.0 (now p.1))
named_of now letter text rest n names o first h all = spelled_from now letter text (letter ++ decimal n) rest o (behind_number letter text rest n first) (named now (letter ++ decimal n) rest names o h all)

-- a register that ends with a number
pub ends_with : (letter word text rest behind : List ℕ) (n : ℕ) (register : Reg) → text ≡ word ++ rest → rest ≡ decimal n ++ behind → register_text register ≡ (letter ++ word) ++ (decimal n ++ []) → HasNumbers register → Spells letter text register behind
ends_with letter word text rest behind n register e f is numbers = record {
  text = ap (λ (bs : List ℕ). letter ++ bs) (e ∙ ap (λ (bs : List ℕ). word ++ bs) f) ∙ (sym (append_assoc letter word (decimal n ++ behind))
      ∙ (sym (append_assoc (letter ++ word) (decimal n) behind) ∙ ap (λ (bs : List ℕ). bs ++ behind) (sym (is ∙ ap (λ (bs : List ℕ). (letter ++ word) ++ bs) (append-nil (decimal n))))));
  numbers = numbers;
}

-- a converter's register of a place
pub placed_here : (unit place : ℕ) (word text rest behind : List ℕ) (register : Reg) → text ≡ word ++ rest → rest ≡ decimal place ++ behind → register_text register ≡ codes "A" ++ (decimal unit ++ (word ++ (decimal place ++ []))) → HasNumbers register
    → Spells (codes "A" ++ decimal unit) text register behind
placed_here unit place word text rest behind register e f is numbers =
    ends_with (codes "A" ++ decimal unit) word text rest behind place register e f (is ∙ ap (λ (bs : List ℕ). codes "A" ++ bs) (sym (append_assoc (decimal unit) word (decimal place ++ [])))) numbers
