-- The pieces of a step's line, joined.
use Rattle.std.proofs.Common.{◌≡◌, ℕ, List, [], ◌∷◌, ◌++◌, length, Option, Some, None, true, refl, sym, ◌∙◌, ap, append_assoc, arith}
use Rattle.std.specs.Prelude.{◌==◌, IfSome, codes, decimal}
use Rattle.std.specs.Option.{option_or}
use Rattle.std.proofs.lemmas.List.{append-nil}
use Rattle.mcal_base.specs.declared.moves.Event.{Event}
use Rattle.mcal_base.specs.declared.moves.Event.TheVariants as events
use Rattle.mcal_base.specs.declared.moves.Move.{Move}
use Rattle.mcal_base.specs.declared.moves.Move.TheVariants as moves
use Rattle.mcal_base.specs.declared.register.Reg.{Reg}
use Rattle.mcal_base.specs.facts.Numbers.{eq_is}
use Rattle.bench_report.specs.Lines.{Makes, event_text, incoming_text, move_text}
use Rattle.bench_report.specs.Numbers.{IsNumber}
use Rattle.bench_report.specs.Registers.{register_text}
use Rattle.trace_reader.specs.Reading.{read_line}
use Rattle.trace_reader.specs.Scan.{IsAccess, IsFirst, IsMarked, IsMove, IsWord, Spells}
use Rattle.trace_reader.specs.Told.{told_line}
use Rattle.trace_reader.specs.declared.told.TraceLine.{TraceLine}
use Rattle.trace_reader.proofs.LineByLine.{line_again}

-- ---- moves

pub access_is : (text r1 r2 r3 : List ℕ) (register : Reg) (value : ℕ) → Spells [] text register r1 → r1 ≡ codes " " ++ r2 → IsFirst r2 value r3 → IsAccess text register value r3
access_is text r1 r2 r3 register value s b v = record {
  text = s.text ∙ ap (λ (bs : List ℕ). register_text register ++ bs) (b ∙ ap (λ (bs : List ℕ). codes " " ++ bs) v.text);
  numbers = s.numbers;
  value = v.fits;
}

pub word_is : (text r1 r2 r3 : List ℕ) (word value : ℕ) → IsFirst text word r1 → r1 ≡ codes " " ++ r2 → IsFirst r2 value r3 → IsWord text word value r3
word_is text r1 r2 r3 word value w b v = record {
  text = w.text ∙ ap (λ (bs : List ℕ). decimal word ++ bs) (b ∙ ap (λ (bs : List ℕ). codes " " ++ bs) v.text);
  word = w.fits;
  value = v.fits;
}

-- a word, what is moved and a value, with what is behind them
moved : (text word what value rest behind : List ℕ) → text ≡ word ++ rest → rest ≡ what ++ (codes " " ++ (value ++ behind)) → text ≡ (word ++ (what ++ (codes " " ++ value))) ++ behind
moved text word what value rest behind e f =
    e ∙ (ap (λ (bs : List ℕ). word ++ bs) (f ∙ sym (append_assoc what (codes " " ++ value) behind)) ∙ sym (append_assoc word (what ++ (codes " " ++ value)) behind))

pub loads : (text rest behind : List ℕ) (word value : ℕ) → text ≡ codes "load w" ++ rest → IsWord rest word value behind → IsMove text (moves.Load word) value behind
loads text rest behind word value e w = record { text = moved text (codes "load w") (decimal word) (decimal value) rest behind e w.text; numbers = w.word; value = w.value }

pub stores : (text rest behind : List ℕ) (word value : ℕ) → text ≡ codes "store w" ++ rest → IsWord rest word value behind → IsMove text (moves.Store word value) 0 behind
stores text rest behind word value e w = record { text = moved text (codes "store w") (decimal word) (decimal value) rest behind e w.text; numbers = (w.word, w.value); value = omega arith }

pub reads : (text rest behind : List ℕ) (register : Reg) (value : ℕ) → text ≡ codes "read " ++ rest → IsAccess rest register value behind → IsMove text (moves.Read register) value behind
reads text rest behind register value e a = record { text = moved text (codes "read ") (register_text register) (decimal value) rest behind e a.text; numbers = a.numbers; value = a.value }

pub writes : (text rest behind : List ℕ) (register : Reg) (value : ℕ) → text ≡ codes "write " ++ rest → IsAccess rest register value behind → IsMove text (moves.Write register value) 0 behind
writes text rest behind register value e a = record { text = moved text (codes "write ") (register_text register) (decimal value) rest behind e a.text; numbers = (a.numbers, a.value); value = omega arith }

-- the move of a text that is the same
pub moved_from : {W : Type 0} (now : W → List ℕ) (text front : List ℕ) (o : Option (Move × ℕ × W)) → text ≡ front → IfSome o (λ p. IsMove front p.0 p.1 (now p.2)) → IfSome o (λ p. IsMove text p.0 p.1 (now p.2))
moved_from now text front None e h = tt
moved_from now text front (Some p) e h = record { text = e ∙ h.text; numbers = h.numbers; value = h.value }

-- ---- events

pub serves : (text rest behind : List ℕ) (line : ℕ) → text ≡ codes " serve " ++ rest → IsFirst rest line behind → IsMarked text (Some (events.Serve line)) behind
serves text rest behind line e first = record {
  text = e ∙ (ap (λ (bs : List ℕ). codes " serve " ++ bs) first.text ∙ sym (append_assoc (codes " serve ") (decimal line) behind));
  number = first.fits;
}

-- what one of two marks
pub either_marked : {W : Type 0} (now : W → List ℕ) (text : List ℕ) (first other found : Option (Event × W)) → found ≡ option_or first other
    → IfSome first (λ p. IsMarked text (Some p.0) (now p.1)) → IfSome other (λ p. IsMarked text (Some p.0) (now p.1)) → IfSome found (λ p. IsMarked text (Some p.0) (now p.1))
either_marked now text None other found e h k = rw e k
either_marked now text (Some x) other found e h k = rw e h

-- ---- words that come in

pub empty_is : (bs : List ℕ) → (length bs == 0) ≡ true → bs ≡ []
empty_is [] h = refl
empty_is (b ∷ bs) h = let e : length (b ∷ bs) ≡ 0 = eq_is (length (b ∷ bs)) 0 h in absurd (omega arith)

pub comes_in : (text rest behind : List ℕ) (received : ℕ) → text ≡ codes " got " ++ rest → IsFirst rest received behind → (length behind == 0) ≡ true → text ≡ codes " got " ++ decimal received
comes_in text rest behind received e first none =
    e ∙ ap (λ (bs : List ℕ). codes " got " ++ bs) (first.text ∙ (ap (λ (bs : List ℕ). decimal received ++ bs) (empty_is behind none) ∙ append-nil (decimal received)))

-- what came in with a move that takes a word
pub told_in : (made : Move) (text : List ℕ) (o : Option ℕ) → ((n : ℕ) → incoming_text made n ≡ codes " got " ++ decimal n) → IfSome o (λ n. text ≡ codes " got " ++ decimal n) → IfSome o (λ n. text ≡ incoming_text made n)
told_in made text None is h = tt
told_in made text (Some n) is h = h ∙ sym (is n)

-- ---- a line

pub step_again : (number depth value received : ℕ) (made : Move) (event : Option Event) (text r1 r2 r3 r4 : List ℕ) → IsNumber number
    → IsFirst text depth r1 → r1 ≡ codes " " ++ r2 → IsMove r2 made value r3 → IsMarked r3 event r4 → r4 ≡ incoming_text made received → IsNumber received
    → read_line (decimal number ++ (codes " step " ++ text)) ≡ Some (told_line (record { number = number; says = Makes depth made value received event }))
step_again number depth value received made event text r1 r2 r3 r4 n d e m k g fits =
    let all = ap (λ (bs : List ℕ). decimal number ++ (codes " step " ++ bs)) (d.text ∙ ap (λ (bs : List ℕ). decimal depth ++ bs) (e ∙ ap (λ (bs : List ℕ). codes " " ++ bs)
    (m.text ∙ ap (λ (bs : List ℕ). move_text made value ++ bs) (k.text ∙ ap (λ (bs : List ℕ). event_text event ++ bs) g)))) in
    ap read_line all ∙ line_again number (Makes depth made value received event) n (d.fits, m.numbers, m.value, fits, k.number)

pub line_behind : (text r1 r2 : List ℕ) (number : ℕ) (o : Option TraceLine) → IsFirst text number r1 → r1 ≡ codes " step " ++ r2 → IfSome o (λ line. read_line (decimal number ++ (codes " step " ++ r2)) ≡ Some line) → IfSome o (λ line. read_line text ≡ Some line)
line_behind text r1 r2 number None first e h = tt
line_behind text r1 r2 number (Some line) first e h = ap read_line (first.text ∙ ap (λ (bs : List ℕ). decimal number ++ bs) e) ∙ h
