-- A text that is escaped is read as it was.
use Rattle.std.proofs.Common.{◌≡◌, ℕ, List, [], ◌∷◌, ◌++◌, Bool, true, false, refl, sym, subst, append_assoc}
use Rattle.std.specs.Prelude.{codes, decimal, if◌then◌else◌}
use Rattle.trace_forms.specs.Escapes.{is_plain, escaped, Reads, nothing, as_itself, by_number}

byte_reads : (b : ℕ) (written text : List ℕ) (plain : Bool) → is_plain b ≡ plain → Reads written text → Reads ((if plain then b ∷ [] else codes "&#" ++ (decimal b ++ codes ";")) ++ written) (b ∷ text)
byte_reads b written text true e h = as_itself b written text e h
byte_reads b written text false e h =
    subst (λ (bs : List ℕ). Reads (codes "&#" ++ bs) (b ∷ text)) (sym (append_assoc (decimal b) (codes ";") written)) (by_number b written text h)

pub escaped_reads : (text : List ℕ) → Reads (escaped text) text
escaped_reads [] = nothing
escaped_reads (b ∷ text) = byte_reads b (escaped text) text (is_plain b) refl (escaped_reads text)
