-- Texts, and lists of texts put together.
use Rattle.std.proofs.Common.{◌≡◌, ◌==◌, ℕ, ◌<◌, List, [], ◌∷◌, ◌++◌, true, false, length, refl, sym, ap, ◌∙◌, arith, eq-eqb, append_assoc, append-nil}
use Rattle.std.specs.Prelude.{codes, flat_map, map}
use Rattle.std.specs.Str.{IsUtf8}
use Rattle.std.specs.Str.Lossy.{utf8_valid_len}
use Rattle.std.proofs.lemmas.Bool.{eqb-true, ne_eqb}
use Rattle.std.proofs.lemmas.List.{map-append}
use Rattle.std.proofs.lemmas.Str.{utf8_valid_len-IsUtf8}
use Rattle.sweep_report.specs.Page.{headed}
use Rattle.sweep_report.specs.Table.{as_text}

-- bytes that are a text, and others
pub is_text : (bytes : List ℕ) → IsUtf8 bytes → as_text bytes ≡ bytes
is_text bytes u = rw (eq-eqb (utf8_valid_len bytes) (length bytes) (utf8_valid_len-IsUtf8 bytes u)) refl

pub is_none : (bytes : List ℕ) → utf8_valid_len bytes < length bytes → as_text bytes ≡ []
is_none bytes l = rw (ne_eqb (utf8_valid_len bytes) (length bytes) (λ e. omega (arith, e, l))) refl

-- a text under a head, and none
pub headed_none : (bytes : List ℕ) → (length bytes == 0) ≡ true → headed bytes ≡ []
headed_none [] e = refl
headed_none (b ∷ bs) e = let none : length (b ∷ bs) ≡ 0 = eqb-true (length (b ∷ bs)) 0 e in absurd (omega (arith, none))

pub headed_some : (bytes : List ℕ) → (length bytes == 0) ≡ false → headed bytes ≡ codes "\nin all of them:\n" ++ bytes
headed_some [] e = absurd (cc)
headed_some (b ∷ bs) e = refl

-- one text more, behind those of a list
pub flat_push : {X : Type 0} (f : X → List ℕ) (xs : List X) (x : X) → flat_map f (xs ++ x ∷ []) ≡ flat_map f xs ++ f x
flat_push f [] x = append-nil (f x)
flat_push f (y ∷ ys) x = ap (λ (t : List ℕ). f y ++ t) (flat_push f ys x) ∙ sym (append_assoc (f y) (flat_map f ys) (f x))

-- the same of what was yielded, where each is seen as a text
pub told_push : {A : Type 0} (f : List ℕ → List ℕ) (text_of : A → List ℕ) (seen : List A) (x : A) (start old new : List ℕ) → old ≡ start ++ flat_map f (map text_of seen) → new ≡ old ++ f (text_of x) → new ≡ start ++ flat_map f (map text_of (seen ++ x ∷ []))
told_push f text_of seen x start old new h e =
    e ∙ ap (λ (t : List ℕ). t ++ f (text_of x)) h ∙ append_assoc start (flat_map f (map text_of seen)) (f (text_of x))
    ∙ ap (λ (t : List ℕ). start ++ t) (sym (ap (flat_map f) (map-append text_of seen (x ∷ [])) ∙ flat_push f (map text_of seen) (text_of x)))

-- one value more, of a line that was yielded
pub line_push : {A V D : Type 0} (seen_as : V → D) (f : List ℕ → D) (text_of : A → List ℕ) (seen : List A) (x : A) (start old new : List V) (v : V) → map seen_as old ≡ map seen_as start ++ map f (map text_of seen) → new ≡ old ++ v ∷ [] → seen_as v ≡ f (text_of x) → map seen_as new ≡ map seen_as start ++ map f (map text_of (seen ++ x ∷ []))
line_push seen_as f text_of seen x start old new v h e is =
    ap (map seen_as) e ∙ map-append seen_as old (v ∷ []) ∙ ap (λ vs. vs ++ seen_as v ∷ []) h ∙ append_assoc (map seen_as start) (map f (map text_of seen)) (seen_as v ∷ [])
    ∙ ap (λ vs. map seen_as start ++ vs) (ap (λ d. map f (map text_of seen) ++ d ∷ []) is ∙ sym (ap (map f) (map-append text_of seen (x ∷ [])) ∙ map-append f (map text_of seen) (text_of x ∷ [])))
