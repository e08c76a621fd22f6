-- Words that are read one after the other.
use Rattle.std.proofs.Common.{◌≡◌, ℕ, ◌+◌, ◌<◌, List, [], ◌∷◌, ◌++◌, length, map, drop, get_or, Option, Some, None, refl, ◌∙◌, ap, sym, add-one, append_assoc, drop-cons}
use Rattle.std.specs.Prelude.{option_map}
use Rattle.trace_reader.specs.Guess.{◌>>=◌, each}

each_case : {T : Type 0} (read more : List T) (x : T) (o : Option (List T)) → more ≡ read ++ x ∷ [] → option_map (λ xs. read ++ xs) (o >>= (λ xs. Some (x ∷ xs))) ≡ option_map (λ xs. more ++ xs) o
each_case read more x None p = refl
each_case read more x (Some xs) p = ap (λ ys. Some ys) (sym (append_assoc read (x ∷ []) xs) ∙ ap (λ ys. ys ++ xs) (sym p))

-- one more is read
pub each_more : {T W : Type 0} (f : List ℕ → Option T) (now : W → List ℕ) (read more : List T) (words : List W) (i : ℕ) (w : W) (x : T) (all : Option (List T)) → i < length words →
    all ≡ option_map (λ xs. read ++ xs) (each f (map now (drop i words))) → Some x ≡ f (now (get_or words i w)) → more ≡ read ++ x ∷ [] → all ≡ option_map (λ xs. more ++ xs) (each f (map now (drop (i + 1) words)))
each_more f now read more words i w x all within h e p = h ∙ rw (add-one, drop-cons words i w within, ← e) (each_case read more x _ p)

-- one isn't
pub each_none : {T W : Type 0} (f : List ℕ → Option T) (now : W → List ℕ) (read : List T) (words : List W) (i : ℕ) (w : W) (all : Option (List T)) → i < length words →
    all ≡ option_map (λ xs. read ++ xs) (each f (map now (drop i words))) → None ≡ f (now (get_or words i w)) → None ≡ all
each_none f now read words i w all within h e = sym (h ∙ rw (drop-cons words i w within, ← e) refl)
