-- Elements that are read one after another.
use Rattle.std.proofs.Common.{◌≡◌, ℕ, List, [], ◌∷◌, ◌++◌, false, length, ◌≤◌, arith}
use Rattle.std.specs.Prelude.{Option}
use Rattle.std.specs.List.{list_any}
use Rattle.std.proofs.lemmas.List.Elements.{All-push}
use Rattle.std.proofs.lemmas.List.Quantifiers.{all_pairs_push}
use Rattle.config_facts.specs.Ids.{same_id, IsTable}
use Rattle.config_tables.specs.rows.Rows.{AreSound}
use Rattle.config_tables.proofs.Ids.{any_none}

pub sound_none : {T : Type 0} (P : T → Type 0) (id : T → Option ℕ) → AreSound P id []
unfolding AreSound
sound_none P id = (λ k d l. absurd (omega arith), λ i j d l m. absurd (omega arith))

pub sound_push : {T : Type 0} (P : T → Type 0) (id : T → Option ℕ) (xs ys : List T) (x : T) → ys ≡ xs ++ x ∷ [] → AreSound P id xs → P x → list_any (λ y. same_id (id x) (id y)) xs ≡ false → AreSound P id ys
unfolding AreSound
sound_push P id xs ys x e s p o = rw e (All-push P xs x s.0 p, all_pairs_push (λ x y. same_id (id y) (id x) ≡ false) xs x s.1 (any_none (λ y. same_id (id x) (id y)) xs o))

pub sound_table : {T : Type 0} (P : T → Type 0) (id : T → Option ℕ) (most : ℕ) (xs : List T) → AreSound P id xs → length xs ≤ most → IsTable P id most xs
unfolding AreSound
sound_table P id most xs s l = record { few = l; each = s.0; once = s.1 }
