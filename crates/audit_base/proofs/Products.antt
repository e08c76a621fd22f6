-- Two machines as one: what the first gives, what the second gives, and what both do.
use Rattle.std.proofs.Common.{Option, Some, None, Result, Ok, Err, refl}
use Rattle.std.specs.Prelude.{IfOk}
use Rattle.run_model.specs.Machine.{Outcome, tells_nothing}
use Rattle.audit_base.specs.Comes.{Comes}
use Rattle.audit_base.specs.Deeds.{Follows}
use Rattle.audit_base.specs.Product.{in_both, in_first, lifted}
use Rattle.audit_base.specs.declared.done.Done.{Done}

-- what follows from a value of a result that is one
pub if_ok : {A E : Type 0} {P Q : A → Type 0} (r : Result A E) → ((x : A) → P x → Q x) → IfOk r P → IfOk r Q
if_ok (Ok x) h p = h x p
if_ok (Err e) h p = p

pub if_ok_both : {A E : Type 0} {P Q R : A → Type 0} (r : Result A E) → ((x : A) → P x → Q x → R x) → IfOk r P → IfOk r Q → IfOk r R
if_ok_both (Ok x) h p q = h x p q
if_ok_both (Err e) h p q = p

module _ {S T : Type 0} (P : S → Type 0) (Q : T → Type 0) where
  abbrev pub Stand : S × T → Type 0
  Stand s = P s.0 × Q s.1

  pub follows_first : (s : S) (t : T) (d : Option Done) (o : Option (Outcome S)) → Q t → Follows P s d o → Follows Stand (s, t) d (lifted (λ a. (a, t)) o)
  follows_first s t None None q h = (h, q)
  follows_first s t None (Some out) q h = h
  follows_first s t (Some d) None q h = h
  follows_first s t (Some d) (Some out) q h = record { told = h.told; begins = h.begins; kept = (h.kept, q) }

  pub follows_second : (s : S) (t : T) (d : Option Done) (o : Option (Outcome T)) → P s → Follows Q t d o → Follows Stand (s, t) d (lifted (λ b. (s, b)) o)
  follows_second s t None None p h = (p, h)
  follows_second s t None (Some out) p h = h
  follows_second s t (Some d) None p h = h
  follows_second s t (Some d) (Some out) p h = record { told = h.told; begins = h.begins; kept = (p, h.kept) }

  pub starts_first : (s : S) (t : T) (d : Done) (o : Option (Outcome S)) (r : Option (Outcome T)) → Q t → Follows P s (Some d) o → Follows Stand (s, t) (Some d) (in_first s t o r)
  starts_first s t d None r q h = absurd h
  starts_first s t d (Some out) r q h = record { told = h.told; begins = h.begins; kept = (h.kept, q) }

  pub starts_second : (s : S) (t : T) (d : Option Done) (o : Option (Outcome S)) (r : Option (Outcome T)) → Follows P s None o → Follows Q t d r → Follows Stand (s, t) d (in_first s t o r)
  starts_second s t d None r p h = follows_second s t d r p h
  starts_second s t d (Some out) r p h = absurd p

  pub comes_both : (o : Option (Outcome S)) (r : Option (Outcome T)) → Comes P tells_nothing o → Comes Q tells_nothing r → Comes Stand tells_nothing (in_both o r)
  comes_both None r h i = h
  comes_both (Some x) None h i = i
  comes_both (Some x) (Some y) h i = record { told = refl; wordless = refl; kept = (h.kept, i.kept) }
