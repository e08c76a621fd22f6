-- A program whose deeds begin no word: what it gives follows the machine.
use Rattle.std.proofs.Common.{◌≡◌, Option, Some, None, refl, subst, sym}
use Rattle.std.specs.Prelude.{option_map}
use Rattle.run_model.specs.Machine.{Outcome, Told, outcome}
use Rattle.audit_base.specs.Comes.{Comes, ComesIf, Gives}
use Rattle.audit_base.specs.Deeds.{Follows, IsDone, beginning, came, quiet}
use Rattle.audit_base.specs.declared.done.Begun.{Begun}
use Rattle.audit_base.specs.declared.done.Done.{Done}

module _ {State : Type 0} where
  gives_done : (P : State → Type 0) (t : Told) (out : Outcome State) → Gives P t out → IsDone P (quiet t) out
  gives_done P t out h = record { told = h.told; begins = sym h.wordless; kept = h.kept }

  -- what comes of a deed that is always allowed
  pub comes_follow : (P : State → Type 0) (s : State) (t : Told) (o : Option (Outcome State)) → Comes P t o → Follows P s (Some (quiet t)) o
  comes_follow P s t None h = h
  comes_follow P s t (Some out) h = gives_done P t out h

  -- and of one that may be refused
  by_told : (P : State → Type 0) (s : State) (t : Option Told) (o : Option (Outcome State)) → ComesIf P t o → (t ≡ None → P s) → Follows P s (option_map quiet t) o
  by_told P s None None h same = same refl
  by_told P s None (Some out) h same = h
  by_told P s (Some t) None h same = h
  by_told P s (Some t) (Some out) h same = gives_done P t out h

  pub served_follow : (P : State → Type 0) (s : State) (t : Option Told) (d : Option Done) (o : Option (Outcome State)) → d ≡ option_map quiet t → ComesIf P t o → (t ≡ None → P s) → Follows P s d o
  served_follow P s t d o is h same = subst (λ x. Follows P s x o) (sym is) (by_told P s t o h same)

  -- where the machine's state itself is kept
  pub comes_to : (x : State) (t : Told) (o : Option (Outcome State)) → Some (outcome x t) ≡ o → Comes (λ s. x ≡ s) t o
  comes_to x t o e = subst (Comes (λ s. x ≡ s) t) e (record { told = refl; wordless = refl; kept = refl })

  comes_if : (x : State) (t : Option Told) (o : Option (Outcome State)) → option_map (outcome x) t ≡ o → ComesIf (λ s. x ≡ s) t o
  comes_if x None o e = subst (ComesIf (λ s. x ≡ s) None) e tt
  comes_if x (Some t) o e = subst (ComesIf (λ s. x ≡ s) (Some t)) e (record { told = refl; wordless = refl; kept = refl })

  pub act_follows : (x s : State) (t : Told) (o : Option (Outcome State)) → Some (outcome x t) ≡ o → Follows (λ y. x ≡ y) s (Some (quiet t)) o
  act_follows x s t o e = comes_follow (λ y. x ≡ y) s t o (comes_to x t o e)

  pub serve_follows : (x s : State) (t : Option Told) (d : Option Done) (o : Option (Outcome State)) → d ≡ option_map quiet t → option_map (outcome x) t ≡ o → (t ≡ None → x ≡ s) → Follows (λ y. x ≡ y) s d o
  serve_follows x s t d o is e same = served_follow (λ y. x ≡ y) s t d o is (comes_if x t o e) same

  -- where a word may begin
  pub done_follows : (x s : State) (d : Option Done) (o : Option (Outcome State)) → option_map (came x) d ≡ o → (d ≡ None → x ≡ s) → Follows (λ y. x ≡ y) s d o
  done_follows x s None o e same = subst (Follows (λ y. x ≡ y) s None) e (same refl)
  done_follows x s (Some d) o e same = subst (Follows (λ y. x ≡ y) s (Some d)) e (record { told = refl; begins = refl; kept = refl })

  by_word : (x s : State) (b : Option Begun) (o : Option (Outcome State)) → option_map (λ y. came x (beginning y)) b ≡ o → (b ≡ None → x ≡ s) → Follows (λ y. x ≡ y) s (option_map beginning b) o
  by_word x s None o e same = subst (Follows (λ y. x ≡ y) s None) e (same refl)
  by_word x s (Some b) o e same = subst (Follows (λ y. x ≡ y) s (Some (beginning b))) e (record { told = refl; begins = refl; kept = refl })

  -- where it does nothing else
  pub word_follows : (x s : State) (b : Option Begun) (d : Option Done) (o : Option (Outcome State)) → d ≡ option_map beginning b → option_map (λ y. came x (beginning y)) b ≡ o → (b ≡ None → x ≡ s) → Follows (λ y. x ≡ y) s d o
  word_follows x s b d o is e same = subst (λ k. Follows (λ y. x ≡ y) s k o) (sym is) (by_word x s b o e same)
