-- Two modules as one: what a run of both is over.
use Rattle.std.specs.Prelude.{ℕ, Bool, cond, ◌&&◌, ◌||◌, List, [], ◌∷◌, MatchBool}
use Rattle.chip_model.specs.Chip.{Chip}
use Rattle.mcal_base.specs.declared.notice.Notice.{Notice}
use Rattle.run_model.specs.Frame.{Origin, Called, Entered}
use Rattle.run_model.specs.Moment.{Setting}
use Rattle.audit_base.specs.Deeds.{Member}
use Rattle.audit_base.specs.Product.{both_machine, either}
use Rattle.audit_base.specs.declared.either.Either.{Either}
use Rattle.audit_base.specs.declared.either.Either.TheVariants.{Left, Right}

-- the machine of a run, with the lines of its configured objects
abbrev pub member_of : {S C : Type 0} → Setting S C → Member S C
member_of g = record { machine = g.machine; lines = g.used }

-- what the module of a frame says of it
abbrev pub by_origin : {C D Z : Type 0} → (firsts : ℕ → Bool) → (Origin C → Z) → (Origin D → Z) → Origin (Either C D) → Z
by_origin firsts p q (Called (Left c)) = p (Called c)
by_origin firsts p q (Called (Right d)) = q (Called d)
by_origin firsts p q (Entered l) = cond (firsts l) (p (Entered l)) (q (Entered l))

-- the frames of the first, and of the second
abbrev pub first_origins : {C D : Type 0} → (firsts : ℕ → Bool) → List (Origin (Either C D)) → List (Origin C)
first_origins firsts [] = []
first_origins firsts (Called (Left c) ∷ os) = Called c ∷ first_origins firsts os
first_origins firsts (Called (Right d) ∷ os) = first_origins firsts os
first_origins firsts (Entered l ∷ os) = cond (firsts l) (Entered l ∷ first_origins firsts os) (first_origins firsts os)

abbrev pub second_origins : {C D : Type 0} → (firsts : ℕ → Bool) → List (Origin (Either C D)) → List (Origin D)
second_origins firsts [] = []
second_origins firsts (Called (Left c) ∷ os) = second_origins firsts os
second_origins firsts (Called (Right d) ∷ os) = Called d ∷ second_origins firsts os
second_origins firsts (Entered l ∷ os) = cond (firsts l) (second_origins firsts os) (Entered l ∷ second_origins firsts os)

abbrev pub Shows : {S T C D : Type 0} → (firsts : ℕ → Bool) → (Origin C → Notice → Chip → S → Type 0) → (Origin D → Notice → Chip → T → Type 0) → Origin (Either C D) → Notice → Chip → S × T → Type 0
Shows firsts p q (Called (Left c)) n chip s = p (Called c) n chip s.0
Shows firsts p q (Called (Right d)) n chip s = q (Called d) n chip s.1
Shows firsts p q (Entered l) n chip s = MatchBool (firsts l) (p (Entered l) n chip s.0) (q (Entered l) n chip s.1)

-- a line is the first's where an object of the first uses it, and the first sets the rate
abbrev pub joined : {S T C D : Type 0} → Setting S C → Setting T D → Setting (S × T) (Either C D)
joined g h = record {
  machine = both_machine (member_of g) (member_of h);
  first = (g.first, h.first);
  class_of = either g.class_of h.class_of;
  level_of = λ l. cond (g.used l) (g.level_of l) (h.level_of l);
  owner_of = λ l. cond (g.used l) (g.owner_of l) (h.owner_of l);
  used = λ l. g.used l || h.used l;
  steps_of = by_origin g.used g.steps_of h.steps_of;
  window_of = by_origin g.used g.window_of h.window_of;
  may = by_origin g.used g.may h.may;
  halves = either g.halves h.halves;
  must = either g.must h.must;
  fills = λ c. g.fills c || h.fills c;
  in_use = λ w s c. g.fills c && g.in_use w s.0 c || h.fills c && h.in_use w s.1 c;
  rest = λ chip w s. g.rest chip w s.0 × h.rest chip w s.1;
  unmasked = λ chip w s origins. g.unmasked chip w s.0 (first_origins g.used origins) × h.unmasked chip w s.1 (second_origins g.used origins);
  shows = Shows g.used g.shows h.shows;
}
