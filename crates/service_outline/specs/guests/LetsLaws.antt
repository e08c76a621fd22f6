-- Two drivers as one let a guest in where one of them does, and the other owns nothing of what the guest does.
use Rattle.std.proofs.Common.{◌≡◌, ℕ, ◌≤◌, Bool, true, false, cond, not, List, [], ◌∷◌, refl, sym, subst, arith}
use Rattle.std.specs.List.{list_any}
use Rattle.std.proofs.lemmas.Bool.{or_from, or_parts}
use Rattle.chip_model.specs.Chip.{Chip, chip_after, is_masked}
use Rattle.mcal_base.specs.declared.module_name.ModuleName.{ModuleName}
use Rattle.mcal_base.specs.declared.moves.Move.{Move}
use Rattle.mcal_base.specs.declared.routine.Taken.{Taken}
use Rattle.run_model.specs.Causes.{blocks, may_reenter, guarded}
use Rattle.run_model.specs.Frame.{Origin, Called, Entered, Open}
use Rattle.run_model.specs.Moment.{Setting}
use Rattle.run_model.specs.World.{World}
use Rattle.step_runner.specs.Driver.{Driver, IsLawful, AllOutside, tags_in}
use Rattle.step_runner.specs.Union.{has_handler, first_origins, second_origins, UnionRelates, union_setting, union_of}
use Rattle.step_runner.specs.UnionLaws.{outside-split}
use Rattle.step_runner.specs.declared.either.Either.{Either}
use Rattle.step_runner.specs.declared.either.Either.TheVariants.{Left, Right}
use Rattle.step_runner.proofs.Apart.{owns-neither}
use Rattle.service_outline.specs.guests.Frames.{tags-first, tags-second}
use Rattle.service_outline.specs.guests.Guest.{keeps_off, LetsIn}

-- a driver owns none of these moves
abbrev pub OwnsNone : {State Call Frame : Type 0} → Driver State Call Frame → (may : Move → Bool) → Type 0
OwnsNone {State} {Call} d may = (made : Move) → may made ≡ true → (origin : Origin Call) → d.owns origin made ≡ false

module _ {S T C D F G : Type 0} (d : Driver S C F) (e : Driver T D G) where
  -- the first lets it in
  pub lets-first : (block : ModuleName) (may : Move → Bool) (moves_of : Move → S → S) {move_of : G → Move} {left : G → ℕ → G} {gave : G → ℕ → Taken} → IsLawful e move_of left gave → OwnsNone e may → LetsIn d block may moves_of → LetsIn (union_of d e) block may (λ made s. (moves_of made s.0, s.1))
  lets-first block may moves_of law none lets = record {
    keeps = λ chip w ps s made received mine masked out apart h. keeps chip w ps s made received mine masked out apart h;
    count = λ made s. let k = lets.count made s.0 in omega (arith, k);
    rate = λ made s. lets.rate made s.0;
  }
    where
      keeps : (chip : Chip) (w : World) (ps : List (Either F G × Open (Either C D))) (s : S × T) (made : Move) (received : ℕ) → may made ≡ true → is_masked chip ≡ false → AllOutside ps → may_reenter (guarded block) (tags_in ps) ≡ true → UnionRelates (has_handler d) d.relates e.relates chip w ps s → UnionRelates (has_handler d) d.relates e.relates (chip_after chip made received) w ps (moves_of made s.0, s.1)
      keeps chip w ps s made received mine masked out apart h =
          let outs = outside-split (has_handler d) ps h.firsts h.seconds h.splits out in
          record {
            firsts = h.firsts;
            seconds = h.seconds;
            splits = h.splits;
            first = lets.keeps chip w h.firsts s.0 made received mine masked outs.0 (tags-first (has_handler d) (λ t. not (blocks (guarded block) t)) ps h.firsts h.seconds h.splits apart) h.first;
            second = law.undisturbed chip w h.seconds s.1 made received (none made mine) outs.1 h.second;
          }

  -- or the second does
  pub lets-second : (block : ModuleName) (may : Move → Bool) (moves_of : Move → T → T) {move_of : F → Move} {left : F → ℕ → F} {gave : F → ℕ → Taken} → IsLawful d move_of left gave → OwnsNone d may → LetsIn e block may moves_of → LetsIn (union_of d e) block may (λ made s. (s.0, moves_of made s.1))
  lets-second block may moves_of law none lets = record {
    keeps = λ chip w ps s made received mine masked out apart h. keeps chip w ps s made received mine masked out apart h;
    count = λ made s. let k = lets.count made s.1 in omega (arith, k);
    rate = λ made s. refl;
  }
    where
      keeps : (chip : Chip) (w : World) (ps : List (Either F G × Open (Either C D))) (s : S × T) (made : Move) (received : ℕ) → may made ≡ true → is_masked chip ≡ false → AllOutside ps → may_reenter (guarded block) (tags_in ps) ≡ true → UnionRelates (has_handler d) d.relates e.relates chip w ps s → UnionRelates (has_handler d) d.relates e.relates (chip_after chip made received) w ps (s.0, moves_of made s.1)
      keeps chip w ps s made received mine masked out apart h =
          let outs = outside-split (has_handler d) ps h.firsts h.seconds h.splits out in
          record {
            firsts = h.firsts;
            seconds = h.seconds;
            splits = h.splits;
            first = law.undisturbed chip w h.firsts s.0 made received (none made mine) outs.0 h.first;
            second = lets.keeps chip w h.seconds s.1 made received mine masked outs.1 (tags-second (has_handler d) (λ t. not (blocks (guarded block) t)) ps h.firsts h.seconds h.splits apart) h.second;
          }

-- two drivers of which neither owns any own none as one
pub owns-none : {S T C D F G : Type 0} (d : Driver S C F) (e : Driver T D G) (may : Move → Bool) → OwnsNone d may → OwnsNone e may → OwnsNone (union_of d e) may
owns-none d e may first second = λ made mine origin. owns-neither (has_handler d) d.owns e.owns origin made (first made mine) (second made mine)

-- ---- other words for it

module _ {State Call Frame : Type 0} (d : Driver State Call Frame) (block : ModuleName) (may : Move → Bool) (moves_of : Move → State → State) (lets : LetsIn d block may moves_of) where
  -- of these moves fewer
  pub lets-fewer : (fewer : Move → Bool) → ((made : Move) → fewer made ≡ true → may made ≡ true) → LetsIn d block fewer moves_of
  lets-fewer fewer sub = record {
    keeps = λ chip w ps s made received mine masked out apart h. lets.keeps chip w ps s made received (sub made mine) masked out apart h;
    count = lets.count;
    rate = lets.rate;
  }

  -- what each makes of the state, said otherwise
  pub lets-same : (other : Move → State → State) → ((made : Move) (s : State) → other made s ≡ moves_of made s) → LetsIn d block may other
  lets-same other same = record {
    keeps = λ chip w ps s made received mine masked out apart h. subst (λ x. d.relates (chip_after chip made received) w ps x) (sym (same made s)) (lets.keeps chip w ps s made received mine masked out apart h);
    count = λ made s. subst (λ x. d.count x ≤ d.count s) (sym (same made s)) (lets.count made s);
    rate = λ made s. subst (λ x. d.setting.machine.rate x ≡ d.setting.machine.rate s) (sym (same made s)) (lets.rate made s);
  }

-- ---- frames that keep a guest off

-- a handler is none of them
line-off : {State Call : Type 0} (g : Setting State Call) (block : ModuleName) (b : Bool) (line : ℕ) (os : List (Origin Call)) → list_any (keeps_off g block) os ≡ false → list_any (keeps_off g block) (cond b (Entered line ∷ os) os) ≡ false
line-off g block true line os h = h
line-off g block false line os h = h

-- the other way round
other-line-off : {State Call : Type 0} (g : Setting State Call) (block : ModuleName) (b : Bool) (line : ℕ) (os : List (Origin Call)) → list_any (keeps_off g block) os ≡ false → list_any (keeps_off g block) (cond b os (Entered line ∷ os)) ≡ false
other-line-off g block true line os h = h
other-line-off g block false line os h = h

-- where none is of both, none is of the first, and none of the second
module _ {S T C D : Type 0} (ours : ℕ → Bool) (g : Setting S C) (h : Setting T D) (block : ModuleName) where
  pub off-first : (os : List (Origin (Either C D))) → list_any (keeps_off (union_setting ours g h) block) os ≡ false → list_any (keeps_off g block) (first_origins ours os) ≡ false
  off-first [] e = refl
  off-first (Called (Left c) ∷ os) e = let k = or_parts (keeps_off g block (Called c)) (list_any (keeps_off (union_setting ours g h) block) os) e in or_from (keeps_off g block (Called c)) (list_any (keeps_off g block) (first_origins ours os)) k.0 (off-first os k.1)
  off-first (Called (Right c) ∷ os) e = off-first os (or_parts (keeps_off h block (Called c)) (list_any (keeps_off (union_setting ours g h) block) os) e).1
  off-first (Entered l ∷ os) e = line-off g block (ours l) l (first_origins ours os) (off-first os e)

  pub off-second : (os : List (Origin (Either C D))) → list_any (keeps_off (union_setting ours g h) block) os ≡ false → list_any (keeps_off h block) (second_origins ours os) ≡ false
  off-second [] e = refl
  off-second (Called (Left c) ∷ os) e = off-second os (or_parts (keeps_off g block (Called c)) (list_any (keeps_off (union_setting ours g h) block) os) e).1
  off-second (Called (Right c) ∷ os) e = let k = or_parts (keeps_off h block (Called c)) (list_any (keeps_off (union_setting ours g h) block) os) e in or_from (keeps_off h block (Called c)) (list_any (keeps_off h block) (second_origins ours os)) k.0 (off-second os k.1)
  off-second (Entered l ∷ os) e = other-line-off h block (ours l) l (second_origins ours os) (off-second os e)
