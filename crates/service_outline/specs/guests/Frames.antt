-- What keeps a guest off, and the frames of a driver among those of two.
use Rattle.std.proofs.Common.{◌≡◌, ℕ, Bool, true, false, not, ◌&&◌, ◌||◌, ◌==◌, List, [], ◌∷◌, Some, None, refl, sym, ◌∙◌, ap, subst, arith}
use Rattle.std.specs.List.{list_any, list_all}
use Rattle.std.proofs.lemmas.Bool.Decides.{nat_tests}
use Rattle.std.proofs.lemmas.Bool.{and_from, not-true, or_from}
use Rattle.mcal_base.specs.facts.Truths.{and_false, and_first, and_second}
use Rattle.mcal_base.specs.Names.{module_number}
use Rattle.mcal_base.specs.declared.module_name.ModuleName.{ModuleName}
use Rattle.run_model.specs.declared.class.Class.{Class}
use Rattle.run_model.specs.declared.class.Kind.{Kind}
use Rattle.run_model.specs.declared.class.Kind.TheVariants.{Exclusive, Keyed, Guarded, Query}
use Rattle.run_model.specs.declared.class.Tag.{Tag}
use Rattle.run_model.specs.Causes.{same_key, kind_blocks, is_exclusive, class_blocks, blocks, may_reenter, guarded}
use Rattle.run_model.specs.Frame.{Origin, Called, Entered, Open}
use Rattle.run_model.specs.Moment.{Setting, call_tag, line_tag}
use Rattle.step_runner.specs.Driver.{tags_in, origins_in}
use Rattle.step_runner.specs.Union.{first_origins, lift_origin, IsMine, others, Splits, Nothing_open, Left_open, Right_open}
use Rattle.step_runner.specs.declared.either.Either.{Either}
use Rattle.step_runner.specs.declared.either.Either.TheVariants.{Left, Right}
use Rattle.service_outline.specs.guests.Guest.{keeps_off, every, AreMarked, IsGuestTag, NoneOff}

-- ---- tests

not-both : (a b : Bool) → not a ≡ true → b ≡ true → not a && b ≡ true
not-both a b e f = rw (e, f)

no-not : (b : Bool) → b ≡ false → not b ≡ true
no-not b e = rw e

same-number : (m n : ℕ) → (m == n) ≡ (n == m)
same-number m n = grind (arith, nat_tests)

-- ---- what keeps a guest off

-- only an exclusive call does
only-exclusive : (k : Kind) (same : Bool) → kind_blocks Guarded k same ≡ is_exclusive k
only-exclusive Exclusive same = refl
only-exclusive Keyed same = refl
only-exclusive Guarded same = refl
only-exclusive Query same = refl

-- and a guest keeps that off
off-again : (k : Kind) (a b same : Bool) → a ≡ b → a && kind_blocks k Guarded same ≡ false → b && is_exclusive k ≡ false
off-again Exclusive true b same is h = cc
off-again Exclusive false b same is h = rw (sym is) refl
off-again Keyed a b same is h = and_false b
off-again Guarded a b same is h = and_false b
off-again Query a b same is h = and_false b

module _ {State Call : Type 0} (g : Setting State Call) (block : ModuleName) where
  pub marked-call : (c : Call) (level : ℕ) → blocks (guarded block) (call_tag g c level) ≡ keeps_off g block (Called c)
  marked-call c level = ap (λ x. module_number block == module_number (g.class_of c).module && x) (only-exclusive (g.class_of c).kind false)

  pub marked-line : (line : ℕ) → blocks (guarded block) (line_tag g line) ≡ false
  marked-line line = and_false (module_number block == module_number (g.owner_of line))

  pub none-off : {Frame : Type 0} (ps : List (Frame × Open Call)) → AreMarked g block ps → may_reenter (guarded block) (tags_in ps) ≡ true → list_any (keeps_off g block) (origins_in ps) ≡ false
  none-off [] h e = refl
  none-off (p ∷ ps) h e =
      let here = not (blocks (guarded block) p.1.tag) in
      or_from (keeps_off g block p.1.origin) (list_any (keeps_off g block) (origins_in ps)) (sym h.0 ∙ not-true (blocks (guarded block) p.1.tag) (and_first here (may_reenter (guarded block) (tags_in ps)) e)) (none-off ps h.1 (and_second here (may_reenter (guarded block) (tags_in ps)) e))

-- a call that may begin over a guest's frame doesn't keep it off
pub call-lets : (block : ModuleName) (new : Class) (level : ℕ) (t : Tag) → IsGuestTag block t → not (blocks new t) ≡ true → blocks (guarded block) (record { level = level; owner = new.module; class = Some new }) ≡ false
call-lets block new level t is h =
    let a = module_number new.module == module_number block in
    let b = module_number block == module_number new.module in
    let at = subst (λ x. not (module_number new.module == module_number t.owner && class_blocks new x) ≡ true) is.class h in
    let own = subst (λ x. not (module_number new.module == module_number x && class_blocks new (Some (guarded block))) ≡ true) is.owner at in
    let off = off-again new.kind a b (same_key new.key None) (same-number (module_number new.module) (module_number block)) (not-true (a && class_blocks new (Some (guarded block))) own) in
    ap (λ x. b && x) (only-exclusive new.kind false) ∙ off

-- ---- the frames of both

module _ {C D F G : Type 0} (ours : ℕ → Bool) where
  -- what holds of all tags holds of those of the one, and of the other
  pub tags-first : (p : Tag → Bool) (ps : List (Either F G × Open (Either C D))) (fs : List (F × Open C)) (gs : List (G × Open D)) → Splits ours ps fs gs → list_all p (tags_in ps) ≡ true → list_all p (tags_in fs) ≡ true
  tags-first p ps fs gs Nothing_open h = refl
  tags-first p ps fs gs (Left_open f o missed qs fs1 gs1 m all same sp) h = and_from (p o.tag) (list_all p (tags_in fs1)) (and_first (p o.tag) (list_all p (tags_in qs)) h) (tags-first p qs fs1 gs1 sp (and_second (p o.tag) (list_all p (tags_in qs)) h))
  tags-first p ps fs gs (Right_open y o missed qs fs1 gs1 m all same sp) h = tags-first p qs fs1 gs1 sp (and_second (p o.tag) (list_all p (tags_in qs)) h)

  pub tags-second : (p : Tag → Bool) (ps : List (Either F G × Open (Either C D))) (fs : List (F × Open C)) (gs : List (G × Open D)) → Splits ours ps fs gs → list_all p (tags_in ps) ≡ true → list_all p (tags_in gs) ≡ true
  tags-second p ps fs gs Nothing_open h = refl
  tags-second p ps fs gs (Left_open f o missed qs fs1 gs1 m all same sp) h = tags-second p qs fs1 gs1 sp (and_second (p o.tag) (list_all p (tags_in qs)) h)
  tags-second p ps fs gs (Right_open y o missed qs fs1 gs1 m all same sp) h = and_from (p o.tag) (list_all p (tags_in gs1)) (and_first (p o.tag) (list_all p (tags_in qs)) h) (tags-second p qs fs1 gs1 sp (and_second (p o.tag) (list_all p (tags_in qs)) h))

-- the origins of the host's
origin-host : {C D : Type 0} (p : Origin C) (os : List (Origin (Either C D))) → first_origins every (lift_origin Left p ∷ os) ≡ p ∷ first_origins every os
origin-host (Called c) os = refl
origin-host (Entered l) os = refl

origin-guest : {C D : Type 0} (p : Origin D) (os : List (Origin (Either C D))) → IsMine (others every) p → first_origins every (lift_origin Right p ∷ os) ≡ first_origins every os
origin-guest (Called c) os m = refl
origin-guest (Entered l) os m = cc

module _ {C D F G : Type 0} where
  pub origins-hosts : (ps : List (Either F G × Open (Either C D))) (fs : List (F × Open C)) (gs : List (G × Open D)) → Splits every ps fs gs → first_origins every (origins_in ps) ≡ origins_in fs
  origins-hosts ps fs gs Nothing_open = refl
  origins-hosts ps fs gs (Left_open f o missed qs fs1 gs1 m all same sp) = origin-host o.origin (origins_in qs) ∙ ap (λ x. o.origin ∷ x) (origins-hosts qs fs1 gs1 sp)
  origins-hosts ps fs gs (Right_open y o missed qs fs1 gs1 m all same sp) = origin-guest o.origin (origins_in qs) m ∙ origins-hosts qs fs1 gs1 sp

  pub no-hosts : (fs : List (F × Open C)) (gs : List (G × Open D)) → Splits every [] fs gs → fs ≡ []
  no-hosts fs gs Nothing_open = refl

  -- a frame of the host is put on, or goes
  pub off-on : (block : ModuleName) (p : F × Open C) (fs : List (F × Open C)) (gs : List (G × Open D)) → ((q : G × Open D) (qs : List (G × Open D)) → gs ≡ q ∷ qs → blocks (guarded block) p.1.tag ≡ false) → NoneOff block fs gs → NoneOff block (p ∷ fs) gs
  off-on block p fs [] h k = tt
  off-on block p fs (q ∷ qs) h k = not-both (blocks (guarded block) p.1.tag) (may_reenter (guarded block) (tags_in fs)) (no-not (blocks (guarded block) p.1.tag) (h q qs refl)) k

  pub off-less : (block : ModuleName) (p : F × Open C) (fs : List (F × Open C)) (gs : List (G × Open D)) → NoneOff block (p ∷ fs) gs → NoneOff block fs gs
  off-less block p fs [] h = tt
  off-less block p fs (q ∷ qs) h = and_second (not (blocks (guarded block) p.1.tag)) (may_reenter (guarded block) (tags_in fs)) h

  -- a frame of the guest goes
  pub off-last : (block : ModuleName) (fs : List (F × Open C)) (q : G × Open D) (gs : List (G × Open D)) → NoneOff block fs (q ∷ gs) → NoneOff block fs gs
  off-last block fs q [] h = tt
  off-last block fs q (r ∷ rs) h = h
