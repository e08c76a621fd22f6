-- The laws of a driver with its guest, from those of both.
use Rattle.std.proofs.Common.{◌≡◌, ℕ, ◌+◌, ◌<◌, ◌≤◌, nat_lt, nat_le, Bool, true, false, not, ◌&&◌, ◌||◌, List, [], ◌∷◌, Option, Some, None, is_some, refl, sym, ◌∙◌, ap, subst, arith}
use Rattle.std.specs.Prelude.{option_map}
use Rattle.std.specs.List.{list_any, list_all}
use Rattle.mcal_base.specs.facts.Truths.{and_first}
use Rattle.mcal_base.specs.facts.Options.{some_same}
use Rattle.chip_model.specs.Chip.{Chip, value_of, chip_after, happened, reset_chip, is_masked, is_pending}
use Rattle.chip_model.specs.Histories.{Hardware, FillsThere, Made}
use Rattle.chip_model.proofs.HistoryLaws.{wiring-left}
use Rattle.mcal_base.specs.Bits.{has_bit}
use Rattle.mcal_base.specs.Reach.{CanApply}
use Rattle.mcal_base.specs.declared.answer.Answer.{Answer}
use Rattle.mcal_base.specs.declared.directive.Order.{Order}
use Rattle.mcal_base.specs.declared.directive.Order.TheVariants as orders
use Rattle.mcal_base.specs.declared.directive.Reason.{Reason}
use Rattle.mcal_base.specs.declared.directive.Reason.TheVariants.{PowerOn}
use Rattle.mcal_base.specs.declared.moves.Move.{Move}
use Rattle.mcal_base.specs.declared.moves.Move.TheVariants.{Read, Write, Load, Store, Mask, Unmask, Note, Report}
use Rattle.mcal_base.specs.declared.notice.Notice.{Notice}
use Rattle.mcal_base.specs.declared.register.Reg.TheVariants.{EnableSet, WatchdogLoad}
use Rattle.mcal_base.specs.declared.routine.Taken.{Taken}
use Rattle.run_model.specs.Causes.{blocks, may_reenter, none_above, all_below, guarded}
use Rattle.run_model.specs.Frame.{Origin, Called, Entered, Open, opened, is_shared, is_wait, outcome_at, state_by, state_after, top_after}
use Rattle.run_model.specs.Machine.{Happening, Acts, Serves, Starts, Aborts, Moves, Restarts, Outcome, ErrorLeaves}
use Rattle.run_model.specs.Moment.{Setting, reads_from, call_tag, line_tag}
use Rattle.run_model.specs.World.{World, world_after}
use Rattle.run_model.specs.declared.item.Stepped.{Stepped}
use Rattle.run_model.proofs.OutsideLaws.{stands-move, stands-event, stands-reset}
use Rattle.step_runner.specs.Driver.{Driver, most_steps, IsLawful, AllOutside, tags_in, origins_in, IsFree, ComesRight, KeepsStep, stepped}
use Rattle.step_runner.specs.Lifts.{LiesIn, lift-keeps, out-at, same-state}
use Rattle.step_runner.specs.Union.{either, EitherFits, either_left, either_gave, lift_out, first_call, lift_origin, lift_open, IsMine, SameOn, others, Splits, Nothing_open, Left_open, Right_open}
use Rattle.step_runner.specs.UnionLaws.{outside-split}
use Rattle.step_runner.specs.declared.either.Either.{Either}
use Rattle.step_runner.specs.declared.either.Either.TheVariants.{Left, Right}
use Rattle.service_outline.specs.guests.Frames.{marked-call, marked-line, none-off, call-lets, tags-first, tags-second, origins-hosts, no-hosts, off-on, off-less, off-last}
use Rattle.service_outline.specs.guests.Guest.{Guest, IsPlaced, lone_setting, lone_driver, StandsOn, IsGuest, keeps_off, Hosts, every, guest_setting, AreMarked, AllStand, NoneOff, GuestRelates, guest_of}

-- ---- outcomes

lift-same : {S : Type 0} (x : Option (Outcome S)) → x ≡ lift_out (λ s. s) x
lift-same None = refl
lift-same (Some out) = refl

call-back : {C : Type 0} (D : Type 0) (by : Option C) → first_call {C = C} {D = D} (option_map Left by) ≡ by
call-back D None = refl
call-back D (Some c) = refl

-- a step that keeps something keeps the frame's tag too
with-tag : {State Call Frame : Type 0} (d : Driver State Call Frame) (chip : Chip) (w : World) (s : State) (f later : Frame) (o : Open Call) (st : Stepped) (Kept : State → Open Call → Type 0) → KeepsStep d (record { chip = chip; world = w; state = s; opens = []; steps = 0 }) f o later st Kept → KeepsStep d (record { chip = chip; world = w; state = s; opens = []; steps = 0 }) f o later st (λ s1 o1. Kept s1 o1 × (o1.tag ≡ o.tag))
with-tag d chip w s f later o st Kept k = record {
  event = k.event;
  sends = k.sends;
  halves = k.halves;
  together = k.together;
  errors = k.errors;
  move = k.move;
  shows = k.shows;
  ends = k.ends;
  starts = k.starts;
  writes = k.writes;
  own = k.own;
  reset = k.reset;
  stays = k.stays;
  fuel = k.fuel;
  room = k.room;
  kept = (k.kept, refl);
}

-- a fill that may come is to an array that there is
fills-there : {State Call : Type 0} (g : Setting State Call) (masked : Bool) (w : World) (s : State) (origins : List (Origin Call)) (order : Order) → IsFree g masked w s origins order → FillsThere (Hardware order)
fills-there g masked w s origins (orders.Fill c ws) free = free.1
fills-there g masked w s origins _ free = tt

-- ---- the laws

module _ {S C D F G : Type 0} (d : Driver S C F) (g : Guest S D G) (move_a : F → Move) (left_a : F → ℕ → F) (gave_a : F → ℕ → Taken) (move_b : G → Move) (left_b : G → ℕ → G) (gave_b : G → ℕ → Taken) (la : IsLawful d move_a left_a gave_a) (lb : IsGuest g move_b left_b gave_b) (has : Hosts d g) where
  abbrev both : Setting S (Either C D)
  both = guest_setting d.setting g

  abbrev GRelates : Chip → World → List (Either F G × Open (Either C D)) → S → Type 0
  GRelates = GuestRelates d g

  -- ---- where the chip stands, and how it is wired

  placed-move : (chip : Chip) (w : World) (made : Move) (received : ℕ) → IsPlaced g chip w → IsPlaced g (chip_after chip made received) w
  placed-move chip w made received h = (stands-move chip w made received h.0, subst g.wired (sym (wiring-left chip (Made made received))) h.1)

  placed-event : (chip : Chip) (w : World) (order : Order) → FillsThere (Hardware order) → IsPlaced g chip w → IsPlaced g (happened chip order) (world_after w chip.clock.rate order)
  placed-event chip w order there h = (stands-event chip w order there h.0, subst g.wired (sym (wiring-left chip (Hardware order))) h.1)

  placed-reset : (chip : Chip) (w : World) (reason : Reason) → IsPlaced g chip w → IsPlaced g (reset_chip chip reason) w
  placed-reset chip w reason h = (stands-reset chip w reason h.0, h.1)

  -- ---- how each lies in both

  shows-host : (p : Origin C) (n : Notice) (chip : Chip) (s : S) → d.setting.shows p n chip s → both.shows (lift_origin Left p) n chip s
  shows-host (Called c) n chip s h = h
  shows-host (Entered l) n chip s h = h

  may-host : (p : Origin C) (made : Move) → both.may (lift_origin Left p) made ≡ d.setting.may p made
  may-host (Called c) made = refl
  may-host (Entered l) made = refl

  window-host : (p : Origin C) → both.window_of (lift_origin Left p) ≡ d.setting.window_of p
  window-host (Called c) = refl
  window-host (Entered l) = refl

  polled-host : (ls : List ℕ) → list_all every ls ≡ true
  polled-host [] = refl
  polled-host (l ∷ ls) = polled-host ls

  lies-host : (w : World) (s : S) → LiesIn d.setting both (λ a. a) Left every w s
  lies-host w s = record {
    acts = λ c times. lift-same (d.setting.machine.happens w s (Acts c times));
    serves = λ l r m. lift-same (d.setting.machine.happens w s (Serves l r));
    starts = λ u by r some. ap (λ x. d.setting.machine.happens w s (Starts u x r)) (call-back D by) ∙ lift-same (d.setting.machine.happens w s (Starts u by r));
    aborts = λ u some. lift-same (d.setting.machine.happens w s (Aborts u));
    ready = λ l m. refl;
    services = λ c. refl;
    reporting = λ c. refl;
    polls = λ c. refl;
    polled = λ c. polled-host (d.setting.machine.polls w s c);
    shows = λ p n chip m h. shows-host p n chip s h;
    halves = λ c. refl;
    must = λ c. refl;
    may = λ p made m. may-host p made;
    window = λ p m. window-host p;
  }

  shows-guest : (p : Origin D) (n : Notice) (chip : Chip) (s : S) → IsMine (others every) p → both.shows (lift_origin Right p) n chip s
  shows-guest (Called c) n chip s m = tt
  shows-guest (Entered l) n chip s m = absurd (cc)

  may-guest : (p : Origin D) (made : Move) → IsMine (others every) p → both.may (lift_origin Right p) made ≡ g.may made
  may-guest (Called c) made m = refl
  may-guest (Entered l) made m = absurd (cc)

  window-guest : (p : Origin D) → IsMine (others every) p → both.window_of (lift_origin Right p) ≡ g.window
  window-guest (Called c) m = refl
  window-guest (Entered l) m = absurd (cc)

  lies-guest : (w : World) (s : S) → LiesIn (lone_setting g s) both (λ a. a) Right (others every) w s
  lies-guest w s = record {
    acts = λ c times. refl;
    serves = λ l r m. absurd (cc);
    starts = λ u by r some. absurd (cc);
    aborts = λ u some. absurd (cc);
    ready = λ l m. absurd (cc);
    services = λ c. refl;
    reporting = λ c. refl;
    polls = λ c. refl;
    polled = λ c. refl;
    shows = λ p n chip m h. shows-guest p n chip s m;
    halves = λ c. refl;
    must = λ c. refl;
    may = λ p made m. may-guest p made m;
    window = λ p m. window-guest p m;
  }

  -- ---- a step

  grow-host : (chip : Chip) (w : World) (f f1 : F) (o o1 : Open C) (missed : ℕ → Bool) (ended : Option Answer) (qs : List (Either F G × Open (Either C D))) (fs : List (F × Open C)) (gs : List (G × Open D)) (s : S) → o1.origin ≡ o.origin → o1.tag ≡ o.tag → IsMine every o1.origin → list_all every o1.polled ≡ true → SameOn every missed o1.missed → Splits every qs fs gs → AreMarked d.setting g.block ((f, o) ∷ fs) → AllStand g gs → NoneOff g.block ((f, o) ∷ fs) gs → IsPlaced g chip w → d.relates chip w (top_after (f1, o1) ended fs) s → GRelates chip w (top_after (Left f1, lift_open Left missed o1) ended qs) s
  grow-host chip w f f1 o o1 missed None qs fs gs s is tag m all same sp marked stand apart placed a =
      let mark = ap (λ t. blocks (guarded g.block) t) tag in
      record {
        hosts = (f1, o1) ∷ fs;
        guests = gs;
        splits = Left_open f1 o1 missed qs fs gs m all same sp;
        host = a;
        marked = (mark ∙ (marked.0 ∙ ap (keeps_off d.setting g.block) (sym is)), marked.1);
        stand = stand;
        apart = retag fs gs (f, o) (f1, o1) tag apart;
        placed = placed;
      }
    where
      retag : (hs : List (F × Open C)) (ks : List (G × Open D)) (p q : F × Open C) → q.1.tag ≡ p.1.tag → NoneOff g.block (p ∷ hs) ks → NoneOff g.block (q ∷ hs) ks
      retag hs [] p q e h = tt
      retag hs (k ∷ ks) p q e h = subst (λ t. not (blocks (guarded g.block) t) && may_reenter (guarded g.block) (tags_in hs) ≡ true) (sym e) h
  grow-host chip w f f1 o o1 missed (Some x) qs fs gs s is tag m all same sp marked stand apart placed a = record {
    hosts = fs;
    guests = gs;
    splits = sp;
    host = a;
    marked = marked.1;
    stand = stand;
    apart = off-less g.block (f, o) fs gs apart;
    placed = placed;
  }

  grow-guest : (chip : Chip) (w : World) (f f1 : G) (o o1 : Open D) (missed : ℕ → Bool) (ended : Option Answer) (qs : List (Either F G × Open (Either C D))) (fs : List (F × Open C)) (gs : List (G × Open D)) (s : S) → o1.tag ≡ o.tag → IsMine (others every) o1.origin → list_all (others every) o1.polled ≡ true → SameOn (others every) missed o1.missed → Splits every qs fs gs → AreMarked d.setting g.block fs → AllStand g ((f, o) ∷ gs) → NoneOff g.block fs ((f, o) ∷ gs) → IsPlaced g chip w → d.relates chip w fs s → StandsOn g f1 o1 ended → GRelates chip w (top_after (Right f1, lift_open Right missed o1) ended qs) s
  grow-guest chip w f f1 o o1 missed None qs fs gs s tag m all same sp marked stand apart placed a b = record {
    hosts = fs;
    guests = (f1, o1) ∷ gs;
    splits = Right_open f1 o1 missed qs fs gs m all same sp;
    host = a;
    marked = marked;
    stand = (b, record { owner = ap (λ t. t.owner) tag ∙ stand.1.owner; class = ap (λ t. t.class) tag ∙ stand.1.class }, stand.2);
    apart = apart;
    placed = placed;
  }
  grow-guest chip w f f1 o o1 missed (Some x) qs fs gs s tag m all same sp marked stand apart placed a b = record {
    hosts = fs;
    guests = gs;
    splits = sp;
    host = a;
    marked = marked;
    stand = stand.2;
    apart = off-last g.block fs (f, o) gs apart;
    placed = placed;
  }

  -- the host after a move of the guest's
  host-after : (chip : Chip) (w : World) (fs : List (F × Open C)) (s : S) (made : Move) (received : ℕ) (shared mine : Bool) → is_shared made ≡ shared → g.may made ≡ mine → shared || mine ≡ true → is_masked chip ≡ false → AllOutside fs → may_reenter (guarded g.block) (tags_in fs) ≡ true → d.relates chip w fs s → d.relates (chip_after chip made received) w fs (g.moves_of made s)
  host-after chip w fs s made received true mine is may own masked out lets h =
      subst (λ z. d.relates (chip_after chip made received) w fs z) (sym (lb.leaves made s is))
      (la.undisturbed chip w fs s made received (λ q. unshared (d.owns q made) (is_shared made) is (la.owns_plain q made)) out h)
    where
      unshared : (x shared : Bool) → shared ≡ true → (x ≡ true → shared ≡ false) → x ≡ false
      unshared true shared is plain = let e = plain refl in absurd (cc)
      unshared false shared is plain = refl
  host-after chip w fs s made received false true is may own masked out lets h = has.lets.keeps chip w fs s made received may masked out lets h
  host-after chip w fs s made received false false is may own masked out lets h = absurd (cc)

  mine-same : {X : Type 0} (mine : ℕ → Bool) (p q : Origin X) → q ≡ p → IsMine mine p → IsMine mine q
  mine-same mine p q e m = subst (λ o. IsMine mine o) (sym e) m

  abbrev GKeeps : Chip → World → ℕ → Either F G → Open (Either C D) → List (Either F G × Open (Either C D)) → S → Type 0
  GKeeps chip w received u o ps s = let made = either move_a move_b u in let value = value_of chip made in let taken = either_gave gave_a gave_b u value in KeepsStep (guest_of d g) (record { chip = chip; world = w; state = s; opens = []; steps = 0 }) u o (either_left left_a left_b u value) (stepped made value received taken) (λ s1 o1. GRelates (chip_after chip made received) w (top_after (either_left left_a left_b u value, o1) taken.ended ps) s1)

  -- the guest's step by its own law
  guest-step : (chip : Chip) (w : World) (f : G) (o : Open D) (fs : List (F × Open C)) (gs : List (G × Open D)) (s : S) (received : ℕ) → ComesRight chip w (move_b f) received → is_masked chip ≡ false → AllOutside fs → d.relates chip w fs s → AreMarked d.setting g.block fs → g.stands f o → may_reenter (guarded g.block) (tags_in fs) ≡ true → IsPlaced g chip w → let made = move_b f in let value = value_of chip made in let taken = gave_b f value in KeepsStep (lone_driver g s) (record { chip = chip; world = w; state = s; opens = []; steps = 0 }) f o (left_b f value) (stepped made value received taken) (λ s1 o1. (s1 ≡ g.moves_of made s) × StandsOn g (left_b f value) o1 taken.ended)
  guest-step chip w f o fs gs s received come masked out h marked stands lets placed =
      lb.steps chip w f o s received come stands (has.shows chip w s (origins_in fs) (none-off d.setting g.block fs marked lets) placed (la.unmasked chip w fs s masked out h))

  step-by : (chip : Chip) (w : World) (u : Either F G) (o : Open (Either C D)) (ps : List (Either F G × Open (Either C D))) (s : S) (fs : List (F × Open C)) (gs : List (G × Open D)) → Splits every ((u, o) ∷ ps) fs gs → is_masked chip ≡ o.inside → AllOutside ps → d.relates chip w fs s → AreMarked d.setting g.block fs → AllStand g gs → NoneOff g.block fs gs → IsPlaced g chip w → (received : ℕ) → ComesRight chip w (either move_a move_b u) received → d.count s < most_steps → GKeeps chip w received u o ps s
  step-by chip w u o ps s fs gs (Left_open f o1 missed qs fs1 gs1 m all same sp) masked out x marked stand apart placed received come few =
      let made = move_a f in
      let value = value_of chip made in
      let taken = gave_a f value in
      let k = la.steps chip w f o1 fs1 s received come few masked (outside-split every qs fs1 gs1 sp out).0 x in
      lift-keeps d (guest_of d g) (λ a. a) Left (λ z. Left z) every chip w s f (left_a f value) o1 missed (stepped made value received taken)
      (λ s1 o2. d.relates (chip_after chip made received) w (top_after (left_a f value, o2) taken.ended fs1) s1 × (o2.tag ≡ o1.tag))
      (λ s1 o2. GRelates (chip_after chip made received) w (top_after (Left (left_a f value), o2) taken.ended qs) s1)
      (lies-host w s) (λ z. refl) (λ z. refl) m all same (λ s1 l i. refl)
      (λ s1 o2 missed1 is all1 same1 kept. grow-host (chip_after chip made received) w f (left_a f value) o1 o2 missed1 taken.ended qs fs1 gs1 s1 is kept.1 (mine-same every o1.origin o2.origin is m) all1 same1 sp marked stand apart (placed-move chip w made received placed) kept.0)
      (with-tag d chip w s f (left_a f value) o1 (stepped made value received taken) (λ s1 o2. d.relates (chip_after chip made received) w (top_after (left_a f value, o2) taken.ended fs1) s1) k)
  step-by chip w u o ps s fs gs (Right_open f o1 missed qs fs1 gs1 m all same sp) masked out x marked stand apart placed received come few =
      let made = move_b f in
      let value = value_of chip made in
      let taken = gave_b f value in
      let outs = (outside-split every qs fs1 gs1 sp out).0 in
      let shut = masked ∙ lb.unmasked f o1 stand.0 in
      let k = guest-step chip w f o1 fs1 gs1 s received come shut outs x marked stand.0 apart placed in
      let host = host-after chip w fs1 s made received (is_shared made) (g.may made) refl refl (lb.own f o1 stand.0) shut outs apart x in
      lift-keeps (lone_driver g s) (guest_of d g) (λ a. a) Right (λ z. Right z) (others every) chip w s f (left_b f value) o1 missed (stepped made value received taken)
      (λ s1 o2. ((s1 ≡ g.moves_of made s) × StandsOn g (left_b f value) o2 taken.ended) × (o2.tag ≡ o1.tag))
      (λ s1 o2. GRelates (chip_after chip made received) w (top_after (Right (left_b f value), o2) taken.ended qs) s1)
      (lies-guest w s) (λ z. refl) (λ z. refl) m all same (λ s1 l i. absurd (cc))
      (λ s1 o2 missed1 is all1 same1 kept. grow-guest (chip_after chip made received) w f (left_b f value) o1 o2 missed1 taken.ended qs fs1 gs1 s1 kept.1 (mine-same (others every) o1.origin o2.origin is m) all1 same1 sp marked stand apart (placed-move chip w made received placed) (subst (λ z. d.relates (chip_after chip made received) w fs1 z) (sym kept.0.0) host) kept.0.1)
      (with-tag (lone_driver g s) chip w s f (left_b f value) o1 (stepped made value received taken) (λ s1 o2. (s1 ≡ g.moves_of made s) × StandsOn g (left_b f value) o2 taken.ended) k)

  there-by : (chip : Chip) (w : World) (u : Either F G) (o : Open (Either C D)) (ps : List (Either F G × Open (Either C D))) (s : S) (fs : List (F × Open C)) (gs : List (G × Open D)) → Splits every ((u, o) ∷ ps) fs gs → d.relates chip w fs s → AllStand g gs → CanApply (either move_a move_b u)
  there-by chip w u o ps s fs gs (Left_open f o1 missed qs fs1 gs1 m all same sp) x stand = la.there chip w f o1 fs1 s x
  there-by chip w u o ps s fs gs (Right_open f o1 missed qs fs1 gs1 m all same sp) x stand = lb.there f o1 stand.0

  own-by : (chip : Chip) (w : World) (u : Either F G) (o : Open (Either C D)) (ps : List (Either F G × Open (Either C D))) (s : S) (fs : List (F × Open C)) (gs : List (G × Open D)) → Splits every ((u, o) ∷ ps) fs gs → d.relates chip w fs s → AllStand g gs → is_shared (either move_a move_b u) || both.may o.origin (either move_a move_b u) ≡ true
  own-by chip w u o ps s fs gs (Left_open f o1 missed qs fs1 gs1 m all same sp) x stand = subst (λ q. is_shared (move_a f) || q ≡ true) (sym (may-host o1.origin (move_a f))) (la.own chip w f o1 fs1 s x)
  own-by chip w u o ps s fs gs (Right_open f o1 missed qs fs1 gs1 m all same sp) x stand = subst (λ q. is_shared (move_b f) || q ≡ true) (sym (may-guest o1.origin (move_b f) m)) (lb.own f o1 stand.0)

  opens-by : (chip : Chip) (w : World) (u : Either F G) (o : Open (Either C D)) (ps : List (Either F G × Open (Either C D))) (s : S) (fs : List (F × Open C)) (gs : List (G × Open D)) → Splits every ((u, o) ∷ ps) fs gs → d.relates chip w fs s → AllStand g gs → is_wait (either move_a move_b u) ≡ true → o.inside ≡ false
  opens-by chip w u o ps s fs gs (Left_open f o1 missed qs fs1 gs1 m all same sp) x stand waits = la.opens chip w f o1 fs1 s x waits
  opens-by chip w u o ps s fs gs (Right_open f o1 missed qs fs1 gs1 m all same sp) x stand waits = lb.unmasked f o1 stand.0

  lasts-both : (u : Either F G) → 0 < either d.fuel g.fuel u
  lasts-both (Left f) = la.lasts f
  lasts-both (Right f) = lb.lasts f

  roomy-by : (chip : Chip) (w : World) (u : Either F G) (o : Open (Either C D)) (ps : List (Either F G × Open (Either C D))) (s : S) (fs : List (F × Open C)) (gs : List (G × Open D)) → Splits every ((u, o) ∷ ps) fs gs → d.relates chip w fs s → AllStand g gs → o.inside ≡ true → 0 < (guest_of d g).room u
  roomy-by chip w u o ps s fs gs (Left_open f o1 missed qs fs1 gs1 m all same sp) x stand closed = la.roomy chip w f o1 fs1 s x closed
  roomy-by chip w u o ps s fs gs (Right_open f o1 missed qs fs1 gs1 m all same sp) x stand closed = let e = lb.unmasked f o1 stand.0 in absurd (cc)

  -- ---- the rate

  steady-by : (chip : Chip) (made : Move) (received : ℕ) (shared : Bool) → is_shared made ≡ shared → shared || g.may made ≡ true → (chip_after chip made received).clock.rate ≡ chip.clock.rate
  steady-by chip made received true is h = shared-rate chip made received is
    where
      shared-rate : (c : Chip) (m : Move) (r : ℕ) → is_shared m ≡ true → (chip_after c m r).clock.rate ≡ c.clock.rate
      shared-rate c Mask r e = refl
      shared-rate c Unmask r e = refl
      shared-rate c (Note n) r e = refl
      shared-rate c (Report x) r e = refl
      shared-rate c (Read x) r e = cc
      shared-rate c (Write x v) r e = cc
      shared-rate c (Load k) r e = cc
      shared-rate c (Store k v) r e = cc
  steady-by chip made received false is h = lb.steady chip made received h

  rate-by : (chip : Chip) (w : World) (u : Either F G) (o : Open (Either C D)) (ps : List (Either F G × Open (Either C D))) (s : S) (fs : List (F × Open C)) (gs : List (G × Open D)) → Splits every ((u, o) ∷ ps) fs gs → is_masked chip ≡ o.inside → AllOutside ps → d.relates chip w fs s → AreMarked d.setting g.block fs → AllStand g gs → NoneOff g.block fs gs → IsPlaced g chip w → (received : ℕ) → ComesRight chip w (either move_a move_b u) received → d.count s < most_steps → chip.clock.rate ≡ d.setting.machine.rate s → (chip_after chip (either move_a move_b u) received).clock.rate ≡ d.setting.machine.rate (state_after both.machine w s o (either move_a move_b u) received (either_gave gave_a gave_b u (value_of chip (either move_a move_b u))).event)
  rate-by chip w u o ps s fs gs (Left_open f o1 missed qs fs1 gs1 m all same sp) masked out x marked stand apart placed received come few is =
      let made = move_a f in
      let value = value_of chip made in
      let taken = gave_a f value in
      let outs = (outside-split every qs fs1 gs1 sp out).0 in
      let k = la.steps chip w f o1 fs1 s received come few masked outs x in
      let same_out = out-at d.setting both (λ a. a) Left every w s (lies-host w s) o1 chip (stepped made value received taken) taken.event m k.event in
      la.rate chip w f o1 fs1 s received come few masked outs x is ∙ sym (ap (λ q. d.setting.machine.rate (state_by s q)) same_out ∙ ap d.setting.machine.rate (same-state (λ a. a) s (outcome_at d.setting.machine w s o1 made received taken.event)))
  rate-by chip w u o ps s fs gs (Right_open f o1 missed qs fs1 gs1 m all same sp) masked out x marked stand apart placed received come few is =
      let made = move_b f in
      let value = value_of chip made in
      let taken = gave_b f value in
      let outs = (outside-split every qs fs1 gs1 sp out).0 in
      let k = guest-step chip w f o1 fs1 gs1 s received come (masked ∙ lb.unmasked f o1 stand.0) outs x marked stand.0 apart placed in
      let lone = lone_setting g s in
      let same_out = out-at lone both (λ a. a) Right (others every) w s (lies-guest w s) o1 chip (stepped made value received taken) taken.event m k.event in
      let state_is = ap (state_by s) same_out ∙ (same-state (λ a. a) s (outcome_at lone.machine w s o1 made received taken.event) ∙ k.kept.0) in
      steady-by chip made received (is_shared made) refl (lb.own f o1 stand.0) ∙ (is ∙ sym (ap d.setting.machine.rate state_is ∙ has.lets.rate made s))

  -- ---- beginnings

  call-on : (fs : List (F × Open C)) (gs : List (G × Open D)) (c : C) (level : ℕ) → AllStand g gs → list_all (λ t. not (blocks (d.setting.class_of c) t)) (tags_in gs) ≡ true → NoneOff g.block fs gs → NoneOff g.block ((d.frame_of c, opened (Called c) (call_tag d.setting c level)) ∷ fs) gs
  call-on fs gs c level stand enters apart = off-on g.block (d.frame_of c, opened (Called c) (call_tag d.setting c level)) fs gs (λ q qs is. lets q qs (subst (λ z. AllStand g z) is stand) (subst (λ z. list_all (λ t. not (blocks (d.setting.class_of c) t)) (tags_in z) ≡ true) is enters)) apart
    where
      lets : (q : G × Open D) (qs : List (G × Open D)) → AllStand g (q ∷ qs) → list_all (λ t. not (blocks (d.setting.class_of c) t)) (tags_in (q ∷ qs)) ≡ true → blocks (guarded g.block) (call_tag d.setting c level) ≡ false
      lets q qs stand1 h = call-lets g.block (d.setting.class_of c) level q.1.tag stand1.1 (and_first (not (blocks (d.setting.class_of c) q.1.tag)) (list_all (λ t. not (blocks (d.setting.class_of c) t)) (tags_in qs)) h)

  g-begins : (chip : Chip) (w : World) (ps : List (Either F G × Open (Either C D))) (s : S) (c : Either C D) (level : ℕ) → EitherFits d.can_call g.can_call c → is_masked chip ≡ false → AllOutside ps → may_reenter (both.class_of c) (tags_in ps) ≡ true → none_above (tags_in ps) level ≡ true → GRelates chip w ps s → GRelates chip w (((guest_of d g).frame_of c, opened (Called c) (call_tag both c level)) ∷ ps) s
  g-begins chip w ps s (Left c) level can masked out enters above h =
      let first : F × Open C = (d.frame_of c, opened (Called c) (call_tag d.setting c level)) in
      record {
        hosts = first ∷ h.hosts;
        guests = h.guests;
        splits = Left_open first.0 first.1 (λ l. false) ps h.hosts h.guests tt refl (λ l m. refl) h.splits;
        host = la.begins chip w h.hosts s c level can masked (outside-split every ps h.hosts h.guests h.splits out).0 (tags-first every (λ t. not (blocks (d.setting.class_of c) t)) ps h.hosts h.guests h.splits enters) (tags-first every (λ t. nat_le t.level level) ps h.hosts h.guests h.splits above) h.host;
        marked = (marked-call d.setting g.block c level, h.marked);
        stand = h.stand;
        apart = call-on h.hosts h.guests c level h.stand (tags-second every (λ t. not (blocks (d.setting.class_of c) t)) ps h.hosts h.guests h.splits enters) h.apart;
        placed = h.placed;
      }
  g-begins chip w ps s (Right c) level can masked out enters above h = record {
    hosts = h.hosts;
    guests = (g.frame_of c, opened (Called c) (call_tag (lone_setting g s) c level)) ∷ h.guests;
    splits = Right_open (g.frame_of c) (opened (Called c) (call_tag (lone_setting g s) c level)) (λ l. false) ps h.hosts h.guests tt refl (λ l m. refl) h.splits;
    host = h.host;
    marked = h.marked;
    stand = (lb.begins s c level can, record { owner = refl; class = refl }, h.stand);
    apart = tags-first every (λ t. not (blocks (guarded g.block) t)) ps h.hosts h.guests h.splits enters;
    placed = h.placed;
  }

  g-enters : (chip : Chip) (w : World) (ps : List (Either F G × Open (Either C D))) (s : S) (line : ℕ) (u : Either F G) (x : Option F) → d.handler_of line ≡ x → option_map Left x ≡ Some u → is_masked chip ≡ false → is_pending chip line ≡ true → AllOutside ps → all_below (tags_in ps) (d.setting.level_of line) ≡ true → GRelates chip w ps s → GRelates chip w ((u, opened (Entered line) (line_tag both line)) ∷ ps) s
  g-enters chip w ps s line u None at is masked pending out under h = absurd (cc)
  g-enters chip w ps s line u (Some f) at is masked pending out under h =
      let first : F × Open C = (f, opened (Entered line) (line_tag d.setting line)) in
      subst (λ z. GRelates chip w ((z, opened (Entered line) (line_tag both line)) ∷ ps) s) (some_same is) (record {
        hosts = first ∷ h.hosts;
        guests = h.guests;
        splits = Left_open f first.1 (λ l. false) ps h.hosts h.guests refl refl (λ l m. refl) h.splits;
        host = la.enters chip w h.hosts s line f at masked pending (outside-split every ps h.hosts h.guests h.splits out).0 (tags-first every (λ t. nat_lt t.level (d.setting.level_of line)) ps h.hosts h.guests h.splits under) h.host;
        marked = (marked-line d.setting g.block line, h.marked);
        stand = h.stand;
        apart = off-on g.block first h.hosts h.guests (λ q qs e. marked-line d.setting g.block line) h.apart;
        placed = h.placed;
      })

  -- ---- hardware and resets

  reads-host : (c : ℕ) (p : Origin C) → reads_from both c (lift_origin Left p) ≡ reads_from d.setting c p
  reads-host c (Called x) = refl
  reads-host c (Entered l) = refl

  reads-guest : (c : ℕ) (p : Origin D) → reads_from both c (lift_origin Right p) ≡ false
  reads-guest c (Called x) = refl
  reads-guest c (Entered l) = refl

  -- no call of the guest reads a source array
  reads-by : (c : ℕ) (ps : List (Either F G × Open (Either C D))) (fs : List (F × Open C)) (gs : List (G × Open D)) → Splits every ps fs gs → list_any (reads_from both c) (origins_in ps) ≡ list_any (reads_from d.setting c) (origins_in fs)
  reads-by c ps fs gs Nothing_open = refl
  reads-by c ps fs gs (Left_open f o missed qs fs1 gs1 m all same sp) = ap (λ r. r || list_any (reads_from both c) (origins_in qs)) (reads-host c o.origin) ∙ ap (λ r. reads_from d.setting c o.origin || r) (reads-by c qs fs1 gs1 sp)
  reads-by c ps fs gs (Right_open y o missed qs fs1 gs1 m all same sp) = ap (λ r. r || list_any (reads_from both c) (origins_in qs)) (reads-guest c o.origin) ∙ reads-by c qs fs1 gs1 sp

  free-by : (masked : Bool) (w : World) (ps : List (Either F G × Open (Either C D))) (s : S) (fs : List (F × Open C)) (gs : List (G × Open D)) (order : Order) → Splits every ps fs gs → IsFree both masked w s (origins_in ps) order → IsFree d.setting masked w s (origins_in fs) order
  free-by masked w ps s fs gs (orders.Fill c ws) sp h = (subst (λ r. masked || (d.setting.fills c && (d.setting.in_use w s c || r)) ≡ false) (reads-by c ps fs gs sp) h.0, h.1)
  free-by masked w ps s fs gs (orders.Tick n) sp h = h
  free-by masked w ps s fs gs _ sp h = tt

  g-moves : (chip : Chip) (w : World) (ps : List (Either F G × Open (Either C D))) (s : S) (order : Order) → IsFree both (is_masked chip) w s (origins_in ps) order → (is_masked chip ≡ false → AllOutside ps) → GRelates chip w ps s → (out : Outcome S) × (both.machine.happens w s (Moves order) ≡ Some out) × GRelates (happened chip order) (world_after w chip.clock.rate order) ps out.state
  g-moves chip w ps s order free out h =
      let frees = free-by (is_masked chip) w ps s h.hosts h.guests order h.splits free in
      let x = la.moves chip w h.hosts s order frees (λ e. (outside-split every ps h.hosts h.guests h.splits (out e)).0) h.host in (
        x.0,
        x.1,
        record {
          hosts = h.hosts;
          guests = h.guests;
          splits = h.splits;
          host = x.2;
          marked = h.marked;
          stand = h.stand;
          apart = h.apart;
          placed = placed-event chip w order (fills-there d.setting (is_masked chip) w s (origins_in h.hosts) order frees) h.placed;
        },
      )

  g-resets : (chip : Chip) (w : World) (ps : List (Either F G × Open (Either C D))) (s : S) (reason : Reason) → GRelates chip w ps s → (out : Outcome S) × (both.machine.happens w s (Restarts reason) ≡ Some out) × GRelates (reset_chip chip reason) w [] out.state
  g-resets chip w ps s reason h =
      let x = la.resets chip w h.hosts s reason h.host in
      (x.0, x.1, alone (reset_chip chip reason) w x.0.state x.2 (placed-reset chip w reason h.placed))
    where
      alone : (chip1 : Chip) (w1 : World) (s1 : S) → d.relates chip1 w1 [] s1 → IsPlaced g chip1 w1 → GRelates chip1 w1 [] s1
      alone chip1 w1 s1 a placed = record { hosts = []; guests = []; splits = Nothing_open; host = a; marked = tt; stand = tt; apart = tt; placed = placed }

  -- ---- moves of others, and what frames may do

  none-host : (made : Move) → ((origin : Origin (Either C D)) → (guest_of d g).owns origin made ≡ false) → (p : Origin C) → d.owns p made ≡ false
  none-host made none (Called c) = none (Called (Left c))
  none-host made none (Entered l) = none (Entered l)

  g-undisturbed : (chip : Chip) (w : World) (ps : List (Either F G × Open (Either C D))) (s : S) (made : Move) (received : ℕ) → ((origin : Origin (Either C D)) → (guest_of d g).owns origin made ≡ false) → AllOutside ps → GRelates chip w ps s → GRelates (chip_after chip made received) w ps s
  g-undisturbed chip w ps s made received none out h = record {
    hosts = h.hosts;
    guests = h.guests;
    splits = h.splits;
    host = la.undisturbed chip w h.hosts s made received (none-host made none) (outside-split every ps h.hosts h.guests h.splits out).0 h.host;
    marked = h.marked;
    stand = h.stand;
    apart = h.apart;
    placed = placed-move chip w made received h.placed;
  }

  g-may : (origin : Origin (Either C D)) (made : Move) → both.may origin made ≡ true → (guest_of d g).owns origin made ≡ true
  g-may (Called (Left c)) made h = la.may_owns (Called c) made h
  g-may (Called (Right c)) made h = h
  g-may (Entered l) made h = la.may_owns (Entered l) made h

  g-plain : (origin : Origin (Either C D)) (made : Move) → (guest_of d g).owns origin made ≡ true → is_shared made ≡ false
  g-plain (Called (Left c)) made h = la.owns_plain (Called c) made h
  g-plain (Called (Right c)) made h = lb.plain made h
  g-plain (Entered l) made h = la.owns_plain (Entered l) made h

  g-called : (line : ℕ) (made : Move) → (guest_of d g).owns (Entered line) made ≡ true → (c : Either C D) × ((guest_of d g).owns (Called c) made ≡ true)
  g-called line made h = let k = la.owns_called line made h in (Left k.0, k.1)

  g-enables : (origin : Origin (Either C D)) (bits line : ℕ) → both.may origin (Write EnableSet bits) ≡ true → d.lines line ≡ false → has_bit bits line ≡ false
  g-enables (Called (Left c)) bits line h out = la.enables (Called c) bits line h out
  g-enables (Called (Right c)) bits line h out = let e = lb.enables_none bits in absurd (cc)
  g-enables (Entered l) bits line h out = la.enables (Entered l) bits line h out

  g-loads : (origin : Origin (Either C D)) (value : ℕ) → both.may origin (Write WatchdogLoad value) ≡ true → d.watches ≡ true
  g-loads (Called (Left c)) value h = la.loads (Called c) value h
  g-loads (Called (Right c)) value h = let e = lb.loads_none value in absurd (cc)
  g-loads (Entered l) value h = la.loads (Entered l) value h

  -- ---- what happens

  g-error-leaves : (w : World) (s : S) (c : Either C D) (times : ℕ → ℕ) (out : Outcome S) → both.machine.happens w s (Acts c times) ≡ Some out → ErrorLeaves s out
  g-error-leaves w s (Left c) times out is = la.error_leaves w s c times out is
  g-error-leaves w s (Right c) times out is = subst (λ o. ErrorLeaves s o) (some_same is) (lb.error_leaves w s c)

  count-does : (w : World) (s : S) (c : D) → d.count (g.does w s c).state ≤ d.count s + 1
  count-does w s c =
      let k = lb.changes w s c in
      let less = has.lets.count k.0 s in
      subst (λ x. d.count x ≤ d.count s + 1) (sym k.1) (omega (arith, less))

  g-count : (w : World) (s : S) (h : Happening (Either C D)) (out : Outcome S) → both.machine.happens w s h ≡ Some out → d.count out.state ≤ d.count s + 1
  g-count w s (Acts (Left c) times) out is = la.count_happens w s (Acts c times) out is
  g-count w s (Acts (Right c) times) out is = subst (λ o. d.count o.state ≤ d.count s + 1) (some_same is) (count-does w s c)
  g-count w s (Serves l r) out is = la.count_happens w s (Serves l r) out is
  g-count w s (Starts u by r) out is = la.count_happens w s (Starts u (first_call by) r) out is
  g-count w s (Aborts u) out is = la.count_happens w s (Aborts u) out is
  g-count w s (Moves order) out is = la.count_happens w s (Moves order) out is
  g-count w s (Restarts reason) out is = la.count_happens w s (Restarts reason) out is

  g-call-fuel : (c : Either C D) → EitherFits d.can_call g.can_call c → (guest_of d g).fuel ((guest_of d g).frame_of c) ≤ both.steps_of (Called c)
  g-call-fuel (Left c) can = la.call_fuel c can
  g-call-fuel (Right c) can = lb.call_fuel c can

  g-handled : (x : Option F) (y : Option (Either F G)) → y ≡ option_map Left x → is_some y ≡ is_some x
  g-handled (Some f) y is = ap is_some is
  g-handled None y is = ap is_some is

  g-line-fuel : (line : ℕ) (u : Either F G) (x : Option F) → d.handler_of line ≡ x → option_map Left x ≡ Some u → either d.fuel g.fuel u ≤ d.setting.steps_of (Entered line)
  g-line-fuel line u (Some f) at is = subst (λ z. either d.fuel g.fuel z ≤ d.setting.steps_of (Entered line)) (some_same is) (la.line_fuel line f at)
  g-line-fuel line u None at is = absurd (cc)

  -- a host and its guest that each keep their laws are a lawful driver
  pub guest-lawful : IsLawful (guest_of d g) (either move_a move_b) (either_left left_a left_b) (either_gave gave_a gave_b)
  guest-lawful = record {
    starts = λ chip w wired placed. record { hosts = []; guests = []; splits = Nothing_open; host = la.starts chip w wired.0 placed; marked = tt; stand = tt; apart = tt; placed = placed-reset chip w PowerOn (placed, wired.1) };
    begins = g-begins;
    enters = λ chip w ps s line f is masked pending out under h. g-enters chip w ps s line f (d.handler_of line) refl is masked pending out under h;
    steps = λ chip w f o ps s received come few masked out h. step-by chip w f o ps s h.hosts h.guests h.splits masked out h.host h.marked h.stand h.apart h.placed received come few;
    there = λ chip w f o ps s h. there-by chip w f o ps s h.hosts h.guests h.splits h.host h.stand;
    own = λ chip w f o ps s h. own-by chip w f o ps s h.hosts h.guests h.splits h.host h.stand;
    opens = λ chip w f o ps s h. opens-by chip w f o ps s h.hosts h.guests h.splits h.host h.stand;
    lasts = lasts-both;
    roomy = λ chip w f o ps s h. roomy-by chip w f o ps s h.hosts h.guests h.splits h.host h.stand;
    moves = g-moves;
    resets = g-resets;
    undisturbed = λ chip w ps s made received none out h. g-undisturbed chip w ps s made received none out h;
    may_owns = g-may;
    owns_plain = g-plain;
    owns_called = g-called;
    enables = g-enables;
    used_lines = la.used_lines;
    due_used = λ chip w ps s line out h due. la.due_used chip w h.hosts s line (outside-split every ps h.hosts h.guests h.splits out).0 h.host due;
    due = λ chip w ps s line masked out h due. la.due chip w h.hosts s line masked (outside-split every ps h.hosts h.guests h.splits out).0 h.host due;
    unused = λ chip w ps s line masked out h there free. la.unused chip w h.hosts s line masked (outside-split every ps h.hosts h.guests h.splits out).0 h.host there free;
    rests = λ chip w s line there h. la.rests chip w s line there (subst (λ z. d.relates chip w z s) (no-hosts h.hosts h.guests h.splits) h.host);
    unmasked = λ chip w ps s masked out h. subst (λ os. d.setting.unmasked chip w s os) (sym (origins-hosts ps h.hosts h.guests h.splits)) (la.unmasked chip w h.hosts s masked (outside-split every ps h.hosts h.guests h.splits out).0 h.host);
    rest = λ chip w s h. la.rest chip w s (subst (λ z. d.relates chip w z s) (no-hosts h.hosts h.guests h.splits) h.host);
    waits = λ chip w s u h. la.waits chip w s u (subst (λ z. d.relates chip w z s) (no-hosts h.hosts h.guests h.splits) h.host);
    error_leaves = g-error-leaves;
    count_first = la.count_first;
    count_happens = g-count;
    count_moves = λ w s order out is. la.count_moves w s order out is;
    count_resets = λ w s reason out is. la.count_resets w s reason out is;
    rate_starts = la.rate_starts;
    rate = λ chip w f o ps s received come few masked out h is. rate-by chip w f o ps s h.hosts h.guests h.splits masked out h.host h.marked h.stand h.apart h.placed received come few is;
    rate_moves = λ w s order out is. la.rate_moves w s order out is;
    rate_resets = λ chip w s reason out is. la.rate_resets chip w s reason out is;
    loads = g-loads;
    expiry = λ chip w ps s has osc h. la.expiry chip w h.hosts s has osc h.host;
    unwatched = la.unwatched;
    handled = λ line. g-handled (d.handler_of line) (option_map Left (d.handler_of line)) refl ∙ la.handled line;
    call_fuel = g-call-fuel;
    line_fuel = λ line f is. g-line-fuel line f (d.handler_of line) refl is;
  }
