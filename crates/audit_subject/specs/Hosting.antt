-- A module with a guest, whose calls act on its states: what a run of both is over.
use Rattle.std.specs.Prelude.{◌≡◌, ℕ, Bool, true, [], None}
use Rattle.std.proofs.Common.{refl}
use Rattle.chip_model.specs.Chip.{Chip}
use Rattle.mcal_base.specs.declared.module_name.ModuleName.{ModuleName}
use Rattle.mcal_base.specs.declared.moves.Move.{Move}
use Rattle.mcal_base.specs.declared.notice.Notice.{Notice}
use Rattle.run_model.specs.Causes.{guarded}
use Rattle.run_model.specs.Frame.{Origin, Called, Entered}
use Rattle.run_model.specs.Machine.{Machine}
use Rattle.run_model.specs.Moment.{Setting}
use Rattle.audit_base.specs.Product.{either}
use Rattle.audit_base.specs.declared.either.Either.{Either}
use Rattle.audit_base.specs.declared.either.Either.TheVariants.{Left, Right}
use Rattle.audit_subject.specs.Product.{by_origin, first_origins}

-- What frames of a guest are judged by: its calls are guarded ones of a module, in whose block it works, and make these moves
-- of its own, in at most so many steps.
pub record Lodger : Type 0 where
  pub block : ModuleName
  pub may : Move → Bool
  pub steps : ℕ

-- all lines are the host's
abbrev pub every : ℕ → Bool
every l = true

-- and what is shown
abbrev pub HostShows : {S C D : Type 0} → (Origin C → Notice → Chip → S → Type 0) → Origin (Either C D) → Notice → Chip → S → Type 0
HostShows shows (Called (Left c)) n chip s = shows (Called c) n chip s
HostShows shows (Called (Right d)) n chip s = Unit {0}
HostShows shows (Entered l) n chip s = shows (Entered l) n chip s

-- the run of a host and its guest, over this machine of both
abbrev pub hosting : {S C D : Type 0} → Setting S C → Machine S (Either C D) → Lodger → Setting S (Either C D)
hosting h machine guest = record {
  machine = machine;
  first = h.first;
  class_of = either h.class_of (λ d. guarded guest.block);
  level_of = h.level_of;
  owner_of = h.owner_of;
  used = h.used;
  steps_of = by_origin every h.steps_of (λ o. guest.steps);
  window_of = by_origin every h.window_of (λ o. 32);
  may = by_origin every h.may (λ o made. guest.may made);
  halves = either h.halves (λ d. None);
  must = either h.must (λ d. []);
  fills = h.fills;
  in_use = h.in_use;
  rest = h.rest;
  unmasked = λ chip w s origins. h.unmasked chip w s (first_origins every origins);
  shows = HostShows h.shows;
}

-- a window has at most 32 moves
pub hosting_windows : {S C D : Type 0} (h : Setting S C) → ((o : Origin C) → h.window_of o ≡ 32) → (o : Origin (Either C D)) → by_origin every h.window_of (λ (p : Origin D). 32) o ≡ 32
hosting_windows h windows (Called (Left c)) = windows (Called c)
hosting_windows h windows (Called (Right d)) = refl
hosting_windows h windows (Entered l) = windows (Entered l)
