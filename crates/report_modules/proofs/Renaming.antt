-- Settings that are one but for the names of calls are one, so what is said of runs over the one is said of runs over the other.
use mathlib.Core.Path.{fun_ext, path_j, subst, transport, transport_refl}
use mathlib.Core.Equiv.{Iso, iso_to_equiv}
use Rattle.std.proofs.Common.{◌≡◌, refl, sym, ◌∙◌, ap, List, [], ◌∷◌, map}
use Rattle.mcal_base.specs.declared.directive.Request.{Request}
use Rattle.run_model.specs.Frame.{Origin, Called, Entered}
use Rattle.run_model.specs.Moment.{Setting}
use Rattle.report_modules.specs.machines.Bench.{bench, as_origin, IsOne}
use Rattle.report_modules.specs.machines.Calls.{kept}
use Rattle.report_modules.proofs.Products.{renamed_kept}

-- ---- with the same names

pub origin_kept : {C : Type 0} (o : Origin C) → as_origin kept o ≡ o
origin_kept (Called c) = refl
origin_kept (Entered l) = refl

pub origins_kept : {C : Type 0} (os : List (Origin C)) → map (as_origin kept) os ≡ os
origins_kept [] = refl
origins_kept (o ∷ os) = ap (λ p. p ∷ map (as_origin kept) os) (origin_kept o) ∙ ap (λ ps. o ∷ ps) (origins_kept os)

module _ {S C : Type 0} (g h : Setting S C) (one : IsOne kept g h) where
  same_machine : g.machine ≡ h.machine
  same_machine = λ i. record {
    happens = λ w s x. (one.machine.happens w s x ∙ ap (h.machine.happens w s) (renamed_kept x)) i;
    ready = λ w s l. one.machine.ready w s l i;
    due = λ w s l. one.machine.due w s l i;
    startable = λ w s u. one.machine.startable w s u i;
    line_waits = λ w s l. one.machine.line_waits w s l i;
    rate = λ s. one.machine.rate s i;
    expires = λ w s. one.machine.expires w s i;
    service_of = λ c. one.machine.service_of c i;
    reporting = λ c. one.machine.reporting c i;
    polls = λ w s c. one.machine.polls w s c i;
  }

  pub same_setting : g ≡ h
  same_setting = λ i. record {
    machine = same_machine i;
    first = one.first i;
    class_of = λ c. one.class c i;
    level_of = λ l. one.level l i;
    owner_of = λ l. one.owner l i;
    used = λ l. one.machine.lines l i;
    steps_of = λ o. (one.steps o ∙ ap h.steps_of (origin_kept o)) i;
    window_of = λ o. (one.window o ∙ ap h.window_of (origin_kept o)) i;
    may = λ o made. (one.may o made ∙ ap (λ p. h.may p made) (origin_kept o)) i;
    halves = λ c. one.halves c i;
    must = λ c. one.must c i;
    fills = λ c. one.fills c i;
    in_use = λ w s c. one.in_use w s c i;
    rest = λ chip w s. one.rest chip w s i;
    unmasked = λ chip w s os. (one.unmasked chip w s os ∙ ap (h.unmasked chip w s) (origins_kept os)) i;
    shows = λ o n chip s. (one.shows o n chip s ∙ ap (λ p. h.shows p n chip s) (origin_kept o)) i;
  }

-- ---- with names that are one to one

module _ {S C : Type 0} (g : Setting S C) (ask : Request → C) where
  Renamed : (D : Type 0) → C ≡ D → Type 1
  Renamed D p = (names : C → D) → ((c : C) → transport p c ≡ names c) → (h : Setting S D) (asked : Request → D) → IsOne names g h → ((r : Request) → names (ask r) ≡ asked r) → bench C g ask ≡ bench D h asked

  unrenamed : Renamed C refl
  unfolding Renamed
  unrenamed names over h asked one asks =
      let alike : names ≡ kept = fun_ext (λ c. sym (over c) ∙ transport_refl c) in
      let same : g ≡ h = same_setting g h (subst (λ n. IsOne n g h) alike one) in
      let calls : ask ≡ asked = fun_ext (λ r. ap (λ n. n (ask r)) (sym alike) ∙ asks r) in
      λ i. record { Call = C; setting = same i; call_of = calls i }

  renamed_by : {D : Type 0} (p : C ≡ D) → Renamed D p
  renamed_by p = path_j Renamed unrenamed p

  pub same_bench : {D : Type 0} (one_to_one : Iso C D) (h : Setting S D) (asked : Request → D) → IsOne one_to_one.fun g h → ((r : Request) → one_to_one.fun (ask r) ≡ asked r) → bench C g ask ≡ bench D h asked
  unfolding Renamed transport
  same_bench {D} one_to_one h asked one asks =
      let equal : C ≡ D = λ i. V i C D (iso_to_equiv one_to_one) in
      renamed_by equal one_to_one.fun (λ c. λ j. coe j 1 (_. D) (one_to_one.fun c)) h asked one asks
