-- The lines of two drivers as one are those of a chip, where those of each are.
use Rattle.std.proofs.Common.{◌≡◌, ℕ, ◌<◌, Bool, true, false, refl}
use Rattle.std.specs.Prelude.{◌||◌}
use Rattle.run_model.specs.Legal.{has_line}
use Rattle.run_model.specs.Moment.{Setting}
use Rattle.run_model.specs.World.{World}
use Rattle.step_runner.specs.Union.{union_setting}
use Rattle.step_runner.specs.declared.either.Either.{Either}
use Rattle.step_runner.specs.declared.either.Either.TheVariants.{Left, Right}
use Rattle.trace_promises.specs.traces.Lines.{HasLines}

of_both : (a b : Bool) (n : ℕ) → (a ≡ true → n < 32) → (b ≡ true → n < 32) → a || b ≡ true → n < 32
of_both true b n f k h = f refl
of_both false b n f k h = k h

module _ {S T C D : Type 0} (ours : ℕ → Bool) (g : Setting S C) (h : Setting T D) where
  polled_by : HasLines g → HasLines h → (w : World) (s : S × T) (call : Either C D) (line : ℕ) → has_line ((union_setting ours g h).machine.polls w s call) line ≡ true → line < 32
  polled_by a b w s (Left x) line e = a.polled w s.0 x line e
  polled_by a b w s (Right y) line e = b.polled w s.1 y line e

  pub union_lines : HasLines g → HasLines h → HasLines (union_setting ours g h)
  union_lines a b = record {
    used = λ line e. of_both (g.used line) (h.used line) line (a.used line) (b.used line) e;
    polled = polled_by a b;
  }
