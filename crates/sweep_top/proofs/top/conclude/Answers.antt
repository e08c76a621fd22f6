use Rattle.std.proofs.Common.{◌≡◌, ℕ, List, Option, None, refl, sym, subst}
use Rattle.bench_script.specs.Lines.{file}
use Rattle.bench_top.specs.declared.refusal.Refusal.TheVariants as refusals
use Rattle.sweep_top.specs.Reads.{read_file}
use Rattle.sweep_top.specs.Sweeps.{EndsSo}
use Rattle.sweep_top.specs.declared.ends.SweepEnd.TheVariants.{Refused}
use Rattle.sweep_top.proofs.Reading.{refused_at}
use Rattle.sweep_top.proofs.top.conclude.Goals as goal

pub returns-in-Some : goal.returns-in-Some
returns-in-Some g c = subst (λ (o : Option (List ℕ × List ℕ)). EndsSo c.args.asked (read_file o) c.with_script.result) (rw c.in-Some.is at c.split_file.ensures.parts) c.with_script.ensures

pub returns-in-None : goal.returns-in-None
returns-in-None g c = let none : file c.args.bytes.now ≡ None = sym (rw c.in-None.is at c.split_file.ensures.parts) in rw none (λ m. refused_at c.args.asked _ (Refused refusals.NoSeparator) refl)
