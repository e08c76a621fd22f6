use Rattle.std.proofs.Common.{◌≡◌, ◌==◌, false, refl, arith}
use Rattle.std.proofs.lemmas.Bool.Decides.{nat_tests}
use Rattle.bench_script.proofs.Fronts.{of_length, none_so_long}
use Rattle.bench_script.proofs.services.wdg_services.Goals as goal

pub returns-in-8 : goal.returns-in-8
returns-in-8 c = rw c.in-8.is (λ rest e. of_length 87 8 rest e)

pub returns-in-11 : goal.returns-in-11
returns-in-11 c = rw c.in-11.is (λ rest e. of_length 87 11 rest e)

pub returns-in-23 : goal.returns-in-23
returns-in-23 c = rw c.in-23.is (λ rest e. of_length 87 23 rest e)

pub returns-in_default : goal.returns-in_default
returns-in_default c = λ rest e.
    let not-8 : (c.args.letters == 8) ≡ false = grind (arith, nat_tests, c.in_default) in
    let not-11 : (c.args.letters == 11) ≡ false = grind (arith, nat_tests, c.in_default) in
    let not-23 : (c.args.letters == 23) ≡ false = grind (arith, nat_tests, c.in_default) in
    none_so_long 87 c.args.letters (rw (not-8, not-11, not-23) refl) rest e
