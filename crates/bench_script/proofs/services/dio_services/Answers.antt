use Rattle.std.proofs.Common.{◌≡◌, ◌==◌, false, refl, arith}
use Rattle.std.proofs.lemmas.Bool.Decides.{nat_tests}
use Rattle.bench_script.proofs.Fronts.{of_length, none_so_long}
use Rattle.bench_script.proofs.services.dio_services.Goals as goal

pub returns-in-12 : goal.returns-in-12
returns-in-12 c = rw c.in-12.is (λ rest e. of_length 68 12 rest e)

pub returns-in-13 : goal.returns-in-13
returns-in-13 c = rw c.in-13.is (λ rest e. of_length 68 13 rest e)

pub returns-in-15 : goal.returns-in-15
returns-in-15 c = rw c.in-15.is (λ rest e. of_length 68 15 rest e)

pub returns-in-16 : goal.returns-in-16
returns-in-16 c = rw c.in-16.is (λ rest e. of_length 68 16 rest e)

pub returns-in-20 : goal.returns-in-20
returns-in-20 c = rw c.in-20.is (λ rest e. of_length 68 20 rest e)

pub returns-in-21 : goal.returns-in-21
returns-in-21 c = rw c.in-21.is (λ rest e. of_length 68 21 rest e)

pub returns-in_default : goal.returns-in_default
returns-in_default c = λ rest e.
    let not-12 : (c.args.letters == 12) ≡ false = grind (arith, nat_tests, c.in_default) in
    let not-13 : (c.args.letters == 13) ≡ false = grind (arith, nat_tests, c.in_default) in
    let not-15 : (c.args.letters == 15) ≡ false = grind (arith, nat_tests, c.in_default) in
    let not-16 : (c.args.letters == 16) ≡ false = grind (arith, nat_tests, c.in_default) in
    let not-20 : (c.args.letters == 20) ≡ false = grind (arith, nat_tests, c.in_default) in
    let not-21 : (c.args.letters == 21) ≡ false = grind (arith, nat_tests, c.in_default) in
    none_so_long 68 c.args.letters (rw (not-12, not-13, not-15, not-16, not-20, not-21) refl) rest e
