use Rattle.std.proofs.Common.{◌≡◌, ◌==◌, false, refl, arith}
use Rattle.std.proofs.lemmas.Bool.Decides.{nat_tests}
use Rattle.bench_script.proofs.Fronts.{of_length, none_so_long}
use Rattle.bench_script.proofs.services.mcu_services.Goals as goal

pub returns-in-8 : goal.returns-in-8
returns-in-8 c = rw c.in-8.is (λ rest e. of_length 77 8 rest e)

pub returns-in-11 : goal.returns-in-11
returns-in-11 c = rw c.in-11.is (λ rest e. of_length 77 11 rest e)

pub returns-in-13 : goal.returns-in-13
returns-in-13 c = rw c.in-13.is (λ rest e. of_length 77 13 rest e)

pub returns-in-16 : goal.returns-in-16
returns-in-16 c = rw c.in-16.is (λ rest e. of_length 77 16 rest e)

pub returns-in-18 : goal.returns-in-18
returns-in-18 c = rw c.in-18.is (λ rest e. of_length 77 18 rest e)

pub returns-in-22 : goal.returns-in-22
returns-in-22 c = rw c.in-22.is (λ rest e. of_length 77 22 rest e)

pub returns-in_default : goal.returns-in_default
returns-in_default c = λ rest e.
    let not-8 : (c.args.letters == 8) ≡ false = grind (arith, nat_tests, c.in_default) in
    let not-11 : (c.args.letters == 11) ≡ false = grind (arith, nat_tests, c.in_default) in
    let not-13 : (c.args.letters == 13) ≡ false = grind (arith, nat_tests, c.in_default) in
    let not-16 : (c.args.letters == 16) ≡ false = grind (arith, nat_tests, c.in_default) in
    let not-18 : (c.args.letters == 18) ≡ false = grind (arith, nat_tests, c.in_default) in
    let not-22 : (c.args.letters == 22) ≡ false = grind (arith, nat_tests, c.in_default) in
    none_so_long 77 c.args.letters (rw (not-8, not-11, not-13, not-16, not-18, not-22) refl) rest e
