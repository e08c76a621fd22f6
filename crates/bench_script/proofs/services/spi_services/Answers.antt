use Rattle.std.proofs.Common.{◌≡◌, ◌==◌, false, refl, arith}
use Rattle.std.proofs.lemmas.Bool.Decides.{nat_tests}
use Rattle.bench_script.proofs.Fronts.{of_length, none_so_long}
use Rattle.bench_script.proofs.services.spi_services.Goals as goal

pub returns-in-8 : goal.returns-in-8
returns-in-8 c = rw c.in-8.is (λ rest e. of_length 83 8 rest e)

pub returns-in-10 : goal.returns-in-10
returns-in-10 c = rw c.in-10.is (λ rest e. of_length 83 10 rest e)

pub returns-in-11 : goal.returns-in-11
returns-in-11 c = rw c.in-11.is (λ rest e. of_length 83 11 rest e)

pub returns-in-13 : goal.returns-in-13
returns-in-13 c = rw c.in-13.is (λ rest e. of_length 83 13 rest e)

pub returns-in-16 : goal.returns-in-16
returns-in-16 c = rw c.in-16.is (λ rest e. of_length 83 16 rest e)

pub returns-in-17 : goal.returns-in-17
returns-in-17 c = rw c.in-17.is (λ rest e. of_length 83 17 rest e)

pub returns-in-19 : goal.returns-in-19
returns-in-19 c = rw c.in-19.is (λ rest e. of_length 83 19 rest e)

pub returns-in-21 : goal.returns-in-21
returns-in-21 c = rw c.in-21.is (λ rest e. of_length 83 21 rest e)

pub returns-in-25 : goal.returns-in-25
returns-in-25 c = rw c.in-25.is (λ rest e. of_length 83 25 rest e)

pub returns-in_default : goal.returns-in_default
returns-in_default c = λ rest e.
    let not-8 : (c.args.letters == 8) ≡ false = grind (arith, nat_tests, c.in_default) in
    let not-10 : (c.args.letters == 10) ≡ false = grind (arith, nat_tests, c.in_default) in
    let not-11 : (c.args.letters == 11) ≡ false = grind (arith, nat_tests, c.in_default) in
    let not-13 : (c.args.letters == 13) ≡ false = grind (arith, nat_tests, c.in_default) in
    let not-16 : (c.args.letters == 16) ≡ false = grind (arith, nat_tests, c.in_default) in
    let not-17 : (c.args.letters == 17) ≡ false = grind (arith, nat_tests, c.in_default) in
    let not-19 : (c.args.letters == 19) ≡ false = grind (arith, nat_tests, c.in_default) in
    let not-21 : (c.args.letters == 21) ≡ false = grind (arith, nat_tests, c.in_default) in
    let not-25 : (c.args.letters == 25) ≡ false = grind (arith, nat_tests, c.in_default) in
    none_so_long 83 c.args.letters (rw (not-8, not-10, not-11, not-13, not-16, not-17, not-19, not-21, not-25) refl) rest e
