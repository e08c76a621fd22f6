use Rattle.std.proofs.Common.{◌≡◌, ◌==◌, ◌∙◌, false, refl, arith}
use Rattle.std.proofs.lemmas.Bool.Decides.{nat_tests}
use Rattle.bench_script.proofs.Fronts.{keyword_under, no_keyword}
use Rattle.bench_script.proofs.words.keyword_of.Goals as goal

pub returns-in-97 : goal.returns-in-97
returns-in-97 c = rw c.in-97.is (λ t. c.keyword_or.ensures ∙ keyword_under 97 c.args.word.now t)

pub returns-in-101 : goal.returns-in-101
returns-in-101 c = rw c.in-101.is (λ t. c.keyword_or-in-101.ensures ∙ keyword_under 101 c.args.word.now t)

pub returns-in-108 : goal.returns-in-108
returns-in-108 c = rw c.in-108.is (λ t. c.keyword_or-in-108.ensures ∙ keyword_under 108 c.args.word.now t)

pub returns-in-109 : goal.returns-in-109
returns-in-109 c = rw c.in-109.is (λ t. c.keyword_or-in-109.ensures ∙ keyword_under 109 c.args.word.now t)

pub returns-in-99 : goal.returns-in-99
returns-in-99 c = rw c.in-99.is (λ t. c.keyword_or-in-99.ensures ∙ keyword_under 99 c.args.word.now t)

pub returns-in-117 : goal.returns-in-117
returns-in-117 c = rw c.in-117.is (λ t. c.keyword_or-in-117.ensures ∙ keyword_under 117 c.args.word.now t)

pub returns-in-100 : goal.returns-in-100
returns-in-100 c = rw c.in-100.is (λ t. (rw c.keyword_or-detach.ensures at c.keyword_or-in-100.ensures) ∙ keyword_under 100 c.args.word.now t)

pub returns-in-102 : goal.returns-in-102
returns-in-102 c = rw c.in-102.is (λ t. (rw c.keyword_or-fill.ensures at c.keyword_or-in-102.ensures) ∙ keyword_under 102 c.args.word.now t)

pub returns-in-114 : goal.returns-in-114
returns-in-114 c = rw c.in-114.is (λ t. (rw c.keyword_or-reset.ensures at c.keyword_or-in-114.ensures) ∙ keyword_under 114 c.args.word.now t)

pub returns-in-115 : goal.returns-in-115
returns-in-115 c = rw c.in-115.is (λ t. (rw (c.keyword_or-fault_or_show.ensures, c.keyword_or-show.ensures) at c.keyword_or-in-115.ensures) ∙ keyword_under 115 c.args.word.now t)

pub returns-in-116 : goal.returns-in-116
returns-in-116 c = rw c.in-116.is (λ t. (rw c.keyword_or-trigger.ensures at c.keyword_or-in-116.ensures) ∙ keyword_under 116 c.args.word.now t)

pub returns-in_default : goal.returns-in_default
returns-in_default c = λ t.
    let not-97 : (c.args.letter == 97) ≡ false = grind (arith, nat_tests, c.in_default) in
    let not-99 : (c.args.letter == 99) ≡ false = grind (arith, nat_tests, c.in_default) in
    let not-100 : (c.args.letter == 100) ≡ false = grind (arith, nat_tests, c.in_default) in
    let not-101 : (c.args.letter == 101) ≡ false = grind (arith, nat_tests, c.in_default) in
    let not-102 : (c.args.letter == 102) ≡ false = grind (arith, nat_tests, c.in_default) in
    let not-108 : (c.args.letter == 108) ≡ false = grind (arith, nat_tests, c.in_default) in
    let not-109 : (c.args.letter == 109) ≡ false = grind (arith, nat_tests, c.in_default) in
    let not-114 : (c.args.letter == 114) ≡ false = grind (arith, nat_tests, c.in_default) in
    let not-115 : (c.args.letter == 115) ≡ false = grind (arith, nat_tests, c.in_default) in
    let not-116 : (c.args.letter == 116) ≡ false = grind (arith, nat_tests, c.in_default) in
    let not-117 : (c.args.letter == 117) ≡ false = grind (arith, nat_tests, c.in_default) in
    no_keyword c.args.letter c.args.word.now (rw (not-97, not-99, not-100, not-101, not-102, not-108, not-109, not-114, not-115, not-116, not-117) refl) t
