use Rattle.std.proofs.Common.{refl, arith}
use Rattle.expression.specs.Reader.{front, is_letter, same}
use Rattle.assembly.specs.Reader.{number_from}
use Rattle.line.proofs.names.place_from.Goals as goal

pub returns-in-99 : goal.returns-in-99
unfolding number_from front is_letter same
returns-in-99 c = rw c.in-99.is (omega arith, λ s. refl)

pub returns-in-100 : goal.returns-in-100
unfolding number_from front is_letter same
returns-in-100 c = rw c.in-100.is (omega arith, λ s. refl)

pub returns-in-102 : goal.returns-in-102
unfolding number_from front is_letter same
returns-in-102 c = rw c.in-102.is (omega arith, λ s. refl)

pub returns-in-105 : goal.returns-in-105
unfolding number_from front is_letter same
returns-in-105 c = rw c.in-105.is (omega arith, λ s. refl)

pub returns-in-106 : goal.returns-in-106
unfolding number_from front is_letter same
returns-in-106 c = rw c.in-106.is (omega arith, λ s. refl)

pub returns-in-108 : goal.returns-in-108
unfolding number_from front is_letter same
returns-in-108 c = rw c.in-108.is (omega arith, λ s. refl)

pub returns-in-109 : goal.returns-in-109
unfolding number_from front is_letter same
returns-in-109 c = rw c.in-109.is (omega arith, λ s. refl)

pub returns-in-110 : goal.returns-in-110
unfolding number_from front is_letter same
returns-in-110 c = rw c.in-110.is (omega arith, λ s. refl)

pub returns-in-111 : goal.returns-in-111
unfolding number_from front is_letter same
returns-in-111 c = rw c.in-111.is (omega arith, λ s. refl)

pub returns-in-112 : goal.returns-in-112
unfolding number_from front is_letter same
returns-in-112 c = rw c.in-112.is (omega arith, λ s. refl)

pub returns-in-114 : goal.returns-in-114
unfolding number_from front is_letter same
returns-in-114 c = rw c.in-114.is (omega arith, λ s. refl)

pub returns-in-115 : goal.returns-in-115
unfolding number_from front is_letter same
returns-in-115 c = rw c.in-115.is (omega arith, λ s. refl)

pub returns-in-116 : goal.returns-in-116
unfolding number_from front is_letter same
returns-in-116 c = rw c.in-116.is (omega arith, λ s. refl)

pub returns-in-120 : goal.returns-in-120
unfolding number_from front is_letter same
returns-in-120 c = rw c.in-120.is (omega arith, λ s. refl)
