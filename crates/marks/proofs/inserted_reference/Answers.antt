-- `marks::inserted_reference`: the type and the size of the command decide.
use native.Mathlib.Nat.{mod-lt}
use lib.Dec.{lit<}
use mathlib.Core.Path.{sym}
use native.Mathlib.Omega.{arith}
use Rattle.marks.proofs.Laws.{inserted_one, inserted_tag, inserted_address, inserted_none, product_small}
use Rattle.marks.proofs.inserted_reference.Goals as goal

pub returns-then-kind-eq1 : goal.returns-then-kind-eq1
returns-then-kind-eq1 c = sym (inserted_one _ _ c.if-kind-eq1.true)

pub returns-then-c : goal.returns-then-c
returns-then-c c = sym (inserted_tag _ c.args.c c.if-kind-eq2.true c.if-c.true)

pub overflow_mul-result : goal.overflow_mul-result
overflow_mul-result c = omega (arith, product_small c.args.d.numbers c.args.c c.args.c.address _ c.args.d.is c.intervals.ensures)

pub overflow_cast-result-then-kind-eq2 : goal.overflow_cast-result-then-kind-eq2
overflow_cast-result-then-kind-eq2 c = record { fits = mod-lt _ (lit< tt) }

pub returns-then-kind-eq2 : goal.returns-then-kind-eq2
returns-then-kind-eq2 c = sym (inserted_address _ c.args.c _ c.if-kind-eq2.true c.if-c.false c.intervals.ensures)

pub returns : goal.returns
returns c = sym (inserted_none _ _ c.if-kind-eq1.false c.if-kind-eq2.false)
