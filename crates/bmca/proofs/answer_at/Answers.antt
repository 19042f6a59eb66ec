-- `bmca::answer_at` meets its contract. Assumes nothing.
use native.Mathlib.Omega.{arith}
use native.Mathlib.Numerals.{add-one}
use Rattle.book.proofs.Rules.{held}
use Rattle.bmca.proofs.answer_at.Goals as goal

pub returns : goal.returns
returns c = λ i. record { port_number = add-one c.args.q i; state = c.state_at.ensures i }

pub overflow_cast-result : goal.overflow_cast-result
overflow_cast-result c = omega (arith, (held c.args.store.now c.requires.1).ports)

pub overflow_add-result : goal.overflow_add-result
overflow_add-result c = omega (arith, (held c.args.store.now c.requires.1).ports)
