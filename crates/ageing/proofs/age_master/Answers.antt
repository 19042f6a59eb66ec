-- `ageing::age_master` meets its contract. Assumes nothing.
use Rattle.std.proofs.Common.{◌≡◌, ℕ, ◌+◌, ◌-◌, ◌%◌, List, get_or, set, ap, ◌∙◌, arith, length-set}
use Rattle.ageing.specs.Age.{stale, gone, without, aged_master}
use Rattle.ageing.specs.AgeLaws.{stale-le, gone-le}
use Rattle.ageing.proofs.age_master.Goals as goal

pub overflow_add-master : goal.overflow_add-master
unfolding gone
overflow_add-master c =
    let start = c in
    let aged = c.age_messages in
    let out = c.count_stale-dropped in
    let e : out.result ≡ gone start.args.step start.args.limit start.args.master.now = out.ensures ∙ ap (stale start.args.limit) aged.ensures in
    omega (arith, start.requires.1, gone-le start.args.step start.args.limit start.args.master.now)

pub overflow_sub-master : goal.overflow_sub-master
overflow_sub-master c =
    let start = c in
    let aged = c.age_messages in
    let out = c.count_stale-dropped in
    omega (arith, out.ensures, stale-le start.args.limit aged.new.master)

pub bounds-master-3-2 : goal.bounds-master-3-2
bounds-master-3-2 c = simp length-set (omega arith)

pub returns : goal.returns
unfolding gone aged_master
returns c =
    let start = c in
    let aged = c.age_messages in
    let out = c.count_stale-dropped in
    let w = aged.new.master in
    let e : out.result ≡ gone start.args.step start.args.limit start.args.master.now = out.ensures ∙ ap (stale start.args.limit) aged.ensures in
    let turned : (get_or w 2 0 % 8 + out.result) % 8 ≡ (get_or w 2 0 + out.result) % 8 = omega arith in (
      e,
      ap (λ (x : ℕ). set (set w 2 x) 3 (get_or w 3 0 - out.result)) turned
          ∙ ap (λ (n : ℕ). without n w) out.ensures
          ∙ ap (λ (v : List ℕ). without (stale start.args.limit v) v) aged.ensures,
      omega (arith, start.requires.1, gone-le start.args.step start.args.limit start.args.master.now),
    )
