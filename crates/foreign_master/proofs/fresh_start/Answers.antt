-- `foreign_master::fresh_start` meets its contract. Assumes nothing.
use mathlib.Core.Path.{sym, ◌∙◌}
use Rattle.fresh.specs.Fresh.{site_with}
use Rattle.foreign_master.proofs.Steps.{short-refused, settings_refused, begins}
use Rattle.foreign_master.proofs.fresh_start.Goals as goal

pub returns-then-store-lt-STORE_WORDS : goal.returns-then-store-lt-STORE_WORDS
returns-then-store-lt-STORE_WORDS c = let a = c.args in let both = short-refused a.store.now (site_with a.own a.any a.listed.now) a.intervals.now c.if-store-lt-STORE_WORDS.true in
    record { value = both.0; store_after = both.1 }

pub returns-then-not-startable : goal.returns-then-not-startable
returns-then-not-startable c = let a = c.args in
    let f = c.startable in
    let both = settings_refused a.store.now (site_with a.own a.any a.listed.now) a.intervals.now c.if-store-lt-STORE_WORDS.false (sym f.ensures ∙ c.if-not-startable.true) in
    record { value = both.0; store_after = both.1 }

pub returns : goal.returns
returns c = let a = c.args in
    let f = c.startable in
    let t = begins a.store.now (site_with a.own a.any a.listed.now) a.intervals.now c.if-store-lt-STORE_WORDS.false (sym f.ensures ∙ c.if-not-startable.false) in
    record { value = t.0; store_after = c.begin.ensures ∙ t.1 }
