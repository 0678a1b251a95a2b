use Rattle.std.proofs.Common.{◌≡◌, ◌&&◌, ◌-◌, rules, refl, true, false}
use Rattle.std.proofs.lemmas.Iterator.{cases_from_any, YieldsList-from_range}
use borrow.Author.Tests.{tests}
use Rattle.smtgrammar.specs.Present.{below}
use Rattle.smtchoices.proofs.Lowest.{join_is}
use Rattle.smtchoices.proofs.Tables.joins.Goals as goal

pub returns : goal.returns
returns c =
    let a = c.args in
    join_is a.self.now.lowest.now a.n a.s 1 _ _
    (cases_from_any _ _ _ (λ w. below a.self.now.lowest.now w a.n && below a.self.now.lowest.now (a.s - w) a.n ≡ true) (λ w. below a.self.now.lowest.now w a.n && below a.self.now.lowest.now (a.s - w) a.n ≡ false) c.any.ensures.ran
    (YieldsList-from_range 1 a.s _ refl refl) (λ x q k. search (rules, tests)) (λ x q k. search (rules, tests)))
