use Rattle.std.proofs.Common.{◌≡◌, Bool, true, false, ℕ, eqb, get_or, rules, ◌∙◌}
use Rattle.std.proofs.lemmas.Iterator.{first_from_Range}
use borrow.Author.Tests.{tests}
use Rattle.smtgrammar.specs.Next.{gap_from}
use Rattle.smtreader.proofs.Seek.{seek_is}
use Rattle.smtreader.proofs.columns.Columns.gap_from.Goals as goal

pub returns : goal.returns
unfolding gap_from
returns c =
    let ok : ℕ → Bool = λ j. eqb (get_or c.args.self.now.kinds.now j 0) 0 in
    c.unwrap_or.ensures ∙ seek_is ok 65535 c.args.i 65535 _ (first_from_Range _ _ _ _ (λ j. ok j ≡ true) (λ j. ok j ≡ false) c.find.ensures.ran (λ x q k. search (rules, tests)) (λ x q k. search (rules, tests)))
