use Rattle.std.proofs.Common.{◌≡◌, List, ℕ, ◌++◌, ◌-◌, ◌≤◌, map, take, drop}
use Rattle.smttext.specs.Fill.{filled}
use Rattle.smtwriter.specs.Inside.{hole_text}
use Rattle.smtwriter.proofs.formula.Formula.fill.Given as goal

-- What was written, the bytes since then, and what is left of the template and of the holes, are the whole.
abbrev pub invariant-loop-i : goal.invariant-loop-i
invariant-loop-i g l =
    let f = hole_text l.self.nodes.now in
    (x : List ℕ) × (l.written ≤ l.i) × g.S.Sink.took x l.initial.out l.out
    × (filled l.template (map f l.holes) ≡ x ++ (take (l.i - l.written) (drop l.written l.template) ++ filled (drop l.i l.template) (map f l.rest)))
