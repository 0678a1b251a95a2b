use Rattle.std.proofs.Common.{le-leb}
use Rattle.smttext.specs.Names.{sort_text}
use Rattle.writing.specs.Bytes.{bytes}
use borrow.Author.Tests.{lt-leb}
use Rattle.smttext.proofs.sort.Goals as goal
use Rattle.smttext.proofs.sort.Goals.{then-s-le80, else-s-le80}

pub returns : goal.returns
unfolding sort_text bytes
returns g c =
    let s = g.met.S.Sink.laws in
    elim c.if-s-le80.branch [
      | then-s-le80 w ↦
          rw (le-leb _ _ w.if-s-le80.true)
          (s.then w.all.ensures (s.then w.decimal.ensures (rw w.out-is at c.put.ensures)))
      | else-s-le80 w ↦
          rw (lt-leb _ _ w.if-s-le80.false)
          (s.then w.all-else-s-le80.ensures (s.then w.format.ensures (rw w.out-is at c.put.ensures)))
    ]
