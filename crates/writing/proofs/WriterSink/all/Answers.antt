use Rattle.std.proofs.Common.{refl, ◌∙◌, ◌+◌, ◌-◌, drop, arith, length-take, length-drop}
use Rattle.writing.specs.Laws.{fills, fills-more, sets-room, wrote}
use Rattle.writing.proofs.WriterSink.all.Goals as goal

pub loop-i-preserved : goal.loop-i-preserved
loop-i-preserved c = rw c.loop-i.invariant (fills-more _ _ _ c.loop-i-test.true)

pub returns : goal.returns
returns c =
    let l = c.args.self.now.out.now in
    let p = c.min-at.result in
    let n = c.min-n.result in
    let e = c.loop-i.invariant
    ∙ fills _ _ _ c.loop-i-test.false (omega (arith, length-take (p + n - p) (drop p l), length-drop p l, length-take n c.args.text.now, c.min-at.ensures, c.min-n.ensures)) in
    wrote (omega arith)
    (record {
      place = omega arith;
      bytes = rw e (sets-room _ _ _ _ _ c.min-at.ensures c.min-n.ensures);
      room = omega arith;
    })
    refl
