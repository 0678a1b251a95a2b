use Rattle.std.proofs.Common.{◌≡◌, min, ◌-◌, arith}
use Rattle.words.proofs.Places.{number_past, number-more, bound-more, power, all-read}
use Rattle.words.proofs.bytes.le.Goals as goal

pub returns-then-s-at : goal.returns-then-s-at
returns-then-s-at g c = (number_past c.args.s.now c.args.at (min g.row.N 8) (omega arith), power 0 g.row.N 0 (omega arith) (omega arith))

pub overflow_mul-number : goal.overflow_mul-number
overflow_mul-number g c = let h = power (min g.row.N 8 - c.loop-i.i) 7 c.loop-i.number (omega arith) c.loop-i.invariant.small in omega arith

pub overflow_add-number : goal.overflow_add-number
overflow_add-number g c = let h = power (min g.row.N 8 - c.loop-i.i) 7 c.loop-i.number (omega arith) c.loop-i.invariant.small in omega arith

pub loop-i-preserved : goal.loop-i-preserved
loop-i-preserved g c =
    let m = min g.row.N 8 in
    let l = c.loop-i in record {
      counts = number-more c.args.s.now c.args.at m l.i c.byte.result l.number (omega arith) (omega arith) c.byte.ensures.0 l.invariant.counts;
      small = bound-more m l.i c.byte.result l.number (omega arith) (omega arith) c.byte.ensures.1 l.invariant.small;
    }

pub returns : goal.returns
returns g c =
    let m = min g.row.N 8 in
    let l = c.loop-i in
    let z : l.i ≡ 0 = omega arith in
    (all-read c.args.s.now c.args.at m l.i l.number z l.invariant.counts, power (m - l.i) g.row.N l.number (omega arith) l.invariant.small)
