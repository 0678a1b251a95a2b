use Rattle.std.proofs.Common.{arith, sym, ◌∙◌}
use Rattle.smtreader.specs.Held.{held-ends}
use Rattle.smtreader.specs.Ran.{lent, begun-going, read_all, too_short, ready, on, wider, more, inside, stops, within}
use Rattle.smtreader.proofs.next.Reader.run.Goals as goal

pub loop-at-init : goal.loop-at-init
loop-at-init c = begun-going c.requires

pub overflow_add-result : goal.overflow_add-result
overflow_add-result c =
    let g = c.well_formed in
    let L = c.loop-at in
    let k = lent _ _ c.state.ensures (c.take.ensures.is L.self.columns.seconds.now L.self.columns.thirds.now) in
    omega (arith, within L.invariant _ k _ c.loop-at-test.true c.in-Err.is)

pub returns-in-Err : goal.returns-in-Err
returns-in-Err c =
    let L = c.loop-at in
    let k = lent _ _ c.state.ensures (c.take.ensures.is L.self.columns.seconds.now L.self.columns.thirds.now) in
    record { ends = stops L.invariant _ k _ c.loop-at-test.true c.in-Err.is; wide = L.invariant.wide }

pub next-requires : goal.next-requires
next-requires c =
    let L = c.loop-at in
    let k = lent _ _ c.state.ensures (c.take.ensures.is L.self.columns.seconds.now L.self.columns.thirds.now) in
    ready L.invariant _ k _ c.in-Ok.is

pub overflow_add-at : goal.overflow_add-at
overflow_add-at c =
    let g = c.well_formed in
    let L = c.loop-at in
    let k = lent _ _ c.state.ensures (c.take.ensures.is L.self.columns.seconds.now L.self.columns.thirds.now) in
    omega (arith, inside L.invariant _ k _ c.in-Ok.is)

pub returns-then-self : goal.returns-then-self
returns-then-self c =
    let L = c.loop-at in
    let k = lent _ _ c.state.ensures (c.take.ensures.is L.self.columns.seconds.now L.self.columns.thirds.now) in
    record {
      ends = too_short _ (on L.invariant _ k _ _ c.in-Ok.is c.next.ensures) c.if-self.true;
      wide = wider L.invariant _ k _ _ c.in-Ok.is c.next.ensures;
    }

pub loop-at-smaller : goal.loop-at-smaller
loop-at-smaller c =
    let L = c.loop-at in
    let k = lent _ _ c.state.ensures (c.take.ensures.is L.self.columns.seconds.now L.self.columns.thirds.now) in
    let m = more L.invariant _ k _ c.in-Ok.is in
    let i = inside L.invariant _ k _ c.in-Ok.is in
    omega arith

pub loop-at-preserved : goal.loop-at-preserved
loop-at-preserved c =
    let L = c.loop-at in
    let k = lent _ _ c.state.ensures (c.take.ensures.is L.self.columns.seconds.now L.self.columns.thirds.now) in
    let w = wider L.invariant _ k _ _ c.in-Ok.is c.next.ensures in
    record {
      held = on L.invariant _ k _ _ c.in-Ok.is c.next.ensures;
      wide = w;
      node = (let e = w.kinds in let h = c.if-self.false in omega arith);
    }

pub returns-then-is_done : goal.returns-then-is_done
returns-then-is_done c = record {
  ends = read_all c.loop-at.invariant c.loop-at-test.false (sym c.is_done.ensures ∙ c.if-is_done.true);
  wide = c.loop-at.invariant.wide;
}

pub returns-else-is_done : goal.returns-else-is_done
returns-else-is_done c = record {
  ends = held-ends c.loop-at.invariant.held c.loop-at-test.false (sym c.is_done.ensures ∙ c.if-is_done.false);
  wide = c.loop-at.invariant.wide;
}
