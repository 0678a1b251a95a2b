-- What the ends of a line need.
use mathlib.Core.Path.{◌≡◌}
use Prim.Native.Nat.{ℕ, ◌<◌}
use native.Mathlib.Omega.{arith}
use Rattle.smtgrammar.specs.declared.Place.{Place}
use Rattle.smtgrammar.specs.declared.Line.{Line}
use Rattle.smtgrammar.specs.State.{Tables}
use Rattle.smtreader.specs.Inside.{Rowed, Terms, Digits, Declares, Fits}

module _ (t : Tables) (p : Place) (l : Line) (v : ℕ) (f : Fits t p l v) where
  row-of : (k b c s : ℕ) → k < 256 → b < 65536 → c < 65536 → s < 3905 → Rowed t l.node k b c s
  row-of k b c s hk hb hc hs = record { room = f.room; node = f.node; kind = hk; second = hb; third = hc; sort = hs }

  pub terms-of : (b c : ℕ) → b < 65536 → c < 65536 → Terms t p l b c
  terms-of b c hb hc = record { ends = record { row = row-of l.kind b c l.sort f.kind hb hc f.sort; count = f.count }; rounding = f.rounding }

  pub digits_of : l.stage ≡ 14 → v < 2 → Digits t p l v
  digits_of e h = record {
    ends = record { row = row-of 6 0 l.sort l.sort (omega arith) (omega arith) (let z = f.sort in omega arith) f.sort; count = f.count };
    high = f.constant e;
    below = h;
  }

  pub declares-of : l.stage ≡ 5 → v < 81 → Declares t p l v
  declares-of e h = record { row = row-of l.kind v 0 v f.kind (omega arith) (omega arith) (omega arith); count = f.count; reads = f.reads e }
