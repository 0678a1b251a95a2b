-- The end of an assertion, and of a declaration.
use Rattle.std.specs.Prelude.{◌≡◌, cond, ℕ, ◌+◌, ◌-◌, ◌≤◌, leb, eqb}
use Rattle.std.proofs.Common.{arith}
use Rattle.smtgrammar.specs.State.{Tables, no_line}
use Rattle.smtgrammar.specs.Next.{seek, due_from, asserted, entered, obliged, declared}
use Rattle.smtgrammar.specs.Allowed.{format_of}
use Rattle.smtgrammar.specs.declared.Place.{Place}
use Rattle.smtgrammar.specs.declared.Line.{Line}

-- none is due behind the last one
pub due-is : (t : Tables) (top due : ℕ) → top ≤ due → 65535 ≡ due_from t top (due + 1)
unfolding due_from seek
due-is t top due h = let z : top - (due + 1) ≡ 0 = omega arith in rw z

pub ended : (t : Tables) (p : Place) (l : Line) {due : ℕ} → due ≡ due_from t p.top (p.due + 1)
    → record { tables = t; place = record { part = 2; top = p.top; gap = p.gap; next = p.next; owed = p.owed; due = due; count = p.count }; line = no_line } ≡ asserted t p l
unfolding asserted
ended t p l e = rw e

pub declared-ends : (t t' u : Tables) (p : Place) (l : Line) (w b : ℕ) {q : Place}
    → t' ≡ obliged (eqb l.kind 26) l.a (format_of w) t → b ≡ cond (leb l.kind 3) w 0 → u ≡ entered t' l.node l.kind l.a b 0 w → q ≡ (declared t p l w).place
    → record { tables = u; place = q; line = no_line } ≡ declared t p l w
unfolding declared
declared-ends t t' u p l w b e f g h = rw (h, g, f, e)
