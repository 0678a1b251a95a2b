-- One more node, statement, input or temporary
use Rattle.std.specs.Prelude.{[], ◌∷◌, ℕ}
use Rattle.lists.specs.Rows.{row, up}
use Rattle.lists.specs.Steps.{Built, ◌▸◌, gives}
use Rattle.lists.specs.declared.State.{State}

-- The state with other counts: nodes, statements, inputs, temporaries
abbrev pub counting : State → ℕ → ℕ → ℕ → ℕ → State
counting s n m i t = record { slots = s.slots; depth = s.depth; nodes = n; statements = m; inputs = i; temporaries = t }

-- One more node, of a kind and with its three fields; the step answers its number
unfoldable pub node_of : State → ℕ → ℕ → ℕ → ℕ → Built
node_of s kind a b c =
    record {
      st = counting s (up s.nodes) s.statements s.inputs s.temporaries;
      val = s.nodes;
      ns = row s.nodes kind a b c ∷ [];
      ss = [];
    }

-- One more statement
unfoldable pub statement_of : State → ℕ → ℕ → ℕ → ℕ → Built
statement_of s kind a b c =
    record {
      st = counting s s.nodes (up s.statements) s.inputs s.temporaries;
      val = 0;
      ns = [];
      ss = row s.statements kind a b c ∷ [];
    }

unfoldable pub input_counted : State → State
input_counted s = counting s s.nodes s.statements (up s.inputs) s.temporaries

unfoldable pub temporary_counted : State → State
temporary_counted s = counting s s.nodes s.statements s.inputs (up s.temporaries)

-- One more input, of so many bits: x87_in_0, x87_in_1, ..
unfoldable pub fresh_of : State → ℕ → Built
fresh_of s bits = node_of s 1 s.inputs bits 0 ▸ λ t v. gives (input_counted t) v

-- The next temporary, of so many bits
unfoldable pub temporary_of : State → ℕ → Built
temporary_of s bits = node_of s 2 s.temporaries bits 0 ▸ λ t v. gives (temporary_counted t) v
