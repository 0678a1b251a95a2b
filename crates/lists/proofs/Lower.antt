-- One turn of `ensure`: one more input, and one fewer missing
use mathlib.Core.Path.{◌≡◌}
use Prim.Native.Nat.{ℕ, suc, ◌+◌, ◌-◌, ◌≤◌}
use native.Mathlib.Omega.{arith}
use borrow.Author.Tests.{lt-ltb}
use Rattle.lists.specs.Steps.{Built, ◌▸◌, gives}
use Rattle.lists.specs.Nodes.{node_of, input_counted, fresh_of}
use Rattle.lists.specs.Stack.{grown, bottom_of, lowered}
use Rattle.lists.specs.declared.State.{State}

-- What is done down to place i
abbrev pub down_to : ℕ → State → Built
down_to i s = lowered (i + 1 - s.depth) s

pub deeper : (s : State) → s.depth ≤ 7 → (bottom_of s).st.depth ≡ s.depth + 1
unfolding bottom_of grown fresh_of node_of input_counted ◌▸◌ gives
deeper s h = simp (lt-ltb s.depth 8 (omega arith))

pub turn : (i : ℕ) (s : State) → i ≤ 7 → s.depth ≤ i → down_to i s ≡ (bottom_of s ▸ λ t _. down_to i t)
unfolding lowered ◌▸◌
turn i s low h =
    let d = deeper s (omega arith) in
    let fewer : i + 1 - s.depth ≡ suc (i + 1 - (bottom_of s).st.depth) = omega arith in
    rw fewer

pub none : (i : ℕ) (s : State) → i + 1 ≤ s.depth → down_to i s ≡ gives s 0
unfolding lowered
none i s h = let z : i + 1 - s.depth ≡ 0 = omega arith in rw z
