-- The status word around the three condition codes of a compare
use Rattle.std.specs.Prelude.{ℕ}
use Rattle.lists.specs.Steps.{Built, ◌▸◌}
use Rattle.lists.specs.Nodes.{fresh_of}
use Rattle.lists.specs.declared.State.{State}
use Rattle.exprs.specs.Nodes.{konst_of, extract_of, concat_of}

-- The highest first: B, C3, TOP, C2, C1, C0 and the exception flags; C1 is 0, and what no compare defines is free
unfoldable pub x87_status_word_of : State → ℕ → ℕ → ℕ → Built
x87_status_word_of s c0 c2 c3 =
    fresh_of s 16 ▸ λ s free.
    extract_of s free 15 15 ▸ λ s busy.
    extract_of s free 13 11 ▸ λ s top.
    konst_of s 0 1 ▸ λ s c1.
    extract_of s free 7 0 ▸ λ s exceptions.
    concat_of s c0 exceptions ▸ λ s from-c0.
    concat_of s c1 from-c0 ▸ λ s from-c1.
    concat_of s c2 from-c1 ▸ λ s from-c2.
    concat_of s top from-c2 ▸ λ s from-top.
    concat_of s c3 from-top ▸ λ s from-c3.
    concat_of s busy from-c3
