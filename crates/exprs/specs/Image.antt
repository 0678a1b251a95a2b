-- The 80-bit image in memory, with its integer bit, and a slot's 79-bit pattern, without it
use Rattle.std.specs.Prelude.{ℕ}
use Rattle.lists.specs.Steps.{Built, ◌▸◌}
use Rattle.lists.specs.declared.State.{State}
use Rattle.exprs.specs.Nodes.{konst_of, eq_of, bool_and_of, bool_or_of, bool_not_of, ite_of, extract_of, concat_of}

-- The pattern of an image, or `free` where its integer bit is not what its exponent says
unfoldable pub extended_from_memory_of : State → ℕ → ℕ → Built
extended_from_memory_of s image free =
    extract_of s image 79 79 ▸ λ s sign.
    extract_of s image 78 64 ▸ λ s exponent.
    extract_of s image 63 63 ▸ λ s integer.
    extract_of s image 62 0 ▸ λ s fraction.
    konst_of s 0 15 ▸ λ s zero.
    eq_of s exponent zero ▸ λ s zero_exponent.
    konst_of s 1 1 ▸ λ s one.
    eq_of s integer one ▸ λ s leading.
    bool_not_of s leading ▸ λ s not-leading.
    bool_and_of s zero_exponent not-leading ▸ λ s denormal.
    bool_not_of s zero_exponent ▸ λ s not-zero.
    bool_and_of s not-zero leading ▸ λ s normal.
    bool_or_of s denormal normal ▸ λ s canonical.
    concat_of s exponent fraction ▸ λ s low.
    concat_of s sign low ▸ λ s pattern.
    ite_of s canonical pattern free

-- The image of a pattern: its integer bit is 1 exactly if the exponent is not zero
unfoldable pub extended_to_memory_of : State → ℕ → Built
extended_to_memory_of s pattern =
    extract_of s pattern 78 78 ▸ λ s sign.
    extract_of s pattern 77 63 ▸ λ s exponent.
    extract_of s pattern 62 0 ▸ λ s fraction.
    konst_of s 0 15 ▸ λ s zero.
    eq_of s exponent zero ▸ λ s zero_exponent.
    konst_of s 0 1 ▸ λ s zero_bit.
    konst_of s 1 1 ▸ λ s one_bit.
    ite_of s zero_exponent zero_bit one_bit ▸ λ s integer.
    concat_of s integer fraction ▸ λ s significand.
    concat_of s exponent significand ▸ λ s low.
    concat_of s sign low
