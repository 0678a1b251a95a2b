-- The kinds of nodes, one for each constructor of the Rust's Expr that x87 lifting calls
use Rattle.std.specs.Prelude.{ℕ}
use Rattle.lists.specs.Steps.{Built}
use Rattle.lists.specs.Nodes.{node_of}
use Rattle.lists.specs.declared.State.{State}

-- A named stack slot of so many bits
abbrev pub slot_var_of : State → ℕ → ℕ → Built
slot_var_of s number bits = node_of s 3 number bits 0

-- The status word as it is known by name
abbrev pub fsw_of : State → Built
fsw_of s = node_of s 4 0 0 0

-- A flag by name: 0 CF, 1 PF, 2 ZF
abbrev pub flag_of : State → ℕ → Built
flag_of s flag = node_of s 5 flag 0 0

-- A constant: low word, high word, bits
abbrev pub wide_konst_of : State → ℕ → ℕ → ℕ → Built
wide_konst_of s low high bits = node_of s 6 low high bits

abbrev pub konst_of : State → ℕ → ℕ → Built
konst_of s value bits = node_of s 6 value 0 bits

abbrev pub bv_and_of : State → ℕ → ℕ → Built
bv_and_of s a b = node_of s 7 a b 0

abbrev pub bv_xor_of : State → ℕ → ℕ → Built
bv_xor_of s a b = node_of s 8 a b 0

abbrev pub eq_of : State → ℕ → ℕ → Built
eq_of s a b = node_of s 9 a b 0

abbrev pub bool_and_of : State → ℕ → ℕ → Built
bool_and_of s a b = node_of s 10 a b 0

abbrev pub bool_or_of : State → ℕ → ℕ → Built
bool_or_of s a b = node_of s 11 a b 0

abbrev pub bool_not_of : State → ℕ → Built
bool_not_of s a = node_of s 12 a 0 0

abbrev pub ite_of : State → ℕ → ℕ → ℕ → Built
ite_of s condition a b = node_of s 13 condition a b

abbrev pub extract_of : State → ℕ → ℕ → ℕ → Built
extract_of s x hi lo = node_of s 14 x hi lo

abbrev pub concat_of : State → ℕ → ℕ → Built
concat_of s high low = node_of s 15 high low 0

-- FAdd, FSub, FMul, FDiv by their kind, 16 to 19
abbrev pub fp_arith_of : State → ℕ → ℕ → ℕ → ℕ → Built
fp_arith_of s kind a b rounding = node_of s kind a b rounding

abbrev pub feq_of : State → ℕ → ℕ → Built
feq_of s a b = node_of s 20 a b 0

abbrev pub flt_of : State → ℕ → ℕ → Built
flt_of s a b = node_of s 21 a b 0

abbrev pub fisnan_of : State → ℕ → Built
fisnan_of s a = node_of s 22 a 0 0

abbrev pub fsqrt_of : State → ℕ → ℕ → Built
fsqrt_of s a rounding = node_of s 23 a rounding 0

abbrev pub fround_to_integral_of : State → ℕ → ℕ → Built
fround_to_integral_of s a rounding = node_of s 24 a rounding 0

abbrev pub bv_to_fp_of : State → ℕ → ℕ → Built
bv_to_fp_of s x format = node_of s 25 x 0 format

abbrev pub fp_to_ieee_bv_of : State → ℕ → Built
fp_to_ieee_bv_of s x = node_of s 26 x 0 0

abbrev pub fp_to_sbv_of : State → ℕ → ℕ → ℕ → Built
fp_to_sbv_of s x rounding bits = node_of s 27 x rounding bits

abbrev pub sbv_to_fp_of : State → ℕ → ℕ → ℕ → Built
sbv_to_fp_of s x rounding format = node_of s 28 x rounding format

abbrev pub fp_to_fp_of : State → ℕ → ℕ → ℕ → Built
fp_to_fp_of s x rounding format = node_of s 29 x rounding format
