-- What the shifts and joins of two words make of a pattern and of an image.
use mathlib.Core.Bool.{Bool}
use mathlib.Core.Path.{◌≡◌, ◌∙◌}
use Prim.Native.Nat.{ℕ, ◌+◌, ◌*◌, ◌/◌, ◌%◌, ◌^◌, ◌≤◌, ◌<◌}
use native.Mathlib.Omega.{arith}
use native.Mathlib.Nat.{mod-eq_of_lt, mod-lt, lt_of_lt_of_le}
use lib.Arith.{digits_lt}
use lib.Dec.{eqb, lit≤}
use lib.Pow.{field, pow_pos, shr_lt}
use Rattle.words.specs.Wide.{extract_of}
use Rattle.image.specs.Layout.{integer_bit, has_number, pattern_of}
use Rattle.image.specs.Laws.{pattern-top}

pub image-words : (p b : ℕ) → p < 2 ^ 79 → b ≤ 1
    → ((p / 2 ^ 63 * 2 ^ 1 + b % 2 ^ 1) % 2 ^ 128 * 2 ^ 63 + p % 2 ^ 63) % 2 ^ 128 ≡ (p / 2 ^ 63 * 2 + b) * 2 ^ 63 + p % 2 ^ 63
image-words p b h k =
    let e : b % 2 ^ 1 ≡ b = omega arith in
    let top : p / 2 ^ 63 * 2 + b < 2 ^ 17 = omega arith in
    rw (e, mod-eq_of_lt (lt_of_lt_of_le top (lit≤ {m = 2 ^ 17} {n = 2 ^ 128} tt)))
    (mod-eq_of_lt (lt_of_lt_of_le (digits_lt top (mod-lt p (pow_pos 63))) (lit≤ {m = 2 ^ 17 * 2 ^ 63} {n = 2 ^ 128} tt)))

pub pattern-words : (v : ℕ) → v < 2 ^ 128 → (v / 2 ^ 64 * 2 ^ 63 + v % 2 ^ 63) % 2 ^ 128 ≡ pattern_of v
pattern-words v h =
    rw (pattern-top v)
    (mod-eq_of_lt (lt_of_lt_of_le (digits_lt (shr_lt 64 64 h) (mod-lt v (pow_pos 63))) (lit≤ {m = 2 ^ 64 * 2 ^ 63} {n = 2 ^ 128} tt)))

-- the test of an image's integer bit
pub test : (v b i : ℕ) (t : Bool) → b ≡ extract_of v 63 63 → i ≡ integer_bit (extract_of v 78 64) → t ≡ eqb b i → t ≡ has_number v
test v b i t e f g = g ∙ rw (e, f, field v 1 63, field v 15 64)
