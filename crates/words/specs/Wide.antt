-- Two words as one number, and SMT-LIB's extract and concat of numbers.
use Rattle.std.specs.Prelude.{◌≡◌, ℕ, ◌+◌, ◌*◌, ◌/◌, ◌%◌, ◌^◌, ◌<◌}
use Rattle.std.proofs.Common.{◌∙◌, ap, div-add-mod'}
use Rattle.std.proofs.Math.Pow.{high, low}
use Rattle.words.specs.declared.Wide.{Wide}

-- the number that two words hold
abbrev pub val : Wide → ℕ
val x = x.hi * 2 ^ 64 + x.lo

-- bits hi down to lo of x: what is left of its low hi + 1 bits above the low lo
abbrev pub extract_of : ℕ → ℕ → ℕ → ℕ
extract_of x hi lo = x % 2 ^ (hi + 1) / 2 ^ lo

-- x above y, of which k bits are taken
abbrev pub concat_of : ℕ → ℕ → ℕ → ℕ
concat_of x y k = x * 2 ^ k + y % 2 ^ k

-- the two words of a number
abbrev pub wide_of : ℕ → Wide
wide_of n = record { lo = n % 2 ^ 64; hi = n / 2 ^ 64 }

-- words that hold a number are its words
pub wide-val : (x : Wide) → x.lo < 2 ^ 64 → x ≡ wide_of (val x)
wide-val x h = rw (high x.hi 64 h, low x.hi 64 h)

-- .. and so are words that hold it, whichever way they were made
pub words_of : (r : Wide) (v : ℕ) → r.lo < 2 ^ 64 → val r ≡ v → r ≡ wide_of v
words_of r v h e = wide-val r h ∙ ap wide_of e

-- the words of a number hold it
pub val_of : (r : Wide) (v : ℕ) → r ≡ wide_of v → val r ≡ v
val_of r v e = ap val e ∙ div-add-mod' v (2 ^ 64)
