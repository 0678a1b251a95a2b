-- Literal text, and numbers in decimal and in binary, as bytes.
use Prim.Native.Char as chr
use Prim.Native.String as str
use Rattle.std.specs.Prelude.{cond, List, [], ◌∷◌, ◌++◌, ℕ, zero, suc, ◌+◌, ◌/◌, ◌%◌, ltb}

-- the codes of a text's letters
unfoldable pub bytes : str.String → List ℕ
bytes str.[] = []
bytes (str.◌∷◌ c s) = chr.code c ∷ bytes s

-- the decimal digits of a number, the highest first, at most k of them
unfoldable pub digits : ℕ → ℕ → List ℕ
digits zero v = []
digits (suc k) v = cond (ltb v 10) ((48 + v) ∷ []) (digits k (v / 10) ++ ((48 + v % 10) ∷ []))

-- no word has more than 20 digits
unfoldable pub decimal : ℕ → List ℕ
decimal v = digits 20 v

-- the lowest n bits of a number, the highest first
unfoldable pub bits : ℕ → ℕ → List ℕ
bits zero v = []
bits (suc n) v = bits n (v / 2) ++ ((48 + v % 2) ∷ [])
