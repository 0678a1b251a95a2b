-- Bytes as numbers: a written word's bytes, and a test of every byte.
use Rattle.std.specs.Prelude.{Bool, true, ◌&&◌, List, [], ◌∷◌, ℕ, leb, take}
use Prim.Native.String as str
use Prim.Native.Char as chr
use Rattle.texts.specs.declared.Text.{Text}

-- the bytes of a written word
abbrev pub bytes : str.String → List ℕ
bytes str.[] = []
bytes (str.◌∷◌ c s) = chr.code c ∷ bytes s

-- the test holds of every entry
abbrev pub all : {A : Type 0} → (A → Bool) → List A → Bool
all f [] = true
all f (x ∷ s) = f x && all f s

-- the bytes that a text carries: those past its length are ignored
abbrev pub bytes_of : Text → List ℕ
bytes_of t = take t.len t.bytes

abbrev pub ascii_is : ℕ → Bool
ascii_is b = leb b 127

-- at most 32 bytes, none over 127
unfoldable pub valid_of : Text → Bool
valid_of t = leb t.len 32 && all ascii_is (bytes_of t)
