-- How the code finds a name: by one number for a text, its first byte the lowest.
use Rattle.std.specs.Prelude.{Bool, cond, ◌&&◌, List, map, ℕ, leb, ltb, eqb, length, Option, option_map}
use Rattle.std.specs.List.{find}
use Rattle.forms.specs.declared.names.Name as row
use Rattle.words.specs.Bytes.{little_endian}
use Rattle.texts.specs.Bytes.{all}
use Rattle.texts.specs.Letters.{lower_of}
use Rattle.forms.specs.declared.Family.{Family}

-- in lower case a byte, and not the zero byte
abbrev pub lower_is : ℕ → Bool
lower_is b = ltb 0 (lower_of b) && ltb (lower_of b) 256

-- the letters in lower case; 0 where the text has over eight bytes or a zero byte
unfoldable pub key_of : List ℕ → ℕ
key_of s = cond (leb (length s) 8 && all lower_is s) (little_endian (map lower_of s)) 0

-- what stands beside the first key that is this one, in the source's rows
unfoldable pub family_by : ℕ → List row.Name → Option Family
family_by x rows = option_map (λ (r : row.Name). r.family) (find (λ (r : row.Name). eqb r.key x) rows)
