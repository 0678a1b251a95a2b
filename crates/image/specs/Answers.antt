-- What the two calls answer, and the number (the manual, section 7) and node of each answer.
use Rattle.std.specs.Prelude.{cond, List, ◌++◌, ℕ, ◌^◌, ltb, length, take, drop, Ok, Err}
use Rattle.words.specs.declared.Wide.{Wide}
use Rattle.words.specs.Wide.{val, wide_of}
use Rattle.words.specs.Bytes.{little_endian, bytes_of}
use Rattle.image.specs.Layout.{image_of, pattern_in}
use Rattle.std.specs.declared.result.Result.{Result}
use Rattle.image.specs.declared.ImageError.{ImageError}
use Rattle.image.specs.declared.ImageError.TheVariants.{TooWide, Short}

-- reading: 10, then 9, then the pattern
unfoldable pub read_of : List ℕ → Wide → Result Wide ImageError
read_of b free =
    cond (ltb (length b) 10) (Err Short)
    (cond (ltb (val free) (2 ^ 79)) (Ok (wide_of (pattern_in (little_endian (take 10 b)) (val free))))
    (Err TooWide))

-- writing: 10, then 9, then done
unfoldable pub write_of : List ℕ → Wide → Result Unit ImageError
write_of b p = cond (ltb (length b) 10) (Err Short) (cond (ltb (val p) (2 ^ 79)) (Ok tt) (Err TooWide))

-- the bytes after a write: the image and what was beyond it; as they were where it is refused
unfoldable pub image_after : List ℕ → Wide → List ℕ
image_after b p =
    cond (ltb (length b) 10) b
    (cond (ltb (val p) (2 ^ 79)) (bytes_of 10 (image_of (val p)) ++ drop 10 b)
    b)

-- the number of the refusal, and the node beside it: an image call names node 0
abbrev pub number_of : ImageError → ℕ
number_of TooWide = 9
number_of Short = 10

abbrev pub node_of : ImageError → ℕ
node_of TooWide = 0
node_of Short = 0
