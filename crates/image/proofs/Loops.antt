-- The number in an image's bytes, and one turn of the loop that stores them.
use mathlib.Core.List.{List, [], ◌++◌, append_assoc, append-nil}
use mathlib.Core.Path.{◌≡◌, refl, sym, ◌∙◌}
use Prim.Native.Nat.{ℕ, zero, suc, ◌+◌, ◌-◌, ◌*◌, ◌/◌, ◌%◌, ◌^◌, ◌≤◌, ◌<◌}
use native.Mathlib.Numerals.{add-one}
use native.Mathlib.Omega.{arith}
use lib.ListN.{length, take, drop, set}
use lib.Seq.{drop-cons, take-suc-set}
use lib.Bits.{bit_and, and_mask}
use Rattle.std.proofs.Common.{take_all}
use Rattle.words.specs.Bytes.{little_endian, bytes_of, number_in}

-- the number of n bytes at a place
pub in_bytes : (s : List ℕ) (n p : ℕ) → p + n ≤ length s → number_in s p n ≡ little_endian (take n (drop p s))
in_bytes s zero p h = refl
in_bytes s (suc n) p h =
    rw (drop-cons s p 0 (omega arith), ← add-one p, ← in_bytes s n (p + 1) (omega arith))

-- a byte stored, and the rest of the number behind it
pub put-more : (image : List ℕ) (i v : ℕ) → i < 10 → i < length image
    → take (i + 1) (set image i (v % 256)) ++ bytes_of (10 - (i + 1)) (v / 256) ≡ take i image ++ bytes_of (10 - i) v
unfolding bytes_of
put-more image i v h k =
    let e : 10 - i ≡ suc (10 - (i + 1)) = omega arith in
    rw (add-one, take-suc-set image i (v % 256) k, append_assoc, ← add-one i, e)

-- all ten bytes are stored
pub put-ends : (image : List ℕ) (v rest i : ℕ) → length image ≡ 10 → i ≡ 10 → take i image ++ bytes_of (10 - i) rest ≡ bytes_of 10 v → image ≡ bytes_of 10 v
unfolding bytes_of
put-ends image v rest i h e f =
    let f' : take 10 image ++ [] ≡ bytes_of 10 v = rw e at f in
    sym (take_all 10 image (omega arith)) ∙ sym (append-nil (take 10 image)) ∙ f'

-- the byte that is stored
pub low-byte : (h l : ℕ) → bit_and l 255 ≡ (h * 2 ^ 64 + l) % 256
low-byte h l = and_mask l 8 ∙ omega arith
