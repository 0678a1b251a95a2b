-- What holds of images: their fields, and that writing and reading go together.
use Rattle.std.specs.Prelude.{Bool, cond, List, [], ◌∷◌, ◌++◌, ◌≡◌, ℕ, zero, suc, ◌+◌, ◌*◌, ◌/◌, ◌%◌, ◌^◌, ◌≤◌, ◌<◌, eqb, get_or}
use Rattle.std.proofs.Math.Bool.{true, false}
use Rattle.std.proofs.Math.Path.{refl, subst, ap}
use Rattle.std.proofs.Common.{sym, ◌∙◌, mod-lt, arith, lit<, take-append-drop, pow_pos, shr_lt, eq-eqb, eqb-true}
use Rattle.std.proofs.Math.ListN.{length, take, drop}
use Rattle.std.proofs.Math.Pow.{high, low}
use Rattle.std.proofs.Math.Seq.{take_at, length-take-le}
use Rattle.words.specs.Bytes.{little_endian, bytes_of}
use Rattle.image.specs.Layout.{exponent_of, integer_bit, image_of, image_bit, image_exponent, has_number, pattern_of, pattern_in}

-- sign and exponent of an image are its bits from 64 on
pub pattern-top : (v : ℕ) → pattern_of v ≡ v / 2 ^ 64 * 2 ^ 63 + v % 2 ^ 63
unfolding pattern_of
pattern-top v = omega arith

pub bit-small : (e : ℕ) → integer_bit e ≤ 1
bit-small zero = omega arith
bit-small (suc e) = by (eqb (suc e) 0)
  where
    by : (t : Bool) → cond t 0 1 ≤ 1
    by true = omega arith
    by false = omega arith

-- sign and exponent of a pattern are its bits from 63 on
pub image-top : (p : ℕ) → image_of p ≡ (p / 2 ^ 63 * 2 + integer_bit (exponent_of p)) * 2 ^ 63 + p % 2 ^ 63
unfolding image_of
image-top p = let b = integer_bit (exponent_of p) in omega arith

-- the image of a pattern has 80 bits
pub image-small : (p : ℕ) → p < 2 ^ 79 → image_of p < 2 ^ 80
image-small p h = omega (arith, image-top p, bit-small (exponent_of p))

-- an image has its pattern's exponent
pub written-exponent : (p : ℕ) → p < 2 ^ 79 → image_exponent (image_of p) ≡ exponent_of p
written-exponent p h = omega (arith, image-top p, bit-small (exponent_of p))

-- THE WRITTEN BIT IS 1 EXACTLY IF THE EXPONENT IS NONZERO
pub written-bit : (p : ℕ) → p < 2 ^ 79 → image_bit (image_of p) ≡ integer_bit (exponent_of p)
written-bit p h = omega (arith, image-top p, bit-small (exponent_of p))

-- an image gives back its pattern
pub image-pattern : (p : ℕ) → p < 2 ^ 79 → pattern_of (image_of p) ≡ p
image-pattern p h = omega (arith, pattern-top (image_of p), image-top p, bit-small (exponent_of p))

-- every image that is written has a number
pub written-number : (p : ℕ) → p < 2 ^ 79 → has_number (image_of p) ≡ true
written-number p h = eq-eqb (image_bit (image_of p)) (integer_bit (image_exponent (image_of p))) (written-bit p h ∙ ap integer_bit (sym (written-exponent p h)))

made : {h b f h' b' f' : ℕ} → h ≡ h' → b ≡ b' → f ≡ f' → (h * 2 + b) * 2 ^ 63 + f ≡ (h' * 2 + b') * 2 ^ 63 + f'
made x y z = omega arith

-- an image that has a number is the image of its pattern
pub pattern-image : (v : ℕ) → has_number v ≡ true → image_of (pattern_of v) ≡ v
pattern-image v e =
    let b : image_bit v ≡ integer_bit (image_exponent v) = eqb-true (image_bit v) (integer_bit (image_exponent v)) e in
    let small : v % 2 ^ 63 < 2 ^ 63 = mod-lt v (pow_pos 63) in
    let p : pattern_of v / 2 ^ 63 ≡ v / 2 ^ 64 = rw (pattern-top v) (high (v / 2 ^ 64) 63 small) in
    let q : pattern_of v % 2 ^ 63 ≡ v % 2 ^ 63 = rw (pattern-top v) (low (v / 2 ^ 64) 63 small) in
    let x : integer_bit (exponent_of (pattern_of v)) ≡ image_bit v = ap (λ (n : ℕ). integer_bit (n % 2 ^ 15)) p ∙ sym b in
    image-top (pattern_of v) ∙ made p x q ∙ omega arith

-- a number of k bytes is the number of its k bytes
pub little-bytes : (k v : ℕ) → v < 2 ^ (8 * k) → little_endian (bytes_of k v) ≡ v
unfolding bytes_of
little-bytes zero v h = omega arith
little-bytes (suc k) v h =
    let e : 8 * suc k ≡ 8 * k + 8 = omega arith in
    let d : v / 2 ^ 8 < 2 ^ (8 * k) = shr_lt (8 * k) 8 (rw e at h) in
    rw (little-bytes k (v / 256) d) (omega arith)

-- every entry is a byte
abbrev pub Bytes : List ℕ → Type 0
Bytes b = (i : ℕ) → get_or b i 0 < 2 ^ 8

-- bytes are the bytes of their number
pub bytes-little : (s : List ℕ) → Bytes s → bytes_of (length s) (little_endian s) ≡ s
unfolding bytes_of
bytes-little [] f = refl
bytes-little (b ∷ s) f =
    let h : b < 256 = f 0 in
    let q : (b + 256 * little_endian s) / 256 ≡ little_endian s = omega arith in
    let r : (b + 256 * little_endian s) % 256 ≡ b = omega arith in
    rw (q, r, bytes-little s (λ i. f (suc i)))

-- the first of some bytes are bytes
take-bytes : (s : List ℕ) (n : ℕ) → Bytes s → Bytes (take n s)
take-bytes s zero f i = lit< tt
take-bytes [] (suc n) f i = lit< tt
take-bytes (b ∷ s) (suc n) f zero = f 0
take-bytes (b ∷ s) (suc n) f (suc i) = take-bytes s n (λ j. f (suc j)) i

pub length-bytes : (k v : ℕ) → length (bytes_of k v) ≡ k
unfolding bytes_of
length-bytes zero v = refl
length-bytes (suc k) v = ap suc (length-bytes k (v / 256))

-- WRITE THEN READ KEEPS EVERY PATTERN, whatever stood beyond the image, and whatever the free pattern
pub write_read : (p free : ℕ) (beyond : List ℕ) → p < 2 ^ 79
    → pattern_in (little_endian (take 10 (bytes_of 10 (image_of p) ++ beyond))) free ≡ p
unfolding pattern_in
write_read p free beyond h =
    let e : little_endian (take 10 (bytes_of 10 (image_of p) ++ beyond)) ≡ image_of p =
    ap little_endian (take_at (bytes_of 10 (image_of p)) beyond 10 (length-bytes 10 (image_of p)))
    ∙ little-bytes 10 (image_of p) (image-small p h) in
    rw (e, written-number p h) (image-pattern p h)

module _ (b : List ℕ) (free : ℕ) (long : 10 ≤ length b) (bytes : Bytes b) where
  v : ℕ
  v = little_endian (take 10 b)

  ten : bytes_of 10 v ≡ take 10 b
  unfolding v
  ten =
      let e : length (take 10 b) ≡ 10 = length-take-le 10 b long in
      subst (λ (n : ℕ). bytes_of n (little_endian (take 10 b)) ≡ take 10 b) e (bytes-little (take 10 b) (take-bytes b 10 bytes))

  -- READ THEN WRITE KEEPS AN IMAGE whose integer bit is the one that goes with its exponent,
  pub read-write : has_number (little_endian (take 10 b)) ≡ true
      → bytes_of 10 (image_of (pattern_in (little_endian (take 10 b)) free)) ++ drop 10 b ≡ b
  unfolding pattern_in v
  read-write e =
      rw (e, pattern-image (little_endian (take 10 b)) e, ten) (take-append-drop 10 b)

  -- AND NO OTHER
  pub read-write-only : free < 2 ^ 79
      → bytes_of 10 (image_of (pattern_in (little_endian (take 10 b)) free)) ++ drop 10 b ≡ b
      → has_number (little_endian (take 10 b)) ≡ true
  unfolding pattern_in v
  read-write-only h e = by (has_number (little_endian (take 10 b))) refl
    where
      by : (t : Bool) → has_number (little_endian (take 10 b)) ≡ t → has_number (little_endian (take 10 b)) ≡ true
      by true q = q
      by false q =
          let f : bytes_of 10 (image_of free) ++ drop 10 b ≡ b = rw q at e in
          let g : take 10 b ≡ bytes_of 10 (image_of free) =
          ap (take 10) (sym f) ∙ take_at (bytes_of 10 (image_of free)) (drop 10 b) 10 (length-bytes 10 (image_of free)) in
          rw (g, little-bytes 10 (image_of free) (image-small free h)) (written-number free h)
