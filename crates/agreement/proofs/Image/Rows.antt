-- The rows that read an 80-bit image and those that write one, and what they evaluate to
use Rattle.std.specs.Prelude.{◌≡◌, Bool, true, false, cond, ◌&&◌, ◌||◌, List, [], ◌∷◌, ℕ, ◌+◌, ◌*◌, ◌/◌, ◌^◌, ◌≤◌, ◌<◌, ltb, eqb}
use Rattle.std.proofs.Math.Path.{refl}
use Rattle.std.proofs.Common.{sym, subst, mod-lt, pow_pos}
use Rattle.std.proofs.Math.Bool.{not}
use native.Mathlib.Omega.{arith}
use Rattle.std.proofs.Math.Pow.{field}
use borrow.Author.Tests.{ltb-true, eqb-true, eqb-false, eq-eqb, ne_eqb}
use Rattle.lists.specs.Rows.{Row, row, up}
use Rattle.lists.specs.Steps.{Built, ◌▸◌}
use Rattle.lists.specs.Nodes.{node_of}
use Rattle.lists.specs.declared.State.{State}
use Rattle.exprs.specs.Image.{extended_from_memory_of, extended_to_memory_of}
use Rattle.words.specs.Wide.{extract_of, concat_of}
use Rattle.image.specs.Layout.{sign_of, exponent_of, fraction_of, image_of, integer_bit, image_bit, image_sign, image_exponent, image_fraction, pattern_of, pattern_in}
use Rattle.image.specs.Laws.{bit-small}
use Rattle.sorts.specs.Sorts.{sort_row}
use Rattle.evaluator.specs.Value.{flag_of, computed}
use Rattle.agreement.proofs.InWords.{InWords}
use Rattle.agreement.proofs.Stands.{after-exact}
use Rattle.agreement.specs.Values.{Has, earlier, unread, has, not-has, and-has, or-has, is-flag}

-- The rows that read an image, and that write one, from node n on
abbrev read_rows : ℕ → ℕ → ℕ → List Row
read_rows n raw free =
    row n 14 raw 79 79 ∷
    row (n + 1) 14 raw 78 64 ∷
    row (n + 2) 14 raw 63 63 ∷
    row (n + 3) 14 raw 62 0 ∷
    row (n + 4) 6 0 0 15 ∷
    row (n + 5) 9 (n + 1) (n + 4) 0 ∷
    row (n + 6) 6 1 0 1 ∷
    row (n + 7) 9 (n + 2) (n + 6) 0 ∷
    row (n + 8) 12 (n + 7) 0 0 ∷
    row (n + 9) 10 (n + 5) (n + 8) 0 ∷
    row (n + 10) 12 (n + 5) 0 0 ∷
    row (n + 11) 10 (n + 10) (n + 7) 0 ∷
    row (n + 12) 11 (n + 9) (n + 11) 0 ∷
    row (n + 13) 15 (n + 1) (n + 3) 0 ∷
    row (n + 14) 15 n (n + 13) 0 ∷
    row (n + 15) 13 (n + 12) (n + 14) free ∷
    []

abbrev write_rows : ℕ → ℕ → List Row
write_rows n pattern =
    row n 14 pattern 78 78 ∷
    row (n + 1) 14 pattern 77 63 ∷
    row (n + 2) 14 pattern 62 0 ∷
    row (n + 3) 6 0 0 15 ∷
    row (n + 4) 9 (n + 1) (n + 3) 0 ∷
    row (n + 5) 6 0 0 1 ∷
    row (n + 6) 6 1 0 1 ∷
    row (n + 7) 13 (n + 4) (n + 5) (n + 6) ∷
    row (n + 8) 15 (n + 7) (n + 2) 0 ∷
    row (n + 9) 15 (n + 1) (n + 8) 0 ∷
    row (n + 10) 15 n (n + 9) 0 ∷
    []

one_less : (v n k : ℕ) → n + k < 4294967294 → up v ≡ n + (k + 1) → v ≡ n + k
unfolding up
one_less v n k h e = omega arith

-- The steps of the lifter add just these
module _ (s : State) (few : s.nodes ≤ 65600) where
  abbrev n : ℕ
  n = s.nodes

  first : up n ≡ n + 1
  unfolding up
  first = omega arith

  next : (k : ℕ) → ltb k 16 ≡ true → up (n + k) ≡ n + (k + 1)
  unfolding up
  next k h = omega (arith, ltb-true k 16 h)

  read-rows : (raw free : ℕ) → (extended_from_memory_of s raw free).ns ≡ read_rows n raw free
  unfolding extended_from_memory_of ◌▸◌ node_of
  read-rows raw free =
      rw (first, next 1 refl, next 2 refl, next 3 refl, next 4 refl, next 5 refl, next 6 refl, next 7 refl, next 8 refl, next 9 refl, next 10 refl, next 11 refl, next 12 refl, next 13 refl, next 14 refl)

  read_count : (raw free : ℕ) → (extended_from_memory_of s raw free).st.nodes ≡ n + 16
  unfolding extended_from_memory_of ◌▸◌ node_of
  read_count raw free = after-exact n (extended_from_memory_of s raw free).ns (omega arith)

  read-val : (raw free : ℕ) → (extended_from_memory_of s raw free).val ≡ n + 15
  unfolding extended_from_memory_of ◌▸◌ node_of
  read-val raw free = one_less (extended_from_memory_of s raw free).val n 15 (omega arith) (read_count raw free)

  write-rows : (pattern : ℕ) → (extended_to_memory_of s pattern).ns ≡ write_rows n pattern
  unfolding extended_to_memory_of ◌▸◌ node_of
  write-rows pattern =
      rw (first, next 1 refl, next 2 refl, next 3 refl, next 4 refl, next 5 refl, next 6 refl, next 7 refl, next 8 refl, next 9 refl)

  pub write-count : (pattern : ℕ) → (extended_to_memory_of s pattern).st.nodes ≡ n + 11
  unfolding extended_to_memory_of ◌▸◌ node_of
  write-count pattern = after-exact n (extended_to_memory_of s pattern).ns (omega arith)

  write-val : (pattern : ℕ) → (extended_to_memory_of s pattern).val ≡ n + 10
  unfolding extended_to_memory_of ◌▸◌ node_of
  write-val pattern = one_less (extended_to_memory_of s pattern).val n 10 (omega arith) (write-count pattern)

-- The rows read row by row
module _ (w g : List ℕ) (n raw free v f : ℕ) (stands : InWords w (read_rows n raw free)) (r : raw < n) (q : free < n) (image : Has w g raw 80 v) (other : Has w g free 79 f) where
  abbrev zero_is : Bool
  zero_is = eqb (extract_of v 78 64) 0

  abbrev leads : Bool
  leads = eqb (extract_of v 63 63) 1

  read_has : Has w g (n + 15) 79
      (cond ((zero_is && not leads) || (not zero_is && leads)) (concat_of (extract_of v 79 79) (concat_of (extract_of v 78 64) (extract_of v 62 0) 63) 78) f)
  unfolding sort_row computed
  read_has =
      let s1 = stands.1 in
      let s2 = s1.1 in
      let s3 = s2.1 in
      let s4 = s3.1 in
      let s5 = s4.1 in
      let s6 = s5.1 in
      let s7 = s6.1 in
      let s8 = s7.1 in
      let s9 = s8.1 in
      let s10 = s9.1 in
      let s11 = s10.1 in
      let s12 = s11.1 in
      let s13 = s12.1 in
      let s14 = s13.1 in
      let s15 = s14.1 in
      let sign : Has w g n 1 (extract_of v 79 79) = has stands.0 refl (earlier r image) unread unread in
      let exponent : Has w g (n + 1) 15 (extract_of v 78 64) = has s1.0 refl (earlier (omega arith) image) unread unread in
      let integer : Has w g (n + 2) 1 (extract_of v 63 63) = has s2.0 refl (earlier (omega arith) image) unread unread in
      let fraction : Has w g (n + 3) 63 (extract_of v 62 0) = has s3.0 refl (earlier (omega arith) image) unread unread in
      let zero : Has w g (n + 4) 15 0 = has s4.0 refl unread unread unread in
      let zero_exponent : Has w g (n + 5) 1 (flag_of zero_is) = has s5.0 refl (earlier (omega arith) exponent) (earlier (omega arith) zero) unread in
      let one : Has w g (n + 6) 1 1 = has s6.0 refl unread unread unread in
      let leading : Has w g (n + 7) 1 (flag_of leads) = has s7.0 refl (earlier (omega arith) integer) (earlier (omega arith) one) unread in
      let not-leading = not-has leads s8.0 (omega arith) leading in
      let denormal = and-has zero_is (not leads) s9.0 (omega arith) (omega arith) zero_exponent not-leading in
      let not-zero = not-has zero_is s10.0 (omega arith) zero_exponent in
      let normal = and-has (not zero_is) leads s11.0 (omega arith) (omega arith) not-zero leading in
      let canonical = or-has (zero_is && not leads) (not zero_is && leads) s12.0 (omega arith) (omega arith) denormal normal in
      let low : Has w g (n + 13) 78 (concat_of (extract_of v 78 64) (extract_of v 62 0) 63) = has s13.0 refl (earlier (omega arith) exponent) (earlier (omega arith) fraction) unread in
      let pattern : Has w g (n + 14) 79 (concat_of (extract_of v 79 79) (concat_of (extract_of v 78 64) (extract_of v 62 0) 63) 78) = has s14.0 refl (earlier (omega arith) sign) (earlier (omega arith) low) unread in
      rw is-flag at (has s15.0 refl (earlier (omega arith) canonical) (earlier (omega arith) pattern) (earlier (omega arith) other))

canonical : (x y : Bool) (i : ℕ) → i < 2 → eqb i 1 ≡ y → (x && not y) || (not x && y) ≡ eqb i (cond x 0 1)
canonical true true i h e = let q = eqb-true i 1 e in sym (ne_eqb i 0 (λ z. omega arith))
canonical true false i h e = let q = eqb-false i 1 e in sym (eq-eqb i 0 (omega arith))
canonical false y i h e = sym e

top_bit : (v : ℕ) → v < 2 ^ 80 → extract_of v 79 79 ≡ image_sign v
top_bit v h = omega arith

joined : (t e v : ℕ) → e < 2 ^ 15 → concat_of t (concat_of e (extract_of v 62 0) 63) 78 ≡ t * 2 ^ 78 + e * 2 ^ 63 + image_fraction v
joined t e v h = omega arith

read-value : (v free : ℕ) → v < 2 ^ 80
    → cond ((eqb (extract_of v 78 64) 0 && not (eqb (extract_of v 63 63) 1)) || (not (eqb (extract_of v 78 64) 0) && eqb (extract_of v 63 63) 1)) (concat_of (extract_of v 79 79) (concat_of (extract_of v 78 64) (extract_of v 62 0) 63) 78) free
    ≡ pattern_in v free
unfolding pattern_in pattern_of
read-value v free h =
    let e : extract_of v 78 64 ≡ image_exponent v = field v 15 64 in
    let i : extract_of v 63 63 ≡ image_bit v = field v 1 63 in
    let t : extract_of v 79 79 ≡ image_sign v = top_bit v h in
    let p = joined (image_sign v) (image_exponent v) v (mod-lt (v / 2 ^ 64) (pow_pos 15)) in
    rw (e, i, t, canonical (eqb (image_exponent v) 0) (eqb (image_bit v) 1) (image_bit v) (mod-lt (v / 2 ^ 63) (pow_pos 1)) refl, p)

module _ (w g : List ℕ) (n pattern p : ℕ) (stands : InWords w (write_rows n pattern)) (r : pattern < n) (slot : Has w g pattern 79 p) where
  write-has : Has w g (n + 10) 80
      (concat_of (extract_of p 78 78) (concat_of (extract_of p 77 63) (concat_of (cond (eqb (extract_of p 77 63) 0) 0 1) (extract_of p 62 0) 63) 64) 79)
  unfolding sort_row computed
  write-has =
      let s1 = stands.1 in
      let s2 = s1.1 in
      let s3 = s2.1 in
      let s4 = s3.1 in
      let s5 = s4.1 in
      let s6 = s5.1 in
      let s7 = s6.1 in
      let s8 = s7.1 in
      let s9 = s8.1 in
      let s10 = s9.1 in
      let sign : Has w g n 1 (extract_of p 78 78) = has stands.0 refl (earlier r slot) unread unread in
      let exponent : Has w g (n + 1) 15 (extract_of p 77 63) = has s1.0 refl (earlier (omega arith) slot) unread unread in
      let fraction : Has w g (n + 2) 63 (extract_of p 62 0) = has s2.0 refl (earlier (omega arith) slot) unread unread in
      let zero : Has w g (n + 3) 15 0 = has s3.0 refl unread unread unread in
      let zero_exponent : Has w g (n + 4) 1 (flag_of (eqb (extract_of p 77 63) 0)) = has s4.0 refl (earlier (omega arith) exponent) (earlier (omega arith) zero) unread in
      let zero_bit : Has w g (n + 5) 1 0 = has s5.0 refl unread unread unread in
      let one_bit : Has w g (n + 6) 1 1 = has s6.0 refl unread unread unread in
      let integer : Has w g (n + 7) 1 (cond (eqb (extract_of p 77 63) 0) 0 1) = rw is-flag at (has s7.0 refl (earlier (omega arith) zero_exponent) (earlier (omega arith) zero_bit) (earlier (omega arith) one_bit)) in
      let significand : Has w g (n + 8) 64 (concat_of (cond (eqb (extract_of p 77 63) 0) 0 1) (extract_of p 62 0) 63) = has s8.0 refl (earlier (omega arith) integer) (earlier (omega arith) fraction) unread in
      let low : Has w g (n + 9) 79 (concat_of (extract_of p 77 63) (concat_of (cond (eqb (extract_of p 77 63) 0) 0 1) (extract_of p 62 0) 63) 64) = has s9.0 refl (earlier (omega arith) exponent) (earlier (omega arith) significand) unread in
      has s10.0 refl (earlier (omega arith) sign) (earlier (omega arith) low) unread

sign_bit : (p : ℕ) → p < 2 ^ 79 → extract_of p 78 78 ≡ sign_of p
sign_bit p h = omega arith

significand-joined : (b p : ℕ) → b ≤ 1 → concat_of b (extract_of p 62 0) 63 ≡ b * 2 ^ 63 + fraction_of p
significand-joined b p h = omega arith

image-joined : (t e b f : ℕ) → e < 2 ^ 15 → b ≤ 1 → f < 2 ^ 63 → concat_of t (concat_of e (b * 2 ^ 63 + f) 64) 79 ≡ t * 2 ^ 79 + e * 2 ^ 64 + b * 2 ^ 63 + f
image-joined t e b f h k l = omega arith

write-value : (p : ℕ) → p < 2 ^ 79
    → concat_of (extract_of p 78 78) (concat_of (extract_of p 77 63) (concat_of (cond (eqb (extract_of p 77 63) 0) 0 1) (extract_of p 62 0) 63) 64) 79 ≡ image_of p
unfolding image_of
write-value p h =
    let e : extract_of p 77 63 ≡ exponent_of p = field p 15 63 in
    let b = bit-small (exponent_of p) in
    rw (e, sign_bit p h, significand-joined (integer_bit (exponent_of p)) p b)
    (image-joined (sign_of p) (exponent_of p) (integer_bit (exponent_of p)) (fraction_of p) (mod-lt (p / 2 ^ 63) (pow_pos 15)) b (mod-lt p (pow_pos 63)))

-- The node that a step answers: its sort and its value, and it is counted
pub record Made (w g : List ℕ) (b : Built) (sort value : ℕ) : Type 0 where
  pub node : Has w g b.val sort value
  pub counted : b.val < b.st.nodes

module _ (w g : List ℕ) (s : State) (few : s.nodes ≤ 65600) where
  -- THE ROWS OF A READ GIVE THE PATTERN OF THE IMAGE, or the free one where the image has no number
  pub reads-image : (raw free v f : ℕ) → raw < s.nodes → free < s.nodes → Has w g raw 80 v → v < 2 ^ 80 → Has w g free 79 f
      → InWords w (extended_from_memory_of s raw free).ns → Made w g (extended_from_memory_of s raw free) 79 (pattern_in v f)
  reads-image raw free v f r q p k t stands =
      let rows = subst (InWords w) (read-rows s few raw free) stands in
      record {
        node = rw (read-val s few raw free, ← read-value v f k) (read_has w g s.nodes raw free v f rows r q p t);
        counted = omega (arith, read-val s few raw free, read_count s few raw free);
      }

  -- THE ROWS OF A WRITE GIVE THE IMAGE OF THE PATTERN
  pub writes-image : (pattern p : ℕ) → pattern < s.nodes → Has w g pattern 79 p → p < 2 ^ 79
      → InWords w (extended_to_memory_of s pattern).ns → Made w g (extended_to_memory_of s pattern) 80 (image_of p)
  writes-image pattern p r t k stands =
      let rows = subst (InWords w) (write-rows s few pattern) stands in
      record {
        node = rw (write-val s few pattern, ← write-value p k) (write-has w g s.nodes pattern p rows r t);
        counted = omega (arith, write-val s few pattern, write-count s few pattern);
      }
