-- Numbers as runs of digits: a decimal number, and the bits of a constant.
use Rattle.std.specs.Prelude.{◌≡◌, Bool, cond, not, ◌||◌}
use Rattle.std.proofs.Math.Path.{refl}
use Rattle.std.proofs.Math.Bool.{true, false}
use mathlib.Core.List.{[], ◌∷◌, ◌++◌, append_assoc}
use Prim.Native.Nat.{ℕ, zero, suc, ◌+◌, ◌-◌, ◌*◌, ◌/◌, ◌%◌, ◌^◌, ◌≤◌, ◌<◌}
use Rattle.std.proofs.Math.Nat.{pow-succ'}
use native.Mathlib.Omega.{arith}
use borrow.Author.Tests.{ltb-true, ltb-false, lt-ltb, ne_eqb}
use Rattle.std.proofs.Math.Dec.{ltb, eqb}
use Rattle.writing.specs.Bytes.{bytes, digits, decimal, bits}
use Rattle.smtgrammar.specs.declared.Place.{Place}
use Rattle.smtgrammar.specs.declared.Line.{Line}
use Rattle.smtgrammar.specs.State.{Tables, State}
use Rattle.smtgrammar.specs.Allowed.{digit_ok, ok_at}
use Rattle.smtgrammar.specs.Tokens.{text_at}
use Rattle.smtgrammar.specs.Next.{numeral, digit, defined, next_at}
use Rattle.smtgrammar.specs.Grammar.{size_at}
use Rattle.smtcomplete.specs.Lines.{Reach, both, stay, token}

-- 10 to the power k + 1
wide : ℕ → ℕ
wide zero = 10
wide (suc k) = 10 * wide k

module _ (t : Tables) (p : Place) (i k : ℕ) where
  -- a number, of which the digits so far say a
  abbrev pub number : ℕ → ℕ → State
  number a left = record { tables = t; place = p; line = record { stage = 4; node = i; kind = k; sort = 0; a = a; b = 0; r = 0; left = left; after = 0 } }

  one-digit : (a left d : ℕ) → d < 10 → (eqb left 0 || not (eqb a 0)) ≡ true → 10 * a + d < 2 ^ 64 → Reach (number a left) ((48 + d) ∷ []) (number (10 * a + d) 1)
  unfolding size_at ok_at digit_ok text_at next_at numeral
  one-digit a left d h e l =
      let z : eqb d 10 ≡ false = ne_eqb d 10 (λ q. omega arith) in
      let s = token t p (number a left).line d (omega arith) (rw (z, e, lt-ltb _ _ l)) in
      rw z at s

  digits-run : (j v : ℕ) → v < wide j → v < 2 ^ 64 → Reach (number 0 0) (digits (suc j) v) (number v 1)
  unfolding digits wide
  digits-run zero v h l =
      let s = one-digit 0 0 v h refl (omega arith) in
      let e : 10 * 0 + v ≡ v = omega arith in
      rw (lt-ltb v 10 h) (rw e at s)
  digits-run (suc j) v h l = go (ltb v 10) refl (digits-run j (v / 10))
    where
      go : (b : Bool) → ltb v 10 ≡ b → (v / 10 < wide j → v / 10 < 2 ^ 64 → Reach (number 0 0) (digits (suc j) (v / 10)) (number (v / 10) 1))
          → Reach (number 0 0) (cond b ((48 + v) ∷ []) (digits (suc j) (v / 10) ++ ((48 + v % 10) ∷ []))) (number v 1)
      go true q f =
          let s = one-digit 0 0 v (ltb-true v 10 q) refl (omega arith) in
          let e : 10 * 0 + v ≡ v = omega arith in
          rw e at s
      go false q f =
          let b = ltb-false v 10 q in
          let z : eqb (v / 10) 0 ≡ false = ne_eqb (v / 10) 0 (λ y. omega arith) in
          let e : 10 * (v / 10) + v % 10 ≡ v = omega arith in
          let s = one-digit (v / 10) 1 (v % 10) (omega arith) (rw z) (omega arith) in
          both (f (omega arith) (omega arith)) (rw e at s)

  -- a number with the blank behind it
  pub number-run : (v : ℕ) → v < 2 ^ 64
      → Reach (number 0 0) (decimal v ++ bytes " ")
      (record { tables = t; place = p; line = record { stage = 5; node = i; kind = k; sort = 0; a = v; b = 0; r = 0; left = 0; after = 0 } })
  unfolding decimal size_at ok_at digit_ok text_at next_at numeral wide
  number-run v h = both (digits-run 19 v (omega arith) h) (token t p (number v 1).line 10 (omega arith) refl)

module _ (t : Tables) (p : Place) (i s after : ℕ) where
  -- a constant, of which the bits so far say x
  abbrev pub constant : ℕ → ℕ → Line
  constant x left = record { stage = 14; node = i; kind = 6; sort = s; a = x % 2 ^ 64; b = x / 2 ^ 64; r = 0; left = left; after = after }

  abbrev within : ℕ → ℕ → State
  within x left = record { tables = t; place = p; line = constant x left }

  one_bit : (x left d : ℕ) → d < 2 → 2 ≤ left → Reach (within x left) ((48 + d) ∷ []) (within (2 * x + d) (left - 1))
  unfolding size_at ok_at text_at next_at digit
  one_bit x left d h l =
      let z : eqb left 1 ≡ false = ne_eqb left 1 (λ q. omega arith) in
      let e : 2 * (x / 2 ^ 64 * 2 ^ 64 + x % 2 ^ 64) + d ≡ 2 * x + d = omega arith in
      rw (z, e) at (token t p (constant x left) d (omega arith) refl)

  half : (k v : ℕ) → v < 2 ^ suc k → v / 2 < 2 ^ k
  half k v h = omega (arith, pow-succ' 2 k)

  bits-run : (k v r : ℕ) → v < 2 ^ k → Reach (within 0 (k + suc r)) (bits k v) (within v (suc r))
  unfolding bits
  bits-run zero v r h =
      let e : v ≡ 0 = omega arith in
      let q : 0 + suc r ≡ suc r = omega arith in
      rw (e, q) (stay (within 0 (suc r)))
  bits-run (suc k) v r h =
      let e : 2 * (v / 2) + v % 2 ≡ v = omega arith in
      let q : k + suc (suc r) ≡ suc k + suc r = omega arith in
      let l : suc (suc r) - 1 ≡ suc r = omega arith in
      let a = rw q at (bits-run k (v / 2) (suc r) (half k v h)) in
      both a (rw (e, l) at (one_bit (v / 2) (suc (suc r)) (v % 2) (omega arith) (omega arith)))

  -- all bits of a constant, to the end of the line
  pub constant-run : (k v : ℕ) → v < 2 ^ suc k
      → Reach (within 0 (suc k)) (bits (suc k) v ++ bytes ")\n") (defined t p (constant (v / 2) 1) 6 (v % 2 ^ 64) (v / 2 ^ 64) s)
  unfolding bits size_at ok_at text_at next_at digit
  constant-run k v h =
      let e : 2 * (v / 2 / 2 ^ 64 * 2 ^ 64 + v / 2 % 2 ^ 64) + v % 2 ≡ v = omega arith in
      let q : k + 1 ≡ suc k = omega arith in
      let a = rw q at (bits-run k (v / 2) 0 (half k v h)) in
      let b = rw e at (token t p (constant (v / 2) 1) (v % 2) (omega arith) refl) in
      rw append_assoc (both a b)
