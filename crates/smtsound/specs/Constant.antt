-- A choice keeps what is known: a digit of a constant.
use Rattle.std.specs.Prelude.{◌≡◌, Bool, true, false, cond, eqb}
use Rattle.std.proofs.Math.Path.{refl}
use Prim.Native.Nat.{ℕ, suc, ◌+◌, ◌-◌, ◌*◌, ◌/◌, ◌%◌, ◌^◌, ◌≤◌, ◌<◌}
use Rattle.std.proofs.Math.Nat.{pow-le-pow_right}
use Rattle.std.proofs.Common.{arith, eqb-true, lt-ltb}
use Rattle.std.proofs.lemmas.Bool.{eqb-false}
use Rattle.sorts.specs.Sorts.{is_bits, sort_row}
use Rattle.sorts.specs.Good.{bits-lo, bits-hi}
use Rattle.needs.specs.Needed.{arity}
use Rattle.smtgrammar.specs.declared.Place.{Place}
use Rattle.smtgrammar.specs.State.{Tables}
use Rattle.smtgrammar.specs.Next.{next_at, defined, digit}
use Rattle.smtsound.specs.Nodes.{Sorted, Nodes}
use Rattle.smtsound.specs.Arities.{Fits, none}
use Rattle.smtsound.specs.Lines.{line, Defines, Suits, at14, Some, Sound}
use Rattle.smtsound.specs.Defining.{finish}

-- one more digit
doubled : (g v e : ℕ) → v < 2 → g < 2 ^ e → 2 * g + v < 2 ^ suc e
doubled g v e l h = omega arith

-- the words of a number that the width holds
high : (g : ℕ) → g < 2 ^ 80 → g / 2 ^ 64 < 65536
high g h = omega arith

held : (g s : ℕ) → is_bits s ≡ true → g < 2 ^ s → g / 2 ^ 64 < 65536
held g s b h = let z : 2 ^ s ≤ 2 ^ 80 = pow-le-pow_right (omega arith) (bits-hi s b) in high g (omega arith)

back : (g : ℕ) → g / 2 ^ 64 * 2 ^ 64 + g % 2 ^ 64 ≡ g
back g = omega arith

words : (a b s : ℕ) → a < 2 ^ 64 → b < 65536 → 1 ≤ s → s ≤ 80 → Fits 6 a b s s
words a b s x y lo hi = omega arith

row : (t : Tables) (n g s : ℕ) → is_bits s ≡ true → g < 2 ^ s → Sorted t n 6 (g % 2 ^ 64) (g / 2 ^ 64) s s
unfolding sort_row arity
row t n g s b h =
    none t n 6 (g % 2 ^ 64) (g / 2 ^ 64) s s (words (g % 2 ^ 64) (g / 2 ^ 64) s (omega arith) (held g s b h) (bits-lo s b) (bits-hi s b)) refl
    (λ x y z. rw (b, back g, lt-ltb g (2 ^ s) h))

module _ (t : Tables) (p : Place) (h : Nodes t p.part p.top p.owed) (has : 0 < p.count → Some t) (n s q : ℕ) (d : Defines t p n q) (f : Suits t n s) where
  pub constant : (e a b m v : ℕ) → is_bits s ≡ true → 1 ≤ m → e + m ≡ s → b * 2 ^ 64 + a < 2 ^ e → v < 2
      → Sound (next_at t p (line 14 n 6 s a b 0 m q) v)
  unfolding next_at digit
  constant e a b m v i l z k w = go (eqb m 1) refl (doubled (b * 2 ^ 64 + a) v e w k)
    where
      on : (g m' : ℕ) → 1 ≤ m' → suc e + m' ≡ s → g < 2 ^ suc e
          → Sound (record { tables = t; place = p; line = line 14 n 6 s (g % 2 ^ 64) (g / 2 ^ 64) 0 m' q })
      on g m' l z k = record { nodes = h; some = has; lined = at14 {a = g % 2 ^ 64} {b = g / 2 ^ 64} (suc e) d f i l z (rw (back g) k) }

      go : (x : Bool) → eqb m 1 ≡ x → 2 * (b * 2 ^ 64 + a) + v < 2 ^ suc e → Sound (cond x
          (defined t p (line 14 n 6 s a b 0 m q) 6 ((2 * (b * 2 ^ 64 + a) + v) % 2 ^ 64) ((2 * (b * 2 ^ 64 + a) + v) / 2 ^ 64) s)
          (record { tables = t; place = p; line = line 14 n 6 s ((2 * (b * 2 ^ 64 + a) + v) % 2 ^ 64) ((2 * (b * 2 ^ 64 + a) + v) / 2 ^ 64) 0 (m - 1) q }))
      go true y k =
          let x : suc e ≡ s = (let r = eqb-true m 1 y in omega arith) in
          finish t p h has 14 n 6 s a b 0 m q 6 _ _ s d f (row t n (2 * (b * 2 ^ 64 + a) + v) s i (rw x at k))
      go false y k = on (2 * (b * 2 ^ 64 + a) + v) (m - 1) (let r = eqb-false m 1 y in omega arith) (let r = eqb-false m 1 y in omega arith) k
