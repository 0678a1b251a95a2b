-- Decimal numbers hold digits only, and no two numbers below 2^64 have the same.
use Rattle.std.specs.Prelude.{◌≡◌, refl, Bool, true, false, cond, not, ◌&&◌, List, [], ◌∷◌, ◌++◌, ℕ, zero, suc, ◌+◌, ◌-◌, ◌*◌, ◌/◌, ◌%◌, ◌≤◌, ◌<◌, ◌^◌, ltb, eqb}
use Rattle.std.proofs.Common.{sym, ap, ◌∙◌, arith, ltb-true, ltb-false, ne_eqb}
use Rattle.viable.specs.Grammar.{clash}
use Rattle.viable.specs.Family.{lacks}
use Rattle.writing.specs.Bytes.{digits, decimal}

-- a byte that neither part holds
pub lacks-append : (c : ℕ) (a b : List ℕ) → lacks c a ≡ true → lacks c b ≡ true → lacks c (a ++ b) ≡ true
unfolding lacks
lacks-append c [] b p q = q
lacks-append c (x ∷ a) b p q = go (not (eqb x c)) p (lacks-append c a b)
  where
    go : (t : Bool) → (t && lacks c a) ≡ true → (lacks c a ≡ true → lacks c b ≡ true → lacks c (a ++ b) ≡ true) → (t && lacks c (a ++ b)) ≡ true
    go true p f = f p q
    go false p f = clash p

pub lacks-one : (c d : ℕ) → (d ≡ c → ⊥) → lacks c (d ∷ []) ≡ true
unfolding lacks
lacks-one c d h = rw (ne_eqb d c h)

lacks-digits : (c k v : ℕ) → ((d : ℕ) → d < 10 → 48 + d ≡ c → ⊥) → lacks c (digits k v) ≡ true
unfolding digits lacks
lacks-digits c zero v h = refl
lacks-digits c (suc k) v h = go (ltb v 10) refl (lacks-digits c k (v / 10) h)
  where
    go : (t : Bool) → ltb v 10 ≡ t → lacks c (digits k (v / 10)) ≡ true
        → lacks c (cond t ((48 + v) ∷ []) (digits k (v / 10) ++ ((48 + v % 10) ∷ []))) ≡ true
    go true p e = lacks-one c (48 + v) (h v (ltb-true v 10 p))
    go false p e = lacks-append c (digits k (v / 10)) ((48 + v % 10) ∷ []) e (lacks-one c (48 + v % 10) (h (v % 10) (omega arith)))

-- a byte that is no digit is in no number
pub lacks-decimal : (c v : ℕ) → ((d : ℕ) → d < 10 → 48 + d ≡ c → ⊥) → lacks c (decimal v) ≡ true
unfolding decimal
lacks-decimal c v h = lacks-digits c 20 v h

-- the number that digits stand for
value : ℕ → List ℕ → ℕ
value n [] = n
value n (d ∷ l) = value (n * 10 + (d - 48)) l

value-append : (n : ℕ) (a b : List ℕ) → value n (a ++ b) ≡ value (value n a) b
unfolding value
value-append n [] b = refl
value-append n (d ∷ a) b = value-append (n * 10 + (d - 48)) a b

bound : ℕ → ℕ
bound zero = 1
bound (suc k) = 10 * bound k

value-digits : (k v : ℕ) → v < bound k → (k ≡ 0 → ⊥) → value 0 (digits k v) ≡ v
unfolding digits value bound
value-digits zero v h q = absurd (q refl)
value-digits (suc k) v h q = go (ltb v 10) refl (value-digits k (v / 10) (omega arith))
  where
    some : (k : ℕ) → v < 10 * bound k → 10 ≤ v → k ≡ 0 → ⊥
    some zero h l e = omega arith
    some (suc k) h l e = omega arith

    go : (t : Bool) → ltb v 10 ≡ t → ((k ≡ 0 → ⊥) → value 0 (digits k (v / 10)) ≡ v / 10)
        → value 0 (cond t ((48 + v) ∷ []) (digits k (v / 10) ++ ((48 + v % 10) ∷ []))) ≡ v
    go true e f = omega arith
    go false e f =
        value-append 0 (digits k (v / 10)) ((48 + v % 10) ∷ [])
        ∙ rw (f (some k h (ltb-false v 10 e))) (omega arith)

pub decimal_injective : (u v : ℕ) → u < 2 ^ 64 → v < 2 ^ 64 → decimal u ≡ decimal v → u ≡ v
unfolding bound decimal
decimal_injective u v h k e =
    sym (value-digits 20 u (omega arith) (λ z. omega arith)) ∙ ap (value 0) e ∙ value-digits 20 v (omega arith) (λ z. omega arith)
