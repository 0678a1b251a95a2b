-- The row of a node, by how many operands its kind has.
use Rattle.std.specs.Prelude.{◌≡◌, Bool, true, false, ℕ, zero, suc, ◌^◌, ◌≤◌, ◌<◌}
use Rattle.std.proofs.Common.{sym, ◌∙◌, arith}
use Rattle.sorts.specs.Sorts.{sort_row}
use Rattle.needs.specs.Needed.{arity}
use Rattle.viable.specs.Grammar.{clash}
use Rattle.smtgrammar.specs.State.{Tables}
use Rattle.smtsound.specs.Tables.{sort_in}
use Rattle.smtsound.specs.Nodes.{Has, Sorted}

-- what passes a test that 0 does not pass
pub positive : (P : ℕ → Bool) (v : ℕ) → P 0 ≡ false → P v ≡ true → 0 < v
positive P zero e f = clash (sym e ∙ f)
positive P (suc v) e f = omega arith

-- a kind that there is, and words
pub record Fits (k a b c s : ℕ) : Type 0 where
  pub some : 0 < s
  pub kind : 0 < k
  pub most : k ≤ 29
  pub small-a : a < 2 ^ 64
  pub small_b : b < 2 ^ 64
  pub small-c : c < 2 ^ 64

module _ (t : Tables) (n k a b c s : ℕ) (f : Fits k a b c s) where
  sorted : (1 ≤ arity k → Has t n a) → (2 ≤ arity k → Has t n b) → (3 ≤ arity k → Has t n c)
      → ((x y z : ℕ) → (1 ≤ arity k → x ≡ sort_in t a) → (2 ≤ arity k → y ≡ sort_in t b) → (3 ≤ arity k → z ≡ sort_in t c) → sort_row k a b c x y z ≡ s)
      → Sorted t n k a b c s
  sorted one two three gives = record {
    one = one;
    two = two;
    three = three;
    gives = gives;
    some = f.some;
    kind = f.kind;
    most = f.most;
    small-a = f.small-a;
    small_b = f.small_b;
    small-c = f.small-c;
  }

  pub none : arity k ≡ 0 → ((x y z : ℕ) → sort_row k a b c x y z ≡ s) → Sorted t n k a b c s
  none e g = sorted (λ q. absurd (omega arith)) (λ q. absurd (omega arith)) (λ q. absurd (omega arith)) (λ x y z _ _ _. g x y z)

  pub one : arity k ≡ 1 → Has t n a → ((x y z : ℕ) → x ≡ sort_in t a → sort_row k a b c x y z ≡ s) → Sorted t n k a b c s
  one e u g = sorted (λ _. u) (λ q. absurd (omega arith)) (λ q. absurd (omega arith)) (λ x y z fx _ _. g x y z (fx (omega arith)))

  pub two : arity k ≡ 2 → Has t n a → Has t n b → ((x y z : ℕ) → x ≡ sort_in t a → y ≡ sort_in t b → sort_row k a b c x y z ≡ s) → Sorted t n k a b c s
  two e u v g = sorted (λ _. u) (λ _. v) (λ q. absurd (omega arith)) (λ x y z fx fy _. g x y z (fx (omega arith)) (fy (omega arith)))

  pub three : arity k ≡ 3 → Has t n a → Has t n b → Has t n c
      → ((x y z : ℕ) → x ≡ sort_in t a → y ≡ sort_in t b → z ≡ sort_in t c → sort_row k a b c x y z ≡ s) → Sorted t n k a b c s
  three e u v w g = sorted (λ _. u) (λ _. v) (λ _. w) (λ x y z fx fy fz. g x y z (fx (omega arith)) (fy (omega arith)) (fz (omega arith)))
