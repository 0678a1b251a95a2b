-- What the searches of the grammar find: the first number that passes, or none.
use Rattle.std.specs.Prelude.{◌≡◌, refl, true, false, cond, ◌&&◌, ltb, get_or}
use Rattle.std.proofs.Common.{sym, ◌∙◌, arith}
use Rattle.std.proofs.Math.Bool.{Bool, not}
use Prim.Native.Nat.{ℕ, zero, suc, ◌+◌, ◌-◌, ◌≤◌, ◌<◌}
use borrow.Author.Tests.{eqb-true, eq-eqb, ltb-true, ltb-false}
use Rattle.std.proofs.Math.Dec.{eqb}
use Rattle.viable.specs.Grammar.{clash}
use Rattle.smtgrammar.specs.State.{Tables}
use Rattle.smtgrammar.specs.Next.{seek, gap_from, owed_from, due_from}
use Rattle.smtlive.specs.Tests.{by-test, by-eq, and_both, and_left, and_right, not-zero, zero-not}

-- a number that a search among k numbers from i on can give
record Found (ok : ℕ → Bool) (i k none r : ℕ) : Type 0 where
  low : (r ≡ none → ⊥) → i ≤ r
  high : (r ≡ none → ⊥) → r < i + k
  passes : (r ≡ none → ⊥) → ok r ≡ true
  least : (m : ℕ) → i ≤ m → m < i + k → ok m ≡ true → r ≤ m

found : (ok : ℕ → Bool) (i k none : ℕ) → Found ok i k none (seek ok i k none)
unfolding seek
found ok i zero none =
    record { low = λ q. absurd (q refl); high = λ q. absurd (q refl); passes = λ q. absurd (q refl); least = λ m a b e. absurd (omega arith) }
found ok i (suc k) none = go (ok i) refl (found ok (i + 1) k none)
  where
    go : (b : Bool) → ok i ≡ b → Found ok (i + 1) k none (seek ok (i + 1) k none) → Found ok i (suc k) none (cond b i (seek ok (i + 1) k none))
    go true e f = record { low = λ q. omega arith; high = λ q. omega arith; passes = λ q. e; least = λ m a b e. omega arith }
    go false e f = record {
      low = λ q. (let a = f.low q in omega arith);
      high = λ q. (let a = f.high q in omega arith);
      passes = f.passes;
      least = λ m a b p.
          by-eq m i
          (λ z. clash (sym e ∙ (rw z at p)))
          (λ z. f.least m (omega arith) (omega arith) p);
    }

module _ (t : Tables) where
  -- the next number that is not there
  pub record Gap (i r : ℕ) : Type 0 where
    pub low : i ≤ r
    pub high : r ≤ 65535
    pub free : r < 65535 → get_or t.kinds r 0 ≡ 0
    pub least : (m : ℕ) → i ≤ m → get_or t.kinds m 0 ≡ 0 → r ≤ m

  pub gap-found : (i : ℕ) → i ≤ 65535 → Gap i (gap_from t i)
  unfolding gap_from
  gap-found i h =
      let ok : ℕ → Bool = λ j. eqb (get_or t.kinds j 0) 0 in
      let r = seek ok i (65535 - i) 65535 in
      let f = found ok i (65535 - i) 65535 in
      let high : r ≤ 65535 = by-eq r 65535 (λ e. omega arith) (λ e. let a = f.high e in omega arith) in
      record {
        low = by-eq r 65535 (λ e. omega arith) (λ e. f.low e);
        high = high;
        free = λ a. eqb-true _ 0 (f.passes (λ e. omega arith));
        least = λ m a e.
            by-test (ltb m 65535)
            (λ b. f.least m a (let c = ltb-true m 65535 b in omega arith) (eq-eqb _ 0 e))
            (λ b. let c = ltb-false m 65535 b in omega arith);
      }

  -- the next number that is obliged and not there
  pub record Owed (top i r : ℕ) : Type 0 where
    pub high : r ≤ 65535
    pub low : r < 65535 → i ≤ r
    pub free : r < 65535 → get_or t.kinds r 0 ≡ 0
    pub sorted : r < 65535 → get_or t.sorts r 0 ≡ 0 → ⊥
    pub least : (m : ℕ) → i ≤ m → m < top → get_or t.kinds m 0 ≡ 0 → (get_or t.sorts m 0 ≡ 0 → ⊥) → r ≤ m

  pub owed-found : (top i : ℕ) → top ≤ 65535 → Owed top i (owed_from t top i)
  unfolding owed_from
  owed-found top i h =
      let ok : ℕ → Bool = λ j. eqb (get_or t.kinds j 0) 0 && not (eqb (get_or t.sorts j 0) 0) in
      let r = seek ok i (top - i) 65535 in
      let f = found ok i (top - i) 65535 in
      record {
        high = by-eq r 65535 (λ e. omega arith) (λ e. let a = f.high e in let b = f.low e in omega arith);
        low = λ a. f.low (λ e. omega arith);
        free = λ a. eqb-true _ 0 (and_left (eqb (get_or t.kinds r 0) 0) _ (f.passes (λ e. omega arith)));
        sorted = λ a. zero-not (get_or t.sorts r 0) (and_right (eqb (get_or t.kinds r 0) 0) _ (f.passes (λ e. omega arith)));
        least = λ m a b e q. f.least m a (omega arith) (and_both (eqb (get_or t.kinds m 0) 0) _ (eq-eqb _ 0 e) (not-zero _ q));
      }

  -- the next assertion, if there is one, is behind
  pub due-found : (top i : ℕ) → top ≤ 65535 → i ≤ 65535 → (i ≤ due_from t top i) × (due_from t top i ≤ 65535)
  unfolding due_from
  due-found top i h k =
      let ok : ℕ → Bool = λ j. eqb (get_or t.kinds j 0) 26 in
      let r = seek ok i (top - i) 65535 in
      let f = found ok i (top - i) 65535 in (
        by-eq r 65535 (λ e. omega arith) (λ e. f.low e),
        by-eq r 65535 (λ e. omega arith) (λ e. let a = f.high e in let b = f.low e in omega arith),
      )
