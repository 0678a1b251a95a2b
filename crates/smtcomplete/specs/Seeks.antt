-- The first number that passes a test: it passes, and none below it does.
use Rattle.std.specs.Prelude.{◌≡◌, refl, Bool, true, false, cond, ℕ, zero, suc, ◌+◌, ◌≤◌, ◌<◌, eqb}
use Rattle.std.proofs.Common.{sym, arith, eqb-true}
use Rattle.std.proofs.lemmas.Bool.{eqb-false}
use Rattle.viable.specs.Grammar.{clash}
use Rattle.smtgrammar.specs.Next.{seek}

pub seek-least : (ok : ℕ → Bool) (x i k none : ℕ) → i ≤ x → x < i + k → ok x ≡ true → seek ok i k none ≤ x
unfolding seek
seek-least ok x i zero none h l e = absurd (omega arith)
seek-least ok x i (suc k) none h l e = go (ok i) refl (eqb i x) refl (seek-least ok x (i + 1) k none)
  where
    go : (b : Bool) → ok i ≡ b → (c : Bool) → eqb i x ≡ c → (i + 1 ≤ x → x < i + 1 + k → ok x ≡ true → seek ok (i + 1) k none ≤ x) → cond b i (seek ok (i + 1) k none) ≤ x
    go true q c y f = h
    go false q true y f = clash (sym (rw (eqb-true i x y, e) at q))
    go false q false y f = let z = eqb-false i x y in f (omega arith) (omega arith) e

-- where it is not the number that stands for none
pub record Found (ok : ℕ → Bool) (i v : ℕ) : Type 0 where
  pub is : ok v ≡ true
  pub from : i ≤ v

pub seek_found : (ok : ℕ → Bool) (i k none : ℕ) → (seek ok i k none ≡ none → ⊥) → Found ok i (seek ok i k none)
unfolding seek
seek_found ok i zero none h = absurd (h refl)
seek_found ok i (suc k) none h = go (ok i) refl (seek_found ok (i + 1) k none) h
  where
    go : (b : Bool) → ok i ≡ b → ((seek ok (i + 1) k none ≡ none → ⊥) → Found ok (i + 1) (seek ok (i + 1) k none))
        → (cond b i (seek ok (i + 1) k none) ≡ none → ⊥) → Found ok i (cond b i (seek ok (i + 1) k none))
    go true q f h = record { is = q; from = omega arith }
    go false q f h = let u = f h in record { is = u.is; from = (let l = u.from in omega arith) }
