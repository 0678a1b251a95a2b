-- Rows that are in a list's words, each at its number
use Rattle.std.proofs.Common.{subst, sym, arith}
use Rattle.std.specs.Prelude.{List, [], ◌∷◌, ◌++◌, ℕ, ◌+◌, ◌*◌, ◌≤◌, length}
use Rattle.lists.specs.Rows.{Row, row, wrote}
use Rattle.lists.proofs.Adds.{after, Numbered}
use Rattle.agreement.specs.Laid.{InOrder, Reads, Lies, lies}
use Rattle.agreement.proofs.Stands.{numbered-order, after-exact}

abbrev pub InWords : List ℕ → List Row → Type 0
InWords w [] = Unit {0}
InWords w (row n k a b c ∷ rs) = Reads w n k a b c × InWords w rs

-- Of two parts, each
module _ (w : List ℕ) where
  pub front : (a b : List Row) → InWords w (a ++ b) → InWords w a
  front [] b p = tt
  front (row _ _ _ _ _ ∷ a) b p = (p.0, front a b p.1)

  pub back : (a b : List Row) → InWords w (a ++ b) → InWords w b
  back [] b p = p
  back (row _ _ _ _ _ ∷ a) b p = back a b p.1

at-numbers : (w : List ℕ) (n : ℕ) (rs : List Row) → InOrder n rs → Lies w n rs → InWords w rs
unfolding InOrder Lies
at-numbers w n [] p q = tt
at-numbers w n (row k x a b c ∷ rs) p q =
    (subst (λ (m : ℕ). Reads w m x a b c) (sym p.0) q.0, at-numbers w (n + 1) rs p.1 q.1)

-- Rows that a step counts, and that have room, are in the words that they were laid in
pub laid : (l : List ℕ) (n : ℕ) (rs : List Row) → Numbered n rs → n + length rs ≤ 4294967295 → 4 * after n rs ≤ length l → InWords (wrote l rs) rs
laid l n rs p h r =
    let o = numbered-order n rs h p in
    at-numbers (wrote l rs) n rs o (lies l n rs o (omega (arith, after-exact n rs h)))
