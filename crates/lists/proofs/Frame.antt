-- Rows that are laid in from number n on leave every row before it as it was, and a row within the room is read back
use mathlib.Core.Path.{◌≡◌, refl, sym, ap, ◌∙◌}
use mathlib.Core.Bool.{Bool, true, false, cond}
use mathlib.Core.List.{List, [], ◌∷◌}
use Prim.Native.Nat.{ℕ, ◌+◌, ◌*◌, ◌≤◌, ◌<◌}
use native.Mathlib.Omega.{arith}
use borrow.Author.Tests.{le-leb}
use lib.ListN.{length, get_or, set, take, length-set}
use lib.Seq.{take-set-le, get_or-take, get_or-set_same, get_or-set_other}
use lib.Dec.{leb}
use Rattle.lists.specs.Rows.{Row, row, stored, wrote}

-- Each row's number is n or more
abbrev pub From : ℕ → List Row → Type 0
From n [] = Unit {0}
From n (row k _ _ _ _ ∷ rs) = (n ≤ k) × From n rs

either : (t : Bool) (l m : List ℕ) (n : ℕ) → take n m ≡ take n l → take n (cond t m l) ≡ take n l
either true l m n h = h
either false l m n h = refl

stored-keeps : (l : List ℕ) (n k kind a b c : ℕ) → n ≤ k → take (4 * n) (stored l (row k kind a b c)) ≡ take (4 * n) l
unfolding stored
stored-keeps l n k kind a b c h =
    either (leb (4 * k + 4) (length l)) l _ (4 * n)
    (take-set-le (4 * n) _ (4 * k + 3) c (omega arith) ∙ take-set-le (4 * n) _ (4 * k + 2) b (omega arith)
    ∙ take-set-le (4 * n) _ (4 * k + 1) a (omega arith) ∙ take-set-le (4 * n) l (4 * k) kind (omega arith))

pub wrote-keeps : (l : List ℕ) (rs : List Row) (n : ℕ) → From n rs → take (4 * n) (wrote l rs) ≡ take (4 * n) l
unfolding wrote
wrote-keeps l [] n h = refl
wrote-keeps l (row k kind a b c ∷ rs) n h = wrote-keeps (stored l (row k kind a b c)) rs n h.1 ∙ stored-keeps l n k kind a b c h.0

-- .. word by word
pub word_kept : (l : List ℕ) (rs : List Row) (n i : ℕ) → From n rs → i < 4 * n → get_or (wrote l rs) i 0 ≡ get_or l i 0
word_kept l rs n i f h =
    sym (get_or-take (4 * n) (wrote l rs) i 0 h) ∙ ap (λ (w : List ℕ). get_or w i 0) (wrote-keeps l rs n f) ∙ get_or-take (4 * n) l i 0 h

other : (l : List ℕ) (i j v : ℕ) → j < i → get_or (set l i v) j 0 ≡ get_or l j 0
other l i j v h = get_or-set_other l i j v 0 (λ e. omega arith)

there : (l : List ℕ) (i v : ℕ) → i < length l → get_or (set l i v) i 0 ≡ v
there l i v h = get_or-set_same l i v 0 h

-- A row that fits stands in its four words
pub row_read : (l : List ℕ) (n kind a b c : ℕ) → 4 * n + 4 ≤ length l → let w = stored l (row n kind a b c) in
    (get_or w (4 * n) 0 ≡ kind) × (get_or w (4 * n + 1) 0 ≡ a) × (get_or w (4 * n + 2) 0 ≡ b) × (get_or w (4 * n + 3) 0 ≡ c)
unfolding stored
row_read l n kind a b c h =
    let l₁ = set l (4 * n) kind in
    let l₂ = set l₁ (4 * n + 1) a in
    let l₃ = set l₂ (4 * n + 2) b in
    let h₁ : 4 * n + 1 < length l₁ = simp length-set (omega arith) in
    let h₂ : 4 * n + 2 < length l₂ = simp length-set (omega arith) in
    let h₃ : 4 * n + 3 < length l₃ = simp length-set (omega arith) in
    rw (le-leb _ _ h) (
      other l₃ (4 * n + 3) (4 * n) c (omega arith) ∙ other l₂ (4 * n + 2) (4 * n) b (omega arith)
          ∙ other l₁ (4 * n + 1) (4 * n) a (omega arith) ∙ there l (4 * n) kind (omega arith),
      other l₃ (4 * n + 3) (4 * n + 1) c (omega arith) ∙ other l₂ (4 * n + 2) (4 * n + 1) b (omega arith) ∙ there l₁ (4 * n + 1) a h₁,
      other l₃ (4 * n + 3) (4 * n + 2) c (omega arith) ∙ there l₂ (4 * n + 2) b h₂,
      there l₃ (4 * n + 3) c h₃,
    )
