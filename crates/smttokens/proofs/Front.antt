-- A list as what is in front of an entry, the entry, and the rest; and three parts of a text in one.
use Rattle.std.specs.Prelude.{◌≡◌, List, [], ◌∷◌, ◌++◌, ℕ, zero, suc, ◌<◌, length, take, drop, get_or}
use Rattle.std.proofs.Common.{refl, ap, arith, append_assoc}

pub front : (l : List ℕ) (i : ℕ) → i < length l → (take i l ++ (get_or l i 0 ∷ [])) ++ drop (suc i) l ≡ l
front [] i h = absurd (omega arith)
front (x ∷ l) zero h = refl
front (x ∷ l) (suc i) h = ap (λ m. x ∷ m) (front l i (omega arith))

pub joined : (a b c d : List ℕ) → (a ++ (b ++ c)) ++ d ≡ a ++ (b ++ (c ++ d))
joined a b c d = simp append_assoc
