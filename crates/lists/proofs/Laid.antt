-- Four words laid over a part of a list are four stores
use mathlib.Core.Path.{◌≡◌, ap, sym, ◌∙◌}
use mathlib.Core.List.{List, [], ◌∷◌, ◌++◌, append_assoc}
use Prim.Native.Nat.{ℕ, suc, ◌+◌, ◌-◌, ◌≤◌}
use native.Mathlib.Omega.{arith}
use borrow.Rule.Slice.PartMut.{put_mid}
use lib.ListN.{length, set, take, drop}
use Rattle.std.proofs.lemmas.List.{drop-drop}
use Rattle.std.proofs.lemmas.List.Edits.{sets-eq}

pub laid : (l : List ℕ) (i a b c d : ℕ) → i + 4 ≤ length l → put_mid i (i + 4 - i) l (a ∷ b ∷ c ∷ d ∷ []) ≡ set (set (set (set l i a) (i + 1) b) (i + 2) c) (i + 3) d
laid l i a b c d h =
    let w : List ℕ = a ∷ b ∷ c ∷ d ∷ [] in
    let four : i + 4 - i ≡ 4 = omega arith in
    let one : i + 1 ≡ suc i = omega arith in
    let two : i + 2 ≡ suc (suc i) = omega arith in
    let three : i + 3 ≡ suc (suc (suc i)) = omega arith in
    rw (four, one, two, three) (ap (λ (r : List ℕ). take i l ++ (w ++ r)) (drop-drop 4 i l) ∙ sym (append_assoc (take i l) w (drop (i + 4) l)) ∙ sym (sets-eq w l i h))
