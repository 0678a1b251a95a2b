-- What `classify` answers, by what was found of the instruction.
use mathlib.Core.Path.{◌≡◌, refl, ap}
use mathlib.Core.Bool.{Bool, true, false, ◌&&◌, and-false}
use mathlib.Core.List.{List, [], ◌∷◌}
use Prim.Native.Nat.{ℕ, zero, suc, ◌-◌, ◌<◌, ◌≤◌}
use native.Mathlib.Omega.{arith}
use borrow.Author.Tests.{le-leb, lt-leb}
use lib.ListN.{length, take, get_or}
use Rattle.std.specs.List.{list_all, slice_range}
use Rattle.std.specs.Prelude.{Ok, Err}
use Rattle.texts.specs.Bytes.{all, bytes_of, valid_of}
use Rattle.forms.specs.Operands.{operands_of, operands_in, ranged_is, spelled_is}
use Rattle.forms.specs.Names.{family_of}
use Rattle.forms.specs.Families.{made_of}
use Rattle.forms.specs.Classify.{classify_of}
use Rattle.forms.specs.declared.Operand.{Operand}
use Rattle.forms.specs.declared.Instruction.{Instruction}
use Rattle.forms.specs.declared.BadInstruction.TheVariants as bad

-- the library's test of every entry
pub all-is : {A : Type 0} (f : A → Bool) (s : List A) → list_all f s ≡ all f s
all-is f [] = refl
all-is f (x ∷ s) = ap (λ (b : Bool). f x && b) (all-is f s)

-- the first n entries
pub range : {A : Type 0} (s : List A) (n : ℕ) → slice_range s 0 n ≡ take n s
range s n =
    let e : n - 0 ≡ n = omega arith in
    rw e

-- the records below the count, of three
pub below-count : (n : ℕ) (s : List Operand) → n ≤ 3 → length s ≡ 3 → operands_in (take n s) ≡ operands_of n s
below-count n [] h l = absurd (omega arith)
below-count n (a ∷ []) h l = absurd (omega arith)
below-count n (a ∷ b ∷ []) h l = absurd (omega arith)
below-count n (a ∷ b ∷ c ∷ d ∷ s) h l = absurd (omega arith)
below-count zero (a ∷ b ∷ c ∷ []) h l = refl
below-count (suc zero) (a ∷ b ∷ c ∷ []) h l = refl
below-count (suc (suc zero)) (a ∷ b ∷ c ∷ []) h l = refl
below-count (suc (suc (suc zero))) (a ∷ b ∷ c ∷ []) h l = refl
below-count (suc (suc (suc (suc n)))) (a ∷ b ∷ c ∷ []) h l = absurd (omega arith)

-- what stands past the end of the records is not looked at
pub first-of : (s : List Operand) (d e : Operand) → 0 < length s → get_or s 0 d ≡ get_or s 0 e
first-of [] d e h = absurd (omega arith)
first-of (x ∷ s) d e h = refl

module _ (i : Instruction) where
  pub too-many : 3 < i.count → Err bad.Operands ≡ classify_of i
  unfolding classify_of
  too-many h = rw (lt-leb i.count 3 h)

  module _ (h : i.count ≤ 3) where
    pub unranged : all ranged_is (take i.count i.operands) ≡ false → Err bad.Operands ≡ classify_of i
    unfolding classify_of
    unranged e = rw (e, and-false)

    module _ (e : all ranged_is (take i.count i.operands) ≡ true) where
      pub misspelled : (valid_of i.mnemonic && all spelled_is (take i.count i.operands)) ≡ false → Err bad.Text ≡ classify_of i
      unfolding classify_of
      misspelled f = rw (le-leb i.count 3 h, e, f)

      pub passed : valid_of i.mnemonic ≡ true → all spelled_is (take i.count i.operands) ≡ true → Ok (made_of (family_of (bytes_of i.mnemonic)) (operands_of i.count i.operands)) ≡ classify_of i
      unfolding classify_of
      passed f g = rw (le-leb i.count 3 h, e, f, g)
