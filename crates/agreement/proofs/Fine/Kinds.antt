-- The sort of each kind of node that a lift makes, from the sorts of its operands
use Rattle.std.specs.Prelude.{◌≡◌, refl, true, ◌&&◌, ◌||◌, [], ◌∷◌, ℕ, ◌+◌, ◌-◌, ◌*◌, ◌^◌, leb, ltb, eqb}
use Rattle.std.proofs.Common.{sym, subst, arith}
use borrow.Author.Tests.{eqb-true, eq-eqb}
use Rattle.words.specs.Tests.{and_l, and_r, and_i, or_case}
use Rattle.sorts.specs.Sorts.{is_bits, is_float, is_stored, is_word, pattern_width, sort_row}
use Rattle.sorts.specs.Good.{bits-lo, cond_has, extract-places}
use Rattle.forms.specs.declared.X87Arith.{X87Arith}
use Rattle.forms.specs.declared.X87Arith.TheVariants.{Add, Sub, Mul, Div}
use Rattle.exprs.specs.Formats.{extended, nearest, arith_kind_of}
use Rattle.agreement.proofs.Fine.{Some, ◌has◌, Known, Knows}
use Rattle.agreement.proofs.Fine.Nodes.{Typed}

-- A row of no operand, of one, of two, of three: the sorts of the fields that are no operands don't matter
module _ {k a b c σ : ℕ} (some : Some σ) where
  typed₀ : ((x y z : ℕ) → sort_row k a b c x y z ≡ σ) → Typed [] k a b c σ
  typed₀ f = record { sort = λ Γ h. f _ _ _; some = some }

  typed₁ : {α : ℕ} → Some α → ((y z : ℕ) → sort_row k a b c α y z ≡ σ) → Typed (a has α ∷ []) k a b c σ
  unfolding Knows Known
  typed₁ p f = record { sort = λ Γ h. rw (h.0 p) (f _ _); some = some }

  typed₂ : {α β : ℕ} → Some α → Some β → ((z : ℕ) → sort_row k a b c α β z ≡ σ) → Typed (a has α ∷ b has β ∷ []) k a b c σ
  unfolding Knows Known
  typed₂ p q f = record { sort = λ Γ h. rw (h.0 p, h.1.0 q) (f _); some = some }

  typed₃ : {α β γ : ℕ} → Some α → Some β → Some γ → sort_row k a b c α β γ ≡ σ → Typed (a has α ∷ b has β ∷ c has γ ∷ []) k a b c σ
  unfolding Knows Known
  typed₃ p q r f = record { sort = λ Γ h. rw (h.0 p, h.1.0 q, h.1.1.0 r) f; some = some }

pub bits-some : (s : ℕ) → is_bits s ≡ true → Some s
bits-some s e z = omega (arith, bits-lo s e)

-- What holds of three numbers holds of each that is one of them
pub of_three : (P : ℕ → Type 0) (s a b c : ℕ) → ((eqb s a || eqb s b) || eqb s c) ≡ true → P a → P b → P c → P s
of_three P s a b c e x y z =
    or_case (eqb s a || eqb s b) (eqb s c) e
    (λ f. or_case (eqb s a) (eqb s b) f (λ g. subst P (sym (eqb-true s a g)) x) (λ g. subst P (sym (eqb-true s b g)) y))
    (λ g. subst P (sym (eqb-true s c g)) z)

pub word_some : (s : ℕ) → is_word s ≡ true → Some s
word_some s e = of_three Some s 16 32 64 e (λ z. omega arith) (λ z. omega arith) (λ z. omega arith)

stored_some : (s : ℕ) → is_stored s ≡ true → Some s
stored_some s e = or_case (is_word s) (eqb s 80) e (word_some s) (λ g z. let q = eqb-true s 80 g in omega arith)

pub float-some : (s : ℕ) → is_float s ≡ true → Some s
float-some s e = of_three Some s 2072 2869 3904 e (λ z. omega arith) (λ z. omega arith) (λ z. omega arith)

pub width_some : (f : ℕ) → Some (pattern_width f)
width_some f = cond_has Some (eqb f 2072) 32 _ (λ _ z. omega arith) (cond_has Some (eqb f 2869) 64 79 (λ _ z. omega arith) (λ z. omega arith))

some-bit : Some 1
some-bit z = omega arith

some-float : Some extended
some-float z = omega arith

-- Input, temporary, named slot, fsw, flag, constant
module _ {a bits : ℕ} where
  pub input : (eqb bits 79 || eqb bits 16) ≡ true → Typed [] 1 a bits 0 bits
  unfolding sort_row
  input e =
      typed₀ (or_case (eqb bits 79) (eqb bits 16) e (λ g z. let q = eqb-true bits 79 g in omega arith) (λ g z. let q = eqb-true bits 16 g in omega arith)) (λ x y z. rw e)

  pub temporary : is_stored bits ≡ true → Typed [] 2 a bits 0 bits
  unfolding sort_row
  temporary e = typed₀ (stored_some bits e) (λ x y z. rw e)

  pub slot-var : is_stored bits ≡ true → Typed [] 3 a bits 0 bits
  unfolding sort_row
  slot-var e = typed₀ (stored_some bits e) (λ x y z. rw e)

pub fsw : Typed [] 4 0 0 0 16
unfolding sort_row
fsw = typed₀ (λ z. omega arith) (λ x y z. refl)

pub flag : {a : ℕ} → leb a 2 ≡ true → Typed [] 5 a 0 0 1
unfolding sort_row
flag e = typed₀ some-bit (λ x y z. rw e)

pub konst : {low high bits : ℕ} → (is_bits bits && ltb (high * 2 ^ 64 + low) (2 ^ bits)) ≡ true → Typed [] 6 low high bits bits
unfolding sort_row
konst {low} {high} {bits} e = typed₀ (bits-some bits (and_l (is_bits bits) (ltb (high * 2 ^ 64 + low) (2 ^ bits)) e)) (λ x y z. rw e)

same : (α : ℕ) → is_bits α ≡ true → (is_bits α && eqb α α) ≡ true
same α e = and_i (is_bits α) (eqb α α) e (eq-eqb α α refl)

-- And, Xor, Eq: bits of equal widths
module _ {a b α : ℕ} (e : is_bits α ≡ true) where
  pub bv-and : Typed (a has α ∷ b has α ∷ []) 7 a b 0 α
  unfolding sort_row
  bv-and = typed₂ (bits-some α e) (bits-some α e) (bits-some α e) (λ z. rw (same α e))

  pub bv-xor : Typed (a has α ∷ b has α ∷ []) 8 a b 0 α
  unfolding sort_row
  bv-xor = typed₂ (bits-some α e) (bits-some α e) (bits-some α e) (λ z. rw (same α e))

  pub equal : Typed (a has α ∷ b has α ∷ []) 9 a b 0 1
  unfolding sort_row
  equal = typed₂ some-bit (bits-some α e) (bits-some α e) (λ z. rw (same α e))

-- BoolAnd, BoolOr, BoolNot: width 1
module _ {a b : ℕ} where
  pub bool-and : Typed (a has 1 ∷ b has 1 ∷ []) 10 a b 0 1
  unfolding sort_row
  bool-and = typed₂ some-bit some-bit some-bit (λ z. refl)

  pub bool-or : Typed (a has 1 ∷ b has 1 ∷ []) 11 a b 0 1
  unfolding sort_row
  bool-or = typed₂ some-bit some-bit some-bit (λ z. refl)

pub bool-not : {a : ℕ} → Typed (a has 1 ∷ []) 12 a 0 0 1
unfolding sort_row
bool-not = typed₁ some-bit some-bit (λ y z. refl)

-- Ite: a condition of width 1, branches of equal widths
pub ite : {a b c α : ℕ} → is_bits α ≡ true → Typed (a has 1 ∷ b has α ∷ c has α ∷ []) 13 a b c α
unfolding sort_row
ite {α = α} e = typed₃ (bits-some α e) some-bit (bits-some α e) (bits-some α e) (rw (e, eq-eqb α α refl))

-- Extract, Concat
pub extract : {x α hi lo : ℕ} → ((leb lo hi && ltb hi α) && is_bits α) ≡ true → Typed (x has α ∷ []) 14 x hi lo (hi - lo + 1)
unfolding sort_row
extract {x} {α} {hi} {lo} e = let p = extract-places α hi lo e in typed₁ (λ z. omega arith) (λ z. omega arith) (λ y z. rw e)

pub concat : {a b α β : ℕ} → ((is_bits α && is_bits β) && leb (α + β) 80) ≡ true → Typed (a has α ∷ b has β ∷ []) 15 a b 0 (α + β)
unfolding sort_row
concat {a} {b} {α} {β} e =
    let t : (is_bits α && is_bits β) ≡ true = and_l (is_bits α && is_bits β) (leb (α + β) 80) e in
    let p = bits-lo α (and_l (is_bits α) (is_bits β) t) in
    let q = bits-lo β (and_r (is_bits α) (is_bits β) t) in
    typed₂ (λ z. omega arith) (λ z. omega arith) (λ z. omega arith) (λ z. rw e)

-- FAdd, FSub, FMul, FDiv, FEq, FLt: two floats of the 80-bit format
module _ {a b : ℕ} where
  pub f-arith : (op : X87Arith) → Typed (a has extended ∷ b has extended ∷ []) (arith_kind_of op) a b nearest extended
  unfolding sort_row arith_kind_of
  f-arith Add = typed₂ some-float some-float some-float (λ z. refl)
  f-arith Sub = typed₂ some-float some-float some-float (λ z. refl)
  f-arith Mul = typed₂ some-float some-float some-float (λ z. refl)
  f-arith Div = typed₂ some-float some-float some-float (λ z. refl)

  pub f-equal : Typed (a has extended ∷ b has extended ∷ []) 20 a b 0 1
  unfolding sort_row
  f-equal = typed₂ some-bit some-float some-float (λ z. refl)

  pub f-less : Typed (a has extended ∷ b has extended ∷ []) 21 a b 0 1
  unfolding sort_row
  f-less = typed₂ some-bit some-float some-float (λ z. refl)

-- FIsNaN, FSqrt, FRoundToIntegral of one
module _ {a : ℕ} where
  pub f-is-nan : Typed (a has extended ∷ []) 22 a 0 0 1
  unfolding sort_row
  f-is-nan = typed₁ some-bit some-float (λ y z. refl)

  pub f-sqrt : Typed (a has extended ∷ []) 23 a nearest 0 extended
  unfolding sort_row
  f-sqrt = typed₁ some-float some-float (λ y z. refl)

  pub f-round : Typed (a has extended ∷ []) 24 a nearest 0 extended
  unfolding sort_row
  f-round = typed₁ some-float some-float (λ y z. refl)

-- Between bits and floats, and between floats
module _ {x f : ℕ} (e : is_float f ≡ true) where
  pub bv-to-fp : Typed (x has pattern_width f ∷ []) 25 x 0 f f
  unfolding sort_row
  bv-to-fp = typed₁ (float-some f e) (width_some f) (λ y z. rw (e, eq-eqb (pattern_width f) (pattern_width f) refl))

  pub fp-to-bv : Typed (x has f ∷ []) 26 x 0 0 (pattern_width f)
  unfolding sort_row
  fp-to-bv = typed₁ (width_some f) (float-some f e) (λ y z. rw e)

  pub fp-to-fp : {r g : ℕ} → leb r 1 ≡ true → is_float g ≡ true → Typed (x has f ∷ []) 29 x r g g
  unfolding sort_row
  fp-to-fp {r} {g} h k = typed₁ (float-some g k) (float-some f e) (λ y z. rw (e, h, k))

-- Between floats and whole numbers
module _ {x r bits : ℕ} (e : is_word bits ≡ true) (h : leb r 1 ≡ true) where
  pub fp-to-sbv : Typed (x has extended ∷ []) 27 x r bits bits
  unfolding sort_row
  fp-to-sbv = typed₁ (word_some bits e) some-float (λ y z. rw (h, e))

  pub sbv-to-fp : Typed (x has bits ∷ []) 28 x r extended extended
  unfolding sort_row
  sbv-to-fp = typed₁ some-float (word_some bits e) (λ y z. rw (e, h))
