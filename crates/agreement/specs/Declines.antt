-- THEOREM 15: NO DECLINE IS WITHOUT A REASON, AND NO MODELLED INSTRUCTION HAS ONE.
-- Of an instruction that is refused neither with 3 nor with 4, `classify` declines exactly if one of the five reasons holds, each of which is said without
-- the classifier, of one table (details/specs/Takes and Why), and the detail that is given is the first of them
use Rattle.std.specs.Prelude.{◌≡◌, refl, Bool, true, false, cond, ◌&&◌, ℕ, leb, take, Option, Some, None, Ok, Err}
use Rattle.std.proofs.Common.{sym, ap, ◌∙◌}
use Rattle.std.proofs.lemmas.Bool.{false≢true}
use Rattle.texts.specs.Bytes.{all, bytes_of, valid_of}
use Rattle.forms.specs.Operands.{ranged_is, spelled_is, operands_of}
use Rattle.forms.specs.Names.{family_of}
use Rattle.forms.specs.Families.{made_of}
use Rattle.forms.specs.Classify.{Classified, classify_of}
use Rattle.forms.specs.Numbers.{number_of}
use Rattle.forms.specs.declared.Instruction.{Instruction}
use Rattle.forms.specs.declared.Form.{Form}
use Rattle.forms.specs.declared.BadInstruction.TheVariants as bad
use Rattle.details.specs.declared.Reason.{Reason}
use Rattle.details.specs.Why.{unknown_name, wrong_count, wrong_kind, unknown_address, wrong_width, reason_of, detail_number, why_of}
use Rattle.details.specs.declared.Reason.TheVariants.{UnknownName, WrongCount, WrongKind, UnknownAddress, WrongWidth}
use Rattle.details.proofs.Shapes.{by_shape}
pub mod Families
use Families.{declined_is, some_is, exactly}

-- k is the number of the first reason that holds
pub data Because (i : Instruction) : ℕ → Type 0 where
  name : unknown_name i ≡ true → Because i 21
  count : unknown_name i ≡ false → wrong_count i ≡ true → Because i 22
  kind : unknown_name i ≡ false → wrong_count i ≡ false → wrong_kind i ≡ true → Because i 23
  address : unknown_name i ≡ false → wrong_count i ≡ false → wrong_kind i ≡ false → unknown_address i ≡ true → Because i 24
  width : unknown_name i ≡ false → wrong_count i ≡ false → wrong_kind i ≡ false → unknown_address i ≡ false → wrong_width i ≡ true → Because i 25

-- `why_of` gives that number, and 0 where there is none
pub first : (i : Instruction) (k : ℕ) → Because i k → why_of i ≡ k
unfolding why_of reason_of
first i _ (name a) = rw a
first i _ (count a b) = rw (a, b)
first i _ (kind a b c) = rw (a, b, c)
first i _ (address a b c d) = rw (a, b, c, d)
first i _ (width a b c d e) = rw (a, b, c, d, e)

pub because : (i : Instruction) → some_is (reason_of i) ≡ true → Because i (why_of i)
unfolding why_of reason_of some_is
because i = way (unknown_name i) (wrong_count i) (wrong_kind i) (unknown_address i) (wrong_width i) refl refl refl refl refl
  where
    way : (a b c d e : Bool) → unknown_name i ≡ a → wrong_count i ≡ b → wrong_kind i ≡ c → unknown_address i ≡ d → wrong_width i ≡ e
        → let k = cond {A = Option Reason} a (Some UnknownName) (cond b (Some WrongCount) (cond c (Some WrongKind) (cond d (Some UnknownAddress) (cond e (Some WrongWidth) None)))) in
        some_is k ≡ true → Because i (detail_number k)
    way true b c d e p q r s t h = name p
    way false true c d e p q r s t h = count p q
    way false false true d e p q r s t h = kind p q r
    way false false false true e p q r s t h = address p q r s
    way false false false false true p q r s t h = width p q r s t
    way false false false false false p q r s t h = absurd (false≢true h)

-- What is not refused is what the family makes of the operands
abbrev formed_of : Instruction → Option Form
formed_of i = made_of (family_of (bytes_of i.mnemonic)) (operands_of i.count i.operands)

formed : (i : Instruction) → leb (number_of (classify_of i)) 1 ≡ true → classify_of i ≡ Ok (formed_of i)
unfolding classify_of
formed i = way (leb i.count 3 && all ranged_is (take i.count i.operands)) (valid_of i.mnemonic && all spelled_is (take i.count i.operands))
  where
    way : (x y : Bool) → let f = formed_of i in
        leb (number_of (cond x (cond y (Ok f) (Err bad.Text)) (Err bad.Operands))) 1 ≡ true → ◌≡◌ {A = Classified} (cond x (cond y (Ok f) (Err bad.Text)) (Err bad.Operands)) (Ok f)
    way true true h = refl
    way true false h = absurd (false≢true h)
    way false y h = absurd (false≢true h)

-- .. and is declined exactly if it has a reason
tested : (i : Instruction) → declined_is (formed_of i) ≡ some_is (reason_of i)
tested i = rw (by_shape i) (exactly (family_of (bytes_of i.mnemonic)) i.count i.operands)

declined-so : (f : Option Form) → declined_is f ≡ true → f ≡ None
declined-so (Some f) h = absurd (false≢true h)
declined-so None h = refl

some-so : (i : Instruction) (k : ℕ) → Because i k → some_is (reason_of i) ≡ true
unfolding some_is reason_of
some-so i _ (name a) = rw a
some-so i _ (count a b) = rw (a, b)
some-so i _ (kind a b c) = rw (a, b, c)
some-so i _ (address a b c d) = rw (a, b, c, d)
some-so i _ (width a b c d e) = rw (a, b, c, d, e)

-- A DECLINE HAS A REASON
pub declines-so : (i : Instruction) → classify_of i ≡ Ok None → Because i (why_of i)
declines-so i e =
    let h : leb (number_of (classify_of i)) 1 ≡ true = rw e refl in
    let f = formed i h in
    let none : formed_of i ≡ None = cc in
    because i (sym (tested i) ∙ ap declined_is none)

-- AND WHAT HAS A REASON IS DECLINED, for that reason
pub declines-only : (i : Instruction) → leb (number_of (classify_of i)) 1 ≡ true → (k : ℕ) → Because i k → (classify_of i ≡ Ok None) × (why_of i ≡ k)
declines-only i h k b =
    let none = declined-so (formed_of i) (tested i ∙ some-so i k b) in
    (formed i h ∙ ap (λ (f : Option Form). ok f) none, first i k b)
  where
    ok : Option Form → Classified
    ok f = Ok f

-- So the detail of a decline is 21 to 25
listed : (i : Instruction) (k : ℕ) → Because i k → (leb 21 k && leb k 25) ≡ true
listed i _ (name a) = refl
listed i _ (count a b) = refl
listed i _ (kind a b c) = refl
listed i _ (address a b c d) = refl
listed i _ (width a b c d e) = refl

pub detail-listed : (i : Instruction) → classify_of i ≡ Ok None → (leb 21 (why_of i) && leb (why_of i) 25) ≡ true
detail-listed i e = listed i (why_of i) (declines-so i e)
