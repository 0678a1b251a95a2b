-- Why an instruction is declined: five reasons, each on its own, over the table of what each name takes (Takes).
use Rattle.std.specs.Prelude.{Bool, true, false, cond, not, ◌&&◌, ◌||◌, List, [], ◌∷◌, ℕ, ◌+◌, eqb, length, get_or, Option, Some, None, Ok, Err}
use Rattle.texts.specs.Bytes.{bytes_of}
use Rattle.texts.specs.Letters.{trim_of, same_letters}
use Rattle.texts.specs.Places.{place_of}
use Rattle.forms.specs.declared.Operand.{Operand}
use Rattle.forms.specs.declared.Instruction.{Instruction}
use Rattle.forms.specs.Classify.{Classified}
use Rattle.details.specs.declared.Reason.{Reason}
use Rattle.details.specs.declared.Reason.TheVariants.{UnknownName, WrongCount, WrongKind, UnknownAddress, WrongWidth}
use Rattle.forms.specs.Operands.{ax_of, among, no_operand}
use Rattle.details.specs.Takes.{Registers, no_register, places, st0-alone, ax-alone, Takes, anything, only, Row, table}

-- no row has this name
abbrev pub unknown_in : List ℕ → List Row → Bool
unknown_in s [] = true
unknown_in s (r ∷ rs) = cond (same_letters s r.text) false (unknown_in s rs)

-- the lists of operands that it takes
abbrev pub lists_in : List ℕ → List Row → List (List Takes)
lists_in s [] = []
lists_in s (r ∷ rs) = cond (same_letters s r.text) r.lists (lists_in s rs)

-- no list has this length
abbrev pub none_long : ℕ → List (List Takes) → Bool
none_long n [] = true
none_long n (l ∷ ls) = cond (eqb n (length l)) false (none_long n ls)

-- the list of this length
abbrev pub long_in : ℕ → List (List Takes) → List Takes
long_in n [] = []
long_in n (l ∷ ls) = cond (eqb n (length l)) l (long_in n ls)

-- the mnemonic without blanks at its ends, and what it takes
abbrev pub spelled_by : Instruction → List ℕ
spelled_by i = trim_of (bytes_of i.mnemonic)

abbrev pub lists_of : Instruction → List (List Takes)
lists_of i = lists_in (spelled_by i) table

-- a place; the place 0
abbrev pub place_is : Option ℕ → Bool
place_is (Some k) = true
place_is None = false

abbrev pub top_is : Option ℕ → Bool
top_is (Some k) = eqb k 0
top_is None = false

-- a register of this text is one of these
abbrev pub register_is : Registers → List ℕ → Bool
register_is no_register s = false
register_is places s = place_is (place_of s)
register_is st0-alone s = top_is (place_of s)
register_is ax-alone s = ax_of s

abbrev pub empty_is : List ℕ → Bool
empty_is [] = true
empty_is (w ∷ ws) = false

-- an operand of the wrong kind: a register (kind 0) that is not taken, memory (kind 1) where none is, or neither of them
unfoldable pub kind_off : Takes → Operand → Bool
kind_off anything o = false
kind_off (only rs ws) o = cond (eqb o.kind 0) (not (register_is rs (bytes_of o.text))) (cond (eqb o.kind 1) (empty_is ws) true)

-- memory whose address is not known
unfoldable pub address_off : Takes → Operand → Bool
address_off anything o = false
address_off (only rs ws) o = eqb o.kind 1 && not (eqb o.known 1)

-- memory of a width that is not taken
unfoldable pub width_off : Takes → Operand → Bool
width_off anything o = false
width_off (only rs ws) o = eqb o.kind 1 && not (among o.width ws)

-- some operand is off, from operand k on
abbrev pub some_off : (Takes → Operand → Bool) → ℕ → List Takes → List Operand → Bool
some_off off k [] os = false
some_off off k (t ∷ []) os = off t (get_or os k no_operand)
some_off off k (t ∷ u ∷ ts) os = off t (get_or os k no_operand) || some_off off (k + 1) (u ∷ ts) os

-- .. of those that the name takes where it takes so many
abbrev pub operand_off : (Takes → Operand → Bool) → Instruction → Bool
operand_off off i = some_off off 0 (long_in i.count (lists_of i)) i.operands

-- 21: UNKNOWN NAME
unfoldable pub unknown_name : Instruction → Bool
unknown_name i = unknown_in (spelled_by i) table

-- 22: WRONG NUMBER OF OPERANDS
unfoldable pub wrong_count : Instruction → Bool
wrong_count i = none_long i.count (lists_of i)

-- 23: AN OPERAND OF THE WRONG KIND, a register text that the name does not take, or a place other than st(0) where only that is taken
unfoldable pub wrong_kind : Instruction → Bool
wrong_kind i = operand_off kind_off i

-- 24: ADDRESS UNKNOWN
unfoldable pub unknown_address : Instruction → Bool
unknown_address i = operand_off address_off i

-- 25: WIDTH NOT TAKEN
unfoldable pub wrong_width : Instruction → Bool
wrong_width i = operand_off width_off i

-- THE DETAIL OF A DECLINE is the first that holds, in rising order; none where none does
unfoldable pub reason_of : Instruction → Option Reason
reason_of i =
    cond (unknown_name i) (Some UnknownName)
    (cond (wrong_count i) (Some WrongCount)
    (cond (wrong_kind i) (Some WrongKind)
    (cond (unknown_address i) (Some UnknownAddress)
    (cond (wrong_width i) (Some WrongWidth)
    None))))

-- its number, or 0
abbrev pub detail_number : Option Reason → ℕ
detail_number None = 0
detail_number (Some UnknownName) = 21
detail_number (Some WrongCount) = 22
detail_number (Some WrongKind) = 23
detail_number (Some UnknownAddress) = 24
detail_number (Some WrongWidth) = 25

unfoldable pub why_of : Instruction → ℕ
why_of i = detail_number (reason_of i)

-- THE DETAIL BESIDE AN ANSWER OF `classify`: that of a decline, and none of any other
unfoldable pub reason_for : Classified → Instruction → Option Reason
reason_for (Ok (Some form)) i = None
reason_for (Ok None) i = reason_of i
reason_for (Err e) i = None

unfoldable pub detail_for : Classified → Instruction → ℕ
detail_for c i = detail_number (reason_for c i)

-- a detail stands beside answer 1 alone
abbrev pub beside_of : ℕ → ℕ → ℕ
beside_of answer detail = cond (eqb answer 1) detail 0

-- WHAT IS GIVEN BESIDE AN ANSWER'S NUMBER: the detail beside 1, and 0 beside every other
unfoldable pub detail_of : ℕ → Instruction → ℕ
detail_of answer i = beside_of answer (why_of i)
