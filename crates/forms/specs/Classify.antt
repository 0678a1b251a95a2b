-- The answer of `classify`: 4 before 3, and then the form or the decline.
use Rattle.std.specs.Prelude.{cond, ◌&&◌, leb, take, Option, Result, Ok, Err}
use Rattle.texts.specs.Bytes.{all, bytes_of, valid_of}
use Rattle.forms.specs.Operands.{ranged_is, spelled_is, operands_of}
use Rattle.forms.specs.Names.{family_of}
use Rattle.forms.specs.Families.{made_of}
use Rattle.forms.specs.declared.Form.{Form}
use Rattle.forms.specs.declared.Instruction.{Instruction}
use Rattle.forms.specs.declared.BadInstruction.{BadInstruction}
use Rattle.forms.specs.declared.BadInstruction.TheVariants as bad

abbrev pub Classified : Type 0
Classified = Result (Option Form) BadInstruction

unfoldable pub classify_of : Instruction → Classified
classify_of i =
    cond (leb i.count 3 && all ranged_is (take i.count i.operands))
    (cond (valid_of i.mnemonic && all spelled_is (take i.count i.operands))
    (Ok (made_of (family_of (bytes_of i.mnemonic)) (operands_of i.count i.operands)))
    (Err bad.Text))
    (Err bad.Operands)
