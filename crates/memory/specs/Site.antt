-- What a lift looks at in an instruction beyond its form
use Rattle.std.specs.Prelude.{ℕ, eqb, get_or}
use Rattle.forms.specs.Operands.{no_operand}
use Rattle.forms.specs.declared.Operand.{Operand}
use Rattle.forms.specs.declared.Instruction.{Instruction}
use Rattle.memory.specs.declared.Site.{Site}

abbrev site_at : ℕ → Operand → Site
site_at address o = record { address = address; memory = o.address; slot = o.slot; register = eqb o.kind 0 }

-- The instruction's address, the address and slot numbers of its first operand, and whether that is a register
abbrev pub site_of : Instruction → Site
site_of i = site_at i.address (get_or i.operands 0 no_operand)
