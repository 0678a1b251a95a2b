use Rattle.std.proofs.Common.{◌≡◌, ◌≤◌, ◌∙◌, ap, sym, arith, length, take, Some, None, Ok}
use Rattle.texts.specs.Bytes.{all, bytes_of}
use Rattle.forms.specs.Operands.{operands_of, ranged_is, spelled_is}
use Rattle.forms.specs.Names.{family_of}
use Rattle.forms.specs.Classify.{Classified}
use Rattle.forms.specs.Families.{made_of}
use Rattle.forms.proofs.Found.{range, below-count, too-many, unranged, misspelled, passed}
use Rattle.forms.proofs.classify.Goals as goal
use Rattle.forms.proofs.classify.Goals.{then-not-is_valid-via-then-not-is_valid, then-not-is_valid-via-else-not-is_valid+then-not-all_spelled}

pub returns-in_default : goal.returns-in_default
returns-in_default c = too-many _ (omega (arith, c.in_default.ensures.lookup))

pub returns-then-not-all_ranged : goal.returns-then-not-all_ranged
returns-then-not-all_ranged c =
    let few : c.args.insn.now.count ≤ 3 = omega (arith, c.in-Some.ensures.lookup) in
    let below : c.in-Some.operands.now ≡ take c.args.insn.now.count c.args.insn.now.operands = c.in-Some.ensures.lookup.0.2 ∙ range _ _ in
    unranged _ few (sym (c.all_ranged.ensures ∙ ap (all ranged_is) below) ∙ c.if-not-all_ranged.true)

pub returns-then-not-is_valid : goal.returns-then-not-is_valid
returns-then-not-is_valid c =
    let few : c.args.insn.now.count ≤ 3 = omega (arith, c.in-Some.ensures.lookup) in
    let below : c.in-Some.operands.now ≡ take c.args.insn.now.count c.args.insn.now.operands = c.in-Some.ensures.lookup.0.2 ∙ range _ _ in
    elim c.then-not-is_valid.branch [
      | then-not-is_valid-via-then-not-is_valid w ↦ misspelled _ few (sym (c.all_ranged.ensures ∙ ap (all ranged_is) below) ∙ c.if-not-all_ranged.false) (rw (← c.is_valid.ensures, w.if-not-is_valid.true))
      | then-not-is_valid-via-else-not-is_valid+then-not-all_spelled w ↦ misspelled _ few (sym (c.all_ranged.ensures ∙ ap (all ranged_is) below) ∙ c.if-not-all_ranged.false) (rw (← c.is_valid.ensures, w.if-not-is_valid.false) (sym (w.all_spelled.ensures ∙ ap (all spelled_is) below) ∙ w.if-not-all_spelled.true))
    ]

pub returns-in-Some-family : goal.returns-in-Some-family
returns-in-Some-family c =
    let few : c.args.insn.now.count ≤ 3 = omega (arith, c.in-Some.ensures.lookup) in
    let below : c.in-Some.operands.now ≡ take c.args.insn.now.count c.args.insn.now.operands = c.in-Some.ensures.lookup.0.2 ∙ range _ _ in
    let wide : length c.args.insn.now.operands ≡ 3 = omega arith in
    let named : family_of (bytes_of c.args.insn.now.mnemonic) ≡ Some c.in-Some-family.family = rw (← c.as_bytes.ensures, ← c.family.ensures) c.in-Some-family.is in
    let made : ◌≡◌ {A = Classified} (Ok c.form.result) (Ok (made_of (family_of (bytes_of c.args.insn.now.mnemonic)) (operands_of c.args.insn.now.count c.args.insn.now.operands))) =
    rw (named, ← below-count c.args.insn.now.count c.args.insn.now.operands few wide, ← below, c.form.ensures) in
    (made ∙ passed _ few (sym (c.all_ranged.ensures ∙ ap (all ranged_is) below) ∙ c.if-not-all_ranged.false) (sym c.is_valid.ensures ∙ c.if-not-is_valid.false)
    (sym (c.all_spelled.ensures ∙ ap (all spelled_is) below) ∙ c.if-not-all_spelled.false))

pub returns-in-None : goal.returns-in-None
returns-in-None c =
    let few : c.args.insn.now.count ≤ 3 = omega (arith, c.in-Some.ensures.lookup) in
    let below : c.in-Some.operands.now ≡ take c.args.insn.now.count c.args.insn.now.operands = c.in-Some.ensures.lookup.0.2 ∙ range _ _ in
    let wide : length c.args.insn.now.operands ≡ 3 = omega arith in
    let named : family_of (bytes_of c.args.insn.now.mnemonic) ≡ None = rw (← c.as_bytes.ensures, ← c.family.ensures) c.in-None.is in
    let made : ◌≡◌ {A = Classified} (Ok None) (Ok (made_of (family_of (bytes_of c.args.insn.now.mnemonic)) (operands_of c.args.insn.now.count c.args.insn.now.operands))) = rw named in
    (made ∙ passed _ few (sym (c.all_ranged.ensures ∙ ap (all ranged_is) below) ∙ c.if-not-all_ranged.false) (sym c.is_valid.ensures ∙ c.if-not-is_valid.false)
    (sym (c.all_spelled.ensures ∙ ap (all spelled_is) below) ∙ c.if-not-all_spelled.false))
