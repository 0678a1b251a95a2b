use Rattle.std.proofs.Common.{refl, le-leb}
use Rattle.std.proofs.lemmas.Bool.{lt-leb}
use Rattle.export.proofs.Calls.{tells}
use Rattle.export.proofs.Lifting.{took, refused}
use Rattle.export.proofs.Places.{front-kept, front-written}
use Rattle.export.specs.Answers.{read_into}
use Rattle.export.specs.Flat.{flat_of}
use Rattle.export.proofs.x87_read_record.Goals as goal

pub returns-in_default : goal.returns-in_default
unfolding read_into
returns-in_default c =
    let h = lt-leb _ _ c.in_default.ensures.cases in
    let k = c.if-out-lt2.false in
    record { told = rw h (tells _ _ _ k refl c.lay.ensures); bytes = rw (le-leb _ _ k, h) }

pub returns-in-Ok-Some : goal.returns-in-Ok-Some
unfolding read_into
returns-in-Ok-Some c =
    let e = took _ c.record_at.ensures.0 c.new-reader.ensures.0 c.in-Ok-Some.is c.in-Ok-Some.field-0-is in
    let f = c.in-Some.ensures.cases in
    let h = le-leb _ _ f.enough in
    let k = c.if-out-lt2.false in
    rw (← e) (record { told = rw h (tells _ _ _ k refl c.lay-in-Ok-Some.ensures); bytes = rw (le-leb _ _ k, h) (front-written 177 f (flat_of c.in-Ok-Some.insn) c.write.ensures.0 c.write.ensures.1) })

pub returns-in-Ok-None : goal.returns-in-Ok-None
unfolding read_into
returns-in-Ok-None c =
    let e = took _ c.record_at.ensures.0 c.new-reader.ensures.0 c.in-Ok-None.is c.in-Ok-None.field-0-is in
    let f = c.in-Some.ensures.cases in
    let h = le-leb _ _ f.enough in
    let k = c.if-out-lt2.false in
    rw (← e) (record { told = rw h (tells _ _ _ k refl c.lay-in-Ok-None.ensures); bytes = rw (le-leb _ _ k, h) (front-kept 177 f) })

pub returns-in-Err : goal.returns-in-Err
unfolding read_into
returns-in-Err c =
    let e = refused _ c.record_at.ensures.0 c.new-reader.ensures.0 c.in-Err.is in
    let f = c.in-Some.ensures.cases in
    let h = le-leb _ _ f.enough in
    let k = c.if-out-lt2.false in
    rw (← e) (record { told = rw h (tells _ _ _ k c.number.ensures c.lay-in-Err.ensures); bytes = rw (le-leb _ _ k, h) (front-kept 177 f) })
