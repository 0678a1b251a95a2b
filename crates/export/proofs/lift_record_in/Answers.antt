use Rattle.std.proofs.Common.{◌∙◌, ap}
use Rattle.details.specs.Why.{detail_number, detail_for}
use Rattle.export.proofs.Lifting.{gives, took, refused, steps_on, ends, stops}
use Rattle.export.proofs.lift_record_in.Goals as goal

pub returns-in-Ok-Some : goal.returns-in-Ok-Some
unfolding detail_for
returns-in-Ok-Some c =
    let g = gives _ _ _ _ _ _ _ c.classify-classified.ensures (c.number-detail.ensures ∙ ap detail_number c.detail.ensures) c.of-site.ensures c.lift_in-outcome.ensures c.number-answer.ensures c.detail-told.ensures in
    steps_on _ _ _ _ _ c.requires.1 c.requires.0 (took _ c.record_at.ensures.0 c.new-reader.ensures.0 c.in-Ok-Some.is c.in-Ok-Some.field-0-is) _ _ _ _ _ _ g c.tell.ensures

pub returns-in-Ok-None : goal.returns-in-Ok-None
returns-in-Ok-None c = ends _ _ _ _ _ c.requires.1 c.requires.0 (took _ c.record_at.ensures.0 c.new-reader.ensures.0 c.in-Ok-None.is c.in-Ok-None.field-0-is) _ c.lay.ensures

pub returns-in-Err : goal.returns-in-Err
returns-in-Err c = stops _ _ _ _ _ c.requires.1 c.requires.0 (refused _ c.record_at.ensures.0 c.new-reader.ensures.0 c.in-Err.is) _ c.number.ensures _ c.lay-in-Err.ensures
