use Rattle.std.proofs.Common.{sym, ◌∙◌, ap}
use Rattle.cg_records.specs.Reading.{take_number}
use Rattle.cg_disk_records.proofs.Generations.{front_told, front_none}
use Rattle.cg_disk_records.proofs.checkpoint.generation_of.Goals as goal

pub returns-in-Ok : goal.returns-in-Ok
returns-in-Ok c = front_told c.args.bytes.now c.in-Ok.generation _ (sym (ap take_number c.new-fields.ensures) ∙ c.in-Ok.ensures)

pub returns-in-Err : goal.returns-in-Err
returns-in-Err c = front_none c.args.bytes.now c.in-Err.field-0 (sym (ap take_number c.new-fields.ensures) ∙ c.in-Err.ensures.0)
