use Rattle.cg_codec.specs.Fields.{number64, spelled_id}
use Rattle.cg_action.proofs.Fronts.{front_kept}
use Rattle.cg_action.proofs.writing.write_action.Goals as goal

pub returns-clause-err : goal.returns-clause-err
returns-clause-err c =
    let action = c.args.action.now in
    front_kept c.write_kind.result c.args.out.now.items (spelled_id action.id) c.put_action_id.new.out.items (number64 action.green_line) c.put_u64.new.out.items c.write_kind.new.out.items c.in_ok-put_action_id.ensures.ok c.in_ok-put_u64.ensures.ok c.write_kind.ensures.err
