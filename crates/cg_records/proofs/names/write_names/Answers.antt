use Rattle.std.proofs.Common.{◌≡◌, [], rules, sym, ◌∙◌, append-nil, take, length}
use Rattle.cg_base.specs.Fronts.{KeepsFront}
use Rattle.std.specs.List.{flat_map}
use Rattle.cg_base.specs.TextLaws.{OnErr_from, KeepsFront-is, KeepsFront-through}
use Rattle.cg_codec.specs.Fields.{number32, spelled_id}
use Rattle.cg_records.proofs.names.write_names.Goals as goal

-- each step leaves what stood there before at the front
pub returns-in_err-put_action_id-clause-err : goal.returns-in_err-put_action_id-clause-err
returns-in_err-put_action_id-clause-err c =
    let before = c.args.out.now.items in
    let counted = c.put_u32.new.out.items in
    let some = c.loop-id.out.items in
    let left = c.put_action_id.new.out.items in
    let first : KeepsFront before counted = KeepsFront-is before counted (number32 (length c.args.ids.now)) (search rules) in
    let second : KeepsFront counted some = KeepsFront-is counted some (flat_map spelled_id (take c.loop-id.id-index c.args.ids.now)) (search rules) in
    let same : left ≡ some = search rules in
    let third : KeepsFront some left = KeepsFront-is some left [] (same ∙ sym (append-nil some)) in
    OnErr_from c.from_residual-in_err-put_action_id.result (KeepsFront-through before counted left first (KeepsFront-through counted some left second third))
