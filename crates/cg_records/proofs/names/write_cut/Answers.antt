use Rattle.std.proofs.Common.{◌≡◌, [], rules, sym, ◌∙◌, append-nil}
use Rattle.cg_base.specs.Fronts.{KeepsFront}
use Rattle.cg_base.specs.TextLaws.{OnErr_from, KeepsFront-is, KeepsFront-through}
use Rattle.cg_codec.specs.Fields.{number32}
use Rattle.cg_records.proofs.names.write_cut.Goals as goal

-- each step leaves what stood there before at the front
pub returns-in_err-put_action_id-clause-err : goal.returns-in_err-put_action_id-clause-err
returns-in_err-put_action_id-clause-err c =
    let before = c.args.out.now.items in
    let counted = c.put_u32.new.out.items in
    let some = c.loop-top.out.items in
    let left = c.put_action_id.new.out.items in
    let first : KeepsFront before counted = KeepsFront-is before counted (number32 c.from.result) (search rules) in
    let second : KeepsFront counted some = c.loop-top.invariant.1 in
    let same : left ≡ some = search rules in
    let third : KeepsFront some left = KeepsFront-is some left [] (same ∙ sym (append-nil some)) in
    OnErr_from c.from_residual-in_err-put_action_id.result (KeepsFront-through before counted left first (KeepsFront-through counted some left second third))
