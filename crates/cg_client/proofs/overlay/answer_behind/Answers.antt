use Rattle.std.proofs.Common.{◌≡◌, rules}
use Rattle.cg_db.specs.Apply.{fold_actions_from}
use Rattle.cg_client.specs.Overlay.{named_part}
use Rattle.cg_client.proofs.Answering.{answered_ok, part-fits}
use Rattle.cg_client.proofs.overlay.answer_behind.Goals as goal

pub answer_with-requires : goal.answer_with-requires
answer_with-requires c =
    let part : c.in_ok-before.before ≡ named_part c.args.db.now c.args.actions = search rules in
    part-fits c.args.db.now c.in_ok-before.before c.args.actions part c.holds.ensures

pub returns : goal.returns
returns c =
    let part : c.in_ok-before.before ≡ named_part c.args.db.now c.args.actions = search rules in
    let applied : c.apply_all.new.db ≡ fold_actions_from c.in_ok-before.before c.args.actions = search rules in
    answered_ok c.args.db.now c.in_ok-before.before c.apply_all.new.db c.args.actions c.args.q.now c.answer_with.result c.answer_with.ensures part applied c.holds.ensures
