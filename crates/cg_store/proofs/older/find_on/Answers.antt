use Rattle.cg_store.proofs.Translating.{if_ok_finds_on}
use Rattle.cg_store.proofs.older.find_on.Goals as goal

pub returns : goal.returns
returns c =
    if_ok_finds_on c.args.id (record { a = c.args.a; b = c.args.b }) c.in_ok-newer_a.newer_a c.in_ok-newer_b.newer_b c.in_ok-newer_a.ensures c.in_ok-newer_b.ensures c.find.result c.find.ensures
