use Rattle.std.proofs.Common.{IfOk, sym, subst}
use Rattle.cg_codec.specs.Taking.{unread_of}
use Rattle.cg_store.specs.declared.replay.ChangeList.{ChangeList}
use Rattle.cg_store.specs.Putting.{item_reading, item_step, PutsNext}
use Rattle.cg_store.proofs.replay.put_next.Goals as goal

pub returns-in-Known : goal.returns-in-Known
returns-in-Known c =
    subst (λ (list : ChangeList). IfOk c.know_next.result (PutsNext (item_reading list) (item_step list) c.args.core.now (unread_of c.args.fields.now) c.know_next.new.core (unread_of c.know_next.new.fields)))
    (sym c.in-Known.is) c.know_next.ensures

pub returns-in-Green : goal.returns-in-Green
returns-in-Green c =
    subst (λ (list : ChangeList). IfOk c.turn_next.result (PutsNext (item_reading list) (item_step list) c.args.core.now (unread_of c.args.fields.now) c.turn_next.new.core (unread_of c.turn_next.new.fields)))
    (sym c.in-Green.is) c.turn_next.ensures

pub returns-in-Made : goal.returns-in-Made
returns-in-Made c =
    subst (λ (list : ChangeList). IfOk c.make_next.result (PutsNext (item_reading list) (item_step list) c.args.core.now (unread_of c.args.fields.now) c.make_next.new.core (unread_of c.make_next.new.fields)))
    (sym c.in-Made.is) c.make_next.ensures
