use Rattle.std.proofs.Common.{sym, ◌∙◌, subst}
use Rattle.cg_disk_records.specs.Stored.{stored_of}
use Rattle.cg_store.specs.Stands.{begun}
use Rattle.cg_store.specs.Calls.{Creates}
use Rattle.cg_store.proofs.Checkpointing.{first_saved, same_spelling}
use Rattle.cg_store.proofs.store.Store.create.Goals as goal

pub format-requires-clause-first : goal.format-requires-clause-first
format-requires-clause-first g c = record {
  state = stored_of c.args.core.now;
  saved = first_saved c.checkpoints_are_exact.ensures.again c.id.result c.args.core.now (sym c.id.ensures) c.deref.result.now (c.deref.ensures.value ∙ c.in-Ok.ensures.spelled) c.in-Ok.ensures.within c.requires.agrees;
  values_are = c.in-Ok.ensures.values;
}

pub returns-in-Ok : goal.returns-in-Ok
returns-in-Ok g c =
    let s = stored_of c.args.core.now in
    let bytes = c.deref.ensures.value ∙ c.in-Ok.ensures.spelled in
    let saved = first_saved c.checkpoints_are_exact.ensures.again c.id.result c.args.core.now (sym c.id.ensures) c.deref.result.now bytes c.in-Ok.ensures.within c.requires.agrees in
    let begins = subst (λ id. Creates g.D.Disk.view id (begun c.deref.result.now s) (g.D.Disk.view c.args.disk) c.format.result) c.id.ensures (c.format.ensures s saved) in
    subst (λ b. Creates g.D.Disk.view c.args.core.now.id (begun b s) (g.D.Disk.view c.args.disk) c.format.result) (bytes ∙ sym (same_spelling 1 c.args.core.now)) begins
