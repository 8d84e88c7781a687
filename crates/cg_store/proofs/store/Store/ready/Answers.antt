use Rattle.std.proofs.Common.{sym, ◌∙◌, ap, subst}
use Rattle.cg_client.specs.Replica.{State}
use Rattle.cg_disk_records.specs.Stored.{stable_of}
use Rattle.cg_store.specs.Stands.{OnDisk, Stands}
use Rattle.cg_store.specs.Due.{IsPrepared, IsReady}
use Rattle.cg_store.proofs.Appending.{its_content}
use Rattle.cg_store.proofs.Committing.{ready_of}
use Rattle.cg_store.proofs.store.Store.ready.Goals as goal

pub returns-clause-due : goal.returns-clause-due
returns-clause-due g c =
    let s = c.self.inside in
    let held = c.self.invariant in
    let old = g.D.Disk.view s.journal in
    let h = c.args.core.now in
    let d = c.args.draft.now in
    let due = c.in_ok-due.due in
    let prepared = subst (λ l. IsPrepared s.values l h d due) c.as_slice-unwritten.ensures.value c.in_ok-due.ensures in
    subst (λ k. (u : OnDisk) (state : State) → Stands k.id (g.D.Disk.view k.disk).reads u → IsReady u.content k.unwritten h d state due) c.self.view_is
    (λ u state stands.
    let content = its_content old s.id s.side s.generation s.values held u stands in
    ready_of s.values u.content s.unwritten h d state due (held.values_are ∙ ap stable_of (sym content)) prepared)
