use Rattle.std.proofs.Common.{◌≡◌, length, sym, subst}
use Rattle.cg_disk.specs.Model.{view_of}
use Rattle.cg_client.specs.Joined.{piece_count}
use Rattle.cg_model.specs.World.{TransferState}
use Rattle.cg_transfer.specs.Calls.{IsOfJoined}
use Rattle.cg_transfer.proofs.Arriving.{all-taken, is-joined}
use Rattle.cg_transfer.proofs.transfer.Transfer.finish.Goals as goal

pub returns-in-Ok : goal.returns-in-Ok
returns-in-Ok c =
    let t = c.self.inside in
    let is = c.self.invariant in
    let many : length t.taking.parts ≡ piece_count t.held.value = subst (λ (s : TransferState). s.taken ≡ piece_count s.content) (sym c.self.view_is) c.requires in
    let all = all-taken t.writer t.taking t.held.value is.taking is.all many c.snapshots_are_counted.ensures in
    let made = c.in-Ok.ensures t.held.value is.ascends all in
    let s : TransferState = record { joiner = t.joiner; giver = t.giver; content = t.held.value; taken = length t.taking.parts } in
    subst (λ (x : TransferState). IsOfJoined (view_of c.in-Ok.disk) x) c.self.view_is
    (is-joined s t.taking.id (view_of t.taking.disk) (view_of c.in-Ok.disk) is.id_is is.new made)
