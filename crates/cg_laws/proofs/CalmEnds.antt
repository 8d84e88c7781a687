-- A calm replica is calm behind the end of its event, whose device calls nothing strikes; and a disk brings up a calm one.
use Rattle.std.proofs.Common.{nat_lt, ◌≡◌, ℕ, ◌-◌, false, List, ◌++◌, Option, Some, None, refl}
use Rattle.std.proofs.lemmas.Bool.{cond_both}
use Rattle.cg_base.specs.declared.weighted.Weighted.{Weighted}
use Rattle.cg_base.specs.EachLaws.{Each-drop}
use Rattle.cg_client.specs.Replica.{Held, NonPrim, fresh}
use Rattle.cg_client.specs.Turn.{Turn, begin}
use Rattle.cg_client.specs.Whitening.{white_at}
use Rattle.cg_disk_records.specs.Stored.{stored_of, whiten, recovery_turn}
use Rattle.cg_disk_records.specs.Commit.{commits}
use Rattle.cg_disk_records.specs.Checkpoint.{size_limit}
use Rattle.cg_disk_records.specs.Crash.{Strike, Disk, new_disk, with_change, with_checkpoint, checkpointed, EventEnd, Runs, Crashes, commit_under, end_event, at_rest, recovered, disk_recovered}
use Rattle.cg_model.specs.World.{NodeState, Up, Down}
use Rattle.cg_laws.proofs.Calm.{Calm, CalmHeld, CalmState, CalmTurn}
use Rattle.cg_laws.proofs.CalmMarks.{own_to_red-calm}

-- the disk of the replica p, at which no fault is armed
abbrev CalmDisk : ℕ → Disk → Type 0
CalmDisk p disk = CalmHeld p disk.content × (disk.armed ≡ None)

abbrev pub CalmLife : ℕ → NodeState → Type 0
CalmLife p (Up r disk) = CalmHeld p r.held × CalmState r.state × CalmDisk p disk
CalmLife p (Down disk green) = CalmDisk p disk

-- the replica runs on
abbrev pub RunsOn : ℕ → EventEnd → Type 0
RunsOn p (Runs r disk) = CalmLife p (Up r disk)
RunsOn p (Crashes disk green) = ⊥

module _ (p : ℕ) where
  whiten-calm : (h : Held) → CalmHeld p h → CalmHeld p (whiten h)
  unfolding whiten
  whiten-calm h calm = (calm.0, (Each-drop Calm (white_at h - h.queue.white) h.queue.greens calm.1.0, calm.1.1), calm.2, calm.3, calm.4)

  stored-calm : (h : Held) → CalmHeld p h → CalmHeld p (stored_of h)
  stored-calm h calm = (calm.0, calm.1, calm.2, tt, calm.4)

  checkpointed-calm : (disk : Disk) → CalmDisk p disk → CalmDisk p (checkpointed disk)
  unfolding with_checkpoint
  checkpointed-calm disk calm = cond_both (nat_lt size_limit disk.size) (with_checkpoint disk) disk (CalmDisk p) (λ y. calm) (λ n. calm)

  changed-calm : (disk : Disk) (t : Turn) → CalmDisk p disk → CalmTurn p t → CalmDisk p (with_change disk t)
  unfolding with_change
  changed-calm disk t calm turn = (stored-calm (whiten t.replica.held) (whiten-calm t.replica.held turn.0), calm.1)

  committed-calm : (armed : Option Strike) (disk : Disk) (t : Turn) → armed ≡ None → CalmDisk p disk → CalmTurn p t → RunsOn p (commit_under armed disk t)
  committed-calm None disk t e calm turn = (whiten-calm t.replica.held turn.0, turn.1, checkpointed-calm (with_change disk t) (changed-calm disk t calm turn))
  committed-calm (Some strike) disk t e calm turn = absurd cc

  pub ended-calm : (disk : Disk) (old : Held) (t : Turn) → CalmDisk p disk → CalmTurn p t → RunsOn p (end_event disk old t)
  unfolding end_event
  ended-calm disk old t calm turn =
      cond_both (commits old t) (commit_under disk.armed disk t) (Runs t.replica (record disk { unwritten = disk.unwritten ++ t.known })) (RunsOn p)
      (λ y. committed-calm disk.armed disk t calm.1 calm turn) (λ n. (turn.0, turn.1, calm))

  -- ---- replicas that come up and go down

  pub crashed-calm : (disk : Disk) → CalmDisk p disk → CalmDisk p (at_rest disk)
  crashed-calm disk calm = (calm.0, refl)

  pub recovered-calm : (disk : Disk) → CalmDisk p disk → CalmLife p (Up (recovered disk) (disk_recovered disk))
  unfolding recovery_turn
  recovered-calm disk calm =
      let turn = own_to_red-calm p (begin (record { held = disk.content; state = NonPrim false })) (calm.0, tt, tt) in
      (turn.0, turn.1, calm)

  pub fresh-calm : (set : List Weighted) → (let r = fresh p set in CalmLife p (Up r (new_disk r.held)))
  fresh-calm set = ((refl, (tt, tt), tt, tt, refl), tt, ((refl, (tt, tt), tt, tt, refl), refl))
