-- What a store's disk stands for, in the account of a replica's events: a commit, a checkpoint, and a crash in each call.
use Rattle.std.specs.Prelude.{◌≡◌, ◌+◌, Bool, true, false, List, [], refl, if◌then◌else◌}
use Rattle.std.proofs.Common.{arith, sym, ap, ◌∙◌}
use Rattle.cg_action.specs.declared.action.Action.{Action}
use Rattle.cg_journal.specs.Adds.{gate_stands}
use Rattle.cg_client.specs.Turn.{Turn}
use Rattle.cg_disk_records.specs.Stored.{Stored}
use Rattle.cg_disk_records.specs.Crash.{Strike, Disk, new_disk, with_change, with_checkpoint, is_committed, is_checkpointed, at_rest, crash_outcome}
use Rattle.cg_store.specs.Stands.{OnDisk, committed, checkpointed, created, disk_of}
use Rattle.cg_store.specs.Defined.{strike_at, EndsAsDefined}
use Rattle.cg_store.specs.StrikeLaws.{outcome, early_commit, early_checkpoint, late_commit, late_checkpoint}

change_is_written : (unwritten : List Action) (t : Turn) (u : OnDisk) → disk_of [] (committed unwritten t u) ≡ with_change (disk_of unwritten u) t
unfolding with_change
change_is_written unwritten t u = refl

checkpoint_is_written : (u : OnDisk) → disk_of [] (checkpointed u) ≡ with_checkpoint (disk_of [] u)
unfolding with_checkpoint
checkpoint_is_written u = refl

new_is_written : (s : Stored) → disk_of [] (created s) ≡ new_disk s
new_is_written s = refl

-- ---- the outcome of a strike, by what it has let stand

crash_is : (disk : Disk) (t : Turn) (strike : Strike) (checkpoint commit : Bool) → is_checkpointed strike ≡ checkpoint → is_committed strike ≡ commit → crash_outcome disk t strike ≡ outcome disk t checkpoint commit
unfolding crash_outcome
crash_is disk t strike checkpoint commit a b = ap (λ x. outcome disk t x (is_committed strike)) a ∙ ap (λ x. outcome disk t checkpoint x) b

-- ---- each of them

module _ (unwritten : List Action) (t : Turn) (u : OnDisk) where
  crashed : (strike : Strike) (checkpoint commit : Bool) → is_checkpointed strike ≡ checkpoint → is_committed strike ≡ commit →
      at_rest (crash_outcome (disk_of unwritten u) t strike) ≡ at_rest (outcome (disk_of unwritten u) t checkpoint commit)
  crashed strike checkpoint commit a b = ap at_rest (crash_is (disk_of unwritten u) t strike checkpoint commit a b)

  with_commit : (b : Bool) → at_rest (outcome (disk_of unwritten u) t false b) ≡ disk_of [] (if b then committed unwritten t u else u)
  with_commit true = ap at_rest (sym (change_is_written unwritten t u))
  with_commit false = refl

  with_both : (b : Bool) → at_rest (outcome (disk_of unwritten u) t b true) ≡ disk_of [] (if b then checkpointed (committed unwritten t u) else committed unwritten t u)
  with_both true = ap at_rest (sym (checkpoint_is_written (committed unwritten t u) ∙ ap with_checkpoint (change_is_written unwritten t u)))
  with_both false = ap at_rest (sym (change_is_written unwritten t u))

pub ends_as_defined : EndsAsDefined
ends_as_defined = record {
  commit = λ unwritten t u. change_is_written unwritten t u;
  checkpoint = λ u. checkpoint_is_written u;
  new = λ s. new_is_written s;
  in_change = λ unwritten t u call blow fill le.
      crashed unwritten t u (strike_at call blow fill) false (gate_stands blow call fill) (early_checkpoint call blow fill (omega (arith, le))) (early_commit call blow fill le)
      ∙ with_commit unwritten t u (gate_stands blow call fill);
  in_closing = λ unwritten t u call blow fill from to.
      crashed unwritten t u (strike_at call blow fill) false true (early_checkpoint call blow fill (omega (arith, to))) (late_commit call blow fill from)
      ∙ with_commit unwritten t u true;
  in_checkpoint = λ unwritten t u call blow fill le.
      crashed unwritten t u (strike_at (6 + call) blow fill) (gate_stands blow call fill) true (late_checkpoint call blow fill le) (late_commit (6 + call) blow fill (omega arith))
      ∙ with_both unwritten t u (gate_stands blow call fill);
}
