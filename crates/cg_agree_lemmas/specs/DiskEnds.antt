-- What stands on a disk behind the end of an event: what stood there, or what the replica holds now.
use Rattle.std.proofs.Common.{◌≡◌, ℕ, ◌-◌, ◌<◌, ◌≤◌, ◌++◌, true, false, cond, List, Option, Some, None, refl, sym, ap, ◌∙◌, subst, ⊎_elim, arith, nat_lt, nat_le, [], if◌then◌else◌}
use Rattle.std.specs.Prelude.{◌&&◌}
use Rattle.std.proofs.lemmas.Bool.{cases_Bool, cond-true, cond-false, cond_both, ltb-true, leb-true, lt-ltb, or_cases, and_parts, false_from_ne_true}
use Rattle.cg_base.specs.declared.action_id.ActionId.{ActionId}
use Rattle.cg_client.specs.Replica.{Held}
use Rattle.cg_client.specs.Turn.{Turn}
use Rattle.cg_disk_records.specs.Stored.{stored_of, whiten}
use Rattle.cg_disk_records.specs.Commit.{commits}
use Rattle.cg_disk_records.specs.Checkpoint.{size_limit}
use Rattle.cg_disk_records.specs.Crash.{Strike, Fault, FailOnce, StopWith, Disk, EventEnd, Runs, Crashes, opens, with_change, with_checkpoint, calls_of, checkpointed, whitened, commit_under, struck, end_event, at_rest, crash_outcome, is_committed, is_checkpointed}
use Rattle.cg_model.specs.Turns.{is_kept}

-- a checkpoint changes nothing of it
content-checkpointed : (disk : Disk) → (checkpointed disk).content ≡ disk.content
unfolding with_checkpoint
content-checkpointed disk = cond_both (nat_lt size_limit disk.size) (with_checkpoint disk) disk (λ d. d.content ≡ disk.content) (λ y. refl) (λ n. refl)

content-changed : (disk : Disk) (t : Turn) → (with_change disk t).content ≡ stored_of (whiten t.replica.held)
unfolding with_change
content-changed disk t = refl

-- what stands with a checkpoint stands with the commit before it
late-committed : (call : ℕ) (fault : Fault) → 4 < call → (let strike : Strike = record { call = call; fault = fault } in is_committed strike ≡ true)
late-committed call FailOnce late = lt-ltb 3 call (omega arith)
late-committed call (StopWith fill) late = rw (lt-ltb 4 call late) refl

late-checkpointed : (call : ℕ) (fault : Fault) → (let strike : Strike = record { call = call; fault = fault } in is_checkpointed strike ≡ true) → 4 < call
late-checkpointed call FailOnce e = let far : 9 < call = ltb-true 9 call e in omega arith
late-checkpointed call (StopWith fill) e = ⊎_elim
    (λ y. (let far : 10 < call = ltb-true 10 call y in omega arith))
    (λ y. (let far : 9 ≤ call = leb-true 9 call (and_parts (nat_le 9 call) (opens fill) y).0 in omega arith))
    (or_cases (nat_lt 10 call) (nat_le 9 call && opens fill) e)

checkpoint-not : (strike : Strike) → is_committed strike ≡ false → is_checkpointed strike ≡ false
checkpoint-not strike no_commit = false_from_ne_true (is_checkpointed strike)
    (λ y. (let clash : true ≡ false = sym (late-committed strike.call strike.fault (late-checkpointed strike.call strike.fault y)) ∙ no_commit in cc))

content-lost : (disk : Disk) (t : Turn) (strike : Strike) → is_committed strike ≡ false → (at_rest (crash_outcome disk t strike)).content ≡ disk.content
unfolding crash_outcome
content-lost disk t strike e =
    ap (λ (d : Disk). d.content)
    (cond-false (is_checkpointed strike) (with_checkpoint (with_change disk t)) (if is_committed strike then with_change disk t else disk) (checkpoint-not strike e)
    ∙ cond-false (is_committed strike) (with_change disk t) disk e)

content-stands : (disk : Disk) (t : Turn) (strike : Strike) → is_committed strike ≡ true → (at_rest (crash_outcome disk t strike)).content ≡ stored_of (whiten t.replica.held)
unfolding crash_outcome with_checkpoint
content-stands disk t strike e =
    cond_both (is_checkpointed strike) (with_checkpoint (with_change disk t)) (cond (is_committed strike) (with_change disk t) disk) (λ (d : Disk). d.content ≡ stored_of (whiten t.replica.held))
    (λ y. content-changed disk t)
    (λ n. ap (λ (d : Disk). d.content) (cond-true (is_committed strike) (with_change disk t) disk e) ∙ content-changed disk t)

-- how an event may end at a replica: it makes no commit; it makes one; it is struck, and its commit stands, with the names that became
-- green; it is struck, and doesn't
pub end-shown : (disk : Disk) (old : Held) (t : Turn) (G : EventEnd → Type 0) →
    (commits old t ≡ false → (d : Disk) → d.content ≡ disk.content → G (Runs t.replica d)) →
    (commits old t ≡ true → (d : Disk) → d.content ≡ stored_of (whiten t.replica.held) → G (Runs (whitened t.replica) d)) →
    (is_kept disk.armed ≡ true → (d : Disk) → d.content ≡ stored_of (whiten t.replica.held) → G (Crashes d t.green)) →
    (is_kept disk.armed ≡ false → (d : Disk) → d.content ≡ disk.content → G (Crashes d [])) →
    G (end_event disk old t)
unfolding end_event
end-shown disk old t G kept committed stands lost =
    cond_both (commits old t) (commit_under disk.armed disk t) (Runs t.replica (record disk { unwritten = disk.unwritten ++ t.known })) G (λ y. under y disk.armed refl) (λ n. kept n _ refl) where
      under : commits old t ≡ true → (armed : Option Strike) → disk.armed ≡ armed → G (commit_under armed disk t)
      under y None is = committed y (checkpointed (with_change disk t)) (content-checkpointed (with_change disk t) ∙ content-changed disk t)
      under y (Some strike) is =
          let done = checkpointed (with_change disk t) in
          let after : Disk = record done { armed = Some (record strike { call = strike.call - calls_of (with_change disk t) }) } in
          let left = at_rest (crash_outcome disk t strike) in
          cond_both (nat_le strike.call (calls_of (with_change disk t))) (struck disk t strike) (Runs (whitened t.replica) after) G
          (λ reached. ⊎_elim
          (λ commit. subst (λ (green : List ActionId). G (Crashes left green)) (sym (cond-true (is_committed strike) t.green [] commit))
          (stands (ap is_kept is ∙ commit) left (content-stands disk t strike commit)))
          (λ no_commit. subst (λ (green : List ActionId). G (Crashes left green)) (sym (cond-false (is_committed strike) t.green [] no_commit))
          (lost (ap is_kept is ∙ no_commit) left (content-lost disk t strike no_commit)))
          (cases_Bool (is_committed strike)))
          (λ later. committed y after (content-checkpointed (with_change disk t) ∙ content-changed disk t))

pub end-cases : (disk : Disk) (old : Held) (t : Turn) (G : EventEnd → Type 0) →
    (commits old t ≡ false → (d : Disk) → d.content ≡ disk.content → G (Runs t.replica d)) →
    (commits old t ≡ true → (d : Disk) → d.content ≡ stored_of (whiten t.replica.held) → G (Runs (whitened t.replica) d)) →
    (is_kept disk.armed ≡ true → (d : Disk) (green : List ActionId) → d.content ≡ stored_of (whiten t.replica.held) → G (Crashes d green)) →
    (is_kept disk.armed ≡ false → (d : Disk) (green : List ActionId) → d.content ≡ disk.content → G (Crashes d green)) →
    G (end_event disk old t)
end-cases disk old t G kept committed stands lost = end-shown disk old t G kept committed (λ stays d is. stands stays d t.green is) (λ gone d is. lost gone d [] is)
