-- The disk that a joiner makes.
use Rattle.std.proofs.Common.{◌≡◌, ℕ, ◌+◌, length, Option, Some, None, option_map, ap, subst, ◌∙◌, arith}
use Rattle.std.specs.Prelude.{IfSome}
use Rattle.std.proofs.lemmas.List.{take_all}
use Rattle.cg_disk.specs.Crashes.{IsNew}
use Rattle.cg_disk.specs.State.{DiskState}
use Rattle.cg_disk.specs.View.{DiskView}
use Rattle.cg_client.specs.Joined.{joiner_content, piece_count}
use Rattle.cg_client.specs.Replica.{Held}
use Rattle.cg_store.specs.Answers.{IsReached}
use Rattle.cg_store.specs.Stands.{Stands, created}
use Rattle.cg_join.specs.Finishing.{Joining}
use Rattle.cg_join.specs.Handing.{IsTaking}
use Rattle.cg_join.specs.Snapshot.{Snapshot as JoinSnapshot, parts_of}
use Rattle.cg_model.specs.World.{TransferState}
use Rattle.cg_transfer.specs.Calls.{IsOfJoined}

-- all parts of a snapshot were taken
pub all-taken : {D : Type 0} (s : JoinSnapshot) (j : Joining D) (h : Held) → IsTaking s j → s.parts ≡ parts_of h → length j.parts ≡ piece_count h → ((h : Held) → length (parts_of h) ≡ piece_count h) →
    j.parts ≡ parts_of h
all-taken s j h taking all many counted =
    let same : length s.parts ≡ length (parts_of h) = ap length all in
    let whole : length (parts_of h) ≡ piece_count h = counted h in
    taking.parts ∙ take_all (length j.parts) s.parts (omega (arith, same, whole, many)) ∙ all

-- where a disk tells that no strike is armed, none is
none-armed : (o : Option DiskState) → option_map (λ (s : DiskState). s.strike) o ≡ Some None → IfSome o (λ s. s.strike ≡ None)
none-armed None e = tt
none-armed (Some s) e = let both : Some s.strike ≡ Some None = e in let none : s.strike ≡ None = cc in none

-- a new disk became the joiner's
pub is-joined : (s : TransferState) (own : ℕ) (old new : DiskView) → own ≡ s.joiner → IsNew old → IsReached own 7 (created (joiner_content own s.content)) old new → IsOfJoined new s
is-joined s own old new same is made =
    let now : new.time ≡ old.time + 7 = made.time in
    let first : old.time ≡ 0 = is.time in
    record {
      stands = subst (λ (n : ℕ). Stands n new.reads (created (joiner_content n s.content))) same made.stands;
      rest = made.rest;
      unarmed = none-armed new.state (made.unstruck.stays ∙ ap (option_map (λ (x : DiskState). x.strike)) is.state);
      time = omega (arith, now, first);
    }
