-- What follows a commit: the white count, and the checkpoint.
use Rattle.std.proofs.Common.{◌≡◌, nat_lt, Bool, true, Result, Ok, refl, sym, subst}
use Rattle.cg_disk.specs.View.{DiskView}
use Rattle.cg_client.specs.Replica.{Held, Replica}
use Rattle.cg_client.specs.Calls.{IsLineGreen}
use Rattle.cg_disk_records.specs.Stored.{whiten}
use Rattle.cg_disk_records.specs.Checkpoint.{size_limit}
use Rattle.cg_disk_records.specs.Crash.{whitened}
use Rattle.cg_model.specs.Following.{Follows}
use Rattle.cg_store.specs.Answers.{EachMoment}
use Rattle.cg_base.specs.Choice.{Either}
use Rattle.cg_store.specs.Calls.{Moves, IsEither}
use Rattle.cg_store.specs.StoreState.{StoreState}
use Rattle.cg_store.specs.Stands.{OnDisk, Stands, disk_of, checkpointed}
use Rattle.cg_store.specs.declared.errors.CommitErr.{CommitErr}
use Rattle.cg_store.specs.declared.outputs.Outputs.{Outputs}
use Rattle.cg_engine.specs.Seen.{white_in}
use Rattle.cg_engine.specs.Engines.{IsEngine}
use Rattle.cg_engine.specs.Ending.{MaySave, MayGoOn, up, saved, Checkpoints, Saves, GoesOn}
use Rattle.cg_engine.specs.declared.answers.Handled.{Handled}
use Rattle.cg_engine.specs.declared.answers.Handled.TheVariants as handled
use Rattle.cg_engine.specs.declared.wreck.LastEvent.{LastEvent}
use Rattle.cg_store.specs.EndingLaws.{whether_true}

chosen : (b : Bool) (A B : Type 0) → b ≡ true → Either b A B → A
chosen b A B is one = subst (λ x. Either x A B) is one

-- the white count rises as the definitions say
whitened_is : (r : Replica) → white_in r ≡ whitened r
unfolding whiten
whitened_is r = refl

module _ {D : Type 0} (view : D → DiskView) (k : StoreState D) where
  module _ (h : Held) (may : (w : OnDisk) → Stands k.id (view k.disk).reads w → MaySave k.unwritten w h) (here : (u : OnDisk) × Stands k.id (view k.disk).reads u) where
    -- there is an engine before a checkpoint, and behind it
    pub engine_here : IsEngine (view k.disk) k.id k.unwritten h
    engine_here = record { standing = here.0; stands = here.1; follows = (may here.0 here.1).follows }

    pub engine_behind : (new : StoreState D) → Moves view k here.0 (checkpointed here.0) (Ok new) → IsEngine (view new.disk) new.id new.unwritten h
    engine_behind new moves = record {
      standing = checkpointed here.0;
      stands = subst (λ id. Stands id (view new.disk).reads (checkpointed here.0)) (sym moves.1) moves.0.stands;
      follows = subst (λ x. Follows (disk_of x (checkpointed here.0)) h) (sym moves.2) (may here.0 here.1).later;
    }

  module _ (w : OnDisk) (r : Replica) (o : Outputs) (last : LastEvent) (result : Handled D) where
    -- a checkpoint was made, or ended the event
    pub saved_as : (a : Result (StoreState D) (CommitErr D)) → nat_lt size_limit w.size ≡ true → Moves view k w (checkpointed w) a → EachMoment view (λ s. s.disk) (IsEither k.id w (checkpointed w)) (view k.disk) a →
        result ≡ saved a r o k.id last → Saves view k w r o last result
    saved_as a long moves moments is =
        whether_true (nat_lt size_limit w.size) (Checkpoints view k w r o last result) (result ≡ handled.Running (up k r) o) long
        (record { answer = a; moves = moves; moments = moments; is = is })

    pub goes_on_as : o.written ≡ true → (white : Replica) → white ≡ white_in r → Saves view k w white o last result → GoesOn view k w r o last result
    goes_on_as written white same saves =
        whether_true o.written (Saves view k w (whitened r) o last result) (result ≡ handled.Running (up k r) o) written
        (subst (λ (x : Replica). Saves view k w x o last result) (whitened_is r) (subst (λ (x : Replica). Saves view k w x o last result) same saves))

  module _ (r : Replica) (written : Bool) (may : (w : OnDisk) → Stands k.id (view k.disk).reads w → MayGoOn written k.unwritten w r.held) (is : written ≡ true) where
    both_at : (w : OnDisk) → Stands k.id (view k.disk).reads w → IsLineGreen r.held × MaySave k.unwritten w (whiten r.held)
    both_at w stands = chosen written (IsLineGreen r.held × MaySave k.unwritten w (whiten r.held)) (Follows (disk_of k.unwritten w) r.held) is (may w stands)

    pub line_here : (u : OnDisk) × Stands k.id (view k.disk).reads u → IsLineGreen r.held
    line_here here = (both_at here.0 here.1).0

    pub may_save_at : (white : Replica) → white ≡ white_in r → (w : OnDisk) → Stands k.id (view k.disk).reads w → MaySave k.unwritten w white.held
    may_save_at white same w stands =
        subst (λ (x : Replica). MaySave k.unwritten w x.held) (sym same) (subst (λ (x : Replica). MaySave k.unwritten w x.held) (sym (whitened_is r)) (both_at w stands).1)
