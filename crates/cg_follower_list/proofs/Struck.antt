-- A feed that was struck, with the actions that were to be taken.
use Rattle.std.proofs.Common.{◌≡◌, List, [], ◌∷◌, ℕ, Some, Ok, Err, subst, ◌∙◌}
use Rattle.std.specs.Option.{option_and_then, option_map}
use Rattle.cg_action.specs.declared.action.Action.{Action}
use Rattle.cg_disk.specs.Calls.{Begins}
use Rattle.cg_disk.specs.State.{DiskState, left_by}
use Rattle.cg_disk.specs.View.{DiskView}
use Rattle.cg_follow.specs.Answers.{Feeds}
use Rattle.cg_follow.specs.Followed.{Followed, fed}
use Rattle.cg_follow.specs.Stands.{Stands, Following}
use Rattle.cg_follow.specs.declared.errors.FollowErr.TheVariants.{Lost}
use Rattle.cg_follower_list.specs.Disks.{Running, strike_from, armed_on}
use Rattle.cg_follower_list.specs.Followers.{after_feed}
use Rattle.cg_follower_list.specs.Life.{Fallen}
use Rattle.cg_follower_list.proofs.Striking.{loses}

-- what a crash with this fill leaves of the disk, in the definition of a feed
pub record IsFedShort (fill : List ℕ) (actions : List Action) (r : Running) (e : DiskState) : Type 0 where
  pub left : Followed
  pub stands : Stands (left_by e fill) left
  pub is : Fallen left ≡ after_feed actions r.armed r.now

-- `begin` leaves what is armed
same-armed : (old new : DiskView) (fill : List ℕ) → Begins old new → armed_on new fill ≡ armed_on old fill
same-armed old new fill begins = λ i. option_and_then (option_map (strike_from (begins.time i) fill)) (option_map (λ (s : DiskState). s.strike) (begins.state i))

fed-short : {D : Type 0} (view : D → DiskView) (old : Following D) (actions : List Action) (disk : D) (s e : DiskState) (fill : List ℕ) →
    Feeds view old actions (Err (Lost disk)) → (view old.disk).state ≡ Some s → (view disk).state ≡ Some e →
    IsFedShort fill actions (record { now = old.now; armed = armed_on (view old.disk) fill }) e
fed-short {D} view old [] disk s e fill is told behind =
    absurd (let clash : Err (Lost disk) ≡ Ok old = is in cc)
fed-short view old (a ∷ actions) disk s e fill is told behind =
    let so = loses (view old.disk) (view disk) s e fill old.now (fed old.now (a ∷ actions)) is told behind in
    record { left = so.left; stands = so.stands; is = so.is }

pub struck-feed : {D : Type 0} (view : D → DiskView) (old begun : Following D) (actions : List Action) (disk : D) (s e : DiskState) (fill : List ℕ) (r : Running) →
    Feeds view begun actions (Err (Lost disk)) → Begins (view old.disk) (view begun.disk) → begun.now ≡ old.now →
    record { now = old.now; armed = armed_on (view old.disk) fill } ≡ r →
    (view begun.disk).state ≡ Some s → (view disk).state ≡ Some e → IsFedShort fill actions r e
struck-feed view old begun actions disk s e fill r is begins same seen told behind =
    subst (λ x. IsFedShort fill actions x e)
    ((λ i. record { now = same i; armed = same-armed (view old.disk) (view begun.disk) fill begins i }) ∙ seen)
    (fed-short view begun actions disk s e fill is told behind)
