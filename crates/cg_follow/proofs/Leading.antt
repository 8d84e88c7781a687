-- What follows of records that are exact: a first record is the follower, and a feed behind the others feeds it; and
-- feeds go on.
use Rattle.std.proofs.Common.{◌≡◌, ℕ, ◌++◌, List, [], ◌∷◌, Some, refl, ap, ◌∙◌}
use Rattle.std.specs.Prelude.{option_map}
use Rattle.std.proofs.lemmas.List.{length-append}
use Rattle.std.proofs.lemmas.List.Sums.{fold-append}
use Rattle.cg_disk_records.specs.Parts.{read_value}
use Rattle.cg_action.specs.declared.action.Action.{Action}
use Rattle.cg_follow.specs.Followed.{Followed, fed, IsFollowed, AreFed}
use Rattle.cg_follow.specs.Bytes.{spelled_follower, spelled_feed, follower_in, feed_in}
use Rattle.cg_follow.specs.Stands.{led_by, follower_on}
use Rattle.cg_follow.specs.Laws.{RecordsAreExact, RecordsLead, FeedsGoOn}
use Rattle.cg_db.specs.FoldLaws.{fold_actions_from-append}

pub feeds-go-on : FeedsGoOn
feeds-go-on first next = rw (length-append first next, fold_actions_from-append [] first next) refl

pub follower-in : RecordsAreExact → (f : Followed) → IsFollowed f → follower_in (spelled_follower f) ≡ Some f
unfolding follower_in
follower-in exact f is = ap read_value (exact.follower.again f is)

pub feed-in : RecordsAreExact → (actions : List Action) → AreFed actions → feed_in (spelled_feed actions) ≡ Some actions
unfolding feed_in
feed-in exact actions are = ap read_value (exact.feed.again actions are)

-- one more record that is a feed
pub led-added : (bodies : List (List ℕ)) (f : Followed) (body : List ℕ) (actions : List Action) →
    follower_on bodies ≡ Some f → feed_in body ≡ Some actions →
    follower_on (bodies ++ body ∷ []) ≡ Some (fed f actions)
led-added [] f body actions is read = cc
led-added (first ∷ feeds) f body actions is read =
    fold-append led_by (follower_in first) feeds (body ∷ []) ∙ ap (λ now. led_by now body) is ∙ ap
    (option_map (fed f)) read

pub records-lead : RecordsAreExact → RecordsLead
records-lead exact = record {
  first = follower-in exact;
  next = λ bodies f actions is are. led-added bodies f (spelled_feed actions) actions is (feed-in exact actions are);
}
