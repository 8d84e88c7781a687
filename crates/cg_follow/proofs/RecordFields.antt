-- The records of a follower's disk as fields: what is spelled is read, and what is read is spelled so.
use Rattle.std.proofs.Common.{◌≡◌, ◌^◌, true, List, refl, arith}
use Rattle.std.specs.Prelude.{length}
use Rattle.std.proofs.lemmas.Bool.{ltb-true, lt-ltb}
use Rattle.cg_base.specs.declared.limits.TheConstants.{COUNT_LIMIT}
use Rattle.cg_codec.specs.Fields.{number64, list}
use Rattle.cg_codec.specs.Reading.{only, take_u64}
use Rattle.cg_codec.specs.Laws.{IsField}
use Rattle.cg_codec.specs.FieldLaws.{field_has, field_only, field_whole}
use Rattle.cg_codec.specs.PlainLaws.{IsBelow, u64_field}
use Rattle.cg_codec.specs.ShapeLaws.{field_two}
use Rattle.cg_action.specs.declared.action.Action.{Action}
use Rattle.cg_action.specs.Bytes.{spelled_action}
use Rattle.cg_disk_records.specs.Checkpoint.{spelled_entry}
use Rattle.cg_disk_records.specs.Limits.{AreActions, IsDatabase}
use Rattle.cg_disk_records.specs.Reading.{actions_reading, entries_reading}
use Rattle.cg_follow.specs.Followed.{IsFollowed, AreFed}
use Rattle.cg_follow.specs.Bytes.{spelled_follower, spelled_feed, is_cursor, is_some, cursor_reading, follower_reading, feed_reading}
use Rattle.cg_follow.specs.Laws.{RecordsAreExact}

cursor-field : IsField (IsBelow COUNT_LIMIT) number64 cursor_reading
unfolding cursor_reading
cursor-field =
    field_has (λ n. IsBelow (2 ^ 64) n × (is_cursor n ≡ true)) (IsBelow COUNT_LIMIT) number64 (only is_cursor take_u64)
    (λ n has. ltb-true n COUNT_LIMIT has.1) (λ n has. (omega arith, lt-ltb n COUNT_LIMIT has))
    (field_only (IsBelow (2 ^ 64)) number64 take_u64 is_cursor u64_field)

follower-field : IsField IsDatabase (list spelled_entry) entries_reading →
    IsField IsFollowed spelled_follower follower_reading
unfolding spelled_follower follower_reading
follower-field entries =
    field_two (λ cursor db. record { cursor = cursor; db = db }) (λ f. f.cursor) (λ f. f.db)
    (IsBelow COUNT_LIMIT) IsDatabase number64 (list spelled_entry)
    cursor_reading entries_reading IsFollowed spelled_follower cursor-field entries
    (λ f has. (has.cursor, has.db, refl, refl))
    (λ cursor db small is. (record { cursor = small; db = is }, refl, refl))

feed-field : IsField AreActions (list spelled_action) actions_reading → IsField AreFed spelled_feed feed_reading
unfolding spelled_feed feed_reading
feed-field actions =
    field_has (λ (xs : List Action). AreActions xs × (is_some xs ≡ true)) AreFed (list spelled_action)
    (only is_some actions_reading)
    (λ xs has. record { some = ltb-true 0 (length xs) has.1; actions = has.0 })
    (λ xs has. (has.actions, lt-ltb 0 (length xs) has.some))
    (field_only AreActions (list spelled_action) actions_reading is_some actions)

pub records-exact : IsField AreActions (list spelled_action) actions_reading → IsField IsDatabase
    (list spelled_entry) entries_reading → RecordsAreExact
records-exact actions entries = record {
  follower = field_whole IsFollowed spelled_follower follower_reading (follower-field entries);
  feed = field_whole AreFed spelled_feed feed_reading (feed-field actions);
}
