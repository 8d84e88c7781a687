-- The names of actions as keys that are hashed.
use Rattle.cg_base.specs.declared.action_id.ActionId.{ActionId}
use Rattle.cg_session.specs.declared.action_key.ActionKey.{ActionKey}

abbrev pub key_of : ActionId → ActionKey
key_of id = record { creator = id.creator; index = id.index }

abbrev pub id_of : ActionKey → ActionId
id_of key = record { creator = key.creator; index = key.index }
