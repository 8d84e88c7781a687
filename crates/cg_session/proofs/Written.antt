-- The names that are kept as keys are those that clauses see.
use Rattle.std.proofs.Common.{◌≡◌, ℕ, Bool, true, false, List, [], ◌∷◌, ◌++◌, refl, ap}
use Rattle.std.specs.Prelude.{map, ◌||◌}
use Rattle.std.specs.List.{list_any}
use Rattle.indexmap.specs.IndexSet.{insert_key}
use Rattle.cg_base.specs.declared.action_id.ActionId.{ActionId}
use Rattle.cg_base.specs.Ids.{same_id, has_name}
use Rattle.cg_session.specs.declared.action_key.ActionKey.{ActionKey}
use Rattle.cg_session.specs.contracts.action_key.ActionKeyPartialEq.TheImpl.{ghosts as action_key}
use Rattle.cg_session.specs.ActionKey.{key_of, id_of}
use Rattle.cg_session.specs.Token.{Token, wrote}

-- what clauses see
abbrev pub seen : ℕ → List ActionKey → Token
seen position keys = record { position = position; written = map id_of keys }

pub found : (id : ActionId) (keys : List ActionKey) →
    list_any (action_key.eq (key_of id)) keys ≡ has_name (map id_of keys) id
found id [] = refl
found id (key ∷ keys) = ap (λ b. same_id id (id_of key) || b) (found id keys)

map-last : (id : ActionId) (keys : List ActionKey) → map id_of (keys ++ key_of id ∷ []) ≡ map id_of keys ++ id ∷ []
map-last id [] = refl
map-last id (key ∷ keys) = ap (λ ids. id_of key ∷ ids) (map-last id keys)

pub noted : (position : ℕ) (id : ActionId) (keys : List ActionKey) →
    seen position (insert_key action_key.eq keys (key_of id)) ≡ wrote (seen position keys) id
noted position id keys = by (list_any (action_key.eq (key_of id)) keys) refl where
  by : (b : Bool) → list_any (action_key.eq (key_of id)) keys ≡ b →
      seen position (insert_key action_key.eq keys (key_of id)) ≡ wrote (seen position keys) id
  by true e = rw (e, ← found id keys, e) refl
  by false e = rw (e, ← found id keys, e) (λ i. record { position = position; written = map-last id keys i })
