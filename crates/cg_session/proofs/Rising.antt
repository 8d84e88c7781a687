-- What a session has seen never falls.
use Rattle.std.proofs.Common.{◌≡◌, ℕ, ◌≤◌, ltb, Bool, true, false, cond, [], ◌∷◌, ◌++◌, Result, Ok, Err, refl, sym, ap, arith}
use Rattle.std.proofs.lemmas.Bool.{and_parts, ltb-true, ltb-false}
use Rattle.cg_base.specs.declared.action_id.ActionId.{ActionId}
use Rattle.cg_base.specs.Ids.{has_name}
use Rattle.cg_session.specs.declared.token.BehindErr.{BehindErr}
use Rattle.cg_session.specs.Laws.{NeverFalls}
use Rattle.cg_session.specs.Token.{Token, wrote, read, raises, replied}

-- a state that is read
abbrev seen : Token → Result Token BehindErr
seen t = Ok t

same_seen : (a b : Token) → seen a ≡ seen b → a ≡ b
same_seen a b e = cc

reads : (old new : Token) (pos : ℕ) → read old pos ≡ Ok new → (old.position ≤ pos) × (new.position ≡ pos)
reads old new pos = by (ltb pos old.position) refl where
  by : (b : Bool) → ltb pos old.position ≡ b →
      cond b (Err (record { have = pos; want = old.position })) (seen (record old { position = pos })) ≡ seen new →
      (old.position ≤ pos) × (new.position ≡ pos)
  by true less e = absurd cc
  by false less e =
      let is : record old { position = pos } ≡ new = same_seen (record old { position = pos }) new e in
      (ltb-false pos old.position less, ap (λ (t : Token). t.position) (sym is))

writes : (t : Token) (id : ActionId) → (wrote t id).position ≡ t.position
writes t id = by (has_name t.written id) where
  by : (b : Bool) → (cond b t (record t { written = t.written ++ id ∷ [] })).position ≡ t.position
  by true = refl
  by false = refl

-- a token at a place, where the place is above, and else as it was
abbrev raised : Bool → Token → ℕ → Token
raised b t place = cond b (record t { position = place }) t

replies : (t : Token) (id : ActionId) (place : ℕ) → t.position ≤ (replied t id place).position
replies t id place = by (raises t id place) refl where
  by : (b : Bool) → raises t id place ≡ b → t.position ≤ (raised b t place).position
  by true e =
      let above = ltb-true t.position place (and_parts (has_name t.written id) (ltb t.position place) e).1 in
      omega arith
  by false e = omega arith

own : (t : Token) (id : ActionId) (place : ℕ) → has_name t.written id ≡ true → place ≤ (replied t id place).position
own t id place is = by (ltb t.position place) refl where
  by : (b : Bool) → ltb t.position place ≡ b → place ≤ (replied t id place).position
  by true e = rw (is, e) (omega arith)
  by false e =
      let below : place ≤ t.position = ltb-false t.position place e in
      rw (is, e) below

pub never_falls : NeverFalls
never_falls = record { reads = reads; writes = writes; replies = replies; own = own }
