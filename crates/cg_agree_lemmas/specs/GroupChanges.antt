-- A group behind changes of where its replicas stand: of one twice, of two, of one that sends or goes down, and of a set.
use Rattle.std.proofs.Common.{◌≡◌, ℕ, suc, ◌≤◌, ◌<◌, Bool, true, false, cond, List, [], ◌∷◌, ◌++◌, Option, Some, None, map, fold, refl, sym, ap, ◌∙◌, arith, append-nil}
use Rattle.std.specs.Prelude.{◌==◌}
use Rattle.std.proofs.lemmas.Bool.{cond-true, cond-false, cond_both}
use Rattle.std.proofs.lemmas.List.{append_assoc}
use Rattle.cg_group.specs.State.{Standing, GroupState, standing_of, regular_in, set_standing}
use Rattle.cg_group.specs.Events.{go_down, send_from, send, send_all}
use Rattle.cg_group.specs.LookupLaws.{configurations-set_standing, standing_of-set, put-other, put-same as put-here}
use Rattle.cg_model.specs.FactsLists.{IsRising}
use Rattle.cg_agree_lemmas.specs.GroupTurn.{standing-id}
use Rattle.cg_agree_lemmas.specs.Standings.{standing-twice, standing-commute, standing-self, gone-own, gone-other, ids-standing, rising-with_member, rising-gone}

module _ {M : Type 0} where
  -- the replicas of a group ascend
  abbrev pub DoRise : GroupState M → Type 0
  DoRise g = IsRising 0 (map (λ s. s.id) g.replicas)

  pub set-twice : (g : GroupState M) (a b : Standing M) → a.id ≡ b.id → set_standing (set_standing g a) b ≡ set_standing g b
  unfolding set_standing
  set-twice g a b e = ap (λ list. record g { replicas = list }) (standing-twice g.replicas a b e)

  pub set-commute : (g : GroupState M) (a b : Standing M) → (a.id ≡ b.id → ⊥) → set_standing (set_standing g a) b ≡ set_standing (set_standing g b) a
  unfolding set_standing
  set-commute g a b apart = ap (λ list. record g { replicas = list }) (standing-commute g.replicas a b apart)

  pub set-self : (g : GroupState M) (p : ℕ) (s : Standing M) → DoRise g → standing_of g p ≡ Some s → set_standing g s ≡ g
  unfolding set_standing standing_of
  set-self g p s rise e = ap (λ list. record g { replicas = list }) (standing-self 0 g.replicas p s e rise).0

  pub rising-set : (g : GroupState M) (a : Standing M) → DoRise g → DoRise (set_standing g a)
  unfolding set_standing
  rising-set g a rise = rw (ids-standing g.replicas a) (rising-with_member 0 a.id (map (λ s. s.id) g.replicas) (omega arith) rise)

  pub rising-down : (g : GroupState M) (p : ℕ) → DoRise g → DoRise (go_down g p)
  unfolding go_down
  rising-down g p rise = rising-gone 0 p g.replicas rise

  -- ---- one goes down

  pub down-own : (g : GroupState M) (a : Standing M) (p : ℕ) → a.id ≡ p → go_down (set_standing g a) p ≡ go_down g p
  unfolding go_down set_standing
  down-own g a p e = ap (λ list. record g { replicas = list }) (gone-own g.replicas a p e)

  pub down-other : (g : GroupState M) (a : Standing M) (p : ℕ) → (a.id ≡ p → ⊥) → DoRise g → go_down (set_standing g a) p ≡ set_standing (go_down g p) a
  unfolding go_down set_standing
  down-other g a p apart rise = ap (λ list. record g { replicas = list }) (gone-other 0 g.replicas a p apart rise)

  -- ---- one sends

  sent-once : (g : GroupState M) (p : ℕ) (m : M) (P : GroupState M → Type 0) → P g → ((s : Standing M) → standing_of g p ≡ Some s → P (set_standing g (record s { unordered = s.unordered ++ m ∷ [] }))) → P (send g p m)
  unfolding send send_from
  sent-once g p m P same changed = at (standing_of g p) refl where
    at : (o : Option (Standing M)) → standing_of g p ≡ o → P (send_from g o m)
    at None e = same
    at (Some s) e = cond_both (regular_in s.phase == 0) g (set_standing g (record s { unordered = s.unordered ++ m ∷ [] })) P (λ y. same) (λ n. changed s e)

  pub down-sent : (list : List M) (g : GroupState M) (p : ℕ) → go_down (send_all g p list) p ≡ go_down g p
  down-sent [] g p = refl
  down-sent (m ∷ list) g p =
      down-sent list (send g p m) p
      ∙ sent-once g p m (λ h. go_down h p ≡ go_down g p) refl (λ s e. down-own g (record s { unordered = s.unordered ++ m ∷ [] }) p (standing-id g p s e))

  pub rising-sent : (list : List M) (g : GroupState M) (p : ℕ) → DoRise g → DoRise (send_all g p list)
  rising-sent [] g p rise = rise
  rising-sent (m ∷ list) g p rise =
      rising-sent list (send g p m) p (sent-once g p m DoRise rise (λ s e. rising-set g (record s { unordered = s.unordered ++ m ∷ [] }) rise))

  send-other : (g : GroupState M) (a : Standing M) (p : ℕ) (m : M) → (a.id ≡ p → ⊥) → send (set_standing g a) p m ≡ set_standing (send g p m) a
  unfolding send send_from
  send-other g a p m apart =
      ap (λ o. send_from (set_standing g a) o m) (standing_of-set g a p ∙ put-other (standing_of g) a.id (Some a) p (λ e. apart (sym e)))
      ∙ at (standing_of g p) refl where
        at : (o : Option (Standing M)) → standing_of g p ≡ o → send_from (set_standing g a) o m ≡ set_standing (send_from g o m) a
        at None e = refl
        at (Some s) e =
            let new : Standing M = record s { unordered = s.unordered ++ m ∷ [] } in
            two (regular_in s.phase == 0) new (set-commute g a new (λ same. apart (same ∙ standing-id g p s e))) where
              two : (b : Bool) (new : Standing M) → set_standing (set_standing g a) new ≡ set_standing (set_standing g new) a → cond b (set_standing g a) (set_standing (set_standing g a) new) ≡ set_standing (cond b g (set_standing g new)) a
              two true new e = refl
              two false new e = e

  -- what others send isn't asked by where one stands
  pub sent-other : (list : List M) (g : GroupState M) (a : Standing M) (p : ℕ) → (a.id ≡ p → ⊥) → send_all (set_standing g a) p list ≡ set_standing (send_all g p list) a
  sent-other [] g a p apart = refl
  sent-other (m ∷ list) g a p apart = ap (λ h. send_all h p list) (send-other g a p m apart) ∙ sent-other list (send g p m) a p apart

  send-own : (g : GroupState M) (s : Standing M) (p : ℕ) (m : M) → s.id ≡ p → send (set_standing g s) p m
      ≡ cond (regular_in s.phase == 0) (set_standing g s) (set_standing (set_standing g s) (record s { unordered = s.unordered ++ m ∷ [] }))
  unfolding send send_from
  send-own g s p m e = ap (λ o. send_from (set_standing g s) o m) (ap (standing_of (set_standing g s)) (sym e) ∙ standing_of-set g s s.id ∙ put-here (standing_of g) s.id (Some s))

  -- what a regular replica sends waits behind the rest; what another one sends is dropped
  pub sent-waits : (list : List M) (g : GroupState M) (s : Standing M) (p : ℕ) → s.id ≡ p → (regular_in s.phase == 0) ≡ false →
      send_all (set_standing g s) p list ≡ set_standing g (record s { unordered = s.unordered ++ list })
  sent-waits [] g s p e regular = ap (λ xs. set_standing g (record s { unordered = xs })) (sym (append-nil s.unordered))
  sent-waits (m ∷ list) g s p e regular =
      let new : Standing M = record s { unordered = s.unordered ++ m ∷ [] } in
      ap (λ h. send_all h p list) (send-own g s p m e ∙ cond-false (regular_in s.phase == 0) (set_standing g s) (set_standing (set_standing g s) new) regular ∙ set-twice g s new refl)
      ∙ sent-waits list g new p e regular
      ∙ ap (λ xs. set_standing g (record s { unordered = xs })) (append_assoc s.unordered (m ∷ []) list)

  pub sent-dropped : (list : List M) (g : GroupState M) (s : Standing M) (p : ℕ) → s.id ≡ p → (regular_in s.phase == 0) ≡ true → send_all (set_standing g s) p list ≡ set_standing g s
  sent-dropped [] g s p e out = refl
  sent-dropped (m ∷ list) g s p e out =
      let new : Standing M = record s { unordered = s.unordered ++ m ∷ [] } in
      ap (λ h. send_all h p list) (send-own g s p m e ∙ cond-true (regular_in s.phase == 0) (set_standing g s) (set_standing (set_standing g s) new) out) ∙ sent-dropped list g s p e out

  pub sent-twice : (xs ys : List M) (g : GroupState M) (p : ℕ) → send_all (send_all g p xs) p ys ≡ send_all g p (xs ++ ys)
  sent-twice [] ys g p = refl
  sent-twice (m ∷ xs) ys g p = sent-twice xs ys (send g p m) p

  -- what one sends changes nothing of another, and no configuration
  pub standing-sent : (list : List M) (g : GroupState M) (p q : ℕ) → (q ≡ p → ⊥) → standing_of (send_all g p list) q ≡ standing_of g q
  standing-sent [] g p q apart = refl
  standing-sent (m ∷ list) g p q apart =
      standing-sent list (send g p m) p q apart
      ∙ sent-once g p m (λ h. standing_of h q ≡ standing_of g q) refl
      (λ s e. standing_of-set g (record s { unordered = s.unordered ++ m ∷ [] }) q
      ∙ put-other (standing_of g) s.id (Some (record s { unordered = s.unordered ++ m ∷ [] })) q (λ same. apart (same ∙ standing-id g p s e)))

  pub configurations-sent : (list : List M) (g : GroupState M) (p : ℕ) → (send_all g p list).configurations ≡ g.configurations
  configurations-sent [] g p = refl
  configurations-sent (m ∷ list) g p =
      configurations-sent list (send g p m) p
      ∙ sent-once g p m (λ h. h.configurations ≡ g.configurations) refl (λ s e. configurations-set_standing g (record s { unordered = s.unordered ++ m ∷ [] }))

  pub configurations-down : (g : GroupState M) (p : ℕ) → (go_down g p).configurations ≡ g.configurations
  unfolding go_down
  configurations-down g p = refl

  -- ---- a set changes

  module _ (N : ℕ → Standing M) (named : (q : ℕ) → (N q).id ≡ q) where
    -- each of these stands as given
    abbrev pub placed : GroupState M → List ℕ → GroupState M
    placed g set = fold (λ g q. set_standing g (N q)) g set

    pub placed-sent : (set : List ℕ) (g : GroupState M) (p low : ℕ) (list : List M) → p < low → IsRising low set → send_all (placed g set) p list ≡ placed (send_all g p list) set
    placed-sent [] g p low list less rise = refl
    placed-sent (q ∷ set) g p low list less rise =
        let first : low ≤ q = rise.0 in
        placed-sent set (set_standing g (N q)) p (suc q) list (omega arith) rise.1
        ∙ ap (λ h. placed h set) (sent-other list g (N q) p (λ e. (let same : q ≡ p = sym (named q) ∙ e in omega arith)))

    pub placed-down : (set : List ℕ) (g : GroupState M) (p low : ℕ) → p < low → IsRising low set → DoRise g → go_down (placed g set) p ≡ placed (go_down g p) set
    placed-down [] g p low less rise rises = refl
    placed-down (q ∷ set) g p low less rise rises =
        let first : low ≤ q = rise.0 in
        placed-down set (set_standing g (N q)) p (suc q) (omega arith) rise.1 (rising-set g (N q) rises)
        ∙ ap (λ h. placed h set) (down-other g (N q) p (λ e. (let same : q ≡ p = sym (named q) ∙ e in omega arith)) rises)
