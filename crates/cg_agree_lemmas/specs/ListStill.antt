-- A member of an attempt holds the attempt's parts still, where what it holds of them and its greens are as before.
use Rattle.std.proofs.Common.{◌≡◌, ℕ, Bool, true, false, List, [], ◌∷◌, ◌++◌, drop, find, Option, Some, None, IfSome, refl, sym, ap, ap₂, ◌∙◌, subst, ⊎_elim, arith, eqb-true, if◌then◌else◌}
use Rattle.std.specs.Prelude.{◌==◌, nat_le, nat_lt, not, ◌&&◌, suc, zero, ◌≤◌, ◌<◌}
use Rattle.std.specs.Option.{option_to_list}
use Rattle.std.specs.List.{list_all}
use Rattle.std.proofs.lemmas.Bool.{cases_Bool, cond-false, and_parts, not-true, leb-true, leb-false, or_parts}
use Rattle.cg_base.specs.declared.action_id.ActionId.{ActionId}
use Rattle.cg_base.specs.declared.weighted.Weighted.{Weighted}
use Rattle.cg_base.specs.Cuts.{index_in}
use Rattle.cg_base.specs.Ids.{same_id, has_name}
use Rattle.cg_base.specs.IdLaws.{same_id-is}
use Rattle.cg_action.specs.declared.action.Action.{Action}
use Rattle.cg_queue.specs.Queue.{QueueView, names_of, action_of, discarded}
use Rattle.cg_group.specs.declared.phase.Phase.{Phase}
use Rattle.cg_group.specs.State.{phase_of}
use Rattle.cg_client.specs.Replica.{Held, Replica}
use Rattle.cg_client.specs.Install.{actions_named, valid_yellow}
use Rattle.cg_client.specs.Queries.{plain_reds}
use Rattle.cg_client.specs.Whitening.{white_at}
use Rattle.cg_disk_records.specs.Stored.{whiten}
use Rattle.cg_model.specs.World.{replica_of}
use Rattle.cg_model.specs.Chronicle.{Attempt, Chronicle}
use Rattle.cg_model.specs.Fronts.{When, IsSomeWith}
use Rattle.cg_model.specs.Looks.{greens_of, conf_at, attempt_of}
use Rattle.cg_model.specs.FactsAttempts.{HoldsParts, AttemptList}
use Rattle.cg_model.specs.FactsReplica.{is_attempting}
use Rattle.cg_agree_lemmas.specs.EndCuts.{run-above}
use Rattle.cg_agree_lemmas.specs.ExchangeStill.{OneMoves}
use Rattle.cg_agree_lemmas.specs.HeldMarks.{IsOneself}
use Rattle.cg_disk_records.specs.Holds.{cut_behind}
use Rattle.cg_agree_lemmas.specs.SameAttempt.{KeepsAttempts}
use Rattle.cg_agree_lemmas.specs.TurnKinds.{IsQuiet}
use Rattle.cg_disk_records.specs.RunMarkLaws.{run-names}
use Rattle.cg_agree_lemmas.specs.ReachWorld.{when-is}

-- what a member holds of its attempt
abbrev pub ListAt : Chronicle → ℕ → Type 0
ListAt c p = IfSome (replica_of c.world p) (λ r. When (is_attempting r.state) (IsSomeWith (attempt_of c (conf_at (phase_of c.world.group p))) (HoldsParts r.held (greens_of c p))))

pub when-from : (b : Bool) (A : Type 0) → (b ≡ true → A) → When b A
when-from true A f = f refl
when-from false A f = tt

-- the same parts
pub record SameParts (old new : Held) : Type 0 where
  pub yellow : valid_yellow new ≡ valid_yellow old
  pub reds : plain_reds new.queue ≡ plain_reds old.queue

parts-still : (c d : Chronicle) (conf : ℕ) (old new : Held) (all : List Action) → KeepsAttempts c.attempts d.attempts → SameParts old new → IsSomeWith (attempt_of c conf) (HoldsParts old all) →
    IsSomeWith (attempt_of d conf) (HoldsParts new all)
parts-still c d conf old new all keeps same is = at (attempt_of c conf) refl is where
  at : (o : Option Attempt) → attempt_of c conf ≡ o → IsSomeWith o (HoldsParts old all) → IsSomeWith (attempt_of d conf) (HoldsParts new all)
  at None e is = absurd is
  at (Some a) e is =
      let now = keeps.still conf a e in
      subst (λ (o : Option Attempt). IsSomeWith o (HoldsParts new all)) (sym now.found)
      (record { greens = is.greens ∙ sym now.same.greens; yellow = same.yellow ∙ is.yellow ∙ sym now.same.yellow; reds = same.reds ∙ is.reds ∙ sym now.same.reds })

-- a replica that was in its attempt, with the same parts and greens
pub record WasIn (c d : Chronicle) (p : ℕ) (new : Replica) : Type 0 where
  pub old : Replica
  pub was : replica_of c.world p ≡ Some old
  pub attempting : is_attempting old.state ≡ true
  pub parts : SameParts old.held new.held
  pub greens : greens_of d p ≡ greens_of c p

pub list-still : (c d : Chronicle) (p : ℕ) → KeepsAttempts c.attempts d.attempts → conf_at (phase_of d.world.group p) ≡ conf_at (phase_of c.world.group p) →
    IfSome (replica_of d.world p) (λ new. is_attempting new.state ≡ true → WasIn c d p new) → ListAt c p → ListAt d p
list-still c d p keeps conf was is = at (replica_of d.world p) was where
  at : (o : Option Replica) → IfSome o (λ new. is_attempting new.state ≡ true → WasIn c d p new) →
      IfSome o (λ r. When (is_attempting r.state) (IsSomeWith (attempt_of d (conf_at (phase_of d.world.group p))) (HoldsParts r.held (greens_of d p))))
  at None was = tt
  at (Some new) was = when-from (is_attempting new.state) (IsSomeWith (attempt_of d (conf_at (phase_of d.world.group p))) (HoldsParts new.held (greens_of d p))) (λ e.
      let w = was e in
      let old = subst (λ (o : Option Replica). IfSome o (λ r. When (is_attempting r.state) (IsSomeWith (attempt_of c (conf_at (phase_of c.world.group p))) (HoldsParts r.held (greens_of c p))))) w.was is in
      let held = when-is (is_attempting w.old.state) (IsSomeWith (attempt_of c (conf_at (phase_of c.world.group p))) (HoldsParts w.old.held (greens_of c p))) w.attempting old in
      subst (λ k. IsSomeWith (attempt_of d k) (HoldsParts new.held (greens_of d p))) (sym conf)
      (subst (λ all. IsSomeWith (attempt_of d (conf_at (phase_of c.world.group p))) (HoldsParts new.held all)) (sym w.greens)
      (parts-still c d (conf_at (phase_of c.world.group p)) w.old.held new.held (greens_of c p) keeps w.parts held)))

-- a replica that isn't in an attempt
pub list-none : (d : Chronicle) (p : ℕ) (o : Option Replica) → replica_of d.world p ≡ o → IfSome o (λ new. is_attempting new.state ≡ false) → ListAt d p
list-none d p None e none = subst (λ (o : Option Replica). IfSome o (λ r. When (is_attempting r.state) (IsSomeWith (attempt_of d (conf_at (phase_of d.world.group p))) (HoldsParts r.held (greens_of d p))))) (sym e) tt
list-none d p (Some new) e none =
    subst (λ (o : Option Replica). IfSome o (λ r. When (is_attempting r.state) (IsSomeWith (attempt_of d (conf_at (phase_of d.world.group p))) (HoldsParts r.held (greens_of d p))))) (sym e)
    (subst (λ b. When b (IsSomeWith (attempt_of d (conf_at (phase_of d.world.group p))) (HoldsParts new.held (greens_of d p)))) (sym none) tt)

-- one that holds the parts
pub list-some : (d : Chronicle) (p : ℕ) (new : Replica) → replica_of d.world p ≡ Some new → IsSomeWith (attempt_of d (conf_at (phase_of d.world.group p))) (HoldsParts new.held (greens_of d p)) → ListAt d p
list-some d p new e held =
    subst (λ (o : Option Replica). IfSome o (λ r. When (is_attempting r.state) (IsSomeWith (attempt_of d (conf_at (phase_of d.world.group p))) (HoldsParts r.held (greens_of d p))))) (sym e)
    (when-from (is_attempting new.state) (IsSomeWith (attempt_of d (conf_at (phase_of d.world.group p))) (HoldsParts new.held (greens_of d p))) (λ is. held))

-- a replica that stays as it is
pub list-same : (c d : Chronicle) (p : ℕ) → KeepsAttempts c.attempts d.attempts → phase_of d.world.group p ≡ phase_of c.world.group p → replica_of d.world p ≡ replica_of c.world p → greens_of d p ≡ greens_of c p → ListAt c p → ListAt d p
list-same c d p keeps phase same greens is = list-still c d p keeps (ap conf_at phase) (at (replica_of d.world p) refl) is where
  at : (o : Option Replica) → replica_of d.world p ≡ o → IfSome o (λ new. is_attempting new.state ≡ true → WasIn c d p new)
  at None e = tt
  at (Some new) e = λ attempting. record { old = new; was = sym same ∙ e; attempting = attempting; parts = record { yellow = refl; reds = refl }; greens = greens }

-- one whose turn changes nothing of an attempt
pub list-quiet : (c d : Chronicle) (p : ℕ) (r new : Replica) → KeepsAttempts c.attempts d.attempts → conf_at (phase_of d.world.group p) ≡ conf_at (phase_of c.world.group p) → replica_of c.world p ≡ Some r →
    replica_of d.world p ≡ Some new → IsQuiet r new → (new.held.queue.greens ≡ r.held.queue.greens → greens_of d p ≡ greens_of c p) → ListAt c p → ListAt d p
list-quiet c d p r new keeps conf up after quiet greens is =
    list-still c d p keeps conf (subst (λ (o : Option Replica). IfSome o (λ new. is_attempting new.state ≡ true → WasIn c d p new)) (sym after) (λ attempting. was (sym quiet.attempting ∙ attempting))) is where
      was : is_attempting r.state ≡ true → WasIn c d p new
      was attempting =
          let still = quiet.still attempting in
          record {
            old = r;
            was = up;
            attempting = attempting;
            parts = record {
              yellow = ap₂ (λ (b : Bool) (q : QueueView). if b then actions_named q q.yellow else []) quiet.values.yellow_valid still.queue;
              reds = ap plain_reds still.queue;
            };
            greens = greens (ap (λ (q : QueueView). q.greens) still.queue);
          }

-- ---- all of them

pub one-list : (c d : Chronicle) (p : ℕ) (now : Phase) (n : ℕ) (up : Bool) → OneMoves c d p now n up → KeepsAttempts c.attempts d.attempts → ListAt d p → AttemptList c → AttemptList d
one-list c d p now n up moves keeps own old q = ⊎_elim
    (λ y. subst (ListAt d) (sym (eqb-true q p y)) own)
    (λ other. list-same c d q keeps (moves.stands.phase q ∙ cond-false (q == p) now (phase_of c.world.group q) other) (moves.replica q other) (moves.greens q other) (old q))
    (cases_Bool (q == p))

-- ---- greens that are discarded

-- no green has the name of an action above the green cut
none-green : (actions : List Action) (id : ActionId) → has_name (names_of actions) id ≡ false → find (λ (a : Action). same_id a.id id) actions ≡ None
none-green [] id e = refl
none-green (a ∷ actions) id e =
    let parts = or_parts (same_id id a.id) (has_name (names_of actions) id) e in
    cond-false (same_id a.id id) (Some a) (find (λ (a : Action). same_id a.id id) actions) (turned (same_id a.id id) refl parts.0) ∙ none-green actions id parts.1 where
      turned : (b : Bool) → same_id a.id id ≡ b → same_id id a.id ≡ false → same_id a.id id ≡ false
      turned true e apart =
          let one : a.id ≡ id = same_id-is a.id id e in
          absurd (let clash : true ≡ false = sym e ∙ ap₂ same_id one (sym one) ∙ apart in cc)
      turned false e apart = e

find-behind : (xs ys : List Action) (t : Action → Bool) → find t xs ≡ None → find t (xs ++ ys) ≡ find t ys
find-behind [] ys t none = refl
find-behind (x ∷ xs) ys t none = at (t x) none (λ rest. find-behind xs ys t rest) where
  at : (b : Bool) → (if b then Some x else find t xs) ≡ None → (find t xs ≡ None → find t (xs ++ ys) ≡ find t ys) → (if b then Some x else find t (xs ++ ys)) ≡ find t ys
  at true none rest = absurd (let clash : Some x ≡ None = none in cc)
  at false none rest = rest none

names-drop : (n : ℕ) (xs : List Action) (id : ActionId) → has_name (names_of xs) id ≡ false → has_name (names_of (drop n xs)) id ≡ false
names-drop zero xs id e = e
names-drop (suc n) [] id e = e
names-drop (suc n) (x ∷ xs) id e = names-drop n xs id (or_parts (same_id id x.id) (has_name (names_of xs) id) e).1

-- A name above the green cut is found among the reds alone.
named-red : (start : List Weighted) (h : Held) (all : List Action) (id : ActionId) → IsOneself start h all → index_in h.queue.green_cut id.creator < id.index →
    action_of h.queue id ≡ find (λ (a : Action). same_id a.id id) h.queue.reds
named-red start h all id is above =
    let none : has_name (names_of all) id ≡ false = run-names [] (names_of all) id tt is.contiguous.greens ∙ outside (nat_lt 0 id.index) (index_in (cut_behind [] (names_of all)) id.creator)
    (subst (λ gc. index_in gc id.creator < id.index) is.made_of.green_cut above) in
    find-behind h.queue.greens h.queue.reds (λ a. same_id a.id id)
    (ap (find (λ (a : Action). same_id a.id id)) is.made_of.kept ∙ none-green (drop h.queue.white all) id (names-drop h.queue.white all id none)) where
      outside : (b : Bool) (k : ℕ) → k < id.index → (b && nat_le id.index k) ≡ false
      outside false k lt = refl
      outside true k lt = ⊎_elim (λ y. absurd (let le = leb-true id.index k y in omega arith)) (λ f. f) (cases_Bool (nat_le id.index k))

-- the yellow actions are the same whatever is discarded
yellow-same : (start : List Weighted) (h new : Held) (all : List Action) → IsOneself start h all → IsOneself start new all → new.queue.green_cut ≡ h.queue.green_cut → new.queue.reds ≡ h.queue.reds → new.queue.yellow ≡ h.queue.yellow →
    actions_named new.queue new.queue.yellow ≡ actions_named h.queue h.queue.yellow
yellow-same start h new all is now cut reds yellow =
    ap (actions_named new.queue) yellow
    ∙ each h.queue.yellow (run-above h.queue.yellow h.queue.green_cut h.queue.green_cut is.yellow_closed.next (λ p. (let le : index_in h.queue.green_cut p ≤ index_in h.queue.green_cut p = omega arith in le))) where
      each : (ids : List ActionId) → list_all (λ id. not (nat_le id.index (index_in h.queue.green_cut id.creator))) ids ≡ true → actions_named new.queue ids ≡ actions_named h.queue ids
      each [] above = refl
      each (id ∷ ids) above =
          let parts = and_parts (not (nat_le id.index (index_in h.queue.green_cut id.creator))) (list_all (λ id. not (nat_le id.index (index_in h.queue.green_cut id.creator))) ids) above in
          let lt = leb-false id.index (index_in h.queue.green_cut id.creator) (not-true (nat_le id.index (index_in h.queue.green_cut id.creator)) parts.0) in
          let one : action_of new.queue id ≡ action_of h.queue id =
          named-red start new all id now (subst (λ gc. index_in gc id.creator < id.index) (sym cut) lt) ∙ ap (find (λ (a : Action). same_id a.id id)) reds ∙ sym (named-red start h all id is lt) in
          ap₂ (λ o xs. option_to_list o ++ xs) one (each ids parts.1)

-- a commit leaves the parts
pub whitened-parts : (start : List Weighted) (h : Held) (all : List Action) → IsOneself start h all → IsOneself start (whiten h) all → SameParts h (whiten h)
unfolding whiten
whitened-parts start h all is now = record {
  yellow = ap (λ xs. if h.yellow_valid then xs else []) (yellow-same start h (record h { queue = discarded h.queue (white_at h) }) all is now refl refl refl);
  reds = refl;
}
